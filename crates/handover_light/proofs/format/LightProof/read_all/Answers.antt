use Rattle.handover_light.proofs.Reading.{WereRead, all_read, err_is, first_refused, headers_refused, is_light_proof, room_for_headers, second_refused, third_refused}
use Rattle.handover_light.proofs.format.LightProof.read_all.Goals as goal

pub headers_in-requires : goal.headers_in-requires
headers_in-requires c = room_for_headers c.args.bytes.now c.in_ok-places.places c.in_ok-places.ensures.places

pub returns-in_err-headers-clause-value : goal.returns-in_err-headers-clause-value
returns-in_err-headers-clause-value c other =
    headers_refused c.args.bytes.now c.in_ok-places.places c.in_err-headers.field-0.0 c.from_residual-in_err-headers.result
    c.in_ok-places.ensures.ok c.in_ok-places.ensures.places c.in_err-headers.ensures.err (err_is _ _ c.from_residual-in_err-headers.ensures.1) other

pub returns-in_err-committed-clause-value : goal.returns-in_err-committed-clause-value
returns-in_err-committed-clause-value c other =
    let w : WereRead c.args.bytes.now c.in_ok-places.places c.in_ok-headers.headers.items = record {
      measured = c.in_ok-places.ensures.ok;
      places = c.in_ok-places.ensures.places;
      headers = c.in_ok-headers.ensures.ok;
      good = c.in_ok-headers.ensures.good;
    } in
    first_refused c.args.bytes.now c.in_ok-places.places c.in_ok-headers.headers.items c.in_err-committed.field-0.0 c.from_residual-in_err-committed.result w
    c.in_err-committed.ensures.value (err_is _ _ c.from_residual-in_err-committed.ensures.1) other

pub returns-in_err-second-clause-value : goal.returns-in_err-second-clause-value
returns-in_err-second-clause-value c other =
    let w : WereRead c.args.bytes.now c.in_ok-places.places c.in_ok-headers.headers.items = record {
      measured = c.in_ok-places.ensures.ok;
      places = c.in_ok-places.ensures.places;
      headers = c.in_ok-headers.ensures.ok;
      good = c.in_ok-headers.ensures.good;
    } in
    second_refused c.args.bytes.now c.in_ok-places.places c.in_ok-headers.headers.items c.in_ok-committed.committed c.in_err-second.field-0.0 c.from_residual-in_err-second.result w
    c.in_ok-committed.ensures.value c.in_err-second.ensures.value (err_is _ _ c.from_residual-in_err-second.ensures.1) other

pub returns-in_err-third-clause-value : goal.returns-in_err-third-clause-value
returns-in_err-third-clause-value c other =
    let w : WereRead c.args.bytes.now c.in_ok-places.places c.in_ok-headers.headers.items = record {
      measured = c.in_ok-places.ensures.ok;
      places = c.in_ok-places.ensures.places;
      headers = c.in_ok-headers.ensures.ok;
      good = c.in_ok-headers.ensures.good;
    } in
    third_refused c.args.bytes.now c.in_ok-places.places c.in_ok-headers.headers.items c.in_ok-committed.committed c.in_ok-second.second c.in_err-third.field-0.0 c.from_residual-in_err-third.result w
    c.in_ok-committed.ensures.value c.in_ok-second.ensures.value c.in_err-third.ensures.value (err_is _ _ c.from_residual-in_err-third.ensures.1) other

pub invariant_of-result : goal.invariant_of-result
invariant_of-result c =
    is_light_proof c.args.bytes.now c.in_ok-places.places c.in_ok-headers.headers.items c.in_ok-committed.committed c.in_ok-second.second c.in_ok-third.third
    c.in_ok-headers.ensures.ok c.in_ok-places.ensures.few c.in_ok-headers.ensures.each c.in_ok-committed.ensures.found c.in_ok-second.ensures.found c.in_ok-third.ensures.found

pub returns-clause-value : goal.returns-clause-value
returns-clause-value c other =
    all_read c.args.bytes.now c.in_ok-places.places c.in_ok-headers.headers.items c.in_ok-committed.committed c.in_ok-second.second c.in_ok-third.third
    (record {
      measured = c.in_ok-places.ensures.ok;
      places = c.in_ok-places.ensures.places;
      headers = c.in_ok-headers.ensures.ok;
      good = c.in_ok-headers.ensures.good;
    })
    c.in_ok-committed.ensures.value c.in_ok-second.ensures.value c.in_ok-third.ensures.value
