use Rattle.std.proofs.Common.{codes, List, ℕ, subst}
use Rattle.base_streams.specs.Streams.{Wrote, WrotePart}
use Rattle.base_streams.proofs.Writing.{wrote_both}
use Rattle.hex.specs.Hex.{encode_lower}
use Rattle.base_text.proofs.Pieces.{on_err, on_err_too, on_ok_too, part_behind, part_of_front}
use Rattle.replica_requests.proofs.outcome_line.write_committed_id.Goals as goal

pub returns-in_err-write_all-clause-err : goal.returns-in_err-write_all-clause-err
returns-in_err-write_all-clause-err g c =
    on_err _ _ (part_of_front _ _ (codes " committed ") (encode_lower c.args.id.now) c.in_err-write_all.ensures.err)

pub returns-clause-ok : goal.returns-clause-ok
returns-clause-ok g c =
    on_ok_too c.write_all-2.result _ _ (λ last. wrote_both _ _ _ (codes " committed ") (encode_lower c.args.id.now) c.in_ok-write_all.ensures.ok
    (subst (λ (t : List ℕ). Wrote (g.W.Sink.text c.write_all.new.out) (g.W.Sink.text c.write_all-2.new.out) t) c.id_digits.ensures last)) c.write_all-2.ensures.ok

pub returns-clause-err : goal.returns-clause-err
returns-clause-err g c =
    on_err_too c.write_all-2.result _ _ (λ last. part_behind _ _ _ (codes " committed ") (encode_lower c.args.id.now) c.in_ok-write_all.ensures.ok
    (subst (λ (t : List ℕ). WrotePart (g.W.Sink.text c.write_all.new.out) (g.W.Sink.text c.write_all-2.new.out) t) c.id_digits.ensures last)) c.write_all-2.ensures.err
