use Rattle.std.proofs.Common.{◌≡◌, ◌++◌, List, ℕ, codes, decimal, rules, subst}
use Rattle.base_streams.specs.Streams.{Wrote, WrotePart}
use Rattle.hex.specs.Hex.{encode_lower}
use Rattle.certificates.specs.Votes.{vote_text}
use Rattle.base_text.proofs.Pieces.{on_err, on_err_too, part_behind, part_of_front}
use Rattle.replica_requests.proofs.outcome_line.write_receipt.Goals as goal

pub returns-in_err-write_all-clause-err : goal.returns-in_err-write_all-clause-err
returns-in_err-write_all-clause-err g c =
    let front : c.as_bytes-2.result.now ≡ codes "voted " ++ decimal c.args.receipt.now.number ++ codes " " = search rules in
    on_err _ _ (part_of_front _ _ (codes "voted " ++ decimal c.args.receipt.now.number ++ codes " ") (encode_lower (vote_text c.args.receipt.now.vote))
    (subst (λ (t : List ℕ). WrotePart (g.W.Sink.text c.args.out.now) (g.W.Sink.text c.write_all.new.out) t) front c.in_err-write_all.ensures.err))

pub returns-clause-err : goal.returns-clause-err
returns-clause-err g c =
    let front : c.as_bytes-2.result.now ≡ codes "voted " ++ decimal c.args.receipt.now.number ++ codes " " = search rules in
    let written = subst (λ (t : List ℕ). Wrote (g.W.Sink.text c.args.out.now) (g.W.Sink.text c.write_all.new.out) t) front c.in_ok-write_all.ensures.ok in
    on_err_too c.write_all-2.result _ _ (λ last. part_behind _ _ _ (codes "voted " ++ decimal c.args.receipt.now.number ++ codes " ") (encode_lower (vote_text c.args.receipt.now.vote)) written
    (subst (λ (t : List ℕ). WrotePart (g.W.Sink.text c.write_all.new.out) (g.W.Sink.text c.write_all-2.new.out) t) c.vote_digits.ensures last)) c.write_all-2.ensures.err
