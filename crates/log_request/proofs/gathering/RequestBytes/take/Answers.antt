use Rattle.std.proofs.Common.{◌++◌, ◌∷◌, [], ℕ, List, take, slice_index_or, ap, sym, ◌∙◌, append_assoc}
use Rattle.std.proofs.lemmas.List.{append-nil, take_all, take_more}
use Rattle.log_request.specs.Gathering.{first_request}
use Rattle.log_request.proofs.GatheringLaws.{first_of_short, gathered}
use Rattle.log_request.proofs.gathering.RequestBytes.take.Goals as goal

pub loop-byte-init : goal.loop-byte-init
loop-byte-init c =
    sym (ap (λ (t : List ℕ). first_request t) (append-nil c.args.self.now) ∙ first_of_short c.args.self.now c.is_whole-was_whole.ensures.within)

pub loop-byte-preserved : goal.loop-byte-preserved
loop-byte-preserved c =
    let before = take c.loop-byte.byte-index c.args.piece.now in
    let byte = slice_index_or c.args.piece.now c.loop-byte.byte-index 0 in
    c.push.ensures
    ∙ ap (λ (t : List ℕ). first_request (t ++ byte ∷ [])) c.loop-byte.invariant
    ∙ gathered (c.args.self.now ++ before) (byte ∷ [])
    ∙ ap (λ (t : List ℕ). first_request t) (append_assoc c.args.self.now before (byte ∷ []) ∙ ap (λ (t : List ℕ). c.args.self.now ++ t) (sym (take_more c.args.piece.now c.loop-byte.byte-index 0 c.loop-byte-test.true)))

pub returns : goal.returns
returns c =
    c.loop-byte.invariant ∙ ap (λ (t : List ℕ). first_request (c.args.self.now ++ t)) (take_all c.loop-byte.byte-index c.args.piece.now c.loop-byte-test.false)
