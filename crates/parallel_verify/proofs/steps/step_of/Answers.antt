use Rattle.std.proofs.Common.{◌∙◌, ◌==◌, Bool, Some, ap, get_or, sym, arith}
use Rattle.blocks.specs.Headers.{Header}
use Rattle.blocks.specs.Replica.{Stored}
use Rattle.log_format.specs.EntryReading.{block_in, parent_in}
use Rattle.log_format.proofs.EntryParts.{read_header}
use Rattle.parallel_verify.proofs.Replaying.{err_is_not_ok, front_of, signed_is}
use Rattle.parallel_verify.proofs.steps.step_of.Goals as goal

pub returns-then-frame-lt-PARENT_END : goal.returns-then-frame-lt-PARENT_END
returns-then-frame-lt-PARENT_END c spells = absurd (omega (arith, (front_of c.args.frame.now spells).long, c.if-frame-lt-PARENT_END.true))

pub returns-in_default : goal.returns-in_default
returns-in_default c spells = absurd (err_is_not_ok _ _ (sym c.in_default.is ∙ c.from_bytes.ensures.first_refusal) (front_of c.args.frame.now spells).block)

pub returns-in_default-from_bytes : goal.returns-in_default-from_bytes
returns-in_default-from_bytes c spells = absurd (err_is_not_ok _ _ (sym c.in_default-from_bytes.is ∙ c.from_bytes-2.ensures.first_refusal) (front_of c.args.frame.now spells).parent)

abbrev step_from : Bool → Header → Header → Stored
step_from voted block parent = record { voted = voted; block = block; parent = parent }

pub returns : goal.returns
unfolding block_in parent_in
returns c spells =
    let frame = c.args.frame.now in
    let block = read_header _ _ c.in-Ok.ensures.first_refusal in
    let parent = read_header _ _ c.in-Ok-from_bytes.ensures.first_refusal in
    let votes : Bool = get_or frame 0 0 == 3 in
    ap (λ (x : Stored). Some x) (ap (λ (h : Header). step_from votes h c.in-Ok-from_bytes.parent) block ∙ ap (λ (h : Header). step_from votes (block_in frame) h) parent
    ∙ ap (λ (b : Bool). step_from b (block_in frame) (parent_in frame)) (sym (signed_is votes frame)))
