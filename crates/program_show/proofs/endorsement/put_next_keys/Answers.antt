use Rattle.std.proofs.Common.{◌≡◌, ◌++◌, ◌∙◌, ℕ, List, ap, append_assoc, sym}
use Rattle.handover_keys.specs.NextKeys.{key_id_in, root_in}
use Rattle.program_show.specs.EndorsementLines.{next_key_line, next_key_lines}
use Rattle.program_show.proofs.Longer.{next_keys_more}
use Rattle.program_show.proofs.endorsement.put_next_keys.Goals as goal

pub loop-k-preserved : goal.loop-k-preserved
loop-k-preserved c =
    let s = c.args.statement.now in
    let k = c.loop-k.k in
    let before = c.args.text.now.items in
    let line : next_key_line k c.key.result.key_id c.key.result.root ≡ next_key_line k (key_id_in s k) (root_in s k) =
    ap (λ (id : List ℕ). next_key_line k id c.key.result.root) c.key.ensures.key_id ∙ ap (λ (root : List ℕ). next_key_line k (key_id_in s k) root) c.key.ensures.root in
    c.in_ok-put_next_key.ensures ∙ ap (λ (t : List ℕ). t ++ next_key_line k c.key.result.key_id c.key.result.root) c.loop-k.invariant
    ∙ ap (λ (t : List ℕ). (before ++ next_key_lines s k) ++ t) line ∙ append_assoc before (next_key_lines s k) (next_key_line k (key_id_in s k) (root_in s k))
    ∙ ap (λ (t : List ℕ). before ++ t) (sym (next_keys_more s k))
