use Rattle.std.proofs.Common.{◌≡◌, ◌∙◌, ◌++◌, [], List, ℕ, ap, rules, sym}
use Rattle.std.specs.Prelude.{slice_index_or}
use Rattle.program_tool.specs.NextKeys.{key_line}
use Rattle.program_tool.proofs.KeyLines.{lines_more}
use Rattle.program_tool.proofs.keys_behind.key_lines.Goals as goal

pub loop-key-preserved : goal.loop-key-preserved
loop-key-preserved c =
    let keys = c.args.keys.now in
    let i = c.loop-key.key-index in
    let put : c.put_key.new.lines.items ≡ c.loop-key.lines.items ++ key_line (slice_index_or keys i []) = search rules in
    put ∙ ap (λ (text : List ℕ). text ++ key_line (slice_index_or keys i [])) c.loop-key.invariant ∙ sym (lines_more keys i [] c.loop-key-test.true)
