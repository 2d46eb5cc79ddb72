use Rattle.std.proofs.Common.{◌≡◌, ◌+◌, ◌++◌, ◌∷◌, ◌∙◌, [], ℕ, List, ap, arith, length, sym, take}
use Rattle.std.specs.Prelude.{slice_index_or}
use Rattle.std.proofs.lemmas.List.{take_all, take_more}
use Rattle.program_tool.proofs.seeds.before_line_feed.Goals as goal

last_of : (text : List ℕ) (k : ℕ) → k + 1 ≡ length text → slice_index_or text k 0 ≡ 10 → text ≡ take k text ++ 10 ∷ []
last_of text k whole feed = sym (take_all (k + 1) text (omega (arith, whole))) ∙ take_more text k 0 (omega (arith, whole)) ∙ ap (λ (x : ℕ). take k text ++ x ∷ []) feed

pub returns : goal.returns
returns c = last_of c.args.text.now c.args.last c.requires.last c.requires.feed
