-- The text of a log from its pieces.
use Rattle.std.proofs.Common.{◌≡◌, ℕ, List, [], ◌++◌, Option, ap, ◌∙◌}
use Rattle.program_show.specs.Entries.{ArePayloadsShown}
use Rattle.program_show.specs.Files.{IsLogText}
use Rattle.program_show.specs.Lines.{good_count_line, old_form_line}
use Rattle.program_show.specs.Series.{AddsText}
use Rattle.program_show.specs.declared.mark.Mark.{Mark}

pub log_is : (committee : Option (List ℕ)) (head : List ℕ) (payloads : List (List ℕ)) (t0 t1 t2 t3 t4 : List ℕ) (m0 m1 m2 : List Mark)
    → t0 ≡ [] → m0 ≡ [] → t1 ≡ t0 ++ head → AddsText t1 t2 m0 m1 (ArePayloadsShown committee payloads)
    → t3 ≡ t2 ++ old_form_line payloads → m2 ≡ m1 → t4 ≡ t3 ++ good_count_line committee m2
    → IsLogText committee head payloads t4
log_is committee head payloads t0 t1 t2 t3 t4 m0 m1 m2 none unseen front (lines, seen, shown, added, marks) old same count =
    let begun : t1 ≡ head = front ∙ ap (λ (t : List ℕ). t ++ head) none in
    let all : m2 ≡ seen = same ∙ marks ∙ ap (λ (m : List Mark). m ++ seen) unseen in
    let behind : t2 ≡ head ++ lines = added ∙ ap (λ (t : List ℕ). t ++ lines) begun in
    let told : t3 ≡ head ++ lines ++ old_form_line payloads = old ∙ ap (λ (t : List ℕ). t ++ old_form_line payloads) behind in
    record {
      lines = lines;
      marks = seen;
      shown = shown;
      text_is = count ∙ ap (λ (t : List ℕ). t ++ good_count_line committee m2) told
          ∙ ap (λ (m : List Mark). head ++ lines ++ old_form_line payloads ++ good_count_line committee m) all;
    }
