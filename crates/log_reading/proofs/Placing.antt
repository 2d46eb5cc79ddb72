-- Where a frame has its place among the logs of a source.
use Rattle.std.proofs.Common.{◌≡◌, ◌∙◌, ◌++◌, ◌∷◌, ℕ, List, [], ap, get_or, set, subst}
use Rattle.std.specs.Prelude.{slice_set}
use Rattle.std.specs.List.{All}
use Rattle.std.proofs.lemmas.List.{get_or_default}
use Rattle.std.proofs.lemmas.List.Elements.{All-contains}
use Rattle.log_reading.specs.Following.{BeginsWith, Followed, IsFirst, IsKnown, IsRead, NoneEndsThere, read_then}

pub read_so : (s t : Followed) (d : List ℕ) (kept : List (List (List ℕ))) → t.present ≡ read_then s d → t.before ≡ s.before → t.logs ≡ kept → IsRead s t d kept
read_so s t d kept present before logs = record { present = present; before = before; logs = logs }

-- ---- what was found of a copy of the logs, and of what was read, is so of them

pub unknown : (s : Followed) (logs : List (List (List ℕ))) (front : List (List ℕ)) (d : List ℕ) → logs ≡ s.logs → front ≡ s.present → All (λ log. BeginsWith (front ++ d ∷ []) log → ⊥) logs → IsKnown s d → ⊥
unknown s logs front d same read none w =
    let here : All (λ (log : List (List ℕ)). BeginsWith (read_then s d) log → ⊥) s.logs =
    subst (λ (ls : List (List (List ℕ))). All (λ (log : List (List ℕ)). BeginsWith (read_then s d) log → ⊥) ls) same
    (subst (λ (f : List (List ℕ)). All (λ (log : List (List ℕ)). BeginsWith (f ++ d ∷ []) log → ⊥) logs) read none) in
    All-contains (λ (log : List (List ℕ)). BeginsWith (read_then s d) log → ⊥) s.logs w.0 here w.1 w.2

pub none_there : (s : Followed) (logs : List (List (List ℕ))) (front : List (List ℕ)) → logs ≡ s.logs → front ≡ s.present → All (λ log. log ≡ front → ⊥) logs → NoneEndsThere s
none_there s logs front same read none =
    subst (λ (ls : List (List (List ℕ))). All (λ (log : List (List ℕ)). log ≡ s.present → ⊥) ls) same
    (subst (λ (f : List (List ℕ)). All (λ (log : List (List ℕ)). log ≡ f → ⊥) logs) read none)

pub first_there : (s : Followed) (logs : List (List (List ℕ))) (front : List (List ℕ)) (k : ℕ) → logs ≡ s.logs → front ≡ s.present → IsFirst (λ log. log ≡ front) logs k → IsFirst (λ log. log ≡ s.present) s.logs k
first_there s logs front k same read first =
    subst (λ (ls : List (List (List ℕ))). IsFirst (λ (log : List (List ℕ)). log ≡ s.present) ls k) same
    (subst (λ (f : List (List ℕ)). IsFirst (λ (log : List (List ℕ)). log ≡ f) logs k) read first)

-- ---- the log that the frame goes on with

pub next_set : (s : Followed) (logs : List (List (List ℕ))) (k : ℕ) (old new : List (List ℕ)) (d : List ℕ) → logs ≡ s.logs → IsFirst (λ log. log ≡ s.present) s.logs k → old ≡ get_or logs k old → new ≡ old ++ d ∷ [] → set logs k new ≡ slice_set s.logs k (read_then s d)
next_set s logs k old new d same first was now =
    let there : get_or logs k old ≡ get_or s.logs k [] = ap (λ (ls : List (List (List ℕ))). get_or ls k old) same ∙ get_or_default s.logs k old [] first.there in
    let is : new ≡ read_then s d = now ∙ ap (λ (f : List (List ℕ)). f ++ d ∷ []) (was ∙ there ∙ first.is) in
    ap (λ (ls : List (List (List ℕ))). set ls k new) same ∙ ap (λ (l : List (List ℕ)). set s.logs k l) is
