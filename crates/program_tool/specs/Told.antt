-- What a report tells of the sources.
use Rattle.std.specs.Borrow.{Bor}
use Rattle.std.specs.Prelude.{◌≡◌, ◌+◌, ◌∷◌, [], ℕ, List, None, Option, Some, slice_get, ⊤}
use Rattle.parallel_verify.specs.declared.judging.Judgement.{Judgement}
use Rattle.audit_run.specs.Reasons.{IsWhy}
use Rattle.audit_run.specs.declared.told.SourceTold.{SourceTold}

-- the word of this number
abbrev pub text_of : Option (Bor (List ℕ)) → List ℕ
text_of None = []
text_of (Some word) = word.now

abbrev pub word_at : List (Bor (List ℕ)) → ℕ → List ℕ
word_at words i = text_of (slice_get words i)

-- its word, what was found of its log, and why that is not sound if it is not
pub record IsToldOf (word : List ℕ) (j : Judgement) (t : SourceTold) : Type 0 where
  pub word_is : t.word.now ≡ word
  pub judged : t.judged ≡ j
  pub why : IsWhy j t.reason

-- .. of each, from this number on
abbrev pub AreToldFrom : List (Bor (List ℕ)) → ℕ → List Judgement → List SourceTold → Type 0
AreToldFrom words i [] [] = ⊤
AreToldFrom words i (j ∷ js) (t ∷ ts) = IsToldOf (word_at words i) j t × AreToldFrom words (i + 1) js ts
AreToldFrom words i _ _ = ⊥

abbrev pub AreTold : List (Bor (List ℕ)) → List Judgement → List SourceTold → Type 0
AreTold words judged told = AreToldFrom words 0 judged told
