-- Why bytes are no verdict: the tests of a reader, in their order.
use Rattle.std.specs.Prelude.{◌≡◌, ◌≤◌, ℕ, List, [], ◌∷◌, length, codes}
use Rattle.base_wire.specs.Pieces.{piece}
use Rattle.base_wire.specs.Refusals.{AllPassed, IsFirst}
use Rattle.verdict_format.specs.declared.verdict.TheConstants.{EARLIER_AT}
use Rattle.verdict_format.specs.declared.verdict.VerdictRefusal.{VerdictRefusal}
use Rattle.verdict_format.specs.declared.verdict.VerdictRefusal.TheVariants.{Short, Magic, Kind, Length}
use Rattle.verdict_format.specs.Verdicts.{verdict_kind_in, IsKind, verdict_length}

-- what each refusal tests
abbrev pub HasForm : List ℕ → VerdictRefusal → Type 0
HasForm bytes Short = EARLIER_AT ≤ length bytes
HasForm bytes Magic = piece 4 bytes 0 ≡ codes "HSX2"
HasForm bytes Kind = IsKind (verdict_kind_in bytes)
HasForm bytes Length = length bytes ≡ verdict_length (verdict_kind_in bytes)

-- the number that docs/REFUSALS.md gives a refusal
abbrev pub verdict_refusal_number : VerdictRefusal → ℕ
verdict_refusal_number Short = 1
verdict_refusal_number Magic = 2
verdict_refusal_number Kind = 3
verdict_refusal_number Length = 4

abbrev pub form_order : List VerdictRefusal
form_order = Short ∷ Magic ∷ Kind ∷ Length ∷ []

-- the verdict can be read; whether its headers can is another matter
abbrev pub IsReadableVerdict : List ℕ → Type 0
IsReadableVerdict bytes = AllPassed (HasForm bytes) form_order

-- it can not, by the first test that it does not pass
abbrev pub IsFormRefusal : List ℕ → VerdictRefusal → Type 0
IsFormRefusal bytes refusal = IsFirst verdict_refusal_number (HasForm bytes) form_order refusal
