-- The names of what is answered.
use Rattle.std.specs.Prelude.{◌≡◌, ◌≤◌, ◌<◌, ◌++◌, ◌==◌, ℕ, ℤ, List, Option, None, Some, MatchOption, if◌then◌else◌, codes, drop, int_lt, length, pos, unsigned_abs}
use Rattle.blocks.specs.CommitteeReading.{committee_refusal_number}
use Rattle.blocks.specs.declared.committee.CommitteeRefusal.{CommitteeRefusal}
use Rattle.blocks.specs.declared.committee.CommitteeRefusal.TheVariants as committee
use Rattle.verdict_checker.specs.Checks.{refusal_name, refusal_number}
use Rattle.verdict_checker.specs.declared.refusal.Refusal.{Refusal}

-- ---- names

-- the name of an answer that is no minus
unfoldable pub verdict_name : ℕ → Option (List ℕ)
verdict_name n =
    if n == 0 then Some (codes "Accepted")
    else if n == 1 then Some (codes "Short")
    else if n == 2 then Some (codes "Magic")
    else if n == 3 then Some (codes "Kind")
    else if n == 4 then Some (codes "Length")
    else if n == 5 then Some (codes "Chain")
    else if n == 6 then Some (codes "Replica")
    else if n == 7 then Some (codes "HeaderMismatch")
    else if n == 8 then Some (codes "NoRuleBroken")
    else if n == 9 then Some (codes "SignatureE")
    else if n == 10 then Some (codes "SignatureW")
    else if n == 11 then Some (codes "KeyNumber")
    else None

-- .. of minus this
unfoldable pub committee_name : ℕ → Option (List ℕ)
committee_name n =
    if n == 1 then Some (codes "Length")
    else if n == 2 then Some (codes "Magic")
    else if n == 3 then Some (codes "Size")
    else if n == 4 then Some (codes "Key")
    else if n == 5 then Some (codes "SameKey")
    else if n == 6 then Some (codes "Weight")
    else if n == 7 then Some (codes "KeyCount")
    else None

-- the name of an answer
abbrev pub answer_name : ℤ → Option (List ℕ)
answer_name answer = if int_lt answer (pos 0) then committee_name (unsigned_abs answer) else verdict_name (unsigned_abs answer)

-- the name that docs/REFUSALS.md gives a refusal of a committee
abbrev pub committee_refusal_name : CommitteeRefusal → List ℕ
committee_refusal_name committee.Length = codes "Length"
committee_refusal_name committee.Magic = codes "Magic"
committee_refusal_name committee.Size = codes "Size"
committee_refusal_name (committee.KeyCount r) = codes "KeyCount"
committee_refusal_name (committee.Key k) = codes "Key"
committee_refusal_name (committee.SameKey j k) = codes "SameKey"
committee_refusal_name (committee.Weight r) = codes "Weight"

-- each refusal's number has its name
pub record RefusalsHaveTheirNames : Type 0 where
  pub of_verdicts : (r : Refusal) → verdict_name (refusal_number r) ≡ Some (refusal_name r)
  pub of_committees : (r : CommitteeRefusal) → committee_name (committee_refusal_number r) ≡ Some (committee_refusal_name r)

-- ---- what is written

-- the text stands at the front of what is written, and nothing else changed
pub record IsFront (text old new : List ℕ) : Type 0 where
  pub fits : length text ≤ length old
  pub written : new ≡ text ++ drop (length text) old

-- the text is written and its length told, or there is no room for it
pub record IsWritten (text old new : List ℕ) (told : ℕ) : Type 0 where
  pub fits : length text ≤ length old → (told ≡ length text) × IsFront text old new
  pub no_room : length old < length text → (told ≡ 0) × (new ≡ old)

-- the name of the answer, if it has one
abbrev pub IsNamed : ℤ → List ℕ → List ℕ → ℕ → Type 0
IsNamed answer old new told = MatchOption (answer_name answer) ((told ≡ 0) × (new ≡ old)) (λ name. IsWritten name old new told)

-- the version of the library
abbrev pub version_text : List ℕ
version_text = codes "0.9.0"
