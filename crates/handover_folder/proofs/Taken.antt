-- What is among the words in memory.
use Rattle.std.proofs.Common.{◌≡◌, ℕ, List, drop, Option, Some, None, option_map, true, false, refl, ap, sym}
use Rattle.std.proofs.lemmas.Bool.{false≢true}
use Rattle.std.specs.Option.{is_some}
use Rattle.handover_folder.specs.Words.{Endorsed, IsEndorsement, IsNextEntry, Said, kind_in}
use Rattle.handover_folder.proofs.WordLaws.{endorsement_back}

pub none_in : {X Y : Type 0} (f : X → Y) (o : Option X) → is_some o ≡ false → option_map f o ≡ None
none_in f None is = refl
none_in f (Some x) is = absurd (false≢true (sym is))

pub some_in : {X Y : Type 0} (f : X → Y) (o : Option X) → is_some o ≡ true → option_map f o ≡ None → ⊥
some_in f None is none = false≢true is
some_in f (Some x) is none = absurd (cc none)

pub none_of : {X : Type 0} (o : Option X) → is_some o ≡ false → o ≡ None
none_of None is = refl
none_of (Some x) is = absurd (false≢true (sym is))

pub some_of : {X : Type 0} (o : Option X) → is_some o ≡ true → o ≡ None → ⊥
some_of None is none = false≢true is
some_of (Some x) is none = absurd (cc none)

-- an endorsement is taken where there is none and the signer has not gone over
pub endorsement_taken : (before : Said) (entry bytes : List ℕ) → kind_in entry ≡ 6 → IsEndorsement (drop 1 entry) → bytes ≡ drop 1 entry → before.endorsed ≡ None → before.gone ≡ None
    → IsNextEntry before entry (record { endorsed = Some bytes; gone = before.gone })
endorsement_taken before entry bytes kind is same none not_gone = record {
  word = Endorsed (drop 1 entry);
  is = endorsement_back entry kind is;
  follows = (none, not_gone);
  then = ap (λ (l : List ℕ). record { endorsed = Some l; gone = before.gone }) same;
}
