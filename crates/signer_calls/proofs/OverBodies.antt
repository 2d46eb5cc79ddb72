-- A body spells one renewal, one file and one light proof, or no three.
use Rattle.std.proofs.Common.{◌≡◌, ◌⊎◌, ◌∙◌, ◌<◌, ◌+◌, ◌^◌, ◌++◌, ℕ, List, [], ◌∷◌, Option, Some, None, ap, arith, inl, inr, length, refl, subst, sym}
use Rattle.std.proofs.lemmas.List.{length-append}
use Rattle.std.specs.Int.{byte_at}
use Rattle.byteorder.specs.Endian.{big_bytes}
use Rattle.blocks.specs.Committees.{CountOnce, HaveManyKeys, HaveWeights, IsCommittee, Member, committee_text, multikey_text, weighted_text}
use Rattle.signer_calls.specs.OverBodies.{SpellsNoThree, SpellsOver, SpellsThree}
use Rattle.signer_calls.specs.Pairs.{SpellsNoPair, SpellsPair}
use Rattle.signer_calls.proofs.Pairs.{one_pair}

-- ---- where it spells no three

pub no_first : (body : List ℕ) → SpellsNoPair body → SpellsNoThree body
no_first body none renewal file proof three = none renewal three.rest three.first

-- the renewal, and then no pair
pub no_second : (body renewal rest : List ℕ) → SpellsPair body renewal rest → SpellsNoPair rest → SpellsNoThree body
no_second body renewal rest pair none renewal' file proof three =
    let same = one_pair body renewal' three.rest renewal rest three.first pair in
    none file three.last (subst (λ (x : List ℕ). SpellsPair x file three.last) same.1 three.second)

-- the two that stand behind the renewal
after_renewal : (body renewal rest renewal' file proof : List ℕ) → SpellsPair body renewal rest → (three : SpellsThree body renewal' file proof)
    → SpellsPair rest file three.last
after_renewal body renewal rest renewal' file proof pair three =
    let same = one_pair body renewal' three.rest renewal rest three.first pair in
    subst (λ (x : List ℕ). SpellsPair x file three.last) same.1 three.second

-- .. and behind the file
after_file : (body renewal rest file last renewal' file' proof : List ℕ) → SpellsPair body renewal rest → SpellsPair rest file last
    → SpellsThree body renewal' file' proof → SpellsPair last proof []
after_file body renewal rest file last renewal' file' proof pair next three =
    let same = one_pair rest file' three.last file last (after_renewal body renewal rest renewal' file' proof pair three) next in
    subst (λ (x : List ℕ). SpellsPair x proof []) same.1 three.third

pub no_third : (body renewal rest file last : List ℕ) → SpellsPair body renewal rest → SpellsPair rest file last → SpellsNoPair last → SpellsNoThree body
no_third body renewal rest file last pair next none renewal' file' proof three =
    none proof [] (after_file body renewal rest file last renewal' file' proof pair next three)

-- something stands behind the third
pub more_behind : (body renewal rest file last proof more : List ℕ) → SpellsPair body renewal rest → SpellsPair rest file last
    → SpellsPair last proof more → 0 < length more → SpellsNoThree body
more_behind body renewal rest file last proof more pair next third some renewal' file' proof' three =
    let same = one_pair last proof' [] proof more (after_file body renewal rest file last renewal' file' proof' pair next three) third in
    let none = ap (λ (x : List ℕ). length x) same.1 in
    omega (arith, some, none)

-- ---- what it spells is one

pub one_three : (body r f p r' f' p' : List ℕ) → SpellsThree body r f p → SpellsThree body r' f' p' → (r ≡ r') × (f ≡ f') × (p ≡ p')
one_three body r f p r' f' p' a b =
    let first = one_pair body r a.rest r' b.rest a.first b.first in
    let next = one_pair b.rest f a.last f' b.last (after_renewal body r' b.rest r f p b.first a) b.second in
    let last = one_pair b.last p [] p' [] (after_file body r' b.rest f' b.last r f p b.first b.second a) b.third in
    (first.0, next.0, last.0)

-- as what a call to go over is read is one
pub one_over_body : (body r f : List ℕ) (p : Option (List ℕ)) (r' f' : List ℕ) (p' : Option (List ℕ)) → SpellsOver body r f p → SpellsOver body r' f' p'
    → (r ≡ r') × (f ≡ f') × (p ≡ p')
one_over_body body r f (Some p) r' f' (Some p') a b =
    let same = one_three body r f p r' f' p' a b in
    (same.0, same.1, ap (λ (x : List ℕ). Some x) same.2)
one_over_body body r f (Some p) r' f' None a (none, b) = absurd (none r f p a)
one_over_body body r f None r' f' (Some p') (none, a) b = absurd (none r' f' p' b)
one_over_body body r f None r' f' None (none, a) (none', b) =
    let same = one_pair body r f r' f' a b in
    (same.0, same.1, refl)

-- a body that spells any spells a renewal, and what stands behind it
pub over_is_pair : (body r f : List ℕ) (p : Option (List ℕ)) → SpellsOver body r f p → SpellsNoPair body → ⊥
over_is_pair body r f (Some p) a none = none r a.rest a.first
over_is_pair body r f None (no_three, a) none = none r f a

-- ---- a committee's file is read as one

head : List ℕ → ℕ
head [] = 0
head (x ∷ xs) = x

begins_with_h : (members : List Member) (file : List ℕ) → CountOnce members file ⊎ (HaveWeights members file ⊎ HaveManyKeys members file) → head file ≡ 72
unfolding committee_text weighted_text multikey_text head
begins_with_h members file (inl once) = ap head once.text
begins_with_h members file (inr (inl weighted)) = ap head weighted.text
begins_with_h members file (inr (inr many)) = ap head many.text

begins_with_length : (body first rest : List ℕ) → SpellsPair body first rest → head body ≡ byte_at 3 (length first)
unfolding head
begins_with_length body first rest pair = ap head pair.text

long_pair : (body first rest : List ℕ) → SpellsPair body first rest → length body ≡ 4 + (length first + length rest)
long_pair body first rest pair =
    let whole = ap (λ (l : List ℕ). length l) pair.text in
    let four : length (big_bytes 4 (length first)) ≡ 4 = refl in
    omega (arith, whole, four, length-append (big_bytes 4 (length first)) (first ++ rest), length-append first rest)

low : (n : ℕ) → n < 2 ^ 30 → byte_at 3 n ≡ 72 → ⊥
low n small is = omega (arith, small, is)

pub committees_file_is_one : (body renewal file : List ℕ) → SpellsPair body renewal file → IsCommittee file → length body < 2 ^ 30
    → SpellsOver body renewal file None
committees_file_is_one body renewal file pair whole short = (
  (λ renewal' file' proof three.
      let next = after_renewal body renewal file renewal' file' proof pair three in
      let fewer : length file' < 2 ^ 30 =
      omega (arith, short, long_pair body renewal file pair, long_pair file file' three.last next) in
      low (length file') fewer (sym (begins_with_length file file' three.last next) ∙ begins_with_h whole.members file whole.spelled.text)),
  pair,
)
