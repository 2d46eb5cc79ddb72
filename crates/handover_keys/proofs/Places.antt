-- A bound id has one place.
use Rattle.std.proofs.Common.{◌≡◌, ◌++◌, ℕ, List, [], ◌∷◌, drop, inl, inr, refl, sym, ap, ◌∙◌}
use Rattle.std.specs.Prelude.{slice_index}
use Rattle.std.specs.Str.{bytes_eq}
use Rattle.std.proofs.lemmas.Bool.{cases_Bool}
use Rattle.std.proofs.lemmas.Slice.Eq.{bytes_eq-Decides}
use Rattle.byteorder.specs.Endian.{big_bytes}
use Rattle.base_wire.specs.Pieces.{number_at, piece}
use Rattle.base_wire.proofs.Numbers.{behind, front, number_again}
use Rattle.certificates.proofs.Pieces.{byte_again}
use Rattle.handover_keys.specs.BoundIds.{AnIdIsBoundToOnePlace, IsPlace, bound_id_text}

record HasParts (text chain : List ℕ) (replica key : ℕ) : Type 0 where
  chain_is : piece 32 text 4 ≡ chain
  replica_is : number_at 2 text 36 ≡ replica
  key_is : slice_index text 38 ≡ key

has_parts : (chain : List ℕ) (replica key : ℕ) → IsPlace chain replica key → HasParts (bound_id_text chain replica key) chain replica key
unfolding bound_id_text
has_parts chain replica key is =
    let text = bound_id_text chain replica key in
    let rest : List ℕ = big_bytes 2 replica ++ key ∷ [] in
    let after : drop 36 text ≡ rest = behind text 4 32 chain rest refl is.long in
    record {
      chain_is = front text 4 32 chain rest refl is.long;
      replica_is = number_again 2 text 36 replica is.two_bytes (front text 36 2 (big_bytes 2 replica) (key ∷ []) after refl);
      key_is = byte_again text 38 key [] (behind text 36 2 (big_bytes 2 replica) (key ∷ []) after refl);
    }

-- texts that are the same are of one place
one_text : (chain chain' : List ℕ) (replica replica' key key' : ℕ) → IsPlace chain replica key → IsPlace chain' replica' key'
    → bound_id_text chain replica key ≡ bound_id_text chain' replica' key' → (chain ≡ chain') × (replica ≡ replica') × (key ≡ key')
one_text chain chain' replica replica' key key' is too same =
    let a = has_parts chain replica key is in
    let b = has_parts chain' replica' key' too in (
      sym a.chain_is ∙ ap (λ (t : List ℕ). piece 32 t 4) same ∙ b.chain_is,
      sym a.replica_is ∙ ap (λ (t : List ℕ). number_at 2 t 36) same ∙ b.replica_is,
      sym a.key_is ∙ ap (λ (t : List ℕ). slice_index t 38) same ∙ b.key_is,
    )

pub one_place : AnIdIsBoundToOnePlace
one_place id chain chain' replica replica' key key' is too apart bound other =
    let text = bound_id_text chain replica key in
    let text' = bound_id_text chain' replica' key' in
    elim (cases_Bool (bytes_eq text text')) [
      | inl same ↦ one_text chain chain' replica replica' key key' is too ((bytes_eq-Decides text text').0 same)
      | inr differ ↦ absurd (apart (λ same. let equal = (bytes_eq-Decides text text').1 same in absurd cc) (sym bound ∙ other))
    ]
