-- The bytes of an entry in the old form, and what they become in the form of today: a number of a key, 0, goes in
-- front of the own vote and behind each number of a replica.
use Rattle.std.specs.Prelude.{◌≡◌, ◌≤◌, ◌==◌, ◌+◌, ◌*◌, ◌++◌, ◌⊎◌, ℕ, zero, suc, Bool, List, [], ◌∷◌, length, take, drop, slice_index, if◌then◌else◌}
use Rattle.base_wire.specs.Pieces.{piece}
use Rattle.certificates.specs.CertificateReading.{count_in}
use Rattle.vote_log.specs.declared.old_entry.TheConstants.{BEHIND_VOTE, OLD_ENDORSEMENT_LEN, OLD_VOTE_LEN}

-- whether the own vote stands in the entry, as its first byte says
abbrev pub is_old_voted : List ℕ → Bool
is_old_voted bytes = slice_index bytes 0 == 1

-- the certificate is the rest, behind the own vote or in its place
abbrev pub old_place : Bool → ℕ
old_place voted = if voted then BEHIND_VOTE else 169

-- a certificate's head, and as many bytes behind it as its entries have
pub record IsOldWhole (rest : List ℕ) : Type 0 where
  pub head : 42 ≤ length rest
  pub whole : length rest ≡ 42 + OLD_ENDORSEMENT_LEN * count_in rest

abbrev pub IsOldKind : ℕ → Type 0
IsOldKind kind = (kind ≡ 1) ⊎ (kind ≡ 2)

-- a kind of the old form, and as many bytes as it asks for
pub record HasOldForm (bytes : List ℕ) : Type 0 where
  pub kind : IsOldKind (slice_index bytes 0)
  pub whole : IsOldWhole (drop (old_place (is_old_voted bytes)) bytes)

-- ---- the same in the form of today

abbrev pub renewed_kind : Bool → ℕ
renewed_kind voted = if voted then 3 else 4

abbrev pub renewed_own : Bool → List ℕ → List ℕ
renewed_own voted bytes = if voted then 0 ∷ piece OLD_VOTE_LEN bytes 169 else []

-- the number of a replica, 0, and the signature
abbrev pub renewed_endorsement : List ℕ → List ℕ
renewed_endorsement old = take 2 old ++ 0 ∷ drop 2 old

-- the first n of such, one after the other
abbrev pub renewed_endorsements : List ℕ → ℕ → List ℕ
renewed_endorsements old zero = []
renewed_endorsements old (suc n) = renewed_endorsement (take OLD_ENDORSEMENT_LEN old) ++ renewed_endorsements (drop OLD_ENDORSEMENT_LEN old) n

-- the head of a certificate, and its entries
abbrev pub renewed_certificate : List ℕ → List ℕ
renewed_certificate rest = take 42 rest ++ renewed_endorsements (drop 42 rest) (count_in rest)

-- the kind, the two headers, the own vote, and the certificate
unfoldable pub renewed_text : Bool → List ℕ → List ℕ
renewed_text voted bytes = (renewed_kind voted ∷ []) ++ (piece 168 bytes 1 ++ (renewed_own voted bytes ++ renewed_certificate (drop (old_place voted) bytes)))

abbrev pub renewed : List ℕ → List ℕ
renewed bytes = renewed_text (is_old_voted bytes) bytes
