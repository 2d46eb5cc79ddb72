-- When a block's certificate is good and on the block's parent, and why a block is refused.
use Rattle.std.specs.Prelude.{◌≡◌, ◌⊎◌, ◌<◌, ◌≤◌, ℕ, List, length, take, nat_lt, if◌then◌else◌}
use Rattle.std.specs.List.{All, sum_by}
use Rattle.blocks.specs.Committees.{n_of, keys_of, weight_at}
use Rattle.blocks.specs.Weights.{quorum_of}
use Rattle.blocks.specs.Headers.{Header}
use Rattle.certificates.specs.declared.certificate.Endorsement.{Endorsement}
use Rattle.certificates.specs.declared.checked_block.BlockRefusal.{BlockRefusal}
use Rattle.certificates.specs.declared.checked_block.BlockRefusal.TheVariants.{WrongBlock, Count, UnknownReplica, UnknownKey, Signature}
use Rattle.certificates.specs.Certificates.{Certificate, nth_endorsement}
use Rattle.certificates.specs.GoodCertificates.{IsGoodCertificate, IsOnGenesis}
use Rattle.certificates.specs.Votes.{IsSignedBy}

-- the header's view is above 0, and the certificate is on the parent that it names, by id and view
pub record IsOnParent (h : Header) (c : Certificate) : Type 0 where
  pub above : 0 < h.view
  pub view : h.parent_view ≡ c.view
  pub id : h.parent ≡ c.id

-- the certificate is good, and on the header's parent
pub record IsChecked (committee : List ℕ) (h : Header) (c : Certificate) : Type 0 where
  pub parent : IsOnParent h c
  pub good : IsGoodCertificate committee c

-- a block with the certificate of its parent, and the committee that it was checked under
pub record CheckedBlock : Type 0 where
  pub committee : List ℕ
  pub header : Header
  pub certificate : Certificate

-- ---- refusals

-- how much an entry counts: what its replica does, and 1 where the committee has no such replica, which another test finds
abbrev pub counted : List ℕ → Endorsement → ℕ
counted committee e = if nat_lt e.replica (n_of committee) then weight_at committee e.replica else 1

abbrev pub counted_weight : List ℕ → Certificate → ℕ
counted_weight committee c = sum_by (counted committee) c.entries

-- entries of a quorum's weight, n at the most
pub record IsBetween (committee : List ℕ) (c : Certificate) : Type 0 where
  pub least : quorum_of committee ≤ counted_weight committee c
  pub most : length c.entries ≤ n_of committee

-- as many entries as a good certificate has
abbrev pub HasCount : List ℕ → Certificate → Type 0
HasCount committee c = IsBetween committee c ⊎ IsOnGenesis committee c

-- each entry is by a replica of the committee
abbrev pub AreInCommittee : List ℕ → Certificate → Type 0
AreInCommittee committee c = All (λ e. e.replica < n_of committee) c.entries

-- each entry names a key that its replica has
abbrev pub HaveKnownKeys : List ℕ → Certificate → Type 0
HaveKnownKeys committee c = All (λ e. e.key < keys_of committee e.replica) c.entries

-- an entry is signed with the key of its replica that it names
abbrev pub IsSignedEntry : List ℕ → Certificate → Endorsement → Type 0
IsSignedEntry committee c e = IsSignedBy committee e.replica e.key c.view c.id e.signature

-- entry k is the least that is not signed so
pub record IsFirstUnsigned (committee : List ℕ) (c : Certificate) (k : ℕ) : Type 0 where
  pub place : k < length c.entries
  pub before : All (IsSignedEntry committee c) (take k c.entries)
  pub unsigned : IsSignedEntry committee c (nth_endorsement c k) → ⊥

-- the block passes the tests before this one, and fails this one
abbrev pub IsBlockRefusal : BlockRefusal → List ℕ → Header → Certificate → Type 0
IsBlockRefusal WrongBlock committee h c = IsOnParent h c → ⊥
IsBlockRefusal Count committee h c = IsOnParent h c × (HasCount committee c → ⊥)
IsBlockRefusal UnknownReplica committee h c = IsOnParent h c × HasCount committee c × (AreInCommittee committee c → ⊥)
IsBlockRefusal UnknownKey committee h c =
    IsOnParent h c × HasCount committee c × AreInCommittee committee c × (HaveKnownKeys committee c → ⊥)
IsBlockRefusal (Signature k) committee h c =
    IsOnParent h c × HasCount committee c × AreInCommittee committee c × HaveKnownKeys committee c × IsFirstUnsigned committee c k

-- the number that docs/REFUSALS.md gives a refusal
abbrev pub block_refusal_number : BlockRefusal → ℕ
block_refusal_number WrongBlock = 1
block_refusal_number Count = 2
block_refusal_number UnknownReplica = 3
block_refusal_number UnknownKey = 5
block_refusal_number (Signature k) = 4
