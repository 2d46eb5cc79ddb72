-- When a log is one of another chain.
use Rattle.std.specs.Prelude.{◌⊎◌, ◌<◌, ℕ, List, [], length, slice_index_or}
use Rattle.std.specs.List.{Contains}
use Rattle.certificates.specs.Certificates.{Certificate}
use Rattle.certificates.specs.GoodCertificates.{IsGoodEntry, IsOnGenesis}
use Rattle.certificates.specs.declared.certificate.Endorsement.{Endorsement}
use Rattle.log_format.specs.EntryText.{Entry, IsEntryOf}

-- one of the certificate's votes is good: a replica of this committee signed it, for a block of its chain
abbrev pub HasGoodEntry : List ℕ → Certificate → Type 0
HasGoodEntry committee c = (d : Endorsement) × Contains c.entries d × IsGoodEntry committee c d

-- the certificate, which need not be good, is on the committee's genesis, or has such a vote
abbrev pub IsOfChain : List ℕ → Certificate → Type 0
IsOfChain committee c = IsOnGenesis committee c ⊎ HasGoodEntry committee c

-- no frame before this one spells an entry
abbrev pub SpellNone : List (List ℕ) → ℕ → Type 0
SpellNone frames end = (k : ℕ) → k < end → (e : Entry) → IsEntryOf (slice_index_or frames k []) e → ⊥

-- the entry that the first of the frames spells that spells one
pub record IsFirstEntry (frames : List (List ℕ)) (e : Entry) : Type 0 where
  pub place : ℕ
  pub there : place < length frames
  pub spelled : IsEntryOf (slice_index_or frames place []) e
  pub before : SpellNone frames place

-- the certificate of the log's first entry is not of this committee's chain
abbrev pub IsOfOtherChain : List ℕ → List (List ℕ) → Type 0
IsOfOtherChain committee frames = (e : Entry) × IsFirstEntry frames e × (IsOfChain committee e.certificate → ⊥)
