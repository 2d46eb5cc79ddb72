-- When a light proof proves, under a committee, that a block which hands over is committed: no header below that block is needed.
use Rattle.std.specs.Prelude.{◌≡◌, ◌<◌, ◌+◌, ◌-◌, ℕ, zero, suc, List, [], length, slice_index_or}
use Rattle.blocks.specs.Headers.{Header, NamesParent, header_id}
use Rattle.certificates.specs.Certificates.{Certificate}
use Rattle.certificates.specs.GoodCertificates.{IsQuorum}
use Rattle.handover_blocks.specs.Handovers.{IsHandover}
use Rattle.handover_light.specs.LightProofs.{LightProof}

-- ---- its parts

-- what stands behind the last
abbrev pub no_header : Header
no_header = record { view = 0; parent_view = 0; parent = []; payload = [] }

-- header k, for k below their number
abbrev pub nth_header : LightProof → ℕ → Header
nth_header p k = slice_index_or p.headers k no_header

-- the block that hands over
abbrev pub handover_block : LightProof → Header
handover_block p = nth_header p 0

-- the place of the block that is committed: two follow it
abbrev pub committed_place : LightProof → ℕ
committed_place p = length p.headers - 3

-- the header that certificate c is to be on
abbrev pub certified_header : LightProof → ℕ → Header
certified_header p c = nth_header p (committed_place p + c)

-- certificate c, for c below 3
abbrev pub nth_certificate : LightProof → ℕ → Certificate
nth_certificate p zero = p.committed
nth_certificate p (suc zero) = p.second
nth_certificate p (suc (suc n)) = p.third

-- ---- the chain

-- each number below n passes a test
abbrev pub AllBelow : ℕ → (ℕ → Type 0) → Type 0
AllBelow n P = (k : ℕ) → k < n → P k

-- the second and the third block are in the two views after that of the committed one
pub record HasViewsInRow (p : LightProof) : Type 0 where
  pub second : (certified_header p 1).view ≡ (certified_header p 0).view + 1
  pub third : (certified_header p 2).view ≡ (certified_header p 0).view + 2

-- header k, if it is not the first, names the one before as its parent
pub record IsOnPrevious (p : LightProof) (k : ℕ) : Type 0 where
  pub parent : 0 < k → NamesParent (nth_header p k) (nth_header p (k - 1))

-- a block that hands over, each later one on the one before, and the last three in views in a row
pub record IsHandoverChain (p : LightProof) : Type 0 where
  pub handover : IsHandover (handover_block p)
  pub views : HasViewsInRow p
  pub parents : AllBelow (length p.headers) (IsOnPrevious p)

-- ---- the certificates

-- the certificate is on the header's view and id
pub record IsOn (h : Header) (c : Certificate) : Type 0 where
  pub view : c.view ≡ h.view
  pub id : c.id ≡ header_id h

-- .. and a quorum's
pub record Certifies (committee : List ℕ) (h : Header) (c : Certificate) : Type 0 where
  pub on : IsOn h c
  pub quorum : IsQuorum committee c

-- ---- the proof

-- such a chain, whose last three headers the certificates certify
pub record ProvesHandover (committee : List ℕ) (p : LightProof) : Type 0 where
  pub chain : IsHandoverChain p
  pub certified : AllBelow 3 (λ c. Certifies committee (certified_header p c) (nth_certificate p c))
