-- Those headers of a list that are of a kind.
use Rattle.std.specs.Prelude.{◌≡◌, ◌↔◌, List}
use Rattle.std.specs.List.{AllPairs, Contains}
use Rattle.blocks.specs.Genesis.{genesis_of}
use Rattle.blocks.specs.Headers.{Header, HasLowerId}
use Rattle.blocks.specs.Weights.{committee_of}
use Rattle.ancestry.specs.Known.{Known}
use Rattle.audit_evidence.specs.Evidence.{Evidence}
use Rattle.audit_commits.specs.Commits.{IsCertified}

-- the headers of this kind among hs, by rising id
pub record AreThose (Is : Header → Type 0) (hs chosen : List Header) : Type 0 where
  pub rising : AllPairs HasLowerId chosen
  pub exact : (h : Header) → Contains chosen h ↔ (Contains hs h × Is h)

-- the certified headers of the evidence are known, beside its genesis, and no others
pub record AreCertifiedHeaders (e : Evidence) (known : Known) : Type 0 where
  pub genesis : known.genesis ≡ genesis_of e.committee
  pub certified : AreThose (IsCertified (committee_of e.committee) e) e.headers known.headers
