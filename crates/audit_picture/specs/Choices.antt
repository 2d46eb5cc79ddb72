-- Which blocks are drawn.
use Rattle.std.specs.Prelude.{◌≡◌, ◌⊎◌, ◌≤◌, ◌<◌, ◌-◌, ◌++◌, ℕ, List, [], Option, Any, IsPermutation, drop, length}
use Rattle.std.specs.List.{All, AllPairs, AllZip, Contains}
use Rattle.blocks.specs.Genesis.{chain_id_of}
use Rattle.blocks.specs.Headers.{HasLowerId, Header, header_id}
use Rattle.audit_commits.specs.Chosen.{AreThose}
use Rattle.audit_evidence.specs.Evidence.{Evidence}
use Rattle.culprit_search.specs.Reports.{Report}
use Rattle.culprit_search.specs.declared.report.Commit.{Commit}
use Rattle.culprit_search.specs.declared.report.Conflict.{Conflict}
use Rattle.audit_picture.specs.Lanes.{IsCulpritOf}
use Rattle.audit_picture.specs.Standings.{IsCommitted, IsInConflict, voters_of}
use Rattle.audit_picture.specs.declared.choosing.TheConstants.{MOST_BLOCKS}
use Rattle.audit_picture.specs.declared.recent.Named.{Named}
use Rattle.audit_picture.specs.declared.recent.TheConstants.{LAST_COMMITS, MOST_OTHERS}
use Rattle.audit_picture.specs.declared.scene.Culprit.{Culprit}

-- all of these headers, or so many of them as may be
pub record AreChosen (most : ℕ) (headers chosen : List Header) : Type 0 where
  pub left_out : List Header
  pub parted : IsPermutation headers (chosen ++ left_out)
  pub all : length headers ≤ most → left_out ≡ []
  pub full : most < length headers → length chosen ≡ most

-- some of the headers of this kind, each once
pub record AreSome (Is : Header → Type 0) (headers chosen : List Header) : Type 0 where
  pub once : AllPairs HasLowerId chosen
  pub each : All Is chosen
  pub known : All (Contains headers) chosen

-- ---- in the picture of an audit

abbrev pub AreOfAudit : Evidence → List Header → Type 0
AreOfAudit e chosen = AreChosen MOST_BLOCKS e.headers chosen

-- ---- in the picture of a watch

-- a culprit voted for the block of this id
abbrev pub IsOfCulprit : List Culprit → List ℕ → Type 0
IsOfCulprit culprits id = Any (λ c. (c.earlier.id ≡ id) ⊎ (c.later.id ≡ id)) culprits

abbrev pub last_commits : List Commit → List Commit
last_commits commits = drop (length commits - LAST_COMMITS) commits

-- what a report names: genesis, the blocks in conflict, those for which culprits voted, and the last commits
pub record Names : Type 0 where
  pub chain : List ℕ
  pub conflict : Option Conflict
  pub culprits : List Culprit
  pub commits : List Commit

-- .. of these culprits
abbrev pub names_of : Evidence → Report → List Culprit → Names
names_of e r culprits = record {
  chain = chain_id_of e.committee;
  conflict = r.conflict;
  culprits = culprits;
  commits = last_commits r.commits;
}

abbrev pub names_in : Named → Names
names_in named = record {
  chain = named.chain;
  conflict = named.conflict;
  culprits = named.culprits.now;
  commits = named.commits.now;
}

-- the block of this id is one of these
abbrev pub IsNamedId : Names → List ℕ → Type 0
IsNamedId names id =
    (id ≡ names.chain) ⊎ (IsInConflict names.conflict id ⊎ (IsOfCulprit names.culprits id ⊎ IsCommitted names.commits id))

abbrev pub IsNamed : Names → Header → Type 0
IsNamed names h = IsNamedId names (header_id h)

-- it does not name the block, and a replica voted for it
pub record IsOther (e : Evidence) (names : Names) (h : Header) : Type 0 where
  pub unnamed : IsNamed names h → ⊥
  pub voted : 0 < voters_of e h

-- all blocks that the report names, and of the others so many as may be
pub record AreRecent (e : Evidence) (r : Report) (chosen : List Header) : Type 0 where
  pub culprits : List Culprit
  pub are_culprits : AllZip IsCulpritOf r.verdicts culprits
  pub named : List Header
  pub are_named : AreThose (IsNamed (names_of e r culprits)) e.headers named
  pub others : List Header
  pub are_others : AreSome (IsOther e (names_of e r culprits)) e.headers others
  pub drawn : List Header
  pub are_drawn : AreChosen MOST_OTHERS others drawn
  pub chosen_are : chosen ≡ named ++ drawn
