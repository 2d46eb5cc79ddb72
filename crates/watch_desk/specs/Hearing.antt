-- What a round of a watch tells of an audit, and what is told from then on.
use Rattle.std.specs.Prelude.{◌≡◌, ◌++◌, ◌||◌, ℕ, List, [], ◌∷◌, Bool, false, Option, None, is_some, IsSome, IfSome}
use Rattle.blocks.specs.Headers.{Header}
use Rattle.blocks.specs.Weights.{committee_of}
use Rattle.audit_evidence.specs.Evidence.{Evidence}
use Rattle.ancestry.specs.Known.{Known}
use Rattle.audit_commits.specs.Chosen.{AreCertifiedHeaders}
use Rattle.audit_commits.specs.Commits.{HasNoConflict}
use Rattle.handover_blocks.specs.Handovers.{IsFirstCommitted, IsHandover}
use Rattle.culprit_search.specs.Reports.{Report}
use Rattle.culprit_search.specs.declared.report.Commit.{Commit}
use Rattle.culprit_search.specs.declared.report.Conflict.{Conflict}
use Rattle.watch_desk.specs.News.{commits_told, conflict_told, culprits_told, handover_told, new_commits}
use Rattle.watch_desk.specs.Sources.{larger}
use Rattle.watch_desk.specs.Verdicts.{unnamed}
use Rattle.watch_desk.specs.declared.news.News.{News}

-- what was told: the commits, the conflict, whether a handover, and the bytes of the verdicts; and how far certified blocks went
pub record Told : Type 0 where
  pub commits : List Commit
  pub conflict : Option Conflict
  pub handover : Bool
  pub verdicts : List (List ℕ)
  pub certified : ℕ

-- the greatest view of these headers, or one that is greater
abbrev pub highest : ℕ → List Header → ℕ
highest top [] = top
highest top (h ∷ hs) = highest (larger top h.view) hs

-- the news of a round: the conflict, the culprits, the handover and then the commits, of each what was not told before
abbrev pub heard_news : Told → Report → Option Header → List News
heard_news told r handover =
    conflict_told told.conflict r.conflict ++ culprits_told (unnamed told.verdicts r.verdicts) ++ handover_told r.commits handover
    ++ commits_told (new_commits told.commits r.commits)

-- a handover is told once, and where no commits conflict: it is the first that a chain of a commit has; and where there is one, it is
pub record MayBeHandover (e : Evidence) (r : Report) (told : Told) (handover : Option Header) : Type 0 where
  pub first : IfSome handover (IsFirstCommitted (committee_of e.committee) e IsHandover)
  pub once : IsSome handover → told.handover ≡ false
  pub no_conflict : IsSome handover → r.conflict ≡ None
  pub all : told.handover ≡ false → r.conflict ≡ None → HasNoConflict (committee_of e.committee) e → handover ≡ None
      → (b : Header) → IsFirstCommitted (committee_of e.committee) e IsHandover b → ⊥

-- the audit of the evidence was heard: just what is new of it was told
pub record IsHeard (e : Evidence) (r : Report) (old new : Told) (heard : List News) : Type 0 where
  pub handover : Option Header
  pub may_be : MayBeHandover e r old handover
  pub told : heard ≡ heard_news old r handover
  pub commits : new.commits ≡ r.commits
  pub conflict : new.conflict ≡ r.conflict
  pub told_handover : new.handover ≡ (old.handover || is_some handover)
  pub verdicts : new.verdicts ≡ old.verdicts ++ unnamed old.verdicts r.verdicts
  pub chains : Known
  pub are_certified : AreCertifiedHeaders e chains
  pub certified : new.certified ≡ highest 0 chains.headers
