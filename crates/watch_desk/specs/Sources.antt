-- What is known of a source, and what is told of it.
use Rattle.std.specs.Prelude.{◌≡◌, ◌↔◌, ◌++◌, ◌&&◌, ℕ, List, [], ◌∷◌, Bool, false, nat_eq, nat_le, nat_lt, Option, None, Some, if◌then◌else◌}
use Rattle.std.specs.List.{AllPairs, Contains}
use Rattle.certificates.specs.declared.vote.SignedVote.{SignedVote}
use Rattle.audit_evidence.specs.declared.source.SourceReport.{SourceReport}
use Rattle.log_format.specs.declared.status.Status.{Status}
use Rattle.log_format.specs.declared.status.Status.TheVariants.{Whole, Cut, Broken, TooLong, Failed}
use Rattle.watch_collector.specs.Growing.{IsBadVote}
use Rattle.watch_desk.specs.declared.news.News.{News}
use Rattle.watch_desk.specs.declared.news.News.TheVariants as news

-- ---- votes that are not good

-- the list gained just those that are so and that it had not, each once
pub record GainsOnce (old new : List SignedVote) (Is : SignedVote → Type 0) : Type 0 where
  pub gained : List SignedVote
  pub behind : new ≡ old ++ gained
  pub all : (v : SignedVote) → Is v → Contains new v
  pub only : (v : SignedVote) → Contains gained v → Is v
  pub fresh : (v : SignedVote) → Contains gained v → Contains old v → ⊥
  pub once : AllPairs (λ v w. v ≡ w → ⊥) gained

-- those of the votes that are not good
abbrev pub AreTheBad : (committee : List ℕ) → (votes bad : List SignedVote) → Type 0
AreTheBad committee votes bad = (v : SignedVote) → Contains bad v ↔ (Contains votes v × IsBadVote committee v)

-- with so many votes that are not good a source is set aside
abbrev pub most_bad_votes : ℕ
most_bad_votes = 64

-- that is told when their number comes to it
abbrev pub aside_told : (i replica before after : ℕ) → List News
aside_told i replica before after = if nat_lt before most_bad_votes && nat_le most_bad_votes after then news.SetAside i replica ∷ [] else []

-- that a source went back is told once a round
abbrev pub back_told : (i replica told round : ℕ) → Option News
back_told i replica told round = if nat_eq told round then None else Some (news.WentBack i replica)

-- that it gave one log too many is told once
abbrev pub beyond_told : (i replica : ℕ) → Bool → Option News
beyond_told i replica told = if told then None else Some (news.Beyond i replica)

-- ---- how a log ends

abbrev pub status_place : Status → ℕ
status_place Whole = 0
status_place Cut = 1
status_place Broken = 2
status_place TooLong = 3
status_place Failed = 4

abbrev pub is_status : Option Status → Status → Bool
is_status None s = false
is_status (Some t) s = nat_eq (status_place t) (status_place s)

-- a log has a name where its source has more than one
abbrev pub log_named : (count log : ℕ) → Option ℕ
log_named count log = if nat_lt 1 count then Some log else None

-- how it ends is told when it is not as it was told last
abbrev pub status_told : ℕ → (log : Option ℕ) → Option Status → SourceReport → List News
status_told i log told r = if is_status told r.status then [] else news.Status i log r ∷ []

-- ---- views

abbrev pub larger : ℕ → ℕ → ℕ
larger a b = if nat_lt a b then b else a

-- the greatest view of these votes, or one that is greater
abbrev pub top_from : ℕ → List SignedVote → ℕ
top_from top [] = top
top_from top (v ∷ votes) = top_from (larger top v.view) votes
