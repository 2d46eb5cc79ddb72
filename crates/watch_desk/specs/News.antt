-- What a round of a watch tells, and in which order.
use Rattle.std.specs.Prelude.{◌-◌, ◌++◌, ◌&&◌, ℕ, List, [], ◌∷◌, Bool, true, false, not, nat_eq, map, filter, drop, length, Option, None, Some, if◌then◌else◌}
use Rattle.std.specs.List.{list_any}
use Rattle.std.specs.Str.{bytes_eq}
use Rattle.blocks.specs.Headers.{Header}
use Rattle.culprit_search.specs.declared.report.Commit.{Commit}
use Rattle.culprit_search.specs.declared.report.Conflict.{Conflict}
use Rattle.handover_search.specs.HandoverLines.{commits_after}
use Rattle.watch_desk.specs.declared.news.News.{News}
use Rattle.watch_desk.specs.declared.news.News.TheVariants as news

-- ---- the conflict

abbrev pub is_conflict : Option Conflict → Conflict → Bool
is_conflict None c = false
is_conflict (Some o) c = bytes_eq o.first c.first && bytes_eq o.second c.second

-- a conflict is told when it is another one than the last that was told
abbrev pub conflict_told : (old new : Option Conflict) → List News
conflict_told old None = []
conflict_told old (Some c) = if is_conflict old c then [] else news.Conflict c ∷ []

-- ---- the culprits

abbrev pub culprits_told : List (List ℕ) → List News
culprits_told found = map (λ v. news.Culprit v) found

-- ---- the handover

abbrev pub handover_told : List Commit → Option Header → List News
handover_told commits None = []
handover_told commits (Some b) = news.Handover b (commits_after b commits) ∷ []

-- ---- the commits

abbrev pub is_commit : Commit → Commit → Bool
is_commit a b = nat_eq a.view b.view && bytes_eq a.id b.id

-- whether it is one of those that were told
abbrev pub is_told : List Commit → Commit → Bool
is_told told c = list_any (λ o. is_commit o c) told

-- those that were not told, in their order
abbrev pub new_commits : (told commits : List Commit) → List Commit
new_commits told commits = filter (λ c. not (is_told told c)) commits

-- of how many new commits each is told
abbrev pub most_commits : ℕ
most_commits = 100

-- one line for so many that are left out before these
abbrev pub left_out : ℕ → List Commit → List News
left_out n [] = []
left_out n (c ∷ cs) = if nat_eq n 0 then [] else news.Commits n c ∷ []

-- the last hundred, after one line for those before
abbrev pub commits_told : List Commit → List News
commits_told new =
    left_out (length new - most_commits) (drop (length new - most_commits) new)
    ++ map (λ c. news.Commit c) (drop (length new - most_commits) new)

-- ---- what may be dropped where nobody takes the lines: what comes again if it goes on

abbrev pub may_be_dropped : News → Bool
may_be_dropped (news.Status i log report) = true
may_be_dropped (news.WentBack i replica) = true
may_be_dropped (news.Conflict c) = false
may_be_dropped (news.Culprit v) = false
may_be_dropped (news.Handover b after) = false
may_be_dropped (news.Commits count first) = false
may_be_dropped (news.Commit c) = false
may_be_dropped (news.Beyond i replica) = false
may_be_dropped (news.SetAside i replica) = false
