-- Who voted for what.
use Rattle.std.specs.Prelude.{◌↔◌, ℕ, List, Bool, map, nat_eq}
use Rattle.std.specs.Cmp.Lexicographic.{slice_cmp}
use Rattle.std.specs.List.{Contains, list_any}
use Rattle.std.specs.List.Sorted.{IsSorted}
use Rattle.std.specs.Ordering.{nat_cmp, ordering_then}
use Rattle.std.specs.declared.cmp.Ordering.{Ordering}
use Rattle.certificates.specs.declared.vote.SignedVote.{SignedVote}
use Rattle.audit_commits.specs.declared.by_ballot.Cast.{Cast}

-- a vote without its key and its signature
abbrev pub cast_of : SignedVote → Cast
cast_of v = record { view = v.view; id = v.id; replica = v.replica }

-- who voted for what in these votes, and no more
abbrev pub AreCasts : List SignedVote → List Cast → Type 0
AreCasts votes casts = (c : Cast) → Contains casts c ↔ Contains (map cast_of votes) c

-- the order by the view, then by the id of the block
abbrev pub cast_cmp : Cast → Cast → Ordering
cast_cmp a b = ordering_then (nat_cmp a.view b.view) (slice_cmp nat_cmp a.id b.id)

abbrev pub CastsRise : List Cast → Type 0
CastsRise = IsSorted cast_cmp

-- one of these is by the replica
abbrev pub has_cast : List Cast → ℕ → Bool
has_cast casts r = list_any (λ c. nat_eq c.replica r) casts
