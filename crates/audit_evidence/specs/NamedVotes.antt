-- Votes that logs name, one by one and by certificates.
use Rattle.std.specs.Prelude.{◌↔◌, List, ◌++◌, map}
use Rattle.std.specs.List.{Contains, flat_map}
use Rattle.certificates.specs.Certificates.{Certificate, vote_of}
use Rattle.certificates.specs.declared.vote.SignedVote.{SignedVote}

-- the votes of a certificate, in the order of its entries
abbrev pub certificate_votes : Certificate → List SignedVote
certificate_votes c = map (vote_of c) c.entries

-- two lists have the same, in any order
abbrev pub AreSame : List SignedVote → List SignedVote → Type 0
AreSame xs ys = (v : SignedVote) → Contains xs v ↔ Contains ys v

-- the lists, end to end
abbrev pub joined : List (List SignedVote) → List SignedVote
joined lists = flat_map (λ votes. votes) lists

-- single votes, and those of certificates
abbrev pub all_votes : List SignedVote → List (List SignedVote) → List SignedVote
all_votes single certificates = single ++ joined certificates
