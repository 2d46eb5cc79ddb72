-- Whether a signature is good, where a committee was given to ask.
use Rattle.std.specs.Prelude.{ℕ, ◌≡◌, List, Bool, true, false, Option, None, Some, codes}
use Rattle.certificates.specs.Votes.{IsGoodVote}
use Rattle.certificates.specs.declared.vote.SignedVote.{SignedVote}
use Rattle.program_show.specs.declared.mark.Mark.{Mark}
use Rattle.program_show.specs.declared.mark.Mark.TheVariants.{Unasked, Good, Bad}

-- the mark says whether the vote is good under the committee, or that there is none
abbrev pub IsMark : Option (List ℕ) → SignedVote → Mark → Type 0
IsMark None v mark = mark ≡ Unasked
IsMark (Some committee) v Unasked = ⊥
IsMark (Some committee) v Good = IsGoodVote committee v
IsMark (Some committee) v Bad = IsGoodVote committee v → ⊥

-- the word behind a vote
abbrev pub mark_text : Mark → List ℕ
mark_text Unasked = codes ""
mark_text Good = codes " good"
mark_text Bad = codes " bad"

abbrev pub is_good : Mark → Bool
is_good Unasked = false
is_good Good = true
is_good Bad = false
