use Rattle.std.proofs.Common.{◌≡◌, ◌≤◌, length, get_or, rules, arith, sym, subst}
use Rattle.std.specs.List.{All}
use Rattle.blocks.specs.Committees.{n_of}
use Rattle.certificates.specs.declared.vote.SignedVote.{SignedVote}
use Rattle.certificates.specs.Assembling.{AreByDifferent, IsVoteFor}
use Rattle.certificates.proofs.Assembled.{agree_from, mixed_from, rising_from, passed, some_votes}
use Rattle.certificates.proofs.assembling.assemble.Goals as goal

pub returns-then-not-are_for-clause-first_refusal : goal.returns-then-not-are_for-clause-first_refusal
returns-then-not-are_for-clause-first_refusal c =
    let votes = c.args.votes.now in
    let first = c.in-Some.first.now in
    let is : first ≡ get_or votes 0 first = search rules in
    let fails : All (IsVoteFor first.view first.id) votes → ⊥ = search rules in
    mixed_from votes first first is fails

pub of-requires : goal.of-requires
of-requires c =
    let votes = c.args.votes.now in
    let first = c.in-Some.first.now in
    let entries = c.sort_by_replica.new.entries.items in
    let is : first ≡ get_or votes 0 first = search rules in
    let some : 1 ≤ length votes = (let enough = c.weigh_enough.ensures.enough.0 (search rules) in some_votes c.args.committee.now votes (omega arith)) in
    let above : 1 ≤ first.view = subst (λ (v : SignedVote). 1 ≤ v.view) (sym is) (c.requires.after_genesis 0 first some) in
    let different : AreByDifferent votes = search rules in
    let rising = rising_from votes _ entries c.in_ok-entries.ensures.ok c.sort_by_replica.ensures.same c.sort_by_replica.ensures.sorted different in
    let p = passed (n_of c.args.committee.now) first.view votes _ entries c.weigh_enough.ensures.few c.requires.known above some c.in_ok-entries.ensures.ok c.sort_by_replica.ensures.same c.in_ok-entries.ensures.fits rising in
    record { each = p.each; rising = p.rising; most = p.most; none = p.none }

pub returns-clause-passes : goal.returns-clause-passes
returns-clause-passes c =
    let votes = c.args.votes.now in
    let first = c.in-Some.first.now in
    let for_first : All (IsVoteFor first.view first.id) votes = search rules in
    record { agree = agree_from votes first.view first.id for_first; enough = c.weigh_enough.ensures.enough.0 (search rules); different = search rules }
