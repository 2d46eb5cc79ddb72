use Rattle.std.proofs.Common.{◌≡◌, List, Some, refl, sym, subst, ◌∙◌}
use Rattle.std.specs.Prelude.{slice_get}
use Rattle.std.proofs.lemmas.Bool.{true≢false}
use Rattle.blocks.specs.Replica.{Stored}
use Rattle.stable_log.proofs.Told.{if_some}
use Rattle.vote_log.specs.Logs.{AreListed}
use Rattle.vote_desk.specs.declared.reply.Receipt.{Receipt}
use Rattle.vote_desk.specs.Receipts.{IsReceiptOf}
use Rattle.vote_desk.specs.Votes.{HasNoVote, IsVoteAt}
use Rattle.vote_desk.proofs.FoundVotes.{bad_entry, has_own, is_its_receipt}
use Rattle.vote_desk.proofs.votes.vote_in.Goals as goal

pub returns-in_default-clause-ok : goal.returns-in_default-clause-ok
returns-in_default-clause-ok g c = subst (HasNoVote c.args.view) c.steps.ensures.value c.in_default.ensures

pub returns-in_default-vote-clause-first_refusal :
    goal.returns-in_default-vote-clause-first_refusal
returns-in_default-vote-clause-first_refusal g c =
    let log = c.args.log.now in
    let told = g.D.Disk.bytes log.disk in
    let k = c.in-Some.number in
    let e = c.in_ok-entry.entry in
    let here = subst (λ (l : List Stored). IsVoteAt c.args.view l k) c.steps.ensures.value c.in-Some.ensures in
    bad_entry told log c.args.view k here c.in_ok-entry.ensures.exact (λ bs is.
    has_own c.args.replica log.entries log.steps k e (if_some told (λ _. AreListed log.entries log.steps) bs c.steps.ensures.listed is).same
    (if_some told (λ _. slice_get log.entries k ≡ Some e) bs c.in_ok-entry.ensures.ok is) here.0 here.1 here.2.voted (sym c.in_default-vote.ensures))

pub returns-then-not-is_receipt-clause-first_refusal :
    goal.returns-then-not-is_receipt-clause-first_refusal
returns-then-not-is_receipt-clause-first_refusal g c =
    let log = c.args.log.now in
    let told = g.D.Disk.bytes log.disk in
    let k = c.in-Some.number in
    let e = c.in_ok-entry.entry in
    let here = subst (λ (l : List Stored). IsVoteAt c.args.view l k) c.steps.ensures.value c.in-Some.ensures in
    let receipt : Receipt = record { number = k; vote = c.in-Some-vote.vote } in
    bad_entry told log c.args.view k here c.in_ok-entry.ensures.exact (λ bs is.
    let is_it = is_its_receipt c.args.replica log.entries log.steps k e (if_some told (λ _. AreListed log.entries log.steps) bs c.steps.ensures.listed is).same
    (if_some told (λ _. slice_get log.entries k ≡ Some e) bs c.in_ok-entry.ensures.ok is) receipt refl (sym c.in-Some-vote.ensures) in
    true≢false (sym (c.is_receipt.ensures.1 (subst (λ (l : List Stored). IsReceiptOf 0 l receipt) (sym (c.steps-2.ensures.value ∙ c.entry.ensures.same.1)) is_it)) ∙ c.if-not-is_receipt.true))
