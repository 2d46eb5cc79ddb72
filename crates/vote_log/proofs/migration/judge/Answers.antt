use Rattle.std.proofs.Common.{◌<◌, List, ℕ, length, rules, arith, ap, subst, ◌∙◌}
use Rattle.std.proofs.lemmas.Result.{err_from_is_err_and}
use Rattle.stable_log.proofs.Told.{if_some}
use Rattle.vote_log.specs.OldEntries.{IsOldEntryAt}
use Rattle.vote_log.proofs.OldLogs.{judge_fault, judged_more}
use Rattle.vote_log.proofs.migration.judge.Goals as goal

pub returns-in_err-next_entry-clause-first_refusal :
    goal.returns-in_err-next_entry-clause-first_refusal
returns-in_err-next_entry-clause-first_refusal g c =
    let inv = c.loop-k.invariant in
    let list = c.args.old.now.payloads in
    let below : c.loop-k.k < length list = omega (arith, ap length inv.payloads) in
    let p = err_from_is_err_and c.from_residual.result c.from_residual.ensures.1 in
    rw (p.1, p.2) (judge_fault c.args.genesis.now (g.D.Disk.bytes c.args.old.now.disk) (g.D.Disk.bytes c.loop-k.old.disk) list c.loop-k.old.payloads c.loop-k.k c.loop-k.durable inv.unwritten.same inv.payloads below inv.judged _ c.in_err-next_entry.ensures.first_refusal)

pub loop-k-preserved : goal.loop-k-preserved
loop-k-preserved g c =
    let inv = c.loop-k.invariant in
    let read = c.in_ok-next_entry.ensures in
    let e = c.in_ok-next_entry.field-0 in
    record {
      payloads = read.same.0 ∙ inv.payloads;
      running = read.same.1;
      unwritten = search rules;
      no_failure = read.no_failure ∙ inv.no_failure;
      judged = λ bs is.
          let at = if_some (g.D.Disk.bytes c.loop-k.old.disk) _ bs read.ok (inv.unwritten.same ∙ is) in
          judged_more c.args.genesis.now c.args.old.now.payloads c.loop-k.k c.loop-k.durable c.next_entry.new.durable e (inv.judged bs is)
          (subst (λ (l : List (List ℕ)). IsOldEntryAt l c.loop-k.k e) inv.payloads at) read.legal.0 read.legal.1;
    }
