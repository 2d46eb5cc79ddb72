use Rattle.std.proofs.Common.{◌≡◌, ◌++◌, ◌∷◌, [], ◌<◌, ◌+◌, List, ℕ, length, take, Some, rules, arith, sym, ap, subst, ◌∙◌}
use Rattle.std.proofs.lemmas.Result.{err_from_is_err_and}
use Rattle.blocks.specs.Headers.{Header}
use Rattle.blocks.specs.Replica.{Stored}
use Rattle.blocks.specs.Replay.{IsLegal, replay}
use Rattle.stable_log.proofs.Told.{if_some, some_if}
use Rattle.log_format.specs.EntryText.{stored_in}
use Rattle.vote_log.specs.Logs.{LeavesEntries}
use Rattle.vote_log.specs.OldEntries.{AreOldTexts, IsOldEntryAt, IsOldLog}
use Rattle.vote_log.proofs.LogAppends.{told_before}
use Rattle.vote_log.proofs.LogLaws.{legal_more, length-push, replay_more, steps_push}
use Rattle.vote_log.proofs.OldLogs.{copy_fault, old_texts_more}
use Rattle.vote_log.proofs.migration.copy.Goals as goal

pub returns-in_err-entry-clause-refused : goal.returns-in_err-entry-clause-refused
returns-in_err-entry-clause-refused g c =
    let inv = c.loop-k.invariant in
    let list = c.args.old.now.payloads in
    let told = g.D.Disk.bytes c.args.old.now.disk in
    let below : c.loop-k.k < length list = omega (arith, ap length inv.payloads) in
    let p = err_from_is_err_and c.from_residual.result c.from_residual.ensures.1 in
    rw (p.1, p.2) (copy_fault c.loop-k.log.genesis told (g.D.Disk.bytes c.loop-k.old.disk) list c.loop-k.old.payloads c.loop-k.k c.loop-k.durable c.loop-k.log.steps inv.unwritten.same inv.payloads below inv.replayed
    (λ bs is.
    let judged = c.requires.judged bs is in (judged.0, subst (λ (h : Header). IsOldLog h list judged.0) (sym inv.genesis) judged.1)) inv.copied _ c.in_err-entry.ensures.first_refusal)

pub append-requires : goal.append-requires
append-requires g c =
    let inv = c.loop-k.invariant in
    let e = c.in_ok-entry.entry in
    legal_more c.loop-k.log.genesis c.loop-k.durable c.loop-k.log.steps (stored_in e) inv.replayed inv.legal c.in_ok-entry.ensures.legal.0

pub loop-k-preserved : goal.loop-k-preserved
loop-k-preserved g c =
    let inv = c.loop-k.invariant in
    let read = c.in_ok-entry.ensures in
    let e = c.in_ok-entry.entry in
    let list = c.args.old.now.payloads in
    let x : Stored = stored_in e in
    let log = c.loop-k.log in
    let next = c.append.new.self in
    let added = c.in_ok-append.ensures in
    let first = g.D.Disk.bytes c.args.log.now.disk in
    let here : (bs : List ℕ) → g.D.Disk.bytes c.args.old.now.disk ≡ Some bs → IsOldEntryAt list c.loop-k.k e = λ bs is.
    subst (λ (l : List (List ℕ)). IsOldEntryAt l c.loop-k.k e) inv.payloads (if_some (g.D.Disk.bytes c.loop-k.old.disk) _ bs read.ok (inv.unwritten.same ∙ is)) in
    record {
      payloads = read.same.0 ∙ inv.payloads;
      running = read.same.1;
      unwritten = search rules;
      no_failure = read.no_failure ∙ inv.no_failure;
      log_running = added.running;
      genesis = added.like.genesis ∙ inv.genesis;
      counted = ap length added.ok.steps ∙ length-push log.steps x ∙ omega (arith, inv.counted);
      legal = subst (λ (h : Header). IsLegal h next.steps) (sym added.like.genesis) (subst (IsLegal log.genesis) (sym added.ok.steps) (legal_more log.genesis c.loop-k.durable log.steps x inv.replayed inv.legal read.legal.0));
      replayed = read.legal.1 ∙ replay_more log.genesis c.loop-k.durable log.steps x inv.replayed ∙ ap (replay log.genesis) (sym added.ok.steps) ∙ ap (λ (h : Header). replay h next.steps) (sym added.like.genesis);
      log_failure = added.no_failure ∙ inv.log_failure;
      tells = (λ s. inv.tells.0 (c.append.ensures.like.tells.0 s), λ s. c.append.ensures.like.tells.1 (inv.tells.1 s));
      durable = some_if first _ (λ cs at.
          let now = told_before first (g.D.Disk.bytes log.disk) cs (inv.tells.1, inv.tells.0) at in
          subst (LeavesEntries (g.D.Disk.images next.disk)) (sym (if_some (g.D.Disk.bytes log.disk) _ now.0 added.ok.entries now.1)) (if_some (g.D.Disk.bytes log.disk) _ now.0 added.durable now.1));
      copied = λ bs is.
          let so_far = inv.copied bs is in (
            so_far.0 ++ e ∷ [],
            old_texts_more list c.loop-k.k so_far.0 e so_far.1 (here bs is),
            added.ok.steps ∙ ap (λ (l : List Stored). l ++ x ∷ []) so_far.2 ∙ sym (steps_push so_far.0 e),
          );
      listed = λ bs is. some_if first _ (λ cs at.
          let now = told_before first (g.D.Disk.bytes log.disk) cs (inv.tells.1, inv.tells.0) at in
          subst (AreOldTexts (take (c.loop-k.k + 1) list)) (sym (if_some (g.D.Disk.bytes log.disk) _ now.0 added.ok.entries now.1))
          (old_texts_more list c.loop-k.k log.entries e (if_some first _ cs (inv.listed bs is) at) (here bs is)));
    }
