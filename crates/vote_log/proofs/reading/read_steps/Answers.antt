use Rattle.std.proofs.Common.{◌≡◌, ◌<◌, ◌++◌, ◌∷◌, [], List, ℕ, length, take, ◌+◌, rules, arith, sym, ap, subst, ◌∙◌}
use Rattle.std.proofs.lemmas.Result.{err_from_is_err_and}
use Rattle.blocks.specs.Replica.{Stored}
use Rattle.blocks.specs.Replay.{IsLegal, IsLegalEntry, replay}
use Rattle.stable_log.proofs.Told.{some_if, if_some}
use Rattle.log_format.specs.EntryText.{Entry, stored_in}
use Rattle.vote_log.specs.Logs.{AreTexts, IsEntryAt, IsFirstIllegal}
use Rattle.vote_log.proofs.LogLaws.{length-push, legal_more, replay_more, texts_more, first_illegal}
use Rattle.vote_log.proofs.StepFaults.{steps_fault}
use Rattle.vote_log.proofs.reading.read_steps.Goals as goal

pub returns-in_err-read_entry-clause-first_refusal :
    goal.returns-in_err-read_entry-clause-first_refusal
returns-in_err-read_entry-clause-first_refusal g c =
    let inv = c.loop-k.invariant in
    let list = c.args.journal.now.payloads in
    let below : c.loop-k.k < length list = omega (arith, ap length inv.payloads) in
    let p = err_from_is_err_and c.from_residual.result c.from_residual.ensures.1 in
    rw (p.1, p.2) (steps_fault c.args.genesis.now (g.D.Disk.bytes c.args.journal.now.disk) (g.D.Disk.bytes c.loop-k.journal.disk) c.loop-k.journal list c.loop-k.k c.loop-k.steps.items inv.unwritten.same inv.payloads inv.running below inv.legal inv.read _ c.in_err-read_entry.ensures.first_refusal)

pub returns-then-not-allows-clause-first_refusal :
    goal.returns-then-not-allows-clause-first_refusal
returns-then-not-allows-clause-first_refusal g c =
    let inv = c.loop-k.invariant in
    let genesis = c.args.genesis.now in
    let list = c.args.journal.now.payloads in
    let e : Entry = c.in_ok-read_entry.field-0 in
    let x : Stored = c.stored-stored.result in
    let below : c.loop-k.k < length list = omega (arith, ap length inv.payloads) in
    let fails : IsLegalEntry c.loop-k.durable x.voted x.block x.parent → ⊥ = search rules in
    let fails_here : IsLegalEntry c.loop-k.durable (stored_in e).voted e.block e.parent → ⊥ =
    subst (λ (s : Stored). IsLegalEntry c.loop-k.durable s.voted s.block s.parent → ⊥) c.stored-stored.ensures fails in
    some_if (g.D.Disk.bytes c.args.journal.now.disk) (λ _. IsFirstIllegal genesis list c.loop-k.k) (λ bs is.
    let here : IsEntryAt c.loop-k.journal.payloads c.loop-k.k e = if_some (g.D.Disk.bytes c.loop-k.journal.disk) _ bs c.in_ok-read_entry.ensures.ok (inv.unwritten.same ∙ is) in
    first_illegal genesis list c.loop-k.k c.loop-k.steps.items c.loop-k.durable e below (inv.read bs is) inv.legal inv.replayed (subst (λ (l : List (List ℕ)). IsEntryAt l c.loop-k.k e) inv.payloads here) fails_here)

pub loop-k-preserved : goal.loop-k-preserved
loop-k-preserved g c =
    let inv = c.loop-k.invariant in
    let genesis = c.args.genesis.now in
    let read = c.in_ok-read_entry.ensures in
    let e : Entry = c.in_ok-read_entry.field-0 in
    let x : Stored = c.stored-stored.result in
    let steps = c.loop-k.steps.items in
    let pushed : c.push.new.self.items ≡ steps ++ x ∷ [] = search rules in
    let here : IsLegalEntry c.loop-k.durable x.voted x.block x.parent = search rules in
    record {
      payloads = read.same.0 ∙ inv.payloads;
      running = read.same.1 ∙ inv.running;
      unwritten = search rules;
      no_failure = read.no_failure ∙ inv.no_failure;
      counted = ap length pushed ∙ length-push steps x ∙ omega (arith, inv.counted);
      legal = subst (IsLegal genesis) (sym pushed) (legal_more genesis c.loop-k.durable steps x inv.replayed inv.legal here);
      replayed = c.take.ensures ∙ replay_more genesis c.loop-k.durable steps x inv.replayed ∙ ap (replay genesis) (sym pushed);
      read = λ bs is.
          let at : IsEntryAt c.loop-k.journal.payloads c.loop-k.k e = if_some (g.D.Disk.bytes c.loop-k.journal.disk) _ bs read.ok (inv.unwritten.same ∙ is) in
          subst (λ (l : List Stored). AreTexts (take (c.loop-k.k + 1) c.args.journal.now.payloads) l) (ap (λ (s : Stored). steps ++ s ∷ []) (sym c.stored-stored.ensures) ∙ sym pushed)
          (texts_more c.args.journal.now.payloads c.loop-k.k steps e (inv.read bs is) (subst (λ (l : List (List ℕ)). IsEntryAt l c.loop-k.k e) inv.payloads at));
    }
