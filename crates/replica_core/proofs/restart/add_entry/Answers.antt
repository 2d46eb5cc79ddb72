use Rattle.std.proofs.Common.{ap, subst, ◌∙◌}
use Rattle.blocks.specs.Headers.{Header}
use Rattle.blocks.specs.Replica.{Stored}
use Rattle.replica_core.specs.Tables.{AddsFirst}
use Rattle.replica_core.proofs.restart.add_entry.Goals as goal

pub returns : goal.returns
returns c =
    let old = c.args.known.now.headers in
    let middle = c.add_first.new.self.headers in
    let new = c.add_first-2.new.self.headers in
    let block = c.of.ensures ∙ ap (λ (x : Stored). x.block) c.entry.view_is in
    let parent = c.of-2.ensures ∙ ap (λ (x : Stored). x.parent) c.entry.view_is in
    record {
      ok = (
        middle,
        subst (λ (h : Header). AddsFirst old middle h) block c.in_ok-add_first.ensures.ok,
        subst (λ (h : Header). AddsFirst middle new h) parent c.in_ok-add_first-2.ensures.ok,
      );
    }
