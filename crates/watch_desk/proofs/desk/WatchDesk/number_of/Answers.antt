use Rattle.std.proofs.Common.{◌<◌, length, set, subst, sym}
use Rattle.watch_desk.specs.Desks.{WatchDesk}
use Rattle.watch_desk.specs.Opening.{IsOpenedAt}
use Rattle.watch_desk.proofs.Opened.{opened_known, opened_new}
use Rattle.watch_desk.proofs.desk.WatchDesk.number_of.Goals as goal

pub returns-in-Some : goal.returns-in-Some
returns-in-Some c =
    let d : WatchDesk = record { collected = c.self.inside.collector; sources = c.self.inside.sources.items; told = c.self.inside.told } in
    let there : c.args.i < length d.sources = subst (λ (e : WatchDesk). c.args.i < length e.sources) (sym c.self.view_is) c.requires in
    subst (λ (e : WatchDesk). IsOpenedAt e e c.args.i c.args.log c.in-Some.number) c.self.view_is
    (opened_known d c.args.i c.args.log c.in-Some.number c.index.result.now there c.index.ensures c.in-Some.ensures)

pub returns : goal.returns
returns c =
    let i = c.args.i in
    let d : WatchDesk = record { collected = c.self.inside.collector; sources = c.self.inside.sources.items; told = c.self.inside.told } in
    let there : i < length d.sources = subst (λ (e : WatchDesk). i < length e.sources) (sym c.self.view_is) c.requires in
    let new : WatchDesk = record { collected = c.also.new.self; sources = set c.self.inside.sources.items i c.begin.new.self; told = c.self.inside.told } in
    subst (λ (e : WatchDesk). IsOpenedAt e new i c.args.log c.logs-number.result) c.self.view_is
    (opened_new d c.also.new.self i c.args.log c.logs-number.result c.index.result.now c.index-2.result.now c.index_mut.result.now c.begin.new.self there
    c.index.ensures c.index-2.ensures c.index_mut.ensures.value c.in_default.ensures c.logs-number.ensures c.in_ok-also.ensures.ok c.in_ok-also.ensures.reports c.in_ok-also.ensures.gathered c.in_ok-begin.ensures.same c.in_ok-begin.ensures.logs)
