use Rattle.std.proofs.Common.{◌<◌, length, set, subst, sym}
use Rattle.watch_desk.specs.Desks.{WatchDesk}
use Rattle.watch_desk.specs.Opening.{IsNotedAt}
use Rattle.watch_desk.specs.Taking.{IsBack}
use Rattle.watch_desk.specs.declared.source.SourceKnown.{SourceKnown}
use Rattle.watch_desk.proofs.Opened.{noted_at}
use Rattle.watch_desk.proofs.desk.WatchDesk.go_back.Goals as goal

pub returns : goal.returns
returns c =
    let i = c.args.i in
    let Is : SourceKnown → SourceKnown → Type 0 = λ before after. IsBack before after i c.args.round c.args.second c.args.had c.go_back.result in
    let d : WatchDesk = record { collected = c.self.inside.collector; sources = c.self.inside.sources.items; told = c.self.inside.told } in
    let there : i < length d.sources = subst (λ (e : WatchDesk). i < length e.sources) (sym c.self.view_is) c.requires in
    let new : WatchDesk = record { collected = c.self.inside.collector; sources = set c.self.inside.sources.items i c.go_back.new.self; told = c.self.inside.told } in
    subst (λ (e : WatchDesk). IsNotedAt Is i e new) c.self.view_is (noted_at Is d i c.index_mut.result.now c.go_back.new.self there c.index_mut.ensures.value c.go_back.ensures)
