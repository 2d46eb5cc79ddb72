use Rattle.std.proofs.Common.{ℕ, IfOk, Some, subst}
use Rattle.vote_desk.specs.Exports.{IsOut}
use Rattle.vote_desk.specs.SomeDesk.{IsDeskOf, SomeDesk}
use Rattle.vote_desk.proofs.desk.Desk.export.Goals as goal

pub returns-clause-ok : goal.returns-clause-ok
returns-clause-ok g c =
    subst (λ (n : ℕ). IfOk c.export_from.result (λ frames. SomeDesk (IsDeskOf g.D.Disk g.N.DeskNaming.committee g.N.DeskNaming.replica g.N.DeskNaming.opening) (λ d. IsOut g.D.Disk.bytes d.log c.args.first n (Some c.args.copy.now.bytes) (Some c.export_from.new.copy.bytes) frames)))
    c.min.ensures c.export_from.ensures.ok
