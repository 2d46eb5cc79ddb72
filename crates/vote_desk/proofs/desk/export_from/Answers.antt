use Rattle.std.proofs.Common.{Some}
use Rattle.vote_log.specs.LogExport.{IsExportRefusal}
use Rattle.vote_desk.specs.SomeDesk.{IsDeskOf}
use Rattle.vote_desk.specs.Exports.{IsOut, RefusesExport}
use Rattle.vote_desk.proofs.Moments.{refused_so, some_desk, some_err}
use Rattle.vote_desk.proofs.OnlyRead.{blamed}
use Rattle.vote_desk.proofs.desk.export_from.Goals as goal

pub returns-clause-ok : goal.returns-clause-ok
returns-clause-ok g c =
    let d = c.export-frames in
    some_desk (IsDeskOf g.D.Disk g.N.DeskNaming.committee g.N.DeskNaming.replica g.N.DeskNaming.opening) c.args.state.now d.new.self (record { keeps = c.core-core.ensures.keeps; stay = c.core-core.ensures.stay })
    (λ frames x. IsOut g.D.Disk.bytes x.log c.args.first c.args.most (Some c.args.copy.now.bytes) (Some d.new.sink.bytes) frames) d.result d.ensures.ok

pub returns-clause-refused : goal.returns-clause-refused
returns-clause-refused g c =
    let o = c.args.state.now in
    let d = c.export-frames in
    some_err (IsDeskOf g.D.Disk g.N.DeskNaming.committee g.N.DeskNaming.replica g.N.DeskNaming.opening) o d.new.self (record { keeps = c.core-core.ensures.keeps; stay = c.core-core.ensures.stay }) (record { keeps = c.core-core-2.ensures.keeps; stay = c.core-core-2.ensures.stay }) (RefusesExport g.D.Disk c.args.first c.args.most) d.result
    (refused_so (IsExportRefusal o.log c.args.first c.args.most) (λ e. RefusesExport g.D.Disk c.args.first c.args.most e o d.new.self) d.result d.ensures.first_refusal
    (λ e is refused. record { refused = refused; read = d.ensures.same; cause = blamed _ _ _ _ e d.result is d.ensures.cause }))
