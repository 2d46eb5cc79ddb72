use Rattle.std.proofs.Common.{◌<◌, min, arith}
use Rattle.vote_desk.specs.SomeDesk.{IsDeskOf}
use Rattle.log_handout.proofs.Pieces.{none_left}
use Rattle.log_handout.proofs.handout.copy_some.Goals as goal

pub returns-then-frames-eq0-clause-none : goal.returns-then-frames-eq0-clause-none
returns-then-frames-eq0-clause-none g c = λ _.
    let some : 0 < min c.args.most 64 = omega (arith, c.requires) in
    none_left g.D.Disk.bytes (IsDeskOf g.D.Disk g.N.DeskNaming.committee g.N.DeskNaming.replica g.N.DeskNaming.opening) c.args.first (min c.args.most 64) c.in_ok-piece.piece.items c.in_ok-piece.frames some c.if-frames-eq0.true c.in_ok-piece.ensures.copied
