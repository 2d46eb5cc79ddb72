use Rattle.std.proofs.Common.{◌∙◌, min}
use Rattle.vote_desk.specs.SomeDesk.{IsDeskOf}
use Rattle.log_handout.proofs.Pieces.{frames_out}
use Rattle.log_handout.proofs.handout.copy_frames.Goals as goal

pub returns-clause-copied : goal.returns-clause-copied
returns-clause-copied g c =
    frames_out g.D.Disk.bytes (IsDeskOf g.D.Disk g.N.DeskNaming.committee g.N.DeskNaming.replica g.N.DeskNaming.opening) c.args.first (min c.args.most 64) c.in_ok-frames.frames
    c.new-copy.result.bytes c.export.new.copy.bytes c.in_ok-piece.piece.items c.new-copy.ensures.bytes
    (λ mid count is. c.in_ok-piece.ensures.cut mid count (c.bytes.ensures ∙ is)) (c.in_ok-frames.ensures.ok)
