use Rattle.std.proofs.Common.{take}
use Rattle.program_show.specs.Entries.{IsVoterPart}
use Rattle.program_show.specs.Series.{AddsText, AreOf}
use Rattle.program_show.proofs.entry.put_voters.Given as goal

abbrev pub invariant-loop-k : goal.invariant-loop-k
invariant-loop-k l =
    AddsText l.fn.text.items l.text.items l.fn.marks.items l.marks.items (AreOf (IsVoterPart l.committee l.certificate) 0 (take l.k l.certificate.entries))
