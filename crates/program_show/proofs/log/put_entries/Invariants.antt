use Rattle.std.proofs.Common.{◌≡◌, take}
use Rattle.program_show.specs.Entries.{IsPayloadShown}
use Rattle.program_show.specs.Series.{AddsText, AreOf}
use Rattle.program_show.proofs.log.put_entries.Given as goal

abbrev pub invariant-loop-k : goal.invariant-loop-k
invariant-loop-k l = record {
  payloads : l.journal.payloads ≡ l.fn.journal.payloads;
  shown : AddsText l.fn.text.items l.text.items l.fn.marks.items l.marks.items (AreOf (IsPayloadShown l.committee) 0 (take l.k l.fn.journal.payloads));
}
