use Rattle.std.proofs.Common.{◌≡◌, length}
use Rattle.handover_renewals.specs.Endorsed.{texts_of}
use Rattle.handover_renewals.specs.Composing.{file_upto}
use Rattle.handover_renewals.proofs.file.composed_file.Given as goal

abbrev pub invariant-loop-s : goal.invariant-loop-s
invariant-loop-s l = record {
  file : l.file.items ≡ file_upto l.old (texts_of l.endorsements) l.s;
  long : length l.file.items ≡ length l.old;
}
