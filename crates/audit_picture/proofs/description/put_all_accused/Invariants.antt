use Rattle.std.proofs.Common.{take, string_bytes}
use Rattle.audit_picture.specs.Descriptions.{AreAccused}
use Rattle.audit_picture.specs.Series.{Adds}
use Rattle.audit_picture.proofs.description.put_all_accused.Given as goal

abbrev pub invariant-loop-index : goal.invariant-loop-index
invariant-loop-index l = Adds (string_bytes l.initial.text) (string_bytes l.text) (AreAccused (take l._index l.culprits))
