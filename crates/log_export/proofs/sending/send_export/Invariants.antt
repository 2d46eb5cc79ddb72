use Rattle.std.proofs.Common.{◌≡◌, ◌++◌, take}
use Rattle.std.specs.Prelude.{codes}
use Rattle.std.specs.List.{flat_map}
use Rattle.base_streams.specs.Streams.{Wrote}
use Rattle.log_export.specs.Sent.{cut_text}
use Rattle.log_export.proofs.sending.send_export.Given as goal

abbrev pub invariant-loop-k : goal.invariant-loop-k
invariant-loop-k g l = record {
  failed : g.W.Sink.failed l.sink ≡ g.W.Sink.failed l.fn.sink;
  wrote : Wrote (g.W.Sink.text l.fn.sink) (g.W.Sink.text l.sink) (cut_text (take l.k l.front.payloads));
}
