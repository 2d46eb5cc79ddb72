use Rattle.std.proofs.Common.{◌≡◌, None}
use Rattle.std.specs.List.{All}
use Rattle.base_wire.specs.Refusals.{first_of}
use Rattle.blocks.specs.Headers.{IsHeader}
use Rattle.handover_light.specs.LightProofReading.{bad_header, headers_in}
use Rattle.handover_light.proofs.format.headers_in.Given as goal

abbrev pub invariant-loop-k : goal.invariant-loop-k
invariant-loop-k l = record {
  read : l.headers.items ≡ headers_in l.bytes l.k;
  each : All IsHeader l.headers.items;
  good : first_of (bad_header l.bytes) l.k ≡ None;
}
