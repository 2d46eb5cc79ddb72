use Rattle.std.proofs.Common.{◌≢◌, take}
use Rattle.std.specs.List.{All}
use Rattle.blocks.specs.Headers.{header_id}
use Rattle.test_ancestry.proofs.ancestry_tests.are_others.Given as goal

abbrev pub invariant-loop-h : goal.invariant-loop-h
invariant-loop-h l = All (λ h. header_id h ≢ header_id l.genesis) (take l.h-index l.headers)
