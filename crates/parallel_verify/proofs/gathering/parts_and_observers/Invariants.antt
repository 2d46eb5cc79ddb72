use Rattle.std.proofs.Common.{◌≡◌, ◌++◌}
use Rattle.std.specs.Prelude.{Ok}
use Rattle.std.specs.List.{AllZip}
use Rattle.parallel_verify.proofs.gathering.parts_and_observers.Given as goal

abbrev pub invariant-loop-part : goal.invariant-loop-part
invariant-loop-part g l = record {
  all : l.yielded ++ l.part-iterator.rest.items ≡ l.initial.part-iterator.rest.items;
  parts : AllZip (λ out p. out.0 ≡ Ok p) l.yielded l.parts.items;
  observers : AllZip (λ out o. out.1 ≡ o) l.yielded l.observers.items;
}
