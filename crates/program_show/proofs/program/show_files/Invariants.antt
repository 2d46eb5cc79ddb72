use Rattle.std.proofs.Common.{◌≡◌, List, ℕ, take}
use Rattle.base_streams.specs.Streams.{Wrote}
use Rattle.program_show.specs.Showing.{ArePrinted}
use Rattle.program_show.specs.Words.{paths_in}
use Rattle.program_show.proofs.program.show_files.Given as goal

abbrev pub invariant-loop-path : goal.invariant-loop-path
invariant-loop-path g l = record {
  shown : (text : List ℕ) × ArePrinted l.committee (take l.path-index (paths_in l.paths)) text l.are_whole
      × Wrote (g.W.Sink.text l.fn.out) (g.W.Sink.text l.out) text;
  unfailed : g.W.Sink.failed l.out ≡ g.W.Sink.failed l.fn.out;
}
