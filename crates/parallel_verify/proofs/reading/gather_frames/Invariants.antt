use Rattle.std.proofs.Common.{◌≡◌, ◌≤◌, ◌-◌, ℕ, List, None}
use Rattle.log_transfer.specs.Places.{IsCaused}
use Rattle.blocks.specs.Genesis.{genesis_of}
use Rattle.parallel_verify.specs.Collections.{IsGathering, reader_at, tally_of}
use Rattle.parallel_verify.proofs.Collected.{IsSeen}
use Rattle.parallel_verify.proofs.reading.gather_frames.Given as goal

abbrev pub invariant-loop-pull : goal.invariant-loop-pull
invariant-loop-pull g l = record {
  most : l.pull.place.held ≤ 4096;
  held : l.pull.place.held ≡ l.frames;
  few : l.entries ≤ l.frames;
  so_far : IsGathering (λ (fs : List (List ℕ)). IsSeen (g.O.Observer.told l.fn.observer l.observer) (genesis_of l.fn.gathered.committee) l.frames l.entries l.steps fs None) (reader_at (g.C.Connector.gives l.fn.pull.connector) (g.C.Connector.left l.fn.pull.connector) l.fn.pull.place)
      (reader_at (g.C.Connector.gives l.pull.connector) (g.C.Connector.left l.pull.connector) l.pull.place) l.fn.gathered l.gathered (tally_of l.replica l.frames l.entries);
  reached : g.C.Connector.reaches l.fn.pull.connector l.pull.connector;
  caused : IsCaused (g.C.Connector.failed l.fn.pull.connector) (g.C.Connector.failed l.pull.connector) l.pull.place;
}

abbrev pub decreases-loop-pull : goal.decreases-loop-pull
decreases-loop-pull g l = 4096 - l.pull.place.held
