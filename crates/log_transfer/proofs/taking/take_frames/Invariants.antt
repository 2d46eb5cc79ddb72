use Rattle.std.proofs.Common.{◌≡◌, ◌≤◌, ◌-◌, ℕ, List, length, take, drop}
use Rattle.log_transfer.specs.Pulled.{IsSoFar}
use Rattle.log_transfer.proofs.taking.take_frames.Given as goal

abbrev pub invariant-loop-payload : goal.invariant-loop-payload
invariant-loop-payload l = record {
  within : length l.rest ≤ length l.text;
  behind : l.rest ≡ drop (length l.text - length l.rest) l.text;
  kept : take (length l.fn.frames.items) l.frames.items ≡ l.fn.frames.items;
  so_far : (stream : List ℕ) → IsSoFar l.held stream l.fn.frames.items l.text → IsSoFar l.held stream l.frames.items l.rest;
}

abbrev pub decreases-loop-payload : goal.decreases-loop-payload
decreases-loop-payload l = length l.rest
