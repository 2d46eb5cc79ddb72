-- From a stay at the desk to a run of the signer.
use Rattle.std.proofs.Common.{◌≡◌, ℕ, List, Option, Result, Ok, Err, OnOk, OnErr, IfOk, IfErr, refl, length}
use Rattle.stable_log.specs.declared.disk.Disk.{Ghosts}
use Rattle.base_streams.specs.Streams.{Wrote, WrotePart}
use Rattle.vote_desk.specs.declared.parts.Closed.{Closed}
use Rattle.program_parts.specs.declared.program_fault.ProgramFault.TheVariants as program
use Rattle.signer_command.specs.Ends.{Fault, IsGivenUp, IsRun, IsStay, ended_of}
use Rattle.signer_command.specs.Lines.{closed_line}
use Rattle.signer_command.specs.declared.program.Ended.{Ended}
use Rattle.signer_command.proofs.Printing.{all_printed, given_up_writing, part_of_last}

-- the last line behind a stay
pub ran : {D : Type 0} (disk : Ghosts D) (r : Result Ended Fault) (before mid after : Option (List ℕ)) (closed : Closed D) → IsStay before mid closed
    → IfOk r (λ ended. ended ≡ ended_of closed) → OnOk r (Wrote mid after (closed_line (length closed.parts.log.steps)))
    → IfOk r (IsRun disk before after)
ran disk (Ok ended) before mid after closed stay ends wrote = record {
  places = stay.places;
  closed = closed;
  backed = stay.backed;
  ends = ends;
  wrote = all_printed before mid after stay.places (length closed.parts.log.steps) _ stay.wrote wrote refl;
}
ran disk (Err fault) before mid after closed stay ends wrote = tt

-- .. or a part of it
pub gave_up_last : {D : Type 0} (r : Result Ended Fault) (before mid after : Option (List ℕ)) (closed : Closed D) → IsStay before mid closed
    → IfErr r (λ fault. fault ≡ program.Output) → OnErr r (WrotePart mid after (closed_line (length closed.parts.log.steps)))
    → IfErr r (λ fault. IsGivenUp fault before after)
gave_up_last (Ok ended) before mid after closed stay is wrote = tt
gave_up_last (Err fault) before mid after closed stay is wrote =
    given_up_writing fault before after is (part_of_last before mid after stay.places _ stay.wrote wrote)
