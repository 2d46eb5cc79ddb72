-- A file that is refused is not named.
use Rattle.std.proofs.Common.{◌≡◌, List, ℕ, [], Result, Ok, Err, sym, ◌∙◌}
use Rattle.blocks.proofs.CommitteeLaws.{committee_again}
use Rattle.handover_steps.specs.Successors.{IsSuccessorRefusal}
use Rattle.handover_steps.specs.declared.file_refusal.SuccessorRefusal.{SuccessorRefusal}
use Rattle.handover_steps.specs.declared.file_refusal.SuccessorRefusal.TheVariants.{NotRead, Committee, OldKey}
use Rattle.watch_command.specs.Nexts.{IsNamed}

pub never_named : (refusal : SuccessorRefusal) (old payload file : List ℕ) → IsSuccessorRefusal [] old file refusal → IsNamed old payload file → ⊥
never_named NotRead old payload file none named = none
never_named (Committee r) old payload file refused named =
    let again = committee_again named.successor.0.members file named.successor.0.spelled in
    let other : Err r ≡ Ok file = sym refused ∙ again in
    let never : ⊥ = cc in never
never_named (OldKey key) old payload file refused named =
    let taken = refused.1.0 in
    named.successor.1 taken.slot taken.key taken.of
