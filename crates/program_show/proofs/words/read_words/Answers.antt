use Rattle.std.proofs.Common.{◌≡◌, ◌⊎◌, ◌++◌, List, ℕ, inl, inr, refl, rules}
use Rattle.program_parts.specs.declared.no_fault.NoFault.{NoFault}
use Rattle.program_parts.specs.declared.program_fault.ProgramFault.{ProgramFault}
use Rattle.program_parts.specs.declared.program_fault.ProgramFault.TheVariants.{Memory, Usage}
use Rattle.program_show.specs.Words.{IsUsage, texts}
use Rattle.program_parts.proofs.Endings.{handed_on}
use Rattle.program_show.proofs.WordLists.{ask_for}
use Rattle.program_show.proofs.words.read_words.Goals as goal

pub returns-in_default-clause-refused : goal.returns-in_default-clause-refused
returns-in_default-clause-refused c = inl (refl, c.in_default.ensures.none (search rules))

pub returns-in_err-files_of-clause-refused : goal.returns-in_err-files_of-clause-refused
returns-in_err-files_of-clause-refused c =
    let words = c.args.words.now in
    let parts = c.in-Some.parts in
    handed_on c.from_residual.result (λ fault. ((fault ≡ Usage) × IsUsage words) ⊎ ((fault ≡ Memory) × (IsUsage words → ⊥))) Memory c.from_residual.ensures.1
    (inr (refl, λ usage. usage _ _ (ask_for words parts.front.now _ parts.behind.now (texts parts.front.now ++ texts parts.behind.now) c.in-Some.ensures.some refl)))
