-- What is told of words by which a signer is not called.
use Rattle.std.specs.Prelude.{◌≡◌, List, None, Some, String}
use Rattle.std.specs.declared.alloc.Global.{Global}
use Rattle.program_parts.specs.declared.program_fault.ProgramFault.{ProgramFault}
use Rattle.program_parts.specs.declared.program_fault.ProgramFault.TheVariants as program
use Rattle.signer_command.specs.WrongWords.{IsFirstWrong}
use Rattle.signer_command.specs.declared.fault.SignerFault.{SignerFault}
use Rattle.signer_command.specs.declared.fault.SignerFault.TheVariants.{Word}
use Rattle.signer_command.specs.declared.wrong_words.Awaited.TheVariants as awaits
use Rattle.signer_command.specs.declared.wrong_words.Named.TheVariants.{Committee}

-- the first word that is wrong by itself, or that none is
abbrev pub IsUsageFault : List (String Global) → ProgramFault SignerFault → Type 0
IsUsageFault words (program.Own (Word word)) = IsFirstWrong (awaits.Word Committee) words (Some word.now)
IsUsageFault words program.Usage = IsFirstWrong (awaits.Word Committee) words None
IsUsageFault words fault = ⊥

-- .. or memory was refused
abbrev pub IsWordsFault : List (String Global) → ProgramFault SignerFault → Type 0
IsWordsFault words program.Memory = Unit {0}
IsWordsFault words fault = IsUsageFault words fault
