-- What a program says of itself.
use Rattle.std.specs.Prelude.{◌≡◌, ◌⊎◌, ◌++◌, ℕ, List, String, codes, map, string_bytes}
use Rattle.std.specs.declared.alloc.Global.{Global}
use Rattle.program_parts.specs.declared.no_fault.NoFault.{NoFault}
use Rattle.program_parts.specs.declared.program_fault.ProgramFault.{ProgramFault}
use Rattle.program_parts.specs.declared.program_fault.ProgramFault.TheVariants as fault
use Rattle.program_help.specs.declared.asking.Asked.{Asked}
use Rattle.program_help.specs.declared.asking.Asked.TheVariants as asked
use Rattle.program_help.specs.declared.help.Help.{Help}

abbrev pub texts : List (String Global) → List (List ℕ)
texts words = map (λ w. string_bytes w) words

-- the word that asks
abbrev pub word_of : Asked → List ℕ
word_of asked.Help = codes "--help"
word_of asked.Version = codes "--version"

-- that of the file VERSION
abbrev pub version_text : List ℕ
version_text = codes "0.9.0"

unfoldable pub version_line : Help → List ℕ
version_line help = help.name.now ++ codes " " ++ version_text ++ codes "\n"

abbrev pub answer_text : Help → Asked → List ℕ
answer_text help asked.Help = help.text.now
answer_text help asked.Version = version_line help

-- memory was refused, or the output takes no more
abbrev pub IsHelpFault : ProgramFault NoFault → Type 0
IsHelpFault f = (f ≡ fault.Memory) ⊎ (f ≡ fault.Output)
