-- What hs_show says of itself.
use Rattle.std.proofs.Common.{◌≡◌, ◌++◌, ℕ, List, codes, ap}
use Rattle.program_help.specs.Helps.{answer_text, version_line, version_text}
use Rattle.program_help.specs.declared.asking.Asked.{Asked}
use Rattle.program_help.specs.declared.asking.Asked.TheVariants as asked
use Rattle.program_help.specs.declared.help.Help.{Help}
use Rattle.program_about.specs.Versions.{show_text}

pub told_as : (help : Help) → help.name.now ≡ codes "hs_show" → help.text.now ≡ show_text asked.Help → (a : Asked) → answer_text help a ≡ show_text a
told_as help name text asked.Help = text
told_as help name text asked.Version = unfold version_line in ap (λ (n : List ℕ). n ++ codes " " ++ version_text ++ codes "\n") name
