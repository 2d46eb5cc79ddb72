-- What hs_show says of itself.
use Rattle.std.specs.Prelude.{◌++◌, ℕ, List, codes}
use Rattle.program_help.specs.Helps.{version_text}
use Rattle.program_help.specs.declared.asking.Asked.{Asked}
use Rattle.program_help.specs.declared.asking.Asked.TheVariants as asked

abbrev pub show_text : Asked → List ℕ
show_text asked.Help = codes "hs_show FILE.. [--committee C]\nhs_show --statement VERDICT --committee C\nhs_show --statement VERDICT --lineage DIR --committee C0\nhs_show --explain LINE..\nhs_show --help\nhs_show --version\n"
show_text asked.Version = codes "hs_show " ++ version_text ++ codes "\n"
