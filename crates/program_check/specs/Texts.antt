-- The lines that the program prints, each ended by a line feed.
use Rattle.std.specs.Prelude.{ℕ, List, [], ◌∷◌, ◌++◌, codes, decimal}
use Rattle.verdict_format.specs.Verdicts.{verdict_kind_in, replica_in, later_in}
use Rattle.verdict_checker.specs.Checks.{refusal_number, refusal_name}
use Rattle.verdict_checker.specs.declared.refusal.Refusal.{Refusal}

-- "accepted replica R rule K view V"
abbrev pub accepted_text : ℕ → ℕ → ℕ → List ℕ
accepted_text replica rule view =
    codes "accepted replica " ++ decimal replica ++ codes " rule " ++ decimal rule ++ codes " view " ++ decimal view ++ 10 ∷ []

-- of a verdict, with its replica, its rule and the view of its later vote
abbrev pub accepted_line : List ℕ → List ℕ
accepted_line verdict = accepted_text (replica_in verdict) (verdict_kind_in verdict) (later_in verdict).view

-- "refused N NAME"
abbrev pub refused_line : Refusal → List ℕ
refused_line r = codes "refused " ++ decimal (refusal_number r) ++ codes " " ++ refusal_name r ++ 10 ∷ []
