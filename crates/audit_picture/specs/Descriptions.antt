-- What a picture says to who does not see it.
use Rattle.std.specs.Prelude.{◌≡◌, ◌++◌, ℕ, List, Option, None, Some, codes, decimal}
use Rattle.culprit_search.specs.declared.report.Conflict.{Conflict}
use Rattle.verdict_format.specs.RuleNumbers.{rule_number}
use Rattle.audit_picture.specs.Digits.{short_id}
use Rattle.audit_picture.specs.Lanes.{rule_name}
use Rattle.audit_picture.specs.Series.{AreOf}
use Rattle.audit_picture.specs.declared.scene.Culprit.{Culprit}

-- ---- the conflict

unfoldable pub no_conflict_words : List ℕ
no_conflict_words = codes "No conflict."

-- by the digits of the two ids
unfoldable pub two_words : (first second : List ℕ) → List ℕ
two_words first second = codes "Conflict: blocks " ++ (first ++ (codes " and " ++ (second ++ codes " are both committed.")))

abbrev pub conflict_words : Option Conflict → List ℕ
conflict_words None = no_conflict_words
conflict_words (Some c) = two_words (short_id c.first) (short_id c.second)

-- ---- the culprits

-- who broke which rule, by votes in which views
unfoldable pub accused_words : Culprit → List ℕ
accused_words c =
    codes " Replica " ++ (decimal c.replica ++ (codes " broke rule " ++ (decimal (rule_number c.rule) ++ (codes ", " ++ (rule_name c.rule
    ++ (codes ", by votes in views " ++ (decimal c.earlier.view ++ (codes " and " ++ (decimal c.later.view ++ codes ".")))))))))

abbrev pub IsAccused : ℕ → Culprit → List ℕ → Type 0
IsAccused k c text = text ≡ accused_words c

abbrev pub AreAccused : List Culprit → List ℕ → Type 0
AreAccused culprits text = AreOf IsAccused 0 culprits text

-- ---- both

abbrev pub description_front : List ℕ
description_front = codes "<desc>"

abbrev pub description_end : List ℕ
description_end = codes "</desc>\n"

pub record IsDescription (conflict : Option Conflict) (culprits : List Culprit) (text : List ℕ) : Type 0 where
  pub accused : List ℕ
  pub are_accused : AreAccused culprits accused
  pub text_is : text ≡ description_front ++ conflict_words conflict ++ accused ++ description_end
