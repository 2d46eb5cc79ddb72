-- The culprits in a picture.
use Rattle.std.specs.Prelude.{◌≡◌, ◌⊎◌, ◌++◌, ℕ, List, [], ◌∷◌, codes, decimal}
use Rattle.verdict_format.specs.RuleNumbers.{rule_number}
use Rattle.verdict_format.specs.VerdictText.{IsVerdictOf, verdict_kind}
use Rattle.verdict_format.specs.declared.parts.BoundVote.{BoundVote}
use Rattle.verdict_format.specs.declared.parts.VerdictParts.{VerdictParts}
use Rattle.audit_picture.specs.Digits.{short_id, whole_id}
use Rattle.audit_picture.specs.Series.{AreOf}
use Rattle.audit_picture.specs.declared.lanes.TheConstants.{VOTE_HEIGHT, VOTE_WIDTH}
use Rattle.audit_picture.specs.declared.layout.TheConstants.{MARGIN}
use Rattle.audit_picture.specs.declared.scene.Culprit.{Culprit}
use Rattle.audit_picture.specs.declared.scene.Mark.{Mark}
use Rattle.verdict_format.specs.declared.verdict.Rule.{Rule}
use Rattle.verdict_format.specs.declared.verdict.Rule.TheVariants.{DoubleVote, LockViolation}

abbrev pub rule_name : Rule → List ℕ
rule_name DoubleVote = codes "double vote"
rule_name LockViolation = codes "lock violation"

-- ---- the culprits of verdicts

pub record IsMarkOf (v : BoundVote) (m : Mark) : Type 0 where
  pub view : m.view ≡ v.view
  pub id : m.id ≡ v.id

-- whom a verdict accuses, of what, and by which votes
pub record IsCulpritOf (verdict : List ℕ) (c : Culprit) : Type 0 where
  pub parts : VerdictParts
  pub spelled : IsVerdictOf verdict parts
  pub replica : c.replica ≡ parts.replica
  pub rule : rule_number c.rule ≡ verdict_kind parts.shown
  pub earlier : IsMarkOf parts.earlier c.earlier
  pub later : IsMarkOf parts.later c.later

-- ---- a vote

-- its tooltip: the block, by the digits of its whole id, and the view
unfoldable pub vote_title : (id : List ℕ) (view : ℕ) → List ℕ
vote_title id view = codes "<g class=\"vote\">\n<title>vote for block " ++ (id ++ (codes "\nview " ++ (decimal view ++ codes "</title>\n")))

unfoldable pub vote_frame : (x y : ℕ) → List ℕ
vote_frame x y =
    codes "<rect x=\"" ++ (decimal x ++ (codes "\" y=\"" ++ (decimal y ++ (codes "\" width=\"" ++ (decimal VOTE_WIDTH
    ++ (codes "\" height=\"" ++ (decimal VOTE_HEIGHT ++ codes "\" rx=\"11\"/>\n")))))))

-- the block's first digits in the frame
unfoldable pub vote_words : (x y : ℕ) (digits : List ℕ) → List ℕ
vote_words x y digits =
    codes "<text class=\"id\" x=\"" ++ (decimal x ++ (codes "\" y=\"" ++ (decimal y ++ (codes "\">" ++ (digits ++ codes "</text>\n</g>\n")))))

-- wherever it stands
pub record IsVote (mark : Mark) (text : List ℕ) : Type 0 where
  pub left : ℕ
  pub top : ℕ
  pub middle : ℕ
  pub line : ℕ
  pub text_is : text ≡ vote_title (whole_id mark.id) mark.view ++ vote_frame left top ++ vote_words middle line (short_id mark.id)

-- ---- whose votes they are, and what they break

unfoldable pub replica_line : (y replica : ℕ) → List ℕ
replica_line y replica =
    codes "<text class=\"culprit\" x=\"" ++ (decimal MARGIN ++ (codes "\" y=\"" ++ (decimal y ++ (codes "\">replica " ++ (decimal replica
    ++ codes "</text>\n")))))

unfoldable pub rule_line : (y rule : ℕ) → List ℕ
rule_line y rule =
    codes "<text class=\"small\" x=\"" ++ (decimal MARGIN ++ (codes "\" y=\"" ++ (decimal y ++ (codes "\">rule " ++ (decimal rule
    ++ codes ":</text>\n")))))

unfoldable pub broken_line : (y : ℕ) (words : List ℕ) → List ℕ
broken_line y words =
    codes "<text class=\"small\" x=\"" ++ (decimal MARGIN ++ (codes "\" y=\"" ++ (decimal y ++ (codes "\">" ++ (words ++ codes "</text>\n")))))

abbrev pub IsName : Culprit → List ℕ → Type 0
IsName c text =
    (first : ℕ) × (second : ℕ) × (third : ℕ)
    × (text ≡ replica_line first c.replica ++ rule_line second (rule_number c.rule) ++ broken_line third (rule_name c.rule))

-- once more in a wide picture
unfoldable pub beside_line : (x y replica rule : ℕ) → List ℕ
beside_line x y replica rule =
    codes "<text class=\"beside\" x=\"" ++ (decimal x ++ (codes "\" y=\"" ++ (decimal y ++ (codes "\">replica " ++ (decimal replica
    ++ (codes ", rule " ++ (decimal rule ++ codes "</text>\n")))))))

abbrev pub IsBeside : Culprit → List ℕ → Type 0
IsBeside c text = (text ≡ []) ⊎ ((x : ℕ) × (y : ℕ) × (text ≡ beside_line x y c.replica (rule_number c.rule)))

-- ---- a culprit

unfoldable pub lane_frame : (x y width height : ℕ) → List ℕ
lane_frame x y width height =
    codes "<g class=\"lane\">\n<rect class=\"lane\" x=\"" ++ (decimal x ++ (codes "\" y=\"" ++ (decimal y ++ (codes "\" width=\"" ++ (decimal width
    ++ (codes "\" height=\"" ++ (decimal height ++ codes "\" rx=\"6\"/>\n")))))))

unfoldable pub pair_line : (x y x' y' : ℕ) → List ℕ
pair_line x y x' y' =
    codes "<path class=\"pair\" d=\"M" ++ (decimal x ++ (codes " " ++ (decimal y ++ (codes "L" ++ (decimal x' ++ (codes " " ++ (decimal y'
    ++ codes "\"/>\n")))))))

-- the name and the two votes of a culprit
pub record IsLane (k : ℕ) (c : Culprit) (text : List ℕ) : Type 0 where
  pub left : ℕ
  pub top : ℕ
  pub width : ℕ
  pub height : ℕ
  pub name : List ℕ
  pub is_name : IsName c name
  pub from : ℕ
  pub above : ℕ
  pub to : ℕ
  pub below : ℕ
  pub beside : List ℕ
  pub is_beside : IsBeside c beside
  pub earlier : List ℕ
  pub is_earlier : IsVote c.earlier earlier
  pub later : List ℕ
  pub is_later : IsVote c.later later
  pub text_is : text ≡ lane_frame left top width height ++ name ++ pair_line from above to below ++ beside ++ earlier ++ later ++ codes "</g>\n"

-- one below the other
abbrev pub AreLanes : List Culprit → List ℕ → Type 0
AreLanes culprits text = AreOf IsLane 0 culprits text

unfoldable pub lanes_head : (y : ℕ) → List ℕ
lanes_head y =
    codes "<text class=\"part\" x=\"" ++ (decimal MARGIN ++ (codes "\" y=\"" ++ (decimal y
    ++ codes "\">Culprits, and the two votes by which each broke a rule</text>\n")))

-- all culprits, under a headline where there are any
abbrev pub IsCulpritsText : List Culprit → List ℕ → Type 0
IsCulpritsText [] text = text ≡ []
IsCulpritsText (c ∷ cs) text = (y : ℕ) × (rows : List ℕ) × AreLanes (c ∷ cs) rows × (text ≡ lanes_head y ++ rows)
