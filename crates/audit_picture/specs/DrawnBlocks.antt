-- The blocks in a picture.
use Rattle.std.specs.Prelude.{◌≡◌, ◌++◌, ℕ, List, [], Bool, true, false, Option, None, Some, codes, decimal, nat_lt, if◌then◌else◌}
use Rattle.blocks.specs.Headers.{Header, header_id}
use Rattle.handover_blocks.specs.Handovers.{IsHandover}
use Rattle.audit_picture.specs.Digits.{short_id, whole_id}
use Rattle.audit_picture.specs.Series.{AreOf}
use Rattle.audit_picture.specs.declared.layout.TheConstants.{BLOCK_HEIGHT, BLOCK_WIDTH}
use Rattle.audit_picture.specs.declared.scene.Block.{Block}
use Rattle.audit_picture.specs.declared.scene.Standing.{Standing}
use Rattle.audit_picture.specs.declared.scene.Standing.TheVariants.{Genesis, Uncertified, Certified, Committed, Conflicting}

-- ---- what is proved of a block, in words

-- for the style of its frame
abbrev pub class_name : Standing → List ℕ
class_name Genesis = codes "genesis"
class_name Uncertified = codes "uncertified"
class_name Certified = codes "certified"
class_name Committed = codes "committed"
class_name Conflicting = codes "conflict"

abbrev pub standing_words : Standing → List ℕ
standing_words Genesis = codes "genesis"
standing_words Uncertified = codes "not certified"
standing_words Certified = codes "certified"
standing_words Committed = codes "committed"
standing_words Conflicting = codes "committed"

-- ---- its tooltip

unfoldable pub named_text : (id : List ℕ) (view : ℕ) → List ℕ
named_text id view = codes "<title>block " ++ (id ++ (codes "\nview " ++ decimal view))

unfoldable pub parent_text : (parent : List ℕ) (view votes replicas : ℕ) → List ℕ
parent_text parent view votes replicas =
    codes "\nparent " ++ (parent ++ (codes " view " ++ (decimal view ++ (codes "\nvotes " ++ (decimal votes
    ++ (codes " of " ++ decimal replicas))))))

abbrev pub votes_weight : ℕ → Option ℕ → List ℕ
votes_weight weight None = []
votes_weight weight (Some total) = codes "\nweight " ++ (decimal weight ++ (codes " of " ++ decimal total))

abbrev pub unless_genesis : Standing → List ℕ → List ℕ
unless_genesis Genesis text = []
unless_genesis Uncertified text = text
unless_genesis Certified text = text
unless_genesis Committed text = text
unless_genesis Conflicting text = text

-- which block it is, its parent, and who voted for it of how many replicas of what weight
abbrev pub support_text : (replicas : ℕ) (total : Option ℕ) → Block → List ℕ
support_text replicas total b =
    parent_text (whole_id b.header.parent) b.header.parent_view b.support.votes replicas ++ votes_weight b.support.weight total

abbrev pub title_text : (replicas : ℕ) (total : Option ℕ) → Block → List ℕ
title_text replicas total b =
    named_text (whole_id (header_id b.header)) b.header.view ++ unless_genesis b.standing (support_text replicas total b) ++ codes "</title>\n"

-- ---- what stands in it

unfoldable pub block_frame : (x y : ℕ) → List ℕ
block_frame x y =
    codes "<rect x=\"" ++ (decimal x ++ (codes "\" y=\"" ++ (decimal y ++ (codes "\" width=\"" ++ (decimal BLOCK_WIDTH
    ++ (codes "\" height=\"" ++ (decimal BLOCK_HEIGHT ++ codes "\" rx=\"6\"/>\n")))))))

unfoldable pub id_line : (x y : ℕ) (digits : List ℕ) → List ℕ
id_line x y digits =
    codes "<text class=\"id\" x=\"" ++ (decimal x ++ (codes "\" y=\"" ++ (decimal y ++ (codes "\">" ++ (digits ++ codes "</text>\n")))))

unfoldable pub weight_line : (x y weight : ℕ) → List ℕ
weight_line x y weight =
    codes "<text class=\"in\" x=\"" ++ (decimal x ++ (codes "\" y=\"" ++ (decimal y ++ (codes "\">weight " ++ (decimal weight ++ codes "</text>\n")))))

unfoldable pub votes_line : (x y votes : ℕ) → List ℕ
votes_line x y votes =
    codes "<text class=\"in\" x=\"" ++ (decimal x ++ (codes "\" y=\"" ++ (decimal y ++ (codes "\">votes " ++ (decimal votes ++ codes "</text>\n")))))

-- how many voted for it, or where replicas have weights how much these weigh
abbrev pub count_line : (x y : ℕ) → Option ℕ → Block → List ℕ
count_line x y None b = votes_line x y b.support.votes
count_line x y (Some total) b = weight_line x y b.support.weight

unfoldable pub words_line : (x y : ℕ) (words : List ℕ) → List ℕ
words_line x y words =
    codes "<text class=\"in\" x=\"" ++ (decimal x ++ (codes "\" y=\"" ++ (decimal y ++ (codes "\">" ++ (words ++ codes "</text>\n")))))

-- the first digits of its id, who voted for it, and what is proved of it
pub record AreLines (total : Option ℕ) (b : Block) (text : List ℕ) : Type 0 where
  pub x : ℕ
  pub first : ℕ
  pub second : ℕ
  pub third : ℕ
  pub text_is : text ≡ id_line x first (short_id (header_id b.header)) ++ unless_genesis b.standing (count_line x second total b) ++ words_line x third (standing_words b.standing)

unfoldable pub conflict_mark : (x y : ℕ) → List ℕ
conflict_mark x y =
    codes "<text class=\"alarm\" x=\"" ++ (decimal x ++ (codes "\" y=\"" ++ (decimal y ++ codes "\">conflict</text>\n")))

-- above a block in conflict
abbrev pub IsMarked : Standing → List ℕ → Type 0
IsMarked Genesis text = text ≡ []
IsMarked Uncertified text = text ≡ []
IsMarked Certified text = text ≡ []
IsMarked Committed text = text ≡ []
IsMarked Conflicting text = (x : ℕ) × (y : ℕ) × (text ≡ conflict_mark x y)

-- below a block that hands over to the next committee
abbrev pub IsHandoverMark : Header → List ℕ → Type 0
IsHandoverMark h text =
    (IsHandover h → (x : ℕ) × (y : ℕ) × (text ≡ words_line x y (codes "hands over"))) × ((IsHandover h → ⊥) → text ≡ [])

abbrev pub is_commit : Standing → Bool
is_commit Genesis = false
is_commit Uncertified = false
is_commit Certified = false
is_commit Committed = true
is_commit Conflicting = false

-- it is committed above the view of the block that handed over
abbrev pub is_after : Option ℕ → Block → Bool
is_after None b = false
is_after (Some view) b = if is_commit b.standing then nat_lt view b.header.view else false

-- below a commit that counts for nothing, since the ledger was handed over
abbrev pub IsAfterMark : List ℕ → Type 0
IsAfterMark text = (x : ℕ) × (y : ℕ) × (text ≡ words_line x y (codes "after handover"))

-- below it, or else below a block that hands over
abbrev pub IsNext : (is_after : Bool) → Header → List ℕ → Type 0
IsNext true h text = IsAfterMark text
IsNext false h text = IsHandoverMark h text

pub record AreMarks (handover : Option ℕ) (b : Block) (text : List ℕ) : Type 0 where
  pub above : List ℕ
  pub is_above : IsMarked b.standing above
  pub below : List ℕ
  pub is_below : IsNext (is_after handover b) b.header below
  pub text_is : text ≡ above ++ below

-- ---- a block, wherever it stands

unfoldable pub block_front : (class : List ℕ) → List ℕ
block_front class = codes "<g class=\"block " ++ (class ++ codes "\">\n")

pub record IsBlock (replicas : ℕ) (total handover : Option ℕ) (k : ℕ) (b : Block) (text : List ℕ) : Type 0 where
  pub left : ℕ
  pub top : ℕ
  pub lines : List ℕ
  pub are_lines : AreLines total b lines
  pub mark : List ℕ
  pub are_marks : AreMarks handover b mark
  pub text_is : text ≡ block_front (class_name b.standing) ++ title_text replicas total b ++ block_frame left top ++ lines ++ mark ++ codes "</g>\n"

-- of so many replicas, whose weight is told where they have weights, which handed over in this view, if they did
abbrev pub AreBlocks : (replicas : ℕ) → (total handover : Option ℕ) → List Block → List ℕ → Type 0
AreBlocks replicas total handover blocks text = AreOf (IsBlock replicas total handover) 0 blocks text
