-- The words that a signer says of its chain, their bytes, and what a journal of words says. docs/FORMATS.md, 'Words journal'.
use Rattle.std.specs.Prelude.{ℕ, ◌≡◌, ◌++◌, ◌⊎◌, List, [], ◌∷◌, length, slice_index, Option, Some, None, IfSome}
use Rattle.stable_log.specs.Image.{StandsFor}
use Rattle.handover_folder.specs.declared.word.GoneOver.{GoneOver}
use Rattle.handover_folder.specs.declared.word.TheConstants.{ENDORSED, GONE_OVER}

-- ---- a word and its entry

-- that the signer endorsed its next keys, by these bytes; that it has gone over
pub data Word : Type 0 where
  Endorsed : List ℕ → Word
  Over : GoneOver → Word

-- bytes of a length that an endorsement has: 39, 56 for each of one to four keys, 1 and 1,452
abbrev pub IsEndorsement : List ℕ → Type 0
IsEndorsement bytes = (length bytes ≡ 1548) ⊎ ((length bytes ≡ 1604) ⊎ ((length bytes ≡ 1660) ⊎ (length bytes ≡ 1716)))

-- its two parts have 32 bytes each
pub record IsGoneOver (word : GoneOver) : Type 0 where
  pub file : length word.file ≡ 32
  pub handover : length word.handover ≡ 32

-- a word that has bytes
abbrev pub IsWord : Word → Type 0
IsWord (Endorsed bytes) = IsEndorsement bytes
IsWord (Over word) = IsGoneOver word

-- the kind, and then the endorsement, or the digest of the file and the id of the block
abbrev pub word_text : Word → List ℕ
word_text (Endorsed bytes) = ENDORSED ∷ bytes
word_text (Over word) = GONE_OVER ∷ (word.file ++ word.handover)

-- an entry is the text of this word
pub record IsWordOf (entry : List ℕ) (word : Word) : Type 0 where
  pub text : entry ≡ word_text word
  pub whole : IsWord word

-- what kind of a word an entry is
abbrev pub kind_in : List ℕ → ℕ
kind_in entry = slice_index entry 0

-- two words of the same bytes are one
abbrev pub WordsHaveOneSpelling : Type 0
WordsHaveOneSpelling = (entry : List ℕ) (word other : Word) → IsWordOf entry word → IsWordOf entry other → word ≡ other

-- ---- what was said

-- the endorsement, or none; the word that the signer has gone over, or none
pub record Said : Type 0 where
  pub endorsed : Option (List ℕ)
  pub gone : Option GoneOver

abbrev pub nothing : Said
nothing = record { endorsed = None; gone = None }

-- all of it has bytes
pub record IsSaid (said : Said) : Type 0 where
  pub endorsed : IfSome said.endorsed IsEndorsement
  pub gone : IfSome said.gone IsGoneOver

-- this word is among it
abbrev pub Has : Said → Word → Type 0
Has said (Endorsed bytes) = said.endorsed ≡ Some bytes
Has said (Over word) = said.gone ≡ Some word

-- a word of this kind may be said next: there is none, nor any behind which it does not come
abbrev pub MayFollow : Said → Word → Type 0
MayFollow said (Endorsed bytes) = (said.endorsed ≡ None) × (said.gone ≡ None)
MayFollow said (Over word) = said.gone ≡ None

-- what was said, and then this word
abbrev pub with_word : Said → Word → Said
with_word said (Endorsed bytes) = record { endorsed = Some bytes; gone = said.gone }
with_word said (Over word) = record { endorsed = said.endorsed; gone = Some word }

-- an entry is a word that may be said next, and then this was said
pub record IsNextEntry (before : Said) (entry : List ℕ) (after : Said) : Type 0 where
  pub word : Word
  pub is : IsWordOf entry word
  pub follows : MayFollow before word
  pub then : after ≡ with_word before word

-- ---- journals of words

abbrev pub endorsement_of : Option (List ℕ) → List (List ℕ)
endorsement_of None = []
endorsement_of (Some bytes) = word_text (Endorsed bytes) ∷ []

abbrev pub gone_over_of : Option GoneOver → List (List ℕ)
gone_over_of None = []
gone_over_of (Some word) = word_text (Over word) ∷ []

-- the payloads of a journal of what was said
abbrev pub words_of : Said → List (List ℕ)
words_of said = endorsement_of said.endorsed ++ gone_over_of said.gone

-- an image has just these words
pub record Says (image : List ℕ) (said : Said) : Type 0 where
  pub stands : StandsFor image (words_of said)
  pub whole : IsSaid said

-- whatever a crash leaves has just these words
abbrev pub Leaves : (List ℕ → Type 0) → Said → Type 0
Leaves images said = (image : List ℕ) → images image → Says image said

-- an image has this word, among others or alone
abbrev pub SaysWord : List ℕ → Word → Type 0
SaysWord image word = (said : Said) × Says image said × Has said word

-- whatever a crash leaves has this word
abbrev pub LeavesWord : (List ℕ → Type 0) → Word → Type 0
LeavesWord images word = (image : List ℕ) → images image → SaysWord image word

-- an image from before or after this word is stored, which it is only where it may be said next
abbrev pub IsBeforeOrAfterWord : Said → Word → List ℕ → Type 0
IsBeforeOrAfterWord said word image = Says image said ⊎ (MayFollow said word × Says image (with_word said word))

-- bytes say one thing at most
abbrev pub AnImageSaysOneThing : Type 0
AnImageSaysOneThing = (image : List ℕ) (said other : Said) → Says image said → Says image other → said ≡ other
