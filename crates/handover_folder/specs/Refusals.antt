-- When a word store refuses: for each call its first refusal whose case holds. `Memory` comes where a growth was
-- refused, `Device` where the disk failed.
use Rattle.std.specs.Prelude.{ℕ, ◌≡◌, ◌≢◌, ◌++◌, ◌⊎◌, List, [], ◌∷◌, length, take, drop, Option, Some, None, IfSome, IsSome, true, false}
use Rattle.stable_log.specs.Image.{magic, StandsFor}
use Rattle.stable_log.specs.Refusals.{IsDamaged}
use Rattle.handover_folder.specs.State.{WordState, HasOther, MustWrite}
use Rattle.handover_folder.specs.Words.{Word, Endorsed, Over, IsEndorsement, IsSaid, IsWordOf, MayFollow, Said, Says, kind_in, words_of}
use Rattle.handover_folder.specs.declared.word.GoneOver.{GoneOver}
use Rattle.handover_folder.specs.declared.word.TheConstants.{ENDORSED, GONE_OVER, WORD_LEN}
use Rattle.handover_folder.specs.declared.error.WordError.{WordError}
use Rattle.handover_folder.specs.declared.error.WordError.TheVariants.{Memory, Device, NotAJournal, Damaged, UnknownKind, WrongLength, SecondWord, Stopped, Other, Gone}
use Rattle.stable_log.specs.declared.error.JournalError.{JournalError}
use Rattle.stable_log.specs.declared.error.JournalError.TheVariants as journal

-- the number that docs/REFUSALS.md gives a refusal
abbrev pub word_error_number : WordError → ℕ
word_error_number Memory = 1
word_error_number Device = 2
word_error_number NotAJournal = 3
word_error_number Damaged = 4
word_error_number UnknownKind = 5
word_error_number WrongLength = 6
word_error_number SecondWord = 7
word_error_number Stopped = 8
word_error_number Other = 9
word_error_number Gone = 10

-- what a refusal of the journal means to the store; it is never full, no word is too long, and none is asked for
-- that is not there
abbrev pub word_error : JournalError → WordError
word_error journal.Memory = Memory
word_error journal.Device = Device
word_error journal.NotAJournal = NotAJournal
word_error journal.Stopped = Stopped
word_error _ = Damaged

-- `create` on a disk that tells these bytes
abbrev pub IsWordCreateRefusal : Option (List ℕ) → WordError → Type 0
IsWordCreateRefusal told Device = Unit {0}
IsWordCreateRefusal told NotAJournal = IfSome told (λ bytes. bytes ≢ [])
IsWordCreateRefusal told _ = ⊥

-- an entry of a known kind has not a length of its kind
abbrev pub HasWrongLength : List ℕ → Type 0
HasWrongLength entry = ((kind_in entry ≡ ENDORSED) × (IsEndorsement (drop 1 entry) → ⊥)) ⊎ ((kind_in entry ≡ GONE_OVER) × (length entry ≢ WORD_LEN))

-- an entry is a word that may not be said next
abbrev pub IsSecondWord : Said → List ℕ → Type 0
IsSecondWord before entry = (word : Word) × IsWordOf entry word × (MayFollow before word → ⊥)

-- an entry can not be taken behind these words: it is no word, or it may not be said next
abbrev pub IsNextRefusal : Said → List ℕ → WordError → Type 0
IsNextRefusal before entry UnknownKind = (kind_in entry ≢ ENDORSED) × (kind_in entry ≢ GONE_OVER)
IsNextRefusal before entry WrongLength = HasWrongLength entry
IsNextRefusal before entry SecondWord = IsSecondWord before entry
IsNextRefusal before entry _ = ⊥

-- these payloads begin with words, and the entry behind them is the first that can not be taken
pub record IsFirstRefused (payloads : List (List ℕ)) (e : WordError) : Type 0 where
  pub said : Said
  pub whole : IsSaid said
  pub entry : List ℕ
  pub rest : List (List ℕ)
  pub split : payloads ≡ words_of said ++ entry ∷ rest
  pub refused : IsNextRefusal said entry e

-- the bytes are a journal of such payloads
abbrev pub HasRefused : WordError → List ℕ → Type 0
HasRefused e bytes = (payloads : List (List ℕ)) × StandsFor bytes payloads × IsFirstRefused payloads e

-- `recover` on a disk that tells these bytes
abbrev pub IsWordRecoverRefusal : Option (List ℕ) → WordError → Type 0
IsWordRecoverRefusal told Memory = Unit {0}
IsWordRecoverRefusal told Device = Unit {0}
IsWordRecoverRefusal told NotAJournal = IfSome told (λ bytes. take 8 bytes ≢ magic)
IsWordRecoverRefusal told Damaged = IfSome told IsDamaged
IsWordRecoverRefusal told UnknownKind = IfSome told (HasRefused UnknownKind)
IsWordRecoverRefusal told WrongLength = IfSome told (HasRefused WrongLength)
IsWordRecoverRefusal told SecondWord = IfSome told (HasRefused SecondWord)
IsWordRecoverRefusal told _ = ⊥

-- what `recover` refuses, but for want of memory and a fault, says nothing: neither any words nor that there are none
abbrev pub WhatIsRefusedSaysNothing : Type 0
WhatIsRefusedSaysNothing =
    (bytes : List ℕ) (e : WordError) (said : Said) → IsWordRecoverRefusal (Some bytes) e → e ≢ Memory → e ≢ Device → Says bytes said → ⊥

-- `endorse` by these bytes
abbrev pub IsEndorseRefusal : {D : Type 0} → WordState D → List ℕ → WordError → Type 0
IsEndorseRefusal store bytes Memory = MustWrite store (Endorsed bytes)
IsEndorseRefusal store bytes Device = MustWrite store (Endorsed bytes)
IsEndorseRefusal store bytes WrongLength = (store.stopped ≡ false) × MayFollow store.said (Endorsed bytes) × (IsEndorsement bytes → ⊥)
IsEndorseRefusal store bytes Stopped = store.stopped ≡ true
IsEndorseRefusal store bytes Other = (store.stopped ≡ false) × HasOther store.said (Endorsed bytes)
IsEndorseRefusal store bytes Gone = (store.stopped ≡ false) × (store.said.endorsed ≡ None) × IsSome store.said.gone
IsEndorseRefusal store bytes _ = ⊥

-- `go_over` to this word
abbrev pub IsGoOverRefusal : {D : Type 0} → WordState D → GoneOver → WordError → Type 0
IsGoOverRefusal store word Memory = MustWrite store (Over word)
IsGoOverRefusal store word Device = MustWrite store (Over word)
IsGoOverRefusal store word Stopped = store.stopped ≡ true
IsGoOverRefusal store word Other = (store.stopped ≡ false) × HasOther store.said (Over word)
IsGoOverRefusal store word _ = ⊥

-- ---- parts of these calls

-- taking an entry behind these words fails
abbrev pub IsTakeRefusal : Said → List ℕ → WordError → Type 0
IsTakeRefusal before entry Memory = Unit {0}
IsTakeRefusal before entry e = IsNextRefusal before entry e

-- reading the words of a journal with these payloads fails
abbrev pub IsWordsRefusal : Option (List ℕ) → List (List ℕ) → WordError → Type 0
IsWordsRefusal told payloads Memory = Unit {0}
IsWordsRefusal told payloads Device = Unit {0}
IsWordsRefusal told payloads UnknownKind = IfSome told (λ _. IsFirstRefused payloads UnknownKind)
IsWordsRefusal told payloads WrongLength = IfSome told (λ _. IsFirstRefused payloads WrongLength)
IsWordsRefusal told payloads SecondWord = IfSome told (λ _. IsFirstRefused payloads SecondWord)
IsWordsRefusal told payloads _ = ⊥
