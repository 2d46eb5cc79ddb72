-- What may happen to one journal of words, over all its stores, crashes and recoveries, and what is told meanwhile.
use Rattle.std.specs.Prelude.{ℕ, ◌≡◌, ◌⊎◌, ◌++◌, List, [], ◌∷◌, Option, Some, None}
use Rattle.handover_folder.specs.State.{IsFreeFor}
use Rattle.handover_folder.specs.Words.{Word, Endorsed, Over, Said, Has, IsBeforeOrAfterWord, IsWord, MayFollow, Says, SaysWord, with_word}
use Rattle.handover_folder.specs.declared.word.GoneOver.{GoneOver}

-- ---- histories

-- a store of the journal runs and has said this, or none runs and the disk has these bytes
pub data Moment : Type 0 where
  Running : Said → Moment
  Down : List ℕ → Moment

-- `endorse` or `go_over` answers Ok; a crash or a fault in one leaves these bytes; a crash between calls does; `recover`
-- answers Ok and finds this. A call that is refused changes nothing
pub data Event : Type 0 where
  Tells : Word → Event
  CutOff : Word → List ℕ → Event
  Crashes : List ℕ → Event
  Finds : Said → Event

-- the contracts of `WordStore` let this happen at this moment: of `endorse` and `go_over` `exact`, and `any_moment` for a
-- crash or a fault in one; of `endorsed` and `gone` `durable` for a crash; of `recover` `ok`
abbrev pub MayHappen : Moment → Event → Type 0
MayHappen (Running said) (Tells word) = IsFreeFor said word
MayHappen (Running said) (CutOff word image) = IsBeforeOrAfterWord said word image
MayHappen (Running said) (Crashes image) = Says image said
MayHappen (Running said) (Finds found) = ⊥
MayHappen (Down image) (Tells word) = ⊥
MayHappen (Down image) (CutOff word left) = ⊥
MayHappen (Down image) (Crashes left) = ⊥
MayHappen (Down image) (Finds found) = Says image found

-- this moment once this word is told too, which it is only while a store runs
abbrev pub and_told : Moment → Word → Moment
and_told (Running said) word = Running (with_word said word)
and_told (Down image) word = Down image

-- the moment behind an event
abbrev pub moment_after : Moment → Event → Moment
moment_after first (Tells word) = and_told first word
moment_after first (CutOff word image) = Down image
moment_after first (Crashes image) = Down image
moment_after first (Finds found) = Running found

-- each of these events may happen at the moment behind the one before it
abbrev pub IsHistory : Moment → List Event → Type 0
IsHistory first [] = Unit {0}
IsHistory first (event ∷ events) = MayHappen first event × IsHistory (moment_after first event) events

-- ---- what is told

-- this word is told in an event
abbrev pub IsToldIn : Event → Word → Type 0
IsToldIn (Tells told) word = told ≡ word
IsToldIn (CutOff told image) word = ⊥
IsToldIn (Crashes image) word = ⊥
IsToldIn (Finds found) word = Has found word

-- one of these events tells this word
abbrev pub IsTold : List Event → Word → Type 0
IsTold [] word = ⊥
IsTold (event ∷ events) word = IsToldIn event word ⊎ IsTold events word

-- the bytes that an event leaves on the disk
abbrev pub left_by : Event → Option (List ℕ)
left_by (Tells word) = None
left_by (CutOff word image) = Some image
left_by (Crashes image) = Some image
left_by (Finds found) = None

-- ---- the laws

-- all endorsements that are told in a history, from whatever moment on, are one
abbrev pub AtMostOneEndorsement : Type 0
AtMostOneEndorsement = (first : Moment) (events : List Event) (bytes other : List ℕ) → IsHistory first events → IsTold events (Endorsed bytes) → IsTold events (Endorsed other) → bytes ≡ other

-- .. and so are all words that the signer has gone over
abbrev pub AtMostOneGoneOver : Type 0
AtMostOneGoneOver = (first : Moment) (events : List Event) (word other : GoneOver) → IsHistory first events → IsTold events (Over word) → IsTold events (Over other) → word ≡ other

-- what was told is among what each later recovery finds
abbrev pub WhatWasToldIsFound : Type 0
WhatWasToldIsFound = (first : Moment) (before later : List Event) (found : Said) (word : Word) → IsHistory first (before ++ Finds found ∷ later) → IsTold before word → Has found word

-- .. and what each later crash leaves
abbrev pub CrashesLeaveWhatWasTold : Type 0
CrashesLeaveWhatWasTold =
    (first : Moment) (before later : List Event) (event : Event) (image : List ℕ) (word : Word)
    → IsHistory first (before ++ event ∷ later) → left_by event ≡ Some image → IsTold before word → SaysWord image word

-- a word that was cut off may be found, and then it is told again; or not, and then another may be
abbrev pub ACutOffWordMayBeFound : Type 0
ACutOffWordMayBeFound =
    (said : Said) (word : Word) (image : List ℕ)
    → MayFollow said word → Says image (with_word said word) → IsHistory (Running said) (CutOff word image ∷ Finds (with_word said word) ∷ Tells word ∷ [])

abbrev pub ACutOffWordMayBeLost : Type 0
ACutOffWordMayBeLost =
    (said : Said) (word other : Word) (image : List ℕ) → Says image said → MayFollow said other → IsWord other → IsHistory (Running said) (CutOff word image ∷ Finds said ∷ Tells other ∷ [])
