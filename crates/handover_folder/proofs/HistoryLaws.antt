-- What is told in a history.
use Rattle.std.proofs.Common.{◌≡◌, ℕ, List, [], ◌∷◌, ◌++◌, Some, inl, inr, refl, sym, ◌∙◌, ap, subst}
use Rattle.handover_folder.specs.Histories.{AtMostOneEndorsement, AtMostOneGoneOver, CrashesLeaveWhatWasTold, Event, Tells, CutOff, Crashes, Finds, Moment, Running, Down, IsHistory, IsTold, IsToldIn, MayHappen, WhatWasToldIsFound, left_by, moment_after}
use Rattle.handover_folder.specs.Words.{Word, Endorsed, Over, Has, MayFollow, Said, SaysWord, with_word}
use Rattle.handover_folder.specs.declared.word.GoneOver.{GoneOver}
use Rattle.handover_folder.proofs.WordLaws.{says_one_thing}

-- ---- words of one kind

AreOfOneKind : Word → Word → Type 0
AreOfOneKind (Endorsed bytes) (Endorsed other) = Unit {0}
AreOfOneKind (Over word) (Over other) = Unit {0}
AreOfOneKind (Endorsed bytes) (Over other) = ⊥
AreOfOneKind (Over word) (Endorsed other) = ⊥

-- there is one of each kind at most
has_one : (said : Said) (word other : Word) → AreOfOneKind word other → Has said word → Has said other → word ≡ other
unfolding AreOfOneKind
has_one said (Endorsed bytes) (Endorsed other) kind has too = let same : bytes ≡ other = cc (has, too) in ap (λ (l : List ℕ). Endorsed l) same
has_one said (Over word) (Over other) kind has too = let same : word ≡ other = cc (has, too) in ap (λ (w : GoneOver). Over w) same
has_one said (Endorsed bytes) (Over other) kind has too = absurd kind
has_one said (Over word) (Endorsed other) kind has too = absurd kind

-- a word that is said is there
pub has_it : (said : Said) (word : Word) → Has (with_word said word) word
has_it said (Endorsed bytes) = refl
has_it said (Over word) = refl

-- a word that is there stays when another is said that may be said next
pub keeps : (said : Said) (told word : Word) → MayFollow said told → Has said word → Has (with_word said told) word
keeps said (Endorsed bytes) (Endorsed other) follows has = let none = follows.0 in absurd (cc (none, has))
keeps said (Endorsed bytes) (Over word) follows has = has
keeps said (Over word) (Endorsed other) follows has = has
keeps said (Over word) (Over other) follows has = absurd (cc (follows, has))

-- .. or one that is there
again : (said : Said) (told word : Word) → Has said told → Has said word → Has (with_word said told) word
again said (Endorsed bytes) (Endorsed other) there has = sym there ∙ has
again said (Endorsed bytes) (Over word) there has = has
again said (Over word) (Endorsed other) there has = has
again said (Over word) (Over other) there has = sym there ∙ has

-- ---- what a journal has it keeps

-- from this moment on the journal has this word
HasWord : Moment → Word → Type 0
HasWord (Running said) word = Has said word
HasWord (Down image) word = SaysWord image word

-- behind an event that tells a word the journal has it
told_stays : (first : Moment) (event : Event) (word : Word) → MayHappen first event → IsToldIn event word → HasWord (moment_after first event) word
unfolding HasWord
told_stays (Running said) (Tells told) word happens is = subst (λ (w : Word). Has (with_word said told) w) is (has_it said told)
told_stays (Down image) (Tells told) word happens is = absurd happens
told_stays first (CutOff told image) word happens is = absurd is
told_stays first (Crashes image) word happens is = absurd is
told_stays first (Finds found) word happens is = is

-- what the journal has no event takes away
stays : (first : Moment) (event : Event) (word : Word) → MayHappen first event → HasWord first word → HasWord (moment_after first event) word
unfolding HasWord
stays (Running said) (Tells told) word (inl there) has = again said told word there has
stays (Running said) (Tells told) word (inr may) has = keeps said told word may.0 has
stays (Running said) (CutOff told image) word (inl before) has = (said, before, has)
stays (Running said) (CutOff told image) word (inr after) has = (with_word said told, after.1, keeps said told word after.0 has)
stays (Running said) (Crashes image) word happens has = (said, happens, has)
stays (Running said) (Finds found) word happens has = absurd happens
stays (Down image) (Tells told) word happens has = absurd happens
stays (Down image) (CutOff told left) word happens has = absurd happens
stays (Down image) (Crashes left) word happens has = absurd happens
stays (Down image) (Finds found) word happens has =
    let same : has.0 ≡ found = says_one_thing image has.0 found has.1 happens in
    subst (λ (s : Said). Has s word) same has.2

-- what an event tells, of a journal that has a word of this kind, is this word
tells_it : (first : Moment) (event : Event) (word other : Word) → AreOfOneKind word other → MayHappen first event → HasWord first word → IsToldIn event other → word ≡ other
unfolding HasWord
tells_it (Running said) (Tells told) word other kind happens has is =
    has_one (with_word said told) word other kind (stays (Running said) (Tells told) word happens has) (told_stays (Running said) (Tells told) other happens is)
tells_it (Down image) (Tells told) word other kind happens has is = absurd happens
tells_it first (CutOff told image) word other kind happens has is = absurd is
tells_it first (Crashes image) word other kind happens has is = absurd is
tells_it first (Finds found) word other kind happens has is = has_one found word other kind (stays first (Finds found) word happens has) is

-- .. and so for each later one
tell_it : (first : Moment) (events : List Event) (word other : Word) → AreOfOneKind word other → IsHistory first events → HasWord first word → IsTold events other → word ≡ other
tell_it first [] word other kind history has told = absurd told
tell_it first (event ∷ events) word other kind history has (inl now) = tells_it first event word other kind history.0 has now
tell_it first (event ∷ events) word other kind history has (inr later) = tell_it (moment_after first event) events word other kind history.1 (stays first event word history.0 has) later

one_in : (event : Event) (word other : Word) → AreOfOneKind word other → IsToldIn event word → IsToldIn event other → word ≡ other
one_in (Tells told) word other kind is too = sym is ∙ too
one_in (CutOff told image) word other kind is too = absurd is
one_in (Crashes image) word other kind is too = absurd is
one_in (Finds found) word other kind is too = has_one found word other kind is too

other_way : (word other : Word) → AreOfOneKind word other → AreOfOneKind other word
unfolding AreOfOneKind
other_way (Endorsed bytes) (Endorsed other) kind = tt
other_way (Over word) (Over other) kind = tt
other_way (Endorsed bytes) (Over other) kind = absurd kind
other_way (Over word) (Endorsed other) kind = absurd kind

one_is_told : (first : Moment) (events : List Event) (word other : Word) → AreOfOneKind word other → IsHistory first events → IsTold events word → IsTold events other → word ≡ other
one_is_told first [] word other kind history told too = absurd told
one_is_told first (event ∷ events) word other kind history (inl now) (inl now_too) = one_in event word other kind now now_too
one_is_told first (event ∷ events) word other kind history (inl now) (inr later) =
    tell_it (moment_after first event) events word other kind history.1 (told_stays first event word history.0 now) later
one_is_told first (event ∷ events) word other kind history (inr later) (inl now) =
    sym (tell_it (moment_after first event) events other word (other_way word other kind) history.1 (told_stays first event other history.0 now) later)
one_is_told first (event ∷ events) word other kind history (inr later) (inr later_too) = one_is_told (moment_after first event) events word other kind history.1 later later_too

bytes_in : Word → List ℕ
bytes_in (Endorsed bytes) = bytes
bytes_in (Over word) = word.file

over_in : GoneOver → Word → GoneOver
over_in none (Endorsed bytes) = none
over_in none (Over word) = word

pub one_endorsement_is_told : AtMostOneEndorsement
unfolding AreOfOneKind bytes_in
one_endorsement_is_told first events bytes other history told too = ap bytes_in (one_is_told first events (Endorsed bytes) (Endorsed other) tt history told too)

pub one_gone_over_is_told : AtMostOneGoneOver
unfolding AreOfOneKind over_in
one_gone_over_is_told first events word other history told too = ap (over_in word) (one_is_told first events (Over word) (Over other) tt history told too)

-- ---- what was told is found, and left

-- the moment behind these events
moment_behind : Moment → List Event → Moment
moment_behind first [] = first
moment_behind first (event ∷ events) = moment_behind (moment_after first event) events

-- an event may happen at the moment behind those before it
happens_behind : (first : Moment) (before : List Event) (event : Event) (later : List Event) → IsHistory first (before ++ event ∷ later) → MayHappen (moment_behind first before) event
unfolding moment_behind
happens_behind first [] event later history = history.0
happens_behind first (e ∷ before) event later history = happens_behind (moment_after first e) before event later history.1

has_behind : (first : Moment) (before rest : List Event) (word : Word) → IsHistory first (before ++ rest) → HasWord first word → HasWord (moment_behind first before) word
unfolding moment_behind
has_behind first [] rest word history has = has
has_behind first (e ∷ before) rest word history has = has_behind (moment_after first e) before rest word history.1 (stays first e word history.0 has)

-- a journal has what was told before
told_behind : (first : Moment) (before rest : List Event) (word : Word) → IsHistory first (before ++ rest) → IsTold before word → HasWord (moment_behind first before) word
unfolding moment_behind
told_behind first [] rest word history told = absurd told
told_behind first (e ∷ before) rest word history (inl now) = has_behind (moment_after first e) before rest word history.1 (told_stays first e word history.0 now)
told_behind first (e ∷ before) rest word history (inr told) = told_behind (moment_after first e) before rest word history.1 told

pub told_is_found : WhatWasToldIsFound
unfolding HasWord
told_is_found first before later found word history told =
    stays (moment_behind first before) (Finds found) word (happens_behind first before (Finds found) later history) (told_behind first before (Finds found ∷ later) word history told)

left_has : (first : Moment) (event : Event) (image : List ℕ) (word : Word) → left_by event ≡ Some image → HasWord (moment_after first event) word → SaysWord image word
unfolding HasWord
left_has first (Tells said) image word left has = absurd (cc left)
left_has first (CutOff said at) image word left has = let same : at ≡ image = cc left in subst (λ (bs : List ℕ). SaysWord bs word) same has
left_has first (Crashes at) image word left has = let same : at ≡ image = cc left in subst (λ (bs : List ℕ). SaysWord bs word) same has
left_has first (Finds found) image word left has = absurd (cc left)

pub crashes_leave_it : CrashesLeaveWhatWasTold
crashes_leave_it first before later event image word history left told =
    left_has (moment_behind first before) event image word left (stays (moment_behind first before) event word (happens_behind first before event later history) (told_behind first before (event ∷ later) word history told))
