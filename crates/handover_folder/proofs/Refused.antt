-- What is refused says nothing.
use Rattle.std.proofs.Common.{◌≡◌, ℕ, List, ◌∷◌, ◌++◌, take, Option, Some, None, IfSome, inl, inr, refl, sym, ◌∙◌, ap, subst, append_assoc, arith}
use Rattle.std.proofs.lemmas.List.{take_at}
use Rattle.std.specs.List.{flat_map}
use Rattle.stable_log.specs.Image.{magic, payload_text, StandsFor}
use Rattle.stable_log.proofs.OneList.{one_list}
use Rattle.handover_folder.specs.Refusals.{HasRefused, IsNextRefusal, WhatIsRefusedSaysNothing}
use Rattle.handover_folder.specs.Words.{Word, Endorsed, Over, IsEndorsement, IsGoneOver, IsWordOf, MayFollow, Said, Says, endorsement_of, gone_over_of, kind_in, word_text, words_of}
use Rattle.handover_folder.specs.declared.word.GoneOver.{GoneOver}
use Rattle.handover_folder.specs.declared.error.WordError.{WordError}
use Rattle.handover_folder.specs.declared.error.WordError.TheVariants.{Memory, Device, NotAJournal, Damaged, UnknownKind, WrongLength, SecondWord, Stopped, Other, Gone}
use Rattle.handover_folder.proofs.WordLaws.{kind_of_endorsed, kind_of_over, one_spelling}

-- what stands for a list begins with the head of a journal
head : (bytes : List ℕ) (list : List (List ℕ)) → StandsFor bytes list → take 8 bytes ≡ magic
head bytes list s =
    ap (λ (l : List ℕ). take 8 l) (s.split ∙ append_assoc magic (flat_map payload_text list) (s.gate ∷ s.rest))
    ∙ take_at magic (flat_map payload_text list ++ s.gate ∷ s.rest) 8 refl

-- the entry of a word is not refused where it may be said next
known : (before : Said) (entry : List ℕ) (word : Word) → IsWordOf entry word → IsNextRefusal before entry UnknownKind → ⊥
known before entry (Endorsed bytes) is refused = refused.0 (kind_of_endorsed entry bytes is).0
known before entry (Over word) is refused = refused.1 (kind_of_over entry word is).0

long : (before : Said) (entry : List ℕ) (word : Word) → IsWordOf entry word → IsNextRefusal before entry WrongLength → ⊥
long before entry (Endorsed bytes) is (inl refused) = refused.1 (kind_of_endorsed entry bytes is).1
long before entry (Endorsed bytes) is (inr refused) = absurd (omega (arith, refused.0, (kind_of_endorsed entry bytes is).0))
long before entry (Over word) is (inl refused) = absurd (omega (arith, refused.0, (kind_of_over entry word is).0))
long before entry (Over word) is (inr refused) = refused.1 (kind_of_over entry word is).1

word_passes : (before : Said) (entry : List ℕ) (word : Word) (e : WordError) → IsWordOf entry word → MayFollow before word → IsNextRefusal before entry e → ⊥
word_passes before entry word UnknownKind is follows refused = known before entry word is refused
word_passes before entry word WrongLength is follows refused = long before entry word is refused
word_passes before entry word SecondWord is follows refused =
    let same : word ≡ refused.0 = one_spelling entry word refused.0 is refused.1 in
    refused.2 (subst (λ (w : Word). MayFollow before w) same follows)
word_passes before entry word Memory is follows refused = refused
word_passes before entry word Device is follows refused = refused
word_passes before entry word NotAJournal is follows refused = refused
word_passes before entry word Damaged is follows refused = refused
word_passes before entry word Stopped is follows refused = refused
word_passes before entry word Other is follows refused = refused
word_passes before entry word Gone is follows refused = refused

-- a word that may be said next, of this entry
Next : Option (List ℕ) → Option GoneOver → List ℕ → Type 0
Next endorsed gone entry = (word : Word) × IsWordOf entry word × MayFollow (record { endorsed = endorsed; gone = gone }) word

-- the entry behind the first words of all that was said is the next word
next : (e : Option (List ℕ)) (g : Option GoneOver) (all : Option (List ℕ)) (over : Option GoneOver) (entry : List ℕ) (rest : List (List ℕ))
    → IfSome all IsEndorsement → IfSome over IsGoneOver → (endorsement_of e ++ gone_over_of g) ++ entry ∷ rest ≡ endorsement_of all ++ gone_over_of over → Next e g entry
unfolding Next
next None None None None entry rest whole is same = absurd (cc same)
next None None None (Some w) entry rest whole is same =
    let text : entry ≡ word_text (Over w) = cc same in
    (Over w, record { text = text; whole = is }, refl)
next None None (Some b) over entry rest whole is same =
    let text : entry ≡ word_text (Endorsed b) = cc same in
    (Endorsed b, record { text = text; whole = whole }, (refl, refl))
next None (Some g) None None entry rest whole is same = absurd (cc same)
next None (Some g) None (Some w) entry rest whole is same = absurd (cc same)
next None (Some g) (Some b) over entry rest whole is same =
    let text : word_text (Over g) ≡ word_text (Endorsed b) = cc same in absurd (omega (arith, ap kind_in text))
next (Some e) None None None entry rest whole is same = absurd (cc same)
next (Some e) None None (Some w) entry rest whole is same = absurd (cc same)
next (Some e) None (Some b) None entry rest whole is same = absurd (cc same)
next (Some e) None (Some b) (Some w) entry rest whole is same =
    let text : entry ≡ word_text (Over w) = cc same in
    (Over w, record { text = text; whole = is }, refl)
next (Some e) (Some g) None None entry rest whole is same = absurd (cc same)
next (Some e) (Some g) None (Some w) entry rest whole is same = absurd (cc same)
next (Some e) (Some g) (Some b) None entry rest whole is same = absurd (cc same)
next (Some e) (Some g) (Some b) (Some w) entry rest whole is same = absurd (cc same)

no_words : (bytes : List ℕ) (e : WordError) (said : Said) → HasRefused e bytes → Says bytes said → ⊥
unfolding Next
no_words bytes e said has says =
    let first = has.2 in
    let one : has.0 ≡ words_of said = one_list bytes has.0 (words_of said) has.1 says.stands in
    let is : Next first.said.endorsed first.said.gone first.entry =
    next first.said.endorsed first.said.gone said.endorsed said.gone first.entry first.rest says.whole.endorsed says.whole.gone (sym first.split ∙ one) in
    word_passes first.said first.entry is.0 e is.1 is.2 first.refused

pub refused_says_nothing : WhatIsRefusedSaysNothing
refused_says_nothing bytes Memory said refused memory device says = memory refl
refused_says_nothing bytes Device said refused memory device says = device refl
refused_says_nothing bytes NotAJournal said refused memory device says = refused (head bytes (words_of said) says.stands)
refused_says_nothing bytes Damaged said refused memory device says = refused.1 (words_of said) says.stands
refused_says_nothing bytes UnknownKind said refused memory device says = no_words bytes UnknownKind said refused says
refused_says_nothing bytes WrongLength said refused memory device says = no_words bytes WrongLength said refused says
refused_says_nothing bytes SecondWord said refused memory device says = no_words bytes SecondWord said refused says
refused_says_nothing bytes Stopped said refused memory device says = refused
refused_says_nothing bytes Other said refused memory device says = refused
refused_says_nothing bytes Gone said refused memory device says = refused
