-- Words and their bytes.
use Rattle.std.proofs.Common.{◌≡◌, ℕ, List, [], ◌∷◌, ◌++◌, length, take, drop, Option, Some, None, IfSome, refl, sym, ◌∙◌, ap, arith, length-append}
use Rattle.std.proofs.lemmas.List.{take_at, drop_at}
use Rattle.stable_log.proofs.OneList.{one_list}
use Rattle.base_wire.specs.Pieces.{piece}
use Rattle.base_wire.proofs.Numbers.{taken, cut_last, length-piece}
use Rattle.handover_folder.specs.Words.{AnImageSaysOneThing, Word, Endorsed, Over, IsEndorsement, IsGoneOver, IsSaid, IsWord, IsWordOf, MayFollow, Said, WordsHaveOneSpelling, endorsement_of, gone_over_of, kind_in, with_word, word_text, words_of}
use Rattle.handover_folder.specs.declared.word.GoneOver.{GoneOver}

parts : (rest : List ℕ) → length rest ≡ 64 → rest ≡ piece 32 rest 0 ++ piece 32 rest 32
parts rest long = taken rest 0 32 _ _ refl (cut_last rest 32 32 long)

-- the parts of a text of 65 bytes that begins with the kind are a word, and the text is its
pub read_back : (entry file handover : List ℕ) → kind_in entry ≡ 5 → length entry ≡ 65 → file ≡ piece 32 entry 1 → handover ≡ piece 32 entry 33 → IsWordOf entry (Over (record { file = file; handover = handover }))
read_back [] file handover kind long is_file is_handover = absurd (omega (arith, long))
read_back (k ∷ rest) file handover kind long is_file is_handover = record {
  text = ap (λ (n : ℕ). n ∷ rest) kind ∙ ap (λ (l : List ℕ). 5 ∷ l) (parts rest (omega (arith, long)) ∙ (λ i. sym is_file i ++ sym is_handover i));
  whole = record {
    file = ap length is_file ∙ length-piece 32 (k ∷ rest) 1 (omega (arith, long));
    handover = ap length is_handover ∙ length-piece 32 (k ∷ rest) 33 (omega (arith, long));
  };
}

-- .. and so is a text that begins with the other kind and goes on with an endorsement
pub endorsement_back : (entry : List ℕ) → kind_in entry ≡ 6 → IsEndorsement (drop 1 entry) → IsWordOf entry (Endorsed (drop 1 entry))
endorsement_back [] kind is = absurd (omega (arith, kind))
endorsement_back (k ∷ rest) kind is = record { text = ap (λ (n : ℕ). n ∷ rest) kind; whole = is }

-- the kind and the length of an entry
pub kind_of_over : (entry : List ℕ) (word : GoneOver) → IsWordOf entry (Over word) → (kind_in entry ≡ 5) × (length entry ≡ 65)
kind_of_over entry word is = (
  ap kind_in is.text,
  ap length is.text ∙ omega (arith, length-append word.file word.handover, is.whole.file, is.whole.handover),
)

pub kind_of_endorsed : (entry bytes : List ℕ) → IsWordOf entry (Endorsed bytes) → (kind_in entry ≡ 6) × IsEndorsement (drop 1 entry)
kind_of_endorsed entry bytes is = (ap kind_in is.text, rw (ap (drop 1) is.text) is.whole)

-- two words of the same bytes are one
one_over : (word other : GoneOver) → IsGoneOver word → IsGoneOver other → word_text (Over word) ≡ word_text (Over other) → word ≡ other
one_over word other is too text =
    let same : word.file ++ word.handover ≡ other.file ++ other.handover = ap (drop 1) text in
    let file : word.file ≡ other.file = sym (take_at word.file word.handover 32 is.file) ∙ ap (take 32) same ∙ take_at other.file other.handover 32 too.file in
    let handover : word.handover ≡ other.handover = sym (drop_at word.file word.handover 32 is.file) ∙ ap (drop 32) same ∙ drop_at other.file other.handover 32 too.file in
    λ i. record { file = file i; handover = handover i }

pub one_spelling : WordsHaveOneSpelling
one_spelling entry (Over word) (Over other) is too = ap (λ (w : GoneOver). Over w) (one_over word other is.whole too.whole (sym is.text ∙ too.text))
one_spelling entry (Endorsed bytes) (Endorsed other) is too =
    let same : bytes ≡ other = ap (drop 1) (sym is.text ∙ too.text) in ap (λ (l : List ℕ). Endorsed l) same
one_spelling entry (Endorsed bytes) (Over other) is too = absurd (omega (arith, sym (ap kind_in is.text) ∙ ap kind_in too.text))
one_spelling entry (Over word) (Endorsed other) is too = absurd (omega (arith, sym (ap kind_in is.text) ∙ ap kind_in too.text))

-- one word that the signer has gone over, or none, has these payloads
one_gone : (gone other : Option GoneOver) → IfSome gone IsGoneOver → IfSome other IsGoneOver → gone_over_of gone ≡ gone_over_of other → gone ≡ other
one_gone None None whole too same = refl
one_gone None (Some w) whole too same = absurd (cc same)
one_gone (Some w) None whole too same = absurd (cc same)
one_gone (Some v) (Some w) whole too same =
    let text : word_text (Over v) ≡ word_text (Over w) = cc same in
    ap (λ (x : GoneOver). Some x) (one_over v w whole too text)

-- .. and one endorsement or none begins them
one_endorsed : (endorsed other : Option (List ℕ)) (gone too : Option GoneOver) → endorsement_of endorsed ++ gone_over_of gone ≡ endorsement_of other ++ gone_over_of too → endorsed ≡ other
one_endorsed None None over too same = refl
one_endorsed (Some v) (Some w) over too same =
    let text : word_text (Endorsed v) ≡ word_text (Endorsed w) = cc same in
    let is : v ≡ w = ap (drop 1) text in
    ap (λ (x : List ℕ). Some x) is
one_endorsed None (Some w) None too same = absurd (cc same)
one_endorsed None (Some w) (Some g) too same =
    let text : word_text (Over g) ≡ word_text (Endorsed w) = cc same in absurd (omega (arith, ap kind_in text))
one_endorsed (Some v) None over None same = absurd (cc same)
one_endorsed (Some v) None over (Some g) same =
    let text : word_text (Endorsed v) ≡ word_text (Over g) = cc same in absurd (omega (arith, ap kind_in text))

behind_it : (endorsed : Option (List ℕ)) (rest : List (List ℕ)) → drop (length (endorsement_of endorsed)) (endorsement_of endorsed ++ rest) ≡ rest
behind_it endorsed rest = drop_at (endorsement_of endorsed) rest (length (endorsement_of endorsed)) refl

-- so all that was said has one spelling
pub one_said : (said other : Said) → IsSaid said → IsSaid other → words_of said ≡ words_of other → said ≡ other
one_said said other whole too same =
    let endorsed : said.endorsed ≡ other.endorsed = one_endorsed said.endorsed other.endorsed said.gone other.gone same in
    let rest : gone_over_of said.gone ≡ gone_over_of other.gone =
    sym (behind_it said.endorsed (gone_over_of said.gone)) ∙ (λ i. drop (length (endorsement_of (endorsed i))) (same i)) ∙ behind_it other.endorsed (gone_over_of other.gone) in
    let gone : said.gone ≡ other.gone = one_gone said.gone other.gone whole.gone too.gone rest in
    λ i. record { endorsed = endorsed i; gone = gone i }

-- bytes say one thing at most
pub says_one_thing : AnImageSaysOneThing
says_one_thing image said other s t = one_said said other s.whole t.whole (one_list image (words_of said) (words_of other) s.stands t.stands)

-- a word that may be said next comes behind the payloads of the others
first_text : (endorsed : Option (List ℕ)) (gone : Option GoneOver) (text : List ℕ) → endorsed ≡ None → gone ≡ None → (endorsement_of endorsed ++ gone_over_of gone) ++ text ∷ [] ≡ text ∷ []
first_text None None text unendorsed none = refl
first_text None (Some g) text unendorsed none = absurd (cc none)
first_text (Some e) over text unendorsed none = absurd (cc unendorsed)

last_text : (endorsed : Option (List ℕ)) (gone : Option GoneOver) (text : List ℕ) → gone ≡ None → (endorsement_of endorsed ++ gone_over_of gone) ++ text ∷ [] ≡ endorsement_of endorsed ++ text ∷ []
last_text None None text none = refl
last_text (Some e) None text none = refl
last_text endorsed (Some g) text none = absurd (cc none)

first_alone : (gone : Option GoneOver) (text : List ℕ) → gone ≡ None → text ∷ [] ≡ text ∷ gone_over_of gone
first_alone None text none = refl
first_alone (Some g) text none = absurd (cc none)

pub grown : (said : Said) (word : Word) → MayFollow said word → words_of said ++ word_text word ∷ [] ≡ words_of (with_word said word)
grown said (Endorsed bytes) follows = first_text said.endorsed said.gone (word_text (Endorsed bytes)) follows.0 follows.1 ∙ first_alone said.gone (word_text (Endorsed bytes)) follows.1
grown said (Over word) follows = last_text said.endorsed said.gone (word_text (Over word)) follows

pub whole_with : (said : Said) (word : Word) → IsSaid said → IsWord word → IsSaid (with_word said word)
whole_with said (Endorsed bytes) whole is = record { endorsed = is; gone = whole.gone }
whole_with said (Over word) whole is = record { endorsed = whole.endorsed; gone = is }
