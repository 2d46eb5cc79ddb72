-- What bytes spell in the old form is what they spell in the form of today, once they are renewed.
use Rattle.std.proofs.Common.{◌≡◌, inl, inr, ℕ, zero, suc, ◌+◌, ◌-◌, ◌*◌, ◌≤◌, ◌==◌, Bool, true, false, List, [], ◌∷◌, ◌++◌, length, take, drop, Option, Some, None, IfSome, refl, sym, ap, ◌∙◌, append_assoc, take-append-drop, add-one, arith}
use Rattle.std.specs.Prelude.{slice_index, if◌then◌else◌}
use Rattle.std.specs.List.{All, flat_map}
use Rattle.std.proofs.lemmas.List.{append-nil, take_at, drop_at, drop-drop, drop_more, length-append, length-drop, length-take-le, nil_from_length, take_all}
use Rattle.std.proofs.lemmas.List.Concat.{flat_map-cons}
use Rattle.std.proofs.lemmas.List.Elements.{All-head, All-tail, All-nil, All-cons}
use Rattle.byteorder.specs.Endian.{big_bytes}
use Rattle.base_wire.specs.Pieces.{piece}
use Rattle.base_wire.proofs.Numbers.{front, behind, cut, length-piece, number_again}
use Rattle.blocks.specs.Headers.{Header, header_id, header_text}
use Rattle.certificates.specs.declared.certificate.Endorsement.{Endorsement}
use Rattle.certificates.specs.Certificates.{Certificate, IsCertificate, IsEndorsement, certificate_text, endorsement_text}
use Rattle.certificates.specs.CertificateReading.{count_in}
use Rattle.log_format.specs.declared.entry.KeyedSignature.{KeyedSignature}
use Rattle.log_format.specs.EntryText.{Entry, IsEntry, IsEntryOf, IsKeyedSignature, entry_kind, entry_text, own_vote_text}
use Rattle.log_format.proofs.EntryLaws.{length-header_id, length-header_text, one_spelling}
use Rattle.vote_log.specs.OldEntries.{IsOldEntryOf, old_certificate_text, old_endorsement_text, old_entry_kind, old_entry_text, old_own_vote_text}
use Rattle.vote_log.specs.Renewing.{HasOldForm, IsOldKind, IsOldWhole, is_old_voted, old_place, renewed, renewed_certificate, renewed_endorsement, renewed_endorsements, renewed_kind, renewed_own, renewed_text}

-- ---- texts whose front pieces are as long

same_front : (a b x y : List ℕ) → length a ≡ length b → a ++ x ≡ b ++ y → a ≡ b
same_front a b x y long same = sym (take_at a x (length a) refl) ∙ ap (take (length a)) same ∙ take_at b y (length a) (sym long)

same_rest : (a b x y : List ℕ) → length a ≡ length b → a ++ x ≡ b ++ y → x ≡ y
same_rest a b x y long same = sym (drop_at a x (length a) refl) ∙ ap (drop (length a)) same ∙ drop_at b y (length a) (sym long)

-- ---- entries of a certificate

abbrev IsByKeyZero : Endorsement → Type 0
IsByKeyZero d = d.key ≡ 0

length-old : (d : Endorsement) → IsEndorsement d → length (old_endorsement_text d) ≡ 1454
length-old d is = let long = is.signature in omega arith

length-new : (d : Endorsement) → IsEndorsement d → length (endorsement_text d) ≡ 1455
length-new d is = let long = is.signature in omega arith

length-olds : (ds : List Endorsement) → All IsEndorsement ds → length (flat_map old_endorsement_text ds) ≡ 1454 * length ds
length-olds [] each = refl
length-olds (d ∷ ds) each =
    let one = length-old d (All-head IsEndorsement d ds each) in
    let rest = length-olds ds (All-tail IsEndorsement d ds each) in
    ap length (flat_map-cons old_endorsement_text d ds) ∙ length-append (old_endorsement_text d) (flat_map old_endorsement_text ds) ∙ omega arith

one_renewed : (d : Endorsement) → IsByKeyZero d → renewed_endorsement (old_endorsement_text d) ≡ endorsement_text d
one_renewed d key = ap (λ (k : ℕ). big_bytes 2 d.replica ++ k ∷ d.signature) (sym key)

-- old ones are renewed
endorsements_renewed : (ds : List Endorsement) (old : List ℕ) → All IsEndorsement ds → All IsByKeyZero ds → old ≡ flat_map old_endorsement_text ds
    → renewed_endorsements old (length ds) ≡ flat_map endorsement_text ds
endorsements_renewed [] old each keys is = refl
endorsements_renewed (d ∷ ds) old each keys is =
    let first = old_endorsement_text d in
    let rest = flat_map old_endorsement_text ds in
    let long = length-old d (All-head IsEndorsement d ds each) in
    let here : old ≡ first ++ rest = is ∙ flat_map-cons old_endorsement_text d ds in
    let one : take 1454 old ≡ first = ap (take 1454) here ∙ take_at first rest 1454 long in
    let others : drop 1454 old ≡ rest = ap (drop 1454) here ∙ drop_at first rest 1454 long in
    ap (λ (t : List ℕ). renewed_endorsement t ++ renewed_endorsements (drop 1454 old) (length ds)) one
    ∙ ap (λ (t : List ℕ). t ++ renewed_endorsements (drop 1454 old) (length ds)) (one_renewed d (All-head IsByKeyZero d ds keys))
    ∙ ap (λ (t : List ℕ). endorsement_text d ++ t) (endorsements_renewed ds (drop 1454 old) (All-tail IsEndorsement d ds each) (All-tail IsByKeyZero d ds keys) others)
    ∙ sym (flat_map-cons endorsement_text d ds)

record IsOldOne (old : List ℕ) (d : Endorsement) : Type 0 where
  text : old ≡ old_endorsement_text d
  key : IsByKeyZero d

one_old : (old : List ℕ) (d : Endorsement) → length old ≡ 1454 → renewed_endorsement old ≡ endorsement_text d → IsOldOne old d
one_old old d long same =
    let size : length (take 2 old) ≡ length (big_bytes 2 d.replica) = length-take-le 2 old (omega arith) in
    let number : take 2 old ≡ big_bytes 2 d.replica = same_front (take 2 old) (big_bytes 2 d.replica) (0 ∷ drop 2 old) (d.key ∷ d.signature) size same in
    let keyed : 0 ∷ drop 2 old ≡ d.key ∷ d.signature = same_rest (take 2 old) (big_bytes 2 d.replica) (0 ∷ drop 2 old) (d.key ∷ d.signature) size same in
    let signature : drop 2 old ≡ d.signature = ap (drop 1) keyed in
    record {
      text = sym (take-append-drop 2 old) ∙ ap (λ (t : List ℕ). t ++ drop 2 old) number ∙ ap (λ (t : List ℕ). big_bytes 2 d.replica ++ t) signature;
      key = ap (λ (t : List ℕ). slice_index t 0) (sym keyed);
    }

record AreOldOnes (old : List ℕ) (ds : List Endorsement) : Type 0 where
  texts : old ≡ flat_map old_endorsement_text ds
  keys : All IsByKeyZero ds

-- what is renewed was old
endorsements_old : (ds : List Endorsement) (old : List ℕ) → All IsEndorsement ds → length old ≡ 1454 * length ds
    → renewed_endorsements old (length ds) ≡ flat_map endorsement_text ds → AreOldOnes old ds
endorsements_old [] old each long same = record { texts = nil_from_length old (omega arith); keys = All-nil IsByKeyZero }
endorsements_old (d ∷ ds) old each long same =
    let one = take 1454 old in
    let others = drop 1454 old in
    let one_long : length one ≡ 1454 = length-take-le 1454 old (omega arith) in
    let size : length (renewed_endorsement one) ≡ length (endorsement_text d) =
    length-append (take 2 one) (0 ∷ drop 2 one) ∙ omega (arith, length-take-le 2 one (omega arith), length-drop 2 one, length-new d (All-head IsEndorsement d ds each)) in
    let both : renewed_endorsement one ++ renewed_endorsements others (length ds) ≡ endorsement_text d ++ flat_map endorsement_text ds = same ∙ flat_map-cons endorsement_text d ds in
    let first = one_old one d one_long (same_front (renewed_endorsement one) (endorsement_text d) (renewed_endorsements others (length ds)) (flat_map endorsement_text ds) size both) in
    let later = endorsements_old ds others (All-tail IsEndorsement d ds each) (omega (arith, length-drop 1454 old))
    (same_rest (renewed_endorsement one) (endorsement_text d) (renewed_endorsements others (length ds)) (flat_map endorsement_text ds) size both) in
    record {
      texts = sym (take-append-drop 1454 old) ∙ ap (λ (t : List ℕ). t ++ others) first.text ∙ ap (λ (t : List ℕ). old_endorsement_text d ++ t) later.texts
          ∙ sym (flat_map-cons old_endorsement_text d ds);
      keys = All-cons IsByKeyZero d ds first.key later.keys;
    }

-- one more is renewed
renewed_more : (old : List ℕ) (n : ℕ) → renewed_endorsements old (suc n) ≡ renewed_endorsements old n ++ renewed_endorsement (piece 1454 old (1454 * n))
renewed_more old zero = append-nil (renewed_endorsement (take 1454 old))
renewed_more old (suc n) =
    let first = renewed_endorsement (take 1454 old) in
    let place : 1454 + 1454 * n ≡ 1454 * suc n = omega arith in
    let last : piece 1454 (drop 1454 old) (1454 * n) ≡ piece 1454 old (1454 * suc n) = ap (take 1454) (drop-drop (1454 * n) 1454 old) ∙ ap (piece 1454 old) place in
    ap (λ (t : List ℕ). first ++ t) (renewed_more (drop 1454 old) n)
    ∙ ap (λ (t : List ℕ). first ++ (renewed_endorsements (drop 1454 old) n ++ renewed_endorsement t)) last
    ∙ sym (append_assoc first (renewed_endorsements (drop 1454 old) n) (renewed_endorsement (piece 1454 old (1454 * suc n))))

-- one more is put
pub put_more : (before out next old one : List ℕ) (n : ℕ) → out ≡ before ++ renewed_endorsements old n → one ≡ piece 1454 old (1454 * n) → next ≡ out ++ renewed_endorsement one
    → next ≡ before ++ renewed_endorsements old (n + 1)
put_more before out next old one n so_far is here =
    let last = renewed_endorsement one in
    here ∙ ap (λ (t : List ℕ). t ++ last) so_far ∙ append_assoc before (renewed_endorsements old n) last
    ∙ ap (λ (t : List ℕ). before ++ (renewed_endorsements old n ++ renewed_endorsement t)) is
    ∙ ap (λ (t : List ℕ). before ++ t) (sym (renewed_more old n)) ∙ ap (λ (m : ℕ). before ++ renewed_endorsements old m) (sym (add-one n))

-- ---- certificates

-- what stands in a certificate before its entries, in either form
abbrev head_text : Certificate → List ℕ
head_text c = big_bytes 8 c.view ++ (c.id ++ big_bytes 2 (length c.entries))

length-head_text : (c : Certificate) → IsCertificate c → length (head_text c) ≡ 42
length-head_text c is = let id = is.id in omega (arith, length-append c.id (big_bytes 2 (length c.entries)))

-- a text of a head and a rest
split_head : (c : Certificate) (rest : List ℕ) → big_bytes 8 c.view ++ (c.id ++ (big_bytes 2 (length c.entries) ++ rest)) ≡ head_text c ++ rest
split_head c rest =
    ap (λ (t : List ℕ). big_bytes 8 c.view ++ t) (sym (append_assoc c.id (big_bytes 2 (length c.entries)) rest))
    ∙ sym (append_assoc (big_bytes 8 c.view) (c.id ++ big_bytes 2 (length c.entries)) rest)

split_old : (c : Certificate) → old_certificate_text c ≡ head_text c ++ flat_map old_endorsement_text c.entries
unfolding old_certificate_text
split_old c = split_head c (flat_map old_endorsement_text c.entries)

split_new : (c : Certificate) → certificate_text c ≡ head_text c ++ flat_map endorsement_text c.entries
unfolding certificate_text
split_new c = split_head c (flat_map endorsement_text c.entries)

-- how many entries the head names
head_count : (c : Certificate) (rest others : List ℕ) → IsCertificate c → rest ≡ head_text c ++ others → count_in rest ≡ length c.entries
head_count c rest others is here =
    let most = is.most in
    let start : drop 0 rest ≡ big_bytes 8 c.view ++ (c.id ++ (big_bytes 2 (length c.entries) ++ others)) = here ∙ sym (split_head c others) in
    let second = behind rest 0 8 (big_bytes 8 c.view) (c.id ++ (big_bytes 2 (length c.entries) ++ others)) start refl in
    let third = behind rest 8 32 c.id (big_bytes 2 (length c.entries) ++ others) second is.id in
    number_again 2 rest 40 (length c.entries) (omega arith) (front rest 40 2 (big_bytes 2 (length c.entries)) others third refl)

-- an old certificate is renewed
record IsRenewed (rest : List ℕ) (c : Certificate) : Type 0 where
  whole : IsOldWhole rest
  text : renewed_certificate rest ≡ certificate_text c

certificate_renewed : (rest : List ℕ) (c : Certificate) → IsCertificate c → All IsByKeyZero c.entries → rest ≡ old_certificate_text c → IsRenewed rest c
certificate_renewed rest c is keys same =
    let head = head_text c in
    let others = flat_map old_endorsement_text c.entries in
    let here : rest ≡ head ++ others = same ∙ split_old c in
    let long = length-head_text c is in
    let count : count_in rest ≡ length c.entries = head_count c rest others is here in
    let size : length rest ≡ 42 + 1454 * length c.entries = ap length here ∙ length-append head others ∙ omega (arith, long, length-olds c.entries is.each) in
    let first : take 42 rest ≡ head = ap (take 42) here ∙ take_at head others 42 long in
    let last : drop 42 rest ≡ others = ap (drop 42) here ∙ drop_at head others 42 long in
    record {
      whole = record { head = omega (arith, size); whole = size ∙ ap (λ (n : ℕ). 42 + 1454 * n) (sym count) };
      text =
          ap (λ (t : List ℕ). t ++ renewed_endorsements (drop 42 rest) (count_in rest)) first
          ∙ ap (λ (n : ℕ). head ++ renewed_endorsements (drop 42 rest) n) count
          ∙ ap (λ (t : List ℕ). head ++ t) (endorsements_renewed c.entries (drop 42 rest) is.each keys last)
          ∙ sym (split_new c);
    }

-- what is renewed to a certificate was an old one
record IsOldText (rest : List ℕ) (c : Certificate) : Type 0 where
  text : rest ≡ old_certificate_text c
  keys : All IsByKeyZero c.entries

certificate_old : (rest : List ℕ) (c : Certificate) → IsCertificate c → IsOldWhole rest → renewed_certificate rest ≡ certificate_text c → IsOldText rest c
certificate_old rest c is whole same =
    let head = head_text c in
    let long = length-head_text c is in
    let both : take 42 rest ++ renewed_endorsements (drop 42 rest) (count_in rest) ≡ head ++ flat_map endorsement_text c.entries = same ∙ split_new c in
    let size : length (take 42 rest) ≡ length head = length-take-le 42 rest whole.head ∙ sym long in
    let first : take 42 rest ≡ head = same_front (take 42 rest) head (renewed_endorsements (drop 42 rest) (count_in rest)) (flat_map endorsement_text c.entries) size both in
    let last = same_rest (take 42 rest) head (renewed_endorsements (drop 42 rest) (count_in rest)) (flat_map endorsement_text c.entries) size both in
    let here : rest ≡ head ++ drop 42 rest = sym (take-append-drop 42 rest) ∙ ap (λ (t : List ℕ). t ++ drop 42 rest) first in
    let count : count_in rest ≡ length c.entries = head_count c rest (drop 42 rest) is here in
    let others = endorsements_old c.entries (drop 42 rest) is.each
    (length-drop 42 rest ∙ omega (arith, whole.whole, ap (λ (n : ℕ). 1454 * n) count))
    (ap (renewed_endorsements (drop 42 rest)) (sym count) ∙ last) in
    record {
      text = here ∙ ap (λ (t : List ℕ). head ++ t) others.texts ∙ sym (split_old c);
      keys = others.keys;
    }

-- ---- what is spelled in the old form is renewed

-- behind the headers stand the own vote, if there is one, and the rest
record IsTail (bytes : List ℕ) (own : Option KeyedSignature) (block : Header) (rest : List ℕ) : Type 0 where
  kind : IsOldKind (slice_index bytes 0)
  rest_is : drop (old_place (is_old_voted bytes)) bytes ≡ rest
  renewed_is : renewed_kind (is_old_voted bytes) ≡ entry_kind own
  own_is : renewed_own (is_old_voted bytes) bytes ≡ own_vote_text block own

old_vote : (block : Header) (s : KeyedSignature) → IsKeyedSignature s → length (big_bytes 8 block.view ++ (header_id block ++ s.signature)) ≡ 1492
old_vote block s is =
    let id = length-header_id block in
    omega (arith, is.signature, length-append (header_id block) s.signature)

old_tail : (bytes : List ℕ) (own : Option KeyedSignature) (block : Header) (rest : List ℕ) → IfSome own IsKeyedSignature → IfSome own (λ s. s.key ≡ 0)
    → slice_index bytes 0 ≡ old_entry_kind own → drop 169 bytes ≡ old_own_vote_text block own ++ rest → IsTail bytes own block rest
old_tail bytes (Some s) block rest is key kind here =
    let voted : is_old_voted bytes ≡ true = ap (λ (k : ℕ). k == 1) kind in
    let vote = big_bytes 8 block.view ++ (header_id block ++ s.signature) in
    let long = old_vote block s is in
    let own : piece 1492 bytes 169 ≡ vote = front bytes 169 1492 vote rest here long in
    record {
      kind = inl kind;
      rest_is = ap (λ (v : Bool). drop (old_place v) bytes) voted ∙ behind bytes 169 1492 vote rest here long;
      renewed_is = ap renewed_kind voted;
      own_is = ap (λ (v : Bool). renewed_own v bytes) voted ∙ ap (λ (t : List ℕ). 0 ∷ t) own ∙ ap (λ (k : ℕ). k ∷ vote) (sym key);
    }
old_tail bytes None block rest is key kind here =
    let voted : is_old_voted bytes ≡ false = ap (λ (k : ℕ). k == 1) kind in
    record {
      kind = inr kind;
      rest_is = ap (λ (v : Bool). drop (old_place v) bytes) voted ∙ here;
      renewed_is = ap renewed_kind voted;
      own_is = ap (λ (v : Bool). renewed_own v bytes) voted;
    }

two_headers : (e : Entry) → IsEntry e → length (header_text e.block ++ header_text e.parent) ≡ 168
two_headers e is = length-append (header_text e.block) (header_text e.parent) ∙ omega (arith, length-header_text e.block is.block, length-header_text e.parent is.parent)

pub old_renewed : (bytes : List ℕ) (e : Entry) → IsOldEntryOf bytes e → HasOldForm bytes × (renewed bytes ≡ entry_text e)
unfolding old_entry_text renewed_text entry_text
old_renewed bytes e is =
    let entry = is.old.entry in
    let headers = header_text e.block ++ header_text e.parent in
    let last = old_certificate_text e.certificate in
    let own = old_own_vote_text e.block e.own in
    let kind : slice_index bytes 0 ≡ old_entry_kind e.own = ap (λ (t : List ℕ). slice_index t 0) is.text in
    let start : drop 0 bytes ≡ (old_entry_kind e.own ∷ []) ++ (headers ++ (own ++ last)) =
    is.text ∙ ap (λ (t : List ℕ). old_entry_kind e.own ∷ t) (sym (append_assoc (header_text e.block) (header_text e.parent) (own ++ last))) in
    let first : drop 1 bytes ≡ headers ++ (own ++ last) = behind bytes 0 1 (old_entry_kind e.own ∷ []) (headers ++ (own ++ last)) start refl in
    let long = two_headers e entry in
    let both : piece 168 bytes 1 ≡ headers = front bytes 1 168 headers (own ++ last) first long in
    let tail = old_tail bytes e.own e.block last entry.own is.old.keys.own kind (behind bytes 1 168 headers (own ++ last) first long) in
    let voted = is_old_voted bytes in
    let rest = drop (old_place voted) bytes in
    let certificate = certificate_renewed rest e.certificate entry.certificate is.old.keys.each tail.rest_is in (
      record { kind = tail.kind; whole = certificate.whole },
      ap (λ (k : ℕ). k ∷ (piece 168 bytes 1 ++ (renewed_own voted bytes ++ renewed_certificate rest))) tail.renewed_is
          ∙ ap (λ (t : List ℕ). entry_kind e.own ∷ (t ++ (renewed_own voted bytes ++ renewed_certificate rest))) both
          ∙ ap (λ (t : List ℕ). entry_kind e.own ∷ (headers ++ (t ++ renewed_certificate rest))) tail.own_is
          ∙ ap (λ (t : List ℕ). entry_kind e.own ∷ (headers ++ (own_vote_text e.block e.own ++ t))) certificate.text
          ∙ ap (λ (t : List ℕ). entry_kind e.own ∷ t) (append_assoc (header_text e.block) (header_text e.parent) (own_vote_text e.block e.own ++ certificate_text e.certificate)),
    )

-- ---- what is renewed to an entry was spelled in the old form

record IsRenewedTail (voted : Bool) (bytes : List ℕ) (own : Option KeyedSignature) (block : Header) (rest last : List ℕ) : Type 0 where
  kind : old_entry_kind own ≡ (if voted then 1 else 2)
  key : IfSome own (λ s. s.key ≡ 0)
  here : drop 169 bytes ≡ old_own_vote_text block own ++ drop (old_place voted) bytes
  rest_is : rest ≡ last

renewed_tail : (voted : Bool) (bytes : List ℕ) (own : Option KeyedSignature) (block : Header) (rest last : List ℕ) → old_place voted ≤ length bytes → IfSome own IsKeyedSignature
    → renewed_kind voted ≡ entry_kind own → renewed_own voted bytes ++ rest ≡ own_vote_text block own ++ last → IsRenewedTail voted bytes own block rest last
renewed_tail true bytes (Some s) block rest last long is kind same =
    let vote = big_bytes 8 block.view ++ (header_id block ++ s.signature) in
    let size : length (0 ∷ piece 1492 bytes 169) ≡ length (s.key ∷ vote) = omega (arith, length-piece 1492 bytes 169 long, old_vote block s is) in
    let keyed : 0 ∷ piece 1492 bytes 169 ≡ s.key ∷ vote = same_front (0 ∷ piece 1492 bytes 169) (s.key ∷ vote) rest last size same in
    let own : piece 1492 bytes 169 ≡ vote = ap (drop 1) keyed in
    record {
      kind = refl;
      key = ap (λ (t : List ℕ). slice_index t 0) (sym keyed);
      here = cut bytes 169 1492 ∙ ap (λ (t : List ℕ). t ++ drop 1661 bytes) own;
      rest_is = same_rest (0 ∷ piece 1492 bytes 169) (s.key ∷ vote) rest last size same;
    }
renewed_tail false bytes None block rest last long is kind same = record { kind = refl; key = tt; here = refl; rest_is = same }
renewed_tail true bytes None block rest last long is kind same = absurd (omega (arith, kind))
renewed_tail false bytes (Some s) block rest last long is kind same = absurd (omega (arith, kind))

kind_again : (kind : ℕ) → IsOldKind kind → kind ≡ (if kind == 1 then 1 else 2)
kind_again kind (inl one) = rw one refl
kind_again kind (inr two) = rw two refl

least_place : (voted : Bool) → 169 ≤ old_place voted
least_place true = omega arith
least_place false = omega arith

pub renewed_old : (bytes : List ℕ) (e : Entry) → HasOldForm bytes → IsEntryOf (renewed bytes) e → IsOldEntryOf bytes e
unfolding old_entry_text renewed_text entry_text
renewed_old bytes e form is =
    let entry = is.entry in
    let voted = is_old_voted bytes in
    let rest = drop (old_place voted) bytes in
    let headers = header_text e.block ++ header_text e.parent in
    let new = own_vote_text e.block e.own ++ certificate_text e.certificate in
    let some : old_place voted + 42 ≤ length bytes = omega (arith, form.whole.head, length-drop (old_place voted) bytes) in
    let least = least_place voted in
    let kind : renewed_kind voted ≡ entry_kind e.own = ap (λ (t : List ℕ). slice_index t 0) is.text in
    let behind_kind : piece 168 bytes 1 ++ (renewed_own voted bytes ++ renewed_certificate rest) ≡ headers ++ new =
    ap (drop 1) is.text ∙ sym (append_assoc (header_text e.block) (header_text e.parent) new) in
    let size : length (piece 168 bytes 1) ≡ length headers = length-piece 168 bytes 1 (omega arith) ∙ sym (two_headers e entry) in
    let both : piece 168 bytes 1 ≡ headers = same_front (piece 168 bytes 1) headers (renewed_own voted bytes ++ renewed_certificate rest) new size behind_kind in
    let tail = renewed_tail voted bytes e.own e.block (renewed_certificate rest) (certificate_text e.certificate) (omega arith) entry.own kind
    (same_rest (piece 168 bytes 1) headers (renewed_own voted bytes ++ renewed_certificate rest) new size behind_kind) in
    let certificate = certificate_old rest e.certificate entry.certificate form.whole tail.rest_is in
    let own = old_own_vote_text e.block e.own in
    let last = old_certificate_text e.certificate in
    let first : slice_index bytes 0 ≡ old_entry_kind e.own = kind_again (slice_index bytes 0) form.kind ∙ sym tail.kind in
    record {
      old = record { entry = entry; keys = record { own = tail.key; each = certificate.keys } };
      text =
          drop_more bytes 0 0 (omega arith)
          ∙ ap (λ (k : ℕ). k ∷ drop 1 bytes) first
          ∙ ap (λ (t : List ℕ). old_entry_kind e.own ∷ t) (
          cut bytes 1 168
          ∙ ap (λ (t : List ℕ). t ++ drop 169 bytes) both
          ∙ ap (λ (t : List ℕ). headers ++ t) (tail.here ∙ ap (λ (t : List ℕ). own ++ t) certificate.text)
          ∙ append_assoc (header_text e.block) (header_text e.parent) (own ++ last));
    }

-- bytes spell one entry in the old form
pub one_old_entry : (bytes : List ℕ) (e f : Entry) → IsOldEntryOf bytes e → IsOldEntryOf bytes f → e ≡ f
one_old_entry bytes e f is_e is_f =
    one_spelling e f is_e.old.entry is_f.old.entry (sym (old_renewed bytes e is_e).1 ∙ (old_renewed bytes f is_f).1)

-- ---- what is put

-- all that stands behind a place
pub rest_from : (bytes : List ℕ) (at : ℕ) → take (length bytes - at) (drop at bytes) ≡ drop at bytes
rest_from bytes at = take_all (length bytes - at) (drop at bytes) (omega (arith, length-drop at bytes))

pub certificate_put : (before out next rest head last : List ℕ) (n : ℕ) → n ≡ count_in rest → head ≡ take 42 rest → last ≡ drop 42 rest
    → out ≡ before ++ head → next ≡ out ++ renewed_endorsements last n → next ≡ before ++ renewed_certificate rest
certificate_put before out next rest head last n count front behind first here =
    here ∙ ap (λ (t : List ℕ). t ++ renewed_endorsements last n) first ∙ append_assoc before head (renewed_endorsements last n)
    ∙ rw (count, front, behind) refl

-- the pieces of an entry, one after the other
pub entry_put : (bytes a b d f g : List ℕ) (voted : Bool) → is_old_voted bytes ≡ voted → a ≡ [] → b ≡ a ++ renewed_kind voted ∷ [] → d ≡ b ++ piece 168 bytes 1
    → f ≡ d ++ renewed_own voted bytes → g ≡ f ++ renewed_certificate (drop (old_place voted) bytes) → g ≡ renewed bytes
unfolding renewed_text
entry_put bytes a b d f g voted is p q r s t =
    let kind = renewed_kind voted ∷ [] in
    let headers = piece 168 bytes 1 in
    let own = renewed_own voted bytes in
    let last = renewed_certificate (drop (old_place voted) bytes) in
    t ∙ ap (λ (x : List ℕ). x ++ last) (s ∙ ap (λ (x : List ℕ). x ++ own) (r ∙ ap (λ (x : List ℕ). x ++ headers) (q ∙ ap (λ (x : List ℕ). x ++ kind) p)))
    ∙ append_assoc (kind ++ headers) own last
    ∙ append_assoc kind headers (own ++ last)
    ∙ ap (λ (v : Bool). renewed_text v bytes) (sym is)
