-- What is read is spelled so, and what is spelled so is read.
use Rattle.std.proofs.Common.{◌≡◌, ◌≢◌, ◌⊎◌, inl, inr, ℕ, ◌+◌, ◌*◌, ◌<◌, ◌≤◌, ◌==◌, ◌&&◌, Bool, true, false, List, [], ◌∷◌, ◌++◌, length, take, drop, Option, Some, None, Result, Ok, Err, refl, sym, ap, subst, ◌∙◌, append_assoc, arith}
use Rattle.std.specs.Prelude.{IfErr, IfOk, IfSome, IsOk, nat_le, slice_index}
use Rattle.std.proofs.lemmas.Bool.Decides.{nat_tests}
use Rattle.std.proofs.lemmas.List.{drop_more, get_or-drop, length-append, length-drop}
use Rattle.byteorder.specs.Endian.{big_bytes}
use Rattle.sha2.proofs.Facts256.{length-sha256}
use Rattle.base_wire.specs.Pieces.{piece, AreBytes}
use Rattle.base_wire.proofs.Numbers.{AreBytes-piece, front, behind, taken, length-piece, piece-number_at, number_again}
use Rattle.base_wire.proofs.Order.{refused_fails}
use Rattle.blocks.specs.Headers.{Header, IsHeader, NamesParent, header_id, header_text}
use Rattle.blocks.specs.HeaderReading.{header_at, header_in}
use Rattle.blocks.proofs.HeaderLaws.{header_found, header_again}
use Rattle.certificates.specs.Certificates.{Certificate, IsCertificate, certificate_text}
use Rattle.certificates.specs.CertificateReading.{certificate_at, certificate_in, count_in, is_whole_certificate}
use Rattle.certificates.proofs.CertificateLaws.{certificate_found, certificate_again}
use Rattle.certificates.proofs.Entries.{length-entries_in}
use Rattle.certificates.proofs.Pieces.{two_pieces}
use Rattle.log_format.specs.declared.entry.KeyedSignature.{KeyedSignature}
use Rattle.log_format.specs.declared.entry.EntryRefusal.{EntryRefusal}
use Rattle.log_format.specs.declared.entry.EntryRefusal.TheVariants.{Memory, Length, Kind, Header as HeaderRefused, Parent, OwnVote, Certificate as CertificateRefused}
use Rattle.log_format.specs.EntryText.{Entry, EntriesHaveOneSpelling, IsEntry, IsEntryOf, IsOn, IsKeyedSignature, entry_text, entry_kind, own_vote_text}
use Rattle.log_format.specs.EntryReading.{IsEntryRefusal, IsOwnVoteOn, IsReadableEntry, PassesEntry, block_in, certificate_in_rest, certificate_place, entry_in, entry_order, entry_refusal_number, is_voted_in, entry_kind_in, own_in, parent_in, rest_in}
use Rattle.log_format.proofs.EntryParts.{read_header, read_certificate, whole_certificate, header_is, certificate_is, ok_from}

-- ---- what is read is spelled so

AreBytes-drop : (n : ℕ) (bytes : List ℕ) → AreBytes bytes → AreBytes (drop n bytes)
AreBytes-drop n bytes fit i = rw (get_or-drop n bytes i 0) (fit (n + i))

whole_long : (len n : ℕ) → (nat_le 42 len && (len == 42 + 1455 * n)) ≡ true → 42 ≤ len
whole_long len n e = grind (arith, nat_tests)

-- there is a certificate's head behind the place
long_enough : (bytes : List ℕ) (place : ℕ) → is_whole_certificate (drop place bytes) ≡ true → place + 42 ≤ length bytes
long_enough bytes place whole =
    let long = whole_long (length (drop place bytes)) (count_in (drop place bytes)) whole in
    omega (arith, long, length-drop place bytes)

one_byte : (bytes : List ℕ) (at : ℕ) → at < length bytes → piece 1 bytes at ≡ slice_index bytes at ∷ []
one_byte bytes at some = ap (take 1) (drop_more bytes at 0 some)

kind_is : (k : ℕ) (bytes : List ℕ) → (k ≡ 3) ⊎ (k ≡ 4) → k ≡ entry_kind (own_in (k == 3) bytes)
unfolding own_in
kind_is k bytes (inl voted) = rw voted refl
kind_is k bytes (inr raised) = rw raised refl

signed : (voted : Bool) (bytes : List ℕ) → AreBytes bytes → certificate_place voted ≤ length bytes → IfSome (own_in voted bytes) IsKeyedSignature
unfolding own_in
signed true bytes fit long = record { key = fit 169; signature = length-piece 1452 bytes 210 (omega arith) }
signed false bytes fit long = tt

-- the own vote, if there is one, and the rest
tail_spelled : (voted : Bool) (bytes : List ℕ) (block : Header) (rest : List ℕ) → AreBytes bytes → certificate_place voted ≤ length bytes
    → (voted ≡ true → IsOwnVoteOn block bytes) → drop (certificate_place voted) bytes ≡ rest
    → drop 169 bytes ≡ own_vote_text block (own_in voted bytes) ++ rest
unfolding own_in
tail_spelled true bytes block rest fit long own is =
    let on = own refl in
    let view : piece 8 bytes 170 ≡ big_bytes 8 block.view = piece-number_at 8 bytes 170 fit (omega arith) ∙ ap (λ (n : ℕ). big_bytes 8 n) on.view in
    let vote : piece 1492 bytes 170 ≡ big_bytes 8 block.view ++ (header_id block ++ piece 1452 bytes 210) =
    sym (two_pieces bytes 170 8 1484)
    ∙ ap (λ (t : List ℕ). piece 8 bytes 170 ++ t) (sym (two_pieces bytes 178 32 1452))
    ∙ rw (view, on.id) refl in
    let keyed : piece 1493 bytes 169 ≡ (slice_index bytes 169 ∷ []) ++ (big_bytes 8 block.view ++ (header_id block ++ piece 1452 bytes 210)) =
    sym (two_pieces bytes 169 1 1492) ∙ rw (one_byte bytes 169 (omega arith), vote) refl in
    taken bytes 169 1493 _ rest keyed is
tail_spelled false bytes block rest fit long own is = is

least_place : (voted : Bool) → 169 ≤ certificate_place voted
least_place true = omega arith
least_place false = omega arith

-- the parts of a readable text spell it
pub entry_found : (bytes : List ℕ) → AreBytes bytes → IsReadableEntry bytes → IsEntryOf bytes (entry_in bytes)
unfolding entry_text block_in parent_in certificate_in_rest
entry_found bytes fit readable =
    let voted = is_voted_in bytes in
    let rest = rest_in voted bytes in
    let whole = readable.1.0 in
    let headers = readable.1.1.0 in
    let names = readable.1.1.1.0 in
    let own = readable.1.1.1.1.0 in
    let certificate = readable.1.1.1.1.1.0 in
    let long : certificate_place voted + 42 ≤ length bytes = long_enough bytes (certificate_place voted) whole in
    let least : 169 ≤ certificate_place voted = least_place voted in
    let kind = readable.0 (omega arith) in
    let block = header_found (piece 84 bytes 1) (block_in bytes) (AreBytes-piece 84 bytes 1 fit) (header_is (piece 84 bytes 1) headers.0) in
    let parent = header_found (piece 84 bytes 85) (parent_in bytes) (AreBytes-piece 84 bytes 85 fit) (header_is (piece 84 bytes 85) headers.1) in
    let last = certificate_found rest (certificate_in_rest rest) (AreBytes-drop (certificate_place voted) bytes fit) (certificate_is rest certificate.0) in
    let first : piece 1 bytes 0 ≡ entry_kind (own_in voted bytes) ∷ [] =
    one_byte bytes 0 (omega arith) ∙ ap (λ (k : ℕ). k ∷ []) (kind_is (entry_kind_in bytes) bytes kind) in
    record {
      entry = record {
        block = block.0;
        parent = parent.0;
        names = names;
        own = signed voted bytes fit (omega arith);
        certificate = last.0;
        on_parent = certificate.1;
      };
      text =
          taken bytes 0 1 _ _ first (
          taken bytes 1 84 _ _ block.1 (
          taken bytes 85 84 _ _ parent.1 (
          tail_spelled voted bytes (block_in bytes) _ fit (omega arith) own last.1)));
    }

-- ---- what is spelled so is read

true_is_not_false : (b : Bool) → b ≡ true → b ≡ false → ⊥
true_is_not_false b p q = absurd cc

pub length-header_id : (h : Header) → length (header_id h) ≡ 32
unfolding header_id
length-header_id h = length-sha256 (header_text h)

pub length-header_text : (h : Header) → IsHeader h → length (header_text h) ≡ 84
unfolding header_text
length-header_text h is =
    let parent = is.parent in
    let payload = is.payload in
    omega (arith, length-append h.parent h.payload)

-- where a header stands, it is read
record ReadsHeader (text : List ℕ) (at : ℕ) (h : Header) (rest : List ℕ) : Type 0 where
  readable : IsOk (header_in (piece 84 text at))
  same : header_at (piece 84 text at) ≡ h
  rest_is : drop (at + 84) text ≡ rest

reads_header : (text : List ℕ) (at : ℕ) (h : Header) (rest : List ℕ) → IsHeader h → drop at text ≡ header_text h ++ rest → ReadsHeader text at h rest
reads_header text at h rest is here =
    let long = length-header_text h is in
    let there : piece 84 text at ≡ header_text h = front text at 84 (header_text h) rest here long in
    let read : header_in (piece 84 text at) ≡ Ok h = ap header_in there ∙ header_again h is in
    record {
      readable = ok_from (header_in (piece 84 text at)) h read;
      same = sym (read_header (piece 84 text at) h (sym read));
      rest_is = behind text at 84 (header_text h) rest here long;
    }

-- and so is a certificate
record ReadsCertificate (text : List ℕ) (c : Certificate) : Type 0 where
  readable : IsOk (certificate_in text)
  same : certificate_at text ≡ c
  whole : is_whole_certificate text ≡ true

reads_certificate : (text : List ℕ) (c : Certificate) → IsCertificate c → text ≡ certificate_text c → ReadsCertificate text c
reads_certificate text c is here =
    let read : certificate_in text ≡ Ok c = ap certificate_in here ∙ certificate_again c is in
    record {
      readable = ok_from (certificate_in text) c read;
      same = sym (read_certificate text c (sym read));
      whole = whole_certificate text c read;
    }

abbrev keyed_from : ℕ → List ℕ → KeyedSignature
keyed_from k s = record { key = k; signature = s }

-- behind the headers the own vote is read, if there is one, and then the rest
record ReadsTail (text : List ℕ) (block : Header) (signed : Option KeyedSignature) (rest : List ℕ) : Type 0 where
  kind : (slice_index text 0 ≡ 3) ⊎ (slice_index text 0 ≡ 4)
  own : is_voted_in text ≡ true → IsOwnVoteOn block text
  same : own_in (is_voted_in text) text ≡ signed
  rest_is : rest_in (is_voted_in text) text ≡ rest

reads_tail : (text : List ℕ) (block : Header) (o : Option KeyedSignature) (rest : List ℕ) → IsHeader block → IfSome o IsKeyedSignature
    → length (header_id block) ≡ 32 → slice_index text 0 ≡ entry_kind o → drop 169 text ≡ own_vote_text block o ++ rest → ReadsTail text block o rest
unfolding own_in
reads_tail text block (Some s) rest is signed id kind here =
    let voted : is_voted_in text ≡ true = ap (λ (k : ℕ). k == 3) kind in
    let vote = header_id block ++ (s.signature ++ rest) in
    let grouped : drop 169 text ≡ (s.key ∷ []) ++ (big_bytes 8 block.view ++ vote) = here ∙ ap (λ (t : List ℕ). s.key ∷ (big_bytes 8 block.view ++ t)) (append_assoc (header_id block) s.signature rest) in
    let first : drop 170 text ≡ big_bytes 8 block.view ++ vote = behind text 169 1 (s.key ∷ []) _ grouped refl in
    let second : drop 178 text ≡ vote = behind text 170 8 (big_bytes 8 block.view) vote first refl in
    let third : drop 210 text ≡ s.signature ++ rest = behind text 178 32 (header_id block) (s.signature ++ rest) second id in
    let key : slice_index text 169 ≡ s.key = sym (get_or-drop 169 text 0 0) ∙ ap (λ (t : List ℕ). slice_index t 0) grouped in
    let signature : piece 1452 text 210 ≡ s.signature = front text 210 1452 s.signature rest third signed.signature in
    record {
      kind = inl kind;
      own = λ _. record {
        view = number_again 8 text 170 block.view is.view (front text 170 8 (big_bytes 8 block.view) vote first refl);
        id = front text 178 32 (header_id block) (s.signature ++ rest) second id;
      };
      same = ap (λ (v : Bool). own_in v text) voted ∙ ap (λ (k : ℕ). Some (keyed_from k (piece 1452 text 210))) key ∙ ap (λ (t : List ℕ). Some (keyed_from s.key t)) signature;
      rest_is = ap (λ (v : Bool). rest_in v text) voted ∙ behind text 210 1452 s.signature rest third signed.signature;
    }
reads_tail text block None rest is signed id kind here =
    let voted : is_voted_in text ≡ false = ap (λ (k : ℕ). k == 3) kind in
    record {
      kind = inr kind;
      own = λ yes. absurd (true_is_not_false _ yes voted);
      same = ap (λ (v : Bool). own_in v text) voted;
      rest_is = ap (λ (v : Bool). rest_in v text) voted ∙ here;
    }

abbrev entry_from : Header → Header → Option KeyedSignature → Certificate → Entry
entry_from b p s c = record { block = b; parent = p; own = s; certificate = c }

same_entry : (e : Entry) (b p : Header) (s : Option KeyedSignature) (c : Certificate) → b ≡ e.block → p ≡ e.parent → s ≡ e.own → c ≡ e.certificate → entry_from b p s c ≡ e
same_entry e b p s c q r t u =
    ap (λ (x : Header). entry_from x p s c) q ∙ ap (λ (x : Header). entry_from e.block x s c) r
    ∙ ap (λ (x : Option KeyedSignature). entry_from e.block e.parent x c) t ∙ ap (entry_from e.block e.parent e.own) u

-- what is written is read, with its parts
pub entry_again : (bytes : List ℕ) (e : Entry) → IsEntryOf bytes e → IsReadableEntry bytes × (entry_in bytes ≡ e)
unfolding entry_text block_in parent_in certificate_in_rest
entry_again text e is =
    let entry = is.entry in
    let own = own_vote_text e.block e.own ++ certificate_text e.certificate in
    let start : drop 0 text ≡ (entry_kind e.own ∷ []) ++ (header_text e.block ++ (header_text e.parent ++ own)) = is.text in
    let block = reads_header text 1 e.block (header_text e.parent ++ own) entry.block (behind text 0 1 (entry_kind e.own ∷ []) _ start refl) in
    let parent = reads_header text 85 e.parent own entry.parent block.rest_is in
    let kind : slice_index text 0 ≡ entry_kind e.own = ap (λ (t : List ℕ). slice_index t 0) start in
    let tail = reads_tail text e.block e.own (certificate_text e.certificate) entry.block entry.own (length-header_id e.block) kind parent.rest_is in
    let last = reads_certificate (rest_in (is_voted_in text) text) e.certificate entry.certificate tail.rest_is in
    let names : NamesParent (block_in text) (parent_in text) =
    subst (λ (h : Header). NamesParent h (parent_in text)) (sym block.same) (subst (λ (h : Header). NamesParent e.block h) (sym parent.same) entry.names) in
    let own_vote : is_voted_in text ≡ true → IsOwnVoteOn (block_in text) text = subst (λ (h : Header). is_voted_in text ≡ true → IsOwnVoteOn h text) (sym block.same) tail.own in
    let on : IsOn (parent_in text) (certificate_in_rest (rest_in (is_voted_in text) text)) =
    subst (λ (h : Header). IsOn h (certificate_in_rest (rest_in (is_voted_in text) text))) (sym parent.same) (subst (IsOn e.parent) (sym last.same) entry.on_parent) in (
      (λ _. tail.kind, (last.whole, ((block.readable, parent.readable), (names, (own_vote, ((last.readable, on), tt)))))),
      same_entry e _ _ _ _ block.same parent.same tail.same last.same,
    )

-- ---- what a reading of all parts tells

pub found_of : (bytes : List ℕ) (r : Result Entry EntryRefusal) → AreBytes bytes → IfOk r (λ e. IsReadableEntry bytes × (e ≡ entry_in bytes)) → IfOk r (IsEntryOf bytes)
found_of bytes (Ok e) fit ok = subst (IsEntryOf bytes) (sym ok.1) (entry_found bytes fit ok.0)
found_of bytes (Err refusal) fit ok = tt

-- a refusal but that for memory spells nothing
pub not_spelled : (bytes : List ℕ) (refusal : EntryRefusal) (e : Entry) → IsEntryRefusal bytes refusal → refusal ≢ Memory → IsEntryOf bytes e → ⊥
not_spelled bytes Memory e refused other is = other refl
not_spelled bytes Length e refused other is = refused_fails entry_refusal_number (PassesEntry bytes) entry_order Length refused (entry_again bytes e is).0
not_spelled bytes Kind e refused other is = refused_fails entry_refusal_number (PassesEntry bytes) entry_order Kind refused (entry_again bytes e is).0
not_spelled bytes HeaderRefused e refused other is = refused_fails entry_refusal_number (PassesEntry bytes) entry_order HeaderRefused refused (entry_again bytes e is).0
not_spelled bytes Parent e refused other is = refused_fails entry_refusal_number (PassesEntry bytes) entry_order Parent refused (entry_again bytes e is).0
not_spelled bytes OwnVote e refused other is = refused_fails entry_refusal_number (PassesEntry bytes) entry_order OwnVote refused (entry_again bytes e is).0
not_spelled bytes CertificateRefused e refused other is = refused_fails entry_refusal_number (PassesEntry bytes) entry_order CertificateRefused refused (entry_again bytes e is).0

pub only_of : (bytes : List ℕ) (r : Result Entry EntryRefusal) (e : Entry) → IfOk r (λ e. IsReadableEntry bytes × (e ≡ entry_in bytes)) → IfErr r (IsEntryRefusal bytes)
    → IsEntryOf bytes e → r ≢ Err Memory → r ≡ Ok e
only_of bytes (Ok x) e ok refused is no_want = ap (λ (y : Entry). Ok y) (ok.1 ∙ (entry_again bytes e is).1)
only_of bytes (Err refusal) e ok refused is no_want = absurd (not_spelled bytes refusal e refused (λ same. no_want (ap (λ (x : EntryRefusal). Err x) same)) is)

-- two entries of the same bytes are one
pub one_spelling : EntriesHaveOneSpelling
one_spelling e f is_e is_f same =
    sym (entry_again (entry_text e) e (record { entry = is_e; text = refl })).1
    ∙ (entry_again (entry_text e) f (record { entry = is_f; text = same })).1

-- ---- how long an entry is

whole_is : (len n : ℕ) → (nat_le 42 len && (len == 42 + 1455 * n)) ≡ true → len ≡ 42 + 1455 * n
whole_is len n e = grind (arith, nat_tests)

length-certificate_text : (c : Certificate) → IsCertificate c → length (certificate_text c) ≤ 45147
length-certificate_text c is =
    let text = certificate_text c in
    let reads = reads_certificate text c is refl in
    let count : length c.entries ≡ count_in text = sym (ap (λ (x : Certificate). length x.entries) reads.same) ∙ length-entries_in text (count_in text) in
    let few = is.most in
    let long = whole_is (length text) (count_in text) reads.whole in
    omega arith

length-own_vote_text : (block : Header) (o : Option KeyedSignature) → IfSome o IsKeyedSignature → length (own_vote_text block o) ≤ 1493
length-own_vote_text block (Some s) signed =
    let both = length-append (header_id block) s.signature in
    let id = length-header_id block in
    omega (arith, signed.signature)
length-own_vote_text block None signed = omega arith

pub length-entry_text : (e : Entry) → IsEntry e → (0 < length (entry_text e)) × (length (entry_text e) ≤ 46809)
unfolding entry_text
length-entry_text e is =
    let own = own_vote_text e.block e.own in
    let certificate = certificate_text e.certificate in
    let a = length-header_text e.block is.block in
    let b = length-header_text e.parent is.parent in
    let c = length-own_vote_text e.block e.own is.own in
    let d = length-certificate_text e.certificate is.certificate in
    let p = length-append own certificate in
    let q = length-append (header_text e.parent) (own ++ certificate) in
    let r = length-append (header_text e.block) (header_text e.parent ++ (own ++ certificate)) in
    (omega arith, omega arith)

-- ---- what is written

-- the pieces of an entry, one after the other
pub written : (e : Entry) (a b c d f g : List ℕ) → a ≡ [] → b ≡ a ++ entry_kind e.own ∷ [] → c ≡ b ++ header_text e.block
    → d ≡ c ++ header_text e.parent → f ≡ d ++ own_vote_text e.block e.own → g ≡ f ++ certificate_text e.certificate → g ≡ entry_text e
unfolding entry_text
written e a b c d f g p q r s t u =
    let kind = entry_kind e.own ∷ [] in
    let block = header_text e.block in
    let parent = header_text e.parent in
    let own = own_vote_text e.block e.own in
    let last = certificate_text e.certificate in
    u ∙ ap (λ (x : List ℕ). x ++ last) (t ∙ ap (λ (x : List ℕ). x ++ own) (s ∙ ap (λ (x : List ℕ). x ++ parent) (r ∙ ap (λ (x : List ℕ). x ++ block) (q ∙ ap (λ (x : List ℕ). x ++ kind) p))))
    ∙ append_assoc ((kind ++ block) ++ parent) own last
    ∙ append_assoc (kind ++ block) parent (own ++ last)
    ∙ append_assoc kind block (parent ++ (own ++ last))
