-- What is read is spelled so, and what is spelled so is read.
use Rattle.std.proofs.Common.{◌≡◌, ℕ, ◌+◌, ◌^◌, ◌<◌, ◌≤◌, List, [], ◌∷◌, ◌++◌, length, take, drop, Option, Some, None, Result, Ok, Err, ◌⊎◌, inl, inr, refl, sym, ap, subst, ◌∙◌, append_assoc, arith}
use Rattle.std.specs.Prelude.{codes, slice_index, IsSome}
use Rattle.std.proofs.lemmas.List.{drop_all, length-append, take_all}
use Rattle.byteorder.specs.Endian.{big_bytes}
use Rattle.base_wire.specs.Pieces.{piece, number_at, AreBytes}
use Rattle.base_wire.proofs.Numbers.{front, behind, taken, cut_last, AreBytes-piece, length-piece, piece-number_at, number_again, number_below}
use Rattle.blocks.specs.Headers.{Header, header_text}
use Rattle.blocks.specs.HeaderReading.{header_in}
use Rattle.blocks.specs.declared.header.HeaderRefusal.{HeaderRefusal}
use Rattle.blocks.proofs.HeaderLaws.{header_found, header_again, length-header_text}
use Rattle.certificates.proofs.Pieces.{two_pieces, one_byte, byte_and_piece, byte_again}
use Rattle.verdict_format.specs.declared.parts.BoundVote.{BoundVote}
use Rattle.verdict_format.specs.declared.parts.Shown.{Shown}
use Rattle.verdict_format.specs.declared.parts.Shown.TheVariants.{DoubleVote, LockViolation}
use Rattle.verdict_format.specs.declared.parts.VerdictParts.{VerdictParts}
use Rattle.verdict_format.specs.Verdicts.{VotedHeaders, all_read, verdict_length, verdict_kind_in, earlier_signature_in, later_signature_in, headers_in}
use Rattle.verdict_format.specs.VerdictReading.{IsReadableVerdict}
use Rattle.verdict_format.specs.VerdictText.{IsBoundVote, AreHeaders, HasBytes, HeadersAreReadable, IsVerdictOf, bound_text, shown_of, shown_text, verdict_kind, head_text, verdict_text, parts_in}

-- ---- no headers

nothing_there : (bytes : List ℕ) (at : ℕ) → length bytes ≤ at → piece 84 bytes at ≡ []
nothing_there bytes at past = rw (drop_all at bytes past) refl

no_header : (e : List ℕ) (p w : List ℕ) → e ≡ [] → all_read (header_in e) (header_in p) (header_in w) ≡ None
unfolding header_in
no_header e p w is = rw is refl

-- there are none in a text that ends before them
pub no_headers : (bytes : List ℕ) → length bytes ≡ 3025 → headers_in bytes ≡ None
unfolding headers_in
no_headers bytes long = no_header _ _ _ (nothing_there bytes 3025 (omega arith))

-- the pieces of a verdict, written one after the other
pub written : (v : VerdictParts) (a b c d e : List ℕ) → a ≡ [] → b ≡ a ++ head_text v → c ≡ b ++ bound_text v.earlier
    → d ≡ c ++ bound_text v.later → e ≡ d ++ shown_text v.shown → e ≡ verdict_text v
unfolding verdict_text
written v a b c d e p q r s t =
    let head = head_text v in
    let first = bound_text v.earlier in
    let second = bound_text v.later in
    let last = shown_text v.shown in
    t ∙ ap (λ (x : List ℕ). x ++ last) (s ∙ ap (λ (x : List ℕ). x ++ second) (r ∙ ap (λ (x : List ℕ). x ++ first) (q ∙ ap (λ (x : List ℕ). x ++ head) p)))
    ∙ append_assoc (head ++ first) second last ∙ append_assoc head first (second ++ last)

-- ---- headers

-- three headers that were read
record WereRead (a b c : Result Header HeaderRefusal) (h : VotedHeaders) : Type 0 where
  earlier : a ≡ Ok h.earlier
  parent : b ≡ Ok h.parent
  later : c ≡ Ok h.later

were_read : (a b c : Result Header HeaderRefusal) (h : VotedHeaders) → all_read a b c ≡ Some h → WereRead a b c h
were_read (Ok e) (Ok p) (Ok w) h is = record { earlier = cc; parent = cc; later = cc }
were_read (Ok e) (Ok p) (Err r) h is = absurd cc
were_read (Ok e) (Err r) c h is = absurd cc
were_read (Err r) b c h is = absurd cc

-- what a text shows behind its votes
record Shows (bytes : List ℕ) (s : Shown) : Type 0 where
  has_bytes : HasBytes s
  kind : verdict_kind_in bytes ≡ verdict_kind s
  text : drop 3025 bytes ≡ shown_text s

three_shown : (bytes : List ℕ) (h : VotedHeaders) → AreBytes bytes → verdict_kind_in bytes ≡ 2 → length bytes ≡ 3277 → headers_in bytes ≡ Some h → Shows bytes (LockViolation h)
unfolding headers_in
three_shown bytes h fit two long is =
    let read = were_read _ _ _ h is in
    let e = header_found (piece 84 bytes 3025) h.earlier (AreBytes-piece 84 bytes 3025 fit) read.earlier in
    let p = header_found (piece 84 bytes 3109) h.parent (AreBytes-piece 84 bytes 3109 fit) read.parent in
    let w = header_found (piece 84 bytes 3193) h.later (AreBytes-piece 84 bytes 3193 fit) read.later in
    record {
      has_bytes = record { earlier = e.0; parent = p.0; later = w.0 };
      kind = two;
      text = taken bytes 3025 84 _ _ e.1 (taken bytes 3109 84 _ _ p.1 (cut_last bytes 3193 84 (omega arith) ∙ w.1));
    }

none_shown : (bytes : List ℕ) → verdict_kind_in bytes ≡ 1 → length bytes ≡ 3025 → Shows bytes DoubleVote
none_shown bytes one long = record { has_bytes = tt; kind = one; text = drop_all 3025 bytes (omega arith) }

some_of : (o : Option VotedHeaders) → IsSome o → (h : VotedHeaders) × (o ≡ Some h)
some_of (Some h) is = (h, refl)
some_of None is = absurd cc

long_as : (bytes : List ℕ) (kind : ℕ) → verdict_kind_in bytes ≡ kind → length bytes ≡ verdict_length (verdict_kind_in bytes) → length bytes ≡ verdict_length kind
long_as bytes kind is long = subst (λ (k : ℕ). length bytes ≡ verdict_length k) is long

shown : (bytes : List ℕ) → AreBytes bytes → ((verdict_kind_in bytes ≡ 1) ⊎ (verdict_kind_in bytes ≡ 2)) → length bytes ≡ verdict_length (verdict_kind_in bytes)
    → HeadersAreReadable bytes → Shows bytes (shown_of (headers_in bytes))
shown bytes fit (inl one) long readable =
    let exact : length bytes ≡ 3025 = long_as bytes 1 one long in
    subst (λ (o : Option VotedHeaders). Shows bytes (shown_of o)) (sym (no_headers bytes exact)) (none_shown bytes one exact)
shown bytes fit (inr two) long readable =
    let some = some_of (headers_in bytes) (readable two) in
    subst (λ (o : Option VotedHeaders). Shows bytes (shown_of o)) (sym some.1) (three_shown bytes some.0 fit two (long_as bytes 2 two long) some.1)

-- ---- what is read is spelled so

bound_there : (bytes : List ℕ) (at : ℕ) → AreBytes bytes → at + 1493 ≤ length bytes
    → piece 1493 bytes at ≡ slice_index bytes at ∷ (big_bytes 8 (number_at 8 bytes (at + 1)) ++ (piece 32 bytes (at + 9) ++ piece 1452 bytes (at + 41)))
bound_there bytes at fit long =
    let id_place : at + 1 + 8 ≡ at + 9 = omega arith in
    let place : at + 9 + 32 ≡ at + 41 = omega arith in
    sym (byte_and_piece bytes at 1492 (omega arith))
    ∙ ap (λ (t : List ℕ). slice_index bytes at ∷ t) (
    sym (two_pieces bytes (at + 1) 8 1484)
    ∙ ap (λ (k : ℕ). piece 8 bytes (at + 1) ++ piece 1484 bytes k) id_place
    ∙ ap (λ (t : List ℕ). piece 8 bytes (at + 1) ++ t) (sym (two_pieces bytes (at + 9) 32 1452) ∙ ap (λ (k : ℕ). piece 32 bytes (at + 9) ++ piece 1452 bytes k) place)
    ∙ ap (λ (t : List ℕ). t ++ (piece 32 bytes (at + 9) ++ piece 1452 bytes (at + 41))) (piece-number_at 8 bytes (at + 1) fit (omega arith)))

head_there : (bytes : List ℕ) (kind : ℕ) → AreBytes bytes → 39 ≤ length bytes → piece 4 bytes 0 ≡ codes "HSX2" → verdict_kind_in bytes ≡ kind
    → piece 39 bytes 0 ≡ codes "HSX2" ++ (piece 32 bytes 4 ++ (big_bytes 2 (number_at 2 bytes 36) ++ kind ∷ []))
head_there bytes kind_is fit long magic kind =
    let last : piece 1 bytes 38 ≡ kind_is ∷ [] = one_byte bytes 38 (omega arith) ∙ ap (λ (k : ℕ). k ∷ []) kind in
    let replica : piece 2 bytes 36 ≡ big_bytes 2 (number_at 2 bytes 36) = piece-number_at 2 bytes 36 fit (omega arith) in
    sym (two_pieces bytes 0 4 35)
    ∙ ap (λ (t : List ℕ). piece 4 bytes 0 ++ t) (sym (two_pieces bytes 4 32 3) ∙ ap (λ (t : List ℕ). piece 32 bytes 4 ++ t) (sym (two_pieces bytes 36 2 1)))
    ∙ rw (magic, replica, last) refl

-- the parts of a readable text spell it
pub verdict_found : (bytes : List ℕ) → AreBytes bytes → IsReadableVerdict bytes → HeadersAreReadable bytes → IsVerdictOf bytes (parts_in bytes)
unfolding verdict_text head_text earlier_signature_in later_signature_in
verdict_found bytes fit readable headers =
    let magic : piece 4 bytes 0 ≡ codes "HSX2" = readable.1.0 in
    let long : length bytes ≡ verdict_length (verdict_kind_in bytes) = readable.1.1.1.0 in
    let enough : 3025 ≤ verdict_length (verdict_kind_in bytes) = omega arith in
    let votes : 3025 ≤ length bytes = omega (arith, long, enough) in
    let behind_votes = shown bytes fit readable.1.1.0 long headers in
    record {
      parts = record {
        chain = length-piece 32 bytes 4 (omega arith);
        replica = number_below 2 bytes 36 fit;
        earlier = record { key = fit 39; view = number_below 8 bytes 40 fit; id = length-piece 32 bytes 48 (omega arith); signature = length-piece 1452 bytes 80 (omega arith) };
        later = record { key = fit 1532; view = number_below 8 bytes 1533 fit; id = length-piece 32 bytes 1541 (omega arith); signature = length-piece 1452 bytes 1573 (omega arith) };
        shown = behind_votes.has_bytes;
      };
      text =
          taken bytes 0 39 _ _ (head_there bytes (verdict_kind (shown_of (headers_in bytes))) fit (omega arith) magic behind_votes.kind) (
          taken bytes 39 1493 _ _ (bound_there bytes 39 fit (omega arith)) (
          taken bytes 1532 1493 _ _ (bound_there bytes 1532 fit (omega arith)) behind_votes.text));
    }

-- ---- what is spelled so is read

length-bound_text : (v : BoundVote) → IsBoundVote v → length (bound_text v) ≡ 1493
length-bound_text v is =
    let id = is.id in
    let signature = is.signature in
    let both = length-append v.id v.signature in
    omega arith

-- where a vote stands, its fields are read, and the rest stands behind it
record ReadsVote (text : List ℕ) (at : ℕ) (v : BoundVote) (rest : List ℕ) : Type 0 where
  key : slice_index text at ≡ v.key
  view : number_at 8 text (at + 1) ≡ v.view
  id : piece 32 text (at + 1 + 8) ≡ v.id
  signature : piece 1452 text (at + 1 + 8 + 32) ≡ v.signature
  rest_is : drop (at + 1 + 8 + 32 + 1452) text ≡ rest

reads_vote : (text : List ℕ) (at : ℕ) (v : BoundVote) (rest : List ℕ) → IsBoundVote v → drop at text ≡ bound_text v ++ rest → ReadsVote text at v rest
reads_vote text at v rest is here =
    let after : List ℕ = v.id ++ (v.signature ++ rest) in
    let grouped : drop at text ≡ v.key ∷ (big_bytes 8 v.view ++ after) = here ∙ ap (λ (t : List ℕ). v.key ∷ (big_bytes 8 v.view ++ t)) (append_assoc v.id v.signature rest) in
    let first = behind text at 1 (v.key ∷ []) (big_bytes 8 v.view ++ after) grouped refl in
    let second = behind text (at + 1) 8 (big_bytes 8 v.view) after first refl in
    let third = behind text (at + 1 + 8) 32 v.id (v.signature ++ rest) second is.id in
    record {
      key = byte_again text at v.key (big_bytes 8 v.view ++ after) grouped;
      view = number_again 8 text (at + 1) v.view is.view (front text (at + 1) 8 (big_bytes 8 v.view) after first refl);
      id = front text (at + 1 + 8) 32 v.id (v.signature ++ rest) second is.id;
      signature = front text (at + 1 + 8 + 32) 1452 v.signature rest third is.signature;
      rest_is = behind text (at + 1 + 8 + 32) 1452 v.signature rest third is.signature;
    }

length-head_text : (v : VerdictParts) → length v.chain ≡ 32 → length (head_text v) ≡ 39
unfolding head_text
length-head_text v chain = let both = length-append v.chain (big_bytes 2 v.replica ++ verdict_kind v.shown ∷ []) in omega arith

-- the fields of the head
record ReadsHead (text : List ℕ) (v : VerdictParts) (rest : List ℕ) : Type 0 where
  magic : piece 4 text 0 ≡ codes "HSX2"
  chain : piece 32 text 4 ≡ v.chain
  replica : number_at 2 text 36 ≡ v.replica
  kind : verdict_kind_in text ≡ verdict_kind v.shown
  rest_is : drop 39 text ≡ rest

reads_head : (text : List ℕ) (v : VerdictParts) (rest : List ℕ) → length v.chain ≡ 32 → v.replica < 2 ^ 16 → text ≡ head_text v ++ rest → ReadsHead text v rest
unfolding head_text
reads_head text v rest chain replica here =
    let k : ℕ = verdict_kind v.shown in
    let after : List ℕ = big_bytes 2 v.replica ++ (k ∷ rest) in
    let grouped : drop 0 text ≡ codes "HSX2" ++ (v.chain ++ after) = here ∙ ap (λ (t : List ℕ). codes "HSX2" ++ t) (append_assoc v.chain (big_bytes 2 v.replica ++ k ∷ []) rest) in
    let second = behind text 0 4 (codes "HSX2") (v.chain ++ after) grouped refl in
    let third = behind text 4 32 v.chain after second chain in
    let fourth = behind text 36 2 (big_bytes 2 v.replica) (k ∷ rest) third refl in
    record {
      magic = front text 0 4 (codes "HSX2") (v.chain ++ after) grouped refl;
      chain = front text 4 32 v.chain after second chain;
      replica = number_again 2 text 36 v.replica replica (front text 36 2 (big_bytes 2 v.replica) (k ∷ rest) third refl);
      kind = byte_again text 38 k rest fourth;
      rest_is = behind text 38 1 (k ∷ []) rest fourth refl;
    }

abbrev vote_from : ℕ → ℕ → List ℕ → List ℕ → BoundVote
vote_from key view id signature = record { key = key; view = view; id = id; signature = signature }

same_vote : (v : BoundVote) (k n : ℕ) (i s : List ℕ) → k ≡ v.key → n ≡ v.view → i ≡ v.id → s ≡ v.signature → vote_from k n i s ≡ v
same_vote v k n i s o p q r =
    ap (λ (x : ℕ). vote_from x n i s) o ∙ ap (λ (x : ℕ). vote_from v.key x i s) p ∙ ap (λ (x : List ℕ). vote_from v.key v.view x s) q
    ∙ ap (vote_from v.key v.view v.id) r

abbrev parts_from : List ℕ → ℕ → BoundVote → BoundVote → Shown → VerdictParts
parts_from chain replica e w shown = record { chain = chain; replica = replica; earlier = e; later = w; shown = shown }

same_of : (v : VerdictParts) (c : List ℕ) (r : ℕ) (e w : BoundVote) (h : Shown) → c ≡ v.chain → r ≡ v.replica → e ≡ v.earlier → w ≡ v.later → h ≡ v.shown → parts_from c r e w h ≡ v
same_of v c r e w h p q s t u =
    ap (λ (x : List ℕ). parts_from x r e w h) p ∙ ap (λ (x : ℕ). parts_from v.chain x e w h) q
    ∙ ap (λ (x : BoundVote). parts_from v.chain v.replica x w h) s ∙ ap (λ (x : BoundVote). parts_from v.chain v.replica v.earlier x h) t
    ∙ ap (parts_from v.chain v.replica v.earlier v.later) u

-- where three headers stand last they are read
reads_headers : (text : List ℕ) (h : VotedHeaders) → AreHeaders h → drop 3025 text ≡ shown_text (LockViolation h) → headers_in text ≡ Some h
unfolding headers_in
reads_headers text h is here =
    let e = header_text h.earlier in
    let p = header_text h.parent in
    let w = header_text h.later in
    let long = length-header_text h.earlier is.earlier in
    let second = behind text 3025 84 e (p ++ w) here long in
    let third = behind text 3109 84 p w second (length-header_text h.parent is.parent) in
    let last : piece 84 text 3193 ≡ w = ap (take 84) third ∙ take_all 84 w (omega (arith, length-header_text h.later is.later)) in
    let earlier = ap header_in (front text 3025 84 e (p ++ w) here long) ∙ header_again h.earlier is.earlier in
    let parent = ap header_in (front text 3109 84 p w second (length-header_text h.parent is.parent)) ∙ header_again h.parent is.parent in
    let later = ap header_in last ∙ header_again h.later is.later in
    rw (earlier, parent, later) refl

-- what stands behind the votes of a written verdict
record EndsWith (text : List ℕ) (s : Shown) : Type 0 where
  kind : (verdict_kind s ≡ 1) ⊎ (verdict_kind s ≡ 2)
  long : length text ≡ verdict_length (verdict_kind s)
  shown : shown_of (headers_in text) ≡ s

ends_with : (text : List ℕ) (s : Shown) → HasBytes s → length text ≡ 3025 + length (shown_text s) → drop 3025 text ≡ shown_text s → EndsWith text s
ends_with text DoubleVote are long here = record { kind = inl refl; long = long; shown = ap shown_of (no_headers text long) }
ends_with text (LockViolation h) are long here =
    let e = header_text h.earlier in
    let p = header_text h.parent in
    let w = header_text h.later in
    let a = length-header_text h.earlier are.earlier in
    let b = length-header_text h.parent are.parent in
    let c = length-header_text h.later are.later in
    record { kind = inr refl; long = omega (arith, length-append e (p ++ w), length-append p w); shown = ap shown_of (reads_headers text h are here) }

-- what is written is read, with its parts
pub verdict_again : (bytes : List ℕ) (v : VerdictParts) → IsVerdictOf bytes v → IsReadableVerdict bytes × (parts_in bytes ≡ v)
unfolding verdict_text earlier_signature_in later_signature_in
verdict_again text v is =
    let parts = is.parts in
    let last = shown_text v.shown in
    let head = reads_head text v (bound_text v.earlier ++ (bound_text v.later ++ last)) parts.chain parts.replica is.text in
    let first = reads_vote text 39 v.earlier (bound_text v.later ++ last) parts.earlier head.rest_is in
    let second = reads_vote text 1532 v.later last parts.later first.rest_is in
    let a = length-head_text v parts.chain in
    let b = length-bound_text v.earlier parts.earlier in
    let c = length-bound_text v.later parts.later in
    let whole : length text ≡ length (head_text v ++ (bound_text v.earlier ++ (bound_text v.later ++ last))) = ap length is.text in
    let long : length text ≡ 3025 + length last =
    omega (arith, length-append (head_text v) (bound_text v.earlier ++ (bound_text v.later ++ last)), length-append (bound_text v.earlier) (bound_text v.later ++ last), length-append (bound_text v.later) last)
    in
    let end = ends_with text v.shown parts.shown long second.rest_is in
    let kind = subst (λ (k : ℕ). (k ≡ 1) ⊎ (k ≡ 2)) (sym head.kind) end.kind in
    let right : length text ≡ verdict_length (verdict_kind_in text) = end.long ∙ sym (ap verdict_length head.kind) in (
      (omega arith, (head.magic, (kind, (right, tt)))),
      same_of v _ _ _ _ _ head.chain head.replica (same_vote v.earlier _ _ _ _ first.key first.view first.id first.signature) (same_vote v.later _ _ _ _ second.key second.view second.id second.signature) end.shown,
    )

-- the rule that a written verdict names
pub kind_again : (bytes : List ℕ) (v : VerdictParts) → IsVerdictOf bytes v → verdict_kind_in bytes ≡ verdict_kind v.shown
unfolding verdict_text
kind_again text v is =
    (reads_head text v (bound_text v.earlier ++ (bound_text v.later ++ shown_text v.shown)) is.parts.chain is.parts.replica is.text).kind
