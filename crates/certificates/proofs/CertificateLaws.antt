-- What is read is spelled so, and what is spelled so is read.
use Rattle.std.proofs.Common.{◌≡◌, ◌↔◌, ℕ, zero, suc, ◌+◌, ◌*◌, ◌<◌, ◌≤◌, true, ◌==◌, ◌&&◌, List, [], ◌∷◌, ◌++◌, length, take, drop, get_or, Result, Ok, Err, refl, sym, ap, subst, ◌∙◌, arith, drop-cons, drop-drop}
use Rattle.std.specs.Prelude.{nat_le, IfOk, slice_index, ◌≢◌}
use Rattle.std.specs.List.{All, flat_map}
use Rattle.std.proofs.lemmas.Bool.Decides.{nat_tests}
use Rattle.std.proofs.lemmas.List.{take_at, drop_at, take_all, length-append, append-nil}
use Rattle.std.proofs.lemmas.List.Concat.{flat_map-append, flat_map-cons}
use Rattle.std.proofs.lemmas.List.Elements.{All-head, All-tail, All-nil, All-push}
use Rattle.std.proofs.Math.Seq.{take-suc}
use Rattle.byteorder.specs.Endian.{big_bytes}
use Rattle.base_wire.specs.Pieces.{piece, number_at, AreBytes}
use Rattle.base_wire.proofs.Numbers.{taken, cut_last, length-piece, piece-number_at, number_again, number_below}
use Rattle.base_wire.proofs.Needs.{need_ok, need_true, ok_is}
use Rattle.certificates.specs.declared.certificate.Endorsement.{Endorsement}
use Rattle.certificates.specs.declared.certificate.CertificateRefusal.{CertificateRefusal}
use Rattle.certificates.specs.declared.certificate.CertificateRefusal.TheVariants.{Length, Order, Count}
use Rattle.certificates.specs.Certificates.{Certificate, IsEndorsement, IsCertificate, endorsement_text, certificate_text}
use Rattle.certificates.specs.CertificateReading.{endorsement_at, entries_in, count_in, certificate_at, is_rising, has_count, certificate_in}
use Rattle.certificates.proofs.Entries.{length-entries_in}
use Rattle.certificates.proofs.Pieces.{two_pieces, byte_and_piece, byte_again}
use Rattle.certificates.proofs.Rising.{rising_means, rising_where}

-- ---- how many entries there may be

record FitsView (view count : ℕ) : Type 0 where
  most : count ≤ 31
  none : (count ≡ 0) ↔ (view ≡ 0)

fits_from : (view count : ℕ) → has_count view count ≡ true → FitsView view count
fits_from view count e = record { most = grind (arith, nat_tests); none = (λ n. grind (arith, nat_tests), λ v. grind (arith, nat_tests)) }

fits_true : (view count : ℕ) → count ≤ 31 → (count ≡ 0) ↔ (view ≡ 0) → has_count view count ≡ true
fits_true view count most none = grind (arith, nat_tests, none.0, none.1)

-- ---- what is read is spelled so

entry_spelled : (bytes : List ℕ) (k : ℕ) → AreBytes bytes → 42 + 1455 * k + 1455 ≤ length bytes → endorsement_text (endorsement_at bytes k) ≡ piece 1455 bytes (42 + 1455 * k)
unfolding endorsement_at
entry_spelled bytes k fit long =
    let key_place : 44 + 1455 * k ≡ 42 + 1455 * k + 2 = omega arith in
    let place : 45 + 1455 * k ≡ 42 + 1455 * k + 2 + 1 = omega arith in
    ap (λ (p : List ℕ). p ++ slice_index bytes (44 + 1455 * k) ∷ piece 1452 bytes (45 + 1455 * k)) (sym (piece-number_at 2 bytes (42 + 1455 * k) fit (omega arith)))
    ∙ ap (λ (a : ℕ). piece 2 bytes (42 + 1455 * k) ++ slice_index bytes a ∷ piece 1452 bytes (45 + 1455 * k)) key_place
    ∙ ap (λ (a : ℕ). piece 2 bytes (42 + 1455 * k) ++ slice_index bytes (42 + 1455 * k + 2) ∷ piece 1452 bytes a) place
    ∙ ap (λ (p : List ℕ). piece 2 bytes (42 + 1455 * k) ++ p) (byte_and_piece bytes (42 + 1455 * k + 2) 1452 (omega arith))
    ∙ two_pieces bytes (42 + 1455 * k) 2 1453

entries_spelled : (bytes : List ℕ) (n : ℕ) → AreBytes bytes → 42 + 1455 * n ≤ length bytes → flat_map endorsement_text (entries_in bytes n) ≡ piece (1455 * n) bytes 42
unfolding entries_in
entries_spelled bytes zero fit long = refl
entries_spelled bytes (suc n) fit long =
    let more : 1455 * n + 1455 ≡ 1455 * suc n = omega arith in
    flat_map-append endorsement_text (entries_in bytes n) (endorsement_at bytes n ∷ [])
    ∙ ap (λ (t : List ℕ). flat_map endorsement_text (entries_in bytes n) ++ t) (append-nil (endorsement_text (endorsement_at bytes n)) ∙ entry_spelled bytes n fit (omega arith))
    ∙ ap (λ (t : List ℕ). t ++ piece 1455 bytes (42 + 1455 * n)) (entries_spelled bytes n fit (omega arith))
    ∙ two_pieces bytes 42 (1455 * n) 1455
    ∙ ap (λ (m : ℕ). piece m bytes 42) more

is_entry : (bytes : List ℕ) (k : ℕ) → AreBytes bytes → 42 + 1455 * k + 1455 ≤ length bytes → IsEndorsement (endorsement_at bytes k)
unfolding endorsement_at
is_entry bytes k fit long = record {
  replica = number_below 2 bytes (42 + 1455 * k) fit;
  key = fit (44 + 1455 * k);
  signature = length-piece 1452 bytes (45 + 1455 * k) (omega arith);
}

each_entry : (bytes : List ℕ) (n : ℕ) → AreBytes bytes → 42 + 1455 * n ≤ length bytes → All IsEndorsement (entries_in bytes n)
unfolding entries_in
each_entry bytes zero fit long = All-nil IsEndorsement
each_entry bytes (suc n) fit long =
    All-push IsEndorsement (entries_in bytes n) (endorsement_at bytes n) (each_entry bytes n fit (omega arith)) (is_entry bytes n fit (omega arith))

long_from : (len n : ℕ) → (nat_le 42 len && (len == 42 + 1455 * n)) ≡ true → (42 ≤ len) × (len ≡ 42 + 1455 * n)
long_from len n e = (grind (arith, nat_tests), grind (arith, nat_tests))

to_long : (len n : ℕ) → len ≡ 42 + 1455 * n → (nat_le 42 len && (len == 42 + 1455 * n)) ≡ true
to_long len n e = grind (arith, nat_tests)

-- what the tests let through
is_certificate_at : (bytes : List ℕ) → AreBytes bytes → length bytes ≡ 42 + 1455 * count_in bytes
    → is_rising (entries_in bytes (count_in bytes)) ≡ true → has_count (number_at 8 bytes 0) (count_in bytes) ≡ true
    → IsCertificate (certificate_at bytes)
is_certificate_at bytes fit long rising count =
    let n = length-entries_in bytes (count_in bytes) in
    let fits = fits_from (number_at 8 bytes 0) (count_in bytes) count in
    record {
      view = number_below 8 bytes 0 fit;
      id = length-piece 32 bytes 8 (omega arith);
      each = each_entry bytes (count_in bytes) fit (omega arith);
      rising = rising_means (entries_in bytes (count_in bytes)) rising;
      most = omega (arith, fits.most);
      none = subst (λ (k : ℕ). (k ≡ 0) ↔ (number_at 8 bytes 0 ≡ 0)) (sym n) fits.none;
    }

abbrev made : ℕ → List ℕ → List Endorsement → Certificate
made v i es = record { view = v; id = i; entries = es }

-- the same of parts that were read one by one
pub is_certificate_of : (bytes : List ℕ) (c : Certificate) → AreBytes bytes → length bytes ≡ 42 + 1455 * count_in bytes
    → c.view ≡ number_at 8 bytes 0 → c.id ≡ piece 32 bytes 8 → c.entries ≡ entries_in bytes (count_in bytes)
    → is_rising c.entries ≡ true → has_count c.view (count_in bytes) ≡ true → IsCertificate c
is_certificate_of bytes c fit long view id entries rising count =
    let same : certificate_at bytes ≡ c =
    ap (λ (v : ℕ). made v (piece 32 bytes 8) (entries_in bytes (count_in bytes))) (sym view)
    ∙ ap (λ (i : List ℕ). made c.view i (entries_in bytes (count_in bytes))) (sym id)
    ∙ ap (made c.view c.id) (sym entries) in
    subst IsCertificate same
    (is_certificate_at bytes fit long (ap is_rising (sym entries) ∙ rising) (ap (λ (v : ℕ). has_count v (count_in bytes)) (sym view) ∙ count))

pub certificate_found : (bytes : List ℕ) (c : Certificate) → AreBytes bytes → certificate_in bytes ≡ Ok c → IsCertificate c × (bytes ≡ certificate_text c)
unfolding certificate_in certificate_text
certificate_found bytes c fit e =
    let a = need_ok _ _ _ c e in
    let b = need_ok _ _ _ c a.1 in
    let d = need_ok _ _ _ c b.1 in
    let long = long_from (length bytes) (count_in bytes) a.0 in
    let entries = entries_in bytes (count_in bytes) in
    let count : piece 2 bytes 40 ≡ big_bytes 2 (length entries) = piece-number_at 2 bytes 40 fit (omega arith) ∙ ap (λ (n : ℕ). big_bytes 2 n) (sym (length-entries_in bytes (count_in bytes))) in
    let last : drop 42 bytes ≡ flat_map endorsement_text entries = cut_last bytes 42 (1455 * count_in bytes) long.1 ∙ sym (entries_spelled bytes (count_in bytes) fit (omega arith)) in
    let whole : bytes ≡ certificate_text (certificate_at bytes) =
    taken bytes 0 8 _ _ (piece-number_at 8 bytes 0 fit (omega arith)) (taken bytes 8 32 _ _ refl (taken bytes 40 2 _ _ count last))
    in
    subst (λ (x : Certificate). IsCertificate x × (bytes ≡ certificate_text x)) (ok_is (certificate_at bytes) c d.1)
    (is_certificate_at bytes fit long.1 b.0 d.0, whole)

-- ---- what is spelled so is read

length-entry_text : (e : Endorsement) → IsEndorsement e → length (endorsement_text e) ≡ 1455
length-entry_text e is = let long = is.signature in omega arith

length-texts : (es : List Endorsement) → All IsEndorsement es → length (flat_map endorsement_text es) ≡ 1455 * length es
length-texts [] all = refl
length-texts (e ∷ es) all =
    let one = length-entry_text e (All-head IsEndorsement e es all) in
    let rest = length-texts es (All-tail IsEndorsement e es all) in
    ap length (flat_map-cons endorsement_text e es) ∙ length-append (endorsement_text e) (flat_map endorsement_text es) ∙ omega arith

-- behind n entries stand the others
drop-texts : (es : List Endorsement) (n : ℕ) → All IsEndorsement es → n ≤ length es → drop (1455 * n) (flat_map endorsement_text es) ≡ flat_map endorsement_text (drop n es)
drop-texts es zero all small = refl
drop-texts [] (suc n) all small = absurd (omega arith)
drop-texts (e ∷ es) (suc n) all small =
    let more : 1455 * suc n ≡ 1455 + 1455 * n = omega arith in
    ap (λ (m : ℕ). drop m (flat_map endorsement_text (e ∷ es))) more
    ∙ sym (drop-drop (1455 * n) 1455 (flat_map endorsement_text (e ∷ es)))
    ∙ ap (λ (t : List ℕ). drop (1455 * n) (drop 1455 t)) (flat_map-cons endorsement_text e es)
    ∙ ap (drop (1455 * n)) (drop_at (endorsement_text e) (flat_map endorsement_text es) 1455 (length-entry_text e (All-head IsEndorsement e es all)))
    ∙ drop-texts es n (All-tail IsEndorsement e es all) (omega arith)

abbrev entry_from : ℕ → ℕ → List ℕ → Endorsement
entry_from r k s = record { replica = r; key = k; signature = s }

same_entry : (e : Endorsement) (r k : ℕ) (s : List ℕ) → r ≡ e.replica → k ≡ e.key → s ≡ e.signature → entry_from r k s ≡ e
same_entry e r k s p q t = ap (λ (x : ℕ). entry_from x k s) p ∙ ap (λ (x : ℕ). entry_from e.replica x s) q ∙ ap (entry_from e.replica e.key) t

entry_again : (text : List ℕ) (e : Endorsement) (rest : List ℕ) (k : ℕ) → IsEndorsement e → drop (42 + 1455 * k) text ≡ endorsement_text e ++ rest → endorsement_at text k ≡ e
unfolding endorsement_at
entry_again text e rest k is here =
    let replica : number_at 2 text (42 + 1455 * k) ≡ e.replica = number_again 2 text (42 + 1455 * k) e.replica is.replica (ap (take 2) here) in
    let key_place : 44 + 1455 * k ≡ 42 + 1455 * k + 2 = omega arith in
    let behind_replica : drop (42 + 1455 * k + 2) text ≡ e.key ∷ (e.signature ++ rest) = sym (drop-drop 2 (42 + 1455 * k) text) ∙ ap (drop 2) here in
    let key : slice_index text (44 + 1455 * k) ≡ e.key =
    ap (slice_index text) key_place ∙ byte_again text (42 + 1455 * k + 2) e.key (e.signature ++ rest) behind_replica
    in
    let place : 45 + 1455 * k ≡ 42 + 1455 * k + 3 = omega arith in
    let signature : piece 1452 text (45 + 1455 * k) ≡ e.signature =
    ap (λ (a : ℕ). piece 1452 text a) place
    ∙ ap (take 1452) (sym (drop-drop 3 (42 + 1455 * k) text) ∙ ap (drop 3) here)
    ∙ take_at e.signature rest 1452 is.signature
    in
    same_entry e _ _ _ replica key signature

entries_again : (text : List ℕ) (es : List Endorsement) (n : ℕ) (d : Endorsement) → drop 42 text ≡ flat_map endorsement_text es → All IsEndorsement es → n ≤ length es → entries_in text n ≡ take n es
unfolding entries_in
entries_again text es zero d here all small = refl
entries_again text es (suc n) d here all small =
    let below : n < length es = omega arith in
    let rest : drop n es ≡ get_or es n d ∷ drop (suc n) es = drop-cons es n d below in
    let at : drop (42 + 1455 * n) text ≡ endorsement_text (get_or es n d) ++ flat_map endorsement_text (drop (suc n) es) =
    sym (drop-drop (1455 * n) 42 text) ∙ ap (drop (1455 * n)) here ∙ drop-texts es n all (omega arith)
    ∙ ap (flat_map endorsement_text) rest ∙ flat_map-cons endorsement_text (get_or es n d) (drop (suc n) es)
    in
    let one : endorsement_at text n ≡ get_or es n d = entry_again text (get_or es n d) _ n (all n d below) at in
    let before : entries_in text n ≡ take n es = entries_again text es n d here all (omega arith) in
    ap (λ (xs : List Endorsement). xs ++ endorsement_at text n ∷ []) before ∙ ap (λ (x : Endorsement). take n es ++ x ∷ []) one ∙ sym (take-suc es n d below)

abbrev certificate_from : ℕ → List ℕ → List Endorsement → Result Certificate CertificateRefusal
certificate_from v i es = Ok (made v i es)

reads : (text : List ℕ) (c : Certificate) → length text ≡ 42 + 1455 * length c.entries → number_at 8 text 0 ≡ c.view → piece 32 text 8 ≡ c.id
    → count_in text ≡ length c.entries → entries_in text (length c.entries) ≡ c.entries → IsCertificate c → certificate_in text ≡ Ok c
unfolding certificate_in
reads text c long view id count entries is =
    let all : entries_in text (count_in text) ≡ c.entries = ap (entries_in text) count ∙ entries in
    let few : has_count (number_at 8 text 0) (count_in text) ≡ true =
    ap (λ (v : ℕ). has_count v (count_in text)) view ∙ ap (has_count c.view) count ∙ fits_true c.view (length c.entries) is.most is.none in
    need_true _ Length _ _ (to_long (length text) (count_in text) (long ∙ ap (λ (n : ℕ). 42 + 1455 * n) (sym count))) (
    need_true _ Order _ _ (ap is_rising all ∙ rising_where c.entries is.rising) (
    need_true _ Count _ _ few (
    ap (λ (v : ℕ). certificate_from v (piece 32 text 8) (entries_in text (count_in text))) view
    ∙ ap (λ (i : List ℕ). certificate_from c.view i (entries_in text (count_in text))) id
    ∙ ap (certificate_from c.view c.id) all)))

pub certificate_again : (c : Certificate) → IsCertificate c → certificate_in (certificate_text c) ≡ Ok c
unfolding certificate_text
certificate_again c is =
    let text = certificate_text c in
    let n = length c.entries in
    let small : n ≤ 31 = is.most in
    let tail = big_bytes 2 n ++ flat_map endorsement_text c.entries in
    let at : drop 40 text ≡ tail = drop_at c.id tail 32 is.id in
    let behind : drop 42 text ≡ flat_map endorsement_text c.entries = sym (drop-drop 2 40 text) ∙ ap (drop 2) at in
    let texts = length-texts c.entries is.each in
    let both = length-append c.id tail in
    let long : length text ≡ 42 + 1455 * n = let id_long = is.id in omega arith in
    let entries : entries_in text n ≡ c.entries = entries_again text c.entries n (entry_from 0 0 []) behind is.each (omega arith) ∙ take_all n c.entries (omega arith) in
    reads text c long (number_again 8 text 0 c.view is.view refl) (take_at c.id tail 32 is.id)
    (number_again 2 text 40 n (omega arith) (ap (take 2) at)) entries is

-- what holds of all that reading gives holds of the result, unless memory was refused
pub if_ok_unless : {A R : Type 0} (r s : Result A R) (memory : R) (P : A → Type 0) → (r ≢ Err memory → r ≡ s) → ((x : A) → s ≡ Ok x → P x) → IfOk r P
if_ok_unless (Ok x) s memory P e f = f x (sym (e (λ h. cc)))
if_ok_unless (Err r) s memory P e f = tt
