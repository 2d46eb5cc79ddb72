-- What is read is spelled so, and what is spelled so is read.
use Rattle.std.proofs.Common.{◌≡◌, ℕ, zero, suc, ◌+◌, ◌*◌, ◌<◌, ◌≤◌, List, [], ◌∷◌, ◌++◌, length, take, drop, get_or, map, refl, sym, ap, subst, ◌∙◌, append_assoc, Option, arith}
use Rattle.std.specs.Prelude.{codes, slice_get, IfSome}
use Rattle.std.specs.List.{All, concat}
use Rattle.std.proofs.lemmas.Option.{slice_get-get_or}
use Rattle.std.proofs.lemmas.List.Folds.{concat-append}
use Rattle.std.proofs.lemmas.List.{append-nil, drop-drop, drop_more, map_more, length-append, length-drop, take-append-drop, take_at, drop_at}
use Rattle.byteorder.specs.Endian.{big_bytes}
use Rattle.lms_tree.specs.Keys.{IsPublicKey}
use Rattle.lms_tree.specs.Tree.{key_text}
use Rattle.lms_tree.specs.declared.public_key.PublicKey.{PublicKey}
use Rattle.base_wire.specs.Pieces.{piece, number_at, AreBytes}
use Rattle.base_wire.proofs.Numbers.{front, behind, taken, length-piece, piece-number_at, number_again, number_below}
use Rattle.certificates.proofs.Pieces.{byte_again}
use Rattle.handover_keys.specs.NextKeys.{NextKeys, AreNextKeys, IsNextKeysOf, NextKeysHaveOneSpelling, chain_in, count_in, key_in, keys_from, next_keys_in, next_keys_text, public_key_text, replica_in}
use Rattle.handover_keys.specs.NextKeysReading.{ArePublicKeys, IsStatement}

-- ---- keys one after the other

pub length-keys_from : (n : ℕ) (text : List ℕ) → length (keys_from n text) ≡ n
unfolding keys_from
length-keys_from zero text = refl
length-keys_from (suc n) text = omega (arith, length-keys_from n (drop 56 text))

concat-keys_from : (n : ℕ) (text : List ℕ) → length text ≡ 56 * n → concat (keys_from n text) ≡ text
unfolding keys_from
concat-keys_from zero [] long = refl
concat-keys_from zero (x ∷ xs) long = absurd (omega arith)
concat-keys_from (suc n) text long =
    ap (λ (t : List ℕ). take 56 text ++ t) (concat-keys_from n (drop 56 text) (omega (arith, length-drop 56 text, long))) ∙ take-append-drop 56 text

keys_from-concat : (keys : List (List ℕ)) → All (λ key. length key ≡ 56) keys → keys_from (length keys) (concat keys) ≡ keys
unfolding keys_from
keys_from-concat [] long = refl
keys_from-concat (key ∷ keys) long =
    let here : length key ≡ 56 = long 0 key (omega arith) in
    let rest = keys_from-concat keys (λ k d below. long (suc k) d (omega arith)) in
    rw (take_at key (concat keys) 56 here, drop_at key (concat keys) 56 here, rest) refl

length-concat : (keys : List (List ℕ)) → All (λ key. length key ≡ 56) keys → length (concat keys) ≡ 56 * length keys
length-concat [] long = refl
length-concat (key ∷ keys) long =
    let rest = length-concat keys (λ k d below. long (suc k) d (omega arith)) in
    let here : length key ≡ 56 = long 0 key (omega arith) in
    omega (arith, length-append key (concat keys), here, rest)

-- key k of them stands at its place
key_stands : (n k : ℕ) (text d : List ℕ) → k < n → get_or (keys_from n text) k d ≡ piece 56 text (56 * k)
unfolding keys_from
key_stands zero k text d below = absurd (omega arith)
key_stands (suc n) zero text d below = refl
key_stands (suc n) (suc k) text d below =
    key_stands n k (drop 56 text) d (omega arith)
    ∙ ap (take 56) (drop-drop (56 * k) 56 text ∙ ap (λ (i : ℕ). drop i text) (omega arith))

pub key_of_count : (bytes : List ℕ) (k : ℕ) (d : List ℕ) → k < count_in bytes → get_or (keys_from (count_in bytes) (drop 39 bytes)) k d ≡ key_in bytes k
unfolding key_in
key_of_count bytes k d below = key_stands (count_in bytes) k (drop 39 bytes) d below ∙ ap (take 56) (drop-drop (56 * k) 39 bytes)

-- and is the key that is stated at that number
pub key_written : (bytes key : List ℕ) (k : ℕ) → k < count_in bytes → key_in bytes k ≡ key → IfSome (slice_get (next_keys_in bytes).keys k) (λ x. x ≡ key)
key_written bytes key k below is =
    let keys = (next_keys_in bytes).keys in
    let inside : k < length keys = omega (arith, length-keys_from (count_in bytes) (drop 39 bytes)) in
    subst (λ (o : Option (List ℕ)). IfSome o (λ x. x ≡ key)) (sym (slice_get-get_or keys k [] inside)) (key_of_count bytes k [] below ∙ is)

-- ---- keys are written

pub public_of_long : (id root : List ℕ) → length (key_text id root) ≡ 56 → IsPublicKey (key_text id root)
unfolding key_text number_at
public_of_long id root long = record { long = long; tree_type = refl; ots_type = refl }

texts_more : (keys : List PublicKey) (k : ℕ) (d : PublicKey) → k < length keys
    → concat (map public_key_text (take (k + 1) keys)) ≡ concat (map public_key_text (take k keys)) ++ public_key_text (get_or keys k d)
texts_more keys k d below =
    let text = public_key_text (get_or keys k d) in
    ap (λ (ts : List (List ℕ)). concat ts) (map_more public_key_text keys k d below)
    ∙ concat-append (map public_key_text (take k keys)) (text ∷ [])
    ∙ ap (λ (t : List ℕ). concat (map public_key_text (take k keys)) ++ t) (append-nil text)

pub put_more : (before out next : List ℕ) (keys : List PublicKey) (k : ℕ) (d : PublicKey) → k < length keys
    → out ≡ before ++ concat (map public_key_text (take k keys)) → next ≡ out ++ public_key_text (get_or keys k d)
    → next ≡ before ++ concat (map public_key_text (take (k + 1) keys))
put_more before out next keys k d below so_far here =
    here ∙ ap (λ (o : List ℕ). o ++ public_key_text (get_or keys k d)) so_far
    ∙ append_assoc before (concat (map public_key_text (take k keys))) (public_key_text (get_or keys k d))
    ∙ ap (λ (t : List ℕ). before ++ t) (sym (texts_more keys k d below))

-- ---- what is read is spelled so

public_keys : (bytes : List ℕ) → ArePublicKeys bytes (count_in bytes) → All IsPublicKey (keys_from (count_in bytes) (drop 39 bytes))
public_keys bytes are k d below =
    let inside : k < count_in bytes = omega (arith, length-keys_from (count_in bytes) (drop 39 bytes)) in
    subst IsPublicKey (sym (key_of_count bytes k d inside)) (are k inside)

pub found : (bytes : List ℕ) → AreBytes bytes → IsStatement bytes → IsNextKeysOf bytes (next_keys_in bytes)
unfolding next_keys_text
found bytes fit is =
    let count = count_in bytes in
    let long = length-keys_from count (drop 39 bytes) in
    let whole : length bytes ≡ 39 + 56 * count = is.1.1.1.0 in
    let enough : 39 ≤ length bytes = is.0 in
    let keys : concat (keys_from count (drop 39 bytes)) ≡ drop 39 bytes = concat-keys_from count (drop 39 bytes) (omega (arith, length-drop 39 bytes, whole)) in
    let last : drop 38 bytes ≡ length (keys_from count (drop 39 bytes)) ∷ concat (keys_from count (drop 39 bytes)) =
    drop_more bytes 38 0 (omega arith) ∙ (λ i. sym long i ∷ sym keys i) in
    record {
      parts = record {
        chain = length-piece 32 bytes 4 (omega arith);
        replica = number_below 2 bytes 36 fit;
        least = let least = is.1.1.0.least in omega arith;
        most = let most = is.1.1.0.most in omega arith;
        public_keys = public_keys bytes is.1.1.1.1.0;
      };
      text =
          taken bytes 0 4 _ _ is.1.0 (
          taken bytes 4 32 _ _ refl (
          taken bytes 36 2 _ _ (piece-number_at 2 bytes 36 fit (omega arith)) last));
    }

-- ---- what is spelled so is read

record Reads (text : List ℕ) (v : NextKeys) : Type 0 where
  magic : piece 4 text 0 ≡ codes "HSE1"
  chain : chain_in text ≡ v.chain
  replica : replica_in text ≡ v.replica
  count : count_in text ≡ length v.keys
  keys : drop 39 text ≡ concat v.keys
  long : length text ≡ 39 + 56 * length v.keys

lengths : (v : NextKeys) → AreNextKeys v → All (λ key. length key ≡ 56) v.keys
lengths v are k d below = (are.public_keys k d below).long

reads : (text : List ℕ) (v : NextKeys) → IsNextKeysOf text v → Reads text v
unfolding next_keys_text
reads text v is =
    let n : ℕ = length v.keys in
    let behind_chain : List ℕ = big_bytes 2 v.replica ++ n ∷ concat v.keys in
    let whole : drop 0 text ≡ codes "HSE1" ++ (v.chain ++ behind_chain) = is.text in
    let second = behind text 0 4 (codes "HSE1") (v.chain ++ behind_chain) whole refl in
    let third = behind text 4 32 v.chain behind_chain second is.parts.chain in
    let fourth = behind text 36 2 (big_bytes 2 v.replica) (n ∷ concat v.keys) third refl in
    record {
      magic = front text 0 4 (codes "HSE1") (v.chain ++ behind_chain) whole refl;
      chain = front text 4 32 v.chain behind_chain second is.parts.chain;
      replica = number_again 2 text 36 v.replica is.parts.replica (front text 36 2 (big_bytes 2 v.replica) (n ∷ concat v.keys) third refl);
      count = byte_again text 38 n (concat v.keys) fourth;
      keys = behind text 38 1 (n ∷ []) (concat v.keys) fourth refl;
      long = omega (arith, ap length is.text, length-append v.chain behind_chain, is.parts.chain, length-concat v.keys (lengths v is.parts));
    }

made : List ℕ → ℕ → List (List ℕ) → NextKeys
made chain replica keys = record { chain = chain; replica = replica; keys = keys }

alike : (c d : List ℕ) (m n : ℕ) (ks ls : List (List ℕ)) → c ≡ d → m ≡ n → ks ≡ ls → made c m ks ≡ made d n ls
alike c d m n ks ls e f g = λ i. made (e i) (f i) (g i)

pub again : (bytes : List ℕ) (v : NextKeys) → IsNextKeysOf bytes v → IsStatement bytes × (next_keys_in bytes ≡ v)
unfolding made
again bytes v is =
    let r = reads bytes v is in
    let parts = is.parts in
    let keys : keys_from (count_in bytes) (drop 39 bytes) ≡ v.keys =
    (λ i. keys_from (r.count i) (r.keys i)) ∙ keys_from-concat v.keys (lengths v parts) in
    let public : ArePublicKeys bytes (count_in bytes) =
    λ k below. subst IsPublicKey (sym (ap (λ (ks : List (List ℕ)). get_or ks k []) keys) ∙ key_of_count bytes k [] below) (parts.public_keys k [] (omega (arith, r.count))) in (
      (omega (arith, r.long), (r.magic, (record { least = omega (arith, r.count, parts.least); most = omega (arith, r.count, parts.most) }, (omega (arith, r.long, r.count), (public, tt))))),
      alike _ _ _ _ _ _ r.chain r.replica keys,
    )

pub one_spelling : NextKeysHaveOneSpelling
one_spelling bytes v w is too = sym (again bytes v is).1 ∙ (again bytes w too).1
