-- The bytes of a public key.
use Rattle.std.proofs.Common.{◌≡◌, ℕ, ◌+◌, ◌≤◌, ◌∙◌, List, ◌++◌, refl, sym, ap, arith, length}
use Rattle.std.proofs.lemmas.List.{length-append, take_all, take_at}
use Rattle.byteorder.specs.Endian.{big_bytes}
use Rattle.base_wire.specs.Pieces.{AreBytes, number_at, piece}
use Rattle.base_wire.proofs.Numbers.{cut, cut_last, piece-number_at}
use Rattle.lmots.proofs.JoinedLemmas.{piece_behind}
use Rattle.lms_tree.specs.Keys.{IsPublicKey}
use Rattle.lms_tree.specs.Tree.{key_text}

-- four bytes that are read as n are the bytes of n
spelled : (bytes : List ℕ) (at n : ℕ) → AreBytes bytes → at + 4 ≤ length bytes → number_at 4 bytes at ≡ n
    → piece 4 bytes at ≡ big_bytes 4 n
spelled bytes at n fit room is = piece-number_at 4 bytes at fit room ∙ ap (λ (k : ℕ). big_bytes 4 k) is

-- what is read is spelled so
pub key_spelled : (bytes id root : List ℕ) → AreBytes bytes → IsPublicKey bytes → id ≡ piece 16 bytes 8 → root ≡ piece 32 bytes 24
    → bytes ≡ key_text id root
unfolding key_text
key_spelled bytes id root fit is is_id is_root =
    let first = spelled bytes 0 6 fit (omega arith) is.tree_type in
    let second = spelled bytes 4 4 fit (omega arith) is.ots_type in
    cut bytes 0 4 ∙ rw (first, cut bytes 4 4, second, cut bytes 8 16, sym is_id, cut_last bytes 24 32 (omega arith), sym is_root) refl

-- what is spelled so is read
pub key_public : (id root : List ℕ) → length id ≡ 16 → length root ≡ 32 → IsPublicKey (key_text id root)
unfolding key_text number_at
key_public id root long_id long_root = record {
  long = omega (arith, length-append (big_bytes 4 6 ++ big_bytes 4 4 ++ id) root, length-append (big_bytes 4 6 ++ big_bytes 4 4) id);
  tree_type = refl;
  ots_type = refl;
}

pub key_id-key_text : (id root : List ℕ) → length id ≡ 16 → piece 16 (key_text id root) 8 ≡ id
unfolding key_text
key_id-key_text id root long = take_at id root 16 long

pub root-key_text : (id root : List ℕ) → length id ≡ 16 → length root ≡ 32 → piece 32 (key_text id root) 24 ≡ root
unfolding key_text
root-key_text id root long_id long_root =
    let front : length (big_bytes 4 6 ++ big_bytes 4 4 ++ id) ≡ 24 = omega (arith, length-append (big_bytes 4 6 ++ big_bytes 4 4) id) in
    piece_behind 32 (big_bytes 4 6 ++ big_bytes 4 4 ++ id) root 24 0 24 front refl ∙ take_all 32 root (omega arith)
