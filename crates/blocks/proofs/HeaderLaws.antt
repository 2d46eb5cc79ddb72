-- What is read is spelled so, and what is spelled so is read.
use Rattle.std.proofs.Common.{◌≡◌, ℕ, true, List, ◌++◌, length, take, Result, Ok, refl, sym, ap, subst, ◌∙◌, arith}
use Rattle.std.specs.Prelude.{codes}
use Rattle.std.specs.Cmp.Lexicographic.{same_text}
use Rattle.std.proofs.lemmas.Bool.{eqb-true, eq-eqb}
use Rattle.std.proofs.lemmas.Bool.Decides.{nat_tests}
use Rattle.std.proofs.lemmas.List.{take_at, drop_at, take_all, length-append}
use Rattle.base_wire.specs.Pieces.{piece, number_at, AreBytes}
use Rattle.base_wire.proofs.Numbers.{taken, cut_last, length-piece, piece-number_at, number_again, number_below}
use Rattle.base_wire.proofs.Needs.{need_ok, need_true, ok_is}
use Rattle.blocks.specs.declared.header.HeaderRefusal.{HeaderRefusal}
use Rattle.blocks.specs.declared.header.HeaderRefusal.TheVariants.{Length, ViewOrder}
use Rattle.blocks.specs.HeaderReading.{are_in_order, header_at, header_in}
use Rattle.blocks.specs.Headers.{Header, AreInOrder, IsHeader, header_text}

in_order : (p v : ℕ) → are_in_order p v ≡ true → AreInOrder p v
in_order p v e = grind (arith, nat_tests)

ordered : (p v : ℕ) → AreInOrder p v → are_in_order p v ≡ true
ordered p v h = grind (arith, nat_tests)

-- what stands at the places of a header is a header
is_header_at : (bytes : List ℕ) → AreBytes bytes → length bytes ≡ 84 → are_in_order (number_at 8 bytes 12) (number_at 8 bytes 4) ≡ true → IsHeader (header_at bytes)
is_header_at bytes fit long order =
    record {
      view = number_below 8 bytes 4 fit;
      parent_view = number_below 8 bytes 12 fit;
      in_order = in_order _ _ order;
      parent = length-piece 32 bytes 20 (omega arith);
      payload = length-piece 32 bytes 52 (omega arith);
    }

-- and its bytes are these
header_text-header_at : (bytes : List ℕ) → AreBytes bytes → length bytes ≡ 84 → piece 4 bytes 0 ≡ codes "HSB1" → bytes ≡ header_text (header_at bytes)
unfolding header_text
header_text-header_at bytes fit long magic =
    taken bytes 0 4 (codes "HSB1") _ magic (
    taken bytes 4 8 _ _ (piece-number_at 8 bytes 4 fit (omega arith)) (
    taken bytes 12 8 _ _ (piece-number_at 8 bytes 12 fit (omega arith)) (
    taken bytes 20 32 _ _ refl (cut_last bytes 52 32 long))))

pub header_found : (bytes : List ℕ) (h : Header) → AreBytes bytes → header_in bytes ≡ Ok h → IsHeader h × (bytes ≡ header_text h)
unfolding header_in
header_found bytes h fit e =
    let a = need_ok _ _ _ h e in
    let b = need_ok _ _ _ h a.1 in
    let c = need_ok _ _ _ h b.1 in
    let long : length bytes ≡ 84 = eqb-true _ _ a.0 in
    let magic : piece 4 bytes 0 ≡ codes "HSB1" = sym (same_text _ _ (sym b.0)) in
    subst (λ (x : Header). IsHeader x × (bytes ≡ header_text x)) (ok_is (header_at bytes) h c.1)
    (is_header_at bytes fit long c.0, header_text-header_at bytes fit long magic)

abbrev header_of : ℕ → ℕ → List ℕ → List ℕ → Result Header HeaderRefusal
header_of view parent_view parent payload = Ok (record { view = view; parent_view = parent_view; parent = parent; payload = payload })

alike : (v w p q : ℕ) (a b x y : List ℕ) → v ≡ w → p ≡ q → a ≡ b → x ≡ y → header_of v p a x ≡ header_of w q b y
alike v w p q a b x y e f g h = cc

pub length-header_text : (h : Header) → IsHeader h → length (header_text h) ≡ 84
unfolding header_text
length-header_text h is =
    let both : length (h.parent ++ h.payload) ≡ 64 = omega (arith, length-append h.parent h.payload, is.parent, is.payload) in
    omega (arith, both)

pub header_again : (h : Header) → IsHeader h → header_in (header_text h) ≡ Ok h
unfolding header_in header_text
header_again h is =
    let text = header_text h in
    let long : length text ≡ 84 = length-header_text h is in
    let view : number_at 8 text 4 ≡ h.view = number_again 8 text 4 h.view is.view refl in
    let parent_view : number_at 8 text 12 ≡ h.parent_view = number_again 8 text 12 h.parent_view is.parent_view refl in
    let parent : piece 32 text 20 ≡ h.parent = take_at h.parent h.payload 32 is.parent in
    let payload : piece 32 text 52 ≡ h.payload = ap (take 32) (drop_at h.parent h.payload 32 is.parent) ∙ take_all 32 h.payload (omega (arith, is.payload)) in
    let order : are_in_order (number_at 8 text 12) (number_at 8 text 4) ≡ true = rw (view, parent_view) (ordered _ _ is.in_order) in
    need_true _ Length _ _ (eq-eqb _ _ long) (need_true _ ViewOrder _ _ order (alike _ _ _ _ _ _ _ _ view parent_view parent payload))
