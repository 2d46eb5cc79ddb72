-- What the images of a closed desk's log have.
use Rattle.std.proofs.Common.{◌≡◌, ℕ, zero, suc, inl, inr, length, Option, IfSome, arith, List, [], ◌∷◌, ◌++◌, Some, sym, ap, subst, ◌∙◌}
use Rattle.std.specs.Prelude.{slice_get}
use Rattle.std.specs.List.{All}
use Rattle.blocks.specs.Headers.{Header}
use Rattle.blocks.specs.Replay.{FitsOpening}
use Rattle.blocks.specs.Replica.{Stored}
use Rattle.stable_log.proofs.Told.{some_if, if_some}
use Rattle.log_format.specs.EntryText.{stored_in}
use Rattle.vote_log.specs.Logs.{LogState, steps_of}
use Rattle.vote_log.proofs.LogLaws.{length-push, steps_push}
use Rattle.vote_desk.specs.declared.reply.Receipt.{Receipt}
use Rattle.vote_desk.specs.Desks.{DeskView, IsFittingImage, KeepsDesk, KeepsEntries}
use Rattle.vote_desk.specs.Receipts.{AreReceipts, IsReceiptOf, KeepsReceipts}

get_left : (xs ys : List Stored) (k : ℕ) (x : Stored) → slice_get xs k ≡ Some x → slice_get (xs ++ ys) k ≡ Some x
get_left [] ys k x is = absurd (cc is)
get_left (y ∷ xs) ys zero x is = is
get_left (y ∷ xs) ys (suc k) x is = get_left xs ys k x is

receipt_left : (opened : ℕ) (xs ys : List Stored) (r : Receipt) → IsReceiptOf opened xs r → IsReceiptOf opened (xs ++ ys) r
receipt_left opened xs ys r h = record { behind = h.behind; entry = h.entry; at = get_left xs ys r.number h.entry h.at; vote = h.vote }

of_image : {D : Type 0} (hs : List Header) (opening : List Stored) (log : LogState D) (receipts : List Receipt) (image : List ℕ) → log.steps ≡ steps_of log.entries → FitsOpening hs log.genesis opening log.steps
    → All (IsReceiptOf (length opening) log.steps) receipts → IsFittingImage hs opening log image → KeepsReceipts hs log.genesis opening log.entries receipts image
of_image hs opening log receipts image same fits each (inl s) = record {
  list = log.entries;
  stands = s;
  fits = subst (λ (l : List Stored). FitsOpening hs log.genesis opening l) same fits;
  has = subst (λ (l : List Stored). All (IsReceiptOf (length opening) l) receipts) same each;
  most = omega arith;
}
of_image hs opening log receipts image same fits each (inr e) =
    let x : List Stored = stored_in e.0 ∷ [] in
    let steps : log.steps ++ x ≡ steps_of (log.entries ++ e.0 ∷ []) = ap (λ (l : List Stored). l ++ x) same ∙ sym (steps_push log.entries e.0) in
    record {
      list = log.entries ++ e.0 ∷ [];
      stands = e.2;
      fits = subst (λ (l : List Stored). FitsOpening hs log.genesis opening l) steps e.3;
      has = subst (λ (l : List Stored). All (IsReceiptOf (length opening) l) receipts) steps (λ k d below. receipt_left (length opening) log.steps x _ (each k d below));
      most = omega (arith, length-push log.entries e.0);
    }

pub images_keep : {D : Type 0} (bytes : D → Option (List ℕ)) (images : D → List ℕ → Type 0) (committee : List ℕ) (replica : ℕ) (opening : List Stored) (d : DeskView D) (receipts : List Receipt)
    → KeepsDesk bytes images committee replica opening d → AreReceipts (length opening) d.log.steps receipts
    → IfSome (bytes d.log.disk) (λ _. (image : List ℕ) → images d.log.disk image → KeepsReceipts d.core.headers d.log.genesis opening d.log.entries receipts image)
images_keep bytes images committee replica opening d receipts keeps are =
    some_if (bytes d.log.disk) (λ _. (image : List ℕ) → images d.log.disk image → KeepsReceipts d.core.headers d.log.genesis opening d.log.entries receipts image) (λ bs told image left.
    let k = if_some (bytes d.log.disk) (λ _. KeepsEntries (images d.log.disk) opening d.core.headers d.indices.mark d.log) bs keeps.entries told in
    let fits = subst (λ (g : Header). FitsOpening d.core.headers g opening d.log.steps) (sym keeps.list.one_genesis) keeps.list.fits in
    of_image d.core.headers opening d.log receipts image k.listed.same fits are.each (k.images_fit image left))
