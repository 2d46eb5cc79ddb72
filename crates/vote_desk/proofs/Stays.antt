-- A desk is a stay.
use Rattle.std.specs.Prelude.{slice_get}
use Rattle.std.proofs.Common.{◌≡◌, inl, inr, ℕ, zero, suc, Bool, true, List, [], ◌∷◌, ◌++◌, Option, Some, IfSome, refl, sym, ap, subst, ◌∙◌}
use Rattle.std.specs.List.{All, Contains}
use Rattle.std.proofs.lemmas.List.Elements.{All-head, All-tail, All-push, Contains-append_left, Contains-append_right}
use Rattle.blocks.specs.Headers.{Header}
use Rattle.blocks.specs.Genesis.{genesis_of}
use Rattle.blocks.specs.Replica.{Stored, ballot_on}
use Rattle.blocks.specs.declared.ballot.Ballot.{Ballot}
use Rattle.blocks.specs.Replay.{FitsOpening}
use Rattle.blocks.specs.Chains.{IsChain}
use Rattle.certificates.specs.BlockChecks.{CheckedBlock}
use Rattle.blocks.specs.Replay.{ballot_in, ballots_in}
use Rattle.blocks.proofs.Members.{Contains-first}
use Rattle.vote_desk.specs.declared.reply.Receipt.{Receipt}
use Rattle.vote_desk.specs.Receipts.{AreReceipts, IsReceiptOf}
use Rattle.vote_desk.specs.Receipts.{receipt_ballot}
use Rattle.stable_log.proofs.Told.{some_if, if_some}
use Rattle.stable_log.proofs.OneList.{one_list}
use Rattle.log_format.specs.EntryText.{Entry, IsEntry, entry_text, stored_in}
use Rattle.vote_log.specs.Logs.{AreListed, LogState, StandsForEntries, steps_of, texts_of}
use Rattle.log_format.proofs.EntryLaws.{one_spelling}
use Rattle.vote_log.proofs.LogLaws.{steps_push}
use Rattle.vote_desk.specs.Desks.{DeskView, IsFittingImage, KeepsDesk, KeepsEntries}
use Rattle.vote_desk.specs.Deliveries.{IsLeftBy}
use Rattle.vote_desk.specs.Stays.{IsImageAfter, IsStay, stay_in}
use Rattle.vote_desk.proofs.Lists.{attached, fits_push}
use Rattle.vote_desk.proofs.Steps.{root_of}

-- entries of the same texts are the same
same_entries : (es fs : List Entry) → All IsEntry es → All IsEntry fs → texts_of es ≡ texts_of fs → es ≡ fs
same_entries [] [] es-are fs-are is = refl
same_entries [] (f ∷ fs) es-are fs-are is = absurd cc
same_entries (e ∷ es) [] es-are fs-are is = absurd cc
same_entries (e ∷ es) (f ∷ fs) es-are fs-are is =
    let first : entry_text e ≡ entry_text f = cc is in
    let rest : texts_of es ≡ texts_of fs = cc is in
    let head : e ≡ f = one_spelling e f (All-head IsEntry e es es-are) (All-head IsEntry f fs fs-are) first in
    let tail : es ≡ fs = same_entries es fs (All-tail IsEntry e es es-are) (All-tail IsEntry f fs fs-are) rest in
    ap (λ (x : Entry). x ∷ es) head ∙ ap (λ (l : List Entry). f ∷ l) tail

-- what is read in an image of entries are their steps
read_steps : (image : List ℕ) (es entries : List Entry) (steps : List Stored) → All IsEntry es → StandsForEntries image es → StandsForEntries image entries → AreListed entries steps → steps ≡ steps_of es
read_steps image es entries steps each stands read listed =
    listed.same ∙ ap steps_of (sym (same_entries es entries each listed.each (one_list image (texts_of es) (texts_of entries) stands read)))

pub image_found : {D : Type 0} (hs : List Header) (opening : List Stored) (log : LogState D) (image : List ℕ) → AreListed log.entries log.steps → IsFittingImage hs opening log image
    → IsImageAfter log.genesis (record { headers = hs; opening = opening; left = log.steps }) image
image_found hs opening log image listed (inl stands) entries steps read are = inl (read_steps image log.entries entries steps listed.each stands read are ∙ sym listed.same)
image_found hs opening log image listed (inr e) entries steps read are =
    let x = stored_in e.0 in
    let is : steps ≡ log.steps ++ x ∷ [] =
    read_steps image (log.entries ++ e.0 ∷ []) entries steps (All-push IsEntry log.entries e.0 listed.each e.1) e.2 read are
    ∙ steps_push log.entries e.0 ∙ ap (λ (l : List Stored). l ++ x ∷ []) (sym listed.same) in
    inr (x, is, subst (λ (l : List Stored). FitsOpening hs log.genesis opening l) (sym is) e.3)

module _ {D : Type 0} (bytes : D → Option (List ℕ)) (images : D → List ℕ → Type 0) (committee : List ℕ) (replica : ℕ) (opening : List Stored) (d : DeskView D) (keeps : KeepsDesk bytes images committee replica opening d) where
  root : d.log.genesis ≡ genesis_of committee
  root = keeps.list.one_genesis ∙ keeps.genesis

  fits : FitsOpening d.core.headers (genesis_of committee) opening d.log.steps
  fits = subst (λ (g : Header). FitsOpening d.core.headers g opening d.log.steps) keeps.genesis keeps.list.fits

  pub is_stay : IsStay bytes images (genesis_of committee) opening d
  is_stay = record {
    life = λ before life found. (found, fits, life);
    found = some_if (bytes d.log.disk) (λ _. (image : List ℕ) → images d.log.disk image → IsImageAfter (genesis_of committee) (stay_in opening d) image) (λ bs told image left.
        let k = if_some (bytes d.log.disk) (λ _. KeepsEntries (images d.log.disk) opening d.core.headers d.indices.mark d.log) bs keeps.entries told in
        subst (λ (g : Header). IsImageAfter g (stay_in opening d) image) root (image_found d.core.headers opening d.log image k.listed (k.images_fit image left)));
  }

  -- an image of a crash during a delivery is one of the desk's
  planned_image : (b : CheckedBlock) (image : List ℕ) → IsLeftBy committee replica d b image → IsFittingImage d.core.headers opening d.log image
  planned_image b image (inl stands) = inl stands
  planned_image b image (inr e) =
      let x = stored_in e.0 in
      let p = e.1 in
      let block : b.header ≡ x.block = sym (ap (λ (y : Entry). y.block) p.entry) in
      let chain : IsChain d.core.genesis x.block (x.parent ∷ p.below) = subst (λ (h : Header). IsChain d.core.genesis h (x.parent ∷ p.below)) block p.chain.is_chain in
      let here = attached d.core.headers d.core.genesis x p.below (root_of committee d.core.genesis keeps.genesis) chain p.chain.held in
      let more : FitsOpening d.core.headers d.core.genesis opening (d.log.steps ++ x ∷ []) = fits_push d.core.headers d.core.genesis opening d.log.steps x keeps.list.fits p.legal here in
      inr (e.0, p.is_entry, e.2, subst (λ (g : Header). FitsOpening d.core.headers g opening (d.log.steps ++ x ∷ [])) (sym keeps.list.one_genesis) more)

  pub left_is_found : (b : CheckedBlock) → IfSome (bytes d.log.disk) (λ _. (image : List ℕ) → IsLeftBy committee replica d b image → IsImageAfter (genesis_of committee) (stay_in opening d) image)
  left_is_found b = some_if (bytes d.log.disk) (λ _. (image : List ℕ) → IsLeftBy committee replica d b image → IsImageAfter (genesis_of committee) (stay_in opening d) image) (λ bs told image left.
      let k = if_some (bytes d.log.disk) (λ _. KeepsEntries (images d.log.disk) opening d.core.headers d.indices.mark d.log) bs keeps.entries told in
      subst (λ (g : Header). IsImageAfter g (stay_in opening d) image) root (image_found d.core.headers opening d.log image k.listed (planned_image b image left)))

-- ---- released votes

ballot_stands : (steps : List Stored) (k : ℕ) (x : Stored) → slice_get steps k ≡ Some x → x.voted ≡ true → Contains (ballots_in steps) (ballot_on x.block)
ballot_stands [] k x is voted = absurd (cc is)
ballot_stands (y ∷ ys) zero x is voted =
    let same : y ≡ x = cc is in
    let yes : y.voted ≡ true = ap (λ (z : Stored). z.voted) same ∙ voted in
    let one : ballot_in y.voted y.block ≡ ballot_on x.block ∷ [] =
    ap (λ (v : Bool). ballot_in v y.block) yes ∙ ap (λ (z : Stored). ballot_on z.block ∷ []) same in
    Contains-append_left (ballot_in y.voted y.block) (ballots_in ys) (ballot_on x.block)
    (subst (λ (l : List Ballot). Contains l (ballot_on x.block)) (sym one) (Contains-first (ballot_on x.block) []))
ballot_stands (y ∷ ys) (suc k) x is voted = Contains-append_right (ballot_in y.voted y.block) (ballots_in ys) (ballot_on x.block) (ballot_stands ys k x is voted)

receipt_stands : (opened : ℕ) (steps : List Stored) (r : Receipt) → IsReceiptOf opened steps r → Contains (ballots_in steps) (receipt_ballot r)
receipt_stands opened steps r here =
    let vote = ballot_stands steps r.number here.entry here.at here.vote.voted in
    let same : ballot_on here.entry.block ≡ receipt_ballot r =
    ap (λ (v : ℕ). let b : Ballot = record { view = v; id = (ballot_on here.entry.block).id } in b) (sym here.vote.view)
    ∙ ap (λ (i : List ℕ). let b : Ballot = record { view = r.vote.view; id = i } in b) (sym here.vote.id) in
    subst (Contains (ballots_in steps)) same vote

pub receipts_stand : (opened : ℕ) (steps : List Stored) (receipts : List Receipt) → AreReceipts opened steps receipts → All (λ r. Contains (ballots_in steps) (receipt_ballot r)) receipts
receipts_stand opened steps receipts are = λ k d below. receipt_stands opened steps _ (are.each k d below)
