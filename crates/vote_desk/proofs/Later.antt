-- A desk after calls, one after the other: what is found then was there before, or was released since.
use Rattle.std.proofs.Common.{◌≡◌, ◌⊎◌, inl, inr, ℕ, zero, suc, List, [], ◌∷◌, ◌++◌, length, true, Some, None, refl, sym, ap, subst, ◌∙◌, append_assoc, append-nil}
use Rattle.std.specs.Prelude.{slice_get}
use Rattle.std.proofs.lemmas.Bool.{false≢true}
use Rattle.blocks.specs.Headers.{Header, header_id}
use Rattle.blocks.specs.Replica.{Stored}
use Rattle.certificates.specs.BlockChecks.{CheckedBlock}
use Rattle.certificates.specs.declared.vote.SignedVote.{SignedVote}
use Rattle.log_format.specs.EntryText.{stored_in}
use Rattle.stable_log.specs.declared.disk.Disk.{Ghosts}
use Rattle.vote_log.specs.Logs.{LogState}
use Rattle.vote_desk.specs.declared.reply.Answer.{Answer}
use Rattle.vote_desk.specs.declared.reply.Answer.TheVariants.{Voted, Raised, Held}
use Rattle.vote_desk.specs.declared.reply.Receipt.{Receipt}
use Rattle.vote_desk.specs.declared.reply.Reply.{Reply}
use Rattle.vote_desk.specs.Deliveries.{HasEffect, ListGrows, entry_for, signed_in}
use Rattle.vote_desk.specs.Desks.{DeskView}
use Rattle.vote_desk.specs.Later.{AFoundVoteWasReleased, AReleasedVoteIsFound, AreCalls, AreOfOneVote, IsCall, OneReleases, Releases}
use Rattle.vote_desk.specs.Receipts.{IsReceiptOf}
use Rattle.vote_desk.specs.SomeDesk.{Replies}
use Rattle.vote_desk.proofs.Delivered.{stands}
use Rattle.vote_desk.proofs.OpeningVotes.{first_is, found_since, got_more, vote_at}

-- ---- lists

grown : (old new : List Stored) → new ≡ old → ListGrows old new
grown old new is = ([], is ∙ sym (append-nil old))

further : (xs ys zs : List Stored) → ListGrows xs ys → ListGrows ys zs → ListGrows xs zs
further xs ys zs one other = (
  one.0 ++ other.0,
  other.1 ∙ ap (λ (l : List Stored). l ++ other.0) one.1 ∙ append_assoc xs one.0 other.0,
)

-- the receipt stays that of its entry
later_receipt : (xs ys : List Stored) (r : Receipt) → ListGrows xs ys → IsReceiptOf 0 xs r → IsReceiptOf 0 ys r
later_receipt xs ys r more is = record {
  behind = is.behind;
  entry = is.entry;
  at = ap (λ (l : List Stored). slice_get l r.number) more.1 ∙ got_more xs more.0 r.number is.entry is.at;
  vote = is.vote;
}

-- one entry more: it stood before, or it is the last
at_push : (xs : List Stored) (y : Stored) (k : ℕ) (x : Stored) → slice_get (xs ++ y ∷ []) k ≡ Some x → (slice_get xs k ≡ Some x) ⊎ ((k ≡ length xs) × (x ≡ y))
at_push [] y zero x is = inr (refl, sym (first_is y x is))
at_push [] y (suc k) x is = absurd (cc is)
at_push (z ∷ zs) y zero x is = inl is
at_push (z ∷ zs) y (suc k) x is = elim (at_push zs y k x is) [
  | inl l ↦ inl l
  | inr r ↦ inr (ap suc r.0, r.1)
]

module _ {D : Type 0} (disk : Ghosts D) (committee : List ℕ) (replica : ℕ) where
  abbrev WasBefore : DeskView D → DeskView D → ℕ → Stored → Type 0
  WasBefore old new k x = (slice_get old.log.steps k ≡ Some x) ⊎ ((s : Receipt) × Releases disk committee replica s old new × (s.number ≡ k))

  -- ---- one call

  effect_grows : (old new : DeskView D) (b : CheckedBlock) (p : Header) (a : Answer) → HasEffect disk.bytes committee replica old new b p a → ListGrows old.log.steps new.log.steps
  effect_grows old new b p (Voted r) e = (stored_in (entry_for b p (Some (signed_in r.vote))) ∷ [], e.adds.steps)
  effect_grows old new b p Raised e = (stored_in (entry_for b p None) ∷ [], e.adds.steps)
  effect_grows old new b p Held e = grown old.log.steps new.log.steps (ap (λ (l : LogState D). l.steps) e.log)

  call_grows : (old new : DeskView D) → IsCall disk committee replica old new → ListGrows old.log.steps new.log.steps
  call_grows old new (inl r) = effect_grows old new r.0 r.2.delivered.parent r.1.act r.2.delivered.effect
  call_grows old new (inr (inl r)) = grown old.log.steps new.log.steps r.2.left.kept.steps
  call_grows old new (inr (inr (inl t))) = grown old.log.steps new.log.steps (ap (λ (d : DeskView D). d.log.steps) t.1)
  call_grows old new (inr (inr (inr (inl r)))) = grown old.log.steps new.log.steps (ap (λ (d : DeskView D). d.log.steps) r.same)
  call_grows old new (inr (inr (inr (inr is)))) = grown old.log.steps new.log.steps (ap (λ (l : LogState D). l.steps) is)

  released_stands : (r : Receipt) (old new : DeskView D) → Releases disk committee replica r old new → IsReceiptOf 0 new.log.steps r
  released_stands r old new here =
      let d = here.replied.delivered in
      let b = here.block in
      let v = subst (λ (a : Answer). HasEffect disk.bytes committee replica old new b d.parent a) here.voted d.effect in
      stands old.log.steps new.log.steps (stored_in (entry_for b d.parent (Some (signed_in r.vote)))) r v.adds.steps v.number refl
      (ap (λ (x : SignedVote). x.view) v.vote) (ap (λ (x : SignedVote). x.id) v.vote)

  -- a vote in the new list
  effect_back : (old new : DeskView D) (b : CheckedBlock) (reply : Reply) → Replies disk committee replica b reply old new → (p : Header) (a : Answer) → reply.act ≡ a → HasEffect disk.bytes committee replica old new b p a
      → (k : ℕ) (x : Stored) → slice_get new.log.steps k ≡ Some x → x.voted ≡ true → WasBefore old new k x
  effect_back old new b reply replies p (Voted r) is e k x at voted =
      elim (at_push old.log.steps (stored_in (entry_for b p (Some (signed_in r.vote)))) k x (ap (λ (l : List Stored). slice_get l k) (sym e.adds.steps) ∙ at)) [
        | inl l ↦ inl l
        | inr q ↦ inr (r, record { block = b; reply = reply; replied = replies; voted = is }, e.number ∙ sym q.0)
      ]
  effect_back old new b reply replies p Raised is e k x at voted =
      elim (at_push old.log.steps (stored_in (entry_for b p None)) k x (ap (λ (l : List Stored). slice_get l k) (sym e.adds.steps) ∙ at)) [
        | inl l ↦ inl l
        | inr q ↦ absurd (false≢true (ap (λ (y : Stored). y.voted) (sym q.1) ∙ voted))
      ]
  effect_back old new b reply replies p Held is e k x at voted =
      inl (ap (λ (l : LogState D). slice_get l.steps k) (sym e.log) ∙ at)

  call_back : (old new : DeskView D) → IsCall disk committee replica old new → (k : ℕ) (x : Stored) → slice_get new.log.steps k ≡ Some x → x.voted ≡ true → WasBefore old new k x
  call_back old new (inl r) k x at voted = effect_back old new r.0 r.1 r.2 r.2.delivered.parent r.1.act refl r.2.delivered.effect k x at voted
  call_back old new (inr (inl r)) k x at voted = inl (ap (λ (l : List Stored). slice_get l k) (sym r.2.left.kept.steps) ∙ at)
  call_back old new (inr (inr (inl t))) k x at voted = inl (ap (λ (d : DeskView D). slice_get d.log.steps k) (sym t.1) ∙ at)
  call_back old new (inr (inr (inr (inl r)))) k x at voted = inl (ap (λ (d : DeskView D). slice_get d.log.steps k) (sym r.same) ∙ at)
  call_back old new (inr (inr (inr (inr is)))) k x at voted = inl (ap (λ (l : LogState D). slice_get l.steps k) (sym is) ∙ at)

  -- ---- calls

  calls_grow : (old new : DeskView D) (calls : List (DeskView D)) → AreCalls disk committee replica old calls new → ListGrows old.log.steps new.log.steps
  calls_grow old new [] is = grown old.log.steps new.log.steps (ap (λ (d : DeskView D). d.log.steps) is)
  calls_grow old new (d ∷ ds) are = further old.log.steps d.log.steps new.log.steps (call_grows old d are.0) (calls_grow d new ds are.1)

  released_later : (old new : DeskView D) (calls : List (DeskView D)) (r : Receipt) → AreCalls disk committee replica old calls new → OneReleases disk committee replica r old calls new → IsReceiptOf 0 new.log.steps r
  released_later old new [] r are one = absurd one
  released_later old new (d ∷ ds) r are (inl here) = later_receipt d.log.steps new.log.steps r (calls_grow d new ds are.1) (released_stands r old d here)
  released_later old new (d ∷ ds) r are (inr later) = released_later d new ds r are.1 later

  calls_back : (old new : DeskView D) (calls : List (DeskView D)) → AreCalls disk committee replica old calls new → (k : ℕ) (x : Stored) → slice_get new.log.steps k ≡ Some x → x.voted ≡ true
      → (slice_get old.log.steps k ≡ Some x) ⊎ ((s : Receipt) × OneReleases disk committee replica s old calls new × (s.number ≡ k))
  calls_back old new [] is k x at voted = inl (ap (λ (d : DeskView D). slice_get d.log.steps k) (sym is) ∙ at)
  calls_back old new (d ∷ ds) are k x at voted = elim (calls_back d new ds are.1 k x at voted) [
    | inl l ↦ elim (call_back old d are.0 k x l voted) [
      | inl m ↦ inl m
      | inr s ↦ inr (s.0, inl s.1, s.2)
    ]
    | inr s ↦ inr (s.0, inr s.1, s.2)
  ]

  -- ---- laws

  pub a_released_vote_is_found : (opening : List Stored) → AReleasedVoteIsFound disk committee replica opening
  a_released_vote_is_found opening old new calls r found are desk one is =
      found_since disk committee replica opening new desk.keeps r.vote.view found is new.log.steps r.number (grown new.log.steps new.log.steps refl)
      (vote_at r.vote.view new.log.steps r (released_later old new calls r are one) refl)

  of_one_vote : (steps : List Stored) (r s : Receipt) → IsReceiptOf 0 steps r → IsReceiptOf 0 steps s → s.number ≡ r.number → AreOfOneVote r s
  of_one_vote steps r s a b same =
      let entry : a.entry ≡ b.entry = first_is a.entry b.entry (sym a.at ∙ ap (slice_get steps) (sym same) ∙ b.at) in
      record {
        number = sym same;
        view = a.vote.view ∙ ap (λ (x : Stored). x.block.view) entry ∙ sym b.vote.view;
        id = a.vote.id ∙ ap (λ (x : Stored). header_id x.block) entry ∙ sym b.vote.id;
      }

  pub a_found_vote_was_released : AFoundVoteWasReleased disk committee replica
  a_found_vote_was_released old new calls view r are has =
      let a = has.receipt in
      elim (calls_back old new calls are r.number a.entry a.at a.vote.voted) [
        | inl l ↦ inl (record { behind = a.behind; entry = a.entry; at = l; vote = a.vote })
        | inr s ↦ inr (s.0, s.1, of_one_vote new.log.steps r s.0 a (released_later old new calls s.0 are s.1) s.2)
      ]
