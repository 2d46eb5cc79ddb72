-- The votes of a legal list: one in a view at the most, and those behind an opening list are above its stored vote view.
use Rattle.std.proofs.Common.{◌≡◌, ℕ, zero, suc, ◌<◌, ◌≤◌, Bool, true, false, List, [], ◌∷◌, ◌++◌, Option, Some, None, refl, sym, ap, subst, ◌∙◌, arith}
use Rattle.std.specs.Prelude.{nat_lt, slice_get}
use Rattle.blocks.specs.Genesis.{genesis_of}
use Rattle.blocks.specs.Headers.{Header}
use Rattle.blocks.specs.Replica.{Stored}
use Rattle.blocks.specs.Replay.{Durable, IsLegal, IsLegalEntry, IsLegalFrom, first_durable, moved_to, replay_entry, replay_from}
use Rattle.stable_log.specs.declared.disk.Disk.{Ghosts}
use Rattle.vote_log.specs.Logs.{LogState}
use Rattle.vote_desk.specs.declared.reply.Receipt.{Receipt}
use Rattle.vote_desk.specs.Desks.{DeskView, KeepsDesk}
use Rattle.vote_desk.specs.Receipts.{IsReceiptOf}
use Rattle.vote_desk.specs.Votes.{HasVote, IsFoundAsOpened, IsFoundSince, IsNoneFoundBelow, IsVoteAt, IsVoteFound, IsVoteOfView}

-- ---- stored vote views rise

moved_by : (b : Bool) (view : ℕ) (d : Durable) (p : Header) → nat_lt d.lock_view p.parent_view ≡ b → (moved_to view d p).stored_vote_view ≡ view
moved_by true view d p is = rw is refl
moved_by false view d p is = rw is refl

moved_view : (view : ℕ) (d : Durable) (p : Header) → (moved_to view d p).stored_vote_view ≡ view
moved_view view d p = moved_by (nat_lt d.lock_view p.parent_view) view d p refl

entry_raises : (d : Durable) (voted : Bool) (b p : Header) → IsLegalEntry d voted b p → d.stored_vote_view ≤ (replay_entry d voted b p).stored_vote_view
entry_raises d true b p legal = let is = moved_view b.view d p in let above = legal.0 in omega arith
entry_raises d false b p legal = let is = moved_view d.stored_vote_view d p in omega arith

vote_sets : (d : Durable) (voted : Bool) (b p : Header) → voted ≡ true → (replay_entry d voted b p).stored_vote_view ≡ b.view
vote_sets d true b p is = moved_view b.view d p
vote_sets d false b p is = absurd (cc is)

vote_is_above : (d : Durable) (voted : Bool) (b p : Header) → voted ≡ true → IsLegalEntry d voted b p → d.stored_vote_view < b.view
vote_is_above d true b p is legal = legal.0
vote_is_above d false b p is legal = absurd (cc is)

-- ---- a vote's place

pub first_is : {X : Type 0} (y x : X) → Some y ≡ Some x → y ≡ x
first_is y x is = cc is

-- the first entry is the vote
at_first : (view : ℕ) (y : Stored) (ys : List Stored) → IsVoteAt view (y ∷ ys) zero → IsVoteOfView view y
at_first view y ys here = subst (IsVoteOfView view) (sym (first_is y here.0 here.1)) here.2

-- votes of a legal list are above what stood before it
pub above : (d : Durable) (xs : List Stored) (view k : ℕ) → IsLegalFrom d xs → IsVoteAt view xs k → d.stored_vote_view < view
above d [] view k legal here = absurd (cc here.1)
above d (y ∷ ys) view zero legal here =
    let v = at_first view y ys here in
    let l = vote_is_above d y.voted y.block y.parent v.voted legal.0 in
    let at = v.at in
    omega arith
above d (y ∷ ys) view (suc k) legal here =
    let later = above (replay_entry d y.voted y.block y.parent) ys view k legal.1 here in
    let raises = entry_raises d y.voted y.block y.parent legal.0 in
    omega arith

-- the first entry is the vote: a later one is above it
not_both : (d : Durable) (y : Stored) (ys : List Stored) (view k : ℕ) → IsLegalFrom d (y ∷ ys) → IsVoteOfView view y → IsVoteAt view ys k → ⊥
not_both d y ys view k legal first later =
    let l = above (replay_entry d y.voted y.block y.parent) ys view k legal.1 later in
    let is = vote_sets d y.voted y.block y.parent first.voted in
    let at = first.at in
    omega arith

-- there is one in a view at the most
pub one_place : (d : Durable) (xs : List Stored) (view j k : ℕ) → IsLegalFrom d xs → IsVoteAt view xs j → IsVoteAt view xs k → j ≡ k
one_place d [] view j k legal one other = absurd (cc one.1)
one_place d (y ∷ ys) view zero zero legal one other = refl
one_place d (y ∷ ys) view zero (suc k) legal one other = absurd (not_both d y ys view k legal (at_first view y ys one) other)
one_place d (y ∷ ys) view (suc j) zero legal one other = absurd (not_both d y ys view j legal (at_first view y ys other) one)
one_place d (y ∷ ys) view (suc j) (suc k) legal one other = ap suc (one_place (replay_entry d y.voted y.block y.parent) ys view j k legal.1 one other)

-- ---- a list that goes on

pub got_more : {X : Type 0} (xs ys : List X) (k : ℕ) (x : X) → slice_get xs k ≡ Some x → slice_get (xs ++ ys) k ≡ Some x
got_more [] ys k x is = absurd (cc is)
got_more (z ∷ zs) ys zero x is = is
got_more (z ∷ zs) ys (suc k) x is = got_more zs ys k x is

-- an entry stands where it stood
pub still_at : (view : ℕ) (xs ys : List Stored) (k : ℕ) → IsVoteAt view xs k → IsVoteAt view (xs ++ ys) k
still_at view xs ys k here = (here.0, got_more xs ys k here.0 here.1, here.2)

-- a vote in a view up to the stored one of a first part stands in it
pub stood : (d : Durable) (xs ys : List Stored) (view k : ℕ) → IsLegalFrom d (xs ++ ys) → view ≤ (replay_from d xs).stored_vote_view → IsVoteAt view (xs ++ ys) k → IsVoteAt view xs k
stood d [] ys view k legal below here = let l = above d ys view k legal here in absurd (omega arith)
stood d (z ∷ zs) ys view zero legal below here = here
stood d (z ∷ zs) ys view (suc k) legal below here = stood (replay_entry d z.voted z.block z.parent) zs ys view k legal.1 below here

-- ---- what is found

-- the receipt of a vote in this view names its entry
pub vote_at : (view : ℕ) (steps : List Stored) (r : Receipt) → IsReceiptOf 0 steps r → r.vote.view ≡ view → IsVoteAt view steps r.number
vote_at view steps r is at = (is.entry, is.at, record { voted = is.vote.voted; at = sym is.vote.view ∙ at })

module _ {D : Type 0} (bytes : D → Option (List ℕ)) (replica : ℕ) (genesis : Header) (opening more : List Stored) (log : LogState D) (is : log.steps ≡ opening ++ more) (legal : IsLegal genesis log.steps) (view : ℕ) where
  found_at : (r : Receipt) → HasVote bytes replica log view r → IsVoteAt view log.steps r.number
  found_at r has = vote_at view log.steps r has.receipt has.view_is

  in_list : (k : ℕ) → IsVoteAt view opening k → IsVoteAt view log.steps k
  in_list k here = subst (λ (l : List Stored). IsVoteAt view l k) (sym is) (still_at view opening more k here)

  -- the receipt's entry stood in the opening list
  stood_there : (r : Receipt) → HasVote bytes replica log view r → (k : ℕ) → IsVoteAt view opening k → r.number ≡ k → IsReceiptOf 0 opening r
  stood_there r has k here same =
      let place : slice_get log.steps r.number ≡ Some here.0 = ap (slice_get log.steps) same ∙ ap (λ (l : List Stored). slice_get l k) is ∙ got_more opening more k here.0 here.1 in
      let entry : here.0 ≡ has.receipt.entry = first_is here.0 has.receipt.entry (sym place ∙ has.receipt.at) in
      record {
        behind = has.receipt.behind;
        entry = has.receipt.entry;
        at = ap (slice_get opening) same ∙ here.1 ∙ ap (λ (x : Stored). Some x) entry;
        vote = has.receipt.vote;
      }

  pub as_opened : (found : Option Receipt) → IsVoteFound bytes replica log view found → IsFoundAsOpened opening view found
  as_opened (Some r) has k here =
      let same : r.number ≡ k = one_place (first_durable genesis) log.steps view r.number k legal (found_at r has) (in_list k here) in
      (same, stood_there r has k here same)
  as_opened None none k here = none k (in_list k here)

  pub none_below : (found : Option Receipt) → IsVoteFound bytes replica log view found → IsNoneFoundBelow genesis opening view found
  none_below (Some r) has below lacks =
      let there = subst (λ (l : List Stored). IsVoteAt view l r.number) is (found_at r has) in
      absurd (lacks r.number (stood (first_durable genesis) opening more view r.number (subst (IsLegal genesis) is legal) below there))
  none_below None none below lacks = refl

-- ---- .. by a desk

module _ {D : Type 0} (disk : Ghosts D) (committee : List ℕ) (replica : ℕ) (opening : List Stored) (d : DeskView D) (keeps : KeepsDesk disk.bytes disk.images committee replica opening d) (view : ℕ) where
  legal_here : IsLegal (genesis_of committee) d.log.steps
  legal_here = subst (λ (h : Header). IsLegal h d.log.steps) keeps.genesis keeps.list.fits.legal

  pub opened_found : (found : Option Receipt) → IsVoteFound disk.bytes replica d.log view found → IsFoundAsOpened opening view found
  opened_found found is = as_opened disk.bytes replica (genesis_of committee) opening keeps.list.fits.more d.log keeps.list.fits.begins legal_here view found is

  pub none_found_below : (found : Option Receipt) → IsVoteFound disk.bytes replica d.log view found → IsNoneFoundBelow (genesis_of committee) opening view found
  none_found_below found is = none_below disk.bytes replica (genesis_of committee) opening keeps.list.fits.more d.log keeps.list.fits.begins legal_here view found is

  pub found_since : (found : Option Receipt) → IsVoteFound disk.bytes replica d.log view found → IsFoundSince d.log.steps view found
  found_since found is earlier k grows here = as_opened disk.bytes replica (genesis_of committee) earlier grows.0 d.log grows.1 legal_here view found is k here
