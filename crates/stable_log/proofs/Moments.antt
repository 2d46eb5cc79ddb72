-- How a run of device calls goes on.
use Rattle.std.proofs.Common.{Option, ◌≡◌, inl, inr, ⊎_elim, ℕ, ◌+◌, List, length, take, drop, refl, arith, ap, ◌∙◌}
use Rattle.std.proofs.lemmas.List.{take_all}
use Rattle.stable_log.specs.Crash.{Elapses, LeavesOnly, Torn, Stepped, NoNew, Follows, Unwritten}

-- nothing at all was written
pub torn_none : (at n : ℕ) (c : List ℕ) → Torn at n c c
torn_none at n c = record {
  before = ap (λ (l : List ℕ). take at l) (take_all (length c) c (omega arith));
  after = ap (λ (l : List ℕ). drop (at + n) l) (take_all (length c) c (omega arith));
  no_shorter = omega arith;
  no_longer = omega arith;
}

module _ {D : Type 0} (moment : D → ℕ) (images_since : D → ℕ → List ℕ → Type 0) where
  -- before the first call
  pub started : (old : D) (P : List ℕ → Type 0) → ((c : List ℕ) → images_since old (moment old) c → P c) → LeavesOnly moment images_since old old P
  started old P here = record { later = omega arith; each = here; before = λ t c le left. inl left }

  -- one call more, after which a crash leaves what has P
  pub goes_on : (old mid new : D) (P images : List ℕ → Type 0) → LeavesOnly moment images_since old mid P → Elapses (moment mid) (moment new) (images_since mid) (images_since new) images
      → ((c : List ℕ) → images c → P c) → LeavesOnly moment images_since old new P
  goes_on old mid new P images so_far time here = record {
    later = omega (arith, so_far.later, time.later);
    each = λ c left. ⊎_elim (so_far.each c) (here c) (time.nothing_else (moment old) c so_far.later left);
    before = λ t c le left. ⊎_elim (so_far.before t c le) (λ now. inr (here c now)) (time.nothing_else t c (omega (arith, le, so_far.later)) left);
  }

  -- two runs, one after the other
  pub joins : (old mid new : D) (P Q R : List ℕ → Type 0) → LeavesOnly moment images_since old mid P → LeavesOnly moment images_since mid new Q
      → ((c : List ℕ) → P c → R c) → ((c : List ℕ) → Q c → R c) → LeavesOnly moment images_since old new R
  joins old mid new P Q R first second by_first by_second = record {
    later = omega (arith, first.later, second.later);
    each = λ c left. ⊎_elim (λ l. by_first c (first.each c l)) (λ q. by_second c q) (second.before (moment old) c first.later left);
    before = λ t c le left. ⊎_elim (λ l. ⊎_elim (λ o. inl o) (λ p. inr (by_first c p)) (first.before t c le l)) (λ q. inr (by_second c q)) (second.before t c (omega (arith, le, first.later)) left);
  }

  pub weaker : (old new : D) (P R : List ℕ → Type 0) → LeavesOnly moment images_since old new P → ((c : List ℕ) → P c → R c) → LeavesOnly moment images_since old new R
  weaker old new P R run by = record {
    later = run.later;
    each = λ c left. by c (run.each c left);
    before = λ t c le left. ⊎_elim (λ o. inl o) (λ p. inr (by c p)) (run.before t c le left);
  }

  -- a write, and what a crash leaves since before it
  pub one_write : (old new : D) (images_old images_new : List ℕ → Type 0) (at n : ℕ) → ((c : List ℕ) → images_since old (moment old) c → images_old c)
      → Follows (Torn at n) images_old images_new → Elapses (moment old) (moment new) (images_since old) (images_since new) images_new
      → LeavesOnly moment images_since old new (Stepped (Torn at n) images_old)
  one_write old new images_old images_new at n now crash time =
      goes_on old old new (Stepped (Torn at n) images_old) images_new (started old (Stepped (Torn at n) images_old) (λ c left. (c, now c left, torn_none at n c))) time crash

module _ {D : Type 0} (bytes : D → Option (List ℕ)) (images : D → List ℕ → Type 0) (moment : D → ℕ) (images_since : D → ℕ → List ℕ → Type 0) where
  -- no call at all
  pub unwritten_none : (old : D) → ((c : List ℕ) → images_since old (moment old) c → images old c) → Unwritten bytes images moment images_since old old
  unwritten_none old now = record { same = refl; no_new = λ c left. left; any_moment = started moment images_since old (images old) now }

  -- one call that writes nothing
  pub unwritten_call : (old new : D) → ((c : List ℕ) → images_since old (moment old) c → images old c) → bytes new ≡ bytes old → NoNew (images old) (images new)
      → Elapses (moment old) (moment new) (images_since old) (images_since new) (images new) → Unwritten bytes images moment images_since old new
  unwritten_call old new now same no_new time = record {
    same = same;
    no_new = no_new;
    any_moment = goes_on moment images_since old old new (images old) (images new) (started moment images_since old (images old) now) time no_new;
  }

  pub unwritten_then : (old mid new : D) → Unwritten bytes images moment images_since old mid → Unwritten bytes images moment images_since mid new → Unwritten bytes images moment images_since old new
  unwritten_then old mid new first second = record {
    same = second.same ∙ first.same;
    no_new = λ c left. first.no_new c (second.no_new c left);
    any_moment = joins moment images_since old mid new (images old) (images mid) (images old) first.any_moment second.any_moment (λ c left. left) first.no_new;
  }
