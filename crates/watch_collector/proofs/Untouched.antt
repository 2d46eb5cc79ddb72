-- Of what nothing is new need not be searched again.
use Rattle.std.proofs.Common.{◌≡◌, ◌⊎◌, ℕ, Bool, true, false, inl, inr, refl}
use Rattle.certificates.specs.declared.vote.SignedVote.{SignedVote}
use Rattle.audit_evidence.specs.Evidence.{Evidence}
use Rattle.audit_commits.specs.Culprits.{IsOffence, Shows}
use Rattle.verdict_format.specs.declared.parts.Shown.{Shown}
use Rattle.verdict_format.specs.declared.parts.Shown.TheVariants.{DoubleVote, LockViolation}
use Rattle.watch_collector.specs.Untouched.{IsSettled, IsTestOfFresh, UntouchedReplicasKeepTheirOffences, UntouchedReplicasKeepTheirPair, TheLeastOfOldAndFreshIsNamed}
use Rattle.watch_collector.proofs.Staying.{offences_stay}

shows_before : (e f : Evidence) (v w : SignedVote) (s : Shown) → IsSettled e f v → IsSettled e f w → Shows f v w s → Shows e v w s
shows_before e f v w DoubleVote first second shown = shown
shows_before e f v w (LockViolation h) first second shown =
    let known = shown.0 in
    let broken = shown.1 in (
      record {
        earlier = first.block h.earlier known.earlier broken.e_id;
        parent = first.parent h.earlier h.parent known.earlier broken.e_id known.parent broken.parent;
        later = second.block h.later known.later broken.w_id;
      },
      broken,
    )

-- an offence of two settled votes is old
old_offence : (e f : Evidence) (r : ℕ) (v w : SignedVote) → IsSettled e f v → IsSettled e f w → IsOffence f r v w → IsOffence e r v w
old_offence e f r v w first second o = record {
  earlier = first.vote;
  later = second.vote;
  earlier_by = o.earlier_by;
  later_by = o.later_by;
  broken = (o.broken.0, shows_before e f v w o.broken.0 first second o.broken.1);
}

pub offences_kept : UntouchedReplicasKeepTheirOffences
offences_kept e f r v w within same = (
  λ o. old_offence e f r v w (same v o.earlier o.earlier_by) (same w o.later o.later_by) o,
  λ o. offences_stay e f r v w within o,
)

pub pair_kept : UntouchedReplicasKeepTheirPair
pair_kept e f r v w within same = (
  λ n. record {
    offence = (offences_kept e f r v w within same).0 n.offence;
    least_later = λ x y o. n.least_later x y ((offences_kept e f r x y within same).1 o);
    least_earlier = λ x o. n.least_earlier x ((offences_kept e f r x w within same).1 o);
  },
  λ n. record {
    offence = (offences_kept e f r v w within same).1 n.offence;
    least_later = λ x y o. n.least_later x y ((offences_kept e f r x y within same).0 o);
    least_earlier = λ x o. n.least_earlier x ((offences_kept e f r x w within same).0 o);
  },
)

-- each offence has a vote that passes the test, or is old
sorted : (e f : Evidence) (r : ℕ) (fresh : SignedVote → Bool) (v w : SignedVote) → IsTestOfFresh e f r fresh → IsOffence f r v w
    → ((fresh v ≡ true) ⊎ (fresh w ≡ true)) ⊎ IsOffence e r v w
sorted e f r fresh v w test o = by (fresh v) (fresh w) refl refl
  where
    by : (a b : Bool) → fresh v ≡ a → fresh w ≡ b → ((fresh v ≡ true) ⊎ (fresh w ≡ true)) ⊎ IsOffence e r v w
    by true b is_a is_b = inl (inl is_a)
    by false true is_a is_b = inl (inr is_b)
    by false false is_a is_b = inr (old_offence e f r v w (test v o.earlier o.earlier_by is_a) (test w o.later o.later_by is_b) o)

pub least_named : TheLeastOfOldAndFreshIsNamed
least_named e f r fresh x y within test least = record {
  offence = least.offence;
  least_later = λ v w o. elim (sorted e f r fresh v w test o) [ inl new ↦ least.fresh_later v w o new | inr old ↦ least.old_later v w old ];
  least_earlier = λ v o. elim (sorted e f r fresh v y test o) [ inl new ↦ least.fresh_earlier v o new | inr old ↦ least.old_earlier v old ];
}
