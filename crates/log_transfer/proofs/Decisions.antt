-- What came decides, whatever comes behind it.
use Rattle.std.proofs.Common.{◌≡◌, ◌≢◌, inl, inr, ℕ, ◌+◌, ◌<◌, ◌≤◌, List, ◌++◌, length, take, drop, refl, sym, ap, ◌∙◌, arith}
use Rattle.std.proofs.lemmas.List.{length-append, length-drop, take-append-le, drop-append-le}
use Rattle.base_wire.specs.Pieces.{number_at, piece}
use Rattle.log_format.specs.declared.status.Status.TheVariants.{Whole, Broken, TooLong}
use Rattle.log_transfer.specs.Pulled.{Decides}

number_kept : (rest more : List ℕ) (at : ℕ) → at + 4 ≤ length rest → number_at 4 (rest ++ more) at ≡ number_at 4 rest at
unfolding number_at
number_kept rest more at long =
    let front : piece 4 (rest ++ more) at ≡ piece 4 rest at =
    ap (λ (t : List ℕ). take 4 t) (drop-append-le at rest more (omega arith)) ∙ take-append-le 4 (drop at rest) more (omega (arith, length-drop at rest)) in
    rw front refl

pub decides_whole : (count room : ℕ) (rest : List ℕ) → 8 ≤ length rest → number_at 4 rest 0 ≡ 0 → number_at 4 rest 4 ≡ count → Decides count room rest Whole
decides_whole count room rest long none named failed more = record {
  came = omega (arith, length-append rest more);
  none = number_kept rest more 0 (omega arith) ∙ none;
  named = number_kept rest more 4 (omega arith) ∙ named;
}

pub decides_other : (count room : ℕ) (rest : List ℕ) → 8 ≤ length rest → number_at 4 rest 0 ≡ 0 → number_at 4 rest 4 ≢ count → Decides count room rest Broken
decides_other count room rest long none other failed more = inr (record {
  came = omega (arith, length-append rest more);
  none = number_kept rest more 0 (omega arith) ∙ none;
  other = λ e. other (sym (number_kept rest more 4 (omega arith)) ∙ e);
})

pub decides_great : (count room : ℕ) (rest : List ℕ) → 4 ≤ length rest → 65536 < number_at 4 rest 0 → Decides count room rest Broken
decides_great count room rest long great failed more = inl (record {
  came = omega (arith, length-append rest more);
  great = omega (arith, number_kept rest more 0 (omega arith));
})

pub decides_full : (count room : ℕ) (rest : List ℕ) → 4 ≤ length rest → 0 < number_at 4 rest 0 → number_at 4 rest 0 ≤ 65536 → room ≡ 0 → Decides count room rest TooLong
decides_full count room rest long some small full failed more = (
  full,
  record {
    came = omega (arith, length-append rest more);
    some = omega (arith, number_kept rest more 0 (omega arith));
    fits = omega (arith, number_kept rest more 0 (omega arith));
  },
)
