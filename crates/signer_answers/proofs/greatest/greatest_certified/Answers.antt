use Rattle.std.proofs.Common.{◌≡◌, ◌∙◌, ◌<◌, ◌-◌, ◌+◌, ◌∷◌, ℕ, List, [], length, drop, get_or, inl, inr, refl, sym, subst, arith}
use Rattle.std.proofs.lemmas.List.{drop_more, drop_all}
use Rattle.signer_answers.specs.Greatest.{FrameCertifies, IsGreatest, IsIn}
use Rattle.signer_answers.proofs.Frames.{greatest_of_none, greatest_with}
use Rattle.signer_answers.proofs.greatest.greatest_certified.Goals as goal

pub loop-k-init : goal.loop-k-init
loop-k-init c =
    let Has = FrameCertifies c.args.committee.now in
    let frames = c.args.frames.now.frames in
    let count : c.len-k.result ≡ length frames = c.len-k.ensures in
    record {
      within = omega (arith, count);
      floor = inr count;
      greatest = subst (λ (fs : List (List ℕ)). IsGreatest (IsIn Has fs) c.args.before c.args.before) (sym (drop_all c.len-k.result frames (omega (arith, count)))) (greatest_of_none Has c.args.before);
    }

pub loop-k-preserved : goal.loop-k-preserved
loop-k-preserved c =
    let Has = FrameCertifies c.args.committee.now in
    let frames = c.args.frames.now.frames in
    let k = c.loop-k.k in
    let at = k - 1 in
    let within = c.loop-k.invariant.within in
    let test = c.loop-k-test.true in
    let next : at + 1 ≡ k = omega (arith, test) in
    let there : at < length frames = omega (arith, within, test) in
    let parts : drop at frames ≡ get_or frames at [] ∷ drop k frames =
    subst (λ (j : ℕ). drop at frames ≡ get_or frames at [] ∷ drop j frames) next (drop_more frames at [] there) in
    let new : IsGreatest (Has (get_or frames at [])) c.loop-k.greatest c.in_ok-greatest.greatest =
    subst (λ (f : List ℕ). IsGreatest (Has f) c.loop-k.greatest c.in_ok-greatest.greatest) c.payload.ensures c.in_ok-greatest.ensures in
    record {
      within = omega (arith, within);
      floor = inl (omega (arith, test));
      greatest = subst (λ (fs : List (List ℕ)). IsGreatest (IsIn Has fs) c.args.before c.in_ok-greatest.greatest) (sym parts) (greatest_with Has (get_or frames at []) (drop k frames) c.args.before c.loop-k.greatest c.in_ok-greatest.greatest c.loop-k.invariant.greatest new);
    }

pub returns : goal.returns
returns c =
    let Has = FrameCertifies c.args.committee.now in
    let frames = c.args.frames.now.frames in
    let k = c.loop-k.k in
    let test = c.loop-k-test.false in
    let same : drop k frames ≡ drop c.args.from frames = elim c.loop-k.invariant.floor [
      | inl above ↦ let is : k ≡ c.args.from = omega (arith, test, above) in subst (λ (j : ℕ). drop k frames ≡ drop j frames) is refl
      | inr end ↦ drop_all k frames (omega (arith, end)) ∙ sym (drop_all c.args.from frames (omega (arith, test, end)))
    ] in
    subst (λ (fs : List (List ℕ)). IsGreatest (IsIn Has fs) c.args.before c.loop-k.greatest) same c.loop-k.invariant.greatest
