-- Of votes those that are good.
use Rattle.std.proofs.Common.{◌≡◌, ◌↔◌, ◌<◌, ◌++◌, ◌∷◌, ℕ, zero, suc, List, [], Bool, true, false, if◌then◌else◌, length, take, get_or, inl, inr, refl, sym, ap, subst, arith}
use Rattle.std.specs.List.{All, AllPairs, AllZip, Contains}
use Rattle.std.proofs.lemmas.List.Elements.{All-cons, All-head, All-nil, All-tail}
use Rattle.std.proofs.lemmas.List.Kept.{AllPairs-cons}
use Rattle.blocks.proofs.Members.{Has, Has-from_Contains, Contains-from_Has}
use Rattle.certificates.specs.VoteOrder.{IsLowerVote}
use Rattle.certificates.specs.Votes.{IsAnswerOn, IsGoodVote}
use Rattle.certificates.specs.declared.vote.SignedVote.{SignedVote}
use Rattle.audit_evidence.specs.Gathering.{those}
use Rattle.audit_evidence.proofs.Lists.{no_pairs}

-- one vote more
after : (answer : Bool) (v : SignedVote) (vs ws xs : List SignedVote) → vs ≡ ws ++ xs → (if answer then v ∷ vs else vs) ≡ (if answer then v ∷ ws else ws) ++ xs
after true v vs ws xs e = ap (λ (ys : List SignedVote). v ∷ ys) e
after false v vs ws xs e = e

pub those_more : (vs : List SignedVote) (answers : List Bool) (i : ℕ) (d : SignedVote) (b : Bool) → i < length vs → length answers ≡ length vs
    → those (take (suc i) vs) (take (suc i) answers) ≡ those (take i vs) (take i answers) ++ (if get_or answers i b then get_or vs i d ∷ [] else [])
those_more [] answers i d b l same = absurd (omega arith)
those_more (v ∷ vs) [] i d b l same = absurd (omega (arith, same))
those_more (v ∷ vs) (answer ∷ answers) zero d b l same = refl
those_more (v ∷ vs) (answer ∷ answers) (suc i) d b l same =
    after answer v _ (those (take i vs) (take i answers)) _ (those_more vs answers i d b (omega arith) (omega (arith, same)))

-- ---- they are the good ones

has_good : (committee : List ℕ) (vs : List SignedVote) (answers : List Bool) → AllZip (IsAnswerOn committee) vs answers → (v : SignedVote) → Has (those vs answers) v → Has vs v × IsGoodVote committee v
has_good committee [] answers zip v h = absurd h
has_good committee (x ∷ vs) [] zip v h = absurd zip
has_good committee (x ∷ vs) (true ∷ answers) zip v (inl is) = (inl is, subst (IsGoodVote committee) is (zip.0.0 refl))
has_good committee (x ∷ vs) (true ∷ answers) zip v (inr h) = let r = has_good committee vs answers zip.1 v h in (inr r.0, r.1)
has_good committee (x ∷ vs) (false ∷ answers) zip v h = let r = has_good committee vs answers zip.1 v h in (inr r.0, r.1)

good_has : (committee : List ℕ) (vs : List SignedVote) (answers : List Bool) → AllZip (IsAnswerOn committee) vs answers → (v : SignedVote) → Has vs v → IsGoodVote committee v → Has (those vs answers) v
good_has committee [] answers zip v h good = absurd h
good_has committee (x ∷ vs) [] zip v h good = absurd zip
good_has committee (x ∷ vs) (true ∷ answers) zip v (inl is) good = inl is
good_has committee (x ∷ vs) (true ∷ answers) zip v (inr h) good = inr (good_has committee vs answers zip.1 v h good)
good_has committee (x ∷ vs) (false ∷ answers) zip v (inl is) good = let yes = zip.0.1 (subst (IsGoodVote committee) (sym is) good) in absurd cc
good_has committee (x ∷ vs) (false ∷ answers) zip v (inr h) good = good_has committee vs answers zip.1 v h good

pub those_are : (committee : List ℕ) (vs : List SignedVote) (answers : List Bool) → AllZip (IsAnswerOn committee) vs answers → (v : SignedVote) → Contains (those vs answers) v ↔ (Contains vs v × IsGoodVote committee v)
those_are committee vs answers zip v = (
  λ c. (let r = has_good committee vs answers zip v (Has-from_Contains _ v c) in (Contains-from_Has vs v r.0, r.1)),
  λ w. Contains-from_Has _ v (good_has committee vs answers zip v (Has-from_Contains vs v w.0) w.1),
)

-- ---- in order

all_kept : (P : SignedVote → Type 0) (vs : List SignedVote) (answers : List Bool) → All P vs → All P (those vs answers)
all_kept P [] answers all = All-nil P
all_kept P (v ∷ vs) [] all = All-nil P
all_kept P (v ∷ vs) (true ∷ answers) all = All-cons P v (those vs answers) (All-head P v vs all) (all_kept P vs answers (All-tail P v vs all))
all_kept P (v ∷ vs) (false ∷ answers) all = all_kept P vs answers (All-tail P v vs all)

pairs_head : (R : SignedVote → SignedVote → Type 0) (v : SignedVote) (vs : List SignedVote) → AllPairs R (v ∷ vs) → All (R v) vs
pairs_head R v vs pairs k d l = pairs 0 (suc k) d (omega arith) (omega arith)

pairs_tail : (R : SignedVote → SignedVote → Type 0) (v : SignedVote) (vs : List SignedVote) → AllPairs R (v ∷ vs) → AllPairs R vs
pairs_tail R v vs pairs i j d l m = pairs (suc i) (suc j) d (omega arith) (omega arith)

pub those_rise : (vs : List SignedVote) (answers : List Bool) → AllPairs IsLowerVote vs → AllPairs IsLowerVote (those vs answers)
those_rise [] answers pairs = no_pairs IsLowerVote
those_rise (v ∷ vs) [] pairs = no_pairs IsLowerVote
those_rise (v ∷ vs) (true ∷ answers) pairs =
    AllPairs-cons IsLowerVote v (those vs answers) (all_kept (IsLowerVote v) vs answers (pairs_head IsLowerVote v vs pairs)) (those_rise vs answers (pairs_tail IsLowerVote v vs pairs))
those_rise (v ∷ vs) (false ∷ answers) pairs = those_rise vs answers (pairs_tail IsLowerVote v vs pairs)
