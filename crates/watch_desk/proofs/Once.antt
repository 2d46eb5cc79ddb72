-- Lists of votes that gain others, each once.
use Rattle.std.proofs.Common.{◌≡◌, ◌∙◌, ◌⊎◌, inl, inr, ℕ, ◌+◌, ◌<◌, List, [], ◌∷◌, ◌++◌, length, get_or, take, sym, ap, subst, refl, arith}
use Rattle.std.specs.List.{Contains}
use Rattle.std.proofs.lemmas.List.{append_assoc, append-nil, take_more}
use Rattle.std.proofs.lemmas.List.Elements.{Contains-append_left, Contains-append_right, Contains-get_or, Contains-push, Contains-push_cases}
use Rattle.std.proofs.lemmas.List.Quantifiers.{all_pairs_push}
use Rattle.ancestry.proofs.Walks.{not_in_none}
use Rattle.certificates.specs.declared.vote.SignedVote.{SignedVote}
use Rattle.watch_desk.specs.Sources.{AreTheBad, GainsOnce, larger, top_from}
use Rattle.watch_collector.specs.Growing.{IsBadVote}

pub gains_none : (old : List SignedVote) → GainsOnce old old (Contains [])
gains_none old = record {
  gained = [];
  behind = sym (append-nil old);
  all = λ v c. absurd (not_in_none v c);
  only = λ v c. c;
  fresh = λ v c _. not_in_none v c;
  once = λ i j d l m. absurd (omega arith);
}

pub gains_over : (old mid : List SignedVote) (Is More : SignedVote → Type 0) → GainsOnce old mid Is → ((v : SignedVote) → More v → Is v ⊎ Contains mid v) → ((v : SignedVote) → Is v → More v) → GainsOnce old mid More
gains_over old mid Is More g cases keeps = record {
  gained = g.gained;
  behind = g.behind;
  all = λ v m. elim (cases v m) [ inl is ↦ g.all v is | inr there ↦ there ];
  only = λ v c. keeps v (g.only v c);
  fresh = g.fresh;
  once = g.once;
}

pub gains_more : (old mid : List SignedVote) (Is More : SignedVote → Type 0) (x : SignedVote) → GainsOnce old mid Is → (Contains mid x → ⊥) → More x → ((v : SignedVote) → More v → Is v ⊎ (x ≡ v)) → ((v : SignedVote) → Is v → More v) → GainsOnce old (mid ++ x ∷ []) More
gains_more old mid Is More x g new is cases keeps =
    let in_mid : (v : SignedVote) → Contains (old ++ g.gained) v → Contains mid v = λ v c. subst (λ (vs : List SignedVote). Contains vs v) (sym g.behind) c in
    record {
      gained = g.gained ++ x ∷ [];
      behind = ap (λ (vs : List SignedVote). vs ++ x ∷ []) g.behind ∙ append_assoc old g.gained (x ∷ []);
      all = λ v m. elim (cases v m) [
        | inl was ↦ Contains-append_left mid (x ∷ []) v (g.all v was)
        | inr same ↦ subst (Contains (mid ++ x ∷ [])) same (Contains-push mid x)
      ];
      only = λ v c. elim (Contains-push_cases g.gained x v c) [ inl was ↦ keeps v (g.only v was) | inr same ↦ subst More same is ];
      fresh = λ v c o. elim (Contains-push_cases g.gained x v c) [
        | inl was ↦ g.fresh v was o
        | inr same ↦ new (in_mid x (Contains-append_left old g.gained x (subst (Contains old) (sym same) o)))
      ];
      once = all_pairs_push (λ (v w : SignedVote). v ≡ w → ⊥) g.gained x g.once
          (λ k d l same. new (in_mid x (Contains-append_right old g.gained x (subst (Contains g.gained) same (Contains-get_or g.gained k d l)))));
    }

-- ---- by places

more_is : (votes : List SignedVote) (i : ℕ) (x : SignedVote) → i < length votes → x ≡ get_or votes i x → take (i + 1) votes ≡ take i votes ++ x ∷ []
more_is votes i x there is = take_more votes i x there ∙ ap (λ (v : SignedVote). take i votes ++ v ∷ []) (sym is)

-- one of the first i + 1 is one of the first i, or the one at i
pub one_more : (votes : List SignedVote) (i : ℕ) (x : SignedVote) → i < length votes → x ≡ get_or votes i x → (v : SignedVote) → Contains (take (i + 1) votes) v → Contains (take i votes) v ⊎ (x ≡ v)
one_more votes i x there is v c = Contains-push_cases (take i votes) x v (subst (λ (vs : List SignedVote). Contains vs v) (more_is votes i x there is) c)

pub one_less : (votes : List SignedVote) (i : ℕ) (x : SignedVote) → i < length votes → x ≡ get_or votes i x → (v : SignedVote) → Contains (take i votes) v → Contains (take (i + 1) votes) v
one_less votes i x there is v c = subst (λ (vs : List SignedVote). Contains vs v) (sym (more_is votes i x there is)) (Contains-append_left (take i votes) (x ∷ []) v c)

pub this_one : (votes : List SignedVote) (i : ℕ) (x : SignedVote) → i < length votes → x ≡ get_or votes i x → Contains (take (i + 1) votes) x
this_one votes i x there is = subst (λ (vs : List SignedVote). Contains vs x) (sym (more_is votes i x there is)) (Contains-push (take i votes) x)

pub each_over : (old mid votes : List SignedVote) (i : ℕ) (x : SignedVote) → i < length votes → x ≡ get_or votes i x → GainsOnce old mid (Contains (take i votes)) → Contains mid x → GainsOnce old mid (Contains (take (i + 1) votes))
each_over old mid votes i x there is g has =
    gains_over old mid (Contains (take i votes)) (Contains (take (i + 1) votes)) g
    (λ v c. elim (one_more votes i x there is v c) [ inl was ↦ inl was | inr same ↦ inr (subst (Contains mid) same has) ])
    (one_less votes i x there is)

pub each_more : (old mid votes : List SignedVote) (i : ℕ) (x : SignedVote) → i < length votes → x ≡ get_or votes i x → GainsOnce old mid (Contains (take i votes)) → (Contains mid x → ⊥) → GainsOnce old (mid ++ x ∷ []) (Contains (take (i + 1) votes))
each_more old mid votes i x there is g new =
    gains_more old mid (Contains (take i votes)) (Contains (take (i + 1) votes)) x g new (this_one votes i x there is) (one_more votes i x there is) (one_less votes i x there is)

pub bad_more : (committee : List ℕ) (votes bad : List SignedVote) (i : ℕ) (x : SignedVote) → i < length votes → x ≡ get_or votes i x → AreTheBad committee (take i votes) bad → IsBadVote committee x → AreTheBad committee (take (i + 1) votes) (bad ++ x ∷ [])
bad_more committee votes bad i x there is are not_good v = (
  λ c. elim (Contains-push_cases bad x v c) [
    | inl was ↦ (let w = (are v).0 was in (one_less votes i x there is v w.0, w.1))
    | inr same ↦ (subst (Contains (take (i + 1) votes)) same (this_one votes i x there is), subst (IsBadVote committee) same not_good)
  ],
  λ w. elim (one_more votes i x there is v w.0) [
    | inl was ↦ Contains-append_left bad (x ∷ []) v ((are v).1 (was, w.1))
    | inr same ↦ subst (Contains (bad ++ x ∷ [])) same (Contains-push bad x)
  ],
)

pub bad_over : (committee : List ℕ) (votes bad : List SignedVote) (i : ℕ) (x : SignedVote) → i < length votes → x ≡ get_or votes i x → AreTheBad committee (take i votes) bad → (IsBadVote committee x → ⊥) → AreTheBad committee (take (i + 1) votes) bad
bad_over committee votes bad i x there is are good v = (
  λ c. (let w = (are v).0 c in (one_less votes i x there is v w.0, w.1)),
  λ w. elim (one_more votes i x there is v w.0) [
    | inl was ↦ (are v).1 (was, w.1)
    | inr same ↦ absurd (good (subst (IsBadVote committee) (sym same) w.1))
  ],
)

-- ---- views

top_push : (top : ℕ) (votes : List SignedVote) (x : SignedVote) → top_from top (votes ++ x ∷ []) ≡ larger (top_from top votes) x.view
top_push top [] x = refl
top_push top (v ∷ votes) x = top_push (larger top v.view) votes x

pub top_more : (top : ℕ) (votes : List SignedVote) (i : ℕ) (x : SignedVote) → i < length votes → x ≡ get_or votes i x → top_from top (take (i + 1) votes) ≡ larger (top_from top (take i votes)) x.view
top_more top votes i x there is = ap (top_from top) (more_is votes i x there is) ∙ top_push top (take i votes) x
