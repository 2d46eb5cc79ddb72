-- Votes that stand with the answers to their checks, and which are new.
use Rattle.std.proofs.Common.{◌≡◌, ◌↔◌, ◌⊎◌, ◌∙◌, ◌<◌, ◌+◌, ◌++◌, ◌∷◌, ℕ, List, [], length, take, get_or, inl, inr, refl, sym, ap, subst, arith}
use Rattle.std.specs.List.{All, AllPairs, Contains}
use Rattle.std.proofs.lemmas.List.{take_more}
use Rattle.std.proofs.lemmas.List.Elements.{Contains-append_right, Contains-append_left, Contains-append_cases}
use Rattle.blocks.specs.Genesis.{genesis_of}
use Rattle.blocks.specs.Headers.{Header, HasLowerId}
use Rattle.certificates.specs.Votes.{IsGoodVote}
use Rattle.certificates.specs.VoteOrder.{IsLowerVote}
use Rattle.certificates.specs.declared.vote.SignedVote.{SignedVote}
use Rattle.audit_evidence.specs.Evidence.{Evidence, IsEvidence, IsNotBelowParent}
use Rattle.audit_evidence.specs.Gathering.{Gains, Gathered, Grows, IsNone}
use Rattle.audit_evidence.specs.Sets.{IsEither}
use Rattle.audit_evidence.specs.declared.source.SourceReport.{SourceReport}
use Rattle.audit_evidence.proofs.Absorbing.{contains_more, contains_take}
use Rattle.audit_evidence.proofs.Gatherings.{grown_both}
use Rattle.watch_collector.specs.Growing.{AreBadAmong, AreTheNewOf, IsBadVote, IsJudged, IsShownOf}

nothing : {X : Type 0} (x : X) → Contains [] x → ⊥
nothing x c = let l = c.1 in absurd (omega arith)

none_in : (vs : List SignedVote) (v : SignedVote) → vs ≡ [] → Contains vs v → ⊥
none_in vs v none c = nothing v (subst (λ (ws : List SignedVote). Contains ws v) none c)

-- ---- which are good

pub judged_first : (committee : List ℕ) (headers : List Header) (good bad : List SignedVote) → Contains headers (genesis_of committee) → good ≡ [] → bad ≡ [] → IsJudged committee headers good bad
judged_first committee headers good bad genesis no_good no_bad = record {
  genesis = genesis;
  all_good = λ v c. absurd (none_in good v no_good c);
  none_good = λ v c. absurd (none_in bad v no_bad c);
}

pub judged_header : (committee : List ℕ) (headers more : List Header) (good bad : List SignedVote) (h : Header) → IsJudged committee headers good bad → Gains headers more (λ k. k ≡ h) → IsJudged committee more good bad
judged_header committee headers more good bad h judged gains = record {
  genesis = (gains (genesis_of committee)).1 (inl judged.genesis);
  all_good = judged.all_good;
  none_good = judged.none_good;
}

pub judged_good : (committee : List ℕ) (headers : List Header) (good more bad : List SignedVote) (v : SignedVote) → IsJudged committee headers good bad → Gains good more (λ w. w ≡ v) → IsGoodVote committee v → IsJudged committee headers more bad
judged_good committee headers good more bad v judged gains is = record {
  genesis = judged.genesis;
  all_good = λ w c. elim ((gains w).0 c) [ inl o ↦ judged.all_good w o | inr e ↦ subst (IsGoodVote committee) (sym e) is ];
  none_good = judged.none_good;
}

pub judged_bad : (committee : List ℕ) (headers : List Header) (good bad more : List SignedVote) (v : SignedVote) → IsJudged committee headers good bad → Gains bad more (λ w. w ≡ v) → IsBadVote committee v → IsJudged committee headers good more
judged_bad committee headers good bad more v judged gains none = record {
  genesis = judged.genesis;
  all_good = judged.all_good;
  none_good = λ w c. elim ((gains w).0 c) [ inl o ↦ judged.none_good w o | inr e ↦ λ is. none (subst (IsGoodVote committee) e is) ];
}

-- ---- votes in two lists

pub in_both : (good bad : List SignedVote) (v : SignedVote) → Contains (good ++ bad) v ↔ (Contains good v ⊎ Contains bad v)
in_both good bad v = (λ c. Contains-append_cases good bad v c, λ w. elim w [ inl g ↦ Contains-append_left good bad v g | inr b ↦ Contains-append_right good bad v b ])

pub gained_first : (good more bad : List SignedVote) (P : SignedVote → Type 0) → Gains good more P → Gains (good ++ bad) (more ++ bad) P
gained_first good more bad P gains v = (
  λ c. elim ((in_both more bad v).0 c) [
    | inl m ↦ elim ((gains v).0 m) [ inl o ↦ inl ((in_both good bad v).1 (inl o)) | inr p ↦ inr p ]
    | inr b ↦ inl ((in_both good bad v).1 (inr b))
  ],
  λ w. (in_both more bad v).1 (elim w [
    | inl o ↦ elim ((in_both good bad v).0 o) [ inl g ↦ inl ((gains v).1 (inl g)) | inr b ↦ inr b ]
    | inr p ↦ inl ((gains v).1 (inr p))
  ]),
)

pub gained_second : (good bad more : List SignedVote) (P : SignedVote → Type 0) → Gains bad more P → Gains (good ++ bad) (good ++ more) P
gained_second good bad more P gains v = (
  λ c. elim ((in_both good more v).0 c) [
    | inl g ↦ inl ((in_both good bad v).1 (inl g))
    | inr m ↦ elim ((gains v).0 m) [ inl o ↦ inl ((in_both good bad v).1 (inr o)) | inr p ↦ inr p ]
  ],
  λ w. (in_both good more v).1 (elim w [
    | inl o ↦ elim ((in_both good bad v).0 o) [ inl g ↦ inl g | inr b ↦ inr ((gains v).1 (inl b)) ]
    | inr p ↦ inr ((gains v).1 (inr p))
  ]),
)

-- ---- which are new

pub new_first : (held new : List SignedVote) → new ≡ [] → AreTheNewOf held [] new
new_first held new none = record {
  of = λ v c. absurd (none_in new v none c);
  none_held = λ v c h. none_in new v none c;
  all = λ v c. absurd (nothing v c);
}

module _ (held votes new : List SignedVote) (i : ℕ) (x : SignedVote) (l : i < length votes) (is : x ≡ get_or votes i x) (so_far : AreTheNewOf held (take i votes) new) where
  -- one that is held already
  pub old_more : Contains held x → AreTheNewOf held (take (i + 1) votes) new
  old_more there = record {
    of = λ v c. (contains_take votes i x v l is).0 (inl (so_far.of v c));
    none_held = so_far.none_held;
    all = λ v c. elim ((contains_take votes i x v l is).1 c) [ inl before ↦ so_far.all v before | inr same ↦ inl (subst (λ (w : SignedVote). Contains held w) (sym same) there) ];
  }

  -- one that is not
  pub new_more : (more : List SignedVote) (y : SignedVote) → y ≡ x → more ≡ new ++ y ∷ [] → (Contains held x → ⊥) → AreTheNewOf held (take (i + 1) votes) more
  new_more more y same added apart =
      let k : (v : SignedVote) → Contains more v ↔ IsEither (Contains new) (λ w. w ≡ x) v = λ v. last more y same added v in
      record {
        of = λ v c. (contains_take votes i x v l is).0 (elim ((k v).0 c) [ inl before ↦ inl (so_far.of v before) | inr e ↦ inr e ]);
        none_held = λ v c h. elim ((k v).0 c) [ inl before ↦ so_far.none_held v before h | inr e ↦ apart (subst (λ (w : SignedVote). Contains held w) e h) ];
        all = λ v c. elim ((contains_take votes i x v l is).1 c) [
          | inl before ↦ elim (so_far.all v before) [ inl h ↦ inl h | inr n ↦ inr ((k v).1 (inl n)) ]
          | inr e ↦ inr ((k v).1 (inr e))
        ];
      }
    where
      last : (more : List SignedVote) (y : SignedVote) → y ≡ x → more ≡ new ++ y ∷ [] → (v : SignedVote) → Contains more v ↔ IsEither (Contains new) (λ w. w ≡ x) v
      last more y same added v =
          let e : more ≡ new ++ x ∷ [] = added ∙ ap (λ (w : SignedVote). new ++ w ∷ []) same in
          let m = contains_more new x v in
          (λ c. m.1 (subst (λ (ws : List SignedVote). Contains ws v) e c), λ w. subst (λ (ws : List SignedVote). Contains ws v) (sym e) (m.0 w))

-- ---- how many are bad

bad_push : (committee : List ℕ) (vs : List SignedVote) (v : SignedVote) (n : ℕ) → AreBadAmong committee vs n → IsBadVote committee v → AreBadAmong committee (vs ++ v ∷ []) (n + 1)
bad_push committee [] v n so_far bad = inr (bad, (n, refl, so_far))
bad_push committee (x ∷ vs) v n (inl w) bad = inl (w.0, bad_push committee vs v n w.1 bad)
bad_push committee (x ∷ vs) v n (inr w) bad = inr (w.0, (w.1.0 + 1, ap (λ (k : ℕ). k + 1) w.1.1, bad_push committee vs v w.1.0 w.1.2 bad))

good_push : (committee : List ℕ) (vs : List SignedVote) (v : SignedVote) (n : ℕ) → AreBadAmong committee vs n → IsGoodVote committee v → AreBadAmong committee (vs ++ v ∷ []) n
good_push committee [] v n so_far good = inl (good, so_far)
good_push committee (x ∷ vs) v n (inl w) good = inl (w.0, good_push committee vs v n w.1 good)
good_push committee (x ∷ vs) v n (inr w) good = inr (w.0, (w.1.0, w.1.1, good_push committee vs v w.1.0 w.1.2 good))

module _ (committee : List ℕ) (votes : List SignedVote) (i n : ℕ) (x : SignedVote) (l : i < length votes) (is : x ≡ get_or votes i x) (so_far : AreBadAmong committee (take i votes) n) where
  next_vote : take (i + 1) votes ≡ take i votes ++ x ∷ []
  next_vote = take_more votes i x l ∙ ap (λ (y : SignedVote). take i votes ++ y ∷ []) (sym is)

  pub bad_more : IsBadVote committee x → AreBadAmong committee (take (i + 1) votes) (n + 1)
  bad_more bad = subst (λ (vs : List SignedVote). AreBadAmong committee vs (n + 1)) (sym next_vote) (bad_push committee (take i votes) x n so_far bad)

  pub good_more : IsGoodVote committee x → AreBadAmong committee (take (i + 1) votes) n
  good_more good = subst (λ (vs : List SignedVote). AreBadAmong committee vs n) (sym next_vote) (good_push committee (take i votes) x n so_far good)

-- ---- what it shows

pub shown : (committee under : List ℕ) (headers known : List Header) (good votes bad : List SignedVote) (sources : List SourceReport) → IsJudged committee known good bad → under ≡ committee → headers ≡ known → votes ≡ good
    → AllPairs HasLowerId known → All IsNotBelowParent known → AllPairs IsLowerVote good → IsEvidence (record { committee = under; headers = headers; votes = votes; sources = sources })
shown committee under headers known good votes bad sources judged same_committee same are rise fall order = record {
  headers_rise = subst (AllPairs HasLowerId) (sym same) rise;
  views_fall = subst (λ (hs : List Header). All IsNotBelowParent hs) (sym same) fall;
  votes_rise = subst (AllPairs IsLowerVote) (sym are) order;
  genesis = subst (λ (hs : List Header). Contains hs (genesis_of under)) (sym same) (subst (λ (k : List ℕ). Contains known (genesis_of k)) (sym same_committee) judged.genesis);
  good = λ v c. subst (λ (k : List ℕ). IsGoodVote k v) (sym same_committee) (judged.all_good v (subst (λ (vs : List SignedVote). Contains vs v) are c));
}

pub shows : (g : Gathered) (good bad votes : List SignedVote) (headers : List Header) (under : List ℕ) (sources : List SourceReport) (e : Evidence) → IsJudged g.committee g.headers good bad → g.votes ≡ good ++ bad → under ≡ g.committee → headers ≡ g.headers → votes ≡ good
    → e ≡ record { committee = under; headers = headers; votes = votes; sources = sources } → IsShownOf g sources e
shows g good bad votes headers under sources e judged both same_committee same are made =
    subst (IsShownOf g sources) (sym made) (record {
      under = same_committee;
      headers = same;
      votes = λ v. (
        λ c. (let there = subst (λ (vs : List SignedVote). Contains vs v) are c in
            (subst (λ (vs : List SignedVote). Contains vs v) (sym both) ((in_both good bad v).1 (inl there)), judged.all_good v there)),
        λ w. subst (λ (vs : List SignedVote). Contains vs v) (sym are)
            (elim ((in_both good bad v).0 (subst (λ (vs : List SignedVote). Contains vs v) both w.0)) [ inl there ↦ there | inr b ↦ absurd (judged.none_good v b w.1) ]),
      );
      reports = refl;
    })

-- headers were added, and of some votes those that are new
pub grown_new : (a b c : Gathered) (headers : List Header) (votes new : List SignedVote) → Grows a b (Contains headers) IsNone → Grows b c IsNone (Contains new) → AreTheNewOf a.votes votes new → Grows a c (Contains headers) (Contains votes)
grown_new a b c headers votes new first second are =
    let both = grown_both a b c (Contains headers) IsNone IsNone (Contains new) first second in
    record {
      committee = both.committee;
      headers = λ h. (
        λ m. elim ((both.headers h).0 m) [ inl o ↦ inl o | inr w ↦ elim w [ inl i ↦ inr i | inr n ↦ absurd n ] ],
        λ w. (both.headers h).1 (elim w [ inl o ↦ inl o | inr i ↦ inr (inl i) ]),
      );
      votes = λ v. (
        λ m. elim ((both.votes v).0 m) [ inl o ↦ inl o | inr w ↦ elim w [ inl n ↦ absurd n | inr i ↦ inr (are.of v i) ] ],
        λ w. (both.votes v).1 (elim w [ inl o ↦ inl o | inr i ↦ elim (are.all v i) [ inl o ↦ inl o | inr n ↦ inr (inr n) ] ]),
      );
    }
