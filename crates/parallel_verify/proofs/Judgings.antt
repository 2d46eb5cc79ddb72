-- What is found of a log.
use Rattle.std.proofs.Common.{◌≡◌, ◌↔◌, ◌∙◌, ◌<◌, ◌≤◌, ◌+◌, ◌++◌, ℕ, Bool, true, false, List, [], ◌∷◌, length, take, get_or, inl, inr, refl, sym, ap, subst, arith, length-append}
use Rattle.std.specs.Prelude.{IsTrue}
use Rattle.std.specs.List.{AllPairs, AllZip, Contains}
use Rattle.std.proofs.lemmas.Bool.{false≢true}
use Rattle.std.proofs.lemmas.List.{get_or-take, get_or_default, length-take-le}
use Rattle.std.proofs.lemmas.List.Elements.{Contains-append_cases, Contains-append_left, Contains-append_right}
use Rattle.std.proofs.lemmas.List.Quantifiers.{all_pairs_push}
use Rattle.blocks.specs.Genesis.{genesis_of}
use Rattle.certificates.specs.VoteOrder.{IsLowerVote}
use Rattle.certificates.specs.Votes.{IsAnswerOn, IsGoodVote}
use Rattle.certificates.specs.declared.vote.SignedVote.{SignedVote}
use Rattle.log_format.specs.declared.status.Status.TheVariants.{Whole}
use Rattle.audit_evidence.specs.Evidence.{IsReportOf}
use Rattle.audit_evidence.specs.declared.source.SourceReport.{SourceReport}
use Rattle.audit_evidence.specs.Gathering.{Gains, Gathered, Grows, IsListingOf}
use Rattle.audit_evidence.specs.Logs.{HaveEntries, LogNamesVote, ReceivedLog}
use Rattle.audit_evidence.specs.Sets.{InSome}
use Rattle.audit_evidence.proofs.Gatherings.{only, zip_length}
use Rattle.audit_evidence.proofs.NamedVotes.{contains_next}
use Rattle.blocks.specs.Headers.{Header}
use Rattle.parallel_verify.specs.JudgedSources.{AreAllKept, AreBadAmong, AreCounted, IsKept, IsSound, NamesGoodVote, SeparatesBad}
use Rattle.parallel_verify.specs.Parts.{TellsSteps}
use Rattle.parallel_verify.proofs.Joinings.{zip_at}

pub nothing_in : {X : Type 0} (xs : List X) (x : X) → xs ≡ [] → Contains xs x → ⊥
nothing_in {X} xs x none c = let i = subst (λ (ys : List X). Contains ys x) none c in let l = i.1 in absurd (omega arith)

-- ---- those that are not good

pub none_bad : (committee : List ℕ) (votes bad : List SignedVote) → votes ≡ [] → bad ≡ [] → AreBadAmong committee votes bad
none_bad committee votes bad no_votes none = record {
  not_good = λ v c. absurd (nothing_in bad v none c);
  rest_good = λ v c. absurd (nothing_in votes v no_votes c);
}

-- one vote more
pub bad_next : (committee : List ℕ) (votes old new : List SignedVote) (i : ℕ) (x : SignedVote) (answer : Bool) → i < length votes → x ≡ get_or votes i x → IsAnswerOn committee x answer
    → AreBadAmong committee (take i votes) old → Gains old new (λ v. (answer ≡ false) × (v ≡ x)) → AreBadAmong committee (take (i + 1) votes) new
bad_next committee votes old new i x answer l is answers so_far step =
    record {
      not_good = λ v c good. elim ((step v).0 c) [
        | inl o ↦ so_far.not_good v o good
        | inr w ↦ false≢true (sym w.0 ∙ answers.1 (subst (IsGoodVote committee) w.1 good))
      ];
      rest_good = λ v c not. elim ((contains_next votes i x v l is).1 c) [
        | inl o ↦ so_far.rest_good v o (λ b. not ((step v).1 (inl b)))
        | inr e ↦ good_if answer answers v e (λ no. not ((step v).1 (inr (no, e))))
      ];
    }
  where
    good_if : (b : Bool) → IsAnswerOn committee x b → (v : SignedVote) → v ≡ x → (b ≡ false → ⊥) → IsGoodVote committee v
    good_if true says v e unlike = subst (IsGoodVote committee) (sym e) (says.0 refl)
    good_if false says v e unlike = absurd (unlike refl)

pub answer_at : (committee : List ℕ) (votes : List SignedVote) (answers : List Bool) (k : ℕ) (x : SignedVote) (d : Bool) → k < length votes → x ≡ get_or votes k x → AllZip (IsAnswerOn committee) votes answers
    → IsAnswerOn committee x (get_or answers k d)
answer_at committee votes answers k x d l is zip =
    subst (λ (v : SignedVote). IsAnswerOn committee v (get_or answers k d)) (sym is) (zip_at (IsAnswerOn committee) votes answers k x d zip (omega (arith, zip_length (IsAnswerOn committee) votes answers zip)))

-- the answers are those to the votes that were named
pub answered : (committee named : List ℕ) (votes shown : List SignedVote) (answers given : List Bool) → committee ≡ named → shown ≡ votes → given ≡ answers → AllZip (IsAnswerOn named) shown answers → AllZip (IsAnswerOn committee) votes given
answered committee named votes shown answers given is same copied zip =
    subst (λ (k : List ℕ). AllZip (IsAnswerOn k) votes given) (sym is)
    (subst (λ (vs : List SignedVote). AllZip (IsAnswerOn named) vs given) same (subst (AllZip (IsAnswerOn named) shown) (sym copied) zip))

-- .. of votes that logs name
pub separated : (committee : List ℕ) (logs : List ReceivedLog) (votes bad : List SignedVote) → ((v : SignedVote) → Contains votes v ↔ InSome LogNamesVote logs v) → AreBadAmong committee votes bad
    → (l : ReceivedLog) → Contains logs l → SeparatesBad committee l bad
separated committee logs votes bad named are l has v names = (λ not. are.rest_good v ((named v).1 (l, has, names)) not, λ good b. are.not_good v b good)

-- ---- those that are kept

pub kept_none : (votes bad : List SignedVote) → votes ≡ [] → AreCounted (IsKept votes bad) 0
kept_none votes bad none = record {
  votes = [];
  rising = λ i j d l m. absurd (omega arith);
  exact = λ v. (λ c. absurd (nothing_in [] v refl c), λ w. absurd (nothing_in votes v none w.0));
  count = refl;
}

module _ (votes bad : List SignedVote) (rise : AllPairs IsLowerVote votes) (i : ℕ) (x : SignedVote) (l : i < length votes) (is : x ≡ get_or votes i x) where
  before : (v : SignedVote) → Contains (take i votes) v → IsLowerVote v x
  before v c =
      let below : c.0 < i = omega (arith, c.1, length-take-le i votes (omega arith)) in
      let at : get_or votes c.0 x ≡ v = get_or_default votes c.0 x v (omega arith) ∙ sym (get_or-take i votes c.0 v below) ∙ c.2 in
      subst (λ (w : SignedVote). IsLowerVote w x) at (subst (λ (w : SignedVote). IsLowerVote (get_or votes c.0 x) w) (sym is) (rise c.0 i x below l))

  -- one more that is kept
  pub kept_next : (n : ℕ) → (Contains bad x → ⊥) → AreCounted (IsKept (take i votes) bad) n → AreCounted (IsKept (take (i + 1) votes) bad) (n + 1)
  kept_next n not so_far =
      let found = so_far.votes in
      record {
        votes = found ++ x ∷ [];
        rising = all_pairs_push IsLowerVote found x so_far.rising (λ k d m. before (get_or found k d) ((so_far.exact (get_or found k d)).0 (k, m, get_or_default found k (get_or found k d) d m)).0);
        exact = λ v.
            let both = contains_next votes i x v l is in (
              λ c. elim (Contains-append_cases found (x ∷ []) v c) [ inl o ↦ (let w = (so_far.exact v).0 o in (both.0 (inl w.0), w.1)) | inr e ↦ (both.0 (inr (sym (only x v e))), λ b. not (subst (λ (w : SignedVote). Contains bad w) (sym (only x v e)) b)) ],
              λ w. elim (both.1 w.0) [ inl o ↦ Contains-append_left found (x ∷ []) v ((so_far.exact v).1 (o, w.1)) | inr e ↦ Contains-append_right found (x ∷ []) v (0, omega arith, sym e) ],
            );
        count = omega (arith, so_far.count, length-append found (x ∷ []));
      }

  -- .. and one that is not
  pub kept_same : (n : ℕ) → Contains bad x → AreCounted (IsKept (take i votes) bad) n → AreCounted (IsKept (take (i + 1) votes) bad) n
  kept_same n there so_far = record {
    votes = so_far.votes;
    rising = so_far.rising;
    exact = λ v.
        let both = contains_next votes i x v l is in (
          λ c. (let w = (so_far.exact v).0 c in (both.0 (inl w.0), w.1)),
          λ w. elim (both.1 w.0) [ inl o ↦ (so_far.exact v).1 (o, w.1) | inr e ↦ absurd (w.1 (subst (λ (y : SignedVote). Contains bad y) (sym e) there)) ],
        );
    count = so_far.count;
  }

  pub all_next : (n : ℕ) → (Contains bad x → ⊥) → (n ≡ i) ↔ AreAllKept (take i votes) bad → (n + 1 ≡ i + 1) ↔ AreAllKept (take (i + 1) votes) bad
  all_next n not so_far = (
    λ same v c. elim ((contains_next votes i x v l is).1 c) [ inl o ↦ so_far.0 (omega (arith, same)) v o | inr e ↦ λ b. not (subst (λ (w : SignedVote). Contains bad w) e b) ],
    λ all. (let so : n ≡ i = so_far.1 (λ v c. all v ((contains_next votes i x v l is).0 (inl c))) in omega (arith, so)),
  )

  pub all_same : (n : ℕ) → Contains bad x → n ≤ i → (n ≡ i + 1) ↔ AreAllKept (take (i + 1) votes) bad
  all_same n there few = (λ same. absurd (omega (arith, same, few)), λ all. absurd (all x ((contains_next votes i x x l is).0 (inr refl)) there))

-- ---- a log

-- the votes that are listed are those of a part
pub listed_votes : (H : Header → Type 0) (votes : List SignedVote) (a b listing : Gathered) → a.votes ≡ [] → Grows a b H (Contains votes) → IsListingOf b listing → (v : SignedVote) → Contains listing.votes v ↔ Contains votes v
listed_votes H votes a b listing none grows is v = (
  λ c. elim ((grows.votes v).0 ((is.votes v).0 c)) [ inl o ↦ absurd (nothing_in a.votes v none o) | inr n ↦ n ],
  λ n. (is.votes v).1 ((grows.votes v).1 (inr n)),
)

-- of frames so many are entries, and no other number
pub one_count : (fs : List (List ℕ)) (n m : ℕ) → HaveEntries fs n → HaveEntries fs m → n ≡ m
one_count [] n m a b = a ∙ sym b
one_count (f ∷ fs) n m a b =
    elim a [
      | inl x ↦ elim b [
        | inl y ↦ x.1.1 ∙ ap (λ (k : ℕ). k + 1) (one_count fs x.1.0 y.1.0 x.1.2 y.1.2) ∙ sym y.1.1
        | inr y ↦ absurd (y.0 x.0)
      ]
      | inr x ↦ elim b [
        | inl y ↦ absurd (x.0 y.0)
        | inr y ↦ one_count fs n m x.1 y.1
      ]
    ]

module _ (committee : List ℕ) (l : ReceivedLog) (votes bad : List SignedVote) (report : SourceReport) (separates : SeparatesBad committee l bad) (exact : (v : SignedVote) → Contains votes v ↔ LogNamesVote l v) (told : IsReportOf l report) where
  -- those that are kept are the good ones
  pub good_counted : (n : ℕ) → AreCounted (IsKept votes bad) n → AreCounted (NamesGoodVote committee l) n
  good_counted n counted = record {
    votes = counted.votes;
    rising = counted.rising;
    exact = λ v. (
      λ c. (let w = (counted.exact v).0 c in let named = (exact v).0 w.0 in (named, (separates v named).0 w.1)),
      λ w. (counted.exact v).1 ((exact v).1 w.0, (separates v w.0).1 w.1),
    );
    count = counted.count;
  }

  all_entries : report.entries ≡ report.frames → HaveEntries l.frames (length l.frames)
  all_entries same = subst (HaveEntries l.frames) (same ∙ told.count) told.entries

  pub entries_all : HaveEntries l.frames (length l.frames) → report.entries ≡ report.frames
  entries_all all = one_count l.frames report.entries (length l.frames) told.entries all ∙ sym told.count

  pub soundness : (n : ℕ) (sound are_legal has_voted : Bool) → (report.entries ≡ report.frames → TellsSteps (genesis_of committee) l.frames are_legal has_voted) → (n ≡ length votes) ↔ AreAllKept votes bad
      → IsTrue sound ↔ ((report.status ≡ Whole) × (report.entries ≡ report.frames) × (n ≡ length votes) × IsTrue are_legal) → IsTrue sound ↔ IsSound committee l
  soundness n sound are_legal has_voted steps all is = (
    λ t. (let w = is.0 t in record {
      whole = sym told.status ∙ w.0;
      entries = all_entries w.1;
      good = λ v n. (separates v n).0 (all.0 w.2 v ((exact v).1 n));
      legal = (steps w.1).legal.0 w.3;
    }),
    λ s. (let same = entries_all s.entries in is.1 (told.status ∙ s.whole, same, all.1 (λ v c. let n = (exact v).0 c in (separates v n).1 (s.good v n)), (steps same).legal.1 s.legal)),
  )
