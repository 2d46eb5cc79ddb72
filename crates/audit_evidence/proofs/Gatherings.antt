-- How what is gathered grows, step by step.
use Rattle.std.proofs.Common.{◌≡◌, ◌↔◌, ◌⊎◌, ◌∙◌, ◌<◌, ◌+◌, ℕ, zero, suc, Bool, List, [], ◌∷◌, ◌++◌, length, take, drop, get_or, Some, Result, Ok, Err, inl, inr, refl, sym, ap, subst, arith}
use Rattle.std.specs.Prelude.{IfErr, IsErrAnd, OnOk}
use Rattle.std.specs.List.{AllPairs, AllZip, Contains}
use Rattle.std.proofs.lemmas.List.{take_more, get_or_default, take-append-drop}
use Rattle.std.proofs.lemmas.List.Elements.{Contains-append_right, Contains-append_left, Contains-append_cases}
use Rattle.blocks.specs.Headers.{Header}
use Rattle.blocks.specs.Genesis.{genesis_of}
use Rattle.certificates.specs.Certificates.{Certificate, vote_of}
use Rattle.certificates.specs.declared.certificate.Endorsement.{Endorsement}
use Rattle.certificates.specs.declared.vote.SignedVote.{SignedVote}
use Rattle.audit_evidence.specs.Sets.{InSome, IsEither}
use Rattle.log_format.specs.EntryText.{Entry, IsEntryOf, own_vote_of}
use Rattle.audit_evidence.specs.declared.refusal.EvidenceRefusal.{EvidenceRefusal}
use Rattle.audit_evidence.specs.declared.refusal.EvidenceRefusal.TheVariants.{Memory, Collision}
use Rattle.audit_evidence.specs.Evidence.{Evidence, IsEvidenceRefusal, IsEvidence, IsEvidenceOf, IsHeaderInEvidence, IsReportOf, IsVoteInEvidence}
use Rattle.audit_evidence.specs.Gathering.{Gathered, Grows, Gains, IsInOrder, IsNone, IsGatheringRefusal, IsUnion, HasOwn, those}
use Rattle.audit_evidence.proofs.GoodVotes.{those_are, those_rise}
use Rattle.certificates.specs.VoteOrder.{IsLowerVote}
use Rattle.audit_evidence.specs.declared.source.SourceReport.{SourceReport}
use Rattle.certificates.specs.Votes.{IsAnswerOn, IsGoodVote}
use Rattle.audit_evidence.specs.Logs.{ReceivedLog, HasHeader, HasVote, IsVoteOf, SpellsEntry, FrameHasHeader, FrameNamesVote, HaveEntries, LogHasHeader, LogNamesVote}

pub on_ok : {A E : Type 0} (r : Result A E) (P Q : Type 0) → (P → Q) → OnOk r P → OnOk r Q
on_ok (Ok a) P Q f p = f p
on_ok (Err e) P Q f p = p

-- ---- one list

pub gained_none : {X : Type 0} (xs : List X) → Gains xs xs IsNone
gained_none xs x = (λ c. inl c, λ w. elim w [ inl c ↦ c | inr n ↦ absurd n ])

-- from nothing to one
pub only_one : {X : Type 0} (old new : List X) (h g : X) → old ≡ [] → h ≡ g → Gains old new (λ x. x ≡ h) → (x : X) → Contains new x ↔ (x ≡ g)
only_one old new h g none same gains x =
    (λ c. elim ((gains x).0 c) [ inl o ↦ absurd (nothing x (subst (λ xs. Contains xs x) none o)) | inr e ↦ e ∙ same ], λ e. (gains x).1 (inr (e ∙ sym same)))
  where
    nothing : {X : Type 0} (x : X) → Contains [] x → ⊥
    nothing x c = let l = c.1 in absurd (omega arith)

-- first these, then those
pub gained_both : {X : Type 0} (a b c : List X) (P Q : X → Type 0) → Gains a b P → Gains b c Q → Gains a c (IsEither P Q)
gained_both a b c P Q g h x = (
  λ i. elim ((h x).0 i) [ inl j ↦ elim ((g x).0 j) [ inl o ↦ inl o | inr p ↦ inr (inl p) ] | inr q ↦ inr (inr q) ],
  λ w. (h x).1 (elim w [ inl o ↦ inl ((g x).1 (inl o)) | inr e ↦ elim e [ inl p ↦ inl ((g x).1 (inr p)) | inr q ↦ inr q ] ]),
)

-- the same said in other words
pub gained_as : {X : Type 0} (a b : List X) (P Q : X → Type 0) → ((x : X) → P x ↔ Q x) → Gains a b P → Gains a b Q
gained_as a b P Q same g x = (
  λ i. elim ((g x).0 i) [ inl o ↦ inl o | inr p ↦ inr ((same x).0 p) ],
  λ w. (g x).1 (elim w [ inl o ↦ inl o | inr q ↦ inr ((same x).1 q) ]),
)

-- ---- what one of a list has

pub only : {A : Type 0} (a b : A) → Contains (a ∷ []) b → a ≡ b
only a b c = go c.0 c.1 c.2
  where
    go : (k : ℕ) → k < 1 → get_or (a ∷ []) k b ≡ b → a ≡ b
    go zero l e = e
    go (suc k) l e = absurd (omega arith)

pub in_none : {A X : Type 0} (Has : A → X → Type 0) (x : X) → InSome Has [] x → ⊥
in_none Has x w = let l = w.1.1 in absurd (omega arith)

pub in_more : {A X : Type 0} (Has : A → X → Type 0) (xs : List A) (a : A) (x : X) → InSome Has (xs ++ a ∷ []) x ↔ (InSome Has xs x ⊎ Has a x)
in_more {A} Has xs a x = (
  λ w. elim (Contains-append_cases xs (a ∷ []) w.0 w.1) [
    | inl i ↦ inl (w.0, i, w.2)
    | inr o ↦ inr (subst (λ (y : A). Has y x) (sym (only a w.0 o)) w.2)
  ],
  λ w. elim w [
    | inl i ↦ (i.0, Contains-append_left xs (a ∷ []) i.0 i.1, i.2)
    | inr h ↦ (a, Contains-append_right xs (a ∷ []) a (0, omega arith, refl), h)
  ],
)

-- what the first i + 1 have is what the first i have, or the next
pub in_take : {A X : Type 0} (Has : A → X → Type 0) (xs : List A) (i : ℕ) (d : A) (x : X) → i < length xs
    → InSome Has (take (i + 1) xs) x ↔ (InSome Has (take i xs) x ⊎ Has (get_or xs i d) x)
in_take Has xs i d x l = subst (λ ys. InSome Has ys x ↔ (InSome Has (take i xs) x ⊎ Has (get_or xs i d) x)) (sym (take_more xs i d l)) (in_more Has (take i xs) (get_or xs i d) x)

-- ---- what is gathered

pub grown_none : (g : Gathered) → Grows g g IsNone IsNone
grown_none g = record { committee = refl; headers = gained_none g.headers; votes = gained_none g.votes }

abbrev pub gathered_from : List ℕ → List Header → List SignedVote → Gathered
gathered_from committee headers votes = record { committee = committee; headers = headers; votes = votes }

pub grown_header : (committee : List ℕ) (hs ks : List Header) (vs : List SignedVote) (g : Gathered) (h : Header) → gathered_from committee hs vs ≡ g
    → Gains hs ks (λ x. x ≡ h) → Grows g (gathered_from committee ks vs) (λ x. x ≡ h) IsNone
grown_header committee hs ks vs g h is gains =
    subst (λ (o : Gathered). Grows o (gathered_from committee ks vs) (λ x. x ≡ h) IsNone) is (record { committee = refl; headers = gains; votes = gained_none vs })

pub grown_vote : (committee : List ℕ) (hs : List Header) (vs ws : List SignedVote) (g : Gathered) (v : SignedVote) → gathered_from committee hs vs ≡ g
    → Gains vs ws (λ x. x ≡ v) → Grows g (gathered_from committee hs ws) IsNone (λ x. x ≡ v)
grown_vote committee hs vs ws g v is gains =
    subst (λ (o : Gathered). Grows o (gathered_from committee hs ws) IsNone (λ x. x ≡ v)) is (record { committee = refl; headers = gained_none hs; votes = gains })

-- what is there already
pub grown_held : (g : Gathered) (h : Header) → Contains g.headers h → Grows g g (λ x. x ≡ h) IsNone
grown_held g h there = record {
  committee = refl;
  headers = λ x. (λ c. inl c, λ w. elim w [ inl c ↦ c | inr e ↦ subst (λ (y : Header). Contains g.headers y) (sym e) there ]);
  votes = gained_none g.votes;
}

-- first these, then those
pub grown_both : (a b c : Gathered) (H I : Header → Type 0) (V W : SignedVote → Type 0) → Grows a b H V → Grows b c I W → Grows a c (IsEither H I) (IsEither V W)
grown_both a b c H I V W g h =
    record { committee = h.committee ∙ g.committee; headers = gained_both _ _ _ H I g.headers h.headers; votes = gained_both _ _ _ V W g.votes h.votes }

-- the same said in other words
pub grown_as : (a b : Gathered) (H I : Header → Type 0) (V W : SignedVote → Type 0) → ((h : Header) → H h ↔ I h) → ((v : SignedVote) → V v ↔ W v)
    → Grows a b H V → Grows a b I W
grown_as a b H I V W hs vs g = record { committee = g.committee; headers = gained_as _ _ H I hs g.headers; votes = gained_as _ _ V W vs g.votes }

-- ---- faults

pub fault_as : (P Q : Header → Type 0) (r : EvidenceRefusal) → ((h : Header) → P h → Q h) → IsEvidenceRefusal P r → IsEvidenceRefusal Q r
fault_as P Q Memory f x = tt
fault_as P Q (Collision h k) f x = (f h x.0, f k x.1, x.2, x.3)

pub if_err : {A E : Type 0} (r : Result A E) (P Q : E → Type 0) → ((e : E) → P e → Q e) → IfErr r P → IfErr r Q
if_err (Ok a) P Q f x = x
if_err (Err e) P Q f x = f e x

-- a fault of a later step is one of all steps
pub fault_later : (a b : Gathered) (H I J : Header → Type 0) (V : SignedVote → Type 0) (r : EvidenceRefusal) → Grows a b H V
    → ((h : Header) → H h → J h) → ((h : Header) → I h → J h) → IsGatheringRefusal b I r → IsGatheringRefusal a J r
fault_later a b H I J V r g f k x =
    fault_as _ _ r (λ h w. elim w [ inl c ↦ elim ((g.headers h).0 c) [ inl o ↦ inl o | inr n ↦ inr (f h n) ] | inr i ↦ inr (k h i) ]) x

-- ---- the parts of an entry

pub two_headers : (e : Entry) (b p h : Header) → b ≡ e.block → p ≡ e.parent → IsEither (λ x. x ≡ b) (λ x. x ≡ p) h ↔ HasHeader e h
two_headers e b p h is_b is_p = (
  λ w. elim w [ inl x ↦ inl (x ∙ is_b) | inr y ↦ inr (y ∙ is_p) ],
  λ w. elim w [ inl x ↦ inl (x ∙ sym is_b) | inr y ↦ inr (y ∙ sym is_p) ],
)

pub own_vote : (replica : ℕ) (e : Entry) (w v : SignedVote) → own_vote_of e replica ≡ Some w → (v ≡ w) ↔ HasOwn replica e v
own_vote replica e w v is = (λ p. is ∙ ap (λ (x : SignedVote). Some x) (sym p), λ p. same (sym p ∙ is))
  where
    same : Some v ≡ Some w → v ≡ w
    same q = cc

pub none_of : {X : Type 0} (x : X) → IsEither IsNone IsNone x ↔ IsNone x
none_of x = (λ w. elim w [ inl n ↦ n | inr n ↦ n ], λ n. inl n)

pub none_first : {X : Type 0} (P : X → Type 0) (x : X) → IsEither IsNone P x ↔ P x
none_first P x = (λ w. elim w [ inl n ↦ absurd n | inr p ↦ p ], λ p. inr p)

pub none_last : {X : Type 0} (P : X → Type 0) (x : X) → IsEither P IsNone x ↔ P x
none_last P x = (λ w. elim w [ inl p ↦ p | inr n ↦ absurd n ], λ p. inl p)

pub same_kind : {X : Type 0} (P : X → Type 0) (x : X) → P x ↔ P x
same_kind P x = (λ p. p, λ p. p)

-- ---- a list, item by item

-- nothing of it yet
pub grown_start : {A B : Type 0} (g : Gathered) (Has : A → Header → Type 0) (Shows : B → SignedVote → Type 0) → Grows g g (InSome Has []) (InSome Shows [])
grown_start g Has Shows =
    grown_as g g IsNone (InSome Has []) IsNone (InSome Shows []) (λ h. (λ n. absurd n, λ w. absurd (in_none Has h w))) (λ v. (λ n. absurd n, λ w. absurd (in_none Shows v w))) (grown_none g)

-- one item more
pub next_votes : {A : Type 0} (Shows : A → SignedVote → Type 0) (xs : List A) (i : ℕ) (d : A) (P : SignedVote → Type 0) (v : SignedVote) → i < length xs
    → P v ↔ Shows (get_or xs i d) v → IsEither (InSome Shows (take i xs)) P v ↔ InSome Shows (take (i + 1) xs) v
next_votes Shows xs i d P v l same =
    let all = in_take Shows xs i d v l in (
      λ w. all.1 (elim w [ inl o ↦ inl o | inr p ↦ inr (same.0 p) ]),
      λ w. elim (all.0 w) [ inl o ↦ inl o | inr p ↦ inr (same.1 p) ],
    )

pub next_headers : {A : Type 0} (Has : A → Header → Type 0) (xs : List A) (i : ℕ) (d : A) (P : Header → Type 0) (h : Header) → i < length xs
    → P h ↔ Has (get_or xs i d) h → IsEither (InSome Has (take i xs)) P h ↔ InSome Has (take (i + 1) xs) h
next_headers Has xs i d P h l same =
    let all = in_take Has xs i d h l in (
      λ w. all.1 (elim w [ inl o ↦ inl o | inr p ↦ inr (same.0 p) ]),
      λ w. elim (all.0 w) [ inl o ↦ inl o | inr p ↦ inr (same.1 p) ],
    )

pub named_vote : (c : Certificate) (d : Endorsement) (w v : SignedVote) → w ≡ vote_of c d → (v ≡ w) ↔ IsVoteOf c d v
named_vote c d w v is = (λ p. p ∙ is, λ p. p ∙ sym is)

-- ---- frames

-- a frame spells one entry, so it has what the entry has
pub frame_has_header : (frame : List ℕ) (e : Entry) (h : Header) → IsEntryOf frame e → ((f : Entry) → IsEntryOf frame f → f ≡ e) → HasHeader e h ↔ FrameHasHeader frame h
frame_has_header frame e h is one = (λ w. (e, is, w), λ w. subst (λ (f : Entry). HasHeader f h) (one w.0 w.1) w.2)

pub frame_names_vote : (replica : ℕ) (frame : List ℕ) (e : Entry) (v : SignedVote) → IsEntryOf frame e → ((f : Entry) → IsEntryOf frame f → f ≡ e)
    → HasVote replica e v ↔ FrameNamesVote replica frame v
frame_names_vote replica frame e v is one = (λ w. (e, is, w), λ w. subst (λ (f : Entry). HasVote replica f v) (one w.0 w.1) w.2)

-- and one that spells none has nothing
pub frame_has_none : (g : Gathered) (replica : ℕ) (frame : List ℕ) → (SpellsEntry frame → ⊥) → Grows g g (FrameHasHeader frame) (FrameNamesVote replica frame)
frame_has_none g replica frame none =
    grown_as g g IsNone (FrameHasHeader frame) IsNone (FrameNamesVote replica frame) (λ h. (λ n. absurd n, λ w. absurd (none (w.0, w.1))))
    (λ v. (λ n. absurd n, λ w. absurd (none (w.0, w.1)))) (grown_none g)

-- ---- how many frames are entries

pub have_one_more : (fs : List (List ℕ)) (f : List ℕ) (n : ℕ) → HaveEntries fs n → SpellsEntry f → HaveEntries (fs ++ f ∷ []) (n + 1)
have_one_more [] f n have is = inl (is, (n, refl, have))
have_one_more (g ∷ fs) f n have is =
    elim have [
      | inl w ↦ inl (w.0, (w.1.0 + 1, ap (λ (x : ℕ). x + 1) w.1.1, have_one_more fs f w.1.0 w.1.2 is))
      | inr w ↦ inr (w.0, have_one_more fs f n w.1 is)
    ]

pub have_no_more : (fs : List (List ℕ)) (f : List ℕ) (n : ℕ) → HaveEntries fs n → (SpellsEntry f → ⊥) → HaveEntries (fs ++ f ∷ []) n
have_no_more [] f n have none = inr (none, have)
have_no_more (g ∷ fs) f n have none =
    elim have [
      | inl w ↦ inl (w.0, (w.1.0, w.1.1, have_no_more fs f w.1.0 w.1.2 none))
      | inr w ↦ inr (w.0, have_no_more fs f n w.1 none)
    ]

pub next_is_entry : (fs : List (List ℕ)) (k n : ℕ) → k < length fs → HaveEntries (take k fs) n → SpellsEntry (get_or fs k []) → HaveEntries (take (k + 1) fs) (n + 1)
next_is_entry fs k n l have is = subst (λ (xs : List (List ℕ)). HaveEntries xs (n + 1)) (sym (take_more fs k [] l)) (have_one_more (take k fs) (get_or fs k []) n have is)

pub next_is_none : (fs : List (List ℕ)) (k n : ℕ) → k < length fs → HaveEntries (take k fs) n → (SpellsEntry (get_or fs k []) → ⊥) → HaveEntries (take (k + 1) fs) n
next_is_none fs k n l have none = subst (λ (xs : List (List ℕ)). HaveEntries xs n) (sym (take_more fs k [] l)) (have_no_more (take k fs) (get_or fs k []) n have none)

-- ---- a list of frames, item by item

-- a fault at the next item is one of the whole list
pub fault_at : {A : Type 0} (a b : Gathered) (Has : A → Header → Type 0) (V : SignedVote → Type 0) (xs : List A) (i : ℕ) (x d : A) (r : EvidenceRefusal) → i < length xs → get_or xs i d ≡ x
    → Grows a b (InSome Has (take i xs)) V → IsGatheringRefusal b (Has x) r → IsGatheringRefusal a (InSome Has xs) r
fault_at {A} a b Has V xs i x d r l is g fault =
    fault_later a b (InSome Has (take i xs)) (Has x) (InSome Has xs) V r g (λ h w. (w.0, among_all w.0 w.1, w.2)) (λ h w. (x, (i, l, at x), w)) fault
  where
    among_all : (y : A) → Contains (take i xs) y → Contains xs y
    among_all y c = subst (λ (zs : List A). Contains zs y) (take-append-drop i xs) (Contains-append_left (take i xs) (drop i xs) y c)

    at : (z : A) → get_or xs i z ≡ x
    at z = get_or_default xs i z d l ∙ is

as_there : {A X : Type 0} (Has : A → X → Type 0) (y z : A) (x : X) → y ≡ z → Has y x ↔ Has z x
as_there Has y z x is = (λ w. subst (λ a. Has a x) is w, λ w. subst (λ a. Has a x) (sym is) w)

-- one item more
pub grown_step : {A : Type 0} (a b c : Gathered) (Has : A → Header → Type 0) (Shows : A → SignedVote → Type 0) (xs : List A) (i : ℕ) (x d : A) → i < length xs → x ≡ get_or xs i d
    → Grows a b (InSome Has (take i xs)) (InSome Shows (take i xs)) → Grows b c (Has x) (Shows x)
    → Grows a c (InSome Has (take (i + 1) xs)) (InSome Shows (take (i + 1) xs))
grown_step a b c Has Shows xs i x d l is g step =
    grown_as a c _ _ _ _ (λ h. next_headers Has xs i d (Has x) h l (as_there Has x (get_or xs i d) h is)) (λ v. next_votes Shows xs i d (Shows x) v l (as_there Shows x (get_or xs i d) v is))
    (grown_both a b c (InSome Has (take i xs)) (Has x) (InSome Shows (take i xs)) (Shows x) g step)

pub handed_on : {A E : Type 0} (r : Result A E) (P : E → Type 0) (e : E) → IsErrAnd r (λ x. x ≡ e) → P e → IfErr r P
handed_on (Err x) P e is p = subst P (sym is) p
handed_on (Ok a) P e is p = tt

-- ---- the whole

no_votes : (vs : List SignedVote) (v : SignedVote) → vs ≡ [] → Contains vs v → ⊥
no_votes vs v none c = let i = subst (λ (ws : List SignedVote). Contains ws v) none c in let l = i.1 in absurd (omega arith)

pub is_union : (committee : List ℕ) (ls : List ReceivedLog) (a b : Gathered) → a.committee ≡ committee → ((h : Header) → Contains a.headers h ↔ (h ≡ genesis_of committee)) → a.votes ≡ []
    → Grows a b (InSome LogHasHeader ls) (InSome LogNamesVote ls) → IsUnion committee ls b
is_union committee ls a b under headers none g =
    record {
      under = g.committee ∙ under;
      headers = λ x. (
        λ c. elim ((g.headers x).0 c) [ inl o ↦ inl ((headers x).0 o) | inr i ↦ inr i ],
        λ w. (g.headers x).1 (elim w [ inl e ↦ inl ((headers x).1 e) | inr i ↦ inr i ]),
      );
      votes = λ x. (
        λ c. elim ((g.votes x).0 c) [ inl o ↦ absurd (no_votes a.votes x none o) | inr i ↦ i ],
        λ i. (g.votes x).1 (inr i),
      );
    }

pub union_has_genesis : (committee : List ℕ) (ls : List ReceivedLog) (g : Gathered) → IsUnion committee ls g → Contains g.headers (genesis_of g.committee)
union_has_genesis committee ls g u = subst (λ (k : List ℕ). Contains g.headers (genesis_of k)) (sym u.under) ((u.headers (genesis_of committee)).1 (inl refl))

-- a vote is in evidence where a log names it and it is good
pub named_and_good : (committee : List ℕ) (ls : List ReceivedLog) (v : SignedVote) → (InSome LogNamesVote ls v × IsGoodVote committee v) ↔ IsVoteInEvidence committee ls v
named_and_good committee ls v = (
  λ w. (
      let log = w.0 in
      let frame = log.2 in
      let entry = frame.2 in
      (log.0, log.1, (frame.0, frame.1, (entry.0, entry.1, (w.1, entry.2))))
      ),
  λ w. (
      let frame = w.2 in
      let entry = frame.2 in
      ((w.0, w.1, (frame.0, frame.1, (entry.0, entry.1, entry.2.1))), entry.2.0)
      ),
)

-- a fault at a source is one of the evidence
pub fault_of_all : (committee : List ℕ) (ls : List ReceivedLog) (a b : Gathered) (i : ℕ) (s d : ReceivedLog) (r : EvidenceRefusal) → ((h : Header) → Contains a.headers h ↔ (h ≡ genesis_of committee)) → i < length ls → get_or ls i d ≡ s
    → Grows a b (InSome LogHasHeader (take i ls)) (InSome LogNamesVote (take i ls)) → IsGatheringRefusal b (LogHasHeader s) r → IsEvidenceRefusal (IsHeaderInEvidence committee ls) r
fault_of_all committee ls a b i s d r headers l is g fault =
    fault_as _ _ r (λ h w. elim w [ inl o ↦ inl ((headers h).0 o) | inr k ↦ inr k ]) (fault_at a b LogHasHeader _ ls i s d r l is g fault)

pub is_evidence : (g h : Gathered) (answers : List Bool) (vs : List SignedVote) (rs : List SourceReport) → h ≡ g → IsInOrder h → Contains g.headers (genesis_of g.committee) → AllZip (IsAnswerOn g.committee) g.votes answers
    → vs ≡ those h.votes answers → IsEvidence (record { committee = h.committee; headers = h.headers; votes = vs; sources = rs })
is_evidence g h answers vs rs is order genesis zip good =
    let zip_h = subst (λ (x : Gathered). AllZip (IsAnswerOn x.committee) x.votes answers) (sym is) zip in
    record {
      headers_rise = order.headers_rise;
      views_fall = order.views_fall;
      votes_rise = subst (AllPairs IsLowerVote) (sym good) (those_rise h.votes answers order.votes_rise);
      genesis = subst (λ (x : Gathered). Contains x.headers (genesis_of x.committee)) (sym is) genesis;
      good = λ v c. ((those_are h.committee h.votes answers zip_h v).0 (subst (λ (xs : List SignedVote). Contains xs v) good c)).1;
    }

-- the good votes of what was gathered are those in evidence
pub evidence_from : (committee : List ℕ) (ls : List ReceivedLog) (g : Gathered) (answers : List Bool) (rs : List SourceReport) (e : Evidence) → IsUnion committee ls g → AllZip (IsAnswerOn committee) g.votes answers → AllZip IsReportOf ls rs
    → e ≡ record { committee = g.committee; headers = g.headers; votes = those g.votes answers; sources = rs } → IsEvidenceOf committee ls e
evidence_from committee ls g answers rs e u zip reports is =
    subst (IsEvidenceOf committee ls) (sym is) (record {
      under = u.under;
      headers = u.headers;
      votes = λ v. (
        λ c. (let w = (those_are committee g.votes answers zip v).0 c in (named_and_good committee ls v).0 ((u.votes v).0 w.0, w.1)),
        λ w. (let named = (named_and_good committee ls v).1 w in (those_are committee g.votes answers zip v).1 ((u.votes v).1 named.0, named.1)),
      );
      reports = reports;
    })

-- ---- reports, one for each source

zip_push : {A B : Type 0} (R : A → B → Type 0) (xs : List A) (ys : List B) (x : A) (y : B) → AllZip R xs ys → R x y → AllZip R (xs ++ x ∷ []) (ys ++ y ∷ [])
zip_push R [] [] x y zip r = (r, tt)
zip_push R [] (b ∷ ys) x y zip r = absurd zip
zip_push R (a ∷ xs) [] x y zip r = absurd zip
zip_push R (a ∷ xs) (b ∷ ys) x y zip r = (zip.0, zip_push R xs ys x y zip.1 r)

pub zip_length : {A B : Type 0} (R : A → B → Type 0) (xs : List A) (ys : List B) → AllZip R xs ys → length ys ≡ length xs
zip_length R [] [] zip = refl
zip_length R [] (y ∷ ys) zip = absurd zip
zip_length R (x ∷ xs) [] zip = absurd zip
zip_length R (x ∷ xs) (y ∷ ys) zip = let k = zip_length R xs ys zip.1 in omega arith

-- one pair more
pub zip_more : {A B : Type 0} (R : A → B → Type 0) (xs : List A) (ys : List B) (i : ℕ) (d : A) (y : B) → i < length xs → AllZip R (take i xs) ys → R (get_or xs i d) y → AllZip R (take (i + 1) xs) (ys ++ y ∷ [])
zip_more {A} R xs ys i d y l zip pair =
    subst (λ (zs : List A). AllZip R zs (ys ++ y ∷ [])) (sym (take_more xs i d l)) (zip_push R (take i xs) ys (get_or xs i d) y zip pair)

pub one_report_more : (ls : List ReceivedLog) (rs : List SourceReport) (i : ℕ) (s : ReceivedLog) (r : SourceReport) → i < length ls → s ≡ get_or ls i s → AllZip IsReportOf (take i ls) rs → IsReportOf s r
    → AllZip IsReportOf (take (i + 1) ls) (rs ++ r ∷ [])
one_report_more ls rs i s r l is zip report = zip_more IsReportOf ls rs i s r l zip (subst (λ (x : ReceivedLog). IsReportOf x r) is report)
