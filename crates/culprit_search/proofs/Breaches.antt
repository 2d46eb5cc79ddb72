-- What the headers behind two votes show.
use Rattle.std.proofs.Common.{◌≡◌, ◌≢◌, ◌<◌, ◌≤◌, ℕ, List, Option, Some, None, sym, ◌∙◌, ap, subst, arith}
use Rattle.std.specs.Prelude.{MatchOption}
use Rattle.std.specs.List.{All, AllPairs, Contains}
use Rattle.std.proofs.lemmas.List.Elements.{All-contains}
use Rattle.blocks.specs.Headers.{Header, HasLowerId, header_id}
use Rattle.blocks.specs.Rules.{IsDoubleVote}
use Rattle.ancestry.proofs.Ids.{apart_in}
use Rattle.certificates.specs.declared.vote.SignedVote.{SignedVote}
use Rattle.audit_evidence.specs.Evidence.{Evidence, IsEvidence, IsNotBelowParent}
use Rattle.verdict_format.specs.declared.parts.Shown.TheVariants.{DoubleVote, LockViolation}
use Rattle.verdict_format.specs.Verdicts.{VotedHeaders}
use Rattle.certificates.specs.Votes.{ballot_of}
use Rattle.audit_commits.specs.Culprits.{BreakARule}
use Rattle.culprit_search.specs.Searches.{IsFoundAt, IsNoViolation, NoneIsAt, ShowsViolation}

-- where ids rise one header at most has an id
pub only_one : (hs : List Header) (id : List ℕ) (view other : ℕ) (h k : Header) → AllPairs HasLowerId hs → IsFoundAt hs id view h → IsFoundAt hs id other k → h ≡ k
only_one hs id view other h k rising (in_h, at_h) (in_k, at_k) = apart_in hs rising h k in_h in_k (at_h.id_is ∙ sym at_k.id_is)

-- none has the id, or the one that has it has another view
pub none_has_id : (hs : List Header) (id : List ℕ) (view : ℕ) → All (λ h. header_id h ≢ id) hs → NoneIsAt hs id view
none_has_id hs id view none h (there, at) = absurd (All-contains (λ x. header_id x ≢ id) hs h none there at.id_is)

pub other_view : (hs : List Header) (id : List ℕ) (view : ℕ) (k : Header) → AllPairs HasLowerId hs → Contains hs k → header_id k ≡ id → k.view ≢ view → NoneIsAt hs id view
other_view hs id view k rising there is other h (in_h, at) =
    let same : h ≡ k = apart_in hs rising h k in_h there (at.id_is ∙ sym is) in
    other (ap (λ (x : Header). x.view) (sym same) ∙ at.view_is)

-- ---- no lock violation

-- the votes are not in order
pub not_later : (e : Evidence) (v w : SignedVote) → w.view ≤ v.view → IsNoViolation e v w
not_later e v w le h (known, broken) = let l = broken.later in absurd (omega arith)

-- the block of the earlier vote is not in evidence
pub no_earlier : (e : Evidence) (v w : SignedVote) → NoneIsAt e.headers v.id v.view → IsNoViolation e v w
no_earlier e v w none h (known, broken) = absurd (none h.earlier (known.earlier, record { id_is = broken.e_id; view_is = broken.e_view }))

-- the header that was found is the one that is shown
the_earlier : (e : Evidence) (v w : SignedVote) (b : Header) (h : VotedHeaders) → IsEvidence e → IsFoundAt e.headers v.id v.view b → ShowsViolation e v w h → h.earlier ≡ b
the_earlier e v w b h is found (known, broken) =
    only_one e.headers v.id v.view v.view h.earlier b is.headers_rise (known.earlier, record { id_is = broken.e_id; view_is = broken.e_view }) found

the_parent : (e : Evidence) (v w : SignedVote) (b : Header) (h : VotedHeaders) → h.earlier ≡ b → ShowsViolation e v w h → IsFoundAt e.headers b.parent b.parent_view h.parent
the_parent e v w b h same (known, broken) =
    subst (λ (x : Header). IsFoundAt e.headers x.parent x.parent_view h.parent) same (known.parent, record { id_is = sym broken.parent.id; view_is = sym broken.parent.view })

-- its parent is not
pub no_parent : (e : Evidence) (v w : SignedVote) (b : Header) → IsEvidence e → IsFoundAt e.headers v.id v.view b → NoneIsAt e.headers b.parent b.parent_view → IsNoViolation e v w
no_parent e v w b is found none h shown = absurd (none h.parent (the_parent e v w b h (the_earlier e v w b h is found shown) shown))

-- the block of the later vote is on a parent that is not older
pub not_older : (e : Evidence) (v w : SignedVote) (b p l : Header) → IsEvidence e → IsFoundAt e.headers v.id v.view b → IsFoundAt e.headers b.parent b.parent_view p → IsFoundAt e.headers w.id w.view l
    → p.parent_view ≤ l.parent_view → IsNoViolation e v w
not_older e v w b p l is found parent later le h shown =
    let has = shown.0 in
    let broken = shown.1 in
    let up = the_parent e v w b h (the_earlier e v w b h is found shown) shown in
    let same_parent = ap (λ (x : Header). x.parent_view) (only_one e.headers b.parent b.parent_view b.parent_view h.parent p is.headers_rise up parent) in
    let same_later = ap (λ (x : Header). x.parent_view)
    (only_one e.headers w.id w.view w.view h.later l is.headers_rise (has.later, record { id_is = broken.w_id; view_is = broken.w_view }) later) in
    let older = broken.older_parent in
    absurd (omega arith)

-- the earlier vote is not above the parent of the later one's block
pub too_old : (e : Evidence) (v w : SignedVote) (l : Header) → IsEvidence e → IsFoundAt e.headers w.id w.view l → v.view ≤ l.parent_view → IsNoViolation e v w
too_old e v w l is later le h (known, broken) =
    let same_later = ap (λ (x : Header). x.parent_view)
    (only_one e.headers w.id w.view w.view h.later l is.headers_rise (known.later, record { id_is = broken.w_id; view_is = broken.w_view }) later) in
    let first = All-contains IsNotBelowParent e.headers h.earlier is.views_fall known.earlier in
    let second = All-contains IsNotBelowParent e.headers h.parent is.views_fall known.parent in
    let named = broken.parent.view in
    let voted = broken.e_view in
    let older = broken.older_parent in
    absurd (omega arith)

-- these headers show one
pub violation : (e : Evidence) (v w : SignedVote) (b p l : Header) → v.view < w.view → IsFoundAt e.headers v.id v.view b → IsFoundAt e.headers b.parent b.parent_view p → IsFoundAt e.headers w.id w.view l
    → l.parent_view < p.parent_view → ShowsViolation e v w (record { earlier = b; parent = p; later = l })
violation e v w b p l less found parent later older = (
  record { earlier = found.0; parent = parent.0; later = later.0 },
  record {
    e_id = found.1.id_is;
    e_view = found.1.view_is;
    parent = record { id = sym parent.1.id_is; view = sym parent.1.view_is };
    w_id = later.1.id_is;
    w_view = later.1.view_is;
    later = less;
    older_parent = older;
  },
)

-- ---- no rule broken

pub breaks_none : (e : Evidence) (v w : SignedVote) → (IsDoubleVote (ballot_of v) (ballot_of w) → ⊥) → IsNoViolation e v w → BreakARule e v w → ⊥
breaks_none e v w no_double no_violation (DoubleVote, shown) = no_double shown
breaks_none e v w no_double no_violation (LockViolation h, shown) = no_violation h shown

-- where the block of the later vote is not in evidence
pub no_later : (e : Evidence) (v w : SignedVote) → NoneIsAt e.headers w.id w.view → IsNoViolation e v w
no_later e v w none h (known, broken) = absurd (none h.later (known.later, record { id_is = broken.w_id; view_is = broken.w_view }))

-- ---- clauses on what was found

pub none_gives : {A : Type 0} (o : Option A) (P : Type 0) (Q : A → Type 0) → o ≡ None → P → MatchOption o P Q
none_gives None P Q e p = p
none_gives (Some x) P Q e p = absurd cc
