-- Votes, one by one and by certificates.
use Rattle.std.proofs.Common.{◌≡◌, ◌↔◌, ◌⊎◌, ◌∙◌, ◌<◌, ◌+◌, ℕ, zero, suc, List, [], ◌∷◌, ◌++◌, length, take, get_or, inl, inr, refl, sym, ap, subst, arith, Result, Ok, Err}
use Rattle.std.specs.Prelude.{IfOk}
use Rattle.std.specs.List.{Contains}
use Rattle.std.proofs.lemmas.List.{append-nil, append_assoc, get_or-map, get_or_default, length-map, same_lists, take_more}
use Rattle.std.proofs.lemmas.List.Elements.{Contains-append_right, Contains-append_left, Contains-append_cases}
use Rattle.certificates.specs.Certificates.{Certificate, nth_endorsement, vote_of}
use Rattle.certificates.specs.declared.certificate.Endorsement.{Endorsement}
use Rattle.certificates.specs.declared.vote.SignedVote.{SignedVote}
use Rattle.blocks.specs.Headers.{Header}
use Rattle.audit_evidence.specs.Evidence.{IsHeaderInEvidence}
use Rattle.audit_evidence.specs.Gathering.{CertificateHas, Gains, Gathered, Grows, IsListingOf, IsNone, IsUnion}
use Rattle.audit_evidence.specs.Logs.{ReceivedLog}
use Rattle.audit_evidence.specs.NamedVotes.{AreSame, all_votes, certificate_votes, joined}
use Rattle.audit_evidence.specs.Sets.{IsEither}
use Rattle.audit_evidence.proofs.Gatherings.{gained_none, gathered_from, grown_as, grown_both, none_of, only}

-- ---- lists that grow

-- what is gained in front of others
pub gained_before : (old new rest : List SignedVote) (P : SignedVote → Type 0) → Gains old new P → Gains (old ++ rest) (new ++ rest) P
gained_before old new rest P g v = (
  λ c. elim (Contains-append_cases new rest v c) [
    | inl n ↦ elim ((g v).0 n) [ inl o ↦ inl (Contains-append_left old rest v o) | inr p ↦ inr p ]
    | inr r ↦ inl (Contains-append_right old rest v r)
  ],
  λ w. elim w [
    | inl c ↦ elim (Contains-append_cases old rest v c) [ inl o ↦ Contains-append_left new rest v ((g v).1 (inl o)) | inr r ↦ Contains-append_right new rest v r ]
    | inr p ↦ Contains-append_left new rest v ((g v).1 (inr p))
  ],
)

-- what is gained behind others
pub gained_behind : (xs more : List SignedVote) → Gains xs (xs ++ more) (Contains more)
gained_behind xs more v = (
  λ c. Contains-append_cases xs more v c,
  λ w. elim w [ inl c ↦ Contains-append_left xs more v c | inr c ↦ Contains-append_right xs more v c ],
)

pub joined_push : (lists : List (List SignedVote)) (more : List SignedVote) → joined (lists ++ more ∷ []) ≡ joined lists ++ more
joined_push [] more = append-nil more
joined_push (x ∷ xs) more = ap (λ (ys : List SignedVote). x ++ ys) (joined_push xs more) ∙ sym (append_assoc x (joined xs) more)

pub gained_certificate : (alone : List SignedVote) (lists : List (List SignedVote)) (more : List SignedVote)
    → Gains (all_votes alone lists) (all_votes alone (lists ++ more ∷ [])) (Contains more)
gained_certificate alone lists more =
    subst (λ (xs : List SignedVote). Gains (all_votes alone lists) xs (Contains more))
    (append_assoc alone (joined lists) more ∙ ap (λ (xs : List SignedVote). alone ++ xs) (sym (joined_push lists more))) (gained_behind (all_votes alone lists) more)

-- a certificate all of whose votes are there
pub gained_held : (alone : List SignedVote) (lists : List (List SignedVote)) (more : List SignedVote) → ((v : SignedVote) → Contains more v → Contains (joined lists) v)
    → Gains (all_votes alone lists) (all_votes alone lists) (Contains more)
gained_held alone lists more held v = (λ c. inl c, λ w. elim w [ inl c ↦ c | inr c ↦ Contains-append_right alone (joined lists) v (held v c) ])

-- ---- the votes of a certificate

nth_vote : (c : Certificate) (i : ℕ) (d : SignedVote) → i < length c.entries → get_or (certificate_votes c) i d ≡ vote_of c (nth_endorsement c i)
nth_vote c i d l = get_or-map (vote_of c) c.entries i _ d l

-- as many, each in its place
pub votes_in_order : (c : Certificate) (votes : List SignedVote) → length votes ≡ length c.entries
    → ((i : ℕ) (d : SignedVote) → i < length votes → get_or votes i d ≡ vote_of c (nth_endorsement c i)) → votes ≡ certificate_votes c
votes_in_order c votes long each =
    same_lists votes (certificate_votes c) (long ∙ sym (length-map c.entries (vote_of c)))
    (λ i d l. each i d l ∙ sym (nth_vote c i d (omega (arith, l, long))))

-- a vote is among them if an entry stands for it
pub among_votes : (c : Certificate) (v : SignedVote) → Contains (certificate_votes c) v ↔ CertificateHas c v
among_votes c v = (
  λ has. let l : has.0 < length c.entries = omega (arith, has.1, long) in (
    nth_endorsement c has.0,
    (has.0, l, get_or_default c.entries has.0 _ _ l),
    sym has.2 ∙ nth_vote c has.0 v l,
  ),
  λ w. (
    w.1.0,
    omega (arith, w.1.1, long),
    nth_vote c w.1.0 v w.1.1 ∙ ap (λ (e : Endorsement). vote_of c e) (sym (get_or_default c.entries w.1.0 w.0 _ w.1.1) ∙ w.1.2) ∙ sym w.2,
  ),
)
  where
    long : length (certificate_votes c) ≡ length c.entries
    long = length-map c.entries (vote_of c)

-- ---- lists, item by item

pub contains_next : (xs : List SignedVote) (i : ℕ) (x v : SignedVote) → i < length xs → x ≡ get_or xs i x → (Contains (take i xs) v ⊎ (v ≡ x)) ↔ Contains (take (i + 1) xs) v
contains_next xs i x v l is =
    subst (λ (ys : List SignedVote). (Contains (take i xs) v ⊎ (v ≡ x)) ↔ Contains ys v) (ap (λ (y : SignedVote). take i xs ++ y ∷ []) is ∙ sym (take_more xs i x l)) (
      λ w. elim w [ inl c ↦ Contains-append_left (take i xs) (x ∷ []) v c | inr e ↦ Contains-append_right (take i xs) (x ∷ []) v (0, omega arith, sym e) ],
      λ c. elim (Contains-append_cases (take i xs) (x ∷ []) v c) [ inl o ↦ inl o | inr o ↦ inr (sym (only x v o)) ],
    )

-- one vote more
pub gained_next : (old now new xs : List SignedVote) (i : ℕ) (x : SignedVote) → i < length xs → x ≡ get_or xs i x → Gains old now (Contains (take i xs)) → Gains now new (λ v. v ≡ x)
    → Gains old new (Contains (take (i + 1) xs))
gained_next old now new xs i x l is so_far step v =
    let both = contains_next xs i x v l is in (
      λ c. elim ((step v).0 c) [ inl n ↦ elim ((so_far v).0 n) [ inl o ↦ inl o | inr t ↦ inr (both.0 (inl t)) ] | inr e ↦ inr (both.0 (inr e)) ],
      λ w. (step v).1 (elim w [
        | inl o ↦ inl ((so_far v).1 (inl o))
        | inr t ↦ elim (both.1 t) [ inl o ↦ inl ((so_far v).1 (inr o)) | inr e ↦ inr e ]
      ]),
    )

pub gained_nothing : (xs : List SignedVote) → Gains xs xs (Contains [])
gained_nothing xs v = (λ c. inl c, λ w. elim w [ inl c ↦ c | inr n ↦ let l = n.1 in absurd (omega arith) ])

-- the lists in front of the next, and the next
pub joined_next : (lists : List (List SignedVote)) (i : ℕ) (x d : List SignedVote) → i < length lists → x ≡ get_or lists i d → joined (take (i + 1) lists) ≡ joined (take i lists) ++ x
joined_next lists i x d l is = ap (λ (ys : List (List SignedVote)). joined ys) (take_more lists i d l ∙ ap (λ (y : List SignedVote). take i lists ++ y ∷ []) (sym is)) ∙ joined_push (take i lists) x

-- one list more
pub gained_list : (old now new : List SignedVote) (lists : List (List SignedVote)) (i : ℕ) (x d : List SignedVote) → i < length lists → x ≡ get_or lists i d
    → Gains old now (Contains (joined (take i lists))) → Gains now new (Contains x) → Gains old new (Contains (joined (take (i + 1) lists)))
gained_list old now new lists i x d l is so_far step v =
    let front = joined (take i lists) in
    let all = joined_next lists i x d l is in (
      λ c. elim ((step v).0 c) [
        | inl n ↦ elim ((so_far v).0 n) [ inl o ↦ inl o | inr t ↦ inr (subst (λ (ys : List SignedVote). Contains ys v) (sym all) (Contains-append_left front x v t)) ]
        | inr e ↦ inr (subst (λ (ys : List SignedVote). Contains ys v) (sym all) (Contains-append_right front x v e))
      ],
      λ w. (step v).1 (elim w [
        | inl o ↦ inl ((so_far v).1 (inl o))
        | inr t ↦ elim (Contains-append_cases front x v (subst (λ (ys : List SignedVote). Contains ys v) all t)) [ inl o ↦ inl ((so_far v).1 (inr o)) | inr e ↦ inr e ]
      ]),
    )

-- ---- one list for many

pub in_joined : (lists : List (List SignedVote)) (i : ℕ) (d : List SignedVote) (v : SignedVote) → i < length lists → Contains (get_or lists i d) v → Contains (joined lists) v
in_joined [] i d v l c = absurd (omega arith)
in_joined (x ∷ xs) zero d v l c = Contains-append_left x (joined xs) v c
in_joined (x ∷ xs) (suc i) d v l c = Contains-append_right x (joined xs) v (in_joined xs i d v (omega arith) c)

-- single votes, and then those of lists
pub same_all : (alone new : List SignedVote) (lists : List (List SignedVote)) → Gains alone new (Contains (joined lists)) → AreSame new (all_votes alone lists)
same_all alone new lists gains v = (
  λ c. elim ((gains v).0 c) [ inl o ↦ Contains-append_left alone (joined lists) v o | inr k ↦ Contains-append_right alone (joined lists) v k ],
  λ c. (gains v).1 (Contains-append_cases alone (joined lists) v c),
)

-- ---- what is gathered

pub grown_votes : (committee : List ℕ) (hs : List Header) (vs ws more : List SignedVote) (g : Gathered) → gathered_from committee hs vs ≡ g
    → Gains vs ws (Contains more) → Grows g (gathered_from committee hs ws) IsNone (Contains more)
grown_votes committee hs vs ws more g is gains =
    subst (λ (o : Gathered). Grows o (gathered_from committee hs ws) IsNone (Contains more)) is (record { committee = refl; headers = gained_none hs; votes = gains })

in_front : (xs ys : List SignedVote) (v : SignedVote) → IsEither (Contains xs) (Contains ys) v ↔ Contains (xs ++ ys) v
in_front xs ys v = (
  λ w. elim w [ inl c ↦ Contains-append_left xs ys v c | inr c ↦ Contains-append_right xs ys v c ],
  λ c. Contains-append_cases xs ys v c,
)

-- one list more
pub lists_more : (a b c : Gathered) (lists : List (List SignedVote)) (i : ℕ) (x d : List SignedVote) → i < length lists → x ≡ get_or lists i d
    → Grows a b IsNone (Contains (joined (take i lists))) → Grows b c IsNone (Contains x) → Grows a c IsNone (Contains (joined (take (i + 1) lists)))
lists_more a b c lists i x d l is g step =
    let front = joined (take i lists) in
    subst (λ (ys : List SignedVote). Grows a c IsNone (Contains ys)) (sym (joined_next lists i x d l is))
    (grown_as a c _ _ _ _ (λ h. none_of h) (λ v. in_front front x v) (grown_both a b c IsNone IsNone (Contains front) (Contains x) g step))

-- single votes, and then those of certificates
pub votes_and_lists : (a b c : Gathered) (xs ys : List SignedVote) → Grows a b IsNone (Contains xs) → Grows b c IsNone (Contains ys) → Grows a c IsNone (Contains (xs ++ ys))
votes_and_lists a b c xs ys g h = grown_as a c _ _ _ _ (λ x. none_of x) (λ v. in_front xs ys v) (grown_both a b c IsNone IsNone (Contains xs) (Contains ys) g h)

-- a listing of a union is the union
pub union_listed : (committee : List ℕ) (ls : List ReceivedLog) (g listing : Gathered) → IsUnion committee ls g → IsListingOf g listing → IsUnion committee ls listing
union_listed committee ls g listing u is = record {
  under = is.committee ∙ u.under;
  headers = λ h. subst (λ (hs : List Header). Contains hs h ↔ IsHeaderInEvidence committee ls h) (sym is.headers) (u.headers h);
  votes = λ v. (λ c. (u.votes v).0 ((is.votes v).0 c), λ w. (is.votes v).1 ((u.votes v).1 w));
}

pub if_ok : {A E : Type 0} (r : Result A E) (P Q : A → Type 0) → ((a : A) → P a → Q a) → IfOk r P → IfOk r Q
if_ok (Ok a) P Q f p = f a p
if_ok (Err e) P Q f p = p
