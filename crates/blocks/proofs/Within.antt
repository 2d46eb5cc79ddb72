-- Which headers and votes stand in runs and stored lists.
use Rattle.std.proofs.Common.{◌≡◌, ◌⊎◌, inl, inr, ℕ, ◌<◌, Bool, true, false, List, [], ◌∷◌, ◌++◌, refl, sym, ap, subst, ◌∙◌, append_assoc, arith}
use Rattle.std.specs.List.{AllByRecursion, Contains}
use Rattle.std.proofs.lemmas.List.Elements.{Contains-append_left, Contains-append_right}
use Rattle.blocks.specs.Headers.{Header, NamesParent, AreInOrder}
use Rattle.blocks.specs.Chains.{AllIn}
use Rattle.blocks.specs.declared.ballot.Ballot.{Ballot}
use Rattle.blocks.specs.Replica.{Event, Vote, Raise, Pass, Timeout, Restart, Stored, headers_of}
use Rattle.blocks.specs.Replay.{Durable, IsLegalEntry, IsLegalFrom, IsAttached, replay_entry, event_on, AreEventsOf, ballot_in, ballots_in}
use Rattle.blocks.proofs.Members.{Has, Has-from_Contains, Contains-from_Has, Contains-first, Contains-later}
use Rattle.blocks.specs.Lives.{blocks_in}

-- ---- lists

has_either : {X : Type 0} (xs ys : List X) (x : X) → Has (xs ++ ys) x → Has xs x ⊎ Has ys x
has_either [] ys x h = inr h
has_either (z ∷ xs) ys x (inl e) = inl (inl e)
has_either (z ∷ xs) ys x (inr m) = elim (has_either xs ys x m) [ inl a ↦ inl (inr a) | inr b ↦ inr b ]

pub either_of : {X : Type 0} (xs ys : List X) (x : X) → Contains (xs ++ ys) x → Contains xs x ⊎ Contains ys x
either_of xs ys x c = elim (has_either xs ys x (Has-from_Contains (xs ++ ys) x c)) [
  | inl a ↦ inl (Contains-from_Has xs x a)
  | inr b ↦ inr (Contains-from_Has ys x b)
]

pub none_in : {X : Type 0} (x : X) → Contains [] x → ⊥
none_in x c = Has-from_Contains [] x c

-- ---- headers

pub AllIn-append : (hs xs ys : List Header) → AllIn hs xs → AllIn hs ys → AllIn hs (xs ++ ys)
AllIn-append hs xs ys a b h m = elim (either_of xs ys h m) [ inl x ↦ a h x | inr y ↦ b h y ]

pub AllIn-first : (hs : List Header) (x : Header) (xs : List Header) → Contains hs x → AllIn hs xs → AllIn hs (x ∷ xs)
AllIn-first hs x xs here rest = AllIn-append hs (x ∷ []) xs (λ h m. first h (Has-from_Contains (x ∷ []) h m)) rest
  where
    first : (h : Header) → Has (x ∷ []) h → Contains hs h
    first h (inl e) = subst (λ (k : Header). Contains hs k) e here
    first h (inr n) = absurd n

pub headers-append : (es fs : List Event) → headers_of (es ++ fs) ≡ headers_of es ++ headers_of fs
headers-append [] fs = refl
headers-append (Vote b ps ∷ es) fs = ap (λ (hs : List Header). (b ∷ ps) ++ hs) (headers-append es fs) ∙ sym (append_assoc (b ∷ ps) (headers_of es) (headers_of fs))
headers-append (Raise b ps ∷ es) fs = ap (λ (hs : List Header). (b ∷ ps) ++ hs) (headers-append es fs) ∙ sym (append_assoc (b ∷ ps) (headers_of es) (headers_of fs))
headers-append (Pass b ps ∷ es) fs = ap (λ (hs : List Header). (b ∷ ps) ++ hs) (headers-append es fs) ∙ sym (append_assoc (b ∷ ps) (headers_of es) (headers_of fs))
headers-append (Timeout v ∷ es) fs = headers-append es fs
headers-append (Restart ∷ es) fs = headers-append es fs

first_headers : (v : Bool) (b p : Header) (ps : List Header) (es : List Event) → headers_of (event_on v b (p ∷ ps) ∷ es) ≡ (b ∷ (p ∷ ps)) ++ headers_of es
first_headers true b p ps es = refl
first_headers false b p ps es = refl

-- a legal entry's block is younger than its parent
older_parent : (d : Durable) (v : Bool) (b p : Header) → IsLegalEntry d v b p → AreInOrder b.parent_view b.view → AreInOrder p.parent_view p.view → NamesParent b p → p.view < b.view
older_parent d true b p l o q n = let y = n.view in let x = l.0 in omega arith
older_parent d false b p l o q n = let y = n.view in omega arith

-- events that store these entries, over these headers
pub record HasEventsIn (t : List Header) (genesis : Header) (view : ℕ) (more : List Stored) : Type 0 where
  pub events : List Event
  pub are : AreEventsOf genesis view more events
  pub headers : AllIn t (headers_of events)

-- attached entries have events over the headers that they hold and their own blocks
pub events_within : (t hs : List Header) (genesis : Header) (view : ℕ) (d : Durable) (more : List Stored)
    → AllIn t hs → AllIn t (blocks_in more) → IsLegalFrom d more → AllByRecursion (IsAttached hs genesis) more → HasEventsIn t genesis view more
events_within t hs genesis view d [] into blocks l a = record { events = Timeout view ∷ []; are = refl; headers = λ h m. absurd (none_in h m) }
events_within t hs genesis view d (x ∷ xs) into blocks l a =
    let i = events_within t hs genesis view (replay_entry d x.voted x.block x.parent) xs into (λ h m. blocks h (Contains-later x.block (blocks_in xs) h m)) l.1 a.1 in
    let h = a.0 in
    let ps = x.parent ∷ h.chain in
    let chain : AllIn t ps = λ k m. into k (h.is_chain.1 k m) in
    let all : AllIn t ((x.block ∷ ps) ++ headers_of i.events) = AllIn-append t (x.block ∷ ps) (headers_of i.events) (AllIn-first t x.block ps (blocks x.block (Contains-first x.block (blocks_in xs))) chain) i.headers in
    record {
      events = event_on x.voted x.block ps ∷ i.events;
      are = (h.chain, i.events, refl, (h.names, older_parent d x.voted x.block x.parent l.0 h.block_in_order h.parent_in_order h.names, h.is_chain.0), i.are);
      headers = subst (λ (l : List Header). AllIn t l) (sym (first_headers x.voted x.block x.parent h.chain i.events)) all;
    }

-- ---- stored lists

pub blocks-append : (xs ys : List Stored) → blocks_in (xs ++ ys) ≡ blocks_in xs ++ blocks_in ys
blocks-append [] ys = refl
blocks-append (x ∷ xs) ys = ap (λ (l : List Header). x.block ∷ l) (blocks-append xs ys)

pub ballots-append : (xs ys : List Stored) → ballots_in (xs ++ ys) ≡ ballots_in xs ++ ballots_in ys
ballots-append [] ys = refl
ballots-append (x ∷ xs) ys =
    ap (λ (l : List Ballot). ballot_in x.voted x.block ++ l) (ballots-append xs ys) ∙ sym (append_assoc (ballot_in x.voted x.block) (ballots_in xs) (ballots_in ys))

-- a list that begins with another has its blocks and its votes
pub blocks_kept : (xs ys list : List Stored) → list ≡ xs ++ ys → AllIn (blocks_in list) (blocks_in xs)
blocks_kept xs ys list is h m =
    subst (λ (l : List Header). Contains l h) (sym (ap blocks_in is ∙ blocks-append xs ys)) (Contains-append_left (blocks_in xs) (blocks_in ys) h m)

pub blocks_more : (xs ys list : List Stored) → list ≡ xs ++ ys → AllIn (blocks_in list) (blocks_in ys)
blocks_more xs ys list is h m =
    subst (λ (l : List Header). Contains l h) (sym (ap blocks_in is ∙ blocks-append xs ys)) (Contains-append_right (blocks_in xs) (blocks_in ys) h m)

pub ballots_kept : (xs ys list : List Stored) → list ≡ xs ++ ys → (b : Ballot) → Contains (ballots_in xs) b → Contains (ballots_in list) b
ballots_kept xs ys list is b m =
    subst (λ (l : List Ballot). Contains l b) (sym (ap ballots_in is ∙ ballots-append xs ys)) (Contains-append_left (ballots_in xs) (ballots_in ys) b m)
