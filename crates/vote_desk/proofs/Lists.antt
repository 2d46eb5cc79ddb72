-- Lists behind an opening list.
use Rattle.std.proofs.Common.{◌≡◌, ℕ, ◌+◌, ◌<◌, ◌≤◌, Bool, true, false, List, [], ◌∷◌, ◌++◌, length, drop, Option, Some, None, refl, sym, ap, subst, ◌∙◌, append_assoc, append-nil, cond, length-append, arith}
use Rattle.std.specs.Prelude.{map}
use Rattle.std.specs.List.{All, AllByRecursion}
use Rattle.std.proofs.lemmas.List.{drop-append-le}
use Rattle.std.proofs.lemmas.List.Sums.{sum_by_push}
use Rattle.std.proofs.lemmas.List.Elements.{All-push}
use Rattle.std.proofs.lemmas.List.Quantifiers.{all_pairs_push}
use Rattle.blocks.specs.Headers.{Header, AreInOrder, IsGenesis, NamesParent}
use Rattle.blocks.specs.Chains.{AllIn, IsChain}
use Rattle.blocks.specs.Replica.{Stored, ReplicaState, IsAllowed, after}
use Rattle.blocks.specs.Replay.{FitsOpening, IsAttached, IsLegal, IsLegalEntry, durable_of, event_on, replay_entry}
use Rattle.blocks.proofs.Restarts.{agrees}
use Rattle.log_format.specs.EntryText.{Entry, stored_in}
use Rattle.log_format.specs.declared.entry.KeyedSignature.{KeyedSignature}
use Rattle.vote_log.specs.Logs.{steps_of}
use Rattle.vote_desk.specs.Desks.{AreRising, index_of, indices_in, vote_count, with_index}

-- ---- events and entries

pub legal_vote : (genesis : Header) (s : ReplicaState) (voted : Bool) (b p : Header) (ps : List Header) → IsGenesis genesis → s.stored_vote_view ≤ s.vote_view
    → IsAllowed genesis s (event_on voted b (p ∷ ps)) → IsLegalEntry (durable_of s) voted b p
legal_vote genesis s true b p ps root covers allowed = (agrees genesis s (event_on true b (p ∷ ps) ∷ []) root covers (allowed, tt)).legal.0
legal_vote genesis s false b p ps root covers allowed = (agrees genesis s (event_on false b (p ∷ ps) ∷ []) root covers (allowed, tt)).legal.0

pub replay_event : (genesis : Header) (s : ReplicaState) (voted : Bool) (b p : Header) (ps : List Header) → IsGenesis genesis → s.stored_vote_view ≤ s.vote_view
    → IsAllowed genesis s (event_on voted b (p ∷ ps)) → replay_entry (durable_of s) voted b p ≡ durable_of (after s (event_on voted b (p ∷ ps)))
replay_event genesis s true b p ps root covers allowed = (agrees genesis s (event_on true b (p ∷ ps) ∷ []) root covers (allowed, tt)).replayed
replay_event genesis s false b p ps root covers allowed = (agrees genesis s (event_on false b (p ∷ ps) ∷ []) root covers (allowed, tt)).replayed

-- ---- attached entries

in_order : (b p : Header) → NamesParent b p → p.view < b.view → AreInOrder b.parent_view b.view
in_order b p n l = let v = n.view in omega arith

chain_in_order : (genesis p : Header) (below : List Header) → IsGenesis genesis → IsChain genesis p below → AreInOrder p.parent_view p.view
chain_in_order genesis p [] root is =
    let v = ap (λ (h : Header). h.parent_view) is in let w = root.parent_view in omega arith
chain_in_order genesis p (q ∷ qs) root is = in_order p q is.0 is.1

pub attached : (hs : List Header) (genesis : Header) (x : Stored) (below : List Header) → IsGenesis genesis → IsChain genesis x.block (x.parent ∷ below) → AllIn hs (x.parent ∷ below) → IsAttached hs genesis x
attached hs genesis x below root is held = record {
  block_in_order = in_order x.block x.parent is.0 is.1;
  parent_in_order = chain_in_order genesis x.parent below root is.2;
  names = is.0;
  chain = below;
  is_chain = (is.2, held);
}

all_push : (P : Stored → Type 0) (xs : List Stored) (x : Stored) → AllByRecursion P xs → P x → AllByRecursion P (xs ++ x ∷ [])
all_push P [] x each here = (here, tt)
all_push P (y ∷ ys) x each here = (each.0, all_push P ys x each.1 here)

all_maps : (P Q : Stored → Type 0) (xs : List Stored) → ((x : Stored) → P x → Q x) → AllByRecursion P xs → AllByRecursion Q xs
all_maps P Q [] by each = tt
all_maps P Q (y ∷ ys) by each = (by y each.0, all_maps P Q ys by each.1)

pub fits_push : (hs : List Header) (genesis : Header) (opening list : List Stored) (x : Stored) → FitsOpening hs genesis opening list → IsLegal genesis (list ++ x ∷ []) → IsAttached hs genesis x → FitsOpening hs genesis opening (list ++ x ∷ [])
fits_push hs genesis opening list x fits legal here = record {
  legal = legal;
  more = fits.more ++ x ∷ [];
  begins = ap (λ (l : List Stored). l ++ x ∷ []) fits.begins ∙ append_assoc opening fits.more (x ∷ []);
  attached = all_push (IsAttached hs genesis) fits.more x fits.attached here;
}

more_headers : (hs new : List Header) (genesis : Header) (x : Stored) → AllIn new hs → IsAttached hs genesis x → IsAttached new genesis x
more_headers hs new genesis x into a = record {
  block_in_order = a.block_in_order;
  parent_in_order = a.parent_in_order;
  names = a.names;
  chain = a.chain;
  is_chain = (a.is_chain.0, λ h m. into h (a.is_chain.1 h m));
}

pub fits_more : (hs new : List Header) (genesis : Header) (opening list : List Stored) → AllIn new hs → FitsOpening hs genesis opening list → FitsOpening new genesis opening list
fits_more hs new genesis opening list into fits = record {
  legal = fits.legal;
  more = fits.more;
  begins = fits.begins;
  attached = all_maps (IsAttached hs genesis) (IsAttached new genesis) fits.more (λ x a. more_headers hs new genesis x into a) fits.attached;
}

pub fits_none : (hs : List Header) (genesis : Header) (list : List Stored) → IsLegal genesis list → FitsOpening hs genesis list list
fits_none hs genesis list legal = record { legal = legal; more = []; begins = sym (append-nil list); attached = tt }

-- ---- counts

pub long_enough : (opening list more : List Stored) → list ≡ opening ++ more → length opening ≤ length list
long_enough opening list more is = let n = ap (λ (l : List Stored). length l) is in let m = length-append opening more in omega arith

vote_count_push : (xs : List Stored) (x : Stored) → vote_count (xs ++ x ∷ []) ≡ vote_count xs + cond x.voted 1 0
vote_count_push xs x = sum_by_push (λ (y : Stored). cond y.voted 1 0) xs x

pub vote_more : (n : ℕ) (steps : List Stored) (x : Stored) → n ≤ length steps → x.voted ≡ true → vote_count (drop n (steps ++ x ∷ [])) ≡ vote_count (drop n steps) + 1
vote_more n steps x long voted =
    ap vote_count (drop-append-le n steps (x ∷ []) long) ∙ vote_count_push (drop n steps) x ∙ ap (λ (v : Bool). vote_count (drop n steps) + cond v 1 0) voted

pub vote_same : (n : ℕ) (steps : List Stored) (x : Stored) → n ≤ length steps → x.voted ≡ false → vote_count (drop n (steps ++ x ∷ [])) ≡ vote_count (drop n steps)
vote_same n steps x long voted =
    let e : vote_count (drop n (steps ++ x ∷ [])) ≡ vote_count (drop n steps) + 0 =
    ap vote_count (drop-append-le n steps (x ∷ []) long) ∙ vote_count_push (drop n steps) x ∙ ap (λ (v : Bool). vote_count (drop n steps) + cond v 1 0) voted in
    omega arith

-- ---- indices

indices-push : (es : List Entry) (e : Entry) → indices_in (es ++ e ∷ []) ≡ indices_in es ++ with_index e.own []
indices-push [] e = refl
indices-push (d ∷ es) e = ap (with_index d.own) (indices-push es e) ∙ with_append d.own (indices_in es) (with_index e.own [])
  where
    with_append : (o : Option KeyedSignature) (xs ys : List ℕ) → with_index o (xs ++ ys) ≡ with_index o xs ++ ys
    with_append (Some s) xs ys = refl
    with_append None xs ys = refl

below_more : (mark more : ℕ) (xs : List ℕ) → mark ≤ more → All (λ i. i < mark) xs → All (λ i. i < more) xs
below_more mark more xs l each = λ k d m. (let i = each k d m in omega arith)

-- a mark that is no lower
pub rising_above : (mark more : ℕ) (xs : List ℕ) → mark ≤ more → AreRising mark xs → AreRising more xs
rising_above mark more xs l r = record { rise = r.rise; below = below_more mark more xs l r.below }

rising_push : (mark : ℕ) (xs : List ℕ) → AreRising mark xs → AreRising (mark + 1) (xs ++ mark ∷ [])
rising_push mark xs r = record {
  rise = all_pairs_push (λ i j. i < j) xs mark r.rise (λ k d l. r.below k d l);
  below = All-push (λ i. i < mark + 1) xs mark (below_more mark (mark + 1) xs (omega arith) r.below) (omega arith);
}

-- one entry more, with the vote under the mark
pub rising_vote : (n mark : ℕ) (es : List Entry) (e : Entry) (s : KeyedSignature) → n ≤ length es → e.own ≡ Some s → index_of s ≡ mark → AreRising mark (indices_in (drop n es)) → AreRising (mark + 1) (indices_in (drop n (es ++ e ∷ [])))
rising_vote n mark es e s long signed index r =
    let same : indices_in (drop n (es ++ e ∷ [])) ≡ indices_in (drop n es) ++ mark ∷ [] =
    ap indices_in (drop-append-le n es (e ∷ []) long) ∙ indices-push (drop n es) e
    ∙ ap (λ (o : Option KeyedSignature). indices_in (drop n es) ++ with_index o []) signed ∙ ap (λ (i : ℕ). indices_in (drop n es) ++ i ∷ []) index in
    subst (λ (l : List ℕ). AreRising (mark + 1) l) (sym same) (rising_push mark (indices_in (drop n es)) r)

append-nothing : (xs : List ℕ) → xs ++ [] ≡ xs
append-nothing [] = refl
append-nothing (x ∷ xs) = ap (λ (l : List ℕ). x ∷ l) (append-nothing xs)

-- .. without a vote
pub rising_raise : (n mark : ℕ) (es : List Entry) (e : Entry) → n ≤ length es → e.own ≡ None → AreRising mark (indices_in (drop n es)) → AreRising mark (indices_in (drop n (es ++ e ∷ [])))
rising_raise n mark es e long unsigned r =
    let same : indices_in (drop n (es ++ e ∷ [])) ≡ indices_in (drop n es) =
    ap indices_in (drop-append-le n es (e ∷ []) long) ∙ indices-push (drop n es) e
    ∙ ap (λ (o : Option KeyedSignature). indices_in (drop n es) ++ with_index o []) unsigned ∙ append-nothing (indices_in (drop n es)) in
    subst (λ (l : List ℕ). AreRising mark l) (sym same) r

-- ---- entries and steps

length-map : {X Y : Type 0} (f : X → Y) (xs : List X) → length (map f xs) ≡ length xs
length-map f [] = refl
length-map f (x ∷ xs) = let i = length-map f xs in omega arith

pub length_listed : (es : List Entry) (steps : List Stored) → steps ≡ steps_of es → length es ≡ length steps
length_listed es steps is = sym (length-map stored_in es) ∙ sym (ap (λ (l : List Stored). length l) is)
