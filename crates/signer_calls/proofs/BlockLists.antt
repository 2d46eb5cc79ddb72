-- Blocks are read again from the body that spells them.
use Rattle.std.proofs.Common.{◌≡◌, ◌≢◌, ◌<◌, ◌≤◌, ◌∙◌, ℕ, List, [], ◌∷◌, ◌++◌, ap, arith, length, refl, subst, sym, append_assoc, append-nil}
use Rattle.std.proofs.lemmas.List.{length-append}
use Rattle.byteorder.specs.Endian.{big_bytes}
use Rattle.signer_calls.specs.BlockLists.{SpellsBlocks, SpellsEach, SpellsNoBlocks}
use Rattle.signer_calls.specs.Pairs.{SpellsNoPair, SpellsPair}
use Rattle.signer_calls.specs.declared.block_list.TheConstants.{MOST_BLOCKS_AT_ONCE}
use Rattle.signer_calls.proofs.Pairs.{one_pair}

-- a pair takes more than what stands behind its first half
pub shorter : (body first rest : List ℕ) → SpellsPair body first rest → length rest < length body
shorter body first rest pair =
    let whole = ap (λ (l : List ℕ). length l) pair.text in
    let four : length (big_bytes 4 (length first)) ≡ 4 = refl in
    omega (arith, whole, four, length-append (big_bytes 4 (length first)) (first ++ rest), length-append first rest)

nothing_is_no_pair : (body first rest : List ℕ) → body ≡ [] → SpellsPair body first rest → ⊥
nothing_is_no_pair body first rest none pair =
    let long = shorter body first rest pair in
    let short = ap (λ (l : List ℕ). length l) none in
    omega (arith, long, short)

-- a body spells its blocks in one way
one_each : (body : List ℕ) (xs ys : List (List ℕ)) → SpellsEach body xs → SpellsEach body ys → xs ≡ ys
one_each body [] [] is is' = refl
one_each body [] (b ∷ ys) none (rest, pair, more) = absurd (nothing_is_no_pair body b rest none pair)
one_each body (a ∷ xs) [] (rest, pair, more) none = absurd (nothing_is_no_pair body a rest none pair)
one_each body (a ∷ xs) (b ∷ ys) (rest, pair, more) (rest', pair', more') =
    let same = one_pair body a rest b rest' pair pair' in
    let others = one_each rest' xs ys (subst (λ (r : List ℕ). SpellsEach r xs) same.1 more) more' in
    ap (λ (x : List ℕ). x ∷ xs) same.0 ∙ ap (λ (zs : List (List ℕ)). b ∷ zs) others

pub one_list : (body : List ℕ) (xs ys : List (List ℕ)) → SpellsBlocks body xs → SpellsBlocks body ys → xs ≡ ys
one_list body xs ys is is' = one_each body xs ys is.each is'.each

-- ---- reading

none_in : {X : Type 0} (xs : List X) → length xs ≤ 0 → xs ≡ []
none_in [] short = refl
none_in (x ∷ xs) short = absurd (omega (arith, short))

some_in : {X : Type 0} (xs : List X) → 0 < length xs → xs ≢ []
some_in xs long none = let short = ap (λ l. length l) none in omega (arith, long, short)

-- these blocks were read, and this is left of the body
pub record AreRead (body : List ℕ) (blocks : List (List ℕ)) (left : List ℕ) : Type 0 where
  pub ahead : (more : List (List ℕ)) → SpellsEach left more → SpellsEach body (blocks ++ more)
  pub only : (all : List (List ℕ)) → SpellsEach body all → (more : List (List ℕ)) × (all ≡ blocks ++ more) × SpellsEach left more
  pub few : length blocks ≤ MOST_BLOCKS_AT_ONCE

pub read_none : (body left : List ℕ) → left ≡ body → AreRead body [] left
read_none body left is = record {
  ahead = λ more each. subst (λ (l : List ℕ). SpellsEach l more) is each;
  only = λ all each. (all, refl, subst (λ (l : List ℕ). SpellsEach l all) (sym is) each);
  few = omega arith;
}

behind_one : (left block rest : List ℕ) (more : List (List ℕ)) → SpellsPair left block rest → SpellsEach left more
    → (others : List (List ℕ)) × (more ≡ block ∷ others) × SpellsEach rest others
behind_one left block rest [] pair none = absurd (nothing_is_no_pair left block rest none pair)
behind_one left block rest (b ∷ bs) pair (rest', pair', each) =
    let same = one_pair left b rest' block rest pair' pair in
    (bs, ap (λ (x : List ℕ). x ∷ bs) same.0, subst (λ (r : List ℕ). SpellsEach r bs) same.1 each)

pub read_one : (body : List ℕ) (blocks : List (List ℕ)) (left block rest : List ℕ) → AreRead body blocks left → SpellsPair left block rest
    → length blocks < MOST_BLOCKS_AT_ONCE → AreRead body (blocks ++ block ∷ []) rest
read_one body blocks left block rest are pair not_all = record {
  ahead = λ more each. subst (λ (l : List (List ℕ)). SpellsEach body l) (sym (append_assoc blocks (block ∷ []) more))
      (are.ahead (block ∷ more) (rest, pair, each));
  only = λ all each.
      let it = are.only all each in
      let behind = behind_one left block rest it.0 pair it.2 in (
        behind.0,
        it.1 ∙ ap (λ (l : List (List ℕ)). blocks ++ l) behind.1 ∙ sym (append_assoc blocks (block ∷ []) behind.0),
        behind.2,
      );
  few = let few = are.few in omega (arith, few, not_all, length-append blocks (block ∷ []));
}

-- all of it was read
pub read_all : (body : List ℕ) (blocks : List (List ℕ)) (left : List ℕ) → AreRead body blocks left → length left ≤ 0 → 0 < length blocks → SpellsBlocks body blocks
read_all body blocks left are nothing more = record {
  each = subst (λ (l : List (List ℕ)). SpellsEach body l) (append-nil blocks) (are.ahead [] (none_in left nothing));
  some = some_in blocks more;
  few = are.few;
}

-- there is nothing in it
pub nothing_read : (body : List ℕ) (blocks : List (List ℕ)) (left : List ℕ) → AreRead body blocks left → length left ≤ 0 → length blocks ≤ 0 → SpellsNoBlocks body
nothing_read body blocks left are nothing none all spells =
    let it = are.only all spells.each in
    spells.some (it.1 ∙ ap (λ (l : List (List ℕ)). l ++ it.0) (none_in blocks none) ∙ one_each left it.0 [] it.2 (none_in left nothing))

more_than : (blocks more : List (List ℕ)) (left : List ℕ) → SpellsEach left more → left ≢ [] → MOST_BLOCKS_AT_ONCE ≤ length blocks
    → length (blocks ++ more) ≤ MOST_BLOCKS_AT_ONCE → ⊥
more_than blocks [] left none some full few = some none
more_than blocks (b ∷ bs) left each some full few = omega (arith, full, few, length-append blocks (b ∷ bs))

-- more stands behind the last that may be
pub too_many : (body : List ℕ) (blocks : List (List ℕ)) (left : List ℕ) → AreRead body blocks left → 0 < length left → MOST_BLOCKS_AT_ONCE ≤ length blocks
    → SpellsNoBlocks body
too_many body blocks left are some full all spells =
    let it = are.only all spells.each in
    more_than blocks it.0 left it.2 (some_in left some) full (subst (λ (l : List (List ℕ)). length l ≤ MOST_BLOCKS_AT_ONCE) it.1 spells.few)

no_first : (more : List (List ℕ)) (left : List ℕ) → SpellsEach left more → left ≢ [] → SpellsNoPair left → ⊥
no_first [] left none some no_pair = some none
no_first (b ∷ bs) left (rest, pair, each) some no_pair = no_pair b rest pair

-- what is left begins with no block
pub broken : (body : List ℕ) (blocks : List (List ℕ)) (left : List ℕ) → AreRead body blocks left → 0 < length left → SpellsNoPair left → SpellsNoBlocks body
broken body blocks left are some no_pair all spells =
    let it = are.only all spells.each in
    no_first it.0 left it.2 (some_in left some) no_pair
