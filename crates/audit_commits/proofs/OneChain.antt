-- Blocks that stand in one chain, and the trunk below the first fork.
use Rattle.std.proofs.Common.{◌≡◌, ◌↔◌, Bool, inl, inr, ℕ, zero, suc, ◌+◌, ◌-◌, ◌<◌, ◌≤◌, List, [], ◌∷◌, length, get_or, take, drop, sym, ◌∙◌, ap, subst, arith}
use Rattle.std.specs.Prelude.{IsTrue}
use Rattle.std.specs.List.{All, AllPairs, Contains}
use Rattle.std.proofs.lemmas.Bool.{cases_lt}
use Rattle.std.proofs.lemmas.List.{get_or_default, get_or-take, length-drop, length-take-le, take_all}
use Rattle.blocks.specs.Chains.{IsAncestor, IsChainIn, IsLinked}
use Rattle.blocks.specs.Headers.{Header, header_id}
use Rattle.blocks.proofs.Members.{Contains-first, Contains-later}
use Rattle.ancestry.specs.Known.{Known, IsKnown, all_of, IsAncestorId, IsLinkedId}
use Rattle.ancestry.proofs.Walks.{ancestor_is, chain_down, chain_up, head_or_later, not_in_none}
use Rattle.audit_commits.specs.Commits.{IsLowerBlock}
use Rattle.audit_commits.specs.Pairs.{Agree, AreFirstIn, FirstAreAbove, IsTrunk, StandInOneChain}
use Rattle.audit_commits.proofs.ConflictFacts.{none_before, found_later, rises_later}

-- ---- an ancestor of an ancestor is one

-- what stands above b stands above each block whose chain goes through b
above_through : (hs : List Header) (g a b c : Header) (ps : List Header) → IsChainIn hs g c ps → Contains ps b → IsAncestor hs g a b → IsAncestor hs g a c
above_through hs g a b c [] chain there above = absurd (not_in_none b there)
above_through hs g a b c (p ∷ ps) chain there above =
    let d = chain_down hs g c p ps chain in
    let on : IsAncestor hs g a p → IsAncestor hs g a c = λ up. (p ∷ up.0, chain_up hs g c p up.0 (chain.1 c (Contains-first c (p ∷ ps))) d.parent up.1, Contains-later p up.0 a up.2) in
    elim (head_or_later p ps b there) [
      | inl here ↦ on (subst (λ (x : Header). IsAncestor hs g a x) (sym here) above)
      | inr later ↦ on (above_through hs g a b p ps d.chain later above)
    ]

ancestor_of_ancestor : (known : Known) (a b c : Header) → IsAncestor (all_of known) known.genesis a b → IsAncestor (all_of known) known.genesis b c
    → IsAncestor (all_of known) known.genesis a c
ancestor_of_ancestor known a b c above below = above_through (all_of known) known.genesis a b c below.0 below.1 below.2 above

-- what stands in a chain has one
linked_above : (hs : List Header) (g a b : Header) (ps : List Header) → IsChainIn hs g b ps → Contains ps a → IsLinked hs g a
linked_above hs g a b [] chain there = absurd (not_in_none a there)
linked_above hs g a b (p ∷ ps) chain there =
    let rest : IsChainIn hs g p ps = (chain.0.2, λ x m. chain.1 x (Contains-later b (p ∷ ps) x m)) in
    elim (head_or_later p ps a there) [
      | inl here ↦ subst (λ (x : Header). IsLinked hs g x) here (ps, rest)
      | inr later ↦ linked_above hs g a p ps rest later
    ]

-- ---- by ids

pub above_by_ids : (known : Known) (x y : List ℕ) (a b : Header) (r : Bool) → IsKnown known → Contains (all_of known) a → Contains (all_of known) b → header_id a ≡ x → header_id b ≡ y
    → IsTrue r ↔ IsAncestorId known x y → IsTrue r ↔ IsAncestor (all_of known) known.genesis a b
above_by_ids known x y a b r is in_a in_b named_a named_b test =
    (λ t. ancestor_is known x y a b is in_a in_b named_a named_b (test.0 t), λ above. test.1 (a, b, named_a, named_b, above))

pub both_linked : (known : Known) (x y : List ℕ) (a b : Header) → header_id a ≡ x → header_id b ≡ y → IsAncestor (all_of known) known.genesis a b → IsLinkedId known x × IsLinkedId known y
both_linked known x y a b named_a named_b above =
    ((a, named_a, linked_above (all_of known) known.genesis a b above.0 above.1 above.2), (b, named_b, (above.0, above.1)))

-- ---- the ancestors of a block in one chain

-- the last of the first n tells of all of them
pub first_above : (known : Known) (bs : List Header) (n : ℕ) (a b : Header) → StandInOneChain known bs → 0 < n → n ≤ length bs → a ≡ get_or bs (n - 1) a
    → IsAncestor (all_of known) known.genesis a b → FirstAreAbove known bs n b
first_above known bs n a b chain some there at_a above k d below =
    let len : length (take n bs) ≡ n = length-take-le n bs there in
    let placed : get_or (take n bs) k d ≡ get_or bs k d = get_or-take n bs k d (omega arith) in
    let last : a ≡ get_or bs (n - 1) d = at_a ∙ get_or_default bs (n - 1) a d (omega arith) in
    subst (λ (h : Header). IsAncestor (all_of known) known.genesis h b) (sym placed) (elim (cases_lt k (n - 1)) [
      | inl before ↦ ancestor_of_ancestor known (get_or bs k d) a b (subst (IsAncestor (all_of known) known.genesis (get_or bs k d)) (sym last) (chain k (n - 1) d before (omega arith))) above
      | inr past ↦ let at : n - 1 ≡ k = omega arith in subst (λ (h : Header). IsAncestor (all_of known) known.genesis h b) (last ∙ ap (λ (m : ℕ). get_or bs m d) at) above
    ])

-- ---- the trunk

-- the first n blocks are ancestors of those that follow, up to the place k
abbrev pub IsTrunkBelow : Known → List Header → ℕ → ℕ → Type 0
IsTrunkBelow known bs n k = (i j : ℕ) (d : Header) → i < n → i < j → j < k → IsAncestor (all_of known) known.genesis (get_or bs i d) (get_or bs j d)

pub chain_of_trunk : (known : Known) (bs : List Header) (n k : ℕ) → n ≤ k → k ≤ length bs → IsTrunkBelow known bs n k → StandInOneChain known (take n bs)
chain_of_trunk known bs n k within there trunk i j d less below =
    let len : length (take n bs) ≡ n = length-take-le n bs (omega arith) in
    let first : get_or (take n bs) i d ≡ get_or bs i d = get_or-take n bs i d (omega arith) in
    let second : get_or (take n bs) j d ≡ get_or bs j d = get_or-take n bs j d (omega arith) in
    subst (λ (h : Header). IsAncestor (all_of known) known.genesis h (get_or (take n bs) j d)) (sym first)
    (subst (IsAncestor (all_of known) known.genesis (get_or bs i d)) (sym second) (trunk i j d (omega arith) less (omega arith)))

-- the ancestors of the block at k among the trunk below it
above_at : (known : Known) (bs : List Header) (n s : ℕ) (b : Header) → n ≤ length bs → s ≤ length (take n bs) → FirstAreAbove known (take n bs) s b → (i : ℕ) (d : Header) → i < s
    → IsAncestor (all_of known) known.genesis (get_or bs i d) b
above_at known bs n s b there within above i d below =
    let len : length (take n bs) ≡ n = length-take-le n bs there in
    let inner : length (take s (take n bs)) ≡ s = length-take-le s (take n bs) within in
    let placed : get_or (take s (take n bs)) i d ≡ get_or bs i d = get_or-take s (take n bs) i d below ∙ get_or-take n bs i d (omega arith) in
    subst (λ (h : Header). IsAncestor (all_of known) known.genesis h b) placed (above i d (omega arith))

pub shorter_trunk : (known : Known) (bs : List Header) (n s k : ℕ) (b : Header) → n ≤ k → k < length bs → b ≡ get_or bs k b → s ≤ length (take n bs) → FirstAreAbove known (take n bs) s b
    → IsTrunkBelow known bs n k → IsTrunkBelow known bs s (k + 1)
shorter_trunk known bs n s k b within there at_b short above trunk i j d first less below =
    let len : length (take n bs) ≡ n = length-take-le n bs (omega arith) in
    elim (cases_lt j k) [
      | inl inner ↦ trunk i j d (omega arith) less inner
      | inr past ↦
          let last : k ≡ j = omega arith in
          subst (IsAncestor (all_of known) known.genesis (get_or bs i d)) (at_b ∙ get_or_default bs k b d there ∙ ap (λ (m : ℕ). get_or bs m d) last)
          (above_at known bs n s b (omega arith) short above i d first)
    ]

pub longer_trunk : (known : Known) (bs : List Header) (n s k : ℕ) (b : Header) → n ≤ k → k < length bs → b ≡ get_or bs k b → s ≤ length (take n bs) → FirstAreAbove known (take n bs) s b
    → IsTrunkBelow known bs n k → s ≡ k → IsTrunkBelow known bs (k + 1) (k + 1)
longer_trunk known bs n s k b within there at_b short above trunk all i j d first less below =
    shorter_trunk known bs n s k b within there at_b short above trunk i j d (omega arith) less below

-- ---- behind the trunk

pub all_behind : (bs : List Header) (n : ℕ) → take (length bs - n) (drop n bs) ≡ drop n bs
all_behind bs n = take_all (length bs - n) (drop n bs) (subst (λ (m : ℕ). m ≤ length bs - n) (sym (length-drop n bs)) (omega arith))

pub rises_behind : (bs : List Header) (n : ℕ) → AllPairs IsLowerBlock bs → AllPairs IsLowerBlock (drop n bs)
rises_behind bs zero rising = rising
rises_behind [] (suc n) rising = rising
rises_behind (x ∷ xs) (suc n) rising = rises_behind xs n (rises_later x xs rising)

later_trunk : (known : Known) (x : Header) (xs : List Header) (n : ℕ) → IsTrunk known (x ∷ xs) (suc n) → IsTrunk known xs n
later_trunk known x xs n trunk i j d first less below = trunk (suc i) (suc j) d (omega arith) (omega arith) (omega arith)

agrees_with_later : (known : Known) (x : Header) (xs : List Header) (n : ℕ) → IsTrunk known (x ∷ xs) (suc n) → All (Agree known x) xs
agrees_with_later known x xs n trunk k d below conflict = conflict.not_below (trunk 0 (suc k) d (omega arith) (omega arith) (omega arith))

pub none_behind_trunk : (known : Known) (bs : List Header) (n : ℕ) → IsTrunk known bs n → AllPairs (Agree known) (drop n bs) → AllPairs (Agree known) bs
none_behind_trunk known bs zero trunk none = none
none_behind_trunk known [] (suc n) trunk none = none
none_behind_trunk known (x ∷ xs) (suc n) trunk none =
    none_before known x xs (agrees_with_later known x xs n trunk) (none_behind_trunk known xs n (later_trunk known x xs n trunk) none)

pub found_behind_trunk : (known : Known) (bs : List Header) (n : ℕ) (a b : Header) → AllPairs IsLowerBlock bs → IsTrunk known bs n → AreFirstIn known (drop n bs) a b → AreFirstIn known bs a b
found_behind_trunk known bs zero a b rising trunk found = found
found_behind_trunk known [] (suc n) a b rising trunk found = found
found_behind_trunk known (x ∷ xs) (suc n) a b rising trunk found =
    found_later known x xs a b rising (agrees_with_later known x xs n trunk) (found_behind_trunk known xs n a b (rises_later x xs rising) (later_trunk known x xs n trunk) found)
