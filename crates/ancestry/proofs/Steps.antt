-- Links of an index: how they are set, and where steps by them lead.
use Rattle.std.proofs.Common.{◌≡◌, ◌<◌, ◌≤◌, inl, inr, ℕ, List, [], ◌∷◌, ◌++◌, length, get_or, set, sym, subst, ◌∙◌, arith, length-append}
use Rattle.std.proofs.lemmas.Bool.{cases_eq, cases_lt}
use Rattle.std.proofs.lemmas.List.{get_or-set_same, get_or-set_other, length-set, get_or_push}
use Rattle.std.proofs.Math.ListN.{get_or-append}
use Rattle.ancestry.specs.Known.{Known, IsKnown, all_of}
use Rattle.ancestry.specs.Links.{header_at, LeadsTo, HasNoParent, IsParentAt, IsLink, AreLinks, IsIndex, IsStep, IsEnd}
use Rattle.ancestry.specs.Parents.{IsParent}
use Rattle.ancestry.specs.declared.links.ChainLink.{ChainLink}
use Rattle.ancestry.proofs.Ids.{apart, at_known}
use Rattle.ancestry.proofs.Walks.{linked_genesis, linked_up, linked_down, linked_last, linked_through, linked_past, leads_to_itself}

-- ---- reading and setting

pub link_is : (known : Known) (links : List ChainLink) (n : ℕ) (link : ChainLink) → IsIndex known links → n ≤ length known.headers → link ≡ get_or links n link → IsLink known n link
link_is known links n link is inside same =
    let count = is.count in
    let there : n < length links = omega arith in
    subst (λ (l : ChainLink). IsLink known n l) (sym same) (is.each n link there)

-- a header without a jump jumps to itself
pub leads_home : (known : Known) (n : ℕ) → LeadsTo known (header_at known n) (header_at known n)
leads_home known n = linked_genesis (all_of known) (header_at known n) (at_known known n)

pub links_push : (known : Known) (links : List ChainLink) (n : ℕ) (link : ChainLink) → length links ≡ n → AreLinks known links → IsLink known n link → AreLinks known (links ++ link ∷ [])
links_push known links n link count each is k d inside =
    elim (cases_lt k (length links)) [
      | inl before ↦ subst (λ (l : ChainLink). IsLink known k l) (sym (get_or-append links (link ∷ []) d k before)) (each k d before)
      | inr behind ↦
          let long = length-append links (link ∷ []) in
          let last : k ≡ n = omega arith in
          subst (λ (l : ChainLink). IsLink known k l) (sym (get_or_push links link d k (count ∙ sym last)))
          (subst (λ (j : ℕ). IsLink known j link) (sym last) is)
    ]

-- a jump may end at each header to which the chain leads
pub with_jump : (known : Known) (links : List ChainLink) (n jump : ℕ) (old new : ChainLink) → IsIndex known links → n ≤ length known.headers → old ≡ get_or links n old
    → new.parent ≡ old.parent → new.jump ≡ jump → jump ≤ length known.headers → LeadsTo known (header_at known n) (header_at known jump)
    → IsIndex known (set links n new)
with_jump known links n jump old new is inside read kept ends jump_in leads =
    let count = is.count in
    let there : n < length links = omega arith in
    let before = link_is known links n old is inside read in
    let now : IsLink known n new = record {
      parent_in = subst (λ (p : ℕ). p ≤ length known.headers) (sym kept) before.parent_in;
      jump_in = subst (λ (j : ℕ). j ≤ length known.headers) (sym ends) jump_in;
      parent = subst (λ (p : ℕ). IsParentAt known n p) (sym kept) before.parent;
      jump = subst (λ (j : ℕ). LeadsTo known (header_at known n) (header_at known j)) (sym ends) leads;
    } in
    record {
      known = is.known;
      count = length-set links n new ∙ is.count;
      each = λ k d in_k.
          elim (cases_eq k n) [
            | inl same ↦
                subst (λ (j : ℕ). IsLink known j (get_or (set links n new) j d)) (sym same)
                (subst (λ (l : ChainLink). IsLink known n l) (sym (get_or-set_same links n new d there)) now)
            | inr other ↦
                let long = length-set links n new in
                let in_old : k < length links = omega arith in
                subst (λ (l : ChainLink). IsLink known k l) (sym (get_or-set_other links n k new d other)) (is.each k d in_old)
          ];
    }

-- ---- leading on

-- the parent, where the header at that position is older
pub parent_where_older : (known : Known) (n p : ℕ) → IsParentAt known n p → (header_at known p).view < (header_at known n).view → IsParent (header_at known n) (header_at known p)
parent_where_older known n p is older = elim is [ inl parent ↦ parent | inr none ↦ let low = none.1 in absurd (omega arith) ]

pub none_where_not_older : (known : Known) (n p : ℕ) → IsParentAt known n p → (header_at known n).view ≤ (header_at known p).view → HasNoParent known (header_at known n)
none_where_not_older known n p is low = elim is [ inl parent ↦ let older = parent.1 in absurd (omega arith) | inr none ↦ none.0 ]

pub leads_to_parent : (known : Known) (n p : ℕ) → IsParent (header_at known n) (header_at known p) → LeadsTo known (header_at known n) (header_at known p)
leads_to_parent known n p is =
    linked_up (all_of known) (header_at known p) (header_at known n) (header_at known p) (at_known known n) is (leads_home known p)

pub leads_on : (known : Known) (n m k : ℕ) → LeadsTo known (header_at known n) (header_at known m) → LeadsTo known (header_at known m) (header_at known k) → LeadsTo known (header_at known n) (header_at known k)
leads_on known n m k first second =
    linked_through (all_of known) (header_at known k) (header_at known m) (header_at known n) first.0 first.1 second

-- ---- steps

pub step_by_jump : (known : Known) (n view next : ℕ) → IsKnown known → next ≤ length known.headers → LeadsTo known (header_at known n) (header_at known next)
    → view ≤ (header_at known next).view → (header_at known next).view < (header_at known n).view → IsStep known n view next
step_by_jump known n view next is inside leads low older = record {
  next_in = inside;
  older = older;
  leads = leads;
  past_none = λ a below l.
      let lower : a.view ≤ (header_at known next).view = omega arith in
      linked_past (all_of known) a (header_at known next) (header_at known n) leads.0 (apart known is) lower leads.1 l;
}

pub step_by_parent : (known : Known) (n view next : ℕ) → IsKnown known → next ≤ length known.headers → IsParentAt known n next
    → view < (header_at known n).view → (header_at known next).view < (header_at known n).view → IsStep known n view next
step_by_parent known n view next is inside parent high older =
    let names = parent_where_older known n next parent older in
    record {
      next_in = inside;
      older = older;
      leads = leads_to_parent known n next names;
      past_none = λ a below l.
          let lower : a.view < (header_at known n).view = omega arith in
          linked_down (all_of known) a (header_at known n) (header_at known next) (apart known is) lower (at_known known next) names l;
    }

pub end_at_view : (known : Known) (n view : ℕ) → (header_at known n).view ≤ view → IsEnd known n view
end_at_view known n view low = λ a high l.
    let lower : (header_at known n).view ≤ a.view = omega arith in
    leads_to_itself (all_of known) a (header_at known n) lower l

pub end_without_parent : (known : Known) (n view p : ℕ) → IsParentAt known n p → (header_at known n).view ≤ (header_at known p).view → IsEnd known n view
end_without_parent known n view p is low = λ a high l.
    linked_last (all_of known) a (header_at known n) (none_where_not_older known n p is low) l
