-- Where two lineages part.
use Rattle.std.proofs.Common.{ℕ, List, [], ◌∷◌, sym, ◌∙◌, subst, inl, inr}
use Rattle.blocks.proofs.Members.{Contains-first, Contains-later}
use Rattle.handover_blocks.specs.Handovers.{IsLineage}
use Rattle.handover_blocks.specs.HandoverLaws.{LineagesPartAtOneCommittee}
use Rattle.handover_blocks.proofs.Texts.{one_or_two}

pub part : LineagesPartAtOneCommittee
part root [] ys l m = inl tt
part root (x ∷ xs) [] l m = inl tt
part root (x ∷ xs) (y ∷ ys) l m =
    elim (one_or_two x.new y.new) [
      | inl e ↦ elim (part x.new xs ys l.2 (subst (λ (r : List ℕ). IsLineage r ys) (sym e) m.2)) [
        | inl alike ↦ inl (e, alike)
        | inr p ↦ inr (
          p.0,
          p.1,
          record {
            in_first = Contains-later x xs p.0 p.2.in_first;
            in_second = Contains-later y ys p.1 p.2.in_second;
            one_committee = p.2.one_committee;
            first = p.2.first;
            second = p.2.second;
            differ = p.2.differ;
          },
        )
      ]
      | inr d ↦ inr (
        x,
        y,
        record {
          in_first = Contains-first x xs;
          in_second = Contains-first y ys;
          one_committee = l.0 ∙ sym m.0;
          first = l.1;
          second = m.1;
          differ = d;
        },
      )
    ]
