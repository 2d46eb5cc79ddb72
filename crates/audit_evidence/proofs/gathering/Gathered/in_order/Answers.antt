use Rattle.std.proofs.Common.{◌∙◌, ◌↔◌, List, ap, subst}
use Rattle.std.specs.List.{Contains}
use Rattle.certificates.specs.declared.vote.SignedVote.{SignedVote}
use Rattle.audit_evidence.specs.Gathering.{Gathered}
use Rattle.audit_evidence.proofs.gathering.Gathered.in_order.Goals as goal

pub returns : goal.returns
returns g c = record {
  committee = ap (λ (g : Gathered). g.committee) c.self.view_is;
  headers = c.in_ok-copies.ensures ∙ c.deref.ensures.value ∙ c.in_ok-into_vec.ensures.headers ∙ ap (λ (g : Gathered). g.headers) c.self.view_is;
  votes = λ v.
      subst (λ (vs : List SignedVote). Contains c.in_ok-into_vec-2.field-0.items v ↔ Contains vs v) (ap (λ (g : Gathered). g.votes) c.self.view_is)
      (c.in_ok-into_vec-2.ensures.votes v);
}
