use Rattle.std.proofs.Common.{◌∙◌, inl, inr, sym, subst}
use Rattle.std.specs.Prelude.{IsTrue}
use Rattle.std.specs.List.{Contains}
use Rattle.std.proofs.lemmas.Bool.{false≢true}
use Rattle.audit_evidence.specs.Gathering.{Gathered}
use Rattle.watch_collector.proofs.Judging.{in_both}
use Rattle.watch_collector.proofs.growing.Growing.has_vote.Goals as goal

pub returns-else-contains : goal.returns-else-contains
returns-else-contains c =
    let v = c.args.vote.now in
    let r = c.contains-else-contains.result in
    let both = in_both c.self.inside.good c.self.inside.bad v in
    subst (λ (g : Gathered). (IsTrue r → Contains g.votes v) × (Contains g.votes v → IsTrue r)) c.self.view_is (
      λ t. both.1 (inr (c.contains-else-contains.ensures.0 t)),
      λ m. elim (both.0 m) [ inl g ↦ absurd (false≢true (sym c.if-contains.false ∙ c.contains.ensures.1 g)) | inr b ↦ c.contains-else-contains.ensures.1 b ],
    )
