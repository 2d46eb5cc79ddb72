use Rattle.std.proofs.Common.{◌<◌, ◌∙◌, sym, arith}
use Rattle.std.proofs.lemmas.Bool.{false≢true}
use Rattle.blocks.specs.Committees.{n_of}
use Rattle.handover_blocks.specs.OldKeys.{IsKeyOfReplica}
use Rattle.handover_blocks.proofs.Below.{one_more_below}
use Rattle.handover_steps.proofs.taken.is_key_of.Goals as goal

pub loop-r-preserved : goal.loop-r-preserved
loop-r-preserved c =
    one_more_below (λ s. IsKeyOfReplica c.args.committee.now s c.args.key.now → ⊥) c.loop-r.r c.loop-r.invariant
    (λ m. false≢true (sym c.if-has_key.false ∙ c.has_key.ensures.1 m))

pub returns : goal.returns
returns c = (
  λ t. absurd (false≢true t),
  λ m. (
      let value = c.n-r-end.ensures.value in
      let past = c.loop-r-test.false in
      let known : m.0 < n_of c.args.committee.now = m.1 in
      absurd (c.loop-r.invariant m.0 (omega arith) m.2)
      ),
)
