-- Plans, against the core before room was made.
use Rattle.std.proofs.lemmas.Bool.{iff_false}
use Rattle.std.proofs.Common.{◌≡◌, ◌≢◌, ◌↔◌, Bool, true, false, IsTrue, inl, inr, List, ◌∷◌, refl, subst}
use Rattle.blocks.specs.Headers.{Header}
use Rattle.blocks.specs.Chains.{AllIn, IsChain}
use Rattle.blocks.specs.Replica.{ReplicaState}
use Rattle.replica_core.specs.declared.plan.Act.{Act}
use Rattle.replica_core.specs.declared.plan.Act.TheVariants as act
use Rattle.replica_core.specs.declared.plan.Plan.{Plan}
use Rattle.replica_core.specs.Admission.{IsAdmissible}
use Rattle.replica_core.specs.Cores.{Core, IsSameCore}
use Rattle.replica_core.specs.Plans.{IsActOn, IsChainOf, IsPlan}
use Rattle.vote_desk.specs.Deliveries.{IsPlanned}
use Rattle.vote_desk.specs.DeskRefusals.{AsksToStore, IsRunning, IsStopped}
use Rattle.vote_desk.specs.Desks.{DeskView}

chain_back : (old new : Core) (b : Header) (ps : List Header) → IsSameCore old new → IsChainOf new b ps → IsChainOf old b ps
chain_back old new b ps same k = record {
  is_chain = subst (λ (g : Header). IsChain g b ps) same.genesis k.is_chain;
  held = subst (λ (hs : List Header). AllIn hs ps) same.headers k.held;
}

act_back : (old new : Core) (b : Header) (ps : List Header) (a : Act) → IsSameCore old new → IsActOn new.genesis new.state b ps a → IsActOn old.genesis old.state b ps a
act_back old new b ps a same on =
    subst (λ (s : ReplicaState). IsActOn old.genesis s b ps a) same.state (subst (λ (g : Header). IsActOn g new.state b ps a) same.genesis on)

pub planned_back : (old new : Core) (plan : Plan) (b : Header) → IsSameCore old new → (k : IsPlan new plan) → plan.block ≡ b → IsPlanned old b plan.parent k.below plan.act plan.committed
planned_back old new plan b same k is =
    subst (λ (h : Header). IsPlanned old h plan.parent k.below plan.act plan.committed) is
    (record {
      chain = chain_back old new plan.block (plan.parent ∷ k.below) same k.chain;
      act = act_back old new plan.block (plan.parent ∷ k.below) plan.act same k.act;
      committed = k.committed;
    })

asks : {D : Type 0} (d : DeskView D) (b p : Header) (below : List Header) (a : Act) → IsRunning d → IsAdmissible d.core b → IsChainOf d.core b (p ∷ below) → IsActOn d.core.genesis d.core.state b (p ∷ below) a → a ≢ act.Pass → AsksToStore d b
asks d b p below act.Vote running passes chain on some = inl (record { running = running; admissible = passes; must = (p, below, chain, on) })
asks d b p below act.Raise running passes chain on some = inr (record { running = running; admissible = passes; must = (p, below, chain, on) })
asks d b p below act.Pass running passes chain on some = absurd (some refl)

-- what a plan that is not to do nothing asks for
pub asks_to_store : {D : Type 0} (d : DeskView D) (new : Core) (plan : Plan) (b : Header) → IsRunning d → IsAdmissible d.core b → IsSameCore d.core new → IsPlan new plan → plan.block ≡ b → plan.act ≢ act.Pass → AsksToStore d b
asks_to_store d new plan b running passes same k is some =
    let planned = planned_back d.core new plan b same k is in
    asks d b plan.parent k.below plan.act running passes planned.chain planned.act some

not_true : (b : Bool) → (b ≡ true → ⊥) → b ≡ false
not_true true n = absurd (n refl)
not_true false n = refl

pub running_where : {D : Type 0} (d : DeskView D) (r : Bool) → IsTrue r ↔ IsStopped d → r ≡ false → IsRunning d
running_where d r means is =
    let no : IsStopped d → ⊥ = λ s. iff_false means is s in
    record { log = not_true d.log.stopped (λ e. no (inl e)); indices = not_true d.indices.stopped (λ e. no (inr e)) }
