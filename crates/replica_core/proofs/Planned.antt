-- Plans and their effect.
use Rattle.std.proofs.Common.{◌≡◌, ◌⊎◌, ℕ, ◌<◌, List, ◌∷◌, Bool, true, false, cond, nat_lt, refl, sym, ◌∙◌, subst, inl, inr}
use Rattle.std.specs.List.{Contains}
use Rattle.blocks.specs.Headers.{Header, NamesParent, header_id, IsGenesis}
use Rattle.blocks.specs.Chains.{IsChain}
use Rattle.blocks.specs.Replica.{ReplicaState, Vote, Raise, after, voted_in}
use Rattle.blocks.specs.Replay.{Durable, durable_of, replay_entry, LockLooksAtTheParent}
use Rattle.replica_core.specs.declared.plan.Plan.{Plan}
use Rattle.replica_core.specs.Admission.{IsAdmissible}
use Rattle.replica_core.specs.Cores.{Core, state_of}
use Rattle.replica_core.specs.Plans.{IsActOn, CommitsBy, HasRoomFor, IsPlan}
use Rattle.replica_core.proofs.Trees.{AllIn-cons}

pub place_from : (c : Core) (b : Header) → IsAdmissible c b → Contains c.headers b ⊎ ((Contains c.headers b → ⊥) × (0 < c.room)) → Contains c.headers b ⊎ HasRoomFor c b
place_from c b a room =
    elim room [
      | inl m ↦ inl m
      | inr r ↦ elim a.place [
        | inl m ↦ inl m
        | inr l ↦ inr (record { room = r.1; place = l; new_id = λ h m e. r.0 (at h m e) })
      ]
    ]
  where
    at : (h : Header) → Contains c.headers h → header_id h ≡ header_id b → Contains c.headers b
    at h m e = subst (λ (x : Header). Contains c.headers x) (a.own_id h (m, e)) m

pub plan_from : (c : Core) (plan : Plan) → Contains c.headers plan.parent → NamesParent plan.block plan.parent → plan.parent.view < plan.block.view → ((ps : List Header) → IsChain c.genesis plan.block (plan.parent ∷ ps) → IsActOn c.genesis c.state plan.block (plan.parent ∷ ps) plan.act) → CommitsBy c plan.parent plan.committed → Contains c.headers plan.block ⊎ HasRoomFor c plan.block → IsPlan c plan
plan_from c plan m n l act k place =
    let chain : IsChain c.genesis plan.block (plan.parent ∷ k.below) = (n, l, k.chain.is_chain) in
    record {
      below = k.below;
      chain = record { is_chain = chain; held = AllIn-cons c.headers plan.parent k.below m k.chain.held };
      act = act k.below chain;
      committed = k.committed;
      place = place;
    }

-- ---- the state after an act

either : (v : ℕ) (t : Bool) (x y : Durable) → state_of v (cond t x y) ≡ cond t (state_of v x) (state_of v y)
either v true x y = refl
either v false x y = refl

pub voted : LockLooksAtTheParent → (g : Header) (s : ReplicaState) (b p : Header) → IsGenesis g → (ps : List Header) → IsChain g b (p ∷ ps) → state_of b.view (replay_entry (durable_of s) true b p) ≡ after s (Vote b (p ∷ ps))
voted law g s b p is_genesis ps k =
    either b.view (nat_lt s.lock_view p.parent_view) (let d : Durable = record { stored_vote_view = b.view; lock_id = p.parent; lock_view = p.parent_view } in d) (durable_of (voted_in s b.view))
    ∙ sym (law g (voted_in s b.view) b p ps is_genesis k)

pub raised : LockLooksAtTheParent → (g : Header) (s : ReplicaState) (b p : Header) → IsGenesis g → (ps : List Header) → IsChain g b (p ∷ ps) → state_of s.vote_view (replay_entry (durable_of s) false b p) ≡ after s (Raise b (p ∷ ps))
raised law g s b p is_genesis ps k =
    either s.vote_view (nat_lt s.lock_view p.parent_view) (let d : Durable = record { stored_vote_view = s.stored_vote_view; lock_id = p.parent; lock_view = p.parent_view } in d) (durable_of s)
    ∙ sym (law g s b p ps is_genesis k)
