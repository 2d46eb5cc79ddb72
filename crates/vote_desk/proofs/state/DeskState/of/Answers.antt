use Rattle.std.proofs.Common.{ℕ, List, length, sym, ap, subst, ◌∙◌}
use Rattle.blocks.specs.Genesis.{chain_id_of}
use Rattle.blocks.specs.Replica.{Stored}
use Rattle.vote_desk.specs.Desks.{KeepsDesk}
use Rattle.vote_desk.proofs.Steps.{keeps_opened}
use Rattle.vote_desk.proofs.Stays.{is_stay}
use Rattle.vote_desk.proofs.state.DeskState.of.Goals as goal

pub invariant_of-result : goal.invariant_of-result
invariant_of-result g c =
    let r = c.requires in
    let p = c.args.parts in
    let committee = c.args.committee.now in
    let At : List ℕ → ℕ → ℕ → Type 0 = λ k n t. KeepsDesk g.D.Disk.bytes g.D.Disk.images k n g.N.DeskNaming.opening (record { core = c.args.core; seeds = p.trees.items; indices = p.index; log = p.log; released = t }) in
    let desk : At committee c.args.replica 0 = keeps_opened g.D.Disk.bytes g.D.Disk.images committee c.args.replica g.N.DeskNaming.opening c.args.core p.trees.items p.index p.log r.keys r.opening r.durable r.chain r.legal r.listed r.genesis r.state in
    record {
      desk = subst (λ (k : List ℕ). At k g.N.DeskNaming.replica c.args.book.total) r.committee (subst (λ (n : ℕ). At committee n c.args.book.total) r.replica (subst (λ (t : ℕ). At committee c.args.replica t) (sym r.none) desk));
      replica_is = r.replica;
      chain_is = c.chain.ensures ∙ ap chain_id_of r.committee;
      opened_is = c.count-opened.ensures.value ∙ ap (λ (l : List Stored). length l) r.opening;
    }

pub returns-clause-stay : goal.returns-clause-stay
returns-clause-stay g c =
    let r = c.requires in
    let p = c.args.parts in
    let committee = c.args.committee.now in
    let At : List ℕ → ℕ → ℕ → Type 0 = λ k n t. KeepsDesk g.D.Disk.bytes g.D.Disk.images k n g.N.DeskNaming.opening (record { core = c.args.core; seeds = p.trees.items; indices = p.index; log = p.log; released = t }) in
    let desk : At committee c.args.replica 0 = keeps_opened g.D.Disk.bytes g.D.Disk.images committee c.args.replica g.N.DeskNaming.opening c.args.core p.trees.items p.index p.log r.keys r.opening r.durable r.chain r.legal r.listed r.genesis r.state in
    let kept = subst (λ (k : List ℕ). At k g.N.DeskNaming.replica c.args.book.total) r.committee (subst (λ (n : ℕ). At committee n c.args.book.total) r.replica (subst (λ (t : ℕ). At committee c.args.replica t) (sym r.none) desk)) in
    is_stay g.D.Disk.bytes g.D.Disk.images g.N.DeskNaming.committee g.N.DeskNaming.replica g.N.DeskNaming.opening (record { core = c.args.core; seeds = p.trees.items; indices = p.index; log = p.log; released = c.args.book.total }) kept
