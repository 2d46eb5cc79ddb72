use Rattle.std.proofs.Common.{List, ℕ, refl, subst}
use Rattle.watch_collector.specs.Parts.{IsMadeOf, IsPartOn, Making, PartValue, part_log}
use Rattle.watch_collector.proofs.MadeParts.{finished}
use Rattle.watch_collector.proofs.making.PartMaker.finish.Goals as goal

pub returns : goal.returns
returns c =
    let s = c.self.inside in
    let m : Making = record { replica = s.replica; gathered = s.gathered; frames = s.frames; entries = s.entries } in
    let p : PartValue = record { listing = c.in_ok-in_order.field-0; report = record { replica = s.replica; status = c.args.status; frames = s.frames; entries = s.entries } } in
    subst (λ (x : Making). (committee : List ℕ) (frames : List (List ℕ)) → IsMadeOf committee frames x → IsPartOn committee (part_log x.replica frames c.args.status) p) c.self.view_is
    (λ committee frames made. finished committee frames m c.args.status p made c.in_ok-in_order.ensures refl)
