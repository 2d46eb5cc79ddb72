use Rattle.std.proofs.Common.{length, sym, subst, rules, ◌∙◌}
use Rattle.std.proofs.lemmas.Bool.{true≢false}
use Rattle.vote_desk.specs.Receipts.{AreReceipts}
use Rattle.vote_desk.specs.Desks.{DeskView}
use Rattle.vote_desk.proofs.ClosedLogs.{images_keep}
use Rattle.vote_desk.proofs.Stays.{is_stay, receipts_stand}
use Rattle.vote_desk.proofs.Numbers.{in_order, receipts-permutation}
use Rattle.vote_desk.proofs.closing.close_on.Goals as goal

pub returns-clause-images : goal.returns-clause-images
returns-clause-images g c =
    let core = c.into_parts-core.result.0 in
    let parts = c.into_parts-core.result.1 in
    let receipts = c.sort.new.receipts.items in
    let d : DeskView _ = record { core = core; seeds = parts.trees.items; indices = parts.index; log = parts.log; released = c.into_parts-core.result.2.total } in
    let are : AreReceipts (length g.N.DeskNaming.opening) parts.log.steps receipts = search rules in
    images_keep g.D.Disk.bytes g.D.Disk.images g.N.DeskNaming.committee g.N.DeskNaming.replica g.N.DeskNaming.opening d receipts c.into_parts-core.ensures.keeps are

pub returns-clause-stay : goal.returns-clause-stay
returns-clause-stay g c =
    let core = c.into_parts-core.result.0 in
    let parts = c.into_parts-core.result.1 in
    let keeps = c.into_parts-core.ensures.keeps in
    let are : AreReceipts (length g.N.DeskNaming.opening) parts.log.steps c.sort.new.receipts.items = search rules in
    let d : DeskView _ = record { core = core; seeds = parts.trees.items; indices = parts.index; log = parts.log; released = c.into_parts-core.result.2.total } in
    let stay = is_stay g.D.Disk.bytes g.D.Disk.images g.N.DeskNaming.committee g.N.DeskNaming.replica g.N.DeskNaming.opening d keeps in
    record { life = stay.life; found = stay.found }

pub returns-clause-released : goal.returns-clause-released
returns-clause-released g c =
    let parts = c.into_parts-core.result.1 in
    let receipts = c.sort.new.receipts.items in
    let are : AreReceipts (length g.N.DeskNaming.opening) parts.log.steps receipts = search rules in
    receipts_stand (length g.N.DeskNaming.opening) parts.log.steps receipts are

pub returns-clause-order : goal.returns-clause-order
returns-clause-order g c =
    let parts = c.into_parts-core.result.1 in
    let receipts = c.sort.new.receipts.items in
    let are : AreReceipts (length g.N.DeskNaming.opening) parts.log.steps receipts = search rules in
    in_order receipts c.sort.ensures.sorted are.own

pub are_receipts-requires-clause-sorted : goal.are_receipts-requires-clause-sorted
are_receipts-requires-clause-sorted g c = rw c.deref.ensures.value c.sort.ensures.sorted

pub returns-then-not-are_receipts-clause-mismatch :
    goal.returns-then-not-are_receipts-clause-mismatch
returns-then-not-are_receipts-clause-mismatch g c is given =
    let parts = c.into_parts-core.result.1 in
    let before = subst (AreReceipts (length g.N.DeskNaming.opening) parts.log.steps) (sym c.in-Ok.ensures.receipts) given in
    let sorted = receipts-permutation (length g.N.DeskNaming.opening) parts.log.steps c.in-Ok.receipts.items c.sort.new.receipts.items c.sort.ensures.same before in
    let here : AreReceipts c.into_parts-core.result.3 c.steps.result.now c.deref.result.now = rw (c.into_parts-core.ensures.opened, c.steps.ensures.value, c.deref.ensures.value) sorted in
    true≢false (sym (c.are_receipts.ensures.1 here) ∙ c.if-not-are_receipts.true)

pub returns-in_default-clause-left : goal.returns-in_default-clause-left
returns-in_default-clause-left g c =
    let core = c.into_parts-core.result.0 in
    let parts = c.into_parts-core.result.1 in
    let released = c.into_parts-core.result.2.total in
    let d : DeskView _ = record { core = core; seeds = parts.trees.items; indices = parts.index; log = parts.log; released = released } in
    (core, released, is_stay g.D.Disk.bytes g.D.Disk.images g.N.DeskNaming.committee g.N.DeskNaming.replica g.N.DeskNaming.opening d c.into_parts-core.ensures.keeps)

pub returns-then-not-are_receipts-clause-left : goal.returns-then-not-are_receipts-clause-left
returns-then-not-are_receipts-clause-left g c =
    let core = c.into_parts-core.result.0 in
    let parts = c.into_parts-core.result.1 in
    let released = c.into_parts-core.result.2.total in
    let d : DeskView _ = record { core = core; seeds = parts.trees.items; indices = parts.index; log = parts.log; released = released } in
    (core, released, is_stay g.D.Disk.bytes g.D.Disk.images g.N.DeskNaming.committee g.N.DeskNaming.replica g.N.DeskNaming.opening d c.into_parts-core.ensures.keeps)
