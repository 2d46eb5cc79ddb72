use Rattle.std.proofs.Common.{refl}
use Rattle.ancestry.proofs.Ids.{apart}
use Rattle.ancestry.proofs.Walks.{linked_is, ancestor_is}
use Rattle.blocks.specs.Headers.{header_id}
use Rattle.ancestry.proofs.laws.an_id_names_one_header.Goals as goal

pub returns-clause-apart : goal.returns-clause-apart
returns-clause-apart c known is h k in_h in_k same = apart known is h k in_h in_k same

pub returns-clause-linked : goal.returns-clause-linked
returns-clause-linked c known h is there = (λ l. linked_is known (header_id h) h is there refl l, λ l. (h, refl, l))

pub returns-clause-ancestor : goal.returns-clause-ancestor
returns-clause-ancestor c known h k is in_h in_k =
    (λ l. ancestor_is known (header_id h) (header_id k) h k is in_h in_k refl refl l, λ l. (h, k, refl, refl, l))
