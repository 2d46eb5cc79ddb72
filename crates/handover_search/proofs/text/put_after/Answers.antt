use Rattle.handover_search.specs.HandoverLines.{after_text}
use Rattle.handover_search.proofs.Pieces.{by_three}
use Rattle.handover_search.proofs.text.put_after.Goals as goal

pub returns : goal.returns
unfolding after_text
returns c = by_three _ _ _ _ _ _ _ c.in_ok-append.ensures.ok c.in_ok-put_number.ensures.ok c.in_ok-append-2.ensures.ok
