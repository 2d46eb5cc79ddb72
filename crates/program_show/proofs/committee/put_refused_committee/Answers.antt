use Rattle.std.proofs.Common.{codes}
use Rattle.program_show.specs.Lines.{refused_committee_line}
use Rattle.program_show.proofs.Longer.{on_ok, three_pieces}
use Rattle.program_show.proofs.committee.put_refused_committee.Goals as goal

pub returns : goal.returns
unfolding refused_committee_line
returns c =
    on_ok c.append-3.result _ _ c.append-3.ensures.ok (λ last.
    three_pieces c.args.text.now.items (codes "refused committee ") c.args.why.now (codes "\n") c.append.new.text.items c.append-2.new.text.items c.append-3.new.text.items
    c.in_ok-append.ensures.ok c.in_ok-append-2.ensures.ok last)
