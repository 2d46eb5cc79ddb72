use Rattle.verdict_format.specs.RuleNumbers.{rule_number}
use Rattle.program_about.proofs.Pieces.{on_ok, sheet_of_parts}
use Rattle.program_about.proofs.sheet.put_sheet.Goals as goal

pub returns : goal.returns
returns c =
    on_ok c.put_limits.result _ _ c.put_limits.ensures (λ last.
    sheet_of_parts c.args.committee.now c.args.bytes.now c.in-Ok.verdict c.bytes.result.now c.chain.result c.args.text.now.items c.put_accused.new.text.items c.put_rule.new.text.items
    c.put_votes.new.text.items c.put_files.new.text.items c.put_limits.new.text.items c.replica.result (rule_number c.rule.result) c.in-Ok.ensures.ok.0 c.replica.ensures c.rule.ensures c.chain.ensures
    c.bytes.ensures.text c.in_ok-put_accused.ensures c.in_ok-put_rule.ensures c.in_ok-put_votes.ensures c.in_ok-put_files.ensures last)
