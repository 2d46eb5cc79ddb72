use Rattle.std.proofs.Common.{◌≤◌, ℕ, List, length, rules, subst, subst₂, take}
use Rattle.handover_steps.specs.Steps.{Step}
use Rattle.program_about.specs.LineageSheets.{IsSheetWith}
use Rattle.program_about.proofs.lineage.sheet_in.Goals as goal

pub returns : goal.returns
returns c =
    let place = c.in-Some.place in
    let lineage = c.args.lineage.now in
    let verdict = c.args.verdict.now in
    let sheet = c.in_ok-sheet_with.field-0 in
    record {
      root = c.args.root.now;
      is_root = search rules;
      files = c.args.files.now;
      lineage = lineage;
      is_lineage = c.requires;
      place = place;
      within = subst (λ (steps : List Step). place ≤ length steps) c.steps.ensures c.in-Some.ensures;
      verdict = verdict;
      sheet = subst₂ (λ (committee : List ℕ) (steps : List Step). IsSheetWith committee (take place steps) verdict sheet.status sheet.text.items)
          c.in-Some-committee_at.ensures c.steps-2.ensures c.in_ok-sheet_with.ensures;
    }
