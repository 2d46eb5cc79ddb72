use Rattle.program_answers.proofs.Names.{committee_names, verdict_names}
use Rattle.program_answers.proofs.naming.refusals_have_their_names.Goals as goal

pub returns : goal.returns
returns c = record { of_verdicts = verdict_names; of_committees = committee_names }
