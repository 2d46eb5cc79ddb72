use Rattle.std.proofs.Common.{◌∙◌, nat_eq, sym, rules, tests}
use Rattle.std.proofs.lemmas.Iterator.{YieldsList-from_slice}
use Rattle.std.proofs.lemmas.Iterator.Search.{any_from_yields_List}
use Rattle.verdict_format.specs.Verdicts.{replica_in}
use Rattle.culprit_search.proofs.Accused.{any_read}
use Rattle.culprit_search.proofs.auditing.is_accused.Goals as goal

pub returns : goal.returns
returns c =
    any_from_yields_List (λ v. nat_eq c.args.replica (replica_in v)) _ _ _ c.any.ensures.ran (YieldsList-from_slice c.args.verdicts.now cc) (λ x b q k. search (rules, tests))
    ∙ sym (any_read (nat_eq c.args.replica) replica_in c.args.verdicts.now)
