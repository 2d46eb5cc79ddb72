use Rattle.std.proofs.Common.{rules}
use Rattle.signer_calls.proofs.OverBodies.{more_behind, no_second, no_third}
use Rattle.signer_calls.proofs.over_body.three_in.Goals as goal

pub returns-in_default-2 : goal.returns-in_default-2
returns-in_default-2 c = no_second _ c.in-Some.first.renewal c.in-Some.first.file (search rules) (search rules)

pub returns-in_default-3 : goal.returns-in_default-3
returns-in_default-3 c =
    no_third _ c.in-Some.first.renewal c.in-Some.first.file c.in-Some-2.second.renewal c.in-Some-2.second.file (search rules) (search rules) (search rules)

pub returns-then-len-gt0 : goal.returns-then-len-gt0
returns-then-len-gt0 c =
    more_behind _ c.in-Some.first.renewal c.in-Some.first.file c.in-Some-2.second.renewal c.in-Some-2.second.file c.in-Some-3.third.renewal c.in-Some-3.third.file
    (search rules) (search rules) (search rules) (search rules)
