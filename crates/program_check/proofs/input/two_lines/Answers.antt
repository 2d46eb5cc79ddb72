use Rattle.std.proofs.Common.{arith, rules}
use Rattle.program_check.proofs.Splitting.{no_line, nothing_behind, third_line}
use Rattle.program_check.proofs.input.two_lines.Goals as goal

pub returns-in_default-clause-only : goal.returns-in_default-clause-only
returns-in_default-clause-only c first second lines = no_line _ first second (search rules) lines

pub returns-in-None-clause-only : goal.returns-in-None-clause-only
returns-in-None-clause-only c first second lines =
    nothing_behind _ _ c.in-Some.rest.now first second c.in-Some.ensures.some.0 c.in-Some.ensures.some.1 (grind arith) lines

pub returns-in-Some-default-len1-up-clause-only : goal.returns-in-Some-default-len1-up-clause-only
returns-in-Some-default-len1-up-clause-only c first second lines =
    third_line _ _ c.in-Some.rest.now _ _ first second c.in-Some.ensures.some.0 c.in-Some.ensures.some.1
    c.in-Some-default-len1-up.ensures.some.0 c.in-Some-default-len1-up.ensures.some.1 (omega arith) lines
