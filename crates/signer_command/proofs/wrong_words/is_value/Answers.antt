use Rattle.std.proofs.Common.{rules}
use Rattle.signer_command.proofs.Values.{sessions_value, source_value}
use Rattle.signer_command.proofs.wrong_words.is_value.Goals as goal

pub returns-then-count-ge1 : goal.returns-then-count-ge1
returns-then-count-ge1 c = sessions_value _ _ c.in-Some.count _ c.in-Sessions.is c.in-Some.ensures (λ yes. (search rules, search rules)) (λ least most. search rules)

pub returns-else-count-ge1 : goal.returns-else-count-ge1
returns-else-count-ge1 c = sessions_value _ _ c.in-Some.count _ c.in-Sessions.is c.in-Some.ensures (λ yes. (search rules, search rules)) (λ least most. search rules)

pub returns-in-Source : goal.returns-in-Source
returns-in-Source c = source_value _ _ c.of.result _ c.in-Source.is (search rules) c.of.ensures
