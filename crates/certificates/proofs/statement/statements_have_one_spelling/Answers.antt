use Rattle.certificates.proofs.StatementLaws.{one_spelling}
use Rattle.certificates.proofs.statement.statements_have_one_spelling.Goals as goal

pub returns : goal.returns
returns c chain chain' view view' id id' long long' fits fits' same =
    one_spelling chain chain' view view' id id' long long' fits fits' same
