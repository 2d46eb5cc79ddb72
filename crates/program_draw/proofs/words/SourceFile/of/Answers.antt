use Rattle.program_draw.proofs.SourceWords.{tcp_is_no_file}
use Rattle.program_draw.proofs.words.SourceFile.of.Goals as goal

pub returns-in_err-source : goal.returns-in_err-source
returns-in_err-source c = rw c.from_residual.ensures (λ replica path is. c.in_err-source.ensures is.source is.spelled)

pub returns-in-Tcp : goal.returns-in-Tcp
returns-in-Tcp c = tcp_is_no_file c.args.word.now c.in_ok-source.source c.in-Tcp.field-0 c.in-Tcp.is c.in_ok-source.ensures
