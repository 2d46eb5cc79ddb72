use Rattle.std.proofs.Common.{◌∙◌, arith, eq-eqb, refl}
use Rattle.std.proofs.lemmas.Bool.Decides.{Decides-eqb}
use Rattle.log_request.specs.Hearing.{no_log_text}
use Rattle.log_request.proofs.FirstBytesLaws.{all_there}
use Rattle.log_request.proofs.first_bytes.FirstBytes.say_no_log.Goals as goal

pub returns-else-self-eq-FIRST : goal.returns-else-self-eq-FIRST
returns-else-self-eq-FIRST c = (
  λ whole. absurd (c.if-self-eq-FIRST.false ((Decides-eqb c.self.inside.have 4).0 whole)),
  λ same. eq-eqb c.self.inside.have 4 (all_there c.self.inside.bytes no_log_text c.self.inside.have (omega arith) (omega arith) (c.self.view_is ∙ same) refl),
)
