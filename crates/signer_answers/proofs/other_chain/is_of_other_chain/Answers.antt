use Rattle.std.proofs.Common.{rules, subst}
use Rattle.std.specs.Prelude.{◌↔◌, IsTrue}
use Rattle.certificates.specs.Certificates.{Certificate}
use Rattle.signer_answers.specs.OtherChain.{IsFirstEntry, IsOfChain}
use Rattle.signer_answers.proofs.OneFirst.{told_by_first}
use Rattle.signer_answers.proofs.other_chain.is_of_other_chain.Goals as goal

pub returns-in-Some : goal.returns-in-Some
returns-in-Some c =
    let committee = c.args.committee.now in
    let entry = c.in-Some.entry in
    let first : IsFirstEntry c.args.frames.now.frames entry = search rules in
    told_by_first committee c.args.frames.now.frames entry c.is_of_chain.result first
    (subst (λ (x : Certificate). IsTrue c.is_of_chain.result ↔ IsOfChain committee x) c.certificate.ensures.value c.is_of_chain.ensures)
