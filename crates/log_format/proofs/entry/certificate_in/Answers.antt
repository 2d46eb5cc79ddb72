use Rattle.std.proofs.Common.{◌≡◌, rules, sym, subst}
use Rattle.certificates.specs.CertificateReading.{certificate_in}
use Rattle.log_format.specs.EntryText.{IsOn}
use Rattle.log_format.specs.EntryReading.{certificate_in_rest}
use Rattle.log_format.proofs.EntryParts.{read_certificate, ok_from}
use Rattle.log_format.proofs.entry.certificate_in.Goals as goal

pub returns-then-not-is_on_parent-clause-refused :
    goal.returns-then-not-is_on_parent-clause-refused
unfolding certificate_in_rest
returns-then-not-is_on_parent-clause-refused c =
    let parent = c.args.parent.now in
    let certificate = c.in-Ok.certificate in
    let is : certificate ≡ certificate_in_rest c.args.rest.now = read_certificate c.args.rest.now certificate (c.in-Ok.ensures.first_refusal (λ h. cc)) in
    let fails : IsOn parent certificate → ⊥ = search rules in
    λ readable. fails (subst (IsOn parent) (sym is) readable.1)

pub returns-clause-ok : goal.returns-clause-ok
unfolding certificate_in_rest
returns-clause-ok c = read_certificate c.args.rest.now c.in-Ok.certificate (c.in-Ok.ensures.first_refusal (λ h. cc))

pub returns-clause-passes : goal.returns-clause-passes
unfolding certificate_in_rest
returns-clause-passes c =
    let parent = c.args.parent.now in
    let certificate = c.in-Ok.certificate in
    let read = c.in-Ok.ensures.first_refusal (λ h. cc) in
    let is : certificate ≡ certificate_in_rest c.args.rest.now = read_certificate c.args.rest.now certificate read in
    let on : IsOn parent certificate = search rules in
    (ok_from (certificate_in c.args.rest.now) certificate (sym read), subst (IsOn parent) is on)
