use Rattle.std.proofs.Common.{refl}
use Rattle.vote_log.proofs.Renewed.{certificate_put, rest_from}
use Rattle.vote_log.proofs.old_entry.put_certificate.Goals as goal

pub returns : goal.returns
returns c =
    certificate_put c.args.text.now.items c.append.new.text.items c.put_endorsements.new.text.items c.args.rest.now _ _ c.u16_at.result c.u16_at.ensures refl (rest_from c.args.rest.now 42)
    c.in_ok-append.ensures.ok c.in_ok-put_endorsements.ensures
