use Rattle.std.proofs.Common.{◌≡◌, ◌∙◌, ap, length, true}
use Rattle.program_tool.proofs.Noted.{as_many, told_both}
use Rattle.program_tool.proofs.audit.audit_sources.Goals as goal

pub returns-clause-reasons : goal.returns-clause-reasons
returns-clause-reasons g c =
    let many : length c.deref-5.result.now ≡ length c.args.words.now =
    ap length c.deref-5.ensures.value ∙ c.in_ok-servers.ensures ∙ ap length c.deref-2.ensures.value ∙ as_many c.args.words.now c.in_ok-named.named.items c.in_ok-named.ensures.spelled in
    told_both g.Y.Sink.text (c.args.wishes.tells_why ≡ true) (length c.deref-5.result.now) (length c.args.words.now) c.args.extras.now.whys c.audit_servers-end.new.extras.whys c.tell_heard.new.notes many
    c.audit_servers-end.ensures.reasons c.tell_heard.ensures
