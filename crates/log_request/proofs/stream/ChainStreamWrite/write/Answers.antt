use Rattle.std.proofs.Common.{◌≡◌, ◌∙◌, None, ap, sym}
use Rattle.log_request.proofs.NamingLaws.{none_of, sent}
use Rattle.log_request.proofs.stream.ChainStreamWrite.write.Goals as goal

pub returns-clause-bytes : goal.returns-clause-bytes
returns-clause-bytes g c =
    let chain = c.args.self.now.server.now.chain in
    let bytes = c.args.bytes.now in
    let contents = g.D.Stream.Write.contents in
    let none : c.args.self.now.connection ≡ None = none_of _ (sym c.is_some.ensures ∙ c.if-is_some.false) in
    rw none (sent g.D.Dial.tells contents chain c.named.result c.in-Some.request bytes c.in_ok-stream.ensures.is_request.chain c.in-Some.ensures.found.1
    (λ tells. ap contents c.named.ensures.stream ∙ c.in_ok-stream.ensures.sent tells))
