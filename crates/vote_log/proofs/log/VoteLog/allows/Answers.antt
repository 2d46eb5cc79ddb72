use Rattle.std.proofs.Common.{◌↔◌, IsTrue, subst}
use Rattle.blocks.specs.Replica.{Stored}
use Rattle.blocks.specs.Replay.{IsLegalEntry}
use Rattle.log_format.specs.EntryText.{stored_in}
use Rattle.vote_log.proofs.LogLaws.{legal_where}
use Rattle.vote_log.proofs.log.VoteLog.allows.Goals as goal

pub returns : goal.returns
returns g c =
    let log = c.args.self.now in
    let x = stored_in c.args.entry.now in
    let d = c.replayed.result in
    let asked : IsTrue c.allows.result ↔ IsLegalEntry d x.voted x.block x.parent =
    subst (λ (s : Stored). IsTrue c.allows.result ↔ IsLegalEntry d s.voted s.block s.parent) c.stored.ensures c.allows.ensures in
    let means = legal_where log.genesis d log.steps x c.replayed.ensures.value c.replayed.ensures.legal in
    (λ t. means.0 (asked.0 t), λ legal. asked.1 (means.1 legal))
