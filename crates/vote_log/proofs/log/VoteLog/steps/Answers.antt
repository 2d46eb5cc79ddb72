use Rattle.std.proofs.Common.{List, ℕ, subst}
use Rattle.stable_log.specs.Image.{StandsFor}
use Rattle.stable_log.proofs.Told.{some_if}
use Rattle.vote_log.proofs.LogLaws.{listed_of, texts_are}
use Rattle.vote_log.proofs.log.VoteLog.steps.Goals as goal

pub returns-clause-listed : goal.returns-clause-listed
returns-clause-listed g c =
    rw (← c.self.view_is) (some_if (g.D.Disk.bytes c.self.inside.journal.disk) _ (λ bs is. listed_of c.self.inside.journal.payloads c.self.inside.steps.items (c.self.invariant.listed bs is)))

pub returns-clause-durable : goal.returns-clause-durable
returns-clause-durable g c =
    let j = c.self.inside.journal in
    rw (← c.self.view_is) (λ running. some_if (g.D.Disk.bytes j.disk) _ (λ bs is image left.
    subst (λ (l : List (List ℕ)). StandsFor image l) (texts_are j.payloads (c.self.invariant.listed bs is).each) (c.self.invariant.durable running bs is image left)))
