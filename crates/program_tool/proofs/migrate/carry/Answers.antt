use Rattle.std.proofs.Common.{◌∙◌, subst}
use Rattle.blocks.specs.Headers.{Header}
use Rattle.blocks.specs.Replay.{IsLegal}
use Rattle.program_tool.proofs.migrate.carry.Goals as goal

pub returns-in-Ok-clause-log : goal.returns-in-Ok-clause-log
returns-in-Ok-clause-log g c =
    let runs = c.in-Ok.ensures.running in (
      c.count.ensures.value ∙ runs.counted,
      c.in-Ok.log,
      record {
        runs = runs;
        legal = subst (λ (h : Header). IsLegal h c.in-Ok.log.steps) runs.genesis_is c.steps-steps.ensures.legal;
        same = c.in-Ok.ensures.ok;
      },
    )
