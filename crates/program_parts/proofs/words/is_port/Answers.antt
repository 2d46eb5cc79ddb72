use Rattle.std.proofs.Common.{◌≡◌, ◌<◌, ◌^◌, inl, inr, arith, rules}
use Rattle.std.specs.Prelude.{decimal}
use Rattle.program_parts.proofs.Addresses.{no_port}
use Rattle.program_parts.proofs.words.is_port.Goals as goal
use Rattle.program_parts.proofs.words.is_port.Goals.{then-number-lt1-via-then-number-lt1, then-number-lt1-via-else-number-lt1+then-number-from}

pub returns-then-number-lt1 : goal.returns-then-number-lt1
returns-then-number-lt1 c =
    let spelled : c.args.port.now ≡ decimal c.in-Some.number = search rules in
    let fits : c.in-Some.number < 2 ^ 64 = search rules in (
      λ yes. search rules,
      λ p.
          elim c.then-number-lt1.branch [
            | then-number-lt1-via-then-number-lt1 w ↦ let below : c.in-Some.number < 1 = search rules in absurd (no_port c.args.port.now c.in-Some.number spelled fits (inl below) p)
            | then-number-lt1-via-else-number-lt1+then-number-from w ↦ let above : 65535 < c.in-Some.number = search rules in absurd (no_port c.args.port.now c.in-Some.number spelled fits (inr above) p)
          ],
    )
