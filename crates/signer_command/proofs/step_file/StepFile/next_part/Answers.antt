use Rattle.std.proofs.Common.{rules}
use Rattle.signer_command.proofs.Handed.{front_told, none_told, share_told}
use Rattle.signer_command.proofs.step_file.StepFile.next_part.Goals as goal

pub returns-then-self-lt-LEN_BYTES-clause-part : goal.returns-then-self-lt-LEN_BYTES-clause-part
returns-then-self-lt-LEN_BYTES-clause-part g c = front_told _ c.in_ok-len.len _ c.to_be_bytes.result _ c.in_ok-len.ensures.told (search rules) (search rules) c.in_ok-part.ensures

pub returns-then-at-len-clause-part : goal.returns-then-at-len-clause-part
returns-then-at-len-clause-part g c = none_told _ c.in_ok-len.len _ c.in_ok-len.ensures.told (search rules) (search rules)

pub returns-clause-part : goal.returns-clause-part
returns-clause-part g c = share_told _ c.in_ok-len.len _ _ _ c.in_ok-len.ensures.told (search rules) (search rules) (search rules) (search rules)
