use Rattle.signer_command.specs.Sockets.{places_of}
use Rattle.signer_command.proofs.Printing.{announced_whole, ended_counts, ended_part, over_counts}
use Rattle.signer_command.proofs.program.stay_and_announce.Goals as goal

pub returns-in-Ok-clause-done : goal.returns-in-Ok-clause-done
returns-in-Ok-clause-done g c =
    let places = places_of c.args.halls.now.sockets.now in
    record {
      places = places;
      backed = c.in-Ok.ensures.backed;
      wrote = announced_whole _ _ _ _ _ places _ c.in-Ok.ensures.over c.requires.text c.joined-ended.ensures.announced;
    }

pub returns-in-Ok-clause-counted : goal.returns-in-Ok-clause-counted
returns-in-Ok-clause-counted g c = over_counts _ _ _ _ _ _ c.in-Ok.ensures.over c.joined-ended.ensures.announced

pub returns-in-Err-clause-given_up : goal.returns-in-Err-clause-given_up
returns-in-Err-clause-given_up g c =
    ended_part _ _ _ _ _ _ (places_of c.args.halls.now.sockets.now) _ c.requires.text c.joined-ended.ensures.announced c.in-Err.ensures.refused

pub returns-in-Err-clause-counted : goal.returns-in-Err-clause-counted
returns-in-Err-clause-counted g c = ended_counts _ _ _ _ _ _ _ c.joined-ended.ensures.announced c.in-Err.ensures.refused
