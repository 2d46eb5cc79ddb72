use Rattle.blocks.proofs.Restarts.{attached_have_events, run_goes_on, fitted_is_stored}
use Rattle.blocks.proofs.laws.run_goes_on_from_its_list.Goals as goal

pub returns : goal.returns
returns c = record { events = attached_have_events; goes_on = run_goes_on; fitted = fitted_is_stored }
