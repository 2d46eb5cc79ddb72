use Rattle.audit_run.proofs.Coming.{fetched_fits}
use Rattle.audit_run.proofs.laws.what_a_source_gives_can_be_kept.Goals as goal

pub returns : goal.returns
returns g c s l gives =
    let fits = fetched_fits (g.C.Connector.gives s.connector) s.tries l.frames l.status gives.fetched in
    record { sizes = fits.0; few = fits.1 }
