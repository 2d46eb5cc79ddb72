use Rattle.stable_log.proofs.Moments.{one_write, goes_on}
use Rattle.stable_log.proofs.calls.write_synced.Goals as goal

pub returns-in_err-write_at-clause-any_moment : goal.returns-in_err-write_at-clause-any_moment
returns-in_err-write_at-clause-any_moment g c =
    one_write g.D.Disk.moment g.D.Disk.images_since c.args.disk.now c.write_at.new.self _ _ _ _ (g.met.D.Disk.only_now c.args.disk.now) c.write_at.ensures.crash c.write_at.ensures.time

pub returns-clause-any_moment : goal.returns-clause-any_moment
returns-clause-any_moment g c =
    let wrote = one_write g.D.Disk.moment g.D.Disk.images_since c.args.disk.now c.write_at.new.self _ _ _ _ (g.met.D.Disk.only_now c.args.disk.now) c.write_at.ensures.crash c.write_at.ensures.time in
    goes_on g.D.Disk.moment g.D.Disk.images_since c.args.disk.now c.write_at.new.self c.sync.new.self _ _ wrote c.sync.ensures.time (λ f now. c.write_at.ensures.crash f (c.sync.ensures.crash f now))
