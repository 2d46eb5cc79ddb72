use Rattle.std.proofs.Common.{◌≡◌, ℕ, ◌+◌, ◌-◌, ◌*◌, take, drop, ap, arith}
use Rattle.vote_log.proofs.Renewed.{put_more}
use Rattle.vote_log.proofs.old_entry.put_endorsements.Goals as goal

pub loop-k-preserved : goal.loop-k-preserved
loop-k-preserved c =
    let old = c.args.old.now in
    let k = c.loop-k.k in
    let size : 1454 * k + 1454 - 1454 * k ≡ 1454 = omega arith in
    put_more c.args.text.now.items c.loop-k.text.items c.put_endorsement.new.text.items old _ k c.loop-k.invariant (ap (λ (n : ℕ). take n (drop (1454 * k) old)) size) c.in_ok-put_endorsement.ensures
