use Rattle.std.proofs.Common.{arith, refl, sym, ◌<◌, length}
use Rattle.blocks.specs.Committees.{member_text}
use Rattle.blocks.proofs.CommitteeLaws.{members-take}
use Rattle.blocks.proofs.committee.write_weighted_committee.Goals as goal

pub loop-member-preserved : goal.loop-member-preserved
loop-member-preserved c =
    let below : c.loop-member.member-index < length c.args.members.now = omega arith in
    rw (c.in_ok-put_member.ensures, c.loop-member.invariant, members-take member_text c.args.members.now c.loop-member.member-index c.member-item.result below, sym c.member-item.is) refl
