use Rattle.std.proofs.Common.{◌∙◌}
use Rattle.watch_desk.proofs.DeskRounds.{no_commit_twice, no_conflict_twice, no_culprit_twice, no_handover_twice}
use Rattle.watch_desk.proofs.laws.nothing_is_told_twice.Goals as goal

pub returns-clause-commits : goal.returns-clause-commits
returns-clause-commits c e f r s old mid new first second k h g one two = no_commit_twice old.commits r.commits mid.commits k s.commits h.commits one two

pub returns-clause-culprits : goal.returns-clause-culprits
returns-clause-culprits c e f r s old mid new first second v w h g one two same =
    no_culprit_twice old.verdicts r.verdicts mid.verdicts s.verdicts v w h.verdicts one two same

pub returns-clause-conflict : goal.returns-clause-conflict
returns-clause-conflict c e f r s old mid new first second k h g was is = no_conflict_twice mid.conflict s.conflict k (h.conflict ∙ was) is

pub returns-clause-handover : goal.returns-clause-handover
returns-clause-handover c e f r s old mid new first second h g one two =
    no_handover_twice old.handover h.handover g.handover mid.handover h.told_handover one g.may_be.once two
