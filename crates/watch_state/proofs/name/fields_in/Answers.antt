use Rattle.std.proofs.Common.{Some, ap, codes}
use Rattle.watch_state.proofs.Naming.{begins_so, behind_log, behind_place, behind_replica, behind_source, none_read, same_fields, some_read}
use Rattle.watch_state.specs.declared.name.PartName.{PartName}
use Rattle.watch_state.proofs.name.fields_in.Goals as goal

pub returns-in_err-replica : goal.returns-in_err-replica
returns-in_err-replica c = λ name is spelled.
    absurd (c.in_err-replica.ensures name.replica (behind_replica name) is.replica (begins_so _ name spelled))

pub returns-in_err-source : goal.returns-in_err-source
returns-in_err-source c = λ name is spelled.
    let replica = c.in_ok-replica.ensures name.replica (behind_replica name) is.replica (begins_so _ name spelled) in
    absurd (c.in_err-source.ensures name.source (behind_source name) is.source replica.1)

pub returns-in_err-log : goal.returns-in_err-log
returns-in_err-log c = λ name is spelled.
    let replica = c.in_ok-replica.ensures name.replica (behind_replica name) is.replica (begins_so _ name spelled) in
    let source = c.in_ok-source.ensures name.source (behind_source name) is.source replica.1 in
    absurd (c.in_err-log.ensures name.log (behind_log name) is.log source.1)

pub returns-in_err-place : goal.returns-in_err-place
returns-in_err-place c = λ name is spelled.
    let replica = c.in_ok-replica.ensures name.replica (behind_replica name) is.replica (begins_so _ name spelled) in
    let source = c.in_ok-source.ensures name.source (behind_source name) is.source replica.1 in
    let log = c.in_ok-log.ensures name.log (behind_log name) is.log source.1 in
    absurd (c.in_err-place.ensures name.place (behind_place name) is.place log.1)

pub returns-in_err-front : goal.returns-in_err-front
returns-in_err-front c = λ name is spelled.
    let replica = c.in_ok-replica.ensures name.replica (behind_replica name) is.replica (begins_so _ name spelled) in
    let source = c.in_ok-source.ensures name.source (behind_source name) is.source replica.1 in
    let log = c.in_ok-log.ensures name.log (behind_log name) is.log source.1 in
    let place = c.in_ok-place.ensures name.place (behind_place name) is.place log.1 in
    absurd (none_read _ (c.in_err-front.ensures name.front (codes ".hsl") is.front place.1))

pub returns : goal.returns
returns c = λ name is spelled.
    let replica = c.in_ok-replica.ensures name.replica (behind_replica name) is.replica (begins_so _ name spelled) in
    let source = c.in_ok-source.ensures name.source (behind_source name) is.source replica.1 in
    let log = c.in_ok-log.ensures name.log (behind_log name) is.log source.1 in
    let place = c.in_ok-place.ensures name.place (behind_place name) is.place log.1 in
    let front = some_read _ _ (c.in_ok-front.ensures name.front (codes ".hsl") is.front place.1) in
    ap (λ (n : PartName). Some n) (same_fields _ name.replica _ name.source _ name.log _ name.place _ name.front replica.0 source.0 log.0 place.0 front)
