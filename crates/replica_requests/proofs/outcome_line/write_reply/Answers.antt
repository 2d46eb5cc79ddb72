use Rattle.std.proofs.Common.{◌++◌, codes}
use Rattle.base_streams.proofs.Writing.{wrote_both}
use Rattle.base_text.proofs.Pieces.{on_err, on_err_too, part_behind, part_of_front}
use Rattle.replica_requests.specs.OutcomeLines.{answer_text, commit_text}
use Rattle.replica_requests.proofs.outcome_line.write_reply.Goals as goal

pub returns-in_err-write_answer-clause-err : goal.returns-in_err-write_answer-clause-err
returns-in_err-write_answer-clause-err g c =
    let answer = answer_text c.args.reply.now.act in
    let commit = commit_text c.args.reply.now.committed in
    on_err _ _ (part_of_front _ _ (answer ++ commit) (codes "\n") (part_of_front _ _ answer commit c.in_err-write_answer.ensures.err))

pub returns-in_err-write_commit-clause-err : goal.returns-in_err-write_commit-clause-err
returns-in_err-write_commit-clause-err g c =
    let answer = answer_text c.args.reply.now.act in
    let commit = commit_text c.args.reply.now.committed in
    on_err _ _ (part_of_front _ _ (answer ++ commit) (codes "\n") (part_behind _ _ _ answer commit c.in_ok-write_answer.ensures.ok c.in_err-write_commit.ensures.err))

pub returns-clause-err : goal.returns-clause-err
returns-clause-err g c =
    let answer = answer_text c.args.reply.now.act in
    let commit = commit_text c.args.reply.now.committed in
    let front = wrote_both _ _ _ answer commit c.in_ok-write_answer.ensures.ok c.in_ok-write_commit.ensures.ok in
    on_err_too c.write_all.result _ _ (λ last. part_behind _ _ _ (answer ++ commit) (codes "\n") front last) c.write_all.ensures.err
