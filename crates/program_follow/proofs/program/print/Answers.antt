use Rattle.std.proofs.Common.{◌∙◌, ◌++◌, List, Err, ap, inr, refl}
use Rattle.culprit_search.specs.ReportText.{report_text}
use Rattle.culprit_search.specs.declared.report.Commit.{Commit}
use Rattle.culprit_search.specs.declared.writing.ReportError.{ReportError}
use Rattle.base_text.proofs.Pieces.{part_of_front}
use Rattle.program_follow.specs.Followings.{following_lines}
use Rattle.program_follow.proofs.Printing.{cut_behind}
use Rattle.program_follow.proofs.program.print.Goals as goal

pub returns-in-Ok-clause-refused : goal.returns-in-Ok-clause-refused
returns-in-Ok-clause-refused g c =
    cut_behind c.write_out.result g.W.Sink.text c.args.out.now c.write_report.new.sink c.write_out.new.out (report_text c.args.evidence.now.sources c.args.report.now) (following_lines c.args.following.now c.args.report.now.commits ++ c.args.renewal.now) c.deref.result.now
    c.in-Ok.ensures.ok (c.deref.ensures.value ∙ c.in_ok-lines.ensures ∙ ap (λ (commits : List Commit). following_lines c.args.following.now commits ++ c.args.renewal.now) c.commits.ensures) c.write_out.ensures.refused c.write_out.ensures.err

pub returns-clause-refused : goal.returns-clause-refused
returns-clause-refused g c =
    inr (refl, part_of_front _ _ (report_text c.args.evidence.now.sources c.args.report.now) (following_lines c.args.following.now c.args.report.now.commits ++ c.args.renewal.now) (c.in-Err-Sink.ensures.sink (ap (λ (e : ReportError). Err e) c.in-Err-Sink.field-0-is)))
