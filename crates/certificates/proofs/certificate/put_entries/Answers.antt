use Rattle.std.proofs.Common.{◌++◌, ◌≤◌, List, [], length, ap, ◌∙◌, arith}
use Rattle.std.specs.List.{flat_map}
use Rattle.std.proofs.lemmas.List.{take_all}
use Rattle.certificates.specs.declared.certificate.Endorsement.{Endorsement}
use Rattle.certificates.specs.Certificates.{endorsement_text}
use Rattle.certificates.proofs.Entries.{put_more}
use Rattle.certificates.proofs.certificate.put_entries.Goals as goal

pub loop-e-preserved : goal.loop-e-preserved
loop-e-preserved c =
    put_more c.args.text.now.items c.loop-e.text.items c.put_entry.new.text.items c.args.entries.now c.loop-e.e-index
    (record { replica = 0; key = 0; signature = [] }) c.loop-e-test.true c.loop-e.invariant c.in_ok-put_entry.ensures

pub returns : goal.returns
returns c =
    let end : length c.args.entries.now ≤ c.loop-e.e-index = omega arith in
    c.loop-e.invariant ∙ ap (λ (es : List Endorsement). c.args.text.now.items ++ flat_map endorsement_text es) (take_all c.loop-e.e-index c.args.entries.now end)
