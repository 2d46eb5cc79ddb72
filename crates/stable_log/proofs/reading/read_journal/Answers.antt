use Rattle.std.proofs.Common.{◌≡◌, true, sym, ◌∙◌, arith, rules}
use Rattle.std.proofs.lemmas.Bool.{false≢true}
use Rattle.stable_log.specs.Image.{magic}
use Rattle.stable_log.proofs.Told.{some_if, ok_maps, err_maps}
use Rattle.stable_log.proofs.ReadingLemmas.{recover_refusal}
use Rattle.stable_log.proofs.reading.read_journal.Goals as goal

pub read_payloads-requires : goal.read_payloads-requires
read_payloads-requires g c = λ bs is.
    let is1 = sym c.in_ok-read.ensures.unwritten.same ∙ is in
    let is0 = sym c.in_ok-size.ensures.unwritten.same ∙ is1 in
    let head = c.in_ok-read.ensures.told bs is1 in
    let good : c.read.new.out ≡ magic = search rules in
    ((c.in_ok-size.ensures.told bs is0).0, sym head.1 ∙ good, omega arith)

pub returns-clause-told : goal.returns-clause-told
returns-clause-told g c =
    ok_maps c.read_payloads.result _ _ c.read_payloads.ensures.told (λ r told bs is.
    let is1 = c.in_ok-size.ensures.unwritten.same ∙ is in
    let t = told bs (c.in_ok-read.ensures.unwritten.same ∙ is1) in
    (t.0, t.1, λ image left. (c.in_ok-size.ensures.told bs is).1 image (c.in_ok-read.ensures.unwritten.no_new image (c.read_payloads.ensures.unwritten.no_new image left))))

pub returns-then-not-is_magic-clause-first_refusal :
    goal.returns-then-not-is_magic-clause-first_refusal
returns-then-not-is_magic-clause-first_refusal g c = some_if (g.D.Disk.bytes c.args.disk.now) _ (λ bs is front.
    let head = c.in_ok-read.ensures.told bs (c.in_ok-size.ensures.unwritten.same ∙ is) in
    let good : c.read.new.out ≡ magic = head.1 ∙ front in
    let yes : c.is_magic.result ≡ true = c.is_magic.ensures.1 good in
    false≢true (sym c.if-not-is_magic.true ∙ yes))

pub returns-clause-first_refusal : goal.returns-clause-first_refusal
returns-clause-first_refusal g c =
    err_maps c.read_payloads.result _ _ c.read_payloads.ensures.first_refusal (λ e fault.
    recover_refusal _ _ e fault (c.in_ok-read.ensures.unwritten.same ∙ c.in_ok-size.ensures.unwritten.same) (λ bs is.
    let head = c.in_ok-read.ensures.told bs (c.in_ok-size.ensures.unwritten.same ∙ is) in
    let good : c.read.new.out ≡ magic = search rules in
    sym head.1 ∙ good))
