use Rattle.std.proofs.Common.{◌≡◌, ◌≢◌, ◌∙◌, ◌∷◌, ℕ, List, [], inl, inr, sym, ap, arith, rules, drop, length, refl, get_or}
use Rattle.std.proofs.lemmas.List.{take_rest}
use Rattle.std.proofs.lemmas.Bool.Decides.{nat_tests}
use Rattle.log_export.proofs.Gates.{entry_is, damaged_gate, open_text}
use Rattle.log_export.proofs.splitting.gate_of.Goals as goal

pub returns-in-Some : goal.returns-in-Some
returns-in-Some c =
    let gate = open_text c.args.rest.now (grind (arith, nat_tests)) c.if-rest-ne1.false in
    (omega arith, entry_is c.args.rest.now _ _ _ gate c.in-Some.ensures)

pub returns-in-None : goal.returns-in-None
returns-in-None c =
    let gate = open_text c.args.rest.now (grind (arith, nat_tests)) c.if-rest-ne1.false in
    damaged_gate c.args.count c.args.rest.now _ gate (inr c.in-None.ensures)
