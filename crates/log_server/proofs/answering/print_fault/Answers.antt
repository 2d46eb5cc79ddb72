use Rattle.log_server.proofs.answering.print_fault.Goals as goal

pub returns-clause-printed : goal.returns-clause-printed
returns-clause-printed g c = rw (← c.number.ensures, ← c.from.ensures) c.print_number.ensures.printed
