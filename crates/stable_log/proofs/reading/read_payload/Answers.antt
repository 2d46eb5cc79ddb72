use Rattle.std.proofs.Common.{◌≡◌, ◌+◌, ℕ, get_or, take, drop, sym, ap, ◌∙◌, arith}
use Rattle.byteorder.specs.Endian.{big_bytes}
use Rattle.stable_log.proofs.ReadingLemmas.{entry_at, first_of_piece}
use Rattle.stable_log.proofs.OneList.{broken_entry, broken_size}
use Rattle.stable_log.proofs.reading.read_payload.Goals as goal
use Rattle.stable_log.proofs.reading.read_payload.Goals.{then-len-eq0-via-then-len-eq0, then-len-eq0-via-else-len-eq0+then-len, then-len-eq0-via-else-len-eq0+else-len+then-len-size}

pub returns-then-size-gate_at-lt5-clause-first_refusal :
    goal.returns-then-size-gate_at-lt5-clause-first_refusal
returns-then-size-gate_at-lt5-clause-first_refusal g c = λ bs is size_is.
    let gate = c.in_ok-read.ensures.told bs is in
    let opened : get_or bs c.args.gate_at 0 ≡ 1 = first_of_piece bs c.args.gate_at c.read.new.out gate.1 ∙ c.if-gate-ne1.false in
    broken_entry bs c.args.gate_at (omega (arith, size_is)) opened (λ payload is_payload sized fits. omega (arith, size_is, fits))

pub returns-then-len-eq0-clause-first_refusal : goal.returns-then-len-eq0-clause-first_refusal
returns-then-len-eq0-clause-first_refusal g c = λ bs is size_is.
    let gate = c.in_ok-read.ensures.told bs is in
    let text = c.in_ok-read-2.ensures.told bs (c.in_ok-read.ensures.unwritten.same ∙ is) in
    let opened : get_or bs c.args.gate_at 0 ≡ 1 = first_of_piece bs c.args.gate_at c.read.new.out gate.1 ∙ c.if-gate-ne1.false in
    let sized : take 4 (drop (c.args.gate_at + 1) bs) ≡ big_bytes 4 c.from-len.result = sym text.1 ∙ sym c.number.ensures ∙ ap (λ (n : ℕ). big_bytes 4 n) (sym c.from-len.ensures) in
    broken_size bs c.args.gate_at c.from-len.result (omega (arith, size_is)) opened (omega arith) sized (λ some small fits.
    elim c.then-len-eq0.branch [
      | then-len-eq0-via-then-len-eq0 w ↦ omega arith
      | then-len-eq0-via-else-len-eq0+then-len w ↦ omega arith
      | then-len-eq0-via-else-len-eq0+else-len+then-len-size w ↦ omega (arith, size_is)
    ])

pub returns-clause-told : goal.returns-clause-told
returns-clause-told g c = λ bs is size_is.
    let gate = c.in_ok-read.ensures.told bs is in
    let text = c.in_ok-read-2.ensures.told bs (c.in_ok-read.ensures.unwritten.same ∙ is) in
    let opened : get_or bs c.args.gate_at 0 ≡ 1 = first_of_piece bs c.args.gate_at c.read.new.out gate.1 ∙ c.if-gate-ne1.false in
    let sized : take 4 (drop (c.args.gate_at + 1) bs) ≡ big_bytes 4 c.from-len.result = sym text.1 ∙ sym c.number.ensures ∙ ap (λ (n : ℕ). big_bytes 4 n) (sym c.from-len.ensures) in
    entry_at bs c.args.gate_at c.from-len.result (omega (arith, size_is)) (omega arith) (omega arith) opened sized
