-- What came of a connection, piece by piece.
use Rattle.std.proofs.Common.{◌≡◌, ◌++◌, ◌∙◌, ℕ, List, sym, ap, subst, refl}
use Rattle.std.proofs.lemmas.List.{append_assoc, append-nil}
use Rattle.log_transfer.specs.Connections.{Connection, behind, ended, failing}
use Rattle.log_reading.specs.Answers.{IsAnswer}
use Rattle.log_reading.specs.declared.answer.End.TheVariants.{Ended, Failing, Stopped}

-- what is left may be given behind what came
abbrev pub Leaves : (gives left : Connection → Type 0) → List ℕ → Type 0
Leaves gives left text = (c : Connection) → left c → gives (behind text c)

pub leaves_more : (gives old new : Connection → Type 0) (text more piece : List ℕ) → Leaves gives old text → more ≡ text ++ piece → ((c : Connection) → new c → old (behind piece c)) → Leaves gives new more
leaves_more gives old new text more piece so_far is step c w =
    let e : behind more c ≡ behind text (behind piece c) =
    ap (λ (xs : List ℕ). record { text = xs; fails = c.fails }) (ap (λ (xs : List ℕ). xs ++ c.text) is ∙ append_assoc text piece c.text) in
    subst gives (sym e) (so_far (behind piece c) (step c w))

pub answer_ended : (gives left : Connection → Type 0) (text : List ℕ) → Leaves gives left text → left ended → IsAnswer gives text Ended
answer_ended gives left text so_far end = record { connection = behind text ended; given = so_far ended end; ends = (append-nil text, refl) }

pub answer_failing : (gives left : Connection → Type 0) (text : List ℕ) → Leaves gives left text → left failing → IsAnswer gives text Failing
answer_failing gives left text so_far end = record { connection = behind text failing; given = so_far failing end; ends = (append-nil text, refl) }

pub answer_stopped : (gives left : Connection → Type 0) (text : List ℕ) → Leaves gives left text → (c : Connection) → left c → IsAnswer gives text Stopped
answer_stopped gives left text so_far c may = record { connection = behind text c; given = so_far c may; ends = (c.text, refl) }
