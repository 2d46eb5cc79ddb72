-- What a caller has behind what it was told.
use Rattle.std.specs.Prelude.{◌≡◌, ℕ, List, Option, None}
use Rattle.vote_desk.specs.declared.reply.Receipt.{Receipt}
use Rattle.replica_requests.specs.SessionReceipts.{HasReceipt, receipts_after}
use Rattle.signer_answers.specs.Showings.{HasShowing, Showing}
use Rattle.signer_answers.specs.declared.told.Told.{Told}
use Rattle.signer_answers.specs.declared.told.Told.TheVariants as told

-- the receipts of its session, with that of a new vote
abbrev pub receipts_behind : List Receipt → Told → List Receipt
receipts_behind receipts (told.Came outcome) = receipts_after receipts outcome
receipts_behind receipts _ = receipts

-- the receipt of a new vote that was told is among these
abbrev pub HasItsReceipt : List Receipt → Told → Type 0
HasItsReceipt receipts (told.Came outcome) = HasReceipt receipts outcome
HasItsReceipt receipts _ = Unit {0}

-- who is told that the log was put back has what shows it, of the cell of this name, and nobody else
abbrev pub IsShownBy : ℕ → Told → Option Showing → Type 0
IsShownBy name (told.PutBack ballot) shown = HasShowing name shown
IsShownBy name _ shown = shown ≡ None
