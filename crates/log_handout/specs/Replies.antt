-- What answers a request of either kind. docs/FORMATS.md, 'Request for a chain'.
use Rattle.std.specs.Prelude.{◌≡◌, ℕ, List, Option, Some, None, length, true, false}
use Rattle.log_request.specs.declared.asking.Asked.{Asked}
use Rattle.log_request.specs.declared.asking.Asked.TheVariants.{Frames, OtherChain}
use Rattle.log_request.specs.declared.asking.TheConstants.{NO_LOG}
use Rattle.stable_log.specs.declared.disk.Disk.{Ghosts}
use Rattle.vote_log.specs.declared.export_error.ExportError.{ExportError}
use Rattle.vote_log.specs.declared.export_error.ExportError.TheVariants.{Memory}
use Rattle.vote_desk.specs.Desks.{DeskView}
use Rattle.log_handout.specs.Handouts.{IsPiece, IsUnmade, begun, next_entry, wanted}
use Rattle.log_handout.specs.declared.reply.Reply.{Reply}
use Rattle.log_handout.specs.declared.reply.Reply.TheVariants.{Log, NoLog}

-- frames are answered by those of the list that some desk has, and another chain by the word that there is no log of it
abbrev pub IsBegun : {D : Type 0} → ((DeskView D → Type 0) → Type 0) → Asked → Reply → Type 0
IsBegun SomeOne (Frames r) (Log h) = SomeOne (λ d. h ≡ begun r (length d.log.steps))
IsBegun SomeOne OtherChain (NoLog is_said) = is_said ≡ false
IsBegun SomeOne _ _ = ⊥

-- what goes out next: of a log its next piece; else the eight bytes, then nothing
abbrev pub IsReplyPiece : {D : Type 0} → ((DeskView D → Type 0) → Type 0) → (D → Option (List ℕ)) → ℕ → Reply → Reply → Option (List ℕ) → Type 0
IsReplyPiece SomeOne bytes share (Log h) (Log h') piece = IsPiece SomeOne bytes share h h' piece
IsReplyPiece SomeOne bytes share (NoLog false) (NoLog true) piece = piece ≡ Some NO_LOG
IsReplyPiece SomeOne bytes share (NoLog true) (NoLog true) piece = piece ≡ None
IsReplyPiece SomeOne bytes share _ _ piece = ⊥

-- nothing is made: of a log as its pieces are not, else for want of memory
abbrev pub IsReplyUnmade : {D : Type 0} → Ghosts D → (DeskView D → Type 0) → Reply → ℕ → ExportError → Type 0
IsReplyUnmade disk IsDesk (Log h) share e = IsUnmade disk IsDesk (next_entry h) (wanted h share) e
IsReplyUnmade disk IsDesk (NoLog is_said) share e = e ≡ Memory
