use Rattle.std.proofs.Common.{◌≡◌, ◌++◌, drop}
use Rattle.log_request.specs.HeardLines.{heard_text}
use Rattle.log_request.proofs.lines.heard_text.Given as goal

-- the text so far, and behind it that of the rest
abbrev pub invariant-loop-i : goal.invariant-loop-i
invariant-loop-i l = l.text.items ++ heard_text l.i (drop l.i l.heard) ≡ heard_text 0 l.heard
