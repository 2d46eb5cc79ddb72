-- What is heard of a server.
use Rattle.std.specs.Prelude.{ℕ, Bool, true, false, List, codes}
use Rattle.log_request.specs.declared.heard.Heard.{Heard}
use Rattle.log_request.specs.declared.heard.Heard.TheVariants.{Nothing, Named, Unnamed, NoLog}

-- the magic of the answer that there is no log; no export begins so
abbrev pub no_log_text : List ℕ
no_log_text = codes "HSL0"

-- as a number
abbrev pub code_of : Heard → ℕ
code_of Nothing = 0
code_of Named = 1
code_of Unnamed = 2
code_of NoLog = 3

-- by whether its first bytes say that it has no log of the chain
abbrev pub heard_of : Bool → Heard
heard_of false = Named
heard_of true = NoLog
