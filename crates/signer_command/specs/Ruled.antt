-- What the words ask for, as it reaches those who answer.
use Rattle.std.specs.Prelude.{◌≡◌, ℕ, List, [], ◌∷◌, Bool, true, false, String, map, string_bytes}
use Rattle.std.specs.declared.alloc.Global.{Global}
use Rattle.signer_calls.specs.declared.rules.Rules.{Rules}
use Rattle.signer_command.specs.declared.listening.Listener.{Listener}
use Rattle.signer_command.specs.declared.listening.Listener.TheVariants as heard
use Rattle.program_parts.specs.declared.words.SourceWord.{SourceWord}
use Rattle.signer_command.specs.declared.stay.Sockets.{Sockets}
use Rattle.signer_command.specs.declared.words.Where.{Where}
use Rattle.signer_command.specs.declared.words.Where.TheVariants as asked
use Rattle.signer_command.specs.declared.words.Words.{Words}

-- calls come over TCP, as the words ask
abbrev pub is_asked_over_tcp : Where → Bool
is_asked_over_tcp (asked.Tcp address) = true
is_asked_over_tcp place = false

-- .. as the socket is
abbrev pub is_heard_over_tcp : Listener → Bool
is_heard_over_tcp (heard.Tcp listener) = true
is_heard_over_tcp (heard.Unix listener lock) = false

abbrev pub names_of : List (String Global) → List (List ℕ)
names_of hosts = map string_bytes hosts

-- what callers of a socket are let do, by the words
pub record AreRulesOf (words : Words) (over_tcp reads_only : Bool) (rules : Rules) : Type 0 where
  pub tcp : rules.over_tcp ≡ over_tcp
  pub reads : rules.reads_only ≡ reads_only
  pub furthest : rules.furthest ≡ words.furthest
  pub hosts : names_of rules.hosts.items ≡ names_of words.hosts.items

-- others are asked where the words name sources
abbrev pub asks_of : List SourceWord → Bool
asks_of [] = false
asks_of (source ∷ sources) = true

-- those at the socket for calls, and those who only read, which come over TCP
pub record AreRuled (words : Words) (sockets : Sockets) : Type 0 where
  pub calls : AreRulesOf words (is_asked_over_tcp words.listen) false sockets.call_rules
  pub reads : AreRulesOf words true true sockets.read_rules
