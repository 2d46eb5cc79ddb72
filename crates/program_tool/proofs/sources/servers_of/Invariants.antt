use Rattle.std.proofs.Common.{◌≡◌, length}
use Rattle.program_tool.proofs.sources.servers_of.Given as goal

abbrev pub invariant-loop-word : goal.invariant-loop-word
invariant-loop-word g l = length l.servers.items ≡ l.word-index
