-- The part of the log that a query asks for.
use Rattle.std.specs.Prelude.{unwrap_or}
use Rattle.signer_calls.specs.declared.log_part.LogPart.{LogPart}
use Rattle.signer_calls.specs.declared.log_part.TheConstants.{MOST_ENTRIES_AT_ONCE}
use Rattle.signer_calls.specs.declared.query.Query.{Query}

-- what is left out is 0 and 64
abbrev pub part_of : Query → LogPart
part_of query = record { first = unwrap_or query.first 0; most = unwrap_or query.most MOST_ENTRIES_AT_ONCE }
