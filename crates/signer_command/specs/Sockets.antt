-- Where the sockets of a signer are.
use Rattle.std.specs.Prelude.{option_map, string_bytes}
use Rattle.signer_command.specs.Lines.{Places}
use Rattle.signer_command.specs.declared.stay.Sockets.{Sockets}

abbrev pub places_of : Sockets → Places
places_of sockets = record {
  calls = string_bytes sockets.calls.name;
  reads = option_map (λ place. string_bytes place.name) sockets.reads;
  log = option_map (λ place. string_bytes place.name) sockets.log;
}
