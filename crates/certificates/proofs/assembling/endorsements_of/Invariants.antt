use Rattle.std.proofs.Common.{◌≡◌, take}
use Rattle.std.specs.Prelude.{map}
use Rattle.std.specs.List.{All}
use Rattle.certificates.specs.Assembling.{endorsement_of}
use Rattle.certificates.specs.Certificates.{IsEndorsement}
use Rattle.certificates.proofs.assembling.endorsements_of.Given as goal

abbrev pub invariant-loop-vote : goal.invariant-loop-vote
invariant-loop-vote l = record {
  made : l.entries.items ≡ map endorsement_of (take l.vote-index l.votes);
  fits : All IsEndorsement l.entries.items;
}
