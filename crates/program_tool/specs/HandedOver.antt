-- What is told of a handover, beside a report.
use Rattle.std.specs.Prelude.{◌≡◌, ◌⊎◌, ℕ, List, [], Option}
use Rattle.base_streams.specs.Streams.{Wrote, WrotePart}
use Rattle.audit_evidence.specs.Evidence.{Evidence}
use Rattle.culprit_search.specs.Reports.{Report}
use Rattle.handover_search.specs.HandoverLines.{IsHandoverLine, IsHandoverText}

-- the line of the handover that this evidence proves, if it proves one, in a text that was nothing otherwise
abbrev pub IsHandoverTold : Evidence → Report → (before after : Option (List ℕ)) → Type 0
IsHandoverTold e r before after = (text : List ℕ) × IsHandoverText e r text × ((text ≡ []) ⊎ Wrote before after text)

-- a first part at least of the line of a handover that some evidence proves, which has this report
pub record TellsHandover (before after : Option (List ℕ)) : Type 0 where
  pub evidence : Evidence
  pub report : Report
  pub line : List ℕ
  pub is : IsHandoverLine evidence report line
  pub wrote : WrotePart before after line
