-- The names of refusals, as they are printed behind their numbers.
use Rattle.std.specs.Prelude.{ℕ, List, codes}
use Rattle.verdict_format.specs.declared.verdict.VerdictRefusal.{VerdictRefusal}
use Rattle.verdict_format.specs.declared.verdict.VerdictRefusal.TheVariants as verdict
use Rattle.handover_keys.specs.declared.statement.NextKeysRefusal.{NextKeysRefusal}
use Rattle.handover_keys.specs.declared.statement.NextKeysRefusal.TheVariants as next_keys
use Rattle.handover_renewals.specs.declared.format.RenewalFormRefusal.{RenewalFormRefusal}
use Rattle.handover_renewals.specs.declared.format.RenewalFormRefusal.TheVariants as renewal
use Rattle.log_format.specs.declared.entry.EntryRefusal.{EntryRefusal}
use Rattle.log_format.specs.declared.entry.EntryRefusal.TheVariants as entry

abbrev pub verdict_refusal_name : VerdictRefusal → List ℕ
verdict_refusal_name verdict.Short = codes "Short"
verdict_refusal_name verdict.Magic = codes "Magic"
verdict_refusal_name verdict.Kind = codes "Kind"
verdict_refusal_name verdict.Length = codes "Length"

abbrev pub entry_refusal_name : EntryRefusal → List ℕ
entry_refusal_name entry.Memory = codes "Memory"
entry_refusal_name entry.Length = codes "Length"
entry_refusal_name entry.Kind = codes "Kind"
entry_refusal_name entry.Header = codes "Header"
entry_refusal_name entry.Parent = codes "Parent"
entry_refusal_name entry.OwnVote = codes "OwnVote"
entry_refusal_name entry.Certificate = codes "Certificate"

-- .. of the statement in an endorsement
abbrev pub next_keys_refusal_name : NextKeysRefusal → List ℕ
next_keys_refusal_name next_keys.Short = codes "Short"
next_keys_refusal_name next_keys.Magic = codes "Magic"
next_keys_refusal_name next_keys.Count = codes "Count"
next_keys_refusal_name next_keys.Length = codes "Length"
next_keys_refusal_name next_keys.Key = codes "Key"

abbrev pub renewal_refusal_name : RenewalFormRefusal → List ℕ
renewal_refusal_name renewal.Memory = codes "Memory"
renewal_refusal_name renewal.Short = codes "Short"
renewal_refusal_name renewal.Magic = codes "Magic"
renewal_refusal_name renewal.View = codes "View"
renewal_refusal_name renewal.Length = codes "Length"
renewal_refusal_name renewal.Order = codes "Order"
renewal_refusal_name renewal.Count = codes "Count"
