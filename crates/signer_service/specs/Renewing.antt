-- Whether a committee renews this one, and the line that tells it.
use Rattle.std.specs.Prelude.{◌≡◌, ◌++◌, [], ℕ, List, Option, Some, None, Result, Ok, Err, IsOk, codes, decimal}
use Rattle.hex.specs.Hex.{encode_lower}
use Rattle.http_server.specs.declared.response.Response.{Response}
use Rattle.blocks.specs.Committees.{IsCommittee}
use Rattle.blocks.specs.CommitteeReading.{committee_in}
use Rattle.blocks.specs.Weights.{total_of}
use Rattle.handover_blocks.specs.Handovers.{handover_payload}
use Rattle.handover_renewals.specs.RenewalReading.{form_refusal_name, form_refusal_number, renewal_in}
use Rattle.handover_renewals.specs.RenewalRefusals.{IsRenewalRefusal, renewal_refusal_name, renewal_refusal_number, slot_refused}
use Rattle.handover_renewals.specs.Renewals.{Renewal}
use Rattle.handover_renewals.specs.Renewing.{Renews}
use Rattle.handover_renewals.specs.Slots.{new_weight}
use Rattle.handover_renewals.specs.declared.format.RenewalFormRefusal.TheVariants as form
use Rattle.handover_renewals.specs.declared.judging.RenewalRefusal.{RenewalRefusal}
use Rattle.signer_answers.specs.Approvals.{Telling}
use Rattle.signer_answers.specs.declared.approver.NextFault.{NextFault}
use Rattle.signer_answers.specs.declared.approver.NextFault.TheVariants as next
use Rattle.vote_desk.specs.declared.desk_error.DeskError.TheVariants as desk
use Rattle.signer_service.specs.Crossings.{refused_committee_line}
use Rattle.signer_service.specs.ToldLines.{IsDeskTold}
use Rattle.signer_service.specs.Responses.{IsLine, IsPassing, named_line}
use Rattle.signer_service.specs.declared.renewing.Renewing.{Renewing}
use Rattle.signer_service.specs.declared.renewing.NotRenewing.{NotRenewing}
use Rattle.signer_service.specs.declared.renewing.NotRenewing.TheVariants as why

-- ---- what is judged

-- these bytes are a renewal by which the committee of the file renews this one; its payload, and how much new slots and all weigh
pub record IsJudged (committee renewal file : List ℕ) (it : Renewing) : Type 0 where
  pub by : Renewal
  pub reads : renewal_in renewal ≡ Ok by
  pub whole : IsCommittee file
  pub renews : Renews committee file by
  pub payload : it.payload ≡ handover_payload file
  pub new : it.new ≡ new_weight committee file
  pub of : it.of ≡ total_of committee

-- the first test that is not passed: of the renewal's bytes, but for want of memory, of the file, and of both beside this committee
abbrev pub IsRenewalRefused : (committee renewal file : List ℕ) → NotRenewing → Type 0
IsRenewalRefused committee renewal file (why.Form form.Memory) = IsOk (renewal_in renewal)
IsRenewalRefused committee renewal file (why.Form refusal) = renewal_in renewal ≡ Err refusal
IsRenewalRefused committee renewal file (why.Committee refusal) = IsOk (renewal_in renewal) × (committee_in file ≡ Err refusal)
IsRenewalRefused committee renewal file (why.Refused refusal) =
    (by : Renewal) × (renewal_in renewal ≡ Ok by) × IsCommittee file × IsRenewalRefusal refusal committee file by
IsRenewalRefused committee renewal file _ = ⊥

-- a committee renews this one, and the replica has its keys there
pub record IsRenewing (committee : List ℕ) (tells : Telling) (renewal file : List ℕ) (it : Renewing) : Type 0 where
  pub judged : IsJudged committee renewal file it
  pub own : tells.has_keys file

-- .. or why it is none such; that the replica has other keys there, or what its next ones are, is told of one that renews
abbrev pub IsShown : List ℕ → Telling → (renewal file : List ℕ) → Result Renewing NotRenewing → Type 0
IsShown committee tells renewal file (Ok it) = IsRenewing committee tells renewal file it
IsShown committee tells renewal file (Err why.NotMine) = (it : Renewing) × IsJudged committee renewal file it
IsShown committee tells renewal file (Err (why.Next fault)) = (it : Renewing) × IsJudged committee renewal file it
IsShown committee tells renewal file (Err refusal) = IsRenewalRefused committee renewal file refusal

-- ---- what is told

-- "renews PAYLOAD new S of W"
abbrev pub renews_line : Renewing → List ℕ
renews_line it =
    codes "renews " ++ encode_lower it.payload ++ codes " new " ++ decimal it.new ++ codes " of " ++ decimal it.of ++ codes "\n"

abbrev pub slot_text : Option ℕ → List ℕ
slot_text (Some slot) = codes " " ++ decimal slot
slot_text None = []

-- "refused successor N NAME SLOT"
abbrev pub refused_slot_line : RenewalRefusal → List ℕ
refused_slot_line refusal =
    codes "refused successor " ++ decimal (renewal_refusal_number refusal) ++ codes " " ++ renewal_refusal_name refusal
    ++ slot_text (slot_refused refusal) ++ codes "\n"

-- the response tells why the next keys can't be told: keys that are made, and memory, may be there soon
abbrev pub IsNextFaultTold : NextFault → Response → Type 0
IsNextFaultTold next.Memory response = IsDeskTold desk.Memory response
IsNextFaultTold next.Making response = IsPassing (codes "making keys\n") response
IsNextFaultTold next.Stopped response = IsLine 500 (codes "stopped next\n") response

-- the response tells what came of a committee that was shown
abbrev pub IsRenewingTold : Result Renewing NotRenewing → Response → Type 0
IsRenewingTold (Ok it) response = IsLine 200 (renews_line it) response
IsRenewingTold (Err (why.Form form.Memory)) response = IsDeskTold desk.Memory response
IsRenewingTold (Err (why.Form refusal)) response =
    IsLine 422 (named_line (codes "refused renewal ") (form_refusal_number refusal) (form_refusal_name refusal)) response
IsRenewingTold (Err (why.Committee refusal)) response = IsLine 422 (refused_committee_line refusal) response
IsRenewingTold (Err (why.Refused refusal)) response = IsLine 422 (refused_slot_line refusal) response
IsRenewingTold (Err why.NotMine) response = IsLine 422 (codes "refused successor 12 NotMine\n") response
IsRenewingTold (Err (why.Next fault)) response = IsNextFaultTold fault response
