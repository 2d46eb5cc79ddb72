-- Each refusal's number has its name.
use Rattle.std.proofs.Common.{◌≡◌, refl}
use Rattle.std.specs.Prelude.{Some}
use Rattle.blocks.specs.CommitteeReading.{committee_refusal_number}
use Rattle.blocks.specs.declared.committee.CommitteeRefusal.{CommitteeRefusal}
use Rattle.blocks.specs.declared.committee.CommitteeRefusal.TheVariants as committee
use Rattle.verdict_checker.specs.Checks.{refusal_name, refusal_number}
use Rattle.verdict_checker.specs.declared.refusal.Refusal.{Refusal}
use Rattle.verdict_checker.specs.declared.refusal.Refusal.TheVariants.{Short, Magic, Kind, Length, Chain, Replica, KeyNumber, HeaderMismatch, NoRuleBroken, SignatureE, SignatureW}
use Rattle.program_answers.specs.Naming.{committee_name, committee_refusal_name, verdict_name}

pub verdict_names : (r : Refusal) → verdict_name (refusal_number r) ≡ Some (refusal_name r)
unfolding verdict_name
verdict_names Short = refl
verdict_names Magic = refl
verdict_names Kind = refl
verdict_names Length = refl
verdict_names Chain = refl
verdict_names Replica = refl
verdict_names KeyNumber = refl
verdict_names HeaderMismatch = refl
verdict_names NoRuleBroken = refl
verdict_names SignatureE = refl
verdict_names SignatureW = refl

pub committee_names : (r : CommitteeRefusal) → committee_name (committee_refusal_number r) ≡ Some (committee_refusal_name r)
unfolding committee_name
committee_names committee.Length = refl
committee_names committee.Magic = refl
committee_names committee.Size = refl
committee_names (committee.KeyCount r) = refl
committee_names (committee.Key k) = refl
committee_names (committee.SameKey j k) = refl
committee_names (committee.Weight r) = refl
