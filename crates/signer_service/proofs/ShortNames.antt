-- Names that fit into a line.
use Rattle.std.proofs.Common.{◌≤◌, length, arith}
use Rattle.handover_light.specs.LightProofReading.{form_refusal_name}
use Rattle.handover_light.specs.LightProofRefusals.{light_proof_refusal_name}
use Rattle.handover_light.specs.declared.format.LightProofFormRefusal.{LightProofFormRefusal}
use Rattle.handover_light.specs.declared.format.LightProofFormRefusal.TheVariants as form
use Rattle.handover_light.specs.declared.judging.LightProofRefusal.{LightProofRefusal}
use Rattle.handover_light.specs.declared.judging.LightProofRefusal.TheVariants as proof
use Rattle.handover_renewals.specs.RenewalRefusals.{renewal_refusal_name}
use Rattle.handover_renewals.specs.declared.judging.RenewalRefusal.{RenewalRefusal}
use Rattle.handover_renewals.specs.declared.judging.RenewalRefusal.TheVariants.{Chain, File, Format, Size, Weight, KeyCount, KeyId, Unsigned, KeyNumber, Signature, TooFew}

pub name_is_short : (refusal : RenewalRefusal) → length (renewal_refusal_name refusal) ≤ 20
name_is_short Chain = omega arith
name_is_short File = omega arith
name_is_short Format = omega arith
name_is_short Size = omega arith
name_is_short (Weight s) = omega arith
name_is_short (KeyCount s) = omega arith
name_is_short (KeyId s) = omega arith
name_is_short (Unsigned s) = omega arith
name_is_short (KeyNumber s) = omega arith
name_is_short (Signature s) = omega arith
name_is_short TooFew = omega arith

pub form_name_is_short : (refusal : LightProofFormRefusal) → length (form_refusal_name refusal) ≤ 20
form_name_is_short form.Memory = omega arith
form_name_is_short form.Short = omega arith
form_name_is_short form.Magic = omega arith
form_name_is_short form.Number = omega arith
form_name_is_short form.Length = omega arith
form_name_is_short (form.Header k) = omega arith
form_name_is_short (form.Order c) = omega arith
form_name_is_short (form.Count c) = omega arith

pub proof_name_is_short : (refusal : LightProofRefusal) → length (light_proof_refusal_name refusal) ≤ 20
proof_name_is_short proof.NoHandover = omega arith
proof_name_is_short proof.Views = omega arith
proof_name_is_short (proof.Parent k) = omega arith
proof_name_is_short (proof.OtherBlock c) = omega arith
proof_name_is_short (proof.UnknownReplica c) = omega arith
proof_name_is_short (proof.TooFew c) = omega arith
proof_name_is_short (proof.Vote c k) = omega arith
