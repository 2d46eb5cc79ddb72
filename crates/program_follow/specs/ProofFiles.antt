-- What is put of a proof at the place for it.
use Rattle.std.specs.Prelude.{◌≡◌, ◌⊎◌, ◌++◌, ◌∷◌, [], ℕ, List, Option, Some, IfSome, take}
use Rattle.blocks.specs.Headers.{Header}
use Rattle.audit_evidence.specs.Evidence.{Evidence}
use Rattle.handover_proof.specs.Proofs.{ProveHandover}
use Rattle.handover_proof.specs.LightMaking.{IsLightProofOf}
use Rattle.handover_light.specs.LightProofs.{LightProof, IsLightProof, light_proof_text}
use Rattle.program_follow.specs.declared.following.Following.{Following}
use Rattle.program_follow.specs.declared.following.Following.TheVariants.{Conflict, New, Another, Nobody}

-- the place has these files behind those before, where it tells what it has
abbrev pub Put : Option (List (List ℕ)) → Option (List (List ℕ)) → List (List ℕ) → Type 0
Put before after files = IfSome before (λ had. after ≡ Some (had ++ files))

-- it has the first of these files behind those before, up to some place
abbrev pub PutPart : Option (List (List ℕ)) → Option (List (List ℕ)) → List (List ℕ) → Type 0
PutPart before after files = IfSome before (λ had. (n : ℕ) × (after ≡ Some (had ++ take n files)))

-- .. those before alone
abbrev pub PutNothing : Option (List (List ℕ)) → Option (List (List ℕ)) → Type 0
PutNothing before after = IfSome before (λ had. after ≡ Some had)

-- files that prove the handover by this block
abbrev pub PutProof : List ℕ → Header → Option (List (List ℕ)) → Option (List (List ℕ)) → Type 0
PutProof committee b before after = (files : List (List ℕ)) × ProveHandover committee files b × Put before after files

-- .. or a first part of such files
abbrev pub PutPartOfProof : List ℕ → Header → Option (List (List ℕ)) → Option (List (List ℕ)) → Type 0
PutPartOfProof committee b before after =
    PutNothing before after ⊎ ((files : List (List ℕ)) × ProveHandover committee files b × PutPart before after files)

-- where the ledger was handed over, to whomever, a proof of that, and else nothing
abbrev pub PutProofOf : Evidence → Following → Option (List (List ℕ)) → Option (List (List ℕ)) → Type 0
PutProofOf e Conflict before after = PutNothing before after
PutProofOf e (New b) before after = PutProof e.committee b before after
PutProofOf e (Another b) before after = PutProof e.committee b before after
PutProofOf e Nobody before after = PutNothing before after

-- .. or a first part of it
abbrev pub PutPartOfProofOf : Evidence → Following → Option (List (List ℕ)) → Option (List (List ℕ)) → Type 0
PutPartOfProofOf e Conflict before after = PutNothing before after
PutPartOfProofOf e (New b) before after = PutPartOfProof e.committee b before after
PutPartOfProofOf e (Another b) before after = PutPartOfProof e.committee b before after
PutPartOfProofOf e Nobody before after = PutNothing before after

-- ---- the light proof

-- the bytes spell a light proof of the first handover on a chain that the evidence proves to be committed
abbrev pub IsLightFile : Evidence → List ℕ → Type 0
IsLightFile e bytes = (p : LightProof) × IsLightProof p × IsLightProofOf e p × (bytes ≡ light_proof_text p)

-- the place has such a file
abbrev pub PutLight : Evidence → Option (List (List ℕ)) → Option (List (List ℕ)) → Type 0
PutLight e before after = (bytes : List ℕ) × IsLightFile e bytes × Put before after (bytes ∷ [])

-- .. where the ledger was handed over, to whomever, and else nothing
abbrev pub PutLightOf : Evidence → Following → Option (List (List ℕ)) → Option (List (List ℕ)) → Type 0
PutLightOf e Conflict before after = PutNothing before after
PutLightOf e (New b) before after = PutLight e before after
PutLightOf e (Another b) before after = PutLight e before after
PutLightOf e Nobody before after = PutNothing before after
