-- What an audit printed, by the words of its command.
use Rattle.std.proofs.Common.{◌≡◌, ℕ, List, Bor, Option, subst}
use Rattle.log_transfer.specs.declared.connector.Connector.{Ghosts}
use Rattle.log_transfer.specs.declared.source_connector.ServerOrFile.{ServerOrFile}
use Rattle.program_words.specs.declared.command.Strictness.{Strictness}
use Rattle.program_tool.specs.AuditFiles.{HasStored}
use Rattle.program_tool.specs.Audits.{AreCulpritsPrinted, IsEnoughPrinted, IsTooLittlePrinted}
use Rattle.program_tool.specs.StoredFiles.{StoredFile}

-- words that are the same name the same audit
pub culprits_of : {S F : Type 0} (connector : Ghosts (ServerOrFile S F)) (words words' : List (Bor (List ℕ))) (tries : ℕ) (before after : Option (List ℕ)) (stored : List StoredFile → Type 0) (folder : List ℕ) (json : Option (Bor (List ℕ))) → words ≡ words'
    → AreCulpritsPrinted connector words tries before after (HasStored stored folder words json) → AreCulpritsPrinted connector words' tries before after (HasStored stored folder words' json)
culprits_of connector words words' tries before after stored folder json same printed =
    subst (λ (ws : List (Bor (List ℕ))). AreCulpritsPrinted connector ws tries before after (HasStored stored folder ws json)) same printed

pub enough_of : {S F : Type 0} (connector : Ghosts (ServerOrFile S F)) (strictness : Strictness) (words words' : List (Bor (List ℕ))) (tries : ℕ) (before after : Option (List ℕ)) (stored : List StoredFile → Type 0) (folder : List ℕ) (json : Option (Bor (List ℕ))) → words ≡ words'
    → IsEnoughPrinted connector strictness words tries before after (HasStored stored folder words json) → IsEnoughPrinted connector strictness words' tries before after (HasStored stored folder words' json)
enough_of connector strictness words words' tries before after stored folder json same printed =
    subst (λ (ws : List (Bor (List ℕ))). IsEnoughPrinted connector strictness ws tries before after (HasStored stored folder ws json)) same printed

pub too_few_of : {S F : Type 0} (connector : Ghosts (ServerOrFile S F)) (strictness : Strictness) (words words' : List (Bor (List ℕ))) (tries : ℕ) (before after : Option (List ℕ)) (stored : List StoredFile → Type 0) (folder : List ℕ) (json : Option (Bor (List ℕ))) → words ≡ words'
    → IsTooLittlePrinted connector strictness words tries before after (HasStored stored folder words json) → IsTooLittlePrinted connector strictness words' tries before after (HasStored stored folder words' json)
too_few_of connector strictness words words' tries before after stored folder json same printed =
    subst (λ (ws : List (Bor (List ℕ))). IsTooLittlePrinted connector strictness ws tries before after (HasStored stored folder ws json)) same printed
