-- What is told beside a report, one after the other.
use Rattle.std.proofs.Common.{◌≡◌, ℕ, List, Bor, Option, ap, inl, inr, length, subst}
use Rattle.std.specs.Prelude.{◌⊎◌}
use Rattle.log_request.specs.HeardLines.{TellsHeard}
use Rattle.audit_evidence.proofs.Gatherings.{zip_length}
use Rattle.program_parts.specs.Words.{SpellsSource}
use Rattle.program_parts.specs.declared.words.SourceWord.{SourceWord}
use Rattle.program_tool.specs.HandedOver.{TellsHandover}
use Rattle.program_tool.specs.Notes.{TellsNotes}
use Rattle.program_tool.specs.OpenedSources.{SpellSources}

-- there are as many sources as words that spell them
pub as_many : (words : List (Bor (List ℕ))) (named : List SourceWord) → SpellSources words named → length named ≡ length words
as_many words named spelled = zip_length (λ word source. SpellsSource word.now source) words named spelled

heard_text : {Y : Type 0} (text : Y → Option (List ℕ)) (servers sources : ℕ) (b c : Y) → servers ≡ sources → (c ≡ b) ⊎ TellsHeard servers (text b) (text c) → (text c ≡ text b) ⊎ TellsHeard sources (text b) (text c)
heard_text text servers sources b c same (inl none) = inl (ap text none)
heard_text text servers sources b c same (inr heard) = inr (subst (λ (n : ℕ). TellsHeard n (text b) (text c)) same heard)

-- a handover at most, and then what was heard
pub told_both : {Y : Type 0} (text : Y → Option (List ℕ)) (Why : Type 0) (servers sources : ℕ) (a b c : Y) → servers ≡ sources → (b ≡ a) ⊎ (Why ⊎ TellsHandover (text a) (text b)) → (c ≡ b) ⊎ TellsHeard servers (text b) (text c)
    → (c ≡ a) ⊎ (Why ⊎ TellsNotes sources (text a) (text c))
told_both text Why servers sources a b c same (inr (inl why)) heard = inr (inl why)
told_both text Why servers sources a b c same (inl none) heard = inr (inr (record { between = text b; handover = inl (ap text none); heard = heard_text text servers sources b c same heard }))
told_both text Why servers sources a b c same (inr (inr handover)) heard = inr (inr (record { between = text b; handover = inr handover; heard = heard_text text servers sources b c same heard }))
