-- The fields of an answer from which the last was taken.
use Rattle.std.proofs.Common.{◌≡◌, ◌∙◌, List, ap, map, sym, take}
use Rattle.std.proofs.lemmas.List.{take-map}
use Rattle.http1.specs.Fields.{Header}
use Rattle.signer_service.specs.Responses.{fields_of_kind, fields_to_retry}
use Rattle.signer_service.specs.declared.writing.Kind.TheVariants.{Text}

-- those of a line on what passes by itself, but the last, are those of any line
pub settled : {X : Type 0} (f : X → Header) (headers kept : List X) → map f headers ≡ fields_to_retry → kept ≡ take 3 headers
    → map f kept ≡ fields_of_kind Text
settled f headers kept are is = ap (map f) is ∙ sym (take-map f 3 headers) ∙ ap (λ (l : List Header). take 3 l) are
