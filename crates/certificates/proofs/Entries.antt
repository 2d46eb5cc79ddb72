-- Entries, as loops meet them.
use Rattle.std.proofs.Common.{◌≡◌, ℕ, zero, suc, ◌+◌, ◌<◌, List, [], ◌∷◌, ◌++◌, length, take, drop, get_or, inl, inr, refl, sym, ap, ◌∙◌, arith, add-one, append_assoc}
use Rattle.std.proofs.Math.Seq.{take-suc, drop-append_seam}
use Rattle.std.proofs.lemmas.Bool.{cases_lt}
use Rattle.std.proofs.lemmas.List.{append-nil, length-append, drop-append-le, drop_all}
use Rattle.std.proofs.lemmas.List.Concat.{flat_map-append}
use Rattle.std.specs.List.{flat_map}
use Rattle.certificates.specs.declared.certificate.Endorsement.{Endorsement}
use Rattle.certificates.specs.Certificates.{endorsement_text}
use Rattle.certificates.specs.CertificateReading.{endorsement_at, entries_in}

-- none so far
pub entries_none : (bytes : List ℕ) → entries_in bytes 0 ≡ []
unfolding entries_in
entries_none bytes = refl

-- one more is read
pub entries_more : (bytes : List ℕ) (n : ℕ) → entries_in bytes (n + 1) ≡ entries_in bytes n ++ endorsement_at bytes n ∷ []
unfolding entries_in
entries_more bytes n = rw add-one refl

-- as many as were asked for
pub length-entries_in : (bytes : List ℕ) (n : ℕ) → length (entries_in bytes n) ≡ n
unfolding entries_in
length-entries_in bytes zero = refl
length-entries_in bytes (suc n) = length-append (entries_in bytes n) (endorsement_at bytes n ∷ []) ∙ omega (arith, length-entries_in bytes n)

texts_more : (es : List Endorsement) (k : ℕ) (d : Endorsement) → k < length es → flat_map endorsement_text (take (k + 1) es) ≡ flat_map endorsement_text (take k es) ++ endorsement_text (get_or es k d)
texts_more es k d lt =
    rw (add-one, take-suc es k d lt) (flat_map-append endorsement_text (take k es) (get_or es k d ∷ [])
    ∙ ap (λ (t : List ℕ). flat_map endorsement_text (take k es) ++ t) (append-nil (endorsement_text (get_or es k d))))

-- one more is written
pub put_more : (before out next : List ℕ) (es : List Endorsement) (k : ℕ) (d : Endorsement) → k < length es
    → out ≡ before ++ flat_map endorsement_text (take k es) → next ≡ out ++ endorsement_text (get_or es k d)
    → next ≡ before ++ flat_map endorsement_text (take (k + 1) es)
put_more before out next es k d lt so_far here =
    here ∙ ap (λ (o : List ℕ). o ++ endorsement_text (get_or es k d)) so_far
    ∙ append_assoc before (flat_map endorsement_text (take k es)) (endorsement_text (get_or es k d))
    ∙ ap (λ (t : List ℕ). before ++ t) (sym (texts_more es k d lt))

-- what follows the first k
pub entries_from : (bytes : List ℕ) (n k : ℕ) → k < n → drop k (entries_in bytes n) ≡ endorsement_at bytes k ∷ drop (k + 1) (entries_in bytes n)
unfolding entries_in
entries_from bytes zero k below = absurd (omega arith)
entries_from bytes (suc n) k below =
    let es = entries_in bytes n in
    let long = length-entries_in bytes n in
    elim (cases_lt k n) [
      | inl inside ↦
          drop-append-le k es (endorsement_at bytes n ∷ []) (omega arith) ∙ ap (λ (t : List Endorsement). t ++ endorsement_at bytes n ∷ []) (entries_from bytes n k inside)
          ∙ ap (λ (t : List Endorsement). endorsement_at bytes k ∷ t) (sym (drop-append-le (k + 1) es (endorsement_at bytes n ∷ []) (omega arith)))
      | inr past ↦
          let last : k ≡ length es = omega arith in
          let is : endorsement_at bytes n ≡ endorsement_at bytes k = ap (endorsement_at bytes) (omega arith) in
          let none : drop (k + 1) (es ++ endorsement_at bytes n ∷ []) ≡ [] = drop_all (k + 1) (es ++ endorsement_at bytes n ∷ []) (omega (arith, length-append es (endorsement_at bytes n ∷ []))) in
          ap (λ (i : ℕ). drop i (es ++ endorsement_at bytes n ∷ [])) last ∙ drop-append_seam es (endorsement_at bytes n ∷ [])
          ∙ ap (λ (e : Endorsement). e ∷ []) is ∙ ap (λ (t : List Endorsement). endorsement_at bytes k ∷ t) (sym none)
    ]
