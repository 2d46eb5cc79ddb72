-- What the digits behind "block " ask for.
use Rattle.std.proofs.Common.{◌≡◌, ℕ, List, Result, Ok, Err, ◌++◌, codes, get_or, arith, refl, sym, ◌∙◌, ap, subst}
use Rattle.std.specs.Prelude.{MatchResult}
use Rattle.std.proofs.lemmas.List.{append_cancel_left}
use Rattle.hex.specs.Hex.{decode_of}
use Rattle.hex.specs.declared.error.FromHexError.{FromHexError}
use Rattle.replica_requests.specs.declared.request.Request.TheVariants.{Block, Timeout, RefusedHeader, RefusedCertificate}
use Rattle.replica_requests.specs.RequestLines.{AsksFor, AsksForBlock, IsOfDigits, SpellsBlock, SpellsTimeout}
use Rattle.replica_requests.specs.declared.request_line.LineRequest.{LineRequest}
use Rattle.replica_requests.specs.declared.request_line.LineRequest.TheVariants.{Asked, BadLine}

no_block : (line digits bytes : List ℕ) (e : FromHexError) → line ≡ codes "block " ++ digits → decode_of digits ≡ Err e → SpellsBlock line bytes → ⊥
no_block line digits bytes e is not (digits', is', decoded) =
    let same : digits ≡ digits' = append_cancel_left (codes "block ") digits digits' (sym is ∙ is') in
    let both = ap (λ (d : List ℕ). decode_of d) same in
    cc

pub no_timeout : (line digits : List ℕ) (view : ℕ) → line ≡ codes "block " ++ digits → SpellsTimeout line view → ⊥
no_timeout line digits view is (_, is') =
    let firsts : 98 ≡ 116 = ap (λ (l : List ℕ). get_or l 0 0) (sym is ∙ is') in
    absurd (omega (arith, firsts))

of_decoded : (line digits : List ℕ) (r : Result (List ℕ) FromHexError) (request : LineRequest) → line ≡ codes "block " ++ digits → decode_of digits ≡ r
    → MatchResult r (λ bytes. AsksForBlock bytes request) (λ _. request ≡ BadLine) → AsksFor line request
of_decoded line digits (Ok bytes) (Asked (Block header certificate)) is decoded what = (bytes, (digits, is, decoded), what)
of_decoded line digits (Ok bytes) (Asked (RefusedHeader refusal)) is decoded what = (bytes, (digits, is, decoded), what)
of_decoded line digits (Ok bytes) (Asked (RefusedCertificate refusal)) is decoded what = (bytes, (digits, is, decoded), what)
of_decoded line digits (Ok bytes) (Asked (Timeout view)) is decoded what = absurd what
of_decoded line digits (Ok bytes) BadLine is decoded what = absurd what
of_decoded line digits (Err e) request is decoded what =
    subst (λ (r : LineRequest). AsksFor line r) (sym what) (
      λ bytes spelled. no_block line digits bytes e is decoded spelled,
      λ view spelled. no_timeout line digits view is spelled,
    )

pub of_digits : (line digits : List ℕ) (request : LineRequest) → line ≡ codes "block " ++ digits → IsOfDigits digits request → AsksFor line request
of_digits line digits request is what = of_decoded line digits (decode_of digits) request is refl what
