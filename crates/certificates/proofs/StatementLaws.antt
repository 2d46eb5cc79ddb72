-- The parts of a statement stand in its bytes.
use Rattle.std.proofs.Common.{◌≡◌, ◌<◌, ◌^◌, ◌++◌, ℕ, List, length, drop, refl, sym, ap, ◌∙◌}
use Rattle.byteorder.specs.Endian.{big_bytes}
use Rattle.base_wire.specs.Pieces.{piece, number_at}
use Rattle.base_wire.proofs.Numbers.{behind, front, number_again}
use Rattle.certificates.specs.Statements.{statement_text, StatementsHaveOneSpelling}

record HasParts (text c : List ℕ) (v : ℕ) (i : List ℕ) : Type 0 where
  chain : piece 32 text 4 ≡ c
  view : number_at 8 text 36 ≡ v
  id : drop 44 text ≡ i

has_parts : (chain : List ℕ) (view : ℕ) (id : List ℕ) → length chain ≡ 32 → view < 2 ^ 64
    → HasParts (statement_text chain view id) chain view id
unfolding statement_text
has_parts chain view id long fits =
    let text = statement_text chain view id in
    let after_chain : drop 36 text ≡ big_bytes 8 view ++ id = behind text 4 32 chain _ refl long in
    record {
      chain = front text 4 32 chain _ refl long;
      view = number_again 8 text 36 view fits (front text 36 8 (big_bytes 8 view) id after_chain refl);
      id = behind text 36 8 (big_bytes 8 view) id after_chain refl;
    }

pub one_spelling : StatementsHaveOneSpelling
one_spelling chain chain' view view' id id' long long' fits fits' same =
    let a = has_parts chain view id long fits in
    let b = has_parts chain' view' id' long' fits' in (
      sym a.chain ∙ ap (λ (t : List ℕ). piece 32 t 4) same ∙ b.chain,
      sym a.view ∙ ap (λ (t : List ℕ). number_at 8 t 36) same ∙ b.view,
      sym a.id ∙ ap (λ (t : List ℕ). drop 44 t) same ∙ b.id,
    )
