-- Endorsements that are read and written; and no statement of next keys is a vote.
use Rattle.std.proofs.Common.{◌≡◌, ◌+◌, ◌-◌, ◌≤◌, ◌++◌, ◌∷◌, [], ℕ, List, ◌∙◌, length, take, drop, refl, sym, ap, append_assoc, arith}
use Rattle.std.proofs.lemmas.List.{drop_at, drop_more, length-append, length-drop, length-take, take-append-drop, take_all, take_at}
use Rattle.std.specs.Prelude.{slice_index}
use Rattle.base_wire.specs.Pieces.{AreBytes, piece}
use Rattle.base_wire.proofs.Numbers.{behind}
use Rattle.certificates.proofs.Pieces.{byte_again}
use Rattle.certificates.specs.Statements.{statement_text}
use Rattle.handover_keys.specs.NextKeys.{IsNextKeysOf, next_keys_in, next_keys_text}
use Rattle.handover_keys.specs.NextKeysReading.{IsStatement}
use Rattle.handover_keys.specs.Endorsements.{IsEndorsementOf, NoStatementIsAVote, NothingReadIsAVote, signature_in, signing_key_in, statement_in}
use Rattle.handover_keys.proofs.NextKeysLaws.{again}

-- ---- the parts of an endorsement

pub endorsement_found : (bytes : List ℕ) → AreBytes bytes → IsStatement (statement_in bytes)
    → IsEndorsementOf bytes (statement_in bytes) (signing_key_in bytes) (signature_in bytes)
endorsement_found bytes fit is =
    let n = length bytes - 1453 in
    let short : 39 ≤ length (statement_in bytes) = is.0 in
    let enough : 1453 ≤ length bytes = omega (arith, length-take n bytes, short) in
    let seal : drop n bytes ≡ slice_index bytes n ∷ drop (length bytes - 1452) bytes =
    drop_more bytes n 0 (omega arith) ∙ ap (λ (i : ℕ). slice_index bytes n ∷ drop i bytes) (omega arith) in
    record {
      stated = is;
      number = fit n;
      long = omega (arith, length-drop (length bytes - 1452) bytes);
      text = sym (take-append-drop n bytes) ∙ ap (λ (t : List ℕ). take n bytes ++ t) seal;
    }

pub endorsement_again : (bytes statement : List ℕ) (key : ℕ) (signature : List ℕ) → IsEndorsementOf bytes statement key signature
    → (statement_in bytes ≡ statement) × (signing_key_in bytes ≡ key) × (signature_in bytes ≡ signature)
endorsement_again bytes statement key signature is =
    let n = length bytes - 1453 in
    let whole : length bytes ≡ length statement + 1453 = omega (arith, ap length is.text, length-append statement (key ∷ signature), is.long) in
    let front : length statement ≡ n = omega (arith, whole) in
    let seal : drop n bytes ≡ key ∷ signature = ap (drop n) is.text ∙ drop_at statement (key ∷ signature) n front in
    let last : length bytes - 1452 ≡ n + 1 = omega (arith, whole) in (
      ap (take n) is.text ∙ take_at statement (key ∷ signature) n front,
      byte_again bytes n key signature seal,
      ap (λ (i : ℕ). drop i bytes) last ∙ behind bytes n 1 (key ∷ []) signature seal refl,
    )

-- what was read of the bytes before the seal is a statement
pub stated_in : (statement : List ℕ) → IsNextKeysOf statement (next_keys_in statement) → IsStatement statement
stated_in statement is = (again statement (next_keys_in statement) is).0

-- ---- no statement is a vote

pub no_vote : NoStatementIsAVote
unfolding next_keys_text statement_text
no_vote v chain view id same = let third : 69 ≡ 86 = ap (λ (t : List ℕ). slice_index t 2) same in omega (arith, third)

pub nothing_read : NothingReadIsAVote
unfolding statement_text
nothing_read bytes chain view id is same =
    let third : 69 ≡ 86 = ap (λ (t : List ℕ). slice_index t 2) (sym is.1.0 ∙ ap (λ (t : List ℕ). piece 4 t 0) same) in omega (arith, third)

-- four parts that were put one behind the other
pub four_parts : (magic chain replica key a b c d : List ℕ) → length chain ≡ 32 → length d ≡ 39 → take 4 a ≡ magic
    → take (4 + length chain) b ≡ take 4 a ++ chain → take 38 c ≡ take 36 b ++ replica → take 39 d ≡ take 38 c ++ key
    → d ≡ magic ++ (chain ++ (replica ++ key))
four_parts magic chain replica key a b c d long whole e f g h =
    let named : take 36 b ≡ magic ++ chain = ap (λ (n : ℕ). take (4 + n) b) (sym long) ∙ f ∙ ap (λ (t : List ℕ). t ++ chain) e in
    let placed : take 38 c ≡ (magic ++ chain) ++ replica = g ∙ ap (λ (t : List ℕ). t ++ replica) named in
    let all : d ≡ ((magic ++ chain) ++ replica) ++ key = sym (take_all 39 d (omega (arith, whole))) ∙ h ∙ ap (λ (t : List ℕ). t ++ key) placed in
    all ∙ simp append_assoc
