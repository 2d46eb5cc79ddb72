-- Pieces that were added one behind the other.
use Rattle.std.proofs.Common.{◌≡◌, ◌∙◌, ◌++◌, ℕ, List, Result, Ok, Err, OnOk, ap, append_assoc}
use Rattle.blocks.specs.Genesis.{chain_id_of}
use Rattle.verdict_format.specs.Verdicts.{replica_in, verdict_kind_in}
use Rattle.program_about.specs.Sheets.{accused_part, files_part, limits_part, rule_part, sheet_text, votes_part}

pub on_ok : {T E : Type 0} (r : Result T E) (P Q : Type 0) → OnOk r P → (P → Q) → OnOk r Q
on_ok (Ok x) P Q h by = by h
on_ok (Err e) P Q h by = tt

pub three_pieces : (old a b c t1 t2 t3 : List ℕ) → t1 ≡ old ++ a → t2 ≡ t1 ++ b → t3 ≡ t2 ++ c → t3 ≡ old ++ (a ++ b ++ c)
three_pieces old a b c t1 t2 t3 one two three =
    let joined : ((old ++ a) ++ b) ++ c ≡ old ++ (a ++ b ++ c) = simp append_assoc in
    let whole : t3 ≡ ((old ++ a) ++ b) ++ c = cc in
    whole ∙ joined

pub five_pieces : (old a b c d e t1 t2 t3 t4 t5 : List ℕ) → t1 ≡ old ++ a → t2 ≡ t1 ++ b → t3 ≡ t2 ++ c → t4 ≡ t3 ++ d → t5 ≡ t4 ++ e
    → t5 ≡ old ++ (a ++ b ++ c ++ d ++ e)
five_pieces old a b c d e t1 t2 t3 t4 t5 one two three four five =
    let joined : ((((old ++ a) ++ b) ++ c) ++ d) ++ e ≡ old ++ (a ++ b ++ c ++ d ++ e) = simp append_assoc in
    let whole : t5 ≡ ((((old ++ a) ++ b) ++ c) ++ d) ++ e = cc in
    whole ∙ joined

-- the parts of a sheet, of what was read of the verdict
pub sheet_of_parts : (committee bytes verdict file chain old t1 t2 t3 t4 t5 : List ℕ) (replica rule : ℕ) → verdict ≡ bytes → replica ≡ replica_in verdict → rule ≡ verdict_kind_in verdict
    → chain ≡ chain_id_of committee → file ≡ committee → t1 ≡ old ++ accused_part replica chain → t2 ≡ t1 ++ rule_part rule → t3 ≡ t2 ++ votes_part committee bytes
    → t4 ≡ t3 ++ files_part file bytes → t5 ≡ t4 ++ limits_part → t5 ≡ old ++ sheet_text committee bytes
sheet_of_parts committee bytes verdict file chain old t1 t2 t3 t4 t5 replica rule same is_replica is_rule is_chain is_file one two three four five =
    let r : replica ≡ replica_in bytes = is_replica ∙ ap (λ (v : List ℕ). replica_in v) same in
    let k : rule ≡ verdict_kind_in bytes = is_rule ∙ ap (λ (v : List ℕ). verdict_kind_in v) same in
    let accused : accused_part replica chain ≡ accused_part (replica_in bytes) (chain_id_of committee) = ap (λ (n : ℕ). accused_part n chain) r ∙ ap (λ (i : List ℕ). accused_part (replica_in bytes) i) is_chain in
    let broken : rule_part rule ≡ rule_part (verdict_kind_in bytes) = ap (λ (n : ℕ). rule_part n) k in
    let files : files_part file bytes ≡ files_part committee bytes = ap (λ (f : List ℕ). files_part f bytes) is_file in
    five_pieces old (accused_part (replica_in bytes) (chain_id_of committee)) (rule_part (verdict_kind_in bytes)) (votes_part committee bytes) (files_part committee bytes) limits_part t1 t2 t3 t4 t5
    (one ∙ ap (λ (t : List ℕ). old ++ t) accused) (two ∙ ap (λ (t : List ℕ). t1 ++ t) broken) three (four ∙ ap (λ (t : List ℕ). t3 ++ t) files) five
