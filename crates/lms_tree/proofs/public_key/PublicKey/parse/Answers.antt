use Rattle.std.proofs.Common.{◌≡◌, ℕ, List, ◌∙◌, ap, refl, length, arith, rules}
use Rattle.base_wire.specs.Pieces.{number_at, piece}
use Rattle.lms_tree.proofs.KeyLemmas.{key_id-key_text, key_public, key_spelled, root-key_text}
use Rattle.lms_tree.proofs.public_key.PublicKey.parse.Goals as goal

pub returns-then-bytes-ne-PUBLIC_KEY_LEN-clause-only : goal.returns-then-bytes-ne-PUBLIC_KEY_LEN-clause-only
returns-then-bytes-ne-PUBLIC_KEY_LEN-clause-only c =
    λ id root long_id long_root is. absurd (c.if-bytes-ne-PUBLIC_KEY_LEN.true
    (ap (λ (bytes : List ℕ). length bytes) is ∙ (key_public id root long_id long_root).long))

pub returns-then-u32_at-ne-TREE_TYPE-clause-only : goal.returns-then-u32_at-ne-TREE_TYPE-clause-only
returns-then-u32_at-ne-TREE_TYPE-clause-only c =
    λ id root long_id long_root is. absurd (c.if-u32_at-ne-TREE_TYPE.true
    (c.u32_at.ensures ∙ ap (λ (bytes : List ℕ). number_at 4 bytes 0) is ∙ (key_public id root long_id long_root).tree_type))

pub returns-then-u32_at-ne-OTS_TYPE-clause-only : goal.returns-then-u32_at-ne-OTS_TYPE-clause-only
returns-then-u32_at-ne-OTS_TYPE-clause-only c =
    λ id root long_id long_root is. absurd (c.if-u32_at-ne-OTS_TYPE.true
    (c.u32_at-2.ensures ∙ ap (λ (bytes : List ℕ). number_at 4 bytes 4) is ∙ (key_public id root long_id long_root).ots_type))

pub returns-clause-found : goal.returns-clause-found
returns-clause-found c =
    key_spelled c.args.bytes.now c.array_at.result c.array_at-2.result (λ i. omega (arith, c.type_inv.bytes i))
    (record { long = search rules; tree_type = search rules; ots_type = search rules }) c.array_at.ensures c.array_at-2.ensures

pub returns-clause-only : goal.returns-clause-only
returns-clause-only c =
    λ id root long_id long_root is.
    let id_is : c.array_at.result ≡ id = c.array_at.ensures ∙ ap (λ (bytes : List ℕ). piece 16 bytes 8) is ∙ key_id-key_text id root long_id in
    let root_is : c.array_at-2.result ≡ root = c.array_at-2.ensures ∙ ap (λ (bytes : List ℕ). piece 32 bytes 24) is ∙ root-key_text id root long_id long_root in
    rw (id_is, root_is) refl
