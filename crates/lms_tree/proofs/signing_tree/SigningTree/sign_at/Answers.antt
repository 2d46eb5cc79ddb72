use Rattle.lmots.specs.declared.keys.PrivateSeed.{PrivateSeed}
use Rattle.byteorder.specs.Endian.{big_bytes}
use Rattle.lmots.specs.Signatures.{ots_signature}
use Rattle.std.proofs.Common.{◌≡◌, ◌≤◌, ◌+◌, ◌*◌, ◌++◌, ℕ, List, length, ap, sym, ◌∙◌, arith}
use Rattle.base_wire.proofs.Numbers.{filled}
use Rattle.lmots.proofs.ChainLemmas.{joined_none}
use Rattle.lms_tree.specs.Tree.{lms_signature, path_node}
use Rattle.lms_tree.proofs.SignedVerifies.{signature_verifies, index_of_signature}
use Rattle.lms_tree.proofs.signing_tree.SigningTree.sign_at.Goals as goal

is_signature : (c : goal.After-loop-level) → c.loop-level.signature ≡ lms_signature c.args.self.now.key_id c.args.self.now.seed c.args.q c.args.message.now
unfolding lms_signature
is_signature c =
    let done : c.loop-level.level ≡ 10 = omega arith in
    let long : length c.loop-level.signature ≤ 1132 + 32 * c.loop-level.level = omega arith in
    filled (1132 + 32 * c.loop-level.level) _ _ long (cc)

pub returns : goal.returns
returns c = record {
  exact = is_signature c;
  verifies = rw (is_signature c) (signature_verifies c.args.self.now.key_id c.args.self.now.seed c.args.q c.args.message.now c.requires);
  index = rw (is_signature c) (index_of_signature c.args.self.now.key_id c.args.self.now.seed c.args.q c.args.message.now c.requires);
}

pub loop-level-init : goal.loop-level-init
loop-level-init c =
    let signed = ap (λ (s : PrivateSeed). ots_signature s.key_id s.seed c.args.q c.args.message.now) c.self.view_is in
    let none = joined_none (path_node c.args.self.now.key_id c.args.self.now.seed c.args.q)
    (big_bytes 4 c.args.q ++ ots_signature c.args.self.now.key_id c.args.self.now.seed c.args.q c.args.message.now ++ big_bytes 4 6) in
    let o = ots_signature c.args.self.now.key_id c.args.self.now.seed c.args.q c.args.message.now in
    let first = rw c.to_be_bytes.ensures at c.put.ensures.written in
    let second = rw c.ots_sign.ensures.well_formed.long at c.put-2.ensures.written in
    let third = rw c.to_be_bytes-2.ensures at c.put-3.ensures.written in
    let known = rw (c.ots_sign.ensures.exact ∙ signed) at second in (
      omega arith,
      third ∙ ap (λ (xs : List ℕ). xs ++ big_bytes 4 6) (known ∙ ap (λ (xs : List ℕ). xs ++ o) first) ∙ sym none,
    )
