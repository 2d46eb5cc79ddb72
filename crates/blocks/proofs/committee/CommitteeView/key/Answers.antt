use Rattle.std.proofs.Common.{◌≡◌, ◌<◌, ℕ, List, sym, ◌∙◌, ap, arith, subst}
use Rattle.lms_tree.specs.Keys.{IsPublicKey}
use Rattle.lms_tree.specs.Tree.{key_text}
use Rattle.lms_tree.proofs.KeyLemmas.{key_spelled}
use Rattle.blocks.specs.Committees.{n_of, keys_of, key_at}
use Rattle.blocks.proofs.CommitteeLaws.{key_found, place_within, key_here, count_here}
use Rattle.blocks.proofs.committee.CommitteeView.key.Goals as goal

pub key_at-key-requires-clause-place : goal.key_at-key-requires-clause-place
key_at-key-requires-clause-place c =
    place_within c.self.inside.bytes.now c.args.r c.self.invariant.0 (omega (arith, c.requires.known, ap n_of c.self.view_is))

pub key_at-key-requires-clause-room : goal.key_at-key-requires-clause-room
key_at-key-requires-clause-room c =
    let bytes = c.self.inside.bytes.now in
    let below : c.args.r < n_of bytes = omega (arith, c.requires.known, ap n_of c.self.view_is) in
    let fits = count_here bytes c.args.r c.self.invariant.0 below in
    omega (arith, c.requires.has, ap (λ (b : List ℕ). keys_of b c.args.r) c.self.view_is, fits.1)

pub returns-clause-text : goal.returns-clause-text
returns-clause-text c =
    let bytes = c.self.inside.bytes.now in
    let k = c.args.k in
    let same : n_of bytes ≡ n_of c.args.self.now = ap n_of c.self.view_is in
    let as_many : keys_of bytes c.args.r ≡ keys_of c.args.self.now c.args.r = ap (λ (b : List ℕ). keys_of b c.args.r) c.self.view_is in
    let is : IsPublicKey c.key_at-key.result.now =
    subst IsPublicKey (sym c.key_at-key.ensures.key) (key_here bytes c.args.r k c.self.invariant.0 (omega (arith, c.requires.known)) (omega (arith, c.requires.has))) in
    sym (key_spelled c.key_at-key.result.now c.array_at.result c.array_at-2.result c.key_at-key.ensures.fit is c.array_at.ensures c.array_at-2.ensures)
    ∙ c.key_at-key.ensures.key ∙ ap (λ (b : List ℕ). key_at b c.args.r k) c.self.view_is

pub returns-clause-as_written : goal.returns-clause-as_written
returns-clause-as_written c members is =
    let text = key_text c.array_at.result c.array_at-2.result in
    key_found members c.args.self.now c.args.r c.args.k (λ key. key ≡ text) is c.requires.known c.requires.has (sym (returns-clause-text c))
