use Rattle.std.proofs.Common.{◌≡◌, Bool, true, ◌&&◌, ℕ, List, sym, ap, subst, ◌∙◌, arith}
use Rattle.std.specs.List.{All}
use Rattle.std.specs.Prelude.{◌↔◌}
use Rattle.blocks.specs.Committees.{room_of, keys_of}
use Rattle.blocks.specs.CommitteeReading.{is_count, unused_at, are_zeros}
use Rattle.blocks.proofs.CommitteeLaws.{count_true, zeros_told}
use Rattle.blocks.proofs.committee.has_count.Goals as goal

pub returns : goal.returns
returns c =
    let bytes = c.args.bytes.now in
    let r = c.args.r in
    let counted : is_count (room_of bytes) (keys_of bytes r) ≡ true =
    count_true (room_of bytes) (keys_of bytes r) (omega (arith, c.if-keys-lt1.false, c.keys_of-keys.ensures)) (omega (arith, c.if-room-keys.false, c.room_of-room.ensures, c.keys_of-keys.ensures)) in
    let zeros : c.are_zeros.result ≡ are_zeros (unused_at bytes r) =
    zeros_told (unused_at bytes r) c.are_zeros.result (subst (λ (xs : List ℕ). (c.are_zeros.result ≡ true) ↔ All (λ x. x ≡ 0) xs) c.unused_at.ensures c.are_zeros.ensures) in
    zeros ∙ ap (λ (b : Bool). b && are_zeros (unused_at bytes r)) (sym counted)
