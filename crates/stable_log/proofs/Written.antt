-- Places of a file behind which is written.
use Rattle.std.proofs.Common.{◌≡◌, ℕ, ◌+◌, ◌<◌, ◌≤◌, List, length, Option, Some, None, IfSome, option_map, sym, subst, arith}
use Rattle.stable_log.specs.Disk.{written}
use Rattle.stable_log.specs.MemoryLaws.{length-written}

-- a place within the file is within it after a write behind the place
pub room_behind : (o n : Option (List ℕ)) (at : ℕ) (piece : List ℕ) → n ≡ option_map (λ (bs : List ℕ). written bs (at + 1) piece) o → IfSome o (λ (bs : List ℕ). at < length bs) → IfSome n (λ (bs : List ℕ). at ≤ length bs)
room_behind None n at piece is room = subst (λ (v : Option (List ℕ)). IfSome v (λ (bs : List ℕ). at ≤ length bs)) (sym is) tt
room_behind (Some bs) n at piece is room =
    subst (λ (v : Option (List ℕ)). IfSome v (λ (cs : List ℕ). at ≤ length cs)) (sym is) (omega (arith, length-written bs piece (at + 1), room))
