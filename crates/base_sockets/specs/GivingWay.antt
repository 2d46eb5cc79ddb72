-- Which connection gives way to a new one where no more are kept.
use Rattle.std.specs.Prelude.{◌≡◌, ◌<◌, ◌≤◌, ◌-◌, ◌^◌, ℕ, List, Option, Some, None, if◌then◌else◌, nat_lt, length, get_or, false}
use Rattle.base_sockets.specs.declared.standing.Standing.{Standing}
use Rattle.base_sockets.specs.Standings.{rate}

-- that of one that gives way to nobody
abbrev pub stays : ℕ
stays = 2 ^ 64 - 1

-- how strong its claim to its place is, against a new one that is the nth of its address: of one older than two seconds the bytes a
-- second; of a younger one more than that, and the less the more of its address were there when it came, if those were more than n;
-- else it stays
abbrev pub claim : ℕ → Standing → ℕ
claim nth s = if nat_lt 2000 s.age then rate s else (if nat_lt nth s.nth then 2 ^ 63 - s.nth else stays)

abbrev pub nobody : Standing
nobody = record { age = 0; idle = 0; is_asking = false; bytes = 0; nth = 0 }

abbrev pub claim_at : ℕ → List Standing → ℕ → ℕ
claim_at nth all k = claim nth (get_or all k nobody)

-- the first of those with the least claim
pub record HasLeastClaim (nth : ℕ) (all : List Standing) (i : ℕ) : Type 0 where
  pub there : i < length all
  pub goes : claim_at nth all i < stays
  pub least : (k : ℕ) → k < length all → claim_at nth all i ≤ claim_at nth all k
  pub first : (k : ℕ) → k < i → claim_at nth all i < claim_at nth all k

-- .. or nobody goes, since all stay
abbrev pub IsFirstToGo : ℕ → List Standing → Option ℕ → Type 0
IsFirstToGo nth all (Some i) = HasLeastClaim nth all i
IsFirstToGo nth all None = (k : ℕ) → k < length all → claim_at nth all k ≡ stays
