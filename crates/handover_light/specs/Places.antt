-- What the tests of lengths find of a light proof. No public clause speaks of it.
use Rattle.std.specs.Prelude.{◌≡◌, ◌≤◌, ◌+◌, ℕ, List, length}
use Rattle.handover_light.specs.LightProofReading.{count_in, first_place, second_place, third_place}
use Rattle.handover_light.specs.declared.format.Places.{Places}

-- how many headers there are, and where the certificates begin
pub record ArePlaces (bytes : List ℕ) (p : Places) : Type 0 where
  pub count : p.count ≡ count_in bytes
  pub first : p.first ≡ first_place bytes
  pub second : p.second ≡ second_place bytes
  pub third : p.third ≡ third_place bytes
  pub first_room : p.first + 42 ≤ p.second
  pub second_room : p.second + 42 ≤ p.third
  pub third_room : p.third + 42 ≤ length bytes
