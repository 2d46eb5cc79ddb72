-- What no run has no life has.
use Rattle.std.proofs.Common.{inl, ℕ, List, [], ◌∷◌, ◌++◌, refl}
use Rattle.std.proofs.lemmas.List.Elements.{Contains-append_left, Contains-append_right}
use Rattle.blocks.specs.Headers.{Header}
use Rattle.blocks.specs.Chains.{AllIn, NoCollision}
use Rattle.blocks.specs.Genesis.{genesis_of}
use Rattle.blocks.specs.Replica.{Stored, headers_of}
use Rattle.verdict_format.specs.Verdicts.{headers_in}
use Rattle.verdict_format.specs.Proofs.{NoLifeApartReleasedBothVotes, NoLifeReleasedBothVotes, NoRunApartHasBothVotes, NoRunHasBothVotes, shown_by}
use Rattle.blocks.specs.Lives.{Stay, EveryLifeIsARun, IsFound, blocks_in, headers_of_life}
use Rattle.blocks.proofs.Within.{AllIn-append}

-- the list that the last stay left
abbrev left_by : List Stay → List Stored
left_by [] = []
left_by (s ∷ before) = s.left

is_found : (genesis : Header) (life : List Stay) → IsFound genesis life (left_by life)
is_found genesis [] = refl
is_found genesis (s ∷ before) = inl refl

blocks_are_held : (life : List Stay) → AllIn (headers_of_life life) (blocks_in (left_by life))
blocks_are_held [] h m = m
blocks_are_held (s ∷ before) h m = Contains-append_right s.headers (blocks_in s.left ++ headers_of_life before) h (Contains-append_left (blocks_in s.left) (headers_of_life before) h m)

headers_are_held : (life : List Stay) → AllIn (headers_of_life life) (headers_of_life life ++ blocks_in (left_by life))
headers_are_held life = AllIn-append (headers_of_life life) (headers_of_life life) (blocks_in (left_by life)) (λ h m. m) (blocks_are_held life)

fewer : (hs ks : List Header) → AllIn hs ks → NoCollision hs → NoCollision ks
fewer hs ks into apart h k a b e = apart h k (into h a) (into k b) e

with_front : (front hs ks : List Header) → AllIn hs ks → AllIn (front ++ hs) (front ++ ks)
with_front front hs ks into = AllIn-append (front ++ hs) front ks (λ h m. Contains-append_left front hs h m) (λ h m. Contains-append_right front hs h (into h m))

pub no_life_released : (committee bytes : List ℕ) → EveryLifeIsARun → NoRunHasBothVotes committee bytes → NoLifeReleasedBothVotes committee bytes
no_life_released committee bytes law none life is earlier later =
    let run = law (genesis_of committee) life (left_by life) (record { view = refl; parent_view = refl }) is (is_found (genesis_of committee) life) in
    none run.0 run.1.is_run (run.2 _ earlier) (run.2 _ later)

pub no_life_apart : (committee bytes : List ℕ) → EveryLifeIsARun → NoRunApartHasBothVotes committee bytes → NoLifeApartReleasedBothVotes committee bytes
no_life_apart committee bytes law none life is apart earlier later =
    let run = law (genesis_of committee) life (left_by life) (record { view = refl; parent_view = refl }) is (is_found (genesis_of committee) life) in
    let shown = shown_by (headers_in bytes) in
    let into : AllIn (headers_of_life life) (headers_of run.0) = λ h m. headers_are_held life h (run.1.headers h m) in
    none run.0 run.1.is_run (fewer (shown ++ headers_of_life life) (shown ++ headers_of run.0) (with_front shown (headers_of_life life) (headers_of run.0) into) apart) (run.2 _ earlier) (run.2 _ later)
