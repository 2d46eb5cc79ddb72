-- Lists that stand for sets.
use Rattle.std.specs.Prelude.{◌⊎◌, List}
use Rattle.std.specs.List.{Contains}

-- one of these has x
abbrev pub InSome : {A X : Type 0} → (A → X → Type 0) → List A → X → Type 0
InSome {A} Has xs x = (a : A) × Contains xs a × Has a x

-- x is of either kind
abbrev pub IsEither : {X : Type 0} → (Is Or : X → Type 0) → X → Type 0
IsEither Is Or x = Is x ⊎ Or x
