-- The chains of the one-time keys from q on, numbered through: key by key, 34 each.
use Rattle.std.specs.Prelude.{ℕ, List, ◌+◌, ◌/◌, ◌%◌}
use Rattle.lmots.specs.Chains.{chain_end, prefix}

-- the prefix of chain c
unfoldable pub prefix_of : List ℕ → ℕ → ℕ → List ℕ
prefix_of id q c = prefix id (q + c / 34) (c % 34)

-- where chain c ends
unfoldable pub chain_end_of : List ℕ → List ℕ → ℕ → ℕ → List ℕ
chain_end_of id seed q c = chain_end id seed (q + c / 34) (c % 34)
