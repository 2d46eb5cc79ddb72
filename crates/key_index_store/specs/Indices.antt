-- Which one-time key an index is: that of key i / 1,024 at i mod 1,024. docs/FORMATS.md, 'Index journal'.
use Rattle.std.specs.Prelude.{ℕ, ◌*◌, ◌/◌, ◌%◌}
use Rattle.key_index_store.specs.declared.store.TheConstants.{INDICES}

-- the indices of so many keys are those below this
abbrev pub limit_of : ℕ → ℕ
limit_of keys = INDICES * keys

-- the key that an index is of
abbrev pub key_of : ℕ → ℕ
key_of index = index / INDICES

-- and its place in that key
abbrev pub q_of : ℕ → ℕ
q_of index = index % INDICES
