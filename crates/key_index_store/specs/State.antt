-- What contracts see of an index store.
use Rattle.std.specs.Prelude.{ℕ, ◌≡◌, ◌<◌, ◌+◌, Bool, false}
use Rattle.key_index_store.specs.Indices.{key_of, limit_of}

-- its disk, how many keys it has, the mark below which lies every index given or skipped, and whether it is stopped
pub record IndexState (D : Type 0) : Type 0 where
  pub disk : D
  pub keys : ℕ
  pub mark : ℕ
  pub stopped : Bool

-- the index was the mark, which moved by one; it is one of a key that the store has; and the store runs
pub record IsGiven {D : Type 0} (old new : IndexState D) (index : ℕ) : Type 0 where
  pub given : index ≡ old.mark
  pub taken : new.mark ≡ old.mark + 1
  pub below : index < limit_of old.keys
  pub key : key_of index < old.keys
  pub running : new.stopped ≡ false
