-- The numbers of a replica's keys.
use Rattle.std.specs.Prelude.{ℕ}
use Rattle.base_wire.specs.declared.key_number.KeyNumber.{KeyNumber as KeyNumberValue}
use Rattle.base_wire.specs.declared.key_number.KeyNumber.TheVariants.{Zero, One, Two, Three}

abbrev pub key_number : KeyNumberValue → ℕ
key_number Zero = 0
key_number One = 1
key_number Two = 2
key_number Three = 3
