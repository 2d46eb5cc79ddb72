-- How many tries a source has.
use Rattle.std.specs.Prelude.{◌≡◌, ℕ, min}
use Rattle.log_transfer.specs.Places.{MayTry}
use Rattle.log_transfer.specs.Sources.{number_of}
use Rattle.log_transfer.specs.declared.reader_state.TheConstants.{MOST_TRIES}
use Rattle.log_transfer.specs.declared.source_connector.ServerOrFile.{ServerOrFile}

-- a server has 3 tries, a file one
abbrev pub most_of : {S F : Type 0} → ServerOrFile S F → ℕ
most_of source = number_of (λ server. MOST_TRIES) (λ file. 1) source

-- as many as were asked for, but no more than its connector allows: a server 3, a file one
pub record IsTriedAs {S F : Type 0} (tries : ℕ) (source : ServerOrFile S F) (count : ℕ) : Type 0 where
  pub exact : count ≡ min tries (most_of source)
  pub allowed : MayTry (most_of source) count
