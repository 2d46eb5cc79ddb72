-- What a line asks for.
use Rattle.std.specs.Prelude.{◌≡◌, ◌<◌, ◌≤◌, ◌⊎◌, ◌^◌, ◌++◌, ℕ, List, Ok, codes, decimal, length, MatchResult}
use Rattle.hex.specs.Hex.{decode_of}
use Rattle.replica_requests.specs.Requests.{IsOfBlock}
use Rattle.replica_requests.specs.declared.request.Request.{Request}
use Rattle.replica_requests.specs.declared.request.Request.TheVariants.{Timeout}
use Rattle.replica_requests.specs.declared.reading.TheConstants.{LONGEST_LINE}
use Rattle.replica_requests.specs.declared.request_line.LineRequest.{LineRequest}
use Rattle.replica_requests.specs.declared.request_line.LineRequest.TheVariants.{Asked, BadLine}

-- "block " and hex digits, of either case, that decode to these bytes
abbrev pub SpellsBlock : List ℕ → List ℕ → Type 0
SpellsBlock line bytes = (digits : List ℕ) × (line ≡ codes "block " ++ digits) × (decode_of digits ≡ Ok bytes)

-- "timeout " and a number of 64 bits as it is printed
abbrev pub SpellsTimeout : List ℕ → ℕ → Type 0
SpellsTimeout line view = (view < 2 ^ 64) × (line ≡ codes "timeout " ++ decimal view)

-- it asks for this of a replica: for a timeout, or for the block of the bytes that it spells
abbrev pub Spells : List ℕ → Request → Type 0
Spells line (Timeout view) = SpellsTimeout line view
Spells line request = (bytes : List ℕ) × SpellsBlock line bytes × IsOfBlock bytes request

-- what a line asks for: a bad line spells no block and no timeout
abbrev pub AsksFor : List ℕ → LineRequest → Type 0
AsksFor line (Asked request) = Spells line request
AsksFor line BadLine = ((bytes : List ℕ) → SpellsBlock line bytes → ⊥) × ((view : ℕ) → SpellsTimeout line view → ⊥)

-- .. where a line of more than 131,072 bytes is a bad one
abbrev pub IsRequestOf : List ℕ → LineRequest → Type 0
IsRequestOf line request =
    ((length line ≤ LONGEST_LINE) × AsksFor line request) ⊎ ((LONGEST_LINE < length line) × (request ≡ BadLine))

-- of bytes that were read: the block that they spell
abbrev pub AsksForBlock : List ℕ → LineRequest → Type 0
AsksForBlock bytes (Asked request) = IsOfBlock bytes request
AsksForBlock bytes BadLine = ⊥

-- what is read of the digits behind "block "
abbrev pub IsOfDigits : List ℕ → LineRequest → Type 0
IsOfDigits digits request = MatchResult (decode_of digits) (λ bytes. AsksForBlock bytes request) (λ _. request ≡ BadLine)
