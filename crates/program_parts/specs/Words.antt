-- What words of command lines spell.
use Rattle.std.specs.Prelude.{ℕ, List, [], ◌∷◌, ◌≡◌, ◌≢◌, ◌<◌, ◌≤◌, ◌-◌, ◌+◌, ◌^◌, ◌++◌, ◌⊎◌, codes, decimal, length, slice_index_or}
use Rattle.program_parts.specs.declared.words.Origin.{Origin}
use Rattle.program_parts.specs.declared.words.Origin.TheVariants.{File, Tcp}
use Rattle.program_parts.specs.declared.words.SourceWord.{SourceWord}

-- a number below 65,536: digits alone, and no leading zero
abbrev pub SpellsNumber : List ℕ → ℕ → Type 0
SpellsNumber word n = (n < 2 ^ 16) × (word ≡ decimal n)

-- ---- addresses

abbrev pub HasNoColonFrom : List ℕ → ℕ → Type 0
HasNoColonFrom text from = (i : ℕ) → from ≤ i → i < length text → slice_index_or text i 0 ≢ 58

-- a port: 1 to 65,535, in its one spelling
abbrev pub IsPort : List ℕ → Type 0
IsPort port = (n : ℕ) × (1 ≤ n) × SpellsNumber port n

-- a host: not empty, and in brackets where it has a colon
pub record IsHost (host : List ℕ) : Type 0 where
  pub some : 0 < length host
  pub brackets : HasNoColonFrom host 0 ⊎ ((slice_index_or host 0 0 ≡ 91) × (slice_index_or host (length host - 1) 0 ≡ 93))

-- HOST:PORT. The colon is the last one, since a port has none
pub record IsAddress (address : List ℕ) : Type 0 where
  pub host : List ℕ
  pub port : List ℕ
  pub split : address ≡ host ++ 58 ∷ port
  pub is_host : IsHost host
  pub is_port : IsPort port

-- ---- sources

-- "file:PATH", which is not empty, or "tcp:ADDRESS"
abbrev pub SpellsOrigin : List ℕ → Origin → Type 0
SpellsOrigin word (File path) = (path.now ≢ []) × (word ≡ codes "file:" ++ path.now)
SpellsOrigin word (Tcp address) = IsAddress address.now × (word ≡ codes "tcp:" ++ address.now)

-- the replica's number, "=" and the origin of its log
abbrev pub SpellsSource : List ℕ → SourceWord → Type 0
SpellsSource word source =
    (digits : List ℕ) × (origin : List ℕ) × (word ≡ digits ++ (codes "=" ++ origin))
    × SpellsNumber digits source.replica × SpellsOrigin origin source.origin

-- ---- parts of this

-- a colon stands here, and none behind it
pub record IsLastColon (text : List ℕ) (i : ℕ) : Type 0 where
  pub inside : i < length text
  pub here : slice_index_or text i 0 ≡ 58
  pub last : HasNoColonFrom text (i + 1)
