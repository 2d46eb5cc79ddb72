-- What the path of a call names.
use Rattle.std.specs.Prelude.{◌≡◌, ◌≢◌, ◌<◌, ◌^◌, ◌++◌, ℕ, Bool, true, false, List, Option, Some, None, codes, decimal, length}
use Rattle.hex.specs.Hex.{IsBytes, encode_lower}
use Rattle.signer_calls.specs.declared.target.CallTarget.{CallTarget}
use Rattle.signer_calls.specs.declared.target.CallTarget.TheVariants.{Block, Blocks, Timeout, Vote, Certificate, Over, Endorse, Renewal, VoteIn, Header, Successor, Log, Status, Live, Health, Metrics, Nowhere}
use Rattle.signer_calls.specs.declared.target.Methods.{Methods}
use Rattle.signer_calls.specs.declared.target.Methods.TheVariants.{Post, Get}
use Rattle.signer_calls.specs.declared.target.Queries.{Queries}
use Rattle.signer_calls.specs.declared.target.Queries.TheVariants.{Nothing, Chain, Payload, Part}

-- the digits print this number of 64 bits, or none
abbrev pub IsNumberOf : List ℕ → Option ℕ → Type 0
IsNumberOf digits (Some number) = (number < 2 ^ 64) × (digits ≡ decimal number)
IsNumberOf digits None = (number : ℕ) → number < 2 ^ 64 → digits ≡ decimal number → ⊥

-- 32 bytes
abbrev pub IsId : List ℕ → Type 0
IsId id = (length id ≡ 32) × IsBytes id

-- the digits print this id in lower case, or none
abbrev pub IsIdOf : List ℕ → Option (List ℕ) → Type 0
IsIdOf digits (Some id) = IsId id × (digits ≡ encode_lower id)
IsIdOf digits None = (id : List ℕ) → IsId id → digits ≡ encode_lower id → ⊥

-- the path is none of those without an argument
pub record HasNoName (path : List ℕ) : Type 0 where
  pub block : path ≢ codes "/block"
  pub blocks : path ≢ codes "/blocks"
  pub vote : path ≢ codes "/vote"
  pub certificate : path ≢ codes "/certificate"
  pub over : path ≢ codes "/over"
  pub endorse : path ≢ codes "/endorse"
  pub successor : path ≢ codes "/successor"
  pub log : path ≢ codes "/log"
  pub status : path ≢ codes "/status"
  pub live : path ≢ codes "/live"
  pub health : path ≢ codes "/health"
  pub metrics : path ≢ codes "/metrics"

-- a place without an argument
abbrev pub IsNamedPlace : List ℕ → CallTarget → Type 0
IsNamedPlace path Block = path ≡ codes "/block"
IsNamedPlace path Blocks = path ≡ codes "/blocks"
IsNamedPlace path Vote = path ≡ codes "/vote"
IsNamedPlace path Certificate = path ≡ codes "/certificate"
IsNamedPlace path Over = path ≡ codes "/over"
IsNamedPlace path Endorse = path ≡ codes "/endorse"
IsNamedPlace path Successor = path ≡ codes "/successor"
IsNamedPlace path Log = path ≡ codes "/log"
IsNamedPlace path Status = path ≡ codes "/status"
IsNamedPlace path Live = path ≡ codes "/live"
IsNamedPlace path Health = path ≡ codes "/health"
IsNamedPlace path Metrics = path ≡ codes "/metrics"
IsNamedPlace path Nowhere = HasNoName path
IsNamedPlace path _ = ⊥

-- the path is none of those with an argument
pub record HasNoArgument (path : List ℕ) : Type 0 where
  pub timeout : (rest : List ℕ) → path ≢ codes "/timeout/" ++ rest
  pub vote : (rest : List ℕ) → path ≢ codes "/vote/" ++ rest
  pub block : (rest : List ℕ) → path ≢ codes "/block/" ++ rest

-- what a path names, with its argument as it is printed
abbrev pub IsPlace : List ℕ → CallTarget → Type 0
IsPlace path (Timeout view) = (digits : List ℕ) × (path ≡ codes "/timeout/" ++ digits) × IsNumberOf digits view
IsPlace path (VoteIn view) = (digits : List ℕ) × (path ≡ codes "/vote/" ++ digits) × IsNumberOf digits view
IsPlace path (Header id) = (digits : List ℕ) × (path ≡ codes "/block/" ++ digits) × IsIdOf digits id
IsPlace path place = HasNoArgument path × IsNamedPlace path place

-- by which methods a place is asked
abbrev pub methods_of : CallTarget → Methods
methods_of Block = Post
methods_of Blocks = Post
methods_of (Timeout view) = Post
methods_of Vote = Post
methods_of Certificate = Post
methods_of Over = Post
methods_of Endorse = Post
methods_of Renewal = Post
methods_of _ = Get

abbrev pub is_posted : Methods → Bool
is_posted Post = true
is_posted Get = false

-- what a query may name there: what tells which chain it is of takes none
abbrev pub queries_of : CallTarget → Queries
queries_of Log = Part
queries_of Successor = Payload
queries_of Block = Chain
queries_of Blocks = Chain
queries_of (Timeout view) = Chain
queries_of Vote = Chain
queries_of Certificate = Chain
queries_of Over = Chain
queries_of Endorse = Chain
queries_of Renewal = Chain
queries_of (VoteIn view) = Chain
queries_of (Header id) = Chain
queries_of _ = Nothing

-- whether it names a block by what is no id
abbrev pub has_no_id : CallTarget → Bool
has_no_id (Header None) = true
has_no_id _ = false

-- whether it is there only where the signer goes over from one committee to the next
abbrev pub is_of_renewal : CallTarget → Bool
is_of_renewal Over = true
is_of_renewal Endorse = true
is_of_renewal Renewal = true
is_of_renewal _ = false

abbrev pub is_nowhere : CallTarget → Bool
is_nowhere Nowhere = true
is_nowhere _ = false
