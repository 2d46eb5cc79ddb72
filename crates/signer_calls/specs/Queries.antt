-- What the query of a call names.
use Rattle.std.specs.Prelude.{◌≡◌, ◌⊎◌, ◌<◌, ◌^◌, ◌++◌, ◌∷◌, ℕ, List, Option, Some, None, IsSome, codes, decimal}
use Rattle.std.specs.List.{Contains}
use Rattle.hex.specs.Hex.{encode_lower}
use Rattle.signer_calls.specs.Places.{IsId}
use Rattle.signer_calls.specs.declared.target.Queries.{Queries}
use Rattle.signer_calls.specs.declared.target.Queries.TheVariants as takes
use Rattle.signer_calls.specs.declared.query.Parameter.{Parameter}
use Rattle.signer_calls.specs.declared.query.Parameter.TheVariants.{Chain, First, Most, Payload}
use Rattle.signer_calls.specs.declared.query.Query.{Query}

-- "chain=ID" or "payload=HEX", 64 digits in lower case; "first=F" or "most=M", a number of 32 bits as it is printed
abbrev pub IsParameter : List ℕ → Parameter → Type 0
IsParameter text (Chain chain) = IsId chain × (text ≡ codes "chain=" ++ encode_lower chain)
IsParameter text (First first) = (first < 2 ^ 32) × (text ≡ codes "first=" ++ decimal first)
IsParameter text (Most most) = (most < 2 ^ 32) × (text ≡ codes "most=" ++ decimal most)
IsParameter text (Payload payload) = IsId payload × (text ≡ codes "payload=" ++ encode_lower payload)

-- nothing is named
abbrev pub no_query : Query
no_query = record { chain = None; first = None; most = None; payload = None }

-- .. but what was named once is not named again
abbrev pub unless : {A : Type 0} → Option A → Query → Option Query
unless (Some it) query = None
unless None query = Some query

-- this is named, too
abbrev pub with_parameter : Query → Parameter → Option Query
with_parameter query (Chain chain) = unless query.chain (record query { chain = Some chain })
with_parameter query (First first) = unless query.first (record query { first = Some first })
with_parameter query (Most most) = unless query.most (record query { most = Some most })
with_parameter query (Payload payload) = unless query.payload (record query { payload = Some payload })

-- beside what was named before the text is one parameter
abbrev pub IsOneMore : Query → List ℕ → Query → Type 0
IsOneMore before text after = (one : Parameter) × IsParameter text one × (with_parameter before one ≡ Some after)

-- .. or it is one before the first `&`, and more behind it
abbrev pub IsCut : (Query → List ℕ → Query → Type 0) → Query → List ℕ → Query → Type 0
IsCut More before text after =
    ((Contains text 38 → ⊥) × IsOneMore before text after)
    ⊎ ((front back : List ℕ) × (one : Query) × (text ≡ front ++ 38 ∷ back) × (Contains front 38 → ⊥) × IsOneMore before front one × More one back after)

-- one or two
abbrev pub AreTwoMore : Query → List ℕ → Query → Type 0
AreTwoMore before text after = IsCut IsOneMore before text after

-- one to three
abbrev pub AreThreeMore : Query → List ℕ → Query → Type 0
AreThreeMore before text after = IsCut AreTwoMore before text after

-- there is no query, or it is one to three parameters with `&` between, each of another kind
abbrev pub IsQuery : Option (List ℕ) → Query → Type 0
IsQuery None query = query ≡ no_query
IsQuery (Some text) query = AreThreeMore no_query text query

-- the query is "chain=ID"
abbrev pub IsChainAlone : List ℕ → Type 0
IsChainAlone query = (chain : List ℕ) × IsParameter query (Chain chain)

-- it names a payload, and beside it the chain at most
pub record IsOfPayload (query : Query) : Type 0 where
  pub payload : IsSome query.payload
  pub first : query.first ≡ None
  pub most : query.most ≡ None

-- the query is one that is named: what is wrong with a part of the log is told as a number
abbrev pub HasGoodQuery : Queries → Option (List ℕ) → Type 0
HasGoodQuery takes.Part query = Unit {0}
HasGoodQuery takes.Payload query = (named : Query) × IsQuery query named × IsOfPayload named
HasGoodQuery takes.Chain None = Unit {0}
HasGoodQuery takes.Chain (Some query) = IsChainAlone query
HasGoodQuery takes.Nothing query = query ≡ None
