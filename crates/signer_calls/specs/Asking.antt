-- What a request asks for: one call, or the first thing that is wrong with it.
use Rattle.std.specs.Prelude.{◌≡◌, ◌≢◌, ◌⊎◌, ℕ, true, false, List, [], Option, Some, None, codes, length}
use Rattle.blocks.specs.Genesis.{chain_id_of}
use Rattle.certificates.specs.CertificateReading.{certificate_in}
use Rattle.certificates.specs.declared.vote.TheConstants.{VOTE_LEN}
use Rattle.http.specs.declared.request.Request.{Request}
use Rattle.http.specs.Request.{body_of, head_of}
use Rattle.http_header.specs.HeaderMap.{ContainsKey}
use Rattle.http_uri.specs.Uri.{uri_authority, uri_path, uri_query, uri_scheme}
use Rattle.replica_requests.specs.Requests.{IsOfBlock}
use Rattle.replica_requests.specs.declared.request.Request.{Request as Asked}
use Rattle.replica_requests.specs.declared.request.Request.TheVariants as asks
use Rattle.base_hosts.specs.HostRules.{HasGoodHost}
use Rattle.signer_calls.specs.BlockLists.{SpellsBlocks, SpellsNoBlocks}
use Rattle.signer_calls.specs.Doors.{HasBytesType}
use Rattle.signer_calls.specs.LogParts.{part_of}
use Rattle.signer_calls.specs.OverBodies.{SpellsOver}
use Rattle.signer_calls.specs.Pairs.{SpellsNoPair, SpellsPair}
use Rattle.signer_calls.specs.Places.{IsPlace, has_no_id, is_nowhere, is_of_renewal, is_posted, methods_of, queries_of}
use Rattle.signer_calls.specs.Queries.{HasGoodQuery, IsQuery}
use Rattle.signer_calls.specs.SpelledVotes.{SpellsVote}
use Rattle.signer_calls.specs.declared.call.Call.{Call}
use Rattle.signer_calls.specs.declared.call.Call.TheVariants as call
use Rattle.signer_calls.specs.declared.call.CallRefusal.{CallRefusal}
use Rattle.signer_calls.specs.declared.call.CallRefusal.TheVariants as refused
use Rattle.signer_calls.specs.declared.target.Methods.{Methods}
use Rattle.signer_calls.specs.declared.target.Methods.TheVariants.{Post, Get}
use Rattle.signer_calls.specs.declared.target.CallTarget.{CallTarget}
use Rattle.signer_calls.specs.declared.target.CallTarget.TheVariants as place
use Rattle.signer_calls.specs.declared.query.Query.{Query}
use Rattle.signer_calls.specs.declared.rules.Rules.{Rules}

-- ---- the place

-- what is posted at `/successor` of a signer that goes over is a renewal
pub record PostsRenewal (rules : Rules) (r : Request (List ℕ)) (named : CallTarget) : Type 0 where
  pub renews : rules.renews ≡ true
  pub successor : named ≡ place.Successor
  pub method : (head_of r).method ≡ codes "POST"

-- as what the place that the path names is asked
abbrev pub IsAskedAs : Rules → Request (List ℕ) → (named asked : CallTarget) → Type 0
IsAskedAs rules r named asked = (PostsRenewal rules r named × (asked ≡ place.Renewal)) ⊎ ((PostsRenewal rules r named → ⊥) × (asked ≡ named))

-- the place that a request asks
abbrev pub IsAskedPlace : Rules → Request (List ℕ) → CallTarget → Type 0
IsAskedPlace rules r asked = (named : CallTarget) × IsPlace (uri_path (head_of r).uri) named × IsAskedAs rules r named asked

-- ---- the tests

abbrev pub query_in : Request (List ℕ) → Option (List ℕ)
query_in r = uri_query (head_of r).uri

-- the target is a path, with a query only where one is named, and then such a one; where it has an id, that is one
pub record HasGoodTarget (r : Request (List ℕ)) (p : CallTarget) : Type 0 where
  pub scheme : uri_scheme (head_of r).uri ≡ None
  pub authority : uri_authority (head_of r).uri ≡ None
  pub query : HasGoodQuery (queries_of p) (query_in r)
  pub id : has_no_id p ≡ false

-- over TCP the one `Host` names this machine
abbrev pub NamesHost : Rules → Request (List ℕ) → Type 0
NamesHost rules r = rules.over_tcp ≡ true → HasGoodHost rules.hosts.items (head_of r).headers

-- over TCP there is no `Origin`
abbrev pub HasNoOrigin : Rules → Request (List ℕ) → Type 0
HasNoOrigin rules r = rules.over_tcp ≡ true → ContainsKey (head_of r).headers (codes "origin") → ⊥

pub record PassesDoor (rules : Rules) (r : Request (List ℕ)) (p : CallTarget) : Type 0 where
  pub target : HasGoodTarget r p
  pub host : NamesHost rules r
  pub origin : HasNoOrigin rules r

-- nothing is posted where one can only read
abbrev pub IsNotPosted : Request (List ℕ) → CallTarget → Type 0
IsNotPosted r p = (is_posted (methods_of p) ≡ false) × ((head_of r).method ≢ codes "POST")

-- there is such a call here
pub record IsThere (rules : Rules) (r : Request (List ℕ)) (p : CallTarget) : Type 0 where
  pub somewhere : is_nowhere p ≡ false
  pub read : rules.reads_only ≡ true → IsNotPosted r p
  pub renews : is_of_renewal p ≡ true → rules.renews ≡ true

abbrev pub IsOneOf : Methods → List ℕ → Type 0
IsOneOf Post method = method ≡ codes "POST"
IsOneOf Get method = (method ≡ codes "GET") ⊎ (method ≡ codes "HEAD")

abbrev pub HasRightMethod : Request (List ℕ) → CallTarget → Type 0
HasRightMethod r p = IsOneOf (methods_of p) (head_of r).method

-- over TCP what is posted is bytes
abbrev pub HasContentType : Rules → Request (List ℕ) → CallTarget → Type 0
HasContentType rules r p = rules.over_tcp ≡ true → is_posted (methods_of p) ≡ true → HasBytesType (head_of r).headers

-- the request passes the tests that come before its arguments
pub record IsAdmitted (rules : Rules) (r : Request (List ℕ)) (p : CallTarget) : Type 0 where
  pub door : PassesDoor rules r p
  pub there : IsThere rules r p
  pub method : HasRightMethod r p
  pub content_type : HasContentType rules r p

-- it fails this test, and passes those before
abbrev pub IsRefusedAt : Rules → Request (List ℕ) → CallTarget → CallRefusal → Type 0
IsRefusedAt rules r p refused.Target = HasGoodTarget r p → ⊥
IsRefusedAt rules r p refused.Host = HasGoodTarget r p × (NamesHost rules r → ⊥)
IsRefusedAt rules r p refused.Origin = HasGoodTarget r p × NamesHost rules r × (HasNoOrigin rules r → ⊥)
IsRefusedAt rules r p refused.NoSuchCall = PassesDoor rules r p × (IsThere rules r p → ⊥)
IsRefusedAt rules r p (refused.Method methods) =
    PassesDoor rules r p × IsThere rules r p × (methods ≡ methods_of p) × (HasRightMethod r p → ⊥)
IsRefusedAt rules r p refused.ContentType =
    PassesDoor rules r p × IsThere rules r p × HasRightMethod r p × (HasContentType rules r p → ⊥)
IsRefusedAt rules r p _ = ⊥

-- ---- the arguments

-- the body of a timeout is empty
abbrev pub TimeoutAsked : ℕ → List ℕ → Call → Type 0
TimeoutAsked view body asked =
    ((body ≡ []) × (asked ≡ call.Replica (asks.Timeout view))) ⊎ ((body ≢ []) × (asked ≡ call.Refused refused.Length))

-- the blocks that it spells
abbrev pub BlocksAsked : List ℕ → Call → Type 0
BlocksAsked body asked =
    ((blocks : List (List ℕ)) × SpellsBlocks body blocks × (asked ≡ call.Blocks blocks))
    ⊎ (SpellsNoBlocks body × (asked ≡ call.Refused refused.Length))

-- a vote of 1,495 bytes
abbrev pub VoteAsked : List ℕ → Call → Type 0
VoteAsked body (call.Judge vote) = SpellsVote body vote
VoteAsked body asked = (asked ≡ call.Refused refused.Length) × (length body ≢ VOTE_LEN)

-- a part of the log, unless a payload is named
abbrev pub PartAsked : Query → Call → Type 0
PartAsked query asked =
    ((query.payload ≡ None) × (asked ≡ call.Log (part_of query))) ⊎ ((query.payload ≢ None) × (asked ≡ call.Refused refused.Number))

-- the payload that is named: where none is, the target was refused before
abbrev pub SuccessorAsked : Option (List ℕ) → Call → Type 0
SuccessorAsked (Some payload) asked = asked ≡ call.Successor payload
SuccessorAsked None asked = asked ≡ call.Refused refused.Number

-- what bytes are read as a certificate, or why they are none
abbrev pub CertificateAsked : List ℕ → Call → Type 0
CertificateAsked body asked = asked ≡ call.Certificate (certificate_in body)

-- to go over to the committee of a file, with its renewal and a light proof, if there is one, from the chain that is named
abbrev pub OverFrom : Option (List ℕ) → (renewal file : List ℕ) → Option (List ℕ) → Call → Type 0
OverFrom (Some chain) renewal file proof asked = asked ≡ call.Over (record { chain = chain; renewal = renewal; file = file; proof = proof })
OverFrom None renewal file proof asked = asked ≡ call.Refused refused.Chain

abbrev pub OverAsked : Option (List ℕ) → List ℕ → Call → Type 0
OverAsked chain body asked =
    ((renewal file : List ℕ) × (proof : Option (List ℕ)) × SpellsOver body renewal file proof × OverFrom chain renewal file proof asked)
    ⊎ (SpellsNoPair body × (asked ≡ call.Refused refused.Length))

-- the body to endorse is empty
abbrev pub EndorseAsked : List ℕ → Call → Type 0
EndorseAsked body asked = ((body ≡ []) × (asked ≡ call.Endorse)) ⊎ ((body ≢ []) × (asked ≡ call.Refused refused.Length))

-- whether a file's committee renews this one: of the renewal and the file nothing is judged
abbrev pub RenewAsked : List ℕ → Call → Type 0
RenewAsked body asked =
    ((renewal file : List ℕ) × SpellsPair body renewal file × (asked ≡ call.Renew (record { renewal = renewal; file = file })))
    ⊎ (SpellsNoPair body × (asked ≡ call.Refused refused.Length))

-- what is asked of a place by a request that is admitted, and whose query names this
abbrev pub IsAskedAt : Request (List ℕ) → CallTarget → Query → Call → Type 0
IsAskedAt r place.Block query asked = (block : Asked) × (asked ≡ call.Replica block) × IsOfBlock (body_of r) block
IsAskedAt r place.Blocks query asked = BlocksAsked (body_of r) asked
IsAskedAt r (place.Timeout (Some view)) query asked = TimeoutAsked view (body_of r) asked
IsAskedAt r place.Vote query asked = VoteAsked (body_of r) asked
IsAskedAt r place.Certificate query asked = CertificateAsked (body_of r) asked
IsAskedAt r place.Over query asked = OverAsked query.chain (body_of r) asked
IsAskedAt r place.Endorse query asked = EndorseAsked (body_of r) asked
IsAskedAt r place.Renewal query asked = RenewAsked (body_of r) asked
IsAskedAt r (place.VoteIn (Some view)) query asked = asked ≡ call.VoteIn view
IsAskedAt r (place.Header (Some id)) query asked = asked ≡ call.Header id
IsAskedAt r place.Log query asked = PartAsked query asked
IsAskedAt r place.Successor query asked = SuccessorAsked query.payload asked
IsAskedAt r place.Status query asked = asked ≡ call.Status
IsAskedAt r place.Live query asked = asked ≡ call.Live
IsAskedAt r place.Health query asked = asked ≡ call.Health
IsAskedAt r place.Metrics query asked = asked ≡ call.Metrics
IsAskedAt r _ query asked = asked ≡ call.Refused refused.Number

-- ---- the chain

-- nothing is wrong with the call, and it is for one chain: what tells which one takes no name, and `/over` is held to it behind this
abbrev pub IsOfChain : Call → Type 0
IsOfChain (call.Refused refusal) = ⊥
IsOfChain (call.Over over) = ⊥
IsOfChain call.Status = ⊥
IsOfChain call.Live = ⊥
IsOfChain call.Health = ⊥
IsOfChain call.Metrics = ⊥
IsOfChain asked = Unit {0}

-- this is another chain than the committee's, or none is named where each call must
abbrev pub IsAnother : Rules → List ℕ → Option (List ℕ) → Type 0
IsAnother rules committee (Some chain) = chain ≢ chain_id_of committee
IsAnother rules committee None = rules.renews ≡ true

-- such a call that names another chain is refused
abbrev pub IsHeldTo : Rules → List ℕ → Option (List ℕ) → (before after : Call) → Type 0
IsHeldTo rules committee chain before after =
    (IsOfChain before × IsAnother rules committee chain × (after ≡ call.Refused refused.Chain))
    ⊎ ((IsOfChain before → IsAnother rules committee chain → ⊥) × (after ≡ before))

-- .. so what a request that is admitted asks of the committee's signer at a place; or a parameter of its query is wrong
abbrev pub IsAskedOf : Rules → List ℕ → Request (List ℕ) → CallTarget → Call → Type 0
IsAskedOf rules committee r p asked =
    ((query : Query) × (before : Call) × IsQuery (query_in r) query × IsAskedAt r p query before × IsHeldTo rules committee query.chain before asked)
    ⊎ (((query : Query) → IsQuery (query_in r) query → ⊥) × (asked ≡ call.Refused refused.Number))

-- ---- the whole

-- the request asks a place, and a signer of the committee for this there, or is refused at the first test that it fails
pub record AsksFor (rules : Rules) (committee : List ℕ) (r : Request (List ℕ)) (asked : Call) : Type 0 where
  pub place : CallTarget
  pub is : IsAskedPlace rules r place
  pub reads : (IsAdmitted rules r place × IsAskedOf rules committee r place asked)
      ⊎ ((refusal : CallRefusal) × (asked ≡ call.Refused refusal) × IsRefusedAt rules r place refusal)

-- a request asks for one thing
abbrev pub ARequestHasOneReading : Type 0
ARequestHasOneReading =
    (rules : Rules) (committee : List ℕ) (r : Request (List ℕ)) (a b : Call) → AsksFor rules committee r a → AsksFor rules committee r b → a ≡ b
