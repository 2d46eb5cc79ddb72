-- The tests of the checker, in their order.
use Rattle.std.specs.Prelude.{◌≡◌, ◌<◌, ◌==◌, ℕ, List, [], ◌∷◌, codes, IsSomeAnd, ⊤}
use Rattle.std.specs.Bool.{MatchBool}
use Rattle.base_wire.specs.Refusals.{AllPassed, IsFirst}
use Rattle.blocks.specs.Committees.{n_of, keys_of}
use Rattle.blocks.specs.Genesis.{chain_id_of}
use Rattle.blocks.specs.Headers.{NamesParent}
use Rattle.blocks.specs.declared.ballot.Ballot.{Ballot}
use Rattle.blocks.specs.Replica.{ballot_on}
use Rattle.certificates.specs.Votes.{IsSignedBy}
use Rattle.verdict_format.specs.Verdicts.{VotedHeaders, verdict_kind_in, chain_in, replica_in, earlier_in, later_in, earlier_key_in, later_key_in, earlier_signature_in, later_signature_in, headers_in}
use Rattle.verdict_format.specs.VerdictReading.{HasForm}
use Rattle.verdict_format.specs.Proofs.{BreaksRule}
use Rattle.verdict_format.specs.declared.verdict.VerdictRefusal.{VerdictRefusal}
use Rattle.verdict_format.specs.declared.verdict.VerdictRefusal.TheVariants as form
use Rattle.verdict_checker.specs.declared.refusal.Refusal.{Refusal}
use Rattle.verdict_checker.specs.declared.refusal.Refusal.TheVariants.{Short, Magic, Kind, Length, Chain, Replica, KeyNumber, HeaderMismatch, NoRuleBroken, SignatureE, SignatureW}

-- the accused replica has the key that each vote names
pub record HasKeys (committee bytes : List ℕ) : Type 0 where
  pub earlier : earlier_key_in bytes < keys_of committee (replica_in bytes)
  pub later : later_key_in bytes < keys_of committee (replica_in bytes)

-- the headers are those of the two votes' blocks, and of the parent that the earlier block names
pub record AreOfVotes (e w : Ballot) (h : VotedHeaders) : Type 0 where
  pub earlier : ballot_on h.earlier ≡ e
  pub later : ballot_on h.later ≡ w
  pub parent : NamesParent h.earlier h.parent

-- a double vote needs no headers
abbrev pub HeadersMatch : List ℕ → Type 0
HeadersMatch bytes = MatchBool (verdict_kind_in bytes == 1) ⊤ (IsSomeAnd (headers_in bytes) (AreOfVotes (earlier_in bytes) (later_in bytes)))

-- the accused replica signed this vote with its key of this number
abbrev pub IsSignedByAccused : List ℕ → List ℕ → ℕ → Ballot → List ℕ → Type 0
IsSignedByAccused committee bytes key vote signature = IsSignedBy committee (replica_in bytes) key vote.view vote.id signature

-- what each refusal tests
abbrev pub Passes : List ℕ → List ℕ → Refusal → Type 0
Passes committee bytes Short = HasForm bytes form.Short
Passes committee bytes Magic = HasForm bytes form.Magic
Passes committee bytes Kind = HasForm bytes form.Kind
Passes committee bytes Length = HasForm bytes form.Length
Passes committee bytes Chain = chain_in bytes ≡ chain_id_of committee
Passes committee bytes Replica = replica_in bytes < n_of committee
Passes committee bytes KeyNumber = HasKeys committee bytes
Passes committee bytes HeaderMismatch = HeadersMatch bytes
Passes committee bytes NoRuleBroken = BreaksRule bytes
Passes committee bytes SignatureE = IsSignedByAccused committee bytes (earlier_key_in bytes) (earlier_in bytes) (earlier_signature_in bytes)
Passes committee bytes SignatureW = IsSignedByAccused committee bytes (later_key_in bytes) (later_in bytes) (later_signature_in bytes)

-- the number and the name that docs/REFUSALS.md gives a refusal
abbrev pub refusal_number : Refusal → ℕ
refusal_number Short = 1
refusal_number Magic = 2
refusal_number Kind = 3
refusal_number Length = 4
refusal_number Chain = 5
refusal_number Replica = 6
refusal_number KeyNumber = 11
refusal_number HeaderMismatch = 7
refusal_number NoRuleBroken = 8
refusal_number SignatureE = 9
refusal_number SignatureW = 10

abbrev pub refusal_name : Refusal → List ℕ
refusal_name Short = codes "Short"
refusal_name Magic = codes "Magic"
refusal_name Kind = codes "Kind"
refusal_name Length = codes "Length"
refusal_name Chain = codes "Chain"
refusal_name Replica = codes "Replica"
refusal_name KeyNumber = codes "KeyNumber"
refusal_name HeaderMismatch = codes "HeaderMismatch"
refusal_name NoRuleBroken = codes "NoRuleBroken"
refusal_name SignatureE = codes "SignatureE"
refusal_name SignatureW = codes "SignatureW"

abbrev pub check_order : List Refusal
check_order = Short ∷ Magic ∷ Kind ∷ Length ∷ Chain ∷ Replica ∷ KeyNumber ∷ HeaderMismatch ∷ NoRuleBroken ∷ SignatureE ∷ SignatureW ∷ []

-- a refusal of the text
abbrev pub of_form : VerdictRefusal → Refusal
of_form form.Short = Short
of_form form.Magic = Magic
of_form form.Kind = Kind
of_form form.Length = Length

-- the verdict passes each test
abbrev pub PassesAll : List ℕ → List ℕ → Type 0
PassesAll committee bytes = AllPassed (Passes committee bytes) check_order

-- it is refused, by the first test that it does not pass
abbrev pub IsRefused : List ℕ → List ℕ → Refusal → Type 0
IsRefused committee bytes refusal = IsFirst refusal_number (Passes committee bytes) check_order refusal
