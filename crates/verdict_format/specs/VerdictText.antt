-- The bytes of a verdict, as docs/FORMATS.md, "Verdict", lays them out, and the parts that bytes spell.
use Rattle.std.specs.Prelude.{◌≡◌, ◌<◌, ◌^◌, ◌++◌, ℕ, List, [], ◌∷◌, length, codes, Option, Some, None, IsSome, ⊤}
use Rattle.lms_tree.specs.declared.TheConstants.{SIGNATURE_LEN}
use Rattle.byteorder.specs.Endian.{big_bytes}
use Rattle.blocks.specs.Headers.{IsHeader, header_text}
use Rattle.verdict_format.specs.declared.parts.BoundVote.{BoundVote}
use Rattle.verdict_format.specs.declared.parts.Shown.{Shown}
use Rattle.verdict_format.specs.declared.parts.Shown.TheVariants.{DoubleVote, LockViolation}
use Rattle.verdict_format.specs.declared.parts.VerdictParts.{VerdictParts}
use Rattle.verdict_format.specs.Verdicts.{VotedHeaders, verdict_kind_in, chain_in, replica_in, earlier_in, later_in, earlier_key_in, later_key_in, earlier_signature_in, later_signature_in, headers_in}

-- ---- which verdicts there are

-- a vote that has bytes
pub record IsBoundVote (v : BoundVote) : Type 0 where
  pub key : v.key < 2 ^ 8
  pub view : v.view < 2 ^ 64
  pub id : length v.id ≡ 32
  pub signature : length v.signature ≡ SIGNATURE_LEN

-- headers that have bytes
pub record AreHeaders (h : VotedHeaders) : Type 0 where
  pub earlier : IsHeader h.earlier
  pub parent : IsHeader h.parent
  pub later : IsHeader h.later

-- what shows that a rule is broken, if that has bytes
abbrev pub HasBytes : Shown → Type 0
HasBytes DoubleVote = ⊤
HasBytes (LockViolation h) = AreHeaders h

-- parts that have bytes
pub record AreParts (v : VerdictParts) : Type 0 where
  pub chain : length v.chain ≡ 32
  pub replica : v.replica < 2 ^ 16
  pub earlier : IsBoundVote v.earlier
  pub later : IsBoundVote v.later
  pub shown : HasBytes v.shown

-- ---- the bytes of a verdict

-- a vote's key, view, id and signature
abbrev pub bound_text : BoundVote → List ℕ
bound_text v = v.key ∷ (big_bytes 8 v.view ++ (v.id ++ v.signature))

-- the headers of a lock violation one after the other
abbrev pub shown_text : Shown → List ℕ
shown_text DoubleVote = []
shown_text (LockViolation h) = header_text h.earlier ++ (header_text h.parent ++ header_text h.later)

-- the rule that was broken: a lock violation is shown by headers, a double vote is not
abbrev pub verdict_kind : Shown → ℕ
verdict_kind DoubleVote = 1
verdict_kind (LockViolation h) = 2

-- "HSX2", the chain, the replica, and the rule that it broke
unfoldable pub head_text : VerdictParts → List ℕ
head_text v = codes "HSX2" ++ (v.chain ++ (big_bytes 2 v.replica ++ verdict_kind v.shown ∷ []))

-- the head, the two votes, and what else shows that they break the rule
unfoldable pub verdict_text : VerdictParts → List ℕ
verdict_text v = head_text v ++ (bound_text v.earlier ++ (bound_text v.later ++ shown_text v.shown))

-- the bytes are those of a verdict with these parts
pub record IsVerdictOf (bytes : List ℕ) (v : VerdictParts) : Type 0 where
  pub parts : AreParts v
  pub text : bytes ≡ verdict_text v

-- the headers of a lock violation are readable
abbrev pub HeadersAreReadable : List ℕ → Type 0
HeadersAreReadable bytes = verdict_kind_in bytes ≡ 2 → IsSome (headers_in bytes)

-- ---- the parts of a verdict at their places

-- what headers show, where there are any
abbrev pub shown_of : Option VotedHeaders → Shown
shown_of None = DoubleVote
shown_of (Some h) = LockViolation h

-- what a verdict says to show that a rule is broken, and that of a lock violation a header is unreadable
abbrev pub IsShownIn : List ℕ → Option Shown → Type 0
IsShownIn bytes None = (verdict_kind_in bytes ≡ 2) × (headers_in bytes ≡ None)
IsShownIn bytes (Some DoubleVote) = (verdict_kind_in bytes ≡ 1) × (headers_in bytes ≡ None)
IsShownIn bytes (Some (LockViolation h)) = (verdict_kind_in bytes ≡ 2) × (headers_in bytes ≡ Some h)

abbrev pub parts_in : List ℕ → VerdictParts
parts_in bytes = record {
  chain = chain_in bytes;
  replica = replica_in bytes;
  earlier = record { key = earlier_key_in bytes; view = (earlier_in bytes).view; id = (earlier_in bytes).id; signature = earlier_signature_in bytes };
  later = record { key = later_key_in bytes; view = (later_in bytes).view; id = (later_in bytes).id; signature = later_signature_in bytes };
  shown = shown_of (headers_in bytes);
}
