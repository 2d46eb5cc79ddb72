-- Entries and logs in the form from before votes named their keys: that of today without the numbers of keys, and with
-- other kinds. docs/FORMATS.md, 'Log entry', has the form of today.
use Rattle.std.specs.Prelude.{◌≡◌, ◌<◌, ◌++◌, ℕ, List, [], ◌∷◌, length, map, slice_get, take, Option, Some, None, IfSome}
use Rattle.std.specs.List.{All, flat_map}
use Rattle.byteorder.specs.Endian.{big_bytes}
use Rattle.blocks.specs.Headers.{Header, header_id, header_text}
use Rattle.blocks.specs.Replay.{IsLegal}
use Rattle.certificates.specs.declared.certificate.Endorsement.{Endorsement}
use Rattle.certificates.specs.Certificates.{Certificate}
use Rattle.log_format.specs.declared.entry.KeyedSignature.{KeyedSignature}
use Rattle.log_format.specs.EntryText.{Entry, IsEntry}
use Rattle.vote_log.specs.Logs.{steps_of}

-- ---- the bytes of an entry in the old form, which has no room for a number of a key

-- a replica's number and its signature
abbrev pub old_endorsement_text : Endorsement → List ℕ
old_endorsement_text d = big_bytes 2 d.replica ++ d.signature

-- the view, the id, the number of entries, and the entries one after the other
unfoldable pub old_certificate_text : Certificate → List ℕ
old_certificate_text c = big_bytes 8 c.view ++ (c.id ++ (big_bytes 2 (length c.entries) ++ flat_map old_endorsement_text c.entries))

-- 1 with the replica's own vote, 2 without
abbrev pub old_entry_kind : Option KeyedSignature → ℕ
old_entry_kind (Some own) = 1
old_entry_kind None = 2

-- the own vote, if there is one: the block's view and id, and the signature
abbrev pub old_own_vote_text : Header → Option KeyedSignature → List ℕ
old_own_vote_text block (Some own) = big_bytes 8 block.view ++ (header_id block ++ own.signature)
old_own_vote_text block None = []

-- the kind, the block's header, its parent's, the own vote, and the certificate
unfoldable pub old_entry_text : Entry → List ℕ
old_entry_text e = (old_entry_kind e.own ∷ []) ++ (header_text e.block ++ (header_text e.parent ++ (old_own_vote_text e.block e.own ++ old_certificate_text e.certificate)))

-- ---- entries that the old form has

-- each vote in the entry is by key 0
pub record HasKeysZero (e : Entry) : Type 0 where
  pub own : IfSome e.own (λ s. s.key ≡ 0)
  pub each : All (λ (d : Endorsement). d.key ≡ 0) e.certificate.entries

-- an entry that has bytes in the old form
pub record IsOldEntry (e : Entry) : Type 0 where
  pub entry : IsEntry e
  pub keys : HasKeysZero e

-- the bytes are those of this entry in the old form
pub record IsOldEntryOf (bytes : List ℕ) (e : Entry) : Type 0 where
  pub old : IsOldEntry e
  pub text : bytes ≡ old_entry_text e

-- payload by payload, these are the texts of these entries in the old form
pub record AreOldTexts (payloads : List (List ℕ)) (entries : List Entry) : Type 0 where
  pub each : All IsOldEntry entries
  pub texts : payloads ≡ map old_entry_text entries

-- ---- logs in the old form

-- payload k is the text of this entry in the old form
pub record IsOldEntryAt (payloads : List (List ℕ)) (k : ℕ) (e : Entry) : Type 0 where
  pub text : List ℕ
  pub at : slice_get payloads k ≡ Some text
  pub entry : IsOldEntryOf text e

-- the payloads are the texts of these entries, which are legal one after the other
pub record IsOldLog (genesis : Header) (payloads : List (List ℕ)) (entries : List Entry) : Type 0 where
  pub texts : AreOldTexts payloads entries
  pub legal : IsLegal genesis (steps_of entries)

-- the first k payloads are such a log, and there is one more
pub record IsOldLogUpTo (genesis : Header) (payloads : List (List ℕ)) (k : ℕ) (entries : List Entry) : Type 0 where
  pub place : k < length payloads
  pub log : IsOldLog genesis (take k payloads) entries

-- payload k is the least that is not readable in the old form or not legal, and is not readable
pub record IsFirstOldUnreadable (genesis : Header) (payloads : List (List ℕ)) (k : ℕ) : Type 0 where
  pub entries : List Entry
  pub before : IsOldLogUpTo genesis payloads k entries
  pub unreadable : (e : Entry) → IsOldEntryAt payloads k e → ⊥

-- .. and is not legal
pub record IsFirstOldIllegal (genesis : Header) (payloads : List (List ℕ)) (k : ℕ) : Type 0 where
  pub entries : List Entry
  pub before : IsOldLogUpTo genesis payloads k entries
  pub entry : Entry
  pub here : IsOldEntryAt payloads k entry
  pub illegal : IsLegal genesis (steps_of (entries ++ entry ∷ [])) → ⊥
