-- The line of an entry from its pieces.
use Rattle.std.proofs.Common.{◌≡◌, ◌≢◌, ℕ, List, ◌++◌, Option, Some, None, option_map, codes, refl, ap, ◌∙◌, append_assoc, inl}
use Rattle.blocks.specs.Headers.{header_id}
use Rattle.log_format.specs.EntryReading.{IsEntryRefusal, IsFirstFailed}
use Rattle.log_format.specs.EntryText.{Entry, IsEntryOf, own_of, own_vote_of}
use Rattle.log_format.specs.declared.entry.KeyedSignature.{KeyedSignature}
use Rattle.log_format.specs.declared.entry.EntryRefusal.{EntryRefusal}
use Rattle.log_format.specs.declared.entry.EntryRefusal.TheVariants.{Memory, Length, Kind, Header, Parent, OwnVote, Certificate}
use Rattle.program_show.specs.Entries.{AddsOnly, AreVoterParts, IsBlockText, IsEntryLine, IsOwnPart, IsPayloadShown, act_name}
use Rattle.program_show.specs.Lines.{entry_front, parent_part}
use Rattle.program_show.specs.Series.{AddsText}
use Rattle.program_show.specs.declared.mark.Mark.{Mark}
use Rattle.program_show.proofs.Longer.{five_pieces}

-- the own vote as it stands in the entry, whosesoever it is
kept : (replica view : ℕ) (id : List ℕ) (own : Option KeyedSignature)
    → own_of (option_map (λ (s : KeyedSignature). record { replica = replica; view = view; id = id; key = s.key; signature = s.signature }) own) ≡ own
kept replica view id (Some own) = refl
kept replica view id None = refl

pub own_is : (e : Entry) (replica : ℕ) → own_of (own_vote_of e replica) ≡ e.own
own_is e replica = kept replica e.block.view (header_id e.block) e.own

pub entry_added : (committee : Option (List ℕ)) (k : ℕ) (e : Entry) (t0 t1 t2 t3 t4 t5 : List ℕ) (m0 m1 m2 : List Mark)
    → t1 ≡ t0 ++ entry_front k (act_name e.own) e.block → AddsText t1 t2 m0 m1 (IsOwnPart committee e e.own)
    → t3 ≡ t2 ++ parent_part e.block → AddsText t3 t4 m1 m2 (AreVoterParts committee e.certificate) → t5 ≡ t4 ++ codes "\n"
    → AddsText t0 t5 m0 m2 (IsEntryLine committee k e)
entry_added committee k e t0 t1 t2 t3 t4 t5 m0 m1 m2 front (own_text, own_marks, own, own_added, own_seen) parent (voters_text, voters_marks, voters, voters_added, voters_seen) end =
    let front_text = entry_front k (act_name e.own) e.block in (
      front_text ++ own_text ++ parent_part e.block ++ voters_text ++ codes "\n",
      own_marks ++ voters_marks,
      record { own_text = own_text; own_marks = own_marks; own = own; voters_text = voters_text; voters_marks = voters_marks; voters = voters; text_is = refl; marks_are = refl },
      five_pieces t0 front_text own_text (parent_part e.block) voters_text (codes "\n") t1 t2 t3 t4 t5 front own_added parent voters_added end,
      voters_seen ∙ ap (λ (m : List Mark). m ++ voters_marks) own_seen ∙ append_assoc m0 own_marks voters_marks,
    )

-- where memory was not refused, a test failed
pub failed_first : (bytes : List ℕ) (r : EntryRefusal) → r ≢ Memory → IsEntryRefusal bytes r → IsFirstFailed bytes r
failed_first bytes Memory other refused = absurd (other refl)
failed_first bytes Length other refused = refused
failed_first bytes Kind other refused = refused
failed_first bytes Header other refused = refused
failed_first bytes Parent other refused = refused
failed_first bytes OwnVote other refused = refused
failed_first bytes Certificate other refused = refused

-- an entry's line, and behind it what is said of its block
pub entry_and_block : (committee : Option (List ℕ)) (k : ℕ) (payload : List ℕ) (e : Entry) (t0 t1 t2 : List ℕ) (m0 m1 : List Mark)
    → IsEntryOf payload e → AddsText t0 t1 m0 m1 (IsEntryLine committee k e) → AddsOnly t1 t2 (IsBlockText e.block)
    → AddsText t0 t2 m0 m1 (IsPayloadShown committee k payload)
entry_and_block committee k payload e t0 t1 t2 m0 m1 spelled (line, seen, is_line, added, marks) (more, is_block, more_added) = (
  line ++ more,
  seen,
  inl (record { entry = e; spelled = spelled; line_text = line; line = is_line; block_text = more; block = is_block; text_is = refl }),
  more_added ∙ ap (λ (t : List ℕ). t ++ more) added ∙ append_assoc t0 line more,
  marks,
)
