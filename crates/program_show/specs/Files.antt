-- What is shown of a file: its text, and whether the file is whole of a kind that there is.
use Rattle.std.specs.Prelude.{ℕ, ◌≡◌, ◌≢◌, ◌++◌, ◌⊎◌, List, [], ◌∷◌, length, take, codes, Bool, true, false, Option, is_ok}
use Rattle.lms_tree.specs.Keys.{IsPublicKey}
use Rattle.lms_tree.specs.Tree.{key_text}
use Rattle.blocks.specs.CommitteeReading.{committee_in}
use Rattle.verdict_format.specs.VerdictReading.{IsReadableVerdict, IsFormRefusal, verdict_refusal_number}
use Rattle.verdict_format.specs.Verdicts.{earlier_vote_in, later_vote_in}
use Rattle.verdict_format.specs.declared.verdict.VerdictRefusal.{VerdictRefusal}
use Rattle.log_format.specs.Readings.{IsReading}
use Rattle.log_format.specs.declared.status.Status.{Status}
use Rattle.stable_log.specs.Image.{StandsFor, magic}
use Rattle.stable_log.specs.Refusals.{IsDamaged}
use Rattle.key_index_store.specs.Boundary.{IsBoundary}
use Rattle.key_index_store.specs.Indices.{limit_of}
use Rattle.key_index_store.specs.Refusals.{HasNoBoundary}
use Rattle.handover_renewals.specs.RenewalReading.{renewal_in}
use Rattle.base_wire.specs.declared.limits.TheConstants.{MOST_KEYS}
use Rattle.program_show.specs.EndorsementLines.{IsEndorsementText, IsNoEndorsementText}
use Rattle.program_show.specs.Entries.{ArePayloadsShown}
use Rattle.program_show.specs.Kinds.{kind_in}
use Rattle.program_show.specs.Lines.{committee_file, good_count_line, export_line, indices_line, journal_line, old_form_line, shown_key_line, path_line, shown_refusal_line, seed_line, verdict_lines}
use Rattle.program_show.specs.Marks.{IsMark}
use Rattle.program_show.specs.Names.{verdict_refusal_name}
use Rattle.program_show.specs.RenewalLines.{renewal_file}
use Rattle.program_show.specs.declared.kind.Kind.{Kind}
use Rattle.program_show.specs.declared.kind.Kind.TheVariants.{Seed, Committee, Verdict, Export, Endorsement, Renewal, Journal, Indices, Other}
use Rattle.program_show.specs.declared.mark.Mark.{Mark}

-- ---- a verdict

pub record IsVerdictText (committee : Option (List ℕ)) (bytes text : List ℕ) : Type 0 where
  pub readable : IsReadableVerdict bytes
  pub first : Mark
  pub is_first : IsMark committee (earlier_vote_in bytes) first
  pub second : Mark
  pub is_second : IsMark committee (later_vote_in bytes) second
  pub text_is : text ≡ verdict_lines bytes first second ++ good_count_line committee (first ∷ second ∷ [])

pub record IsNoVerdictText (bytes text : List ℕ) : Type 0 where
  pub refusal : VerdictRefusal
  pub first_refusal : IsFormRefusal bytes refusal
  pub text_is : text ≡ shown_refusal_line (codes "verdict") (verdict_refusal_number refusal) (verdict_refusal_name refusal)

-- ---- a log

-- a first line, what is shown of each payload, whether to migrate, and how many signatures are good
pub record IsLogText (committee : Option (List ℕ)) (head : List ℕ) (payloads : List (List ℕ)) (text : List ℕ) : Type 0 where
  pub lines : List ℕ
  pub marks : List Mark
  pub shown : ArePayloadsShown committee payloads lines marks
  pub text_is : text ≡ head ++ lines ++ old_form_line payloads ++ good_count_line committee marks

-- the frames of an export, and how it ends
pub record IsExportText (committee : Option (List ℕ)) (bytes text : List ℕ) : Type 0 where
  pub frames : List (List ℕ)
  pub status : Status
  pub reading : IsReading 0 bytes false frames status
  pub log : IsLogText committee (export_line status (length frames)) frames text

-- the entries that a journal stands for
pub record IsJournalText (committee : Option (List ℕ)) (bytes text : List ℕ) : Type 0 where
  pub payloads : List (List ℕ)
  pub stands : StandsFor bytes payloads
  pub log : IsLogText committee (journal_line (length payloads)) payloads text

-- no list stands for the bytes, and the line says why
abbrev pub IsNoJournalText : List ℕ → List ℕ → Type 0
IsNoJournalText bytes text =
    ((take 8 bytes ≢ magic) × (text ≡ shown_refusal_line (codes "journal") 3 (codes "NotAJournal")))
    ⊎ (IsDamaged bytes × (text ≡ shown_refusal_line (codes "journal") 4 (codes "Damaged")))

-- ---- the indices that are taken, read as those of the most keys

pub record IsIndicesText (bytes text : List ℕ) : Type 0 where
  pub boundary : ℕ
  pub is_boundary : IsBoundary (limit_of MOST_KEYS) boundary bytes
  pub text_is : text ≡ indices_line boundary

abbrev pub IsNoIndicesText : List ℕ → List ℕ → Type 0
IsNoIndicesText bytes text = HasNoBoundary (limit_of MOST_KEYS) bytes × (text ≡ shown_refusal_line (codes "indices") 5 (codes "BadEntry"))

-- ---- a public key

pub record IsKeyText (bytes text : List ℕ) : Type 0 where
  pub id : List ℕ
  pub root : List ℕ
  pub spelled : bytes ≡ key_text id root
  pub text_is : text ≡ shown_key_line id root

abbrev pub IsUnknownText : List ℕ → List ℕ → Type 0
IsUnknownText bytes text = (IsPublicKey bytes → ⊥) × (text ≡ codes "unknown\n")

-- ---- any file

-- one text where the file is whole, and another where it is not
abbrev pub IsWholeOrElse : Type 0 → Type 0 → Bool → Type 0
IsWholeOrElse whole other true = whole
IsWholeOrElse whole other false = other

abbrev pub IsShownAs : Kind → Option (List ℕ) → List ℕ → List ℕ → Bool → Type 0
IsShownAs Seed committee bytes text is_whole = (text ≡ seed_line bytes) × (is_whole ≡ true)
IsShownAs Committee committee bytes text is_whole = (text ≡ committee_file (committee_in bytes)) × (is_whole ≡ is_ok (committee_in bytes))
IsShownAs Verdict committee bytes text is_whole = IsWholeOrElse (IsVerdictText committee bytes text) (IsNoVerdictText bytes text) is_whole
IsShownAs Export committee bytes text is_whole = IsExportText committee bytes text × (is_whole ≡ true)
IsShownAs Endorsement committee bytes text is_whole = IsWholeOrElse (IsEndorsementText bytes text) (IsNoEndorsementText bytes text) is_whole
IsShownAs Renewal committee bytes text is_whole = (text ≡ renewal_file (renewal_in bytes)) × (is_whole ≡ is_ok (renewal_in bytes))
IsShownAs Journal committee bytes text is_whole = IsWholeOrElse (IsJournalText committee bytes text) (IsNoJournalText bytes text) is_whole
IsShownAs Indices committee bytes text is_whole = IsWholeOrElse (IsIndicesText bytes text) (IsNoIndicesText bytes text) is_whole
IsShownAs Other committee bytes text is_whole = IsWholeOrElse (IsKeyText bytes text) (IsUnknownText bytes text) is_whole

-- what is shown of a file with these bytes, under a committee if one was given
abbrev pub IsShown : Option (List ℕ) → List ℕ → List ℕ → Bool → Type 0
IsShown committee bytes text is_whole = IsShownAs (kind_in bytes) committee bytes text is_whole

-- the text that is printed: the line that names the file, and what is shown of it
pub record IsPrinted (committee : Option (List ℕ)) (path bytes text : List ℕ) (is_whole : Bool) : Type 0 where
  pub shown : List ℕ
  pub is_shown : IsShown committee bytes shown is_whole
  pub text_is : text ≡ path_line path ++ shown
