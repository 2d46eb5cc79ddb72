-- The sources that words name, and what they show.
use Rattle.std.specs.Prelude.{◌≡◌, List, ℕ, ⊤}
use Rattle.std.specs.List.{AllZip}
use Rattle.blocks.specs.Committees.{IsCommittee}
use Rattle.log_transfer.specs.Places.{MayTry}
use Rattle.log_transfer.specs.Sources.{number_of}
use Rattle.log_transfer.specs.declared.connector.Connector.{Ghosts}
use Rattle.log_transfer.specs.declared.reader_state.TheConstants.{MOST_TRIES}
use Rattle.log_transfer.specs.declared.source_connector.ServerOrFile.{ServerOrFile}
use Rattle.log_transfer.specs.declared.source_connector.ServerOrFile.TheVariants.{Tcp as Server, File as Stored}
use Rattle.audit_evidence.specs.Evidence.{Evidence, IsEvidence}
use Rattle.parallel_verify.specs.Collections.{IsEvidenceOfSources, MayFail, MayGive}
use Rattle.parallel_verify.specs.declared.source.Source.{Source}
use Rattle.program_parts.specs.declared.words.Origin.{Origin}
use Rattle.program_parts.specs.declared.words.Origin.TheVariants.{File, Tcp}
use Rattle.program_parts.specs.declared.words.SourceWord.{SourceWord}

-- a server exactly for "tcp:", and else a file
abbrev pub IsOfOrigin : {S F : Type 0} → Origin → ServerOrFile S F → Type 0
IsOfOrigin (Tcp address) (Server s) = ⊤
IsOfOrigin (File path) (Stored f) = ⊤
IsOfOrigin _ _ = ⊥

-- a server may be asked 3 times, a file once
abbrev pub most_of : {S F : Type 0} → ServerOrFile S F → ℕ
most_of source = number_of (λ server. MOST_TRIES) (λ file. 1) source

-- the source is as its word says, and has as many tries as it may have
pub record IsOpenedAs {S F : Type 0} (word : SourceWord) (s : Source (ServerOrFile S F)) : Type 0 where
  pub of : s.replica ≡ word.replica
  pub origin : IsOfOrigin word.origin s.connector
  pub tries : s.tries ≡ most_of s.connector
  pub may : MayTry (most_of s.connector) s.tries

-- sources that are as these words say
pub record AreOpenedAs (S F : Type 0) (words : List SourceWord) : Type 0 where
  pub sources : List (Source (ServerOrFile S F))
  pub opened : AllZip IsOpenedAs words sources

-- under a committee the evidence of logs that such sources give, of good votes and of no two headers with one id, each
-- source with a cause where it failed
pub record IsShown {S F : Type 0} (connector : Ghosts (ServerOrFile S F)) (committee : List ℕ) (words : List SourceWord) (e : Evidence) : Type 0 where
  pub under : IsCommittee committee
  pub of : AreOpenedAs S F words
  pub evidence : IsEvidenceOfSources (MayGive connector.gives) committee of.sources e
  pub caused : AllZip (MayFail connector.reaches connector.failed) of.sources e.sources
  pub sound : IsEvidence e
