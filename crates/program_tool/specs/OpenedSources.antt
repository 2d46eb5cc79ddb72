-- The sources that words name.
use Rattle.std.specs.Borrow.{Bor}
use Rattle.std.specs.Prelude.{◌≡◌, ℕ, List, ⊤}
use Rattle.std.specs.List.{All, AllZip}
use Rattle.log_transfer.specs.declared.source_connector.ServerOrFile.{ServerOrFile}
use Rattle.log_transfer.specs.declared.source_connector.ServerOrFile.TheVariants.{Tcp as Server, File as Stored}
use Rattle.parallel_verify.specs.declared.source.Source.{Source}
use Rattle.program_parts.specs.Words.{SpellsSource}
use Rattle.program_parts.specs.declared.words.Origin.{Origin}
use Rattle.program_parts.specs.declared.words.Origin.TheVariants.{File, Tcp}
use Rattle.program_parts.specs.declared.words.SourceWord.{SourceWord}
use Rattle.program_tool.specs.SourceTries.{IsTriedAs}

-- a source for each word, as it is spelled
abbrev pub SpellSources : List (Bor (List ℕ)) → List SourceWord → Type 0
SpellSources words sources = AllZip (λ word source. SpellsSource word.now source) words sources

-- a server exactly for "tcp:", and else a file
abbrev pub IsOfOrigin : {S F : Type 0} → Origin → ServerOrFile S F → Type 0
IsOfOrigin (Tcp address) (Server s) = ⊤
IsOfOrigin (File path) (Stored f) = ⊤
IsOfOrigin _ _ = ⊥

-- the connector of this replica's source is as its word says
pub record IsOpenedAs {S F : Type 0} (word : SourceWord) (replica : ℕ) (connector : ServerOrFile S F) : Type 0 where
  pub of : replica ≡ word.replica
  pub origin : IsOfOrigin word.origin connector

-- a source was opened for each word, as the word says, with so many tries or as many as it may have
pub record AreOpenedAs {S F : Type 0} (tries : ℕ) (words : List SourceWord) (sources : List (Source (ServerOrFile S F))) : Type 0 where
  pub each : AllZip (λ word s. IsOpenedAs word s.replica s.connector) words sources
  pub tried : All (λ s. IsTriedAs tries s.connector s.tries) sources
