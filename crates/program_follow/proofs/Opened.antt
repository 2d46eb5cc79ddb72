-- What sources that were opened may be asked.
use Rattle.std.proofs.Common.{List, [], ◌∷◌, zero, suc, arith}
use Rattle.std.specs.List.{All, AllZip}
use Rattle.log_transfer.specs.Places.{MayTry}
use Rattle.log_transfer.specs.declared.source_connector.ServerOrFile.{ServerOrFile}
use Rattle.parallel_verify.specs.declared.source.Source.{Source}
use Rattle.program_parts.specs.declared.words.SourceWord.{SourceWord}
use Rattle.program_follow.specs.Sources.{IsOpenedAs, most_of}

-- each as often as its connector allows
pub may_be_tried : {S F : Type 0} (words : List SourceWord) (sources : List (Source (ServerOrFile S F))) → AllZip IsOpenedAs words sources → All (λ s. MayTry (most_of s.connector) s.tries) sources
may_be_tried words [] opened k d within = absurd (omega arith)
may_be_tried [] (s ∷ sources) opened k d within = absurd opened
may_be_tried (w ∷ words) (s ∷ sources) opened zero d within = opened.0.may
may_be_tried (w ∷ words) (s ∷ sources) opened (suc k) d within = may_be_tried words sources opened.1 k d (omega arith)
