-- The lines of the sources in a picture.
use Rattle.std.specs.Prelude.{◌≡◌, ◌++◌, ℕ, List, codes, decimal}
use Rattle.log_format.specs.Readings.{status_name}
use Rattle.audit_picture.specs.Series.{AreOf}
use Rattle.audit_picture.specs.declared.layout.TheConstants.{MARGIN}
use Rattle.audit_evidence.specs.declared.source.SourceReport.{SourceReport}

-- what came of source k, at this height
unfoldable pub source_line : (y k : ℕ) → SourceReport → List ℕ
source_line y k r =
    codes "<text class=\"small\" x=\"" ++ (decimal MARGIN ++ (codes "\" y=\"" ++ (decimal y ++ (codes "\">source " ++ (decimal k
    ++ (codes " replica " ++ (decimal r.replica ++ (codes " " ++ (status_name r.status
    ++ (codes " frames " ++ (decimal r.frames ++ (codes " entries " ++ (decimal r.entries ++ codes "</text>\n")))))))))))))

abbrev pub IsSourceLine : ℕ → SourceReport → List ℕ → Type 0
IsSourceLine k r text = (y : ℕ) × (text ≡ source_line y k r)

-- one below the other
abbrev pub AreSourceLines : List SourceReport → List ℕ → Type 0
AreSourceLines reports text = AreOf IsSourceLine 0 reports text
