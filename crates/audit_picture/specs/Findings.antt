-- What a picture says in words of an audit.
use Rattle.std.specs.Prelude.{◌++◌, ℕ, List, [], Option, None, Some, codes, decimal, length}
use Rattle.blocks.specs.Committees.{n_of}
use Rattle.blocks.specs.Genesis.{chain_id_of}
use Rattle.culprit_search.specs.Reports.{Report}
use Rattle.culprit_search.specs.declared.report.Conflict.{Conflict}
use Rattle.audit_picture.specs.Digits.{short_id}
use Rattle.audit_picture.specs.declared.layout.TheConstants.{MARGIN}
use Rattle.audit_picture.specs.declared.scene.Scene.{Scene}

-- the conflict, the committee, how many commits and culprits there are, and where replicas have weights how much the culprits and
-- all replicas weigh
pub record Findings : Type 0 where
  pub conflict : Option Conflict
  pub replicas : ℕ
  pub chain : List ℕ
  pub commits : ℕ
  pub culprits : ℕ
  pub weight : ℕ
  pub total : Option ℕ

-- of an audit under a committee
abbrev pub findings_of : List ℕ → Report → Findings
findings_of committee r = record {
  conflict = r.conflict;
  replicas = n_of committee;
  chain = chain_id_of committee;
  commits = length r.commits;
  culprits = length r.verdicts;
  weight = r.weight;
  total = r.total;
}

abbrev pub findings_in : Scene → Findings
findings_in scene = record {
  conflict = scene.conflict;
  replicas = scene.replicas;
  chain = scene.chain;
  commits = length scene.commits.items;
  culprits = length scene.culprits.items;
  weight = scene.weight;
  total = scene.total;
}

-- ---- the conflict

-- by the digits of the two ids
unfoldable pub conflict_line : (first second : List ℕ) → List ℕ
conflict_line first second =
    codes "<text class=\"finding alarm\" x=\"" ++ (decimal MARGIN ++ (codes "\" y=\"26\">Conflict: " ++ (first
    ++ (codes " and " ++ (second ++ codes " are both committed</text>\n")))))

unfoldable pub no_conflict_line : List ℕ
no_conflict_line = codes "<text class=\"finding\" x=\"" ++ decimal MARGIN ++ codes "\" y=\"26\">No conflict</text>\n"

-- whether commits conflict, and which two first
abbrev pub finding_line : Option Conflict → List ℕ
finding_line None = no_conflict_line
finding_line (Some c) = conflict_line (short_id c.first) (short_id c.second)

-- ---- the counts

-- the number of replicas, the digits of the chain's id, and how many commits and culprits there are
unfoldable pub counts_text : (replicas : ℕ) (chain : List ℕ) (commits culprits : ℕ) → List ℕ
counts_text replicas chain commits culprits =
    codes "<text class=\"small\" x=\"" ++ (decimal MARGIN ++ (codes "\" y=\"46\">replicas " ++ (decimal replicas ++ (codes ", chain " ++ (chain
    ++ (codes ", commits " ++ (decimal commits ++ (codes ", culprits " ++ decimal culprits))))))))

-- how much the culprits weigh of how much
abbrev pub weight_text : ℕ → Option ℕ → List ℕ
weight_text weight None = []
weight_text weight (Some total) = codes " of weight " ++ decimal weight ++ codes " of " ++ decimal total

abbrev pub counts_line : Findings → List ℕ
counts_line f = counts_text f.replicas (short_id f.chain) f.commits f.culprits ++ weight_text f.weight f.total ++ codes "</text>\n"

-- ---- both

abbrev pub findings_text : Findings → List ℕ
findings_text f = finding_line f.conflict ++ counts_line f
