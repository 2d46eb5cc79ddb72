-- The line that tells what came of a call to go over.
use Rattle.std.specs.Prelude.{◌++◌, ℕ, List, codes}
use Rattle.hex.specs.Hex.{encode_lower}
use Rattle.blocks.specs.declared.committee.CommitteeRefusal.{CommitteeRefusal}
use Rattle.base_text.specs.Printed.{refusal_text}

-- "over CHAIN"
abbrev pub gone_line : List ℕ → List ℕ
gone_line chain = codes "over " ++ encode_lower chain ++ codes "\n"

abbrev pub no_commit_line : List ℕ
no_commit_line = codes "refused over 1 NoCommit\n"

-- "refused over 2 OtherFile PAYLOAD"
abbrev pub other_file_line : List ℕ → List ℕ
other_file_line payload = codes "refused over 2 OtherFile " ++ encode_lower payload ++ codes "\n"

abbrev pub not_mine_line : List ℕ
not_mine_line = codes "refused over 3 NotMine\n"

-- "refused committee N NAME", and the replicas or keys that it names
abbrev pub refused_committee_line : CommitteeRefusal → List ℕ
refused_committee_line refusal = codes "refused committee " ++ refusal_text refusal ++ codes "\n"

abbrev pub stopped_over_line : List ℕ
stopped_over_line = codes "stopped over\n"
