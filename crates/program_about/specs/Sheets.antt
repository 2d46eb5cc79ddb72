-- A verdict as a sheet to read.
use Rattle.std.specs.Prelude.{ℕ, ◌≡◌, ◌⊎◌, ◌==◌, ◌++◌, List, codes, decimal, if◌then◌else◌}
use Rattle.hex.specs.Hex.{encode_lower}
use Rattle.sha2.specs.Sha256.{sha256}
use Rattle.base_wire.specs.Pieces.{number_at}
use Rattle.blocks.specs.Committees.{key_id_at}
use Rattle.blocks.specs.Genesis.{chain_id_of}
use Rattle.blocks.specs.declared.ballot.Ballot.{Ballot}
use Rattle.base_text.specs.Printed.{spoken}
use Rattle.verdict_format.specs.Proofs.{IsProof}
use Rattle.verdict_format.specs.Verdicts.{earlier_in, earlier_key_in, later_in, later_key_in, replica_in, verdict_kind_in}
use Rattle.verdict_format.specs.declared.verdict.TheConstants.{EARLIER_SIGNATURE_AT, LATER_SIGNATURE_AT}
use Rattle.verdict_checker.specs.Checks.{IsRefused, refusal_name, refusal_number}
use Rattle.verdict_checker.specs.declared.refusal.Refusal.{Refusal}
use Rattle.program_help.specs.Helps.{version_text}

-- who is accused
unfoldable pub accused_line : ℕ → List ℕ
accused_line replica = codes "STATEMENT ON A VERDICT\n\nReplica " ++ decimal replica ++ codes " of the committee whose chain id is\n\n"

unfoldable pub breach_line : List ℕ
breach_line = codes "\n\nbroke a voting rule that no correct replica breaks.\n\n"

abbrev pub accused_part : ℕ → List ℕ → List ℕ
accused_part replica chain = accused_line replica ++ spoken chain 16 ++ breach_line

-- of what
unfoldable pub double_vote_text : List ℕ
double_vote_text = codes "Rule 1, double vote: it signed votes for two different blocks in one view.\n\n"

unfoldable pub lock_violation_text : List ℕ
lock_violation_text =
    codes "Rule 2, lock violation: once it had cast its first vote, its lock was the grandparent of\nthat vote's block or a block of a later view, whatever had put it there. Its second vote,\nin a later view, is for a block that does not build on that lock: the parent of that block\nis in an earlier view than the grandparent of the first vote's block.\n\n"

abbrev pub rule_part : ℕ → List ℕ
rule_part rule = if rule == 1 then double_vote_text else lock_violation_text

-- of a vote its view and its block
unfoldable pub ballot_lines : List ℕ → Ballot → List ℕ
ballot_lines place vote = place ++ codes " vote: view " ++ decimal vote.view ++ codes "\n  block " ++ encode_lower vote.id

-- the key that signed it, and the one-time key
unfoldable pub signer_line : ℕ → List ℕ → List ℕ
signer_line key key_id = codes "\n  key " ++ decimal key ++ codes ", id " ++ encode_lower key_id

unfoldable pub one_time_part : ℕ → List ℕ
one_time_part index = codes ", one-time key " ++ decimal index ++ codes "\n\n"

abbrev pub vote_part : List ℕ → Ballot → ℕ → List ℕ → ℕ → List ℕ
vote_part place vote key key_id index = ballot_lines place vote ++ signer_line key key_id ++ one_time_part index

-- .. of the first vote of a verdict
abbrev pub earlier_part : List ℕ → List ℕ → List ℕ
earlier_part committee verdict =
    vote_part (codes "First") (earlier_in verdict) (earlier_key_in verdict)
    (key_id_at committee (replica_in verdict) (earlier_key_in verdict)) (number_at 4 verdict EARLIER_SIGNATURE_AT)

-- .. of the second
abbrev pub later_part : List ℕ → List ℕ → List ℕ
later_part committee verdict =
    vote_part (codes "Second") (later_in verdict) (later_key_in verdict)
    (key_id_at committee (replica_in verdict) (later_key_in verdict)) (number_at 4 verdict LATER_SIGNATURE_AT)

-- .. of both
abbrev pub votes_part : List ℕ → List ℕ → List ℕ
votes_part committee verdict = earlier_part committee verdict ++ later_part committee verdict

-- which files were judged, by their digests
unfoldable pub digest_lines : List ℕ → List ℕ → List ℕ
digest_lines committee verdict =
    codes "Both signatures verify under these keys of the replica.\n\nSHA-256 of the verdict\n  " ++ encode_lower verdict
    ++ codes "\nSHA-256 of the committee's file\n  " ++ encode_lower committee

-- .. and by what
unfoldable pub judge_line : List ℕ
judge_line = codes "\nJudged by Wezhgula " ++ version_text ++ codes ".\n\n"

abbrev pub files_part : List ℕ → List ℕ → List ℕ
files_part committee verdict = digest_lines (sha256 committee) (sha256 verdict) ++ judge_line

-- what it does not say
unfoldable pub limits_part : List ℕ
limits_part =
    codes "It says nothing of intent, and nothing of when. A key that was stolen, a backup that was\nput back and a faulty program look the same. It holds under this committee's file alone:\ncompare the chain id with the one that you were told by another way.\n"

abbrev pub sheet_text : List ℕ → List ℕ → List ℕ
sheet_text committee verdict =
    accused_part (replica_in verdict) (chain_id_of committee) ++ rule_part (verdict_kind_in verdict)
    ++ votes_part committee verdict ++ files_part committee verdict ++ limits_part

-- "refused N NAME"
unfoldable pub refused_text : Refusal → List ℕ
refused_text refusal = codes "refused " ++ decimal (refusal_number refusal) ++ codes " " ++ refusal_name refusal ++ codes "\n"

-- the sheet where the verdict is a proof under the committee, with status 0, else the first refusal, with status 1
abbrev pub IsSheet : List ℕ → List ℕ → ℕ → List ℕ → Type 0
IsSheet committee verdict status text =
    ((status ≡ 0) × IsProof committee verdict × (text ≡ sheet_text committee verdict))
    ⊎ ((status ≡ 1) × (IsProof committee verdict → ⊥) × ((r : Refusal) × IsRefused committee verdict r × (text ≡ refused_text r)))
