-- The lines that are printed, as docs/hs_show.md lays them out. Each ends with a line feed.
use Rattle.std.specs.Prelude.{ℕ, zero, suc, ◌-◌, ◌/◌, ◌==◌, ◌||◌, ◌++◌, List, [], ◌∷◌, length, slice_index, count_by, codes, decimal, Option, None, Some, Result, Ok, Err, if◌then◌else◌}
use Rattle.hex.specs.Hex.{encode_lower}
use Rattle.base_wire.specs.Pieces.{piece, number_at}
use Rattle.base_wire.specs.declared.limits.TheConstants.{MOST_ENTRIES, MOST_KEYS}
use Rattle.blocks.specs.Headers.{Header, header_id}
use Rattle.blocks.specs.Committees.{has_many_keys, has_weights, n_of, weight_at, keys_of, key_id_at}
use Rattle.blocks.specs.Genesis.{chain_id_of}
use Rattle.blocks.specs.Weights.{total_of, quorum_of}
use Rattle.blocks.specs.declared.committee.CommitteeRefusal.{CommitteeRefusal}
use Rattle.verdict_format.specs.Verdicts.{VotedHeaders, chain_in, earlier_in, earlier_key_in, headers_in, verdict_kind_in, later_in, later_key_in, replica_in}
use Rattle.base_text.specs.Printed.{printed, refusal_text, spoken}
use Rattle.log_format.specs.Readings.{status_name}
use Rattle.log_format.specs.declared.status.Status.{Status}
use Rattle.key_index_store.specs.Indices.{limit_of}
use Rattle.program_show.specs.Marks.{is_good, mark_text}
use Rattle.program_show.specs.declared.mark.Mark.{Mark}

-- "file PATH", a line whatever the path is
abbrev pub path_line : List ℕ → List ℕ
path_line path = codes "file " ++ (printed path ++ codes "\n")

-- "refused KIND N NAME": a file that begins as one of a kind, and is none
unfoldable pub shown_refusal_line : List ℕ → ℕ → List ℕ → List ℕ
shown_refusal_line kind number name = codes "refused " ++ kind ++ codes " " ++ decimal number ++ codes " " ++ name ++ codes "\n"

-- ---- a key

-- "seed key ID": nothing behind the first 16 bytes is looked at
unfoldable pub seed_line : List ℕ → List ℕ
seed_line bytes = codes "seed key " ++ encode_lower (piece 16 bytes 0) ++ codes "\n"

-- "key ID root ROOT"
unfoldable pub shown_key_line : List ℕ → List ℕ → List ℕ
shown_key_line id root = codes "key " ++ encode_lower id ++ codes " root " ++ encode_lower root ++ codes "\n"

-- ---- a committee

-- "chain ID"
unfoldable pub chain_line : List ℕ → List ℕ
chain_line chain = codes "chain " ++ encode_lower chain ++ codes "\n"

-- "say DDDD DDDD ..": the digits of a chain's id in sixteen groups of four, to be read aloud
unfoldable pub say_line : List ℕ → List ℕ
say_line chain = codes "say" ++ spoken chain 16 ++ codes "\n"

-- "committee f F n N"
unfoldable pub size_line : ℕ → ℕ → List ℕ
size_line f n = codes "committee f " ++ decimal f ++ codes " n " ++ decimal n ++ codes "\n"

-- "committee n N weight W quorum Q"
unfoldable pub weighted_size_line : ℕ → ℕ → ℕ → List ℕ
weighted_size_line n total quorum =
    codes "committee n " ++ decimal n ++ codes " weight " ++ decimal total ++ codes " quorum " ++ decimal quorum ++ codes "\n"

-- of 3f + 1 replicas f, where the format has no weights
abbrev pub first_line : List ℕ → List ℕ
first_line committee =
    if has_weights committee
    then weighted_size_line (n_of committee) (total_of committee) (quorum_of committee)
    else size_line (n_of committee / 3) (n_of committee)

-- "replica R key ID"
unfoldable pub replica_line : ℕ → List ℕ → List ℕ
replica_line r id = codes "replica " ++ decimal r ++ codes " key " ++ encode_lower id ++ codes "\n"

-- "replica R weight S key ID"
unfoldable pub weighted_replica_line : ℕ → ℕ → List ℕ → List ℕ
weighted_replica_line r weight id =
    codes "replica " ++ decimal r ++ codes " weight " ++ decimal weight ++ codes " key " ++ encode_lower id ++ codes "\n"

-- "replica R weight S keys K"
unfoldable pub multikey_replica_front : ℕ → ℕ → ℕ → List ℕ
multikey_replica_front r weight keys =
    codes "replica " ++ decimal r ++ codes " weight " ++ decimal weight ++ codes " keys " ++ decimal keys

-- " ID" of each of the first keys of replica r, so many
abbrev pub key_ids : List ℕ → ℕ → ℕ → List ℕ
key_ids committee r zero = []
key_ids committee r (suc k) = key_ids committee r k ++ codes " " ++ encode_lower (key_id_at committee r k)

-- "replica R weight S keys K ID ID.."
abbrev pub multikey_replica_line : List ℕ → ℕ → List ℕ
multikey_replica_line committee r =
    multikey_replica_front r (weight_at committee r) (keys_of committee r) ++ key_ids committee r (keys_of committee r) ++ codes "\n"

abbrev pub member_line : List ℕ → ℕ → List ℕ
member_line committee r =
    if has_many_keys committee
    then multikey_replica_line committee r
    else (if has_weights committee
    then weighted_replica_line r (weight_at committee r) (key_id_at committee r 0)
    else replica_line r (key_id_at committee r 0))

-- "votes R N": what the keys of replica r sign in all
unfoldable pub votes_line : ℕ → ℕ → List ℕ
votes_line r votes = codes "votes " ++ decimal r ++ codes " " ++ decimal votes ++ codes "\n"

-- what is said of a replica
abbrev pub lines_of_replica : List ℕ → ℕ → List ℕ
lines_of_replica committee r = member_line committee r ++ votes_line r (limit_of (keys_of committee r))

-- of the first replicas, so many
abbrev pub replica_lines : List ℕ → ℕ → List ℕ
replica_lines committee zero = []
replica_lines committee (suc r) = replica_lines committee r ++ lines_of_replica committee r

abbrev pub committee_lines : List ℕ → List ℕ
committee_lines committee =
    first_line committee ++ chain_line (chain_id_of committee) ++ say_line (chain_id_of committee)
    ++ replica_lines committee (n_of committee)

-- "refused committee WHY"
unfoldable pub refused_committee_line : List ℕ → List ℕ
refused_committee_line why = codes "refused committee " ++ why ++ codes "\n"

abbrev pub committee_file : Result (List ℕ) CommitteeRefusal → List ℕ
committee_file (Ok committee) = committee_lines committee
committee_file (Err refusal) = refused_committee_line (refusal_text refusal)

-- ---- signatures

-- "signatures N good G"
unfoldable pub signatures_line : ℕ → ℕ → List ℕ
signatures_line count good = codes "signatures " ++ decimal count ++ codes " good " ++ decimal good ++ codes "\n"

-- "signatures N not checked"
unfoldable pub unchecked_line : ℕ → List ℕ
unchecked_line count = codes "signatures " ++ decimal count ++ codes " not checked\n"

-- the first of both, where a committee was given
abbrev pub good_count_line : Option (List ℕ) → List Mark → List ℕ
good_count_line None marks = []
good_count_line (Some committee) marks = signatures_line (length marks) (count_by is_good marks)

-- ---- a verdict

-- "verdict rule K replica R"
unfoldable pub rule_line : ℕ → ℕ → List ℕ
rule_line rule replica = codes "verdict rule " ++ decimal rule ++ codes " replica " ++ decimal replica ++ codes "\n"

-- " key K index I": the number of the key that a vote names, and the index of its one-time key
unfoldable pub key_part : ℕ → ℕ → List ℕ
key_part key index = codes " key " ++ decimal key ++ codes " index " ++ decimal index

-- "vote PLACE view V id ID key K index I", and whether it is good
unfoldable pub vote_line : List ℕ → ℕ → List ℕ → ℕ → ℕ → Mark → List ℕ
vote_line place view id key index mark =
    codes "vote " ++ place ++ codes " view " ++ decimal view ++ codes " id " ++ encode_lower id
    ++ key_part key index ++ mark_text mark ++ codes "\n"

-- "header PLACE view V id ID parent V ID"
unfoldable pub header_line : List ℕ → Header → List ℕ
header_line place h =
    codes "header " ++ place ++ codes " view " ++ decimal h.view ++ codes " id " ++ encode_lower (header_id h)
    ++ codes " parent " ++ decimal h.parent_view ++ codes " " ++ encode_lower h.parent ++ codes "\n"

-- the three headers of a lock violation, or that one of them is unreadable
abbrev pub headers_lines : ℕ → Option VotedHeaders → List ℕ
headers_lines rule None = if rule == 2 then codes "headers unreadable\n" else []
headers_lines rule (Some h) =
    header_line (codes "first") h.earlier ++ header_line (codes "parent") h.parent ++ header_line (codes "second") h.later

-- the signatures of the votes begin with their indices, at 80 and at 1573
abbrev pub verdict_lines : List ℕ → Mark → Mark → List ℕ
verdict_lines bytes first second =
    rule_line (verdict_kind_in bytes) (replica_in bytes) ++ chain_line (chain_in bytes)
    ++ vote_line (codes "first") (earlier_in bytes).view (earlier_in bytes).id (earlier_key_in bytes) (number_at 4 bytes 80) first
    ++ vote_line (codes "second") (later_in bytes).view (later_in bytes).id (later_key_in bytes) (number_at 4 bytes 1573) second
    ++ headers_lines (verdict_kind_in bytes) (headers_in bytes)

-- ---- a log

-- "export STATUS frames N"
unfoldable pub export_line : Status → ℕ → List ℕ
export_line status count = codes "export " ++ status_name status ++ codes " frames " ++ decimal count ++ codes "\n"

-- "journal Closed entries N left M": for so many there is room
unfoldable pub journal_line : ℕ → List ℕ
journal_line count = codes "journal Closed entries " ++ decimal count ++ codes " left " ++ decimal (MOST_ENTRIES - count) ++ codes "\n"

-- of the indices of so many keys those that are left, where all below the boundary are taken
abbrev pub left_with : ℕ → ℕ → ℕ
left_with keys boundary = limit_of keys - boundary

-- " A B ..": how many are left with one key, with two, and up to so many
abbrev pub left_text : ℕ → ℕ → List ℕ
left_text boundary zero = []
left_text boundary (suc k) = left_text boundary k ++ codes " " ++ decimal (left_with (suc k) boundary)

-- "indices taken N left A B C D"
unfoldable pub indices_line : ℕ → List ℕ
indices_line boundary =
    codes "indices taken " ++ decimal boundary ++ codes " left" ++ left_text boundary MOST_KEYS ++ codes "\n"

-- "entry K refused N NAME"
unfoldable pub refused_entry_line : ℕ → ℕ → List ℕ → List ℕ
refused_entry_line k number name =
    codes "entry " ++ decimal k ++ codes " refused " ++ decimal number ++ codes " " ++ name ++ codes "\n"

-- "entry K vote view V id ID", or "lock" where the replica did not vote
unfoldable pub entry_front : ℕ → List ℕ → Header → List ℕ
entry_front k kind block =
    codes "entry " ++ decimal k ++ codes " " ++ kind ++ codes " view " ++ decimal block.view
    ++ codes " id " ++ encode_lower (header_id block)

-- "payload HEX": that of an entry's block
unfoldable pub payload_line : List ℕ → List ℕ
payload_line payload = codes "payload " ++ encode_lower payload ++ codes "\n"

-- "handover HEX": what stands behind the mark of a block that hands over, the first digits of the SHA-256 of the next committee's file
unfoldable pub handover_line : List ℕ → List ℕ
handover_line payload = codes "handover " ++ encode_lower (piece 28 payload 4) ++ codes "\n"

-- "see hs_tool migrate": behind a log whose first entry is of a kind of the form before votes named their keys
abbrev pub old_form_line : List (List ℕ) → List ℕ
old_form_line [] = []
old_form_line (payload ∷ payloads) =
    if (slice_index payload 0 == 1) || (slice_index payload 0 == 2) then codes "see hs_tool migrate\n" else []

-- " parent V ID voters"
unfoldable pub parent_part : Header → List ℕ
parent_part block =
    codes " parent " ++ decimal block.parent_view ++ codes " " ++ encode_lower block.parent ++ codes " voters"

-- " R", and whether it is good
unfoldable pub voter_part : ℕ → Mark → List ℕ
voter_part replica mark = codes " " ++ decimal replica ++ mark_text mark
