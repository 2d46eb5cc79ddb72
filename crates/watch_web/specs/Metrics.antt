-- The metrics of a watch, as Prometheus reads them (text format 0.0.4). Each line ends with a line feed.
use Rattle.std.specs.Prelude.{◌++◌, ◌/◌, ◌%◌, ℕ, Bool, true, false, List, codes, decimal, is_some, length, nat_lt, string_bytes}
use Rattle.std.specs.List.{flat_map}
use Rattle.hex.specs.Hex.{encode_lower}
use Rattle.base_text.specs.Escapes.{escaped}
use Rattle.base_text.specs.declared.escaping.Inside.TheVariants.{Label}
use Rattle.watch_report.specs.Sources.{is_whole}
use Rattle.watch_report.specs.declared.snapshot.Snapshot.{Snapshot}
use Rattle.watch_report.specs.declared.source.SourceSeen.{SourceSeen}
use Rattle.watch_web.specs.declared.metrics.Family.{Family}
use Rattle.watch_web.specs.declared.metrics.Family.TheVariants.{WentBack, SetAside, Beyond, Stays, BadVotes, Whole, TopView, LastAnswer, LastFrame}

unfoldable pub number_of : Bool → ℕ
number_of true = 1
number_of false = 0

-- ---- of the whole

unfoldable pub findings_text : (culprits conflict handover : ℕ) → List ℕ
findings_text culprits conflict handover =
    codes "# HELP hs_watch_culprits How many culprits there are.\n# TYPE hs_watch_culprits gauge\nhs_watch_culprits " ++ decimal culprits
    ++ codes "\n# HELP hs_watch_conflict 1 if commits conflict, else 0.\n# TYPE hs_watch_conflict gauge\nhs_watch_conflict " ++ decimal conflict
    ++ codes "\n# HELP hs_watch_handover 1 if it is proved that the committee handed its ledger over, else 0.\n# TYPE hs_watch_handover gauge\nhs_watch_handover " ++ decimal handover ++ codes "\n"

-- which committee is watched, and what those before it have
unfoldable pub going_text : (committee : ℕ) → (chain : List ℕ) → (earlier : ℕ) → List ℕ
going_text committee chain earlier =
    codes "# HELP hs_watch_committee The number of the committee that is watched; the first one has 0.\n# TYPE hs_watch_committee gauge\nhs_watch_committee{chain=\"" ++ encode_lower chain
    ++ codes "\"} " ++ decimal committee
    ++ codes "\n# HELP hs_watch_earlier_culprits How many culprits the committees before have.\n# TYPE hs_watch_earlier_culprits gauge\nhs_watch_earlier_culprits " ++ decimal earlier ++ codes "\n"

-- the old name stays for a version
unfoldable pub commits_text : (commits : ℕ) → List ℕ
commits_text commits =
    codes "# HELP hs_watch_commits_total How many commits are proved.\n# TYPE hs_watch_commits_total counter\nhs_watch_commits_total " ++ decimal commits
    ++ codes "\n# HELP hs_watch_commits The same; it goes with the next version.\n# TYPE hs_watch_commits gauge\nhs_watch_commits " ++ decimal commits ++ codes "\n"

unfoldable pub losses_text : (unstored lines_lost : ℕ) → List ℕ
losses_text unstored lines_lost =
    codes "# HELP hs_watch_unstored 1 if something could not be stored, else 0.\n# TYPE hs_watch_unstored gauge\nhs_watch_unstored " ++ decimal unstored
    ++ codes "\n# HELP hs_watch_lines_lost_total How many lines were dropped, since nobody took them.\n# TYPE hs_watch_lines_lost_total counter\nhs_watch_lines_lost_total " ++ decimal lines_lost
    ++ codes "\n"

unfoldable pub state_text : (bytes most : ℕ) → List ℕ
state_text bytes most =
    codes "# HELP hs_watch_state_bytes How many bytes the files in DIR have.\n# TYPE hs_watch_state_bytes gauge\nhs_watch_state_bytes " ++ decimal bytes
    ++ codes "\n# HELP hs_watch_state_bytes_max How many they may have, or 0.\n# TYPE hs_watch_state_bytes_max gauge\nhs_watch_state_bytes_max " ++ decimal most ++ codes "\n"

unfoldable pub kept_text : (kept read : ℕ) → List ℕ
kept_text kept read =
    codes "# HELP hs_watch_kept_files How many files with parts of logs were kept when the watch began.\n# TYPE hs_watch_kept_files gauge\nhs_watch_kept_files " ++ decimal kept
    ++ codes "\n# HELP hs_watch_kept_files_read How many of them were read; they are audited once all were.\n# TYPE hs_watch_kept_files_read gauge\nhs_watch_kept_files_read " ++ decimal read ++ codes "\n"

-- milliseconds as seconds with three decimals
unfoldable pub seconds_text : ℕ → List ℕ
seconds_text ms = decimal (ms / 1000) ++ codes "." ++ decimal (ms / 100 % 10) ++ decimal (ms / 10 % 10) ++ decimal (ms % 10)

unfoldable pub rounds_text : (stamped took round : ℕ) → List ℕ
rounds_text stamped took round =
    codes "# HELP hs_watch_round_timestamp_seconds When the last round was.\n# TYPE hs_watch_round_timestamp_seconds gauge\nhs_watch_round_timestamp_seconds " ++ decimal stamped
    ++ codes "\n# HELP hs_watch_round_seconds How long the rounds took, but for what they publish.\n# TYPE hs_watch_round_seconds summary\nhs_watch_round_seconds_sum " ++ seconds_text took
    ++ codes "\nhs_watch_round_seconds_count " ++ decimal round ++ codes "\n"

unfoldable pub process_text : (started : ℕ) → List ℕ
process_text started =
    codes "# HELP process_start_time_seconds When the process began, in seconds since 1970.\n# TYPE process_start_time_seconds gauge\nprocess_start_time_seconds " ++ decimal started
    ++ codes "\n# HELP hs_build_info The version of this program.\n# TYPE hs_build_info gauge\nhs_build_info{version=\"0.9.0\"} 1\n"

-- ---- of each source

abbrev pub front_of : Family → List ℕ
front_of WentBack = codes "# HELP hs_watch_source_went_back_total How often a source's log went back.\n# TYPE hs_watch_source_went_back_total counter\n"
front_of SetAside = codes "# HELP hs_watch_source_set_aside 1 if no more of a source is read, else 0.\n# TYPE hs_watch_source_set_aside gauge\n"
front_of Beyond = codes "# HELP hs_watch_source_beyond 1 if a source gave a fifth log, which is not read, else 0.\n# TYPE hs_watch_source_beyond gauge\n"
front_of Whole = codes "# HELP hs_watch_source_whole 1 if what came last of a source had its end mark, else 0.\n# TYPE hs_watch_source_whole gauge\n"
front_of Stays = codes "# HELP hs_watch_source_stays 1 if a source has no log of a chain to which others went over, else 0.\n# TYPE hs_watch_source_stays gauge\n"
front_of BadVotes = codes "# HELP hs_watch_source_bad_votes_total How many votes of a source are not good.\n# TYPE hs_watch_source_bad_votes_total counter\n"
front_of TopView = codes "# HELP hs_watch_source_view The greatest view of the votes of a source that came in parts of which no vote is bad.\n# TYPE hs_watch_source_view gauge\n"
front_of LastAnswer = codes "# HELP hs_watch_source_last_answer_timestamp_seconds When a source last gave a byte, or 0.\n# TYPE hs_watch_source_last_answer_timestamp_seconds gauge\n"
front_of LastFrame = codes "# HELP hs_watch_source_last_frame_timestamp_seconds When a frame last came of a source, or 0.\n# TYPE hs_watch_source_last_frame_timestamp_seconds gauge\n"

abbrev pub name_of : Family → List ℕ
name_of WentBack = codes "hs_watch_source_went_back_total"
name_of SetAside = codes "hs_watch_source_set_aside"
name_of Beyond = codes "hs_watch_source_beyond"
name_of Whole = codes "hs_watch_source_whole"
name_of Stays = codes "hs_watch_source_stays"
name_of BadVotes = codes "hs_watch_source_bad_votes_total"
name_of TopView = codes "hs_watch_source_view"
name_of LastAnswer = codes "hs_watch_source_last_answer_timestamp_seconds"
name_of LastFrame = codes "hs_watch_source_last_frame_timestamp_seconds"

abbrev pub value_of : Family → SourceSeen → ℕ
value_of WentBack s = s.times_back
value_of SetAside s = number_of s.is_aside
value_of Beyond s = number_of s.is_beyond
value_of Whole s = number_of (is_whole s.status)
value_of Stays s = number_of (nat_lt 0 s.stays_since)
value_of BadVotes s = s.bad_votes
value_of TopView s = s.top_view
value_of LastAnswer s = s.last_answer
value_of LastFrame s = s.last_frame

-- its number, its replica and its word, which may have any characters
unfoldable pub labels_of : SourceSeen → List ℕ
labels_of s =
    codes "{number=\"" ++ decimal s.number ++ codes "\",replica=\"" ++ decimal s.replica
    ++ codes "\",source=\"" ++ escaped Label (string_bytes s.word) ++ codes "\"} "

unfoldable pub sample : Family → SourceSeen → List ℕ
sample family s = name_of family ++ labels_of s ++ decimal (value_of family s) ++ codes "\n"

abbrev pub family_text : Family → List SourceSeen → List ℕ
family_text family sources = front_of family ++ flat_map (sample family) sources

-- what is wrong with sources
unfoldable pub trouble_text : List SourceSeen → List ℕ
trouble_text sources = family_text WentBack sources ++ family_text SetAside sources ++ family_text Beyond sources ++ family_text BadVotes sources

-- how far they are
unfoldable pub progress_text : List SourceSeen → List ℕ
progress_text sources = family_text Whole sources ++ family_text TopView sources ++ family_text LastAnswer sources ++ family_text LastFrame sources

-- ---- all

unfoldable pub whole_text : Snapshot → List ℕ
whole_text s =
    findings_text (length s.culprits.items) (number_of (is_some s.conflict)) (number_of s.has_handover) ++ going_text s.committee s.chain s.earlier_culprits ++ commits_text s.commit_count
    ++ losses_text (number_of s.is_unstored) s.lines_lost ++ state_text s.state_bytes s.state_bytes_max ++ kept_text s.kept s.kept_read ++ rounds_text s.stamped s.took s.round ++ process_text s.started

unfoldable pub metrics_text : Snapshot → List ℕ
metrics_text s =
    whole_text s ++ trouble_text s.sources.items ++ family_text Stays s.sources.items ++ progress_text s.sources.items
