-- The rows of the page: sources, commits and culprits.
use Rattle.std.specs.Prelude.{◌++◌, ◌-◌, ◌==◌, ℕ, List, Option, Some, None, codes, decimal, if◌then◌else◌, string_bytes}
use Rattle.hex.specs.Hex.{encode_lower}
use Rattle.blocks.specs.declared.ballot.Ballot.{Ballot}
use Rattle.log_format.specs.Readings.{status_name}
use Rattle.log_format.specs.declared.status.Status.{Status}
use Rattle.base_text.specs.Escapes.{escaped}
use Rattle.base_text.specs.declared.escaping.Inside.TheVariants.{Html}
use Rattle.verdict_format.specs.Verdicts.{replica_in}
use Rattle.watch_report.specs.Proved.{pair_in}
use Rattle.watch_report.specs.Sources.{source_state_of}
use Rattle.watch_report.specs.declared.proved.Pair.{Pair}
use Rattle.watch_report.specs.declared.snapshot.Culprit.{Culprit}
use Rattle.watch_report.specs.declared.snapshot.Fork.{Fork}
use Rattle.watch_report.specs.declared.source.SourceSeen.{SourceSeen}
use Rattle.watch_report.specs.declared.source.SourceState.{SourceState}
use Rattle.watch_report.specs.declared.source.SourceState.TheVariants as does
use Rattle.watch_web.specs.Ages.{age_text}

-- ---- sources

-- a text of others between tags
unfoldable pub shown : List ℕ → List ℕ
shown text = escaped Html text

unfoldable pub ending_text : Option Status → List ℕ
ending_text None = codes "not read yet"
ending_text (Some status) = status_name status

-- so many of its votes are not good
unfoldable pub bad_text : ℕ → List ℕ
bad_text bad = codes "votes that are not good: " ++ decimal bad ++ codes " (another committee, or another replica?)"

-- what there is to say of a source that does so
unfoldable pub remark_text : SourceState → (bad_votes : ℕ) → List ℕ
remark_text does.Back bad = codes "went back"
remark_text does.Aside bad = codes "set aside; " ++ bad_text bad
remark_text does.Beyond bad = codes "went back, and gave a fifth log, which is not read"
remark_text does.Bad bad = bad_text bad
remark_text does.Answers bad = codes "answers"
remark_text does.Silent bad = codes "silent"
remark_text does.Unread bad = codes "not read yet"
remark_text does.NotWhole bad = codes "no whole log"

-- how many views it is behind the greatest view of a certified block
unfoldable pub lag_text : (top view : ℕ) → List ℕ
lag_text top view = decimal (top - view)

unfoldable pub cells_text : SourceSeen → (top second : ℕ) → List ℕ
cells_text s top second =
    codes "</td><td>" ++ ending_text s.status ++ codes "</td><td>" ++ decimal s.entries ++ codes "</td><td>" ++ lag_text top s.top_view
    ++ codes "</td><td>" ++ age_text s.last_answer second
    ++ codes "</td><td>" ++ age_text s.last_frame second ++ codes "</td></tr>\n"

unfoldable pub source_row : (every top second : ℕ) → SourceSeen → List ℕ
source_row every top second s =
    codes "<tr><th scope=\"row\">" ++ shown (string_bytes s.word) ++ codes "</th><td>" ++ decimal s.replica ++ codes "</td><td>" ++ remark_text (source_state_of every second s) s.bad_votes
    ++ cells_text s top second

-- ---- commits and the conflict

unfoldable pub commit_row : Ballot → List ℕ
commit_row b = codes "<li>view " ++ decimal b.view ++ codes ", block <code>" ++ encode_lower b.id ++ codes "</code></li>\n"

unfoldable pub fork_text : Fork → List ℕ
fork_text f =
    codes "<p>These two blocks are both committed: <code>" ++ encode_lower f.first ++ codes "</code> and <code>" ++ encode_lower f.second ++ codes "</code></p>\n"

unfoldable pub conflict_text : Option Fork → List ℕ
conflict_text None = codes "<p>No two commits that were proved conflict.</p>\n"
conflict_text (Some f) = fork_text f

-- ---- culprits

-- the number of a rule, and its name
unfoldable pub rule_text : ℕ → List ℕ
rule_text rule = if rule == 1 then codes "1 (double vote)" else if rule == 2 then codes "2 (lock violation)" else decimal rule

unfoldable pub pair_text : Pair → List ℕ
pair_text p =
    codes " broke rule " ++ rule_text p.rule ++ codes ": votes in view " ++ decimal p.earlier.view ++ codes " and in view " ++ decimal p.later.view

unfoldable pub place_text : Culprit → List ℕ
place_text c = if c.is_unstored then codes "not stored yet at " else codes "stored at "

unfoldable pub link_text : (replica : ℕ) → List ℕ
link_text replica =
    codes "; verdict <a href=\"/verdict-" ++ decimal replica ++ codes ".hsx\">verdict-" ++ decimal replica ++ codes ".hsx</a>, "

unfoldable pub culprit_row : Culprit → List ℕ
culprit_row c =
    codes "<li>Replica " ++ decimal (replica_in c.verdict) ++ pair_text (pair_in c.verdict) ++ link_text (replica_in c.verdict) ++ place_text c ++ codes "<code>"
    ++ shown (string_bytes c.path) ++ codes "</code></li>\n"
