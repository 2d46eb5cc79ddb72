-- The page of a watch.
use Rattle.std.specs.Prelude.{◌≡◌, ◌<◌, ◌++◌, ◌==◌, ℕ, Bool, true, false, List, Option, codes, decimal, is_some, length, nat_lt, string_bytes, if◌then◌else◌}
use Rattle.std.specs.List.{flat_map}
use Rattle.hex.specs.Hex.{encode_lower}
use Rattle.watch_report.specs.LineTimes.{IsUtcText}
use Rattle.watch_report.specs.Standings.{standing_of}
use Rattle.watch_report.specs.Times.{is_old_round}
use Rattle.blocks.specs.declared.ballot.Ballot.{Ballot}
use Rattle.watch_report.specs.declared.snapshot.Culprit.{Culprit}
use Rattle.watch_report.specs.declared.snapshot.Fork.{Fork}
use Rattle.watch_report.specs.declared.snapshot.Snapshot.{Snapshot}
use Rattle.watch_report.specs.declared.source.SourceSeen.{SourceSeen}
use Rattle.watch_report.specs.declared.snapshot.Standing.{Standing}
use Rattle.watch_web.specs.Holding.{holding_text}
use Rattle.watch_web.specs.Rows.{source_row, commit_row, conflict_text, culprit_row, shown}
use Rattle.watch_web.specs.Words.{advice_text, class_text, icon_text, level_of, share_text, shares_of, state_text}
use Rattle.watch_web.specs.declared.words.Shares.{Shares}
use Rattle.watch_web.specs.declared.words.Level.{Level}

-- ---- the head

-- it reloads, or never does
unfoldable pub reload_text : (is_still : Bool) → List ℕ
reload_text true = codes ""
reload_text false = codes "<meta http-equiv=\"refresh\" content=\"10; url=/\">\n"

-- colours for light and for dark, and a banner that a page shows by itself 40 seconds after it was loaded
unfoldable pub style_text : List ℕ
style_text = codes ":root{color-scheme:light dark}body{font-family:Arial,Helvetica,sans-serif;margin:1rem auto;max-width:70rem;padding:0 1rem;color:#1a1a1a;background:#fff}h1{padding:.6rem .8rem;border:3px solid;font-size:1.4rem}.alarm h1{color:#b00020;background:#fde3e3}.warning h1{color:#7a4a00;background:#fff3d6}.fine h1{color:#115c2d;background:#e2f4e8}.banner{padding:.5rem .8rem;border:2px dashed #b00020;color:#b00020;font-weight:bold}.later{visibility:hidden;animation:later 0s 40s forwards}@keyframes later{to{visibility:visible}}.wide{overflow-x:auto}table{border-collapse:collapse}th,td{border:1px solid #888;padding:.25rem .5rem;text-align:left}code{overflow-wrap:anywhere}@media(prefers-color-scheme:dark){body{color:#eee;background:#16181c}a{color:#8ab4f8}.alarm h1{color:#ff9aa6;background:#3d1218}.warning h1{color:#ffcf70;background:#382a0c}.fine h1{color:#8fe0ab;background:#10301c}.banner{color:#ff9aa6;border-color:#ff9aa6}}"

-- the state, the name of the watch, and the folder of its verdicts
unfoldable pub title_text : Standing → Shares → Snapshot → (is_still : Bool) → List ℕ
title_text standing shares s is_still =
    codes "<!DOCTYPE html>\n<html lang=\"en\">\n<head>\n<meta charset=\"utf-8\">\n<meta name=\"viewport\" content=\"width=device-width, initial-scale=1\">\n"
    ++ reload_text is_still ++ codes "<title>" ++ state_text standing shares ++ codes " - " ++ shown (string_bytes s.name) ++ codes " "
    ++ shown (string_bytes s.folder)

unfoldable pub looks_text : Level → List ℕ
looks_text level =
    codes "</title>\n<link rel=\"icon\" href=\"data:image/svg+xml,%3Csvg xmlns='http://www.w3.org/2000/svg' viewBox='0 0 8 8'%3E" ++ icon_text level
    ++ codes "%3C/svg%3E\">\n<style>" ++ style_text ++ codes "</style>\n</head>\n<body class=\"" ++ class_text level ++ codes "\">\n"

-- ---- the body

-- a round that is too old is said at once; of a page that is kept it is said by its style
unfoldable pub banner_text : (is_old : Bool) → List ℕ
banner_text true = codes "<p class=\"banner\">This watch has had no round for too long: what stands here is old.</p>\n"
banner_text false = codes "<p class=\"banner later\">This page is old: load it again.</p>\n"

unfoldable pub links_text : (is_still : Bool) → List ℕ
links_text true = codes "<p>This page stays as it is. <a href=\"/\">One that reloads every 10 seconds</a></p>\n"
links_text false = codes "<p>This page reloads every 10 seconds. <a href=\"/?still\">One that stays</a></p>\n"

unfoldable pub found_text : List Culprit → List ℕ
found_text culprits = codes "<h2>Culprits</h2>\n<ul>\n" ++ flat_map culprit_row culprits ++ codes "</ul>\n"

-- it never says less than this
unfoldable pub none_text : Shares → (time : List ℕ) → List ℕ
none_text shares time =
    codes "<h2>Culprits</h2>\n<p>None was found in what " ++ share_text shares.answering shares.sources ++ codes " sources gave to this watcher until " ++ time ++ codes ".</p>\n"

unfoldable pub culprits_text : Snapshot → Shares → (time : List ℕ) → List ℕ
culprits_text s shares time = if length s.culprits.items == 0 then none_text shares time else found_text s.culprits.items

-- how much was read of what was kept, as long as not all was
unfoldable pub kept_line : (read all : ℕ) → List ℕ
kept_line read all = codes "<p>Kept files that were read: " ++ share_text read all ++ codes ".</p>\n"

unfoldable pub kept_text : (read all : ℕ) → List ℕ
kept_text read all = if nat_lt read all then kept_line read all else codes ""

-- how many lines were dropped, if any were
unfoldable pub lost_line : (lost : ℕ) → List ℕ
lost_line lost = codes "<p>Lines that were dropped, since nobody took them: " ++ decimal lost ++ codes ".</p>\n"

unfoldable pub lost_text : (lost : ℕ) → List ℕ
lost_text lost = if nat_lt 0 lost then lost_line lost else codes ""

-- how many culprits the committees before have, if they have any
unfoldable pub earlier_line : (earlier : ℕ) → List ℕ
earlier_line earlier = codes "<p>Culprits of earlier committees, whose verdicts stand in the folder: " ++ decimal earlier ++ codes ".</p>\n"

unfoldable pub earlier_text : (earlier : ℕ) → List ℕ
earlier_text earlier = if nat_lt 0 earlier then earlier_line earlier else codes ""

-- that the committee handed its ledger over, where it is proved, and who watches the next one
unfoldable pub handover_text : (has_handover goes_over : Bool) → List ℕ
handover_text false goes_over = codes ""
handover_text true true = codes "<p>It is proved that this committee handed its ledger over to the next one. The watch goes over to that one once a source gives its file.</p>\n"
handover_text true false = codes "<p>It is proved that this committee handed its ledger over to the next one. Watch that one with a watch of its own: the ledger does not go on here.</p>\n"

-- the worst that holds, what to do, and the head of a list of all that holds
unfoldable pub first_text : Standing → Shares → (time : List ℕ) → (round : ℕ) → List ℕ
first_text standing shares time round =
    codes "<h1>" ++ state_text standing shares ++ codes "</h1>\n<p>" ++ advice_text standing ++ codes "</p>\n<ul>\n<li>Round " ++ decimal round ++ codes ", " ++ time
    ++ codes "; " ++ share_text shares.answering shares.sources ++ codes " sources answer</li>\n"

-- the picture, where there is one, in a box that scrolls; what it shows stands in words beside it
unfoldable pub picture_text : (is_there : Bool) → List ℕ
picture_text false = codes ""
picture_text true = codes "<h2>Picture</h2>\n<p>Blocks of the latest views for which a replica voted, the last commits, and what stands around a conflict and the votes of culprits. <a href=\"/fork.svg\">The picture alone</a></p>\n<div class=\"wide\"><img src=\"/fork.svg\" alt=\"The blocks in columns by their views, each with what is proved of it and a line to its parent; below them each culprit with its two votes. The conflict and the culprits stand in words on this page.\"></div>\n"

unfoldable pub sources_text : (every top second : ℕ) → List SourceSeen → List ℕ
sources_text every top second sources =
    codes "<h2>Sources</h2>\n<div class=\"wide\"><table>\n<caption>What each source gave, and when</caption>\n<tr><th scope=\"col\">Source</th><th scope=\"col\">Replica</th><th scope=\"col\">State</th><th scope=\"col\">Log</th><th scope=\"col\">Entries</th><th scope=\"col\">Views behind</th><th scope=\"col\">Last answer</th><th scope=\"col\">Last frame</th></tr>\n"
    ++ flat_map (source_row every top second) sources ++ codes "</table></div>\n"

unfoldable pub commits_text : (count : ℕ) → List Ballot → Option Fork → List ℕ
commits_text count commits conflict =
    codes "<h2>Commits</h2>\n" ++ conflict_text conflict ++ codes "<p>Proved commits: " ++ decimal count ++ codes " (the last 100 are listed)</p>\n<ul>\n"
    ++ flat_map commit_row commits ++ codes "</ul>\n"

unfoldable pub foot_text : (committee : ℕ) → (chain : List ℕ) → List ℕ
foot_text committee chain =
    codes "<p>Committee " ++ decimal committee ++ codes " (the first one has 0), chain <code>" ++ encode_lower chain ++ codes "</code></p>\n<p>A verdict is checked with hs_check or check.html, of a copy of this project that its reader trusts: this watcher is the accuser, and hands out no judge.</p>\n</body>\n</html>\n"

-- ---- the whole

unfoldable pub body_text : Snapshot → (second : ℕ) → (is_still : Bool) → (time : List ℕ) → List ℕ
body_text s second is_still time =
    culprits_text s (shares_of s second) time ++ picture_text (is_some s.picture) ++ commits_text s.commit_count s.commits.items s.conflict
    ++ sources_text s.every s.certified second s.sources.items ++ links_text is_still ++ foot_text s.committee s.chain

unfoldable pub front_text : Snapshot → (second : ℕ) → (is_still : Bool) → (time : List ℕ) → List ℕ
front_text s second is_still time =
    title_text (standing_of s second) (shares_of s second) s is_still ++ looks_text (level_of (standing_of s second))
    ++ banner_text (is_old_round s.stamped second) ++ first_text (standing_of s second) (shares_of s second) time s.round
    ++ (holding_text s second ++ codes "</ul>\n") ++ kept_text s.kept_read s.kept ++ lost_text s.lines_lost ++ earlier_text s.earlier_culprits ++ handover_text s.has_handover s.goes_over

abbrev pub page_text : Snapshot → (second : ℕ) → (is_still : Bool) → (time : List ℕ) → List ℕ
page_text s second is_still time = front_text s second is_still time ++ body_text s second is_still time

-- the page, with the time of the last round in UTC
abbrev pub IsPage : Snapshot → (second : ℕ) → (is_still : Bool) → List ℕ → Type 0
IsPage s second is_still text =
    (time : List ℕ) × (s.stamped < 253402300800 → IsUtcText s.stamped time) × (text ≡ page_text s second is_still time)
