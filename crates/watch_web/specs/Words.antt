-- What the page of a watch says first. The words say all that colours do.
use Rattle.std.specs.Prelude.{◌++◌, ℕ, List, codes, decimal, length}
use Rattle.watch_web.specs.declared.words.Level.{Level}
use Rattle.watch_web.specs.declared.words.Level.TheVariants.{Alarm, Warning, Fine}
use Rattle.watch_web.specs.declared.words.Shares.{Shares}
use Rattle.watch_report.specs.Standings.{answering_of, unwatched_of}
use Rattle.watch_report.specs.declared.snapshot.Snapshot.{Snapshot}
use Rattle.watch_report.specs.declared.snapshot.Standing.{Standing}
use Rattle.watch_report.specs.declared.snapshot.Standing.TheVariants.{Conflict, Culprits, WentBack, SetAside, Beyond, BadVotes, NotStored, ReadingKept, NothingRead, SomeAnswer, Unwatched, AllAnswer}

-- so many of so many
unfoldable pub share_text : (k m : ℕ) → List ℕ
share_text k m = decimal k ++ codes " of " ++ decimal m

-- how many sources answer, and of how many replicas no source is named
abbrev pub shares_of : Snapshot → (second : ℕ) → Shares
shares_of s second = record {
  answering = answering_of s second;
  sources = length s.sources.items;
  unwatched = unwatched_of s;
  replicas = s.replicas;
}

-- the state in a line, of which the page is titled
unfoldable pub state_text : Standing → Shares → List ℕ
state_text Conflict p = codes "Conflict: two commits disagree"
state_text Culprits p = codes "Culprits were found"
state_text WentBack p = codes "A log went back"
state_text SetAside p = codes "A source was set aside"
state_text Beyond p = codes "A source gave a fifth log"
state_text BadVotes p = codes "Votes of a source are not good"
state_text NotStored p = codes "Something is not stored"
state_text ReadingKept p = codes "Reading kept logs"
state_text NothingRead p = codes "No source answers"
state_text SomeAnswer p = share_text p.answering p.sources ++ codes " sources answer"
state_text Unwatched p = share_text p.unwatched p.replicas ++ codes " replicas are not watched"
state_text AllAnswer p = codes "All sources answer"

-- how bad it is
unfoldable pub level_of : Standing → Level
level_of Conflict = Alarm
level_of Culprits = Alarm
level_of WentBack = Alarm
level_of SetAside = Warning
level_of Beyond = Warning
level_of BadVotes = Warning
level_of NotStored = Warning
level_of ReadingKept = Warning
level_of NothingRead = Warning
level_of SomeAnswer = Warning
level_of Unwatched = Warning
level_of AllAnswer = Fine

-- the class of the page's colours
unfoldable pub class_text : Level → List ℕ
class_text Alarm = codes "alarm"
class_text Warning = codes "warning"
class_text Fine = codes "fine"

-- the icon: a red square, an amber triangle, a green disc
unfoldable pub icon_text : Level → List ℕ
icon_text Alarm = codes "%3Crect width='8' height='8' fill='%23b00020'/%3E"
icon_text Warning = codes "%3Cpath d='M4 0L8 8H0Z' fill='%23b26a00'/%3E"
icon_text Fine = codes "%3Ccircle cx='4' cy='4' r='4' fill='%23187a3c'/%3E"

-- what to do
unfoldable pub advice_text : Standing → List ℕ
advice_text Conflict = codes "Two blocks are committed of which neither is the other's ancestor. Stop what rests on this ledger, keep the logs, and send the verdicts to the other operators."
advice_text Culprits = codes "Each verdict below shows by two signed votes that its replica broke a voting rule. Send it to the other operators, who check it with hs_check or check.html of their own copy of this project."
advice_text WentBack = codes "A source gave less than it had given, or something else. This accuses nobody: what comes of a source is not signed by its replica. Ask the replica's operator whether a backup was put back: a replica that runs on one may vote twice without knowing it, and is to be stopped. This is shown until the source has given all again that it had, for an hour at most."
advice_text SetAside = codes "64 votes of a source were not good: it is another committee's log, another replica's, or a liar's. Compare the chain id below with the other operators' and the word of the source with the committee's file."
advice_text Beyond = codes "A source went back so often that it gave a fifth log, which is not read: what stands in it, this watch does not see. Ask the replica's operator what happened, and audit that log with hs_tool audit."
advice_text BadVotes = codes "A log of a correct replica has no vote that is not good: this one is of another committee, or of another replica than its word says. Compare the chain id below with the other operators' and the word of the source with the committee's file."
advice_text NotStored = codes "The disk of this watch is full, or has as much as it may hold, or a file stands where one is to be. The verdicts below can be fetched from this page."
advice_text ReadingKept = codes "This watch has begun again, and reads what it kept before it asks a source. What it knew is shown once all of it was read."
advice_text NothingRead = codes "No replica hands out its log to this watch. See whether this machine has a network, and whether the servers of the logs run."
advice_text SomeAnswer = codes "Ask the operators of the sources that do not answer. What they hide from this watch, it cannot see."
advice_text Unwatched = codes "Name a source for each replica of the committee. Of those that are not watched this watch sees only what the logs of others show."
advice_text AllAnswer = codes "Each source answers this watch. With the file of another committee it would find nothing: compare the chain id below."
