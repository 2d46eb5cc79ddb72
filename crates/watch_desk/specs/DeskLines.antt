-- The lines of what is new, as docs/hs_watch.md lays them out. Each ends with a line feed.
use Rattle.std.specs.Prelude.{◌++◌, ℕ, List, codes, decimal}
use Rattle.hex.specs.Hex.{encode_lower}
use Rattle.blocks.specs.Headers.{Header, header_id}
use Rattle.culprit_search.specs.declared.report.Commit.{Commit}
use Rattle.handover_search.specs.HandoverLines.{after_text}
use Rattle.verdict_format.specs.Verdicts.{earlier_in, later_in, verdict_kind_in}
use Rattle.watch_desk.specs.declared.news.News.{News}
use Rattle.watch_desk.specs.declared.news.News.TheVariants as news
use Rattle.watch_report.specs.WatchLines.{commit_news, conflict_news, culprit_news, source_alarm, source_news}

-- "K views E W PATH"
unfoldable pub verdict_views_text : List ℕ → List ℕ → List ℕ
verdict_views_text verdict path =
    decimal (verdict_kind_in verdict) ++ codes " views " ++ decimal (earlier_in verdict).view ++ codes " " ++ decimal (later_in verdict).view ++ codes " " ++ path ++ codes "\n"

-- " payload HEX"
unfoldable pub payload_text : Header → List ℕ
payload_text b = codes " payload " ++ encode_lower b.payload

-- "handover VIEW ID payload HEX committed, N commits after it"
unfoldable pub handover_news : List ℕ → Header → ℕ → List ℕ
handover_news stamp b after = stamp ++ codes "handover " ++ decimal b.view ++ codes " " ++ encode_lower (header_id b) ++ payload_text b ++ after_text after

-- "commits N before VIEW ID"
unfoldable pub commits_news : List ℕ → ℕ → Commit → List ℕ
commits_news stamp count c = stamp ++ codes "commits " ++ decimal count ++ codes " before " ++ decimal c.view ++ codes " " ++ encode_lower c.id ++ codes "\n"

abbrev pub news_line : (stamp path : List ℕ) → (nth : ℕ) → News → List ℕ
news_line stamp path nth (news.Conflict c) = conflict_news stamp c
news_line stamp path nth (news.Culprit v) = culprit_news stamp v path
news_line stamp path nth (news.Handover b after) = handover_news stamp b after
news_line stamp path nth (news.Commits n c) = commits_news stamp n c
news_line stamp path nth (news.Commit c) = commit_news stamp c
news_line stamp path nth (news.Status i log r) = source_news stamp i nth log r
news_line stamp path nth (news.WentBack i r) = source_alarm stamp (codes "went-back") i r
news_line stamp path nth (news.Beyond i r) = source_alarm stamp (codes "beyond") i r
news_line stamp path nth (news.SetAside i r) = source_alarm stamp (codes "set-aside") i r
