-- What is answered to a request.
use Rattle.std.specs.Prelude.{◌≡◌, ◌⊎◌, ℕ, true, false, List, Option, Some, None, String, codes, string_bytes}
use Rattle.std.specs.List.{find}
use Rattle.std.specs.Str.{bytes_eq}
use Rattle.std.specs.declared.alloc.Global.{Global}
use Rattle.http.specs.declared.request.Request.{Request}
use Rattle.http.specs.Request.{head_of}
use Rattle.http_server.specs.declared.response.Response.{Response}
use Rattle.http_server.specs.Exchange.{Call as Exchanged}
use Rattle.http_uri.specs.Uri.{uri_path}
use Rattle.base_hosts.specs.HostRules.{HasGoodHost}
use Rattle.verdict_format.specs.Verdicts.{replica_in}
use Rattle.watch_web.specs.Pages.{IsPage}
use Rattle.watch_web.specs.Metrics.{metrics_text}
use Rattle.watch_web.specs.Reports.{report_text}
use Rattle.watch_report.specs.Proved.{IsProved}
use Rattle.watch_report.specs.declared.snapshot.Culprit.{Culprit}
use Rattle.watch_report.specs.declared.snapshot.Snapshot.{Snapshot}
use Rattle.watch_web.specs.Places.{place_in, verdict_path}
use Rattle.watch_web.specs.Replies.{IsTold, health_status, health_text}
use Rattle.watch_web.specs.declared.target.PageTarget.{PageTarget}
use Rattle.watch_web.specs.declared.target.PageTarget.TheVariants.{Page, Still, Picture, Report, Metrics, Health, Other, Nowhere}
use Rattle.watch_web.specs.declared.writing.Kind.TheVariants as kind

-- the first culprit whose verdict is at this path
abbrev pub culprit_at : List ℕ → List Culprit → Option Culprit
culprit_at path culprits = find (λ c. bytes_eq path (verdict_path (replica_in c.verdict))) culprits

-- what is not there; the path is not told again
abbrev pub IsNowhereTold : Response → Type 0
IsNowhereTold response = IsTold 404 kind.Text (codes "no such page\n") response

-- a verdict, which is a proof under the file of some committee
abbrev pub IsVerdictTold : Option Culprit → Response → Type 0
IsVerdictTold (Some c) response = IsTold 200 kind.Verdict c.verdict response × IsProved c.verdict
IsVerdictTold None response = IsNowhereTold response

-- the picture, where there is one
abbrev pub IsPictureTold : Option (String Global) → Response → Type 0
IsPictureTold (Some text) response = IsTold 200 kind.Picture (string_bytes text) response
IsPictureTold None response = IsNowhereTold response

-- the page, one that reloads or one that stays
abbrev pub IsPageTold : Snapshot → (second : ℕ) → PageTarget → Response → Type 0
IsPageTold s second Page response = (text : List ℕ) × IsPage s second false text × IsTold 200 kind.Html text response
IsPageTold s second _ response = (text : List ℕ) × IsPage s second true text × IsTold 200 kind.Html text response

-- what is told at a place
abbrev pub IsPlaceTold : Snapshot → (second : ℕ) → (path : List ℕ) → PageTarget → Response → Type 0
IsPlaceTold s second path Page response = IsPageTold s second Page response
IsPlaceTold s second path Still response = IsPageTold s second Still response
IsPlaceTold s second path Picture response = IsPictureTold s.picture response
IsPlaceTold s second path Health response = IsTold (health_status s second) kind.Text (health_text s second) response
IsPlaceTold s second path Metrics response = IsTold 200 kind.Metrics (metrics_text s) response
IsPlaceTold s second path Report response = IsTold 200 kind.Json (report_text s) response
IsPlaceTold s second path Other response = IsVerdictTold (culprit_at path s.culprits.items) response
IsPlaceTold s second path Nowhere response = IsNowhereTold response

-- a request that only reads
abbrev pub IsRead : Request (List ℕ) → Type 0
IsRead r = ((head_of r).method ≡ codes "GET") ⊎ ((head_of r).method ≡ codes "HEAD")

-- of a request that names this machine
abbrev pub IsAdmittedTold : Snapshot → (second : ℕ) → Request (List ℕ) → Response → Type 0
IsAdmittedTold s second r response =
    ((IsRead r → ⊥) × IsTold 405 kind.Refused (codes "refused method\n") response)
    ⊎ (IsRead r × IsPlaceTold s second (uri_path (head_of r).uri) (place_in r) response)

-- the answer to a request: by what the watch knew, the request, and the second in which it was asked, and by nothing else
abbrev pub IsAnswer : List (String Global) → Snapshot → (second : ℕ) → Request (List ℕ) → Response → Type 0
IsAnswer hosts s second r response =
    ((HasGoodHost hosts (head_of r).headers → ⊥) × IsTold 403 kind.Text (codes "refused host\n") response)
    ⊎ (HasGoodHost hosts (head_of r).headers × IsAdmittedTold s second r response)

-- .. by something that the watch knew when it was asked
pub record IsAnswered (hosts : List (String Global)) (r : Request (List ℕ)) (response : Response) : Type 0 where
  pub seen : Snapshot
  pub second : ℕ
  pub answer : IsAnswer hosts seen second r response

-- .. of a call of a connection
abbrev pub IsCallAnswered : List (String Global) → Exchanged → Type 0
IsCallAnswered hosts exchanged = IsAnswered hosts exchanged.0 exchanged.1
