-- What a request asks for.
use Rattle.std.specs.Prelude.{◌++◌, ℕ, List, Option, Some, None, codes, decimal, is_some, if◌then◌else◌}
use Rattle.std.specs.Str.{bytes_eq}
use Rattle.http_uri.specs.Uri.{uri_authority, uri_path, uri_query, uri_scheme}
use Rattle.http.specs.declared.request.Request.{Request}
use Rattle.http.specs.Request.{head_of}
use Rattle.watch_web.specs.declared.target.PageTarget.{PageTarget}
use Rattle.watch_web.specs.declared.target.PageTarget.TheVariants.{Page, Still, Picture, Report, Metrics, Health, Other, Nowhere}

-- a path with no query
unfoldable pub path_place : List ℕ → PageTarget
path_place path =
    if bytes_eq path (codes "/") then Page
    else if bytes_eq path (codes "/health") then Health
    else if bytes_eq path (codes "/metrics") then Metrics
    else if bytes_eq path (codes "/report.json") then Report
    else if bytes_eq path (codes "/fork.svg") then Picture
    else Other

-- a path with a query: `/?still` alone is there
unfoldable pub query_place : (path query : List ℕ) → PageTarget
query_place path query = if bytes_eq path (codes "/") then (if bytes_eq query (codes "still") then Still else Nowhere) else Nowhere

unfoldable pub place_of : List ℕ → Option (List ℕ) → PageTarget
place_of path None = path_place path
place_of path (Some query) = query_place path query

-- a target is a path; one with a scheme or a host names nothing here
unfoldable pub place_in : Request (List ℕ) → PageTarget
place_in r =
    if is_some (uri_scheme (head_of r).uri) then Nowhere
    else if is_some (uri_authority (head_of r).uri) then Nowhere
    else place_of (uri_path (head_of r).uri) (uri_query (head_of r).uri)

-- where the verdict on a replica is
unfoldable pub verdict_path : ℕ → List ℕ
verdict_path replica = codes "/verdict-" ++ decimal replica ++ codes ".hsx"
