-- Responses: their fields, and what the short ones say.
use Rattle.std.specs.Prelude.{◌++◌, ◌∷◌, [], ℕ, List, codes, if◌then◌else◌}
use Rattle.http1.specs.Fields.{Header}
use Rattle.http_server.specs.declared.response.Response.{Response}
use Rattle.http_server.specs.Response.{IsResponse}
use Rattle.watch_report.specs.Times.{is_old_round}
use Rattle.watch_report.specs.declared.snapshot.Snapshot.{Snapshot}
use Rattle.watch_web.specs.declared.writing.Kind.{Kind}
use Rattle.watch_web.specs.declared.writing.Kind.TheVariants.{Text, Json, Metrics, Verdict, Html, Picture, Refused}

abbrev pub type_text : Kind → List ℕ
type_text Text = codes "text/plain; charset=utf-8"
type_text Json = codes "application/json"
type_text Metrics = codes "text/plain; version=0.0.4; charset=utf-8"
type_text Verdict = codes "application/octet-stream"
type_text Html = codes "text/html; charset=utf-8"
type_text Picture = codes "image/svg+xml"
type_text Refused = codes "text/plain; charset=utf-8"

-- nothing runs or is fetched in a page or a picture but its own style, and a page's icon and picture
abbrev pub policy_text : Kind → List ℕ
policy_text Picture = codes "default-src 'none'; style-src 'sha256-nv+mA1/+eDLQBvWnup7N70zAVvINwphGa2YpCorNbPE='; img-src 'self' data:; base-uri 'none'; form-action 'none'; frame-ancestors 'none'"
policy_text _ = codes "default-src 'none'; style-src 'sha256-AOUb0+aR/aOeyqL1OuCfuZiMOZP3SZMLNUkcNunTkx4='; img-src 'self' data:; base-uri 'none'; form-action 'none'; frame-ancestors 'none'"

-- nothing is stored on the way, and nothing is read as another type
abbrev pub common_fields : Kind → List Header
common_fields kind =
    (codes "cache-control", codes "no-store")
    ∷ (codes "content-security-policy", policy_text kind)
    ∷ (codes "x-content-type-options", codes "nosniff")
    ∷ (codes "referrer-policy", codes "no-referrer")
    ∷ (codes "connection", codes "close") ∷ []

-- a verdict is saved and not shown; a refused method is told with those that are allowed
abbrev pub own_fields : Kind → List Header
own_fields Verdict = (codes "content-disposition", codes "attachment") ∷ []
own_fields Refused = (codes "allow", codes "GET, HEAD") ∷ []
own_fields _ = []

abbrev pub fields_of : Kind → List Header
fields_of kind = (codes "content-type", type_text kind) ∷ common_fields kind ++ own_fields kind

-- the response has this status, a body of this kind, and this body
abbrev pub IsTold : ℕ → Kind → List ℕ → Response → Type 0
IsTold status kind body response = IsResponse status (fields_of kind) body response

-- ---- health

-- the watch is well where its last round is not too old and all could be stored
unfoldable pub health_status : Snapshot → (second : ℕ) → ℕ
health_status s second = if is_old_round s.stamped second then 503 else (if s.is_unstored then 503 else 200)

unfoldable pub health_text : Snapshot → (second : ℕ) → List ℕ
health_text s second =
    if is_old_round s.stamped second then codes "late\n" else (if s.is_unstored then codes "unstored\n" else codes "ok\n")
