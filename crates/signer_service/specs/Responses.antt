-- Responses: their fields, and the room that is made for their bodies.
use Rattle.std.specs.Prelude.{◌≤◌, ◌++◌, ◌∷◌, [], ℕ, List, codes, decimal}
use Rattle.http1.specs.Fields.{Header}
use Rattle.http_server.specs.declared.response.Response.{Response}
use Rattle.http_server.specs.Response.{IsResponse}
use Rattle.signer_service.specs.declared.writing.Kind.{Kind}
use Rattle.signer_service.specs.declared.writing.Kind.TheVariants.{Text, Json, Octets, Metrics}
use Rattle.signer_service.specs.declared.writing.TheConstants.{ROOM}

abbrev pub kind_text : Kind → List ℕ
kind_text Text = codes "text/plain; charset=utf-8"
kind_text Json = codes "application/json"
kind_text Metrics = codes "text/plain; version=0.0.4; charset=utf-8"
kind_text Octets = codes "application/octet-stream"

-- the fields that the service adds: nothing is to be stored on the way, and the answers are of the first form
abbrev pub fields_of_kind : Kind → List Header
fields_of_kind kind =
    (codes "content-type", kind_text kind) ∷ (codes "cache-control", codes "no-store") ∷ (codes "wezhgula-api", codes "1") ∷ []

-- .. those of a line on what passes by itself: the call may be made again in a second
abbrev pub fields_to_retry : List Header
fields_to_retry = fields_of_kind Text ++ (codes "retry-after", codes "1") ∷ []

-- these fields are there, the body is empty, and there is so much room for it
abbrev pub HasRoom : List Header → ℕ → Response → Type 0
HasRoom fields room r = IsResponse 200 fields [] r × (room ≤ r.body.spare)

-- .. room for a line
abbrev pub IsReady : List Header → Response → Type 0
IsReady fields r = HasRoom fields ROOM r

-- the response has this status, and this line in plain text
abbrev pub IsLine : ℕ → List ℕ → Response → Type 0
IsLine status line response = IsResponse status (fields_of_kind Text) line response

-- the response has this line in plain text, on what passes by itself
abbrev pub IsPassing : List ℕ → Response → Type 0
IsPassing line response = IsResponse 503 fields_to_retry line response

-- words, a number and a name
abbrev pub named_line : List ℕ → ℕ → List ℕ → List ℕ
named_line words number name = words ++ decimal number ++ codes " " ++ name ++ codes "\n"

-- words and a number
abbrev pub field_text : List ℕ → ℕ → List ℕ
field_text words number = words ++ decimal number
