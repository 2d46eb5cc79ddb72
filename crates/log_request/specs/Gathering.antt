-- How many bytes a request has, which its first four say.
use Rattle.std.specs.Prelude.{ℕ, Bool, List, codes, nat_eq, take, if◌then◌else◌}
use Rattle.std.specs.List.{starts_with}

-- bytes that begin with the magic of a request that names a chain
abbrev pub names_chain : List ℕ → Bool
names_chain front = starts_with nat_eq front (codes "HSL2")

-- how many bytes a request has that begins so
abbrev pub request_len : List ℕ → ℕ
request_len front = if names_chain front then 44 else 12

-- the bytes of the request that a text begins with, as far as they are there
abbrev pub first_request : List ℕ → List ℕ
first_request text = take (request_len text) text
