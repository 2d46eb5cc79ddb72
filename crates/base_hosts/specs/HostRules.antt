-- Which hosts a request over TCP may name.
use Rattle.std.specs.Prelude.{◌≡◌, ◌⊎◌, ◌++◌, ◌∷◌, [], ℕ, Bool, List, Option, Some, None, IsSomeAnd, IsTrue, String, bytes_eq, codes, string_bytes}
use Rattle.std.specs.List.{list_any}
use Rattle.std.specs.declared.alloc.Global.{Global}
use Rattle.std.specs.Net.Grammar.{IsIpv4Text, IsIpv6Text}
use Rattle.std.specs.declared.net.ipv4_addr.Ipv4Addr.{Ipv4Addr}
use Rattle.std.specs.declared.net.ipv6_addr.Ipv6Addr.{Ipv6Addr}
use Rattle.http_header.specs.FieldValue.{FieldValue}
use Rattle.http_header.specs.HeaderMap.{Entries, get_all}
use Rattle.http_header.specs.Token.{lowercase}
use Rattle.http_uri.specs.Grammar.{IsAuthority, authority_host}

-- an IPv4 address
unfoldable pub IsFourName : List ℕ → Type 0
IsFourName name = (a : Ipv4Addr) × IsIpv4Text name a

-- an IPv6 address in brackets
unfoldable pub IsSixName : List ℕ → Type 0
IsSixName name = (text : List ℕ) × (name ≡ codes "[" ++ (text ++ codes "]")) × ((a : Ipv6Addr) × IsIpv6Text text a)

-- whether the two are one name, in whatever case they are written (RFC 9110, section 4.2.3)
abbrev pub is_same_name : List ℕ → List ℕ → Bool
is_same_name a b = bytes_eq (lowercase a) (lowercase b)

-- whether the name is one of these
abbrev pub is_among : List (String Global) → List ℕ → Bool
is_among hosts name = list_any (λ host. is_same_name (string_bytes host) name) hosts

-- the name is this machine's: `localhost`, an address, or one of these
unfoldable pub IsGoodName : List (String Global) → List ℕ → Type 0
IsGoodName hosts name =
    IsTrue (is_same_name (codes "localhost") name) ⊎ IsFourName name ⊎ IsSixName name ⊎ IsTrue (is_among hosts name)

-- a host of such a name, and perhaps a port
unfoldable pub IsGoodHost : List (String Global) → List ℕ → Type 0
IsGoodHost hosts text = IsAuthority text × IsGoodName hosts (authority_host text)

-- the value, where there is just one
abbrev pub single_of : List FieldValue → Option FieldValue
single_of (value ∷ []) = Some value
single_of _ = None

-- there is one `Host`, and it is good
abbrev pub HasGoodHost : List (String Global) → Entries FieldValue → Type 0
HasGoodHost hosts headers = IsSomeAnd (single_of (get_all headers (codes "host"))) (λ value. IsGoodHost hosts value.bytes)
