-- What a body is said to be.
use Rattle.std.specs.Prelude.{◌≡◌, IsSomeAnd, codes}
use Rattle.http_header.specs.FieldValue.{FieldValue}
use Rattle.http_header.specs.HeaderMap.{Entries, get_all}
use Rattle.base_hosts.specs.HostRules.{single_of}

-- there is one `Content-Type`, that of bytes
abbrev pub HasBytesType : Entries FieldValue → Type 0
HasBytesType headers =
    IsSomeAnd (single_of (get_all headers (codes "content-type"))) (λ value. value.bytes ≡ codes "application/octet-stream")
