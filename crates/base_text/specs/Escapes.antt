-- A text of others inside a text of ours.
use Rattle.std.specs.Prelude.{◌∷◌, ◌++◌, [], ℕ, List, ◌==◌, codes, if◌then◌else◌, nat_lt}
use Rattle.std.specs.List.{flat_map}
use Rattle.hex.specs.Hex.{encode_lower}
use Rattle.base_text.specs.declared.escaping.Inside.{Inside}
use Rattle.base_text.specs.declared.escaping.Inside.TheVariants.{Html, Label, Json}

-- a byte in HTML or SVG, between tags or in quotes
abbrev pub html_byte : ℕ → List ℕ
html_byte b =
    if b == 38 then codes "&amp;" else if b == 60 then codes "&lt;" else if b == 62 then codes "&gt;"
    else if b == 34 then codes "&quot;" else if b == 39 then codes "&#39;" else b ∷ []

-- .. in a label's value, as Prometheus reads it
abbrev pub label_byte : ℕ → List ℕ
label_byte b = if b == 92 then codes "\\\\" else if b == 34 then codes "\\\"" else if b == 10 then codes "\\n" else b ∷ []

-- .. in a string of JSON
abbrev pub json_byte : ℕ → List ℕ
json_byte b =
    if b == 92 then codes "\\\\" else if b == 34 then codes "\\\""
    else if nat_lt b 32 then codes "\\u00" ++ encode_lower (b ∷ []) else b ∷ []

unfoldable pub escape_byte : Inside → ℕ → List ℕ
escape_byte Html b = html_byte b
escape_byte Label b = label_byte b
escape_byte Json b = json_byte b

-- a text in which each byte that would mean something there is escaped
abbrev pub escaped : Inside → List ℕ → List ℕ
escaped inside text = flat_map (escape_byte inside) text
