-- How long ago, in words.
use Rattle.std.specs.Prelude.{◌++◌, ◌-◌, ◌/◌, ◌==◌, ℕ, List, codes, decimal, if◌then◌else◌, nat_lt}

-- so many seconds, in the unit that is read at a glance
unfoldable pub span_text : ℕ → List ℕ
span_text n =
    if nat_lt n 120 then decimal n ++ codes " s"
    else if nat_lt n 7200 then decimal (n / 60) ++ codes " min"
    else if nat_lt n 172800 then decimal (n / 3600) ++ codes " h"
    else decimal (n / 86400) ++ codes " days"

-- how long ago
unfoldable pub age_text : (at second : ℕ) → List ℕ
age_text at second = if at == 0 then codes "never" else span_text (second - at) ++ codes " ago"

-- for how long
unfoldable pub for_text : (since second : ℕ) → List ℕ
for_text since second = if since == 0 then codes ", since this watch began" else codes ", for " ++ span_text (second - since)
