-- Times as they are printed.
use Rattle.std.specs.Prelude.{◌≡◌, ◌++◌, ℕ, List, codes, take, drop, if◌then◌else◌}
use Rattle.std.specs.Str.{bytes_eq}
use Rattle.httpdate.specs.Date.{date_text, unix_secs}
use Rattle.httpdate.specs.declared.date.HttpDate.{HttpDate}

-- a month's number in two digits, by its name
abbrev pub month_digits : List ℕ → List ℕ
month_digits name =
    if bytes_eq name (codes "Jan") then codes "01" else (if bytes_eq name (codes "Feb") then codes "02" else (if bytes_eq name (codes "Mar") then codes "03"
    else (if bytes_eq name (codes "Apr") then codes "04" else (if bytes_eq name (codes "May") then codes "05" else (if bytes_eq name (codes "Jun") then codes "06"
    else (if bytes_eq name (codes "Jul") then codes "07" else (if bytes_eq name (codes "Aug") then codes "08" else (if bytes_eq name (codes "Sep") then codes "09"
    else (if bytes_eq name (codes "Oct") then codes "10" else (if bytes_eq name (codes "Nov") then codes "11" else codes "12"))))))))))

-- of a date as HTTP prints it, "Sun, 06 Nov 1994 08:49:37 GMT", the year, the month and the day, and the time: "1994-11-06T08:49:37Z"
unfoldable pub utc_of : List ℕ → List ℕ
utc_of date =
    take 4 (drop 12 date) ++ codes "-" ++ month_digits (take 3 (drop 8 date)) ++ codes "-" ++ take 2 (drop 5 date)
    ++ codes "T" ++ take 8 (drop 17 date) ++ codes "Z"

-- the text of this second since the start of 1970
abbrev pub IsUtcText : ℕ → List ℕ → Type 0
IsUtcText seconds text = (date : HttpDate) × (unix_secs date ≡ seconds) × (text ≡ utc_of (date_text date))
