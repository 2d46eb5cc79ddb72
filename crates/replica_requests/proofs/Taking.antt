-- The lines of a text, while they are read.
use Rattle.std.proofs.Common.{◌≡◌, ◌≢◌, ◌⊎◌, ◌<◌, ◌≤◌, ℕ, zero, suc, List, [], ◌∷◌, ◌++◌, length, refl, sym, ap, ◌∙◌, subst, inl, inr, append_assoc, arith}
use Rattle.std.specs.List.{All}
use Rattle.std.proofs.lemmas.Bool.{cases_eq}
use Rattle.std.proofs.lemmas.Grind.{flat_map-append}
use Rattle.std.proofs.lemmas.List.{append-nil, length-append, take_all, take_at}
use Rattle.std.proofs.lemmas.List.Elements.{All-append, All-cons, All-head, All-nil, All-push, All-tail, Contains-append_cases}
use Rattle.std.proofs.lemmas.Slice.Zip.{AllZip-long, all_zipped_more}
use Rattle.replica_requests.specs.Intakes.{AddsRequestOf, HeldLine, IsTakenIn, held}
use Rattle.replica_requests.specs.LineReading.{AreLinesOf, AreOfEndedLines, AreOfText, AreRequestsOf, IsLine, LacksLastLineFeed, ended}
use Rattle.replica_requests.specs.RequestLines.{IsRequestOf}
use Rattle.replica_requests.specs.declared.reading.TheConstants.{MOST_LINES}
use Rattle.replica_requests.specs.declared.request_line.LineRequest.{LineRequest}

-- ---- lines

line_append : (a b : List ℕ) → IsLine a → IsLine b → IsLine (a ++ b)
line_append a b of_a of_b feed = elim (Contains-append_cases a b 10 feed) [ inl x ↦ of_a x | inr x ↦ of_b x ]

pub no_feed : IsLine []
no_feed (k, less, is) = absurd (omega (arith, less))

-- ---- each text has lines

single : (b : ℕ) → (b ≡ 10 → ⊥) → IsLine (b ∷ [])
single b other (zero, less, is) = other is
single b other (suc k, less, is) = absurd (omega (arith, less))

first_of : {l m : List ℕ} {ls ms : List (List ℕ)} → (l ∷ ls) ≡ (m ∷ ms) → (l ≡ m) × (ls ≡ ms)
first_of e = (cc, cc)

longer_last : (b : ℕ) (rest l : List ℕ) (ls front : List (List ℕ)) (last : List ℕ) → (l ∷ ls) ≡ front ++ last ∷ [] → last ≢ [] → rest ≡ ended front ++ last
    → LacksLastLineFeed (b ∷ rest) ((b ∷ l) ∷ ls)
longer_last b rest l ls [] last is some text =
    let same = first_of is in
    let longer : (b ∷ l) ∷ ls ≡ [] ++ (b ∷ last) ∷ [] = ap (λ (m : List ℕ). (b ∷ m) ∷ ls) same.0 ∙ ap (λ (m : List (List ℕ)). (b ∷ last) ∷ m) same.1 in
    ([], b ∷ last, longer, (λ e. absurd (cc e)), ap (λ (t : List ℕ). b ∷ t) text)
longer_last b rest l ls (f ∷ fs) last is some text =
    let same = first_of is in
    let longer : (b ∷ l) ∷ ls ≡ ((b ∷ f) ∷ fs) ++ last ∷ [] = ap (λ (m : List ℕ). (b ∷ m) ∷ ls) same.0 ∙ ap (λ (m : List (List ℕ)). (b ∷ f) ∷ m) same.1 in
    ((b ∷ f) ∷ fs, last, longer, some, ap (λ (t : List ℕ). b ∷ t) text)

longer_spelled : (b : ℕ) (rest l : List ℕ) (ls : List (List ℕ)) → (rest ≡ ended (l ∷ ls)) ⊎ LacksLastLineFeed rest (l ∷ ls)
    → (b ∷ rest ≡ ended ((b ∷ l) ∷ ls)) ⊎ LacksLastLineFeed (b ∷ rest) ((b ∷ l) ∷ ls)
longer_spelled b rest l ls spelled = elim spelled [
  | inl whole ↦ inl (ap (λ (t : List ℕ). b ∷ t) whole)
  | inr (front, last, is, some, text) ↦ inr (longer_last b rest l ls front last is some text)
]

-- of a text that begins with another byte in the first line
longer_first : (b : ℕ) (rest : List ℕ) (lines : List (List ℕ)) → (b ≡ 10 → ⊥) → AreLinesOf rest lines → (longer : List (List ℕ)) × AreLinesOf (b ∷ rest) longer
longer_first b rest [] other are = elim are.spelled [
  | inl whole ↦
      let text : b ∷ rest ≡ [] ++ (b ∷ []) = ap (λ (t : List ℕ). b ∷ t) whole in (
        (b ∷ []) ∷ [],
        record { each = All-cons IsLine (b ∷ []) [] (single b other) (All-nil IsLine); spelled = inr ([], b ∷ [], refl, (λ e. absurd (cc e)), text) },
      )
  | inr (front, last, is, some, text) ↦ absurd (let long = ap (λ (m : List (List ℕ)). length m) is in omega (arith, long, length-append front (last ∷ [])))
]
longer_first b rest (l ∷ ls) other are =
    let first : IsLine (b ∷ l) = line_append (b ∷ []) l (single b other) (All-head IsLine l ls are.each) in
    let each = All-cons IsLine (b ∷ l) ls first (All-tail IsLine l ls are.each) in
    ((b ∷ l) ∷ ls, record { each = each; spelled = longer_spelled b rest l ls are.spelled })

-- a line more
ended_more : (lines : List (List ℕ)) (line : List ℕ) → ended (lines ++ line ∷ []) ≡ ended lines ++ (line ++ 10 ∷ [])
ended_more lines line =
    flat_map-append (λ (l : List ℕ). l ++ 10 ∷ []) lines (line ∷ []) ∙ ap (λ (t : List ℕ). ended lines ++ t) (append-nil (line ++ 10 ∷ []))

-- lines, and those of what stands behind them
pub lines_and_more : (lines more : List (List ℕ)) (rest : List ℕ) → All IsLine lines → AreLinesOf rest more → AreLinesOf (ended lines ++ rest) (lines ++ more)
lines_and_more lines more rest each are = record {
  each = All-append IsLine lines more each are.each;
  spelled = elim are.spelled [
    | inl whole ↦
        inl (ap (λ (t : List ℕ). ended lines ++ t) whole ∙ sym (flat_map-append (λ (l : List ℕ). l ++ 10 ∷ []) lines more))
    | inr (front, last, is, some, text) ↦
        let joined = flat_map-append (λ (l : List ℕ). l ++ 10 ∷ []) lines front in
        inr (
          lines ++ front,
          last,
          ap (λ (m : List (List ℕ)). lines ++ m) is ∙ sym (append_assoc lines front (last ∷ [])),
          some,
          ap (λ (t : List ℕ). ended lines ++ t) text ∙ sym (append_assoc (ended lines) (ended front) last) ∙ ap (λ (t : List ℕ). t ++ last) (sym joined),
        )
  ];
}

pub lines_exist : (text : List ℕ) → (lines : List (List ℕ)) × AreLinesOf text lines
lines_exist [] = ([], record { each = All-nil IsLine; spelled = inl refl })
lines_exist (b ∷ rest) =
    let (lines, are) = lines_exist rest in
    elim (cases_eq b 10) [
      | inl feed ↦
          let more : AreLinesOf (10 ∷ rest) ([] ∷ lines) = lines_and_more ([] ∷ []) lines rest (All-cons IsLine [] [] no_feed (All-nil IsLine)) are in
          ([] ∷ lines, subst (λ (x : ℕ). AreLinesOf (x ∷ rest) ([] ∷ lines)) (sym feed) more)
      | inr other ↦ longer_first b rest lines other are
    ]

-- ---- one step

-- nothing is read yet
pub none_taken : IsTakenIn [] [] (held [])
none_taken = record { lines = []; part = []; spelled = refl; each = All-nil IsLine; requests_are = tt; unended = inr (no_feed, refl) }

many : (text : List ℕ) (requests : List LineRequest) (line : HeldLine) (taken : IsTakenIn text requests line) → length taken.lines ≡ length requests
many text requests line taken = sym (AllZip-long IsRequestOf taken.lines requests taken.requests_are)

-- the part that has not ended
part_is : (text : List ℕ) (requests : List LineRequest) (line : HeldLine) (taken : IsTakenIn text requests line) → length requests < MOST_LINES
    → IsLine taken.part × (line ≡ held taken.part)
part_is text requests line taken fewer = elim taken.unended [ inl full ↦ absurd (omega (arith, full, fewer)) | inr part ↦ part ]

-- a line feed ends a line
pub next_line : (text front : List ℕ) (requests requests' : List LineRequest) (line line' last : HeldLine) → IsTakenIn text requests line → length requests < MOST_LINES
    → IsLine front → ((l : List ℕ) → line ≡ held l → line' ≡ held (l ++ front))
    → ((l : List ℕ) → line' ≡ held l → AddsRequestOf l requests requests') → last ≡ held []
    → IsTakenIn (text ++ (front ++ 10 ∷ [])) requests' last
next_line text front requests requests' line line' last taken fewer no_feeds longer asked next =
    let part = part_is text requests line taken fewer in
    let whole = taken.part ++ front in
    let (request, is, added) = asked whole (longer taken.part part.1) in
    let regroup : (ended taken.lines ++ taken.part) ++ (front ++ 10 ∷ []) ≡ ended taken.lines ++ ((taken.part ++ front) ++ 10 ∷ []) = simp append_assoc in
    record {
      lines = taken.lines ++ whole ∷ [];
      part = [];
      spelled = ap (λ (t : List ℕ). t ++ (front ++ 10 ∷ [])) taken.spelled ∙ regroup ∙ sym (ended_more taken.lines whole) ∙ sym (append-nil (ended (taken.lines ++ whole ∷ [])));
      each = All-push IsLine taken.lines whole taken.each (line_append taken.part front part.0 no_feeds);
      requests_are = subst (λ (rs : List LineRequest). AreRequestsOf (taken.lines ++ whole ∷ []) rs) (sym added)
          (all_zipped_more IsRequestOf taken.lines requests whole request taken.requests_are is);
      unended = inr (no_feed, next);
    }

-- a part of a line
pub next_part : (text rest : List ℕ) (requests : List LineRequest) (line line' : HeldLine) → IsTakenIn text requests line → length requests < MOST_LINES
    → IsLine rest → ((l : List ℕ) → line ≡ held l → line' ≡ held (l ++ rest)) → IsTakenIn (text ++ rest) requests line'
next_part text rest requests line line' taken fewer no_feeds longer =
    let part = part_is text requests line taken fewer in
    record {
      lines = taken.lines;
      part = taken.part ++ rest;
      spelled = ap (λ (t : List ℕ). t ++ rest) taken.spelled ∙ append_assoc (ended taken.lines) taken.part rest;
      each = taken.each;
      requests_are = taken.requests_are;
      unended = inr (line_append taken.part rest part.0 no_feeds, longer taken.part part.1);
    }

-- behind the last line that is read nothing counts
pub full_already : (text more : List ℕ) (requests : List LineRequest) (line : HeldLine) → IsTakenIn text requests line → length requests ≡ MOST_LINES
    → IsTakenIn (text ++ more) requests line
full_already text more requests line taken full = record {
  lines = taken.lines;
  part = taken.part ++ more;
  spelled = ap (λ (t : List ℕ). t ++ more) taken.spelled ∙ append_assoc (ended taken.lines) taken.part more;
  each = taken.each;
  requests_are = taken.requests_are;
  unended = inl full;
}

-- ---- the end

-- the text ends behind a line feed
pub ends_there : (text : List ℕ) (requests : List LineRequest) (line : HeldLine) → IsTakenIn text requests line → length requests < MOST_LINES
    → ((l : List ℕ) → line ≡ held l → l ≡ []) → AreOfText text requests
ends_there text requests line taken fewer empty =
    let part = part_is text requests line taken fewer in
    let nothing = empty taken.part part.1 in
    let few : length taken.lines ≤ MOST_LINES = omega (arith, many text requests line taken, fewer) in (
      taken.lines,
      record { each = taken.each; spelled = inl (taken.spelled ∙ ap (λ (t : List ℕ). ended taken.lines ++ t) nothing ∙ append-nil (ended taken.lines)) },
      subst (λ (ls : List (List ℕ)). AreRequestsOf ls requests) (sym (take_all MOST_LINES taken.lines few)) taken.requests_are,
    )

-- the last line has no line feed
pub ends_inside : (text : List ℕ) (requests requests' : List LineRequest) (line : HeldLine) → IsTakenIn text requests line → length requests < MOST_LINES
    → ((l : List ℕ) → line ≡ held l → l ≢ []) → ((l : List ℕ) → line ≡ held l → AddsRequestOf l requests requests') → AreOfText text requests'
ends_inside text requests requests' line taken fewer some asked =
    let part = part_is text requests line taken fewer in
    let (request, is, added) = asked taken.part part.1 in
    let lines = taken.lines ++ taken.part ∷ [] in
    let few : length lines ≤ MOST_LINES = omega (arith, many text requests line taken, fewer, length-append taken.lines (taken.part ∷ [])) in
    let all : AreRequestsOf lines requests' = subst (λ (rs : List LineRequest). AreRequestsOf lines rs) (sym added)
    (all_zipped_more IsRequestOf taken.lines requests taken.part request taken.requests_are is) in (
      lines,
      record { each = All-push IsLine taken.lines taken.part taken.each part.0; spelled = inr (taken.lines, taken.part, refl, some taken.part part.1, taken.spelled) },
      subst (λ (ls : List (List ℕ)). AreRequestsOf ls requests') (sym (take_all MOST_LINES lines few)) all,
    )

-- there are as many lines as are read
pub ends_full : (text given left : List ℕ) (requests : List LineRequest) (line : HeldLine) → IsTakenIn given requests line → length requests ≡ MOST_LINES
    → text ≡ given ++ left → AreOfText text requests
ends_full text given left requests line taken full is =
    let (more, are) = lines_exist (taken.part ++ left) in
    let whole = is ∙ ap (λ (t : List ℕ). t ++ left) taken.spelled ∙ append_assoc (ended taken.lines) taken.part left in
    let first = take_at taken.lines more MOST_LINES (many given requests line taken ∙ full) in (
      taken.lines ++ more,
      subst (λ (t : List ℕ). AreLinesOf t (taken.lines ++ more)) (sym whole) (lines_and_more taken.lines more (taken.part ++ left) taken.each are),
      subst (λ (ls : List (List ℕ)). AreRequestsOf ls requests) (sym first) taken.requests_are,
    )

-- a read fails
pub ends_early : (text given left : List ℕ) (requests : List LineRequest) (line : HeldLine) → IsTakenIn given requests line → length requests < MOST_LINES
    → text ≡ given ++ left → AreOfEndedLines text left requests
ends_early text given left requests line taken fewer is =
    let part = part_is given requests line taken fewer in
    record {
      lines = taken.lines;
      part = taken.part;
      spelled = is ∙ ap (λ (t : List ℕ). t ++ left) taken.spelled ∙ append_assoc (ended taken.lines) taken.part left;
      each = taken.each;
      unended = part.0;
      fewer = omega (arith, many given requests line taken, fewer);
      requests_are = taken.requests_are;
    }

-- ---- pieces

-- a piece is what was taken, a line and its feed, and the others
pub joined : (text piece done rest front behind : List ℕ) → piece ≡ done ++ rest → rest ≡ front ++ 10 ∷ behind
    → ((text ++ done) ++ (front ++ 10 ∷ [])) ++ behind ≡ text ++ piece
joined text piece done rest front behind is cut =
    let whole = ap (λ (t : List ℕ). text ++ t) (is ∙ ap (λ (t : List ℕ). done ++ t) cut) in
    let regroup : ((text ++ done) ++ (front ++ 10 ∷ [])) ++ behind ≡ text ++ (done ++ (front ++ 10 ∷ behind)) = simp append_assoc in
    regroup ∙ sym whole
