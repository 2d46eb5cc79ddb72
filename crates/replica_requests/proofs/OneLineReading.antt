-- A text has one list of requests.
use Rattle.std.proofs.Common.{◌≡◌, ◌≢◌, ◌⊎◌, ℕ, List, [], ◌∷◌, ◌++◌, codes, decimal, length, take, refl, sym, ap, append_assoc, ◌∙◌, subst, inl, inr, arith}
use Rattle.std.proofs.lemmas.Fmt.{decimal_injective}
use Rattle.std.proofs.lemmas.List.{append_cancel_left, length-append}
use Rattle.std.proofs.lemmas.List.Elements.{All-head, All-tail, Contains-append_right}
use Rattle.hex.specs.Hex.{decode_of}
use Rattle.replica_requests.specs.Requests.{IsOfBlock}
use Rattle.replica_requests.specs.declared.request.Request.{Request}
use Rattle.replica_requests.specs.declared.request.Request.TheVariants.{Block, Timeout, RefusedHeader, RefusedCertificate}
use Rattle.replica_requests.proofs.OneReading.{one_block}
use Rattle.replica_requests.specs.LineReading.{ATextHasOneReading, AreLinesOf, AreRequestsOf, IsLine, ended}
use Rattle.replica_requests.specs.RequestLines.{AsksFor, IsRequestOf, SpellsBlock, SpellsTimeout}
use Rattle.replica_requests.specs.declared.reading.TheConstants.{MOST_LINES}
use Rattle.replica_requests.specs.declared.request_line.LineRequest.{LineRequest}
use Rattle.replica_requests.specs.declared.request_line.LineRequest.TheVariants.{Asked, BadLine}
use Rattle.replica_requests.proofs.Asking.{no_timeout}

-- ---- a text has one list of lines

feed_inside : (first second : List ℕ) → IsLine (first ++ 10 ∷ second) → ⊥
feed_inside first second line = line (Contains-append_right first (10 ∷ second) 10 (0, omega arith, refl))

rest_of : (x : ℕ) (xs : List ℕ) → IsLine (x ∷ xs) → IsLine xs
rest_of x xs line c = line (Contains-append_right (x ∷ []) xs 10 c)

first_of : {l m : List ℕ} {ls ms : List (List ℕ)} → (l ∷ ls) ≡ (m ∷ ms) → (l ≡ m) × (ls ≡ ms)
first_of e = (cc, cc)

head_of : {x y : ℕ} {xs ys : List ℕ} → (x ∷ xs) ≡ (y ∷ ys) → (x ≡ y) × (xs ≡ ys)
head_of e = (cc, cc)

-- two ways to cut a text at its first line feed are one
one_cut : (a b c d : List ℕ) → IsLine a → IsLine c → a ++ 10 ∷ b ≡ c ++ 10 ∷ d → (a ≡ c) × (b ≡ d)
one_cut [] b [] d line_a line_c e = (refl, (head_of e).1)
one_cut [] b (y ∷ c) d line_a line_c e = absurd (line_c (0, omega arith, sym (head_of e).0))
one_cut (x ∷ a) b [] d line_a line_c e = absurd (line_a (0, omega arith, (head_of e).0))
one_cut (x ∷ a) b (y ∷ c) d line_a line_c e =
    let both = head_of e in
    let more = one_cut a b c d (rest_of x a line_a) (rest_of y c line_c) both.1 in
    let first = both.0 in
    let second = more.0 in
    (cc, more.1)

-- the first of the lines, and the others
abbrev Begins : List ℕ → List ℕ → List (List ℕ) → Type 0
Begins text line lines =
    ((rest : List ℕ) × (text ≡ line ++ 10 ∷ rest) × AreLinesOf rest lines) ⊎ ((lines ≡ []) × (text ≡ line) × (line ≢ []))

begins_last : (text line : List ℕ) (lines front : List (List ℕ)) (last : List ℕ) → AreLinesOf text (line ∷ lines)
    → (line ∷ lines) ≡ front ++ last ∷ [] → last ≢ [] → text ≡ ended front ++ last → Begins text line lines
begins_last text line lines [] last are is some whole =
    let same = first_of is in
    inr (same.1, whole ∙ sym same.0, λ empty. some (sym same.0 ∙ empty))
begins_last text line lines (f ∷ fs) last are is some whole =
    let same = first_of is in
    let regroup : ((f ++ 10 ∷ []) ++ ended fs) ++ last ≡ f ++ 10 ∷ (ended fs ++ last) = simp append_assoc in
    inl (
      ended fs ++ last,
      whole ∙ regroup ∙ ap (λ (l : List ℕ). l ++ 10 ∷ (ended fs ++ last)) (sym same.0),
      record { each = All-tail IsLine line lines are.each; spelled = inr (fs, last, same.1, some, refl) },
    )

begins : (text line : List ℕ) (lines : List (List ℕ)) → AreLinesOf text (line ∷ lines) → Begins text line lines
begins text line lines are = elim are.spelled [
  | inl whole ↦
      inl (
        ended lines,
        whole ∙ append_assoc line (10 ∷ []) (ended lines),
        record { each = All-tail IsLine line lines are.each; spelled = inl refl },
      )
  | inr (front, last, is, some, whole) ↦ begins_last text line lines front last are is some whole
]

no_lines : (text : List ℕ) → AreLinesOf text [] → text ≡ []
no_lines text are = elim are.spelled [
  | inl whole ↦ whole
  | inr (front, last, is, some, whole) ↦
      let long = ap (λ (m : List (List ℕ)). length m) is in
      absurd (omega (arith, long, length-append front (last ∷ [])))
]

not_empty : (text line : List ℕ) (lines : List (List ℕ)) → Begins text line lines → text ≡ [] → ⊥
not_empty text line lines starts empty = elim starts [
  | inl (rest, is, are) ↦
      let long = ap (λ (t : List ℕ). length t) (sym is ∙ empty) in
      omega (arith, long, length-append line (10 ∷ rest))
  | inr (none, is, some) ↦ some (sym is ∙ empty)
]

one_split : (text : List ℕ) (a b : List (List ℕ)) → AreLinesOf text a → AreLinesOf text b → a ≡ b
one_split text [] [] of_a of_b = refl
one_split text [] (m ∷ ms) of_a of_b = absurd (not_empty text m ms (begins text m ms of_b) (no_lines text of_a))
one_split text (l ∷ ls) [] of_a of_b = absurd (not_empty text l ls (begins text l ls of_a) (no_lines text of_b))
one_split text (l ∷ ls) (m ∷ ms) of_a of_b =
    let line_l = All-head IsLine l ls of_a.each in
    let line_m = All-head IsLine m ms of_b.each in
    elim (begins text l ls of_a) [
      | inl (rest, is, are) ↦ elim (begins text m ms of_b) [
        | inl (rest', is', are') ↦
            let same = one_cut l rest m rest' line_l line_m (sym is ∙ is') in
            let others = one_split rest ls ms are (subst (λ (t : List ℕ). AreLinesOf t ms) (sym same.1) are') in
            let first = same.0 in
            cc (first, others)
        | inr (none, is', some) ↦ absurd (feed_inside l rest (subst (λ (t : List ℕ). IsLine t) (sym is' ∙ is) line_m))
      ]
      | inr (none, is, some) ↦ elim (begins text m ms of_b) [
        | inl (rest', is', are') ↦ absurd (feed_inside m rest' (subst (λ (t : List ℕ). IsLine t) (sym is ∙ is') line_l))
        | inr (none', is', some') ↦ cc (sym is ∙ is', none, none')
      ]
    ]

-- ---- a line asks for one thing

same_block : (line a b : List ℕ) → SpellsBlock line a → SpellsBlock line b → a ≡ b
same_block line a b (digits, is, decoded) (digits', is', decoded') =
    let same = append_cancel_left (codes "block ") digits digits' (sym is ∙ is') in
    let both = ap (λ (d : List ℕ). decode_of d) same in
    let answers = sym decoded ∙ both ∙ decoded' in
    cc answers

same_view : (line : List ℕ) (v w : ℕ) → SpellsTimeout line v → SpellsTimeout line w → v ≡ w
same_view line v w (fits, is) (fits', is') = decimal_injective v w fits fits' (append_cancel_left (codes "timeout ") (decimal v) (decimal w) (sym is ∙ is'))

not_both : (line bytes : List ℕ) (view : ℕ) → SpellsBlock line bytes → SpellsTimeout line view → ⊥
not_both line bytes view (digits, is, decoded) timeout = no_timeout line digits view is timeout

-- a block, a timeout, or neither
abbrev IsKind : List ℕ → LineRequest → Type 0
IsKind line r =
    ((bytes : List ℕ) × SpellsBlock line bytes × ((request : Request) × (r ≡ Asked request) × IsOfBlock bytes request))
    ⊎ (((view : ℕ) × SpellsTimeout line view × (r ≡ Asked (Timeout view)))
    ⊎ ((r ≡ BadLine) × ((bytes : List ℕ) → SpellsBlock line bytes → ⊥) × ((view : ℕ) → SpellsTimeout line view → ⊥)))

kind_of : (line : List ℕ) (r : LineRequest) → AsksFor line r → IsKind line r
kind_of line (Asked (Block h c)) (bytes, spelled, what) = inl (bytes, spelled, (Block h c, refl, what))
kind_of line (Asked (RefusedHeader e)) (bytes, spelled, what) = inl (bytes, spelled, (RefusedHeader e, refl, what))
kind_of line (Asked (RefusedCertificate e)) (bytes, spelled, what) = inl (bytes, spelled, (RefusedCertificate e, refl, what))
kind_of line (Asked (Timeout v)) asks = inr (inl (v, asks, refl))
kind_of line BadLine asks = inr (inr (refl, asks.0, asks.1))

one_thing : (line : List ℕ) (r s : LineRequest) → IsKind line r → IsKind line s → r ≡ s
one_thing line r s (inl (bytes, spelled, (q, is, what))) (inl (bytes', spelled', (q', is', what'))) =
    let same = same_block line bytes bytes' spelled spelled' in
    let one = one_block bytes q q' what (subst (λ (b : List ℕ). IsOfBlock b q') (sym same) what') in
    is ∙ ap (λ (request : Request). Asked request) one ∙ sym is'
one_thing line r s (inl (bytes, spelled, what)) (inr (inl (view, timeout, is))) = absurd (not_both line bytes view spelled timeout)
one_thing line r s (inl (bytes, spelled, what)) (inr (inr (is, no_block, no_view))) = absurd (no_block bytes spelled)
one_thing line r s (inr (inl (view, timeout, is))) (inl (bytes, spelled, what)) = absurd (not_both line bytes view spelled timeout)
one_thing line r s (inr (inl (view, timeout, is))) (inr (inl (view', timeout', is'))) =
    let same = same_view line view view' timeout timeout' in
    cc (same, is, is')
one_thing line r s (inr (inl (view, timeout, is))) (inr (inr (is', no_block, no_view))) = absurd (no_view view timeout)
one_thing line r s (inr (inr (is, no_block, no_view))) (inl (bytes, spelled, what)) = absurd (no_block bytes spelled)
one_thing line r s (inr (inr (is, no_block, no_view))) (inr (inl (view, timeout, is'))) = absurd (no_view view timeout)
one_thing line r s (inr (inr (is, no_block, no_view))) (inr (inr (is', no_block', no_view'))) = is ∙ sym is'

one_request : (line : List ℕ) (r s : LineRequest) → IsRequestOf line r → IsRequestOf line s → r ≡ s
one_request line r s (inl (short, asks)) (inl (short', asks')) = one_thing line r s (kind_of line r asks) (kind_of line s asks')
one_request line r s (inl (short, asks)) (inr (long, is)) = absurd (omega (arith, short, long))
one_request line r s (inr (long, is)) (inl (short, asks)) = absurd (omega (arith, short, long))
one_request line r s (inr (long, is)) (inr (long', is')) = is ∙ sym is'

one_list : (lines : List (List ℕ)) (a b : List LineRequest) → AreRequestsOf lines a → AreRequestsOf lines b → a ≡ b
one_list [] [] [] of_a of_b = refl
one_list [] [] (s ∷ ss) of_a of_b = absurd of_b
one_list [] (r ∷ rs) b of_a of_b = absurd of_a
one_list (l ∷ ls) [] b of_a of_b = absurd of_a
one_list (l ∷ ls) (r ∷ rs) [] of_a of_b = absurd of_b
one_list (l ∷ ls) (r ∷ rs) (s ∷ ss) of_a of_b =
    let first = one_request l r s of_a.0 of_b.0 in
    let others = one_list ls rs ss of_a.1 of_b.1 in
    cc (first, others)

pub one_reading : ATextHasOneReading
one_reading text a b (lines, are, of_a) (lines', are', of_b) =
    let same = one_split text lines lines' are are' in
    one_list (take MOST_LINES lines) a b of_a (subst (λ (ls : List (List ℕ)). AreRequestsOf (take MOST_LINES ls) b) (sym same) of_b)
