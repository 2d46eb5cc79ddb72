-- What came of an export that was cut.
use Rattle.std.proofs.Common.{◌≡◌, ◌⊎◌, inl, inr, ℕ, ◌+◌, ◌-◌, ◌^◌, ◌<◌, ◌≤◌, List, [], ◌∷◌, ◌++◌, Bool, length, drop, All, refl, sym, ap, subst, ◌∙◌, arith, append_assoc}
use Rattle.std.proofs.lemmas.Bool.{cases_lt}
use Rattle.std.proofs.lemmas.List.{length-append, append-nil, nil_from_length}
use Rattle.std.proofs.lemmas.List.Elements.{All-head, All-tail}
use Rattle.std.specs.List.{flat_map}
use Rattle.base_wire.specs.Pieces.{number_at}
use Rattle.base_wire.specs.Payloads.{IsPayload}
use Rattle.log_format.specs.Exports.{frame_text, end_mark}
use Rattle.log_format.specs.Readings.{unfinished, HasEndMark, IsBody, IsOpen}
use Rattle.log_format.specs.ReadingLaws.{AreFirstOf}
use Rattle.log_format.specs.declared.status.Status.{Status}
use Rattle.log_format.specs.declared.status.Status.TheVariants.{Whole}
use Rattle.log_format.proofs.Endings.{ends_open}
use Rattle.log_format.proofs.Bodies.{body_end, body_more}
use Rattle.log_format.proofs.Texts.{frame_number, length-frame_text, end_mark_named, length-end_mark, number_of_front, piece_came}

-- the status of what came of these frames
abbrev pub IsCutStatus : Bool → List (List ℕ) → List (List ℕ) → List ℕ → Status → Type 0
IsCutStatus failed frames all lost status = ((status ≡ Whole) × (frames ≡ all) × (lost ≡ [])) ⊎ (status ≡ unfinished failed)

pub record IsCutBody (failed : Bool) (before room : ℕ) (came lost : List ℕ) (all : List (List ℕ)) : Type 0 where
  pub frames : List (List ℕ)
  pub status : Status
  pub body : IsBody failed before room came frames status
  pub front : AreFirstOf frames all
  pub named : IsCutStatus failed frames all lost status

-- too little came to go on
cut_here : (failed : Bool) (before room : ℕ) (came lost : List ℕ) (all : List (List ℕ)) → IsOpen room came → IsCutBody failed before room came lost all
cut_here failed before room came lost all little = record {
  frames = [];
  status = unfinished failed;
  body = body_end failed before room came (unfinished failed) (ends_open failed before room came little);
  front = (all, refl);
  named = inr refl;
}

cut_mark : (failed : Bool) (before room : ℕ) (came lost : List ℕ) → before < 2 ^ 32 → end_mark before ≡ came ++ lost → IsCutBody failed before room came lost []
cut_mark failed before room came lost small split =
    let mark = end_mark_named before small in
    let long : length came + length lost ≡ 8 = sym (length-append came lost) ∙ ap length (sym split) ∙ length-end_mark before in
    elim (cases_lt (length came) 4) [
      | inl short ↦ cut_here failed before room came lost [] (inl short)
      | inr number ↦ elim (cases_lt (length came) 8) [
        | inl part ↦ cut_here failed before room came lost [] (inr (inl (record { none = number_of_front (end_mark before) came lost split number ∙ mark.none; part = part })))
        | inr whole ↦
            let none : lost ≡ [] = nil_from_length lost (omega arith) in
            let same : end_mark before ≡ came = split ∙ ap (λ (t : List ℕ). came ++ t) none ∙ append-nil came in
            record {
              frames = [];
              status = Whole;
              body = body_end failed before room came Whole (subst (λ (t : List ℕ). HasEndMark t before) same mark);
              front = ([], refl);
              named = inl (refl, refl, none);
            }
      ]
    ]

-- one frame came, and what came behind it
cut_more : (failed : Bool) (before room : ℕ) (came behind lost x : List ℕ) (xs : List (List ℕ)) → IsPayload x → came ≡ frame_text x ++ behind → 0 < room
    → IsCutBody failed (before + 1) (room - 1) behind lost xs → IsCutBody failed before room came lost (x ∷ xs)
cut_more failed before room came behind lost x xs is split some later = record {
  frames = x ∷ later.frames;
  status = later.status;
  body = body_more failed before room came x behind later.frames later.status is split some later.body;
  front = (later.front.0, ap (λ (l : List (List ℕ)). x ∷ l) later.front.1);
  named = elim later.named as (λ _. IsCutStatus failed (x ∷ later.frames) (x ∷ xs) lost later.status) [
    | inl all ↦ inl (all.0, ap (λ (l : List (List ℕ)). x ∷ l) all.1, all.2)
    | inr cut ↦ inr cut
  ];
}

pub cut_body : (failed : Bool) (before room : ℕ) (came lost : List ℕ) (xs : List (List ℕ)) → All IsPayload xs → length xs ≤ room → before + length xs < 2 ^ 32
    → flat_map frame_text xs ++ end_mark (before + length xs) ≡ came ++ lost → IsCutBody failed before room came lost xs
cut_body failed before room came lost [] sizes few small split =
    let count : before + 0 ≡ before = omega arith in
    cut_mark failed before room came lost (omega arith) (ap (λ (n : ℕ). end_mark n) (sym count) ∙ split)
cut_body failed before room came lost (x ∷ xs) sizes few small split =
    let is = All-head IsPayload x xs sizes in
    let tail = flat_map frame_text xs ++ end_mark (before + length (x ∷ xs)) in
    let whole : frame_text x ++ tail ≡ came ++ lost = sym (append_assoc (frame_text x) (flat_map frame_text xs) (end_mark (before + length (x ∷ xs)))) ∙ split in
    elim (cases_lt (length came) 4) [
      | inl short ↦ cut_here failed before room came lost (x ∷ xs) (inl short)
      | inr long ↦
          let number : number_at 4 came 0 ≡ length x = number_of_front (frame_text x ++ tail) came lost whole long ∙ frame_number x tail is.1 in
          elim (cases_lt (length came) (4 + length x)) [
            | inl part ↦ cut_here failed before room came lost (x ∷ xs) (inr (inr (
              omega arith,
              record {
                size = record { came = long; some = omega (arith, is.0); fits = omega (arith, is.1) };
                part = omega arith;
              },
            )))
            | inr enough ↦
                let parts = piece_came (frame_text x) tail came lost whole (omega (arith, length-frame_text x)) in
                let behind = drop (length (frame_text x)) came in
                let count : before + 1 + length xs ≡ before + length (x ∷ xs) = omega arith in
                cut_more failed before room came behind lost x xs is parts.0 (omega arith)
                (cut_body failed (before + 1) (room - 1) behind lost xs (All-tail IsPayload x xs sizes) (omega arith) (omega arith)
                (ap (λ (n : ℕ). flat_map frame_text xs ++ end_mark n) count ∙ parts.1))
          ]
    ]
