-- An append: what a crash leaves while its entry is written, and the journal after it.
use Rattle.std.proofs.Common.{◌≡◌, inl, inr, ℕ, ◌+◌, ◌≤◌, ◌<◌, List, [], ◌∷◌, ◌++◌, length, take, drop, Option, Some, IfSome, IsSome, ◌↔◌, Bool, false, option_map, sym, ◌∙◌, ap, subst, arith, length-append}
use Rattle.std.proofs.lemmas.List.{take_at, map-append}
use Rattle.std.proofs.lemmas.List.Elements.{All-push, All-weaker}
use Rattle.stable_log.specs.Crash.{Only, LeavesOnly}
use Rattle.stable_log.specs.Disk.{written}
use Rattle.base_wire.specs.Payloads.{IsPayload}
use Rattle.stable_log.specs.Image.{IsBeforeOrAfter, StandsFor, LeavesList, journal_text, staged_text}
use Rattle.stable_log.specs.MemoryLaws.{length-written, torn_written}
use Rattle.stable_log.specs.Places.{IsAtRest, IsPayloadStep, IsJournal, payloads_at, piece_at, with_text}
use Rattle.stable_log.specs.declared.reading.PayloadPlace.{PayloadPlace}
use Rattle.stable_log.proofs.Crash.{stage_stands, IsStaged, is_staged, gate_stands, opened_is, with_payload, long_text}
use Rattle.stable_log.proofs.Moments.{weaker}
use Rattle.stable_log.proofs.Places.{Within, same_pieces, new_piece, length-payloads_at, torn_front, same_list}
use Rattle.stable_log.proofs.Told.{some_if, if_some, mapped_some}

-- the list with its payload or without
pub step_leaves : (bs : List ℕ) (list : List (List ℕ)) (p : List ℕ) (end : ℕ) → StandsFor bs list → end ≡ length (journal_text list) → IsPayload p → length list < 4096
    → (image : List ℕ) → IsPayloadStep bs end (staged_text p) image → IsBeforeOrAfter list p image
step_leaves bs list p end s gate_at size few image (inl torn) = inl (stage_stands bs list end (length (staged_text p)) s gate_at image torn)
step_leaves bs list p end s gate_at size few image (inr torn) = gate_stands (written bs (end + 1) (staged_text p)) list p end (is_staged bs list p end s gate_at size few) gate_at image torn

-- and all that stands before the gate
pub step_front : (bs text : List ℕ) (end : ℕ) → end ≤ length bs → (image : List ℕ) → IsPayloadStep bs end text image → take end image ≡ take end bs
step_front bs text end fits image (inl torn) = torn_front end (end + 1) (length text) bs image (omega arith) fits torn
step_front bs text end fits image (inr torn) =
    let mid = written bs (end + 1) text in
    torn_front end end 1 mid image (omega arith) (omega (arith, fits, length-written bs text (end + 1))) torn
    ∙ torn_front end (end + 1) (length text) bs mid (omega arith) fits (torn_written bs text (end + 1))

-- a journal that runs, a payload for which it has room, and the text that is written for it
module _ (o : Option (List ℕ)) (images : List ℕ → Type 0) (places : List PayloadPlace) (end : ℕ) (stopped : Bool) (p : List ℕ) (j : IsJournal o images places end stopped) (runs : stopped ≡ false) (few : length places < 4096) (size : IsPayload p) (text : List ℕ) (is_text : text ≡ staged_text p) where
  abbrev list : List ℕ → List (List ℕ)
  list bs = payloads_at (Some bs) places

  abbrev whole : List ℕ → List ℕ
  whole bs = with_text bs end (staged_text p)

  abbrev place : PayloadPlace
  place = record { at = end + 5; len = length p }

  at_rest : (bs : List ℕ) → o ≡ Some bs → IsAtRest bs images (list bs) end
  at_rest bs is = j.at_rest runs bs is

  short : (bs : List ℕ) → length (list bs) < 4096
  short bs = omega (arith, few, length-payloads_at (Some bs) places)

  -- the gate stands within the file
  pub gate_inside : IfSome o (λ bs. end < length bs)
  gate_inside = some_if o (λ bs. end < length bs) (λ bs is.
      let at = at_rest bs is in
      omega (arith, ap length at.stands.split, length-append (journal_text (list bs)) (at.stands.gate ∷ at.stands.rest), at.gate_at))

  step_keeps : (bs : List ℕ) → o ≡ Some bs → (image : List ℕ) → IsPayloadStep bs end text image → IsBeforeOrAfter (payloads_at o places) p image
  step_keeps bs is image step =
      let at = at_rest bs is in
      subst (λ (v : Option (List ℕ)). IsBeforeOrAfter (payloads_at v places) p image) (sym is)
      (step_leaves bs (list bs) p end at.stands at.gate_at size (short bs) image (subst (λ (t : List ℕ). IsPayloadStep bs end t image) is_text step))

  module _ {D : Type 0} (moment : D → ℕ) (images_since : D → ℕ → List ℕ → Type 0) (old new : D) (run : (bs : List ℕ) → o ≡ Some bs → Only bs images → LeavesOnly moment images_since old new (IsPayloadStep bs end text)) where
    -- at any moment a crash leaves the list with the payload or without
    pub run_keeps : IfSome o (λ _. LeavesOnly moment images_since old new (IsBeforeOrAfter (payloads_at o places) p))
    run_keeps = some_if o (λ _. LeavesOnly moment images_since old new (IsBeforeOrAfter (payloads_at o places) p)) (λ bs is.
        weaker moment images_since old new (IsPayloadStep bs end text) (IsBeforeOrAfter (payloads_at o places) p) (run bs is (at_rest bs is).durable) (step_keeps bs is))

    -- whatever was written, the list is as before
    pub list_kept : (o1 : Option (List ℕ)) (images1 : List ℕ → Type 0) → IsSome o1 ↔ IsSome o → IfSome o1 images1
        → ((t : ℕ) (image : List ℕ) → t ≤ moment new → images1 image → images_since new t image) → payloads_at o1 places ≡ payloads_at o places
    list_kept o1 images1 tells read counts_now = same_list end o o1 places tells (λ bs cs is is1.
        let inside = if_some o (λ (l : List ℕ). end < length l) bs gate_inside is in
        let so_far = run bs is (at_rest bs is).durable in
        step_front bs text end (omega (arith, inside)) cs (so_far.each cs (counts_now (moment old) cs so_far.later (if_some o1 images1 cs read is1)))) j.placed.inside

  module _ (o1 : Option (List ℕ)) (images1 : List ℕ → Type 0) (done : o1 ≡ option_map (λ bs. with_text bs end text) o) (durable : IfSome o1 (λ bs. Only bs images1)) where
    told : o1 ≡ option_map (λ bs. with_text bs end (staged_text p)) o
    told = done ∙ ap (λ (t : List ℕ). option_map (λ bs. with_text bs end t) o) is_text

    told_whole : (bs : List ℕ) → o ≡ Some bs → o1 ≡ Some (whole bs)
    told_whole bs is = told ∙ ap (λ (v : Option (List ℕ)). option_map (λ l. with_text l end (staged_text p)) v) is

    only_whole : (bs : List ℕ) → o ≡ Some bs → Only (whole bs) images1
    only_whole bs is = if_some o1 (λ l. Only l images1) (whole bs) durable (told_whole bs is)

    staged_now : (bs : List ℕ) → o ≡ Some bs → IsStaged (list bs) p (written bs (end + 1) (staged_text p))
    staged_now bs is = is_staged bs (list bs) p end (at_rest bs is).stands (at_rest bs is).gate_at size (short bs)

    stands_whole : (bs : List ℕ) → o ≡ Some bs → StandsFor (whole bs) (list bs ++ p ∷ [])
    stands_whole bs is = with_payload (written bs (end + 1) (staged_text p)) (list bs) p end (staged_now bs is) (at_rest bs is).gate_at

    list_whole : (bs : List ℕ) → o ≡ Some bs → payloads_at (Some (whole bs)) (places ++ place ∷ []) ≡ list bs ++ p ∷ []
    list_whole bs is =
        let at = at_rest bs is in
        let s = staged_now bs is in
        let text = journal_text (list bs) in
        let tail = staged_text p ++ s.junk in
        let opened : whole bs ≡ text ++ 1 ∷ tail = opened_is (written bs (end + 1) (staged_text p)) (list bs) p end s at.gate_at in
        let before : take end bs ≡ text = ap (λ (l : List ℕ). take end l) at.stands.split ∙ take_at text (at.stands.gate ∷ at.stands.rest) end (sym at.gate_at) in
        let after : take end (whole bs) ≡ text = ap (λ (l : List ℕ). take end l) opened ∙ take_at text (1 ∷ tail) end (sym at.gate_at) in
        let same : payloads_at (Some (whole bs)) places ≡ list bs = same_pieces end (whole bs) bs places (after ∙ sym before) j.placed.inside in
        let new : piece_at (whole bs) place ≡ p = ap (λ (l : List ℕ). take (length p) (drop (end + 5) l)) opened ∙ new_piece text p s.junk end at.gate_at in
        map-append (piece_at (whole bs)) places (place ∷ []) ∙ (λ i. same i ++ new i ∷ [])

    pub list_after : (bs : List ℕ) → o ≡ Some bs → payloads_at o1 (places ++ place ∷ []) ≡ payloads_at o places ++ p ∷ []
    list_after bs is =
        ap (λ (v : Option (List ℕ)). payloads_at v (places ++ place ∷ [])) (told_whole bs is) ∙ list_whole bs is
        ∙ ap (λ (v : Option (List ℕ)). payloads_at v places ++ p ∷ []) (sym is)

    pub durable_after : (bs : List ℕ) → o ≡ Some bs → LeavesList images1 (payloads_at o1 (places ++ place ∷ []))
    durable_after bs is image left =
        let stands : StandsFor image (list bs ++ p ∷ []) = subst (λ (f : List ℕ). StandsFor f (list bs ++ p ∷ [])) (sym (only_whole bs is image left)) (stands_whole bs is) in
        subst (λ (l : List (List ℕ)). StandsFor image l) (sym (list_after bs is ∙ ap (λ (v : Option (List ℕ)). payloads_at v places ++ p ∷ []) is)) stands

    pub journal_after : IsJournal o1 images1 (places ++ place ∷ []) (end + 5 + length p) stopped
    journal_after = record {
      placed = record {
        few = omega (arith, few, length-append places (place ∷ []));
        near = omega (arith, j.placed.near, size.1, length-append places (place ∷ []));
        inside = All-push (Within (end + 5 + length p)) places place (All-weaker (Within end) (Within (end + 5 + length p)) (λ q le. omega (arith, le)) places j.placed.inside) (omega arith);
        small = All-push (λ (q : PayloadPlace). q.len ≤ 65536) places place j.placed.small size.1;
      };
      at_rest = λ _ cs is1.
          let from = mapped_some (λ bs. with_text bs end (staged_text p)) o cs (sym told ∙ is1) in
          let bs = from.0 in
          let is = from.1 in
          let now : IsAtRest (whole bs) images1 (payloads_at (Some (whole bs)) (places ++ place ∷ [])) (end + 5 + length p) = record {
            stands = subst (λ (l : List (List ℕ)). StandsFor (whole bs) l) (sym (list_whole bs is)) (stands_whole bs is);
            gate_at = ap (λ (n : ℕ). n + 5 + length p) (at_rest bs is).gate_at ∙ sym (long_text (list bs) p) ∙ ap (λ (l : List (List ℕ)). length (journal_text l)) (sym (list_whole bs is));
            durable = only_whole bs is;
          } in
          subst (λ (f : List ℕ). IsAtRest f images1 (payloads_at (Some f) (places ++ place ∷ [])) (end + 5 + length p)) (sym from.2) now;
    }
