-- What comes of a source that keeps nothing back.
use Rattle.std.proofs.Common.{◌≡◌, ◌≢◌, ◌⊎◌, inl, inr, ℕ, ◌+◌, ◌-◌, ◌≤◌, List, [], ◌∷◌, ◌++◌, true, length, drop, refl, sym, ap, subst, ◌∙◌, arith, append_assoc}
use Rattle.std.proofs.lemmas.Bool.{false≢true}
use Rattle.std.proofs.lemmas.List.{length-append, length-drop, append-nil, drop-drop, drop_at, take_all}
use Rattle.log_format.specs.Exports.{asked_for, export_text}
use Rattle.log_format.specs.Readings.{IsReading, room_beside, unfinished}
use Rattle.log_format.specs.ReadingLaws.{AreFirstOf}
use Rattle.log_format.specs.declared.status.Status.{Status}
use Rattle.log_format.specs.declared.status.Status.TheVariants.{Whole, Failed}
use Rattle.log_format.proofs.ReadingProofs.{one_reading, reads_back, cut_reading}
use Rattle.log_transfer.specs.Connections.{Connection}
use Rattle.std.specs.Prelude.{None}
use Rattle.log_transfer.specs.Scripts.{GivesOf, stream_at}
use Rattle.log_transfer.specs.Places.{Visit, AreVisits, frames_of_visits, last_status, may_go_on}
use Rattle.log_transfer.specs.Complete.{AWholeExportIsComplete, IsPartOf, ArePartsOf, AreLogPayloads, GivesItsLog, whole_export}

Answer : List (List ℕ) → List (List ℕ) → Status → Type 0
Answer frames all status = ((status ≡ Whole) × (frames ≡ all)) ⊎ (status ≡ Failed)

module _ (log : List (List ℕ)) (is_log : AreLogPayloads log) where
  -- what is asked for is all that is not held
  asked_is : (held : ℕ) → asked_for log held (4097 - held) ≡ drop held log
  asked_is held = take_all (4097 - held) (drop held log) (omega (arith, length-drop held log, is_log.few))

  asked_few : (held : ℕ) → length (asked_for log held (4097 - held)) ≤ room_beside held
  asked_few held = omega (arith, ap length (asked_is held), length-drop held log, is_log.few)

  -- one connection
  record IsPart (held : ℕ) (frames : List (List ℕ)) (status : Status) : Type 0 where
    more : List (List ℕ)
    split : drop held log ≡ frames ++ more
    answer : ((status ≡ Whole) × (more ≡ [])) ⊎ (status ≡ Failed)

  whole_part : (held : ℕ) (m : Visit) → IsReading held m.connection.text m.connection.fails m.frames m.status → export_text log held (4097 - held) ≡ m.connection.text → IsPart held m.frames m.status
  whole_part held m reading same =
      let fails = m.connection.fails in
      let back = reads_back held held (4097 - held) log fails is_log.sizes (asked_few held) in
      let one = one_reading held m.connection.text fails m.frames (asked_for log held (4097 - held)) m.status Whole reading
      (subst (λ (t : List ℕ). IsReading held t fails (asked_for log held (4097 - held)) Whole) same back) in
      record { more = []; split = sym (asked_is held) ∙ sym one.0 ∙ sym (append-nil m.frames); answer = inl (one.1, refl) }

  failed_part : (held : ℕ) (m : Visit) (lost : List ℕ) → IsReading held m.connection.text m.connection.fails m.frames m.status → export_text log held (4097 - held) ≡ m.connection.text ++ lost → m.connection.fails ≡ true → IsPart held m.frames m.status
  failed_part held m lost reading part fails =
      let cut = cut_reading held held (4097 - held) log m.connection.fails m.connection.text lost m.frames m.status is_log.sizes (asked_few held) part reading in
      let split : drop held log ≡ m.frames ++ cut.0.0 = sym (asked_is held) ∙ cut.0.1 in
      record {
        more = cut.0.0;
        split = split;
        answer = elim cut.1 as (λ _. ((m.status ≡ Whole) × (cut.0.0 ≡ [])) ⊎ (m.status ≡ Failed)) [
          | inl whole ↦ inl (whole.0, none_behind m.frames cut.0.0 (sym (whole.1 ∙ cut.0.1)))
          | inr unended ↦ inr (unended ∙ ap unfinished fails)
        ];
      }
    where
      none_behind : (xs ys : List (List ℕ)) → xs ++ ys ≡ xs → ys ≡ []
      none_behind xs [] e = refl
      none_behind xs (y ∷ ys) e = absurd (omega (arith, length-append xs (y ∷ ys), ap length e))

  part_of : (held : ℕ) (m : Visit) → IsReading held m.connection.text m.connection.fails m.frames m.status → IsPartOf log held m.connection → IsPart held m.frames m.status
  part_of held m reading p = by_lost p.lost p.part p.early
    where
      by_lost : (lost : List ℕ) → export_text log held (4097 - held) ≡ m.connection.text ++ lost → (lost ≢ [] → m.connection.fails ≡ true) → IsPart held m.frames m.status
      by_lost [] part early = whole_part held m reading (part ∙ append-nil m.connection.text)
      by_lost (b ∷ bs) part early = failed_part held m (b ∷ bs) reading part (early (λ e. cc))

  -- all of them
  Result : ℕ → List (List ℕ) → Status → Type 0
  Result held frames status = AreFirstOf frames (drop held log) × (((status ≡ Whole) × (frames ≡ drop held log)) ⊎ (status ≡ Failed))

  run_of : (gives : ℕ → ℕ → ℕ → Connection → Type 0) (k held tries : ℕ) (status : Status) (visits : List Visit) → AreVisits gives k held tries status visits → ArePartsOf log held visits
      → (more : List (List ℕ)) → drop held log ≡ more → ((status ≡ Whole) × (more ≡ [])) ⊎ (status ≡ Failed) → AreFirstOf (frames_of_visits visits) more × (((last_status status visits ≡ Whole) × (frames_of_visits visits ≡ more)) ⊎ (last_status status visits ≡ Failed))
  run_of gives k held tries status [] run parts more is (inl whole) = ((more, refl), inl (whole.0, sym whole.1))
  run_of gives k held tries status [] run parts more is (inr failed) = ((more, refl), inr failed)
  run_of gives k held tries status (m ∷ ms) run parts more is (inl whole) = absurd (false≢true (sym (ap may_go_on whole.0) ∙ run.0))
  run_of gives k held tries status (m ∷ ms) run parts more is (inr failed) =
      let p = part_of held m run.2.reading parts.0 in
      let behind : drop (held + length m.frames) log ≡ p.more =
      sym (drop-drop (length m.frames) held log) ∙ ap (λ (l : List (List ℕ)). drop (length m.frames) l) p.split ∙ drop_at m.frames p.more (length m.frames) refl in
      let later = run_of gives (k + 1) (held + length m.frames) (tries - 1) m.status ms run.3 parts.1 p.more behind p.answer in
      let whole : more ≡ m.frames ++ p.more = sym is ∙ p.split in (
        (later.0.0, whole ∙ ap (λ (l : List (List ℕ)). m.frames ++ l) later.0.1 ∙ sym (append_assoc m.frames (frames_of_visits ms) later.0.0)),
        elim later.1 as (λ _. ((last_status m.status ms ≡ Whole) × (m.frames ++ frames_of_visits ms ≡ more)) ⊎ (last_status m.status ms ≡ Failed)) [
          | inl all ↦ inl (all.0, ap (λ (l : List (List ℕ)). m.frames ++ l) all.1 ∙ sym whole)
          | inr left ↦ inr left
        ],
      )

pub complete_source : (gives : ℕ → ℕ → ℕ → Connection → Type 0) → GivesItsLog gives
complete_source gives tries log frames status is_log complete o =
    let r = run_of log is_log gives 0 0 tries Failed o.visits o.run (complete o.visits o.run) log refl (inr refl) in
    subst (λ (s : Status). AreFirstOf frames log × (((s ≡ Whole) × (frames ≡ log)) ⊎ (s ≡ Failed))) (sym o.status_is)
    (subst (λ (l : List (List ℕ)). AreFirstOf l log × (((last_status Failed o.visits ≡ Whole) × (l ≡ log)) ⊎ (last_status Failed o.visits ≡ Failed))) (sym o.frames_are) r)

-- ---- a source in memory

pub whole_is_complete : AWholeExportIsComplete
whole_is_complete tries log later is_log [] run = tt
whole_is_complete tries log later is_log (m ∷ ms) run = (
  record { lost = []; part = sym text ∙ sym (append-nil m.connection.text); early = λ some. absurd (some refl) },
  none ms run.3,
)
  where
    text : m.connection.text ≡ export_text log 0 4097
    text = ap (λ (c : Connection). c.text) run.2.gave

    whole : m.status ≡ Whole
    whole =
        let back = reads_back 0 0 4097 log m.connection.fails is_log.sizes (asked_few log is_log 0) in
        (one_reading 0 m.connection.text m.connection.fails m.frames (asked_for log 0 4097) m.status Whole run.2.reading
        (subst (λ (t : List ℕ). IsReading 0 t m.connection.fails (asked_for log 0 4097) Whole) (sym text) back)).1

    none : (more : List Visit) → AreVisits (λ k first most c. GivesOf None (stream_at (whole_export log ∷ later) k) c) (0 + 1) (0 + length m.frames) (tries - 1) m.status more → ArePartsOf log (0 + length m.frames) more
    none [] behind = tt
    none (n ∷ more) behind = absurd (false≢true (sym (ap may_go_on whole) ∙ behind.0))
