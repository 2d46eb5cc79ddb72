-- Steps of a reader of a source.
use Rattle.std.proofs.Common.{◌≡◌, ◌≢◌, inl, inr, ℕ, zero, suc, ◌+◌, ◌-◌, ◌<◌, List, [], ◌∷◌, ◌++◌, Bool, true, false, length, refl, sym, ap, subst, ◌∙◌, arith, append_assoc}
use Rattle.std.specs.Prelude.{codes}
use Rattle.std.proofs.lemmas.List.{append-nil, length-append, take_at}
use Rattle.std.specs.Bool.{MatchBool}
use Rattle.std.proofs.lemmas.Bool.{false≢true}
use Rattle.base_wire.specs.Payloads.{IsPayload}
use Rattle.log_format.specs.Exports.{frame_text}
use Rattle.log_format.specs.Readings.{IsBody, IsReading, room_beside, unfinished}
use Rattle.log_format.specs.declared.status.Status.{Status}
use Rattle.log_format.specs.declared.status.Status.TheVariants.{Whole, Cut, Broken, TooLong, Failed}
use Rattle.log_format.proofs.Bodies.{body_end, body_found, body_more}
use Rattle.log_format.proofs.ReadingProofs.{frames_of as has_frames, a_reading}
use Rattle.log_transfer.specs.Connections.{Connection, GivesSome, behind, failing}
use Rattle.log_transfer.specs.Streams.{EndsBehind, GaveAll}
use Rattle.log_transfer.specs.Turns.{IsEntered}
use Rattle.log_transfer.specs.Magics.{EndsAtMagic}
use Rattle.log_transfer.specs.declared.reader_state.ReaderState.{ReaderState}
use Rattle.log_transfer.specs.Places.{Visit, IsVisit, AreVisits, IsOutcome, IsRest, IsAhead, Leads, may_go_on, IsEnd}

abbrev Gives : Type 1
Gives = ℕ → ℕ → ℕ → Connection → Type 0

-- ---- runs of another source

run_shift : (old new : Gives) (j : ℕ) → ((k f m : ℕ) (c : Connection) → new k f m c → old (k + j) f m c) → (k held tries : ℕ) (status : Status) (visits : List Visit) → AreVisits new k held tries status visits → AreVisits old (k + j) held tries status visits
run_shift old new j later k held tries status [] run = run
run_shift old new j later k held tries status (m ∷ ms) run =
    let place : k + 1 + j ≡ k + j + 1 = omega arith in (
      run.0,
      run.1,
      record { gave = later k held (4097 - held) m.connection run.2.gave; reading = run.2.reading },
      subst (λ (n : ℕ). AreVisits old n (held + length m.frames) (tries - 1) m.status ms) place (run_shift old new j later (k + 1) (held + length m.frames) (tries - 1) m.status ms run.3),
    )

outcome_shift : (old new : Gives) (j : ℕ) → ((k f m : ℕ) (c : Connection) → new k f m c → old (k + j) f m c) → (held tries : ℕ) (last : Status) (frames : List (List ℕ)) (status : Status) → IsOutcome new 0 held tries last frames status → IsOutcome old j held tries last frames status
outcome_shift old new j later held tries last frames status o =
    let zero_more : 0 + j ≡ j = omega arith in
    record { visits = o.visits; run = subst (λ (n : ℕ). AreVisits old n held tries last o.visits) zero_more (run_shift old new j later 0 held tries last o.visits o.run); frames_are = o.frames_are; status_is = o.status_is }

-- the same source
module _ (old new : Gives) (later : (k f m : ℕ) (c : Connection) → new k f m c → old k f m c) where
  same_later : (k f m : ℕ) (c : Connection) → new k f m c → old (k + 0) f m c
  same_later k f m c may = let same : k ≡ k + 0 = omega arith in subst (λ (n : ℕ). old n f m c) same (later k f m c may)

  outcome_same : (held other tries : ℕ) (last : Status) (frames : List (List ℕ)) (status : Status) → held ≡ other → IsOutcome new 0 held tries last frames status → IsOutcome old 0 other tries last frames status
  outcome_same held other tries last frames status is o = subst (λ (h : ℕ). IsOutcome old 0 h tries last frames status) is (outcome_shift old new 0 same_later held tries last frames status o)

-- one connection, and those behind it
one_more_made : (old new : Gives) → ((k f m : ℕ) (c : Connection) → new k f m c → old (k + 1) f m c) → (held tries left : ℕ) (last : Status) (m : Visit) (more : List (List ℕ)) (status : Status)
    → may_go_on last ≡ true → left + 1 ≡ tries → IsVisit old 0 held m → IsOutcome new 0 (held + length m.frames) left m.status more status → IsOutcome old 0 held tries last (m.frames ++ more) status
one_more_made old new later held tries left last m more status may size is o =
    let n : left ≡ tries - 1 = omega arith in
    let shifted = outcome_shift old new 1 later (held + length m.frames) left m.status more status o in
    record {
      visits = m ∷ shifted.visits;
      run = (may, omega arith, is, subst (λ (t : ℕ). AreVisits old 1 (held + length m.frames) t m.status shifted.visits) n shifted.run);
      frames_are = ap (λ (l : List (List ℕ)). m.frames ++ l) shifted.frames_are;
      status_is = shifted.status_is;
    }

-- ---- the magic

pub magic_short : (old : Connection → Type 0) (text : List ℕ) (failed : Bool) (status : Status) → length text < 4 → status ≡ unfinished failed → old (record { text = text; fails = failed }) → EndsAtMagic old status
magic_short old text failed status short is may = record { c = record { text = text; fails = failed }; may = may; reading = λ held. inl (record { short = short; none = refl; named = is }) }

pub magic_other : (old new : Connection → Type 0) (bytes : List ℕ) (c : Connection) → new c → GaveAll old new bytes → length bytes ≡ 4 → bytes ≢ codes "HSL1" → EndsAtMagic old Broken
magic_other old new bytes c may gave size other = record {
  c = behind bytes c;
  may = gave c may;
  reading = λ held. inr (inl (record { came = omega (arith, length-append bytes c.text, size); other = λ e. other (sym (take_at bytes c.text 4 size) ∙ e); none = refl; named = refl }));
}

-- ---- places

abbrev Rest : (old : Gives) → (Connection → Type 0) → (held tries count : ℕ) → List (List ℕ) → Status → Type 0
Rest old left held tries count frames status = (m : Visit) × IsRest left count (room_beside held) m × ((more : List (List ℕ)) × (frames ≡ m.frames ++ more) × IsOutcome old 0 (held + length m.frames) tries m.status more status)

pub ahead_closed : (gives : Gives) (left : Connection → Type 0) (p : ReaderState) (frames : List (List ℕ)) (status : Status) → p.is_open ≡ false → IsOutcome gives 0 p.held p.tries p.last frames status → IsAhead gives left p frames status
ahead_closed gives left p frames status is o = subst (λ (b : Bool). MatchBool b (Rest gives left p.held p.tries p.count frames status) (IsOutcome gives 0 p.held p.tries p.last frames status)) (sym is) o

pub closed_ahead : (gives : Gives) (left : Connection → Type 0) (p : ReaderState) (frames : List (List ℕ)) (status : Status) → p.is_open ≡ false → IsAhead gives left p frames status → IsOutcome gives 0 p.held p.tries p.last frames status
closed_ahead gives left p frames status is a = subst (λ (b : Bool). MatchBool b (Rest gives left p.held p.tries p.count frames status) (IsOutcome gives 0 p.held p.tries p.last frames status)) is a

pub ahead_open : (gives : Gives) (left : Connection → Type 0) (p : ReaderState) (frames : List (List ℕ)) (status : Status) → p.is_open ≡ true → Rest gives left p.held p.tries p.count frames status → IsAhead gives left p frames status
ahead_open gives left p frames status is r = subst (λ (b : Bool). MatchBool b (Rest gives left p.held p.tries p.count frames status) (IsOutcome gives 0 p.held p.tries p.last frames status)) (sym is) r

pub open_ahead : (gives : Gives) (left : Connection → Type 0) (p : ReaderState) (frames : List (List ℕ)) (status : Status) → p.is_open ≡ true → IsAhead gives left p frames status → Rest gives left p.held p.tries p.count frames status
open_ahead gives left p frames status is a = subst (λ (b : Bool). MatchBool b (Rest gives left p.held p.tries p.count frames status) (IsOutcome gives 0 p.held p.tries p.last frames status)) is a

-- ---- the next connection

no_frames : (old new : Gives) → ((k f m : ℕ) (c : Connection) → new k f m c → old (k + 1) f m c) → (held tries left : ℕ) (last : Status) (c : Connection) (ended : Status) (frames : List (List ℕ)) (status : Status)
    → may_go_on last ≡ true → left + 1 ≡ tries → old 0 held (4097 - held) c → IsReading held c.text c.fails [] ended → IsOutcome new 0 held left ended frames status → IsOutcome old 0 held tries last frames status
no_frames old new later held tries left last c ended frames status may size gave reading o =
    let same : held ≡ held + 0 = omega arith in
    one_more_made old new later held tries left last (record { connection = c; frames = []; status = ended }) frames status may size (record { gave = gave; reading = reading })
    (subst (λ (h : ℕ). IsOutcome new 0 h left ended frames status) same o)

-- from a closed place
module _ (old new : Gives) (old_left new_left : Connection → Type 0) (p q : ReaderState) (closed : p.is_open ≡ false) (may : may_go_on p.last ≡ true) (size : q.tries + 1 ≡ p.tries) (held : q.held ≡ p.held)
    (later : (k f m : ℕ) (c : Connection) → new k f m c → old (k + 1) f m c) where
  -- to a closed one, by a connection that gave no frame
  pub leads_on : (c : Connection) → old 0 p.held (4097 - p.held) c → IsReading p.held c.text c.fails [] q.last → q.is_open ≡ false → Leads old new old_left new_left p q []
  leads_on c gave reading shut = λ frames status a.
      let o : IsOutcome new 0 p.held q.tries q.last frames status = subst (λ (h : ℕ). IsOutcome new 0 h q.tries q.last frames status) held (closed_ahead new new_left q frames status shut a) in
      ahead_closed old old_left p frames status closed (no_frames old new later p.held p.tries q.tries p.last c q.last frames status may size gave reading o)

  -- to an open one, behind the magic
  pub leads_in : ((c : Connection) → new_left c → old 0 p.held (4097 - p.held) (behind (codes "HSL1") c)) → q.is_open ≡ true → q.count ≡ 0 → Leads old new old_left new_left p q []
  leads_in gave shown none = λ frames status a.
      let r = open_ahead new new_left q frames status shown a in
      let m = r.0 in
      let body : IsBody m.connection.fails 0 (room_beside p.held) m.connection.text m.frames m.status =
      subst (λ (h : ℕ). IsBody m.connection.fails 0 (room_beside h) m.connection.text m.frames m.status) held
      (subst (λ (n : ℕ). IsBody m.connection.fails n (room_beside q.held) m.connection.text m.frames m.status) none r.1.body) in
      let visits : Visit = record { connection = behind (codes "HSL1") m.connection; frames = m.frames; status = m.status } in
      let o : IsOutcome new 0 (p.held + length m.frames) q.tries m.status r.2.0 status = subst (λ (h : ℕ). IsOutcome new 0 (h + length m.frames) q.tries m.status r.2.0 status) held r.2.2 in
      ahead_closed old old_left p frames status closed
      (subst (λ (l : List (List ℕ)). IsOutcome old 0 p.held p.tries p.last l status) (sym r.2.1)
      (one_more_made old new later p.held p.tries q.tries p.last visits r.2.0 status may size
      (record {
        gave = gave m.connection r.1.may;
        reading = inr (inr (has_frames p.held (codes "HSL1" ++ m.connection.text) m.connection.fails m.frames m.status refl body));
      }) o))

-- ---- the open connection

module _ (old new : Gives) (old_left new_left : Connection → Type 0) (p q : ReaderState) (shown : p.is_open ≡ true) (later : (k f m : ℕ) (c : Connection) → new k f m c → old k f m c) (tries : q.tries ≡ p.tries) where
  -- it gives a frame
  pub leads_frame : (x : List ℕ) → 0 < room_beside p.held → IsPayload x → GaveAll old_left new_left (frame_text x) → q.is_open ≡ true → q.held ≡ p.held + 1 → q.count ≡ p.count + 1 → Leads old new old_left new_left p q (x ∷ [])
  leads_frame x some is gave still held count = λ frames status a.
      let r = open_ahead new new_left q frames status still a in
      let m = r.0 in
      let fails = m.connection.fails in
      let room : room_beside q.held ≡ room_beside p.held - 1 = omega arith in
      let body : IsBody fails (p.count + 1) (room_beside p.held - 1) m.connection.text m.frames m.status =
      subst (λ (n : ℕ). IsBody fails (p.count + 1) n m.connection.text m.frames m.status) room
      (subst (λ (n : ℕ). IsBody fails n (room_beside q.held) m.connection.text m.frames m.status) count r.1.body) in
      let here : Visit = record { connection = behind (frame_text x) m.connection; frames = x ∷ m.frames; status = m.status } in
      let sum : q.held + length m.frames ≡ p.held + length (x ∷ m.frames) = omega arith in
      let o : IsOutcome new 0 (p.held + length (x ∷ m.frames)) p.tries m.status r.2.0 status =
      subst (λ (h : ℕ). IsOutcome new 0 h p.tries m.status r.2.0 status) sum (subst (λ (t : ℕ). IsOutcome new 0 (q.held + length m.frames) t m.status r.2.0 status) tries r.2.2) in
      ahead_open old old_left p (x ∷ frames) status shown (
        here,
        record { may = gave m.connection r.1.may; body = body_more fails p.count (room_beside p.held) (frame_text x ++ m.connection.text) x m.connection.text m.frames m.status is refl some body },
        (r.2.0, ap (λ (l : List (List ℕ)). x ∷ l) r.2.1, outcome_same old new later (p.held + length (x ∷ m.frames)) (p.held + length (x ∷ m.frames)) p.tries m.status r.2.0 status refl o),
      )

  -- it ends
  pub leads_end : EndsBehind old_left [] p.count (room_beside p.held) q.last → q.is_open ≡ false → q.held ≡ p.held → Leads old new old_left new_left p q []
  leads_end e shut held = λ frames status a.
      let here : Visit = record { connection = e.c; frames = []; status = q.last } in
      let sum : q.held ≡ p.held + 0 = omega arith in
      let o : IsOutcome new 0 q.held p.tries q.last frames status = subst (λ (t : ℕ). IsOutcome new 0 q.held t q.last frames status) tries (closed_ahead new new_left q frames status shut a) in
      ahead_open old old_left p frames status shown (
        here,
        record { may = e.may; body = body_end e.c.fails p.count (room_beside p.held) e.c.text q.last e.ends },
        (frames, refl, outcome_same old new later q.held (p.held + 0) p.tries q.last frames status sum o),
      )

-- ---- one behind the other

pub leads_stay : (gives : Gives) (left : Connection → Type 0) (p : ReaderState) → Leads gives gives left left p p []
leads_stay gives left p = λ frames status a. a

pub leads_both : (g0 g1 g2 : Gives) (l0 l1 l2 : Connection → Type 0) (p q r : ReaderState) (front : List (List ℕ)) → Leads g0 g1 l0 l1 p q [] → Leads g1 g2 l1 l2 q r front → Leads g0 g2 l0 l2 p r front
leads_both g0 g1 g2 l0 l1 l2 p q r front a b = λ frames status ahead. a (front ++ frames) status (b frames status ahead)

-- ---- a connection that was opened

pub leads_entered : (old mid new : Gives) (mid_left old_left new_left : Connection → Type 0) (p q : ReaderState) (b : Bool) → q.is_open ≡ b → p.is_open ≡ false → may_go_on p.last ≡ true → q.tries + 1 ≡ p.tries → q.held ≡ p.held
    → ((k f m : ℕ) (c : Connection) → mid k f m c → old (k + 1) f m c) → ((k f m : ℕ) (c : Connection) → new k f m c → mid k f m c)
    → ((c : Connection) → mid_left c → old 0 p.held (4097 - p.held) c) → IsEntered mid_left new_left b q.count q.last → Leads old new old_left new_left p q []
leads_entered old mid new mid_left old_left new_left p q true is closed may size held later same opened entered =
    leads_in old new old_left new_left p q closed may size held (λ k f m c n. later k f m c (same k f m c n)) (λ c n. opened (behind (codes "HSL1") c) (entered.1 c n)) is entered.0
leads_entered old mid new mid_left old_left new_left p q false is closed may size held later same opened entered =
    leads_on old new old_left new_left p q closed may size held (λ k f m c n. later k f m c (same k f m c n)) entered.c (opened entered.c entered.may) (entered.reading p.held) is

pub leads_unopened : (old new : Gives) (old_left new_left : Connection → Type 0) (p q : ReaderState) → p.is_open ≡ false → may_go_on p.last ≡ true → q.tries + 1 ≡ p.tries → q.held ≡ p.held
    → ((k f m : ℕ) (c : Connection) → new k f m c → old (k + 1) f m c) → old 0 p.held (4097 - p.held) failing → q.is_open ≡ false → q.last ≡ Failed → Leads old new old_left new_left p q []
leads_unopened old new old_left new_left p q closed may size held later refused shut last =
    leads_on old new old_left new_left p q closed may size held later failing refused (inl (record { short = omega arith; none = refl; named = last })) shut

-- ---- the end

pub fetched_at : (old new : Gives) (old_left new_left : Connection → Type 0) (p q : ReaderState) (frames : List (List ℕ)) → p.is_open ≡ false → Leads old new old_left new_left p q frames → IsEnd q → IsOutcome old 0 p.held p.tries p.last frames q.last
fetched_at old new old_left new_left p q frames closed leads end =
    let now : IsAhead new new_left q [] q.last = ahead_closed new new_left q [] q.last end.closed (record { visits = []; run = end.last; frames_are = refl; status_is = refl }) in
    subst (λ (l : List (List ℕ)). IsOutcome old 0 p.held p.tries p.last l q.last) (append-nil frames) (closed_ahead old old_left p (frames ++ []) q.last closed (leads [] q.last now))

pub leads_then : (g0 g1 g2 : Gives) (l0 l1 l2 : Connection → Type 0) (p q r : ReaderState) (front next : List (List ℕ)) → Leads g0 g1 l0 l1 p q front → Leads g1 g2 l1 l2 q r next → Leads g0 g2 l0 l2 p r (front ++ next)
leads_then g0 g1 g2 l0 l1 l2 p q r front next a b = λ frames status ahead.
    subst (λ (l : List (List ℕ)). IsAhead g0 l0 p l status) (sym (append_assoc front next frames)) (a (next ++ frames) status (b frames status ahead))

pub fetched_end : (g0 g1 g2 : Gives) (l0 l1 l2 : Connection → Type 0) (p q r : ReaderState) (frames : List (List ℕ)) (status : Status) → p.is_open ≡ false → Leads g0 g1 l0 l1 p q frames → Leads g1 g2 l1 l2 q r [] → IsEnd r → status ≡ r.last → IsOutcome g0 0 p.held p.tries p.last frames status
fetched_end g0 g1 g2 l0 l1 l2 p q r frames status closed a b end is =
    subst (λ (s : Status). IsOutcome g0 0 p.held p.tries p.last frames s) (sym is)
    (fetched_at g0 g2 l0 l2 p r frames closed (subst (λ (l : List (List ℕ)). Leads g0 g2 l0 l2 p r l) (append-nil frames) (leads_then g0 g1 g2 l0 l1 l2 p q r frames [] a b)) end)

-- ---- something comes of every source

module _ (gives : Gives) (next : (k f m : ℕ) → GivesSome (gives k f m)) where
  abbrev SomeOutcome : (k held tries : ℕ) (last : Status) → Type 0
  SomeOutcome k held tries last = (frames : List (List ℕ)) × (status : Status) × IsOutcome gives k held tries last frames status

  stops : (k held tries : ℕ) (last : Status) → (may_go_on last ≡ true → tries ≡ 0) → SomeOutcome k held tries last
  stops k held tries last end = ([], last, record { visits = []; run = end; frames_are = refl; status_is = refl })

  goes : (k held tries : ℕ) (last : Status) → ((k held : ℕ) (last : Status) → SomeOutcome k held tries last) → may_go_on last ≡ true → SomeOutcome k held (suc tries) last
  goes k held tries last more may =
      let given = next k held (4097 - held) in
      let reading = a_reading held given.c.text given.c.fails given.bytes in
      let m : Visit = record { connection = given.c; frames = reading.0.frames; status = reading.0.status } in
      let later = more (k + 1) (held + length m.frames) m.status in
      let o = later.2 in
      let same : tries ≡ suc tries - 1 = omega arith in (
        m.frames ++ later.0,
        later.1,
        record {
          visits = m ∷ o.visits;
          run = (may, omega arith, record { gave = given.is; reading = reading.1 }, subst (λ (t : ℕ). AreVisits gives (k + 1) (held + length m.frames) t m.status o.visits) same o.run);
          frames_are = ap (λ (l : List (List ℕ)). m.frames ++ l) o.frames_are;
          status_is = o.status_is;
        },
      )

  some_outcome : (tries k held : ℕ) (last : Status) → SomeOutcome k held tries last
  some_outcome zero k held last = stops k held zero last (λ may. refl)
  some_outcome (suc tries) k held Whole = stops k held (suc tries) Whole (λ may. absurd (false≢true may))
  some_outcome (suc tries) k held Broken = stops k held (suc tries) Broken (λ may. absurd (false≢true may))
  some_outcome (suc tries) k held TooLong = stops k held (suc tries) TooLong (λ may. absurd (false≢true may))
  some_outcome (suc tries) k held Cut = goes k held tries Cut (some_outcome tries) refl
  some_outcome (suc tries) k held Failed = goes k held tries Failed (some_outcome tries) refl

  abbrev SomeAhead : (left : Connection → Type 0) (p : ReaderState) → Type 0
  SomeAhead left p = (frames : List (List ℕ)) × (status : Status) × IsAhead gives left p frames status

  some_ahead : (left : Connection → Type 0) (p : ReaderState) → GivesSome left → SomeAhead left p
  some_ahead left p some = by_open p.is_open refl
    where
      by_open : (b : Bool) → p.is_open ≡ b → SomeAhead left p
      by_open false shut = let o = some_outcome p.tries 0 p.held p.last in (o.0, o.1, ahead_closed gives left p o.0 o.1 shut o.2)
      by_open true shown =
          let body = body_found some.c.fails p.count (room_beside p.held) some.c.text some.bytes in
          let m : Visit = record { connection = some.c; frames = body.0.frames; status = body.0.status } in
          let o = some_outcome p.tries 0 (p.held + length m.frames) m.status in
          (m.frames ++ o.0, o.1, ahead_open gives left p (m.frames ++ o.0) o.1 shown (m, record { may = some.is; body = body.1 }, (o.0, refl, o.2)))

-- of the place before, these frames and more
pub record IsSomeLog (gives : Gives) (p : ReaderState) (front : List (List ℕ)) : Type 0 where
  pub more : List (List ℕ)
  pub status : Status
  pub outcome : IsOutcome gives 0 p.held p.tries p.last (front ++ more) status

pub some_log : (old new : Gives) (old_left new_left : Connection → Type 0) (p q : ReaderState) (front : List (List ℕ)) → p.is_open ≡ false → Leads old new old_left new_left p q front
    → GivesSome new_left → ((k f m : ℕ) → GivesSome (new k f m)) → IsSomeLog old p front
some_log old new old_left new_left p q front closed leads some next =
    let a = some_ahead new next new_left q some in
    record { more = a.0; status = a.1; outcome = closed_ahead old old_left p (front ++ a.0) a.1 closed (leads a.0 a.1 a.2) }
