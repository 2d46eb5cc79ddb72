-- What comes of a source: as many frames as a log may have, each as long as a frame may be.
use Rattle.std.proofs.Common.{inl, inr, ℕ, ◌≤◌, ◌+◌, ◌-◌, List, [], ◌∷◌, length, sym, subst, arith}
use Rattle.std.specs.Prelude.{Bool}
use Rattle.std.specs.List.{All}
use Rattle.std.proofs.lemmas.List.{length-append}
use Rattle.std.proofs.lemmas.List.Elements.{All-append, All-nil}
use Rattle.base_wire.specs.Payloads.{IsPayload}
use Rattle.base_wire.specs.declared.limits.TheConstants.{MOST_ENTRIES}
use Rattle.log_format.specs.Readings.{IsReading}
use Rattle.log_format.specs.declared.status.Status.{Status}
use Rattle.log_format.specs.declared.status.Status.TheVariants.{Failed}
use Rattle.log_transfer.specs.Connections.{Connection}
use Rattle.log_transfer.specs.Places.{AreVisits, IsFetched, Visit, frames_of_visits}

-- frames that fit behind so many
record Fit (held : ℕ) (frames : List (List ℕ)) : Type 0 where
  sizes : All IsPayload frames
  few : held + length frames ≤ MOST_ENTRIES

none_fits : (held : ℕ) → held ≤ MOST_ENTRIES → Fit held []
none_fits held le = record { sizes = All-nil IsPayload; few = omega (arith, le) }

-- those of one stream
reading_fits : (held : ℕ) (stream : List ℕ) (failed : Bool) (frames : List (List ℕ)) (status : Status) → held ≤ MOST_ENTRIES → IsReading held stream failed frames status → Fit held frames
reading_fits held stream failed frames status le (inl before) = subst (Fit held) (sym before.none) (none_fits held le)
reading_fits held stream failed frames status le (inr (inl other)) = subst (Fit held) (sym other.none) (none_fits held le)
reading_fits held stream failed frames status le (inr (inr has)) = record { sizes = has.sizes; few = omega (arith, le, has.few) }

-- .. of all connections
visits_fit : (gives : ℕ → ℕ → ℕ → Connection → Type 0) (k held tries : ℕ) (status : Status) (visits : List Visit) → held ≤ MOST_ENTRIES → AreVisits gives k held tries status visits → Fit held (frames_of_visits visits)
visits_fit gives k held tries status [] le run = none_fits held le
visits_fit gives k held tries status (v ∷ vs) le run =
    let one = reading_fits held v.connection.text v.connection.fails v.frames v.status le run.2.reading in
    let others = visits_fit gives (k + 1) (held + length v.frames) (tries - 1) v.status vs one.few run.3 in
    let count = length-append v.frames (frames_of_visits vs) in
    record {
      sizes = All-append IsPayload v.frames (frames_of_visits vs) one.sizes others.sizes;
      few = omega (arith, others.few, count);
    }

pub fetched_fits : (gives : ℕ → ℕ → ℕ → Connection → Type 0) (tries : ℕ) (frames : List (List ℕ)) (status : Status) → IsFetched gives tries frames status → All IsPayload frames × (length frames ≤ MOST_ENTRIES)
fetched_fits gives tries frames status o =
    let fit = subst (Fit 0) (sym o.frames_are) (visits_fit gives 0 0 tries Failed o.visits (omega arith) o.run) in
    (fit.sizes, omega (arith, fit.few))
