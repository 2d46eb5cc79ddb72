-- What a desk keeps, from one call to the next.
use Rattle.std.proofs.Common.{◌≡◌, ◌⊎◌, ◌↔◌, inl, inr, ℕ, ◌≤◌, List, [], ◌∷◌, ◌++◌, length, drop, Option, Some, None, IfSome, IsSome, refl, sym, ap, subst, ◌∙◌}
use Rattle.std.proofs.lemmas.Bool.{false≢true}
use Rattle.std.proofs.lemmas.List.Elements.{Contains-append_left}
use Rattle.std.specs.List.{Contains}
use Rattle.blocks.specs.Headers.{Header, IsGenesis}
use Rattle.blocks.specs.Chains.{AllIn}
use Rattle.blocks.specs.Replica.{Event, IsAllowed, ReplicaState, Stored, after}
use Rattle.blocks.specs.Replay.{IsLegal, durable_of, event_on, replay, FitsOpening}
use Rattle.blocks.proofs.Runs.{onward}
use Rattle.replica_core.specs.Cores.{Core}
use Rattle.replica_core.specs.Plans.{HasRoomFor, HoldsAlso, IsChainOf}
use Rattle.stable_log.proofs.Told.{some_if, if_some}
use Rattle.log_format.specs.EntryText.{stored_in}
use Rattle.vote_log.specs.Logs.{LogState}
use Rattle.vote_log.proofs.LogLaws.{legal_more, replay_more}
use Rattle.vote_desk.specs.Desks.{IsFittingImage, KeepsEntries, KeepsList, indices_in, vote_count}
use Rattle.vote_desk.proofs.Lists.{rising_above, attached, fits_more, fits_push, legal_vote, replay_event}

-- ---- headers

pub all_kept : (old new : List Header) (c : Core) (b : Header) → HoldsAlso old new b → Contains old b ⊎ HasRoomFor c b → c.headers ≡ old → AllIn new old
all_kept old new c b holds (inl m) is = λ h i. subst (λ (hs : List Header). Contains hs h) (sym (holds.again m)) i
all_kept old new c b holds (inr room) is =
    let none : Contains old b → ⊥ = λ m. room.new_id b (subst (λ (hs : List Header). Contains hs b) (sym is) m) refl in
    λ h i. subst (λ (hs : List Header). Contains hs h) (sym (holds.first none)) (Contains-append_left old (b ∷ []) h i)

-- ---- the list

-- an entry may follow the list
pub legal_next : (opening : List Stored) (core : Core) (genesis : Header) (steps : List Stored) (released : ℕ) (x : Stored) (below : List Header)
    → IsGenesis core.genesis → KeepsList opening core genesis steps released → IsAllowed core.genesis core.state (event_on x.voted x.block (x.parent ∷ below)) → IsLegal core.genesis (steps ++ x ∷ [])
legal_next opening core genesis steps released x below root keeps allowed =
    legal_more core.genesis (durable_of core.state) steps x (sym keeps.replayed) keeps.fits.legal (legal_vote core.genesis core.state x.voted x.block x.parent below root keeps.covers allowed)

pub kept_stored : (opening : List Stored) (core new : Core) (genesis : Header) (steps : List Stored) (released released' : ℕ) (x : Stored) (below : List Header)
    → IsGenesis core.genesis → KeepsList opening core genesis steps released → IsAllowed core.genesis core.state (event_on x.voted x.block (x.parent ∷ below)) → IsChainOf core x.block (x.parent ∷ below)
    → new.genesis ≡ core.genesis → AllIn new.headers core.headers → new.state ≡ after core.state (event_on x.voted x.block (x.parent ∷ below)) → vote_count (drop (length opening) (steps ++ x ∷ [])) ≡ released'
    → KeepsList opening new genesis (steps ++ x ∷ []) released'
kept_stored opening core new genesis steps released released' x below root keeps allowed chain same into state count =
    let g = core.genesis in
    let event : Event = event_on x.voted x.block (x.parent ∷ below) in
    let legal : IsLegal g (steps ++ x ∷ []) = legal_next opening core genesis steps released x below root keeps allowed in
    let fits : FitsOpening new.headers g opening (steps ++ x ∷ []) =
    fits_more core.headers new.headers g opening (steps ++ x ∷ []) into (fits_push core.headers g opening steps x keeps.fits legal (attached core.headers g x below root chain.is_chain chain.held)) in
    let replayed : replay g (steps ++ x ∷ []) ≡ durable_of new.state =
    sym (replay_more g (durable_of core.state) steps x (sym keeps.replayed))
    ∙ replay_event g core.state x.voted x.block x.parent below root keeps.covers allowed ∙ ap durable_of (sym state) in
    record {
      one_genesis = keeps.one_genesis ∙ sym same;
      fits = subst (λ (h : Header). FitsOpening new.headers h opening (steps ++ x ∷ [])) (sym same) fits;
      replayed = subst (λ (h : Header). replay h (steps ++ x ∷ []) ≡ durable_of new.state) (sym same) replayed;
      covers = subst (λ (s : ReplicaState). s.stored_vote_view ≤ s.vote_view) (sym state) (onward g core.state event keeps.covers allowed).order;
      counted = count;
    }

-- no entry more, and the same lock and stored vote view
pub kept_held : (opening : List Stored) (core new : Core) (genesis : Header) (steps : List Stored) (released : ℕ)
    → KeepsList opening core genesis steps released → new.genesis ≡ core.genesis → AllIn new.headers core.headers → durable_of new.state ≡ durable_of core.state → new.state.stored_vote_view ≤ new.state.vote_view
    → KeepsList opening new genesis steps released
kept_held opening core new genesis steps released keeps same into durable covers = record {
  one_genesis = keeps.one_genesis ∙ sym same;
  fits = subst (λ (h : Header). FitsOpening new.headers h opening steps) (sym same) (fits_more core.headers new.headers core.genesis opening steps into keeps.fits);
  replayed = subst (λ (h : Header). replay h steps ≡ durable_of new.state) (sym same) (keeps.replayed ∙ sym durable);
  covers = covers;
  counted = keeps.counted;
}

-- ---- the entries, where the disk tells them

pub told_before : (now told : Option (List ℕ)) (bs : List ℕ) → IsSome now ↔ IsSome told → now ≡ Some bs → (x : List ℕ) × (told ≡ Some x)
told_before now (Some x) bs tells is = (x, refl)
told_before now None bs tells is =
    let some : IsSome now = subst IsSome (sym is) refl in
    absurd (false≢true (tells.0 some))

image_more : {D : Type 0} (hs new : List Header) (opening : List Stored) (log : LogState D) (image : List ℕ) → AllIn new hs → IsFittingImage hs opening log image → IsFittingImage new opening log image
image_more hs new opening log image into (inl s) = inl s
image_more hs new opening log image into (inr e) = inr (e.0, e.1, e.2, fits_more hs new log.genesis opening (log.steps ++ stored_in e.0 ∷ []) into e.3)

-- the same log, more headers and a mark that is no lower
pub entries_same : {D : Type 0} (told : Option (List ℕ)) (images : List ℕ → Type 0) (opening : List Stored) (hs new : List Header) (mark mark' : ℕ) (log : LogState D)
    → IfSome told (λ _. KeepsEntries images opening hs mark log) → AllIn new hs → mark ≤ mark' → IfSome told (λ _. KeepsEntries images opening new mark' log)
entries_same {D} told images opening hs new mark mark' log keeps into up =
    some_if told (λ _. KeepsEntries images opening new mark' log) (λ bs is.
    let k = if_some told (λ _. KeepsEntries images opening hs mark log) bs keeps is in
    record {
      listed = k.listed;
      indices_rise = rising_above mark mark' (indices_in (drop (length opening) log.entries)) up k.indices_rise;
      images_fit = λ image i. image_more hs new opening log image into (k.images_fit image i);
      durable = k.durable;
    })
