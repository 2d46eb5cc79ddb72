-- A desk keeps what it keeps, step by step.
use Rattle.std.proofs.Common.{◌≡◌, ◌≢◌, ◌↔◌, inl, inr, ⊎_elim, ℕ, ◌≤◌, Bool, true, false, List, [], ◌∷◌, ◌++◌, length, drop, Option, IfSome, IsSome, refl, sym, ap, subst, ◌∙◌, arith}
use Rattle.std.proofs.lemmas.Bool.{false≢true}
use Rattle.std.proofs.lemmas.List.Elements.{All-push}
use Rattle.std.specs.List.{All}
use Rattle.blocks.specs.Headers.{Header, IsGenesis}
use Rattle.blocks.specs.Genesis.{genesis_of}
use Rattle.blocks.specs.Chains.{AllIn}
use Rattle.blocks.proofs.Runs.{onward}
use Rattle.blocks.specs.Replica.{Timeout, timed_out, IsAllowed, ReplicaState, Stored, after}
use Rattle.blocks.specs.Replay.{FitsOpening, IsLegal, durable_of, event_on, replay}
use Rattle.replica_core.specs.declared.plan.Act.{Act}
use Rattle.replica_core.specs.declared.plan.Act.TheVariants as act
use Rattle.replica_core.specs.declared.plan.Plan.{Plan}
use Rattle.replica_core.specs.Cores.{Core, restarted_with}
use Rattle.lmots.specs.declared.keys.PrivateSeed.{PrivateSeed}
use Rattle.std.proofs.Math.Seq.{drop-length}
use Rattle.replica_core.specs.Plans.{HoldsAlso, IsActOn, IsPlan, TakesEvent, event_of}
use Rattle.key_index_store.specs.State.{IndexState}
use Rattle.stable_log.proofs.Told.{some_if, if_some}
use Rattle.stable_log.specs.Crash.{LeavesOnly}
use Rattle.log_format.specs.EntryText.{Entry, IsEntry, stored_in}
use Rattle.vote_log.specs.Logs.{AddsEntry, AreListed, IsLogBeforeOrAfter, LeavesEntries, LogState, StandsForEntries, steps_of}
use Rattle.vote_log.proofs.LogLaws.{steps_push}
use Rattle.vote_desk.specs.declared.desk_error.DeskError.{DeskError}
use Rattle.vote_desk.specs.declared.desk_error.DeskError.TheVariants as error
use Rattle.vote_desk.specs.Deliveries.{IsLeftWith, act_on, planned_entry}
use Rattle.vote_desk.specs.Desks.{AreRising, DeskView, IsFittingImage, AreKeysOf, KeepsDesk, KeepsEntries, KeepsList, indices_in, vote_count}
use Rattle.vote_desk.proofs.Lists.{attached, fits_none, fits_push, length_listed, long_enough, rising_above}
use Rattle.vote_desk.proofs.Keeping.{all_kept, entries_same, kept_held, kept_stored, legal_next, told_before}

-- ---- refusals

pub by_device : (e : DeskError) (P : Type 0) → (e ≡ error.Device → P) → (e ≢ error.Device → P) → P
by_device error.Device P failed other = failed refl
by_device error.Memory P failed other = other (λ h. cc)
by_device (error.Core r) P failed other = other (λ h. cc)
by_device error.KeySpent P failed other = other (λ h. cc)
by_device error.LogFull P failed other = other (λ h. cc)
by_device error.Stopped P failed other = other (λ h. cc)
by_device error.ReceiptMismatch P failed other = other (λ h. cc)

-- ---- plans

same_event : (voted : Bool) (b : Header) (ps : List Header) → event_of (act_on voted) b ps ≡ event_on voted b ps
same_event true b ps = refl
same_event false b ps = refl

pub allowed_on : (genesis : Header) (s : ReplicaState) (b : Header) (ps : List Header) (voted : Bool) → IsActOn genesis s b ps (act_on voted) → IsAllowed genesis s (event_on voted b ps)
allowed_on genesis s b ps true on = on
allowed_on genesis s b ps false on = on.1

pub root_of : (committee : List ℕ) (g : Header) → g ≡ genesis_of committee → IsGenesis g
root_of committee g is = subst IsGenesis (sym is) (record { view = refl; parent_view = refl })

module _ {D : Type 0} (bytes : D → Option (List ℕ)) (images : D → List ℕ → Type 0) (committee : List ℕ) (replica : ℕ) (opening : List Stored) (old : DeskView D) (keeps : KeepsDesk bytes images committee replica opening old) where
  root : IsGenesis old.core.genesis
  root = root_of committee old.core.genesis keeps.genesis

  -- the entry of a plan may follow
  pub plan_is_legal : (plan : Plan) (voted : Bool) → IsPlan old.core plan → plan.act ≡ act_on voted → IsLegal old.log.genesis (old.log.steps ++ planned_entry plan voted ∷ [])
  plan_is_legal plan voted k is =
      let x : Stored = planned_entry plan voted in
      let on = allowed_on old.core.genesis old.core.state plan.block (plan.parent ∷ k.below) voted (subst (λ (a : Act). IsActOn old.core.genesis old.core.state plan.block (plan.parent ∷ k.below) a) is k.act) in
      subst (λ (g : Header). IsLegal g (old.log.steps ++ x ∷ [])) (sym keeps.list.one_genesis)
      (legal_next opening old.core old.log.genesis old.log.steps old.released x k.below root keeps.list on)

  -- the block of a plan is held, and the state stays
  pub keeps_held : (new : Core) (plan : Plan) → IsPlan old.core plan → HoldsAlso old.core.headers new.headers plan.block → new.genesis ≡ old.core.genesis → new.state ≡ old.core.state
      → KeepsDesk bytes images committee replica opening (record { core = new; seeds = old.seeds; indices = old.indices; log = old.log; released = old.released })
  keeps_held new plan k holds same state =
      let into : AllIn new.headers old.core.headers = all_kept old.core.headers new.headers old.core plan.block holds k.place refl in
      record {
        keys = keeps.keys;
        genesis = same ∙ keeps.genesis;
        list = kept_held opening old.core new old.log.genesis old.log.steps old.released keeps.list same into (ap durable_of state) (subst (λ (s : ReplicaState). s.stored_vote_view ≤ s.vote_view) (sym state) keeps.list.covers);
        entries = entries_same (bytes old.log.disk) (images old.log.disk) opening old.core.headers new.headers old.indices.mark old.indices.mark old.log keeps.entries into (omega arith);
      }

  -- the block of a plan to do nothing is held
  pub keeps_passed : (new : Core) (plan : Plan) → IsPlan old.core plan → plan.act ≡ act.Pass → HoldsAlso old.core.headers new.headers plan.block → new.genesis ≡ old.core.genesis → TakesEvent old.core plan new.state
      → KeepsDesk bytes images committee replica opening (record { core = new; seeds = old.seeds; indices = old.indices; log = old.log; released = old.released })
  keeps_passed new plan k is holds same takes =
      keeps_held new plan k holds same (takes k.below k.chain.is_chain ∙ ap (λ (a : Act). after old.core.state (event_of a plan.block (plan.parent ∷ k.below))) is)

  -- indices of as many keys
  still_keys : (indices : IndexState D) → indices.keys ≡ old.indices.keys → AreKeysOf committee replica old.seeds indices.keys
  still_keys indices same = subst (λ (n : ℕ). AreKeysOf committee replica old.seeds n) (sym same) keeps.keys

  -- more indices are given
  pub keeps_drawn : (indices : IndexState D) → old.indices.mark ≤ indices.mark → indices.keys ≡ old.indices.keys
      → KeepsDesk bytes images committee replica opening (record { core = old.core; seeds = old.seeds; indices = indices; log = old.log; released = old.released })
  keeps_drawn indices up same = record {
    keys = still_keys indices same;
    genesis = keeps.genesis;
    list = keeps.list;
    entries = entries_same (bytes old.log.disk) (images old.log.disk) opening old.core.headers old.core.headers old.indices.mark indices.mark old.log keeps.entries (λ h m. m) up;
  }

  -- the entry of a plan is stored, and the plan done
  pub keeps_stored : (new : Core) (log : LogState D) (indices : IndexState D) (released : ℕ) (plan : Plan) (voted : Bool) (e : Entry)
      → IsPlan old.core plan → plan.act ≡ act_on voted → stored_in e ≡ planned_entry plan voted → IsEntry e
      → AddsEntry bytes old.log log e → log.genesis ≡ old.log.genesis → IfSome (bytes old.log.disk) (λ _. LeavesEntries (images log.disk) (old.log.entries ++ e ∷ [])) → IsSome (bytes log.disk) ↔ IsSome (bytes old.log.disk)
      → HoldsAlso old.core.headers new.headers plan.block → new.genesis ≡ old.core.genesis → TakesEvent old.core plan new.state
      → ((n : ℕ) → n ≤ length old.log.entries → AreRising old.indices.mark (indices_in (drop n old.log.entries)) → AreRising indices.mark (indices_in (drop n (old.log.entries ++ e ∷ []))))
      → (length opening ≤ length old.log.steps → vote_count (drop (length opening) (old.log.steps ++ planned_entry plan voted ∷ [])) ≡ released)
      → indices.keys ≡ old.indices.keys
      → KeepsDesk bytes images committee replica opening (record { core = new; seeds = old.seeds; indices = indices; log = log; released = released })
  keeps_stored new log indices released plan voted e k is stored entry adds one durable tells holds same takes rising count as_many =
      let x : Stored = planned_entry plan voted in
      let into : AllIn new.headers old.core.headers = all_kept old.core.headers new.headers old.core plan.block holds k.place refl in
      let on = allowed_on old.core.genesis old.core.state plan.block (plan.parent ∷ k.below) voted (subst (λ (a : Act). IsActOn old.core.genesis old.core.state plan.block (plan.parent ∷ k.below) a) is k.act) in
      let state : new.state ≡ after old.core.state (event_on voted plan.block (plan.parent ∷ k.below)) =
      takes k.below k.chain.is_chain ∙ ap (λ (a : Act). after old.core.state (event_of a plan.block (plan.parent ∷ k.below))) is ∙ ap (after old.core.state) (same_event voted plan.block (plan.parent ∷ k.below)) in
      let long : length opening ≤ length old.log.steps = long_enough opening old.log.steps keeps.list.fits.more keeps.list.fits.begins in
      let list : KeepsList opening new old.log.genesis (old.log.steps ++ x ∷ []) released =
      kept_stored opening old.core new old.log.genesis old.log.steps old.released released x k.below root keeps.list on k.chain same into state (count long) in
      let steps : log.steps ≡ old.log.steps ++ x ∷ [] = adds.steps ∙ ap (λ (y : Stored). old.log.steps ++ y ∷ []) stored in
      record {
        keys = still_keys indices as_many;
        genesis = same ∙ keeps.genesis;
        list = subst (λ (g : Header). KeepsList opening new g log.steps released) (sym one) (subst (λ (l : List Stored). KeepsList opening new old.log.genesis l released) (sym steps) list);
        entries = some_if (bytes log.disk) (λ _. KeepsEntries (images log.disk) opening new.headers indices.mark log) (λ bs told.
            let b = told_before (bytes log.disk) (bytes old.log.disk) bs tells told in
            let before = if_some (bytes old.log.disk) (λ _. KeepsEntries (images old.log.disk) opening old.core.headers old.indices.mark old.log) b.0 keeps.entries b.1 in
            let entries = if_some (bytes old.log.disk) (λ _. log.entries ≡ old.log.entries ++ e ∷ []) b.0 adds.entries b.1 in
            let leaves = if_some (bytes old.log.disk) (λ _. LeavesEntries (images log.disk) (old.log.entries ++ e ∷ [])) b.0 durable b.1 in
            let same_length = length_listed old.log.entries old.log.steps before.listed.same in
            let now : LeavesEntries (images log.disk) log.entries = subst (λ (l : List Entry). LeavesEntries (images log.disk) l) (sym entries) leaves in
            record {
              listed = record {
                each = subst (λ (l : List Entry). All IsEntry l) (sym entries) (All-push IsEntry old.log.entries e before.listed.each entry);
                same = adds.steps ∙ ap (λ (l : List Stored). l ++ stored_in e ∷ []) before.listed.same ∙ sym (steps_push old.log.entries e) ∙ ap steps_of (sym entries);
              };
              indices_rise = subst (λ (l : List Entry). AreRising indices.mark (indices_in (drop (length opening) l))) (sym entries) (rising (length opening) (omega arith) before.indices_rise);
              images_fit = λ image i. inl (now image i);
              durable = λ _. now;
            });
      }

  -- the entry of a plan is perhaps stored: a disk failed
  pub keeps_failed : (log : LogState D) (indices : IndexState D) (plan : Plan) (voted : Bool) (e : Entry) (moment : D → ℕ) (images_since : D → ℕ → List ℕ → Type 0)
      → IsPlan old.core plan → plan.act ≡ act_on voted → stored_in e ≡ planned_entry plan voted → IsEntry e
      → ((d : D) (t : ℕ) (image : List ℕ) → t ≤ moment d → images d image → images_since d t image)
      → log.entries ≡ old.log.entries → log.steps ≡ old.log.steps → log.genesis ≡ old.log.genesis → log.stopped ≡ true → IsSome (bytes log.disk) ↔ IsSome (bytes old.log.disk)
      → IfSome (bytes old.log.disk) (λ _. LeavesOnly moment images_since old.log.disk log.disk (IsLogBeforeOrAfter old.log.entries e))
      → old.indices.mark ≤ indices.mark → indices.keys ≡ old.indices.keys
      → KeepsDesk bytes images committee replica opening (record { core = old.core; seeds = old.seeds; indices = indices; log = log; released = old.released })
  keeps_failed log indices plan voted e moment images_since k is stored entry counts entries steps one stopped tells run up as_many =
      let x : Stored = planned_entry plan voted in
      let core = old.core in
      let on = allowed_on core.genesis core.state plan.block (plan.parent ∷ k.below) voted (subst (λ (a : Act). IsActOn core.genesis core.state plan.block (plan.parent ∷ k.below) a) is k.act) in
      let legal : IsLegal core.genesis (old.log.steps ++ x ∷ []) = legal_next opening core old.log.genesis old.log.steps old.released x k.below root keeps.list on in
      let fits : FitsOpening core.headers core.genesis opening (old.log.steps ++ x ∷ []) =
      fits_push core.headers core.genesis opening old.log.steps x keeps.list.fits legal (attached core.headers core.genesis x k.below root k.chain.is_chain k.chain.held) in
      let fits_log : FitsOpening core.headers log.genesis opening (log.steps ++ stored_in e ∷ []) =
      subst (λ (g : Header). FitsOpening core.headers g opening (log.steps ++ stored_in e ∷ [])) (sym (one ∙ keeps.list.one_genesis))
      (subst (λ (l : List Stored). FitsOpening core.headers core.genesis opening (l ++ stored_in e ∷ [])) (sym steps)
      (subst (λ (y : Stored). FitsOpening core.headers core.genesis opening (old.log.steps ++ y ∷ [])) (sym stored) fits)) in
      record {
        keys = still_keys indices as_many;
        genesis = keeps.genesis;
        list = subst (λ (g : Header). KeepsList opening core g log.steps old.released) (sym one) (subst (λ (l : List Stored). KeepsList opening core old.log.genesis l old.released) (sym steps) keeps.list);
        entries = some_if (bytes log.disk) (λ _. KeepsEntries (images log.disk) opening core.headers indices.mark log) (λ bs told.
            let b = told_before (bytes log.disk) (bytes old.log.disk) bs tells told in
            let before = if_some (bytes old.log.disk) (λ _. KeepsEntries (images old.log.disk) opening core.headers old.indices.mark old.log) b.0 keeps.entries b.1 in
            let leaves = if_some (bytes old.log.disk) (λ _. LeavesOnly moment images_since old.log.disk log.disk (IsLogBeforeOrAfter old.log.entries e)) b.0 run b.1 in
            record {
              listed = record {
                each = subst (λ (l : List Entry). All IsEntry l) (sym entries) before.listed.each;
                same = steps ∙ before.listed.same ∙ ap steps_of (sym entries);
              };
              indices_rise = subst (λ (l : List Entry). AreRising indices.mark (indices_in (drop (length opening) l))) (sym entries)
                  (rising_above old.indices.mark indices.mark (indices_in (drop (length opening) old.log.entries)) up before.indices_rise);
              images_fit = λ image i. one_of image (leaves.each image (counts log.disk (moment old.log.disk) image leaves.later i)) fits_log;
              durable = λ running. absurd (false≢true (sym running ∙ stopped));
            });
      }
    where
      one_of : (image : List ℕ) → IsLogBeforeOrAfter old.log.entries e image → FitsOpening old.core.headers log.genesis opening (log.steps ++ stored_in e ∷ []) → IsFittingImage old.core.headers opening log image
      one_of image (inl s) fits = inl (subst (λ (l : List Entry). StandsForEntries image l) (sym entries) s)
      one_of image (inr s) fits = inr (e, entry, subst (λ (l : List Entry). StandsForEntries image (l ++ e ∷ [])) (sym entries) s, fits)

  pub keeps_refused : (new : Core) (log : LogState D) (plan : Plan) (voted : Bool) (e : Entry) (refusal : DeskError) (moment : D → ℕ) (images_since : D → ℕ → List ℕ → Type 0)
      → IsPlan old.core plan → plan.act ≡ act_on voted → stored_in e ≡ planned_entry plan voted → IsEntry e
      → ((d : D) (t : ℕ) (image : List ℕ) → t ≤ moment d → images d image → images_since d t image)
      → new ≡ old.core → log.genesis ≡ old.log.genesis → IsSome (bytes log.disk) ↔ IsSome (bytes old.log.disk)
      → (refusal ≡ error.Device → (log.entries ≡ old.log.entries) × (log.steps ≡ old.log.steps) × (log.stopped ≡ true))
      → (refusal ≢ error.Device → log ≡ old.log)
      → IfSome (bytes old.log.disk) (λ _. LeavesOnly moment images_since old.log.disk log.disk (IsLogBeforeOrAfter old.log.entries e))
      → KeepsDesk bytes images committee replica opening (record { core = new; seeds = old.seeds; indices = old.indices; log = log; released = old.released })
  keeps_refused new log plan voted e refusal moment images_since k is stored entry counts core one tells device other run =
      let Now : Core → LogState D → Type 0 = λ c l. KeepsDesk bytes images committee replica opening (record { core = c; seeds = old.seeds; indices = old.indices; log = l; released = old.released }) in
      subst (λ (c : Core). Now c log) (sym core)
      (by_device refusal (Now old.core log)
      (λ d. let after = device d in keeps_failed log old.indices plan voted e moment images_since k is stored entry counts after.0 after.1 one after.2 tells run (omega arith) refl)
      (λ n. subst (λ (l : LogState D). Now old.core l) (sym (other n)) keeps))

  -- the vote view rises
  pub keeps_timed_out : (new : Core) (view : ℕ) → new ≡ (record { genesis = old.core.genesis; state = timed_out old.core.state view; headers = old.core.headers; room = old.core.room })
      → KeepsDesk bytes images committee replica opening (record { core = new; seeds = old.seeds; indices = old.indices; log = old.log; released = old.released })
  keeps_timed_out new view is =
      let later : Core = record { genesis = old.core.genesis; state = timed_out old.core.state view; headers = old.core.headers; room = old.core.room } in
      subst (λ (c : Core). KeepsDesk bytes images committee replica opening (record { core = c; seeds = old.seeds; indices = old.indices; log = old.log; released = old.released })) (sym is)
      (record {
        keys = keeps.keys;
        genesis = keeps.genesis;
        list = kept_held opening old.core later old.log.genesis old.log.steps old.released keeps.list refl (λ h m. m) refl (onward old.core.genesis old.core.state (Timeout view) keeps.list.covers tt).order;
        entries = keeps.entries;
      })

  -- while nothing is called a crash leaves the list
  pub unmoved : (moment : D → ℕ) (images_since : D → ℕ → List ℕ → Type 0) (P : List ℕ → Type 0) → ((image : List ℕ) → images_since old.log.disk (moment old.log.disk) image → images old.log.disk image) → old.log.stopped ≡ false
      → ((image : List ℕ) → StandsForEntries image old.log.entries → P image) → IfSome (bytes old.log.disk) (λ _. LeavesOnly moment images_since old.log.disk old.log.disk P)
  unmoved moment images_since P only_now running stands =
      some_if (bytes old.log.disk) (λ _. LeavesOnly moment images_since old.log.disk old.log.disk P) (λ bs told.
      let before = if_some (bytes old.log.disk) (λ _. KeepsEntries (images old.log.disk) opening old.core.headers old.indices.mark old.log) bs keeps.entries told in
      record {
        later = omega arith;
        each = λ image left. stands image (before.durable running image (only_now image left));
        before = λ t image le left. inl left;
      })

  -- and leaves it now
  pub leaves_list : old.log.stopped ≡ false → IfSome (bytes old.log.disk) (λ _. LeavesEntries (images old.log.disk) old.log.entries)
  leaves_list running =
      some_if (bytes old.log.disk) (λ _. LeavesEntries (images old.log.disk) old.log.entries) (λ bs told.
      let before = if_some (bytes old.log.disk) (λ _. KeepsEntries (images old.log.disk) opening old.core.headers old.indices.mark old.log) bs keeps.entries told in
      before.durable running)

-- what a crash leaves at most it leaves
weaker_run : {D : Type 0} (moment : D → ℕ) (images_since : D → ℕ → List ℕ → Type 0) (a b : D) (P Q : List ℕ → Type 0) → ((image : List ℕ) → P image → Q image) → LeavesOnly moment images_since a b P → LeavesOnly moment images_since a b Q
weaker_run moment images_since a b P Q by run = record {
  later = run.later;
  each = λ image left. by image (run.each image left);
  before = λ t image le left. ⊎_elim (λ o. inl o) (λ p. inr (by image p)) (run.before t image le left);
}

pub weaker : {D : Type 0} (told : Option (List ℕ)) (moment : D → ℕ) (images_since : D → ℕ → List ℕ → Type 0) (a b : D) (P Q : List ℕ → Type 0) → ((image : List ℕ) → P image → Q image)
    → IfSome told (λ _. LeavesOnly moment images_since a b P) → IfSome told (λ _. LeavesOnly moment images_since a b Q)
weaker told moment images_since a b P Q by run =
    some_if told (λ _. LeavesOnly moment images_since a b Q) (λ bs is. weaker_run moment images_since a b P Q by (if_some told (λ _. LeavesOnly moment images_since a b P) bs run is))

pub left_with : (entries : List Entry) (e : Entry) → IsEntry e → (image : List ℕ) → IsLogBeforeOrAfter entries e image → IsLeftWith entries e image
left_with entries e entry image (inl s) = inl s
left_with entries e entry image (inr s) = inr (entry, s)

-- ---- opening

none_rising : (mark : ℕ) → AreRising mark []
none_rising mark = record { rise = λ j k d l m. absurd (omega arith); below = λ k d l. absurd (omega arith) }

pub keeps_opened : {D : Type 0} (bytes : D → Option (List ℕ)) (images : D → List ℕ → Type 0) (committee : List ℕ) (replica : ℕ) (opening : List Stored) (core : Core) (seeds : List PrivateSeed) (indices : IndexState D) (log : LogState D)
    → AreKeysOf committee replica seeds indices.keys → log.steps ≡ opening → IfSome (bytes log.disk) (λ _. LeavesEntries (images log.disk) log.entries) → log.genesis ≡ genesis_of committee → IsLegal log.genesis log.steps
    → IfSome (bytes log.disk) (λ _. AreListed log.entries log.steps) → core.genesis ≡ genesis_of committee → core.state ≡ restarted_with (replay (genesis_of committee) log.steps)
    → KeepsDesk bytes images committee replica opening (record { core = core; seeds = seeds; indices = indices; log = log; released = 0 })
keeps_opened bytes images committee replica opening core seeds indices log keys is durable chain legal listed genesis state =
    let one : log.genesis ≡ core.genesis = chain ∙ sym genesis in
    let legal_here : IsLegal core.genesis log.steps = subst (λ (g : Header). IsLegal g log.steps) one legal in
    let none : drop (length opening) log.steps ≡ [] = ap (λ (l : List Stored). drop (length l) log.steps) (sym is) ∙ drop-length log.steps in
    record {
      keys = keys;
      genesis = genesis;
      list = record {
        one_genesis = one;
        fits = subst (λ (l : List Stored). FitsOpening core.headers core.genesis l log.steps) is (fits_none core.headers core.genesis log.steps legal_here);
        replayed = ap (λ (g : Header). replay g log.steps) genesis ∙ sym (ap durable_of state);
        covers = subst (λ (s : ReplicaState). s.stored_vote_view ≤ s.vote_view) (sym state) (omega arith);
        counted = ap vote_count none;
      };
      entries = some_if (bytes log.disk) (λ _. KeepsEntries (images log.disk) opening core.headers indices.mark log) (λ bs told.
          let leaves = if_some (bytes log.disk) (λ _. LeavesEntries (images log.disk) log.entries) bs durable told in
          let are = if_some (bytes log.disk) (λ _. AreListed log.entries log.steps) bs listed told in
          let long : length opening ≡ length log.entries = sym (ap (λ (l : List Stored). length l) is) ∙ sym (length_listed log.entries log.steps are.same) in
          let behind : drop (length opening) log.entries ≡ [] = ap (λ (n : ℕ). drop n log.entries) long ∙ drop-length log.entries in
          record {
            listed = are;
            indices_rise = subst (λ (l : List Entry). AreRising indices.mark (indices_in l)) (sym behind) (none_rising indices.mark);
            images_fit = λ image i. inl (leaves image i);
            durable = λ _. leaves;
          });
    }
