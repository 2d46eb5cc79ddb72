-- What a delivery comes to.
use Rattle.std.proofs.Common.{◌≡◌, inl, inr, ℕ, ◌+◌, ◌<◌, Bool, true, false, cond, List, [], ◌∷◌, ◌++◌, length, Option, Some, None, IfSome, refl, sym, ap, subst, ◌∙◌, arith}
use Rattle.std.specs.Prelude.{slice_get}
use Rattle.std.proofs.lemmas.Bool.Decides.{nat_tests}
use Rattle.lmots.specs.declared.keys.PrivateSeed.{PrivateSeed}
use Rattle.blocks.specs.Headers.{Header, header_id}
use Rattle.blocks.specs.Chains.{IsChain}
use Rattle.blocks.specs.Genesis.{chain_id_of}
use Rattle.blocks.specs.Replica.{IsAllowed, ReplicaState, Stored, after}
use Rattle.blocks.specs.Replay.{IsLegal}
use Rattle.certificates.specs.BlockChecks.{CheckedBlock}
use Rattle.certificates.specs.Votes.{IsGoodVote}
use Rattle.replica_core.specs.declared.plan.Act.{Act}
use Rattle.replica_core.specs.declared.plan.Act.TheVariants as act
use Rattle.replica_core.specs.declared.plan.Plan.{Plan}
use Rattle.replica_core.specs.Admission.{IsAdmissible}
use Rattle.replica_core.specs.Cores.{Core, IsSameCore}
use Rattle.replica_core.specs.Plans.{HoldsAlso, IsActOn, IsPlan, TakesEvent, committed_of, event_of, is_three_chain}
use Rattle.key_index_store.specs.State.{IndexState}
use Rattle.stable_log.proofs.Told.{some_if, if_some}
use Rattle.log_format.specs.EntryText.{Entry, IsEntry}
use Rattle.log_format.specs.declared.entry.KeyedSignature.{KeyedSignature}
use Rattle.vote_log.specs.Logs.{AddsEntry, IsLogBeforeOrAfter, LeavesEntries, LogState}
use Rattle.vote_desk.specs.declared.desk_error.DeskError.{DeskError}
use Rattle.vote_desk.specs.declared.desk_error.DeskError.TheVariants as error
use Rattle.vote_desk.specs.declared.planned_block.PlannedBlock.{PlannedBlock}
use Rattle.vote_desk.specs.declared.reply.Answer.{Answer}
use Rattle.vote_desk.specs.declared.reply.Receipt.{Receipt}
use Rattle.vote_desk.specs.Deliveries.{CommitsIn, HasEffect, IsDelivered, IsLeftBy, IsLeftWith, IsLegalPlan, IsStored, Votes, act_of, entry_for, planned_entry, released_by, signed_in, vote_under}
use Rattle.vote_desk.specs.DeskRefusals.{Asks, IsDeskRefusal, IsPlanRefusal, IsRoomRefusal, IsRunning, IsStorageRefusal, Stores}
use Rattle.vote_desk.specs.Desks.{DeskView, KeepsDesk, index_of}
use Rattle.vote_desk.specs.Receipts.{IsReceiptOf}
use Rattle.vote_desk.proofs.Keeping.{legal_next}
use Rattle.vote_desk.proofs.Plans.{asks_to_store, planned_back}
use Rattle.vote_desk.proofs.Steps.{allowed_on, root_of}

-- a planned block that is this block has its plan
pub plan_is_of : (planned : PlannedBlock) (b : CheckedBlock) → planned.block ≡ b → planned.plan.block ≡ b.header
plan_is_of planned b is = planned.of_block ∙ ap (λ (x : CheckedBlock). x.header) is

-- a plan's entry is legal
pub plan_legal : {D : Type 0} (bytes : D → Option (List ℕ)) (images : D → List ℕ → Type 0) (committee : List ℕ) (replica : ℕ) (opening : List Stored) (old : DeskView D) → KeepsDesk bytes images committee replica opening old
    → (mid : Core) (plan : Plan) → IsSameCore old.core mid → IsPlan mid plan → IsLegalPlan old.core.genesis old.log.steps plan
plan_legal bytes images committee replica opening old keeps mid plan same k voted is =
    let planned = planned_back old.core mid plan plan.block same k refl in
    let on = allowed_on old.core.genesis old.core.state plan.block (plan.parent ∷ k.below) voted (subst (λ (a : Act). IsActOn old.core.genesis old.core.state plan.block (plan.parent ∷ k.below) a) is planned.act) in
    legal_next opening old.core old.log.genesis old.log.steps old.released (planned_entry plan voted) k.below (root_of committee old.core.genesis keeps.genesis) keeps.list on

allowed_of : (genesis : Header) (s : ReplicaState) (b : Header) (ps : List Header) (a : Act) → IsChain genesis b ps → IsActOn genesis s b ps a → IsAllowed genesis s (event_of a b ps)
allowed_of genesis s b ps act.Vote chain on = on
allowed_of genesis s b ps act.Raise chain on = on.1
allowed_of genesis s b ps act.Pass chain on = chain

pub delivered : {D : Type 0} (bytes : D → Option (List ℕ)) (committee : List ℕ) (replica : ℕ) (old mid new : DeskView D) (b : CheckedBlock) (plan : Plan) (answer : Answer)
    → IsSameCore old.core mid.core → IsPlan mid.core plan → plan.block ≡ b.header → plan.act ≡ act_of answer
    → HoldsAlso mid.core.headers new.core.headers plan.block → new.core.genesis ≡ mid.core.genesis → TakesEvent mid.core plan new.core.state → new.seeds ≡ old.seeds
    → HasEffect bytes committee replica old new b plan.parent answer → new.released ≡ old.released + released_by answer
    → IsDelivered bytes committee replica old new b (record { act = answer; committed = plan.committed })
delivered bytes committee replica old mid new b plan answer same k is acts holds genesis takes seeds effect released =
    let ps = plan.parent ∷ k.below in
    let planned = planned_back old.core mid.core plan b.header same k is in
    let on = subst (λ (a : Act). IsActOn old.core.genesis old.core.state b.header ps a) acts planned.act in
    record {
      parent = plan.parent;
      below = k.below;
      planned = record { chain = planned.chain; act = on; committed = planned.committed };
      takes = record {
        allowed = allowed_of old.core.genesis old.core.state b.header ps (act_of answer) planned.chain.is_chain on;
        leaves = takes k.below k.chain.is_chain ∙ ap (λ (s : ReplicaState). after s (event_of plan.act plan.block ps)) same.state
            ∙ ap (λ (a : Act). after old.core.state (event_of a plan.block ps)) acts ∙ ap (λ (h : Header). after old.core.state (event_of (act_of answer) h ps)) is;
      };
      holds = subst (λ (h : Header). HoldsAlso old.core.headers new.core.headers h) is (subst (λ (hs : List Header). HoldsAlso hs new.core.headers plan.block) same.headers holds);
      genesis = genesis ∙ same.genesis;
      seeds = seeds;
      effect = effect;
      released = released;
    }

-- ---- the commit

first_gap : (c q p : Header) → is_three_chain c q p ≡ true → p.view ≡ q.view + 1
first_gap c q p e = grind (arith, nat_tests)

second_gap : (c q p : Header) → is_three_chain c q p ≡ true → q.view ≡ c.view + 1
second_gap c q p e = grind (arith, nat_tests)

no_genesis : (c q p : Header) → is_three_chain c q p ≡ true → 0 < c.view
no_genesis c q p e = grind (arith, nat_tests)

if_some_id : (t : Bool) (id : List ℕ) (P : List ℕ → Type 0) → (t ≡ true → P id) → IfSome (cond t (Some id) None) P
if_some_id true id P h = h refl
if_some_id false id P h = tt

commits : (genesis b p : Header) (below : List Header) → IsChain genesis b (p ∷ below) → IfSome (committed_of (p ∷ below)) (CommitsIn genesis b)
commits genesis b p [] chain = tt
commits genesis b p (q ∷ []) chain = tt
commits genesis b p (q ∷ c ∷ cs) chain =
    if_some_id (is_three_chain c q p) (header_id c) (CommitsIn genesis b) (λ e. (p, q, c, cs, chain, first_gap c q p e, second_gap c q p e, no_genesis c q p e, refl))

pub committed_in : (old mid : Core) (plan : Plan) (b : Header) → IsSameCore old mid → IsPlan mid plan → plan.block ≡ b → IfSome plan.committed (CommitsIn old.genesis b)
committed_in old mid plan b same k is =
    let planned = planned_back old mid plan b same k is in
    subst (λ (o : Option (List ℕ)). IfSome o (CommitsIn old.genesis b)) (sym planned.committed) (commits old.genesis b plan.parent k.below planned.chain.is_chain)

-- ---- refusals

pub asks_for : {D : Type 0} (d : DeskView D) (mid : Core) (plan : Plan) (b : Header) (a : Act) → IsRunning d → IsAdmissible d.core b → IsSameCore d.core mid → IsPlan mid plan → plan.block ≡ b → plan.act ≡ a → Asks d b a
asks_for d mid plan b a running passes same k is acts =
    let planned = planned_back d.core mid plan b same k is in
    record {
      running = running;
      admissible = passes;
      must = (plan.parent, k.below, planned.chain, subst (λ (x : Act). IsActOn d.core.genesis d.core.state b (plan.parent ∷ k.below) x) acts planned.act);
    }

pub storage_refused : {D : Type 0} (d : DeskView D) (b : Header) (e : DeskError) → IsRunning d → IsAdmissible d.core b → Stores d b → IsStorageRefusal e → IsDeskRefusal d b e
storage_refused d b error.Memory running passes stores r = (running, passes)
storage_refused d b error.Device running passes stores r = stores
storage_refused d b (error.Core refusal) running passes stores r = absurd r
storage_refused d b error.KeySpent running passes stores r = absurd r
storage_refused d b error.LogFull running passes stores r = absurd r
storage_refused d b error.Stopped running passes stores r = absurd r
storage_refused d b error.ReceiptMismatch running passes stores r = absurd r

pub room_refused : {D : Type 0} (d : DeskView D) (mid : Core) (plan : Plan) (b : Header) (e : DeskError) → IsRunning d → IsAdmissible d.core b → IsSameCore d.core mid → IsPlan mid plan → plan.block ≡ b → IsRoomRefusal d.log d.indices plan.act e → IsPlanRefusal d b e
room_refused d mid plan b error.LogFull running passes same k is r = (asks_to_store d mid plan b running passes same k is r.0, r.1)
room_refused d mid plan b error.KeySpent running passes same k is r = (asks_for d mid plan b act.Vote running passes same k is r.0, r.1, r.2)
room_refused d mid plan b error.Memory running passes same k is r = absurd r
room_refused d mid plan b error.Device running passes same k is r = absurd r
room_refused d mid plan b (error.Core refusal) running passes same k is r = absurd r
room_refused d mid plan b error.Stopped running passes same k is r = absurd r
room_refused d mid plan b error.ReceiptMismatch running passes same k is r = absurd r

-- ---- growth and failures

-- ---- crashes

pub voted_image : {D : Type 0} (committee : List ℕ) (replica : ℕ) (old : DeskView D) (mid : Core) (b : CheckedBlock) (plan : Plan) (signed : KeyedSignature) → IsSameCore old.core mid → IsPlan mid plan → plan.block ≡ b.header → plan.act ≡ act.Vote → IsLegalPlan old.core.genesis old.log.steps plan
    → signed ≡ signed_in (vote_under (chain_id_of committee) replica old.seeds old.indices.mark b.header)
    → (image : List ℕ) → IsLeftWith old.log.entries (entry_for b plan.parent (Some signed)) image → IsLeftBy committee replica old b image
voted_image committee replica old mid b plan signed same k is acts legal as_planned image (inl s) = inl s
voted_image committee replica old mid b plan signed same k is acts legal as_planned image (inr s) =
    let planned = planned_back old.core mid plan b.header same k is in
    inr (
      entry_for b plan.parent (Some signed),
      record {
        answer = act.Vote;
        below = k.below;
        chain = planned.chain;
        planned = subst (λ (a : Act). IsActOn old.core.genesis old.core.state b.header (plan.parent ∷ k.below) a) acts planned.act;
        some = λ e. cc;
        entry = ap (λ (x : KeyedSignature). entry_for b plan.parent (Some x)) as_planned;
        is_entry = s.0;
        legal = subst (λ (h : Header). IsLegal old.core.genesis (old.log.steps ++ (let x : Stored = record { voted = true; block = h; parent = plan.parent } in x) ∷ [])) is (legal true acts);
      },
      s.1,
    )

pub raised_image : {D : Type 0} (committee : List ℕ) (replica : ℕ) (old : DeskView D) (mid : Core) (b : CheckedBlock) (plan : Plan) → IsSameCore old.core mid → IsPlan mid plan → plan.block ≡ b.header → plan.act ≡ act.Raise → IsLegalPlan old.core.genesis old.log.steps plan → IsEntry (entry_for b plan.parent None)
    → (image : List ℕ) → IsLogBeforeOrAfter old.log.entries (entry_for b plan.parent None) image → IsLeftBy committee replica old b image
raised_image committee replica old mid b plan same k is acts legal entry image (inl s) = inl s
raised_image committee replica old mid b plan same k is acts legal entry image (inr s) =
    let planned = planned_back old.core mid plan b.header same k is in
    inr (
      entry_for b plan.parent None,
      record {
        answer = act.Raise;
        below = k.below;
        chain = planned.chain;
        planned = subst (λ (a : Act). IsActOn old.core.genesis old.core.state b.header (plan.parent ∷ k.below) a) acts planned.act;
        some = λ e. cc;
        entry = refl;
        is_entry = entry;
        legal = subst (λ (h : Header). IsLegal old.core.genesis (old.log.steps ++ (let x : Stored = record { voted = false; block = h; parent = plan.parent } in x) ∷ [])) is (legal false acts);
      },
      s,
    )

-- the vote that is asked for of the desk as it was planned is that of the desk before
pub same_signature : {D : Type 0} (committee : List ℕ) (replica : ℕ) (old mid : DeskView D) (h b : Header) → mid.seeds ≡ old.seeds → mid.indices ≡ old.indices → h ≡ b
    → signed_in (vote_under (chain_id_of committee) replica mid.seeds mid.indices.mark h) ≡ signed_in (vote_under (chain_id_of committee) replica old.seeds old.indices.mark b)
same_signature {D} committee replica old mid h b seeds indices is =
    ap (λ (s : List PrivateSeed). signed_in (vote_under (chain_id_of committee) replica s mid.indices.mark h)) seeds
    ∙ ap (λ (i : IndexState D). signed_in (vote_under (chain_id_of committee) replica old.seeds i.mark h)) indices
    ∙ ap (λ (x : Header). signed_in (vote_under (chain_id_of committee) replica old.seeds old.indices.mark x)) is

-- ---- what every later crash leaves

pub durable_now : {D : Type 0} (bytes : D → Option (List ℕ)) (images : D → List ℕ → Type 0) (old mid new : DeskView D) (plan : Plan) (e : Entry) → mid.log ≡ old.log → IsStored bytes images mid new plan e
    → IfSome (bytes old.log.disk) (λ _. LeavesEntries (images new.log.disk) new.log.entries)
durable_now {D} bytes images old mid new plan e same stored =
    subst (λ (l : LogState D). IfSome (bytes l.disk) (λ _. LeavesEntries (images new.log.disk) new.log.entries)) same
    (some_if (bytes mid.log.disk) (λ _. LeavesEntries (images new.log.disk) new.log.entries) (λ bs is.
    subst (λ (es : List Entry). LeavesEntries (images new.log.disk) es) (sym (if_some (bytes mid.log.disk) (λ _. new.log.entries ≡ mid.log.entries ++ e ∷ []) bs stored.adds.entries is))
    (if_some (bytes mid.log.disk) (λ _. LeavesEntries (images new.log.disk) (mid.log.entries ++ e ∷ [])) bs stored.durable is)))

-- ---- the effect of a vote

pub votes : {D : Type 0} (bytes : D → Option (List ℕ)) (committee : List ℕ) (replica : ℕ) (old mid new : DeskView D) (b : CheckedBlock) (plan : Plan) (r : Receipt)
    → mid.seeds ≡ old.seeds → mid.indices ≡ old.indices → mid.log ≡ old.log → plan.block ≡ b.header
    → r.number ≡ length mid.log.steps → r.vote ≡ vote_under (chain_id_of committee) replica mid.seeds mid.indices.mark plan.block → index_of (signed_in r.vote) ≡ mid.indices.mark
    → IsGoodVote committee r.vote → AddsEntry bytes mid.log new.log (entry_for b plan.parent (Some (signed_in r.vote))) → new.indices.mark ≡ mid.indices.mark + 1
    → Votes bytes committee replica old new b plan.parent r
votes {D} bytes committee replica old mid new b plan r seeds indices log is number vote index good adds drawn = record {
  number = number ∙ ap (λ (l : LogState D). length l.steps) log;
  vote = vote ∙ ap (λ (s : List PrivateSeed). vote_under (chain_id_of committee) replica s mid.indices.mark plan.block) seeds
      ∙ ap (λ (i : IndexState D). vote_under (chain_id_of committee) replica old.seeds i.mark plan.block) indices
      ∙ ap (λ (h : Header). vote_under (chain_id_of committee) replica old.seeds old.indices.mark h) is;
  index = index ∙ ap (λ (i : IndexState D). i.mark) indices;
  good = good;
  adds = subst (λ (l : LogState D). AddsEntry bytes l new.log (entry_for b plan.parent (Some (signed_in r.vote)))) log adds;
  drawn = drawn ∙ ap (λ (i : IndexState D). i.mark + 1) indices;
}

-- ---- its place

got_last : {X : Type 0} (xs : List X) (x : X) → slice_get (xs ++ x ∷ []) (length xs) ≡ Some x
got_last [] x = refl
got_last (y ∷ ys) x = got_last ys x

-- the receipt of a vote is of the list with its entry
pub stands : (old new : List Stored) (x : Stored) (r : Receipt) → new ≡ old ++ x ∷ [] → r.number ≡ length old → x.voted ≡ true → r.vote.view ≡ x.block.view → r.vote.id ≡ header_id x.block
    → IsReceiptOf 0 new r
stands old new x r is number voted view id = record {
  behind = omega arith;
  entry = x;
  at = ap (slice_get new) number ∙ ap (λ (l : List Stored). slice_get l (length old)) is ∙ got_last old x;
  vote = record { voted = voted; view = view; id = id };
}
