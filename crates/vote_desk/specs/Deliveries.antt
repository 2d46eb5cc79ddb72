-- What one delivery or one timeout does to a desk.
use Rattle.std.specs.Prelude.{◌≡◌, ◌≢◌, ◌<◌, ◌+◌, ◌++◌, ◌⊎◌, ◌↔◌, ℕ, List, [], ◌∷◌, Option, Some, None, IfSome, IsSome, Bool, true, false, length}
use Rattle.base_streams.specs.Counting.{HasFailed}
use Rattle.lmots.specs.declared.keys.PrivateSeed.{PrivateSeed}
use Rattle.lms_tree.specs.Tree.{lms_signature, tree_root, Verifies}
use Rattle.blocks.specs.Headers.{Header, header_id}
use Rattle.blocks.specs.Genesis.{chain_id_of, genesis_of}
use Rattle.blocks.specs.Chains.{IsChain}
use Rattle.blocks.specs.Replica.{Stored, Takes}
use Rattle.blocks.specs.Replay.{IsLegal}
use Rattle.certificates.specs.BlockChecks.{CheckedBlock}
use Rattle.certificates.specs.Statements.{statement_text}
use Rattle.certificates.specs.Votes.{IsGoodVote}
use Rattle.certificates.specs.declared.vote.SignedVote.{SignedVote}
use Rattle.replica_core.specs.declared.plan.Act.{Act}
use Rattle.replica_core.specs.declared.plan.Plan.{Plan}
use Rattle.replica_core.specs.declared.plan.Act.TheVariants as act
use Rattle.replica_core.specs.Cores.{Core, IsSameCore}
use Rattle.replica_core.specs.Plans.{IsChainOf, IsActOn, HoldsAlso, committed_of, event_of, TakesEvent}
use Rattle.log_format.specs.EntryText.{Entry, IsEntry, stored_in}
use Rattle.log_format.specs.declared.entry.KeyedSignature.{KeyedSignature}
use Rattle.stable_log.specs.Devices.{AtAnyMoment}
use Rattle.stable_log.specs.declared.disk.Disk.{Ghosts}
use Rattle.key_index_store.specs.Boundary.{IsBoundedBy, LeavesBoundary}
use Rattle.key_index_store.specs.Indices.{key_of, limit_of, q_of}
use Rattle.key_index_store.specs.State.{IndexState}
use Rattle.vote_log.specs.Logs.{AddsEntry, StandsForEntries, LeavesEntries}
use Rattle.vote_desk.specs.declared.planned_block.PlannedBlock.{PlannedBlock}
use Rattle.vote_desk.specs.declared.reply.Receipt.{Receipt}
use Rattle.vote_desk.specs.declared.reply.Answer.{Answer}
use Rattle.vote_desk.specs.declared.reply.Answer.TheVariants.{Voted, Raised, Held}
use Rattle.vote_desk.specs.declared.reply.Reply.{Reply}
use Rattle.vote_desk.specs.declared.desk_error.DeskError.{DeskError}
use Rattle.vote_desk.specs.declared.desk_error.DeskError.TheVariants as error
use Rattle.vote_desk.specs.DeskRefusals.{IsRunning, IsStopped}
use Rattle.vote_desk.specs.Desks.{DeskView, index_of, seed_of}
use Rattle.vote_desk.specs.Stays.{IsImageAfter, stay_in}

-- what the replica does where it answers so
abbrev pub act_of : Answer → Act
act_of (Voted receipt) = act.Vote
act_of Raised = act.Raise
act_of Held = act.Pass

-- the receipts with the answer's, if it has one
abbrev pub with_receipt : List Receipt → Answer → List Receipt
with_receipt receipts (Voted receipt) = receipts ++ receipt ∷ []
with_receipt receipts Raised = receipts
with_receipt receipts Held = receipts

-- how many votes an answer releases
abbrev pub released_by : Answer → ℕ
released_by (Voted receipt) = 1
released_by Raised = 0
released_by Held = 0

-- ---- the plan

-- by the chain of the block in the core: what it does, and what is committed
pub record IsPlanned (c : Core) (b p : Header) (below : List Header) (a : Act) (id : Option (List ℕ)) : Type 0 where
  pub chain : IsChainOf c b (p ∷ below)
  pub act : IsActOn c.genesis c.state b (p ∷ below) a
  pub committed : id ≡ committed_of (p ∷ below)

-- ---- the entry

-- what an entry keeps of a vote
abbrev pub signed_in : SignedVote → KeyedSignature
signed_in vote = record { key = vote.key; signature = vote.signature }

-- the entry of a block on this parent, with what it keeps of the own vote, if there is one
abbrev pub entry_for : CheckedBlock → Header → Option KeyedSignature → Entry
entry_for b p own = record { block = b.header; parent = p; own = own; certificate = b.certificate }

-- the entry of a planned block, with what it keeps of the own vote, if there is one
abbrev pub entry_of : PlannedBlock → Option KeyedSignature → Entry
entry_of planned own = entry_for planned.block planned.plan.parent own

-- the signature of these bytes by a key of this seed, at its one-time key q
abbrev pub signature_at : PrivateSeed → ℕ → List ℕ → List ℕ
signature_at seed q message = lms_signature seed.key_id seed.seed q message

-- the vote's signature verifies under the key of this seed, on its view and id in this chain
abbrev pub IsSignedWith : PrivateSeed → List ℕ → SignedVote → Type 0
IsSignedWith seed chain v = Verifies seed.key_id (tree_root seed.key_id seed.seed) (statement_text chain v.view v.id) v.signature

-- the replica's vote for a block, signed under this index
abbrev pub vote_under : List ℕ → ℕ → List PrivateSeed → ℕ → Header → SignedVote
vote_under chain replica seeds index b = record {
  replica = replica;
  view = b.view;
  id = header_id b;
  key = key_of index;
  signature = signature_at (seed_of seeds (key_of index)) (q_of index) (statement_text chain b.view (header_id b));
}

-- ---- the effect of an answer on log, indices and the count of released votes

-- the receipt has the number of the new entry and the vote in it, which is good and signed under the one index that
-- was drawn
pub record Votes {D : Type 0} (bytes : D → Option (List ℕ)) (committee : List ℕ) (replica : ℕ) (old new : DeskView D) (b : CheckedBlock) (p : Header) (receipt : Receipt) : Type 0 where
  pub number : receipt.number ≡ length old.log.steps
  pub vote : receipt.vote ≡ vote_under (chain_id_of committee) replica old.seeds old.indices.mark b.header
  pub index : index_of (signed_in receipt.vote) ≡ old.indices.mark
  pub good : IsGoodVote committee receipt.vote
  pub adds : AddsEntry bytes old.log new.log (entry_for b p (Some (signed_in receipt.vote)))
  pub drawn : new.indices.mark ≡ old.indices.mark + 1

pub record Raises {D : Type 0} (bytes : D → Option (List ℕ)) (old new : DeskView D) (b : CheckedBlock) (p : Header) : Type 0 where
  pub adds : AddsEntry bytes old.log new.log (entry_for b p None)
  pub undrawn : new.indices ≡ old.indices

pub record HoldsOnly {D : Type 0} (old new : DeskView D) : Type 0 where
  pub log : new.log ≡ old.log
  pub undrawn : new.indices ≡ old.indices

abbrev pub HasEffect : {D : Type 0} → (D → Option (List ℕ)) → List ℕ → ℕ → (old new : DeskView D) → CheckedBlock → Header → Answer → Type 0
HasEffect bytes committee replica old new b p (Voted receipt) = Votes bytes committee replica old new b p receipt
HasEffect bytes committee replica old new b p Raised = Raises bytes old new b p
HasEffect bytes committee replica old new b p Held = HoldsOnly old new

-- one event of the run, on the block's chain in the core, as it is planned
pub record IsDelivered {D : Type 0} (bytes : D → Option (List ℕ)) (committee : List ℕ) (replica : ℕ) (old new : DeskView D) (b : CheckedBlock) (reply : Reply) : Type 0 where
  pub parent : Header
  pub below : List Header
  pub planned : IsPlanned old.core b.header parent below (act_of reply.act) reply.committed
  pub takes : Takes old.core.genesis old.core.state (event_of (act_of reply.act) b.header (parent ∷ below)) new.core.state
  pub holds : HoldsAlso old.core.headers new.core.headers b.header
  pub genesis : new.core.genesis ≡ old.core.genesis
  pub seeds : new.seeds ≡ old.seeds
  pub effect : HasEffect bytes committee replica old new b parent reply.act
  pub released : new.released ≡ old.released + released_by reply.act

-- ---- a commit

-- the fourth header of a chain of the block, where the views of the second to the fourth fall by one and the last is
-- above 0
abbrev pub CommitsIn : Header → Header → List ℕ → Type 0
CommitsIn genesis b id =
    (p q c : Header) × (below : List Header) × IsChain genesis b (p ∷ q ∷ c ∷ below)
    × (p.view ≡ q.view + 1) × (q.view ≡ c.view + 1) × (0 < c.view) × (id ≡ header_id c)

-- ---- a released vote

-- the vote of an answer, if it has one, is this replica's on the block, and good
abbrev pub IsGoodAnswer : List ℕ → ℕ → Header → Answer → Type 0
IsGoodAnswer committee replica b (Voted receipt) =
    (receipt.vote.replica ≡ replica) × (receipt.vote.view ≡ b.view) × (receipt.vote.id ≡ header_id b)
    × IsGoodVote committee receipt.vote
IsGoodAnswer committee replica b Raised = Unit {0}
IsGoodAnswer committee replica b Held = Unit {0}

-- .. and what is committed stands in the block's chain
pub record IsGoodReply (committee : List ℕ) (replica : ℕ) (b : Header) (reply : Reply) : Type 0 where
  pub answer : IsGoodAnswer committee replica b reply.act
  pub committed : IfSome reply.committed (CommitsIn (genesis_of committee) b)

-- the receipt of an answer, if it has one, is added to a session's receipts, and its share of the book moves with it
pub record IsTold (receipts later : List Receipt) (share moved : ℕ) (a : Answer) : Type 0 where
  pub receipts_are : later ≡ with_receipt receipts a
  pub share_is : moved ≡ share + released_by a

-- ---- a refusal

-- core, list and the count are as before
pub record IsKept {D : Type 0} (old new : DeskView D) : Type 0 where
  pub core : IsSameCore old.core new.core
  pub seeds : new.seeds ≡ old.seeds
  pub genesis : new.log.genesis ≡ old.log.genesis
  pub entries : new.log.entries ≡ old.log.entries
  pub steps : new.log.steps ≡ old.log.steps
  pub released : new.released ≡ old.released

-- at the most one index was drawn
abbrev pub DrawsAtMostOne : {D : Type 0} → (old new : DeskView D) → Type 0
DrawsAtMostOne old new = (new.indices.mark ≡ old.indices.mark) ⊎ (new.indices.mark ≡ old.indices.mark + 1)

-- the list begins with the old one
abbrev pub ListGrows : (old new : List Stored) → Type 0
ListGrows old new = (more : List Stored) × (new ≡ old ++ more)

-- ---- failures

-- neither disk's count of failures has moved
pub record FailsNone {D : Type 0} (failed : D → ℕ) (old new : DeskView D) : Type 0 where
  pub log : failed new.log.disk ≡ failed old.log.disk
  pub indices : failed new.indices.disk ≡ failed old.indices.disk

-- the log's disk failed, and the other one's count has not moved
pub record FailsLog {D : Type 0} (failed : D → ℕ) (old new : DeskView D) : Type 0 where
  pub log : HasFailed (failed old.log.disk) (failed new.log.disk)
  pub indices : failed new.indices.disk ≡ failed old.indices.disk

-- .. the other way round
pub record FailsIndices {D : Type 0} (failed : D → ℕ) (old new : DeskView D) : Type 0 where
  pub log : failed new.log.disk ≡ failed old.log.disk
  pub indices : HasFailed (failed old.indices.disk) (failed new.indices.disk)

-- one of the two disks failed
abbrev pub FailsOne : {D : Type 0} → (D → ℕ) → (old new : DeskView D) → Type 0
FailsOne failed old new = FailsLog failed old new ⊎ FailsIndices failed old new

-- ---- what a delivery leaves

-- the desk runs on, no disk failed, and from now on each crash leaves the list
pub record RunsOn {D : Type 0} (disk : Ghosts D) (old new : DeskView D) : Type 0 where
  pub running : IsRunning new
  pub no_failure : FailsNone disk.failed old new
  pub durable : IfSome (disk.bytes old.log.disk) (λ _. LeavesEntries (disk.images new.log.disk) new.log.entries)

-- no disk failed, the log is as before, and the index store runs if it did
pub record IsUndisturbed {D : Type 0} (failed : D → ℕ) (old new : DeskView D) : Type 0 where
  pub log : new.log ≡ old.log
  pub indices : new.indices.stopped ≡ old.indices.stopped
  pub no_failure : FailsNone failed old new

-- one disk failed, and stopped the desk
pub record IsBroken {D : Type 0} (failed : D → ℕ) (old new : DeskView D) : Type 0 where
  pub stopped : IsStopped new
  pub cause : FailsOne failed old new

-- what a refusal leaves: core, list and count as before, and at most one index drawn
pub record IsLeftAfter {D : Type 0} (failed : D → ℕ) (old new : DeskView D) (e : DeskError) : Type 0 where
  pub kept : IsKept old new
  pub at_most_one : DrawsAtMostOne old new
  pub other : e ≢ error.Device → IsUndisturbed failed old new
  pub device : e ≡ error.Device → IsBroken failed old new

-- there are as many keys as before, the log's disk tells its bytes if it did, the list begins with the old one, and a
-- stopped desk's log is not touched
pub record IsLike {D : Type 0} (bytes : D → Option (List ℕ)) (old new : DeskView D) : Type 0 where
  pub keys : new.indices.keys ≡ old.indices.keys
  pub tells : IsSome (bytes new.log.disk) ↔ IsSome (bytes old.log.disk)
  pub grows : ListGrows old.log.steps new.log.steps
  pub stopped : IsStopped old → new.log ≡ old.log

-- no index is given twice: a crash at any moment leaves a boundary that is at least the old mark, and one from now on a
-- boundary that is at least the new mark
pub record BoundsIndices {D : Type 0} (disk : Ghosts D) (old new : IndexState D) : Type 0 where
  pub any_moment : AtAnyMoment disk old.disk new.disk (IsBoundedBy (limit_of old.keys) old.mark)
  pub bounded : LeavesBoundary (disk.images new.disk) (limit_of new.keys) new.mark

-- ---- a crash during a delivery

-- what this act stores of the own vote: for a vote that under the next index, else nothing
abbrev pub own_for : {D : Type 0} → List ℕ → ℕ → DeskView D → Act → Header → Option KeyedSignature
own_for committee replica d act.Vote b = Some (signed_in (vote_under (chain_id_of committee) replica d.seeds d.indices.mark b))
own_for committee replica d act.Raise b = None
own_for committee replica d act.Pass b = None

-- the entry of the planned event, which is legal after the list
pub record IsPlannedEntry {D : Type 0} (committee : List ℕ) (replica : ℕ) (old : DeskView D) (b : CheckedBlock) (e : Entry) : Type 0 where
  pub answer : Act
  pub below : List Header
  pub chain : IsChainOf old.core b.header (e.parent ∷ below)
  pub planned : IsActOn old.core.genesis old.core.state b.header (e.parent ∷ below) answer
  pub some : answer ≢ act.Pass
  pub entry : e ≡ entry_for b e.parent (own_for committee replica old answer b.header)
  pub is_entry : IsEntry e
  pub legal : IsLegal old.core.genesis (old.log.steps ++ stored_in e ∷ [])

-- an image of the list from before a delivery, or of that list with the entry of the planned event
abbrev pub IsLeftBy : {D : Type 0} → List ℕ → ℕ → DeskView D → CheckedBlock → List ℕ → Type 0
IsLeftBy committee replica old b image =
    StandsForEntries image old.log.entries
    ⊎ ((e : Entry) × IsPlannedEntry committee replica old b e × StandsForEntries image (old.log.entries ++ e ∷ []))

-- a crash at any moment leaves such an image, and what one reads in one is found after the stay that the desk was
pub record SurvivesCrash {D : Type 0} (disk : Ghosts D) (committee : List ℕ) (replica : ℕ) (opening : List Stored) (old new : DeskView D) (b : CheckedBlock) : Type 0 where
  pub any_moment : IsRunning old → AtAnyMoment disk old.log.disk new.log.disk (IsLeftBy committee replica old b)
  pub finds : (image : List ℕ) → IsLeftBy committee replica old b image → IsImageAfter (genesis_of committee) (stay_in opening old) image

-- ---- parts of a delivery

-- an entry was stored, and what was planned was done
pub record IsStored {D : Type 0} (bytes : D → Option (List ℕ)) (images : D → List ℕ → Type 0) (old new : DeskView D) (plan : Plan) (e : Entry) : Type 0 where
  pub adds : AddsEntry bytes old.log new.log e
  pub running : new.log.stopped ≡ false
  pub one_genesis : new.log.genesis ≡ old.log.genesis
  pub durable : IfSome (bytes old.log.disk) (λ _. LeavesEntries (images new.log.disk) (old.log.entries ++ e ∷ []))
  pub headers : HoldsAlso old.core.headers new.core.headers plan.block
  pub genesis : new.core.genesis ≡ old.core.genesis
  pub state : TakesEvent old.core plan new.core.state
  pub seeds : new.seeds ≡ old.seeds

-- an image of the list, or of the list with this entry, which is well formed
abbrev pub IsLeftWith : List Entry → Entry → List ℕ → Type 0
IsLeftWith entries e image =
    StandsForEntries image entries ⊎ (IsEntry e × StandsForEntries image (entries ++ e ∷ []))

-- the act of a plan whose entry tells this of a vote
abbrev pub act_on : Bool → Act
act_on true = act.Vote
act_on false = act.Raise

-- what replay sees of a plan's entry
abbrev pub planned_entry : Plan → Bool → Stored
planned_entry plan voted = record { voted = voted; block = plan.block; parent = plan.parent }

-- where a plan stores an entry, it is legal after the list
abbrev pub IsLegalPlan : Header → List Stored → Plan → Type 0
IsLegalPlan genesis steps plan = (voted : Bool) → plan.act ≡ act_on voted → IsLegal genesis (steps ++ planned_entry plan voted ∷ [])
