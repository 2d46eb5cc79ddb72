-- Why a core refuses a block, in the order of the tests.
use Rattle.std.specs.Prelude.{◌≡◌, ◌⊎◌, ◌<◌, ℕ, length}
use Rattle.std.specs.List.{Contains}
use Rattle.blocks.specs.Headers.{Header}
use Rattle.replica_core.specs.declared.refusal.CoreRefusal.{CoreRefusal}
use Rattle.replica_core.specs.declared.refusal.CoreRefusal.TheVariants.{Memory, UnknownParent, ParentView, TreeFull, SameId}
use Rattle.replica_core.specs.declared.replica.TheConstants.{MOST_HEADERS}
use Rattle.replica_core.specs.Cores.{Core}
use Rattle.replica_core.specs.Tables.{HasId, HasIdAlone}

-- a header of the id that b names as its parent is held
abbrev pub HasParent : Core → Header → Type 0
HasParent c b = (p : Header) × HasId c.headers b.parent p

-- such a header has the view that b names
abbrev pub HasParentView : Core → Header → Type 0
HasParentView c b = (p : Header) → HasId c.headers b.parent p → p.view ≡ b.parent_view

-- b is held, or fewer than 65,536 headers are
abbrev pub HasPlace : Core → Header → Type 0
HasPlace c b = Contains c.headers b ⊎ (length c.headers < MOST_HEADERS)

-- b passes all tests
pub record IsAdmissible (c : Core) (b : Header) : Type 0 where
  pub parent : HasParent c b
  pub parent_view : HasParentView c b
  pub place : HasPlace c b
  pub own_id : HasIdAlone c.headers b

-- b passes the tests before this one, and fails this one; memory is asked for last, and only for a header
-- that is new
abbrev pub IsCoreRefusal : CoreRefusal → Core → Header → Type 0
IsCoreRefusal Memory c b = IsAdmissible c b × (Contains c.headers b → ⊥) × (c.room ≡ 0)
IsCoreRefusal UnknownParent c b = HasParent c b → ⊥
IsCoreRefusal ParentView c b = HasParent c b × (HasParentView c b → ⊥)
IsCoreRefusal TreeFull c b = HasParent c b × HasParentView c b × (HasPlace c b → ⊥)
IsCoreRefusal SameId c b = HasParent c b × HasParentView c b × HasPlace c b × (HasIdAlone c.headers b → ⊥)

-- the number that docs/REFUSALS.md gives a refusal
abbrev pub core_refusal_number : CoreRefusal → ℕ
core_refusal_number Memory = 1
core_refusal_number UnknownParent = 2
core_refusal_number ParentView = 3
core_refusal_number TreeFull = 4
core_refusal_number SameId = 5
