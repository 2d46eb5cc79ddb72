-- One call more of a disk in memory.
use Rattle.std.proofs.Common.{◌≡◌, inl, inr, ℕ, ◌+◌, List, [], ◌∷◌, ◌++◌, length, take, refl, sym, ap, subst, ◌∙◌, arith, length-append}
use Rattle.std.proofs.lemmas.Bool.{cases_lt}
use Rattle.std.proofs.lemmas.List.{take_all, take-append-le}
use Rattle.stable_log.specs.Crash.{Elapses, Stepped, Torn}
use Rattle.stable_log.specs.Memory.{DiskState, fresh, step, after_calls, disk_state, IsImageOf, WasImage}
use Rattle.stable_log.specs.MemoryLaws.{as_read_of}
use Rattle.stable_log.specs.declared.memory_disk.Call.{Call}
use Rattle.stable_log.specs.declared.memory_disk.Call.TheVariants.{Write, Sync}
use Rattle.std.specs.Prelude.{Vec}
use Rattle.std.specs.declared.alloc.Global.{Global}

after_calls-push : (s : DiskState) (calls : List Call) (call : Call) → after_calls s (calls ++ call ∷ []) ≡ step (after_calls s calls) call
after_calls-push s [] call = refl
after_calls-push s (one ∷ calls) call = after_calls-push (step s one) calls call

pub state_push : (first : List ℕ) (calls later : List Call) (call : Call) → later ≡ calls ++ call ∷ [] → disk_state first later ≡ step (disk_state first calls) call
state_push first calls later call is = ap (λ (l : List Call). disk_state first l) is ∙ after_calls-push (fresh first) calls call

pub elapses_same : (first : List ℕ) (calls : List Call) → Elapses (length calls) (length calls) (WasImage first calls) (WasImage first calls) (IsImageOf (disk_state first calls))
elapses_same first calls = record { later = omega arith; nothing_else = λ t c le was. inl was; keeps = λ t c le was. was }

elapses_one : (first : List ℕ) (calls : List Call) (call : Call) → Elapses (length calls) (length (calls ++ call ∷ [])) (WasImage first calls) (WasImage first (calls ++ call ∷ [])) (IsImageOf (disk_state first (calls ++ call ∷ [])))
elapses_one first calls call = record {
  later = omega (arith, long);
  nothing_else = λ t c le (k, from, to, was). elim (cases_lt (length calls) k) [
    | inl new ↦ inr (subst (λ (l : List Call). IsImageOf (disk_state first l) c) (take_all k (calls ++ call ∷ []) (omega (arith, new, long))) was)
    | inr old ↦ inl (k, from, old, subst (λ (l : List Call). IsImageOf (disk_state first l) c) (take-append-le k calls (call ∷ []) old) was)
  ];
  keeps = λ t c le (k, from, to, was). (k, from, omega (arith, to, long), subst (λ (l : List Call). IsImageOf (disk_state first l) c) (sym (take-append-le k calls (call ∷ []) to)) was);
}
  where
    long : length (calls ++ call ∷ []) ≡ length calls + 1
    long = length-append calls (call ∷ [])

pub elapses_push : (first : List ℕ) (calls later : List Call) (call : Call) → later ≡ calls ++ call ∷ [] → Elapses (length calls) (length later) (WasImage first calls) (WasImage first later) (IsImageOf (disk_state first later))
elapses_push first calls later call is = subst (λ (l : List Call). Elapses (length calls) (length l) (WasImage first calls) (WasImage first l) (IsImageOf (disk_state first l))) (sym is) (elapses_one first calls call)

-- after a sync
module _ (first now : List ℕ) (calls later : List Call) (bytes : List ℕ) (same : now ≡ first) (replayed : bytes ≡ (disk_state first calls).bytes) (noted : later ≡ calls ++ Sync ∷ []) where
  synced : disk_state now later ≡ step (disk_state first calls) Sync
  synced = ap (λ (l : List ℕ). disk_state l later) same ∙ state_push first calls later Sync noted

  pub sync_durable : (c : List ℕ) → IsImageOf (disk_state now later) c → c ≡ bytes
  sync_durable c left = let is : IsImageOf (step (disk_state first calls) Sync) c = subst (λ (s : DiskState). IsImageOf s c) synced left in is ∙ sym replayed

  pub sync_no_new : (c : List ℕ) → IsImageOf (disk_state now later) c → IsImageOf (disk_state first calls) c
  sync_no_new c left = as_read_of first calls c (sync_durable c left ∙ replayed)

-- after a write
module _ (first now : List ℕ) (calls later : List Call) (at : ℕ) (v : Vec ℕ Global) (piece : List ℕ) (same : now ≡ first) (whole : v.items ≡ piece) (noted : later ≡ calls ++ Write at v ∷ []) where
  pub write_follows : (c : List ℕ) → IsImageOf (disk_state now later) c → Stepped (Torn at (length piece)) (IsImageOf (disk_state first calls)) c
  write_follows c left =
      let is : IsImageOf (step (disk_state first calls) (Write at v)) c = subst (λ (s : DiskState). IsImageOf s c) (ap (λ (l : List ℕ). disk_state l later) same ∙ state_push first calls later (Write at v) noted) left in
      (is.0, is.1, subst (λ (n : ℕ). Torn at n is.0 c) (ap length whole) is.2)

pub elapses_next : (first now : List ℕ) (calls later : List Call) (call : Call) → now ≡ first → later ≡ calls ++ call ∷ [] → Elapses (length calls) (length later) (WasImage first calls) (WasImage now later) (IsImageOf (disk_state now later))
elapses_next first now calls later call same noted =
    subst (λ (l : List ℕ). Elapses (length calls) (length later) (WasImage first calls) (WasImage l later) (IsImageOf (disk_state l later))) (sym same) (elapses_push first calls later call noted)

-- one call further
pub seen_step : (first : List ℕ) (calls : List Call) (i : ℕ) (call : Call) (seen : List ℕ) → take (i + 1) calls ≡ take i calls ++ call ∷ [] → seen ≡ (step (disk_state first (take i calls)) call).bytes → seen ≡ (disk_state first (take (i + 1) calls)).bytes
seen_step first calls i call seen next is = is ∙ ap (λ (s : DiskState). s.bytes) (sym (state_push first (take i calls) (take (i + 1) calls) call next))

pub left_step : (first : List ℕ) (calls : List Call) (i : ℕ) (call : Call) (left : List ℕ) → take (i + 1) calls ≡ take i calls ++ call ∷ [] → IsImageOf (step (disk_state first (take i calls)) call) left → IsImageOf (disk_state first (take (i + 1) calls)) left
left_step first calls i call left next is = subst (λ (s : DiskState). IsImageOf s left) (sym (state_push first (take i calls) (take (i + 1) calls) call next)) is

pub synced_step : (first : List ℕ) (calls : List Call) (i : ℕ) (call : Call) (left : List ℕ) → take (i + 1) calls ≡ take i calls ++ call ∷ [] → left ≡ (step (disk_state first (take i calls)) call).synced → left ≡ (disk_state first (take (i + 1) calls)).synced
synced_step first calls i call left next is = is ∙ ap (λ (s : DiskState). s.synced) (sym (state_push first (take i calls) (take (i + 1) calls) call next))
