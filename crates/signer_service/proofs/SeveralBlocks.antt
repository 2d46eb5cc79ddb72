-- Blocks behind each other, one after the other.
use Rattle.std.proofs.Common.{◌≡◌, ◌≤◌, ◌-◌, ◌∙◌, ◌++◌, ℕ, Bool, List, [], ◌∷◌, Option, None, IsSome, inr, ap, arith, drop, get_or, length, refl, sym, take}
use Rattle.std.proofs.lemmas.List.{take_all}
use Rattle.blocks.specs.Replica.{Stored}
use Rattle.http_server.specs.declared.response.Response.{Response}
use Rattle.stable_log.specs.declared.disk.Disk.{Ghosts}
use Rattle.vote_desk.specs.declared.reply.Receipt.{Receipt}
use Rattle.signer_answers.specs.Approvals.{Telling}
use Rattle.signer_answers.specs.Showings.{Showing}
use Rattle.signer_answers.specs.declared.told.Told.{Told}
use Rattle.signer_calls.specs.declared.call.Call.{Call}
use Rattle.signer_calls.specs.declared.rules.Rules.{Rules}
use Rattle.signer_service.specs.CallAnswers.{AnyTold, AreMoreServed, IsAllServed, IsBlockServed, IsCallTold, IsStopped}

-- some blocks are the first and the others
pub split : (xs : List (List ℕ)) (x : List ℕ) → 1 ≤ length xs → x ≡ get_or xs 0 x → xs ≡ x ∷ take (length xs - 1) (drop 1 xs)
split [] x some is = absurd (omega arith)
split (y ∷ ys) x some is =
    ap (λ (h : List ℕ). h ∷ ys) (sym is) ∙ ap (λ (zs : List (List ℕ)). x ∷ zs) (sym (take_all (length (y ∷ ys) - 1) ys (omega arith)))

module _ {D : Type 0} (disk : Ghosts D) (committee : List ℕ) (replica : ℕ) (opening : List Stored) (rules : Rules) (asks : Bool) (tells : Telling) where
  abbrev More : List ℕ → Response → Option Told → List (List ℕ) → List Receipt → Option Showing → Response → List Receipt → Option Showing → Option Told → Type 0
  More lines one last blocks before shown response after shown_after told =
      AreMoreServed disk committee replica opening AnyTold rules asks tells lines one last blocks before shown response after shown_after told

  -- whatever comes of the blocks that are left comes of all
  abbrev pub Leads : List ℕ → Response → Option Told → List (List ℕ) → List Receipt → Option Showing → Response → Option Told → List (List ℕ) → List Receipt → Option Showing → Type 0
  Leads lines one last left now shown_now first its blocks before shown =
      (response : Response) (after : List Receipt) (shown_after : Option Showing) (told : Option Told)
      → More lines one last left now shown_now response after shown_after told
      → More [] first its blocks before shown response after shown_after told

  pub leads_on : (lines : List ℕ) (one : Response) (last : Option Told) (block : List ℕ) (left : List (List ℕ)) (now : List Receipt) (shown_now : Option Showing)
      → (first : Response) (its : Option Told) (blocks : List (List ℕ)) (before : List Receipt) (shown : Option Showing)
      → Leads lines one last (block ∷ left) now shown_now first its blocks before shown → one.status ≡ 200
      → (next : Response) (said : Option Told) (later : List Receipt) (shown_later : Option Showing)
      → IsBlockServed disk committee replica opening AnyTold rules asks tells block now shown_now next later shown_later said
      → Leads (lines ++ one.body.items) next said left later shown_later first its blocks before shown
  leads_on lines one last block left now shown_now first its blocks before shown leads taken next said later shown_later served response after shown_after told h =
      leads response after shown_after told (inr (taken, inr (next, said, later, shown_later, served, h)))

  -- a call that asks the desk for no block and no timeout
  pub alone : (asked : Call) (before : List Receipt) (shown : Option Showing) (response : Response)
      → IsCallTold disk committee replica opening rules asks tells before shown asked None response → (IsSome shown → IsStopped asked None)
      → IsAllServed disk committee replica opening rules asks tells asked before shown response before shown None
  alone asked before shown response answers stops =
      inr (record { answers = answers; receipts = refl; stops = stops; keeps = λ is. is; learns = λ never. absurd never })
