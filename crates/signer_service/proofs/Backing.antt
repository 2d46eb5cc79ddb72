-- The calls of a connection, one after another.
use Rattle.std.proofs.Common.{◌≡◌, ◌∙◌, ℕ, Bool, List, [], ◌∷◌, ◌++◌, Option, Some, None, inl, inr, ap, subst, sym}
use Rattle.std.specs.Prelude.{IfSome, IsSome}
use Rattle.blocks.specs.Replica.{Stored}
use Rattle.http.specs.declared.request.Request.{Request}
use Rattle.http_server.specs.declared.response.Response.{Response}
use Rattle.http_server.specs.Exchange.{Call as Exchanged, Chain}
use Rattle.stable_log.specs.declared.disk.Disk.{Ghosts}
use Rattle.vote_desk.specs.declared.reply.Receipt.{Receipt}
use Rattle.replica_requests.specs.SessionReceipts.{ReceiptsGrow}
use Rattle.replica_requests.proofs.Receipts.{grow_after, grow_none, grow_then, has_receipt_after, has_receipt_among_more, kept_by_growth}
use Rattle.signer_answers.specs.Approvals.{Telling}
use Rattle.signer_answers.specs.Showings.{Showing}
use Rattle.signer_answers.specs.Tellings.{HasItsReceipt}
use Rattle.signer_answers.specs.declared.told.Told.{Told}
use Rattle.signer_answers.specs.declared.told.Told.TheVariants.{Came, Again, Unread, PutBack, Asking}
use Rattle.signer_service.specs.CallAnswers.{AnyTold, AreBacked, AreBlocksServed, AreMoreServed, IsAllBacked, IsAllServed, IsBlockServed, IsCallServed, IsServed, receipts_told}
use Rattle.signer_calls.specs.declared.call.Call.{Call}
use Rattle.signer_calls.specs.declared.call.Call.TheVariants as call
use Rattle.signer_calls.specs.declared.rules.Rules.{Rules}

-- ---- what was told

grow_told : (receipts : List Receipt) (told : Option Told) → ReceiptsGrow receipts (receipts_told receipts told)
grow_told receipts (Some (Came outcome)) = grow_after receipts outcome
grow_told receipts (Some (Again receipt committed)) = grow_none receipts
grow_told receipts (Some (Unread e)) = grow_none receipts
grow_told receipts (Some (PutBack ballot)) = grow_none receipts
grow_told receipts (Some Asking) = grow_none receipts
grow_told receipts None = grow_none receipts

has_told : (receipts : List Receipt) (told : Option Told) → IfSome told (HasItsReceipt (receipts_told receipts told))
has_told receipts (Some (Came outcome)) = has_receipt_after receipts outcome
has_told receipts (Some (Again receipt committed)) = tt
has_told receipts (Some (Unread e)) = tt
has_told receipts (Some (PutBack ballot)) = tt
has_told receipts (Some Asking) = tt
has_told receipts None = tt

told_among_more : (receipts more : List Receipt) (told : Option Told) → ReceiptsGrow receipts more → IfSome told (HasItsReceipt receipts) → IfSome told (HasItsReceipt more)
told_among_more receipts more (Some (Came outcome)) grown has = has_receipt_among_more receipts more outcome (kept_by_growth receipts more grown) has
told_among_more receipts more (Some (Again receipt committed)) grown has = tt
told_among_more receipts more (Some (Unread e)) grown has = tt
told_among_more receipts more (Some (PutBack ballot)) grown has = tt
told_among_more receipts more (Some Asking) grown has = tt
told_among_more receipts more None grown has = tt

-- ---- one call

-- of a caller who has more receipts behind it
abbrev Backs : List Receipt → Option Told → Type 0
Backs receipts told = IfSome told (HasItsReceipt receipts)

module _ {D : Type 0} (disk : Ghosts D) (committee : List ℕ) (replica : ℕ) (opening : List Stored) (rules : Rules) (asks : Bool) (tells : Telling) where
  abbrev One : Call → List Receipt → Option Showing → Response → List Receipt → Option Showing → Option Told → Type 0
  One asked before shown response after shown_after told =
      IsCallServed disk committee replica opening rules asks tells asked before shown response after shown_after told

  abbrev Block : (Option Told → Type 0) → List ℕ → List Receipt → Option Showing → Response → List Receipt → Option Showing → Option Told → Type 0
  Block Also block before shown response after shown_after told =
      IsBlockServed disk committee replica opening Also rules asks tells block before shown response after shown_after told

  abbrev More : (Option Told → Type 0) → List ℕ → Response → Option Told → List (List ℕ) → List Receipt → Option Showing → Response → List Receipt → Option Showing → Option Told → Type 0
  More Also lines one last blocks before shown response after shown_after told =
      AreMoreServed disk committee replica opening Also rules asks tells lines one last blocks before shown response after shown_after told

  abbrev Blocks : (Option Told → Type 0) → List (List ℕ) → List Receipt → Option Showing → Response → List Receipt → Option Showing → Option Told → Type 0
  Blocks Also blocks before shown response after shown_after told =
      AreBlocksServed disk committee replica opening Also rules asks tells blocks before shown response after shown_after told

  one_grows : (asked : Call) (before : List Receipt) (shown : Option Showing) (response : Response) (after : List Receipt) (shown_after : Option Showing) (told : Option Told)
      → One asked before shown response after shown_after told → ReceiptsGrow before after
  one_grows asked before shown response after shown_after told it =
      subst (λ (rs : List Receipt). ReceiptsGrow before rs) (sym it.receipts) (grow_told before told)

  one_backs : (asked : Call) (before : List Receipt) (shown : Option Showing) (response : Response) (after : List Receipt) (shown_after : Option Showing) (told : Option Told)
      → One asked before shown response after shown_after told → (receipts : List Receipt) → ReceiptsGrow after receipts → Backs receipts told
  one_backs asked before shown response after shown_after told it receipts grown =
      told_among_more after receipts told grown
      (subst (λ (rs : List Receipt). Backs rs told) (sym it.receipts) (has_told before told))

  stay_grown : (before after : List Receipt) → after ≡ before → ReceiptsGrow before after
  stay_grown before after is = subst (λ (rs : List Receipt). ReceiptsGrow before rs) (sym is) (grow_none before)

  more_grows : (lines : List ℕ) (one : Response) (last : Option Told) (blocks : List (List ℕ)) (before : List Receipt) (shown : Option Showing) (response : Response) (after : List Receipt) (shown_after : Option Showing) (told : Option Told)
      → More AnyTold lines one last blocks before shown response after shown_after told → ReceiptsGrow before after
  more_grows lines one last [] before shown response after shown_after told h = stay_grown before after h.receipts
  more_grows lines one last (block ∷ blocks) before shown response after shown_after told (inl (not, h)) = stay_grown before after h.receipts
  more_grows lines one last (block ∷ blocks) before shown response after shown_after told (inr (taken, inl h)) = stay_grown before after h.receipts
  more_grows lines one last (block ∷ blocks) before shown response after shown_after told (inr (taken, inr (next, its, between, shown_between, it, h))) =
      grow_then before between after (one_grows (call.Replica it.asked) before shown next between shown_between its it.served)
      (more_grows (lines ++ one.body.items) next its blocks between shown_between response after shown_after told h)

  more_shows : (lines : List ℕ) (one : Response) (last : Option Told) (blocks : List (List ℕ)) (before : List Receipt) (shown : Option Showing) (response : Response) (after : List Receipt) (shown_after : Option Showing) (told : Option Told)
      → More AnyTold lines one last blocks before shown response after shown_after told → IsSome shown → IsSome shown_after
  more_shows lines one last [] before shown response after shown_after told h is = subst (λ (o : Option Showing). IsSome o) (sym h.shows) is
  more_shows lines one last (block ∷ blocks) before shown response after shown_after told (inl (not, h)) is = subst (λ (o : Option Showing). IsSome o) (sym h.shows) is
  more_shows lines one last (block ∷ blocks) before shown response after shown_after told (inr (taken, inl h)) is = subst (λ (o : Option Showing). IsSome o) (sym h.shows) is
  more_shows lines one last (block ∷ blocks) before shown response after shown_after told (inr (taken, inr (next, its, between, shown_between, it, h))) is =
      more_shows (lines ++ one.body.items) next its blocks between shown_between response after shown_after told h (it.served.keeps is)

  block_backs : (block : List ℕ) (before : List Receipt) (shown : Option Showing) (response : Response) (after : List Receipt) (shown_after : Option Showing) (told : Option Told)
      → Block AnyTold block before shown response after shown_after told → (receipts : List Receipt) → ReceiptsGrow after receipts
      → Block (Backs receipts) block before shown response after shown_after told
  block_backs block before shown response after shown_after told it receipts grown = record {
    asked = it.asked;
    reads = it.reads;
    served = it.served;
    also = one_backs (call.Replica it.asked) before shown response after shown_after told it.served receipts grown;
  }

  more_backs : (receipts : List Receipt) (lines : List ℕ) (one : Response) (last : Option Told) (blocks : List (List ℕ)) (before : List Receipt) (shown : Option Showing) (response : Response) (after : List Receipt) (shown_after : Option Showing) (told : Option Told)
      → ReceiptsGrow after receipts → More AnyTold lines one last blocks before shown response after shown_after told
      → More (Backs receipts) lines one last blocks before shown response after shown_after told
  more_backs receipts lines one last [] before shown response after shown_after told grown h = h
  more_backs receipts lines one last (block ∷ blocks) before shown response after shown_after told grown (inl h) = inl h
  more_backs receipts lines one last (block ∷ blocks) before shown response after shown_after told grown (inr (taken, inl h)) = inr (taken, inl h)
  more_backs receipts lines one last (block ∷ blocks) before shown response after shown_after told grown (inr (taken, inr (next, its, between, shown_between, it, h))) =
      let later = more_grows (lines ++ one.body.items) next its blocks between shown_between response after shown_after told h in
      let is = block_backs block before shown next between shown_between its it receipts (grow_then between after receipts later grown) in
      inr (taken, inr (next, its, between, shown_between, is, more_backs receipts (lines ++ one.body.items) next its blocks between shown_between response after shown_after told grown h))

  blocks_grow : (blocks : List (List ℕ)) (before : List Receipt) (shown : Option Showing) (response : Response) (after : List Receipt) (shown_after : Option Showing) (told : Option Told)
      → Blocks AnyTold blocks before shown response after shown_after told → ReceiptsGrow before after
  blocks_grow [] before shown response after shown_after told (refusal, of, receipts, shows) = stay_grown before after receipts
  blocks_grow (block ∷ blocks) before shown response after shown_after told (one, its, between, shown_between, it, h) =
      grow_then before between after (one_grows (call.Replica it.asked) before shown one between shown_between its it.served)
      (more_grows [] one its blocks between shown_between response after shown_after told h)

  blocks_show : (blocks : List (List ℕ)) (before : List Receipt) (shown : Option Showing) (response : Response) (after : List Receipt) (shown_after : Option Showing) (told : Option Told)
      → Blocks AnyTold blocks before shown response after shown_after told → IsSome shown → IsSome shown_after
  blocks_show [] before shown response after shown_after told (refusal, of, receipts, shows) is = subst (λ (o : Option Showing). IsSome o) (sym shows) is
  blocks_show (block ∷ blocks) before shown response after shown_after told (one, its, between, shown_between, it, h) is =
      more_shows [] one its blocks between shown_between response after shown_after told h (it.served.keeps is)

  blocks_back : (receipts : List Receipt) (blocks : List (List ℕ)) (before : List Receipt) (shown : Option Showing) (response : Response) (after : List Receipt) (shown_after : Option Showing) (told : Option Told)
      → ReceiptsGrow after receipts → Blocks AnyTold blocks before shown response after shown_after told
      → Blocks (Backs receipts) blocks before shown response after shown_after told
  blocks_back receipts [] before shown response after shown_after told grown h = h
  blocks_back receipts (block ∷ blocks) before shown response after shown_after told grown (one, its, between, shown_between, it, h) =
      let later = more_grows [] one its blocks between shown_between response after shown_after told h in
      let is = block_backs block before shown one between shown_between its it receipts (grow_then between after receipts later grown) in
      (one, its, between, shown_between, is, more_backs receipts [] one its blocks between shown_between response after shown_after told grown h)

  abbrev All : Call → List Receipt → Option Showing → Response → List Receipt → Option Showing → Option Told → Type 0
  All asked before shown response after shown_after told =
      IsAllServed disk committee replica opening rules asks tells asked before shown response after shown_after told

  pub all_grows : (asked : Call) (before : List Receipt) (shown : Option Showing) (response : Response) (after : List Receipt) (shown_after : Option Showing) (told : Option Told)
      → All asked before shown response after shown_after told → ReceiptsGrow before after
  all_grows asked before shown response after shown_after told (inl (blocks, is, h)) = blocks_grow blocks before shown response after shown_after told h
  all_grows asked before shown response after shown_after told (inr it) = one_grows asked before shown response after shown_after told it

  pub all_shows : (asked : Call) (before : List Receipt) (shown : Option Showing) (response : Response) (after : List Receipt) (shown_after : Option Showing) (told : Option Told)
      → All asked before shown response after shown_after told → IsSome shown → IsSome shown_after
  all_shows asked before shown response after shown_after told (inl (blocks, is, h)) is_some = blocks_show blocks before shown response after shown_after told h is_some
  all_shows asked before shown response after shown_after told (inr it) is_some = it.keeps is_some

  pub all_backs : (receipts : List Receipt) (asked : Call) (before : List Receipt) (shown : Option Showing) (response : Response) (after : List Receipt) (shown_after : Option Showing) (told : Option Told)
      → ReceiptsGrow after receipts → All asked before shown response after shown_after told
      → IsAllBacked disk committee replica opening rules asks tells receipts asked before shown response after shown_after told
  all_backs receipts asked before shown response after shown_after told grown (inl (blocks, is, h)) =
      inl (blocks, is, blocks_back receipts blocks before shown response after shown_after told grown h)
  all_backs receipts asked before shown response after shown_after told grown (inr it) =
      inr (it, one_backs asked before shown response after shown_after told it receipts grown)

-- ---- a chain of calls

-- of a service whose state lends a place of calls and an office
module _ {D S P O : Type 0} (disk : Ghosts D) (committee : List ℕ) (replica : ℕ) (opening : List Stored) (placed : S → P) (rules : P → Rules) (asks : P → Bool) (housed : S → O) (tells : O → Telling) (shown : S → Option Showing) (receipts : S → List Receipt) where
  abbrev Steps : S → Request (List ℕ) → Response → S → Type 0
  Steps old request response new =
      IsServed disk committee replica opening (rules (placed old)) (asks (placed old)) (tells (housed old)) (receipts old) (shown old) request response (receipts new) (shown new)
      × (housed new ≡ housed old) × (placed new ≡ placed old)

  pub chain_grows : (calls : List Exchanged) (old new : S) → Chain Steps old calls new → ReceiptsGrow (receipts old) (receipts new)
  chain_grows [] old new h = subst (λ (s : S). ReceiptsGrow (receipts old) (receipts s)) (sym h) (grow_none (receipts old))
  chain_grows (c ∷ calls) old new h =
      let it = h.1.0 in
      grow_then (receipts old) (receipts h.0) (receipts new)
      (all_grows disk committee replica opening (rules (placed old)) (asks (placed old)) (tells (housed old)) it.asked (receipts old) (shown old) c.1 (receipts h.0) (shown h.0) it.told it.served)
      (chain_grows calls h.0 new h.2)

  pub chain_shows : (calls : List Exchanged) (old new : S) → Chain Steps old calls new → IsSome (shown old) → IsSome (shown new)
  chain_shows [] old new h is = subst (λ (s : S). IsSome (shown s)) (sym h) is
  chain_shows (c ∷ calls) old new h is =
      let it = h.1.0 in
      chain_shows calls h.0 new h.2
      (all_shows disk committee replica opening (rules (placed old)) (asks (placed old)) (tells (housed old)) it.asked (receipts old) (shown old) c.1 (receipts h.0) (shown h.0) it.told it.served is)

  -- office and place stay
  pub chain_stays : (calls : List Exchanged) (old new : S) → Chain Steps old calls new → (housed new ≡ housed old) × (placed new ≡ placed old)
  chain_stays [] old new h = (ap housed h, ap placed h)
  chain_stays (c ∷ calls) old new h =
      let later = chain_stays calls h.0 new h.2 in
      (later.0 ∙ h.1.1, later.1 ∙ h.1.2)

  abbrev Back : O → P → Option Showing → List Exchanged → Option Showing → List Receipt → Type 0
  Back o p before calls after rs = AreBacked disk committee replica opening (rules p) (asks p) (tells o) rs before calls after

  pub chain_backs : (calls : List Exchanged) (old new : S) → Chain Steps old calls new → Back (housed old) (placed old) (shown old) calls (shown new) (receipts new)
  chain_backs [] old new h = ap shown (sym h)
  chain_backs (c ∷ calls) old new h =
      let it = h.1.0 in
      let later = subst (λ (o : O). Back o (placed old) (shown h.0) calls (shown new) (receipts new)) h.1.1
      (subst (λ (p : P). Back (housed h.0) p (shown h.0) calls (shown new) (receipts new)) h.1.2 (chain_backs calls h.0 new h.2)) in
      let grown = chain_grows calls h.0 new h.2 in (
        shown h.0,
        record {
          asked = it.asked;
          reads = it.reads;
          told = it.told;
          before = receipts old;
          after = receipts h.0;
          answers = all_backs disk committee replica opening (rules (placed old)) (asks (placed old)) (tells (housed old)) (receipts new) it.asked (receipts old) (shown old) c.1 (receipts h.0) (shown h.0) it.told grown it.served;
          grown = grown;
        },
        later,
      )
