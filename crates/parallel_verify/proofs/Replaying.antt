-- Entries that are replayed while their frames come.
use Rattle.std.proofs.Common.{◌≡◌, ◌↔◌, ◌∙◌, ◌≤◌, ◌==◌, ◌||◌, ◌++◌, ◌∷◌, [], ℕ, Bool, true, false, List, Some, Result, Ok, Err, length, drop, refl, sym, ap, subst, arith}
use Rattle.std.specs.Prelude.{IsOk, IsTrue}
use Rattle.std.proofs.lemmas.Bool.Decides.{nat_tests}
use Rattle.std.proofs.lemmas.List.{length-drop, length-take}
use Rattle.base_wire.specs.Pieces.{piece}
use Rattle.base_wire.proofs.Needs.{need_ok}
use Rattle.blocks.specs.Headers.{Header}
use Rattle.blocks.specs.HeaderReading.{header_in}
use Rattle.blocks.specs.declared.header.HeaderRefusal.{HeaderRefusal}
use Rattle.blocks.specs.Replica.{Stored}
use Rattle.blocks.specs.Replay.{Durable, IsLegal, IsLegalEntry, IsLegalFrom, first_durable, replay, replay_entry, replay_from}
use Rattle.audit_evidence.specs.Logs.{SpellsEntry}
use Rattle.log_format.specs.EntryReading.{own_in}
use Rattle.log_format.specs.EntryText.{is_signed}
use Rattle.log_format.proofs.EntryLaws.{entry_again}
use Rattle.log_format.proofs.EntryParts.{header_is}
use Rattle.parallel_verify.specs.Steps.{AreReplayed, has_vote, step_in, steps_in}
use Rattle.parallel_verify.specs.declared.steps.Steps.{Steps}

-- ---- one entry more

legal_more : (d : Durable) (xs : List Stored) (x : Stored) → IsLegalFrom d xs → IsLegalEntry (replay_from d xs) x.voted x.block x.parent → IsLegalFrom d (xs ++ x ∷ [])
legal_more d [] x so_far here = (here, tt)
legal_more d (y ∷ ys) x so_far here = (so_far.0, legal_more (replay_entry d y.voted y.block y.parent) ys x so_far.1 here)

legal_last : (d : Durable) (xs : List Stored) (x : Stored) → IsLegalFrom d (xs ++ x ∷ []) → IsLegalFrom d xs × IsLegalEntry (replay_from d xs) x.voted x.block x.parent
legal_last d [] x legal = (tt, legal.0)
legal_last d (y ∷ ys) x legal = let last = legal_last (replay_entry d y.voted y.block y.parent) ys x legal.1 in ((legal.0, last.0), last.1)

replay_more : (d : Durable) (xs : List Stored) (x : Stored) → replay_from d (xs ++ x ∷ []) ≡ replay_entry (replay_from d xs) x.voted x.block x.parent
replay_more d [] x = refl
replay_more d (y ∷ ys) x = replay_more (replay_entry d y.voted y.block y.parent) ys x

steps_more : (frames : List (List ℕ)) (frame : List ℕ) → steps_in (frames ++ frame ∷ []) ≡ steps_in frames ++ step_in frame ∷ []
steps_more [] frame = refl
steps_more (f ∷ fs) frame = ap (λ (xs : List Stored). step_in f ∷ xs) (steps_more fs frame)

pub replayed_none : (genesis : Header) (s : Steps) → s.left ≡ first_durable genesis → s.are_legal ≡ true → s.has_voted ≡ false → AreReplayed genesis [] s
replayed_none genesis s left legal voted = record { left = left; legal = (λ _. tt, λ _. legal); voted = voted }

pub or_true : (a b : Bool) → a ≡ true → a ≡ (a || b)
or_true true b is = refl
or_true false b is = absurd cc

pub or_second : (a b : Bool) → a ≡ false → b ≡ (a || b)
or_second true b is = absurd cc
or_second false b is = refl

pub some_is : (x y : Stored) → Some x ≡ Some y → x ≡ y
some_is x y same = cc

or_false : (b : Bool) → (b || false) ≡ (false || b)
or_false true = refl
or_false false = refl

or_assoc : (a b c : Bool) → ((a || b) || c) ≡ (a || (b || c))
or_assoc true b c = refl
or_assoc false b c = refl

votes_more : (xs : List Stored) (x : Stored) → has_vote (xs ++ x ∷ []) ≡ has_vote xs || x.voted
votes_more [] x = or_false x.voted
votes_more (y ∷ ys) x = ap (λ (b : Bool). y.voted || b) (votes_more ys x) ∙ sym (or_assoc y.voted (has_vote ys) x.voted)

pub replayed_more : (genesis : Header) (frames : List (List ℕ)) (frame : List ℕ) (s t : Steps) (x : Stored) → x ≡ step_in frame → AreReplayed genesis frames s
    → IsTrue t.are_legal ↔ (IsTrue s.are_legal × IsLegalEntry s.left x.voted x.block x.parent) → t.left ≡ replay_entry s.left x.voted x.block x.parent → t.has_voted ≡ s.has_voted || x.voted
    → AreReplayed genesis (frames ++ frame ∷ []) t
replayed_more genesis frames frame s t x is so_far decides then voted =
    let more : List Stored = steps_in frames ++ x ∷ [] in
    let spelled : more ≡ steps_in (frames ++ frame ∷ []) = ap (λ (y : Stored). steps_in frames ++ y ∷ []) is ∙ sym (steps_more frames frame) in
    let here : (d : Durable) → Type 0 = λ d. IsLegalEntry d x.voted x.block x.parent in
    record {
      left =
          then ∙ ap (λ (d : Durable). replay_entry d x.voted x.block x.parent) so_far.left ∙ sym (replay_more (first_durable genesis) (steps_in frames) x)
          ∙ ap (replay genesis) spelled;
      legal = (
        λ t. (let w = decides.0 t in subst (IsLegal genesis) spelled (legal_more (first_durable genesis) (steps_in frames) x (so_far.legal.0 w.0) (subst here so_far.left w.1))),
        λ all. (let w = legal_last (first_durable genesis) (steps_in frames) x (subst (IsLegal genesis) (sym spelled) all) in decides.1 (so_far.legal.1 w.0, subst here (sym so_far.left) w.1)),
      );
      voted = voted ∙ ap (λ (b : Bool). b || x.voted) so_far.voted ∙ sym (votes_more (steps_in frames) x) ∙ ap has_vote spelled;
    }

-- ---- the front of an entry

-- both headers stand at the front of an entry, and its first byte says whether there is a vote
pub record HasFront (frame : List ℕ) : Type 0 where
  pub long : 169 ≤ length frame
  pub block : IsOk (header_in (piece 84 frame 1))
  pub parent : IsOk (header_in (piece 84 frame 85))

header_long : (bytes : List ℕ) → IsOk (header_in bytes) → (length bytes == 84) ≡ true
unfolding header_in
header_long bytes ok = (need_ok (length bytes == 84) _ _ _ (header_is bytes ok)).0

pub front_of : (frame : List ℕ) → SpellsEntry frame → HasFront frame
front_of frame spells =
    let headers = (entry_again frame spells.0 spells.1).0.1.1.0 in
    let size = header_long (piece 84 frame 85) headers.1 in
    record {
      long = grind (arith, nat_tests, length-take 84 (drop 85 frame), length-drop 85 frame);
      block = headers.0;
      parent = headers.1;
    }

pub signed_is : (voted : Bool) (frame : List ℕ) → is_signed (own_in voted frame) ≡ voted
unfolding own_in
signed_is true frame = refl
signed_is false frame = refl

pub err_is_not_ok : (bytes : List ℕ) (refusal : HeaderRefusal) → Err refusal ≡ header_in bytes → IsOk (header_in bytes) → ⊥
err_is_not_ok bytes refusal is ok = not_both (header_in bytes) is ok
  where
    not_both : (r : Result Header HeaderRefusal) → Err refusal ≡ r → IsOk r → ⊥
    not_both (Ok h) same some = absurd cc
    not_both (Err e) same some = absurd cc
