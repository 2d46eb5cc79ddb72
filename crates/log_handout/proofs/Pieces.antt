-- What stands in a copy of an export, and what comes next.
use Rattle.std.proofs.Common.{◌≡◌, ℕ, ◌+◌, ◌-◌, ◌<◌, ◌≤◌, ◌++◌, List, [], Option, Some, None, IfSome, codes, length, take, min, slice_range, refl, ap, sym, ◌∙◌, subst, inl, inr, arith, length-append}
use Rattle.std.proofs.Math.Seq.{take-append_seam}
use Rattle.log_format.specs.Exports.{asked_for, end_mark}
use Rattle.log_format.proofs.Texts.{length-end_mark}
use Rattle.vote_log.specs.Logs.{texts_of}
use Rattle.vote_desk.specs.Desks.{DeskView}
use Rattle.vote_desk.specs.Exports.{IsOut}
use Rattle.vote_desk.specs.SomeDesk.{SomeDesk}
use Rattle.log_handout.specs.declared.stage.Stage.{Stage}
use Rattle.log_handout.specs.declared.stage.Stage.TheVariants.{Frames}
use Rattle.log_handout.specs.Handouts.{AreFrames, Handed, IsLast, IsMore, IsPiece, IsPieceAt, frames_of}

-- between the front and eight bytes at the end
pub middle : (mid back : List ℕ) (n : ℕ) → length back ≡ 8 → n ≡ length (codes "HSL1" ++ (mid ++ back)) → slice_range (codes "HSL1" ++ (mid ++ back)) 4 (n - 8) ≡ mid
middle mid back n eight is =
    let sum : length (mid ++ back) ≡ length mid + length back = length-append mid back in
    let count : (n - 8) - 4 ≡ length mid = omega (arith, eight, is, sum) in
    ap (λ k. take k (mid ++ back)) count ∙ take-append_seam mid back

-- .. of an export
pub between : (export mid : List ℕ) (count : ℕ) → export ≡ codes "HSL1" ++ (mid ++ end_mark count) → slice_range export 4 (length export - 8) ≡ mid
between export mid count is =
    subst (λ (e : List ℕ). slice_range e 4 (length e - 8) ≡ mid) (sym is) (middle mid (end_mark count) _ (length-end_mark count) refl)

if_some : {A : Type 0} (o : Option A) {P Q : Type 0} → (P → Q) → IfSome o (λ _. P) → IfSome o (λ _. Q)
if_some (Some x) f p = f p
if_some None f p = p

some_inside : (a b : List ℕ) → Some a ≡ Some b → a ≡ b
some_inside a b e = cc

module _ {D : Type 0} (bytes : D → Option (List ℕ)) (IsDesk : DeskView D → Type 0) (first most frames : ℕ) (before after piece : List ℕ) where
  -- what an export copied is frames, with a front and an end
  pub frames_out : before ≡ [] → ((mid : List ℕ) (count : ℕ) → after ≡ codes "HSL1" ++ (mid ++ end_mark count) → piece ≡ mid)
      → SomeDesk IsDesk (λ d. IsOut bytes d.log first most (Some before) (Some after) frames) → SomeDesk IsDesk (AreFrames bytes first most piece frames)
  frames_out none cut s = record {
    desk = s.desk;
    is_desk = s.is_desk;
    is = record {
      as_many = s.is.count;
      told = if_some (bytes s.desk.log.disk) (λ wrote. cut (frames_of s.desk.log.entries first most) (length (asked_for (texts_of s.desk.log.entries) first most)) (some_inside _ _ wrote ∙ ap (λ (b : List ℕ). b ++ (codes "HSL1" ++ (frames_of s.desk.log.entries first most ++ end_mark (length (asked_for (texts_of s.desk.log.entries) first most))))) none)) s.is.wrote;
    };
  }

module _ {D : Type 0} (SomeOne : (DeskView D → Type 0) → Type 0) (bytes : D → Option (List ℕ)) (share : ℕ) (h h' : Handed) (piece : List ℕ) where
  pub piece_of_more : h.stage ≡ Frames → IsMore SomeOne bytes share h h' piece → IsPiece SomeOne bytes share h h' (Some piece)
  piece_of_more e m = subst (λ (s : Stage). IsPieceAt SomeOne bytes share s h h' (Some piece)) (sym e) (inl m)

  pub piece_of_last : h.stage ≡ Frames → IsLast SomeOne bytes share h h' piece → IsPiece SomeOne bytes share h h' (Some piece)
  piece_of_last e m = subst (λ (s : Stage). IsPieceAt SomeOne bytes share s h h' (Some piece)) (sym e) (inr m)

module _ {D : Type 0} (bytes : D → Option (List ℕ)) (IsDesk : DeskView D → Type 0) (first most : ℕ) (piece : List ℕ) (count : ℕ) where
  -- a list that gives no frames where some are wanted has no more
  pub none_left : 0 < most → count ≡ 0 → SomeDesk IsDesk (AreFrames bytes first most piece count) → SomeDesk IsDesk (λ d. length d.log.steps ≤ first)
  none_left some none s =
      let as_many : count ≡ min most (length s.desk.log.steps - first) = s.is.as_many in
      record { desk = s.desk; is_desk = s.is_desk; is = omega (arith, some, none, as_many) }
