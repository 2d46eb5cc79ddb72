use Rattle.std.proofs.Common.{◌≡◌, ◌<◌, ◌-◌, ◌∙◌, ◌++◌, ◌∷◌, [], List, ℕ, length, take, ap, sym, subst, arith}
use Rattle.log_format.specs.Readings.{room_beside}
use Rattle.log_format.proofs.Fronts.{shorter}
use Rattle.log_transfer.specs.Pulled.{Decides, IsSoFar, room_of}
use Rattle.log_transfer.proofs.Takings.{so_far_more, behind_of, kept_more}
use Rattle.log_transfer.proofs.taking.take_frames.Goals as goal

pub loop-payload-smaller : goal.loop-payload-smaller
loop-payload-smaller c = shorter c.loop-payload.rest.now c.in-Frame.payload.now c.in-Frame.behind.now c.in-Frame.ensures.1

pub loop-payload-preserved : goal.loop-payload-preserved
loop-payload-preserved c =
    let inv = c.loop-payload.invariant in
    let text = c.args.text.now in
    let rest = c.loop-payload.rest.now in
    let payload = c.in-Frame.payload.now in
    let behind = c.in-Frame.behind.now in
    let frame = c.in-Frame.ensures.1 in
    let items = c.loop-payload.frames.items in
    let pushed : c.push.new.self.items ≡ items ++ payload ∷ [] = c.in_ok-push-in-Frame.ensures.items ∙ ap (λ (x : List ℕ). items ++ x ∷ []) c.in_ok-of-in-Frame.ensures in
    let some : 0 < room_beside c.args.held - length items = omega (arith, c.in-Frame.ensures.0, c.room.ensures, c.len-count.ensures) in
    let less = shorter rest payload behind frame in
    record {
      within = omega (arith, less, inv.within);
      behind = behind_of text rest payload behind inv.within inv.behind frame;
      kept = subst (λ (l : List (List ℕ)). take (length c.args.frames.now.items) l ≡ c.args.frames.now.items) (sym pushed) (kept_more c.args.frames.now.items items payload inv.kept);
      so_far = λ stream s. subst (λ (l : List (List ℕ)). IsSoFar c.args.held stream l behind) (sym pushed) (so_far_more c.args.held stream items rest payload behind some frame (inv.so_far stream s));
    }

pub returns-in-End-clause-ok : goal.returns-in-End-clause-ok
returns-in-End-clause-ok c =
    let inv = c.loop-payload.invariant in
    let items = c.loop-payload.frames.items in
    let count : c.len-count.result ≡ length items = omega (arith, c.len-count.ensures) in
    let room : c.room.result ≡ room_of c.args.held items = omega (arith, c.room.ensures, c.len-count.ensures) in
    record {
      so_far = λ stream s. subst (λ (t : List ℕ). IsSoFar c.args.held stream items t) inv.behind (inv.so_far stream s);
      goes_on =
          subst (λ (t : List ℕ). Decides (length items) (room_of c.args.held items) t c.in-End.status) inv.behind
          (subst (λ (n : ℕ). Decides (length items) n c.loop-payload.rest.now c.in-End.status) room
          (subst (λ (n : ℕ). Decides n c.room.result c.loop-payload.rest.now c.in-End.status) count c.in-End.ensures));
    }
