use Rattle.base_wire.specs.Pieces.{AreBytes}
use Rattle.log_format.proofs.Texts.{AreBytes-drop}
use Rattle.std.proofs.Common.{◌≡◌, ◌≤◌, ◌+◌, ◌-◌, ◌∙◌, ◌++◌, List, ℕ, length, take, drop, sym, ap, subst, arith, rules}
use Rattle.std.proofs.lemmas.List.{drop-drop, length-drop, length-take, take_at, take-append-drop}
use Rattle.log_transfer.specs.Connections.{Connection}
use Rattle.log_transfer.proofs.memory_connector.MemoryStream.give.Goals as goal

given_split : (bytes text copied tail : List ℕ) (g n : ℕ) → drop g bytes ≡ text → copied ≡ take (g + n - g) (drop g bytes) → g + n ≤ length bytes → text ≡ take n (copied ++ tail) ++ drop (g + n) bytes
given_split bytes text copied tail g n is same fits =
    let size : g + n - g ≡ n = omega arith in
    let here : copied ≡ take n (drop g bytes) = same ∙ ap (λ (m : ℕ). take m (drop g bytes)) size in
    let long : length copied ≡ n = ap length here ∙ (let a = length-take n (drop g bytes) in let b = length-drop g bytes in omega arith) in
    sym is ∙ sym (take-append-drop n (drop g bytes))
    ∙ ap (λ (t : List ℕ). t ++ drop n (drop g bytes)) (sym here ∙ sym (take_at copied tail n long))
    ∙ ap (λ (t : List ℕ). take n (copied ++ tail) ++ t) (drop-drop n g bytes)

pub returns-clause-ok : goal.returns-clause-ok
returns-clause-ok c =
    let s = c.self.inside in
    let n = c.min-n.result in
    let is : drop s.given s.bytes.items ≡ c.args.self.now.text = ap (λ (x : Connection). x.text) c.self.view_is in
    let copied = subst (λ (t : List ℕ). c.copy_from_slice.new.self ≡ take (s.given + n - s.given) (drop s.given t)) c.deref.ensures.value c.copy_from_slice.ensures.after in
    (search rules, given_split s.bytes.items c.args.self.now.text c.copy_from_slice.new.self _ s.given n is copied (omega arith))

pub returns-clause-bytes : goal.returns-clause-bytes
returns-clause-bytes c bytes =
    let s = c.self.inside in
    let n = c.min-n.result in
    let is : drop s.given s.bytes.items ≡ c.args.self.now.text = ap (λ (x : Connection). x.text) c.self.view_is in
    subst (λ (t : List ℕ). AreBytes t) (ap (λ (t : List ℕ). drop n t) (sym is) ∙ drop-drop n s.given s.bytes.items) (AreBytes-drop n c.args.self.now.text bytes)
