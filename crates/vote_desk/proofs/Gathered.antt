-- Receipts of sessions.
use Rattle.std.proofs.Common.{◌≡◌, List, [], ◌∷◌, ◌++◌, sym, ap, ◌∙◌, append_assoc, append-nil}
use Rattle.std.specs.Prelude.{map}
use Rattle.vote_desk.specs.declared.reply.Receipt.{Receipt}
use Rattle.vote_desk.specs.Receipts.{receipts_of}

pub receipts_push : {X : Type 0} (f : X → List Receipt) (xs : List X) (x : X) → receipts_of (map f (xs ++ x ∷ [])) ≡ f x ++ receipts_of (map f xs)
receipts_push f [] x = sym (append-nil (f x))
receipts_push f (y ∷ ys) x = ap (λ (l : List Receipt). l ++ f y) (receipts_push f ys x) ∙ append_assoc (f x) (receipts_of (map f ys)) (f y)

-- with the last list moved to the front
pub receipts_popped : {X : Type 0} (f : X → List Receipt) (xs rest : List X) (x : X) → xs ≡ rest ++ x ∷ [] → f x ++ receipts_of (map f rest) ≡ receipts_of (map f xs)
receipts_popped f xs rest x is = sym (ap (λ (l : List _). receipts_of (map f l)) is ∙ receipts_push f rest x)
