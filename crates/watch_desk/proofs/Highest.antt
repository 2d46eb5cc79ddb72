-- The greatest view of some headers.
use Rattle.std.proofs.Common.{◌≡◌, ◌∙◌, ◌+◌, ◌<◌, ◌++◌, ◌∷◌, ℕ, List, [], length, get_or, take, sym, ap, refl}
use Rattle.std.proofs.lemmas.List.{take_more}
use Rattle.blocks.specs.Headers.{Header}
use Rattle.watch_desk.specs.Hearing.{highest}
use Rattle.watch_desk.specs.Sources.{larger}

highest_push : (top : ℕ) (hs : List Header) (x : Header) → highest top (hs ++ x ∷ []) ≡ larger (highest top hs) x.view
highest_push top [] x = refl
highest_push top (h ∷ hs) x = highest_push (larger top h.view) hs x

pub highest_more : (top : ℕ) (hs : List Header) (i : ℕ) (x : Header) → i < length hs → x ≡ get_or hs i x → highest top (take (i + 1) hs) ≡ larger (highest top (take i hs)) x.view
highest_more top hs i x there is =
    ap (highest top) (take_more hs i x there ∙ ap (λ (h : Header). take i hs ++ h ∷ []) (sym is)) ∙ highest_push top (take i hs) x
