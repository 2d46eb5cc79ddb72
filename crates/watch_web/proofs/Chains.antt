-- The calls of a connection, one after another.
use Rattle.std.proofs.Common.{◌≡◌, List, [], ◌∷◌, subst}
use Rattle.std.specs.Prelude.{String}
use Rattle.std.specs.List.{All}
use Rattle.std.specs.declared.alloc.Global.{Global}
use Rattle.std.proofs.lemmas.List.Elements.{All-cons, All-nil}
use Rattle.std.proofs.Common.{ℕ}
use Rattle.http.specs.declared.request.Request.{Request}
use Rattle.http_server.specs.declared.response.Response.{Response}
use Rattle.http_server.specs.Exchange.{Call as Exchanged, Chain}
use Rattle.watch_web.specs.Answers.{IsAnswered, IsCallAnswered}

module _ {S B : Type 0} (lent : S → B) (hosts : B → List (String Global)) where
  abbrev Steps : S → Request (List ℕ) → Response → S → Type 0
  Steps old request response new = IsAnswered (hosts (lent old)) request response × (lent new ≡ lent old)

  pub chain_answers : (calls : List Exchanged) (old new : S) → Chain Steps old calls new → All (IsCallAnswered (hosts (lent old))) calls
  chain_answers [] old new h = All-nil (IsCallAnswered (hosts (lent old)))
  chain_answers (c ∷ calls) old new h =
      All-cons (IsCallAnswered (hosts (lent old))) c calls h.1.0
      (subst (λ (b : B). All (IsCallAnswered (hosts b)) calls) h.1.1 (chain_answers calls h.0 new h.2))
