-- What a source in memory gives.
use Rattle.std.proofs.Common.{◌≡◌, ℕ, zero, suc, List, [], ◌∷◌, ◌++◌, Bool, true, false, Option, Some, None, All, sym, ap, subst, ◌∙◌, arith, append_assoc}
use Rattle.std.specs.Prelude.{⊤}
use Rattle.base_streams.specs.Fuse.{after_call}
use Rattle.base_wire.specs.Pieces.{AreBytes}
use Rattle.log_transfer.specs.Connections.{Connection, GivesFirst, GivesSome, behind, ended}
use Rattle.log_transfer.specs.Scripts.{GivesOf, IsText, gives_all, stream_at}

-- no bytes are bytes
pub no_bytes : AreBytes []
no_bytes zero = omega arith
no_bytes (suc i) = omega arith

-- ---- something is given

pub some_of : (fuse : Option (ℕ × Bool)) (stream : Connection) → AreBytes stream.text → GivesSome (GivesOf fuse stream)
some_of fuse stream bytes = record { c = stream; is = gives_all fuse stream; bytes = bytes }

stream_bytes : (later : List Connection) (k : ℕ) → All IsText later → AreBytes (stream_at later k).text
stream_bytes [] k all = no_bytes
stream_bytes (s ∷ later) zero all = all 0 s (omega arith)
stream_bytes (s ∷ later) (suc k) all = stream_bytes later k (λ i x l. all (suc i) x (omega (arith, l)))

pub some_later : (fuse : Option (ℕ × Bool)) (later : List Connection) (k : ℕ) → All IsText later → GivesSome (GivesOf fuse (stream_at later k))
some_later fuse later k all = some_of fuse (stream_at later k) (stream_bytes later k all)

-- ---- bytes that were given

module _ (bytes : List ℕ) (old new : Connection) (split : old.text ≡ bytes ++ new.text) (fails : new.fails ≡ old.fails) where
  all_behind : (c : Connection) → c ≡ new → behind bytes c ≡ old
  all_behind c is = ap (λ (d : Connection). behind bytes d) is ∙ subst (λ (t : List ℕ). record { text = t; fails = new.fails } ≡ old) split (ap (λ (b : Bool). record { text = old.text; fails = b }) fails)

  first_behind : (c : Connection) → GivesFirst new c → GivesFirst old (behind bytes c)
  first_behind c g = record {
    lost = g.lost;
    part = split ∙ ap (λ (t : List ℕ). bytes ++ t) g.part ∙ sym (append_assoc bytes c.text g.lost);
    whole = λ ends. all_behind c (g.whole ends);
  }

  pub gives_behind : (fuse : Option (ℕ × Bool)) (c : Connection) → GivesOf (after_call fuse) new c → GivesOf fuse old (behind bytes c)
  gives_behind None c g = all_behind c g
  gives_behind (Some (zero, true)) c g = first_behind c g
  gives_behind (Some (zero, false)) c g = subst (λ (d : Connection). GivesFirst old d) (sym (all_behind c g)) (gives_all (Some (0, true)) old)
  gives_behind (Some (suc pass, forever)) c g = first_behind c g

-- ---- sources that tell nothing

pub some_of_any : GivesSome (λ (c : Connection). ⊤)
some_of_any = record { c = ended; is = tt; bytes = no_bytes }
