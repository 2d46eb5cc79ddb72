-- A backup is the list of a life.
use Rattle.std.proofs.Common.{List, [], ◌∷◌, ◌++◌, refl, sym, ◌∙◌, subst, inl}
use Rattle.std.specs.List.{AllByRecursion}
use Rattle.blocks.specs.Headers.{Header}
use Rattle.blocks.specs.Replica.{Stored, headers_of}
use Rattle.blocks.specs.Replay.{Durable, IsAttached, IsLegal, IsLegalFrom, first_durable, replay_entry}
use Rattle.blocks.proofs.LivesHold.{every_life, every_run}
use Rattle.replica_backups.specs.GuardLaws.{ABackupIsOfALife}

legal_front : (d : Durable) (xs ys : List Stored) → IsLegalFrom d (xs ++ ys) → IsLegalFrom d xs
legal_front d [] ys l = tt
legal_front d (x ∷ xs) ys l = (l.0, legal_front (replay_entry d x.voted x.block x.parent) xs ys l.1)

attached_front : (hs : List Header) (genesis : Header) (xs ys : List Stored) → AllByRecursion (IsAttached hs genesis) (xs ++ ys) → AllByRecursion (IsAttached hs genesis) xs
attached_front hs genesis [] ys a = tt
attached_front hs genesis (x ∷ xs) ys a = (a.0, attached_front hs genesis xs ys a.1)

pub backup_is_of_a_life : ABackupIsOfALife
backup_is_of_a_life genesis life backup lost g is found =
    let run = every_life genesis life (backup ++ lost) g is found in
    let hs = headers_of run.0 in
    let whole = (every_run genesis run.0 g run.1.is_run).1 in
    let all : AllByRecursion (IsAttached hs genesis) (backup ++ lost) =
    subst (λ (xs : List Stored). AllByRecursion (IsAttached hs genesis) xs) (sym whole.begins ∙ run.1.stores) whole.attached in
    let legal : IsLegal genesis (backup ++ lost) = subst (λ (xs : List Stored). IsLegal genesis xs) run.1.stores whole.legal in (
      record { headers = hs; opening = []; left = backup } ∷ [],
      (
        refl,
        record {
          legal = legal_front (first_durable genesis) backup lost legal;
          more = backup;
          begins = refl;
          attached = attached_front hs genesis backup lost all;
        },
        tt,
      ),
      inl refl,
    )
