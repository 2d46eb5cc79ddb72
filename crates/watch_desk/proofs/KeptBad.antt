-- What a log gains of bad votes that were kept.
use Rattle.std.proofs.Common.{◌≡◌, ℕ, List, Option, None, Some, sym, subst, refl}
use Rattle.std.specs.Prelude.{slice_get, slice_set}
use Rattle.std.specs.List.{Contains}
use Rattle.certificates.specs.declared.vote.SignedVote.{SignedVote}
use Rattle.watch_desk.specs.Sources.{GainsOnce}
use Rattle.watch_desk.specs.Taking.{AreLogsKept, IsKeptIn}
use Rattle.watch_desk.specs.declared.source.LogKnown.{LogKnown}

pub kept_some : (logs : List LogKnown) (log : ℕ) (bad : List SignedVote) (k m : LogKnown) → slice_get logs log ≡ Some k → m.number ≡ k.number → m.told ≡ k.told
    → GainsOnce k.kept_bad.items m.kept_bad.items (Contains bad) → AreLogsKept logs (slice_set logs log m) log bad
kept_some logs log bad k m e number told gained =
    subst (λ (o : Option LogKnown). IsKeptIn logs (slice_set logs log m) log bad o) (sym e) (record { then = m; is = refl; number = number; told = told; gained = gained })

pub kept_none : (logs : List LogKnown) (log : ℕ) (bad : List SignedVote) → slice_get logs log ≡ None → AreLogsKept logs logs log bad
kept_none logs log bad e = subst (λ (o : Option LogKnown). IsKeptIn logs logs log bad o) (sym e) refl
