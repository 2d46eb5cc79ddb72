use Rattle.std.proofs.Common.{◌∙◌, ◌++◌, ◌∷◌, [], List, ap, refl}
use Rattle.watch_desk.specs.declared.source.LogKnown.{LogKnown}
use Rattle.watch_desk.proofs.source.SourceKnown.new.Goals as goal

pub returns-clause-fresh : goal.returns-clause-fresh
returns-clause-fresh c = record {
  logs = (c.of.result, c.of.ensures.number, c.of.ensures.fresh, c.in_ok-push.ensures.items ∙ ap (λ (ls : List LogKnown). ls ++ c.of.result ∷ []) c.new-logs.ensures.items);
  status = refl;
  bad = c.new.ensures.items;
  top_view = refl;
  times_back = refl;
  back_told = refl;
  back = refl;
  is_beyond = refl;
  digests = refl;
}
