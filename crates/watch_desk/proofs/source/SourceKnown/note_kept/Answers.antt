use Rattle.std.proofs.Common.{length, refl, sym}
use Rattle.std.proofs.lemmas.Bool.Decides.{Decides-ltb}
use Rattle.std.proofs.lemmas.Option.{slice_get_past, slice_get_read}
use Rattle.watch_desk.proofs.KeptBad.{kept_none, kept_some}
use Rattle.watch_desk.proofs.source.SourceKnown.note_kept.Goals as goal

pub returns-in_ok-add_each-clause-logs : goal.returns-in_ok-add_each-clause-logs
returns-in_ok-add_each-clause-logs c =
    kept_some c.args.self.now.logs.items c.args.log c.args.bad.now c.in-Some.known.now (record { number = c.in-Some.known.now.number; told = c.in-Some.known.now.told; kept_bad = c.add_each.new.list })
    (slice_get_read c.args.self.now.logs.items (length c.args.self.now.logs.items) c.args.log c.in-Some.known.now refl ((Decides-ltb c.args.log (length c.args.self.now.logs.items)).0 (sym c.in-Some.ensures.item.0)) c.in-Some.ensures.value) refl refl c.in_ok-add_each.ensures

pub returns-in_default-clause-logs : goal.returns-in_default-clause-logs
returns-in_default-clause-logs c = kept_none c.args.self.now.logs.items c.args.log c.args.bad.now (slice_get_past c.args.self.now.logs.items c.args.log c.in_default.ensures.item.3)
