use Rattle.key_index_store.specs.Indices.{limit_of}
use Rattle.key_index_store.proofs.Bounds.{some_both, run_bounded, now_bounded, durable_bounded}
use Rattle.key_index_store.proofs.store.reserve.Goals as goal

pub returns-in_err-append-clause-any_moment : goal.returns-in_err-append-clause-any_moment
returns-in_err-append-clause-any_moment g c =
    let j = c.args.journal.now in
    some_both (g.D.Disk.bytes j.disk) _ _ _ c.requires.listed (c.append.ensures.any_moment c.requires.running) (λ x is_list run.
    run_bounded g.D.Disk.moment g.D.Disk.images_since j.disk c.append.new.self.disk (limit_of c.args.keys) c.args.count j.payloads c.reservation_text.result c.requires.room is_list c.reservation_text.ensures run)

pub returns-in_err-append-clause-bounded : goal.returns-in_err-append-clause-bounded
returns-in_err-append-clause-bounded g c =
    let j = c.args.journal.now in
    some_both (g.D.Disk.bytes j.disk) _ _ _ c.requires.listed (c.append.ensures.any_moment c.requires.running) (λ x is_list run.
    now_bounded g.D.Disk.moment g.D.Disk.images_since j.disk c.append.new.self.disk (g.D.Disk.images c.append.new.self.disk) _ _ (g.met.D.Disk.counts_now c.append.new.self.disk)
    (run_bounded g.D.Disk.moment g.D.Disk.images_since j.disk c.append.new.self.disk (limit_of c.args.keys) c.args.count j.payloads c.reservation_text.result c.requires.room is_list c.reservation_text.ensures run))

pub returns-clause-any_moment : goal.returns-clause-any_moment
returns-clause-any_moment g c =
    let j = c.args.journal.now in
    some_both (g.D.Disk.bytes j.disk) _ _ _ c.requires.listed (c.append.ensures.any_moment c.requires.running) (λ x is_list run.
    run_bounded g.D.Disk.moment g.D.Disk.images_since j.disk c.append.new.self.disk (limit_of c.args.keys) c.args.count j.payloads c.reservation_text.result c.requires.room is_list c.reservation_text.ensures run)

pub returns-clause-bounded : goal.returns-clause-bounded
returns-clause-bounded g c =
    let j = c.args.journal.now in
    some_both (g.D.Disk.bytes j.disk) _ _ _ c.requires.listed (c.append.ensures.any_moment c.requires.running) (λ x is_list run.
    now_bounded g.D.Disk.moment g.D.Disk.images_since j.disk c.append.new.self.disk (g.D.Disk.images c.append.new.self.disk) _ _ (g.met.D.Disk.counts_now c.append.new.self.disk)
    (run_bounded g.D.Disk.moment g.D.Disk.images_since j.disk c.append.new.self.disk (limit_of c.args.keys) c.args.count j.payloads c.reservation_text.result c.requires.room is_list c.reservation_text.ensures run))

pub returns-clause-durable : goal.returns-clause-durable
returns-clause-durable g c =
    let j = c.args.journal.now in
    let o = g.D.Disk.bytes j.disk in
    let both = some_both o _ _ (λ _. _ × _) c.requires.listed c.in_ok-append.ensures.ok (λ x is_list is_new. (is_list, is_new)) in
    some_both o _ _ _ both c.in_ok-append.ensures.durable (λ x both leaves.
    durable_bounded (limit_of c.args.keys) c.args.count (g.D.Disk.images c.append.new.self.disk) j.payloads c.append.new.self.payloads c.reservation_text.result c.requires.room both.0 c.reservation_text.ensures both.1 leaves)
