use Rattle.std.proofs.Common.{◌≡◌, ◌<◌, [], List, ℕ, arith, length, rules, sym}
use Rattle.std.proofs.lemmas.Bool.Decides.{nat_tests}
use Rattle.log_export.proofs.Gates.{all_more, all_of}
use Rattle.log_export.proofs.splitting.JournalFront.are_indices.Goals as goal

pub loop-k-preserved : goal.loop-k-preserved
loop-k-preserved c =
    let within : c.loop-k.k < length c.args.self.now.payloads = omega (arith, c.loop-k-test.true, c.count-k-end.ensures.value) in
    all_more (λ payload. length payload ≡ 4) c.args.self.now.payloads c.loop-k.k within c.loop-k.invariant (search rules)

pub returns : goal.returns
returns c =
    let all = all_of (λ payload. length payload ≡ 4) c.args.self.now.payloads c.loop-k.k (omega (arith, c.loop-k-test.false, c.count-k-end.ensures.value)) c.loop-k.invariant in (
      λ some. (grind (arith, nat_tests), all),
      λ are. grind (arith, nat_tests),
    )
