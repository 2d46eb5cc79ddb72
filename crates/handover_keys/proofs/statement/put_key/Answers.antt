use Rattle.std.proofs.Common.{◌≡◌, ℕ, List, length, sym, ap, ◌∙◌, arith}
use Rattle.handover_keys.proofs.NextKeysLaws.{public_of_long}
use Rattle.handover_keys.proofs.statement.put_key.Goals as goal

pub returns-clause-public_key : goal.returns-clause-public_key
returns-clause-public_key c =
    let long : length c.to_bytes.result ≡ 56 = omega arith in
    public_of_long c.args.key.now.key_id c.args.key.now.root (ap (λ (t : List ℕ). length t) (sym c.to_bytes.ensures) ∙ long)
