use Rattle.std.proofs.Common.{◌≡◌, ◌∙◌, ℕ, ◌-◌, ap, length, min}
use Rattle.vote_desk.specs.declared.parts.DeskStatus.{DeskStatus}
use Rattle.log_handout.specs.Handouts.{Handed}
use Rattle.log_handout.specs.declared.stage.Stage.TheVariants.{Front}
use Rattle.log_handout.proofs.handout.Handout.begin.Goals as goal

pub returns : goal.returns
returns g c =
    let d = c.status.ensures.desk in
    let r = c.args.request in
    let there : c.status.result.entries ≡ length d.log.steps = ap (λ (s : DeskStatus). s.entries) c.status.ensures.is in
    let counted : c.capped-entries.result ≡ min (length d.log.steps) 4294967295 = c.capped-entries.ensures ∙ ap (λ (n : ℕ). min n 4294967295) there in
    let left : c.saturating_sub.result ≡ min (length d.log.steps) 4294967295 - r.first = c.saturating_sub.ensures ∙ ap (λ (n : ℕ). n - r.first) counted in
    let most : c.min.result ≡ min r.most (min (length d.log.steps) 4294967295 - r.first) = c.min.ensures ∙ ap (λ (n : ℕ). min r.most n) left in
    let made : ℕ → Handed = λ m. record { first = r.first; most = m; sent = 0; stage = Front } in
    record { desk = d; is_desk = c.status.ensures.is_desk; is = ap made most }
