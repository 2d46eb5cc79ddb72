use Rattle.std.proofs.Common.{◌≡◌, ◌<◌, ◌∙◌, ℕ, Bool, false, List, ◌++◌, ap, append_assoc, arith, codes, length, sym, take}
use Rattle.std.proofs.lemmas.List.{take_all}
use Rattle.std.specs.Prelude.{slice_index_or}
use Rattle.signer_service.specs.Metrics.{source_lines, source_text, sources_head, sources_text}
use Rattle.signer_service.proofs.Results.{ok_so}
use Rattle.signer_service.proofs.Pieces.{by_three}
use Rattle.signer_service.proofs.SourceLines.{first_lines_more}
use Rattle.signer_service.proofs.metrics.put_sources.Goals as goal

pub loop-at-preserved : goal.loop-at-preserved
loop-at-preserved c =
    let at = c.loop-at.at in
    let heard = c.args.heard.now in
    let before = c.put_slice.new.self.items in
    let text = source_text at (slice_index_or heard at false) in
    let low : at < length heard = omega arith in
    c.put_source.ensures
    ∙ ap (λ (t : List ℕ). t ++ text) (c.in_ok-reserve.ensures.kept ∙ c.loop-at.invariant)
    ∙ append_assoc before (source_lines 0 (take at heard)) text
    ∙ ap (λ (t : List ℕ). before ++ t) (sym (first_lines_more heard at low))

pub returns : goal.returns
returns c =
    let heard = c.args.heard.now in
    let old = c.args.body.now.items in
    let begun = c.put_slice.new.self.items in
    let lines = c.loop-at.body.items in
    let out = c.put_slice-2.new.self.items in
    let all : take c.loop-at.at heard ≡ heard = take_all c.loop-at.at heard (omega arith) in
    let told : lines ≡ begun ++ source_lines 0 heard = c.loop-at.invariant ∙ ap (λ (h : List Bool). begun ++ source_lines 0 h) all in
    ok_so {P = out ≡ lines ++ codes "\n"} {Q = out ≡ old ++ sources_text heard} c.put_slice-2.result
    (by_three old sources_head (source_lines 0 heard) (codes "\n") begun lines out c.in_ok-put_slice.ensures.ok told) c.put_slice-2.ensures.ok
