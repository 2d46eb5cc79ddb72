use Rattle.std.proofs.Common.{◌≡◌, ◌++◌, ◌∙◌, ap, string_bytes, rules}
use Rattle.audit_picture.specs.Findings.{findings_in, findings_text}
use Rattle.audit_picture.specs.Pictures.{end, front}
use Rattle.audit_picture.proofs.drawing.draw.Goals as goal

pub returns : goal.returns
returns c =
    let above = string_bytes c.in_ok-above.above in
    let lines = string_bytes c.in_ok-lines.lines in
    let legend = string_bytes c.in_ok-legend.legend in
    let words = findings_text (findings_in c.args.scene.now) in
    let blocks = c.in_ok-put_blocks.ensures.0 in
    let lanes = c.in_ok-put_lanes.ensures.0 in
    let sources = c.in_ok-put_sources.ensures.0 in
    let at_front : string_bytes c.in_ok-text.text ≡ front = search rules in
    let with_above : string_bytes c.push_str.new.self ≡ front ++ above = search rules in
    let description = c.in_ok-put_description.ensures.0 in
    let with_description : string_bytes c.put_description.new.text ≡ front ++ above ++ description =
    c.in_ok-put_description.ensures.2 ∙ ap (λ t. t ++ description) with_above in
    let with_words : string_bytes c.put_findings.new.text ≡ front ++ above ++ description ++ words = search rules in
    let with_lines : string_bytes c.push_str-2.new.self ≡ front ++ above ++ description ++ words ++ lines = search rules in
    let with_blocks : string_bytes c.put_blocks.new.text ≡ front ++ above ++ description ++ words ++ lines ++ blocks =
    c.in_ok-put_blocks.ensures.2 ∙ ap (λ t. t ++ blocks) with_lines in
    let with_lanes : string_bytes c.put_lanes.new.text ≡ front ++ above ++ description ++ words ++ lines ++ blocks ++ lanes =
    c.in_ok-put_lanes.ensures.2 ∙ ap (λ t. t ++ lanes) with_blocks in
    let with_legend : string_bytes c.push_str-3.new.self ≡ front ++ above ++ description ++ words ++ lines ++ blocks ++ lanes ++ legend = search rules in
    let with_sources : string_bytes c.put_sources.new.text ≡ front ++ above ++ description ++ words ++ lines ++ blocks ++ lanes ++ legend ++ sources =
    c.in_ok-put_sources.ensures.2 ∙ ap (λ t. t ++ sources) with_legend in
    let whole : string_bytes c.push_str-4.new.self ≡ front ++ above ++ description ++ words ++ lines ++ blocks ++ lanes ++ legend ++ sources ++ end = search rules in
    record {
      above = above;
      description = description;
      is_description = c.in_ok-put_description.ensures.1;
      lines = lines;
      blocks = blocks;
      are_blocks = c.in_ok-put_blocks.ensures.1;
      lanes = lanes;
      are_lanes = c.in_ok-put_lanes.ensures.1;
      legend = legend;
      sources = sources;
      are_sources = c.in_ok-put_sources.ensures.1;
      text_is = whole;
    }
