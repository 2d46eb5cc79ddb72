use Rattle.std.proofs.Common.{codes, decimal}
use Rattle.hex.specs.Hex.{encode_lower}
use Rattle.program_about.specs.Sheets.{ballot_lines}
use Rattle.program_about.proofs.Pieces.{five_pieces, on_ok}
use Rattle.program_about.proofs.sheet.put_ballot.Goals as goal

pub returns : goal.returns
unfolding ballot_lines
returns c =
    on_ok c.put_id.result _ _ c.put_id.ensures.ok (λ last.
    five_pieces c.args.text.now.items c.args.place.now (codes " vote: view ") (decimal c.args.vote.now.view) (codes "\n  block ") (encode_lower c.args.vote.now.id)
    c.append.new.text.items c.append-2.new.text.items c.put_number.new.text.items c.append-3.new.text.items c.put_id.new.text.items
    c.in_ok-append.ensures.ok c.in_ok-append-2.ensures.ok c.in_ok-put_number.ensures.ok c.in_ok-append-3.ensures.ok last)
