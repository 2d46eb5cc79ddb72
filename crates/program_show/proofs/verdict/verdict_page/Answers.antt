use Rattle.std.proofs.Common.{◌≡◌, ◌++◌, ◌∷◌, ℕ, List, [], ap, ◌∙◌, subst}
use Rattle.verdict_format.specs.Verdicts.{earlier_in, earlier_key_in, earlier_signature_in, earlier_vote_in, later_in, later_key_in, later_signature_in, later_vote_in, replica_in}
use Rattle.certificates.specs.declared.vote.SignedVote.{SignedVote}
use Rattle.program_show.specs.Lines.{good_count_line, verdict_lines}
use Rattle.program_show.specs.Marks.{IsMark}
use Rattle.program_show.specs.declared.mark.Mark.{Mark}
use Rattle.program_show.proofs.verdict.verdict_page.Goals as goal

same_vote : (r r' v v' k k' : ℕ) (i i' s s' : List ℕ) → r ≡ r' → v ≡ v' → i ≡ i' → k ≡ k' → s ≡ s'
    → (let one : SignedVote = record { replica = r; view = v; id = i; key = k; signature = s } in let other : SignedVote = record { replica = r'; view = v'; id = i'; key = k'; signature = s' } in one ≡ other)
same_vote r r' v v' k k' i i' s s' a b c d e = cc

pub returns-in_ok-put_count-in-Ok : goal.returns-in_ok-put_count-in-Ok
returns-in_ok-put_count-in-Ok c =
    let bytes = c.args.bytes.now in
    let ok = c.in-Ok.ensures.ok in
    let first : IsMark c.args.committee.now (earlier_vote_in bytes) c.mark_in-first.result =
    subst (λ (v : SignedVote). IsMark c.args.committee.now v c.mark_in-first.result)
    (same_vote _ _ _ _ _ _ _ _ _ _ (ap (λ (b : List ℕ). replica_in b) ok.0) (c.earlier.ensures.view ∙ ap (λ (b : List ℕ). (earlier_in b).view) ok.0)
    (c.earlier.ensures.id ∙ ap (λ (b : List ℕ). (earlier_in b).id) ok.0) (c.earlier.ensures.key ∙ ap (λ (b : List ℕ). earlier_key_in b) ok.0) (c.earlier.ensures.signature ∙ ap (λ (b : List ℕ). earlier_signature_in b) ok.0)) c.mark_in-first.ensures in
    let second : IsMark c.args.committee.now (later_vote_in bytes) c.mark_in-second.result =
    subst (λ (v : SignedVote). IsMark c.args.committee.now v c.mark_in-second.result)
    (same_vote _ _ _ _ _ _ _ _ _ _ (ap (λ (b : List ℕ). replica_in b) ok.0) (c.later.ensures.view ∙ ap (λ (b : List ℕ). (later_in b).view) ok.0)
    (c.later.ensures.id ∙ ap (λ (b : List ℕ). (later_in b).id) ok.0) (c.later.ensures.key ∙ ap (λ (b : List ℕ). later_key_in b) ok.0) (c.later.ensures.signature ∙ ap (λ (b : List ℕ). later_signature_in b) ok.0)) c.mark_in-second.ensures in
    let marks : List Mark = c.mark_in-first.result ∷ c.mark_in-second.result ∷ [] in
    let lines = verdict_lines bytes c.mark_in-first.result c.mark_in-second.result in
    record {
      readable = ok.1;
      first = c.mark_in-first.result;
      is_first = first;
      second = c.mark_in-second.result;
      is_second = second;
      text_is = c.in_ok-put_count-in-Ok.ensures ∙ ap (λ (t : List ℕ). t ++ good_count_line c.args.committee.now marks)
          (c.in_ok-put_verdict-in-Ok.ensures ∙ ap (λ (t : List ℕ). t ++ lines) c.new-text.ensures.items);
    }
