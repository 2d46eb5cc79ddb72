-- What was printed where a signer gives up.
use Rattle.std.proofs.Common.{◌≡◌, ℕ, List, [], ◌++◌, Option, Some, None, refl, sym, ap, subst, ◌∙◌, length, arith}
use Rattle.base_streams.specs.Streams.{Wrote, WrotePart}
use Rattle.base_streams.proofs.Writing.{wrote_both, wrote_nothing, wrote_part}
use Rattle.base_text.proofs.Pieces.{part_of_front, part_behind}
use Rattle.std.proofs.lemmas.List.{take_all}
use Rattle.program_parts.specs.declared.program_fault.ProgramFault.TheVariants as program
use Rattle.program_parts.specs.Writes.{CountsOutput}
use Rattle.signer_command.specs.Ends.{Fault, IsEndBehind, IsGivenUp, IsLate, IsPart}
use Rattle.signer_command.specs.Lines.{IsAnnounced, Places, closed_line, listening_text}
use Rattle.signer_command.specs.declared.announcing.Announced.{Announced}
use Rattle.signer_command.specs.declared.announcing.Announced.TheVariants.{NotBegun, Unsaid, Over}
use Rattle.signer_command.specs.declared.fault.SignerFault.TheVariants.{DiskFailed, Endless, FileIn, Lineage, Store, Receipts, Socket, Listen, Threads, Word}

-- a part of where calls are taken
pub part_printed : (before after : Option (List ℕ)) (places : Places) → WrotePart before after (listening_text places) → IsPart before after
part_printed before after places part = record {
  places = places;
  count = 0;
  wrote = part_of_front before after (listening_text places) (closed_line 0) part;
}

-- all of it
pub whole_part : (before after : Option (List ℕ)) (text : List ℕ) → Wrote before after text → WrotePart before after text
whole_part None after text wrote = tt
whole_part (Some front) after text wrote = (length text, wrote ∙ ap (λ (t : List ℕ). Some (front ++ t)) (sym (take_all (length text) text (omega arith))))

pub whole_printed : (before after : Option (List ℕ)) (places : Places) → Wrote before after (listening_text places) → IsPart before after
whole_printed before after places wrote = part_printed before after places (whole_part before after (listening_text places) wrote)

-- all of it, and a part of the last line
pub part_of_last : (before mid after : Option (List ℕ)) (places : Places) (count : ℕ) → Wrote before mid (listening_text places) → WrotePart mid after (closed_line count) → IsPart before after
part_of_last before mid after places count wrote part = record {
  places = places;
  count = count;
  wrote = part_behind before mid after (listening_text places) (closed_line count) wrote part;
}

-- nothing
pub nothing_printed : (before : Option (List ℕ)) → IsPart before before
nothing_printed before = part_printed before before (record { calls = []; reads = None; log = None }) (wrote_part before before _ 0 (wrote_nothing before))

pub nothing_given_up : (fault : Fault) (before : Option (List ℕ)) → IsGivenUp fault before before
nothing_given_up program.Usage before = refl
nothing_given_up program.Memory before = nothing_printed before
nothing_given_up (program.File path) before = refl
nothing_given_up (program.Committee refusal) before = refl
nothing_given_up program.Output before = nothing_printed before
nothing_given_up (program.Own (FileIn folder file)) before = nothing_printed before
nothing_given_up (program.Own (Store number)) before = nothing_printed before
nothing_given_up (program.Own Receipts) before = nothing_printed before
nothing_given_up (program.Own (DiskFailed socket)) before = nothing_printed before
nothing_given_up (program.Own (Socket folder)) before = refl
nothing_given_up (program.Own Listen) before = refl
nothing_given_up (program.Own Threads) before = nothing_printed before
nothing_given_up (program.Own (Lineage chain)) before = nothing_printed before
nothing_given_up (program.Own Endless) before = nothing_printed before
nothing_given_up (program.Own (Word word)) before = refl

-- whatever came of announcing, a part of it was printed
pub announced_part : (announced : Announced) (before after : Option (List ℕ)) (failures failures' : ℕ) (places : Places) (text : List ℕ)
    → text ≡ listening_text places → IsAnnounced announced before after failures failures' text → IsPart before after
announced_part NotBegun before after failures failures' places text is said =
    subst (λ (t : Option (List ℕ)). IsPart before t) (sym said.0) (nothing_printed before)
announced_part Unsaid before after failures failures' places text is said =
    part_printed before after places (subst (λ (t : List ℕ). WrotePart before after t) is said.0)
announced_part Over before after failures failures' places text is said =
    whole_printed before after places (subst (λ (t : List ℕ). Wrote before after t) is said.0)

-- where nothing hindered it, all of it was
pub announced_whole : (announced : Announced) (before after : Option (List ℕ)) (failures failures' : ℕ) (places : Places) (text : List ℕ)
    → announced ≡ Over → text ≡ listening_text places → IsAnnounced announced before after failures failures' text → Wrote before after (listening_text places)
announced_whole announced before after failures failures' places text over is said =
    let all = subst (λ (a : Announced). IsAnnounced a before after failures failures' text) over said in
    subst (λ (t : List ℕ). Wrote before after t) is all.0

-- behind the lines, or a part of them, for what may come so late
pub given_up_late : (fault : Fault) (before after : Option (List ℕ)) → IsLate fault → IsPart before after → IsGivenUp fault before after
given_up_late program.Memory before after late part = part
given_up_late (program.Own (FileIn folder file)) before after late part = part
given_up_late (program.Own (Store number)) before after late part = part
given_up_late (program.Own Receipts) before after late part = part
given_up_late (program.Own (DiskFailed socket)) before after late part = part
given_up_late (program.Own Threads) before after late part = part
given_up_late (program.Own (Lineage chain)) before after late part = part
given_up_late (program.Own Endless) before after late part = part
given_up_late program.Usage before after late part = absurd late
given_up_late (program.File path) before after late part = absurd late
given_up_late (program.Committee refusal) before after late part = absurd late
given_up_late program.Output before after late part = absurd late
given_up_late (program.Own (Socket folder)) before after late part = absurd late
given_up_late (program.Own Listen) before after late part = absurd late
given_up_late (program.Own (Word word)) before after late part = absurd late

-- and behind the output's failure
pub given_up_writing : (fault : Fault) (before after : Option (List ℕ)) → fault ≡ program.Output → IsPart before after → IsGivenUp fault before after
given_up_writing fault before after is part = subst (λ (f : Fault). IsGivenUp f before after) (sym is) part

-- all lines
pub all_printed : (before mid after : Option (List ℕ)) (places : Places) (count entries : ℕ) → Wrote before mid (listening_text places) → Wrote mid after (closed_line count) → count ≡ entries
    → Wrote before after (listening_text places ++ closed_line entries)
all_printed before mid after places count entries listening closed is =
    subst (λ (n : ℕ). Wrote before after (listening_text places ++ closed_line n)) is
    (wrote_both before mid after (listening_text places) (closed_line count) listening closed)

-- a fault that may come late is not the output's
late_is_not_output : (fault : Fault) → IsLate fault → fault ≡ program.Output → ⊥
late_is_not_output fault late is = subst (λ (f : Fault). IsLate f) is late

-- what was printed where a signer ends behind what came of saying that calls are taken
pub ended_part : (announced : Announced) (fault : Fault) (before after : Option (List ℕ)) (failures failures' : ℕ) (places : Places) (text : List ℕ)
    → text ≡ listening_text places → IsAnnounced announced before after failures failures' text → IsEndBehind announced fault → IsGivenUp fault before after
ended_part Unsaid fault before after failures failures' places text is said ends =
    given_up_writing fault before after ends (announced_part Unsaid before after failures failures' places text is said)
ended_part NotBegun fault before after failures failures' places text is said ends =
    given_up_late fault before after ends (announced_part NotBegun before after failures failures' places text is said)
ended_part Over fault before after failures failures' places text is said ends =
    given_up_late fault before after ends (announced_part Over before after failures failures' places text is said)

-- .. and which writes failed
pub ended_counts : (announced : Announced) (fault : Fault) (before after : Option (List ℕ)) (failures failures' : ℕ) (text : List ℕ)
    → IsAnnounced announced before after failures failures' text → IsEndBehind announced fault → CountsOutput fault failures failures'
ended_counts Unsaid fault before after failures failures' text said ends = (λ is. said.1, λ not. absurd (not ends))
ended_counts NotBegun fault before after failures failures' text said ends = (λ is. absurd (late_is_not_output fault ends is), λ not. said.1)
ended_counts Over fault before after failures failures' text said ends = (λ is. absurd (late_is_not_output fault ends is), λ not. said.1)

-- .. or none, where all was said
pub over_counts : (announced : Announced) (before after : Option (List ℕ)) (failures failures' : ℕ) (text : List ℕ)
    → announced ≡ Over → IsAnnounced announced before after failures failures' text → failures' ≡ failures
over_counts announced before after failures failures' text over said =
    (subst (λ (a : Announced). IsAnnounced a before after failures failures' text) over said).1
