-- Requests that are answered one after the other.
use Rattle.std.proofs.Common.{◌≡◌, ◌+◌, ◌∙◌, ℕ, Bool, false, List, [], ◌∷◌, ◌++◌, length, inl, inr, sym, ap, subst, refl, arith, length-append}
use Rattle.std.specs.Prelude.{◌≢◌, ◌⊎◌, Option, Result, Ok, Err, IfOk, IfErr, IfSome, OnOk}
use Rattle.std.proofs.lemmas.Grind.{flat_map-append}
use Rattle.std.proofs.lemmas.List.{append-nil}
use Rattle.std.proofs.lemmas.List.Elements.{All-append, All-nil, All-cons}
use Rattle.log_format.specs.declared.request.FrameRequest.{FrameRequest}
use Rattle.vote_log.specs.Logs.{LogState}
use Rattle.vote_log.specs.LogExport.{export_of, frame_count}
use Rattle.base_streams.specs.Streams.{Wrote}
use Rattle.base_streams.proofs.Writing.{wrote_nothing, wrote_both}
use Rattle.log_server.specs.Serving.{IsRequestOf, IsServeRefusal}
use Rattle.log_server.specs.declared.error.ServeError.{ServeError}
use Rattle.log_server.specs.declared.error.ServeError.TheVariants.{Memory, Device, Sink, Source, BadRequest, Stopped}
use Rattle.log_server.specs.declared.reply.Reply.{Reply}
use Rattle.log_server.specs.declared.reply.Reply.TheVariants.{Frames, NoLog}
use Rattle.log_server.specs.Answers.{IsAnswer, IsServed, MayAnswer}
use Rattle.log_server.specs.ServedLines.{served_line, served_lines}

-- an answer to known bytes is one to some bytes or other
pub may_answer : {D : Type 0} → (log : LogState D) (rest disk sink sink_after : Option (List ℕ)) (served : Result Reply ServeError)
    → IsAnswer log rest disk sink sink_after served → MayAnswer log.stopped (length log.steps) served
may_answer log rest disk sink sink_after (Ok (Frames frames)) is = (is.0, omega (arith, is.1.2))
may_answer log rest disk sink sink_after (Ok NoLog) is = is.0
may_answer log rest disk sink sink_after (Err Memory) is = is.0.0
may_answer log rest disk sink sink_after (Err Device) is = is.0.0
may_answer log rest disk sink sink_after (Err Sink) is = is.0.0
may_answer log rest disk sink sink_after (Err Source) is = tt
may_answer log rest disk sink sink_after (Err BadRequest) is = tt
may_answer log rest disk sink sink_after (Err Stopped) is = is.0.0

-- the same of a log that stayed as it was
pub may_before : (stopped stopped_now : Bool) (entries entries_now : ℕ) (served : Result Reply ServeError)
    → stopped_now ≡ stopped → entries_now ≡ entries → MayAnswer stopped_now entries_now served → MayAnswer stopped entries served
may_before stopped stopped_now entries entries_now served a b may =
    subst (λ (s : Bool). MayAnswer s entries served) a (subst (λ (n : ℕ). MayAnswer stopped_now n served) b may)

-- no request
pub served_none : (stopped : Bool) (entries : ℕ) (before : Option (List ℕ)) → IsServed stopped entries 0 before before
served_none stopped entries before = record {
  answers = [];
  as_many = refl;
  each = All-nil (MayAnswer stopped entries);
  printed = wrote_nothing before;
}

-- one request more
pub served_more : (stopped : Bool) (entries requests : ℕ) (before mid after : Option (List ℕ)) (served : Result Reply ServeError)
    → IsServed stopped entries requests before mid → MayAnswer stopped entries served → Wrote mid after (served_line served)
    → IsServed stopped entries (requests + 1) before after
served_more stopped entries requests before mid after served first may wrote =
    let P : Result Reply ServeError → Type 0 = MayAnswer stopped entries in
    let one : served_lines (served ∷ []) ≡ served_line served = append-nil (served_line served) in
    record {
      answers = first.answers ++ served ∷ [];
      as_many = length-append first.answers (served ∷ []) ∙ ap (λ (n : ℕ). n + 1) first.as_many;
      each = All-append P first.answers (served ∷ []) first.each (All-cons P served [] may (All-nil P));
      printed = subst (λ (t : List ℕ). Wrote before after t) (sym (flat_map-append served_line first.answers (served ∷ [])))
          (wrote_both before mid after (served_lines first.answers) (served_lines (served ∷ [])) first.printed
          (subst (λ (t : List ℕ). Wrote mid after t) (sym one) wrote));
    }
