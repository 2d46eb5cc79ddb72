-- The refusals of a call, by their numbers, names and statuses.
use Rattle.std.specs.Prelude.{ℕ, List, codes}
use Rattle.signer_calls.specs.declared.call.CallRefusal.{CallRefusal}
use Rattle.signer_calls.specs.declared.call.CallRefusal.TheVariants.{NoSuchCall, Method, Number, Host, Origin, ContentType, Far, NoVote, Target, NotHeld, Length, Chain}

-- the number that docs/REFUSALS.md gives a refusal
abbrev pub call_refusal_number : CallRefusal → ℕ
call_refusal_number NoSuchCall = 1
call_refusal_number (Method methods) = 2
call_refusal_number Number = 3
call_refusal_number Host = 4
call_refusal_number Origin = 5
call_refusal_number ContentType = 6
call_refusal_number Far = 7
call_refusal_number NoVote = 8
call_refusal_number Target = 9
call_refusal_number NotHeld = 10
call_refusal_number Length = 11
call_refusal_number Chain = 12

abbrev pub call_refusal_name : CallRefusal → List ℕ
call_refusal_name NoSuchCall = codes "NoSuchCall"
call_refusal_name (Method methods) = codes "Method"
call_refusal_name Number = codes "Number"
call_refusal_name Host = codes "Host"
call_refusal_name Origin = codes "Origin"
call_refusal_name ContentType = codes "ContentType"
call_refusal_name Far = codes "Far"
call_refusal_name NoVote = codes "NoVote"
call_refusal_name Target = codes "Target"
call_refusal_name NotHeld = codes "NotHeld"
call_refusal_name Length = codes "Length"
call_refusal_name Chain = codes "Chain"

abbrev pub call_refusal_status : CallRefusal → ℕ
call_refusal_status NoSuchCall = 404
call_refusal_status (Method methods) = 405
call_refusal_status Number = 400
call_refusal_status Host = 403
call_refusal_status Origin = 403
call_refusal_status ContentType = 415
call_refusal_status Far = 409
call_refusal_status NoVote = 404
call_refusal_status Target = 400
call_refusal_status NotHeld = 404
call_refusal_status Length = 400
call_refusal_status Chain = 409
