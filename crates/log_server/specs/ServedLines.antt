-- What is printed of requests that were answered.
use Rattle.std.specs.Prelude.{ℕ, List, ◌++◌, codes, decimal, Result, Ok, Err}
use Rattle.std.specs.List.{flat_map}
use Rattle.log_server.specs.Serving.{serve_error_number}
use Rattle.log_server.specs.declared.error.ServeError.{ServeError}
use Rattle.log_server.specs.declared.error.ServeError.TheVariants.{BadRequest}
use Rattle.log_server.specs.declared.reply.Reply.{Reply}
use Rattle.log_server.specs.declared.reply.Reply.TheVariants.{Frames, NoLog}

-- "serve fault N" with the number of the refusal
abbrev pub fault_line : ServeError → List ℕ
fault_line error = codes "serve fault " ++ decimal (serve_error_number error) ++ codes "\n"

-- "served FRAMES", or why there are none: a request that names another chain is told as one that is none
abbrev pub served_line : Result Reply ServeError → List ℕ
served_line (Ok (Frames frames)) = codes "served " ++ decimal frames ++ codes "\n"
served_line (Ok NoLog) = fault_line BadRequest
served_line (Err error) = fault_line error

-- a line for each answer
abbrev pub served_lines : List (Result Reply ServeError) → List ℕ
served_lines answers = flat_map served_line answers
