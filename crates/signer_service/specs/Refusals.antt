-- What a refused call is told.
use Rattle.std.specs.Prelude.{◌++◌, ◌∷◌, [], ℕ, List, codes}
use Rattle.http1.specs.Fields.{Header}
use Rattle.http_server.specs.declared.response.Response.{Response}
use Rattle.http_server.specs.Response.{IsResponse}
use Rattle.signer_calls.specs.CallRefusals.{call_refusal_name, call_refusal_number, call_refusal_status}
use Rattle.signer_calls.specs.declared.call.CallRefusal.{CallRefusal}
use Rattle.signer_calls.specs.declared.call.CallRefusal.TheVariants.{Method}
use Rattle.signer_calls.specs.declared.target.Methods.{Methods}
use Rattle.signer_calls.specs.declared.target.Methods.TheVariants.{Post, Get}
use Rattle.signer_service.specs.Responses.{fields_of_kind, named_line}
use Rattle.signer_service.specs.declared.writing.Kind.TheVariants.{Text}

-- "refused call N NAME"
abbrev pub call_line : CallRefusal → List ℕ
call_line refusal = named_line (codes "refused call ") (call_refusal_number refusal) (call_refusal_name refusal)

abbrev pub methods_text : Methods → List ℕ
methods_text Post = codes "POST"
methods_text Get = codes "GET, HEAD"

-- a refused method is told with those that are allowed
abbrev pub refusal_fields : CallRefusal → List Header
refusal_fields (Method methods) = fields_of_kind Text ++ (codes "allow", methods_text methods) ∷ []
refusal_fields _ = fields_of_kind Text

-- the response tells this refusal
abbrev pub IsRefusalTold : CallRefusal → Response → Type 0
IsRefusalTold refusal response = IsResponse (call_refusal_status refusal) (refusal_fields refusal) (call_line refusal) response
