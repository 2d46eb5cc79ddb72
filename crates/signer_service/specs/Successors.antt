-- Whether a block that hands over may be voted for.
use Rattle.std.specs.Prelude.{◌≢◌, ◌⊎◌, ℕ, List, Option, Some, codes}
use Rattle.http_server.specs.declared.response.Response.{Response}
use Rattle.signer_answers.specs.Approvals.{MayFollow, Telling}
use Rattle.signer_service.specs.Responses.{IsLine}

-- another payload was told, or that no committee is approved
abbrev pub IsNotApproved : Telling → List ℕ → Type 0
IsNotApproved tells payload = (told : Option (List ℕ)) × tells.approves told × (told ≢ Some payload)

-- the response tells whether this payload was, or names a committee that was shown to renew this one
abbrev pub IsSuccessorTold : List ℕ → Telling → List ℕ → Response → Type 0
IsSuccessorTold committee tells payload response =
    (MayFollow committee tells payload × IsLine 200 (codes "approved\n") response)
    ⊎ (IsNotApproved tells payload × IsLine 200 (codes "not approved\n") response)
