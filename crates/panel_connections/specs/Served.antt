-- What comes of a service that answers requests.
use Rattle.std.specs.Prelude.{ℕ, List}
use Rattle.http.specs.declared.request.Request.{Request}
use Rattle.http_server.specs.declared.response.Response.{Response}
use Rattle.http_server.specs.Exchange.{Call, Chain}

-- Requests were answered one after another, from one state of the service to the other.
abbrev pub Serves : {S : Type 0} → (S → Request (List ℕ) → Response → S → Type 0) → S → S → Type 0
Serves answers old new = (calls : List Call) × Chain answers old calls new
