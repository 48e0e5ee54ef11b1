-- Answers one after another.
use Rattle.std.proofs.Common.{ℕ, List, [], ◌∷◌, ◌++◌, refl, subst}
use Rattle.http.specs.declared.request.Request.{Request}
use Rattle.http_server.specs.declared.response.Response.{Response}
use Rattle.http_server.specs.Exchange.{Call, Chain}
use Rattle.panel_connections.specs.Served.{Serves}

module _ {S : Type 0} (answers : S → Request (List ℕ) → Response → S → Type 0) where
  chained : (calls others : List Call) (a b c : S) → Chain answers a calls b → Chain answers b others c → Chain answers a (calls ++ others) c
  chained [] others a b c one other = subst (λ s. Chain answers s others c) one other
  chained (call ∷ calls) others a b c one other = (one.0, one.1, chained calls others one.0 b c one.2 other)

  pub serves_none : (a : S) → Serves answers a a
  serves_none a = ([], refl)

  pub serves_then : (a b c : S) → Serves answers a b → Serves answers b c → Serves answers a c
  serves_then a b c one other = (one.0 ++ other.0, chained one.0 other.0 a b c one.1 other.1)
