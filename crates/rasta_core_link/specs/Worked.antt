-- A worked case of the limit of PDUs in a connection: no run reaches it in a test.
use Rattle.std.specs.Prelude.{◌≡◌, ℕ, List, [], ◌∷◌, map}
use Rattle.rasta_core_link.specs.State.{LinkState}
use Rattle.rasta_core_link.specs.Calls.{created, ticking}
use Rattle.rasta_core_link.specs.declared.identity.Identity.{Identity}
use Rattle.rasta_core_link.specs.declared.phase.Phase.TheVariants as phase
use Rattle.rasta_pdu.specs.declared.pdu.Pdu.{Pdu}
use Rattle.rasta_pdu.specs.declared.body.Body.{Body}
use Rattle.rasta_pdu.specs.declared.body.Body.TheVariants.{DisconnectionRequest, Heartbeat}

-- An end that is up at clock 10000 and has sent this many PDUs in its connection, the last at 9000.
abbrev pub having_sent : ℕ → Identity → LinkState
having_sent count identity = record (created identity 0 10000) {
  phase = phase.Up;
  own_stamp = 10000;
  sent = count;
  sent_at = 9000;
  expected = 1;
}

abbrev pub bodies : List Pdu → List Body
bodies pdus = map (λ pdu. pdu.body) pdus

-- With 2147482999 PDUs sent it goes on, and with one more its next call closes it with reason 2.
pub record LimitOfPdus (identity : Identity) : Type 0 where
  pub goes_on : (ticking 10100 (having_sent 2147482999 identity)).link.phase ≡ phase.Up
  pub beats : bodies (ticking 10100 (having_sent 2147482999 identity)).pdus ≡ Heartbeat ∷ []
  pub closes : (ticking 10100 (having_sent 2147483000 identity)).link.phase ≡ phase.Closed
  pub tells : bodies (ticking 10100 (having_sent 2147483000 identity)).pdus ≡ DisconnectionRequest 0 2 ∷ []
