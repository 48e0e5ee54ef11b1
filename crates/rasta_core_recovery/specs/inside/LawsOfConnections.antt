-- In which connection two ends are, and what they take.
use Rattle.std.specs.Prelude.{List, Some, true, ℕ, ◌<◌, ◌≡◌, ◌⊎◌}
use Rattle.rasta_core_spec.specs.Ends.{Receives, Sent, is_taken}
use Rattle.rasta_core_spec.specs.Events.{AreForeign, IsDelivered}
use Rattle.rasta_core_spec.specs.Names.{AreNames, Names}
use Rattle.rasta_core_spec.specs.Run.{Ends, called, end_of}
use Rattle.rasta_core_spec.specs.Safe.{IsIdle}
use Rattle.rasta_core_spec.specs.SafetyCode.{IsIntact}
use Rattle.rasta_core_spec.specs.Sentences.{IsIn, IsOpening, IsOut, receipt_at}
use Rattle.rasta_core_spec.specs.identity.Role.{Role}
use Rattle.rasta_core_spec.specs.identity.Role.TheVariants as role
use Rattle.rasta_core.specs.Invariant.{Timely}

pub record LawsOfConnections : Type 0 where
  pub one_connection_inside : (names : Names) (ends : Ends) → Timely names ends → IsIn role.Client ends → IsIn role.Server ends → ends.server.connection ≡ ends.client.connection
  pub one_connection_counted : (names : Names) (ends : Ends) (who : Role) (connection : ℕ) → Timely names ends → (end_of who ends).connection ≡ Some connection → connection < ends.moment
  pub own_connection_inside : (names : Names) (ends : Ends) (who : Role) (bytes : List ℕ) (connection : ℕ) (datagram : Sent) → Timely names ends
      → IsDelivered ends bytes connection datagram → IsIn who ends → (end_of who ends).connection ≡ Some datagram.connection
  pub own_connection_taken : (names : Names) (ends : Ends) (who : Role) (bytes : List ℕ) (connection : ℕ) (datagram : Sent) → Timely names ends
      → IsDelivered ends bytes connection datagram → is_taken (receipt_at who bytes ends).verdict ≡ true
      → (end_of who (called who (Receives bytes connection) ends)).connection ≡ Some datagram.connection
  pub opening_is_new : (names : Names) (ends : Ends) (who : Role) (bytes : List ℕ) (connection : ℕ) (datagram : Sent) → AreNames names → Timely names ends
      → IsDelivered ends bytes connection datagram → IsOut who ends → is_taken (receipt_at who bytes ends).verdict ≡ true → IsOpening names who ends datagram
  pub what_is_taken : (names : Names) (ends : Ends) (who : Role) (bytes : List ℕ) → Timely names ends → (IsIntact names.key bytes → ⊥) ⊎ AreForeign names who bytes → IsIdle (receipt_at who bytes ends)
