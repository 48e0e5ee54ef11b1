-- What an end outside does before it enters a connection.
use Rattle.std.specs.Prelude.{None, Some, false, ℕ, ◌≡◌}
use Rattle.rasta_core_spec.specs.Ends.{Call, EndState, outcome}
use Rattle.rasta_core_spec.specs.PdusHandedOut.{entered, silent}
use Rattle.rasta_core_spec.specs.Receipt.{hearing}
use Rattle.rasta_core_spec.specs.Safe.{DoesNothing}
use Rattle.rasta_core_spec.specs.State.{LinkState, is_open}
use Rattle.rasta_core_spec.specs.pdu.Pdu.{Pdu}
use Rattle.rasta_core.specs.FirstPdus.{HearsOutside}
use Rattle.rasta_core_spec.specs.identity.Role.TheVariants as role

pub record LawsOfEntering : Type 0 where
  pub outside_until_it_enters_stays : (call : Call) (moment : ℕ) (end : EndState) → is_open end.link.phase ≡ false → (outcome call moment end).enters ≡ None → is_open (outcome call moment end).link.phase ≡ false
  pub outside_until_it_enters_server : (call : Call) (moment connection : ℕ) (end : EndState) → end.link.identity.role ≡ role.Server → (outcome call moment end).enters ≡ Some connection → is_open end.link.phase ≡ false
  pub outside_until_it_enters_nothing : (call : Call) (moment : ℕ) (end : EndState) → is_open end.link.phase ≡ false → (outcome call moment end).enters ≡ None → DoesNothing (outcome call moment end)
  pub connection_begins_entering : (now : ℕ) (link : LinkState) → is_open link.phase ≡ false → entered now link ≡ silent (record link { clock = now })
  pub connection_begins_hearing : (pdu : Pdu) (link : LinkState) → is_open link.phase ≡ false → HearsOutside pdu link (hearing pdu link)
