-- The invariant of two ends of a link and the datagrams between them, as far as time goes.
use Rattle.std.specs.Prelude.{◌≡◌, ℕ, ◌^◌, ◌<◌, Ok}
use Rattle.rasta_core_spec.specs.State.{LinkState}
use Rattle.rasta_core_spec.specs.identity.Role.{Role}
use Rattle.rasta_core_spec.specs.identity.Role.TheVariants as role
use Rattle.rasta_core_spec.specs.Ends.{Sent, EndState, reading_of}
use Rattle.rasta_core_spec.specs.Run.{Ends}
use Rattle.rasta_core_spec.specs.pdu.Pdu.{Pdu}
use Rattle.rasta_core_spec.specs.Values.{IsPdu}
use Rattle.rasta_core_spec.specs.Items.{IsItem}
use Rattle.rasta_core_spec.specs.PduRead.{reading}
use Rattle.rasta_core_spec.specs.Each.{Each}
use Rattle.rasta_core_spec.specs.TrueClocks.{Offset}
use Rattle.rasta_core.specs.TimedEnds.{Past, Times, times_of}
use Rattle.rasta_core_spec.specs.Names.{Names, identity_of, name_of, partner_of}
use Rattle.rasta_core_spec.specs.Sentences.{IsOut}
use Rattle.rasta_core.specs.Timely.{AreTimed, IsKnown}

-- what every link keeps, so that what it hands out are PDUs
pub record IsSound (link : LinkState) : Type 0 where
  pub own : link.identity.own < 2 ^ 32
  pub partner : link.identity.partner < 2 ^ 32
  pub heard : link.partner_stamp < 2 ^ 32
  pub items : Each (λ held. IsItem held.item) link.waiting

-- an end of this role, whose link is settled at its clock
pub record IsEnd (names : Names) (who : Role) (end : EndState) : Type 0 where
  pub identity : end.link.identity ≡ identity_of who names
  pub clock : end.link.clock ≡ reading_of end.clock
  pub sound : IsSound end.link

-- a datagram spells a PDU that an end wrote to the other
pub record InFlight (names : Names) (times : Times) (sent : Sent) : Type 0 where
  pub pdu : Pdu
  pub is_pdu : IsPdu pdu
  pub read : reading names.key sent.bytes ≡ Ok pdu
  pub receiver : pdu.receiver ≡ name_of (partner_of sent.sender) names
  pub sender : pdu.sender ≡ name_of sent.sender names
  -- when its sender's partner had sent what the sender took last
  pub back : ℕ
  pub known : IsKnown times sent.sender sent.at sent.connection pdu back

-- two ends of a link over time
pub record Timely (names : Names) (ends : Ends) : Type 0 where
  -- what no end sees: the past of each, and the connection begun last, if any was
  pub of_client : Past
  pub of_server : Past
  pub newest : ℕ
  pub client : IsEnd names role.Client ends.client
  pub server : IsEnd names role.Server ends.server
  pub ends_timed : AreTimed (times_of ends of_client of_server newest)
  pub datagrams : Each (InFlight names (times_of ends of_client of_server newest)) ends.sent

-- The client is outside, and its clock read so many milliseconds when it left its last connection, or when it was made.
pub record HasBeenOut (names : Names) (since : ℕ) (ends : Ends) : Type 0 where
  pub timely : Timely names ends
  pub is_out : IsOut role.Client ends
  pub left_then : timely.of_client.left_clock ≡ since

-- two ends over time, whose clocks are off so far
pub record TimelyBy (names : Names) (offsets : Role → Offset) (ends : Ends) : Type 0 where
  pub timely : Timely names ends
  pub client : timely.of_client.offset ≡ offsets role.Client
  pub server : timely.of_server.offset ≡ offsets role.Server
