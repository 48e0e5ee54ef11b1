-- Two ends as far as time goes: clocks, stamps, and when what was sent that they heard.
-- All times but stamps are in microseconds; a stamp is an end's clock in milliseconds, modulo 2^32.
use Rattle.std.specs.Prelude.{ℕ, Bool, true, false, Option, if◌then◌else◌}
use Rattle.rasta_core_spec.specs.State.{LinkState, is_open, is_asking}
use Rattle.rasta_core_spec.specs.identity.Role.{Role}
use Rattle.rasta_core_spec.specs.identity.Role.TheVariants as role
use Rattle.rasta_core_spec.specs.Ends.{EndState}
use Rattle.rasta_core_spec.specs.Run.{Ends}
use Rattle.rasta_core_spec.specs.TrueClocks.{Offset}

-- Where an end stands. Inside a connection: whether it still asks for it, the own stamp that the partner returned
-- last, and the partner's stamp that it took last. Outside: when it left or was created, on its clock.
pub data Standing : Type 0 where
  Inside : Bool → ℕ → ℕ → Standing
  Outside : ℕ → Standing

abbrev pub IsInside : Standing → Type 0
IsInside (Inside asking own heard) = Unit {0}
IsInside (Outside closed) = ⊥

abbrev pub IsOutside : Standing → Type 0
IsOutside (Inside asking own heard) = ⊥
IsOutside (Outside closed) = Unit {0}

-- inside, and no longer asking
abbrev pub HasHeard : Standing → Type 0
HasHeard (Inside false own heard) = Unit {0}
HasHeard (Inside true own heard) = ⊥
HasHeard (Outside closed) = ⊥

abbrev pub own_stamp : Standing → ℕ
own_stamp (Inside asking own heard) = own
own_stamp (Outside closed) = 0

abbrev pub heard_stamp : Standing → ℕ
heard_stamp (Inside asking own heard) = heard
heard_stamp (Outside closed) = 0

abbrev pub closed_at : Standing → ℕ
closed_at (Inside asking own heard) = 0
closed_at (Outside closed) = closed

abbrev pub standing : LinkState → Standing
standing link = if is_open link.phase then Inside (is_asking link) link.own_stamp link.partner_stamp else Outside link.closed_at

-- What no end sees of its past, in true time.
pub record Past : Type 0 where
  -- just before the event in which it last left a connection, or was made
  pub left_at : ℕ
  -- what its own clock read then, in milliseconds
  pub left_clock : ℕ
  -- when it sent the datagram whose stamp the partner returned last
  pub returned_at : ℕ
  -- when the partner sent the datagram that it took last, and what the partner's clock read then
  pub heard_at : ℕ
  pub heard_clock : ℕ
  -- how far its own clock is off
  pub offset : Offset

-- one end, as far as time goes
pub record Timed : Type 0 where
  pub standing : Standing
  pub clock : ℕ
  pub connection : Option ℕ
  pub left : ℕ
  pub past : Past

-- two ends, as far as time goes
pub record Times : Type 0 where
  pub time : ℕ
  pub client : Timed
  pub server : Timed
  pub moment : ℕ
  -- the connection begun last, if any was
  pub newest : ℕ

abbrev pub at_role : Role → Times → Timed
at_role role.Client times = times.client
at_role role.Server times = times.server

abbrev pub timed : EndState → Past → Timed
timed end past = record {
  standing = standing end.link;
  clock = end.clock;
  connection = end.connection;
  left = end.left;
  past = past;
}

abbrev pub times_of : Ends → Past → Past → ℕ → Times
times_of ends of_client of_server newest = record {
  time = ends.time;
  client = timed ends.client of_client;
  server = timed ends.server of_server;
  moment = ends.moment;
  newest = newest;
}
