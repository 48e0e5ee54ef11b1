-- The invariant of time: which stamps are how old, and which datagrams can still be delivered.
use Rattle.std.specs.Prelude.{◌≡◌, ◌≢◌, ℕ, ◌+◌, ◌*◌, ◌≤◌, ◌<◌, Some}
use Rattle.rasta_core_spec.specs.Parameters.{time_limit}
use Rattle.rasta_core_spec.specs.Sequence.{stamp}
use Rattle.rasta_core_spec.specs.identity.Role.{Role}
use Rattle.rasta_core_spec.specs.identity.Role.TheVariants as role
use Rattle.rasta_core_spec.specs.Bag.{lifetime}
use Rattle.rasta_core_spec.specs.pdu.Pdu.{Pdu}
use Rattle.rasta_core_spec.specs.body.Body.{Body}
use Rattle.rasta_core_spec.specs.body.Body.TheVariants.{ConnectionRequest, DisconnectionRequest}
use Rattle.rasta_core_spec.specs.TrueClocks.{IsSmall, Offset, most_off}
use Rattle.rasta_core.specs.TimedEnds.{Timed, Times, IsInside, IsOutside, HasHeard, own_stamp, heard_stamp, closed_at, at_role}
use Rattle.rasta_core_spec.specs.Names.{partner_of}
use Rattle.rasta_core_spec.specs.Sentences.{IsRequest}

-- A clock that runs at least at 999 in 1000 of true time, and is off so far, read this stamp, in milliseconds, at this true
-- time.
abbrev pub WasReadBy : ℕ → ℕ → Offset → ℕ → ℕ → Type 0
WasReadBy time clock offset stamp at = 999 * time + 1000000 * stamp ≤ 1000 * clock + offset.behind + 999 * at

-- It also ran at most at 1001 in 1000 since: so a stamp of this reading tells it, within a turn of the stamps.
pub record WasReadThenBy (time clock : ℕ) (offset : Offset) (reading at : ℕ) : Type 0 where
  pub small : IsSmall offset
  pub before : 1000 * reading ≤ clock
  pub least : WasReadBy time clock offset reading at
  pub most : 1000 * clock + 1001 * at ≤ 1000000 * reading + 1001 * time + 999000 + offset.ahead

-- the same of a clock that is off by ten microseconds at most
abbrev pub WasRead : ℕ → ℕ → ℕ → ℕ → Type 0
WasRead time clock stamp at = 999 * time + 1000000 * stamp ≤ 1000 * clock + 999 * at + most_off

pub record WasReadThen (time clock reading at : ℕ) : Type 0 where
  pub before : 1000 * reading ≤ clock
  pub least : WasRead time clock reading at
  pub most : 1000 * clock + 1001 * at ≤ 1000000 * reading + 1001 * time + 999000 + most_off

-- what is true of each end
pub record IsTimed (time moment newest : ℕ) (end : Timed) : Type 0 where
  -- its clock is off by ten microseconds at most
  pub small : IsSmall end.past.offset
  -- it left, sent what was returned, and heard what it took, at some time before now
  pub left_before : end.past.left_at ≤ time
  pub returned_before : end.past.returned_at ≤ time
  pub heard_before : end.past.heard_at ≤ time
  pub left_counted : end.left ≤ moment
  -- its last connection began before now
  pub began : (connection : ℕ) → end.connection ≡ Some connection → connection < moment
  -- inside, it is in the newest connection, its returned stamp was read when that datagram was sent, and it is young
  pub in_newest : IsInside end.standing → end.connection ≡ Some newest
  pub was_read : IsInside end.standing → WasReadBy time end.clock end.past.offset (own_stamp end.standing) end.past.returned_at
  pub reached : IsInside end.standing → 1000 * own_stamp end.standing ≤ end.clock
  pub young : IsInside end.standing → end.clock < 1000 * (own_stamp end.standing + time_limit)
  -- outside, its clock hasn't gone on by more than 1001 in 1000 of the true time since it left
  pub apart : IsOutside end.standing → 1000 * end.clock + 1001 * end.past.left_at ≤ 1000000 * end.past.left_clock + 1001 * time + 999000 + end.past.offset.ahead
  -- outside, what it knows of that reading is right
  pub closed : IsOutside end.standing → end.past.left_clock ≡ closed_at end.standing
  -- inside, the stamp that it heard last is of its partner's reading then, and what was returned isn't much younger
  pub heard_is : HasHeard end.standing → heard_stamp end.standing ≡ stamp end.past.heard_clock
  pub prompt : HasHeard end.standing → end.past.returned_at ≤ end.past.heard_at + lifetime
  -- outside, it left its last connection after that began
  pub over : IsOutside end.standing → (connection : ℕ) → end.connection ≡ Some connection → connection < end.left

-- what is true of both ends together
pub record AreTimed (times : Times) : Type 0 where
  pub client : IsTimed times.time times.moment times.newest times.client
  pub server : IsTimed times.time times.moment times.newest times.server
  -- a server is in a connection that a client began
  pub begun : IsInside times.server.standing → times.client.connection ≡ Some times.newest
  -- the server has entered the connection of a client that heard of it
  pub joined : HasHeard times.client.standing → times.server.connection ≡ Some times.newest
  -- the reading of the stamp that an end heard last was read on its partner's clock when that datagram was sent
  pub client_heard : HasHeard times.client.standing → IsInside times.server.standing
      → WasReadThenBy times.time times.server.clock times.server.past.offset times.client.past.heard_clock times.client.past.heard_at
  pub server_heard : HasHeard times.server.standing → IsInside times.client.standing
      → WasReadThenBy times.time times.client.clock times.client.past.offset times.server.past.heard_clock times.server.past.heard_at
  -- an end whose partner has left hears nothing that was sent later
  pub server_alone : IsInside times.server.standing → IsOutside times.client.standing
      → times.server.past.returned_at ≤ times.client.past.left_at + lifetime
  pub client_alone : IsInside times.client.standing → IsOutside times.server.standing → times.server.connection ≡ Some times.newest
      → times.client.past.returned_at ≤ times.server.past.left_at

-- A PDU that its sender wrote after its partner had entered the connection: all of the server's, and of the client's
-- all but requests and disconnection requests.
abbrev pub IsAnswering : Role → Body → Type 0
IsAnswering role.Server body = Unit {0}
IsAnswering role.Client (ConnectionRequest opening) = ⊥
IsAnswering role.Client (DisconnectionRequest detail reason) = ⊥
IsAnswering role.Client _ = Unit {0}

abbrev pub IsServer : Role → Type 0
IsServer role.Client = ⊥
IsServer role.Server = Unit {0}

-- what is true of each datagram: of its sender, the time of its sending, its connection, its PDU, and when its
-- sender's partner had sent what the sender took last
pub record IsKnown (times : Times) (who : Role) (at connection : ℕ) (pdu : Pdu) (back : ℕ) : Type 0 where
  pub sent_before : at ≤ times.time
  pub heard_before : back ≤ at
  -- the readings of its stamp and of the one that it returns, and that it was sent soon after what it answers
  pub read_as : ℕ
  pub returned : ℕ
  pub stamp_is : pdu.time_stamp ≡ stamp read_as
  pub returned_is : IsAnswering who pdu.body → pdu.confirmed_time_stamp ≡ stamp returned
  pub promptly : IsAnswering who pdu.body → at < back + 3802000
  pub counted : connection < times.moment
  pub begun : times.client.connection ≡ Some times.newest
  -- of an older connection than the newest, it can't be delivered any more
  pub dead : connection ≢ times.newest → at + lifetime < times.time
  -- the server has entered the connection in which it answers
  pub entered : connection ≡ times.newest → IsAnswering who pdu.body → times.server.connection ≡ Some times.newest
  -- its stamp was read when it was sent, and the stamp that it returns when what it answers was sent
  pub was_read : connection ≡ times.newest → IsInside (at_role who times).standing
      → WasReadThenBy times.time (at_role who times).clock (at_role who times).past.offset read_as at
  pub returns : connection ≡ times.newest → IsAnswering who pdu.body → IsInside (at_role (partner_of who) times).standing
      → WasReadThenBy times.time (at_role (partner_of who) times).clock (at_role (partner_of who) times).past.offset returned back
  -- an end that left sends nothing more in its connection, and its partner not for long
  pub last_word : connection ≡ times.newest → IsOutside (at_role who times).standing → at ≤ (at_role who times).past.left_at
  pub lonely : connection ≡ times.newest → IsServer who → IsOutside times.client.standing → at < times.client.past.left_at + 3802000
  -- a request sent before the server last left was sent at an earlier time
  pub request_old : IsRequest pdu.body → connection < times.server.left → at ≤ times.server.past.left_at
