-- The two ends of a host's link.
use Rattle.std.proofs.Common.{◌≡◌, ◌≤◌, ◌+◌, ◌*◌, ◌/◌, ℕ, Bool, true, false, nat_le, nat_lt, ◌&&◌, if◌then◌else◌, lit<, List, [], ◌∷◌, arith, refl, ap, sym, ◌∙◌, subst}
use Rattle.std.proofs.Math.Nat.{div-mul-le_self}
use Rattle.std.proofs.lemmas.Nat.{le-div}
use Rattle.std.proofs.lemmas.Bool.{true≢false, false≢true}
use Rattle.std.proofs.lemmas.Bool.Decides.{nat_tests}
use Rattle.rasta_core.specs.Parameters.{quiet_time}
use Rattle.rasta_core.specs.State.{LinkState, is_open}
use Rattle.rasta_core.specs.Clock.{deadline, open_state, settled, state_at}
use Rattle.rasta_core.specs.phase.Phase.{Phase}
use Rattle.rasta_core.specs.phase.Phase.TheVariants as phase
use Rattle.rasta_core.specs.phase.State.TheVariants as state
use Rattle.rasta_core.specs.identity.Role.TheVariants as role
use Rattle.rasta_core.specs.Ends as calls
use Rattle.rasta_core.specs.Ends.{EndState, end_after, end_later, newer, outcome, reading_of}
use Rattle.rasta_core.specs.Run.{Ends, called, later}
use Rattle.object_host.specs.Host.{HostState, LinkCall, Ticks, Closes, Sends, Receives}
use Rattle.object_host.specs.Made.{AreCallsFor, AreOwn}
use Rattle.object_host.specs.declared.input.Input.{Input}
use Rattle.object_host.specs.declared.input.Input.TheVariants as inputs
use Rattle.object_host_laws.specs.World.{as_call, called_all, entering}
use Rattle.simulator_machine.specs.Link.{Server, Before, In, Gone}
use Rattle.std.specs.Prelude.{Some, ◌==◌}
use Rattle.simulator_move_laws.specs.LinkMoves.{LinkGoes, moves_by, server_moves}
use Rattle.simulator_move_laws.specs.EndsSeen.{client_of, is_inside, is_same_connection, represented, server_in, server_of, state_of}
use Rattle.simulator_move_laws.specs.Ends.{AreFit, IsAtEnd, OpensNone, server_later}

-- ---- where the server is

open_inside : (p : Phase) → is_open p ≡ true → is_inside (open_state p) ≡ true
open_inside phase.Closed opened = absurd (false≢true opened)
open_inside phase.Start opened = refl
open_inside phase.Up opened = refl
open_inside phase.RetransmissionRequested opened = refl
open_inside phase.RetransmissionRunning opened = refl

quiet_outside : (b : Bool) → is_inside (if b then state.Quiet else state.Down) ≡ false
quiet_outside true = refl
quiet_outside false = refl

-- a settled link that is open isn't at its deadline
in_time : (now : ℕ) (link : LinkState) → settled now link ≡ link → is_open link.phase ≡ true → nat_lt now (deadline link) ≡ true
unfolding settled
in_time now link same opened = by (nat_le (deadline link) now) refl where
  before : (a b : ℕ) → nat_le b a ≡ false → nat_lt a b ≡ true
  before a b late = grind (arith, nat_tests)

  by : (b : Bool) → nat_le (deadline link) now ≡ b → nat_lt now (deadline link) ≡ true
  by true late = absurd (true≢false (sym opened ∙ ap (λ (l : LinkState). is_open l.phase) (sym same) ∙ rw (opened, late) refl))
  by false late = before now (deadline link) late

pub inside_is : (end : EndState) → settled (reading_of end.clock) end.link ≡ end.link → is_inside (state_of end) ≡ is_open end.link.phase
unfolding state_at
inside_is end same = by (is_open end.link.phase) refl where
  by : (b : Bool) → is_open end.link.phase ≡ b → is_inside (state_of end) ≡ is_open end.link.phase
  by true opened = rw (opened, in_time (reading_of end.clock) end.link same opened) (open_inside end.link.phase opened)
  by false closed = rw closed (quiet_outside (nat_lt (reading_of end.clock) (deadline end.link + quiet_time)))

pub in_where_open : (ends : Ends) → AreFit ends → is_open ends.server.link.phase ≡ true → server_of ends ≡ In
in_where_open ends fit opened =
    ap (λ (inside : Bool). server_in inside (is_same_connection ends.client.connection ends.server.connection)) (inside_is ends.server fit.settled_at ∙ opened)

not_in : (was : Bool) → server_in false was ≡ In → ⊥
not_in true is = absurd (cc (is))
not_in false is = absurd (cc (is))

pub out_where_closed : (ends : Ends) → AreFit ends → is_open ends.server.link.phase ≡ false → server_of ends ≡ In → ⊥
out_where_closed ends fit closed is =
    not_in (is_same_connection ends.client.connection ends.server.connection)
    (ap (λ (inside : Bool). server_in inside (is_same_connection ends.client.connection ends.server.connection)) (sym (inside_is ends.server fit.settled_at ∙ closed)) ∙ is)

same_number : (n : ℕ) → (n == n) ≡ true
same_number n = grind (arith, nat_tests)

pub in_one : (ends : Ends) → ((one : ℕ) × (ends.client.connection ≡ Some one) × (ends.server.connection ≡ Some one)) → is_same_connection ends.client.connection ends.server.connection ≡ true
in_one ends here = ap (λ c. is_same_connection c ends.server.connection) here.1 ∙ ap (is_same_connection (Some here.0)) here.2 ∙ same_number here.0

pub was_there : (ends : Ends) → AreFit ends → is_open ends.server.link.phase ≡ true → is_same_connection ends.client.connection ends.server.connection ≡ true
was_there ends fit opened = in_one ends (fit.same opened)

pub closed_is : (ends : Ends) → AreFit ends → is_open ends.server.link.phase ≡ false → server_of ends ≡ server_in false (is_same_connection ends.client.connection ends.server.connection)
closed_is ends fit closed = ap (λ inside. server_in inside (is_same_connection ends.client.connection ends.server.connection)) (inside_is ends.server fit.settled_at ∙ closed)

-- a server outside the last connection of both ends has left it
pub gone_where_closed : (ends : Ends) → AreFit ends → is_open ends.server.link.phase ≡ false → ((one : ℕ) × (ends.client.connection ≡ Some one) × (ends.server.connection ≡ Some one)) → server_of ends ≡ Gone
gone_where_closed ends fit closed here = closed_is ends fit closed ∙ ap (server_in false) (in_one ends here)

-- ---- calls of the server

pub client_stays : (connection : ℕ) (made : List LinkCall) (ends : Ends) → (called_all connection made ends).client ≡ ends.client
unfolding called_all called
client_stays connection [] ends = refl
client_stays connection (call ∷ others) ends = client_stays connection others (called role.Server (as_call connection call) ends)

own_connection : (connection : ℕ) (made : List LinkCall) (ends : Ends) → AreOwn made → (called_all connection made ends).server.connection ≡ ends.server.connection
unfolding called_all called outcome end_after
own_connection connection [] ends own = refl
own_connection connection (Ticks ∷ others) ends own = own_connection connection others (called role.Server (as_call connection Ticks) ends) own.1
own_connection connection (Closes why ∷ others) ends own = own_connection connection others (called role.Server (as_call connection (Closes why)) ends) own.1
own_connection connection (Sends item ∷ others) ends own = own_connection connection others (called role.Server (as_call connection (Sends item)) ends) own.1
own_connection connection (Receives bytes ∷ others) ends own = absurd own.0

received_connection : (connection : ℕ) (bytes : List ℕ) (others : List LinkCall) (ends : Ends) → AreOwn others →
    (called_all connection (Receives bytes ∷ others) ends).server.connection ≡ newer (outcome (calls.Receives bytes connection) ends.moment ends.server).enters ends.server.connection
unfolding called_all called outcome end_after
received_connection connection bytes others ends own = own_connection connection others (called role.Server (as_call connection (Receives bytes)) ends) own

pub connection_after : (connection : ℕ) (input : Input) (made : List LinkCall) (ends : Ends) → AreCallsFor input made →
    (called_all connection made ends).server.connection ≡ newer (entering input connection ends) ends.server.connection
connection_after connection inputs.Tick made ends own = own_connection connection made ends own
connection_after connection (inputs.Datagram bytes) made ends first =
    subst (λ cs. (called_all connection cs ends).server.connection ≡ newer (entering (inputs.Datagram bytes) connection ends) ends.server.connection) (sym first.1)
    (received_connection connection bytes.now first.0 ends first.2)
connection_after connection (inputs.Sense sense) made ends own = own_connection connection made ends own

-- a server's moves begin no connection of the client
pub server_opens_none : (old new : Server) → OpensNone (server_moves old new)
server_opens_none Before Before = tt
server_opens_none Before In = tt
server_opens_none Before Gone = tt
server_opens_none In Before = tt
server_opens_none In In = tt
server_opens_none In Gone = tt
server_opens_none Gone Before = tt
server_opens_none Gone In = tt
server_opens_none Gone Gone = tt

-- ---- time goes on

past : (a b c : ℕ) → a ≤ b → nat_le c a ≡ true → nat_le c b ≡ true
past a b c later at = grind (arith, nat_tests)

settled_late : (now : ℕ) (link : LinkState) → is_open link.phase ≡ true → nat_le (deadline link) now ≡ true →
    settled now link ≡ record link { phase = phase.Closed; closed_at = deadline link; clock = now }
unfolding settled
settled_late now link opened late = rw (opened, late) refl

settled_early : (now : ℕ) (link : LinkState) → is_open link.phase ≡ true → nat_le (deadline link) now ≡ false → settled now link ≡ record link { clock = now }
unfolding settled
settled_early now link opened early = rw (opened, early) refl

settled_closed : (now : ℕ) (link : LinkState) → is_open link.phase ≡ false → settled now link ≡ record link { clock = now }
unfolding settled
settled_closed now link closed = rw closed refl

alive_then : (earlier : ℕ) (link : LinkState) → deadline (record link { clock = earlier }) ≡ deadline link
unfolding deadline
alive_then earlier link = refl

settled_from : (earlier now : ℕ) (link : LinkState) → settled now (record link { clock = earlier }) ≡ settled now link
unfolding settled
settled_from earlier now link =
    ap (λ alive. if is_open link.phase && nat_le alive now then record link { phase = phase.Closed; closed_at = alive; clock = now } else record link { clock = now })
    (alive_then earlier link)

-- the clock rules twice are the clock rules once, at the later reading
pub settled_twice : (earlier now : ℕ) (link : LinkState) → earlier ≤ now → settled now (settled earlier link) ≡ settled now link
settled_twice earlier now link later = cases (is_open link.phase) (nat_le (deadline link) earlier) refl refl where
  cases : (o b : Bool) → is_open link.phase ≡ o → nat_le (deadline link) earlier ≡ b → settled now (settled earlier link) ≡ settled now link
  cases false b closed at = ap (settled now) (settled_closed earlier link closed) ∙ settled_from earlier now link
  cases true true opened at =
      ap (settled now) (settled_late earlier link opened at)
      ∙ settled_closed now (record link { phase = phase.Closed; closed_at = deadline link; clock = earlier }) refl
      ∙ sym (settled_late now link opened (past earlier now (deadline link) later at))
  cases true false opened at = ap (settled now) (settled_early earlier link opened at) ∙ settled_from earlier now link

pub reads_later : (clock later : ℕ) → clock ≤ later → clock / 1000 ≤ later / 1000
reads_later clock later goes =
    let below : clock / 1000 * 1000 ≤ clock = div-mul-le_self clock 1000
    in le-div (clock / 1000) later 1000 (lit< tt) (omega (arith, below, goes))

open_by : (now : ℕ) (link : LinkState) (b : Bool) →
    is_open (if b then record link { phase = phase.Closed; closed_at = deadline link; clock = now } else record link { clock = now }).phase ≡ true → is_open link.phase ≡ true
open_by now link true opened = absurd (false≢true opened)
open_by now link false opened = opened

pub open_before : (now : ℕ) (link : LinkState) → is_open (settled now link).phase ≡ true → is_open link.phase ≡ true
unfolding settled
open_before now link = open_by now link (is_open link.phase && nat_le (deadline link) now)

pub at_end_later : {Object : Type 0} (elapsed of_client of_server : ℕ) (ends : Ends) (host : HostState Object) → IsAtEnd ends host → IsAtEnd (later elapsed of_client of_server ends) host
unfolding later end_later
at_end_later elapsed of_client of_server ends host at_end =
    sym (settled_twice (reading_of ends.server.clock) (reading_of (ends.server.clock + of_server)) host.link (reads_later ends.server.clock (ends.server.clock + of_server) (omega arith)))
    ∙ ap (settled (reading_of (ends.server.clock + of_server))) at_end

pub leaves_opens_none : (was : Bool) → OpensNone (moves_by false was false)
leaves_opens_none true = tt
leaves_opens_none false = tt

-- ---- time goes on at the server's end alone

pub fit_alone : (elapsed of_client of_server : ℕ) (ends : Ends) → AreFit ends → AreFit (later elapsed of_client of_server ends) → AreFit (server_later elapsed of_client of_server ends)
unfolding later end_later
fit_alone elapsed of_client of_server ends fit after = record {
  settled_at = after.settled_at;
  safe = λ connection client server.
      let before = fit.safe connection client server
      in let then_is = after.safe connection client server
      in (
        record { rest = before.0.rest; beginning = before.0.beginning; confirmed = before.0.confirmed },
        record { rest = before.1.rest; beginning = before.1.beginning; confirmed = then_is.1.confirmed },
      );
  same = after.same;
}

-- a server that is in a connection leaves it, or stays
pub alone_goes : (elapsed of_client of_server : ℕ) (ends : Ends) → AreFit ends → AreFit (server_later elapsed of_client of_server ends) →
    LinkGoes (moves_by false (is_open ends.server.link.phase) (is_open (server_later elapsed of_client of_server ends).server.link.phase)) (represented ends) (represented (server_later elapsed of_client of_server ends))
unfolding later end_later represented
alone_goes elapsed of_client of_server ends fit after = by (is_open ends.server.link.phase) (is_open new.server.link.phase) refl refl where
  new : Ends
  new = server_later elapsed of_client of_server ends

  stays : server_of ends ≡ server_of new → LinkGoes [] (represented ends) (represented new)
  stays same = record { may = tt; leads = ap (λ (s : Server). record { client = client_of ends.client; server = s }) same }

  by : (was is : Bool) → is_open ends.server.link.phase ≡ was → is_open new.server.link.phase ≡ is → LinkGoes (moves_by false was is) (represented ends) (represented new)
  by true true opened still = stays (in_where_open ends fit opened ∙ sym (in_where_open new after still))
  by true false opened closed = record {
    may = (tt, tt);
    leads = ap (λ (s : Server). record { client = client_of ends.client; server = s }) (sym (gone_where_closed new after closed (fit.same opened)));
  }
  by false true closed still = absurd (true≢false (sym (open_before (reading_of (ends.server.clock + of_server)) ends.server.link still) ∙ closed))
  by false false closed shut = stays (closed_is ends fit closed ∙ sym (closed_is new after shut))

pub moved_opens_none : (was is : Bool) → OpensNone (moves_by false was is)
moved_opens_none true true = tt
moved_opens_none true false = tt
moved_opens_none false true = tt
moved_opens_none false false = tt
