-- Each event of two ends as moves of their link.
use Rattle.std.proofs.Common.{◌≡◌, ◌≢◌, ℕ, ◌+◌, ◌<◌, Bool, true, false, ◌&&◌, nat_le, List, Option, Some, None, refl, sym, ap, subst, ◌∙◌, arith, []}
use Rattle.std.specs.Prelude.{◌==◌, is_some, if◌then◌else◌}
use Rattle.std.proofs.lemmas.Bool.Decides.{nat_tests}
use Rattle.rasta_core.specs.Clock.{deadline, settled}
use Rattle.rasta_core.specs.Calls.{created, opens}
use Rattle.rasta_core.specs.Ends.{EndState, Call, Ticks, Opens, Closes, Sends, Receives, outcome, end_after, end_later, end_restarted, newer, reading_of}
use Rattle.rasta_core.specs.Events.{Calls, Elsewhere, Event, Loses, May, MayCall, Passes, Restarts, happened}
use Rattle.rasta_core.specs.Invariant.{Timely}
use Rattle.rasta_core.specs.Names.{AreNames, Names}
use Rattle.rasta_core.specs.Run.{Ends, called, end_of, later, lost, restarted}
use Rattle.rasta_core.specs.State.{LinkState, is_client, is_open, is_up}
use Rattle.rasta_core.specs.identity.Identity.{Identity}
use Rattle.rasta_core.specs.identity.Role.{Role}
use Rattle.rasta_core.specs.identity.Role.TheVariants as role
use Rattle.rasta_core.specs.phase.State.TheVariants as state
use Rattle.rasta_core.specs.reason.Reason.{Reason}
use Rattle.simulator_machine.specs.Link.{Client, Quiet, Down, Start, Up, Server, Before, Link, In, Gone}
use Rattle.simulator_move_laws.specs.LinkMoves.{LinkGoes, moves_between, moves_by, server_enters, server_moves}
use Rattle.simulator_move_laws.specs.EndsSeen.{client_in, client_of, is_inside, is_same_connection, represented, server_in, server_of, state_of}
use Rattle.simulator_move_laws.proofs.Links.Chains.{ClientMay, ServerMay, both_go, link, opening_goes}
use Rattle.simulator_move_laws.proofs.Links.EndEnters.{EntersBy, TakingLaws, enters_by, not_down, of_last, opening_start, opens_down}
use Rattle.simulator_move_laws.proofs.Links.Goes.{EntersNone, PlaceLaws, StaysUp, none_entered, same_self, IsMoved, by_phases}
use Rattle.simulator_move_laws.proofs.Links.Phases.{closing_by_fine, fine_up, opening_none_fine, receiving_fine, sending_item_fine, server_opens, settled_fine, ticking_fine, up_fine}
use Rattle.simulator_move_laws.proofs.Links.States.{IsShut, client_start, inside_shut, is_down}
use Rattle.simulator_move_laws.proofs.Links.Tests.{by_test}

-- the laws of the link that this stands on
pub record EventLaws : Type 0 where
  pub place : PlaceLaws
  pub taking : TakingLaws
  pub time : (names : Names) (event : Event) (ends : Ends) → AreNames names → Timely names ends → May names event ends → Timely names (happened event ends)
  pub stays : (call : Call) (moment : ℕ) (end : EndState) → is_open end.link.phase ≡ false → (outcome call moment end).enters ≡ None → is_open (outcome call moment end).link.phase ≡ false
  pub counted : (names : Names) (ends : Ends) (who : Role) (connection : ℕ) → Timely names ends → (end_of who ends).connection ≡ Some connection → connection < ends.moment

-- ---- an end that enters nothing

same_end : (end : EndState) → EntersNone end end
same_end end = record { connection = refl; shut = λ e. e }

settled_shut : (now : ℕ) (l : LinkState) → IsShut l → IsShut (settled now l)
unfolding settled
settled_shut now l shut = by_test IsShut (is_open l.phase && nat_le (deadline l) now) _ (record l { clock = now }) (λ e. refl) (λ e. shut)

later_none : (elapsed moment : ℕ) (end : EndState) → EntersNone end (end_later elapsed moment end)
unfolding end_later
later_none elapsed moment end = record { connection = refl; shut = settled_shut (reading_of (end.clock + elapsed)) end.link }

later_up : (elapsed moment : ℕ) (end : EndState) → StaysUp end (end_later elapsed moment end)
unfolding end_later
later_up elapsed moment end up opened =
    fine_up (settled (reading_of (end.clock + elapsed)) end.link).phase (settled_fine (reading_of (end.clock + elapsed)) end.link (up_fine end.link.phase up)) opened

anew_none : (clock first moment : ℕ) (end : EndState) → EntersNone end (end_restarted clock first moment end)
unfolding end_restarted created
anew_none clock first moment end = record { connection = refl; shut = λ e. refl }

anew_up : (clock first moment : ℕ) (end : EndState) → StaysUp end (end_restarted clock first moment end)
unfolding end_restarted created
anew_up clock first moment end up opened = absurd (cc opened)

call_none : EventLaws → (call : Call) (moment : ℕ) (end : EndState) → (outcome call moment end).enters ≡ None → EntersNone end (end_after (outcome call moment end) moment end)
unfolding end_after
call_none laws call moment end none = record { connection = ap (λ (e : Option ℕ). newer e end.connection) none; shut = λ shut. laws.stays call moment end shut none }

none_opens : (moment : ℕ) (test : Bool) → (if test then Some moment else None) ≡ None → test ≡ false
none_opens moment true e = absurd (cc e)
none_opens moment false e = refl

call_up : (call : Call) (moment : ℕ) (end : EndState) → is_client end.link.identity.role ≡ true → (outcome call moment end).enters ≡ None → StaysUp end (end_after (outcome call moment end) moment end)
unfolding end_after outcome
call_up Ticks moment end client none up opened = fine_up _ (ticking_fine (reading_of end.clock) end.link (up_fine end.link.phase up)) opened
call_up Opens moment end client none up opened =
    fine_up _ (opening_none_fine (reading_of end.clock) end.link (none_opens moment (opens (reading_of end.clock) end.link) none) (up_fine end.link.phase up)) opened
call_up (Closes why) moment end client none up opened = fine_up _ (closing_by_fine (reading_of end.clock) why end.link (up_fine end.link.phase up)) opened
call_up (Sends item) moment end client none up opened = fine_up _ (sending_item_fine (reading_of end.clock) item end.link (up_fine end.link.phase up)) opened
call_up (Receives bytes connection) moment end client none up opened = fine_up _ (receiving_fine (reading_of end.clock) bytes end.link client (up_fine end.link.phase up)) opened

module _ (laws : EventLaws) (names : Names) (are : AreNames names) (ends : Ends) (timely : Timely names ends) where
  is_client_end : is_client ends.client.link.identity.role ≡ true
  is_client_end = ap (λ (i : Identity). is_client i.role) timely.client.identity

  -- ---- calls that enter nothing

  quiet_call : (who : Role) (call : Call) → MayCall names who call ends → (outcome call ends.moment (end_of who ends)).enters ≡ None → IsMoved (server_enters (Calls who call) ends) ends (called who call ends)
  unfolding called
  quiet_call role.Client call may none =
      none_entered laws.place names ends (called role.Client call ends) timely (laws.time names (Calls role.Client call) ends are timely may)
      (call_none laws call ends.moment ends.client none) (same_end ends.server) (call_up call ends.moment ends.client is_client_end none)
  quiet_call role.Server call may none =
      subst (λ (e : Option ℕ). IsMoved (is_some e) ends (called role.Server call ends)) (sym none)
      (none_entered laws.place names ends (called role.Server call ends) timely (laws.time names (Calls role.Server call) ends are timely may)
      (same_end ends.client) (call_none laws call ends.moment ends.server none) (λ up opened. up))

  -- ---- the client opens

  other_connection : (moment : ℕ) (connection : Option ℕ) → ((c : ℕ) → connection ≡ Some c → c < moment) → is_same_connection (Some moment) connection ≡ false
  other_connection moment None counted = refl
  other_connection moment (Some c) counted = differ moment c (counted c refl) where
    differ : (a b : ℕ) → b < a → (a == b) ≡ false
    differ a b less = grind (arith, nat_tests)

  -- before and after it
  pub record IsOpened (new : Ends) : Type 0 where
    pub old_is : represented ends ≡ link Down (server_of ends)
    pub new_is : represented new ≡ link Start Before
    pub shut : is_open ends.server.link.phase ≡ false

  pub opened : (connection : ℕ) → (outcome Opens ends.moment ends.client).enters ≡ Some connection → IsOpened (called role.Client Opens ends)
  unfolding represented called end_after outcome
  opened connection enters = record { old_is = old_is; new_is = new_is; shut = shut } where
    new : Ends
    new = called role.Client Opens ends

    may_open : (test : Bool) → (if test then Some ends.moment else None) ≡ Some connection → test ≡ true
    may_open true e = refl
    may_open false e = absurd (cc e)

    may : opens (reading_of ends.client.clock) ends.client.link ≡ true
    may = may_open (opens (reading_of ends.client.clock) ends.client.link) enters

    is_down_now : state_of ends.client ≡ state.Down
    is_down_now = opens_down (reading_of ends.client.clock) ends.client.link (laws.place.settles names ends role.Client timely) timely.client.clock may

    shut : is_open ends.server.link.phase ≡ false
    shut = laws.place.alone names ends timely is_down_now

    old_is : represented ends ≡ link Down (server_of ends)
    old_is = ap (λ s. link (client_in s) (server_of ends)) is_down_now

    starts : (is_open new.client.link.phase ≡ true) × (is_up new.client.link.phase ≡ false)
    starts = opening_start (reading_of ends.client.clock) ends.client.link may

    new_client : client_of new.client ≡ Start
    new_client = client_start new.client (laws.place.settles names new role.Client (laws.time names (Calls role.Client Opens) ends are timely tt)) starts.0 starts.1

    inside : is_inside (state_of new.server) ≡ false
    inside = inside_shut ends.server (laws.place.alone names ends timely is_down_now)

    same : is_same_connection new.client.connection new.server.connection ≡ false
    same = ap (λ (b : Bool). is_same_connection (newer (if b then Some ends.moment else None) ends.client.connection) ends.server.connection) may
        ∙ other_connection ends.moment ends.server.connection (λ c e. laws.counted names ends role.Server c timely e)

    new_is : represented new ≡ link Start Before
    new_is = ap (λ (c : Client). link c (server_of new)) new_client
        ∙ ap (λ (b : Bool). link Start (server_in b (is_same_connection new.client.connection new.server.connection))) inside
        ∙ ap (λ (b : Bool). link Start (server_in false b)) same

  none_before : (server : Server) → server_moves server Before ≡ []
  none_before Before = refl
  none_before In = refl
  none_before Gone = refl

  client_opens : (connection : ℕ) → (outcome Opens ends.moment ends.client).enters ≡ Some connection → IsMoved false ends (called role.Client Opens ends)
  unfolding represented called end_after outcome
  client_opens connection enters =
      let new : Ends = called role.Client Opens ends
      in let is : IsOpened (called role.Client Opens ends) = opened connection enters
      in record {
        goes = subst (λ (l : Link). LinkGoes (moves_between l (represented new)) l (represented new)) (sym is.old_is)
            (subst (λ (l : Link). LinkGoes (moves_between (link Down (server_of ends)) l) (link Down (server_of ends)) l) (sym is.new_is) (opening_goes (server_of ends)));
        told = ap (λ (l : Link). server_moves (server_of ends) l.server) is.new_is ∙ none_before (server_of ends) ∙ sym (ap (λ (b : Bool). moves_by false b b) is.shut);
      }

  -- ---- the server enters

  client_same : (server : Server) (client : Client) → ClientMay server client client
  client_same server Quiet = tt
  client_same server Down = tt
  client_same server Start = tt
  client_same server Up = tt

  may_enter : (client : Client) (inside inside' same same' : Bool) → inside ≡ false → same ≡ false → same' ≡ true → client ≢ Down → ServerMay client (server_in inside same) (server_in inside' same')
  may_enter client false true false true a b c not_down = not_down
  may_enter client false false false true a b c not_down = not_down
  may_enter client true inside' same same' a b c not_down = absurd (cc a)
  may_enter client false inside' true same' a b c not_down = absurd (cc b)
  may_enter client false inside' false false a b c not_down = absurd (cc c)

  -- what the server is as it enters
  pub record Enters (old new : Ends) : Type 0 where
    pub inside : is_inside (state_of old.server) ≡ false
    pub before : is_same_connection old.client.connection old.server.connection ≡ false
    pub same : is_same_connection new.client.connection new.server.connection ≡ true
    pub client : client_of old.client ≢ Down
    pub shut : is_open old.server.link.phase ≡ false

  pub entering : (bytes : List ℕ) (connection entered : ℕ) → MayCall names role.Server (Receives bytes connection) ends → (outcome (Receives bytes connection) ends.moment ends.server).enters ≡ Some entered
      → Enters ends (called role.Server (Receives bytes connection) ends)
  unfolding called end_after
  entering bytes connection entered may enters = choose (enters_by laws.taking names ends role.Server bytes connection entered are timely may enters) where
    new : Ends
    new = called role.Server (Receives bytes connection) ends

    choose : EntersBy names role.Server ends bytes connection entered → Enters ends new
    choose by =
        let of_client = of_last names ends bytes connection by.datagram timely by.delivered
        in record {
          inside = inside_shut ends.server by.outside;
          before = ap (λ (c : Option ℕ). is_same_connection c ends.server.connection) of_client
              ∙ other_connection connection ends.server.connection (λ c e. subst (λ (n : ℕ). c < n) by.delivered.connection_same (by.opens.is_new c e));
          same = ap (λ (e : Option ℕ). is_same_connection ends.client.connection (newer e ends.server.connection)) (enters ∙ ap (λ (n : ℕ). Some n) by.same)
              ∙ ap (λ (c : Option ℕ). is_same_connection c (Some connection)) of_client ∙ same_self (Some connection);
          client = λ down. not_down laws.taking names ends bytes connection by.datagram timely by.delivered (is_down ends.client down);
          shut = by.outside;
        }

  told_entering : (inside inside' same same' : Bool) → inside ≡ false → same ≡ false → same' ≡ true → server_moves (server_in inside same) (server_in inside' same') ≡ moves_by true inside inside'
  told_entering false true false true a b c = refl
  told_entering false false false true a b c = refl
  told_entering true inside' same same' a b c = absurd (cc a)
  told_entering false inside' true same' a b c = absurd (cc b)
  told_entering false inside' false false a b c = absurd (cc c)

  call_enters : (bytes : List ℕ) (connection entered : ℕ) → MayCall names role.Server (Receives bytes connection) ends → (outcome (Receives bytes connection) ends.moment ends.server).enters ≡ Some entered
      → IsMoved true ends (called role.Server (Receives bytes connection) ends)
  unfolding represented called end_after
  call_enters bytes connection entered may enters =
      let new : Ends = called role.Server (Receives bytes connection) ends
      in let by = entering bytes connection entered may enters
      in record {
        goes = both_go (client_of ends.client) (client_of ends.client) (server_of ends) (server_of new)
            (may_enter (client_of ends.client) (is_inside (state_of ends.server)) (is_inside (state_of new.server))
            (is_same_connection ends.client.connection ends.server.connection) (is_same_connection new.client.connection new.server.connection)
            by.inside by.before by.same by.client)
            (client_same (server_of new) (client_of ends.client));
        told = sym (by_phases laws.place names ends new timely (laws.time names (Calls role.Server (Receives bytes connection)) ends are timely may))
            ∙ told_entering (is_open ends.server.link.phase) (is_open new.server.link.phase)
            (is_same_connection ends.client.connection ends.server.connection) (is_same_connection new.client.connection new.server.connection) by.shut by.before by.same;
      }

  -- ---- every event

  pub never_ticks : (end : EndState) (connection : ℕ) → (outcome Ticks ends.moment end).enters ≡ Some connection → ⊥
  unfolding outcome
  never_ticks end connection e = cc e

  pub never_closes : (why : Reason) (end : EndState) (connection : ℕ) → (outcome (Closes why) ends.moment end).enters ≡ Some connection → ⊥
  unfolding outcome
  never_closes why end connection e = cc e

  pub never_sends : (item : List ℕ) (end : EndState) (connection : ℕ) → (outcome (Sends item) ends.moment end).enters ≡ Some connection → ⊥
  unfolding outcome
  never_sends item end connection e = cc e

  pub server_opens_none : (connection : ℕ) → (outcome Opens ends.moment ends.server).enters ≡ Some connection → ⊥
  unfolding outcome
  server_opens_none connection enters = opened (opens (reading_of ends.server.clock) ends.server.link)
      (server_opens (reading_of ends.server.clock) ends.server.link (ap (λ (i : Identity). is_client i.role) timely.server.identity)) enters
    where
      opened : (test : Bool) → test ≡ false → (if test then Some ends.moment else None) ≡ Some connection → ⊥
      opened true e f = cc e
      opened false e f = cc f

  entering_call : (who : Role) (call : Call) (connection : ℕ) → MayCall names who call ends → (outcome call ends.moment (end_of who ends)).enters ≡ Some connection → IsMoved (server_enters (Calls who call) ends) ends (called who call ends)
  entering_call role.Client Opens connection may enters = client_opens connection enters
  entering_call role.Client (Receives bytes number) connection may enters =
      let by = enters_by laws.taking names ends role.Client bytes number connection are timely may enters in absurd (cc by.opens.is_server)
  entering_call role.Server Opens connection may enters = absurd (server_opens_none connection enters)
  entering_call role.Server (Receives bytes number) connection may enters =
      subst (λ (e : Option ℕ). IsMoved (is_some e) ends (called role.Server (Receives bytes number) ends)) (sym enters) (call_enters bytes number connection may enters)
  entering_call role.Client Ticks connection may enters = absurd (never_ticks ends.client connection enters)
  entering_call role.Client (Closes why) connection may enters = absurd (never_closes why ends.client connection enters)
  entering_call role.Client (Sends item) connection may enters = absurd (never_sends item ends.client connection enters)
  entering_call role.Server Ticks connection may enters = absurd (never_ticks ends.server connection enters)
  entering_call role.Server (Closes why) connection may enters = absurd (never_closes why ends.server connection enters)
  entering_call role.Server (Sends item) connection may enters = absurd (never_sends item ends.server connection enters)

  call_goes : (who : Role) (call : Call) → MayCall names who call ends → IsMoved (server_enters (Calls who call) ends) ends (called who call ends)
  call_goes who call may = by_entering (outcome call ends.moment (end_of who ends)).enters refl where
    by_entering : (enters : Option ℕ) → (outcome call ends.moment (end_of who ends)).enters ≡ enters → IsMoved (server_enters (Calls who call) ends) ends (called who call ends)
    by_entering None e = quiet_call who call may e
    by_entering (Some connection) e = entering_call who call connection may e

  pub event_goes : (event : Event) → May names event ends → IsMoved (server_enters event ends) ends (happened event ends)
  unfolding later lost restarted
  event_goes (Calls who call) may = call_goes who call may
  event_goes (Passes elapsed of_client of_server) may =
      none_entered laws.place names ends (later elapsed of_client of_server ends) timely (laws.time names (Passes elapsed of_client of_server) ends are timely may)
      (later_none of_client ends.moment ends.client) (later_none of_server ends.moment ends.server) (later_up of_client ends.moment ends.client)
  event_goes (Loses bytes) may =
      none_entered laws.place names ends (lost bytes ends) timely (laws.time names (Loses bytes) ends are timely tt) (same_end ends.client) (same_end ends.server) (λ up opened. up)
  event_goes (Restarts role.Client clock first) may =
      none_entered laws.place names ends (restarted role.Client clock first ends) timely (laws.time names (Restarts role.Client clock first) ends are timely tt)
      (anew_none clock first ends.moment ends.client) (same_end ends.server) (anew_up clock first ends.moment ends.client)
  event_goes (Restarts role.Server clock first) may =
      none_entered laws.place names ends (restarted role.Server clock first ends) timely (laws.time names (Restarts role.Server clock first) ends are timely tt)
      (same_end ends.client) (anew_none clock first ends.moment ends.server) (λ up opened. up)
  event_goes (Elsewhere count) may =
      none_entered laws.place names ends (happened (Elsewhere count) ends) timely (laws.time names (Elsewhere count) ends are timely tt) (same_end ends.client) (same_end ends.server) (λ up opened. up)
