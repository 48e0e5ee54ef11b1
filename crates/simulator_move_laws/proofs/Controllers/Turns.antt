-- What happens to the link of a point, and what happens elsewhere.
use Rattle.std.proofs.Common.{◌≡◌, ◌+◌, ℕ, Bool, true, false, ◌&&◌, List, [], ◌∷◌, ◌++◌, length, map, refl, ap, sym, ◌∙◌, subst}
use Rattle.std.specs.Prelude.{◌<◌, Some}
use Rattle.std.proofs.lemmas.List.Elements.{All-nil}
use Rattle.sci_telegram.specs.Names.{IsName}
use Rattle.std.proofs.lemmas.Bool.{false≢true}
use Rattle.sci_telegram.specs.declared.message.Side as told
use Rattle.rasta_core.specs.State.{is_open}
use Rattle.rasta_core.specs.Clock.{settled}
use Rattle.rasta_core.specs.Calls.{created}
use Rattle.rasta_core.specs.Ends.{EndState, end_later, end_restarted, reading_of}
use Rattle.rasta_core.specs.Events.{Start, started}
use Rattle.rasta_core.specs.Names.{Names, identity_of}
use Rattle.rasta_core.specs.Run.{Ends, later, restarted}
use Rattle.rasta_core.specs.identity.Role.TheVariants as role
use Rattle.object_host.specs.Host.{HostState, keeping}
use Rattle.object_host.specs.Hosted.{new_host}
use Rattle.object_host_laws.specs.World.{Event, begun, HostRestarts, Passes, World, happened, host_restarted}
use Rattle.point_ctl.specs.Controlled.{point_behaviour}
use Rattle.point_ctl.specs.Drive.{PointState, drives}
use Rattle.object_host_laws.specs.Point.{IsReported, is_moving}
use Rattle.simulator_machine.specs.Link.{Server, Before, In, Gone, Link, LinkMove, Opens, Enters, ComesUp, Closes, Leaves, QuietEnds}
use Rattle.simulator_machine.specs.Run.{first, unlinked}
use Rattle.simulator_machine.specs.Point.{Point, PointLink, Position, moves_given, point_after, reports_made}
use Rattle.simulator_machine.specs.Chains.{LinkMayChain, PointMayChain, link_chained, point_chained}
use Rattle.simulator_move_laws.specs.Items.{all_said, moves_in, position_seen, reports_in}
use Rattle.simulator_move_laws.specs.Flows.{of_server, reports_given}
use Rattle.simulator_move_laws.specs.LinkMoves.{LinkGoes, moves_by}
use Rattle.simulator_move_laws.specs.EndsSeen.{is_same_connection, represented, server_in, server_of}
use Rattle.simulator_move_laws.specs.Ends.{AreFit, IsAtEnd, OpensNone, hosted_on, server_later}
use Rattle.simulator_move_laws.specs.Point.{AreSaid, IsNamed, IsPointSeen, PointGoes}
use Rattle.simulator_move_laws.proofs.Controllers.Places.{alone_goes, at_end_later, closed_is, fit_alone, in_where_open, leaves_opens_none, moved_opens_none, open_before, out_where_closed, was_there}

-- the moves of a link leave all of a point but its drive
record Kept (old new : Point) : Type 0 where
  taken : new.taken ≡ old.taken
  flight : new.flight ≡ old.flight
  heard : new.heard ≡ old.heard
  coming : new.coming ≡ old.coming
  position : new.position ≡ old.position

linked_keeps : (moves : List LinkMove) (point : Point) → OpensNone moves → Kept point (point_chained (map PointLink moves) point)
linked_keeps [] point none = record { taken = refl; flight = refl; heard = refl; coming = refl; position = refl }
linked_keeps (Opens ∷ moves) point none = absurd none
linked_keeps (Enters ∷ moves) point none = let more = linked_keeps moves (point_after (PointLink Enters) point) none in
    record { taken = more.taken; flight = more.flight; heard = more.heard; coming = more.coming; position = more.position }
linked_keeps (ComesUp ∷ moves) point none = let more = linked_keeps moves (point_after (PointLink ComesUp) point) none in
    record { taken = more.taken; flight = more.flight; heard = more.heard; coming = more.coming; position = more.position }
linked_keeps (Closes ∷ moves) point none = let more = linked_keeps moves (point_after (PointLink Closes) point) none in
    record { taken = more.taken; flight = more.flight; heard = more.heard; coming = more.coming; position = more.position }
linked_keeps (Leaves ∷ moves) point none = let more = linked_keeps moves (point_after (PointLink Leaves) point) none in
    record { taken = more.taken; flight = more.flight; heard = more.heard; coming = more.coming; position = more.position }
linked_keeps (QuietEnds ∷ moves) point none = let more = linked_keeps moves (point_after (PointLink QuietEnds) point) none in
    record { taken = more.taken; flight = more.flight; heard = more.heard; coming = more.coming; position = more.position }

-- a point that isn't driven isn't then
stays_undriven : (moves : List LinkMove) (point : Point) → OpensNone moves → point.driven ≡ false → (point_chained (map PointLink moves) point).driven ≡ false
stays_undriven [] point none is = is
stays_undriven (Opens ∷ moves) point none is = absurd none
stays_undriven (Enters ∷ moves) point none is = stays_undriven moves (point_after (PointLink Enters) point) none is
stays_undriven (ComesUp ∷ moves) point none is = stays_undriven moves (point_after (PointLink ComesUp) point) none is
stays_undriven (Closes ∷ moves) point none is = stays_undriven moves (point_after (PointLink Closes) point) none is
stays_undriven (Leaves ∷ moves) point none is = stays_undriven moves (point_after (PointLink Leaves) point) none refl
stays_undriven (QuietEnds ∷ moves) point none is = stays_undriven moves (point_after (PointLink QuietEnds) point) none is

-- a server that has left doesn't come back
stays_gone : (moves : List LinkMove) (link : Link) → OpensNone moves → LinkMayChain moves link → link.server ≡ Gone → (link_chained moves link).server ≡ Gone
stays_gone [] link none may gone = gone
stays_gone (Opens ∷ moves) link none may gone = absurd none
stays_gone (Enters ∷ moves) link none may gone = absurd (cc (gone, may.0.0))
stays_gone (ComesUp ∷ moves) link none may gone = stays_gone moves _ none may.1 gone
stays_gone (Closes ∷ moves) link none may gone = stays_gone moves _ none may.1 gone
stays_gone (Leaves ∷ moves) link none may gone = stays_gone moves _ none may.1 refl
stays_gone (QuietEnds ∷ moves) link none may gone = stays_gone moves _ none may.1 gone

-- in a connection to the end, the drive stays
stays_driven : (moves : List LinkMove) (point : Point) → OpensNone moves → LinkMayChain moves point.link → (link_chained moves point.link).server ≡ In →
    (point_chained (map PointLink moves) point).driven ≡ point.driven
stays_driven [] point none may inside = refl
stays_driven (Opens ∷ moves) point none may inside = absurd none
stays_driven (Enters ∷ moves) point none may inside = stays_driven moves (point_after (PointLink Enters) point) none may.1 inside
stays_driven (ComesUp ∷ moves) point none may inside = stays_driven moves (point_after (PointLink ComesUp) point) none may.1 inside
stays_driven (Closes ∷ moves) point none may inside = stays_driven moves (point_after (PointLink Closes) point) none may.1 inside
stays_driven (Leaves ∷ moves) point none may inside = absurd (cc (inside, stays_gone moves (record { client = point.link.client; server = Gone }) none may.1 refl))
stays_driven (QuietEnds ∷ moves) point none may inside = stays_driven moves (point_after (PointLink QuietEnds) point) none may.1 inside

-- out of one at the end it isn't driven
ends_undriven : (moves : List LinkMove) (point : Point) → OpensNone moves → point.link.server ≡ In → ((link_chained moves point.link).server ≡ In → ⊥) →
    (point_chained (map PointLink moves) point).driven ≡ false
ends_undriven [] point none inside out = absurd (out inside)
ends_undriven (Opens ∷ moves) point none inside out = absurd none
ends_undriven (Enters ∷ moves) point none inside out = ends_undriven moves (point_after (PointLink Enters) point) none refl out
ends_undriven (ComesUp ∷ moves) point none inside out = ends_undriven moves (point_after (PointLink ComesUp) point) none inside out
ends_undriven (Closes ∷ moves) point none inside out = ends_undriven moves (point_after (PointLink Closes) point) none inside out
ends_undriven (Leaves ∷ moves) point none inside out = stays_undriven moves (point_after (PointLink Leaves) point) none refl
ends_undriven (QuietEnds ∷ moves) point none inside out = ends_undriven moves (point_after (PointLink QuietEnds) point) none inside out

module _
    (linked_may : (moves : List LinkMove) (point : Point) → LinkMayChain moves point.link → PointMayChain (map PointLink moves) point)
    (linked_link : (moves : List LinkMove) (point : Point) → (point_chained (map PointLink moves) point).link ≡ link_chained moves point.link)
  where
    pub linked_seen : (moves : List LinkMove) (ends new : Ends) (host after : HostState PointState) (point : Point) → AreFit ends → AreFit new → OpensNone moves →
        LinkGoes moves (represented ends) (represented new) → IsPointSeen ends host point → IsAtEnd new after → IsNamed after → AreSaid after.own_name after.peer_name new.server.given → IsReported (hosted_on new after) →
        new.client.given ≡ ends.client.given → new.server.taken ≡ ends.server.taken → reports_given new ≡ reports_given ends → after.object.sensed ≡ host.object.sensed →
        (is_open new.server.link.phase ≡ true → (is_open ends.server.link.phase ≡ true) × (is_moving after.object ≡ is_moving host.object)) → PointGoes point (IsPointSeen new after)
    unfolding represented
    linked_seen moves ends new host after point fit fit_after none goes seen at_end named said reported given-same taken-same reports-same stands inside =
        let keeps = linked_keeps moves point none
        in let may = subst (LinkMayChain moves) (sym seen.link) goes.may
        in let leads : link_chained moves point.link ≡ represented new = ap (link_chained moves) seen.link ∙ goes.leads
        in record {
          moves = map PointLink moves;
          may = linked_may moves point may;
          sees = record {
            at_end = at_end;
            named = named;
            said = said;
            reported = reported;
            link = linked_link moves point ∙ leads;
            given = ap (λ n. n + (point_chained (map PointLink moves) point).flight) keeps.taken ∙ ap (λ n. point.taken + n) keeps.flight ∙ seen.given ∙ ap (λ xs. length (moves_in xs)) (sym given-same);
            taken = λ opened. keeps.taken ∙ seen.taken (inside opened).0 ∙ ap (λ xs. length (moves_in xs)) (sym taken-same);
            made = ap (λ xs. xs ++ (point_chained (map PointLink moves) point).coming) keeps.heard ∙ ap (λ xs. point.heard ++ xs) keeps.coming ∙ seen.made ∙ ap reports_in (sym reports-same);
            position = keeps.position ∙ seen.position ∙ ap position_seen (sym stands);
            driven = by (is_open new.server.link.phase) (is_open ends.server.link.phase) refl refl may leads;
          };
          heard = keeps.heard;
        }
      where
        by : (o was : Bool) → is_open new.server.link.phase ≡ o → is_open ends.server.link.phase ≡ was → LinkMayChain moves point.link → link_chained moves point.link ≡ represented new →
            (point_chained (map PointLink moves) point).driven ≡ (is_open new.server.link.phase && is_moving after.object)
        by true was opened before may leads =
            stays_driven moves point none may (ap (λ (l : Link). l.server) leads ∙ in_where_open new fit_after opened)
            ∙ seen.driven ∙ ap (λ b. b && is_moving host.object) (inside opened).0 ∙ sym (inside opened).1 ∙ ap (λ b. b && is_moving after.object) (sym opened)
        by false true closed before may leads =
            ends_undriven moves point none (ap (λ (l : Link). l.server) seen.link ∙ in_where_open ends fit before)
            (λ is. out_where_closed new fit_after closed (sym (ap (λ (l : Link). l.server) leads) ∙ is))
            ∙ ap (λ b. b && is_moving after.object) (sym closed)
        by false false closed before may leads =
            stays_undriven moves point none (seen.driven ∙ ap (λ b. b && is_moving host.object) before) ∙ ap (λ b. b && is_moving after.object) (sym closed)

-- ---- time, a restart, and what happens elsewhere

-- a server that leaves has given what it gave
pub reports_stay : (ends new : Ends) → AreFit ends → AreFit new → new.client.connection ≡ ends.client.connection → new.server.connection ≡ ends.server.connection →
    new.server.given ≡ ends.server.given → (is_open new.server.link.phase ≡ true → is_open ends.server.link.phase ≡ true) → reports_given new ≡ reports_given ends
reports_stay ends new fit fit_after client-same server-same given-same opens =
    ap (of_server (server_of new)) given-same ∙ by (is_open new.server.link.phase) (is_open ends.server.link.phase) refl refl
  where
    same_was : is_same_connection new.client.connection new.server.connection ≡ is_same_connection ends.client.connection ends.server.connection
    same_was = ap (λ c. is_same_connection c new.server.connection) client-same ∙ ap (is_same_connection ends.client.connection) server-same

    by : (o was : Bool) → is_open new.server.link.phase ≡ o → is_open ends.server.link.phase ≡ was →
        of_server (server_of new) ends.server.given ≡ of_server (server_of ends) ends.server.given
    by true was opened before =
        ap (λ s. of_server s ends.server.given) (in_where_open new fit_after opened ∙ sym (in_where_open ends fit (opens opened)))
    by false true closed before =
        ap (λ s. of_server s ends.server.given) (closed_is new fit_after closed ∙ ap (server_in false) (same_was ∙ was_there ends fit before))
        ∙ sym (ap (λ s. of_server s ends.server.given) (in_where_open ends fit before))
    by false false closed before =
        ap (λ s. of_server s ends.server.given) (closed_is new fit_after closed ∙ ap (server_in false) same_was ∙ sym (closed_is ends fit before))

module _
    (kept_law : (event : Event PointState) (world : World PointState) → settled (reading_of world.ends.server.clock) world.ends.server.link ≡ world.ends.server.link
    → IsReported world → IsReported (happened point_behaviour event world))
  where
    pub later_reported : (elapsed of_client of_server : ℕ) (ends : Ends) (host : HostState PointState) → AreFit ends → IsReported (hosted_on ends host) →
        IsReported (hosted_on (later elapsed of_client of_server ends) host)
    unfolding happened later end_later
    later_reported elapsed of_client of_server ends host fit reported =
        let after : IsReported (happened point_behaviour (Passes elapsed of_client of_server) (hosted_on ends host)) = kept_law (Passes elapsed of_client of_server) (hosted_on ends host) fit.settled_at reported
        in record {
          steady = record { outside = after.steady.outside; idle = after.steady.idle };
          until = after.until;
          answered = after.answered;
          inside = after.inside;
          late = after.late;
        }

    pub restarted_reported : (clock first : ℕ) (object : PointState) (ends : Ends) (host : HostState PointState) → AreFit ends → IsReported (hosted_on ends host) →
        IsReported (hosted_on (restarted role.Server clock first ends) (new_host point_behaviour ends.server.link.identity host.own_name host.peer_name first clock object host.version))
    unfolding happened restarted end_restarted host_restarted new_host keeping created
    restarted_reported clock first object ends host fit reported =
        let after : IsReported (happened point_behaviour (HostRestarts clock first object) (hosted_on ends host)) = kept_law (HostRestarts clock first object) (hosted_on ends host) fit.settled_at reported
        in record {
          steady = record { outside = after.steady.outside; idle = after.steady.idle };
          until = after.until;
          answered = after.answered;
          inside = λ opened. absurd (false≢true opened);
          late = after.late;
        }

module _
    (linked_may : (moves : List LinkMove) (point : Point) → LinkMayChain moves point.link → PointMayChain (map PointLink moves) point)
    (linked_link : (moves : List LinkMove) (point : Point) → (point_chained (map PointLink moves) point).link ≡ link_chained moves point.link)
  where
    pub later_seen : (elapsed of_client of_server : ℕ) (moves : List LinkMove) (ends : Ends) (host : HostState PointState) (point : Point) → AreFit ends →
        AreFit (later elapsed of_client of_server ends) → OpensNone moves → LinkGoes moves (represented ends) (represented (later elapsed of_client of_server ends)) → IsPointSeen ends host point →
        IsReported (hosted_on (later elapsed of_client of_server ends) host) → PointGoes point (IsPointSeen (later elapsed of_client of_server ends) host)
    unfolding later end_later
    later_seen elapsed of_client of_server moves ends host point fit fit_after none goes seen reported =
        linked_seen linked_may linked_link moves ends (later elapsed of_client of_server ends) host host point fit fit_after none goes seen
        (at_end_later elapsed of_client of_server ends host seen.at_end) seen.named seen.said reported refl refl
        (reports_stay ends (later elapsed of_client of_server ends) fit fit_after refl refl refl (open_before (reading_of (ends.server.clock + of_server)) ends.server.link)) refl
        (λ opened. (open_before (reading_of (ends.server.clock + of_server)) ends.server.link opened, refl))

    pub restarted_seen : (clock first : ℕ) (object : PointState) (ends : Ends) (host : HostState PointState) (point : Point) → AreFit ends → AreFit (restarted role.Server clock first ends) →
        object.sensed ≡ host.object.sensed → LinkGoes (moves_by false (is_open ends.server.link.phase) false) (represented ends) (represented (restarted role.Server clock first ends)) → IsPointSeen ends host point →
        IsReported (hosted_on (restarted role.Server clock first ends) (new_host point_behaviour ends.server.link.identity host.own_name host.peer_name first clock object host.version)) →
        PointGoes point (IsPointSeen (restarted role.Server clock first ends)
        (new_host point_behaviour ends.server.link.identity host.own_name host.peer_name first clock object host.version))
    unfolding restarted end_restarted new_host keeping created
    restarted_seen clock first object ends host point fit fit_after stands goes seen reported =
        linked_seen linked_may linked_link (moves_by false (is_open ends.server.link.phase) false) ends (restarted role.Server clock first ends) host
        (new_host point_behaviour ends.server.link.identity host.own_name host.peer_name first clock object host.version) point fit fit_after
        (leaves_opens_none (is_open ends.server.link.phase)) goes seen fit_after.settled_at (record { own = seen.named.own; peer = seen.named.peer; version = seen.named.version }) seen.said reported refl refl
        (reports_stay ends (restarted role.Server clock first ends) fit fit_after refl refl refl (λ opened. absurd (false≢true opened))) stands (λ opened. absurd (false≢true opened))

reported_elsewhere : (ends new : Ends) (host : HostState PointState) → new.server ≡ ends.server → IsReported (hosted_on ends host) → IsReported (hosted_on new host)
reported_elsewhere ends new host same reported =
    let P : EndState → Type 0 = λ e. IsReported (hosted_on (record new { server = e }) host)
    in let here : P ends.server = record {
      steady = record { outside = reported.steady.outside; idle = reported.steady.idle };
      until = reported.until;
      answered = reported.answered;
      inside = reported.inside;
      late = reported.late;
    }
    in subst P (sym same) here

pub elsewhere_seen : (ends new : Ends) (host : HostState PointState) (point other : Point) → new.server ≡ ends.server → IsPointSeen ends host point → other.link ≡ represented new →
    moves_given other ≡ length (moves_in new.client.given) → (is_open new.server.link.phase ≡ true → other.taken ≡ point.taken) → reports_made other ≡ reports_in (reports_given new) →
    other.position ≡ point.position → other.driven ≡ point.driven → IsPointSeen new host other
elsewhere_seen ends new host point other server-same seen link given taken made position driven = record {
  at_end = subst (λ (e : EndState). settled (reading_of e.clock) host.link ≡ e.link) (sym server-same) seen.at_end;
  named = seen.named;
  said = subst (λ (e : EndState). AreSaid host.own_name host.peer_name e.given) (sym server-same) seen.said;
  reported = reported_elsewhere ends new host server-same seen.reported;
  link = link;
  given = given;
  taken = λ opened. taken opened ∙ seen.taken (ap (λ (e : EndState). is_open e.link.phase) (sym server-same) ∙ opened) ∙ ap (λ (e : EndState). length (moves_in e.taken)) (sym server-same);
  made = made;
  position = position ∙ seen.position;
  driven = driven ∙ seen.driven ∙ ap (λ (e : EndState). is_open e.link.phase && is_moving host.object) (sym server-same);
}

-- ---- time at the controller alone

module _
    (linked_may : (moves : List LinkMove) (point : Point) → LinkMayChain moves point.link → PointMayChain (map PointLink moves) point)
    (linked_link : (moves : List LinkMove) (point : Point) → (point_chained (map PointLink moves) point).link ≡ link_chained moves point.link)
  where
    pub alone_seen : (elapsed of_client of_server : ℕ) (ends : Ends) (host : HostState PointState) (point : Point) → AreFit ends → AreFit (later elapsed of_client of_server ends) →
        IsPointSeen ends host point → IsReported (hosted_on (later elapsed of_client of_server ends) host) → PointGoes point (IsPointSeen (server_later elapsed of_client of_server ends) host)
    unfolding later end_later
    alone_seen elapsed of_client of_server ends host point fit fit_later seen reported =
        let new : Ends = server_later elapsed of_client of_server ends
        in let after : AreFit new = fit_alone elapsed of_client of_server ends fit fit_later
        in linked_seen linked_may linked_link (moves_by false (is_open ends.server.link.phase) (is_open new.server.link.phase)) ends new host host point fit after
        (moved_opens_none (is_open ends.server.link.phase) (is_open new.server.link.phase)) (alone_goes elapsed of_client of_server ends fit after) seen
        (at_end_later elapsed of_client of_server ends host seen.at_end) seen.named seen.said (reported_elsewhere (later elapsed of_client of_server ends) new host refl reported) refl refl
        (reports_stay ends new fit after refl refl refl (open_before (reading_of (ends.server.clock + of_server)) ends.server.link)) refl
        (λ opened. (open_before (reading_of (ends.server.clock + of_server)) ends.server.link opened, refl))

-- ---- the beginning

pub begun_seen : (names : Names) (start : Start) (own_name peer_name : List ℕ) (object : PointState) (version place : ℕ) (positions : ℕ → Position) → AreFit (started names start) →
    IsName own_name → IsName peer_name → version < 256 → positions place ≡ position_seen object.sensed → represented (started names start) ≡ unlinked →
    IsReported (begun point_behaviour names start own_name peer_name object version) →
    IsPointSeen (started names start) (new_host point_behaviour (identity_of role.Server names) own_name peer_name start.server_first start.server_clock object version) ((first positions).points place)
unfolding new_host keeping created all_said
begun_seen names start own_name peer_name object version place positions fit own peer small position linked reported = record {
  at_end = fit.settled_at;
  named = record { own = own; peer = peer; version = small };
  reported = record {
    steady = record { outside = reported.steady.outside; idle = reported.steady.idle };
    until = reported.until;
    answered = reported.answered;
    inside = λ opened. absurd (false≢true opened);
    late = reported.late;
  };
  link = sym linked;
  given = refl;
  taken = λ opened. absurd (false≢true opened);
  made = sym (ap reports_in (nothing_given (server_of (started names start))));
  said = record { reports = []; are = refl; own = All-nil _ };
  position = position;
  driven = refl;
} where
  nothing_given : (server : Server) → of_server server [] ≡ []
  nothing_given Before = refl
  nothing_given In = refl
  nothing_given Gone = refl

-- ---- the drive

pub seen_driven : ((world : World PointState) → IsReported world → (side : told.Side) → drives (reading_of world.ends.server.clock) world.object ≡ Some side
    → (is_open world.ends.server.link.phase ≡ true) × (is_moving world.object ≡ true)) →
    (ends : Ends) (host : HostState PointState) (point : Point) → IsPointSeen ends host point → (side : told.Side) → drives (reading_of ends.server.clock) host.object ≡ Some side → point.driven ≡ true
seen_driven law ends host point seen side is =
    let driven = law (hosted_on ends host) seen.reported side is
    in seen.driven ∙ ap (λ b. b && is_moving host.object) driven.0 ∙ driven.1
