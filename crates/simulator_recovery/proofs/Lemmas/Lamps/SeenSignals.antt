-- What a lamp shows, by what the interlocking has given to the signal and what the controller has taken.
use Rattle.simulator_recovery.proofs.Words.Basics.{◌≡◌, ◌≢◌, inl, inr, ℕ, ◌+◌, ◌<◌, ◌≤◌, ◌&&◌, nat_lt, Bool, true, false, List, [], ◌∷◌, ◌++◌, append-nil, length, Option, Some, None, slice_get, refl, sym, ap, subst, ◌∙◌, arith, false≢true, nat_tests, same_Some}
use Rattle.simulator_recovery.proofs.Words.Links.{deadline, settled, reading_of, seen, Ends, LinkState, is_open, is_up}
use Rattle.simulator_recovery.proofs.Words.Controllers.{Aspect, SignalState}
use Rattle.simulator_recovery.proofs.Words.Interlockings.{IsTableOf, PeerState, is_ready, message_of, Stage, KnownSignalState, Table}
use Rattle.simulator_recovery.proofs.Words.Stations.{Site, Once, IsStation, ServerEnd, end_of_server, names_at, links, shown_by, ClockedControllerState, WorldState, IsReached, Represents, given_in}
use Rattle.simulator_recovery.proofs.Words.Machine.{last_of, Server, Before, In, Gone, Machine, Signal, Stop as MachineStop, aspects_given, shown, shown_by as machine_shows, is_inside, IsLastGiven, KnownSignalFits, SeesSignal, aspects_of, commanded, item_of, aspect_seen, aspects_in}
use Rattle.simulator_recovery.proofs.Words.Recovery.{HasHandedOver, GivesNoMore, HasStopLast, IsAtStop, IsGivenNoMore, IsStopLast, AreInOne, IsUpOn, IsGivenLast, LawsBelow}
use Rattle.simulator_move_laws.specs.Telegrams.{aspect_seen as aspect_commanded, given_by}
use Rattle.simulator_spec.specs.ixl_client.declared.command.Command.{Command}
use Rattle.simulator_recovery.proofs.Lemmas.Ground.ClientItem.{at_front}
use Rattle.simulator_recovery.proofs.Lemmas.Ground.AtLink.{mapped}
use Rattle.simulator_recovery.proofs.Lemmas.Talk.ClientLinks.{up_open}
use Rattle.simulator_recovery.proofs.Lemmas.Links.HandedOver.{client_is, server_is}
use Rattle.simulator_recovery.proofs.Lemmas.Links.InOne.{in_one}
use Rattle.simulator_recovery.proofs.Lemmas.Ground.LinkCounts.{settled_open}
use Rattle.simulator_recovery.proofs.Lemmas.Ground.EndCalls.{at_place, map_length, none_long}
use Rattle.simulator_recovery.proofs.Lemmas.Silence.Shown.{counted_given, counted_taken}
use Rattle.simulator_recovery.proofs.Lemmas.Silence.Spent.{settled_given, settled_taken}

-- the laws that this stands on
-- ---- lists

last_none : {A : Type 0} (one other : List A) → one ++ other ≡ [] → one ≡ []
last_none [] other e = refl
last_none (first ∷ one) other e = absurd (cc e)

no_rest : {A : Type 0} (whole front rest : List A) → whole ≡ front ++ rest → length whole ≤ length front → whole ≡ front
no_rest whole front [] are long = are ∙ append-nil front
no_rest whole front (first ∷ rest) are long = let so = ap length are in let more = both front (first ∷ rest) in absurd (omega (arith, so, more, long))
  where
    both : {B : Type 0} (one other : List B) → length (one ++ other) ≡ length one + length other
    both [] other = omega arith
    both (head ∷ one) other = let more = both one other in omega (arith, more)

-- ---- a signal at one moment

-- a link that is up at a reading is in a connection then
pub inside_at : (now : ℕ) (l : LinkState) → is_up (settled now l).phase ≡ true → is_inside now l ≡ true
inside_at now l up = let so = settled_open now l (up_open (settled now l).phase up) in both (is_open l.phase) (nat_lt now (deadline l)) so.1 (below now (deadline l) so.2)
  where
    below : (a b : ℕ) → a < b → nat_lt a b ≡ true
    below a b less = grind (arith, nat_tests, less)

    both : (a b : Bool) → a ≡ true → b ≡ true → (a && b) ≡ true
    both true true e f = refl
    both true false e f = absurd (cc f)
    both false b e f = absurd (cc e)

-- What a signal was given and what its controller took, where the link is up at both ends.
pub record SignalAt (world : WorldState) (known : KnownSignalState) (server : ServerEnd) (signal : Signal) : Type 0 where
  pub commands : List Command
  pub given : List (List ℕ)
  pub taken : List (List ℕ)
  pub rest : List (List ℕ)
  pub begins : given ≡ taken ++ rest
  pub gave : known.client.link.given ≡ length given
  pub took : server.link.taken ≡ length taken
  pub are : given ≡ given_by known.client.peer known.client.stage commands
  pub early : is_ready known.client.stage ≡ false → commands ≡ []
  pub last : IsLastGiven known.aspect known.number commands
  pub commanded : aspects_given signal ≡ aspects_of commands
  pub told : aspects_given signal ≡ aspects_in given
  pub done : signal.done ≡ aspects_in taken

module _ (laws : LawsBelow) (site : Site) (table : Table) (world : WorldState) (machine : Machine) (represented : Represents site table world machine) (place : ℕ) (below : place < links site)
    (up : IsUpOn place world) (known : KnownSignalState) (there : slice_get world.interlocking.ixl.known_signals place ≡ Some known) (controller : ClockedControllerState SignalState) (stands : slice_get world.signals place ≡ Some controller) where
  abbrev now : ℕ
  now = reading_of world.interlocking.clock

  abbrev ends : Ends
  ends = seen place represented.network

  pub client_same : up.client ≡ known.client.link
  client_same = same_Some up.client known.client.link (sym up.client_there ∙ at_front _ _ place known.client.link (mapped (λ (k : KnownSignalState). k.client.link) world.interlocking.ixl.known_signals place known there))

  pub server_same : up.server ≡ end_of_server controller
  server_same = same_Some up.server (end_of_server controller) (sym up.server_there ∙ at_front _ _ place (end_of_server controller) (mapped end_of_server world.signals place controller stands))

  one : AreInOne place represented.network
  one = in_one laws site place world represented.network below represented.linked.lawful.timely represented.linked.are up

  inside : is_inside now known.client.link ≡ true
  inside = inside_at now known.client.link (ap (λ (l : LinkState). is_up (settled now l).phase) (sym client_same) ∙ up.client_up)

  client_open : is_open ends.client.link.phase ≡ true
  client_open = ap (λ (l : LinkState). is_open l.phase) (client_is site place below world represented.network represented.linked.are up) ∙ up_open (settled now up.client).phase up.client_up

  server_open : is_open ends.server.link.phase ≡ true
  server_open = ap (λ (l : LinkState). is_open l.phase) (server_is site place below world represented.network represented.linked.are up) ∙ up_open (settled (reading_of up.server.clock) up.server.link).phase up.server_up

  fits : KnownSignalFits now known ((given_in site represented.network).signals place) (machine.signals place)
  fits = (subst (λ (found : Option KnownSignalState). SeesSignal now world.interlocking.ixl found ((given_in site represented.network).signals place) (machine.signals place)) there (represented.station.sees.signals place)).fits

  pub signal_at : SignalAt world known up.server (machine.signals place)
  signal_at =
      let counted = laws.items_are_counted (names_at site place) ends (represented.linked.lawful.ordered place below) one.connection one.client one.server
      in let safe = (laws.order_is_safe (names_at site place) ends (represented.linked.lawful.ordered place below) one.connection one.client one.server).0
      in let seen_there = represented.signals.each place controller stands
      in record {
        commands = fits.commands;
        given = ends.client.given;
        taken = ends.server.taken;
        rest = safe.rest;
        begins = safe.beginning;
        gave = sym (settled_given now known.client.link) ∙ (ap (λ (l : LinkState). (settled now l).given) (sym client_same) ∙ (ap (λ (l : LinkState). l.given) (sym (client_is site place below world represented.network represented.linked.are up)) ∙ counted_given ends.client counted.0 client_open));
        took = sym (settled_taken (reading_of up.server.clock) up.server.link) ∙ (ap (λ (l : LinkState). l.taken) (sym (server_is site place below world represented.network represented.linked.are up)) ∙ counted_taken ends.server counted.1 server_open);
        are = fits.client.given inside;
        early = fits.client.early inside;
        last = fits.last inside;
        commanded = fits.aspects inside;
        told = seen_there.given;
        done = seen_there.done server_open;
      }

-- ---- what is shown

commanded_length : (peer : PeerState) (commands : List Command) → length (commanded peer commands) ≡ length commands
commanded_length peer commands = map_length (λ (command : Command). item_of peer (message_of command)) commands

pub given_length : (peer : PeerState) (s : Stage) (commands : List Command) → is_ready s ≡ true → length (given_by peer s commands) ≡ 2 + length commands
given_length peer Stage.Outside commands e = absurd (false≢true e)
given_length peer Stage.AwaitsAnswer commands e = absurd (false≢true e)
given_length peer Stage.AwaitsStart commands e = absurd (false≢true e)
given_length peer (Stage.AwaitsStatus left) commands e = absurd (false≢true e)
given_length peer Stage.Completed commands e = let n = commanded_length peer commands in omega (arith, n)
given_length peer Stage.AwaitsReport commands e = let n = commanded_length peer commands in omega (arith, n)

pub given_most : (peer : PeerState) (s : Stage) (commands : List Command) → length (given_by peer s commands) ≤ 2 + length commands
given_most peer Stage.Outside commands = omega arith
given_most peer Stage.AwaitsAnswer commands = omega arith
given_most peer Stage.AwaitsStart commands = omega arith
given_most peer (Stage.AwaitsStatus left) commands = omega arith
given_most peer Stage.Completed commands = let n = commanded_length peer commands in omega (arith, n)
given_most peer Stage.AwaitsReport commands = let n = commanded_length peer commands in omega (arith, n)

-- where the last aspect that the controller acted on is stop, or none, the machine's signal is at stop
stop_shown : (signal : Signal) → last_of MachineStop signal.done ≡ MachineStop → shown signal ≡ MachineStop
stop_shown signal last = by_server signal.link.server
  where
    by_server : (server : Server) → machine_shows server signal.done ≡ MachineStop
    by_server Before = refl
    by_server In = last
    by_server Gone = refl

-- none was commanded
none_done : (signal : Signal) (commands : List Command) → aspects_given signal ≡ aspects_of commands → commands ≡ [] → last_of MachineStop signal.done ≡ MachineStop
none_done signal commands are none = ap (last_of MachineStop) (last_none signal.done signal.flight (are ∙ ap aspects_of none))

-- a command and an item tell the machine the same of an aspect
same_seen : (aspect : Aspect) → aspect_commanded aspect ≡ aspect_seen aspect
same_seen Aspect.Stop = refl
same_seen Aspect.Proceed = refl
same_seen Aspect.Slow = refl

module _ {old new : WorldState} {before after : KnownSignalState} {was_server server : ServerEnd} {was signal : Signal} (s : SignalAt old before was_server was) (t : SignalAt new after server signal)
    (over : before.client.link.given ≤ server.link.taken) where
  none_given : after.aspect ≡ None → last_of MachineStop signal.done ≡ MachineStop
  none_given e = none_done signal t.commands t.commanded (subst (λ (aspect : Option Aspect). IsLastGiven aspect after.number t.commands) e t.last)

  -- the controller has acted on the aspect last, which was given before, and nothing since
  pub aspect_is_done : (aspect : Aspect) → IsGivenLast aspect before after → last_of MachineStop signal.done ≡ aspect_seen aspect
  aspect_is_done aspect given = by_stage (is_ready before.client.stage) refl
    where
      was_last : IsLastGiven (Some aspect) before.number s.commands
      was_last = subst (λ (a : Option Aspect). IsLastGiven a before.number s.commands) given.0 s.last

      is_last : IsLastGiven (Some aspect) after.number t.commands
      is_last = subst (λ (a : Option Aspect). IsLastGiven a after.number t.commands) given.1 t.last

      last_is : last_of MachineStop (aspects_of t.commands) ≡ aspect_seen aspect
      last_is = is_last.0 ∙ same_seen aspect

      number : after.number ≡ before.number
      number = given.2

      -- no command was given: then the aspect is stop
      none_commanded : t.commands ≡ [] → last_of MachineStop signal.done ≡ aspect_seen aspect
      none_commanded none = ap (last_of MachineStop) (last_none signal.done signal.flight (t.commanded ∙ ap aspects_of none)) ∙ (sym (ap (λ (c : List Command). last_of MachineStop (aspects_of c)) none) ∙ last_is)

      -- all that was given is taken
      all_taken : length t.given ≤ length t.taken → last_of MachineStop signal.done ≡ aspect_seen aspect
      all_taken all = ap (last_of MachineStop) (t.done ∙ (ap aspects_in (sym (no_rest t.given t.taken t.rest t.begins all)) ∙ (sym t.told ∙ t.commanded))) ∙ last_is

      by_stage : (b : Bool) → is_ready before.client.stage ≡ b → last_of MachineStop signal.done ≡ aspect_seen aspect
      by_stage false e = none_commanded (none_long t.commands (let n = ap length (s.early e) in let m = was_last.1 in let k = is_last.1 in omega (arith, n, m, k, number)))
      by_stage true e =
          let n = ap length s.are ∙ given_length before.client.peer before.client.stage s.commands e
          in let most : length t.given ≤ 2 + length t.commands = subst (λ (items : List (List ℕ)). length items ≤ 2 + length t.commands) (sym t.are) (given_most after.client.peer after.client.stage t.commands)
          in let m = was_last.1
          in let k = is_last.1
          in let gave = s.gave
          in let took = t.took
          in all_taken (omega (arith, n, most, m, k, number, gave, took, over))

  pub stop_is_done : IsStopLast before → IsGivenNoMore before after → last_of MachineStop signal.done ≡ MachineStop
  stop_is_done last (inl none) = none_given none
  stop_is_done (inl none) (inr (same, number)) = none_given (same ∙ none)
  stop_is_done (inr stop) (inr (same, number)) = aspect_is_done Aspect.Stop (stop, same ∙ stop, number)

-- a lamp that shows no aspect but one that the machine's signal shows
stop_alone : (aspect : Aspect) → (aspect ≢ Aspect.Stop → MachineStop ≡ aspect_seen aspect) → aspect ≡ Aspect.Stop
stop_alone Aspect.Stop other = refl
stop_alone Aspect.Proceed other = absurd (cc (other (λ same. absurd (cc same))))
stop_alone Aspect.Slow other = absurd (cc (other (λ same. absurd (cc same))))

-- ---- two moments

-- what the machine sees of a world that is reached
pub seen_then : LawsBelow → (site : Site) (table : Table) → Once site → IsStation site → IsTableOf site table → (world : WorldState) → IsReached site table world → (machine : Machine) × Represents site table world machine
seen_then laws site table once station is_table world reached = subst (λ (w : WorldState). (machine : Machine) × Represents site table w machine) (sym reached.after) (laws.every_world_is_safe site table reached.outset reached.events once station is_table reached.lies reached.can)

pub known_there : (site : Site) (table : Table) (world : WorldState) (machine : Machine) → Represents site table world machine → (place : ℕ) → place < length site.signals → (known : KnownSignalState) × (slice_get world.interlocking.ixl.known_signals place ≡ Some known)
known_there site table world machine seen place few = let many = seen.linked.whole.clients.known_signals in at_place world.interlocking.ixl.known_signals place (omega (arith, few, many))

pub controller_there : (site : Site) (table : Table) (world : WorldState) (machine : Machine) → Represents site table world machine → (place : ℕ) → place < length site.signals → (controller : ClockedControllerState SignalState) × (slice_get world.signals place ≡ Some controller)
controller_there site table world machine seen place few = let many = seen.linked.whole.signals in at_place world.signals place (omega (arith, few, many))

pub falls_to_stop : LawsBelow → (site : Site) (table : Table) (old new : WorldState) (place : ℕ) → Once site → IsStation site → IsTableOf site table → IsReached site table old → IsReached site table new → place < length site.signals
    → HasHandedOver place old new → HasStopLast place old.interlocking.ixl → GivesNoMore place old.interlocking.ixl new.interlocking.ixl → IsAtStop place new
falls_to_stop laws site table old new place once station is_table reached_old reached_new few over stop_last no_more =
    let was = seen_then laws site table once station is_table old reached_old
    in let is = seen_then laws site table once station is_table new reached_new
    in let below : place < links site = omega (arith, few)
    in let before = known_there site table old was.0 was.1 place few
    in let after = known_there site table new is.0 is.1 place few
    in let first = controller_there site table old was.0 was.1 place few
    in let second = controller_there site table new is.0 is.1 place few
    in let s = signal_at laws site table old was.0 was.1 place below over.before before.0 before.1 first.0 first.1
    in let t = signal_at laws site table new is.0 is.1 place below over.behind after.0 after.1 second.0 second.1
    in let same = client_same laws site table old was.0 was.1 place below over.before before.0 before.1 first.0 first.1
    in let done = stop_is_done s t (subst (λ (l : LinkState). l.given ≤ over.behind.server.link.taken) same over.to_controller) (stop_last before.0 before.1) (no_more before.0 after.0 before.1 after.1)
    in let machine_stops = stop_shown (is.0.signals place) done
    in (second.0, second.1, stop_alone (shown_by second.0) (λ other. sym machine_stops ∙ (laws.represented_worlds_are_seen site table new is.0 station is_table is.1).shows place second.0 second.1 other))
