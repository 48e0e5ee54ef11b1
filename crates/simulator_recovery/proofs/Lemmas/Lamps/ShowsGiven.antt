-- A lamp shows the aspect that its signal was given, where this has come over and nothing was given since.
use Rattle.simulator_recovery.proofs.Words.Basics.{◌≡◌, ℕ, zero, suc, ◌+◌, ◌*◌, ◌≤◌, ◌&&◌, ◌==◌, nat_le, nat_lt, Bool, true, false, not, List, [], ◌∷◌, ◌++◌, length, map, drop, Option, Some, None, slice_get, refl, sym, subst, arith, slice_index_or, list_all, zip, false≢true, nat_tests, none-some, same_Some, ◌<◌, if◌then◌else◌, ap, ◌∙◌, Result, Ok, Err}
use Rattle.simulator_recovery.proofs.Words.Links.{Each, alive_until, deadline, settled, reading_of, seen, stops_at_greatest, Ends, LinkState, is_open, is_up}
use Rattle.simulator_recovery.proofs.Words.Controllers.{SignalState, last_indicated, command_of, commands_of, is_command, reading, SciFault, Aspect, Message, SignalMessage, IndicateAspect, IndicatedAspect, Telegram, or_else, standing, indicates}
use Rattle.simulator_recovery.proofs.Words.Interlockings.{changed, Table, IsTableOf, KnownSignalState}
use Rattle.simulator_recovery.proofs.Words.Stations.{DetectorEntry, Site, Point as PointEntry, Signal as SignalEntry, Event, Refused, controller_anew, controller_later, Beginning, Outset, at_zero, first_controller, new_detector, new_signal, point_standing, world_at, all_later, detector_anew, happens, made_anew, passed, point_anew, signal_anew, Detector, Interlocking, Node, node_at, nodes, all_within, are_within, clock_limit, interlocking_within, is_missing, keeps_time, refusal, refusal_of_time, refused_where, CanHappen, after_all, ClockedControllerState, WorldState, IsReached, Once, IsStation, ServerEnd, end_of_server, links, shown_by, Represents}
use Rattle.simulator_recovery.proofs.Words.Recovery.{clock_of, clocks_of, HasHandedOver, IsUpOn, Shows, StaysGiven, LawsBelow}
use Rattle.simulator_recovery.proofs.Words.Machine.{last_of, Machine, Aspect as MachineAspect, Proceed as MachineProceed, Stop as MachineStop, all_said, aspect_seen, aspects_in, said_by}
use Rattle.simulator_spec.specs.Nodes.{Point, Signal}
use Rattle.simulator_move_laws.specs.Items.{aspects_of}
use Rattle.simulator_recovery.proofs.Lemmas.Rounds.Clocks.{calm_still, each_joined}
use Rattle.simulator_recovery.proofs.Lemmas.Ground.EndCalls.{each_both}
use Rattle.simulator_recovery.proofs.Lemmas.Ground.DueTests.{first_true, last_true}
use Rattle.simulator_recovery.proofs.Lemmas.Talk.ClientLinks.{up_open}
use Rattle.simulator_recovery.proofs.Lemmas.Links.HandedOver.{server_is}
use Rattle.simulator_recovery.proofs.Lemmas.Ground.LinkCounts.{settled_open}
use Rattle.simulator_recovery.proofs.Lemmas.Lamps.SeenSignals.{aspect_is_done, client_same, controller_there, known_there, seen_then, server_same, signal_at}

-- ---- no clock of a station passes the limit of clocks, whatever happens

abbrev pub IsWithin : ℕ → Type 0
IsWithin clock = clock ≤ clock_limit

-- ---- tests and lists

le_told : (a b : ℕ) → nat_le a b ≡ true → a ≤ b
le_told a b e = grind (arith, nat_tests, e)

not_later : (a b : ℕ) → nat_lt a b ≡ false → b ≤ a
not_later a b e = grind (arith, nat_tests, e)

not_false : (b : Bool) → not b ≡ false → b ≡ true
not_false true e = refl
not_false false e = absurd (false≢true (sym e))

-- a test that didn't fail, and what is refused after it
where_passed : (fails : Bool) (why : Refused) (rest : Option Refused) → refused_where fails why rest ≡ None → (fails ≡ false) × (rest ≡ None)
where_passed true why rest e = absurd (cc e)
where_passed false why rest e = (refl, e)

joined : (a b c : List ℕ) → Each IsWithin a → Each IsWithin b → Each IsWithin c → Each IsWithin (a ++ (b ++ c))
joined a b c of_a of_b of_c = each_both IsWithin a (b ++ c) of_a (each_both IsWithin b c of_b of_c)

parted : (a b c : List ℕ) → Each IsWithin (a ++ (b ++ c)) → Each IsWithin a × Each IsWithin b × Each IsWithin c
parted a b c each = let one = each_joined IsWithin a (b ++ c) each in let two = each_joined IsWithin b c one.1 in (one.0, two.0, two.1)

-- the clocks of a world by its parts
of_world : (world : WorldState) → IsWithin world.time → IsWithin world.interlocking.clock → Each IsWithin (map clock_of world.signals) → Each IsWithin (map clock_of world.points) → Each IsWithin (map clock_of world.detectors) → Each IsWithin (clocks_of world)
of_world world time station signals points detectors = (time, (station, joined (map clock_of world.signals) (map clock_of world.points) (map clock_of world.detectors) signals points detectors))

parts : (world : WorldState) → Each IsWithin (clocks_of world) → Each IsWithin (map clock_of world.signals) × Each IsWithin (map clock_of world.points) × Each IsWithin (map clock_of world.detectors)
parts world each = parted (map clock_of world.signals) (map clock_of world.points) (map clock_of world.detectors) each.1.1

-- ---- time passes

-- no clock of these goes past the limit, and the test goes on with the steps that are left
later_within : {Object : Type 0} (moment : ℕ) (list : List (ClockedControllerState Object)) (steps : List ℕ) (others : List ℕ → Bool) → Each IsWithin (map clock_of list) → are_within list steps others ≡ true
    → Each IsWithin (map clock_of (all_later moment steps list)) × (others (drop (length list) steps) ≡ true)
unfolding controller_later
later_within moment [] steps others each e = (tt, e)
later_within moment (first ∷ list) [] others each e = (each, e)
later_within moment (first ∷ list) (step ∷ steps) others each e =
    let rest = later_within moment list steps others each.1 (last_true (nat_le (first.clock + step) clock_limit) (are_within list steps others) e)
    in ((le_told (first.clock + step) clock_limit (first_true (nat_le (first.clock + step) clock_limit) (are_within list steps others) e), rest.0), rest.1)

station_within : (clock : ℕ) (steps : List ℕ) (others : List ℕ → Bool) → IsWithin clock → interlocking_within clock steps others ≡ true → IsWithin (clock + slice_index_or steps 0 0) × (others (drop 1 steps) ≡ true)
station_within clock [] others was e = (omega (arith, was), e)
station_within clock (step ∷ steps) others was e =
    (le_told (clock + step) clock_limit (first_true (nat_le (clock + step) clock_limit) (others steps) e), last_true (nat_le (clock + step) clock_limit) (others steps) e)

time_within : (site : Site) (elapsed : ℕ) (steps : List ℕ) (world : WorldState) → refusal_of_time site elapsed steps world ≡ None → Each IsWithin (clocks_of world) → Each IsWithin (clocks_of (passed elapsed steps world))
unfolding passed refusal_of_time
time_within site elapsed steps world none each =
    let was = parts world each
    in let counted = where_passed (not (length steps == nodes site)) _ _ none
    in let kept = where_passed (not (list_all (keeps_time elapsed) steps)) _ _ counted.1
    in let limited = where_passed (not (nat_le (world.time + elapsed) clock_limit && all_within world steps)) _ _ kept.1
    in let both = not_false (nat_le (world.time + elapsed) clock_limit && all_within world steps) limited.0
    in let station = station_within world.interlocking.clock steps of_signals each.1.0 (last_true (nat_le (world.time + elapsed) clock_limit) (all_within world steps) both)
    in let signals = later_within (length world.sent) world.signals (drop 1 steps) of_points was.0 station.1
    in let points = later_within (length world.sent) world.points (drop (length world.signals) (drop 1 steps)) of_detectors was.1 signals.1
    in let detectors = later_within (length world.sent) world.detectors (drop (length world.points) (drop (length world.signals) (drop 1 steps))) (λ rest. true) was.2 points.1
    in of_world (passed elapsed steps world) (le_told (world.time + elapsed) clock_limit (first_true (nat_le (world.time + elapsed) clock_limit) (all_within world steps) both)) station.0 signals.0 points.0 detectors.0
  where
    of_detectors : List ℕ → Bool
    of_detectors rest = are_within world.detectors rest (λ none_left. true)

    of_points : List ℕ → Bool
    of_points rest = are_within world.points rest of_detectors

    of_signals : List ℕ → Bool
    of_signals rest = are_within world.signals rest of_points

-- ---- a node is made anew

anew_within : {Object : Type 0} (change : ClockedControllerState Object → ClockedControllerState Object) (clock place : ℕ) (list : List (ClockedControllerState Object)) → ((one : ClockedControllerState Object) → clock_of (change one) ≡ clock) → IsWithin clock
    → Each IsWithin (map clock_of list) → Each IsWithin (map clock_of (changed change place list))
anew_within change clock place [] is within each = tt
anew_within change clock zero (first ∷ others) is within each = (subst IsWithin (sym (is first)) within, each.1)
anew_within change clock (suc place) (first ∷ others) is within each = (each.0, anew_within change clock place others is within each.1)

module _ (site : Site) (table : Table) (begins : Beginning) (within : IsWithin (begins.clock * 1000)) (world : WorldState) (each : Each IsWithin (clocks_of world)) where
  signal_within : (place : ℕ) (entry : Option SignalEntry) → Each IsWithin (clocks_of (signal_anew site begins place entry world))
  unfolding controller_anew
  signal_within place None = each
  signal_within place (Some entry) = let was = parts world each
      in of_world (signal_anew site begins place (Some entry) world) each.0 each.1.0 (anew_within (controller_anew (new_signal site begins entry) begins.clock (length world.sent)) (begins.clock * 1000) place world.signals (λ one. refl) within was.0) was.1 was.2

  point_within : (place : ℕ) (entry : Option PointEntry) → Each IsWithin (clocks_of (point_anew site begins place entry world))
  unfolding controller_anew
  point_within place None = each
  point_within place (Some entry) = let was = parts world each
      in of_world (point_anew site begins place (Some entry) world) each.0 each.1.0 was.0 (anew_within _ (begins.clock * 1000) place world.points (λ one. refl) within was.1) was.2

  detector_within : (place : ℕ) (entry : Option DetectorEntry) → Each IsWithin (clocks_of (detector_anew site begins place entry world))
  unfolding controller_anew
  detector_within place None = each
  detector_within place (Some entry) = let was = parts world each
      in of_world (detector_anew site begins place (Some entry) world) each.0 each.1.0 was.0 was.1 (anew_within _ (begins.clock * 1000) place world.detectors (λ one. refl) within was.2)

  made_within : (at : Option Node) → Each IsWithin (clocks_of (made_anew site table begins at world))
  made_within None = each
  made_within (Some Interlocking) = (each.0, (within, each.1.1))
  made_within (Some (Signal place)) = signal_within place (slice_get site.signals place)
  made_within (Some (Point place)) = point_within place (slice_get site.points place)
  made_within (Some (Detector place)) = detector_within place (slice_get site.detectors place)

-- ---- each event

event_within : (site : Site) (table : Table) (happening : Event) (world : WorldState) → refusal site happening world ≡ None → Each IsWithin (clocks_of world) → Each IsWithin (clocks_of (happens site table happening world))
unfolding happens refusal
event_within site table (Event.Time elapsed clocks) world none each = time_within site elapsed clocks world none each
event_within site table (Event.Restart node clock first) world none each =
    made_within site table (record { clock = clock; first = first }) (not_later clock_limit (clock * 1000) (where_passed (nat_lt clock_limit (clock * 1000)) _ _ (where_passed (is_missing node.0 site) _ _ none).1).0) world each (node_at site node.0)
event_within site table (Event.Lose bytes) world none each = each
event_within site table (Event.Request command) world none each = subst (Each IsWithin) (sym (calm_still site table (Event.Request command) world tt).clocks) each
event_within site table (Event.Occupy section occupancy) world none each = subst (Each IsWithin) (sym (calm_still site table (Event.Occupy section occupancy) world tt).clocks) each
event_within site table (Event.Tick node) world none each = subst (Each IsWithin) (sym (calm_still site table (Event.Tick node) world tt).clocks) each
event_within site table (Event.Deliver node bytes) world none each = subst (Each IsWithin) (sym (calm_still site table (Event.Deliver node bytes) world tt).clocks) each
event_within site table (Event.Reach point position) world none each = subst (Each IsWithin) (sym (calm_still site table (Event.Reach point position) world tt).clocks) each

events_within : (site : Site) (table : Table) (events : List Event) (world : WorldState) → CanHappen site table events world → Each IsWithin (clocks_of world) → Each IsWithin (clocks_of (after_all site table events world))
events_within site table [] world can each = each
events_within site table (first ∷ others) world can each = events_within site table others (happens site table first world) can.1 (event_within site table first world can.0 each)

-- all clocks are 0 at first
zeros_within : {X Object : Type 0} (make : X → ClockedControllerState Object) (list : List X) → ((one : X) → clock_of (make one) ≡ 0) → Each IsWithin (map clock_of (map make list))
zeros_within make [] is = tt
zeros_within make (first ∷ others) is = (subst IsWithin (sym (is first)) (omega arith), zeros_within make others is)

first_within : (site : Site) (table : Table) (outset : Outset) → Each IsWithin (clocks_of (world_at site table outset))
unfolding world_at
first_within site table outset = of_world (world_at site table outset) (omega arith) (omega arith)
    (zeros_within (λ signal. first_controller (new_signal site at_zero signal)) site.signals (λ one. refl))
    (zeros_within (point_standing site) (zip site.points outset.positions) (λ one. refl))
    (zeros_within (λ detector. first_controller (new_detector site at_zero outset.occupancies detector)) site.detectors (λ one. refl))

pub clocks_within : (site : Site) (table : Table) (world : WorldState) → IsReached site table world → Each IsWithin (clocks_of world)
clocks_within site table world reached =
    subst (λ (w : WorldState). Each IsWithin (clocks_of w)) (sym reached.after) (events_within site table reached.events (world_at site table reached.outset) reached.can (first_within site table reached.outset))

-- so the clock of each signal's controller
pub signal_clock_within : (site : Site) (table : Table) (world : WorldState) → IsReached site table world → (place : ℕ) (controller : ClockedControllerState SignalState) → slice_get world.signals place ≡ Some controller → IsWithin controller.clock
signal_clock_within site table world reached place controller there = one_within place world.signals (parts world (clocks_within site table world reached)).0 there
  where
    one_within : (k : ℕ) (list : List (ClockedControllerState SignalState)) → Each IsWithin (map clock_of list) → slice_get list k ≡ Some controller → IsWithin controller.clock
    one_within k [] each e = absurd (none-some controller e)
    one_within zero (first ∷ others) each e = subst (λ (c : ClockedControllerState SignalState). IsWithin c.clock) (same_Some first controller e) each.0
    one_within (suc k) (first ∷ others) each e = one_within k others each.1 e

-- ---- a lamp shows the aspect that its signal was given, where this has come over and nothing was given since

-- ---- aspects as the machine reads them

of_number : ℕ → Aspect
of_number zero = Aspect.Proceed
of_number (suc n) = Aspect.Slow

told_by : MachineAspect → Aspect
told_by MachineStop = Aspect.Stop
told_by (MachineProceed number) = of_number number

told_back : (aspect : Aspect) → told_by (aspect_seen aspect) ≡ aspect
unfolding told_by of_number
told_back Aspect.Stop = refl
told_back Aspect.Proceed = refl
told_back Aspect.Slow = refl

-- no two aspects are read as one
seen_once : (one other : Aspect) → aspect_seen one ≡ aspect_seen other → one ≡ other
seen_once one other e = sym (told_back one) ∙ (ap told_by e ∙ told_back other)

-- the last aspect that items tell the machine is the last one that they command
last_told : (items : List (List ℕ)) (last : Aspect) → last_of (aspect_seen last) (aspects_in items) ≡ aspect_seen (last_indicated (commands_of items) last)
unfolding all_said last_indicated commands_of
last_told [] last = refl
last_told (item ∷ items) last = by (reading item) (λ other. last_told items other)
  where
    Rest : Type 0
    Rest = (other : Aspect) → last_of (aspect_seen other) (aspects_in items) ≡ aspect_seen (last_indicated (commands_of items) other)

    of_signal : (m : SignalMessage) → Rest → last_of (aspect_seen last) (aspects_of (Message.Signal m) ++ aspects_in items) ≡ aspect_seen (last_indicated (commands_of items) (or_else (indicates (Message.Signal m)) last))
    of_signal (IndicateAspect aspect) rest = rest aspect
    of_signal (IndicatedAspect aspect) rest = rest last

    indicated_by : (m : Message) (telegram : Telegram) → telegram.message ≡ m → aspect_seen (last_indicated (commands_of items) (or_else (indicates m) last)) ≡ aspect_seen (last_indicated (telegram ∷ commands_of items) last)
    indicated_by m telegram is = ap (λ (n : Message). aspect_seen (last_indicated (commands_of items) (or_else (indicates n) last))) (sym is)

    of_message : (m : Message) (telegram : Telegram) → telegram.message ≡ m → Rest
        → last_of (aspect_seen last) (aspects_of m ++ aspects_in items) ≡ aspect_seen (last_indicated ((if is_command m then telegram ∷ [] else []) ++ commands_of items) last)
    of_message (Message.Initialisation protocol what) telegram is rest = rest last
    of_message (Message.Signal m) telegram is rest = of_signal m rest ∙ indicated_by (Message.Signal m) telegram is
    of_message (Message.Point m) telegram is rest = rest last ∙ indicated_by (Message.Point m) telegram is
    of_message (Message.Detection m) telegram is rest = rest last ∙ indicated_by (Message.Detection m) telegram is

    by : (read : Result Telegram SciFault) → Rest → last_of (aspect_seen last) (said_by aspects_of read ++ aspects_in items) ≡ aspect_seen (last_indicated (command_of read ++ commands_of items) last)
    by (Err fault) rest = rest last
    by (Ok telegram) rest = of_message telegram.message telegram refl rest

-- ---- the lamp

below : (a b : ℕ) → a < b → nat_lt a b ≡ true
below a b less = grind (arith, nat_tests, less)

-- before its moment a lamp shows what it indicates
stands_before : (aspect : Aspect) (until now : ℕ) → now < until → standing aspect until now ≡ aspect
stands_before Aspect.Stop until now early = refl
stands_before Aspect.Proceed until now early = ap (λ (b : Bool). if b then Aspect.Proceed else Aspect.Stop) (below now until early)
stands_before Aspect.Slow until now early = ap (λ (b : Bool). if b then Aspect.Slow else Aspect.Stop) (below now until early)

early_still : (now moment : ℕ) → now < moment → now ≤ 9000000000000 → now < stops_at_greatest moment
early_still now moment early small = grind (arith, early, small)

-- a link that lives at a reading is alive until a later moment
alive_later : (now : ℕ) (l : LinkState) → now < deadline l → now ≤ 9000000000000 → now < alive_until (record l { clock = now })
unfolding alive_until deadline
alive_later now l lives small = early_still now (if is_open l.phase then l.own_stamp + 1800 else l.closed_at) lives small

reading_small : (clock : ℕ) → IsWithin clock → reading_of clock ≤ 9000000000000
reading_small clock within = omega (arith, within)

module _ (laws : LawsBelow) (site : Site) (table : Table) (world : WorldState) (machine : Machine) (represented : Represents site table world machine) (place : ℕ) (few : place < links site)
    (up : IsUpOn place world) (known : KnownSignalState) (there : slice_get world.interlocking.ixl.known_signals place ≡ Some known) (controller : ClockedControllerState SignalState) (stands : slice_get world.signals place ≡ Some controller)
    (within : IsWithin controller.clock) where
  abbrev now : ℕ
  now = reading_of controller.clock

  abbrev ends : Ends
  ends = seen place represented.network

  server : up.server ≡ end_of_server controller
  server = server_same laws site table world machine represented place few up known there controller stands

  up_there : is_up (settled now controller.host.link).phase ≡ true
  up_there = ap (λ (s : ServerEnd). is_up (settled (reading_of s.clock) s.link).phase) (sym server) ∙ up.server_up

  link_is : ends.server.link ≡ settled now controller.host.link
  link_is = server_is site place few world represented.network represented.linked.are up ∙ ap (λ (s : ServerEnd). settled (reading_of s.clock) s.link) server

  lives : (settled now controller.host.link ≡ record controller.host.link { clock = now }) × (is_open controller.host.link.phase ≡ true) × (now < deadline controller.host.link)
  lives = settled_open now controller.host.link (up_open (settled now controller.host.link).phase up_there)

  server_open : is_open ends.server.link.phase ≡ true
  server_open = ap (λ (l : LinkState). is_open l.phase) link_is ∙ up_open (settled now controller.host.link).phase up_there

  -- its moment isn't over, since the link lives
  early : now < controller.host.object.lamp.until
  early = subst (λ (moment : ℕ). now < moment) (sym ((represented.signals.each place controller stands).told.until ∙ ap alive_until (link_is ∙ lives.0)))
      (alive_later now controller.host.link lives.2 (reading_small controller.clock within))

  pub lamp_shows : (aspect : Aspect) → last_of MachineStop (machine.signals place).done ≡ aspect_seen aspect → shown_by controller ≡ aspect
  lamp_shows aspect last =
      let seen_there = represented.signals.each place controller stands
      in let acted = seen_once (last_indicated (commands_of ends.server.taken) Aspect.Stop) aspect (sym (last_told ends.server.taken Aspect.Stop) ∙ (ap (last_of MachineStop) (sym (seen_there.done server_open)) ∙ last))
      in stands_before controller.host.object.lamp.indicated controller.host.object.lamp.until now early ∙ (seen_there.told.inside server_open ∙ acted)

-- ---- two moments

pub shows_given : LawsBelow → (site : Site) (table : Table) (old new : WorldState) (place : ℕ) (aspect : Aspect) → Once site → IsStation site → IsTableOf site table → IsReached site table old → IsReached site table new → place < length site.signals
    → HasHandedOver place old new → StaysGiven place aspect old.interlocking.ixl new.interlocking.ixl → Shows place aspect new
shows_given laws site table old new place aspect once station is_table reached_old reached_new few over given =
    let was = seen_then laws site table once station is_table old reached_old
    in let is = seen_then laws site table once station is_table new reached_new
    in let below_links : place < links site = omega (arith, few)
    in let before = known_there site table old was.0 was.1 place few
    in let after = known_there site table new is.0 is.1 place few
    in let first = controller_there site table old was.0 was.1 place few
    in let second = controller_there site table new is.0 is.1 place few
    in let s = signal_at laws site table old was.0 was.1 place below_links over.before before.0 before.1 first.0 first.1
    in let t = signal_at laws site table new is.0 is.1 place below_links over.behind after.0 after.1 second.0 second.1
    in let same = client_same laws site table old was.0 was.1 place below_links over.before before.0 before.1 first.0 first.1
    in let done = aspect_is_done s t (subst (λ (l : LinkState). l.given ≤ over.behind.server.link.taken) same over.to_controller) aspect (given before.0 after.0 before.1 after.1)
    in (second.0, second.1, lamp_shows laws site table new is.0 is.1 place below_links over.behind after.0 after.1 second.0 second.1 (signal_clock_within site table new reached_new place second.0 second.1) aspect done)
