-- A good round of a station is a round at work of each of its links.
use Rattle.simulator_recovery.proofs.Words.Basics.{◌≡◌, ℕ, zero, suc, ◌+◌, ◌-◌, ◌^◌, ◌<◌, ◌≤◌, ◌==◌, nat_le, nat_lt, min, Bool, true, false, if◌then◌else◌, List, [], ◌∷◌, ◌++◌, append_assoc, append-nil, length, map, replicate, drop, Option, Some, None, Ok, refl, sym, ap, subst, ◌∙◌, arith, slice_index_or, ◌&&◌, nat_tests}
use Rattle.simulator_recovery.proofs.Words.Links.{can_come, IsCall, IsWorkAt, calls_in, clock_calls, due_to, lifetime, Each, AreTimely, Call, Receives, Sent, reading_of, MayRun, Passes, run, is_same, InFlight, AreLinks, CallsOn, Links, LinksEvent, MayRunLinks, OnLink, PassesFor, happened_to, of_link, run_links, run_on, seen, name_of, partner_of, Role, reading, Pdu}
use Rattle.simulator_recovery.proofs.Words.Controllers.{Input, Sense}
use Rattle.simulator_recovery.proofs.Words.Interlockings.{IsTableOf, as_section, addressed, all_clocked, node_of, SitedTable, Table}
use Rattle.simulator_recovery.proofs.Words.Stations.{Site, Once, IsStation, Event, Refused, FoundDriven, RoundEvent, Flowing, deliveries, position_of, reach, reaches, round, round_of_time, ticks, coming, AreLinksOf, names_at, connection_of, copy_of, key_of, links, node_at, nodes, refusal, WorldState, Played, after, arrival_in, receiver, refusal_of, delivery_events, events_of, tick_events, IsStanding, IsWhole, IsReached}
use Rattle.simulator_recovery.proofs.Words.Recovery.{IsAtWorkOn, all_events_tried, behind_time, calls_of_round, calls_on, event_of, events_tried, events_where, links_behind, time_of_round, HasTime, IsFresh, IsWork, LeavesFresh, NoneRefused, all_tried, arrivals, clocks_of, LawsBelow}
use Rattle.simulator_recovery.proofs.Lemmas.Ground.ClientItem.{addressed_is}
use Rattle.simulator_recovery.proofs.Lemmas.Rounds.Arrives.{due_in_order, none_refused}
use Rattle.simulator_recovery.proofs.Lemmas.Rounds.Clocks.{time_may_pass}
use Rattle.simulator_recovery.proofs.Lemmas.Ground.EndCalls.{IsFront, SaysOn, all_called_at, all_say, called_at, called_both, calls_alone, front_comes, front_said, front_then, seen_calls, each_both, map_both, map_length}
use Rattle.simulator_recovery.proofs.Lemmas.Rounds.LinkRounds.{Followed, HasThese, after_each, all_followed, are_links, events_both, may_both, round_called, round_tried, tens_at, tried_followed}
use Rattle.simulator_recovery.proofs.Lemmas.Ground.NodeCalls.{ComesTo, StepsAt, TicksAt, client_alone, command_says_on, controller_steps, interlocking_comes, interlocking_ticks, reached_says, sensed_says, server_comes, server_else, server_not_client, server_ticks}
use Rattle.simulator_recovery.proofs.Lemmas.Rounds.Rounds.{each_can, has_all}

-- ---- what says something at most

-- a request, an occupancy, or that a point comes to lie
abbrev IsSilent : Event → Type 0
IsSilent (Event.Request command) = Unit {0}
IsSilent (Event.Occupy section occupancy) = Unit {0}
IsSilent (Event.Reach point position) = Unit {0}
IsSilent _ = ⊥

silent_says : (site : Site) (table : Table) (one : Event) (world : WorldState) → IsSilent one → Each SaysOn (events_of site table one world)
unfolding events_of
silent_says site table (Event.Request command) world silent = command_says_on site table command world
silent_says site table (Event.Occupy section occupancy) world silent = sensed_says site _ (λ place. Sense.Section place occupancy) world.detectors
silent_says site table (Event.Tick node) world silent = absurd silent
silent_says site table (Event.Time elapsed clocks) world silent = absurd silent
silent_says site table (Event.Deliver node bytes) world silent = absurd silent
silent_says site table (Event.Lose bytes) world silent = absurd silent
silent_says site table (Event.Reach point position) world silent = reached_says site point.0 (Sense.Position position) world
silent_says site table (Event.Restart node clock first) world silent = absurd silent

pub where_says : (why : Option Refused) (events : List LinksEvent) → Each SaysOn events → Each SaysOn (events_where why events)
where_says None events each = each
where_says (Some why) events each = tt

all_silent_say : (list : List Event) (world : Played) → Each IsSilent list → Each SaysOn (all_events_tried list world)
all_silent_say [] world silent = tt
all_silent_say (first ∷ others) world silent =
    each_both SaysOn (events_tried first world) (all_events_tried others (after world first))
    (where_says (refusal_of first world) _ (silent_says world.sited.site world.sited.table first world.run silent.0)) (all_silent_say others (after world first) silent.1)

work_silent : (between : List Event) → Each IsWork between → Each IsSilent between
work_silent [] work = tt
work_silent (Event.Request command ∷ others) work = (tt, work_silent others work.1)
work_silent (Event.Occupy section occupancy ∷ others) work = (tt, work_silent others work.1)
work_silent (Event.Tick node ∷ others) work = absurd work.0
work_silent (Event.Time elapsed clocks ∷ others) work = absurd work.0
work_silent (Event.Deliver node bytes ∷ others) work = absurd work.0
work_silent (Event.Lose bytes ∷ others) work = absurd work.0
work_silent (Event.Reach point position ∷ others) work = absurd work.0
work_silent (Event.Restart node clock first ∷ others) work = absurd work.0

reach_silent : (passed point : ℕ) (drive : Option FoundDriven) → Each IsSilent (map event_of (reach passed point drive))
reach_silent passed point None = tt
reach_silent passed point (Some drive) = choose (nat_lt drive.rounds 50)
  where
    choose : (b : Bool) → Each IsSilent (map event_of (if b then [] else (record { event = Event.Reach (record { 0 = point }) (position_of drive.side); passed = passed } ∷ [])))
    choose true = tt
    choose false = (tt, tt)

reaches_silent : (passed point : ℕ) (drives : List (Option FoundDriven)) → Each IsSilent (map event_of (reaches passed point drives))
unfolding reaches
reaches_silent passed point [] = tt
reaches_silent passed point (drive ∷ drives) = subst (Each IsSilent) (sym (map_both event_of (reach passed point drive) (reaches passed (suc point) drives)))
    (each_both IsSilent (map event_of (reach passed point drive)) (map event_of (reaches passed (suc point) drives)) (reach_silent passed point drive) (reaches_silent passed (suc point) drives))

-- ---- what is due at an end

-- the bytes that come to an end of a link among these datagrams
abbrev pub due_one : Role → ℕ → OnLink → List (List ℕ)
due_one who link one = if link == one.link then (if is_same (partner_of one.datagram.sender) who then one.datagram.bytes ∷ [] else []) else []

abbrev dues : Role → ℕ → List OnLink → List (List ℕ)
dues who link [] = []
dues who link (one ∷ more) = due_one who link one ++ dues who link more

same_either : (a b : ℕ) → (a == b) ≡ (b == a)
same_either a b = grind (arith, nat_tests)

comes_in_time : (time : ℕ) (one : OnLink) → IsFresh time one → can_come (time + 10000) one.datagram ≡ true
comes_in_time time one (at, there) = rw there in_time
  where
    in_time : nat_le (time + 10000) (one.datagram.at + lifetime) ≡ true
    in_time = grind (arith, nat_tests, at)

-- one that can come is due at its end, before the others
pub due_here : (who : Role) (link time : ℕ) (one : OnLink) (more : List OnLink) → can_come time one.datagram ≡ true
    → due_to who time (of_link link (one ∷ more)) ≡ due_one who link one ++ due_to who time (of_link link more)
due_here who link time one more comes = choose (one.link == link) refl
  where
    here : (c : Bool) → is_same (partner_of one.datagram.sender) who ≡ c
        → (if can_come time one.datagram && c then one.datagram.bytes ∷ due_to who time (of_link link more) else due_to who time (of_link link more))
        ≡ (if c then one.datagram.bytes ∷ [] else []) ++ due_to who time (of_link link more)
    here true e = rw comes refl
    here false e = rw comes refl

    choose : (b : Bool) → (one.link == link) ≡ b → due_to who time (if b then one.datagram ∷ of_link link more else of_link link more) ≡ due_one who link one ++ due_to who time (of_link link more)
    choose true e = here (is_same (partner_of one.datagram.sender) who) refl
        ∙ ap (λ (c : Bool). (if c then (if is_same (partner_of one.datagram.sender) who then one.datagram.bytes ∷ [] else []) else []) ++ due_to who time (of_link link more)) (sym (same_either link one.link ∙ e))
    choose false e =
        ap (λ (c : Bool). (if c then (if is_same (partner_of one.datagram.sender) who then one.datagram.bytes ∷ [] else []) else []) ++ due_to who time (of_link link more)) (sym (same_either link one.link ∙ e))

dues_are : (who : Role) (link time : ℕ) (more : List OnLink) → Each (IsFresh time) more → due_to who (time + 10000) (of_link link more) ≡ dues who link more
dues_are who link time [] fresh = refl
dues_are who link time (one ∷ more) fresh =
    due_here who link (time + 10000) one more (comes_in_time time one fresh.0) ∙ ap (λ (l : List (List ℕ)). due_one who link one ++ l) (dues_are who link time more fresh.1)

pub of_both : (link : ℕ) (one other : List OnLink) → of_link link (one ++ other) ≡ of_link link one ++ of_link link other
of_both link [] other = refl
of_both link (first ∷ one) other = choose (first.link == link) (of_both link one other)
  where
    choose : (b : Bool) → of_link link (one ++ other) ≡ of_link link one ++ of_link link other
        → (if b then first.datagram ∷ of_link link (one ++ other) else of_link link (one ++ other)) ≡ (if b then first.datagram ∷ of_link link one else of_link link one) ++ of_link link other
    choose true rest = ap (λ (l : List Sent). first.datagram ∷ l) rest
    choose false rest = rest

pub drop_front : (front rest : List Sent) → drop (length front) (front ++ rest) ≡ rest
drop_front [] rest = refl
drop_front (first ∷ front) rest = drop_front front rest

-- the table knows each detector
pub table_sections : (site : Site) (table : Table) → IsTableOf site table → length table.detectors ≡ length site.detectors
table_sections site table is = sym (map_length (λ sections. map as_section sections) table.detectors) ∙ ap length is.detectors ∙ map_length (λ detector. detector.sections) site.detectors

-- what a round is to a link, where this is due at its ends
pub record IsRoundOn (site : Site) (due : Role → ℕ → List (List ℕ)) (new : Flowing) (between : List Event) (before : Links) (link : ℕ) : Type 0 where
  pub are : AreLinksOf site (all_tried between (round new)).state.run (links_behind between new before)
  pub may : MayRun (names_at site link) (Passes 10000 10000 10000 ∷ calls_on link between new before) (seen link before)
  pub only : Each IsCall (calls_on link between new before)
  pub client : IsWorkAt Role.Client (due Role.Client link) (calls_in Role.Client (calls_on link between new before))
  pub server : IsWorkAt Role.Server (due Role.Server link) (calls_in Role.Server (calls_on link between new before))
  pub leads : seen link (links_behind between new before) ≡ run (Passes 10000 10000 10000 ∷ calls_on link between new before) (seen link before)

-- ---- one delivery

-- a datagram is read as a PDU of its sender
pub record IsFrom (site : Site) (one : OnLink) : Type 0 where
  pub below : one.link < links site
  pub pdu : Pdu
  pub read : reading (key_of site) one.datagram.bytes ≡ Ok pdu
  pub sender : pdu.sender ≡ name_of one.datagram.sender (names_at site one.link)

pub comes_front : (who : Role) (link : ℕ) (one : OnLink) (events : List LinksEvent) → ComesTo one.link (partner_of one.datagram.sender) one.datagram.bytes events → IsFront (due_one who link one) (all_called_at who link events)
comes_front who link one events comes = subst (λ (l : List LinksEvent). IsFront (due_one who link one) (all_called_at who link l)) (sym comes.are)
    (subst (λ (due : List (List ℕ)). IsFront due (called_at who link first ++ all_called_at who link comes.more)) (append-nil (due_one who link one))
    (front_then (due_one who link one) [] (called_at who link first) (all_called_at who link comes.more) (choose (link == one.link) (is_same (partner_of one.datagram.sender) who))
    (front_said (all_called_at who link comes.more) (all_say who link comes.more comes.says))))
  where
    first : LinksEvent
    first = CallsOn one.link (partner_of one.datagram.sender) (Receives one.datagram.bytes comes.connection)

    choose : (b c : Bool) → IsFront (if b then (if c then one.datagram.bytes ∷ [] else []) else []) (if b then (if c then Receives one.datagram.bytes comes.connection ∷ [] else []) else [])
    choose true true = front_comes one.datagram.bytes comes.connection
    choose true false = front_said [] tt
    choose false c = front_said [] tt

abbrev pub deliver : OnLink → Event
deliver one = Event.Deliver (receiver one.datagram.sender one.link) one.datagram.bytes

module _ (site : Site) (table : Table) (sections : length table.detectors ≡ length site.detectors) (named : AreLinks (links site) (names_at site)) (few_links : links site ≤ 80)
    (world : WorldState) (these : Links) (whole : IsWhole site world) (timely : AreTimely (links site) (names_at site) these) (are : AreLinksOf site world these) where
  arrives : (who : Role) (link : ℕ) (bytes : List ℕ) (pdu : Pdu) → link < links site → reading (key_of site) bytes ≡ Ok pdu → pdu.sender ≡ name_of who (names_at site link)
      → ComesTo link (partner_of who) bytes (events_of site table (Event.Deliver (receiver who link) bytes) world)
  unfolding events_of
  arrives Role.Server link bytes pdu below read sender =
      let now = reading_of world.interlocking.clock
      in let found = addressed_is site world these named whole timely are now table sections link below
      in interlocking_comes site table bytes (connection_of (copy_of bytes world)) world link found.0
      (ap (λ r. addressed r (all_clocked now world.interlocking.ixl)) read ∙ (ap (λ (n : ℕ). node_of n (all_clocked now world.interlocking.ixl)) sender ∙ found.1)) found.2.0 found.2.1
  arrives Role.Client link bytes pdu below read sender = subst (λ (n : ℕ). ComesTo link Role.Server bytes (delivery_events site table bytes connection (node_at site n) world)) (sym number)
      (server_comes bytes connection link _ (controller_steps site (coming bytes) connection world whole link below (λ node. delivery_events site table bytes connection node world) (λ place. refl) (λ place. refl) (λ place. refl)))
    where
      connection : ℕ
      connection = connection_of (copy_of bytes world)

      number : min (link + 1) (2 ^ 64 - 1) ≡ suc link
      number = omega (arith, below, few_links)

-- ---- a station through a round

ticks_then_none : (who : Role) (link : ℕ) (one other : List LinksEvent) → TicksAt who link one → all_called_at who link other ≡ [] → TicksAt who link (one ++ other)
ticks_then_none who link one other (front, (each, are)) none =
    (front, (each, called_both who link one other ∙ ap (λ (l : List Call). all_called_at who link one ++ l) none ∙ append-nil (all_called_at who link one) ∙ are))

none_then_ticks : (who : Role) (link : ℕ) (one other : List LinksEvent) → all_called_at who link one ≡ [] → TicksAt who link other → TicksAt who link (one ++ other)
none_then_ticks who link one other none (front, (each, are)) = (front, (each, called_both who link one other ∙ ap (λ (l : List Call). l ++ all_called_at who link other) none ∙ are))

module _ (laws : LawsBelow) (sited : SitedTable) (station : IsStation sited.site) (once : Once sited.site) (sections : length sited.table.detectors ≡ length sited.site.detectors) where
  few_links : links sited.site ≤ 80
  few_links = let s = station.limits.signals in let p = station.limits.points in let d = station.limits.detectors in omega (arith, s, p, d)

  -- an event that isn't refused
  happens_so : (P : List LinksEvent → Type 0) (one : Event) (world : Played) → world.sited ≡ sited → refusal_of one world ≡ None → P (events_of sited.site sited.table one world.run) → P (events_tried one world)
  happens_so P one world same none so = subst (λ (why : Option Refused). P (events_where why (events_of world.sited.site world.sited.table one world.run))) (sym none)
      (subst (λ (s : SitedTable). P (events_of s.site s.table one world.run)) (sym same) so)

  pub comes_at : (one : OnLink) (world : Played) (before : Links) → HasThese sited world before → IsFrom sited.site one → refusal_of (deliver one) world ≡ None
      → ComesTo one.link (partner_of one.datagram.sender) one.datagram.bytes (events_tried (deliver one) world)
  comes_at one world before has from none = happens_so (ComesTo one.link (partner_of one.datagram.sender) one.datagram.bytes) (deliver one) world has.same none
      (arrives sited.site sited.table sections (are_links laws sited station once) few_links world.run before has.whole has.timely has.are one.datagram.sender one.link one.datagram.bytes from.pdu from.below from.read from.sender)

  -- all that is due comes
  all_arrive : (who : Role) (link place : ℕ) (more : List OnLink) (world : Played) (before : Links) → HasThese sited world before → Each (IsFrom sited.site) more → NoneRefused (arrivals place more) world
      → IsFront (dues who link more) (all_called_at who link (all_events_tried (map event_of (arrivals place more)) world))
  all_arrive who link place [] world before has from none = front_said [] tt
  all_arrive who link place (one ∷ more) world before has from none = subst (IsFront (dues who link (one ∷ more))) (sym (called_both who link (events_tried (deliver one) world) rest_events))
      (front_then (due_one who link one) (dues who link more) (all_called_at who link (events_tried (deliver one) world)) (all_called_at who link rest_events)
      (comes_front who link one (events_tried (deliver one) world) (comes_at one world before has from.0 none.0))
      (all_arrive who link (suc place) more (after world (deliver one)) (run_links (events_tried (deliver one) world) before) (tried_followed laws sited station once (deliver one) world before has).has from.1 none.1))
    where
      rest_events : List LinksEvent
      rest_events = all_events_tried (map event_of (arrivals (suc place) more)) (after world (deliver one))

  -- ticks
  abbrev tick : ℕ → Event
  tick n = Event.Tick (record { 0 = n })

  not_missing : (site : Site) (n : ℕ) (world : WorldState) → n < nodes site → refusal site (tick n) world ≡ None
  unfolding refusal
  not_missing site n world below = rw (there (nodes site) below) refl
    where
      there : (m : ℕ) → n < m → nat_le m n ≡ false
      there m less = grind (arith, nat_tests)

  tick_goes : (n : ℕ) (world : Played) → world.sited ≡ sited → n < nodes sited.site → refusal_of (tick n) world ≡ None
  tick_goes n world same below = subst (λ (s : SitedTable). refusal s.site (tick n) world.run ≡ None) (sym same) (not_missing sited.site n world.run below)

  interlocking_tick : (link : ℕ) (world : Played) (before : Links) → link < links sited.site → HasThese sited world before → TicksAt Role.Client link (events_tried (tick 0) world)
  unfolding events_of
  interlocking_tick link world before below has = happens_so (TicksAt Role.Client link) (tick 0) world has.same (tick_goes 0 world has.same (omega arith)) (interlocking_ticks sited.site sited.table world.run has.whole link below)

  interlocking_none : (link : ℕ) (world : Played) (before : Links) → HasThese sited world before → all_called_at Role.Server link (events_tried (tick 0) world) ≡ []
  unfolding events_of
  interlocking_none link world before has = happens_so (λ events. all_called_at Role.Server link events ≡ []) (tick 0) world has.same (tick_goes 0 world has.same (omega arith)) (client_alone sited.site 0 link _)

  controller_tick : (at : ℕ) (world : Played) (before : Links) → at < links sited.site → HasThese sited world before → StepsAt Input.Tick 0 at (events_tried (tick (suc at)) world)
  unfolding events_of
  controller_tick at world before below has = happens_so (StepsAt Input.Tick 0 at) (tick (suc at)) world has.same (tick_goes (suc at) world has.same (omega (arith, below)))
      (controller_steps sited.site Input.Tick 0 world.run has.whole at below (λ node. tick_events sited.site sited.table node world.run) (λ place. refl) (λ place. refl) (λ place. refl))

  -- the ticks of so many controllers, from this one on
  abbrev ticked_from : ℕ → ℕ → ℕ → Played → List LinksEvent
  ticked_from passed at n world = all_events_tried (map event_of (ticks passed (suc at) n)) world

  controllers_none : (who : Role) (link passed n at : ℕ) (world : Played) (before : Links) → HasThese sited world before → at + n ≤ links sited.site
      → ((other : ℕ) → at ≤ other → (events : List LinksEvent) → StepsAt Input.Tick 0 other events → all_called_at who link events ≡ []) → all_called_at who link (ticked_from passed at n world) ≡ []
  unfolding ticks
  controllers_none who link passed zero at world before has few none = refl
  controllers_none who link passed (suc n) at world before has few none =
      called_both who link (events_tried (tick (suc at)) world) (ticked_from passed (suc at) n (after world (tick (suc at))))
      ∙ two (none at (omega arith) (events_tried (tick (suc at)) world) (controller_tick at world before (omega (arith, few)) has))
      (controllers_none who link passed n (suc at) (after world (tick (suc at))) (run_links (events_tried (tick (suc at)) world) before) (tried_followed laws sited station once (tick (suc at)) world before has).has (omega (arith, few))
      (λ other many. none other (omega (arith, many))))
    where
      two : {a b c d : List Call} → a ≡ b → c ≡ d → a ++ c ≡ b ++ d
      two e f = cc (e, f)

  controllers_once : (link passed n at : ℕ) (world : Played) (before : Links) → HasThese sited world before → at + n ≤ links sited.site → at ≤ link → link < at + n → TicksAt Role.Server link (ticked_from passed at n world)
  unfolding ticks
  controllers_once link passed zero at world before has few many less = absurd (omega (arith, many, less))
  controllers_once link passed (suc n) at world before has few many less = choose (link == at) refl
      (λ more. controllers_once link passed n (suc at) next next_links next_has (omega (arith, few)) more (omega (arith, less)))
    where
      next : Played
      next = after world (tick (suc at))

      next_links : Links
      next_links = run_links (events_tried (tick (suc at)) world) before

      next_has : HasThese sited next next_links
      next_has = (tried_followed laws sited station once (tick (suc at)) world before has).has

      first : StepsAt Input.Tick 0 at (events_tried (tick (suc at)) world)
      first = controller_tick at world before (omega (arith, few)) has

      is : (link == at) ≡ true → link ≡ at
      is e = grind (arith, nat_tests)

      further : (link == at) ≡ false → suc at ≤ link
      further e = let h = many in grind (arith, nat_tests)

      choose : (b : Bool) → (link == at) ≡ b → (suc at ≤ link → TicksAt Role.Server link (ticked_from passed (suc at) n next))
          → TicksAt Role.Server link (events_tried (tick (suc at)) world ++ ticked_from passed (suc at) n next)
      choose true e rest = ticks_then_none Role.Server link (events_tried (tick (suc at)) world) (ticked_from passed (suc at) n next)
          (subst (λ (k : ℕ). TicksAt Role.Server k (events_tried (tick (suc at)) world)) (sym (is e)) (server_ticks 0 at (events_tried (tick (suc at)) world) first))
          (controllers_none Role.Server link passed n (suc at) next next_links next_has (omega (arith, few))
          (λ other more events steps. let here = is e in server_else 0 other Role.Server link Input.Tick events (λ same. omega (arith, more, here, same)) steps))
      choose false e rest = let more = further e in none_then_ticks Role.Server link (events_tried (tick (suc at)) world) (ticked_from passed (suc at) n next)
          (server_else 0 at Role.Server link Input.Tick (events_tried (tick (suc at)) world) (λ same. omega (arith, more, same)) first) (rest more)

  all_tick : (who : Role) (link passed : ℕ) (world : Played) (before : Links) → link < links sited.site → HasThese sited world before → TicksAt who link (all_events_tried (map event_of (ticks passed 0 (nodes sited.site))) world)
  unfolding ticks
  all_tick Role.Client link passed world before below has = ticks_then_none Role.Client link (events_tried (tick 0) world) (ticked_from passed 0 (links sited.site) (after world (tick 0)))
      (interlocking_tick link world before below has)
      (controllers_none Role.Client link passed (links sited.site) 0 (after world (tick 0)) (run_links (events_tried (tick 0) world) before) (tried_followed laws sited station once (tick 0) world before has).has (omega arith)
      (λ other many events steps. server_not_client 0 other link Input.Tick events steps))
  all_tick Role.Server link passed world before below has = none_then_ticks Role.Server link (events_tried (tick 0) world) (ticked_from passed 0 (links sited.site) (after world (tick 0)))
      (interlocking_none link world before has)
      (controllers_once link passed (links sited.site) 0 (after world (tick 0)) (run_links (events_tried (tick 0) world) before) (tried_followed laws sited station once (tick 0) world before has).has (omega arith) (omega arith) (omega (arith, below)))

  -- the time of a round, at all links
  abbrev pub clock_event : LinksEvent
  clock_event = PassesFor 10000 (λ link. slice_index_or (replicate (nodes sited.site) 10000) 0 0) (λ link. slice_index_or (drop 1 (replicate (nodes sited.site) 10000)) link 0)

  pub time_is : (flowing : Flowing) → flowing.state.sited ≡ sited → refusal_of (round_of_time flowing.state.sited.site) flowing.state ≡ None → time_of_round flowing ≡ clock_event ∷ []
  unfolding events_of
  time_is flowing same none = ap (λ (why : Option Refused). events_where why (events_of flowing.state.sited.site flowing.state.sited.table (round_of_time flowing.state.sited.site) flowing.state.run)) none
      ∙ ap (λ (s : SitedTable). events_of s.site s.table (round_of_time s.site) flowing.state.run) same

  -- after the time of a round
  abbrev pub timed : Flowing → Played
  timed new = after new.state (round_of_time new.state.sited.site)

  abbrev pub passed_links : Flowing → Links → Links
  passed_links new before = run_links (time_of_round new) before

  pub time_followed : (new : Flowing) (before : Links) → HasThese sited new.state before → Followed sited (time_of_round new) before (timed new)
  time_followed new before has = tried_followed laws sited station once (round_of_time new.state.sited.site) new.state before has

  -- what is due at an end of a link after these datagrams, in the next round
  abbrev pub due_behind : Role → ℕ → List OnLink → Links → List (List ℕ)
  due_behind who link front before = due_to who (before.time + 10000) (drop (length (of_link link front)) (of_link link before.sent))

  pub due_more : (who : Role) (link : ℕ) (front more : List OnLink) (new : Flowing) (before : Links) → HasThese sited new.state before → new.state.run.sent ≡ front ++ more
      → due_behind who link front before ≡ due_to who (new.state.run.time + 10000) (of_link link more)
  due_more who link front more new before has sent =
      ap (λ (time : ℕ). due_to who (time + 10000) (drop (length (of_link link front)) (of_link link before.sent))) has.are.time_is
      ∙ ap (λ (all : List OnLink). due_to who (new.state.run.time + 10000) (drop (length (of_link link front)) (of_link link all))) (has.are.sent_is ∙ sent)
      ∙ ap (λ (all : List Sent). due_to who (new.state.run.time + 10000) (drop (length (of_link link front)) all)) (of_both link front more)
      ∙ ap (due_to who (new.state.run.time + 10000)) (drop_front (of_link link front) (of_link link more))

  -- what a round has left comes, as the next begins
  pub fresh_come : (old new : Flowing) (leaves : LeavesFresh old new) (before : Links) → HasThese sited new.state before → Each (IsFrom sited.site) leaves.more
      → NoneRefused (arrivals new.passed leaves.more) (timed new) → (who : Role) (link : ℕ)
      → IsFront (due_behind who link old.state.run.sent before) (all_called_at who link (all_events_tried (map event_of (arrivals new.passed leaves.more)) (timed new)))
  fresh_come old new leaves before has from arrive who link =
      subst (λ (due : List (List ℕ)). IsFront due (all_called_at who link (all_events_tried (map event_of (arrivals new.passed leaves.more)) (timed new))))
      (sym (due_more who link old.state.run.sent leaves.more new before has leaves.sent ∙ dues_are who link new.state.run.time leaves.more leaves.fresh))
      (all_arrive who link new.passed leaves.more (timed new) (passed_links new before) (time_followed new before has).has from arrive)

  -- A round of which it is known what comes in it, at each end of each link.
  module _ (due : Role → ℕ → List (List ℕ)) (new : Flowing) (come : List RoundEvent)
      (due_in_it : deliveries (arrival_in new.state) new.passed (length new.state.run.sent - new.passed) ≡ come)
      (between : List Event) (before : Links) (work : Each IsWork between) (has : HasThese sited new.state before) (goes : refusal_of (round_of_time new.state.sited.site) new.state ≡ None)
      (comes : (who : Role) (link : ℕ) → IsFront (due who link) (all_called_at who link (all_events_tried (map event_of come) (timed new)))) where
    -- in a round what is due comes, then all nodes tick, and then something is said at most
    arrived : List Event
    arrived = map event_of come

    ticked : List Event
    ticked = map event_of (ticks (length new.state.run.sent) 0 (nodes sited.site))

    rest : List Event
    rest = map event_of (reaches (length new.state.run.sent) 0 new.drives) ++ between

    parts : map event_of (behind_time new) ++ between ≡ arrived ++ (ticked ++ rest)
    unfolding arrived ticked rest
    parts =
        ap (λ (list : List RoundEvent). map event_of (list ++ (ticks count 0 (nodes new.state.sited.site) ++ reaches count 0 new.drives)) ++ between) due_in_it
        ∙ ap (λ (s : SitedTable). map event_of (come ++ (ticks count 0 (nodes s.site) ++ reaches count 0 new.drives)) ++ between) has.same
        ∙ ap (λ (list : List Event). list ++ between) (map_both event_of come (ticks count 0 (nodes sited.site) ++ reaches count 0 new.drives)
        ∙ ap (λ (list : List Event). map event_of come ++ list) (map_both event_of (ticks count 0 (nodes sited.site)) (reaches count 0 new.drives)))
        ∙ append_assoc (map event_of come) (map event_of (ticks count 0 (nodes sited.site)) ++ map event_of (reaches count 0 new.drives)) between
        ∙ ap (λ (list : List Event). map event_of come ++ list) (append_assoc (map event_of (ticks count 0 (nodes sited.site))) (map event_of (reaches count 0 new.drives)) between)
      where
        count : ℕ
        count = length new.state.run.sent

    rest_silent : Each IsSilent rest
    unfolding rest
    rest_silent = each_both IsSilent (map event_of (reaches (length new.state.run.sent) 0 new.drives)) between (reaches_silent (length new.state.run.sent) 0 new.drives) (work_silent between work)

    after_arrived : Played
    after_arrived = after_each arrived (timed new)

    arrived_followed : Followed sited (all_events_tried arrived (timed new)) (passed_links new before) after_arrived
    unfolding after_arrived
    arrived_followed = all_followed laws sited station once arrived (timed new) (run_links (time_of_round new) before) (time_followed new before has).has

    calls_are : calls_of_round between new ≡ all_events_tried arrived (timed new) ++ (all_events_tried ticked after_arrived ++ all_events_tried rest (after_each ticked after_arrived))
    unfolding after_arrived
    calls_are = ap (λ (list : List Event). all_events_tried list (timed new)) parts
        ∙ events_both arrived (ticked ++ rest) (timed new)
        ∙ ap (λ (l : List LinksEvent). all_events_tried arrived (timed new) ++ l) (events_both ticked rest (after_each arrived (timed new)))

    -- what an end of a link is called to
    work_at : (who : Role) (link : ℕ) → link < links sited.site → IsWorkAt who (due who link) (all_called_at who link (calls_of_round between new))
    unfolding arrived ticked
    work_at who link below = record {
      front = first ++ second.0;
      back = third;
      are = ap (all_called_at who link) calls_are
          ∙ called_both who link (all_events_tried arrived (timed new)) (all_events_tried ticked after_arrived ++ all_events_tried rest (after_each ticked after_arrived))
          ∙ ap (λ (l : List Call). first ++ l) (called_both who link (all_events_tried ticked after_arrived) (all_events_tried rest (after_each ticked after_arrived))
          ∙ ap (λ (l : List Call). l ++ third) second.1.1 ∙ append_assoc second.0 (clock_calls who) third)
          ∙ sym (append_assoc first second.0 (clock_calls who ++ third));
      comes = both.comes ∙ append-nil (due who link);
      before = both.before;
      behind = all_say who link (all_events_tried rest (after_each ticked after_arrived)) (all_silent_say rest (after_each ticked after_arrived) rest_silent);
    }
      where
        first : List Call
        first = all_called_at who link (all_events_tried arrived (timed new))

        second : TicksAt who link (all_events_tried ticked after_arrived)
        second = all_tick who link (length new.state.run.sent) after_arrived (run_links (all_events_tried arrived (timed new)) (passed_links new before)) below arrived_followed.has

        third : List Call
        third = all_called_at who link (all_events_tried rest (after_each ticked after_arrived))

        both : IsFront (due who link ++ []) (first ++ second.0)
        both = front_then (due who link) [] first second.0 (comes who link) (front_said second.0 second.1.0)

    -- ---- as the link sees it

    all_may : MayRunLinks (links sited.site) (names_at sited.site) (time_of_round new ++ calls_of_round between new) before
    all_may = may_both (links sited.site) (names_at sited.site) (time_of_round new) (calls_of_round between new) before (time_followed new before has).may (all_followed laws sited station once (map event_of (behind_time new) ++ between) (timed new) (passed_links new before) (time_followed new before has).has).may

    -- the time and the calls of a round, where this is its time
    abbrev MayGo : ℕ → List LinksEvent → Type 0
    MayGo link time = MayRun (names_at sited.site link) (Passes 10000 10000 10000 ∷ run_on link (calls_of_round between new) (run_links time before)) (seen link before)

    abbrev Leads : ℕ → List LinksEvent → Type 0
    Leads link time = seen link (run_links (calls_of_round between new) (run_links time before)) ≡ run (Passes 10000 10000 10000 ∷ run_on link (calls_of_round between new) (run_links time before)) (seen link before)

    at_link : (link : ℕ) → link < links sited.site → MayGo link (time_of_round new) × Leads link (time_of_round new)
    at_link link below = subst (λ (time : List LinksEvent). MayGo link time × Leads link time) (sym (time_is new has.same goes)) (
      subst (λ (n : ℕ). MayRun (names_at sited.site link) (Passes 10000 10000 n ∷ run_on link (calls_of_round between new) (happened_to clock_event before)) (seen link before)) (tens_at (links sited.site) link below)
          (laws.each_link_sees_its_events_may_run (links sited.site) (names_at sited.site) (clock_event ∷ calls_of_round between new) before (are_links laws sited station once) has.timely
          (subst (λ (time : List LinksEvent). MayRunLinks (links sited.site) (names_at sited.site) (time ++ calls_of_round between new) before) (time_is new has.same goes) all_may) link below),
      subst (λ (n : ℕ). seen link (run_links (calls_of_round between new) (happened_to clock_event before)) ≡ run (Passes 10000 10000 n ∷ run_on link (calls_of_round between new) (happened_to clock_event before)) (seen link before)) (tens_at (links sited.site) link below)
          (laws.each_link_sees_its_events_run link (clock_event ∷ calls_of_round between new) before),
    )

    work_on : (who : Role) (link : ℕ) → link < links sited.site → IsWorkAt who (due who link) (calls_in who (calls_on link between new before))
    work_on who link below = subst (IsWorkAt who (due who link))
        (sym (seen_calls who link (calls_of_round between new) (passed_links new before) (round_called between new (timed new) work))) (work_at who link below)

    pub has_behind : HasThese sited (after_each (map event_of (behind_time new) ++ between) (timed new)) (links_behind between new before)
    has_behind = (all_followed laws sited station once (map event_of (behind_time new) ++ between) (timed new) (passed_links new before)
        (time_followed new before has).has).has

    pub round_on : (link : ℕ) → link < links sited.site → IsRoundOn sited.site due new between before link
    round_on link below = record {
      are = subst (λ (world : Played). AreLinksOf sited.site world.run (links_behind between new before)) (sym (round_tried between new)) has_behind.are;
      may = (at_link link below).0;
      only = calls_alone link (calls_of_round between new) (passed_links new before) (round_called between new (timed new) work);
      client = work_on Role.Client link below;
      server = work_on Role.Server link below;
      leads = (at_link link below).1;
    }

  -- one in which the datagrams come that were sent after these
  module _ (old new : Flowing) (come : List RoundEvent) (due_in_it : deliveries (arrival_in new.state) new.passed (length new.state.run.sent - new.passed) ≡ come)
      (between : List Event) (before : Links) (work : Each IsWork between) (has : HasThese sited new.state before)
      (goes : refusal_of (round_of_time new.state.sited.site) new.state ≡ None)
      (comes : (who : Role) (link : ℕ) → IsFront (due_behind who link old.state.run.sent before)
      (all_called_at who link (all_events_tried (map event_of come) (timed new)))) where
    abbrev due_in_round : Role → ℕ → List (List ℕ)
    due_in_round who link = due_behind who link old.state.run.sent before

    pub all_has : HasThese sited (after_each (map event_of (behind_time new) ++ between) (timed new)) (links_behind between new before)
    all_has = has_behind due_in_round new come due_in_it between before work has goes comes

    pub round_at_work : (link : ℕ) → link < links sited.site → IsAtWorkOn sited.site link between old new before
    round_at_work link below = let r = round_on due_in_round new come due_in_it between before work has goes comes link below in record {
      are = r.are;
      work = record { may = r.may; only = r.only; client = r.client; server = r.server };
      leads = r.leads;
    }

-- ---- datagrams are read as what their senders wrote

here : (n : ℕ) → (n == n) ≡ true
here n = grind (arith, nat_tests)

pub each_by_link : (P : ℕ → Sent → Type 0) (count : ℕ) (list : List OnLink) → Each (λ (one : OnLink). one.link < count) list
    → ((link : ℕ) → link < count → Each (P link) (of_link link list)) → Each (λ (one : OnLink). P one.link one.datagram) list
each_by_link P count [] below each = tt
each_by_link P count (one ∷ more) below each = (
  (subst (λ (b : Bool). Each (P one.link) (if b then one.datagram ∷ of_link one.link more else of_link one.link more)) (here one.link) (each one.link below.0)).0,
  each_by_link P count more below.1 (λ link less. choose (one.link == link) link (each link less)),
)
  where
    choose : (b : Bool) (link : ℕ) → Each (P link) (if b then one.datagram ∷ of_link link more else of_link link more) → Each (P link) (of_link link more)
    choose true link all = all.1
    choose false link all = all

-- what a datagram of a link is read as
abbrev IsReadOn : Site → ℕ → Sent → Type 0
IsReadOn site link sent = (pdu : Pdu) × (reading (key_of site) sent.bytes ≡ Ok pdu) × (pdu.sender ≡ name_of sent.sender (names_at site link))

flight_read : (site : Site) (link : ℕ) (times : _) (list : List Sent) → Each (InFlight (names_at site link) times) list → Each (IsReadOn site link) list
flight_read site link times [] each = tt
flight_read site link times (first ∷ others) each = ((each.0.pdu, each.0.read, each.0.sender), flight_read site link times others each.1)

read_from : (site : Site) (list : List OnLink) → Each (λ (one : OnLink). one.link < links site) list → Each (λ (one : OnLink). IsReadOn site one.link one.datagram) list → Each (IsFrom site) list
read_from site [] below each = tt
read_from site (one ∷ more) below each = (record { below = below.0; pdu = each.0.0; read = each.0.1; sender = each.0.2 }, read_from site more below.1 each.1)

from_behind : (site : Site) (one other : List OnLink) → Each (IsFrom site) (one ++ other) → Each (IsFrom site) other
from_behind site [] other each = each
from_behind site (first ∷ one) other each = from_behind site one other each.1

pub all_from : (site : Site) (these : Links) (front more : List OnLink) → AreTimely (links site) (names_at site) these → these.sent ≡ front ++ more → Each (IsFrom site) more
all_from site these front more timely sent = from_behind site front more (subst (Each (IsFrom site)) sent
    (read_from site these.sent timely.numbered (each_by_link (IsReadOn site) (links site) these.sent timely.numbered (λ link below. flight_read site link _ (of_link link these.sent) (timely.each link below).datagrams))))

pub at_work_on_links : LawsBelow → LawsBelow → (old new : Flowing) (leaves : LeavesFresh old new) (between : List Event) (before : Links) (link : ℕ) → Once new.state.sited.site → IsStation new.state.sited.site
    → IsTableOf new.state.sited.site new.state.sited.table → IsReached new.state.sited.site new.state.sited.table new.state.run → Each IsWork between → HasTime 1 new.state.run
    → AreTimely (links new.state.sited.site) (names_at new.state.sited.site) before → AreLinksOf new.state.sited.site new.state.run before → link < links new.state.sited.site
    → IsAtWorkOn new.state.sited.site link between old new before
at_work_on_links laws arriving old new leaves between before link once station is_table reached work can timely are below =
    let sited = new.state.sited
    in let standing : IsStanding sited.site new.state.run = subst (IsStanding sited.site) (sym reached.after) (laws.stations_have_links_run sited.site sited.table reached.outset reached.events station once reached.lies reached.can)
    in let all = has_all laws sited new.state.run station once reached
    in let sections = table_sections sited.site sited.table is_table
    in let has : HasThese sited new.state before = record { same = refl; whole = standing.whole; timely = timely; are = are }
    in round_at_work laws sited station once sections old new (arrivals new.passed leaves.more) (due_in_order old new leaves) between before work has
    (time_may_pass sited.site new.state.run all (each_can 0 (clocks_of new.state.run) can))
    (fresh_come laws sited station once sections old new leaves before has (all_from sited.site before old.state.run.sent leaves.more timely (are.sent_is ∙ leaves.sent))
    (none_refused arriving old new leaves once station reached)) link below
