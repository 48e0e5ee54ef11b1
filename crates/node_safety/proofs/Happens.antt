-- The events of an order may come, and its clocks keep time.
use Rattle.std.proofs.Common.{◌≡◌, ◌∙◌, ◌&&◌, ◌<◌, ◌≤◌, ◌*◌, ℕ, nat_le, nat_lt, not, Bool, true, false, List, [], ◌∷◌, ◌++◌, length, get_or, Option, Some, None, is_none, slice_get, refl, sym, ap, subst, append_assoc, append-nil, arith}
use Rattle.std.proofs.lemmas.Bool.Decides.{nat_tests}
use Rattle.std.proofs.lemmas.Option.{slice_get-get_or}
use Rattle.node_kinds.specs.simulator_spec.layout.Entries.{Site}
use Rattle.node_kinds.specs.simulator_spec.layout.declared.entries.Point.{Point as PointEntry}
use Rattle.node_kinds.specs.simulator_spec.layout.declared.ids.SectionId.{SectionId}
use Rattle.node_kinds.specs.simulator_spec.sci_telegram.declared.message.Occupancy.{Occupancy}
use Rattle.node_kinds.specs.simulator_spec.sci_telegram.declared.message.Position.{Position}
use Rattle.node_kinds.specs.simulator_spec.sci_telegram.declared.message.Side.{Side}
use Rattle.node_kinds.specs.simulator_spec.rasta_core.Ends.{reading_of}
use Rattle.node_kinds.specs.simulator_spec.rasta_pdu.SafetyCode.{intact}
use Rattle.node_kinds.specs.simulator_spec.point_ctl.Drive.{drive_of, drives, driven_by as drive_at}
use Rattle.node_kinds.specs.simulator_spec.point_ctl.declared.drive.Drive.{Drive}
use Rattle.node_kinds.specs.simulator_spec.ixl_spec.Table.{Table}
use Rattle.node_kinds.specs.simulator_spec.simulator_event.declared.event.Event.{Event}
use Rattle.node_kinds.specs.simulator_spec.simulator_event.declared.event.Event.TheVariants as event
use Rattle.node_kinds.specs.simulator_spec.simulator_event.layout.declared.ids.NodeId.{NodeId}
use Rattle.node_kinds.specs.simulator_spec.simulator_event.refused.Refused.TheVariants.{ClockLimit, NeverSent, NoSuchNode, NotDriven}
use Rattle.node_kinds.specs.simulator_spec.First.{Outset, world_at}
use Rattle.node_kinds.specs.simulator_spec.Happens.{happens}
use Rattle.node_kinds.specs.simulator_spec.Network.{copy_of}
use Rattle.node_kinds.specs.simulator_spec.Nodes.{key_of, nodes}
use Rattle.node_kinds.specs.simulator_spec.Refusals.{clock_limit, is_missing, may_reach, refusal, refused_where}
use Rattle.node_kinds.specs.simulator_spec.Run.{after_all}
use Rattle.node_kinds.specs.simulator_spec.State.{WorldState}
use Rattle.node_kinds.specs.simulator_spec.TrueClocks.{KeepTime, MayAllCome, MayCome, StaysSteady, moment_of, sets}
use Rattle.node_kinds.specs.simulator_spec.rasta_core.TrueClocks.{Moment, unless}
use Rattle.node_kinds.specs.node_drive.node_lines.Orders.{side_ordered}
use Rattle.node_kinds.specs.Controllers.{drive_order}
use Rattle.simulator_node_laws.specs.Contacts.{point_now}
use Rattle.simulator_node_laws.specs.Said.{LeftInTime, NoneLost}
use Rattle.simulator_node_laws.specs.Shown.{point_life}
use Rattle.node_safety.specs.Orders.{Entry, IfDone, IsDeed, IsFresh, IsHistory, TellsTruth, events_of, listed, up_to}
use Rattle.node_safety.proofs.Seen.{LinesDrive, drive_line}

-- ---- lists of events

after_then : (site : Site) (table : Table) (some more : List Event) (world : WorldState) → after_all site table (some ++ more) world ≡ after_all site table more (after_all site table some world)
after_then site table [] more world = refl
after_then site table (first ∷ others) more world = after_then site table others more (happens site table first world)

events_then : (some more : List Entry) → events_of (some ++ more) ≡ events_of some ++ events_of more
events_then [] more = refl
events_then (first ∷ others) more =
    ap (λ l. event.Time first.elapsed first.clocks ∷ (listed first.deed ++ l)) (events_then others more)
    ∙ ap (λ l. event.Time first.elapsed first.clocks ∷ l) (sym (append_assoc (listed first.deed) (events_of others) (events_of more)))

none_lost_then : (some more : List Event) → NoneLost some → NoneLost more → NoneLost (some ++ more)
none_lost_then [] more none others = others
none_lost_then (first ∷ some) more none others = (none.0, none_lost_then some more none.1 others)

-- what happens is no loss
deed_kept : (site : Site) (deed : Event) → IsDeed site deed → NoneLost (deed ∷ [])
deed_kept site (event.Request command) is = (refl, tt)
deed_kept site (event.Occupy section occupancy) is = (refl, tt)
deed_kept site (event.Tick node) is = (refl, tt)
deed_kept site (event.Time elapsed clocks) is = absurd is
deed_kept site (event.Deliver node bytes) is = (refl, tt)
deed_kept site (event.Lose bytes) is = absurd is
deed_kept site (event.Reach point position) is = (refl, tt)
deed_kept site (event.Restart node clock first) is = (refl, tt)

deeds_kept : (site : Site) (deed : Option Event) → IfDone deed (IsDeed site) → NoneLost (listed deed)
deeds_kept site None is = tt
deeds_kept site (Some deed) is = deed_kept site deed is

-- what nothing refuses may come
comes : (site : Site) (deed : Event) (w : WorldState) → IsDeed site deed → refusal site deed w ≡ None → MayCome site deed w
comes site (event.Request command) w is allowed = allowed
comes site (event.Occupy section occupancy) w is allowed = allowed
comes site (event.Tick node) w is allowed = allowed
comes site (event.Time elapsed clocks) w is allowed = absurd is
comes site (event.Deliver node bytes) w is allowed = allowed
comes site (event.Lose bytes) w is allowed = allowed
comes site (event.Reach point position) w is allowed = allowed
comes site (event.Restart node clock first) w is allowed = allowed

-- ---- clocks

unless_then : {One Other : Type 0} (set : Bool) → (One → Other) → unless set One → unless set Other
unless_then true so is = tt
unless_then false so is = so is

-- a clock that keeps time over a list keeps it over its beginnings
steady_so_far : (site : Site) (table : Table) (node : ℕ) (from : Moment) (some more : List Event) (w : WorldState) → StaysSteady site table node from (some ++ more) w → StaysSteady site table node from some w
steady_so_far site table node from [] [] w steady = steady
steady_so_far site table node from [] (first ∷ more) w steady = steady.0
steady_so_far site table node from (first ∷ some) more w steady =
    (steady.0, unless_then (sets node first) (steady_so_far site table node from some more (happens site table first w)) steady.1)

time_so_far : (site : Site) (table : Table) (some more : List Event) (w : WorldState) → KeepTime site table (some ++ more) w → KeepTime site table some w
time_so_far site table [] more w keep = tt
time_so_far site table (first ∷ some) more w keep =
    (λ node below. steady_so_far site table node (moment_of node w) (first ∷ some) more w (keep.0 node below), time_so_far site table some more (happens site table first w) keep.1)

pub keep : (site : Site) (table : Table) (outset : Outset) (order : List Entry) → IsHistory site table outset order → (before behind : List Entry) → order ≡ before ++ behind
    → KeepTime site table (events_of before) (world_at site table outset)
keep site table outset order history before behind is =
    time_so_far site table (events_of before) (events_of behind) (world_at site table outset)
    (subst (λ l. KeepTime site table l (world_at site table outset)) (ap events_of is ∙ events_then before behind) history.clocks)

-- ---- tests

not_reached : (n node : ℕ) → node < n → nat_le n node ≡ false
not_reached n node below = grind (arith, nat_tests)

is_there : (node : ℕ) (site : Site) → node < nodes site → is_missing node site ≡ false
is_there node site below = not_reached (nodes site) node below

not_past : (limit n : ℕ) → n ≤ limit → nat_lt limit n ≡ false
not_past limit n within = grind (arith, nat_tests)

and_false : (one : Bool) → (one && false) ≡ false
and_false true = refl
and_false false = refl

some_point : PointEntry
some_point = record { name = []; id = 0; section = record { 0 = 0 } }

-- ---- what is known of each kind of event

abbrev OccupyLaw : Type 0
OccupyLaw = (site : Site) (section : SectionId) (occupancy : Occupancy) (world : WorldState) → section.0 < length site.sections → refusal site (event.Occupy section occupancy) world ≡ None

module _ (site : Site) (table : Table) (outset : Outset) where
  abbrev world : List Event → WorldState
  world events = after_all site table events (world_at site table outset)

  abbrev ComesLaw : Type 0
  ComesLaw = (events : List Event) (node : NodeId) (bytes : List ℕ) → node.0 < nodes site → NoneLost events → LeftInTime site table outset events bytes → refusal site (event.Deliver node bytes) (world events) ≡ None

  abbrev ReachLaw : Type 0
  ReachLaw = (events : List Event) (place : ℕ) (entry : PointEntry) → slice_get site.points place ≡ Some entry → (position : Position)
      → refusal site (event.Reach (record { 0 = place }) position) (world events)
      ≡ refused_where (not (may_reach (drives (reading_of (point_life site table outset events place).clock) (point_now site entry (point_life site table outset events place)).object) position)) NotDriven None

  module _ (occupies : OccupyLaw) (delivered : ComesLaw) (reached : ReachLaw) (motors : (drive : Option Drive) (now : ℕ) → side_ordered (drive_order drive) now ≡ drive_at drive now) (lines : LinesDrive) where
    ticks : (node : NodeId) (w : WorldState) → node.0 < nodes site → refusal site (event.Tick node) w ≡ None
    unfolding refusal
    ticks node w below = ap (λ b. refused_where b NoSuchNode None) (is_there node.0 site below)

    restarts : (node : NodeId) (clock first : ℕ) (w : WorldState) → node.0 < nodes site → clock * 1000 ≤ clock_limit → refusal site (event.Restart node clock first) w ≡ None
    unfolding refusal
    restarts node clock first w below within =
        ap (λ b. refused_where b NoSuchNode (refused_where (nat_lt clock_limit (clock * 1000)) ClockLimit None)) (is_there node.0 site below)
        ∙ ap (λ b. refused_where b ClockLimit None) (not_past clock_limit (clock * 1000) within)

    damaged : (node : NodeId) (bytes : List ℕ) (w : WorldState) → node.0 < nodes site → intact (key_of site) bytes ≡ false → refusal site (event.Deliver node bytes) w ≡ None
    unfolding refusal
    damaged node bytes w below broken =
        ap (λ b. refused_where b NoSuchNode (refused_where (is_none (copy_of bytes w) && intact (key_of site) bytes) NeverSent None)) (is_there node.0 site below)
        ∙ ap (λ b. refused_where b NeverSent None) (ap (λ b. is_none (copy_of bytes w) && b) broken ∙ and_false (is_none (copy_of bytes w)))

    delivers : (events : List Event) (node : NodeId) (bytes : List ℕ) → node.0 < nodes site → NoneLost events → IsFresh site table outset events (event.Deliver node bytes) → (test : Bool) → intact (key_of site) bytes ≡ test
        → refusal site (event.Deliver node bytes) (world events) ≡ None
    delivers events node bytes below none fresh true whole = delivered events node bytes below none (fresh whole)
    delivers events node bytes below none fresh false broken = damaged node bytes (world events) below broken

    reaches : (events : List Event) (place : ℕ) (position : Position) → place < length site.points → TellsTruth site table outset events (event.Reach (record { 0 = place }) position)
        → refusal site (event.Reach (record { 0 = place }) position) (world events) ≡ None
    reaches events place position within truth =
        let entry : PointEntry = get_or site.points place some_point in
        let there : slice_get site.points place ≡ Some entry = slice_get-get_or site.points place some_point within in
        let life = point_life site table outset events place in
        let host = point_now site entry life in
        let driven : drives (reading_of life.clock) host.object ≡ side_ordered (drive_order (drive_of host.object)) (reading_of life.clock) =
        drive_line lines host (reading_of life.clock) ∙ sym (motors (drive_of host.object) (reading_of life.clock)) in
        reached events place entry there position ∙ ap (λ b. refused_where (not b) NotDriven None) (ap (λ (side : Option Side). may_reach side position) driven ∙ truth entry there)

    allowed : (events : List Event) (deed : Event) → IsDeed site deed → NoneLost events → IsFresh site table outset events deed → TellsTruth site table outset events deed → refusal site deed (world events) ≡ None
    unfolding refusal
    allowed events (event.Request command) is none fresh truth = refl
    allowed events (event.Occupy section occupancy) is none fresh truth = occupies site section occupancy (world events) is
    allowed events (event.Tick node) is none fresh truth = ticks node (world events) is
    allowed events (event.Time elapsed clocks) is none fresh truth = absurd is
    allowed events (event.Deliver node bytes) is none fresh truth = delivers events node bytes is none fresh (intact (key_of site) bytes) refl
    allowed events (event.Lose bytes) is none fresh truth = absurd is
    allowed events (event.Reach point position) is none fresh truth = reaches events point.0 position is truth
    allowed events (event.Restart node clock first) is none fresh truth = restarts node clock first (world events) is.0 is.1

    -- ---- one entry after others

    module _ (order : List Entry) (history : IsHistory site table outset order) where
      world_then : (before : List Entry) (entry : Entry) → world (up_to before entry) ≡ happens site table (event.Time entry.elapsed entry.clocks) (world (events_of before))
      world_then before entry = after_then site table (events_of before) (event.Time entry.elapsed entry.clocks ∷ []) (world_at site table outset)

      none_to : (before : List Entry) (entry : Entry) → NoneLost (events_of before) → NoneLost (up_to before entry)
      none_to before entry none = none_lost_then (events_of before) (event.Time entry.elapsed entry.clocks ∷ []) none (refl, tt)

      -- the events with one more entry
      one_more : (before : List Entry) (entry : Entry) → events_of (before ++ entry ∷ []) ≡ up_to before entry ++ listed entry.deed
      one_more before entry =
          events_then before (entry ∷ [])
          ∙ ap (λ l. events_of before ++ event.Time entry.elapsed entry.clocks ∷ l) (append-nil (listed entry.deed))
          ∙ sym (append_assoc (events_of before) (event.Time entry.elapsed entry.clocks ∷ []) (listed entry.deed))

      none_more : (before : List Entry) (entry : Entry) → NoneLost (events_of before) → IfDone entry.deed (IsDeed site) → NoneLost (events_of (before ++ entry ∷ []))
      none_more before entry none deed = subst NoneLost (sym (one_more before entry)) (none_lost_then (up_to before entry) (listed entry.deed) (none_to before entry none) (deeds_kept site entry.deed deed))

      world_more : (before : List Entry) (entry : Entry) → world (events_of (before ++ entry ∷ [])) ≡ after_all site table (listed entry.deed) (happens site table (event.Time entry.elapsed entry.clocks) (world (events_of before)))
      world_more before entry =
          ap world (one_more before entry)
          ∙ after_then site table (up_to before entry) (listed entry.deed) (world_at site table outset)
          ∙ ap (after_all site table (listed entry.deed)) (world_then before entry)

      -- and the deed of an entry may come there, with what comes after it
      deed_may : (events : List Event) (w : WorldState) (deed : Option Event) (later : List Event) → w ≡ world events → IfDone deed (IsDeed site) → NoneLost events → IfDone deed (IsFresh site table outset events)
          → IfDone deed (TellsTruth site table outset events) → MayAllCome site table later (after_all site table (listed deed) w) → MayAllCome site table (listed deed ++ later) w
      deed_may events w None later is deed none fresh truth may = may
      deed_may events w (Some deed) later is named none fresh truth may = (comes site deed w named (subst (λ v. refusal site deed v ≡ None) (sym is) (allowed events deed named none fresh truth)), may)

      may_from : (before rest behind : List Entry) → order ≡ before ++ (rest ++ behind) → NoneLost (events_of before) → MayAllCome site table (events_of rest) (world (events_of before))
      may_from before [] behind is none = tt
      may_from before (entry ∷ rest) behind is none =
          let deed = history.deeds before (rest ++ behind) entry is in
          let is_more : order ≡ (before ++ entry ∷ []) ++ (rest ++ behind) = is ∙ sym (append_assoc before (entry ∷ []) (rest ++ behind)) in
          let later = may_from (before ++ entry ∷ []) rest behind is_more (none_more before entry none deed) in (
            history.passes before (rest ++ behind) entry is,
            deed_may (up_to before entry) (happens site table (event.Time entry.elapsed entry.clocks) (world (events_of before))) entry.deed (events_of rest) (sym (world_then before entry)) deed (none_to before entry none)
                (history.fresh before (rest ++ behind) entry is) (history.contacts before (rest ++ behind) entry is)
                (subst (MayAllCome site table (events_of rest)) (world_more before entry) later),
          )

      pub may : (before behind : List Entry) → order ≡ before ++ behind → MayAllCome site table (events_of before) (world_at site table outset)
      may before behind is = may_from [] before behind is tt
