-- What a good round leaves of a point's controller: it has just made a step.
use Rattle.simulator_recovery.proofs.Words.Basics.{◌≡◌, ◌⊎◌, inl, inr, ℕ, zero, suc, ◌∙◌, ◌+◌, ◌-◌, ◌^◌, ◌≤◌, ◌<◌, ◌&&◌, min, nat_le, nat_lt, Bool, true, false, if◌then◌else◌, List, [], ◌∷◌, ◌++◌, length, Option, Some, None, slice_get, slice_set, refl, sym, ap, subst, arith, false≢true, nat_tests, none-some, same_Some}
use Rattle.simulator_recovery.proofs.Words.Links.{alive_until, deadline, settled, Each, reading_of, is_open}
use Rattle.simulator_recovery.proofs.Words.Controllers.{Occupancy, Side, HostState, is_completed, host_step, Input, Sense, point_behaviour, PointState, drive_end, driven, Progress}
use Rattle.simulator_recovery.proofs.Words.Interlockings.{SitedTable, Table}
use Rattle.simulator_recovery.proofs.Words.Stations.{Site, Event, Refused, RoundEvent, controller_after, step_of, Flowing, all_did, deliveries, did, due, reaches, round, round_of_time, ticks, Stepped, coming, delivered_to, detector_stepped, happens, interlocking_stepped, point_stepped, sensed_by, signal_stepped, stepped_at, ticked_at, connection_of, copy_of, Node, links, node_at, point_link, driven_at, driven_by, refusal, refused_where, ClockedControllerState, WorldState, Played, after, arrival_in, world_where, driven as found_driven}
use Rattle.simulator_recovery.proofs.Words.Recovery.{IsDriven, IsWork, all_tried, MakesStep}
use Rattle.simulator_spec.specs.Nodes as nodes
use Rattle.simulator_recovery.proofs.Lemmas.Rounds.Clocks.{IsCalm}
use Rattle.simulator_recovery.proofs.Lemmas.Points.DrivenPoints.{did_both, did_sited}
use Rattle.simulator_recovery.proofs.Lemmas.Ground.LinkCounts.{settled_open}
use Rattle.simulator_recovery.proofs.Lemmas.Ground.EndCalls.{set_own}
use Rattle.simulator_recovery.proofs.Lemmas.Points.MovesMoment.{point_controller}
use Rattle.simulator_recovery.proofs.Lemmas.Points.MovesPaid.{IsFresh, IsFull, IsPaid, step_done, step_fresh}
use Rattle.simulator_recovery.proofs.Lemmas.Rounds.Rounds.{calm_keeps, reaches_calm, ticks_calm, tried_keeps, work_calm}

-- ---- a step was made

-- A controller is as a step at its clock has left it.
pub record IsLeft (c : ClockedControllerState PointState) : Type 0 where
  pub input : Input
  pub before : HostState PointState
  pub is : c.host ≡ (host_step point_behaviour (reading_of c.clock) input before).host

abbrev LeftAt : ℕ → List (ClockedControllerState PointState) → Type 0
LeftAt place points = (c : ClockedControllerState PointState) → slice_get points place ≡ Some c → IsLeft c

abbrev pub IsLeftAt : ℕ → Played → Type 0
IsLeftAt place world = LeftAt place world.run.points

set_cases : {X : Type 0} (list : List X) (at place : ℕ) (new y : X) → slice_get (slice_set list at new) place ≡ Some y → ((at ≡ place) × (y ≡ new)) ⊎ (slice_get list place ≡ Some y)
set_cases [] at place new y e = absurd (none-some y e)
set_cases (x ∷ list) zero zero new y e = inl (refl, sym (same_Some new y e))
set_cases (x ∷ list) zero (suc place) new y e = inr e
set_cases (x ∷ list) (suc at) zero new y e = inr e
set_cases (x ∷ list) (suc at) (suc place) new y e = choose (set_cases list at place new y e)
  where
    choose : ((at ≡ place) × (y ≡ new)) ⊎ (slice_get list place ≡ Some y) → ((suc at ≡ suc place) × (y ≡ new)) ⊎ (slice_get list place ≡ Some y)
    choose (inl (same, f)) = inl (ap suc same, f)
    choose (inr f) = inr f

new_left : (input : Input) (connection moment : ℕ) (c : ClockedControllerState PointState) → IsLeft (controller_after (step_of point_behaviour input c) connection moment c)
unfolding controller_after
new_left input connection moment c = record { input = input; before = c.host; is = refl }

-- ---- what each step of a point's controller keeps

module _ (Q : ClockedControllerState PointState → Type 0) (keeps : (input : Input) (connection moment : ℕ) (c : ClockedControllerState PointState) → Q c → Q (controller_after (step_of point_behaviour input c) connection moment c)) (place : ℕ) where
  abbrev Holds : List (ClockedControllerState PointState) → Type 0
  Holds points = (c : ClockedControllerState PointState) → slice_get points place ≡ Some c → Q c

  -- a step at any place
  steps_keep : (input : Input) (connection time link at : ℕ) (found : Option (ClockedControllerState PointState)) (all : Stepped PointState) → slice_get all.servers at ≡ found → Holds all.servers → Holds (stepped_at point_behaviour input connection time link at found all).servers
  unfolding stepped_at
  steps_keep input connection time link at None all there before one e = before one e
  steps_keep input connection time link at (Some c) all there before one e = choose (set_cases all.servers at place new one e)
    where
      new : ClockedControllerState PointState
      new = controller_after (step_of point_behaviour input c) connection (length all.sent) c

      choose : ((at ≡ place) × (one ≡ new)) ⊎ (slice_get all.servers place ≡ Some one) → Q one
      choose (inl (here, same)) = subst Q (sym same) (keeps input connection (length all.sent) c (before c (subst (λ (n : ℕ). slice_get all.servers n ≡ Some c) here there)))
      choose (inr still) = before one still

  module _ (site : Site) (table : Table) where
    ticks_keep : (node : Option Node) (world : WorldState) → Holds world.points → Holds (ticked_at site table node world).points
    unfolding signal_stepped point_stepped detector_stepped interlocking_stepped
    ticks_keep None world before = before
    ticks_keep (Some nodes.Interlocking) world before = before
    ticks_keep (Some (nodes.Signal at)) world before = before
    ticks_keep (Some (nodes.Point at)) world before = steps_keep Input.Tick 0 world.time (point_link site at) at (slice_get world.points at) (record { servers = world.points; sent = world.sent }) refl before
    ticks_keep (Some (nodes.Detector at)) world before = before

    comes_keep : (bytes : List ℕ) (connection : ℕ) (node : Option Node) (world : WorldState) → Holds world.points → Holds (delivered_to site table bytes connection node world).points
    unfolding signal_stepped point_stepped detector_stepped interlocking_stepped
    comes_keep bytes connection None world before = before
    comes_keep bytes connection (Some nodes.Interlocking) world before = before
    comes_keep bytes connection (Some (nodes.Signal at)) world before = before
    comes_keep bytes connection (Some (nodes.Point at)) world before = steps_keep (coming bytes) connection world.time (point_link site at) at (slice_get world.points at) (record { servers = world.points; sent = world.sent }) refl before
    comes_keep bytes connection (Some (nodes.Detector at)) world before = before

    senses_keep : (occupancy : Occupancy) (reporter : Option (ℕ × ℕ)) (world : WorldState) → Holds world.points → Holds (sensed_by site occupancy reporter world).points
    unfolding detector_stepped
    senses_keep occupancy None world before = before
    senses_keep occupancy (Some reporter) world before = before

    happens_keep : (one : Event) (world : WorldState) → IsCalm one → Holds world.points → Holds (happens site table one world).points
    unfolding happens interlocking_stepped point_stepped
    happens_keep (Event.Request command) world calm before = before
    happens_keep (Event.Occupy section occupancy) world calm before = senses_keep occupancy (slice_get table.reporters section.0) (record world { occupancies = slice_set world.occupancies section.0 occupancy }) before
    happens_keep (Event.Tick node) world calm before = ticks_keep (node_at site node.0) world before
    happens_keep (Event.Deliver node bytes) world calm before = comes_keep bytes (connection_of (copy_of bytes world)) (node_at site node.0) world before
    happens_keep (Event.Reach point position) world calm before =
        steps_keep (Input.Sense (Sense.Position position)) 0 world.time (point_link site point.0) point.0 (slice_get world.points point.0) (record { servers = world.points; sent = world.sent }) refl before
    happens_keep (Event.Time elapsed clocks) world calm before = absurd calm
    happens_keep (Event.Lose bytes) world calm before = absurd calm
    happens_keep (Event.Restart node clock first) world calm before = absurd calm

  pub tried_still_holds : (world : Played) (one : Event) → IsCalm one → Holds world.run.points → Holds (after world one).run.points
  tried_still_holds world one calm before = tried_keeps (λ (w : Played). Holds w.run.points) world one before (λ none. happens_keep world.sited.site world.sited.table one world.run calm before)

-- ---- the tick of a point's controller

-- a step of this point
own_left : (input : Input) (connection time link place : ℕ) (found : Option (ClockedControllerState PointState)) (all : Stepped PointState) → slice_get all.servers place ≡ found → LeftAt place (stepped_at point_behaviour input connection time link place found all).servers
unfolding stepped_at
own_left input connection time link place None all e one f = absurd (none-some one (sym e ∙ f))
own_left input connection time link place (Some c) all e one f = subst IsLeft (sym (set_own all.servers place _ one f)) (new_left input connection (length all.sent) c)

tried_left : (place : ℕ) (world : Played) (one : Event) → IsCalm one → IsLeftAt place world → IsLeftAt place (after world one)
tried_left place world one calm left = tried_still_holds IsLeft (λ input connection moment c was. new_left input connection moment c) place world one calm left

-- the tick of its controller
tick_left : (place : ℕ) (world : Played) → place < length world.sited.site.points → IsLeftAt place (after world (Event.Tick (record { 0 = suc (point_link world.sited.site place) })))
unfolding refusal happens point_stepped
tick_left place world few = choose (nat_le (suc (links world.sited.site)) (suc (point_link world.sited.site place))) refl
  where
    ticked : WorldState
    ticked = ticked_at world.sited.site world.sited.table (node_at world.sited.site (suc (point_link world.sited.site place))) world.run

    own : LeftAt place ticked.points
    own = subst (λ (node : Option Node). LeftAt place (ticked_at world.sited.site world.sited.table node world.run).points) (sym (point_controller world.sited.site place few))
        (own_left Input.Tick 0 world.run.time (point_link world.sited.site place) place (slice_get world.run.points place) (record { servers = world.run.points; sent = world.run.sent }) refl)

    choose : (b : Bool) → nat_le (suc (links world.sited.site)) (suc (point_link world.sited.site place)) ≡ b
        → IsLeftAt place (world_where (refused_where b Refused.NoSuchNode None) world (record world { run = ticked }))
    choose false e = own
    choose true e = absurd (beyond e)
      where
        beyond : nat_le (suc (links world.sited.site)) (suc (point_link world.sited.site place)) ≡ true → ⊥
        beyond f = grind (arith, nat_tests, f, few)

-- ---- a round

ticks_left : (passed at more behind place : ℕ) (flowing : Flowing) → place < length flowing.state.sited.site.points → at + behind ≡ suc (point_link flowing.state.sited.site place) → behind < more
    → IsLeftAt place (all_did (ticks passed at more) flowing).state
unfolding all_did ticks
ticks_left passed at zero behind place flowing few here less = absurd (omega (arith, less))
ticks_left passed at (suc more) zero place flowing few here less =
    calm_keeps (IsLeftAt place) (λ world one calm left. tried_left place world one calm left) (ticks passed (suc at) more) (did ticking flowing) (ticks_calm passed (suc at) more)
    (subst (λ (n : ℕ). IsLeftAt place (after flowing.state (Event.Tick (record { 0 = n })))) (sym here_at) (tick_left place flowing.state few))
  where
    ticking : RoundEvent
    ticking = record { event = Event.Tick (record { 0 = at }); passed = passed }

    here_at : at ≡ suc (point_link flowing.state.sited.site place)
    here_at = omega (arith, here)
ticks_left passed at (suc more) (suc behind) place flowing few here less =
    let same = did_sited (ticking ∷ []) flowing
    in ticks_left passed (suc at) more behind place (did ticking flowing) (subst (λ (s : SitedTable). place < length s.site.points) (sym same) few)
    (subst (λ (s : SitedTable). suc at + behind ≡ suc (point_link s.site place)) (sym same) (omega (arith, here))) (omega (arith, less))
  where
    ticking : RoundEvent
    ticking = record { event = Event.Tick (record { 0 = at }); passed = passed }

round_left : (flowing : Flowing) (place : ℕ) → place < length flowing.state.sited.site.points → IsLeftAt place (round flowing).state
unfolding all_did
round_left flowing place few = subst (λ (f : Flowing). IsLeftAt place f.state) (sym parts)
    (calm_keeps (IsLeftAt place) (λ world one calm left. tried_left place world one calm left) (reaches sent 0 flowing.drives) (all_did ticked before) (reaches_calm sent 0 flowing.drives)
    (subst (λ (n : ℕ). IsLeftAt place (all_did (ticks sent 0 n) before).state) refl
    (ticks_left sent 0 (nodes.nodes flowing.state.sited.site) (suc (point_link flowing.state.sited.site place)) place before (subst (λ (s : SitedTable). place < length s.site.points) (sym same) few)
    (subst (λ (s : SitedTable). 0 + suc (point_link flowing.state.sited.site place) ≡ suc (point_link s.site place)) (sym same) (omega arith)) (omega (arith, few)))))
  where
    sent : ℕ
    sent = length flowing.state.run.sent

    first : RoundEvent
    first = record { event = round_of_time flowing.state.sited.site; passed = flowing.passed }

    come : List RoundEvent
    come = deliveries (arrival_in flowing.state) flowing.passed (sent - flowing.passed)

    ticked : List RoundEvent
    ticked = ticks sent 0 (nodes.nodes flowing.state.sited.site)

    before : Flowing
    before = all_did come (did first flowing)

    same : before.state.sited ≡ flowing.state.sited
    same = did_sited come (did first flowing) ∙ did_sited (first ∷ []) flowing

    parts : all_did (due flowing) flowing ≡ all_did (reaches sent 0 flowing.drives) (all_did ticked before)
    parts = did_both come (ticked ++ reaches sent 0 flowing.drives) (did first flowing) ∙ did_both ticked (reaches sent 0 flowing.drives) before

work_left : (between : List Event) (flowing : Flowing) (place : ℕ) → Each IsWork between → IsLeftAt place flowing.state → IsLeftAt place (all_tried between flowing).state
work_left [] flowing place work left = left
work_left (first ∷ others) flowing place work left = work_left others (record flowing { state = after flowing.state first }) place work.1 (tried_left place flowing.state first (work_calm first work.0) left)

pub left_behind : (between : List Event) (flowing : Flowing) (place : ℕ) → Each IsWork between → place < length flowing.state.sited.site.points → IsLeftAt place (all_tried between (round flowing)).state
left_behind between flowing place work few = work_left between (round flowing) place work (round_left flowing place few)

-- ---- what that is

module _ (makes : MakesStep) (c : ClockedControllerState PointState) (left : IsLeft c) where
  abbrev now : ℕ
  now = reading_of c.clock

  -- a report that is owed was refused by a full window
  pub left_paid : is_completed c.host.stage ≡ true → IsPaid c.host.object.progress ⊎ IsFull c.host.link
  left_paid completed = subst (λ (h : HostState PointState). IsPaid h.object.progress ⊎ IsFull h.link) (sym left.is) (step_done now left.input left.before (ap (λ (h : HostState PointState). is_completed h.stage) (sym left.is) ∙ completed))

  module _ (inside : is_open (settled now c.host.link).phase ≡ true) (early : c.clock ≤ 9000000000000000) where
    lives : now < deadline c.host.link
    lives = (settled_open now c.host.link inside).2

    small : now ≤ 9000000000000000
    small = less c.clock early
      where
        less : (n : ℕ) → n ≤ 9000000000000000 → reading_of n ≤ 9000000000000000
        less n few = omega (arith, few)

    fresh : IsFresh now c.host.object.progress
    fresh = subst (λ (h : HostState PointState). IsFresh now h.object.progress) (sym left.is)
        (step_fresh now left.input left.before (makes now left.input left.before))

    until_is : c.host.object.until ≡ alive_until c.host.link
    until_is = subst (λ (h : HostState PointState). h.object.until ≡ alive_until h.link) (sym left.is) (makes now left.input left.before).until

    -- a drive is on
    pub left_drives : (side : Side) (since : ℕ) → c.host.object.progress ≡ Progress.Driving side since → driven_by c ≡ Some side
    unfolding alive_until
    left_drives side since e = ap (driven now c.host.object.until) e ∙ on (nat_lt now (drive_end since)) (before_limit (fresh side since e)) (nat_lt now c.host.object.until) before_until
      where
        on : (a : Bool) → a ≡ true → (b : Bool) → b ≡ true → (if a && b then Some side else None) ≡ Some side
        on true f true g = refl
        on true f false g = absurd (false≢true g)
        on false f b g = absurd (false≢true f)

        begins : (n : ℕ) → n ≤ 9000000000000000 → nat_lt n (drive_end n) ≡ true
        begins n few = grind (arith, nat_tests, few)

        still : (n m : ℕ) → nat_le m n ≡ false → nat_lt n m ≡ true
        still n m f = grind (arith, nat_tests, f)

        before_limit : (nat_le (drive_end since) now ≡ false) ⊎ (since ≡ now) → nat_lt now (drive_end since) ≡ true
        before_limit (inl f) = still now (drive_end since) f
        before_limit (inr f) = subst (λ (n : ℕ). nat_lt now (drive_end n) ≡ true) (sym f) (begins now small)

        lives_on : (n m : ℕ) → n ≤ 9000000000000000 → n < m → nat_lt n (min m (2 ^ 64 - 1)) ≡ true
        lives_on n m few less = grind (arith, nat_tests, few, less)

        before_until : nat_lt now c.host.object.until ≡ true
        before_until = ap (nat_lt now) until_is ∙ lives_on now (deadline c.host.link) small lives

driver_there : (place : ℕ) (points : List (ClockedControllerState PointState)) (c : ClockedControllerState PointState) → slice_get points place ≡ Some c → driven_at place points ≡ driven_by c
driver_there place [] c e = absurd (none-some c e)
driver_there zero (one ∷ points) c e = ap driven_by (same_Some one c e)
driver_there (suc place) (one ∷ points) c e = driver_there place points c e

-- what is found of a point
pub found_there : (place : ℕ) (world : Played) (c : ClockedControllerState PointState) → place < length world.sited.site.points → slice_get world.run.points place ≡ Some c → found_driven world (record { 0 = place }) ≡ driven_by c
found_there place world c few there = ap (λ (b : Bool). if b then driven_at place world.run.points else None) (below place (length world.sited.site.points) few) ∙ driver_there place world.run.points c there
  where
    below : (n m : ℕ) → n < m → nat_lt n m ≡ true
    below n m less = grind (arith, nat_tests, less)

pub driven_there : (place : ℕ) (side : Side) (world : Played) (c : ClockedControllerState PointState) → place < length world.sited.site.points → slice_get world.run.points place ≡ Some c → driven_by c ≡ Some side → IsDriven place side world
driven_there place side world c few there drives = found_there place world c few there ∙ drives
