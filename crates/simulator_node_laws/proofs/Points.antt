-- A point lives on, whatever happens.
use Rattle.std.proofs.Common.{◌≡◌, ◌≢◌, ℕ, zero, suc, ◌+◌, Bool, true, false, if◌then◌else◌, List, [], ◌∷◌, length, drop, Option, Some, None, slice_get, slice_set, refl, sym, ap, subst, ◌∙◌, arith}
use Rattle.std.specs.Prelude.{◌==◌, slice_index_or}
use Rattle.std.proofs.lemmas.Option.{same_Some}
use Rattle.simulator_spec.specs.sci_telegram.declared.message.Occupancy.{Occupancy}
use Rattle.simulator_spec.specs.sci_telegram.declared.message.Position.{Position}
use Rattle.simulator_spec.specs.sci_telegram.declared.message.Position.TheVariants as positions
use Rattle.simulator_spec.specs.layout.Entries.{DetectorEntry, Site}
use Rattle.simulator_spec.specs.layout.declared.entries.Signal.{Signal as SignalEntry}
use Rattle.simulator_spec.specs.layout.declared.entries.Point.{Point as PointEntry}
use Rattle.simulator_spec.specs.object_host.Host.{HostState}
use Rattle.simulator_spec.specs.object_host.declared.input.Input.{Input}
use Rattle.simulator_spec.specs.object_host.declared.input.Input.TheVariants as inputs
use Rattle.simulator_spec.specs.object_host.declared.sense.Sense.TheVariants as sense
use Rattle.simulator_spec.specs.point_ctl.Controlled.{point_behaviour}
use Rattle.simulator_spec.specs.point_ctl.Drive.{PointState}
use Rattle.simulator_spec.specs.ixl_spec.State.{changed}
use Rattle.simulator_spec.specs.ixl_spec.Step as ixl
use Rattle.simulator_spec.specs.ixl_spec.Table.{Table}
use Rattle.simulator_spec.specs.simulator_event.declared.event.Event.{Event}
use Rattle.simulator_spec.specs.simulator_event.declared.event.Event.TheVariants as event
use Rattle.simulator_spec.specs.First.{Beginning, new_point}
use Rattle.simulator_spec.specs.Happens.{coming, detector_anew, detector_stepped, happens, interlocking_stepped, made_anew, passed, point_anew, point_stepped, signal_anew, signal_stepped}
use Rattle.simulator_spec.specs.Nodes.{Node, Interlocking, Signal, Point, Detector, node_at, point_link}
use Rattle.simulator_spec.specs.Controllers.{controller_anew}
use Rattle.simulator_spec.specs.State.{WorldState}
use Rattle.simulator_node_laws.specs.Lives.{Life, LivesAsPoint, LivesAt, anew_where, hears, is_point, life_after, point_at, point_hears, position_after, turned}
use Rattle.simulator_node_laws.specs.Split.{around, connection_in, stepped}
use Rattle.simulator_node_laws.specs.Told.{Told, Nobody, ToInterlocking, ToSignal, ToPoint, ToDetector, to_node, to_reporter, told}
use Rattle.simulator_node_laws.proofs.Controllers.{another_begins, begins_anew, goes_on, one_steps}
use Rattle.simulator_node_laws.proofs.Counts.{IsCounted}
use Rattle.simulator_node_laws.proofs.Lists.{get_set, get_set_other, other_number, same_number}
use Rattle.simulator_node_laws.proofs.Split.{is_split}

abbrev PointLife : Type 0
PointLife = Life Position Input

pub dropped_at : (n : ℕ) (ticks : List ℕ) (place at : ℕ) → at ≡ n + place → slice_index_or (drop n ticks) place 0 ≡ slice_index_or ticks at 0
dropped_at zero ticks place at is = ap (λ k. slice_index_or ticks k 0) same where
  same : place ≡ at
  same = omega arith
dropped_at (suc n) [] place at is = refl
dropped_at (suc n) (first ∷ others) place zero is = absurd (omega arith)
dropped_at (suc n) (first ∷ others) place (suc at) is = dropped_at n others place at (omega arith)

pub one_and : (n : ℕ) → suc n ≡ 1 + n
one_and n = omega arith

pub index_some : {A : Type 0} (list : List A) (place : ℕ) (one otherwise : A) → slice_get list place ≡ Some one → slice_index_or list place otherwise ≡ one
index_some [] place one otherwise is = absurd (none_is is) where
  none_is : None ≡ Some one → ⊥
  none_is e = cc (e)
index_some (first ∷ others) zero one otherwise is = same_Some first one is
index_some (first ∷ others) (suc place) one otherwise is = index_some others place one otherwise is

module _ (site : Site) (table : Table) (entry : PointEntry) (place : ℕ) where
  abbrev new : Beginning → Position → HostState PointState
  new begins position = new_point site begins position entry

  told_on : (connection : ℕ) (what : Told) (world : WorldState) (life : PointLife) → LivesAt point_behaviour new world.points place life
      → LivesAt point_behaviour new (stepped site table connection what world).points place (hears position_after (point_hears place what) life)
  unfolding interlocking_stepped signal_stepped point_stepped detector_stepped
  told_on connection Nobody world life lives = lives
  told_on connection (ToInterlocking input) world life lives = lives
  told_on connection (ToSignal at input) world life lives = lives
  told_on connection (ToPoint at input) world life lives = one_steps point_behaviour new position_after input connection world.time (point_link site at) at place world.points world.sent life lives
  told_on connection (ToDetector at input) world life lives = lives

  told_stands : (connection : ℕ) (what : Told) (world : WorldState) → (stepped site table connection what world).positions ≡ world.positions
  unfolding interlocking_stepped signal_stepped point_stepped detector_stepped
  told_stands connection Nobody world = refl
  told_stands connection (ToInterlocking input) world = refl
  told_stands connection (ToSignal at input) world = refl
  told_stands connection (ToPoint at input) world = refl
  told_stands connection (ToDetector at input) world = refl

  anew_on : slice_get site.points place ≡ Some entry → (begins : Beginning) (at : Option Node) (world : WorldState) (life : PointLife) → LivesAsPoint site entry world place life
      → LivesAsPoint site entry (made_anew site table begins at world) place (anew_where (is_point place at) begins life)
  anew_on is begins None world life lives = lives
  anew_on is begins (Some Interlocking) world life lives = record { lives = lives.lives; stands = lives.stands }
  anew_on is begins (Some (Signal at)) world life lives = of_entry (slice_get site.signals at) where
    of_entry : (other : Option SignalEntry) → LivesAsPoint site entry (signal_anew site begins at other world) place life
    of_entry None = lives
    of_entry (Some other) = record { lives = lives.lives; stands = lives.stands }
  anew_on is begins (Some (Detector at)) world life lives = of_entry (slice_get site.detectors at) where
    of_entry : (other : Option DetectorEntry) → LivesAsPoint site entry (detector_anew site begins at other world) place life
    of_entry None = lives
    of_entry (Some other) = record { lives = lives.lives; stands = lives.stands }
  anew_on is begins (Some (Point at)) world life lives = cases (at == place) refl where
    it : LivesAsPoint site entry (point_anew site begins place (Some entry) world) place (anew_where true begins life)
    it = record {
      lives = subst (λ p. LivesAt point_behaviour new (changed (controller_anew (new_point site begins p entry) begins.clock (length world.sent)) place world.points) place (anew_where true begins life))
          (sym (index_some world.positions place life.contacts positions.NoEndPosition lives.stands))
          (begins_anew point_behaviour new begins (length world.sent) place world.points life lives.lives);
      stands = lives.stands;
    }

    another : (other : Option PointEntry) → place ≢ at → LivesAsPoint site entry (point_anew site begins at other world) place life
    another None differ = lives
    another (Some other) differ = record { lives = another_begins point_behaviour new _ at place world.points life differ lives.lives; stands = lives.stands }

    cases : (test : Bool) → (at == place) ≡ test → LivesAsPoint site entry (point_anew site begins at (slice_get site.points at) world) place (anew_where test begins life)
    cases true same = subst (λ n. LivesAsPoint site entry (point_anew site begins n (slice_get site.points n) world) place (anew_where true begins life)) (sym (same_number at place same))
        (subst (λ o. LivesAsPoint site entry (point_anew site begins place o world) place (anew_where true begins life)) (sym is) it)
    cases false differ = another (slice_get site.points at) (λ same. other_number at place differ (sym same))

  -- the node itself, as what is around it changes
  turned_on : slice_get site.points place ≡ Some entry → (happening : Event) (world : WorldState) (life : PointLife) → IsCounted site world → LivesAsPoint site entry world place life
      → LivesAt point_behaviour new (around site table happening world).points place (turned site (point_at site place) happening life)
  unfolding passed
  turned_on is (event.Request command) world life counted lives = lives.lives
  turned_on is (event.Occupy section occupancy) world life counted lives = lives.lives
  turned_on is (event.Tick node) world life counted lives = lives.lives
  turned_on is (event.Time elapsed clocks) world life counted lives = goes_on point_behaviour new (length world.sent) (drop (length world.signals) (drop 1 clocks)) _ world.points place life tick lives.lives
    where
      tick : slice_index_or (drop (length world.signals) (drop 1 clocks)) place 0 ≡ slice_index_or clocks (suc (point_link site place)) 0
      tick = dropped_at (length world.signals) (drop 1 clocks) place (length world.signals + place) refl
          ∙ ap (λ n. slice_index_or (drop 1 clocks) (n + place) 0) counted.signals ∙ dropped_at 1 clocks (point_link site place) (suc (point_link site place)) (one_and (point_link site place))
  turned_on is (event.Deliver node bytes) world life counted lives = lives.lives
  turned_on is (event.Lose bytes) world life counted lives = lives.lives
  turned_on is (event.Reach point position) world life counted lives = lives.lives
  turned_on is (event.Restart node clock first) world life counted lives = (anew_on is (record { clock = clock; first = first }) (node_at site node.0) world life lives).lives

  -- ---- where it stands

  stands_at : (positions : List Position) (at : ℕ) (life : PointLife) (position : Position) → slice_get positions place ≡ Some life.contacts
      → slice_get (slice_set positions at position) place ≡ Some (hears position_after (point_hears place (ToPoint at (inputs.Sense (sense.Position position)))) life).contacts
  stands_at positions at life position is = cases (at == place) refl where
    cases : (test : Bool) → (at == place) ≡ test
        → slice_get (slice_set positions at position) place ≡ Some (hears position_after (if test then Some (inputs.Sense (sense.Position position)) else None) life).contacts
    cases true same = subst (λ n. slice_get (slice_set positions n position) place ≡ Some position) (sym (same_number at place same)) (get_set positions place life.contacts position is)
    cases false differ = get_set_other positions at place position (λ same. other_number at place differ (sym same)) ∙ is

  -- what is no contact of the point moves nothing
  unmoved : (here : ixl.Input) (input : Input) (life : PointLife) → position_after input life.contacts ≡ life.contacts → (at : Option Node) → life.contacts ≡ (hears position_after (point_hears place (to_node here input at)) life).contacts
  unmoved here input life same None = refl
  unmoved here input life same (Some Interlocking) = refl
  unmoved here input life same (Some (Signal at)) = refl
  unmoved here input life same (Some (Point at)) = cases (at == place) where
    cases : (test : Bool) → life.contacts ≡ (hears position_after (if test then Some input else None) life).contacts
    cases true = sym same
    cases false = refl
  unmoved here input life same (Some (Detector at)) = refl

  unmoved_by_sections : (section : Occupancy) (reporter : Option (ℕ × ℕ)) (life : PointLife) → life.contacts ≡ (hears position_after (point_hears place (to_reporter section reporter)) life).contacts
  unmoved_by_sections occupancy None life = refl
  unmoved_by_sections occupancy (Some reporter) life = refl

  stands_on : slice_get site.points place ≡ Some entry → (happening : Event) (world : WorldState) (life : PointLife) → LivesAsPoint site entry world place life
      → slice_get (around site table happening world).positions place ≡ Some (life_after site table (point_at site place) happening life).contacts
  unfolding passed
  stands_on is (event.Request command) world life lives = lives.stands
  stands_on is (event.Occupy section occupancy) world life lives = lives.stands ∙ ap Some (unmoved_by_sections occupancy (slice_get table.reporters section.0) life)
  stands_on is (event.Tick node) world life lives = lives.stands ∙ ap Some (unmoved ixl.Tick inputs.Tick life refl (node_at site node.0))
  stands_on is (event.Time elapsed clocks) world life lives = lives.stands
  stands_on is (event.Deliver node bytes) world life lives = lives.stands ∙ ap Some (unmoved (ixl.Datagram bytes) (coming bytes) life refl (node_at site node.0))
  stands_on is (event.Lose bytes) world life lives = lives.stands
  stands_on is (event.Reach point position) world life lives = stands_at world.positions point.0 life position lives.stands
  stands_on is (event.Restart node clock first) world life lives = (anew_on is (record { clock = clock; first = first }) (node_at site node.0) world life lives).stands

  pub lives_on : slice_get site.points place ≡ Some entry → (happening : Event) (world : WorldState) (life : PointLife) → IsCounted site world → LivesAsPoint site entry world place life
      → LivesAsPoint site entry (happens site table happening world) place (life_after site table (point_at site place) happening life)
  lives_on is happening world life counted lives =
      let next = turned site (point_at site place) happening life
      in let what = told site table happening
      in subst (λ (w : WorldState). LivesAsPoint site entry w place (life_after site table (point_at site place) happening life)) (sym (is_split site table happening world)) (record {
        lives = told_on (connection_in happening world) what (around site table happening world) next (turned_on is happening world life counted lives);
        stands = ap (λ l. slice_get l place) (told_stands (connection_in happening world) what (around site table happening world)) ∙ stands_on is happening world life lives;
      })
