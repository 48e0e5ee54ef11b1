-- A signal lives on, whatever happens.
use Rattle.std.proofs.Common.{◌≡◌, ◌≢◌, ℕ, suc, Bool, true, false, List, [], ◌∷◌, length, drop, Option, Some, None, slice_get, refl, sym, subst}
use Rattle.std.specs.Prelude.{◌==◌, slice_index_or}
use Rattle.simulator_spec.specs.layout.Entries.{Site}
use Rattle.simulator_spec.specs.layout.declared.entries.Signal.{Signal as SignalEntry}
use Rattle.simulator_spec.specs.layout.declared.entries.Point.{Point as PointEntry}
use Rattle.simulator_spec.specs.layout.Entries.{DetectorEntry}
use Rattle.simulator_spec.specs.object_host.Host.{HostState}
use Rattle.simulator_spec.specs.object_host.declared.input.Input.{Input}
use Rattle.simulator_spec.specs.signal_ctl.Signal.{SignalState, signal_behaviour}
use Rattle.simulator_spec.specs.ixl_spec.Table.{Table}
use Rattle.simulator_spec.specs.simulator_event.declared.event.Event.{Event}
use Rattle.simulator_spec.specs.simulator_event.declared.event.Event.TheVariants as event
use Rattle.simulator_spec.specs.First.{Beginning, new_signal}
use Rattle.simulator_spec.specs.Happens.{detector_anew, detector_stepped, happens, interlocking_stepped, made_anew, passed, point_anew, point_stepped, signal_anew, signal_stepped}
use Rattle.simulator_spec.specs.Nodes.{Node, Interlocking, Signal, Point, Detector, node_at}
use Rattle.simulator_spec.specs.State.{WorldState}
use Rattle.simulator_node_laws.specs.Lives.{Life, LivesAsSignal, anew_where, hears, is_signal, life_after, signal_at, signal_hears, turned}
use Rattle.simulator_node_laws.specs.Split.{around, connection_in, stepped}
use Rattle.simulator_node_laws.specs.Told.{Told, Nobody, ToInterlocking, ToSignal, ToPoint, ToDetector, told}
use Rattle.simulator_node_laws.proofs.Controllers.{another_begins, begins_anew, goes_on, one_steps}
use Rattle.simulator_node_laws.proofs.Lists.{other_number, same_number}
use Rattle.simulator_node_laws.proofs.Split.{is_split}

abbrev SignalLife : Type 0
SignalLife = Life (Unit {0}) Input

module _ (site : Site) (table : Table) (entry : SignalEntry) (place : ℕ) where
  abbrev new : Beginning → Unit {0} → HostState SignalState
  new begins sensed = new_signal site begins entry

  -- it has no contacts
  abbrev unmoved : Input → Unit {0} → Unit {0}
  unmoved input contacts = contacts

  told_on : (connection : ℕ) (what : Told) (world : WorldState) (life : SignalLife) → LivesAsSignal site entry world place life
      → LivesAsSignal site entry (stepped site table connection what world) place (hears unmoved (signal_hears place what) life)
  unfolding interlocking_stepped signal_stepped point_stepped detector_stepped
  told_on connection Nobody world life lives = lives
  told_on connection (ToInterlocking input) world life lives = lives
  told_on connection (ToSignal at input) world life lives = one_steps signal_behaviour new unmoved input connection world.time at at place world.signals world.sent life lives
  told_on connection (ToPoint at input) world life lives = lives
  told_on connection (ToDetector at input) world life lives = lives

  first_tick : (clocks : List ℕ) (n : ℕ) → slice_index_or (drop 1 clocks) n 0 ≡ slice_index_or clocks (suc n) 0
  first_tick [] n = refl
  first_tick (first ∷ others) n = refl

  anew_on : slice_get site.signals place ≡ Some entry → (begins : Beginning) (at : Option Node) (world : WorldState) (life : SignalLife) → LivesAsSignal site entry world place life
      → LivesAsSignal site entry (made_anew site table begins at world) place (anew_where (is_signal place at) begins life)
  anew_on is begins None world life lives = lives
  anew_on is begins (Some Interlocking) world life lives = lives
  anew_on is begins (Some (Point at)) world life lives = of_entry (slice_get site.points at) where
    of_entry : (other : Option PointEntry) → LivesAsSignal site entry (point_anew site begins at other world) place life
    of_entry None = lives
    of_entry (Some other) = lives
  anew_on is begins (Some (Detector at)) world life lives = of_entry (slice_get site.detectors at) where
    of_entry : (other : Option DetectorEntry) → LivesAsSignal site entry (detector_anew site begins at other world) place life
    of_entry None = lives
    of_entry (Some other) = lives
  anew_on is begins (Some (Signal at)) world life lives = cases (at == place) refl where
    it : LivesAsSignal site entry (signal_anew site begins place (Some entry) world) place (anew_where true begins life)
    it = begins_anew signal_behaviour new begins (length world.sent) place world.signals life lives

    another : (other : Option SignalEntry) → place ≢ at → LivesAsSignal site entry (signal_anew site begins at other world) place life
    another None differ = lives
    another (Some other) differ = another_begins signal_behaviour new _ at place world.signals life differ lives

    cases : (test : Bool) → (at == place) ≡ test → LivesAsSignal site entry (signal_anew site begins at (slice_get site.signals at) world) place (anew_where test begins life)
    cases true same = subst (λ n. LivesAsSignal site entry (signal_anew site begins n (slice_get site.signals n) world) place (anew_where true begins life)) (sym (same_number at place same))
        (subst (λ o. LivesAsSignal site entry (signal_anew site begins place o world) place (anew_where true begins life)) (sym is) it)
    cases false differ = another (slice_get site.signals at) (λ same. other_number at place differ (sym same))

  turned_on : slice_get site.signals place ≡ Some entry → (happening : Event) (world : WorldState) (life : SignalLife) → LivesAsSignal site entry world place life
      → LivesAsSignal site entry (around site table happening world) place (turned site (signal_at place) happening life)
  unfolding passed
  turned_on is (event.Request command) world life lives = lives
  turned_on is (event.Occupy section occupancy) world life lives = lives
  turned_on is (event.Tick node) world life lives = lives
  turned_on is (event.Time elapsed clocks) world life lives = goes_on signal_behaviour new (length world.sent) (drop 1 clocks) _ world.signals place life (first_tick clocks place) lives
  turned_on is (event.Deliver node bytes) world life lives = lives
  turned_on is (event.Lose bytes) world life lives = lives
  turned_on is (event.Reach point position) world life lives = lives
  turned_on is (event.Restart node clock first) world life lives = anew_on is (record { clock = clock; first = first }) (node_at site node.0) world life lives

  pub lives_on : slice_get site.signals place ≡ Some entry → (happening : Event) (world : WorldState) (life : SignalLife) → LivesAsSignal site entry world place life
      → LivesAsSignal site entry (happens site table happening world) place (life_after site table (signal_at place) happening life)
  lives_on is happening world life lives = subst (λ (w : WorldState). LivesAsSignal site entry w place (life_after site table (signal_at place) happening life)) (sym (is_split site table happening world))
      (told_on (connection_in happening world) (told site table happening) (around site table happening world) (turned site (signal_at place) happening life) (turned_on is happening world life lives))
