-- The interlocking lives on, whatever happens.
use Rattle.std.proofs.Common.{◌≡◌, ℕ, ◌+◌, List, [], ◌∷◌, ◌++◌, Option, Some, None, slice_get, refl, sym, ap, subst, ◌∙◌}
use Rattle.std.specs.Prelude.{slice_index_or}
use Rattle.simulator_spec.specs.layout.Entries.{DetectorEntry, Site}
use Rattle.simulator_spec.specs.layout.declared.entries.Signal.{Signal as SignalEntry}
use Rattle.simulator_spec.specs.layout.declared.entries.Point.{Point as PointEntry}
use Rattle.simulator_spec.specs.rasta_core.Ends.{reading_of}
use Rattle.simulator_spec.specs.ixl_spec.StepSoFar.{begun_with, empty_outbox}
use Rattle.simulator_spec.specs.ixl_spec.State.{IxlState}
use Rattle.simulator_spec.specs.ixl_spec.Step as ixl
use Rattle.simulator_spec.specs.ixl_spec.Table.{Table}
use Rattle.simulator_spec.specs.simulator_event.declared.event.Event.{Event}
use Rattle.simulator_spec.specs.simulator_event.declared.event.Event.TheVariants as event
use Rattle.simulator_spec.specs.First.{Beginning, new_ixl}
use Rattle.simulator_spec.specs.Happens.{detector_anew, detector_stepped, happens, interlocking_stepped, made_anew, passed, point_anew, point_stepped, signal_anew, signal_stepped}
use Rattle.simulator_spec.specs.Nodes.{Node, Interlocking, Signal, Point, Detector, key_of, node_at}
use Rattle.simulator_spec.specs.State.{WorldState}
use Rattle.simulator_node_laws.specs.Lives.{Life, LivesAsInterlocking, anew_where, hears, interlocking_hears, is_interlocking, ixl_after, life_after, the_interlocking, turned}
use Rattle.simulator_node_laws.specs.Split.{around, connection_in, stepped}
use Rattle.simulator_node_laws.specs.Told.{Told, Nobody, ToInterlocking, ToSignal, ToPoint, ToDetector, told}
use Rattle.simulator_node_laws.proofs.Split.{is_split}

abbrev StationLife : Type 0
StationLife = Life (Unit {0}) ixl.Input

one_more : (site : Site) (table : Table) (came : List (ℕ × ixl.Input)) (one : ℕ × ixl.Input) (state : IxlState)
    → ixl_after site table (came ++ one ∷ []) state ≡ (ixl.stepped one.0 table (key_of site) one.1 (begun_with (ixl_after site table came state) empty_outbox)).ixl
unfolding ixl_after
one_more site table [] one state = refl
one_more site table (first ∷ others) one state = one_more site table others one (ixl.stepped first.0 table (key_of site) first.1 (begun_with state empty_outbox)).ixl

module _ (site : Site) (table : Table) where
  same_station : (world other : WorldState) (life : StationLife) → other.interlocking ≡ world.interlocking → LivesAsInterlocking site table world life → LivesAsInterlocking site table other life
  same_station world other life same lives = record { state = ap (λ s. s.ixl) same ∙ lives.state; clock = ap (λ s. s.clock) same ∙ lives.clock }

  -- it has no contacts
  abbrev unmoved : ixl.Input → Unit {0} → Unit {0}
  unmoved input contacts = contacts

  steps : (input : ixl.Input) (world : WorldState) (life : StationLife) → LivesAsInterlocking site table world life → LivesAsInterlocking site table (interlocking_stepped site table input world) (hears unmoved (Some input) life)
  unfolding interlocking_stepped
  steps input world life lives = record {
    state = ap (λ i. (ixl.stepped (reading_of world.interlocking.clock) table (key_of site) input (begun_with i empty_outbox)).ixl) lives.state
        ∙ ap (λ n. (ixl.stepped (reading_of n) table (key_of site) input (begun_with (ixl_after site table life.came (new_ixl site table life.begins)) empty_outbox)).ixl) lives.clock
        ∙ sym (one_more site table life.came (reading_of life.clock, input) (new_ixl site table life.begins));
    clock = lives.clock;
  }

  told_on : (connection : ℕ) (what : Told) (world : WorldState) (life : StationLife) → LivesAsInterlocking site table world life
      → LivesAsInterlocking site table (stepped site table connection what world) (hears unmoved (interlocking_hears what) life)
  unfolding signal_stepped point_stepped detector_stepped
  told_on connection Nobody world life lives = lives
  told_on connection (ToInterlocking input) world life lives = steps input world life lives
  told_on connection (ToSignal at input) world life lives = same_station world _ life refl lives
  told_on connection (ToPoint at input) world life lives = same_station world _ life refl lives
  told_on connection (ToDetector at input) world life lives = same_station world _ life refl lives

  anew_on : (begins : Beginning) (at : Option Node) (world : WorldState) (life : StationLife) → LivesAsInterlocking site table world life
      → LivesAsInterlocking site table (made_anew site table begins at world) (anew_where (is_interlocking at) begins life)
  unfolding ixl_after
  anew_on begins None world life lives = lives
  anew_on begins (Some Interlocking) world life lives = record { state = refl; clock = refl }
  anew_on begins (Some (Signal at)) world life lives = of_entry (slice_get site.signals at) where
    of_entry : (other : Option SignalEntry) → LivesAsInterlocking site table (signal_anew site begins at other world) life
    of_entry None = lives
    of_entry (Some other) = same_station world _ life refl lives
  anew_on begins (Some (Point at)) world life lives = of_entry (slice_get site.points at) where
    of_entry : (other : Option PointEntry) → LivesAsInterlocking site table (point_anew site begins at other world) life
    of_entry None = lives
    of_entry (Some other) = same_station world _ life refl lives
  anew_on begins (Some (Detector at)) world life lives = of_entry (slice_get site.detectors at) where
    of_entry : (other : Option DetectorEntry) → LivesAsInterlocking site table (detector_anew site begins at other world) life
    of_entry None = lives
    of_entry (Some other) = same_station world _ life refl lives

  turned_on : (happening : Event) (world : WorldState) (life : StationLife) → LivesAsInterlocking site table world life
      → LivesAsInterlocking site table (around site table happening world) (turned site the_interlocking happening life)
  unfolding passed
  turned_on (event.Request command) world life lives = lives
  turned_on (event.Occupy section occupancy) world life lives = same_station world _ life refl lives
  turned_on (event.Tick node) world life lives = lives
  turned_on (event.Time elapsed clocks) world life lives = record { state = lives.state; clock = ap (λ n. n + slice_index_or clocks 0 0) lives.clock }
  turned_on (event.Deliver node bytes) world life lives = lives
  turned_on (event.Lose bytes) world life lives = same_station world _ life refl lives
  turned_on (event.Reach point position) world life lives = same_station world _ life refl lives
  turned_on (event.Restart node clock first) world life lives = anew_on (record { clock = clock; first = first }) (node_at site node.0) world life lives

  pub lives_on : (happening : Event) (world : WorldState) (life : StationLife) → LivesAsInterlocking site table world life
      → LivesAsInterlocking site table (happens site table happening world) (life_after site table the_interlocking happening life)
  lives_on happening world life lives = subst (λ (w : WorldState). LivesAsInterlocking site table w (life_after site table the_interlocking happening life)) (sym (is_split site table happening world))
      (told_on (connection_in happening world) (told site table happening) (around site table happening world) (turned site the_interlocking happening life) (turned_on happening world life lives))
