-- The readings of a life rise from its first.
use Rattle.std.proofs.Common.{◌≡◌, ℕ, ◌+◌, ◌≤◌, Bool, true, false, List, [], ◌∷◌, ◌++◌, Option, Some, None, refl, sym, subst, arith}
use Rattle.std.specs.Prelude.{slice_index_or}
use Rattle.simulator_spec.specs.layout.Entries.{Site}
use Rattle.simulator_spec.specs.rasta_core.Ends.{reading_of}
use Rattle.simulator_spec.specs.ixl_spec.Table.{Table}
use Rattle.simulator_spec.specs.simulator_event.declared.event.Event.{Event}
use Rattle.simulator_spec.specs.simulator_event.declared.event.Event.TheVariants as event
use Rattle.simulator_spec.specs.First.{Beginning}
use Rattle.simulator_spec.specs.Nodes.{node_at}
use Rattle.simulator_node_laws.specs.Lives.{Life, Who, anew_where, born, first_life, hears, life_after, life_in, turned}
use Rattle.simulator_node_laws.specs.Readings.{RiseFrom, Rises, last_reading}
use Rattle.simulator_node_laws.specs.Told.{told}

module _ {Coming : Type 0} where
  one_more : (first reading : ℕ) (came : List (ℕ × Coming)) (input : Coming) → RiseFrom first came → last_reading first came ≤ reading → RiseFrom first (came ++ (reading, input) ∷ [])
  unfolding RiseFrom
  one_more first reading [] input rise last = (last, tt)
  one_more first reading (one ∷ others) input rise last = (rise.0, one_more one.0 reading others input rise.1 last)

  last_one : (first reading : ℕ) (came : List (ℕ × Coming)) (input : Coming) → last_reading first (came ++ (reading, input) ∷ []) ≡ reading
  last_one first reading [] input = refl
  last_one first reading (one ∷ others) input = last_one one.0 reading others input

later : (clock more : ℕ) → reading_of clock ≤ reading_of (clock + more)
later clock more = omega arith

module _ {Contacts Coming : Type 0} where
  born_rises : (begins : Beginning) (contacts : Contacts) → Rises (born {Contacts = Contacts} {Coming = Coming} begins contacts)
  unfolding RiseFrom
  born_rises begins contacts = record { rise = tt; last = omega arith }

  hears_rises : (contact : Coming → Contacts → Contacts) (heard : Option Coming) (life : Life Contacts Coming) → Rises life → Rises (hears contact heard life)
  hears_rises contact None life rises = rises
  hears_rises contact (Some input) life rises = record {
    rise = one_more life.begins.clock (reading_of life.clock) life.came input rises.rise rises.last;
    last = subst (λ n. n ≤ reading_of life.clock) (sym (last_one life.begins.clock (reading_of life.clock) life.came input)) (omega arith);
  }

  anew_rises : (is : Bool) (begins : Beginning) (life : Life Contacts Coming) → Rises life → Rises (anew_where is begins life)
  anew_rises true begins life rises = born_rises begins life.contacts
  anew_rises false begins life rises = rises

  turned_rises : (site : Site) (who : Who Contacts Coming) (happening : Event) (life : Life Contacts Coming) → Rises life → Rises (turned site who happening life)
  turned_rises site who (event.Time elapsed clocks) life rises =
      let more = later life.clock (slice_index_or clocks who.number 0)
      in let last = rises.last
      in record { rise = rises.rise; last = omega (arith, more, last) }
  turned_rises site who (event.Restart node clock first) life rises = anew_rises (who.is (node_at site node.0)) (record { clock = clock; first = first }) life rises
  turned_rises site who (event.Request command) life rises = rises
  turned_rises site who (event.Occupy section occupancy) life rises = rises
  turned_rises site who (event.Tick node) life rises = rises
  turned_rises site who (event.Deliver node bytes) life rises = rises
  turned_rises site who (event.Lose bytes) life rises = rises
  turned_rises site who (event.Reach point position) life rises = rises

  rises_in : (site : Site) (table : Table) (who : Who Contacts Coming) (events : List Event) (life : Life Contacts Coming) → Rises life → Rises (life_in site table who events life)
  rises_in site table who [] life rises = rises
  rises_in site table who (first ∷ others) life rises =
      rises_in site table who others (life_after site table who first life) (hears_rises who.contact (who.hearing (told site table first)) (turned site who first life) (turned_rises site who first life rises))

  pub life_rises : (site : Site) (table : Table) (who : Who Contacts Coming) (events : List Event) (contacts : Contacts) → Rises (life_in site table who events (first_life contacts))
  life_rises site table who events contacts = rises_in site table who events (first_life contacts) (born_rises _ contacts)
