-- What nodes show by their lives is what is seen of the world.
use Rattle.std.proofs.Common.{◌≡◌, ℕ, zero, suc, ◌<◌, List, [], ◌∷◌, length, map, Some, None, slice_get, refl, sym, ap, subst, ◌∙◌, arith}
use Rattle.std.proofs.lemmas.Option.{same_Some}
use Rattle.simulator_spec.specs.sci_telegram.declared.message.Position.{Position}
use Rattle.simulator_spec.specs.layout.Entries.{Site}
use Rattle.simulator_spec.specs.rasta_core.Ends.{reading_of}
use Rattle.simulator_spec.specs.object_host.Behaviour.{Behaviour}
use Rattle.simulator_spec.specs.object_host.Host.{HostState}
use Rattle.simulator_spec.specs.object_host.declared.input.Input.{Input}
use Rattle.simulator_spec.specs.signal_ctl.Lamp.{aspect_shown}
use Rattle.simulator_spec.specs.signal_ctl.Signal.{SignalState, signal_behaviour}
use Rattle.simulator_spec.specs.point_ctl.Controlled.{point_behaviour}
use Rattle.simulator_spec.specs.point_ctl.Drive.{PointState, drives}
use Rattle.simulator_spec.specs.ixl_spec.Table.{Table}
use Rattle.simulator_spec.specs.simulator_event.declared.event.Event.{Event}
use Rattle.simulator_spec.specs.First.{Beginning, IsOutsetOf, Outset, new_point, new_signal, world_at}
use Rattle.simulator_spec.specs.Seen.{IsSnapshotOf}
use Rattle.simulator_spec.specs.State.{ClockedControllerState, WorldState}
use Rattle.simulator_spec.specs.simulator_event.declared.snapshot.Snapshot.{Snapshot}
use Rattle.simulator_spec.specs.Run.{after_all}
use Rattle.simulator_spec.specs.Interlocking.{held_of}
use Rattle.simulator_node_laws.specs.Lives.{Life, LivesAt, first_life}
use Rattle.simulator_node_laws.specs.Shown.{AreAll, IsOfNodes, frozen_in, host_now, interlocking_life, interlocking_now, point_life, signal_life, signal_shows}
use Rattle.simulator_node_laws.proofs.Counts.{IsCounted, counts_all, first_counts}
use Rattle.simulator_node_laws.proofs.Held.{first_frozen, freezes_in, held_by_life}
use Rattle.simulator_node_laws.proofs.Runs.{points_are, signals_are, station_first, station_is}

some_within : {A : Type 0} (list : List A) (place : ℕ) → place < length list → (one : A) × (slice_get list place ≡ Some one)
some_within [] place within = absurd (omega arith)
some_within (first ∷ others) zero within = (first, refl)
some_within (first ∷ others) (suc place) within = some_within others place (omega arith)

within_some : {A : Type 0} (list : List A) (place : ℕ) (one : A) → slice_get list place ≡ Some one → place < length list
within_some [] place one is = absurd (none_is is) where
  none_is : None ≡ Some one → ⊥
  none_is e = cc (e)
within_some (first ∷ others) zero one is = omega arith
within_some (first ∷ others) (suc place) one is = let h = within_some others place one is in omega arith

-- lists of one length with the same at each place
same_lists : {A : Type 0} (xs ys : List A) → length xs ≡ length ys → ((place : ℕ) (x y : A) → slice_get xs place ≡ Some x → slice_get ys place ≡ Some y → x ≡ y) → xs ≡ ys
same_lists [] [] long same = refl
same_lists [] (y ∷ ys) long same = absurd (omega arith)
same_lists (x ∷ xs) [] long same = absurd (omega arith)
same_lists (x ∷ xs) (y ∷ ys) long same = ap (λ o. o ∷ xs) (same 0 x y refl refl) ∙ ap (λ l. y ∷ l) (same_lists xs ys (omega arith) (λ place a b at bt. same (suc place) a b at bt))

unmapped : {A B : Type 0} (f : A → B) (list : List A) (place : ℕ) (one : A) (other : B) → slice_get list place ≡ Some one → slice_get (map f list) place ≡ Some other → other ≡ f one
unmapped f [] place one other is mapped = absurd (none_is is) where
  none_is : None ≡ Some one → ⊥
  none_is e = cc (e)
unmapped f (first ∷ others) zero one other is mapped = sym (same_Some (f first) other mapped) ∙ ap f (same_Some first one is)
unmapped f (first ∷ others) (suc place) one other is mapped = unmapped f others place one other is mapped

length_mapped : {A B : Type 0} (f : A → B) (list : List A) → length (map f list) ≡ length list
length_mapped f [] = refl
length_mapped f (first ∷ others) = ap suc (length_mapped f others)

-- what is told of each entry is told of each of the list
all_same : {Entry A Seen : Type 0} (f : A → Seen) (says : ℕ → Entry → Seen) (entries : List Entry) (list : List A) (seen : List Seen) → length list ≡ length entries → AreAll entries seen says
    → ((place : ℕ) (entry : Entry) → slice_get entries place ≡ Some entry → (one : A) × (slice_get list place ≡ Some one) × (f one ≡ says place entry)) → seen ≡ map f list
all_same {Entry} {A} {Seen} f says entries list seen long (count, each) is = same_lists seen (map f list) (count ∙ sym long ∙ sym (length_mapped f list)) at where
  from : (place : ℕ) (x y : Seen) (entry : Entry) → slice_get entries place ≡ Some entry → slice_get seen place ≡ Some x → slice_get (map f list) place ≡ Some y
      → (one : A) × (slice_get list place ≡ Some one) × (f one ≡ says place entry) → x ≡ y
  from place x y entry there one_x one_y (one, got, told) =
      same_Some x (says place entry) (sym one_x ∙ each place entry there) ∙ sym told ∙ sym (unmapped f list place one y got one_y)

  at : (place : ℕ) (x y : Seen) → slice_get seen place ≡ Some x → slice_get (map f list) place ≡ Some y → x ≡ y
  at place x y one_x one_y =
      let found = some_within entries place (subst (λ n. place < n) count (within_some seen place x one_x))
      in from place x y found.0 found.1 one_x one_y (is place found.0 found.1)

-- of a controller that lives so
by_life : {Object Contacts Seen : Type 0} (does : Behaviour Object) (new : Beginning → Contacts → HostState Object) (g : HostState Object → ℕ → Seen) (servers : List (ClockedControllerState Object)) (place : ℕ) (life : Life Contacts Input)
    → LivesAt does new servers place life → (one : ClockedControllerState Object) × (slice_get servers place ≡ Some one) × (g one.host one.clock ≡ g (host_now does new life) life.clock)
by_life does new g servers place life lives = (lives.server, lives.there, ap (λ h. g h lives.server.clock) lives.state ∙ ap (λ n. g (host_now does new life) n) lives.clock)

module _ (site : Site) (table : Table) (outset : Outset) (lies : IsOutsetOf site outset) (events : List Event) where
  abbrev world : WorldState
  world = after_all site table events (world_at site table outset)

  counted : IsCounted site world
  counted = counts_all site table events (world_at site table outset) (first_counts site table outset lies)

  pub is_seen : (seen : Snapshot) → IsOfNodes site table outset events seen → IsSnapshotOf table world seen
  is_seen seen of_nodes = record {
    shows = all_same (λ (server : ClockedControllerState SignalState). record { 0 = aspect_shown server.host.object.lamp (reading_of server.clock) }) _ site.signals world.signals seen.shows.items counted.signals of_nodes.shows
        (λ place entry is. by_life signal_behaviour (λ begins sensed. new_signal site begins entry) (λ host clock. record { 0 = aspect_shown host.object.lamp (reading_of clock) }) world.signals place (signal_life site table events place)
        (signals_are site table outset lies events place entry is));
    held = of_nodes.held ∙ sym (held_by_life site table world (interlocking_life site table events) _ (station_is site table outset lies events)
        (freezes_in site table events (world_at site table outset) (first_life tt) [] (station_first site table outset lies) (first_frozen site table outset)));
    position = all_same (λ (position : Position). record { 0 = position }) _ site.points world.positions seen.position.items counted.positions of_nodes.position
        (λ place entry is. ((point_life site table outset events place).contacts, (points_are site table outset lies events place entry is).stands, refl));
    driven = all_same (λ (server : ClockedControllerState PointState). drives (reading_of server.clock) server.host.object) _ site.points world.points seen.driven.items counted.points of_nodes.driven
        (λ place entry is. by_life point_behaviour (λ begins position. new_point site begins position entry) (λ host clock. drives (reading_of clock) host.object) world.points place (point_life site table outset events place)
        (points_are site table outset lies events place entry is).lives);
  }

-- ---- there is a snapshot

-- what is told of each entry by its place
abbrev numbered : {Entry Seen : Type 0} → (ℕ → Entry → Seen) → List Entry → List Seen
numbered says [] = []
numbered says (first ∷ others) = says 0 first ∷ numbered (λ place. says (suc place)) others

as_many : {Entry Seen : Type 0} (says : ℕ → Entry → Seen) (entries : List Entry) → length (numbered says entries) ≡ length entries
as_many says [] = refl
as_many says (first ∷ others) = ap suc (as_many (λ place. says (suc place)) others)

told_there : {Entry Seen : Type 0} (says : ℕ → Entry → Seen) (entries : List Entry) (place : ℕ) (entry : Entry) → slice_get entries place ≡ Some entry → slice_get (numbered says entries) place ≡ Some (says place entry)
told_there says [] place entry is = absurd (none_is is) where
  none_is : None ≡ Some entry → ⊥
  none_is e = cc (e)
told_there says (first ∷ others) zero entry is = ap (λ one. Some (says 0 one)) (same_Some first entry is)
told_there says (first ∷ others) (suc place) entry is = told_there (λ place. says (suc place)) others place entry is

all_told : {Entry Seen : Type 0} (says : ℕ → Entry → Seen) (entries : List Entry) → AreAll entries (numbered says entries) says
all_told says entries = (as_many says entries, told_there says entries)

pub some_seen : (site : Site) (table : Table) (outset : Outset) (events : List Event) → (seen : Snapshot) × IsOfNodes site table outset events seen
some_seen site table outset events = (
  record {
    shows = record { items = numbered (λ place entry. signal_shows site entry (signal_life site table events place)) site.signals };
    held = record { items = held_of table (interlocking_now site table (interlocking_life site table events)) (frozen_in site table events (first_life tt) []) };
    position = record { items = numbered (λ place entry. record { 0 = (point_life site table outset events place).contacts }) site.points };
    driven = record {
      items = numbered (λ place entry. drives (reading_of (point_life site table outset events place).clock)
          (host_now point_behaviour (λ begins position. new_point site begins position entry) (point_life site table outset events place)).object) site.points;
    };
  },
  record {
    shows = all_told _ site.signals;
    held = refl;
    position = all_told _ site.points;
    driven = all_told _ site.points;
  },
)
