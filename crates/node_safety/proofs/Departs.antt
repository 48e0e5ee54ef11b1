-- What was handed out as something came to a node left it by the events of its history.
use Rattle.std.proofs.Common.{◌≡◌, ◌∙◌, ◌⊎◌, inl, inr, ◌<◌, ◌+◌, ℕ, Bool, true, false, List, [], ◌∷◌, ◌++◌, length, map, Option, Some, None, slice_get, refl, sym, ap, subst, append_assoc, append-nil, arith}
use Rattle.std.specs.Prelude.{◌==◌, if◌then◌else◌}
use Rattle.std.proofs.lemmas.Bool.Decides.{nat_tests}
use Rattle.node_kinds.specs.simulator_spec.First.{Beginning, Outset}
use Rattle.node_kinds.specs.simulator_spec.Nodes.{node_at}
use Rattle.node_kinds.specs.simulator_spec.ixl_spec.Table.{Table}
use Rattle.node_kinds.specs.simulator_spec.layout.Entries.{Site}
use Rattle.node_kinds.specs.simulator_spec.object_host.Behaviour.{Behaviour}
use Rattle.node_kinds.specs.simulator_spec.object_host.Host.{HostState}
use Rattle.node_kinds.specs.simulator_spec.object_host.Step.{host_step}
use Rattle.node_kinds.specs.simulator_spec.object_host.declared.input.Input.{Input}
use Rattle.node_kinds.specs.simulator_spec.rasta_core.Ends.{reading_of}
use Rattle.node_kinds.specs.simulator_spec.rasta_core.Outbox.{spellings}
use Rattle.node_kinds.specs.simulator_spec.simulator_event.declared.event.Event.{Event}
use Rattle.node_kinds.specs.simulator_spec.simulator_event.declared.event.Event.TheVariants as event
use Rattle.embedded_host.specs.Leaving.{IsHandedOutBy, IsIn}
use Rattle.simulator_node_laws.specs.Lives.{Life, Who, anew_where, detector_hears, hears, host_after, life_after, life_in, point_hears, signal_hears, turned}
use Rattle.simulator_node_laws.specs.Said.{Departure, departures_in, leaves, reading_at, said_to, says, time_in}
use Rattle.simulator_node_laws.specs.Told.{Told, Nobody, ToSignal, ToPoint, ToDetector, told}
use Rattle.node_safety.specs.Journeys.{HasLeft}
use Rattle.node_safety.proofs.ByCalls.{hosts_alike}

-- ---- lists

nil_cons : {A : Type 0} (front : List A) (one : A) (rest : List A) → [] ≡ front ++ one ∷ rest → ⊥
nil_cons [] one rest e = cc (e)
nil_cons (first ∷ front) one rest e = cc (e)

tails : {A : Type 0} (one other : A) (rest more : List A) → one ∷ rest ≡ other ∷ more → rest ≡ more
tails one other rest more e = cc

heads : {A : Type 0} (one other : A) (rest more : List A) → one ∷ rest ≡ other ∷ more → one ≡ other
heads one other rest more e = cc

-- one of a list and of one more: it is that one, or one of the list
record IsLast {A : Type 0} (all : List A) (last : A) (front : List A) (one : A) : Type 0 where
  all_are : all ≡ front
  is_last : last ≡ one

record IsBefore {A : Type 0} (all : List A) (front : List A) (one : A) : Type 0 where
  rest : List A
  all_are : all ≡ front ++ one ∷ rest

one_of : {A : Type 0} (all : List A) (last : A) (front : List A) (one : A) (rest : List A) → all ++ last ∷ [] ≡ front ++ one ∷ rest → IsLast all last front one ⊎ IsBefore all front one
one_of [] last [] one rest e = inl (record { all_are = refl; is_last = heads last one [] rest e })
one_of [] last (first ∷ front) one rest e = absurd (nil_cons front one rest (tails last first [] (front ++ one ∷ rest) e))
one_of (a ∷ all) last [] one rest e = inr (record { rest = all; all_are = ap (λ x. x ∷ all) (heads a one (all ++ last ∷ []) rest e) })
one_of (a ∷ all) last (first ∷ front) one rest e = longer (one_of all last front one rest (tails a first (all ++ last ∷ []) (front ++ one ∷ rest) e)) where
  same : a ≡ first
  same = heads a first (all ++ last ∷ []) (front ++ one ∷ rest) e

  longer : IsLast all last front one ⊎ IsBefore all front one → IsLast (a ∷ all) last (first ∷ front) one ⊎ IsBefore (a ∷ all) (first ∷ front) one
  longer (inl is) = inl (record { all_are = ap (λ x. x ∷ all) same ∙ ap (λ l. first ∷ l) is.all_are; is_last = is.is_last })
  longer (inr is) = inr (record { rest = is.rest; all_are = ap (λ x. x ∷ all) same ∙ ap (λ l. first ∷ l) is.all_are })

at_length : {A : Type 0} (front : List A) (one : A) (rest : List A) → slice_get (front ++ one ∷ rest) (length front) ≡ Some one
at_length [] one rest = refl
at_length (first ∷ front) one rest = at_length front one rest

-- ---- what came to a node was told to it

module _ {Contacts Coming : Type 0} (site : Site) (table : Table) (who : Who Contacts Coming) (deaf : who.hearing Nobody ≡ None) (first : Life Contacts Coming) (none_came : first.came ≡ []) where
  abbrev lived : List Event → Life Contacts Coming
  lived events = life_in site table who events first

  then_lived : (some more : List Event) (life : Life Contacts Coming) → life_in site table who (some ++ more) life ≡ life_in site table who more (life_in site table who some life)
  then_lived [] more life = refl
  then_lived (one ∷ some) more life = then_lived some more (life_after site table who one life)

  -- an event told it this, after that had come to it
  pub record IsTold (events : List Event) (earlier : List (ℕ × Coming)) (since : ℕ) (input : Coming) (life : Life Contacts Coming) : Type 0 where
    pub before : List Event
    pub happening : Event
    pub behind : List Event
    pub events_are : events ≡ before ++ happening ∷ behind
    pub heard : who.hearing (told site table happening) ≡ Some input
    pub came_is : (lived before).came ≡ earlier
    pub reading_is : reading_of (lived before).clock ≡ since
    pub begins_is : (lived before).begins ≡ life.begins
    pub sensed_is : (lived before).sensed ≡ life.sensed

  abbrev AllTold : List Event → Life Contacts Coming → Type 0
  AllTold events life = (earlier : List (ℕ × Coming)) (since : ℕ) (input : Coming) (later : List (ℕ × Coming)) → life.came ≡ earlier ++ (since, input) ∷ later → IsTold events earlier since input life

  one_behind : (events : List Event) (next : Event) (earlier : List (ℕ × Coming)) (since : ℕ) (input : Coming) (life new : Life Contacts Coming) → life.begins ≡ new.begins → life.sensed ≡ new.sensed
      → IsTold events earlier since input life → IsTold (events ++ next ∷ []) earlier since input new
  one_behind events next earlier since input life new begins sensed is = record {
    before = is.before;
    happening = is.happening;
    behind = is.behind ++ next ∷ [];
    events_are = ap (λ (l : List Event). l ++ next ∷ []) is.events_are ∙ append_assoc is.before (is.happening ∷ is.behind) (next ∷ []);
    heard = is.heard;
    came_is = is.came_is;
    reading_is = is.reading_is;
    begins_is = is.begins_is ∙ begins;
    sensed_is = is.sensed_is ∙ sensed;
  }

  -- nothing came by an event
  silent : (events : List Event) (next : Event) (life new : Life Contacts Coming) → life.begins ≡ new.begins → life.sensed ≡ new.sensed → new.came ≡ life.came → AllTold events life → AllTold (events ++ next ∷ []) new
  silent events next life new begins sensed same all = λ earlier since input later came.
      one_behind events next earlier since input life new begins sensed (all earlier since input later (sym same ∙ came))

  -- or this came
  hearing : (events : List Event) (next : Event) (heard : Option Coming) → who.hearing (told site table next) ≡ heard → AllTold events (lived events) → AllTold (events ++ next ∷ []) (hears who.contact heard (lived events))
  hearing events next None is all = silent events next (lived events) (lived events) refl refl refl all
  hearing events next (Some input) is all = λ earlier since one later came. by_place earlier since one (one_of (lived events).came (reading_of (lived events).clock, input) earlier (since, one) later came) where
    by_place : (earlier : List (ℕ × Coming)) (since : ℕ) (one : Coming) → IsLast (lived events).came (reading_of (lived events).clock, input) earlier (since, one) ⊎ IsBefore (lived events).came earlier (since, one)
        → IsTold (events ++ next ∷ []) earlier since one (hears who.contact (Some input) (lived events))
    by_place earlier since one (inl last) = record {
      before = events;
      happening = next;
      behind = [];
      events_are = refl;
      heard = is ∙ ap (λ (both : ℕ × Coming). Some both.1) last.is_last;
      came_is = last.all_are;
      reading_is = ap (λ (both : ℕ × Coming). both.0) last.is_last;
      begins_is = refl;
      sensed_is = refl;
    }
    by_place earlier since one (inr before) =
        one_behind events next earlier since one (lived events) (hears who.contact (Some input) (lived events)) refl refl (all earlier since one before.rest before.all_are)

  anew : (events : List Event) (next : Event) (begins : Beginning) (is : Bool) → AllTold events (lived events) → AllTold (events ++ next ∷ []) (anew_where is begins (lived events))
  anew events next begins true all = λ earlier since input later came. absurd (nil_cons earlier (since, input) later came)
  anew events next begins false all = silent events next (lived events) (lived events) refl refl refl all

  -- where nobody was told
  untold : (events : List Event) (life : Life Contacts Coming) → AllTold events life → AllTold events (hears who.contact (who.hearing Nobody) life)
  untold events life all = subst (λ (heard : Option Coming). AllTold events (hears who.contact heard life)) (sym deaf) all

  one_more : (events : List Event) (next : Event) → AllTold events (lived events) → AllTold (events ++ next ∷ []) (life_after site table who next (lived events))
  one_more events (event.Request command) all = hearing events (event.Request command) (who.hearing (told site table (event.Request command))) refl all
  one_more events (event.Occupy section occupancy) all = hearing events (event.Occupy section occupancy) (who.hearing (told site table (event.Occupy section occupancy))) refl all
  one_more events (event.Tick node) all = hearing events (event.Tick node) (who.hearing (told site table (event.Tick node))) refl all
  one_more events (event.Time elapsed clocks) all =
      let new : Life Contacts Coming = turned site who (event.Time elapsed clocks) (lived events) in
      untold (events ++ event.Time elapsed clocks ∷ []) new (silent events (event.Time elapsed clocks) (lived events) new refl refl refl all)
  one_more events (event.Deliver node bytes) all = hearing events (event.Deliver node bytes) (who.hearing (told site table (event.Deliver node bytes))) refl all
  one_more events (event.Lose bytes) all = hearing events (event.Lose bytes) (who.hearing (told site table (event.Lose bytes))) refl all
  one_more events (event.Reach point position) all = hearing events (event.Reach point position) (who.hearing (told site table (event.Reach point position))) refl all
  one_more events (event.Restart node clock number) all =
      untold (events ++ event.Restart node clock number ∷ []) (anew_where (who.is (node_at site node.0)) (record { clock = clock; first = number }) (lived events))
      (anew events (event.Restart node clock number) (record { clock = clock; first = number }) (who.is (node_at site node.0)) all)

  all_from : (before rest : List Event) → AllTold before (lived before) → AllTold (before ++ rest) (lived (before ++ rest))
  all_from before [] all = subst (λ (l : List Event). AllTold l (lived l)) (sym (append-nil before)) all
  all_from before (next ∷ rest) all =
      subst (λ (l : List Event). AllTold l (lived l)) (append_assoc before (next ∷ []) rest)
      (all_from (before ++ next ∷ []) rest (subst (λ (life : Life Contacts Coming). AllTold (before ++ next ∷ []) life) (sym (then_lived before (next ∷ []) first)) (one_more before next all)))

  pub was_told : (events : List Event) (earlier : List (ℕ × Coming)) (since : ℕ) (input : Coming) (later : List (ℕ × Coming)) → (lived events).came ≡ earlier ++ (since, input) ∷ later → IsTold events earlier since input (lived events)
  was_told events = all_from [] events (λ earlier since input later came. absurd (nil_cons earlier (since, input) later (sym none_came ∙ came)))

-- ---- and what it handed out then has left

module _ (site : Site) (table : Table) (outset : Outset) where
  departures_then : (before some more : List Event) → departures_in site table outset before (some ++ more) ≡ departures_in site table outset before some ++ departures_in site table outset (before ++ some) more
  departures_then before [] more = ap (λ (l : List Event). departures_in site table outset l more) (sym (append-nil before))
  departures_then before (one ∷ some) more =
      let first : List Departure = leaves site table outset before (told site table one) in
      ap (λ (l : List Departure). first ++ l) (departures_then (before ++ one ∷ []) some more)
      ∙ ap (λ (l : List Event). first ++ (departures_in site table outset (before ++ one ∷ []) some ++ departures_in site table outset l more)) (append_assoc before (one ∷ []) some)
      ∙ sym (append_assoc first (departures_in site table outset (before ++ one ∷ []) some) (departures_in site table outset (before ++ one ∷ some) more))

  abbrev leaving : List Event → Told → List ℕ → Departure
  leaving before what bytes = record { bytes = bytes; time = time_in before 0; reading = reading_at site table outset before what }

  map_one : (before : List Event) (what : Told) (front : List (List ℕ)) (bytes : List ℕ) (rest : List (List ℕ)) → map (leaving before what) (front ++ bytes ∷ rest) ≡ map (leaving before what) front ++ leaving before what bytes ∷ map (leaving before what) rest
  map_one before what [] bytes rest = refl
  map_one before what (first ∷ front) bytes rest = ap (λ (l : List Departure). leaving before what first ∷ l) (map_one before what front bytes rest)

  pub has_left : (events before : List Event) (happening : Event) (behind : List Event) (what : Told) (now : ℕ) (bytes : List ℕ) → events ≡ before ++ happening ∷ behind → told site table happening ≡ what
      → IsIn bytes (said_to site table outset before what) → now < reading_at site table outset before what + 500 → HasLeft site table outset events now bytes
  has_left events before happening behind what now bytes events_are is handed soon = record {
    place = length (departures_in site table outset [] before ++ map (leaving before what) handed.before);
    departure = leaving before what bytes;
    left = ap (λ (l : List Departure). slice_get l (length (departures_in site table outset [] before ++ map (leaving before what) handed.before))) all_are
        ∙ at_length (departures_in site table outset [] before ++ map (leaving before what) handed.before) (leaving before what bytes) (map (leaving before what) handed.after ++ departures_in site table outset (before ++ happening ∷ []) behind);
    same = refl;
    soon = soon;
  } where
    more : List Departure
    more = departures_in site table outset (before ++ happening ∷ []) behind

    step_is : leaves site table outset before (told site table happening) ≡ map (leaving before what) handed.before ++ leaving before what bytes ∷ map (leaving before what) handed.after
    step_is = ap (leaves site table outset before) is ∙ ap (λ (l : List (List ℕ)). map (leaving before what) l) handed.all_are ∙ map_one before what handed.before bytes handed.after

    all_are : departures_in site table outset [] events
        ≡ (departures_in site table outset [] before ++ map (leaving before what) handed.before) ++ leaving before what bytes ∷ (map (leaving before what) handed.after ++ more)
    all_are =
        ap (λ (l : List Event). departures_in site table outset [] l) events_are
        ∙ departures_then [] before (happening ∷ behind)
        ∙ ap (λ (l : List Departure). departures_in site table outset [] before ++ (l ++ more)) step_is
        ∙ ap (λ (l : List Departure). departures_in site table outset [] before ++ l) (append_assoc (map (leaving before what) handed.before) (leaving before what bytes ∷ map (leaving before what) handed.after) more)
        ∙ sym (append_assoc (departures_in site table outset [] before) (map (leaving before what) handed.before) (leaving before what bytes ∷ (map (leaving before what) handed.after ++ more)))

  -- a controller, by its life
  module _ {Object Contacts Entry : Type 0} (does : Behaviour Object) (new : Entry → Beginning → Contacts → HostState Object) (entry : Entry) (who : Who Contacts Input) (deaf : who.hearing Nobody ≡ None)
      (first : Life Contacts Input) (none_came : first.came ≡ []) (to : Input → Told) (hears_it : (what : Told) (input : Input) → who.hearing what ≡ Some input → what ≡ to input)
      (says_so : (events : List Event) (input : Input) → said_to site table outset events (to input) ≡ says does new input (life_in site table who events first) (Some entry))
      (reads_so : (events : List Event) (input : Input) → reading_at site table outset events (to input) ≡ reading_of (life_in site table who events first).clock) where
    pub departs : (events : List Event) (now : ℕ) (bytes : List ℕ)
        → IsHandedOutBy does (life_in site table who events first).came (new entry (life_in site table who events first).begins (life_in site table who events first).sensed) now bytes → HasLeft site table outset events now bytes
    departs events now bytes is =
        let at = was_told site table who deaf first none_came events is.earlier is.since is.input is.later is.inputs_are in
        let life : Life Contacts Input = life_in site table who at.before first in
        let host : HostState Object = new entry (life_in site table who events first).begins (life_in site table who events first).sensed in
        let host_is : host_after does life.came (new entry life.begins life.sensed) ≡ host_after does is.earlier host =
        ap (λ (l : List (ℕ × Input)). host_after does l (new entry life.begins life.sensed)) at.came_is
        ∙ (λ i. host_after does is.earlier (new entry (at.begins_is i) (at.sensed_is i))) in
        let handed : IsIn bytes (spellings (host_after does is.earlier host).link.identity.key (host_step does is.since is.input (host_after does is.earlier host)).pdus) =
        subst (λ (h : HostState Object). IsIn bytes (spellings h.link.identity.key (host_step does is.since is.input h).pdus)) (hosts_alike does is.earlier host) is.handed in
        let said : IsIn bytes (says does new is.input life (Some entry)) =
        subst (λ (h : HostState Object). IsIn bytes (spellings h.link.identity.key (host_step does (reading_of life.clock) is.input h).pdus)) (sym host_is)
        (subst (λ (n : ℕ). IsIn bytes (spellings (host_after does is.earlier host).link.identity.key (host_step does n is.input (host_after does is.earlier host)).pdus)) (sym at.reading_is) handed) in
        has_left events at.before at.happening at.behind (to is.input) now bytes at.events_are (hears_it (told site table at.happening) is.input at.heard)
        (subst (λ (l : List (List ℕ)). IsIn bytes l) (sym (says_so at.before is.input)) said)
        (subst (λ (n : ℕ). now < n + 500) (sym (reads_so at.before is.input ∙ at.reading_is)) is.fresh)

-- ---- each kind of controller hears what it is told

same_number : (one other : ℕ) → (one == other) ≡ true → one ≡ other
same_number one other is = grind (arith, nat_tests)

some_is : (one other : Input) → Some one ≡ Some other → one ≡ other
some_is one other e = cc

told_alike : (to : ℕ → Input → Told) (at place : ℕ) (one input : Input) (test : Bool) → (at == place) ≡ test → (let heard : Option Input = if test then Some one else None in heard) ≡ Some input → to at one ≡ to place input
told_alike to at place one input true is e = ap (λ (n : ℕ). to n one) (same_number at place is) ∙ ap (to place) (some_is one input e)
told_alike to at place one input false is e = cc

pub heard_signal : (place : ℕ) (what : Told) (input : Input) → signal_hears place what ≡ Some input → what ≡ ToSignal place input
heard_signal place (ToSignal at one) input e = told_alike ToSignal at place one input (at == place) refl e
heard_signal place what input e = cc

pub heard_point : (place : ℕ) (what : Told) (input : Input) → point_hears place what ≡ Some input → what ≡ ToPoint place input
heard_point place (ToPoint at one) input e = told_alike ToPoint at place one input (at == place) refl e
heard_point place what input e = cc

pub heard_detector : (place : ℕ) (what : Told) (input : Input) → detector_hears place what ≡ Some input → what ≡ ToDetector place input
heard_detector place (ToDetector at one) input e = told_alike ToDetector at place one input (at == place) refl e
heard_detector place what input e = cc
