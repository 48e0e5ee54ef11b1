-- One controller of a list lives on: it makes a step, its clock goes on, it is made anew, or another does.
use Rattle.std.proofs.Common.{◌≡◌, ◌≢◌, ℕ, zero, suc, ◌+◌, Bool, true, false, List, [], ◌∷◌, ◌++◌, length, Option, Some, None, slice_get, slice_set, refl, sym, ap, subst, ◌∙◌, arith, if◌then◌else◌}
use Rattle.std.specs.Prelude.{◌==◌, slice_index_or}
use Rattle.std.proofs.lemmas.Option.{same_Some}
use Rattle.simulator_spec.specs.rasta_core.Ends.{reading_of}
use Rattle.simulator_spec.specs.rasta_core.Links.{OnLink}
use Rattle.simulator_spec.specs.object_host.Behaviour.{Behaviour}
use Rattle.simulator_spec.specs.object_host.Host.{HostState}
use Rattle.simulator_spec.specs.object_host.Step.{host_step}
use Rattle.simulator_spec.specs.object_host.declared.input.Input.{Input}
use Rattle.simulator_spec.specs.ixl_spec.State.{changed}
use Rattle.simulator_spec.specs.First.{Beginning}
use Rattle.simulator_spec.specs.Happens.{all_later, stepped_at}
use Rattle.simulator_spec.specs.Controllers.{controller_after, controller_anew, controller_later, step_of}
use Rattle.simulator_spec.specs.State.{ClockedControllerState}
use Rattle.simulator_node_laws.specs.Lives.{Life, LivesAt, born, hears, host_after, only}
use Rattle.simulator_node_laws.proofs.Lists.{get_changed, get_changed_other, get_set, get_set_other, other_number, same_number}

pub one_more : {Object : Type 0} (does : Behaviour Object) (came : List (ℕ × Input)) (one : ℕ × Input) (host : HostState Object)
    → host_after does (came ++ one ∷ []) host ≡ (host_step does one.0 one.1 (host_after does came host)).host
unfolding host_after
one_more does [] one host = refl
one_more does (first ∷ others) one host = one_more does others one (host_step does first.0 first.1 host).host

module _ {Object Contacts : Type 0} (does : Behaviour Object) (new : Beginning → Contacts → HostState Object) where
  -- nothing of it has changed
  pub stays : (old next : List (ClockedControllerState Object)) (place : ℕ) (life : Life Contacts Input) → slice_get next place ≡ slice_get old place → LivesAt does new old place life → LivesAt does new next place life
  stays old next place life same lives = record { server = lives.server; there = same ∙ lives.there; state = lives.state; clock = lives.clock }

  -- ---- a step

  after_one : (input : Input) (connection time link place : ℕ) (servers : List (ClockedControllerState Object)) (sent : List OnLink) (server : ClockedControllerState Object) → slice_get servers place ≡ Some server
      → (stepped_at does input connection time link place (slice_get servers place) (record { servers = servers; sent = sent })).servers
      ≡ slice_set servers place (controller_after (step_of does input server) connection (length sent) server)
  unfolding stepped_at
  after_one input connection time link place servers sent server is = rw is refl

  after_none : (input : Input) (connection time link place : ℕ) (servers : List (ClockedControllerState Object)) (sent : List OnLink) → slice_get servers place ≡ None
      → (stepped_at does input connection time link place (slice_get servers place) (record { servers = servers; sent = sent })).servers ≡ servers
  unfolding stepped_at
  after_none input connection time link place servers sent is = rw is refl

  host_is : (input : Input) (connection moment : ℕ) (server : ClockedControllerState Object) → (controller_after (step_of does input server) connection moment server).host ≡ (host_step does (reading_of server.clock) input server.host).host
  unfolding controller_after
  host_is input connection moment server = refl

  clock_is : (input : Input) (connection moment : ℕ) (server : ClockedControllerState Object) → (controller_after (step_of does input server) connection moment server).clock ≡ server.clock
  unfolding controller_after
  clock_is input connection moment server = refl

  pub steps : (contact : Input → Contacts → Contacts) (input : Input) (connection time link place : ℕ) (servers : List (ClockedControllerState Object)) (sent : List OnLink) (life : Life Contacts Input) → LivesAt does new servers place life
      → LivesAt does new (stepped_at does input connection time link place (slice_get servers place) (record { servers = servers; sent = sent })).servers place (hears contact (Some input) life)
  steps contact input connection time link place servers sent life lives =
      let next = controller_after (step_of does input lives.server) connection (length sent) lives.server
      in record {
        server = next;
        there = ap (λ l. slice_get l place) (after_one input connection time link place servers sent lives.server lives.there) ∙ get_set servers place lives.server next lives.there;
        state = host_is input connection (length sent) lives.server
            ∙ ap (λ h. (host_step does (reading_of lives.server.clock) input h).host) lives.state
            ∙ ap (λ n. (host_step does (reading_of n) input (host_after does life.came (new life.begins life.sensed))).host) lives.clock
            ∙ sym (one_more does life.came (reading_of life.clock, input) (new life.begins life.sensed));
        clock = clock_is input connection (length sent) lives.server ∙ lives.clock;
      }

  other_steps : (input : Input) (connection time link at place : ℕ) (servers : List (ClockedControllerState Object)) (sent : List OnLink) → place ≢ at
      → slice_get (stepped_at does input connection time link at (slice_get servers at) (record { servers = servers; sent = sent })).servers place ≡ slice_get servers place
  other_steps input connection time link at place servers sent differ = cases (slice_get servers at) refl where
    cases : (found : Option (ClockedControllerState Object)) → slice_get servers at ≡ found
        → slice_get (stepped_at does input connection time link at (slice_get servers at) (record { servers = servers; sent = sent })).servers place ≡ slice_get servers place
    cases None is = ap (λ l. slice_get l place) (after_none input connection time link at servers sent is)
    cases (Some server) is = ap (λ l. slice_get l place) (after_one input connection time link at servers sent server is) ∙ get_set_other servers at place _ differ

  -- one of the list makes a step, be it this one or another
  pub one_steps : (contact : Input → Contacts → Contacts) (input : Input) (connection time link at place : ℕ) (servers : List (ClockedControllerState Object)) (sent : List OnLink) (life : Life Contacts Input) → LivesAt does new servers place life
      → LivesAt does new (stepped_at does input connection time link at (slice_get servers at) (record { servers = servers; sent = sent })).servers place (hears contact (only place at input) life)
  one_steps contact input connection time link at place servers sent life lives = cases (at == place) refl where
    cases : (test : Bool) → (at == place) ≡ test
        → LivesAt does new (stepped_at does input connection time link at (slice_get servers at) (record { servers = servers; sent = sent })).servers place (hears contact (if test then Some input else None) life)
    cases true is = subst (λ n. LivesAt does new (stepped_at does input connection time link n (slice_get servers n) (record { servers = servers; sent = sent })).servers place (hears contact (Some input) life))
        (sym (same_number at place is)) (steps contact input connection time link place servers sent life lives)
    cases false is = stays servers _ place life (other_steps input connection time link at place servers sent (λ same. other_number at place is (sym same))) lives

  -- ---- time

  record IsLater (step : ℕ) (server : ClockedControllerState Object) (servers : List (ClockedControllerState Object)) (place : ℕ) : Type 0 where
    pub next : ClockedControllerState Object
    pub there : slice_get servers place ≡ Some next
    pub host_same : next.host ≡ server.host
    pub clock_later : next.clock ≡ server.clock + step

  later_at : (moment : ℕ) (ticks : List ℕ) (servers : List (ClockedControllerState Object)) (place : ℕ) (server : ClockedControllerState Object) → slice_get servers place ≡ Some server
      → IsLater (slice_index_or ticks place 0) server (all_later moment ticks servers) place
  unfolding controller_later
  later_at moment ticks [] place server is = absurd (none_is is) where
    none_is : None ≡ Some server → ⊥
    none_is e = cc (e)
  later_at moment [] (first ∷ others) zero server is = record { next = server; there = is; host_same = refl; clock_later = none_more server.clock } where
    none_more : (n : ℕ) → n ≡ n + 0
    none_more n = omega arith
  later_at moment [] (first ∷ others) (suc place) server is = record { next = server; there = is; host_same = refl; clock_later = none_more server.clock } where
    none_more : (n : ℕ) → n ≡ n + 0
    none_more n = omega arith
  later_at moment (tick ∷ ticks) (first ∷ others) zero server is = record {
    next = controller_later tick moment first;
    there = refl;
    host_same = ap (λ (s : ClockedControllerState Object). s.host) (same_Some first server is);
    clock_later = ap (λ (s : ClockedControllerState Object). s.clock + tick) (same_Some first server is);
  }
  later_at moment (tick ∷ ticks) (first ∷ others) (suc place) server is =
      let later = later_at moment ticks others place server is
      in record { next = later.next; there = later.there; host_same = later.host_same; clock_later = later.clock_later }

  pub goes_on : (moment : ℕ) (ticks : List ℕ) (step : ℕ) (servers : List (ClockedControllerState Object)) (place : ℕ) (life : Life Contacts Input) → slice_index_or ticks place 0 ≡ step → LivesAt does new servers place life
      → LivesAt does new (all_later moment ticks servers) place (record life { clock = life.clock + step })
  goes_on moment ticks step servers place life is lives =
      let later = later_at moment ticks servers place lives.server lives.there
      in record {
        server = later.next;
        there = later.there;
        state = later.host_same ∙ lives.state;
        clock = later.clock_later ∙ ap (λ n. lives.server.clock + n) is ∙ ap (λ n. n + step) lives.clock;
      }

  -- ---- made anew

  pub begins_anew : (begins : Beginning) (moment place : ℕ) (servers : List (ClockedControllerState Object)) (life : Life Contacts Input) → LivesAt does new servers place life
      → LivesAt does new (changed (controller_anew (new begins life.contacts) begins.clock moment) place servers) place (born begins life.contacts)
  unfolding controller_anew host_after
  begins_anew begins moment place servers life lives = record {
    server = controller_anew (new begins life.contacts) begins.clock moment lives.server;
    there = get_changed (controller_anew (new begins life.contacts) begins.clock moment) servers place lives.server lives.there;
    state = refl;
    clock = refl;
  }

  pub another_begins : (change : ClockedControllerState Object → ClockedControllerState Object) (at place : ℕ) (servers : List (ClockedControllerState Object)) (life : Life Contacts Input) → place ≢ at → LivesAt does new servers place life
      → LivesAt does new (changed change at servers) place life
  another_begins change at place servers life differ lives = stays servers _ place life (get_changed_other change servers at place differ) lives
