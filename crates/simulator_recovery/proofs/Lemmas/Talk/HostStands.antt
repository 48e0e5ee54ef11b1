-- In a world of a commanding client and a host, the stage of the host tells how many items it has acted on in its connection.
use Rattle.simulator_recovery.proofs.Words.Basics.{◌≡◌, ℕ, ◌+◌, Bool, true, false, not, List, ◌++◌, length, Option, Some, None, refl, sym, ap, subst, ◌∙◌, if◌then◌else◌, arith, ◌&&◌, nat_le, false≢true, length-append}
use Rattle.simulator_recovery.proofs.Words.Links.{created, deadline, settled, end_later, end_restarted, kept, outcome, reading_of, Start, Names, called, later, lost, restarted, LinkState, is_open, Phase}
use Rattle.simulator_recovery.proofs.Words.Controllers.{ClientRestarts, Commands, Elsewhere, Event, HostRestarts, Passes, Steps, World, entering, happened, host_of, host_restarted, step_of, stepped, Behaviour, HostState, fallen, is_outside, new_host, beginning, Input, Stage}
use Rattle.simulator_recovery.proofs.Words.Recovery.{HostHasActedOn, IsSettled, StandsAtItsStage, LawsOfHost}
use Rattle.object_host_laws.specs.World.{Loses, begun}
use Rattle.simulator_recovery.proofs.Lemmas.Talk.HostCounts.{step_counts}

-- a host whose link is open enters no connection
pub enters_none : {Object : Type 0} (input : Input) (connection : ℕ) (world : World Object) → is_open world.ends.server.link.phase ≡ true → entering input connection world.ends ≡ None
unfolding outcome
enters_none Input.Tick connection world inside = refl
enters_none (Input.Sense sense) connection world inside = refl
enters_none (Input.Datagram bytes) connection world inside = rw inside refl

module _ {Object : Type 0} (does : Behaviour Object) (laws : LawsOfHost does) where
  -- a link that is open isn't lost by the clock, and one that isn't leaves the host outside
  record Begins (world : World Object) (host : HostState Object) : Type 0 where
    inside : is_open world.ends.server.link.phase ≡ true → host.stage ≡ world.stage
    outside : is_open world.ends.server.link.phase ≡ false → host.stage ≡ Stage.Outside

  begins : (world : World Object) → IsSettled world → Begins world (beginning does (reading_of world.ends.server.clock) (host_of world))
  unfolding fallen beginning
  begins world is = subst (λ (l : LinkState). Begins world (record (fallen does (record (host_of world) { link = l })) { object = does.after_tick (reading_of world.ends.server.clock) (fallen does (record (host_of world) { link = l })).object })) (sym is)
      (choose world.stage refl (is_open world.ends.server.link.phase) refl)
    where
      lost : HostState Object
      lost = record (host_of world) { stage = Stage.Outside; object = does.after_loss world.object }

      told : HostState Object → HostState Object
      told host = record host { object = does.after_tick (reading_of world.ends.server.clock) host.object }

      outside_is : (s : Stage) → is_outside s ≡ true → s ≡ Stage.Outside
      outside_is Stage.Outside e = refl
      outside_is Stage.AwaitsCheck e = absurd (false≢true e)
      outside_is Stage.AwaitsRequest e = absurd (false≢true e)
      outside_is Stage.Completed e = absurd (false≢true e)
      outside_is Stage.Refused e = absurd (false≢true e)

      by_tests : (b c : Bool) → is_outside world.stage ≡ b → is_open world.ends.server.link.phase ≡ c → Begins world (told (if not b && not c then lost else host_of world))
      by_tests true c o e = record { inside = λ f. refl; outside = λ f. outside_is world.stage o }
      by_tests false true o e = record { inside = λ f. refl; outside = λ f. absurd (false≢true (sym f ∙ e)) }
      by_tests false false o e = record { inside = λ f. absurd (false≢true (sym e ∙ f)); outside = λ f. refl }

      choose : (s : Stage) → world.stage ≡ s → (c : Bool) → is_open world.ends.server.link.phase ≡ c → Begins world (told (if not (is_outside world.stage) && not (is_open world.ends.server.link.phase) then lost else host_of world))
      choose s at c e = by_tests (is_outside world.stage) (is_open world.ends.server.link.phase) refl refl

  step_stands : (input : Input) (connection : ℕ) (world : World Object) → IsSettled world → StandsAtItsStage world → StandsAtItsStage (stepped does input connection world)
  unfolding stepped
  step_stands input connection world is stands open_after = by_open (is_open world.ends.server.link.phase) refl (entering input connection world.ends) refl
    where
      now : ℕ
      now = reading_of world.ends.server.clock

      acted : List (List ℕ)
      acted = (step_of does input world).acted

      begun_so : Begins world (beginning does now (host_of world))
      begun_so = begins world is

      still_open : is_open (step_of does input world).host.link.phase ≡ true
      still_open = ap (λ (l : LinkState). is_open l.phase) (sym (laws.link input connection world is)) ∙ open_after

      counted : (count : ℕ) → HostHasActedOn (beginning does now (host_of world)).stage count → HostHasActedOn (step_of does input world).host.stage (count + length acted)
      counted count has = step_counts does now count input (host_of world) has still_open

      Behind : Option ℕ → Type 0
      Behind entered = HostHasActedOn (step_of does input world).host.stage (length (kept entered world.acted ++ acted))

      sum : HostHasActedOn (step_of does input world).host.stage (length world.acted + length acted) → HostHasActedOn (step_of does input world).host.stage (length (world.acted ++ acted))
      sum has = subst (HostHasActedOn (step_of does input world).host.stage) (sym (length-append world.acted acted)) has

      by_open : (c : Bool) → is_open world.ends.server.link.phase ≡ c → (entered : Option ℕ) → entering input connection world.ends ≡ entered → Behind (entering input connection world.ends)
      by_open true e entered f = subst Behind (sym (enters_none input connection world e)) (sum (counted (length world.acted) (subst (λ (s : Stage). HostHasActedOn s (length world.acted)) (sym (begun_so.inside e)) (stands e))))
      by_open false e None f = absurd (false≢true (sym (laws.outside input connection world f e) ∙ open_after))
      by_open false e (Some other) f = let none : 0 + length acted ≡ length acted = omega arith in
          subst Behind (sym f) (subst (HostHasActedOn (step_of does input world).host.stage) none (counted 0 (subst (λ (s : Stage). HostHasActedOn s 0) (sym (begun_so.outside e)) refl)))

  settled_open : (now : ℕ) (link : LinkState) → is_open (settled now link).phase ≡ true → is_open link.phase ≡ true
  unfolding settled
  settled_open now link e = choose (is_open link.phase && nat_le (deadline link) now) e
    where
      choose : (b : Bool) → is_open (if b then record link { phase = Phase.Closed; closed_at = deadline link; clock = now } else record link { clock = now }).phase ≡ true → is_open link.phase ≡ true
      choose true f = absurd (false≢true f)
      choose false f = f

  pub stands_on : (event : Event Object) (world : World Object) → IsSettled world → StandsAtItsStage world → StandsAtItsStage (happened does event world)
  unfolding happened called later end_later lost restarted end_restarted host_restarted new_host created
  stands_on (Commands call) world is stands = stands
  stands_on (Steps input connection) world is stands = step_stands input connection world is stands
  stands_on (Passes elapsed of_client of_server) world is stands = λ e. stands (settled_open (reading_of (world.ends.server.clock + of_server)) world.ends.server.link e)
  stands_on (Loses bytes) world is stands = stands
  stands_on (ClientRestarts clock first) world is stands = stands
  stands_on (HostRestarts clock first object) world is stands = λ e. absurd (false≢true e)
  stands_on (Elsewhere count) world is stands = stands

  pub stands_first : (names : Names) (start : Start) (own_name peer_name : List ℕ) (object : Object) (version : ℕ) → StandsAtItsStage (begun does names start own_name peer_name object version)
  unfolding new_host created
  stands_first names start own_name peer_name object version = λ e. absurd (false≢true e)
