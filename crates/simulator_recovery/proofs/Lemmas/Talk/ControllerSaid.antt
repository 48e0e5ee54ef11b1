-- What a controller of a station has given by its stage, after each of its steps.
use Rattle.simulator_recovery.proofs.Words.Basics.{◌≡◌, ℕ, ◌∙◌, true, List, [], refl, sym, ap, subst}
use Rattle.simulator_recovery.proofs.Words.Links.{settled, reading_of, Ends, LinkState, is_open}
use Rattle.simulator_recovery.proofs.Words.Controllers.{World, called_all, host_of, stepped, step_of as world_step, Behaviour, HostSoFar, HostState, fallen, then_do, IsNamedAs, beating, beginning, ending, given as given_in, host_step, most_owed, paying, item_of, Input}
use Rattle.simulator_recovery.proofs.Words.Stations.{controller_after, step_of, ClockedControllerState}
use Rattle.simulator_recovery.proofs.Words.Recovery.{IsSettled, HasCounted, HasSaidAt, HostHasSaid, HostStandsByCounts, StandsByWhatItSaid, TellsAsMany, LawsOfHost}
use Rattle.simulator_recovery.proofs.Lemmas.Talk.HostWorld.{step_said, with_link}
use Rattle.simulator_recovery.proofs.Lemmas.Ground.LinkCounts.{settled_open, settled_twice}

-- the laws of the hosts of a kind
module _ {Object : Type 0} (does : Behaviour Object) where
  begins_settled : (now : ℕ) (host : HostState Object) → beginning does now (record host { link = settled now host.link }) ≡ beginning does now host
  unfolding beginning
  begins_settled now host = ap (λ (l : LinkState). record (fallen does (record host { link = l })) { object = does.after_tick now (fallen does (record host { link = l })).object }) (settled_twice now host.link)

  step_settled : (now : ℕ) (input : Input) (host : HostState Object) → host_step does now input (record host { link = settled now host.link }) ≡ host_step does now input host
  unfolding host_step
  step_settled now input host = ap whole (begins_settled now host)
    where
      done : HostState Object → HostSoFar Object
      done h = then_do (then_do (given_in does now input h) (paying does now most_owed)) (beating now input)

      whole : HostState Object → HostSoFar Object
      whole h = record (done h) { host = ending does (done h).host }

  module _ (many : TellsAsMany does) (objects : ℕ) (kind : LawsOfHost does) (input : Input) (connection moment : ℕ) (c : ClockedControllerState Object) (ends : Ends)
      (link_is : ends.server.link ≡ settled (reading_of c.clock) c.host.link) (clock_is : ends.server.clock ≡ c.clock) where
    abbrev pub now : ℕ
    now = reading_of c.clock

    abbrev pub world : World Object
    world = record { ends = ends; stage = c.host.stage; object = c.host.object; own_name = c.host.own_name; peer_name = c.host.peer_name; version = c.host.version; acted = []; told = [] }

    pub same_step : world_step does input world ≡ step_of does input c
    same_step = ap (λ (n : ℕ). host_step does n input (host_of world)) (ap reading_of clock_is)
        ∙ ap (λ (l : LinkState). host_step does now input (record c.host { link = l })) link_is
        ∙ step_settled now input c.host

    pub settled_so : IsSettled world
    settled_so = ap (λ (n : ℕ). settled n ends.server.link) (ap reading_of clock_is) ∙ ap (settled now) link_is ∙ settled_twice now c.host.link ∙ sym link_is

    was_open : is_open ends.server.link.phase ≡ true → is_open (settled now c.host.link).phase ≡ true
    was_open e = ap (λ (l : LinkState). is_open l.phase) (sym link_is) ∙ e

    stands : HostStandsByCounts does objects c.host → HasSaidAt does c ends.server.given → StandsByWhatItSaid does objects world
    stands counts said = record {
      counts = with_link does objects c.host (host_of world) refl refl
          (λ e. let so = settled_open now c.host.link (was_open e) in
          (so.1, λ taken given has. subst (HasCounted taken given) (sym (link_is ∙ so.0)) (record { taken_is = has.taken_is; given_is = has.given_is; waiting = has.waiting })))
          counts;
      said = λ e. said (settled_open now c.host.link (was_open e)).1;
    }

    abbrev HasSaidBy : HostSoFar Object → Type 0
    HasSaidBy done = is_open done.host.link.phase ≡ true → HostHasSaid does (item_of c.host) c.host.version done.host.stage (called_all connection done.calls ends).server.given

    by_world : HostStandsByCounts does objects c.host → HasSaidAt does c ends.server.given → HasSaidBy (world_step does input world)
    unfolding stepped
    by_world counts said e = (step_said does many objects kind kind.given input connection world settled_so (stands counts said)).said (ap (λ (l : LinkState). is_open l.phase) (kind.link input connection world settled_so) ∙ e)

    with_names : (old new : HostState Object) → IsNamedAs old new → (items : List (List ℕ)) → HostHasSaid does (item_of old) old.version new.stage items → HostHasSaid does (item_of new) new.version new.stage items
    with_names old new named items has =
        subst (λ (n : ℕ). HostHasSaid does (item_of new) n new.stage items) (sym named.version)
        (subst (λ (n : List ℕ). HostHasSaid does (item_of (record new { own_name = n })) old.version new.stage items) (sym named.own_name)
        (subst (λ (n : List ℕ). HostHasSaid does (item_of (record new { own_name = old.own_name; peer_name = n })) old.version new.stage items) (sym named.peer_name) has))

    pub controller_said : HostStandsByCounts does objects c.host → HasSaidAt does c ends.server.given
        → HasSaidAt does (controller_after (step_of does input c) connection moment c) (called_all connection (step_of does input c).calls ends).server.given
    unfolding controller_after
    controller_said counts said e = with_names c.host (step_of does input c).host (kind.names now input c.host) (called_all connection (step_of does input c).calls ends).server.given (subst HasSaidBy same_step (by_world counts said) e)
