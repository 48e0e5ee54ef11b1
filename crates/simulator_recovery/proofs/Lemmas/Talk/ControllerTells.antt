-- What a controller has given in its last connection is a beginning of its conversation, whether it has left it or not: after each of
-- its steps. It has refused a version only where it has taken a check of another one.
use Rattle.simulator_recovery.proofs.Words.Basics.{◌≡◌, ℕ, ◌++◌, ◌∙◌, Bool, true, false, List, [], ◌∷◌, append_assoc, Option, Some, None, Ok, refl, sym, ap, subst, false≢true, Result, Err}
use Rattle.simulator_recovery.proofs.Words.Links.{receiving, settled, kept, outcome, reading_of, Ends, LinkState, is_open}
use Rattle.simulator_recovery.proofs.Words.Controllers.{World, called_all, entering, stepped, step_of as world_step, reading, SciFault, Telegram, Behaviour, HostSoFar, HostState, LinkCall, Receives, AreCallsFor, call_made, items_given, items_taken, item_of, Input, Report, Stage}
use Rattle.simulator_recovery.proofs.Words.Stations.{step_of, ClockedControllerState}
use Rattle.simulator_recovery.proofs.Words.Recovery.{HostStandsByCounts, TellsAsMany, given_before, SaidBy, SaidSome, SomeAsks, item_for, LawsOfHost}
use Rattle.simulator_recovery.proofs.Lemmas.Talk.ControllerSaid.{same_step, settled_so, world}
use Rattle.simulator_recovery.proofs.Lemmas.Ground.ControllersOnLinks.{Lists, lists_of}
use Rattle.simulator_recovery.proofs.Lemmas.Ground.HostKeeps.{Kept, ObjectKeeps, step_keeps}
use Rattle.simulator_recovery.proofs.Lemmas.Talk.HostLinks.{step_stands}
use Rattle.simulator_recovery.proofs.Lemmas.Talk.HostSaid.{AllTell, InputTells, ItemTells, StepSays, said_still, some_still, step_says_both}
use Rattle.simulator_recovery.proofs.Lemmas.Ground.LinkCounts.{settled_open}

asks_longer : (version : ℕ) (items more : List (List ℕ)) → SomeAsks version items → SomeAsks version (items ++ more)
asks_longer version items more s = record {
  front = s.front;
  item = s.item;
  rest = s.rest ++ more;
  are = ap (λ (list : List (List ℕ)). list ++ more) s.are ∙ append_assoc s.front (s.item ∷ s.rest) more;
  asks = s.asks;
}

-- each of the items in the middle of a list tells so
all_tell : (version : ℕ) (front items more : List (List ℕ)) → AllTell (SomeAsks version (front ++ (items ++ more))) version items
all_tell version front [] more = tt
all_tell version front (item ∷ others) more = (one (reading item) refl, subst (λ (list : List (List ℕ)). AllTell (SomeAsks version list) version others) moved (all_tell version (front ++ item ∷ []) others more))
  where
    moved : (front ++ item ∷ []) ++ (others ++ more) ≡ front ++ (item ∷ (others ++ more))
    moved = append_assoc front (item ∷ []) (others ++ more)

    one : (what : Result Telegram SciFault) → reading item ≡ what → ItemTells (SomeAsks version (front ++ (item ∷ (others ++ more)))) version what
    one (Ok telegram) e = λ protocol asked is other. record { front = front; item = item; rest = others ++ more; are = refl; asks = record { telegram = telegram; read = e; protocol = protocol; asked = asked; says = is; other = other } }
    one (Err fault) e = tt

module _ {Object : Type 0} (does : Behaviour Object) (Fits : Object → Type 0) (version : ℕ) (own_name peer_name : List ℕ) (keep : ObjectKeeps does Fits version) where
  -- a host, and what its end has given and taken in its last connection
  pub record Tells (host : HostState Object) (lists : Lists) : Type 0 where
    pub objects : ℕ
    pub counts : HostStandsByCounts does objects host
    pub kept_so : Kept does Fits version own_name peer_name keep host
    pub said : is_open host.link.phase ≡ true → SaidBy does Fits (SomeAsks version lists.taken) (item_for own_name peer_name) version host.stage lists.given
    pub ever : SaidSome does Fits (SomeAsks version lists.taken) (item_for own_name peer_name) version lists.given

  pub item_is : (host : HostState Object) → Kept does Fits version own_name peer_name keep host → item_of host ≡ item_for own_name peer_name
  item_is host k = ap (λ (n : List ℕ). item_for n host.peer_name) k.own_is ∙ ap (item_for own_name) k.peer_is

  module _ (many : TellsAsMany does) (laws : LawsOfHost does) (input : Input) (connection : ℕ) (c : ClockedControllerState Object) (ends : Ends)
      (link_is : ends.server.link ≡ settled (reading_of c.clock) c.host.link) (clock_is : ends.server.clock ≡ c.clock) (tells : Tells c.host (lists_of ends.server)) where
    abbrev now : ℕ
    now = reading_of c.clock

    abbrev link : LinkState
    link = settled now c.host.link

    abbrev at : World Object
    at = world does many tells.objects laws input connection 0 c ends link_is clock_is

    abbrev done : HostSoFar Object
    done = step_of does input c

    done_is : world_step does input at ≡ done
    done_is = same_step does many tells.objects laws input connection 0 c ends link_is clock_is

    abbrev given_now : List (List ℕ)
    given_now = items_given now done.calls link

    abbrev taken_now : List (List ℕ)
    taken_now = items_taken now done.calls link

    abbrev after : Lists
    after = lists_of (called_all connection done.calls ends).server

    pub given_is : after.given ≡ kept (entering input connection ends) ends.server.given ++ given_now
    unfolding stepped
    given_is = ap (λ (s : HostSoFar Object). (called_all connection s.calls ends).server.given) (sym done_is) ∙ laws.given input connection at
        ∙ ap (λ (n : ℕ). kept (entering input connection ends) ends.server.given ++ items_given n (world_step does input at).calls ends.server.link) (ap reading_of clock_is)
        ∙ ap (λ (l : LinkState). kept (entering input connection ends) ends.server.given ++ items_given now (world_step does input at).calls l) link_is
        ∙ ap (λ (s : HostSoFar Object). kept (entering input connection ends) ends.server.given ++ items_given now s.calls link) done_is

    taken_is : after.taken ≡ kept (entering input connection ends) ends.server.taken ++ taken_now
    unfolding stepped
    taken_is = ap (λ (s : HostSoFar Object). (called_all connection s.calls ends).server.taken) (sym done_is) ∙ laws.taken input connection at
        ∙ ap (λ (n : ℕ). kept (entering input connection ends) ends.server.taken ++ items_taken n (world_step does input at).calls ends.server.link) (ap reading_of clock_is)
        ∙ ap (λ (l : LinkState). kept (entering input connection ends) ends.server.taken ++ items_taken now (world_step does input at).calls l) link_is
        ∙ ap (λ (s : HostSoFar Object). kept (entering input connection ends) ends.server.taken ++ items_taken now s.calls link) done_is

    -- what comes is among what was taken then
    input_tells : InputTells (SomeAsks version after.taken) version now input link
    unfolding items_taken
    input_tells = by_input input refl (laws.first now input c.host)
      where
        by_input : (i : Input) → input ≡ i → AreCallsFor i done.calls → InputTells (SomeAsks version after.taken) version now i link
        by_input Input.Tick e calls = tt
        by_input (Input.Sense sense) e calls = tt
        by_input (Input.Datagram bytes) e (others, is, own) = subst (λ (list : List (List ℕ)). AllTell (SomeAsks version list) version (receiving now bytes.now link).items)
            (ap (λ (list : List (List ℕ)). kept (entering input connection ends) ends.server.taken ++ list) (sym (ap (λ (cs : List LinkCall). items_taken now cs link) is)) ∙ sym taken_is)
            (all_tell version (kept (entering input connection ends) ends.server.taken) (receiving now bytes.now link).items (items_taken now others (call_made now (Receives bytes.now) link).link))

    enters_none : is_open ends.server.link.phase ≡ true → entering input connection ends ≡ None
    unfolding outcome
    enters_none = by_input input
      where
        by_input : (i : Input) → is_open ends.server.link.phase ≡ true → entering i connection ends ≡ None
        by_input Input.Tick inside = refl
        by_input (Input.Sense sense) inside = refl
        by_input (Input.Datagram bytes) inside = rw inside refl

    abbrev item : Report → List ℕ
    item = item_for own_name peer_name

    abbrev Wrong : Type 0
    Wrong = SomeAsks version after.taken

    -- what a step says, from what was said before in the connection
    says_from : (items : List (List ℕ)) → (is_open link.phase ≡ true → SaidBy does Fits Wrong item version c.host.stage items) → SaidSome does Fits Wrong item version items
        → StepSays does many tells.objects now item version Fits Wrong keep items input c.host
    says_from items = step_says_both does many tells.objects now item version Fits Wrong keep items input c.host input_tells tells.counts (item_is c.host tells.kept_so) tells.kept_so.version_is tells.kept_so.object

    tells_by : (items : List (List ℕ)) → StepSays does many tells.objects now item version Fits Wrong keep items input c.host → given_before (is_open link.phase) items ++ given_now ≡ after.given → Tells done.host after
    tells_by items s whole = record {
      objects = tells.objects;
      counts = step_stands does many tells.objects now input c.host tells.counts;
      kept_so = step_keeps does Fits version own_name peer_name keep now input c.host tells.kept_so;
      said = λ e. subst (SaidBy does Fits Wrong item version done.host.stage) whole (s.says e);
      ever = subst (SaidSome does Fits Wrong item version) whole s.ever;
    }

    -- in the connection that it was in
    inside_tells : is_open ends.server.link.phase ≡ true → Tells done.host after
    inside_tells f = tells_by ends.server.given (says_from ends.server.given (λ e. said_still does Fits item version (SomeAsks version ends.server.taken) Wrong still c.host.stage ends.server.given (tells.said (settled_open now c.host.link e).1))
        (some_still does Fits item version (SomeAsks version ends.server.taken) Wrong still ends.server.given tells.ever)) whole
      where
        still : SomeAsks version ends.server.taken → Wrong
        still s = subst (SomeAsks version) (sym (taken_is ∙ ap (λ (o : Option ℕ). kept o ends.server.taken ++ taken_now) (enters_none f))) (asks_longer version ends.server.taken taken_now s)

        whole : given_before (is_open link.phase) ends.server.given ++ given_now ≡ after.given
        whole = ap (λ (b : Bool). given_before b ends.server.given ++ given_now) (sym (ap (λ (l : LinkState). is_open l.phase) link_is) ∙ f) ∙ sym (given_is ∙ ap (λ (o : Option ℕ). kept o ends.server.given ++ given_now) (enters_none f))

    -- in one that it enters
    entering_tells : is_open ends.server.link.phase ≡ false → (entered : ℕ) → entering input connection ends ≡ Some entered → Tells done.host after
    entering_tells f entered g = tells_by [] (says_from [] (λ e. absurd (false≢true (sym shut ∙ e))) (record { by = Stage.Outside; whole = []; said = refl; begins = record { rest = []; are = refl } })) whole
      where
        shut : is_open link.phase ≡ false
        shut = sym (ap (λ (l : LinkState). is_open l.phase) link_is) ∙ f

        whole : given_before (is_open link.phase) [] ++ given_now ≡ after.given
        whole = ap (λ (b : Bool). given_before b [] ++ given_now) shut ∙ sym (given_is ∙ ap (λ (o : Option ℕ). kept o ends.server.given ++ given_now) g)

    -- outside, and in none after the step
    pub stays_out : is_open ends.server.link.phase ≡ false → entering input connection ends ≡ None → is_open done.host.link.phase ≡ false
    unfolding stepped
    stays_out f g = ap (λ (s : HostSoFar Object). is_open s.host.link.phase) (sym done_is) ∙ ap (λ (l : LinkState). is_open l.phase) (sym (laws.link input connection at (settled_so does many tells.objects laws input connection 0 c ends link_is clock_is)))
        ∙ laws.outside input connection at g f

    outside_tells : is_open ends.server.link.phase ≡ false → entering input connection ends ≡ None → Tells done.host after
    unfolding stepped
    outside_tells f g = record {
      objects = tells.objects;
      counts = step_stands does many tells.objects now input c.host tells.counts;
      kept_so = step_keeps does Fits version own_name peer_name keep now input c.host tells.kept_so;
      said = λ e. absurd (false≢true (sym (stays_out f g) ∙ e));
      ever = subst (SaidSome does Fits Wrong item version) (sym same_given) (some_still does Fits item version (SomeAsks version ends.server.taken) Wrong (λ s. subst (SomeAsks version) (sym same_taken) s) ends.server.given tells.ever);
    }
      where
        same_given : after.given ≡ ends.server.given
        same_given = ap (λ (s : HostSoFar Object). (called_all connection s.calls ends).server.given) (sym done_is) ∙ laws.gives_none input connection at g f

        same_taken : after.taken ≡ ends.server.taken
        same_taken = ap (λ (s : HostSoFar Object). (called_all connection s.calls ends).server.taken) (sym done_is) ∙ laws.takes_none input connection at g f

    pub controller_tells : Tells (step_of does input c).host (lists_of (called_all connection (step_of does input c).calls ends).server)
    controller_tells = by_cases (is_open ends.server.link.phase) refl (entering input connection ends) refl
      where
        by_cases : (b : Bool) → is_open ends.server.link.phase ≡ b → (entered : Option ℕ) → entering input connection ends ≡ entered → Tells done.host after
        by_cases true f entered g = inside_tells f
        by_cases false f (Some other) g = entering_tells f other g
        by_cases false f None g = outside_tells f g
