-- A step so far: the machine sees the interlocking, and each link is what the step's calls made of it.
use Rattle.std.proofs.Common.{inl, inr, ◌≡◌, ◌⊎◌, ℕ, ◌≤◌, Bool, true, false, not, List, ◌++◌, length, map, refl, sym, ap, subst, ◌∙◌}
use Rattle.std.specs.Prelude.{◌-◌, Option, Some, None, slice_get}
use Rattle.std.proofs.lemmas.Bool.{true≢false}
use Rattle.ixl_spec.specs.sci_telegram.declared.message.Aspect.{Aspect as TelegramAspect}
use Rattle.ixl_spec.specs.rasta_core.Clock.{settled}
use Rattle.ixl_spec.specs.rasta_core.State.{LinkState, confirmed_items, is_open, is_up}
use Rattle.ixl_spec.specs.ixl_client.Client.{ClientState, is_outside}
use Rattle.ixl_spec.specs.ixl_client.Made.{link_after}
use Rattle.ixl_spec.specs.ixl_client.ClientSoFar as client
use Rattle.ixl_spec.specs.ixl_client.ClientSoFar.{LinkCall, begun}
use Rattle.ixl_spec.specs.ixl_client.declared.command.Command.{Command}
use Rattle.ixl_spec.specs.StepSoFar.{Signal, Point, StepSoFar, known_signal_after, noted, with_known_signal}
use Rattle.ixl_spec.specs.State.{IxlState, KnownSignalState, changed}
use Rattle.ixl_spec.specs.Step.{Input}
use Rattle.simulator_machine.specs.Lists.{is_same, changed_at}
use Rattle.simulator_machine.specs.Link.{Gone, Start}
use Rattle.simulator_machine.specs.Signal.{Signal as MachineSignal, aspects_given, SignalMove}
use Rattle.simulator_machine.specs.Point.{Point as MachinePoint}
use Rattle.simulator_machine.specs.Machine.{Machine, with_signal}
use Rattle.simulator_machine.specs.Table.{Table}
use Rattle.simulator_machine.specs.Chains.{MovesTo, SignalMayChain, signal_chained}
use Rattle.simulator_move_laws.specs.Calls.{Items, calls_at, items_after}
use Rattle.simulator_move_laws.specs.Facts.{AreCallsIn, FarEnds, SignalFacts}
use Rattle.simulator_move_laws.specs.Link.{ClientFits, is_inside}
use Rattle.simulator_move_laws.specs.Nodes.{IsLastGiven, KnownSignalFits, openings}
use Rattle.simulator_move_laws.specs.Sees.{Given, IsClosedSince}
use Rattle.simulator_move_laws.specs.Step.{SignalStays}
use Rattle.simulator_move_laws.specs.Telegrams.{aspects_of}
use Rattle.simulator_move_laws.specs.Items.{aspects_in}
use Rattle.simulator_move_laws.specs.Totals.{IsReadable, KeepsAspects}
use Rattle.simulator_move_laws.proofs.Interlocking.Tests.{by_test}
use Rattle.simulator_move_laws.proofs.Interlocking.Phases.{Goes, shut_is_closed, stays_open, stays_up}
use Rattle.simulator_move_laws.proofs.Interlocking.Places.{inside_open, inside_start, open_inside}
use Rattle.simulator_move_laws.proofs.Interlocking.Clients.{Standing, calls_go, calls_then, items_then, link_then}
use Rattle.simulator_move_laws.proofs.Interlocking.ClientFits.{fits_behind, not_ready}
use Rattle.simulator_move_laws.proofs.Interlocking.Signals.{SignalGoes, arrives}
use Rattle.simulator_move_laws.proofs.Interlocking.Changes.{at_here, at_other, changed_elsewhere, changed_here, noted_elsewhere, noted_here, same_is, same_self}
use Rattle.simulator_move_laws.specs.MachineSoFar.{During, KnownSignalDuring, KnownSignalSoFar, Leads, KnownPointSoFar}

-- what changes nothing of the far end changes no fact of it
pub signal_facts_stay : (now : ℕ) (link : LinkState) (items : Items) (old new : MachineSignal) → SignalStays old new → SignalFacts now link items old → SignalFacts now link items new
signal_facts_stay now link items old new stays facts = record {
  ends = record {
    up = λ is before. facts.ends.up is (sym stays.server ∙ before);
    quiet = λ is inside. facts.ends.quiet is (sym stays.server ∙ inside);
    alive = facts.ends.alive;
    counted = facts.ends.counted;
  };
  confirmed = λ is. moved (facts.confirmed is);
} where
  moved : (old.link.server ≡ Gone) ⊎ (confirmed_items link - openings ≤ length old.done) → (new.link.server ≡ Gone) ⊎ (confirmed_items link - openings ≤ length new.done)
  moved (inl gone) = inl (stays.server ∙ gone)
  moved (inr few) = inr (subst (λ n. confirmed_items link - openings ≤ n) (ap length (sym stays.done)) few)

-- a closed link stays so, since the same moment
pub stays_closed : (since : ℕ) (old new : LinkState) → Goes old new → IsClosedSince since old → IsClosedSince since new
stays_closed since old new goes is = record {
  closed = shut_is_closed new.phase (shut (is_open new.phase) refl);
  at = goes.shut (ap is_open is.closed) ∙ is.at;
} where
  shut : (b : Bool) → is_open new.phase ≡ b → is_open new.phase ≡ false
  shut true opened = absurd (true≢false (sym (stays_open old.phase new.phase goes.may opened) ∙ ap is_open is.closed))
  shut false e = e

module _ (now : ℕ) (input : Input) (table : Table) (ixl : IxlState) (given : Given) (machine : Machine) where
  module _ (far : FarEnds now input ixl given machine) (chain : (machine : Machine) (place : ℕ) (moves : List SignalMove) → SignalMayChain moves (machine.signals place)
      → MovesTo table machine (with_signal place (signal_chained moves (machine.signals place)) machine))
      (onward : (old between new : Machine) → MovesTo table old between → MovesTo table between new → MovesTo table old new) where
    -- the facts at a signal
    pub known_signal_facts : (place : ℕ) (first known_signal : KnownSignalState) (calls : List LinkCall) (new : MachineSignal) → slice_get ixl.known_signals place ≡ Some first → AreCallsIn input first.client.peer calls →
        known_signal.client.link ≡ link_after now calls (settled now first.client.link) → SignalStays (machine.signals place) new →
        SignalFacts now known_signal.client.link (items_after now calls (settled now first.client.link) (given.signals place)) new
    known_signal_facts place first known_signal calls new is are made stays =
        subst (λ l. SignalFacts now l (items_after now calls (settled now first.client.link) (given.signals place)) new) (sym made)
        (signal_facts_stay now (link_after now calls (settled now first.client.link)) (items_after now calls (settled now first.client.link) (given.signals place)) (machine.signals place) new stays
        (far.signals place first is calls are))

    -- What a signal's client does next, after these moves of the machine that leave all else as it is, comes to a lamp that
    -- notes this last aspect.
    pub record NextKnownSignal (place : ℕ) (known_signal : KnownSignalState) (items : Items) (part : StepSoFar) (old between : Machine) (done : client.ClientSoFar) (aspect : Option TelegramAspect) (number : ℕ) : Type 0 where
      pub commands : List Command
      pub stands : Standing now input known_signal.client.link items known_signal.client.peer commands false 0 done
      pub outside : is_outside done.client.stage ≡ not (is_up done.client.link.phase)
      pub moves : MovesTo table old between
      pub others : (n : ℕ) → is_same n place ≡ false → between.signals n ≡ old.signals n
      pub points : between.points ≡ old.points
      pub routes : between.routes ≡ old.routes
      pub holding : between.holding ≡ old.holding
      pub frozen : between.frozen ≡ old.frozen
      pub stays : SignalStays (old.signals place) (between.signals place)
      pub client : (between.signals place).link.client ≡ (old.signals place).link.client
      pub aspects : is_inside now known_signal.client.link ≡ true → is_inside now done.client.link ≡ true → aspects_given (between.signals place) ≡ aspects_of commands
      pub last : is_inside now known_signal.client.link ≡ true → is_inside now done.client.link ≡ true → done.client.link.given ≡ length (items_after now done.calls known_signal.client.link items).given
          → is_outside done.client.stage ≡ false → IsLastGiven aspect number commands
      -- where an open link is inside, as it is in a step
      pub totals : (is_open done.client.link.phase ≡ true → is_inside now done.client.link ≡ true) →
          KeepsAspects known_signal.client.peer items (items_after now done.calls known_signal.client.link items) (old.signals place) (between.signals place)

    -- the lamp that the signal had at the beginning
    pub first_known_signal : (first current : Option KnownSignalState) (known_signal : KnownSignalState) (before : Items) (calls : List LinkCall) (old new : MachineSignal) → current ≡ Some known_signal →
        KnownSignalSoFar now input table ixl given machine first before calls current old new → (one : KnownSignalState) × (first ≡ Some one) × KnownSignalDuring now input table ixl given machine one before calls known_signal old new
    first_known_signal None None known_signal before calls old new is so_far = absurd (cc (is))
    first_known_signal None (Some other) known_signal before calls old new is so_far = absurd so_far
    first_known_signal (Some one) None known_signal before calls old new is so_far = absurd so_far
    first_known_signal (Some one) (Some other) known_signal before calls old new is so_far = (one, refl, subst (λ (l : Option KnownSignalState). KnownSignalSoFar now input table ixl given machine (Some one) before calls l old new) is so_far)

    pub known_signal_client : (aspect : Option TelegramAspect) (number : ℕ) (indicated : Option TelegramAspect) (client : ClientState) → (known_signal_after aspect number indicated client).client ≡ client
    unfolding known_signal_after
    known_signal_client aspect number indicated client = by_test (λ (l : KnownSignalState). l.client ≡ client) (is_outside client.stage) (record { client = client; aspect = None; number = 0; indicated = None })
        (record { client = client; aspect = aspect; number = number; indicated = indicated }) (λ e. refl) (λ e. refl)

    -- a lamp that is outside notes no aspect, and has none
    pub known_signal_arrives : (aspect : Option TelegramAspect) (number : ℕ) (indicated : Option TelegramAspect) (client : ClientState) (items : Items) (commands : List Command) (signal : MachineSignal) → ClientFits now client items commands →
        SignalFacts now client.link items signal → (is_inside now client.link ≡ true → aspects_given signal ≡ aspects_of commands) →
        (is_inside now client.link ≡ true → is_outside client.stage ≡ false → IsLastGiven aspect number commands) →
        (is_inside now client.link ≡ true → is_up client.link.phase ≡ false → signal.link.client ≡ Start) → SignalGoes (KnownSignalFits now (known_signal_after aspect number indicated client) items) signal
    unfolding known_signal_after
    known_signal_arrives aspect number indicated client items commands signal fits facts aspects last start =
        by_test (λ (l : KnownSignalState). SignalGoes (KnownSignalFits now l items) signal) (is_outside client.stage) none some
        (λ e. arrives now none items commands signal fits facts aspects (λ inside. fits.early inside (not_ready client.stage e)) start)
        (λ e. arrives now some items commands signal fits facts aspects (λ inside. last inside e) start)
      where
        none : KnownSignalState
        none = record { client = client; aspect = None; number = 0; indicated = None }

        some : KnownSignalState
        some = record { client = client; aspect = aspect; number = number; indicated = indicated }

    pub known_signal_next : (place : ℕ) (known_signal : KnownSignalState) (part : StepSoFar) (new between : Machine) (done : client.ClientSoFar) (aspect : Option TelegramAspect) (number : ℕ) (indicated : Option TelegramAspect) → During now input table ixl given machine part new →
        slice_get part.ixl.known_signals place ≡ Some known_signal →
        ((first : KnownSignalState) → slice_get ixl.known_signals place ≡ Some first → KnownSignalDuring now input table ixl given machine first (given.signals place) (calls_at (Signal place) part.calls) known_signal (machine.signals place) (new.signals place) →
        NextKnownSignal place known_signal (items_after now (calls_at (Signal place) part.calls) (settled now first.client.link) (given.signals place)) part new between done aspect number) →
        Leads now input table ixl given machine (with_known_signal place (known_signal_after aspect number indicated done.client) (noted (Signal place) done part))
    known_signal_next place known_signal part new between done aspect number indicated during is next = on (first_known_signal (slice_get ixl.known_signals place) (slice_get part.ixl.known_signals place) known_signal (given.signals place) (calls_at (Signal place) part.calls)
        (machine.signals place) (new.signals place) is (during.signals place))
      where
        calls : List LinkCall
        calls = calls_at (Signal place) part.calls

        on : (one : KnownSignalState) × (slice_get ixl.known_signals place ≡ Some one) × KnownSignalDuring now input table ixl given machine one (given.signals place) calls known_signal (machine.signals place) (new.signals place) →
            Leads now input table ixl given machine (with_known_signal place (known_signal_after aspect number indicated done.client) (noted (Signal place) done part))
        on (first, is_first, was) = (
          with_signal place arrived between,
          record {
            signals = each;
            points = λ p. subst (λ cs. KnownPointSoFar now input table ixl given machine (slice_get ixl.known_points p) (given.points p) cs (slice_get part.ixl.known_points p) (machine.points p) (between.points p))
                (sym (noted_elsewhere (Point p) (Signal place) part.calls done.calls refl))
                (subst (λ (points : ℕ → MachinePoint). KnownPointSoFar now input table ixl given machine (slice_get ixl.known_points p) (given.points p) (calls_at (Point p) part.calls) (slice_get part.ixl.known_points p) (machine.points p) (points p)) (sym it.points) (during.points p));
            routes = λ n. ap (λ routes. routes n) it.routes ∙ during.routes n;
            count = during.count;
            created = during.created;
            holding = it.holding ∙ during.holding;
            frozen = it.frozen ∙ during.frozen;
            moves = onward machine between (with_signal place arrived between) (onward machine new between during.moves it.moves) (chain between place goes.moves goes.may);
          },
        ) where
          start : LinkState
          start = settled now first.client.link

          items : Items
          items = items_after now calls start (given.signals place)

          it : NextKnownSignal place known_signal items part new between done aspect number
          it = next first is_first was

          behind : List LinkCall
          behind = calls ++ done.calls

          made : done.client.link ≡ link_after now behind start
          made = it.stands.runs.made ∙ ap (link_after now done.calls) was.made ∙ sym (link_then now calls done.calls start)

          items_are : items_after now done.calls known_signal.client.link items ≡ items_after now behind start (given.signals place)
          items_are = ap (λ l. items_after now done.calls l items) was.made ∙ sym (items_then now calls done.calls start (given.signals place))

          are : AreCallsIn input first.client.peer behind
          are = calls_then input first.client.peer calls done.calls was.are (subst (λ p. AreCallsIn input p done.calls) was.same it.stands.runs.are)

          went : Goes known_signal.client.link done.client.link
          went = subst (Goes known_signal.client.link) (sym it.stands.runs.made)
              (calls_go now input known_signal.client.peer done.calls known_signal.client.link it.stands.runs.are was.fits.client.steady.opens)

          same_signal : SignalStays (machine.signals place) (between.signals place)
          same_signal = record { server = it.stays.server ∙ was.stays.server; done = it.stays.done ∙ was.stays.done }

          facts : SignalFacts now done.client.link (items_after now behind start (given.signals place)) (between.signals place)
          facts = subst (λ l. SignalFacts now l (items_after now behind start (given.signals place)) (between.signals place)) (sym made)
              (signal_facts_stay now (link_after now behind start) (items_after now behind start (given.signals place)) (machine.signals place) (between.signals place) same_signal
              (far.signals place first is_first behind are))

          was_facts : SignalFacts now known_signal.client.link items (new.signals place)
          was_facts = known_signal_facts place first known_signal calls (new.signals place) is_first was.are was.made was.stays

          was_inside : is_inside now done.client.link ≡ true → is_inside now known_signal.client.link ≡ true
          was_inside inside = open_inside now known_signal.client.link was_facts.ends.alive
              (stays_open known_signal.client.link.phase done.client.link.phase went.may (inside_open now done.client.link inside))

          asked : is_inside now done.client.link ≡ true → is_up done.client.link.phase ≡ false → (between.signals place).link.client ≡ Start
          asked inside down = it.client ∙ was.fits.place ∙ inside_start now known_signal.client.link (was_inside inside) (still_down inside down)
            where
              still_down : is_inside now done.client.link ≡ true → is_up done.client.link.phase ≡ false → is_up known_signal.client.link.phase ≡ false
              still_down inside down = cases (is_up known_signal.client.link.phase) refl where
                cases : (b : Bool) → is_up known_signal.client.link.phase ≡ b → is_up known_signal.client.link.phase ≡ false
                cases true up = absurd (true≢false (sym (stays_up known_signal.client.link.phase done.client.link.phase went.may up (inside_open now done.client.link inside)) ∙ down))
                cases false e = e

          goes : SignalGoes (KnownSignalFits now (known_signal_after aspect number indicated done.client) (items_after now behind start (given.signals place))) (between.signals place)
          goes = known_signal_arrives aspect number indicated done.client (items_after now behind start (given.signals place)) it.commands (between.signals place)
              (subst (λ i. ClientFits now done.client i it.commands) items_are (fits_behind now input known_signal.client.link items known_signal.client.peer it.commands false 0 done it.stands it.outside))
              facts (λ inside. it.aspects (was_inside inside) inside) (λ inside. it.last (was_inside inside) inside
              (facts.ends.counted (inside_open now done.client.link inside) ∙ ap (λ (i : Items). length i.given) (sym items_are))) asked

          arrived : MachineSignal
          arrived = signal_chained goes.moves (between.signals place)

          known_signal_now : KnownSignalState
          known_signal_now = known_signal_after aspect number indicated done.client

          link_now : known_signal_now.client.link ≡ done.client.link
          link_now = ap (λ (c : ClientState). c.link) (known_signal_client aspect number indicated done.client)

          so_far : KnownSignalDuring now input table ixl given machine first (given.signals place) behind known_signal_now (machine.signals place) arrived
          so_far = record {
            fits = goes.fits;
            held = λ holds. subst (IsClosedSince ixl.created) (sym link_now) (stays_closed ixl.created known_signal.client.link done.client.link went (was.held holds));
            are = are;
            made = link_now ∙ made;
            same = ap (λ (c : ClientState). c.peer) (known_signal_client aspect number indicated done.client) ∙ it.stands.runs.same ∙ was.same;
            stays = record { server = goes.stays.server ∙ same_signal.server; done = goes.stays.done ∙ same_signal.done };
            totals = λ readable as_given. goes.given
                ∙ it.totals (open_inside now done.client.link facts.ends.alive) (subst IsReadable (sym was.same) readable) (was.totals readable as_given)
                ∙ ap (λ (i : Items). aspects_in i.given) items_are;
          }

          Goal : ℕ → Type 0
          Goal n = KnownSignalSoFar now input table ixl given machine (slice_get ixl.known_signals n) (given.signals n) (calls_at (Signal n) (part.calls ++ map (λ call. (Signal place, call)) done.calls))
              (slice_get (changed (λ (old : KnownSignalState). known_signal_now) place part.ixl.known_signals) n) (machine.signals n) (changed_at place arrived between.signals n)

          here : Goal place
          here =
              subst (λ l. KnownSignalSoFar now input table ixl given machine l (given.signals place) (calls_at (Signal place) (part.calls ++ map (λ call. (Signal place, call)) done.calls))
              (slice_get (changed (λ (old : KnownSignalState). known_signal_now) place part.ixl.known_signals) place) (machine.signals place) (changed_at place arrived between.signals place)) (sym is_first)
              (subst (λ cs. KnownSignalSoFar now input table ixl given machine (Some first) (given.signals place) cs (slice_get (changed (λ (old : KnownSignalState). known_signal_now) place part.ixl.known_signals) place) (machine.signals place) (changed_at place arrived between.signals place))
              (sym (noted_here (Signal place) (Signal place) part.calls done.calls (same_self place)))
              (subst (λ l. KnownSignalSoFar now input table ixl given machine (Some first) (given.signals place) behind l (machine.signals place) (changed_at place arrived between.signals place))
              (sym (changed_here (λ (old : KnownSignalState). known_signal_now) place part.ixl.known_signals known_signal is))
              (subst (λ s. KnownSignalDuring now input table ixl given machine first (given.signals place) behind known_signal_now (machine.signals place) s) (sym (at_here place arrived between.signals)) so_far)))

          each : (n : ℕ) → Goal n
          each n = cases (is_same n place) refl where
            cases : (b : Bool) → is_same n place ≡ b → Goal n
            cases true e = subst Goal (sym (same_is n place e)) here
            cases false e =
                subst (λ cs. KnownSignalSoFar now input table ixl given machine (slice_get ixl.known_signals n) (given.signals n) cs (slice_get (changed (λ (old : KnownSignalState). known_signal_now) place part.ixl.known_signals) n) (machine.signals n) (changed_at place arrived between.signals n))
                (sym (noted_elsewhere (Signal n) (Signal place) part.calls done.calls e))
                (subst (λ l. KnownSignalSoFar now input table ixl given machine (slice_get ixl.known_signals n) (given.signals n) (calls_at (Signal n) part.calls) l (machine.signals n) (changed_at place arrived between.signals n))
                (sym (changed_elsewhere (λ (old : KnownSignalState). known_signal_now) place part.ixl.known_signals n e))
                (subst (KnownSignalSoFar now input table ixl given machine (slice_get ixl.known_signals n) (given.signals n) (calls_at (Signal n) part.calls) (slice_get part.ixl.known_signals n) (machine.signals n))
                (sym (at_other place arrived between.signals n e ∙ it.others n e)) (during.signals n)))
