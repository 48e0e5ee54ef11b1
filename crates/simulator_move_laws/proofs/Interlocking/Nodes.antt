-- What a part of a step at one signal or one point leaves.
use Rattle.std.proofs.Common.{◌≡◌, ℕ, suc, ◌+◌, Bool, true, false, not, List, [], ◌∷◌, ◌++◌, append_assoc, length, map, refl, sym, ap, subst, ◌∙◌, arith}
use Rattle.std.specs.Prelude.{Option, Some, None, slice_get}
use Rattle.std.proofs.lemmas.Bool.{true≢false, false≢true}
use Rattle.std.proofs.lemmas.List.{map-append}
use Rattle.ixl_spec.specs.sci_telegram.declared.message.Aspect.{Aspect as TelegramAspect}
use Rattle.ixl_spec.specs.rasta_core.Clock.{settled}
use Rattle.ixl_spec.specs.rasta_core.State.{is_open, is_up}
use Rattle.ixl_spec.specs.ixl_client.Client.{PeerState, is_outside, is_ready}
use Rattle.ixl_spec.specs.ixl_client.ClientSoFar as client
use Rattle.ixl_spec.specs.ixl_client.ClientSoFar.{LinkCall, begun}
use Rattle.ixl_spec.specs.ixl_client.Step.{commanding, hearing, message_of}
use Rattle.ixl_spec.specs.ixl_client.declared.command.Command.{Command}
use Rattle.ixl_spec.specs.ixl_client.declared.command.Command.TheVariants as commands
use Rattle.ixl_spec.specs.ixl_client.declared.stage.Stage.{Stage}
use Rattle.ixl_spec.specs.ixl_client.declared.stage.Stage.TheVariants as stage
use Rattle.ixl_spec.specs.StepSoFar.{Signal, StepSoFar, giving_aspect, known_signal_after, noted, with_known_signal}
use Rattle.ixl_spec.specs.State.{IxlState, KnownSignalState}
use Rattle.ixl_spec.specs.Step.{Datagram, Input, indicated_heard, known_signal_hearing}
use Rattle.simulator_machine.specs.Lists.{last_of}
use Rattle.simulator_machine.specs.Signal.{Signal as MachineSignal, SignalMove, Stop, aspect_given, aspects_given}
use Rattle.simulator_machine.specs.Machine.{Machine, with_signal}
use Rattle.simulator_machine.specs.Table.{Table}
use Rattle.simulator_machine.specs.Chains.{MovesTo, SignalMayChain, signal_chained}
use Rattle.simulator_move_laws.specs.Calls.{Items, calls_at, items_after}
use Rattle.simulator_move_laws.specs.Facts.{FarEnds}
use Rattle.simulator_move_laws.specs.Link.{is_inside}
use Rattle.simulator_move_laws.specs.Sees.{Given}
use Rattle.simulator_move_laws.specs.Telegrams.{aspect_of, aspect_seen, aspects_of, given_by, item_of}
use Rattle.simulator_move_laws.specs.Items.{aspects_in, said_by}
use Rattle.simulator_move_laws.specs.Items.{aspects_of as said_aspects}
use Rattle.simulator_move_laws.specs.Totals.{IsReadable}
use Rattle.simulator_move_laws.proofs.Interlocking.Totals.{calls_say, datagram_calls, no_aspects, said_one, same_aspect}
use Rattle.simulator_move_laws.proofs.Interlocking.Places.{inside_open, open_inside}
use Rattle.simulator_move_laws.proofs.Interlocking.Clients.{Standing}
use Rattle.simulator_move_laws.proofs.Interlocking.DatagramHeard.{hears}
use Rattle.simulator_move_laws.proofs.Interlocking.ClientFits.{Commanded, begins, commands_on}
use Rattle.simulator_move_laws.specs.MachineSoFar.{During, KnownSignalDuring, Leads}
use Rattle.simulator_move_laws.proofs.Interlocking.MachineSoFar.{NextKnownSignal, known_signal_facts, known_signal_next}
use Rattle.simulator_move_laws.proofs.Interlocking.Changes.{at_here, at_other}

pub stays_so : (table : Table) (machine : Machine) → MovesTo table machine machine
stays_so table machine = record { moves = []; may = tt; leads = refl }

pub length_one : {A : Type 0} (list : List A) (one : A) → length (list ++ one ∷ []) ≡ length list + 1
length_one [] one = refl
length_one (first ∷ others) one = ap suc (length_one others one) ∙ one_on (length others) where
  one_on : (n : ℕ) → suc (n + 1) ≡ suc n + 1
  one_on n = omega arith

pub last_one : {A : Type 0} (before : A) (list : List A) (one : A) → last_of before (list ++ one ∷ []) ≡ one
last_one before [] one = refl
last_one before (first ∷ others) one = last_one first others one

pub length_same : {A B : Type 0} (f : A → B) (list : List A) → length (map f list) ≡ length list
length_same f [] = refl
length_same f (first ∷ others) = ap suc (length_same f others)

none_more : {A : Type 0} (list : List A) (one : A) → list ++ one ∷ [] ≡ [] → ⊥
none_more [] one none = cc (none)
none_more (first ∷ others) one none = cc (none)

-- how many items a client gave that is ready
given_length : (peer : PeerState) (s : Stage) (given : List Command) → is_ready s ≡ true → length (given_by peer s given) ≡ length given + 2
given_length peer stage.Outside given ready = absurd (false≢true ready)
given_length peer stage.AwaitsAnswer given ready = absurd (false≢true ready)
given_length peer stage.AwaitsStart given ready = absurd (false≢true ready)
given_length peer (stage.AwaitsStatus left) given ready = absurd (false≢true ready)
given_length peer stage.Completed given ready = omega (arith, length_same (λ command. item_of peer (message_of command)) given)
given_length peer stage.AwaitsReport given ready = omega (arith, length_same (λ command. item_of peer (message_of command)) given)

pub ready_inside : (s : Stage) → is_ready s ≡ true → is_outside s ≡ false
ready_inside stage.Outside ready = absurd (false≢true ready)
ready_inside stage.AwaitsAnswer ready = refl
ready_inside stage.AwaitsStart ready = refl
ready_inside (stage.AwaitsStatus left) ready = refl
ready_inside stage.Completed ready = refl
ready_inside stage.AwaitsReport ready = refl

-- where what is open is inside, what isn't inside is shut
pub shut_not_open : {inside : Bool} {opened : Bool} (b : Bool) → opened ≡ b → (opened ≡ true → inside ≡ true) → inside ≡ false → opened ≡ false
shut_not_open true e alive shut = absurd (true≢false (sym (alive e) ∙ shut))
shut_not_open false e alive shut = e

module _ (now : ℕ) (input : Input) (table : Table) (ixl : IxlState) (given : Given) (machine : Machine) (far : FarEnds now input ixl given machine)
    (chain : (machine : Machine) (place : ℕ) (moves : List SignalMove) → SignalMayChain moves (machine.signals place)
    → MovesTo table machine (with_signal place (signal_chained moves (machine.signals place)) machine))
    (onward : (old between new : Machine) → MovesTo table old between → MovesTo table between new → MovesTo table old new) where
  abbrev Now : StepSoFar → Machine → Type 0
  Now part new = During now input table ixl given machine part new

  abbrev On : StepSoFar → Type 0
  On part = Leads now input table ixl given machine part

  -- a lamp's client stands at the beginning of a part
  known_signal_begins : (place : ℕ) (first known_signal : KnownSignalState) (part : StepSoFar) (new : Machine) (was : KnownSignalDuring now input table ixl given machine first (given.signals place) (calls_at (Signal place) part.calls) known_signal (machine.signals place) (new.signals place)) →
      slice_get ixl.known_signals place ≡ Some first →
      Standing now input known_signal.client.link (items_after now (calls_at (Signal place) part.calls) (settled now first.client.link) (given.signals place)) known_signal.client.peer was.fits.commands false 0 (begun known_signal.client part.outbox)
  known_signal_begins place first known_signal part new was is =
      begins now input known_signal.client (items_after now (calls_at (Signal place) part.calls) (settled now first.client.link) (given.signals place)) was.fits.commands false 0 part.outbox was.fits.client
      (λ opened. open_inside now known_signal.client.link (known_signal_facts now input table ixl given machine far chain onward place first known_signal (calls_at (Signal place) part.calls) (new.signals place) is was.are was.made was.stays).ends.alive opened)
      (λ e. absurd (false≢true e))

  known_signal_hearing_is : (bytes : List ℕ) (place : ℕ) (part : StepSoFar) (known_signal : KnownSignalState) → slice_get part.ixl.known_signals place ≡ Some known_signal →
      known_signal_hearing now bytes place part ≡ with_known_signal place (known_signal_after known_signal.aspect known_signal.number (indicated_heard (hearing now bytes (begun known_signal.client part.outbox)).heard known_signal.indicated) (hearing now bytes (begun known_signal.client part.outbox)).client) (noted (Signal place) (hearing now bytes (begun known_signal.client part.outbox)) part)
  unfolding known_signal_hearing
  known_signal_hearing_is bytes place part known_signal is = rw is refl

  known_signal_hearing_none : (bytes : List ℕ) (place : ℕ) (part : StepSoFar) → slice_get part.ixl.known_signals place ≡ None → known_signal_hearing now bytes place part ≡ part
  unfolding known_signal_hearing
  known_signal_hearing_none bytes place part is = rw is refl

  pub known_signal_hears : (bytes : List ℕ) (place : ℕ) (part : StepSoFar) → input ≡ Datagram bytes → On part → On (known_signal_hearing now bytes place part)
  known_signal_hears bytes place part from (new, during) = cases (slice_get part.ixl.known_signals place) refl where
    some : (known_signal : KnownSignalState) → slice_get part.ixl.known_signals place ≡ Some known_signal →
        On (with_known_signal place (known_signal_after known_signal.aspect known_signal.number (indicated_heard (hearing now bytes (begun known_signal.client part.outbox)).heard known_signal.indicated) (hearing now bytes (begun known_signal.client part.outbox)).client) (noted (Signal place) (hearing now bytes (begun known_signal.client part.outbox)) part))
    some known_signal is = known_signal_next now input table ixl given machine far chain onward place known_signal part new new done known_signal.aspect known_signal.number (indicated_heard done.heard known_signal.indicated) during is next where
      done : client.ClientSoFar
      done = hearing now bytes (begun known_signal.client part.outbox)

      next : (first : KnownSignalState) → slice_get ixl.known_signals place ≡ Some first →
          KnownSignalDuring now input table ixl given machine first (given.signals place) (calls_at (Signal place) part.calls) known_signal (machine.signals place) (new.signals place) →
          NextKnownSignal now input table ixl given machine far chain onward place known_signal (items_after now (calls_at (Signal place) part.calls) (settled now first.client.link) (given.signals place)) part new new done known_signal.aspect known_signal.number
      next first is_first was = record {
        commands = was.fits.commands;
        stands = heard.0;
        outside = heard.1;
        moves = stays_so table new;
        others = λ n other. refl;
        points = refl;
        routes = refl;
        holding = refl;
        frozen = refl;
        stays = record { server = refl; done = refl };
        client = refl;
        aspects = λ inside still. was.fits.aspects inside;
        last = λ inside still counted risen. was.fits.last inside;
        totals = λ alive readable as_given. as_given ∙ sym (calls_say said_aspects known_signal.client.peer (no_aspects known_signal.client.peer readable) now done.calls known_signal.client.link
            (items_after now (calls_at (Signal place) part.calls) (settled now first.client.link) (given.signals place)) (datagram_calls now bytes known_signal.client part.outbox));
      } where
        heard : Standing now input known_signal.client.link (items_after now (calls_at (Signal place) part.calls) (settled now first.client.link) (given.signals place)) known_signal.client.peer was.fits.commands false 0 done
            × (is_outside done.client.stage ≡ not (is_up done.client.link.phase))
        heard = hears now input known_signal.client.link (items_after now (calls_at (Signal place) part.calls) (settled now first.client.link) (given.signals place)) known_signal.client.peer was.fits.commands false 0
            (λ e. absurd (false≢true e)) bytes (begun known_signal.client part.outbox) from (known_signal_begins place first known_signal part new was is_first)

    cases : (l : Option KnownSignalState) → slice_get part.ixl.known_signals place ≡ l → On (known_signal_hearing now bytes place part)
    cases None is = subst On (sym (known_signal_hearing_none bytes place part is)) (new, during)
    cases (Some known_signal) is = subst On (sym (known_signal_hearing_is bytes place part known_signal is)) (some known_signal is)

  -- ---- an aspect is given

  giving_aspect_is : (place : ℕ) (aspect : TelegramAspect) (part : StepSoFar) (known_signal : KnownSignalState) → slice_get part.ixl.known_signals place ≡ Some known_signal →
      giving_aspect now place aspect part ≡ with_known_signal place (known_signal_after (Some aspect) (commanding now (commands.Indicate aspect) (begun known_signal.client part.outbox)).client.link.given known_signal.indicated
      (commanding now (commands.Indicate aspect) (begun known_signal.client part.outbox)).client) (noted (Signal place) (commanding now (commands.Indicate aspect) (begun known_signal.client part.outbox)) part)
  unfolding giving_aspect
  giving_aspect_is place aspect part known_signal is = rw is refl

  -- Where the machine may give this aspect to the signal, an aspect that is given to a client that is ready is that; or its
  -- link closes.
  pub aspect_given_on : (place : ℕ) (aspect : TelegramAspect) (part : StepSoFar) (new : Machine) (known_signal : KnownSignalState) → During now input table ixl given machine part new → slice_get part.ixl.known_signals place ≡ Some known_signal →
      is_ready known_signal.client.stage ≡ true → MovesTo table new (with_signal place (aspect_given (aspect_seen aspect) (new.signals place)) new) → On (giving_aspect now place aspect part)
  aspect_given_on place aspect part new known_signal during is ready may = subst On (sym (giving_aspect_is place aspect part known_signal is)) (cases (is_inside now done.client.link) refl) where
    done : client.ClientSoFar
    done = commanding now (commands.Indicate aspect) (begun known_signal.client part.outbox)

    Was : KnownSignalState → Type 0
    Was first = KnownSignalDuring now input table ixl given machine first (given.signals place) (calls_at (Signal place) part.calls) known_signal (machine.signals place) (new.signals place)

    items : KnownSignalState → Items
    items first = items_after now (calls_at (Signal place) part.calls) (settled now first.client.link) (given.signals place)

    up : (first : KnownSignalState) → Was first → is_up known_signal.client.link.phase ≡ true
    up first was = up_where (is_up known_signal.client.link.phase) refl (sym (ready_inside known_signal.client.stage ready) ∙ was.fits.client.steady.outside) where
      up_where : (b : Bool) → is_up known_signal.client.link.phase ≡ b → false ≡ not (is_up known_signal.client.link.phase) → is_up known_signal.client.link.phase ≡ true
      up_where true e is = e
      up_where false e is = absurd (false≢true (is ∙ ap not e))

    sent : (first : KnownSignalState) (is_first : slice_get ixl.known_signals place ≡ Some first) (was : Was first) →
        Commanded now input known_signal.client.link (items first) known_signal.client.peer was.fits.commands false 0 (commands.Indicate aspect) done
    sent first is_first was = commands_on now input known_signal.client (items first) was.fits.commands false 0 part.outbox (commands.Indicate aspect)
        (known_signal_begins place first known_signal part new was is_first) (up first was) ready (λ e. absurd (false≢true e))

    between : Machine
    between = with_signal place (aspect_given (aspect_seen aspect) (new.signals place)) new

    here : between.signals place ≡ aspect_given (aspect_seen aspect) (new.signals place)
    here = at_here place (aspect_given (aspect_seen aspect) (new.signals place)) new.signals

    accepted : is_inside now done.client.link ≡ true → (first : KnownSignalState) → slice_get ixl.known_signals place ≡ Some first → Was first →
        NextKnownSignal now input table ixl given machine far chain onward place known_signal (items first) part new between done (Some aspect) done.client.link.given
    accepted arrives first is_first was = record {
      commands = was.fits.commands ++ commands.Indicate aspect ∷ [];
      stands = (sent first is_first was).stands;
      outside = (sent first is_first was).outside;
      moves = may;
      others = λ n other. at_other place (aspect_given (aspect_seen aspect) (new.signals place)) new.signals n other;
      points = refl;
      routes = refl;
      holding = refl;
      frozen = refl;
      stays = record { server = ap (λ (s : MachineSignal). s.link.server) here; done = ap (λ (s : MachineSignal). s.done) here };
      client = ap (λ (s : MachineSignal). s.link.client) here;
      aspects = λ inside still. ap aspects_given here ∙ sym (append_assoc (new.signals place).done (new.signals place).flight (aspect_seen aspect ∷ []))
          ∙ ap (λ list. list ++ aspect_seen aspect ∷ []) (was.fits.aspects inside) ∙ sym (map-append aspect_of was.fits.commands (commands.Indicate aspect ∷ []));
      last = λ inside still counted risen. (
        ap (last_of Stop) (map-append aspect_of was.fits.commands (commands.Indicate aspect ∷ [])) ∙ last_one Stop (aspects_of was.fits.commands) (aspect_seen aspect),
        counted ∙ ap length ((sent first is_first was).stands.given (inside_open now done.client.link still))
            ∙ given_length known_signal.client.peer done.client.stage (was.fits.commands ++ commands.Indicate aspect ∷ []) (still_ready first is_first was still risen),
      );
      totals = λ alive readable as_given. ap aspects_given here ∙ sym (append_assoc (new.signals place).done (new.signals place).flight (aspect_seen aspect ∷ []))
          ∙ ap (λ list. list ++ aspect_seen aspect ∷ []) as_given ∙ sym (one_more first is_first was readable);
    } where
      one_more : (first : KnownSignalState) (is_first : slice_get ixl.known_signals place ≡ Some first) (was : Was first) → IsReadable known_signal.client.peer →
          aspects_in (items_after now done.calls known_signal.client.link (items first)).given ≡ aspects_in (items first).given ++ aspect_seen aspect ∷ []
      one_more first is_first was readable =
          ap aspects_in ((sent first is_first was).more (inside_open now done.client.link arrives))
          ∙ said_one said_aspects (items first).given (item_of known_signal.client.peer (message_of (commands.Indicate aspect)))
          ∙ ap (λ read. aspects_in (items first).given ++ said_by said_aspects read) (readable.commands (commands.Indicate aspect))
          ∙ ap (λ one. aspects_in (items first).given ++ one ∷ []) (same_aspect aspect)

      still_ready : (first : KnownSignalState) (is_first : slice_get ixl.known_signals place ≡ Some first) (was : Was first) → is_inside now done.client.link ≡ true → is_outside done.client.stage ≡ false → is_ready done.client.stage ≡ true
      still_ready first is_first was still risen = cases (is_ready done.client.stage) refl where
        cases : (b : Bool) → is_ready done.client.stage ≡ b → is_ready done.client.stage ≡ true
        cases true e = e
        cases false e = absurd (none_more was.fits.commands (commands.Indicate aspect) ((sent first is_first was).stands.early (inside_open now done.client.link still) e))

    refused : is_inside now done.client.link ≡ false → (first : KnownSignalState) → slice_get ixl.known_signals place ≡ Some first → Was first →
        NextKnownSignal now input table ixl given machine far chain onward place known_signal (items first) part new new done (Some aspect) done.client.link.given
    refused shut first is_first was = record {
      commands = was.fits.commands ++ commands.Indicate aspect ∷ [];
      stands = (sent first is_first was).stands;
      outside = (sent first is_first was).outside;
      moves = stays_so table new;
      others = λ n other. refl;
      points = refl;
      routes = refl;
      holding = refl;
      frozen = refl;
      stays = record { server = refl; done = refl };
      client = refl;
      aspects = λ inside still. absurd (true≢false (sym still ∙ shut));
      last = λ inside still counted risen. absurd (true≢false (sym still ∙ shut));
      totals = λ alive readable as_given. as_given ∙ ap aspects_in (sym ((sent first is_first was).refused (shut_not_open (is_open done.client.link.phase) refl alive shut)));
    }

    cases : (b : Bool) → is_inside now done.client.link ≡ b → On (with_known_signal place (known_signal_after (Some aspect) done.client.link.given known_signal.indicated done.client) (noted (Signal place) done part))
    cases true e = known_signal_next now input table ixl given machine far chain onward place known_signal part new between done (Some aspect) done.client.link.given known_signal.indicated during is (accepted e)
    cases false e = known_signal_next now input table ixl given machine far chain onward place known_signal part new new done (Some aspect) done.client.link.given known_signal.indicated during is (refused e)
