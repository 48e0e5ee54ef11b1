-- A tick at one signal, and at one point.
use Rattle.std.proofs.Common.{inr, ◌≡◌, ℕ, Bool, true, false, List, [], ◌∷◌, ◌++◌, append_assoc, length, refl, sym, ap, subst, ◌∙◌}
use Rattle.std.specs.Prelude.{if◌then◌else◌, Option, Some, None, slice_get}
use Rattle.std.specs.FinSet.{empty}
use Rattle.ixl_spec.specs.bit_row.Places.{Places}
use Rattle.ixl_spec.specs.sci_telegram.declared.message.Aspect.{Aspect as TelegramAspect}
use Rattle.ixl_spec.specs.sci_telegram.declared.message.Side.{Side as TelegramSide}
use Rattle.ixl_spec.specs.rasta_core.Calls.{opens, ticking as link_ticking}
use Rattle.ixl_spec.specs.rasta_core.Clock.{settled}
use Rattle.ixl_spec.specs.rasta_core.State.{LinkState, is_client, is_open, is_up}
use Rattle.ixl_spec.specs.ixl_client.Client.{ClientState, PeerState}
use Rattle.ixl_spec.specs.ixl_client.Made.{link_after, told_by_all}
use Rattle.ixl_spec.specs.ixl_client.ClientSoFar.{LinkCall, Opens, Ticks, call_made}
use Rattle.ixl_spec.specs.ixl_client.Step.{fallen}
use Rattle.ixl_spec.specs.ixl_client.declared.stage.Stage.TheVariants as stage
use Rattle.ixl_spec.specs.StepSoFar.{known_signal_after, known_point_after}
use Rattle.ixl_spec.specs.State.{IxlState, KnownSignalState, KnownPointState}
use Rattle.ixl_spec.specs.Step.{Tick}
use Rattle.ixl_spec.specs.View.{is_holding}
use Rattle.simulator_machine.specs.Chains.{MovesTo, PointMayChain, SignalMayChain, point_chained, signal_chained}
use Rattle.simulator_machine.specs.Link.{Opens as LinkOpens, QuietEnds}
use Rattle.simulator_machine.specs.Machine.{Machine, with_point, with_signal}
use Rattle.simulator_machine.specs.Point.{Point as MachinePoint, PointLink, PointMove}
use Rattle.simulator_machine.specs.Signal.{Signal as MachineSignal, SignalLink, SignalMove}
use Rattle.simulator_machine.specs.Table.{Table}
use Rattle.simulator_move_laws.specs.Behind.{KnownSignalBehind, KnownPointBehind}
use Rattle.simulator_move_laws.specs.Calls.{Items, has_begun, items_after, no_items}
use Rattle.simulator_move_laws.specs.MachineSoFar.{KnownSignalDuring, KnownPointDuring}
use Rattle.simulator_move_laws.specs.Facts.{AreCallsIn, FarEnds, PointFacts, SignalFacts}
use Rattle.simulator_move_laws.specs.Link.{is_inside}
use Rattle.simulator_move_laws.specs.Nodes.{IsOfPoint, KnownSignalFits, KnownPointFits}
use Rattle.simulator_move_laws.specs.Sees.{Given, IsClosedSince}
use Rattle.simulator_move_laws.specs.Items.{all_said, aspects_in, moves_in}
use Rattle.simulator_move_laws.specs.Step.{PointIsLeft, SignalIsLeft}
use Rattle.simulator_move_laws.specs.Totals.{KeepsAspects, KeepsMoves}
use Rattle.simulator_move_laws.specs.Telegrams.{AreHeard, positions_told}
use Rattle.simulator_move_laws.proofs.Interlocking.Places.{inside_start, open_inside}
use Rattle.simulator_move_laws.proofs.Interlocking.Calls.{ticking_goes}
use Rattle.simulator_move_laws.proofs.Interlocking.Clients.{calls_then, items_one, items_then, link_one, link_then}
use Rattle.simulator_move_laws.proofs.Interlocking.Signals.{PointGoes, SignalGoes}
use Rattle.simulator_move_laws.proofs.Interlocking.MachineSoFar.{known_signal_arrives, known_signal_client, known_signal_facts, signal_facts_stay, stays_closed}
use Rattle.simulator_move_laws.proofs.Interlocking.KnownPoint.{point_facts_stay, known_point_arrives, known_point_client, known_point_facts}
use Rattle.simulator_move_laws.proofs.Interlocking.Made.{link_quiet}
use Rattle.simulator_move_laws.proofs.Interlocking.Entered.{TickedAnew, TickedOn, down_at, opens_down, point_facts_entered, signal_facts_entered, ticked_link, ticks_anew, ticks_on}
use Rattle.simulator_move_laws.proofs.Interlocking.ClientFits.{fallen_link}
use Rattle.simulator_move_laws.proofs.Interlocking.ClientTicks.{anew_fits, anew_outside, begins_where_opened, fallen_peer, still_down, ticks_take, two_calls, two_take, went_fits, went_inside, went_link, went_stage}

-- moves of one signal, or of one point, that come to this
pub record SignalComes (Is : MachineSignal → Type 0) (old : MachineSignal) : Type 0 where
  pub moves : List SignalMove
  pub may : SignalMayChain moves old
  pub is : Is (signal_chained moves old)

pub record PointComes (Is : MachinePoint → Type 0) (old : MachinePoint) : Type 0 where
  pub moves : List PointMove
  pub may : PointMayChain moves old
  pub is : Is (point_chained moves old)

known_signal_anew : (aspect : Option TelegramAspect) (number : ℕ) (indicated : Option TelegramAspect) (client : ClientState) (link : LinkState) → is_up link.phase ≡ false →
    known_signal_after aspect number indicated (fallen (record client { link = link })) ≡ record { client = record client { link = link; stage = stage.Outside }; aspect = None; number = 0; indicated = None }
unfolding known_signal_after
known_signal_anew aspect number indicated client link down = ap (known_signal_after aspect number indicated) (anew_outside client link down)

known_point_anew : (side : Option TelegramSide) (moved : Places) (client : ClientState) (link : LinkState) → is_up link.phase ≡ false →
    known_point_after side moved (fallen (record client { link = link })) ≡ record { client = record client { link = link; stage = stage.Outside }; side = None; moved = empty }
unfolding known_point_after
known_point_anew side moved client link down = ap (known_point_after side moved) (anew_outside client link down)

none_told : (peer : PeerState) → [] ≡ positions_told peer []
unfolding told_by_all
none_told peer = refl

-- a connection that was just begun has none
none_aspects : [] ≡ aspects_in []
unfolding all_said
none_aspects = refl

none_moves : 0 ≡ length (moves_in [])
unfolding all_said
none_moves = refl

module _ (now : ℕ) (table : Table) (ixl : IxlState) (given : Given) (machine : Machine) (far : FarEnds now Tick ixl given machine) where
  -- ---- a signal

  module _ (chain : (machine : Machine) (place : ℕ) (moves : List SignalMove) → SignalMayChain moves (machine.signals place)
      → MovesTo table machine (with_signal place (signal_chained moves (machine.signals place)) machine))
      (onward : (old between new : Machine) → MovesTo table old between → MovesTo table between new → MovesTo table old new) where
    pub known_signal_ticks : (place : ℕ) (first known_signal : KnownSignalState) (calls : List LinkCall) (new : MachineSignal) → slice_get ixl.known_signals place ≡ Some first →
        KnownSignalDuring now Tick table ixl given machine first (given.signals place) calls known_signal (machine.signals place) new →
        SignalComes (KnownSignalBehind now Tick table ixl given machine first (given.signals place) (calls ++ Ticks ∷ Opens ∷ [])
        (known_signal_after known_signal.aspect known_signal.number known_signal.indicated (fallen (record known_signal.client { link = ticked_link now known_signal.client.link }))) (machine.signals place)) new
    known_signal_ticks place first known_signal calls new is_first was = cases (opens now between) refl where
      start : LinkState
      start = settled now first.client.link

      items : Items
      items = items_after now calls start (given.signals place)

      ticked : List LinkCall
      ticked = calls ++ Ticks ∷ []

      behind : List LinkCall
      behind = calls ++ Ticks ∷ Opens ∷ []

      between : LinkState
      between = (link_ticking now known_signal.client.link).link

      link : LinkState
      link = ticked_link now known_signal.client.link

      client : ClientState
      client = fallen (record known_signal.client { link = link })

      known_signal_now : KnownSignalState
      known_signal_now = known_signal_after known_signal.aspect known_signal.number known_signal.indicated client

      client_now : known_signal_now.client ≡ client
      client_now = known_signal_client now Tick table ixl given machine far chain onward known_signal.aspect known_signal.number known_signal.indicated client

      link_now : known_signal_now.client.link ≡ link
      link_now = ap (λ (c : ClientState). c.link) client_now ∙ fallen_link (record known_signal.client { link = link })

      are : AreCallsIn Tick first.client.peer ticked
      are = calls_then Tick first.client.peer calls (Ticks ∷ []) was.are (tt, tt)

      made_between : between ≡ link_after now ticked start
      made_between = ap (λ l. (call_made now Ticks l).link) was.made ∙ sym (link_one now Ticks (link_after now calls start)) ∙ sym (link_then now calls (Ticks ∷ []) start)

      items_between : items_after now ticked start (given.signals place) ≡ items
      items_between = items_then now calls (Ticks ∷ []) start (given.signals place) ∙ items_one now Ticks (link_after now calls start) items ∙ ticks_take now (link_after now calls start) items

      facts : SignalFacts now between items new
      facts = subst (λ l. SignalFacts now l items new) (sym made_between) (subst (λ i. SignalFacts now (link_after now ticked start) i new) items_between
          (signal_facts_stay now (link_after now ticked start) (items_after now ticked start (given.signals place)) (machine.signals place) new was.stays (far.signals place first is_first ticked are)))

      alive : is_open known_signal.client.link.phase ≡ true → is_inside now known_signal.client.link ≡ true
      alive = open_inside now known_signal.client.link (known_signal_facts now Tick table ixl given machine far chain onward place first known_signal calls new is_first was.are was.made was.stays).ends.alive

      made : link ≡ link_after now behind start
      made = ap (ticked_link now) was.made ∙ sym (two_calls now (link_after now calls start)) ∙ sym (link_then now calls (Ticks ∷ Opens ∷ []) start)

      items_are : items_after now behind start (given.signals place) ≡ (if opens now between then no_items else items)
      items_are = items_then now calls (Ticks ∷ Opens ∷ []) start (given.signals place) ∙ two_take now (link_after now calls start) items
          ∙ ap (λ l. if opens now (link_ticking now l).link then no_items else items) (sym was.made)

      begins : has_begun now behind start ≡ opens now between
      begins = begins_where_opened now Tick first.client.peer calls start known_signal.client.link was.are was.made

      comes : (b : Bool) → opens now between ≡ b → (arrived : MachineSignal) → KnownSignalFits now known_signal_now (if b then no_items else items) arrived → (is_holding now ixl ≡ true → IsClosedSince ixl.created link) →
          SignalIsLeft b (machine.signals place) arrived → KeepsAspects first.client.peer (given.signals place) (if b then no_items else items) (machine.signals place) arrived → KnownSignalBehind now Tick table ixl given machine first (given.signals place) behind known_signal_now (machine.signals place) arrived
      comes b is arrived fits held left told = record {
        fits = subst (λ i. KnownSignalFits now known_signal_now i arrived) (sym (items_are ∙ ap (λ b. if b then no_items else items) is)) fits;
        held = λ holds. subst (IsClosedSince ixl.created) (sym link_now) (held holds);
        are = inr (ticked, are, sym (append_assoc calls (Ticks ∷ []) (Opens ∷ [])), refl);
        made = link_now ∙ made;
        same = ap (λ (c : ClientState). c.peer) client_now ∙ fallen_peer (record known_signal.client { link = link }) ∙ was.same;
        left = subst (λ b. SignalIsLeft b (machine.signals place) arrived) (sym (begins ∙ is)) left;
        totals = λ readable as_given. told readable as_given ∙ ap (λ (i : Items). aspects_in i.given) (sym (items_are ∙ ap (λ b. if b then no_items else items) is));
      }

      Goal : Type 0
      Goal = SignalComes (KnownSignalBehind now Tick table ixl given machine first (given.signals place) behind known_signal_now (machine.signals place)) new

      on : opens now between ≡ false → Goal
      on none = record {
        moves = goes.moves;
        may = goes.may;
        is = comes false none (signal_chained goes.moves new) goes.fits
            (λ holds. stays_closed ixl.created known_signal.client.link link it.goes (was.held holds))
            (record { server = goes.stays.server ∙ was.stays.server; done = goes.stays.done ∙ was.stays.done })
            (λ readable as_given. goes.given ∙ was.totals readable as_given);
      }
        where
          it : TickedOn now known_signal.client.link
          it = ticks_on now known_signal.client.link none

          link_went : client.link ≡ link
          link_went = went_link now known_signal.client link it.goes it.up alive

          facts_now : SignalFacts now client.link items new
          facts_now = subst (λ l. SignalFacts now l items new) (sym link_went) (subst (λ l. SignalFacts now l items new) (sym it.is) (signal_facts_entered now between items new facts))

          inside : is_inside now client.link ≡ true → is_inside now link ≡ true
          inside is = ap (is_inside now) (sym link_went) ∙ is

          was_in : is_inside now client.link ≡ true → is_inside now known_signal.client.link ≡ true
          was_in is = went_inside now known_signal.client link it.goes it.up alive (inside is)

          goes : SignalGoes (KnownSignalFits now known_signal_now items) new
          goes = known_signal_arrives now Tick table ixl given machine far chain onward known_signal.aspect known_signal.number known_signal.indicated client items was.fits.commands new (went_fits now known_signal.client link it.goes it.up alive items was.fits.commands was.fits.client)
              facts_now (λ is. was.fits.aspects (was_in is)) (λ is out. was.fits.last (was_in is))
              (λ is down. was.fits.place ∙ inside_start now known_signal.client.link (was_in is)
              (still_down now known_signal.client link it.goes it.up alive (inside is) (ap (λ (l : LinkState). is_up l.phase) (sym link_went) ∙ down)))

      anew : opens now between ≡ true → Goal
      anew some = record {
        moves = SignalLink QuietEnds ∷ SignalLink LinkOpens ∷ [];
        may = (facts.ends.quiet (down_at now between (opens_down now between some)), (refl, tt));
        is = comes true some _ fits
            (λ holds. absurd (cc (link_quiet now ixl holds between (stays_closed ixl.created known_signal.client.link between (ticking_goes now known_signal.client.link) (was.held holds)), opens_down now between some)))
            (record { server = refl; done = refl })
            (λ readable as_given. none_aspects);
      }
        where
          it : TickedAnew now known_signal.client.link
          it = ticks_anew now known_signal.client.link some

          down : is_up link.phase ≡ false
          down = ap is_up it.phase

          fits : KnownSignalFits now known_signal_now no_items (signal_chained (SignalLink QuietEnds ∷ SignalLink LinkOpens ∷ []) new)
          fits = subst (λ l. KnownSignalFits now l no_items (signal_chained (SignalLink QuietEnds ∷ SignalLink LinkOpens ∷ []) new)) (sym (known_signal_anew known_signal.aspect known_signal.number known_signal.indicated known_signal.client link down)) (record {
            commands = [];
            client = anew_fits now known_signal.client link down (ap (λ i. is_client i.role) it.identity ∙ was.fits.client.steady.opens);
            place = sym it.place;
            aspects = λ inside. refl;
            last = λ inside. refl;
            confirmed = λ e. absurd (cc (e));
          })

      cases : (b : Bool) → opens now between ≡ b → Goal
      cases true some = anew some
      cases false none = on none

  -- ---- a point

  module _ (chain : (machine : Machine) (place : ℕ) (moves : List PointMove) → PointMayChain moves (machine.points place)
      → MovesTo table machine (with_point place (point_chained moves (machine.points place)) machine))
      (onward : (old between new : Machine) → MovesTo table old between → MovesTo table between new → MovesTo table old new) where
    pub known_point_ticks : (place : ℕ) (first known_point : KnownPointState) (calls : List LinkCall) (new : MachinePoint) → slice_get ixl.known_points place ≡ Some first →
        KnownPointDuring now Tick table ixl given machine first (given.points place) calls known_point (machine.points place) new →
        PointComes (KnownPointBehind now Tick table ixl given machine first (given.points place) (calls ++ Ticks ∷ Opens ∷ [])
        (known_point_after known_point.side known_point.moved (fallen (record known_point.client { link = ticked_link now known_point.client.link }))) (machine.points place)) new
    known_point_ticks place first known_point calls new is_first was = cases (opens now between) refl where
      start : LinkState
      start = settled now first.client.link

      items : Items
      items = items_after now calls start (given.points place)

      ticked : List LinkCall
      ticked = calls ++ Ticks ∷ []

      behind : List LinkCall
      behind = calls ++ Ticks ∷ Opens ∷ []

      between : LinkState
      between = (link_ticking now known_point.client.link).link

      link : LinkState
      link = ticked_link now known_point.client.link

      client : ClientState
      client = fallen (record known_point.client { link = link })

      known_point_now : KnownPointState
      known_point_now = known_point_after known_point.side known_point.moved client

      client_now : known_point_now.client ≡ client
      client_now = known_point_client now Tick table ixl given machine far chain onward known_point.side known_point.moved client

      link_now : known_point_now.client.link ≡ link
      link_now = ap (λ (c : ClientState). c.link) client_now ∙ fallen_link (record known_point.client { link = link })

      peer_now : client.peer ≡ known_point.client.peer
      peer_now = fallen_peer (record known_point.client { link = link })

      are : AreCallsIn Tick first.client.peer ticked
      are = calls_then Tick first.client.peer calls (Ticks ∷ []) was.are (tt, tt)

      made_between : between ≡ link_after now ticked start
      made_between = ap (λ l. (call_made now Ticks l).link) was.made ∙ sym (link_one now Ticks (link_after now calls start)) ∙ sym (link_then now calls (Ticks ∷ []) start)

      items_between : items_after now ticked start (given.points place) ≡ items
      items_between = items_then now calls (Ticks ∷ []) start (given.points place) ∙ items_one now Ticks (link_after now calls start) items ∙ ticks_take now (link_after now calls start) items

      facts : PointFacts now first.client.peer between items new
      facts = subst (λ l. PointFacts now first.client.peer l items new) (sym made_between) (subst (λ i. PointFacts now first.client.peer (link_after now ticked start) i new) items_between
          (point_facts_stay now first.client.peer (link_after now ticked start) (items_after now ticked start (given.points place)) (machine.points place) new was.stays (far.points place first is_first ticked are)))

      alive : is_open known_point.client.link.phase ≡ true → is_inside now known_point.client.link ≡ true
      alive = open_inside now known_point.client.link (known_point_facts now Tick table ixl given machine far chain onward place first known_point calls new is_first was.are was.made was.stays).ends.alive

      made : link ≡ link_after now behind start
      made = ap (ticked_link now) was.made ∙ sym (two_calls now (link_after now calls start)) ∙ sym (link_then now calls (Ticks ∷ Opens ∷ []) start)

      items_are : items_after now behind start (given.points place) ≡ (if opens now between then no_items else items)
      items_are = items_then now calls (Ticks ∷ Opens ∷ []) start (given.points place) ∙ two_take now (link_after now calls start) items
          ∙ ap (λ l. if opens now (link_ticking now l).link then no_items else items) (sym was.made)

      begins : has_begun now behind start ≡ opens now between
      begins = begins_where_opened now Tick first.client.peer calls start known_point.client.link was.are was.made

      comes : (b : Bool) → opens now between ≡ b → (arrived : MachinePoint) → KnownPointFits now known_point_now (if b then no_items else items) arrived → (is_holding now ixl ≡ true → IsClosedSince ixl.created link) →
          PointIsLeft b (machine.points place) arrived → KeepsMoves first.client.peer (given.points place) (if b then no_items else items) (machine.points place) arrived → KnownPointBehind now Tick table ixl given machine first (given.points place) behind known_point_now (machine.points place) arrived
      comes b is arrived fits held left told = record {
        fits = subst (λ i. KnownPointFits now known_point_now i arrived) (sym (items_are ∙ ap (λ b. if b then no_items else items) is)) fits;
        held = λ holds. subst (IsClosedSince ixl.created) (sym link_now) (held holds);
        are = inr (ticked, are, sym (append_assoc calls (Ticks ∷ []) (Opens ∷ [])), refl);
        made = link_now ∙ made;
        same = ap (λ (c : ClientState). c.peer) client_now ∙ peer_now ∙ was.same;
        left = subst (λ b. PointIsLeft b (machine.points place) arrived) (sym (begins ∙ is)) left;
        totals = λ readable as_given. told readable as_given ∙ ap (λ (i : Items). length (moves_in i.given)) (sym (items_are ∙ ap (λ b. if b then no_items else items) is));
      }

      Goal : Type 0
      Goal = PointComes (KnownPointBehind now Tick table ixl given machine first (given.points place) behind known_point_now (machine.points place)) new

      on : opens now between ≡ false → Goal
      on none = record {
        moves = goes.moves;
        may = goes.may;
        is = comes false none (point_chained goes.moves new) goes.fits
            (λ holds. stays_closed ixl.created known_point.client.link link it.goes (was.held holds))
            (record { server = goes.stays.server ∙ was.stays.server; taken = goes.stays.taken ∙ was.stays.taken; reports = goes.stays.reports ∙ was.stays.reports; driven = goes.stays.driven ∙ was.stays.driven; position = goes.stays.position ∙ was.stays.position })
            (λ readable as_given. goes.given ∙ was.totals readable as_given);
      }
        where
          it : TickedOn now known_point.client.link
          it = ticks_on now known_point.client.link none

          link_went : client.link ≡ link
          link_went = went_link now known_point.client link it.goes it.up alive

          facts_now : PointFacts now first.client.peer client.link items new
          facts_now = subst (λ l. PointFacts now first.client.peer l items new) (sym link_went) (subst (λ l. PointFacts now first.client.peer l items new) (sym it.is) (point_facts_entered now first.client.peer between items new facts))

          inside : is_inside now client.link ≡ true → is_inside now link ≡ true
          inside is = ap (is_inside now) (sym link_went) ∙ is

          was_in : is_inside now client.link ≡ true → is_inside now known_point.client.link ≡ true
          was_in is = went_inside now known_point.client link it.goes it.up alive (inside is)

          goes : PointGoes (KnownPointFits now known_point_now items) new
          goes = known_point_arrives now Tick table ixl given machine far chain onward known_point.side known_point.moved client items was.fits.commands new (went_fits now known_point.client link it.goes it.up alive items was.fits.commands was.fits.client)
              (subst IsOfPoint (sym peer_now) was.fits.peer) facts_now.ends (λ is. was.fits.moves (was_in is))
              (λ is. was.fits.told (was_in is) ∙ ap (λ p. positions_told p items.taken) (sym peer_now))
              (λ is. subst (λ s. AreHeard s (length new.heard) (length was.fits.commands)) (sym (went_stage now known_point.client link it.goes it.up alive was.fits.client.steady (inside is))) (was.fits.heard (was_in is)))
              (λ is out. was.fits.last (was_in is))
              (λ is down. was.fits.place ∙ inside_start now known_point.client.link (was_in is)
              (still_down now known_point.client link it.goes it.up alive (inside is) (ap (λ (l : LinkState). is_up l.phase) (sym link_went) ∙ down)))

      anew : opens now between ≡ true → Goal
      anew some = record {
        moves = PointLink QuietEnds ∷ PointLink LinkOpens ∷ [];
        may = (facts.ends.quiet (down_at now between (opens_down now between some)), (refl, tt));
        is = comes true some _ fits
            (λ holds. absurd (cc (link_quiet now ixl holds between (stays_closed ixl.created known_point.client.link between (ticking_goes now known_point.client.link) (was.held holds)), opens_down now between some)))
            (record { server = refl; taken = refl; reports = refl; driven = was.stays.driven; position = was.stays.position })
            (λ readable as_given. none_moves);
      }
        where
          it : TickedAnew now known_point.client.link
          it = ticks_anew now known_point.client.link some

          down : is_up link.phase ≡ false
          down = ap is_up it.phase

          fits : KnownPointFits now known_point_now no_items (point_chained (PointLink QuietEnds ∷ PointLink LinkOpens ∷ []) new)
          fits = subst (λ l. KnownPointFits now l no_items (point_chained (PointLink QuietEnds ∷ PointLink LinkOpens ∷ []) new)) (sym (known_point_anew known_point.side known_point.moved known_point.client link down)) (record {
            commands = [];
            client = anew_fits now known_point.client link down (ap (λ i. is_client i.role) it.identity ∙ was.fits.client.steady.opens);
            peer = was.fits.peer;
            place = sym it.place;
            moves = λ inside. refl;
            told = λ inside. none_told known_point.client.peer;
            heard = λ inside. refl;
            last = λ inside. refl;
          })

      cases : (b : Bool) → opens now between ≡ b → Goal
      cases true some = anew some
      cases false none = on none
