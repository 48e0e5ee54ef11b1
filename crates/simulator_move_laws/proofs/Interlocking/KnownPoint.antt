-- A step so far, where a point's client does something.
use Rattle.std.proofs.Common.{◌≡◌, ℕ, Bool, true, false, not, List, [], ◌∷◌, ◌++◌, length, map, refl, sym, ap, subst, ◌∙◌, arith}
use Rattle.std.specs.Prelude.{Option, Some, None, slice_get}
use Rattle.std.proofs.lemmas.Bool.{true≢false, false≢true}
use Rattle.std.specs.FinSet.{empty}
use Rattle.ixl_spec.specs.bit_row.Places.{Places}
use Rattle.ixl_spec.specs.sci_telegram.declared.message.Side.{Side as TelegramSide}
use Rattle.ixl_spec.specs.rasta_core.Clock.{settled}
use Rattle.ixl_spec.specs.rasta_core.State.{LinkState, is_open, is_up}
use Rattle.ixl_spec.specs.ixl_client.Client.{ClientState, PeerState, is_outside}
use Rattle.ixl_spec.specs.ixl_client.declared.stage.Stage.{Stage}
use Rattle.ixl_spec.specs.ixl_client.declared.stage.Stage.TheVariants as stage
use Rattle.ixl_spec.specs.ixl_client.Made.{link_after}
use Rattle.ixl_spec.specs.ixl_client.ClientSoFar as client
use Rattle.ixl_spec.specs.ixl_client.ClientSoFar.{LinkCall, begun}
use Rattle.ixl_spec.specs.ixl_client.declared.command.Command.{Command}
use Rattle.ixl_spec.specs.StepSoFar.{Signal, Point, StepSoFar, noted, known_point_after, with_known_point}
use Rattle.ixl_spec.specs.State.{IxlState, KnownPointState, changed}
use Rattle.ixl_spec.specs.Step.{Input}
use Rattle.simulator_machine.specs.Lists.{is_same, changed_at, last_of}
use Rattle.simulator_machine.specs.Link.{Start}
use Rattle.simulator_machine.specs.Signal.{Signal as MachineSignal}
use Rattle.simulator_machine.specs.Point.{Point as MachinePoint, PointMove, Position, moves_given}
use Rattle.simulator_machine.specs.Machine.{Machine, with_point}
use Rattle.simulator_machine.specs.Table.{Table}
use Rattle.simulator_machine.specs.Chains.{MovesTo, PointMayChain, point_chained}
use Rattle.simulator_move_laws.specs.Calls.{Items, calls_at, items_after}
use Rattle.simulator_move_laws.specs.Facts.{AreCallsIn, FarEnds, LinkFacts, PointFacts}
use Rattle.simulator_move_laws.specs.Link.{ClientFits, is_inside}
use Rattle.simulator_move_laws.specs.Nodes.{IsOfPoint, KnownPointFits}
use Rattle.simulator_move_laws.specs.Sees.{Given, IsClosedSince}
use Rattle.simulator_move_laws.specs.Step.{PointStays}
use Rattle.simulator_move_laws.specs.Telegrams.{AreHeard, position_seen, positions_told}
use Rattle.simulator_move_laws.specs.Items.{moves_in}
use Rattle.simulator_move_laws.specs.Totals.{IsReadable, KeepsMoves}
use Rattle.simulator_move_laws.proofs.Interlocking.Tests.{by_test}
use Rattle.simulator_move_laws.proofs.Interlocking.Phases.{Goes, stays_open, stays_up}
use Rattle.simulator_move_laws.proofs.Interlocking.Places.{inside_open, inside_start, open_inside}
use Rattle.simulator_move_laws.proofs.Interlocking.Clients.{Standing, calls_go, calls_then, items_then, link_then}
use Rattle.simulator_move_laws.proofs.Interlocking.ClientFits.{fits_behind}
use Rattle.simulator_move_laws.proofs.Interlocking.Signals.{PointGoes, point_arrives}
use Rattle.simulator_move_laws.proofs.Interlocking.Changes.{at_here, at_other, changed_elsewhere, changed_here, noted_elsewhere, noted_here, same_is, same_self}
use Rattle.simulator_move_laws.specs.MachineSoFar.{During, Leads, KnownSignalSoFar, KnownPointDuring, KnownPointSoFar}
use Rattle.simulator_move_laws.proofs.Interlocking.MachineSoFar.{stays_closed}

-- outside no report was heard
pub none_heard : (s : Stage) (list : List Position) (n : ℕ) → is_outside s ≡ true → AreHeard s (length list) n → last_of None list ≡ None
none_heard stage.Outside [] n out heard = refl
none_heard stage.Outside (first ∷ others) n out heard = absurd (omega (arith, heard))
none_heard stage.AwaitsAnswer list n out heard = absurd (false≢true out)
none_heard stage.AwaitsStart list n out heard = absurd (false≢true out)
none_heard (stage.AwaitsStatus left) list n out heard = absurd (false≢true out)
none_heard stage.Completed list n out heard = absurd (false≢true out)
none_heard stage.AwaitsReport list n out heard = absurd (false≢true out)

-- what changes nothing of the far end changes no fact of it
pub point_facts_stay : (now : ℕ) (peer : PeerState) (link : LinkState) (items : Items) (old new : MachinePoint) → PointStays old new → PointFacts now peer link items old → PointFacts now peer link items new
point_facts_stay now peer link items old new stays facts = record {
  ends = record {
    up = λ is before. facts.ends.up is (sym stays.server ∙ before);
    quiet = λ is inside. facts.ends.quiet is (sym stays.server ∙ inside);
    alive = facts.ends.alive;
    counted = facts.ends.counted;
  };
  reports = λ is. ((facts.reports is).0, stays.reports ∙ (facts.reports is).1);
}

module _ (now : ℕ) (input : Input) (table : Table) (ixl : IxlState) (given : Given) (machine : Machine) where
  module _ (far : FarEnds now input ixl given machine) (chain : (machine : Machine) (place : ℕ) (moves : List PointMove) → PointMayChain moves (machine.points place)
      → MovesTo table machine (with_point place (point_chained moves (machine.points place)) machine))
      (onward : (old between new : Machine) → MovesTo table old between → MovesTo table between new → MovesTo table old new) where
    -- the facts at a point
    pub known_point_facts : (place : ℕ) (first known_point : KnownPointState) (calls : List LinkCall) (new : MachinePoint) → slice_get ixl.known_points place ≡ Some first → AreCallsIn input first.client.peer calls →
        known_point.client.link ≡ link_after now calls (settled now first.client.link) → PointStays (machine.points place) new →
        PointFacts now first.client.peer known_point.client.link (items_after now calls (settled now first.client.link) (given.points place)) new
    known_point_facts place first known_point calls new is are made stays =
        subst (λ l. PointFacts now first.client.peer l (items_after now calls (settled now first.client.link) (given.points place)) new) (sym made)
        (point_facts_stay now first.client.peer (link_after now calls (settled now first.client.link)) (items_after now calls (settled now first.client.link) (given.points place)) (machine.points place) new stays
        (far.points place first is calls are))

    -- What a point's client does next, after these moves of the machine that leave all else as it is, comes to a point that
    -- notes this side.
    pub record NextKnownPoint (place : ℕ) (known_point : KnownPointState) (items : Items) (part : StepSoFar) (old between : Machine) (done : client.ClientSoFar) (side : Option TelegramSide) : Type 0 where
      pub commands : List Command
      pub counted : ℕ
      pub stands : Standing now input known_point.client.link items known_point.client.peer commands true counted done
      pub outside : is_outside done.client.stage ≡ not (is_up done.client.link.phase)
      pub moves : MovesTo table old between
      pub others : (n : ℕ) → is_same n place ≡ false → between.points n ≡ old.points n
      pub signals : between.signals ≡ old.signals
      pub routes : between.routes ≡ old.routes
      pub holding : between.holding ≡ old.holding
      pub frozen : between.frozen ≡ old.frozen
      pub stays : PointStays (old.points place) (between.points place)
      pub client : (between.points place).link.client ≡ (old.points place).link.client
      pub commanded : is_inside now known_point.client.link ≡ true → is_inside now done.client.link ≡ true → moves_given (between.points place) ≡ length commands
      pub told : is_inside now known_point.client.link ≡ true → is_inside now done.client.link ≡ true → (between.points place).heard ≡ positions_told known_point.client.peer (items_after now done.calls known_point.client.link items).taken
      pub heard : is_inside now known_point.client.link ≡ true → is_inside now done.client.link ≡ true → AreHeard done.client.stage (length (between.points place).heard) (length commands)
      pub last : is_inside now known_point.client.link ≡ true → is_inside now done.client.link ≡ true → is_outside done.client.stage ≡ false → last_of None (between.points place).heard ≡ position_seen side
      -- where an open link is inside, as it is in a step
      pub totals : (is_open done.client.link.phase ≡ true → is_inside now done.client.link ≡ true) →
          KeepsMoves known_point.client.peer items (items_after now done.calls known_point.client.link items) (old.points place) (between.points place)

    -- the point that the signal had at the beginning
    pub first_known_point : (first current : Option KnownPointState) (known_point : KnownPointState) (before : Items) (calls : List LinkCall) (old new : MachinePoint) → current ≡ Some known_point →
        KnownPointSoFar now input table ixl given machine first before calls current old new → (one : KnownPointState) × (first ≡ Some one) × KnownPointDuring now input table ixl given machine one before calls known_point old new
    first_known_point None None known_point before calls old new is so_far = absurd (cc (is))
    first_known_point None (Some other) known_point before calls old new is so_far = absurd so_far
    first_known_point (Some one) None known_point before calls old new is so_far = absurd so_far
    first_known_point (Some one) (Some other) known_point before calls old new is so_far = (one, refl, subst (λ (l : Option KnownPointState). KnownPointSoFar now input table ixl given machine (Some one) before calls l old new) is so_far)

    pub known_point_client : (side : Option TelegramSide) (moved : Places) (client : ClientState) → (known_point_after side moved client).client ≡ client
    unfolding known_point_after
    known_point_client side moved client = by_test (λ (l : KnownPointState). l.client ≡ client) (is_outside client.stage) (record { client = client; side = None; moved = empty })
        (record { client = client; side = side; moved = moved }) (λ e. refl) (λ e. refl)

    -- a point that is outside notes no side, and heard none
    pub known_point_arrives : (side : Option TelegramSide) (moved : Places) (client : ClientState) (items : Items) (commands : List Command) (point : MachinePoint) → ClientFits now client items commands → IsOfPoint client.peer →
        LinkFacts now client.link items point.link → (is_inside now client.link ≡ true → moves_given point ≡ length commands) →
        (is_inside now client.link ≡ true → point.heard ≡ positions_told client.peer items.taken) →
        (is_inside now client.link ≡ true → AreHeard client.stage (length point.heard) (length commands)) →
        (is_inside now client.link ≡ true → is_outside client.stage ≡ false → last_of None point.heard ≡ position_seen side) →
        (is_inside now client.link ≡ true → is_up client.link.phase ≡ false → point.link.client ≡ Start) → PointGoes (KnownPointFits now (known_point_after side moved client) items) point
    unfolding known_point_after
    known_point_arrives side moved client items commands point fits of_point facts moves told heard last start =
        by_test (λ (l : KnownPointState). PointGoes (KnownPointFits now l items) point) (is_outside client.stage) none some
        (λ e. point_arrives now none items commands point fits of_point facts moves told heard (λ inside. none_heard client.stage point.heard (length commands) e (heard inside)) start)
        (λ e. point_arrives now some items commands point fits of_point facts moves told heard (λ inside. last inside e) start)
      where
        none : KnownPointState
        none = record { client = client; side = None; moved = empty }

        some : KnownPointState
        some = record { client = client; side = side; moved = moved }

    pub known_point_next_from : (place : ℕ) (known_point : KnownPointState) (part : StepSoFar) (new between : Machine) (done : client.ClientSoFar) (side : Option TelegramSide) (moved : Places) → During now input table ixl given machine part new →
        slice_get part.ixl.known_points place ≡ Some known_point → (first : KnownPointState) → slice_get ixl.known_points place ≡ Some first →
        KnownPointDuring now input table ixl given machine first (given.points place) (calls_at (Point place) part.calls) known_point (machine.points place) (new.points place) →
        NextKnownPoint place known_point (items_after now (calls_at (Point place) part.calls) (settled now first.client.link) (given.points place)) part new between done side →
        Leads now input table ixl given machine (with_known_point place (known_point_after side moved done.client) (noted (Point place) done part))
    known_point_next_from place known_point part new between done side moved during is first is_first was it = (
      with_point place arrived between,
      record {
        points = each;
        signals = λ p. subst (λ cs. KnownSignalSoFar now input table ixl given machine (slice_get ixl.known_signals p) (given.signals p) cs (slice_get part.ixl.known_signals p) (machine.signals p) (between.signals p))
            (sym (noted_elsewhere (Signal p) (Point place) part.calls done.calls refl))
            (subst (λ (signals : ℕ → MachineSignal). KnownSignalSoFar now input table ixl given machine (slice_get ixl.known_signals p) (given.signals p) (calls_at (Signal p) part.calls) (slice_get part.ixl.known_signals p) (machine.signals p) (signals p)) (sym it.signals) (during.signals p));
        routes = λ n. ap (λ routes. routes n) it.routes ∙ during.routes n;
        count = during.count;
        created = during.created;
        holding = it.holding ∙ during.holding;
        frozen = it.frozen ∙ during.frozen;
        moves = onward machine between (with_point place arrived between) (onward machine new between during.moves it.moves) (chain between place goes.moves goes.may);
      },
    ) where
      calls : List LinkCall
      calls = calls_at (Point place) part.calls

      start : LinkState
      start = settled now first.client.link

      items : Items
      items = items_after now calls start (given.points place)

      behind : List LinkCall
      behind = calls ++ done.calls

      made : done.client.link ≡ link_after now behind start
      made = it.stands.runs.made ∙ ap (link_after now done.calls) was.made ∙ sym (link_then now calls done.calls start)

      items_are : items_after now done.calls known_point.client.link items ≡ items_after now behind start (given.points place)
      items_are = ap (λ l. items_after now done.calls l items) was.made ∙ sym (items_then now calls done.calls start (given.points place))

      are : AreCallsIn input first.client.peer behind
      are = calls_then input first.client.peer calls done.calls was.are (subst (λ p. AreCallsIn input p done.calls) was.same it.stands.runs.are)

      went : Goes known_point.client.link done.client.link
      went = subst (Goes known_point.client.link) (sym it.stands.runs.made)
          (calls_go now input known_point.client.peer done.calls known_point.client.link it.stands.runs.are was.fits.client.steady.opens)

      same_point : PointStays (machine.points place) (between.points place)
      same_point = record { server = it.stays.server ∙ was.stays.server; taken = it.stays.taken ∙ was.stays.taken; reports = it.stays.reports ∙ was.stays.reports; driven = it.stays.driven ∙ was.stays.driven; position = it.stays.position ∙ was.stays.position }

      facts : PointFacts now first.client.peer done.client.link (items_after now behind start (given.points place)) (between.points place)
      facts = subst (λ l. PointFacts now first.client.peer l (items_after now behind start (given.points place)) (between.points place)) (sym made)
          (point_facts_stay now first.client.peer (link_after now behind start) (items_after now behind start (given.points place)) (machine.points place) (between.points place) same_point
          (far.points place first is_first behind are))

      was_facts : PointFacts now first.client.peer known_point.client.link items (new.points place)
      was_facts = known_point_facts place first known_point calls (new.points place) is_first was.are was.made was.stays

      was_inside : is_inside now done.client.link ≡ true → is_inside now known_point.client.link ≡ true
      was_inside inside = open_inside now known_point.client.link was_facts.ends.alive
          (stays_open known_point.client.link.phase done.client.link.phase went.may (inside_open now done.client.link inside))

      asked : is_inside now done.client.link ≡ true → is_up done.client.link.phase ≡ false → (between.points place).link.client ≡ Start
      asked inside down = it.client ∙ was.fits.place ∙ inside_start now known_point.client.link (was_inside inside) (still_down inside down)
        where
          still_down : is_inside now done.client.link ≡ true → is_up done.client.link.phase ≡ false → is_up known_point.client.link.phase ≡ false
          still_down inside down = cases (is_up known_point.client.link.phase) refl where
            cases : (b : Bool) → is_up known_point.client.link.phase ≡ b → is_up known_point.client.link.phase ≡ false
            cases true up = absurd (true≢false (sym (stays_up known_point.client.link.phase done.client.link.phase went.may up (inside_open now done.client.link inside)) ∙ down))
            cases false e = e

      peer_now : done.client.peer ≡ known_point.client.peer
      peer_now = it.stands.runs.same

      goes : PointGoes (KnownPointFits now (known_point_after side moved done.client) (items_after now behind start (given.points place))) (between.points place)
      goes = known_point_arrives side moved done.client (items_after now behind start (given.points place)) it.commands (between.points place)
          (subst (λ i. ClientFits now done.client i it.commands) items_are (fits_behind now input known_point.client.link items known_point.client.peer it.commands true it.counted done it.stands it.outside))
          (subst IsOfPoint (sym peer_now) was.fits.peer)
          facts.ends (λ inside. it.commanded (was_inside inside) inside) (λ inside. it.told (was_inside inside) inside ∙ ap (λ p. positions_told p (items_after now done.calls known_point.client.link items).taken) (sym peer_now)
          ∙ ap (λ (i : Items). positions_told done.client.peer i.taken) items_are) (λ inside. it.heard (was_inside inside) inside) (λ inside. it.last (was_inside inside) inside) asked

      arrived : MachinePoint
      arrived = point_chained goes.moves (between.points place)

      known_point_now : KnownPointState
      known_point_now = known_point_after side moved done.client

      link_now : known_point_now.client.link ≡ done.client.link
      link_now = ap (λ (c : ClientState). c.link) (known_point_client side moved done.client)

      so_far : KnownPointDuring now input table ixl given machine first (given.points place) behind known_point_now (machine.points place) arrived
      so_far = record {
        fits = goes.fits;
        held = λ holds. subst (IsClosedSince ixl.created) (sym link_now) (stays_closed ixl.created known_point.client.link done.client.link went (was.held holds));
        are = are;
        made = link_now ∙ made;
        same = ap (λ (c : ClientState). c.peer) (known_point_client side moved done.client) ∙ it.stands.runs.same ∙ was.same;
        stays = record { server = goes.stays.server ∙ same_point.server; taken = goes.stays.taken ∙ same_point.taken; reports = goes.stays.reports ∙ same_point.reports; driven = goes.stays.driven ∙ same_point.driven; position = goes.stays.position ∙ same_point.position };
        totals = λ readable as_given. goes.given
            ∙ it.totals (open_inside now done.client.link facts.ends.alive) (subst IsReadable (sym was.same) readable) (was.totals readable as_given)
            ∙ ap (λ (i : Items). length (moves_in i.given)) items_are;
      }

      Goal : ℕ → Type 0
      Goal n = KnownPointSoFar now input table ixl given machine (slice_get ixl.known_points n) (given.points n) (calls_at (Point n) (part.calls ++ map (λ call. (Point place, call)) done.calls))
          (slice_get (changed (λ (old : KnownPointState). known_point_now) place part.ixl.known_points) n) (machine.points n) (changed_at place arrived between.points n)

      here : Goal place
      here =
          subst (λ l. KnownPointSoFar now input table ixl given machine l (given.points place) (calls_at (Point place) (part.calls ++ map (λ call. (Point place, call)) done.calls))
          (slice_get (changed (λ (old : KnownPointState). known_point_now) place part.ixl.known_points) place) (machine.points place) (changed_at place arrived between.points place)) (sym is_first)
          (subst (λ cs. KnownPointSoFar now input table ixl given machine (Some first) (given.points place) cs (slice_get (changed (λ (old : KnownPointState). known_point_now) place part.ixl.known_points) place) (machine.points place) (changed_at place arrived between.points place))
          (sym (noted_here (Point place) (Point place) part.calls done.calls (same_self place)))
          (subst (λ l. KnownPointSoFar now input table ixl given machine (Some first) (given.points place) behind l (machine.points place) (changed_at place arrived between.points place))
          (sym (changed_here (λ (old : KnownPointState). known_point_now) place part.ixl.known_points known_point is))
          (subst (λ s. KnownPointDuring now input table ixl given machine first (given.points place) behind known_point_now (machine.points place) s) (sym (at_here place arrived between.points)) so_far)))

      each : (n : ℕ) → Goal n
      each n = cases (is_same n place) refl where
        cases : (b : Bool) → is_same n place ≡ b → Goal n
        cases true e = subst Goal (sym (same_is n place e)) here
        cases false e =
            subst (λ cs. KnownPointSoFar now input table ixl given machine (slice_get ixl.known_points n) (given.points n) cs (slice_get (changed (λ (old : KnownPointState). known_point_now) place part.ixl.known_points) n) (machine.points n) (changed_at place arrived between.points n))
            (sym (noted_elsewhere (Point n) (Point place) part.calls done.calls e))
            (subst (λ l. KnownPointSoFar now input table ixl given machine (slice_get ixl.known_points n) (given.points n) (calls_at (Point n) part.calls) l (machine.points n) (changed_at place arrived between.points n))
            (sym (changed_elsewhere (λ (old : KnownPointState). known_point_now) place part.ixl.known_points n e))
            (subst (KnownPointSoFar now input table ixl given machine (slice_get ixl.known_points n) (given.points n) (calls_at (Point n) part.calls) (slice_get part.ixl.known_points n) (machine.points n))
            (sym (at_other place arrived between.points n e ∙ it.others n e)) (during.points n)))

    pub known_point_next : (place : ℕ) (known_point : KnownPointState) (part : StepSoFar) (new between : Machine) (done : client.ClientSoFar) (side : Option TelegramSide) (moved : Places) → During now input table ixl given machine part new →
        slice_get part.ixl.known_points place ≡ Some known_point →
        ((first : KnownPointState) → slice_get ixl.known_points place ≡ Some first → KnownPointDuring now input table ixl given machine first (given.points place) (calls_at (Point place) part.calls) known_point (machine.points place) (new.points place) →
        NextKnownPoint place known_point (items_after now (calls_at (Point place) part.calls) (settled now first.client.link) (given.points place)) part new between done side) →
        Leads now input table ixl given machine (with_known_point place (known_point_after side moved done.client) (noted (Point place) done part))
    known_point_next place known_point part new between done side moved during is next = on (first_known_point (slice_get ixl.known_points place) (slice_get part.ixl.known_points place) known_point (given.points place) (calls_at (Point place) part.calls)
        (machine.points place) (new.points place) is (during.points place))
      where
        on : (one : KnownPointState) × (slice_get ixl.known_points place ≡ Some one) × KnownPointDuring now input table ixl given machine one (given.points place) (calls_at (Point place) part.calls) known_point (machine.points place) (new.points place) →
            Leads now input table ixl given machine (with_known_point place (known_point_after side moved done.client) (noted (Point place) done part))
        on (first, is_first, was) = known_point_next_from place known_point part new between done side moved during is first is_first was (next first is_first was)
