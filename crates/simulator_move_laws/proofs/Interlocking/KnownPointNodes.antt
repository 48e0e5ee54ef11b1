-- What a part of a step at one point leaves.
use Rattle.std.proofs.Common.{◌≡◌, ℕ, suc, ◌+◌, Bool, true, false, not, List, [], ◌∷◌, ◌++◌, append_assoc, length, map, refl, sym, ap, subst, ◌∙◌, arith}
use Rattle.std.specs.Prelude.{is_ok, Option, Some, None, slice_get}
use Rattle.std.proofs.lemmas.Bool.{true≢false, false≢true}
use Rattle.std.proofs.lemmas.List.{append-nil, map-append}
use Rattle.ixl_spec.specs.sci_telegram.declared.message.Side.{Side as TelegramSide}
use Rattle.ixl_spec.specs.rasta_core.Clock.{settled}
use Rattle.ixl_spec.specs.rasta_core.State.{LinkState, is_open, is_up}
use Rattle.ixl_spec.specs.ixl_client.Client.{PeerState, is_outside, is_ready}
use Rattle.ixl_spec.specs.ixl_client.ClientSoFar as client
use Rattle.ixl_spec.specs.ixl_client.ClientSoFar.{LinkCall, Opens, Ticks, Closes, Sends, Receives, begun, call_made}
use Rattle.ixl_spec.specs.ixl_client.Step.{commanding, hearing, message_of, stage_after_command}
use Rattle.ixl_spec.specs.ixl_client.declared.command.Command.TheVariants as commands
use Rattle.ixl_spec.specs.ixl_client.declared.stage.Stage.TheVariants as stage
use Rattle.ixl_spec.specs.StepSoFar.{Point, StepSoFar, all_below, giving_move, noted, known_point_after, with_known_point}
use Rattle.ixl_spec.specs.State.{IxlState, KnownPointState}
use Rattle.ixl_spec.specs.Step.{Datagram, Input, side_heard, side_of, known_point_hearing}
use Rattle.simulator_machine.specs.Lists.{last_of}
use Rattle.simulator_machine.specs.Point.{Point as MachinePoint, PointMove, Position, move_given, moves_given, reports_made}
use Rattle.simulator_machine.specs.Machine.{Machine, with_point}
use Rattle.simulator_machine.specs.Table.{Table}
use Rattle.simulator_machine.specs.Chains.{MovesTo, PointMayChain, point_chained}
use Rattle.simulator_move_laws.specs.Calls.{Items, calls_at, items_after, items_by}
use Rattle.simulator_move_laws.specs.Facts.{AreCallsIn, FarEnds}
use Rattle.simulator_move_laws.specs.Link.{is_inside}
use Rattle.simulator_move_laws.specs.Sees.{Given}
use Rattle.simulator_move_laws.specs.Telegrams.{AreHeard, item_of, position_seen, position_told, positions_told}
use Rattle.simulator_move_laws.specs.Items.{moves_in, moves_of, said_by, side_seen}
use Rattle.simulator_move_laws.specs.Totals.{IsReadable}
use Rattle.simulator_move_laws.proofs.Interlocking.Totals.{calls_say, datagram_calls, no_moves, said_one}
use Rattle.simulator_move_laws.proofs.Interlocking.Tests.{by_test}
use Rattle.simulator_move_laws.proofs.Interlocking.Places.{inside_open, open_inside}
use Rattle.simulator_move_laws.proofs.Interlocking.Clients.{Standing, calls_go, calls_then, items_then, link_then}
use Rattle.simulator_move_laws.proofs.Interlocking.Phases.{Goes, stays_open, up_is_open}
use Rattle.ixl_spec.specs.ixl_client.Made.{link_after}
use Rattle.simulator_move_laws.proofs.Interlocking.DatagramHeard.{hears}
use Rattle.simulator_move_laws.proofs.Interlocking.ClientFits.{Commanded, begins, commands_on}
use Rattle.simulator_move_laws.specs.MachineSoFar.{During, Leads, KnownPointDuring}
use Rattle.simulator_move_laws.proofs.Interlocking.KnownPoint.{NextKnownPoint, first_known_point, known_point_facts, known_point_next, known_point_next_from}
use Rattle.simulator_move_laws.proofs.Interlocking.Signals.{all_hear, heard_all, may_hear}
use Rattle.simulator_move_laws.proofs.Interlocking.Nodes.{last_one, length_one, length_same, shut_not_open, stays_so}
use Rattle.simulator_move_laws.proofs.Interlocking.Changes.{at_here, at_other}
use Rattle.ixl_spec.specs.ixl_client.Made.{ActsOn, AreOwn, MakesAfterReceipt, told_by, told_by_all}
use Rattle.ixl_spec.specs.sci_telegram.TelegramRead.{reading}
use Rattle.ixl_spec.specs.ixl_client.declared.indication.Indication.{Indication}
use Rattle.ixl_spec.specs.rasta_core.Calls.{answer_to_send, receiving}

-- the last side heard is that of the last report
side_last : (list : List Indication) (side : Option TelegramSide) (before : List Position) → last_of None before ≡ position_seen side →
    last_of None (before ++ map position_told list) ≡ position_seen (side_heard list side)
side_last [] side before is = ap (last_of None) (append-nil before) ∙ is
side_last (first ∷ others) side before is =
    ap (last_of None) (sym (append_assoc before (position_told first ∷ []) (map position_told others)))
    ∙ side_last others (side_of first.state) (before ++ position_told first ∷ []) (last_one None before (position_told first))

told_by_joined : (peer : PeerState) (list other : List (List ℕ)) → told_by_all peer (list ++ other) ≡ told_by_all peer list ++ told_by_all peer other
unfolding told_by_all
told_by_joined peer [] other = refl
told_by_joined peer (first ∷ others) other = ap (λ rest. told_by peer (reading first) ++ rest) (told_by_joined peer others other) ∙ sym (append_assoc (told_by peer (reading first)) (told_by_all peer others) (told_by_all peer other))

told_joined : (peer : PeerState) (one other : List (List ℕ)) → positions_told peer (one ++ other) ≡ positions_told peer one ++ positions_told peer other
told_joined peer one other = ap (map position_told) (told_by_joined peer one other) ∙ map-append position_told (told_by_all peer one) (told_by_all peer other)

length_both : {A : Type 0} (one other : List A) → length (one ++ other) ≡ length one + length other
length_both [] other = omega arith
length_both (first ∷ others) other = ap suc (length_both others other) ∙ one_on (length others) (length other) where
  one_on : (n m : ℕ) → suc (n + m) ≡ suc n + m
  one_on n m = omega arith

same_rest : {A : Type 0} (list one other : List A) → list ++ one ≡ list ++ other → one ≡ other
same_rest [] one other is = is
same_rest {A = A} (first ∷ others) one other is = same_rest others one other (ap rest is) where
  rest : List A → List A
  rest [] = []
  rest (one ∷ others) = others

module _ (now : ℕ) (input : Input) (table : Table) (ixl : IxlState) (given : Given) (machine : Machine) (far : FarEnds now input ixl given machine)
    (chain : (machine : Machine) (place : ℕ) (moves : List PointMove) → PointMayChain moves (machine.points place)
    → MovesTo table machine (with_point place (point_chained moves (machine.points place)) machine))
    (onward : (old between new : Machine) → MovesTo table old between → MovesTo table between new → MovesTo table old new)
    (acts : (now : ℕ) (bytes : List ℕ) (part : client.ClientSoFar) → ActsOn now bytes part (hearing now bytes part))
    (receipt : (now : ℕ) (bytes : List ℕ) (part : client.ClientSoFar) → MakesAfterReceipt now bytes part (hearing now bytes part)) where
  abbrev On : StepSoFar → Type 0
  On part = Leads now input table ixl given machine part

  abbrev Was : StepSoFar → Machine → ℕ → KnownPointState → KnownPointState → Type 0
  Was part new place known_point first = KnownPointDuring now input table ixl given machine first (given.points place) (calls_at (Point place) part.calls) known_point (machine.points place) (new.points place)

  abbrev items_so_far : StepSoFar → ℕ → KnownPointState → Items
  items_so_far part place first = items_after now (calls_at (Point place) part.calls) (settled now first.client.link) (given.points place)

  known_point_begins : (place : ℕ) (first known_point : KnownPointState) (part : StepSoFar) (new : Machine) (was : Was part new place known_point first) → slice_get ixl.known_points place ≡ Some first →
      (is_open known_point.client.link.phase ≡ true → is_inside now known_point.client.link ≡ true)
      × Standing now input known_point.client.link (items_so_far part place first) known_point.client.peer was.fits.commands true (length (new.points place).heard) (begun known_point.client part.outbox)
  known_point_begins place first known_point part new was is =
      (alive, begins now input known_point.client (items_so_far part place first) was.fits.commands true (length (new.points place).heard) part.outbox was.fits.client alive (λ of opened. was.fits.heard (alive opened)))
    where
      alive : is_open known_point.client.link.phase ≡ true → is_inside now known_point.client.link ≡ true
      alive opened = open_inside now known_point.client.link (known_point_facts now input table ixl given machine far chain onward place first known_point (calls_at (Point place) part.calls) (new.points place) is was.are was.made was.stays).ends.alive opened

  -- what own calls take is nothing
  own_taken : (calls : List LinkCall) (peer : PeerState) (link : LinkState) (items : Items) → AreCallsIn input peer calls → AreOwn calls → (items_after now calls link items).taken ≡ items.taken
  unfolding items_after items_by
  own_taken [] peer link items are own = refl
  own_taken (Opens ∷ others) peer link items are own = absurd are.0
  own_taken (Ticks ∷ others) peer link items are own = own_taken others peer (call_made now Ticks link).link items are.1 own.1
  own_taken (Closes why ∷ others) peer link items are own = own_taken others peer (call_made now (Closes why) link).link items are.1 own.1
  own_taken (Sends item ∷ others) peer link items are own =
      own_taken others peer (call_made now (Sends item) link).link (items_by now (Sends item) link items) are.1 own.1
      ∙ by_test (λ (i : Items). i.taken ≡ items.taken) (is_ok (answer_to_send now link)) (record items { given = items.given ++ item ∷ [] }) items (λ e. refl) (λ e. refl)
  own_taken (Receives bytes ∷ others) peer link items are own = absurd own.0

  receipt_taken : (bytes : List ℕ) (others : List LinkCall) (peer : PeerState) (link : LinkState) (items : Items) → AreCallsIn input peer (Receives bytes ∷ others) → AreOwn others →
      (items_after now (Receives bytes ∷ others) link items).taken ≡ items.taken ++ (receiving now bytes link).items
  unfolding items_after items_by
  receipt_taken bytes others peer link items are own = own_taken others peer (call_made now (Receives bytes) link).link (items_by now (Receives bytes) link items) are.1 own

  module _ (bytes : List ℕ) (place : ℕ) (part : StepSoFar) (from : input ≡ Datagram bytes) (new : Machine) (during : During now input table ixl given machine part new)
      (known_point : KnownPointState) (is : slice_get part.ixl.known_points place ≡ Some known_point) where
    abbrev done : client.ClientSoFar
    done = hearing now bytes (begun known_point.client part.outbox)

    abbrev received : List (List ℕ)
    received = (receiving now bytes known_point.client.link).items

    abbrev point_now : MachinePoint
    point_now = new.points place

    module _ (first : KnownPointState) (is_first : slice_get ixl.known_points place ≡ Some first) (was : Was part new place known_point first) where
      abbrev items : Items
      items = items_so_far part place first

      heard : Standing now input known_point.client.link items known_point.client.peer was.fits.commands true (length point_now.heard) done × (is_outside done.client.stage ≡ not (is_up done.client.link.phase))
      heard = hears now input known_point.client.link items known_point.client.peer was.fits.commands true (length point_now.heard) (λ e. was.fits.peer) bytes (begun known_point.client part.outbox) from
          (known_point_begins place first known_point part new was is_first).1

      taken : (items_after now done.calls known_point.client.link items).taken ≡ items.taken ++ received
      taken =
          let made = receipt now bytes (begun known_point.client part.outbox)
          in let calls = made.1.calls_are
          in ap (λ (cs : List LinkCall). (items_after now cs known_point.client.link items).taken) calls
          ∙ receipt_taken bytes made.0 known_point.client.peer known_point.client.link items (subst (AreCallsIn input known_point.client.peer) calls heard.0.runs.are) made.2

      abbrev behind : List LinkCall
      behind = calls_at (Point place) part.calls ++ done.calls

      abbrev begins_at : LinkState
      begins_at = settled now first.client.link

      behind_are : AreCallsIn input first.client.peer behind
      behind_are = calls_then input first.client.peer (calls_at (Point place) part.calls) done.calls was.are (subst (λ p. AreCallsIn input p done.calls) was.same heard.0.runs.are)

      made : done.client.link ≡ link_after now behind begins_at
      made = heard.0.runs.made ∙ ap (link_after now done.calls) was.made ∙ sym (link_then now (calls_at (Point place) part.calls) done.calls begins_at)

      items_are : items_after now behind begins_at (given.points place) ≡ items_after now done.calls known_point.client.link items
      items_are = items_then now (calls_at (Point place) part.calls) done.calls begins_at (given.points place) ∙ ap (λ l. items_after now done.calls l items) (sym was.made)

      -- a datagram gives no move
      says_nothing : IsReadable known_point.client.peer → length (moves_in (items_after now done.calls known_point.client.link items).given) ≡ length (moves_in items.given)
      says_nothing readable = ap length (calls_say moves_of known_point.client.peer (no_moves known_point.client.peer readable) now done.calls known_point.client.link items
          (datagram_calls now bytes known_point.client part.outbox))

      abbrev told_now : List Position
      told_now = positions_told known_point.client.peer received

      -- the reports that are received come next
      coming : is_inside now known_point.client.link ≡ true → is_open done.client.link.phase ≡ true → (rest : List Position) × (point_now.coming ≡ told_now ++ rest)
      coming inside opened =
          let fact = (far.points place first is_first behind behind_are).reports (ap (λ (l : LinkState). is_open l.phase) (sym made) ∙ opened)
          in (
            fact.0,
            same_rest point_now.heard point_now.coming (told_now ++ fact.0)
                (was.stays.reports ∙ fact.1
                ∙ ap (λ (i : Items). positions_told first.client.peer i.taken ++ fact.0) items_are
                ∙ ap (λ p. positions_told p (items_after now done.calls known_point.client.link items).taken ++ fact.0) (sym was.same)
                ∙ ap (λ list. positions_told known_point.client.peer list ++ fact.0) taken
                ∙ ap (λ list. list ++ fact.0) (told_joined known_point.client.peer items.taken received)
                ∙ ap (λ list. (list ++ told_now) ++ fact.0) (sym (was.fits.told inside))
                ∙ append_assoc point_now.heard told_now fact.0),
          )

      -- and are those that are heard
      told_is : is_open done.client.link.phase ≡ true → told_now ≡ map position_told done.heard
      told_is opened =
          let act = acts now bytes (begun known_point.client part.outbox)
          in ap (λ list. positions_told known_point.client.peer list) (act.beginning ∙ ap (λ list. act.items ++ list) (act.whole opened) ∙ append-nil act.items)
          ∙ ap (map position_told) (sym act.heard)

      module _ (inside : is_inside now known_point.client.link ≡ true) (opened : is_open done.client.link.phase ≡ true) where
        abbrev heard_point : MachinePoint
        heard_point = record point_now { heard = point_now.heard ++ told_now; coming = (coming inside opened).0 }

        abbrev between : Machine
        between = with_point place heard_point new

        here : between.points place ≡ heard_point
        here = at_here place heard_point new.points

        accepted : NextKnownPoint now input table ixl given machine far chain onward place known_point items part new between done (side_heard done.heard known_point.side)
        accepted = record {
          commands = was.fits.commands;
          counted = length point_now.heard;
          stands = heard.0;
          outside = heard.1;
          moves = subst (λ p. MovesTo table new (with_point place p new)) (heard_all told_now (coming inside opened).0 point_now (coming inside opened).1) (chain new place (all_hear told_now) (may_hear told_now point_now));
          others = λ n other. at_other place heard_point new.points n other;
          signals = refl;
          routes = refl;
          holding = refl;
          frozen = refl;
          stays = record {
            server = ap (λ (p : MachinePoint). p.link.server) here;
            taken = ap (λ (p : MachinePoint). p.taken) here;
            reports = ap reports_made here ∙ append_assoc point_now.heard told_now (coming inside opened).0 ∙ ap (λ list. point_now.heard ++ list) (sym (coming inside opened).1);
            driven = ap (λ (p : MachinePoint). p.driven) here;
            position = ap (λ (p : MachinePoint). p.position) here;
          };
          client = ap (λ (p : MachinePoint). p.link.client) here;
          commanded = λ is still. ap moves_given here ∙ was.fits.moves inside;
          told = λ is still. ap (λ (p : MachinePoint). p.heard) here ∙ ap (λ list. list ++ told_now) (was.fits.told inside) ∙ sym (told_joined known_point.client.peer items.taken received)
              ∙ ap (positions_told known_point.client.peer) (sym taken);
          heard = λ is still. subst (λ n. AreHeard done.client.stage n (length was.fits.commands)) (sym length_is) (heard.0.heard refl opened);
          last = λ is still risen. ap (λ (p : MachinePoint). last_of None p.heard) here ∙ ap (λ list. last_of None (point_now.heard ++ list)) (told_is opened)
              ∙ side_last done.heard known_point.side point_now.heard (was.fits.last inside);
          totals = λ alive readable as_given. ap moves_given here ∙ as_given ∙ sym (says_nothing readable);
        } where
          length_is : length (between.points place).heard ≡ length point_now.heard + length done.heard
          length_is = ap (λ (p : MachinePoint). length p.heard) here ∙ length_both point_now.heard told_now ∙ ap (λ n. length point_now.heard + n) (ap length (told_is opened) ∙ length_same position_told done.heard)

      refused : is_inside now done.client.link ≡ false → NextKnownPoint now input table ixl given machine far chain onward place known_point items part new new done (side_heard done.heard known_point.side)
      refused shut = record {
        commands = was.fits.commands;
        counted = length point_now.heard;
        stands = heard.0;
        outside = heard.1;
        moves = stays_so table new;
        others = λ n other. refl;
        signals = refl;
        routes = refl;
        holding = refl;
        frozen = refl;
        stays = record { server = refl; taken = refl; reports = refl; driven = refl; position = refl };
        client = refl;
        commanded = λ is still. absurd (true≢false (sym still ∙ shut));
        told = λ is still. absurd (true≢false (sym still ∙ shut));
        heard = λ is still. absurd (true≢false (sym still ∙ shut));
        last = λ is still risen. absurd (true≢false (sym still ∙ shut));
        totals = λ alive readable as_given. as_given ∙ sym (says_nothing readable);
      }

  -- ---- a move is given

  giving_move_is : (place : ℕ) (side : TelegramSide) (part : StepSoFar) (known_point : KnownPointState) → slice_get part.ixl.known_points place ≡ Some known_point →
      giving_move now place side part ≡ with_known_point place (known_point_after known_point.side (all_below (length part.ixl.routes)) (commanding now (commands.Move side) (begun known_point.client part.outbox)).client)
      (noted (Point place) (commanding now (commands.Move side) (begun known_point.client part.outbox)) part)
  unfolding giving_move
  giving_move_is place side part known_point is = rw is refl

  module _ (place : ℕ) (side : TelegramSide) (part : StepSoFar) (new : Machine) (known_point : KnownPointState) (during : During now input table ixl given machine part new) (is : slice_get part.ixl.known_points place ≡ Some known_point)
      (available : known_point.client.stage ≡ stage.Completed) (may : MovesTo table new (with_point place (move_given (new.points place)) new)) where
    abbrev moved : client.ClientSoFar
    moved = commanding now (commands.Move side) (begun known_point.client part.outbox)

    abbrev now_given : Machine
    now_given = with_point place (move_given (new.points place)) new

    given_here : now_given.points place ≡ move_given (new.points place)
    given_here = at_here place (move_given (new.points place)) new.points

    module _ (first : KnownPointState) (is_first : slice_get ixl.known_points place ≡ Some first) (was : Was part new place known_point first) where
      up : is_up known_point.client.link.phase ≡ true
      up = up_where (is_up known_point.client.link.phase) refl (ap is_outside (sym available) ∙ was.fits.client.steady.outside) where
        up_where : (b : Bool) → is_up known_point.client.link.phase ≡ b → false ≡ not (is_up known_point.client.link.phase) → is_up known_point.client.link.phase ≡ true
        up_where true e is = e
        up_where false e is = absurd (false≢true (is ∙ ap not e))

      begun_here : (is_open known_point.client.link.phase ≡ true → is_inside now known_point.client.link ≡ true)
          × Standing now input known_point.client.link (items_so_far part place first) known_point.client.peer was.fits.commands true (length (new.points place).heard) (begun known_point.client part.outbox)
      begun_here = known_point_begins place first known_point part new was is_first

      inside : is_inside now known_point.client.link ≡ true
      inside = begun_here.0 (up_is_open known_point.client.link.phase up)

      one_more : length (was.fits.commands ++ commands.Move side ∷ []) ≡ length was.fits.commands + 1
      one_more = length_one was.fits.commands (commands.Move side)

      answered : AreHeard (stage_after_command (commands.Move side) known_point.client.stage) (length (new.points place).heard) (length (was.fits.commands ++ commands.Move side ∷ []))
      answered = subst (λ s. AreHeard (stage_after_command (commands.Move side) s) (length (new.points place).heard) (length (was.fits.commands ++ commands.Move side ∷ []))) (sym available)
          (subst (λ s. AreHeard s (length (new.points place).heard) (length was.fits.commands)) available (was.fits.heard inside) ∙ sym one_more)

      sent : Commanded now input known_point.client.link (items_so_far part place first) known_point.client.peer was.fits.commands true (length (new.points place).heard) (commands.Move side) moved
      sent = commands_on now input known_point.client (items_so_far part place first) was.fits.commands true (length (new.points place).heard) part.outbox (commands.Move side)
          begun_here.1 up (ap is_ready available) (λ e. answered)

      plus_none : (n : ℕ) → n + 0 ≡ n
      plus_none n = omega arith

      given_more : (n m : ℕ) → n + (m + 1) ≡ (n + m) + 1
      given_more n m = omega arith

      none_told : moved.heard ≡ []
      none_told = sent.silent

      one_told : is_inside now moved.client.link ≡ true → IsReadable known_point.client.peer →
          length (moves_in (items_after now moved.calls known_point.client.link (items_so_far part place first)).given) ≡ length (moves_in (items_so_far part place first).given) + 1
      one_told still readable =
          ap (λ list. length (moves_in list)) (sent.more (inside_open now moved.client.link still))
          ∙ ap length (said_one moves_of (items_so_far part place first).given (item_of known_point.client.peer (message_of (commands.Move side)))
          ∙ ap (λ read. moves_in (items_so_far part place first).given ++ said_by moves_of read) (readable.commands (commands.Move side)))
          ∙ length_one (moves_in (items_so_far part place first).given) (side_seen side)

      goes_on : is_inside now moved.client.link ≡ true → NextKnownPoint now input table ixl given machine far chain onward place known_point (items_so_far part place first) part new now_given moved known_point.side
      goes_on arrives = record {
        commands = was.fits.commands ++ commands.Move side ∷ [];
        counted = length (new.points place).heard;
        stands = sent.stands;
        outside = sent.outside;
        moves = may;
        others = λ n other. at_other place (move_given (new.points place)) new.points n other;
        signals = refl;
        routes = refl;
        holding = refl;
        frozen = refl;
        stays = record {
          server = ap (λ (p : MachinePoint). p.link.server) given_here;
          taken = ap (λ (p : MachinePoint). p.taken) given_here;
          reports = ap reports_made given_here;
          driven = ap (λ (p : MachinePoint). p.driven) given_here;
          position = ap (λ (p : MachinePoint). p.position) given_here;
        };
        client = ap (λ (p : MachinePoint). p.link.client) given_here;
        commanded = λ is still. ap moves_given given_here ∙ given_more (new.points place).taken (new.points place).flight ∙ ap (λ n. n + 1) (was.fits.moves inside) ∙ sym one_more;
        told = λ is still. ap (λ (p : MachinePoint). p.heard) given_here ∙ was.fits.told inside ∙ ap (positions_told known_point.client.peer) (sym sent.taken);
        heard = λ is still. subst (λ n. AreHeard moved.client.stage n (length (was.fits.commands ++ commands.Move side ∷ [])))
            (ap (λ (list : List Indication). length (new.points place).heard + length list) none_told ∙ plus_none (length (new.points place).heard) ∙ sym (ap (λ (p : MachinePoint). length p.heard) given_here))
            (sent.stands.heard refl (inside_open now moved.client.link still));
        last = λ is still risen. ap (λ (p : MachinePoint). last_of None p.heard) given_here ∙ was.fits.last inside;
        totals = λ alive readable as_given. ap moves_given given_here ∙ given_more (new.points place).taken (new.points place).flight ∙ ap (λ n. n + 1) as_given ∙ sym (one_told arrives readable);
      }

      closes : is_inside now moved.client.link ≡ false → NextKnownPoint now input table ixl given machine far chain onward place known_point (items_so_far part place first) part new new moved known_point.side
      closes shut = record {
        commands = was.fits.commands ++ commands.Move side ∷ [];
        counted = length (new.points place).heard;
        stands = sent.stands;
        outside = sent.outside;
        moves = stays_so table new;
        others = λ n other. refl;
        signals = refl;
        routes = refl;
        holding = refl;
        frozen = refl;
        stays = record { server = refl; taken = refl; reports = refl; driven = refl; position = refl };
        client = refl;
        commanded = λ is still. absurd (true≢false (sym still ∙ shut));
        told = λ is still. absurd (true≢false (sym still ∙ shut));
        heard = λ is still. absurd (true≢false (sym still ∙ shut));
        last = λ is still risen. absurd (true≢false (sym still ∙ shut));
        totals = λ alive readable as_given. as_given ∙ ap (λ list. length (moves_in list)) (sym (sent.refused (shut_not_open (is_open moved.client.link.phase) refl alive shut)));
      }

    pub move_given_on : On (giving_move now place side part)
    move_given_on = subst On (sym (giving_move_is place side part known_point is)) (cases (is_inside now moved.client.link) refl) where
      cases : (b : Bool) → is_inside now moved.client.link ≡ b → On (with_known_point place (known_point_after known_point.side (all_below (length part.ixl.routes)) moved.client) (noted (Point place) moved part))
      cases true e = known_point_next now input table ixl given machine far chain onward place known_point part new now_given moved known_point.side (all_below (length part.ixl.routes)) during is (λ first is_first was. goes_on first is_first was e)
      cases false e = known_point_next now input table ixl given machine far chain onward place known_point part new new moved known_point.side (all_below (length part.ixl.routes)) during is (λ first is_first was. closes first is_first was e)

  -- ---- a datagram

  known_point_hearing_is : (bytes : List ℕ) (place : ℕ) (part : StepSoFar) (known_point : KnownPointState) → slice_get part.ixl.known_points place ≡ Some known_point →
      known_point_hearing now bytes place part ≡ with_known_point place (known_point_after (side_heard (hearing now bytes (begun known_point.client part.outbox)).heard known_point.side) known_point.moved (hearing now bytes (begun known_point.client part.outbox)).client)
      (noted (Point place) (hearing now bytes (begun known_point.client part.outbox)) part)
  unfolding known_point_hearing
  known_point_hearing_is bytes place part known_point is = rw is refl

  known_point_hearing_none : (bytes : List ℕ) (place : ℕ) (part : StepSoFar) → slice_get part.ixl.known_points place ≡ None → known_point_hearing now bytes place part ≡ part
  unfolding known_point_hearing
  known_point_hearing_none bytes place part is = rw is refl

  module _ (bytes : List ℕ) (place : ℕ) (part : StepSoFar) (from : input ≡ Datagram bytes) (new : Machine) (during : During now input table ixl given machine part new)
      (known_point : KnownPointState) (is : slice_get part.ixl.known_points place ≡ Some known_point) (first : KnownPointState) (is_first : slice_get ixl.known_points place ≡ Some first) (was : Was part new place known_point first) where
    abbrev heard_part : client.ClientSoFar
    heard_part = done bytes place part from new during known_point is

    was_inside : is_open heard_part.client.link.phase ≡ true → is_inside now known_point.client.link ≡ true
    was_inside opened =
        let standing = (heard bytes place part from new during known_point is first is_first was).0
        in (known_point_begins place first known_point part new was is_first).0
        (stays_open known_point.client.link.phase heard_part.client.link.phase
        (subst (Goes known_point.client.link) (sym standing.runs.made) (calls_go now input known_point.client.peer heard_part.calls known_point.client.link standing.runs.are was.fits.client.steady.opens)).may opened)

    heard_on : (b : Bool) → is_inside now heard_part.client.link ≡ b →
        On (with_known_point place (known_point_after (side_heard heard_part.heard known_point.side) known_point.moved heard_part.client) (noted (Point place) heard_part part))
    heard_on true e =
        let opened = inside_open now heard_part.client.link e
        in known_point_next_from now input table ixl given machine far chain onward place known_point part new (between bytes place part from new during known_point is first is_first was (was_inside opened) opened)
        heard_part (side_heard heard_part.heard known_point.side) known_point.moved during is first is_first was (accepted bytes place part from new during known_point is first is_first was (was_inside opened) opened)
    heard_on false e = known_point_next_from now input table ixl given machine far chain onward place known_point part new new heard_part (side_heard heard_part.heard known_point.side) known_point.moved during is first is_first was
        (refused bytes place part from new during known_point is first is_first was e)

  pub known_point_hears : (bytes : List ℕ) (place : ℕ) (part : StepSoFar) → input ≡ Datagram bytes → On part → On (known_point_hearing now bytes place part)
  known_point_hears bytes place part from (new, during) = cases (slice_get part.ixl.known_points place) refl where
    cases : (s : Option KnownPointState) → slice_get part.ixl.known_points place ≡ s → On (known_point_hearing now bytes place part)
    cases None is = subst On (sym (known_point_hearing_none bytes place part is)) (new, during)
    cases (Some known_point) is = subst On (sym (known_point_hearing_is bytes place part known_point is)) (on (first_known_point now input table ixl given machine far chain onward (slice_get ixl.known_points place)
        (slice_get part.ixl.known_points place) known_point (given.points place) (calls_at (Point place) part.calls) (machine.points place) (new.points place) is (during.points place)))
      where
        on : (one : KnownPointState) × (slice_get ixl.known_points place ≡ Some one) × Was part new place known_point one →
            On (with_known_point place (known_point_after (side_heard (hearing now bytes (begun known_point.client part.outbox)).heard known_point.side) known_point.moved (hearing now bytes (begun known_point.client part.outbox)).client)
            (noted (Point place) (hearing now bytes (begun known_point.client part.outbox)) part))
        on (first, is_first, was) = heard_on bytes place part from new during known_point is first is_first was (is_inside now (hearing now bytes (begun known_point.client part.outbox)).client.link) refl
