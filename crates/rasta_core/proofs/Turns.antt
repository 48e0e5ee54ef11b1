-- A link in the connection takes the PDU that it expects, or asks for one that it misses.
use Rattle.std.proofs.Common.{◌≡◌, ℕ, zero, suc, Bool, ◌⊎◌, ◌+◌, ◌-◌, ◌<◌, ◌≤◌, true, false, List, [], ◌++◌, length, inl, inr, refl, sym, ap, subst, ◌∙◌, arith}
use Rattle.std.specs.Prelude.{nat_lt, ◌==◌}
use Rattle.std.proofs.lemmas.Bool.{eqb-true}
use Rattle.std.proofs.lemmas.List.{length-append, append-nil}
use Rattle.rasta_core_spec.specs.Parameters.{sequence_range, stops_at_greatest, connection_limit}
use Rattle.rasta_core_spec.specs.Sequence.{wire}
use Rattle.rasta_core_spec.specs.State.{LinkState, is_open, is_up, is_asking}
use Rattle.rasta_core_spec.specs.Clock.{open_state}
use Rattle.rasta_core_spec.specs.PdusHandedOut.{closed}
use Rattle.rasta_core_spec.specs.Receipt.{Receipt, ahead, behind, taking, still_waiting, answering, missing, handing, up, bringing, in_turn}
use Rattle.rasta_core_spec.specs.phase.State.TheVariants as state
use Rattle.rasta_core_spec.specs.pdu.Pdu.{Pdu}
use Rattle.rasta_core_spec.specs.body.Body.{Body}
use Rattle.rasta_core_spec.specs.body.Body.TheVariants.{ConnectionRequest, ConnectionResponse, RetransmissionRequest, RetransmissionResponse, DisconnectionRequest, Heartbeat, Data, RetransmittedData}
use Rattle.rasta_core_spec.specs.phase.Phase.{Phase}
use Rattle.rasta_core.specs.EndFlow.{IsAt, EndFlow, sent}
use Rattle.rasta_core.specs.Order.{Brings, Carries, IsClosing, BeginsByResponse, OpensOn, IsAsking, InOrder}
use Rattle.rasta_core.specs.LinkAndFlow.{reads, HasJoined, joined, left, GoesOn}
use Rattle.rasta_core.proofs.OrderTests.{by_test}
use Rattle.rasta_core.proofs.Places.{within, same_at}
use Rattle.rasta_core.proofs.Tags.{still_above, later_all}
use Rattle.rasta_core.proofs.OrderOfTaken.{took, taker_took, taker_held, resumed, taker_resumed}
use Rattle.rasta_core.proofs.Drops.{drops, giver_dropped, giver_went_on}
use Rattle.rasta_core.proofs.OrderSteps.{asked_on}
use Rattle.rasta_core.proofs.Replies.{replied_on}
use Rattle.rasta_core.proofs.OrderPhases.{TakesTurns, BringsUp}
use Rattle.rasta_core.proofs.OrderComes.{made, confirmed, place_is, dropped_order, keeps_waiting, expects_next, moved_plays}

module _ (link : LinkState) (own other : EndFlow) (order : InOrder own other) (plays : HasJoined link own other) (pdu : Pdu) (place : ℕ) (at : IsAt place pdu other.flow)
    (right : pdu.confirmed_sequence_number ≡ wire own.first (other.expecting place - 1)) where
  here : ℕ
  here = confirmed link own other order plays pdu place at

  dropped : EndFlow
  dropped = drops here own

  -- ---- the expected PDU

  module _ (reading : own.reading ≡ true) (now : ahead pdu link ≡ 0) (is : place ≡ own.reached + 0) (opens : IsClosing pdu.body → ⊥) where
    -- the PDU shows that its sender goes on after its opening
    heard_more : BeginsByResponse other.flow ⊎ ((2 ≤ sent other) × OpensOn other.flow)
    heard_more = by_up (is_up link.phase) refl
      where
        two : 2 ≤ sent other
        two = omega (arith, is, within place pdu other.flow at, order.back.counts.some)

        by_up : (up : Bool) → is_up link.phase ≡ up → BeginsByResponse other.flow ⊎ ((2 ≤ sent other) × OpensOn other.flow)
        by_up true u = plays.come.heard u
        by_up false u = inr (two, λ that there closes. opens (subst (λ (p : Pdu). IsClosing p.body) (same_at 1 that pdu other.flow there (subst (λ number. IsAt number pdu other.flow) (first_place u) at)) closes))
          where
            first_place : is_up link.phase ≡ false → place ≡ 1
            first_place down = omega (arith, is, (plays.come.starting down).1)

    at_reached : place ≡ own.reached
    at_reached = omega arith

    took_order : (items : List (List ℕ)) → Brings other place items → InOrder (took items dropped) other
    unfolding here dropped
    took_order items brings =
        let before = dropped_order link own other order plays pdu place at
        in record {
          there = giver_went_on dropped other (own.reached + 1) own.reading (own.taken ++ items) before.there (omega arith);
          back = taker_took other dropped items before.back reading (omega (arith, is, within place pdu other.flow at)) (subst (λ number. Brings other number items) at_reached brings);
        }

    took_plays : (phase : Phase) (taken_count : ℕ) (items : List (List ℕ)) → is_open phase ≡ true
        → is_asking (record (taking pdu link) { phase = phase; taken = taken_count }) ≡ false → own.reading ≡ reads (open_state phase) → is_up phase ≡ true
        → taken_count ≡ stops_at_greatest (length (own.taken ++ items)) → HasJoined (record (taking pdu link) { phase = phase; taken = taken_count }) (took items dropped) other
    unfolding here dropped
    took_plays phase taken_count items is_opened no_asking reads_so goes_up count =
        moved_plays link own other order plays pdu place at right phase taken_count (own.reached + 1) own.reading (own.taken ++ items) is_opened no_asking reads_so count
        (expects_next link own other order plays pdu place at 0 now is ∙ next) (record { starting = λ down. absurd (cc (goes_up, down)); heard = λ up. heard_more })
      where
        next : own.reached + 0 + 1 ≡ own.reached + 1
        next = omega arith

    -- it brings these items to the user
    took_on : (phase : Phase) (taken_count : ℕ) (items : List (List ℕ)) → Brings other place items → is_open phase ≡ true
        → is_asking (record (taking pdu link) { phase = phase; taken = taken_count }) ≡ false → own.reading ≡ reads (open_state phase) → is_up phase ≡ true
        → taken_count ≡ stops_at_greatest (length (own.taken ++ items)) → GoesOn own other (record (taking pdu link) { phase = phase; taken = taken_count }) [] [] items
    unfolding dropped
    took_on phase taken_count items brings is_opened no_asking reads_so goes_up count = record {
      part = took items dropped;
      first = refl;
      flow = sym (append-nil own.flow);
      given = sym (append-nil own.given);
      taken = refl;
      order = took_order items brings;
      plays = joined (took_plays phase taken_count items is_opened no_asking reads_so goes_up count);
    }

    carries : Carries other place pdu.body
    carries = (made link own other order plays pdu place at).carries

    -- the request is answered
    replied : pdu.body ≡ RetransmissionRequest → is_up link.phase ≡ true → Brings other place [] → link.sent < connection_limit
        → GoesOn own other (answering (taking pdu link)).link (answering (taking pdu link)).pdus [] []
    unfolding here dropped taking confirmed
    replied body up_now brings room =
        let was : IsAsking own other place = order.there.askings place pdu at body (omega arith)
        in let one : InOrder (took [] dropped) other = took_order [] brings
        in let count : link.taken ≡ stops_at_greatest (length (own.taken ++ [])) = omega (arith, plays.inside.keeps.taken, length-append own.taken [])
        in let two : HasJoined (taking pdu link) (took [] dropped) other = took_plays link.phase link.taken [] plays.inside.connected plays.joined plays.inside.reading up_now count
        in let three : GoesOn (took [] dropped) other (answering (taking pdu link)).link (answering (taking pdu link)).pdus [] []
        = replied_on (taking pdu link) (took [] dropped) other one two up_now room was.unanswered
        (λ number that there its from. asked_again was number that there its from) was.waiting
        (later_all (other.expecting place - 1 + 1) (sent own) other.reached (still_waiting (other.expecting place - 1) own.waiting)
        (still_above (other.expecting place - 1) 0 (sent own) own.waiting order.there.waits.rises) (omega (arith, was.still)))
        in record {
          part = three.part;
          first = three.first;
          flow = three.flow;
          given = three.given;
          taken = three.taken ∙ append-nil (own.taken ++ []);
          order = three.order;
          plays = three.plays;
        }
      where
        asked_again : IsAsking own other place → (number : ℕ) (that : Pdu) → IsAt number that other.flow → that.body ≡ RetransmissionRequest → own.reached + 1 ≤ number → ⊥
        asked_again was number that there its from = omega (arith, was.only number that there its (omega arith))

    already : ⊥ ⊎ (is_up link.phase ≡ true) → is_up link.phase ≡ true
    already (inl no_way) = absurd no_way
    already (inr up_now) = up_now

    -- what it brings
    brought : (body : Body) → pdu.body ≡ body → TakesTurns body → BringsUp body ⊎ (is_up link.phase ≡ true) → Carries other place body → link.sent < connection_limit
        → GoesOn own other (bringing body (taking pdu link)).link (bringing body (taking pdu link)).pdus [] (bringing body (taking pdu link)).items
    unfolding bringing handing taking
    brought RetransmissionRequest same turn ups carry room = replied same (already ups) carry room
    brought Heartbeat same turn ups carry room =
        took_on (up link).phase link.taken [] carry refl refl reading refl (omega (arith, plays.inside.keeps.taken, length-append own.taken []))
    brought (Data items) same turn ups carry room =
        took_on (up link).phase (stops_at_greatest (link.taken + length items)) items carry refl refl reading refl (omega (arith, plays.inside.keeps.taken, length-append own.taken items))
    brought (RetransmittedData items) same turn ups carry room =
        took_on link.phase (stops_at_greatest (link.taken + length items)) items carry plays.inside.connected plays.joined plays.inside.reading (already ups)
        (omega (arith, plays.inside.keeps.taken, length-append own.taken items))
    brought (ConnectionRequest opening) same turn ups carry room = absurd turn
    brought (ConnectionResponse opening) same turn ups carry room = absurd turn
    brought RetransmissionResponse same turn ups carry room = absurd turn
    brought (DisconnectionRequest detail reason) same turn ups carry room = absurd turn

  turns_open : (body : Body) → TakesTurns body → IsClosing body → ⊥
  turns_open (DisconnectionRequest detail reason) turn closes = turn
  turns_open (ConnectionRequest opening) turn closes = closes
  turns_open (ConnectionResponse opening) turn closes = closes
  turns_open RetransmissionRequest turn closes = closes
  turns_open RetransmissionResponse turn closes = closes
  turns_open Heartbeat turn closes = closes
  turns_open (Data items) turn closes = closes
  turns_open (RetransmittedData items) turn closes = closes

  -- it takes the PDU in turn, or asks
  pub turned_on : own.reading ≡ true → TakesTurns pdu.body → BringsUp pdu.body ⊎ (is_up link.phase ≡ true) → nat_lt sequence_range (ahead pdu link) ≡ false → link.sent < connection_limit
      → GoesOn own other (in_turn pdu link).link (in_turn pdu link).pdus [] (in_turn pdu link).items
  unfolding in_turn missing
  turned_on reading turn ups in_range room =
      by_test (λ (receipt : Receipt). GoesOn own other receipt.link receipt.pdus [] receipt.items) (ahead pdu link == 0) (bringing pdu.body (taking pdu link)) (missing link)
      (λ e. let now : ahead pdu link ≡ 0 = eqb-true (ahead pdu link) 0 e
      in brought reading now (place_is link own other order plays pdu place at in_range ∙ ap (λ steps. own.reached + steps) now) (turns_open pdu.body turn) pdu.body refl turn ups
      (made link own other order plays pdu place at).carries room)
      (λ e. asked_on link own other order plays room reading (more (λ now. absurd (cc (e, ap (λ steps. steps == 0) now)))))
    where
      more : (ahead pdu link ≡ 0 → ⊥) → BeginsByResponse other.flow ⊎ ((2 ≤ sent other) × OpensOn other.flow)
      more later =
          let is = place_is link own other order plays pdu place at in_range
          in let two : 2 ≤ place = omega (arith, is, order.back.counts.some, some (ahead pdu link) later)
          in inr (omega (arith, two, within place pdu other.flow at), (made link own other order plays pdu place at).follows two)
        where
          some : (steps : ℕ) → (steps ≡ 0 → ⊥) → 1 ≤ steps
          some zero no_step = absurd (no_step refl)
          some (suc steps) no_step = omega arith

  -- it takes the answer that it waits for
  pub resumed_on : (phase : Phase) → is_up link.phase ≡ true → open_state phase ≡ state.RetransmissionRunning → pdu.body ≡ RetransmissionResponse → nat_lt sequence_range (ahead pdu link) ≡ false
      → GoesOn own other (record (taking pdu link) { phase = phase }) [] [] []
  unfolding here dropped taking
  resumed_on phase was_up running body in_range =
      let before = dropped_order link own other order plays pdu place at
      in let is = place_is link own other order plays pdu place at in_range
      in record {
        part = resumed place dropped;
        first = refl;
        flow = sym (append-nil own.flow);
        given = sym (append-nil own.given);
        taken = sym (append-nil own.taken);
        order = record {
          there = giver_went_on dropped other (place + 1) true own.taken before.there (omega (arith, is));
          back = taker_resumed other dropped place pdu before.back at body (omega (arith, is));
        };
        plays = joined (moved_plays link own other order plays pdu place at right phase link.taken (place + 1) true own.taken (running_open phase running) (running_joined phase running)
            (sym (ap reads running)) plays.inside.keeps.taken
            (expects_next link own other order plays pdu place at (ahead pdu link) refl is ∙ ap (λ count. count + 1) (sym is))
            (record { starting = λ down. absurd (cc (running_up phase running, down)); heard = λ up. plays.come.heard was_up }));
      }
    where
      running_open : (phase : Phase) → open_state phase ≡ state.RetransmissionRunning → is_open phase ≡ true
      running_open phase e = grind arith

      running_up : (phase : Phase) → open_state phase ≡ state.RetransmissionRunning → is_up phase ≡ true
      running_up phase e = grind arith

      running_joined : (phase : Phase) → open_state phase ≡ state.RetransmissionRunning → is_asking (record (taking pdu link) { phase = phase; taken = link.taken }) ≡ false
      running_joined phase e = grind arith

  -- it takes the closing
  pub closed_by_it : GoesOn own other (closed (taking pdu link)) [] [] []
  unfolding here dropped taking
  closed_by_it = record {
    part = dropped;
    first = refl;
    flow = sym (append-nil own.flow);
    given = sym (append-nil own.given);
    taken = sym (append-nil own.taken);
    order = dropped_order link own other order plays pdu place at;
    plays = left refl (inl (record {
      given = plays.inside.keeps.given;
      taken = plays.inside.keeps.taken;
      waiting = keeps_waiting link own other order plays pdu place at right;
    }));
  }

-- a server that has sent its response alone takes the closing of a client that has taken nothing
pub closed_alone : (link : LinkState) (own other : EndFlow) → InOrder own other → HasJoined link own other → (pdu : Pdu) → sent own ≡ 1 → GoesOn own other (closed (taking pdu link)) [] [] []
unfolding taking behind
closed_alone link own other order plays pdu one = record {
  part = drops 0 own;
  first = refl;
  flow = sym (append-nil own.flow);
  given = sym (append-nil own.given);
  taken = sym (append-nil own.taken);
  order = record {
    there = giver_dropped own other 0 order.there (omega (arith, order.there.counts.some));
    back = taker_held other own (still_waiting 0 own.waiting) order.back;
  };
  plays = left refl (inl (record {
    given = plays.inside.keeps.given;
    taken = plays.inside.keeps.taken;
    waiting = ap (λ count. still_waiting count link.waiting) none ∙ ap (still_waiting 0) plays.inside.keeps.waiting;
  }));
}
  where
    none : link.sent - 1 - behind pdu link ≡ 0
    none = omega (arith, plays.inside.counted, one)
