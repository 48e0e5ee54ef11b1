-- What a step leaves of one point, by its parts: what its client has heard, and what the rules and a tick leave of that.
use Rattle.simulator_recovery.proofs.Words.Basics.{◌≡◌, ◌≢◌, ◌⊎◌, inl, inr, ℕ, ◌∙◌, true, false, List, [], ◌++◌, append-nil, map, Some, slice_get, refl, sym, ap, subst}
use Rattle.simulator_recovery.proofs.Words.Links.{receiving, Call, OutboxState, LinkState, is_up, all_made, made_by}
use Rattle.simulator_recovery.proofs.Words.Controllers.{Protocol}
use Rattle.simulator_recovery.proofs.Words.Interlockings.{ClientState, is_outside, ClientSoFar, LinkCall, as_call, begun, MakesAfterReceipt, MakesOwn, link_after, commanding, hearing, ticking, Stage, unmoved_for, KnownPointState, changed, side_heard, Detector, Node, Point, Signal, known_point_after}
use Rattle.simulator_recovery.proofs.Words.Controllers.{Side}
use Rattle.simulator_recovery.proofs.Words.Stations.{Places}
use Rattle.simulator_recovery.proofs.Words.Machine.{taken_after}
use Rattle.simulator_recovery.proofs.Words.Recovery.{ClientStandsByCounts, LawsBelow}
use Rattle.simulator_spec.specs.ixl_client.declared.command.Command.{Command}
use Rattle.simulator_recovery.proofs.Lemmas.Ground.AspectCalls.{noted_at}
use Rattle.simulator_recovery.proofs.Lemmas.Ground.ClientBehind.{all_took_behind}
use Rattle.simulator_recovery.proofs.Lemmas.Talk.ClientLinks.{ClockedStands, commanding_stands, hearing_stands, ticking_stands}
use Rattle.simulator_recovery.proofs.Lemmas.RoutesComing.DueKnown.{inside_ticks, outside_up}
use Rattle.simulator_recovery.proofs.Lemmas.Points.HeldClient.{HearsOne, hears_one, moved_awaits, nothing}
use Rattle.simulator_recovery.proofs.Lemmas.Ground.IxlClients.{mapped_at}
use Rattle.simulator_recovery.proofs.Lemmas.Ground.IxlSoFar.{at_itself, at_node, at_other, is_node, other_place, set_at}
use Rattle.simulator_recovery.proofs.Lemmas.Points.KnownClient.{after_client, after_inside}
use Rattle.simulator_recovery.proofs.Lemmas.Points.KnownIxl.{PointsHear, PointsKeep, heard_by, moved_by, ticked_by}
use Rattle.simulator_recovery.proofs.Lemmas.Ground.EndCalls.{map_both}
use Rattle.simulator_recovery.proofs.Lemmas.Sections.SectionsClient.{after_both, link_is_made, own_keeps, up_inside}

-- ---- one of the points, with the calls of its link

module _ (place : ℕ) (F : KnownPointState → List LinkCall → Type 0) where
  abbrev pub OfPoint : List KnownPointState → List (Node × LinkCall) → Type 0
  OfPoint points calls = (known : KnownPointState) → slice_get points place ≡ Some known → F known (at_node (Point place) calls)

  -- some point is another, by these calls more
  changed_point : (k : ℕ) (new : KnownPointState) (more : List LinkCall) (points : List KnownPointState) (calls : List (Node × LinkCall)) → (place ≡ k → F new (at_node (Point place) calls ++ more))
      → OfPoint points calls
      → OfPoint (changed (λ old. new) k points) (noted_at (Point k) more calls)
  changed_point k new more points calls so all known e = choose (set_at k new points place known e)
    where
      choose : ((place ≡ k) × (known ≡ new)) ⊎ ((place ≢ k) × (slice_get points place ≡ Some known)) → F known (at_node (Point place) (noted_at (Point k) more calls))
      choose (inl (same, f)) = subst (λ (n : ℕ). F known (at_node (Point place) (noted_at (Point n) more calls))) same
          (subst (λ (x : KnownPointState). F x (at_node (Point place) (noted_at (Point place) more calls))) (sym f) (subst (F new) (sym (at_itself (Point place) calls more)) (so same)))
      choose (inr (differ, f)) = subst (F known) (sym (at_other (Point place) (Point k) (other_place place k (λ same. differ (sym same))) calls more)) (all known f)

  other_calls : (node : Node) → is_node (Point place) node ≡ false → (more : List LinkCall) (points : List KnownPointState) (calls : List (Node × LinkCall)) → OfPoint points calls
      → OfPoint points (noted_at node more calls)
  other_calls node differ more points calls all known e = subst (F known) (sym (at_other (Point place) node differ calls more)) (all known e)

-- ---- a step

module _ (laws : LawsBelow) (now connection place : ℕ) (link : LinkState) (took : List (List ℕ)) where
  -- what its client has taken by these calls
  abbrev pub so_far : List LinkCall → List (List ℕ)
  so_far calls = taken_after now (map (as_call connection) calls) link took

  so_far_behind : (calls more : List LinkCall) (then_link : LinkState) → then_link ≡ (all_made now (map (as_call connection) calls) link).link
      → so_far (calls ++ more) ≡ taken_after now (map (as_call connection) more) then_link (so_far calls)
  so_far_behind calls more then_link is = ap (λ (cs : List Call). taken_after now cs link took) (map_both (as_call connection) calls more)
      ∙ (all_took_behind now connection (map (as_call connection) calls) (map (as_call connection) more) link took
      ∙ ap (λ (l : LinkState). taken_after now (map (as_call connection) more) l (so_far calls)) (sym is))

  link_behind : (calls more : List LinkCall) (then_link after : LinkState) → then_link ≡ (all_made now (map (as_call connection) calls) link).link → after ≡ link_after now more then_link
      → after ≡ (all_made now (map (as_call connection) (calls ++ more)) link).link
  link_behind calls more then_link after is made = made ∙ (link_is_made now connection more then_link ∙ (ap (λ (l : LinkState). (all_made now (map (as_call connection) more) l).link) is
      ∙ sym (after_both now connection calls more link)))

  -- ---- what is heard

  module _ (clocks : List KnownPointState) where
    -- where the clock alone has acted
    pub record AtClock (known : KnownPointState) (calls : List LinkCall) : Type 0 where
      pub none : calls ≡ []
      pub there : slice_get clocks place ≡ Some known
      pub link_is : known.client.link ≡ link
      pub counts : ClockedStands now known.client
      pub point : known.client.peer.protocol ≡ Protocol.Point

    -- a client that isn't outside has taken these items more; one that awaited a report has taken the report, or nothing
    pub record Takes (was known : KnownPointState) (taken : List (List ℕ)) : Type 0 where
      pub more : List (List ℕ)
      pub are : taken ≡ took ++ more
      pub awaited : was.client.stage ≡ Stage.AwaitsReport → HearsOne known.client.stage more

    pub record HasHeard (known : KnownPointState) (calls : List LinkCall) : Type 0 where
      pub was : KnownPointState
      pub there : slice_get clocks place ≡ Some was
      pub link_is : known.client.link ≡ (all_made now (map (as_call connection) calls) link).link
      pub counts : ClientStandsByCounts known.client
      pub takes : is_outside known.client.stage ≡ false → Takes was known (so_far calls)

    still_heard : (known : KnownPointState) (calls : List LinkCall) → AtClock known calls → HasHeard known calls
    unfolding all_made taken_after
    still_heard known calls c = subst (HasHeard known) (sym c.none) (record {
      was = known;
      there = c.there;
      link_is = c.link_is;
      counts = c.counts.stands;
      takes = λ inside. record { more = []; are = sym (append-nil took); awaited = λ e. nothing e refl };
    })

    -- a datagram that comes first
    module _ (known : KnownPointState) (bytes : List ℕ) (outbox : OutboxState) (c : AtClock known []) where
      abbrev done : ClientSoFar
      done = hearing now bytes (begun known.client outbox)

      abbrev new : KnownPointState
      new = heard_by now bytes known outbox

      abbrev items : List (List ℕ)
      items = (receiving now bytes known.client.link).items

      made : MakesAfterReceipt now bytes (begun known.client outbox) done
      made = laws.client_step_is_calls_receipt now bytes (begun known.client outbox)

      same_client : new.client ≡ done.client
      same_client = after_client (side_heard done.heard known.side) known.moved done.client

      done_stands : ClientStandsByCounts done.client
      done_stands = hearing_stands now bytes (begun known.client outbox) c.counts

      taken_is : is_up done.client.link.phase ≡ true → so_far done.calls ≡ took ++ items
      unfolding link_after taken_after made_by
      taken_is up = ap (λ (l : LinkState). taken_after now (map (as_call connection) done.calls) l took) (sym c.link_is)
          ∙ (ap (λ (cs : List LinkCall). taken_after now (map (as_call connection) cs) known.client.link took) made.1.calls_are
          ∙ (own_keeps now connection made.0 made.2 (receiving now bytes known.client.link).link (took ++ items) (ap (λ (l : LinkState). is_up l.phase) (sym made.1.link_is) ∙ up)).1)

      hears_so : HasHeard new done.calls
      hears_so = record {
        was = known;
        there = c.there;
        link_is = ap (λ (x : ClientState). x.link) same_client ∙ (made.1.link_is ∙ (ap (λ (cs : List LinkCall). link_after now cs known.client.link) (sym made.1.calls_are)
            ∙ (link_is_made now connection done.calls known.client.link ∙ ap (λ (l : LinkState). (all_made now (map (as_call connection) done.calls) l).link) c.link_is)));
        counts = subst ClientStandsByCounts (sym same_client) done_stands;
        takes = λ inside. let inside_then : is_outside done.client.stage ≡ false = ap (λ (x : ClientState). is_outside x.stage) (sym same_client) ∙ inside in record {
          more = items;
          are = taken_is (outside_up done.client done_stands.outside inside_then);
          awaited = λ e. subst (λ (s : Stage). HearsOne s items) (ap (λ (x : ClientState). x.stage) (sym same_client)) (hears_one now bytes known.client outbox e c.point inside_then);
        };
      }

    heard_here : (known : KnownPointState) (bytes : List ℕ) (outbox : OutboxState) (calls : List LinkCall) → AtClock known calls → HasHeard (heard_by now bytes known outbox)
        (calls ++ (hearing now bytes (begun known.client outbox)).calls)
    heard_here known bytes outbox calls c = subst (λ (cs : List LinkCall). HasHeard (heard_by now bytes known outbox) (cs ++ (hearing now bytes (begun known.client outbox)).calls)) (sym c.none)
        (hears_so known bytes outbox (subst (AtClock known) c.none c))

    unmoved_heard : (number : ℕ) (known : KnownPointState) (calls : List LinkCall) → HasHeard known calls → HasHeard (unmoved_for number known) calls
    unmoved_heard number known calls h =
        record { was = h.was; there = h.there; link_is = h.link_is; counts = h.counts; takes = λ inside. let t = h.takes inside in record { more = t.more; are = t.are; awaited = t.awaited } }

  -- ---- what the rules and a tick leave of that

  module _ (heard : List KnownPointState) (heard_calls : List LinkCall) where
    -- a client that isn't outside has taken no more, and the point is known at no other side
    pub record Leaves (was known : KnownPointState) (taken : List (List ℕ)) : Type 0 where
      pub within : is_outside was.client.stage ≡ false
      pub side : known.side ≡ was.side
      pub taken_is : taken ≡ so_far heard_calls
      pub awaits : was.client.stage ≡ Stage.AwaitsReport → known.client.stage ≡ Stage.AwaitsReport

    pub record IsLeft (known : KnownPointState) (calls : List LinkCall) : Type 0 where
      pub was : KnownPointState
      pub there : slice_get heard place ≡ Some was
      pub link_is : known.client.link ≡ (all_made now (map (as_call connection) calls) link).link
      pub counts : ClientStandsByCounts known.client
      pub leaves : is_outside known.client.stage ≡ false → Leaves was known (so_far calls)

    -- what a client does of its own
    left_own : (known : KnownPointState) (moved : Places) (outbox : OutboxState) (done : ClientSoFar) (calls : List LinkCall) → IsLeft known calls → MakesOwn now (begun known.client outbox) done
        → ClientStandsByCounts done.client
        → (is_outside done.client.stage ≡ false → known.client.stage ≡ Stage.AwaitsReport → done.client.stage ≡ Stage.AwaitsReport) → IsLeft (known_point_after known.side moved done.client)
        (calls ++ done.calls)
    left_own known moved outbox done calls h made stands stays = record {
      was = h.was;
      there = h.there;
      link_is = ap (λ (x : ClientState). x.link) same_client ∙ link_behind calls done.calls known.client.link done.client.link h.link_is (made.1.link_is
          ∙ ap (λ (cs : List LinkCall). link_after now cs known.client.link) (sym made.1.calls_are));
      counts = subst ClientStandsByCounts (sym same_client) stands;
      leaves = λ inside. so (ap (λ (x : ClientState). is_outside x.stage) (sym same_client) ∙ inside);
    }
      where
        after : KnownPointState
        after = known_point_after known.side moved done.client

        same_client : after.client ≡ done.client
        same_client = after_client known.side moved done.client

        so : is_outside done.client.stage ≡ false → Leaves h.was after (so_far (calls ++ done.calls))
        so inside =
            let kept = own_keeps now connection made.0 made.2 known.client.link (so_far calls) (ap (λ (l : LinkState). is_up l.phase) (sym made.1.link_is)
            ∙ outside_up done.client stands.outside inside)
            in let before = h.leaves (up_inside known.client h.counts kept.0)
            in record {
              within = before.within;
              side = after_inside known.side moved done.client inside ∙ before.side;
              taken_is = so_far_behind calls done.calls known.client.link h.link_is
                  ∙ (ap (λ (cs : List LinkCall). taken_after now (map (as_call connection) cs) known.client.link (so_far calls)) made.1.calls_are ∙ (kept.1 ∙ before.taken_is));
              awaits = λ e. ap (λ (x : ClientState). x.stage) same_client ∙ stays inside (before.awaits e);
            }

    pub keep : PointsKeep now (OfPoint place IsLeft)
    keep = record {
      ticks = λ k known outbox points calls e all. changed_point place IsLeft k (ticked_by now known outbox) (ticking now (begun known.client outbox)).calls points calls
          (λ same. let h = all known (ap (slice_get points) same ∙ e)
          in left_own known known.moved outbox (ticking now (begun known.client outbox)) (at_node (Point place) calls) h (laws.client_step_is_calls_tick now (begun known.client outbox))
          (ticking_stands now (begun known.client outbox) h.counts) (λ inside awaits. (inside_ticks now known.client outbox inside).same ∙ awaits)) all;
      moves = λ k side moved known outbox points calls e all. changed_point place IsLeft k (moved_by now side moved known outbox) (commanding now (Command.Move side)
          (begun known.client outbox)).calls points calls
          (λ same. let h = all known (ap (slice_get points) same ∙ e)
          in left_own known moved outbox (commanding now (Command.Move side) (begun known.client outbox)) (at_node (Point place) calls) h (laws.client_step_is_calls_command now (Command.Move side)
          (begun known.client outbox))
          (commanding_stands now (Command.Move side) (begun known.client outbox) h.counts) (λ inside awaits. moved_awaits now side (begun known.client outbox) inside awaits)) all;
      signal = λ k more points calls all. other_calls place IsLeft (Signal k) refl more points calls all;
      detector = λ k more points calls all. other_calls place IsLeft (Detector k) refl more points calls all;
    }

    -- at first it is as it was heard
    pub left_first : (known : KnownPointState) → slice_get heard place ≡ Some known → known.client.link ≡ (all_made now (map (as_call connection) heard_calls) link).link
        → ClientStandsByCounts known.client → IsLeft known heard_calls
    left_first known there link_is counts = record {
      was = known;
      there = there;
      link_is = link_is;
      counts = counts;
      leaves = λ inside. record { within = inside; side = refl; taken_is = refl; awaits = λ e. e };
    }

  -- ---- what the input leaves, a move by command too

  module _ (clocks : List KnownPointState) where
    -- what is left of a client that its clock alone had acted on, is what it has heard
    left_heard : (known : KnownPointState) (calls : List LinkCall) → IsLeft clocks [] known calls → HasHeard clocks known calls
    unfolding taken_after
    left_heard known calls left = record {
      was = left.was;
      there = left.there;
      link_is = left.link_is;
      counts = left.counts;
      takes = λ inside. let leaves = left.leaves inside in record { more = []; are = leaves.taken_is ∙ sym (append-nil took); awaited = λ e. nothing (leaves.awaits e) refl };
    }

    moved_here : (known : KnownPointState) (side : Side) (moved : Places) (outbox : OutboxState) (calls : List LinkCall) → AtClock clocks known calls
        → HasHeard clocks (moved_by now side moved known outbox) (calls ++ (commanding now (Command.Move side) (begun known.client outbox)).calls)
    unfolding all_made taken_after
    moved_here known side moved outbox calls c =
        let first : IsLeft clocks [] known calls = subst (IsLeft clocks [] known) (sym c.none) (left_first clocks [] known c.there c.link_is c.counts.stands)
        in left_heard (moved_by now side moved known outbox) (calls ++ (commanding now (Command.Move side) (begun known.client outbox)).calls)
        (left_own clocks [] known moved outbox (commanding now (Command.Move side) (begun known.client outbox)) calls first (laws.client_step_is_calls_command now (Command.Move side) (begun known.client outbox))
        (commanding_stands now (Command.Move side) (begun known.client outbox) first.counts) (λ inside awaits. moved_awaits now side (begun known.client outbox) inside awaits))

    pub hear : PointsHear now (OfPoint place (AtClock clocks)) (OfPoint place (HasHeard clocks))
    hear = record {
      still = λ points calls all known e. still_heard clocks known (at_node (Point place) calls) (all known e);
      hears = λ k known bytes outbox points calls e all. changed_point place (HasHeard clocks) k (heard_by now bytes known outbox) (hearing now bytes (begun known.client outbox)).calls points calls
          (λ same. heard_here clocks known bytes outbox (at_node (Point place) calls) (all known (ap (slice_get points) same ∙ e)))
          (λ other f. still_heard clocks other (at_node (Point place) calls) (all other f));
      moves = λ k side moved known outbox points calls e all. changed_point place (HasHeard clocks) k (moved_by now side moved known outbox) (commanding now (Command.Move side) (begun known.client outbox)).calls points calls
          (λ same. moved_here known side moved outbox (at_node (Point place) calls) (all known (ap (slice_get points) same ∙ e)))
          (λ other f. still_heard clocks other (at_node (Point place) calls) (all other f));
      unmoved = λ number points calls all known e. let found = mapped_at (unmoved_for number) points place known e
          in subst (λ (x : KnownPointState). HasHeard clocks x (at_node (Point place) calls)) (sym found.2) (unmoved_heard clocks number found.0 (at_node (Point place) calls) (all found.0 found.1));
      signal = λ k more points calls all. other_calls place (HasHeard clocks) (Signal k) refl more points calls all;
      detector = λ k more points calls all. other_calls place (HasHeard clocks) (Detector k) refl more points calls all;
    }
