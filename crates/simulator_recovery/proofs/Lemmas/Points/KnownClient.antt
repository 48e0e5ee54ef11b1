-- What the client of a point keeps of its side in a step is what the items tell that it has taken.
use Rattle.simulator_recovery.proofs.Words.Basics.{◌≡◌, ◌≢◌, ◌⊎◌, inl, inr, ℕ, ◌<◌, ◌==◌, ◌∙◌, Bool, true, false, List, [], ◌∷◌, ◌++◌, append-nil, map, Option, Some, None, slice_get, if◌then◌else◌, refl, sym, ap, subst, arith, empty, false≢true, nat_tests}
use Rattle.simulator_recovery.proofs.Words.Links.{receiving, settled, Call, OutboxState, LinkState, is_client, is_open, is_up, all_made, made_by}
use Rattle.simulator_recovery.proofs.Words.Controllers.{Side}
use Rattle.simulator_recovery.proofs.Words.Interlockings.{ClientState, PeerState, is_outside, ClientSoFar, LinkCall, as_call, begun, ActsOn, MakesAfterReceipt, MakesOwn, link_after, told_by_all, clocked, commanding, hearing, ticking, Indication, unmoved_for, KnownPointState, changed, clocked_known_point, side_heard, side_of, Detector, Node, Point, Signal, known_point_after}
use Rattle.simulator_recovery.proofs.Words.Stations.{Places}
use Rattle.simulator_recovery.proofs.Words.Machine.{taken_after}
use Rattle.simulator_recovery.proofs.Words.Recovery.{ClientStandsByCounts, side_told, LawsBelow}
use Rattle.simulator_spec.specs.ixl_client.declared.command.Command.{Command}
use Rattle.simulator_recovery.proofs.Lemmas.Ground.AspectCalls.{noted_at}
use Rattle.simulator_recovery.proofs.Lemmas.Ground.ClientBehind.{all_took_behind}
use Rattle.simulator_recovery.proofs.Lemmas.Talk.ClientLinks.{ClockedStands, clocked_peer, clocked_stands, commanding_peer, commanding_stands, hearing_peer, hearing_stands, ticking_peer, ticking_stands, up_open}
use Rattle.simulator_recovery.proofs.Lemmas.Ground.IxlClients.{mapped_at}
use Rattle.simulator_recovery.proofs.Lemmas.Ground.IxlSoFar.{at_itself, at_node, at_other, set_at}
use Rattle.simulator_recovery.proofs.Lemmas.Ground.LinkCounts.{settled_open}
use Rattle.simulator_recovery.proofs.Lemmas.Ground.EndCalls.{map_both}
use Rattle.simulator_recovery.proofs.Lemmas.Points.KnownIxl.{PointsHear, PointsKeep, heard_by, moved_by, ticked_by}
use Rattle.simulator_recovery.proofs.Lemmas.Sections.SectionsClient.{after_both, down_outside, link_is_made, own_keeps, up_inside, all_both}
use Rattle.simulator_recovery.proofs.Lemmas.Talk.StationTalk.{clocked_link, stays_shut}

-- ---- what is known

-- What is known of a point is what these items tell, or nothing outside a connection.
pub record Knows (known : KnownPointState) (taken : List (List ℕ)) : Type 0 where
  pub outside : is_outside known.client.stage ≡ true → known.side ≡ None
  pub last : is_up known.client.link.phase ≡ true → known.side ≡ side_told known.client.peer taken

module _ (side : Option Side) (moved : Places) (client : ClientState) where
  abbrev out : KnownPointState
  out = record { client = client; side = None; moved = empty }

  abbrev inside : KnownPointState
  inside = record { client = client; side = side; moved = moved }

  pub after_client : (known_point_after side moved client).client ≡ client
  unfolding known_point_after
  after_client = choose (is_outside client.stage)
    where
      choose : (b : Bool) → (if b then out else inside).client ≡ client
      choose true = refl
      choose false = refl

  after_outside : is_outside (known_point_after side moved client).client.stage ≡ true → (known_point_after side moved client).side ≡ None
  unfolding known_point_after
  after_outside e = choose (is_outside client.stage) refl e
    where
      choose : (b : Bool) → is_outside client.stage ≡ b → is_outside (if b then out else inside).client.stage ≡ true → (if b then out else inside).side ≡ None
      choose true f g = refl
      choose false f g = absurd (false≢true (sym f ∙ g))

  pub after_inside : is_outside client.stage ≡ false → (known_point_after side moved client).side ≡ side
  unfolding known_point_after
  after_inside e = ap (λ (b : Bool). (if b then out else inside).side) e

-- how the client of a point is made up of calls
pub heard_both : (one other : List Indication) (side : Option Side) → side_heard (one ++ other) side ≡ side_heard other (side_heard one side)
heard_both [] other side = refl
heard_both (first ∷ one) other side = heard_both one other (side_of first.state)

pub told_both : (peer : PeerState) (one other : List (List ℕ)) → side_told peer (one ++ other) ≡ side_heard (told_by_all peer other) (side_told peer one)
told_both peer one other = ap (λ (list : List Indication). side_heard list None) (all_both peer one other) ∙ heard_both (told_by_all peer one) (told_by_all peer other) None

pub knows_clocked : (now : ℕ) (known : KnownPointState) (taken : List (List ℕ)) → ClientStandsByCounts known.client → Knows known taken → Knows (clocked_known_point now known) taken
knows_clocked now known taken stands knows = record {
  outside = after_outside known.side known.moved (clocked now known.client);
  last = λ up. is_last (ap (λ (c : ClientState). is_up c.link.phase) (sym (after_client known.side known.moved (clocked now known.client))) ∙ up);
}
  where
    is_last : is_up (clocked now known.client).link.phase ≡ true → (clocked_known_point now known).side ≡ side_told (clocked_known_point now known).client.peer taken
    is_last up = after_inside known.side known.moved (clocked now known.client) (up_inside (clocked now known.client) (clocked_stands now known.client stands).stands up)
        ∙ (knows.last was ∙ ap (λ (p : PeerState). side_told p taken) (sym (ap (λ (c : ClientState). c.peer) (after_client known.side known.moved (clocked now known.client)) ∙ clocked_peer now known.client)))
      where
        up_settled : is_up (settled now known.client.link).phase ≡ true
        up_settled = ap (λ (l : LinkState). is_up l.phase) (sym (clocked_link now known.client)) ∙ up

        was : is_up known.client.link.phase ≡ true
        was = ap (λ (l : LinkState). is_up l.phase) (sym (settled_open now known.client.link (up_open _ up_settled)).0) ∙ up_settled

module _ (laws : LawsBelow) (now connection : ℕ) where
  -- a datagram that comes first
  pub knows_heard : (bytes : List ℕ) (known : KnownPointState) (outbox : OutboxState) (t : List (List ℕ)) → ClockedStands now known.client → is_client known.client.link.identity.role ≡ true
      → (is_open known.client.link.phase ≡ true → is_up known.client.link.phase ≡ false → t ≡ []) → Knows known t
      → Knows (heard_by now bytes known outbox) (taken_after now (map (as_call connection) (hearing now bytes (begun known.client outbox)).calls) known.client.link t)
  unfolding link_after taken_after made_by told_by_all
  knows_heard bytes known outbox t stands asks nothing knows = record {
    outside = after_outside (side_heard done.heard known.side) known.moved done.client;
    last = λ up. is_last (ap (λ (c : ClientState). is_up c.link.phase) (sym same_client) ∙ up);
  }
    where
      l : LinkState
      l = known.client.link

      done : ClientSoFar
      done = hearing now bytes (begun known.client outbox)

      items : List (List ℕ)
      items = (receiving now bytes l).items

      same_client : (heard_by now bytes known outbox).client ≡ done.client
      same_client = after_client (side_heard done.heard known.side) known.moved done.client

      made : MakesAfterReceipt now bytes (begun known.client outbox) done
      made = laws.client_step_is_calls_receipt now bytes (begun known.client outbox)

      acts : ActsOn now bytes (begun known.client outbox) done
      acts = laws.step_hears_what_was_taken now bytes (begun known.client outbox)

      peer_is : (heard_by now bytes known outbox).client.peer ≡ known.client.peer
      peer_is = ap (λ (c : ClientState). c.peer) same_client ∙ hearing_peer now bytes (begun known.client outbox)

      is_last : is_up done.client.link.phase ≡ true → (heard_by now bytes known outbox).side ≡ side_told (heard_by now bytes known outbox).client.peer (taken_after now (map (as_call connection) done.calls) l t)
      is_last up = after_inside (side_heard done.heard known.side) known.moved done.client (up_inside done.client (hearing_stands now bytes (begun known.client outbox) stands) up)
          ∙ (ap (λ (list : List Indication). side_heard list known.side) heard_is
          ∙ (ap (side_heard (told_by_all known.client.peer items)) (was_known (is_up l.phase) refl)
          ∙ (sym (told_both known.client.peer t items)
          ∙ (ap (side_told known.client.peer) (sym taken_is)
          ∙ ap (λ (p : PeerState). side_told p (taken_after now (map (as_call connection) done.calls) l t)) (sym peer_is)))))
        where
          up_behind : is_up (link_after now made.0 (receiving now bytes l).link).phase ≡ true
          up_behind = ap (λ (x : LinkState). is_up x.phase) (sym made.1.link_is) ∙ up

          kept : (is_up (receiving now bytes l).link.phase ≡ true) × (taken_after now (map (as_call connection) made.0) (receiving now bytes l).link (t ++ items) ≡ t ++ items)
          kept = own_keeps now connection made.0 made.2 (receiving now bytes l).link (t ++ items) up_behind

          taken_is : taken_after now (map (as_call connection) done.calls) l t ≡ t ++ items
          taken_is = ap (λ (cs : List LinkCall). taken_after now (map (as_call connection) cs) l t) made.1.calls_are ∙ kept.1

          all_acted : items ≡ acts.items
          all_acted = acts.beginning ∙ (ap (λ (dropped : List (List ℕ)). acts.items ++ dropped) (acts.whole (up_open _ up)) ∙ append-nil acts.items)

          heard_is : done.heard ≡ told_by_all known.client.peer items
          heard_is = acts.heard ∙ ap (told_by_all known.client.peer) (sym all_acted)

          opened : is_open l.phase ≡ true
          opened = by_open (is_open l.phase) refl
            where
              by_open : (b : Bool) → is_open l.phase ≡ b → is_open l.phase ≡ true
              by_open true e = e
              by_open false e = absurd (false≢true (sym (stays_shut now bytes l e asks) ∙ up_open _ kept.0))

          was_known : (b : Bool) → is_up l.phase ≡ b → known.side ≡ side_told known.client.peer t
          was_known true e = knows.last e
          was_known false e = knows.outside (down_outside known.client stands.stands e) ∙ ap (side_told known.client.peer) (sym (nothing opened e))

  -- what a client does of its own, with whatever moves
  knows_own : (known : KnownPointState) (moved : Places) (before done : ClientSoFar) (t : List (List ℕ)) → before.client ≡ known.client → before.calls ≡ [] → MakesOwn now before done → ClientStandsByCounts done.client → done.client.peer ≡ known.client.peer → Knows known t
      → Knows (known_point_after known.side moved done.client) (taken_after now (map (as_call connection) done.calls) known.client.link t)
  knows_own known moved before done t from none made stands same_peer knows = record {
    outside = after_outside known.side moved done.client;
    last = λ up. is_last (ap (λ (c : ClientState). is_up c.link.phase) (sym same_client) ∙ up);
  }
    where
      l : LinkState
      l = known.client.link

      same_client : (known_point_after known.side moved done.client).client ≡ done.client
      same_client = after_client known.side moved done.client

      peer_is : (known_point_after known.side moved done.client).client.peer ≡ known.client.peer
      peer_is = ap (λ (c : ClientState). c.peer) same_client ∙ same_peer

      link_is : done.client.link ≡ link_after now made.0 l
      link_is = made.1.link_is ∙ ap (λ (c : ClientState). link_after now made.0 c.link) from

      calls_are : done.calls ≡ made.0
      calls_are = made.1.calls_are ∙ ap (λ (cs : List LinkCall). cs ++ made.0) none

      is_last : is_up done.client.link.phase ≡ true → (known_point_after known.side moved done.client).side
          ≡ side_told (known_point_after known.side moved done.client).client.peer (taken_after now (map (as_call connection) done.calls) l t)
      is_last up = after_inside known.side moved done.client (up_inside done.client stands up)
          ∙ (knows.last kept.0
          ∙ (ap (side_told known.client.peer) (sym taken_is)
          ∙ ap (λ (p : PeerState). side_told p (taken_after now (map (as_call connection) done.calls) l t)) (sym peer_is)))
        where
          kept : (is_up l.phase ≡ true) × (taken_after now (map (as_call connection) made.0) l t ≡ t)
          kept = own_keeps now connection made.0 made.2 l t (ap (λ (x : LinkState). is_up x.phase) (sym link_is) ∙ up)

          taken_is : taken_after now (map (as_call connection) done.calls) l t ≡ t
          taken_is = ap (λ (cs : List LinkCall). taken_after now (map (as_call connection) cs) l t) calls_are ∙ kept.1

  -- ---- all points, with the calls of their links so far

  module _ (link_of : ℕ → LinkState) (took : ℕ → List (List ℕ)) (count : ℕ) where
    pub record HoldsAt (place : ℕ) (known : KnownPointState) (calls : List LinkCall) : Type 0 where
      pub within : place < count
      pub link_is : known.client.link ≡ (all_made now (map (as_call connection) calls) (link_of place)).link
      pub counts : ClientStandsByCounts known.client
      pub knows : Knows known (taken_after now (map (as_call connection) calls) (link_of place) (took place))

    pub record ClockedAt (place : ℕ) (known : KnownPointState) (calls : List LinkCall) : Type 0 where
      pub within : place < count
      pub none : calls ≡ []
      pub link_is : known.client.link ≡ link_of place
      pub counts : ClockedStands now known.client
      pub asks : is_client known.client.link.identity.role ≡ true
      pub nothing : is_open known.client.link.phase ≡ true → is_up known.client.link.phase ≡ false → took place ≡ []
      pub knows : Knows known (took place)

    abbrev pub Holds : List KnownPointState → List (Node × LinkCall) → Type 0
    Holds points calls = (place : ℕ) (known : KnownPointState) → slice_get points place ≡ Some known → HoldsAt place known (at_node (Point place) calls)

    abbrev pub Clocked : List KnownPointState → List (Node × LinkCall) → Type 0
    Clocked points calls = (place : ℕ) (known : KnownPointState) → slice_get points place ≡ Some known → ClockedAt place known (at_node (Point place) calls)

    clocked_holds : (place : ℕ) (known : KnownPointState) (calls : List LinkCall) → ClockedAt place known calls → HoldsAt place known calls
    unfolding all_made taken_after
    clocked_holds place known calls c = subst (HoldsAt place known) (sym c.none) (record { within = c.within; link_is = c.link_is; counts = c.counts.stands; knows = c.knows })

    -- the setting of a route changes nothing of this
    unmoved_holds : (number place : ℕ) (known : KnownPointState) (calls : List LinkCall) → HoldsAt place known calls → HoldsAt place (unmoved_for number known) calls
    unmoved_holds number place known calls h = record { within = h.within; link_is = h.link_is; counts = h.counts; knows = record { outside = h.knows.outside; last = h.knows.last } }

    -- one of the points goes on by these calls more
    one_goes_on : (place : ℕ) (new : KnownPointState) (more : List LinkCall) (points : List KnownPointState) (calls : List (Node × LinkCall)) → HoldsAt place new (at_node (Point place) calls ++ more) → Holds points calls
        → Holds (changed (λ old. new) place points) (noted_at (Point place) more calls)
    one_goes_on place new more points calls is all k known e = choose (set_at place new points k known e)
      where
        choose : ((k ≡ place) × (known ≡ new)) ⊎ ((k ≢ place) × (slice_get points k ≡ Some known)) → HoldsAt k known (at_node (Point k) (noted_at (Point place) more calls))
        choose (inl (same, f)) = subst (λ (n : ℕ). HoldsAt n known (at_node (Point n) (noted_at (Point place) more calls))) (sym same)
            (subst (λ (x : KnownPointState). HoldsAt place x (at_node (Point place) (noted_at (Point place) more calls))) (sym f) (subst (HoldsAt place new) (sym (at_itself (Point place) calls more)) is))
        choose (inr (apart, f)) = subst (HoldsAt k known) (sym (at_other (Point k) (Point place) (differs (place == k) refl) calls more)) (all k known f)
          where
            differs : (b : Bool) → (place == k) ≡ b → (place == k) ≡ false
            differs false g = g
            differs true g = absurd (apart (grind (arith, nat_tests, g)))

    link_then : (place : ℕ) (calls more : List LinkCall) (known : KnownPointState) (after : LinkState) → known.client.link ≡ (all_made now (map (as_call connection) calls) (link_of place)).link → after ≡ link_after now more known.client.link
        → after ≡ (all_made now (map (as_call connection) (calls ++ more)) (link_of place)).link
    link_then place calls more known after is made = made ∙ (link_is_made now connection more known.client.link ∙ (ap (λ (l : LinkState). (all_made now (map (as_call connection) more) l).link) is ∙ sym (after_both now connection calls more (link_of place))))

    taken_then : (place : ℕ) (calls more : List LinkCall) (known : KnownPointState) → known.client.link ≡ (all_made now (map (as_call connection) calls) (link_of place)).link
        → taken_after now (map (as_call connection) more) known.client.link (taken_after now (map (as_call connection) calls) (link_of place) (took place)) ≡ taken_after now (map (as_call connection) (calls ++ more)) (link_of place) (took place)
    taken_then place calls more known is = ap (λ (l : LinkState). taken_after now (map (as_call connection) more) l (taken_after now (map (as_call connection) calls) (link_of place) (took place))) is
        ∙ (sym (all_took_behind now connection (map (as_call connection) calls) (map (as_call connection) more) (link_of place) (took place)) ∙ ap (λ (cs : List Call). taken_after now cs (link_of place) (took place)) (sym (map_both (as_call connection) calls more)))

    took_none : (place : ℕ) (calls : List LinkCall) → calls ≡ [] → took place ≡ [] → taken_after now (map (as_call connection) calls) (link_of place) (took place) ≡ []
    unfolding taken_after
    took_none place calls none e = ap (λ (cs : List LinkCall). taken_after now (map (as_call connection) cs) (link_of place) (took place)) none ∙ e

    -- a point is moved
    moves_on : (place : ℕ) (side : Side) (moved : Places) (known : KnownPointState) (outbox : OutboxState) (points : List KnownPointState) (calls : List (Node × LinkCall)) → slice_get points place ≡ Some known → Holds points calls
        → Holds (changed (λ old. moved_by now side moved known outbox) place points) (noted_at (Point place) (commanding now (Command.Move side) (begun known.client outbox)).calls calls)
    moves_on place side moved known outbox points calls e all =
        let h = all place known e
        in let made = laws.client_step_is_calls_command now (Command.Move side) (begun known.client outbox)
        in let done = commanding now (Command.Move side) (begun known.client outbox)
        in one_goes_on place (moved_by now side moved known outbox) done.calls points calls (record {
          within = h.within;
          link_is = ap (λ (x : ClientState). x.link) (after_client _ _ done.client) ∙ link_then place (at_node (Point place) calls) done.calls known done.client.link h.link_is
              (made.1.link_is ∙ ap (λ (cs : List LinkCall). link_after now cs known.client.link) (sym made.1.calls_are));
          counts = subst ClientStandsByCounts (sym (after_client _ _ done.client)) (commanding_stands now (Command.Move side) (begun known.client outbox) h.counts);
          knows = subst (Knows (moved_by now side moved known outbox)) (taken_then place (at_node (Point place) calls) done.calls known h.link_is) (knows_own known moved (begun known.client outbox) done _ refl refl made (commanding_stands now (Command.Move side) (begun known.client outbox) h.counts) (commanding_peer now (Command.Move side) (begun known.client outbox)) h.knows);
        }) all

    pub hear : PointsHear now Clocked Holds
    hear = record {
      still = λ points calls all place known e. clocked_holds place known (at_node (Point place) calls) (all place known e);
      hears = λ place known bytes outbox points calls e all.
          let c = all place known e
          in let h = clocked_holds place known (at_node (Point place) calls) c
          in let made = laws.client_step_is_calls_receipt now bytes (begun known.client outbox)
          in let done = hearing now bytes (begun known.client outbox)
          in one_goes_on place (heard_by now bytes known outbox) done.calls points calls (record {
            within = h.within;
            link_is = ap (λ (x : ClientState). x.link) (after_client _ _ done.client) ∙ link_then place (at_node (Point place) calls) done.calls known done.client.link h.link_is
                (made.1.link_is ∙ ap (λ (cs : List LinkCall). link_after now cs known.client.link) (sym made.1.calls_are));
            counts = subst ClientStandsByCounts (sym (after_client _ _ done.client)) (hearing_stands now bytes (begun known.client outbox) c.counts);
            knows = subst (Knows (heard_by now bytes known outbox)) (taken_then place (at_node (Point place) calls) done.calls known h.link_is)
                (knows_heard bytes known outbox _ c.counts c.asks (λ opened down. took_none place (at_node (Point place) calls) c.none (c.nothing opened down)) h.knows);
          }) (λ k other f. clocked_holds k other (at_node (Point k) calls) (all k other f));
      moves = λ place side moved known outbox points calls e all. moves_on place side moved known outbox points calls e (λ k other f. clocked_holds k other (at_node (Point k) calls) (all k other f));
      unmoved = λ number points calls all place known e. let found = mapped_at (unmoved_for number) points place known e in subst (λ (x : KnownPointState). HoldsAt place x (at_node (Point place) calls)) (sym found.2) (unmoved_holds number place found.0 (at_node (Point place) calls) (all place found.0 found.1));
      signal = λ place more points calls all k known e. subst (HoldsAt k known) (sym (at_other (Point k) (Signal place) refl calls more)) (all k known e);
      detector = λ place more points calls all k known e. subst (HoldsAt k known) (sym (at_other (Point k) (Detector place) refl calls more)) (all k known e);
    }

    pub keep : PointsKeep now Holds
    keep = record {
      ticks = λ place known outbox points calls e all.
          let h = all place known e
          in let made = laws.client_step_is_calls_tick now (begun known.client outbox)
          in let done = ticking now (begun known.client outbox)
          in one_goes_on place (ticked_by now known outbox) done.calls points calls (record {
            within = h.within;
            link_is = ap (λ (x : ClientState). x.link) (after_client _ _ done.client) ∙ link_then place (at_node (Point place) calls) done.calls known done.client.link h.link_is
                (made.1.link_is ∙ ap (λ (cs : List LinkCall). link_after now cs known.client.link) (sym made.1.calls_are));
            counts = subst ClientStandsByCounts (sym (after_client _ _ done.client)) (ticking_stands now (begun known.client outbox) h.counts);
            knows = subst (Knows (ticked_by now known outbox)) (taken_then place (at_node (Point place) calls) done.calls known h.link_is) (knows_own known known.moved (begun known.client outbox) done _ refl refl made (ticking_stands now (begun known.client outbox) h.counts) (ticking_peer now (begun known.client outbox)) h.knows);
          }) all;
      moves = λ place side moved known outbox points calls e all. moves_on place side moved known outbox points calls e all;
      signal = λ place more points calls all k known e. subst (HoldsAt k known) (sym (at_other (Point k) (Signal place) refl calls more)) (all k known e);
      detector = λ place more points calls all k known e. subst (HoldsAt k known) (sym (at_other (Point k) (Detector place) refl calls more)) (all k known e);
    }
