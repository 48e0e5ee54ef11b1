-- What the client of a detector keeps of its sections in a step is what the items tell that it has taken.
use Rattle.simulator_recovery.proofs.Words.Basics.{◌≡◌, ◌⊎◌, inl, inr, ℕ, ◌==◌, ◌∙◌, Bool, true, false, not, ◌&&◌, ◌||◌, List, [], ◌∷◌, ◌++◌, append_assoc, Option, Some, None, if◌then◌else◌, refl, sym, ap, nat_cmp_total, unsigned_tied, contains, contains-empty, contains-insert, contains-remove, empty, insert, remove, nat_cmp, ◌≢◌, ◌<◌, ◌-◌, nat_le, append-nil, map, slice_get, subst, arith, false≢true, nat_tests}
use Rattle.simulator_recovery.proofs.Words.Controllers.{reading}
use Rattle.simulator_recovery.proofs.Words.Interlockings.{PeerState, told_by, told_by_all, Indication, ObjectState, is_told_occupied, occupied_heard, ClientState, is_outside, ClientSoFar, Closes, LinkCall, Opens, Receives, Sends, Ticks, as_call, begun, ActsOn, AreOwn, MakesAfterReceipt, MakesOwn, link_after, clocked, hearing, ticking, KnownDetectorState, changed, clocked_detector, Detector, Node, Point, Signal, detector_after}
use Rattle.simulator_recovery.proofs.Words.Stations.{Places}
use Rattle.simulator_recovery.proofs.Words.Recovery.{is_told, told_behind, told_in, ClientStandsByCounts, LawsBelow}
use Rattle.simulator_recovery.proofs.Words.Links.{opening, opens, receiving, ticking as link_ticking, settled, Call, beginning, requesting, OutboxState, Step, beating, entered, sending, silent, LinkState, is_client, is_open, is_up, all_made, made_by, Heartbeat}
use Rattle.simulator_recovery.proofs.Words.Machine.{taken_after}
use Rattle.simulator_recovery.proofs.Lemmas.Ground.AspectCalls.{noted_at}
use Rattle.simulator_recovery.proofs.Lemmas.Ground.ClientBehind.{all_took_behind}
use Rattle.simulator_recovery.proofs.Lemmas.Talk.ClientLinks.{ClockedStands, clocked_peer, clocked_stands, hearing_peer, hearing_stands, ticking_peer, ticking_stands, up_open}
use Rattle.simulator_recovery.proofs.Lemmas.Ground.IxlSoFar.{at_itself, at_node, at_other, set_at}
use Rattle.simulator_recovery.proofs.Lemmas.Ground.LinkCounts.{close_closes, entered_open, send_phase, settled_open, tick_was_open}
use Rattle.simulator_recovery.proofs.Lemmas.Ground.EndCalls.{map_both}
use Rattle.simulator_recovery.proofs.Lemmas.Sections.SectionsIxl.{SectionsKeep, heard_by, ticked_by}
use Rattle.simulator_recovery.proofs.Lemmas.Talk.StationTalk.{clocked_link, stays_shut}

-- ---- what indications tell last of a section, and what an interlocking keeps of them

-- ---- one list after another

pub behind_both : (place : ℕ) (before : Option Bool) (one other : List Indication) → told_behind place before (one ++ other) ≡ told_behind place (told_behind place before one) other
behind_both place before [] other = refl
behind_both place before (first ∷ one) other = behind_both place (if place == first.place then Some (is_told_occupied first.state) else before) one other

pub all_both : (peer : PeerState) (one other : List (List ℕ)) → told_by_all peer (one ++ other) ≡ told_by_all peer one ++ told_by_all peer other
unfolding told_by_all
all_both peer [] other = refl
all_both peer (first ∷ one) other = ap (λ (rest : List Indication). told_by peer (reading first) ++ rest) (all_both peer one other) ∙ sym (append_assoc (told_by peer (reading first)) (told_by_all peer one) (told_by_all peer other))

pub in_both : (peer : PeerState) (place : ℕ) (one other : List (List ℕ)) → told_in peer place (one ++ other) ≡ told_behind place (told_in peer place one) (told_by_all peer other)
in_both peer place one other = ap (told_behind place None) (all_both peer one other) ∙ behind_both place None (told_by_all peer one) (told_by_all peer other)

pub heard_both : (one other : List Indication) (occupied : Places) → occupied_heard (one ++ other) occupied ≡ occupied_heard other (occupied_heard one occupied)
heard_both [] other occupied = refl
heard_both (first ∷ one) other occupied = heard_both one other (if is_told_occupied first.state then insert occupied first.place else remove occupied first.place)

-- ---- what is kept

keeps_from : (list : List Indication) (place : ℕ) (occupied : Places) (before : Option Bool) → contains occupied place ≡ is_told before → contains (occupied_heard list occupied) place ≡ is_told (told_behind place before list)
keeps_from [] place occupied before e = e
keeps_from (first ∷ others) place occupied before e =
    keeps_from others place (if is_told_occupied first.state then insert occupied first.place else remove occupied first.place) (if place == first.place then Some (is_told_occupied first.state) else before)
    (one (is_told_occupied first.state))
  where
    by_place : (same told : Bool) → ((if told then same || contains occupied place else not same && contains occupied place)) ≡ is_told (if same then Some told else before)
    by_place true true = refl
    by_place true false = refl
    by_place false true = e
    by_place false false = e

    one : (told : Bool) → contains (if told then insert occupied first.place else remove occupied first.place) place ≡ is_told (if place == first.place then Some told else before)
    one true = contains-insert nat_cmp_total occupied first.place place ∙ ap (λ b. b || contains occupied place) (unsigned_tied place first.place) ∙ by_place (place == first.place) true
    one false = contains-remove nat_cmp_total occupied first.place place ∙ ap (λ b. not b && contains occupied place) (unsigned_tied place first.place) ∙ by_place (place == first.place) false

-- an interlocking that was told nothing before keeps what is told last
pub keeps_told : (peer : PeerState) (items : List (List ℕ)) (place : ℕ) → contains (occupied_heard (told_by_all peer items) empty) place ≡ is_told (told_in peer place items)
keeps_told peer items place = keeps_from (told_by_all peer items) place empty None (contains-empty nat_cmp place)

-- ---- what tells only this

-- These indications tell nothing of a section, or that it is so.
abbrev pub TellsOnly : ℕ → Bool → List Indication → Type 0
TellsOnly place occupied list = (before : Option Bool) → (told_behind place before list ≡ before) ⊎ (told_behind place before list ≡ Some occupied)

pub only_none : (place : ℕ) (occupied : Bool) → TellsOnly place occupied []
only_none place occupied = λ before. inl refl

pub only_both : (place : ℕ) (occupied : Bool) (one other : List Indication) → TellsOnly place occupied one → TellsOnly place occupied other → TellsOnly place occupied (one ++ other)
only_both place occupied one other first second = λ before. choose before (first before) (second (told_behind place before one))
  where
    choose : (before : Option Bool) → (told_behind place before one ≡ before) ⊎ (told_behind place before one ≡ Some occupied)
        → (told_behind place (told_behind place before one) other ≡ told_behind place before one) ⊎ (told_behind place (told_behind place before one) other ≡ Some occupied)
        → (told_behind place before (one ++ other) ≡ before) ⊎ (told_behind place before (one ++ other) ≡ Some occupied)
    choose before a (inr b) = inr (behind_both place before one other ∙ b)
    choose before (inl a) (inl b) = inl (behind_both place before one other ∙ (b ∙ a))
    choose before (inr a) (inl b) = inr (behind_both place before one other ∙ (b ∙ a))

-- they tell of another section
pub only_other : (place at : ℕ) (state : ObjectState) (occupied : Bool) → (place == at) ≡ false → TellsOnly place occupied (record { place = at; state = state } ∷ [])
only_other place at state occupied differ = λ before. inl (ap (λ b. if b then Some (is_told_occupied state) else before) differ)

-- they tell this
pub only_this : (place at : ℕ) (state : ObjectState) → TellsOnly place (is_told_occupied state) (record { place = at; state = state } ∷ [])
only_this place at state = λ before. choose (place == at) before
  where
    choose : (b : Bool) (before : Option Bool) → ((if b then Some (is_told_occupied state) else before) ≡ before) ⊎ ((if b then Some (is_told_occupied state) else before) ≡ Some (is_told_occupied state))
    choose true before = inr refl
    choose false before = inl refl

-- what was told stays told
pub stays_told : (place : ℕ) (list : List Indication) (before : Bool) → (occupied : Bool) × (told_behind place (Some before) list ≡ Some occupied)
stays_told place [] before = (before, refl)
stays_told place (first ∷ others) before = choose (place == first.place) (stays_told place others)
  where
    choose : (b : Bool) → ((one : Bool) → (occupied : Bool) × (told_behind place (Some one) others ≡ Some occupied)) → (occupied : Bool) × (told_behind place (if b then Some (is_told_occupied first.state) else Some before) others ≡ Some occupied)
    choose true later = later (is_told_occupied first.state)
    choose false later = later before

-- ---- what the client of a detector keeps of its sections in a step is what the items tell that it has taken

-- ---- calls of a client

module _ (now : ℕ) where
  opens_start : (l : LinkState) → opens now l ≡ true → is_up (opening now l).link.phase ≡ false
  unfolding opening opens requesting beginning sending
  opens_start l e = rw e refl

  -- a client that doesn't open is up only where it was
  opens_not : (l : LinkState) → opens now l ≡ false → is_up (opening now l).link.phase ≡ true → is_up l.phase ≡ true
  unfolding opening opens
  opens_not l e up = by_entered (ap (λ (b : Bool). (if b then requesting (entered now l).link else silent (entered now l).link).link) e) up
    where
      by_entered : (opening now l).link ≡ (entered now l).link → is_up (opening now l).link.phase ≡ true → is_up l.phase ≡ true
      by_entered same u = ap (λ (s : Step). is_up s.link.phase) (sym (entered_open now l (ap (λ (x : LinkState). is_open x.phase) (sym same) ∙ up_open _ u)).0) ∙ (ap (λ (x : LinkState). is_up x.phase) (sym same) ∙ u)

  ticked_phase : (l : LinkState) → is_open (link_ticking now l).link.phase ≡ true → (link_ticking now l).link.phase ≡ l.phase
  unfolding link_ticking beating sending
  ticked_phase l e = ap (λ (s : Step). (beating s.link).link.phase) (tick_was_open now l e).0 ∙ same_phase (record l { clock = now }) (is_up l.phase && nat_le 300 (now - l.sent_at))
    where
      same_phase : (x : LinkState) (b : Bool) → (if b then sending Heartbeat x else silent x).link.phase ≡ x.phase
      same_phase x true = refl
      same_phase x false = refl

  module _ (connection : ℕ) where
    -- A client's own calls that leave it up found it up, and it has taken what it had.
    pub own_keeps : (more : List LinkCall) → AreOwn more → (l : LinkState) (t : List (List ℕ)) → is_up (link_after now more l).phase ≡ true → (is_up l.phase ≡ true) × (taken_after now (map (as_call connection) more) l t ≡ t)
    unfolding link_after taken_after made_by
    own_keeps [] own l t up = (up, refl)
    own_keeps (Opens ∷ more) own l t up = by_opens (opens now l) refl (own_keeps more own.1 (opening now l).link (if opens now l then [] else t) up)
      where
        by_opens : (b : Bool) → opens now l ≡ b → (is_up (opening now l).link.phase ≡ true) × (taken_after now (map (as_call connection) more) (opening now l).link (if opens now l then [] else t) ≡ (if opens now l then [] else t))
            → (is_up l.phase ≡ true) × (taken_after now (map (as_call connection) more) (opening now l).link (if opens now l then [] else t) ≡ t)
        by_opens true e later = absurd (false≢true (sym (opens_start l e) ∙ later.0))
        by_opens false e later = (opens_not l e later.0, later.1 ∙ ap (λ (b : Bool). if b then [] else t) e)
    own_keeps (Ticks ∷ more) own l t up = let later = own_keeps more own.1 (link_ticking now l).link t up in (ap is_up (sym (ticked_phase l (up_open _ later.0))) ∙ later.0, later.1)
    own_keeps (Closes why ∷ more) own l t up = let later = own_keeps more own.1 _ t up in absurd (false≢true (sym (close_closes now why l) ∙ up_open _ later.0))
    own_keeps (Sends item ∷ more) own l t up = let later = own_keeps more own.1 _ t up in (ap is_up (sym (send_phase now item l (up_open _ later.0))) ∙ later.0, later.1)
    own_keeps (Receives bytes ∷ more) own l t up = absurd own.0

    -- calls, as the link sees them
    pub link_is_made : (calls : List LinkCall) (l : LinkState) → link_after now calls l ≡ (all_made now (map (as_call connection) calls) l).link
    unfolding link_after all_made made_by
    link_is_made [] l = refl
    link_is_made (Opens ∷ others) l = link_is_made others _
    link_is_made (Ticks ∷ others) l = link_is_made others _
    link_is_made (Closes why ∷ others) l = link_is_made others _
    link_is_made (Sends item ∷ others) l = link_is_made others _
    link_is_made (Receives bytes ∷ others) l = link_is_made others _

    all_behind : (one other : List Call) (l : LinkState) → (all_made now (one ++ other) l).link ≡ (all_made now other (all_made now one l).link).link
    unfolding all_made
    all_behind [] other l = refl
    all_behind (first ∷ one) other l = all_behind one other (made_by now first l).link

    pub after_both : (one other : List LinkCall) (l : LinkState) → (all_made now (map (as_call connection) (one ++ other)) l).link ≡ (all_made now (map (as_call connection) other) (all_made now (map (as_call connection) one) l).link).link
    after_both one other l = ap (λ (cs : List Call). (all_made now cs l).link) (map_both (as_call connection) one other) ∙ all_behind (map (as_call connection) one) (map (as_call connection) other) l

-- ---- what is known

-- What is known of the sections is what these items tell, or nothing outside a connection.
pub record Knows (known : KnownDetectorState) (taken : List (List ℕ)) : Type 0 where
  pub outside : is_outside known.client.stage ≡ true → known.occupied ≡ empty
  pub last : is_up known.client.link.phase ≡ true → known.occupied ≡ occupied_heard (told_by_all known.client.peer taken) empty

module _ (occupied : Places) (client : ClientState) where
  abbrev out : KnownDetectorState
  out = record { client = client; occupied = empty }

  abbrev inside : KnownDetectorState
  inside = record { client = client; occupied = occupied }

  pub after_client : (detector_after occupied client).client ≡ client
  unfolding detector_after
  after_client = choose (is_outside client.stage)
    where
      choose : (b : Bool) → (if b then out else inside).client ≡ client
      choose true = refl
      choose false = refl

  after_outside : is_outside (detector_after occupied client).client.stage ≡ true → (detector_after occupied client).occupied ≡ empty
  unfolding detector_after
  after_outside e = choose (is_outside client.stage) refl e
    where
      choose : (b : Bool) → is_outside client.stage ≡ b → is_outside (if b then out else inside).client.stage ≡ true → (if b then out else inside).occupied ≡ empty
      choose true f g = refl
      choose false f g = absurd (false≢true (sym f ∙ g))

  pub after_inside : is_outside client.stage ≡ false → (detector_after occupied client).occupied ≡ occupied
  unfolding detector_after
  after_inside e = ap (λ (b : Bool). (if b then out else inside).occupied) e

-- a client that is up isn't outside
pub up_inside : (client : ClientState) → ClientStandsByCounts client → is_up client.link.phase ≡ true → is_outside client.stage ≡ false
up_inside client stands up = stands.outside ∙ ap not up

pub down_outside : (client : ClientState) → ClientStandsByCounts client → is_up client.link.phase ≡ false → is_outside client.stage ≡ true
down_outside client stands down = stands.outside ∙ ap not down

-- how a client is made up of calls
pub knows_clocked : (now : ℕ) (known : KnownDetectorState) (taken : List (List ℕ)) → ClientStandsByCounts known.client → Knows known taken → Knows (clocked_detector now known) taken
knows_clocked now known taken stands knows = record {
  outside = after_outside known.occupied (clocked now known.client);
  last = λ up. is_last (ap (λ (c : ClientState). is_up c.link.phase) (sym (after_client known.occupied (clocked now known.client))) ∙ up);
}
  where
    is_last : is_up (clocked now known.client).link.phase ≡ true → (clocked_detector now known).occupied ≡ occupied_heard (told_by_all (clocked_detector now known).client.peer taken) empty
    is_last up = after_inside known.occupied (clocked now known.client) (up_inside (clocked now known.client) (clocked_stands now known.client stands).stands up)
        ∙ (knows.last was ∙ ap (λ (p : PeerState). occupied_heard (told_by_all p taken) empty) (sym (ap (λ (c : ClientState). c.peer) (after_client known.occupied (clocked now known.client)) ∙ clocked_peer now known.client)))
      where
        up_settled : is_up (settled now known.client.link).phase ≡ true
        up_settled = ap (λ (l : LinkState). is_up l.phase) (sym (clocked_link now known.client)) ∙ up

        was : is_up known.client.link.phase ≡ true
        was = ap (λ (l : LinkState). is_up l.phase) (sym (settled_open now known.client.link (up_open _ up_settled)).0) ∙ up_settled

module _ (laws : LawsBelow) (now connection : ℕ) where
  -- a datagram that comes first
  pub knows_heard : (bytes : List ℕ) (known : KnownDetectorState) (outbox : OutboxState) (t : List (List ℕ)) → ClockedStands now known.client → is_client known.client.link.identity.role ≡ true
      → (is_open known.client.link.phase ≡ true → is_up known.client.link.phase ≡ false → t ≡ []) → Knows known t
      → Knows (heard_by now bytes known outbox) (taken_after now (map (as_call connection) (hearing now bytes (begun known.client outbox)).calls) known.client.link t)
  unfolding link_after taken_after made_by told_by_all
  knows_heard bytes known outbox t stands asks nothing knows = record {
    outside = after_outside (occupied_heard done.heard known.occupied) done.client;
    last = λ up. is_last (ap (λ (c : ClientState). is_up c.link.phase) (sym same_client) ∙ up);
  }
    where
      l : LinkState
      l = known.client.link

      done : ClientSoFar
      done = hearing now bytes (begun known.client outbox)

      items : List (List ℕ)
      items = (receiving now bytes l).items

      same_client : (heard_by now bytes known outbox).client ≡ done.client
      same_client = after_client (occupied_heard done.heard known.occupied) done.client

      made : MakesAfterReceipt now bytes (begun known.client outbox) done
      made = laws.client_step_is_calls_receipt now bytes (begun known.client outbox)

      acts : ActsOn now bytes (begun known.client outbox) done
      acts = laws.step_hears_what_was_taken now bytes (begun known.client outbox)

      peer_is : (heard_by now bytes known outbox).client.peer ≡ known.client.peer
      peer_is = ap (λ (c : ClientState). c.peer) same_client ∙ hearing_peer now bytes (begun known.client outbox)

      is_last : is_up done.client.link.phase ≡ true → (heard_by now bytes known outbox).occupied
          ≡ occupied_heard (told_by_all (heard_by now bytes known outbox).client.peer (taken_after now (map (as_call connection) done.calls) l t)) empty
      is_last up = after_inside (occupied_heard done.heard known.occupied) done.client (up_inside done.client (hearing_stands now bytes (begun known.client outbox) stands) up)
          ∙ (ap (λ (list : List Indication). occupied_heard list known.occupied) heard_is
          ∙ (ap (occupied_heard (told_by_all known.client.peer items)) (was_known (is_up l.phase) refl)
          ∙ (sym (heard_both (told_by_all known.client.peer t) (told_by_all known.client.peer items) empty)
          ∙ (ap (λ (list : List Indication). occupied_heard list empty) (sym (all_both known.client.peer t items))
          ∙ (ap (λ (list : List (List ℕ)). occupied_heard (told_by_all known.client.peer list) empty) (sym taken_is)
          ∙ ap (λ (p : PeerState). occupied_heard (told_by_all p (taken_after now (map (as_call connection) done.calls) l t)) empty) (sym peer_is))))))
        where
          up_behind : is_up (link_after now made.0 (receiving now bytes l).link).phase ≡ true
          up_behind = ap (λ (x : LinkState). is_up x.phase) (sym made.1.link_is) ∙ up

          kept : (is_up (receiving now bytes l).link.phase ≡ true) × (taken_after now (map (as_call connection) made.0) (receiving now bytes l).link (t ++ items) ≡ t ++ items)
          kept = own_keeps now connection made.0 made.2 (receiving now bytes l).link (t ++ items) up_behind

          taken_is : taken_after now (map (as_call connection) done.calls) l t ≡ t ++ items
          taken_is = ap (λ (cs : List LinkCall). taken_after now (map (as_call connection) cs) l t) made.1.calls_are ∙ kept.1

          all_acted : items ≡ acts.items
          all_acted = acts.beginning ∙ (ap (λ (dropped : List (List ℕ)). acts.items ++ dropped) (acts.whole (up_open _ up)) ∙ append-nil acts.items)

          heard_is : done.heard ≡ told_by_all known.client.peer items
          heard_is = acts.heard ∙ ap (told_by_all known.client.peer) (sym all_acted)

          opened : is_open l.phase ≡ true
          opened = by_open (is_open l.phase) refl
            where
              by_open : (b : Bool) → is_open l.phase ≡ b → is_open l.phase ≡ true
              by_open true e = e
              by_open false e = absurd (false≢true (sym (stays_shut now bytes l e asks) ∙ up_open _ kept.0))

          was_known : (b : Bool) → is_up l.phase ≡ b → known.occupied ≡ occupied_heard (told_by_all known.client.peer t) empty
          was_known true e = knows.last e
          was_known false e = knows.outside (down_outside known.client stands.stands e) ∙ ap (λ (list : List (List ℕ)). occupied_heard (told_by_all known.client.peer list) empty) (sym (nothing opened e))

  -- a tick
  pub knows_ticked : (known : KnownDetectorState) (outbox : OutboxState) (t : List (List ℕ)) → ClientStandsByCounts known.client → Knows known t
      → Knows (ticked_by now known outbox) (taken_after now (map (as_call connection) (ticking now (begun known.client outbox)).calls) known.client.link t)
  knows_ticked known outbox t stands knows = record {
    outside = after_outside known.occupied done.client;
    last = λ up. is_last (ap (λ (c : ClientState). is_up c.link.phase) (sym same_client) ∙ up);
  }
    where
      l : LinkState
      l = known.client.link

      done : ClientSoFar
      done = ticking now (begun known.client outbox)

      same_client : (ticked_by now known outbox).client ≡ done.client
      same_client = after_client known.occupied done.client

      made : MakesOwn now (begun known.client outbox) done
      made = laws.client_step_is_calls_tick now (begun known.client outbox)

      peer_is : (ticked_by now known outbox).client.peer ≡ known.client.peer
      peer_is = ap (λ (c : ClientState). c.peer) same_client ∙ ticking_peer now (begun known.client outbox)

      is_last : is_up done.client.link.phase ≡ true → (ticked_by now known outbox).occupied
          ≡ occupied_heard (told_by_all (ticked_by now known outbox).client.peer (taken_after now (map (as_call connection) done.calls) l t)) empty
      is_last up = after_inside known.occupied done.client (up_inside done.client (ticking_stands now (begun known.client outbox) stands) up)
          ∙ (knows.last kept.0
          ∙ (ap (λ (list : List (List ℕ)). occupied_heard (told_by_all known.client.peer list) empty) (sym taken_is)
          ∙ ap (λ (p : PeerState). occupied_heard (told_by_all p (taken_after now (map (as_call connection) done.calls) l t)) empty) (sym peer_is)))
        where
          kept : (is_up l.phase ≡ true) × (taken_after now (map (as_call connection) made.0) l t ≡ t)
          kept = own_keeps now connection made.0 made.2 l t (ap (λ (x : LinkState). is_up x.phase) (sym made.1.link_is) ∙ up)

          taken_is : taken_after now (map (as_call connection) done.calls) l t ≡ t
          taken_is = ap (λ (cs : List LinkCall). taken_after now (map (as_call connection) cs) l t) made.1.calls_are ∙ kept.1

  -- ---- all detectors, with the calls of their links so far

  module _ (link_of : ℕ → LinkState) (took : ℕ → List (List ℕ)) (count : ℕ) where
    pub record HoldsAt (place : ℕ) (known : KnownDetectorState) (calls : List LinkCall) : Type 0 where
      pub within : place < count
      pub link_is : known.client.link ≡ (all_made now (map (as_call connection) calls) (link_of place)).link
      pub counts : ClientStandsByCounts known.client
      pub knows : Knows known (taken_after now (map (as_call connection) calls) (link_of place) (took place))

    pub record ClockedAt (place : ℕ) (known : KnownDetectorState) (calls : List LinkCall) : Type 0 where
      pub within : place < count
      pub none : calls ≡ []
      pub link_is : known.client.link ≡ link_of place
      pub counts : ClockedStands now known.client
      pub asks : is_client known.client.link.identity.role ≡ true
      pub nothing : is_open known.client.link.phase ≡ true → is_up known.client.link.phase ≡ false → took place ≡ []
      pub knows : Knows known (took place)

    abbrev pub Holds : List KnownDetectorState → List (Node × LinkCall) → Type 0
    Holds detectors calls = (place : ℕ) (known : KnownDetectorState) → slice_get detectors place ≡ Some known → HoldsAt place known (at_node (Detector place) calls)

    abbrev pub Clocked : List KnownDetectorState → List (Node × LinkCall) → Type 0
    Clocked detectors calls = (place : ℕ) (known : KnownDetectorState) → slice_get detectors place ≡ Some known → ClockedAt place known (at_node (Detector place) calls)

    clocked_holds : (place : ℕ) (known : KnownDetectorState) (calls : List LinkCall) → ClockedAt place known calls → HoldsAt place known calls
    unfolding all_made taken_after
    clocked_holds place known calls c = subst (HoldsAt place known) (sym c.none) (record { within = c.within; link_is = c.link_is; counts = c.counts.stands; knows = c.knows })

    -- one of the detectors goes on by these calls more
    one_goes_on : (place : ℕ) (new : KnownDetectorState) (more : List LinkCall) (detectors : List KnownDetectorState) (calls : List (Node × LinkCall)) → HoldsAt place new (at_node (Detector place) calls ++ more) → Holds detectors calls
        → Holds (changed (λ old. new) place detectors) (noted_at (Detector place) more calls)
    one_goes_on place new more detectors calls is all k known e = choose (set_at place new detectors k known e)
      where
        choose : ((k ≡ place) × (known ≡ new)) ⊎ ((k ≢ place) × (slice_get detectors k ≡ Some known)) → HoldsAt k known (at_node (Detector k) (noted_at (Detector place) more calls))
        choose (inl (same, f)) = subst (λ (n : ℕ). HoldsAt n known (at_node (Detector n) (noted_at (Detector place) more calls))) (sym same)
            (subst (λ (x : KnownDetectorState). HoldsAt place x (at_node (Detector place) (noted_at (Detector place) more calls))) (sym f) (subst (HoldsAt place new) (sym (at_itself (Detector place) calls more)) is))
        choose (inr (apart, f)) = subst (HoldsAt k known) (sym (at_other (Detector k) (Detector place) (differs (place == k) refl) calls more)) (all k known f)
          where
            differs : (b : Bool) → (place == k) ≡ b → (place == k) ≡ false
            differs false g = g
            differs true g = absurd (apart (grind (arith, nat_tests, g)))

    link_then : (place : ℕ) (calls more : List LinkCall) (known : KnownDetectorState) (after : LinkState) → known.client.link ≡ (all_made now (map (as_call connection) calls) (link_of place)).link → after ≡ link_after now more known.client.link
        → after ≡ (all_made now (map (as_call connection) (calls ++ more)) (link_of place)).link
    link_then place calls more known after is made = made ∙ (link_is_made now connection more known.client.link ∙ (ap (λ (l : LinkState). (all_made now (map (as_call connection) more) l).link) is ∙ sym (after_both now connection calls more (link_of place))))

    taken_then : (place : ℕ) (calls more : List LinkCall) (known : KnownDetectorState) → known.client.link ≡ (all_made now (map (as_call connection) calls) (link_of place)).link
        → taken_after now (map (as_call connection) more) known.client.link (taken_after now (map (as_call connection) calls) (link_of place) (took place)) ≡ taken_after now (map (as_call connection) (calls ++ more)) (link_of place) (took place)
    taken_then place calls more known is = ap (λ (l : LinkState). taken_after now (map (as_call connection) more) l (taken_after now (map (as_call connection) calls) (link_of place) (took place))) is
        ∙ (sym (all_took_behind now connection (map (as_call connection) calls) (map (as_call connection) more) (link_of place) (took place)) ∙ ap (λ (cs : List Call). taken_after now cs (link_of place) (took place)) (sym (map_both (as_call connection) calls more)))

    took_none : (place : ℕ) (calls : List LinkCall) → calls ≡ [] → took place ≡ [] → taken_after now (map (as_call connection) calls) (link_of place) (took place) ≡ []
    unfolding taken_after
    took_none place calls none e = ap (λ (cs : List LinkCall). taken_after now (map (as_call connection) cs) (link_of place) (took place)) none ∙ e

    pub keep : SectionsKeep now Clocked Holds
    keep = record {
      weaker = λ detectors calls all place known e. clocked_holds place known (at_node (Detector place) calls) (all place known e);
      hears = λ place known bytes outbox detectors calls e all.
          let c = all place known e
          in let h = clocked_holds place known (at_node (Detector place) calls) c
          in let made = laws.client_step_is_calls_receipt now bytes (begun known.client outbox)
          in let done = hearing now bytes (begun known.client outbox)
          in one_goes_on place (heard_by now bytes known outbox) done.calls detectors calls (record {
            within = h.within;
            link_is = ap (λ (x : ClientState). x.link) (after_client _ done.client) ∙ link_then place (at_node (Detector place) calls) done.calls known done.client.link h.link_is
                (made.1.link_is ∙ ap (λ (cs : List LinkCall). link_after now cs known.client.link) (sym made.1.calls_are));
            counts = subst ClientStandsByCounts (sym (after_client _ done.client)) (hearing_stands now bytes (begun known.client outbox) c.counts);
            knows = subst (Knows (heard_by now bytes known outbox)) (taken_then place (at_node (Detector place) calls) done.calls known h.link_is)
                (knows_heard bytes known outbox _ c.counts c.asks (λ opened down. took_none place (at_node (Detector place) calls) c.none (c.nothing opened down)) h.knows);
          }) (λ k other f. clocked_holds k other (at_node (Detector k) calls) (all k other f));
      ticks = λ place known outbox detectors calls e all.
          let h = all place known e
          in let made = laws.client_step_is_calls_tick now (begun known.client outbox)
          in let done = ticking now (begun known.client outbox)
          in one_goes_on place (ticked_by now known outbox) done.calls detectors calls (record {
            within = h.within;
            link_is = ap (λ (x : ClientState). x.link) (after_client _ done.client) ∙ link_then place (at_node (Detector place) calls) done.calls known done.client.link h.link_is
                (made.1.link_is ∙ ap (λ (cs : List LinkCall). link_after now cs known.client.link) (sym made.1.calls_are));
            counts = subst ClientStandsByCounts (sym (after_client _ done.client)) (ticking_stands now (begun known.client outbox) h.counts);
            knows = subst (Knows (ticked_by now known outbox)) (taken_then place (at_node (Detector place) calls) done.calls known h.link_is) (knows_ticked known outbox _ h.counts h.knows);
          }) all;
      signal = λ place more detectors calls all k known e. subst (HoldsAt k known) (sym (at_other (Detector k) (Signal place) refl calls more)) (all k known e);
      point = λ place more detectors calls all k known e. subst (HoldsAt k known) (sym (at_other (Detector k) (Point place) refl calls more)) (all k known e);
    }
