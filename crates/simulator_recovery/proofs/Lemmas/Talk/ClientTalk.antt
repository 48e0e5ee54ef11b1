-- What a client gives in a step is what its stages tell.
use Rattle.simulator_recovery.proofs.Words.Basics.{◌≡◌, ℕ, suc, ◌∙◌, ◌+◌, ◌-◌, ◌≤◌, ◌⊎◌, inl, inr, Bool, true, false, not, ◌&&◌, List, [], ◌∷◌, ◌++◌, length, map, Result, Ok, Err, if◌then◌else◌, refl, sym, ap, subst, arith, is_ok, nat_le, false≢true}
use Rattle.simulator_recovery.proofs.Words.Links.{acceptance, answer_to_send, opening, opens, receiving, sending_item, ticking as link_ticking, Call, beginning, requesting, Step, beating, entered, sending, silent, LinkState, is_open, is_up, all_made, made_by, SendFault, Phase, Heartbeat, Reason}
use Rattle.simulator_recovery.proofs.Words.Controllers.{writing, Initialisation, InitialisationRequest, VersionCheck, Message, Protocol}
use Rattle.simulator_recovery.proofs.Words.Interlockings.{ClientState, PeerState, is_outside, is_ready, ClientSoFar, Closes, LinkCall, Opens, Receives, Sends, Ticks, as_call, call_made, calling, item_of, reports_changes, acted_on, acting, acting_all, at_stage, commanding, fallen, hearing, is_refused_by_window, message_of, posting, rising, saying, stage_after_command, telegram_to, ticking, Stage, Detector, Node, Point, Signal}
use Rattle.simulator_recovery.proofs.Words.Stations.{Site}
use Rattle.simulator_recovery.proofs.Words.Machine.{given_after, given_by, taken_after, taken_by}
use Rattle.simulator_recovery.proofs.Words.Recovery.{AllAnswered, AtMostOneWaits, ClientHasSaid, ClientSaid, ClientTalks, HasCommanded, asked, checked, commanded, nothing, ClientHasActedOn}
use Rattle.simulator_spec.specs.ixl_client.declared.command.Command.{Command}
use Rattle.simulator_recovery.proofs.Lemmas.Talk.ClientCounts.{Counts, acts, posted_acted, posted_at}
use Rattle.simulator_recovery.proofs.Lemmas.Ground.ClientItem.{answers, changes, completes, Goes, not_outside, one_item, starts, tells}
use Rattle.simulator_recovery.proofs.Lemmas.Talk.ClientLinks.{answer_down, answer_up, not_false, not_true, outside_is, up_open}
use Rattle.simulator_recovery.proofs.Lemmas.Ground.LinkCounts.{close_closes, entered_open, send_phase, send_was_open, tick_was_open}
use Rattle.simulator_recovery.proofs.Lemmas.Ground.EndCalls.{count_push, map_both, none_long}

-- ---- calls one after another

module _ (now : ℕ) where
  made_behind : (calls : List Call) (call : Call) (l : LinkState) → (all_made now (calls ++ call ∷ []) l).link ≡ (made_by now call (all_made now calls l).link).link
  unfolding all_made
  made_behind [] call l = refl
  made_behind (first ∷ others) call l = made_behind others call (made_by now first l).link

  gave_behind : (calls : List Call) (call : Call) (l : LinkState) (given : List (List ℕ)) → given_after now (calls ++ call ∷ []) l given ≡ given_by now call (all_made now calls l).link (given_after now calls l given)
  unfolding all_made given_after
  gave_behind [] call l given = refl
  gave_behind (first ∷ others) call l given = gave_behind others call (made_by now first l).link (given_by now first l given)

  took_behind : (calls : List Call) (call : Call) (l : LinkState) (taken : List (List ℕ)) → taken_after now (calls ++ call ∷ []) l taken ≡ taken_by now call (all_made now calls l).link (taken_after now calls l taken)
  unfolding all_made taken_after
  took_behind [] call l taken = refl
  took_behind (first ∷ others) call l taken = took_behind others call (made_by now first l).link (taken_by now first l taken)

  call_is : (connection : ℕ) (call : LinkCall) (l : LinkState) → (call_made now call l).link ≡ (made_by now (as_call connection call) l).link
  unfolding made_by
  call_is connection Opens l = refl
  call_is connection Ticks l = refl
  call_is connection (Closes why) l = refl
  call_is connection (Sends item) l = refl
  call_is connection (Receives bytes) l = refl

-- what the protocol of a point's client is
abbrev pub OfNode : Node → PeerState → Type 0
OfNode (Point place) peer = peer.protocol ≡ Protocol.Point
OfNode _ peer = Unit {0}

-- what was given by a stage is so also later
said_ever : (site : Site) (node : Node) (peer : PeerState) (s : Stage) (count taken : ℕ) (items : List (List ℕ)) → count ≤ taken → ClientHasSaid site node peer s count items → ClientSaid site node peer taken items
said_ever site node peer s count taken items few has = by_stage s has
  where
    more : (n : Node) (moves : ℕ) → AtMostOneWaits n (length peer.objects) moves count → AtMostOneWaits n (length peer.objects) moves taken
    more (Signal place) moves waits = tt
    more (Point place) moves (inl none) = inl none
    more (Point place) moves (inr some) = inr (omega (arith, some, few))
    more (Detector place) moves waits = tt

    with_more : HasCommanded site node peer count items → ClientSaid site node peer taken items
    with_more c = asked (record { commands = c.commands; each = c.each; are = c.are; waits = more node (length c.commands) c.waits })

    none_given : items ≡ item_of peer (VersionCheck peer.version) ∷ item_of peer InitialisationRequest ∷ [] → ClientSaid site node peer taken items
    none_given e = asked (record { commands = []; each = tt; are = e; waits = no_move node })
      where
        no_move : (n : Node) → AtMostOneWaits n (length peer.objects) 0 taken
        no_move (Signal place) = tt
        no_move (Point place) = inl refl
        no_move (Detector place) = tt

    by_stage : (s : Stage) → ClientHasSaid site node peer s count items → ClientSaid site node peer taken items
    by_stage Stage.Outside e = nothing e
    by_stage Stage.AwaitsAnswer e = checked e
    by_stage Stage.AwaitsStart e = none_given e
    by_stage (Stage.AwaitsStatus left) (some, e) = none_given e
    by_stage Stage.Completed (c, all) = with_more c
    by_stage Stage.AwaitsReport (c, one) = with_more c

-- ---- one item that is acted on

-- it closes the link, or leads on, or the client asks for the initialisation
pub data Fate (now : ℕ) (item : List ℕ) (part after : ClientSoFar) : Type 0 where
  closes : (why : Reason) → after ≡ calling now (Closes why) part → Fate now item part after
  goes : after.client.link ≡ part.client.link → after.calls ≡ part.calls → after.client.peer ≡ part.client.peer → length after.acted ≡ length part.acted + 1 → Goes part.client.peer part.client.stage after.client.stage → Fate now item part after
  asks : part.client.stage ≡ Stage.AwaitsAnswer → after ≡ at_stage Stage.AwaitsStart (saying now InitialisationRequest (acted_on item part)) → Fate now item part after

pub fate : (now : ℕ) (item : List ℕ) (part : ClientSoFar) → Fate now item part (acting now item part)
fate now item part = one_item now item part (Fate now item part) (closes Reason.State refl) (closes Reason.Version refl) (λ is. asks is refl)
    (λ after same called peer acted on. goes same called peer acted on)

-- ---- a client of a node

module _ (site : Site) (node : Node) (peer : PeerState) (of : OfNode node peer) (now connection : ℕ) (link : LinkState) (given taken : List (List ℕ)) where
  -- what the calls so far have made of the link, and of what was given and taken
  pub record Tracks (part : ClientSoFar) (g t : List (List ℕ)) : Type 0 where
    pub link_is : part.client.link ≡ (all_made now (map (as_call connection) part.calls) link).link
    pub gave : given_after now (map (as_call connection) part.calls) link given ≡ g
    pub took : taken_after now (map (as_call connection) part.calls) link taken ≡ t

  pub called : (call : LinkCall) (part : ClientSoFar) (g t : List (List ℕ)) → Tracks part g t
      → Tracks (calling now call part) (given_by now (as_call connection call) part.client.link g) (taken_by now (as_call connection call) part.client.link t)
  unfolding calling
  called call part g t tr = record {
    link_is = call_is now connection call part.client.link ∙ ap (λ (l : LinkState). (made_by now (as_call connection call) l).link) tr.link_is
        ∙ sym (made_behind now (map (as_call connection) part.calls) (as_call connection call) link) ∙ ap (λ (cs : List Call). (all_made now cs link).link) (sym (map_both (as_call connection) part.calls (call ∷ [])));
    gave = ap (λ (cs : List Call). given_after now cs link given) (map_both (as_call connection) part.calls (call ∷ [])) ∙ gave_behind now (map (as_call connection) part.calls) (as_call connection call) link given
        ∙ two (given_by now (as_call connection call)) (sym tr.link_is) tr.gave;
    took = ap (λ (cs : List Call). taken_after now cs link taken) (map_both (as_call connection) part.calls (call ∷ [])) ∙ took_behind now (map (as_call connection) part.calls) (as_call connection call) link taken
        ∙ two (taken_by now (as_call connection call)) (sym tr.link_is) tr.took;
  }
    where
      two : (f : LinkState → List (List ℕ) → List (List ℕ)) {a b : LinkState} {c d : List (List ℕ)} → a ≡ b → c ≡ d → f a c ≡ f b d
      two f e h = cc (e, h)

  -- ---- in the middle of a step: so many items that were taken are still to be acted on

  pub record Midway (left : ℕ) (s : Stage) (g t : List (List ℕ)) : Type 0 where
    pub count : ℕ
    pub sum : count + left ≡ length t
    pub acted : ClientHasActedOn peer s count
    pub said : ClientHasSaid site node peer s count g

  pub record Mid (left : ℕ) (part : ClientSoFar) (t : List (List ℕ)) : Type 0 where
    pub g : List (List ℕ)
    pub tracks : Tracks part g t
    pub peer_is : part.client.peer ≡ peer
    pub ever : ClientSaid site node peer (length t) g
    pub inside : is_up part.client.link.phase ≡ true → Midway left part.client.stage g t
    pub starting : is_open part.client.link.phase ≡ true → is_up part.client.link.phase ≡ false → (g ≡ []) × (t ≡ [])

  -- and a client that is up isn't outside
  pub record Risen (left : ℕ) (part : ClientSoFar) (t : List (List ℕ)) : Type 0 where
    pub mid : Mid left part t
    pub risen : is_up part.client.link.phase ≡ true → is_outside part.client.stage ≡ false

  -- ---- a telegram that is posted

  ok_up : (l : LinkState) → is_ok (answer_to_send now l) ≡ true → is_up l.phase ≡ true
  unfolding answer_to_send
  ok_up l ok = by_up (is_up (entered now l).link.phase) refl
    where
      by_up : (b : Bool) → is_up (entered now l).link.phase ≡ b → is_up l.phase ≡ true
      by_up true e = ap (λ (s : Step). is_up s.link.phase) (sym (entered_open now l (up_open _ e)).0) ∙ e
      by_up false e = absurd (false≢true (sym (answer_down now (entered now l).link e) ∙ ok))

  pub data Posted (item : List ℕ) (part after : ClientSoFar) (g t : List (List ℕ)) : Type 0 where
    accepted : is_up part.client.link.phase ≡ true → Tracks after (g ++ item ∷ []) t → Posted item part after g t
    refused : is_up after.client.link.phase ≡ false → (is_open after.client.link.phase ≡ true → (is_open part.client.link.phase ≡ true) × (is_up part.client.link.phase ≡ false)) → Tracks after g t → Posted item part after g t

  pub posts : (told : Message) (part : ClientSoFar) (g t : List (List ℕ)) → Tracks part g t → Posted (writing (telegram_to part.client.peer told)) part (posting now told part) g t
  unfolding posting calling answer_to_send
  posts told part g t tr = choose (is_refused_by_window (answer_to_send now l)) refl (is_ok (answer_to_send now l)) refl
    where
      l : LinkState
      l = part.client.link

      item : List ℕ
      item = writing (telegram_to part.client.peer told)

      sent : ClientSoFar
      sent = calling now (Sends item) part

      tracked : Tracks sent (if is_ok (answer_to_send now l) then g ++ item ∷ [] else g) t
      tracked = called (Sends item) part g t tr

      none_ok : (answer : Result Unit SendFault) → is_refused_by_window answer ≡ true → is_ok answer ≡ false
      none_ok (Ok done) e = absurd (false≢true e)
      none_ok (Err fault) e = refl

      -- it was refused, and not for the window
      not_up : is_refused_by_window (answer_to_send now l) ≡ false → is_ok (answer_to_send now l) ≡ false → is_open sent.client.link.phase ≡ true → is_up l.phase ≡ false
      not_up e f opened = by_up (is_up l.phase) refl
        where
          before : entered now l ≡ silent (record l { clock = now })
          before = (send_was_open now item l opened).0

          by_up : (b : Bool) → is_up l.phase ≡ b → is_up l.phase ≡ false
          by_up false h = h
          by_up true h = absurd (false≢true (sym f ∙ (ap (λ (s : Step). is_ok (acceptance s.link)) before ∙ answer_up now (record l { clock = now }) h ∙ ap not (ap (λ (s : Step). is_refused_by_window (acceptance s.link)) (sym before) ∙ e))))

      choose : (b : Bool) → is_refused_by_window (answer_to_send now l) ≡ b → (c : Bool) → is_ok (answer_to_send now l) ≡ c → Posted item part (if b then calling now (Closes Reason.Window) sent else sent) g t
      choose true e c f =
          let shut = close_closes now Reason.Window sent.client.link
          in refused (by_open _ shut) (λ opened. absurd (false≢true (sym shut ∙ opened)))
          (called (Closes Reason.Window) sent g t (subst (λ (b : Bool). Tracks sent (if b then g ++ item ∷ [] else g) t) (none_ok (answer_to_send now l) e) tracked))
        where
          by_open : (phase : Phase) → is_open phase ≡ false → is_up phase ≡ false
          by_open Phase.Closed h = refl
          by_open Phase.Start h = absurd (false≢true (sym h))
          by_open Phase.Up h = absurd (false≢true (sym h))
          by_open Phase.RetransmissionRequested h = absurd (false≢true (sym h))
          by_open Phase.RetransmissionRunning h = absurd (false≢true (sym h))
      choose false e true f = accepted (ok_up l f) (subst (λ (b : Bool). Tracks sent (if b then g ++ item ∷ [] else g) t) f tracked)
      choose false e false f = refused (by_up (is_up sent.client.link.phase) refl) (λ opened. ((send_was_open now item l opened).1, not_up e f opened)) (subst (λ (b : Bool). Tracks sent (if b then g ++ item ∷ [] else g) t) f tracked)
        where
          by_up : (b : Bool) → is_up sent.client.link.phase ≡ b → is_up sent.client.link.phase ≡ false
          by_up false h = h
          by_up true h = absurd (false≢true (sym (not_up e f (up_open _ h)) ∙ (ap is_up (sym (send_phase now item l (up_open _ h))) ∙ h)))

  -- after it an end that was up is so, if it is open
  posted_up : (told : Message) (part : ClientSoFar) → is_open (posting now told part).client.link.phase ≡ true → is_up part.client.link.phase ≡ true → is_up (posting now told part).client.link.phase ≡ true
  unfolding posting calling
  posted_up told part opened up = choose (is_refused_by_window (answer_to_send now part.client.link)) opened
    where
      item : List ℕ
      item = writing (telegram_to part.client.peer told)

      sent : ClientSoFar
      sent = calling now (Sends item) part

      choose : (b : Bool) → is_open (if b then calling now (Closes Reason.Window) sent else sent).client.link.phase ≡ true → is_up (if b then calling now (Closes Reason.Window) sent else sent).client.link.phase ≡ true
      choose true e = absurd (false≢true (sym (close_closes now Reason.Window (sending_item now item part.client.link).link) ∙ e))
      choose false e = ap is_up (send_phase now item part.client.link e) ∙ up

  -- ---- one item

  next_said : (old new : Stage) (count : ℕ) (g : List (List ℕ)) → Goes peer old new → ClientHasActedOn peer old count → ClientHasSaid site node peer old count g → ClientHasSaid site node peer new (count + 1) g
  next_said old new count g (starts e f) acted said =
      let one = subst (λ (s : Stage). ClientHasActedOn peer s count) e acted
      in subst (λ (s : Stage). ClientHasSaid site node peer s (count + 1) g) (sym f) (omega (arith, one), subst (λ (s : Stage). ClientHasSaid site node peer s count g) e said)
  next_said old new count g (tells left some e f) acted said =
      let so = subst (λ (s : Stage). ClientHasSaid site node peer s count g) e said
      in let some = so.0 in subst (λ (s : Stage). ClientHasSaid site node peer s (count + 1) g) (sym f) (omega (arith, some), so.1)
  next_said old new count g (completes e f) acted said =
      let all = subst (λ (s : Stage). ClientHasActedOn peer s count) e acted
      in subst (λ (s : Stage). ClientHasSaid site node peer s (count + 1) g) (sym f)
      (record { commands = []; each = tt; are = (subst (λ (s : Stage). ClientHasSaid site node peer s count g) e said).1; waits = no_move node }, answered node all)
    where
      no_move : (n : Node) → AtMostOneWaits n (length peer.objects) 0 (count + 1)
      no_move (Signal place) = tt
      no_move (Point place) = inl refl
      no_move (Detector place) = tt

      answered : (n : Node) → count + 0 ≡ 2 + length peer.objects → AllAnswered n (length peer.objects) 0 (count + 1)
      answered (Signal place) all = tt
      answered (Point place) all = omega (arith, all)
      answered (Detector place) all = tt
  next_said old new count g (changes turn e f) acted said = subst (λ (s : Stage). ClientHasSaid site node peer s (count + 1) g) (sym f) (at_node node of (subst (λ (s : Stage). ClientHasSaid site node peer s count g) e said))
    where
      at_node : (n : Node) → OfNode n peer → ClientHasSaid site n peer Stage.Completed count g → ClientHasSaid site n peer Stage.Completed (count + 1) g
      at_node (Signal place) o (c, all) = (record { commands = c.commands; each = c.each; are = c.are; waits = tt }, tt)
      at_node (Point place) o (c, all) = absurd (false≢true (ap reports_changes (sym o) ∙ turn))
      at_node (Detector place) o (c, all) = (record { commands = c.commands; each = c.each; are = c.are; waits = tt }, tt)
  next_said old new count g (answers e f) acted said = subst (λ (s : Stage). ClientHasSaid site node peer s (count + 1) g) (sym f) (at_node node (subst (λ (s : Stage). ClientHasSaid site node peer s count g) e said))
    where
      at_node : (n : Node) → ClientHasSaid site n peer Stage.AwaitsReport count g → ClientHasSaid site n peer Stage.Completed (count + 1) g
      at_node (Signal place) (c, one) = (record { commands = c.commands; each = c.each; are = c.are; waits = tt }, tt)
      at_node (Point place) (c, one) = (record { commands = c.commands; each = c.each; are = c.are; waits = inr (omega (arith, one)) }, one)
      at_node (Detector place) (c, one) = (record { commands = c.commands; each = c.each; are = c.are; waits = tt }, tt)

  -- a telegram of the initialisation, as the client's peer writes it
  said_item : (told : Initialisation) (part : ClientSoFar) → part.client.peer ≡ peer → writing (telegram_to part.client.peer (Message.Initialisation part.client.peer.protocol told)) ≡ item_of peer told
  said_item told part e = ap (λ (p : PeerState). item_of p told) e

  pub one_risen : (item : List ℕ) (left : ℕ) (part : ClientSoFar) (t : List (List ℕ)) → Risen (suc left) part t → Risen left (acting now item part) t
  unfolding calling
  one_risen item left part t r = choose (fate now item part)
    where
      done : ClientSoFar
      done = acting now item part

      mid : Mid (suc left) part t
      mid = r.mid

      counts : Counts part done
      counts = acts now item part

      one_fewer : (count : ℕ) → count + suc left ≡ (count + 1) + left
      one_fewer count = omega arith

      acted_then : (count : ℕ) → length done.acted ≡ length part.acted + 1 → ClientHasActedOn peer part.client.stage count → ClientHasActedOn peer done.client.stage (count + 1)
      acted_then count e has = subst (λ (n : ℕ). ClientHasActedOn peer done.client.stage (count + n)) (let a = counts.acted in omega (arith, a, e))
          (subst (λ (p : PeerState). ClientHasActedOn p done.client.stage (count + counts.more)) mid.peer_is (counts.on count (subst (λ (p : PeerState). ClientHasActedOn p part.client.stage count) (sym mid.peer_is) has)))

      shut : (why : Reason) → Risen left (calling now (Closes why) part) t
      shut why =
          let closed = close_closes now why part.client.link
          in record {
            mid = record {
              g = mid.g;
              tracks = called (Closes why) part mid.g t mid.tracks;
              peer_is = mid.peer_is;
              ever = mid.ever;
              inside = λ up. absurd (false≢true (sym closed ∙ up_open _ up));
              starting = λ opened down. absurd (false≢true (sym closed ∙ opened));
            };
            risen = λ up. absurd (false≢true (sym closed ∙ up_open _ up));
          }

      asked_so : part.client.stage ≡ Stage.AwaitsAnswer → length done.acted ≡ length part.acted + 1 → (after : ClientSoFar) → done ≡ after → after ≡ at_stage Stage.AwaitsStart (saying now InitialisationRequest (acted_on item part)) → Risen left after t
      asked_so is acted_one after same at = subst (λ (p : ClientSoFar). Risen left p t) (sym at) (by_post (posts told (acted_on item part) mid.g t (record { link_is = mid.tracks.link_is; gave = mid.tracks.gave; took = mid.tracks.took })))
        where
          told : Message
          told = Message.Initialisation part.client.peer.protocol InitialisationRequest

          said : ClientSoFar
          said = posting now told (acted_on item part)

          then_at : ClientSoFar
          then_at = at_stage Stage.AwaitsStart said

          stage_now : done.client.stage ≡ Stage.AwaitsStart
          stage_now = ap (λ (p : ClientSoFar). p.client.stage) (same ∙ at)

          peer_then : then_at.client.peer ≡ peer
          peer_then = posted_at now told Stage.AwaitsStart (acted_on item part) ∙ mid.peer_is

          by_post : Posted (writing (telegram_to part.client.peer told)) (acted_on item part) said mid.g t → Risen left then_at t
          by_post (accepted up tr) = record {
            mid = record {
              g = mid.g ++ item_of peer InitialisationRequest ∷ [];
              tracks = let at_item = subst (λ (i : List ℕ). Tracks said (mid.g ++ i ∷ []) t) (said_item InitialisationRequest part mid.peer_is) tr in record { link_is = at_item.link_is; gave = at_item.gave; took = at_item.took };
              peer_is = peer_then;
              ever = said_ever site node peer Stage.AwaitsStart m.count (length t) (mid.g ++ item_of peer InitialisationRequest ∷ []) (let s = m.sum in omega (arith, s)) two;
              inside = λ u. record { count = m.count + 1; sum = let s = m.sum in omega (arith, s); acted = subst (λ (s : Stage). ClientHasActedOn peer s (m.count + 1)) stage_now (acted_then m.count acted_one m.acted); said = two };
              starting = λ opened down. absurd (false≢true (sym down ∙ up_then opened));
            };
            risen = λ u. refl;
          }
            where
              m : Midway (suc left) part.client.stage mid.g t
              m = mid.inside up

              two : mid.g ++ item_of peer InitialisationRequest ∷ [] ≡ item_of peer (VersionCheck peer.version) ∷ item_of peer InitialisationRequest ∷ []
              two = ap (λ (list : List (List ℕ)). list ++ item_of peer InitialisationRequest ∷ []) (subst (λ (s : Stage). ClientHasSaid site node peer s m.count mid.g) is m.said)

              up_then : is_open then_at.client.link.phase ≡ true → is_up then_at.client.link.phase ≡ true
              up_then opened = posted_up told (acted_on item part) opened up
          by_post (refused down was tr) = record {
            mid = record {
              g = mid.g;
              tracks = record { link_is = tr.link_is; gave = tr.gave; took = tr.took };
              peer_is = peer_then;
              ever = mid.ever;
              inside = λ up. absurd (false≢true (sym down ∙ up));
              starting = λ opened d. let w = was opened in mid.starting w.0 w.1;
            };
            risen = λ u. refl;
          }

      choose : Fate now item part done → Risen left done t
      choose (closes why e) = subst (λ (p : ClientSoFar). Risen left p t) (sym e) (shut why)
      choose (goes same called_same peer_same acted_one on) = record {
        mid = record {
          g = mid.g;
          tracks = record {
            link_is = same ∙ mid.tracks.link_is ∙ ap (λ (cs : List LinkCall). (all_made now (map (as_call connection) cs) link).link) (sym called_same);
            gave = ap (λ (cs : List LinkCall). given_after now (map (as_call connection) cs) link given) called_same ∙ mid.tracks.gave;
            took = ap (λ (cs : List LinkCall). taken_after now (map (as_call connection) cs) link taken) called_same ∙ mid.tracks.took;
          };
          peer_is = peer_same ∙ mid.peer_is;
          ever = mid.ever;
          inside = λ up. let m = mid.inside (ap (λ (l : LinkState). is_up l.phase) (sym same) ∙ up) in record {
            count = m.count + 1;
            sum = let s = m.sum in omega (arith, s);
            acted = acted_then m.count acted_one m.acted;
            said = next_said part.client.stage done.client.stage m.count mid.g at_peer m.acted m.said;
          };
          starting = λ opened down. mid.starting (ap (λ (l : LinkState). is_open l.phase) (sym same) ∙ opened) (ap (λ (l : LinkState). is_up l.phase) (sym same) ∙ down);
        };
        risen = λ up. not_outside part.client.stage done.client.stage at_peer;
      }
        where
          at_peer : Goes peer part.client.stage done.client.stage
          at_peer = subst (λ (p : PeerState). Goes p part.client.stage done.client.stage) mid.peer_is on
      choose (asks is at) = asked_so is (ap (λ (p : ClientSoFar). length p.acted) at ∙ ap length (posted_acted now _ (acted_on item part)) ∙ count_push part.acted item) done refl at

  all_risen : (items : List (List ℕ)) (part : ClientSoFar) (t : List (List ℕ)) → Risen (length items) part t → Risen 0 (acting_all now items part) t
  unfolding acting_all
  all_risen [] part t r = r
  all_risen (item ∷ others) part t r = choose (is_open part.client.link.phase) refl (all_risen others (acting now item part) t (one_risen item (length others) part t r))
    where
      choose : (b : Bool) → is_open part.client.link.phase ≡ b → Risen 0 (acting_all now others (acting now item part)) t → Risen 0 (if b then acting_all now others (acting now item part) else part) t
      choose true e so = so
      choose false e so = record {
        mid = record {
          g = r.mid.g;
          tracks = r.mid.tracks;
          peer_is = r.mid.peer_is;
          ever = r.mid.ever;
          inside = λ up. absurd (false≢true (sym e ∙ up_open _ up));
          starting = λ opened down. absurd (false≢true (sym e ∙ opened));
        };
        risen = λ up. absurd (false≢true (sym e ∙ up_open _ up));
      }

  -- a connection that has come up
  pub rising_risen : (left : ℕ) (part : ClientSoFar) (t : List (List ℕ)) → Mid left part t → Risen left (rising now part) t
  unfolding rising
  rising_risen left part t mid = choose part.client.stage refl (is_up part.client.link.phase) refl
    where
      told : Message
      told = Message.Initialisation part.client.peer.protocol (VersionCheck part.client.peer.version)

      said : ClientSoFar
      said = posting now told part

      then_at : ClientSoFar
      then_at = at_stage Stage.AwaitsAnswer said

      item_is : writing (telegram_to part.client.peer told) ≡ item_of peer (VersionCheck peer.version)
      item_is = ap (λ (p : PeerState). item_of p (VersionCheck p.version)) mid.peer_is

      said_risen : part.client.stage ≡ Stage.Outside → Posted (writing (telegram_to part.client.peer told)) part said mid.g t → Risen left then_at t
      said_risen is (accepted up tr) = record {
        mid = record {
          g = mid.g ++ item_of peer (VersionCheck peer.version) ∷ [];
          tracks = let at_item = subst (λ (i : List ℕ). Tracks said (mid.g ++ i ∷ []) t) item_is tr in record { link_is = at_item.link_is; gave = at_item.gave; took = at_item.took };
          peer_is = posted_at now told Stage.AwaitsAnswer part ∙ mid.peer_is;
          ever = checked one;
          inside = λ u. record { count = m.count; sum = m.sum; acted = subst (λ (s : Stage). ClientHasActedOn peer s m.count) is m.acted; said = one };
          starting = λ opened down. absurd (false≢true (sym down ∙ posted_up told part opened up));
        };
        risen = λ u. refl;
      }
        where
          m : Midway left part.client.stage mid.g t
          m = mid.inside up

          one : mid.g ++ item_of peer (VersionCheck peer.version) ∷ [] ≡ item_of peer (VersionCheck peer.version) ∷ []
          one = ap (λ (list : List (List ℕ)). list ++ item_of peer (VersionCheck peer.version) ∷ []) (subst (λ (s : Stage). ClientHasSaid site node peer s m.count mid.g) is m.said)
      said_risen is (refused down was tr) = record {
        mid = record {
          g = mid.g;
          tracks = record { link_is = tr.link_is; gave = tr.gave; took = tr.took };
          peer_is = posted_at now told Stage.AwaitsAnswer part ∙ mid.peer_is;
          ever = mid.ever;
          inside = λ up. absurd (false≢true (sym down ∙ up));
          starting = λ opened d. let w = was opened in mid.starting w.0 w.1;
        };
        risen = λ u. refl;
      }

      as_it_is : (is_up part.client.link.phase ≡ true → is_outside part.client.stage ≡ false) → Risen left part t
      as_it_is so = record { mid = mid; risen = so }

      choose : (s : Stage) → part.client.stage ≡ s → (b : Bool) → is_up part.client.link.phase ≡ b → Risen left (if is_outside s && b then then_at else part) t
      choose Stage.Outside e true f = said_risen e (posts told part mid.g t mid.tracks)
      choose Stage.Outside e false f = as_it_is (λ up. absurd (false≢true (sym f ∙ up)))
      choose Stage.AwaitsAnswer e b f = as_it_is (λ up. ap is_outside e)
      choose Stage.AwaitsStart e b f = as_it_is (λ up. ap is_outside e)
      choose (Stage.AwaitsStatus n) e b f = as_it_is (λ up. ap is_outside e)
      choose Stage.Completed e b f = as_it_is (λ up. ap is_outside e)
      choose Stage.AwaitsReport e b f = as_it_is (λ up. ap is_outside e)

  -- ---- a client between two parts of a step

  -- what its calls so far have given and taken is what its stage tells
  pub record SoFar (client : ClientState) (calls : List LinkCall) : Type 0 where
    pub link_is : client.link ≡ (all_made now (map (as_call connection) calls) link).link
    pub peer_is : client.peer ≡ peer
    pub talks : ClientTalks site node client (given_after now (map (as_call connection) calls) link given) (taken_after now (map (as_call connection) calls) link taken)

  -- the end of a part
  fallen_so_far : (part : ClientSoFar) (t : List (List ℕ)) → Risen 0 part t → SoFar (fallen part.client) part.calls
  unfolding fallen
  fallen_so_far part t r = choose (is_up part.client.link.phase) refl
    where
      mid : Mid 0 part t
      mid = r.mid

      gave : List (List ℕ)
      gave = given_after now (map (as_call connection) part.calls) link given

      took : List (List ℕ)
      took = taken_after now (map (as_call connection) part.calls) link taken

      ever : ClientSaid site node part.client.peer (length took) gave
      ever = subst (λ (p : PeerState). ClientSaid site node p (length took) gave) (sym mid.peer_is)
          (subst (λ (list : List (List ℕ)). ClientSaid site node peer (length list) gave) (sym mid.tracks.took) (subst (ClientSaid site node peer (length t)) (sym mid.tracks.gave) mid.ever))

      count_is : (m : Midway 0 part.client.stage mid.g t) → m.count ≡ length took
      count_is m = let s = m.sum in let same = ap length mid.tracks.took in omega (arith, s, same)

      choose : (b : Bool) → is_up part.client.link.phase ≡ b → SoFar (if b then part.client else record part.client { stage = Stage.Outside }) part.calls
      choose true e =
          let m = mid.inside e
          in record {
            link_is = mid.tracks.link_is;
            peer_is = mid.peer_is;
            talks = record {
              outside = r.risen e ∙ sym (ap not e);
              acted = λ opened. subst (λ (p : PeerState). ClientHasActedOn p part.client.stage (length took)) (sym mid.peer_is) (subst (ClientHasActedOn peer part.client.stage) (count_is m) m.acted);
              said = λ opened. subst (λ (p : PeerState). ClientHasSaid site node p part.client.stage (length took) gave) (sym mid.peer_is)
                  (subst (λ (n : ℕ). ClientHasSaid site node peer part.client.stage n gave) (count_is m) (subst (ClientHasSaid site node peer part.client.stage m.count) (sym mid.tracks.gave) m.said));
              ever = ever;
            };
          }
      choose false e = record {
        link_is = mid.tracks.link_is;
        peer_is = mid.peer_is;
        talks = record {
          outside = sym (ap not e);
          acted = λ opened. ap length mid.tracks.took ∙ ap length (mid.starting opened e).1;
          said = λ opened. mid.tracks.gave ∙ (mid.starting opened e).0;
          ever = ever;
        };
      }

  -- and its beginning, after these calls
  pub mid_of : (part : ClientSoFar) → SoFar part.client part.calls → Risen 0 part (taken_after now (map (as_call connection) part.calls) link taken)
  mid_of part so = record {
    mid = record {
      g = gave;
      tracks = record { link_is = so.link_is; gave = refl; took = refl };
      peer_is = so.peer_is;
      ever = subst (λ (p : PeerState). ClientSaid site node p (length took) gave) so.peer_is so.talks.ever;
      inside = λ up. let opened = up_open _ up in record {
        count = length took;
        sum = omega arith;
        acted = subst (λ (p : PeerState). ClientHasActedOn p part.client.stage (length took)) so.peer_is (so.talks.acted opened);
        said = subst (λ (p : PeerState). ClientHasSaid site node p part.client.stage (length took) gave) so.peer_is (so.talks.said opened);
      };
      starting = λ opened down.
          let out = outside_is part.client.stage (not_false (is_outside part.client.stage) (is_up part.client.link.phase) so.talks.outside down)
          in (subst (λ (s : Stage). ClientHasSaid site node part.client.peer s (length took) gave) out (so.talks.said opened), none_long took (subst (λ (s : Stage). ClientHasActedOn part.client.peer s (length took)) out (so.talks.acted opened)));
    };
    risen = λ up. not_true (is_outside part.client.stage) (is_up part.client.link.phase) so.talks.outside up;
  }
    where
      gave : List (List ℕ)
      gave = given_after now (map (as_call connection) part.calls) link given

      took : List (List ℕ)
      took = taken_after now (map (as_call connection) part.calls) link taken

  -- ---- the parts of a step

  -- A datagram that comes first: an end of a client opens in none.
  pub hearing_so_far : (bytes : List ℕ) (part : ClientSoFar) → (is_open (receiving now bytes part.client.link).link.phase ≡ true → (is_open part.client.link.phase ≡ true) × (((receiving now bytes part.client.link).items ≡ []) ⊎ (is_up (receiving now bytes part.client.link).link.phase ≡ true))
      × (is_up part.client.link.phase ≡ true → is_up (receiving now bytes part.client.link).link.phase ≡ true)) → SoFar part.client part.calls → SoFar (hearing now bytes part).client (hearing now bytes part).calls
  unfolding hearing calling
  hearing_so_far bytes part comes so = fallen_so_far (acting_all now items (rising now received)) (t ++ items) (all_risen items (rising now received) (t ++ items) (rising_risen (length items) received (t ++ items) came_mid))
    where
      received : ClientSoFar
      received = calling now (Receives bytes) part

      items : List (List ℕ)
      items = (receiving now bytes part.client.link).items

      t : List (List ℕ)
      t = taken_after now (map (as_call connection) part.calls) link taken

      r : Risen 0 part t
      r = mid_of part so

      sum_so : (count : ℕ) (u : List (List ℕ)) → count + 0 ≡ length u → count + length items ≡ length (u ++ items)
      sum_so count u e = let both = append_length u items in omega (arith, e, both)
        where
          append_length : (one other : List (List ℕ)) → length (one ++ other) ≡ length one + length other
          append_length [] other = omega arith
          append_length (first ∷ one) other = let e = append_length one other in omega (arith, e)

      longer : (u : List (List ℕ)) → length u ≤ length (u ++ items)
      longer [] = omega arith
      longer (first ∷ u) = let l = longer u in omega (arith, l)

      ever_more : (n m : ℕ) (g : List (List ℕ)) → n ≤ m → ClientSaid site node peer n g → ClientSaid site node peer m g
      ever_more n m g few (nothing e) = nothing e
      ever_more n m g few (checked e) = checked e
      ever_more n m g few (asked c) = asked (record { commands = c.commands; each = c.each; are = c.are; waits = more node (length c.commands) c.waits })
        where
          more : (x : Node) (moves : ℕ) → AtMostOneWaits x (length peer.objects) moves n → AtMostOneWaits x (length peer.objects) moves m
          more (Signal place) moves waits = tt
          more (Point place) moves (inl none) = inl none
          more (Point place) moves (inr some) = inr (omega (arith, some, few))
          more (Detector place) moves waits = tt

      came_mid : Mid (length items) received (t ++ items)
      came_mid = record {
        g = r.mid.g;
        tracks = called (Receives bytes) part r.mid.g t r.mid.tracks;
        peer_is = r.mid.peer_is;
        ever = ever_more (length t) (length (t ++ items)) r.mid.g (longer t) r.mid.ever;
        inside = λ up. was_up up (comes (up_open _ up)) (is_up part.client.link.phase) refl;
        starting = λ opened down. starts_so down (comes opened) (is_up part.client.link.phase) refl;
      }
        where
          none_then : (u : List (List ℕ)) → u ≡ [] → items ≡ [] → u ++ items ≡ []
          none_then u e f = cc (e, f)

          starts_so : is_up (receiving now bytes part.client.link).link.phase ≡ false → (is_open part.client.link.phase ≡ true) × ((items ≡ []) ⊎ (is_up (receiving now bytes part.client.link).link.phase ≡ true))
              × (is_up part.client.link.phase ≡ true → is_up (receiving now bytes part.client.link).link.phase ≡ true) → (b : Bool) → is_up part.client.link.phase ≡ b → (r.mid.g ≡ []) × (t ++ items ≡ [])
          starts_so down (opened, some, stays) true e = absurd (false≢true (sym down ∙ stays e))
          starts_so down (opened, inr up, stays) false e = absurd (false≢true (sym down ∙ up))
          starts_so down (opened, inl none, stays) false e = let s = r.mid.starting opened e in (s.0, none_then t s.1 none)

          was_up : is_up (receiving now bytes part.client.link).link.phase ≡ true → (is_open part.client.link.phase ≡ true) × ((items ≡ []) ⊎ (is_up (receiving now bytes part.client.link).link.phase ≡ true))
              × (is_up part.client.link.phase ≡ true → is_up (receiving now bytes part.client.link).link.phase ≡ true) → (b : Bool) → is_up part.client.link.phase ≡ b → Midway (length items) part.client.stage r.mid.g (t ++ items)
          was_up up (opened, some, stays) true e = let m = r.mid.inside e in record { count = m.count; sum = sum_so m.count t m.sum; acted = m.acted; said = m.said }
          was_up up (opened, some, stays) false e =
              let s = r.mid.starting opened e
              in let out = outside_is part.client.stage (not_false (is_outside part.client.stage) (is_up part.client.link.phase) so.talks.outside e)
              in record {
                count = 0;
                sum = sum_so 0 t (sym (ap length s.1));
                acted = subst (λ (x : Stage). ClientHasActedOn peer x 0) (sym out) refl;
                said = subst (λ (x : Stage). ClientHasSaid site node peer x 0 r.mid.g) (sym out) s.0;
              }

  -- a command, at a client that is ready
  pub commanding_so_far : (command : Command) (part : ClientSoFar) → is_ready part.client.stage ≡ true
      → ((count : ℕ) (g : List (List ℕ)) → ClientHasSaid site node peer part.client.stage count g → ClientHasSaid site node peer (stage_after_command command part.client.stage) count (g ++ commanded peer command ∷ []))
      → SoFar part.client part.calls → SoFar (commanding now command part).client (commanding now command part).calls
  unfolding commanding
  commanding_so_far command part ready leads so = subst (λ (calls : List LinkCall). SoFar (fallen then_at.client) calls) refl (fallen_so_far then_at t (by_post (posts told part mid.g t mid.tracks)))
    where
      told : Message
      told = message_of command

      said : ClientSoFar
      said = posting now told part

      next : Stage
      next = stage_after_command command part.client.stage

      then_at : ClientSoFar
      then_at = at_stage next said

      t : List (List ℕ)
      t = taken_after now (map (as_call connection) part.calls) link taken

      mid : Mid 0 part t
      mid = (mid_of part so).mid

      item_is : writing (telegram_to part.client.peer told) ≡ commanded peer command
      item_is = ap (λ (p : PeerState). commanded p command) mid.peer_is

      more : List (List ℕ)
      more = mid.g ++ commanded peer command ∷ []

      inside_still : (c : Command) (s : Stage) → is_ready s ≡ true → is_outside (stage_after_command c s) ≡ false
      inside_still (Command.Indicate aspect) Stage.Completed e = refl
      inside_still (Command.Indicate aspect) Stage.AwaitsReport e = refl
      inside_still (Command.Move side) Stage.Completed e = refl
      inside_still (Command.Move side) Stage.AwaitsReport e = refl
      inside_still c Stage.Outside e = absurd (false≢true e)
      inside_still c Stage.AwaitsAnswer e = absurd (false≢true e)
      inside_still c Stage.AwaitsStart e = absurd (false≢true e)
      inside_still c (Stage.AwaitsStatus left) e = absurd (false≢true e)

      acted_same : (c : Command) (s : Stage) (count : ℕ) → ClientHasActedOn peer s count → ClientHasActedOn peer (stage_after_command c s) count
      acted_same (Command.Indicate aspect) s count has = has
      acted_same (Command.Move side) Stage.Outside count has = has
      acted_same (Command.Move side) Stage.AwaitsAnswer count has = has
      acted_same (Command.Move side) Stage.AwaitsStart count has = has
      acted_same (Command.Move side) (Stage.AwaitsStatus left) count has = has
      acted_same (Command.Move side) Stage.Completed count has = has
      acted_same (Command.Move side) Stage.AwaitsReport count has = has

      by_post : Posted (writing (telegram_to part.client.peer told)) part said mid.g t → Risen 0 then_at t
      by_post (refused down was tr) = record {
        mid = record {
          g = mid.g;
          tracks = record { link_is = tr.link_is; gave = tr.gave; took = tr.took };
          peer_is = posted_at now told next part ∙ mid.peer_is;
          ever = mid.ever;
          inside = λ up. absurd (false≢true (sym down ∙ up));
          starting = λ opened d. let w = was opened in mid.starting w.0 w.1;
        };
        risen = λ up. inside_still command part.client.stage ready;
      }
      by_post (accepted up tr) = record {
        mid = record {
          g = more;
          tracks = let at_item = subst (λ (i : List ℕ). Tracks said (mid.g ++ i ∷ []) t) item_is tr in record { link_is = at_item.link_is; gave = at_item.gave; took = at_item.took };
          peer_is = posted_at now told next part ∙ mid.peer_is;
          ever = said_ever site node peer next m.count (length t) more (let s = m.sum in omega (arith, s)) (leads m.count mid.g m.said);
          inside = λ u. record { count = m.count; sum = m.sum; acted = acted_same command part.client.stage m.count m.acted; said = leads m.count mid.g m.said };
          starting = λ opened down. absurd (false≢true (sym down ∙ posted_up told part opened up));
        };
        risen = λ u. inside_still command part.client.stage ready;
      }
        where
          m : Midway 0 part.client.stage mid.g t
          m = mid.inside up

  -- a tick
  pub ticking_so_far : (part : ClientSoFar) → SoFar part.client part.calls → SoFar (ticking now part).client (ticking now part).calls
  unfolding ticking calling link_ticking beating opening opens requesting beginning sending
  ticking_so_far part so = by_opened_of (opens now ticked.client.link) (opened_risen (opens now ticked.client.link) refl)
    where
      ticked : ClientSoFar
      ticked = calling now Ticks part

      t : List (List ℕ)
      t = taken_after now (map (as_call connection) part.calls) link taken

      r : Risen 0 part t
      r = mid_of part so

      same_phase : (x : LinkState) (b : Bool) → (if b then sending Heartbeat x else silent x).link.phase ≡ x.phase
      same_phase x true = refl
      same_phase x false = refl

      ticked_phase : is_open (link_ticking now part.client.link).link.phase ≡ true → (link_ticking now part.client.link).link.phase ≡ part.client.link.phase
      ticked_phase e = ap (λ (s : Step). (beating s.link).link.phase) (tick_was_open now part.client.link e).0
          ∙ same_phase (record part.client.link { clock = now }) (is_up part.client.link.phase && nat_le 300 (now - part.client.link.sent_at))

      ticked_mid : Risen 0 ticked t
      ticked_mid = record {
        mid = record {
          g = r.mid.g;
          tracks = called Ticks part r.mid.g t r.mid.tracks;
          peer_is = r.mid.peer_is;
          ever = r.mid.ever;
          inside = λ up. r.mid.inside (ap is_up (sym (ticked_phase (up_open _ up))) ∙ up);
          starting = λ opened down. r.mid.starting (ap is_open (sym (ticked_phase opened)) ∙ opened) (ap is_up (sym (ticked_phase opened)) ∙ down);
        };
        risen = λ up. r.risen (ap is_up (sym (ticked_phase (up_open _ up))) ∙ up);
      }

      -- a client that opens has given and taken nothing
      start_phase : opens now ticked.client.link ≡ true → (opening now ticked.client.link).link.phase ≡ Phase.Start
      start_phase e = rw e refl

      stays_phase : opens now ticked.client.link ≡ false → is_open (opening now ticked.client.link).link.phase ≡ true → (opening now ticked.client.link).link.phase ≡ ticked.client.link.phase
      stays_phase e opened = by_entered (ap (λ (b : Bool). (if b then requesting (entered now ticked.client.link).link else silent (entered now ticked.client.link).link).link) e) opened
        where
          by_entered : (opening now ticked.client.link).link ≡ (entered now ticked.client.link).link → is_open (opening now ticked.client.link).link.phase ≡ true → (opening now ticked.client.link).link.phase ≡ ticked.client.link.phase
          by_entered same up = ap (λ (l : LinkState). l.phase) same ∙ ap (λ (s : Step). s.link.phase) (entered_open now ticked.client.link (ap (λ (l : LinkState). is_open l.phase) (sym same) ∙ up)).0

      by_opened_of : (b : Bool) → Risen 0 (calling now Opens ticked) (if b then [] else t) → SoFar (fallen (calling now Opens ticked).client) (calling now Opens ticked).calls
      by_opened_of b r = fallen_so_far (calling now Opens ticked) (if b then [] else t) r

      opened_risen : (b : Bool) → opens now ticked.client.link ≡ b → Risen 0 (calling now Opens ticked) (if b then [] else t)
      opened_risen true e = record {
        mid = record {
          g = [];
          tracks = subst (λ (b : Bool). Tracks (calling now Opens ticked) (if b then [] else ticked_mid.mid.g) (if b then [] else t)) e (called Opens ticked ticked_mid.mid.g t ticked_mid.mid.tracks);
          peer_is = ticked_mid.mid.peer_is;
          ever = nothing refl;
          inside = λ up. absurd (false≢true (sym (ap is_up (start_phase e)) ∙ up));
          starting = λ opened down. (refl, refl);
        };
        risen = λ up. absurd (false≢true (sym (ap is_up (start_phase e)) ∙ up));
      }
      opened_risen false e = record {
        mid = record {
          g = ticked_mid.mid.g;
          tracks = subst (λ (b : Bool). Tracks (calling now Opens ticked) (if b then [] else ticked_mid.mid.g) (if b then [] else t)) e (called Opens ticked ticked_mid.mid.g t ticked_mid.mid.tracks);
          peer_is = ticked_mid.mid.peer_is;
          ever = ticked_mid.mid.ever;
          inside = λ up. ticked_mid.mid.inside (ap is_up (sym (stays_phase e (up_open _ up))) ∙ up);
          starting = λ opened down. ticked_mid.mid.starting (ap is_open (sym (stays_phase e opened)) ∙ opened) (ap is_up (sym (stays_phase e opened)) ∙ down);
        };
        risen = λ up. ticked_mid.risen (ap is_up (sym (stays_phase e (up_open _ up))) ∙ up);
      }
