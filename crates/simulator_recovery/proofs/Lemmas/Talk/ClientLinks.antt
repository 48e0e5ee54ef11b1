-- While the link of a client is open it counts what the stage tells.
use Rattle.simulator_recovery.proofs.Words.Basics.{◌≡◌, ℕ, suc, ◌∙◌, ◌+◌, ◌⊎◌, inl, inr, Bool, true, false, not, ◌&&◌, nat_lt, List, [], ◌∷◌, length, Result, Ok, Err, if◌then◌else◌, refl, sym, ap, subst, arith, is_ok, false≢true}
use Rattle.simulator_recovery.proofs.Words.Links.{acceptance, answer_to_send, created, opening, receiving, sending_item, ticking as link_ticking, settled, window_size, Step, SendFault, WindowFull, LinkState, is_open, is_up, Identity, Phase, Reason}
use Rattle.simulator_recovery.proofs.Words.Controllers.{writing, InitialisationRequest, VersionCheck, Message}
use Rattle.simulator_recovery.proofs.Words.Interlockings.{ClientState, PeerState, is_outside, new_client, ClientSoFar, Closes, Opens, Receives, Sends, Ticks, calling, acted_on, acting, acting_all, at_stage, clocked, commanding, fallen, hearing, is_refused_by_window, message_of, posting, rising, saying, stage_after_command, telegram_to, ticking, Stage}
use Rattle.simulator_recovery.proofs.Words.Recovery.{ClientHasActedOn, ClientHasGiven, ClientStandsByCounts, HasCounted}
use Rattle.simulator_spec.specs.ixl_client.declared.command.Command.{Command}
use Rattle.simulator_recovery.proofs.Lemmas.Talk.ClientCounts.{Counts, acts, all_act, posted_acted, posted_at, rises}
use Rattle.simulator_recovery.proofs.Lemmas.Ground.ClientItem.{answers, changes, completes, Goes, not_outside, one_item, starts, tells}
use Rattle.simulator_recovery.proofs.Lemmas.Ground.LinkCounts.{AfterReceipt, close_closes, comes_in, open_counts, receipt_counts, send_counts, send_phase, send_was_open, settled_again, settled_open, stays_in, tick_counts, tick_was_open}
use Rattle.simulator_recovery.proofs.Lemmas.Ground.EndCalls.{count_push}
use Rattle.simulator_recovery.proofs.Lemmas.Ground.DueTests.{none_more, one_fewer}

pub up_open : (phase : Phase) → is_up phase ≡ true → is_open phase ≡ true
up_open Phase.Closed up = absurd (false≢true up)
up_open Phase.Start up = absurd (false≢true up)
up_open Phase.Up up = refl
up_open Phase.RetransmissionRequested up = refl
up_open Phase.RetransmissionRunning up = refl

pub not_true : (a b : Bool) → a ≡ not b → b ≡ true → a ≡ false
not_true a true e f = e
not_true a false e f = absurd (false≢true f)

pub not_false : (a b : Bool) → a ≡ not b → b ≡ false → a ≡ true
not_false a false e f = e
not_false a true e f = absurd (false≢true (sym f))

pub outside_is : (s : Stage) → is_outside s ≡ true → s ≡ Stage.Outside
outside_is Stage.Outside e = refl
outside_is Stage.AwaitsAnswer e = absurd (false≢true e)
outside_is Stage.AwaitsStart e = absurd (false≢true e)
outside_is (Stage.AwaitsStatus left) e = absurd (false≢true e)
outside_is Stage.Completed e = absurd (false≢true e)
outside_is Stage.AwaitsReport e = absurd (false≢true e)

-- in the middle of a step: so many items that were taken are still to be acted on
record Midway (left : ℕ) (client : ClientState) : Type 0 where
  taken : ℕ
  given : ℕ
  counts : HasCounted (taken + left) given client.link
  acted : ClientHasActedOn client.peer client.stage taken
  gave : ClientHasGiven client.stage given

record Mid (left : ℕ) (client : ClientState) : Type 0 where
  inside : is_up client.link.phase ≡ true → Midway left client
  starting : is_open client.link.phase ≡ true → is_up client.link.phase ≡ false → HasCounted 0 0 client.link

-- and a client that is up isn't outside
record Risen (left : ℕ) (client : ClientState) : Type 0 where
  mid : Mid left client
  risen : is_up client.link.phase ≡ true → is_outside client.stage ≡ false

mid_of : (client : ClientState) → ClientStandsByCounts client → Risen 0 client
mid_of client stands = record {
  mid = record {
    inside = λ up. let c = stands.stands (up_open client.link.phase up) in record { taken = c.taken; given = c.given; counts = subst (λ (n : ℕ). HasCounted n c.given client.link) (sym (none_more c.taken)) c.counts; acted = c.acted; gave = c.gave };
    starting = λ opened down. let c = stands.stands opened in let out = outside_is client.stage (not_false (is_outside client.stage) (is_up client.link.phase) stands.outside down) in
        none_of c.taken c.given (subst (λ (s : Stage). ClientHasActedOn client.peer s c.taken) out c.acted) (subst (λ (s : Stage). ClientHasGiven s c.given) out c.gave) c.counts;
  };
  risen = λ up. not_true (is_outside client.stage) (is_up client.link.phase) stands.outside up;
}
  where
    none_of : (t g : ℕ) → t ≡ 0 → g ≡ 0 → HasCounted t g client.link → HasCounted 0 0 client.link
    none_of t g e f has = subst (λ (n : ℕ). HasCounted n 0 client.link) e (subst (λ (n : ℕ). HasCounted t n client.link) f has)

-- ---- the end of a part

fallen_stands : (client : ClientState) → Risen 0 client → ClientStandsByCounts (fallen client)
unfolding fallen
fallen_stands client r = choose (is_up client.link.phase) refl
  where
    choose : (b : Bool) → is_up client.link.phase ≡ b → ClientStandsByCounts (if b then client else record client { stage = Stage.Outside })
    choose true e = record {
      outside = r.risen e ∙ sym (ap not e);
      stands = λ opened. let m = r.mid.inside e in record { taken = m.taken; given = m.given; counts = subst (λ (n : ℕ). HasCounted n m.given client.link) (none_more m.taken) m.counts; acted = m.acted; gave = m.gave };
    }
    choose false e = record { outside = sym (ap not e); stands = λ opened. record { taken = 0; given = 0; counts = r.mid.starting opened e; acted = refl; gave = refl } }

-- ---- the clock

-- a client whose link is settled at a reading
pub record ClockedStands (now : ℕ) (client : ClientState) : Type 0 where
  pub stands : ClientStandsByCounts client
  pub link : LinkState
  pub link_is : client.link ≡ settled now link

pub clocked_stands : (now : ℕ) (client : ClientState) → ClientStandsByCounts client → ClockedStands now (clocked now client)
unfolding clocked fallen
clocked_stands now client stands = record {
  stands = fallen_stands at (record {
    mid = record {
      inside = λ up. let so = settled_open now client.link (up_open at.link.phase up) in let m = r.mid.inside (ap (λ (l : LinkState). is_up l.phase) (sym so.0) ∙ up) in
          record { taken = m.taken; given = m.given; counts = subst (HasCounted (m.taken + 0) m.given) (sym so.0) (record { taken_is = m.counts.taken_is; given_is = m.counts.given_is; waiting = m.counts.waiting }); acted = m.acted; gave = m.gave };
      starting = λ opened down. let so = settled_open now client.link opened in let none = r.mid.starting so.1 (ap (λ (l : LinkState). is_up l.phase) (sym so.0) ∙ down) in
          subst (HasCounted 0 0) (sym so.0) (record { taken_is = none.taken_is; given_is = none.given_is; waiting = none.waiting });
    };
    risen = λ up. let so = settled_open now client.link (up_open at.link.phase up) in r.risen (ap (λ (l : LinkState). is_up l.phase) (sym so.0) ∙ up);
  });
  link = client.link;
  link_is = fallen_link at;
}
  where
    at : ClientState
    at = record client { link = settled now client.link }

    r : Risen 0 client
    r = mid_of client stands

    fallen_link : (c : ClientState) → (if is_up c.link.phase then c else record c { stage = Stage.Outside }).link ≡ c.link
    fallen_link c = choose (is_up c.link.phase)
      where
        choose : (b : Bool) → (if b then c else record c { stage = Stage.Outside }).link ≡ c.link
        choose true = refl
        choose false = refl

-- ---- what a client says

abbrev window_answer : Bool → Result Unit SendFault
window_answer b = if b then Ok tt else Err WindowFull

module _ (now : ℕ) where
  pub answer_up : (l : LinkState) → is_up l.phase ≡ true → is_ok (acceptance l) ≡ not (is_refused_by_window (acceptance l))
  unfolding acceptance
  answer_up l up = rw up (choose (nat_lt (length l.waiting) window_size))
    where
      choose : (b : Bool) → is_ok (window_answer b) ≡ not (is_refused_by_window (window_answer b))
      choose true = refl
      choose false = refl

  pub answer_down : (l : LinkState) → is_up l.phase ≡ false → is_ok (acceptance l) ≡ false
  unfolding acceptance
  answer_down l down = rw down refl

  -- after it the link is up: the item was accepted
  pub post_up : (told : Message) (part : ClientSoFar) (taken given : ℕ) → is_up (posting now told part).client.link.phase ≡ true → HasCounted taken given part.client.link
      → HasCounted taken (given + 1) (posting now told part).client.link × (is_up part.client.link.phase ≡ true)
  unfolding posting calling answer_to_send
  post_up told part taken given up has = choose (is_refused_by_window (answer_to_send now l)) refl up
    where
      l : LinkState
      l = part.client.link

      item : List ℕ
      item = writing (telegram_to part.client.peer told)

      sent : ClientSoFar
      sent = calling now (Sends item) part

      choose : (b : Bool) → is_refused_by_window (answer_to_send now l) ≡ b → is_up (if b then calling now (Closes Reason.Window) sent else sent).client.link.phase ≡ true
          → HasCounted taken (given + 1) (if b then calling now (Closes Reason.Window) sent else sent).client.link × (is_up l.phase ≡ true)
      choose true e u = absurd (false≢true (sym (close_closes now Reason.Window (sending_item now item l).link) ∙ up_open _ u))
      choose false e u =
          let open_then = up_open _ u
          in let before = send_was_open now item l open_then
          in let after = send_counts now item l taken given open_then has
          in let up_before : is_up l.phase ≡ true = ap is_up (sym after.phase_is) ∙ u
          in let ok : is_ok (answer_to_send now l) ≡ true = ap (λ (s : Step). is_ok (acceptance s.link)) before.0 ∙ answer_up (record l { clock = now }) up_before
          ∙ ap not (ap (λ (s : Step). is_refused_by_window (acceptance s.link)) (sym before.0) ∙ e)
          in (subst (λ (b : Bool). HasCounted taken (if b then given + 1 else given) (sending_item now item l).link) ok after.counts, up_before)

  is_up_before : (told : Message) (part : ClientSoFar) → is_up (posting now told part).client.link.phase ≡ true → is_up part.client.link.phase ≡ true
  unfolding posting calling answer_to_send
  is_up_before told part up = choose (is_refused_by_window (answer_to_send now part.client.link)) up
    where
      item : List ℕ
      item = writing (telegram_to part.client.peer told)

      sent : ClientSoFar
      sent = calling now (Sends item) part

      choose : (b : Bool) → is_up (if b then calling now (Closes Reason.Window) sent else sent).client.link.phase ≡ true → is_up part.client.link.phase ≡ true
      choose true u = absurd (false≢true (sym (close_closes now Reason.Window (sending_item now item part.client.link).link) ∙ up_open _ u))
      choose false u = ap is_up (sym (send_phase now item part.client.link (up_open _ u))) ∙ u

  -- after it the link is open, but not up: nothing was accepted
  post_starting : (told : Message) (part : ClientSoFar) → is_open (posting now told part).client.link.phase ≡ true → is_up (posting now told part).client.link.phase ≡ false
      → (is_open part.client.link.phase ≡ true → is_up part.client.link.phase ≡ false → HasCounted 0 0 part.client.link) → HasCounted 0 0 (posting now told part).client.link
  unfolding posting calling answer_to_send
  post_starting told part opened down has = choose (is_refused_by_window (answer_to_send now l)) opened down
    where
      l : LinkState
      l = part.client.link

      item : List ℕ
      item = writing (telegram_to part.client.peer told)

      sent : ClientSoFar
      sent = calling now (Sends item) part

      choose : (b : Bool) → is_open (if b then calling now (Closes Reason.Window) sent else sent).client.link.phase ≡ true → is_up (if b then calling now (Closes Reason.Window) sent else sent).client.link.phase ≡ false
          → HasCounted 0 0 (if b then calling now (Closes Reason.Window) sent else sent).client.link
      choose true e d = absurd (false≢true (sym (close_closes now Reason.Window (sending_item now item l).link) ∙ e))
      choose false e d = none (send_phase now item l e)
        where
          none : (sending_item now item l).link.phase ≡ l.phase → HasCounted 0 0 (sending_item now item l).link
          none phase_is =
              let before = send_was_open now item l e
              in let down_before : is_up l.phase ≡ false = ap is_up (sym phase_is) ∙ d
              in let after = send_counts now item l 0 0 e (has before.1 down_before)
              in let refused : is_ok (answer_to_send now l) ≡ false = ap (λ (s : Step). is_ok (acceptance s.link)) before.0 ∙ answer_down (record l { clock = now }) down_before
              in subst (λ (b : Bool). HasCounted 0 (if b then 0 + 1 else 0) (sending_item now item l).link) refused after.counts

-- ---- one item

-- what an item that is acted on does: it closes the link; or leaves it as it is; or the client asks for the initialisation
data After (now : ℕ) (item : List ℕ) (part after : ClientSoFar) : Type 0 where
  closes : is_open after.client.link.phase ≡ false → After now item part after
  goes_on : after.client.link ≡ part.client.link → length after.acted ≡ length part.acted + 1 → is_outside after.client.stage ≡ false
      → ((given : ℕ) → ClientHasGiven part.client.stage given → ClientHasGiven after.client.stage given) → After now item part after
  asks : (told : Message) → after.client.link ≡ (posting now told (acted_on item part)).client.link → length after.acted ≡ length part.acted + 1 → part.client.stage ≡ Stage.AwaitsAnswer → after.client.stage ≡ Stage.AwaitsStart → After now item part after

module _ (now : ℕ) (item : List ℕ) (part : ClientSoFar) where
  abbrev On : ClientSoFar → Type 0
  On after = After now item part after

  closed : (why : Reason) → On (calling now (Closes why) part)
  unfolding calling
  closed why = closes (close_closes now why part.client.link)

  -- what was given at one stage is enough for the next
  enough : (old new : Stage) → Goes part.client.peer old new → (given : ℕ) → ClientHasGiven old given → ClientHasGiven new given
  enough old new (starts e f) given has = subst (λ (s : Stage). ClientHasGiven s given) (sym f) (subst (λ (s : Stage). ClientHasGiven s given) e has)
  enough old new (tells left some e f) given has = subst (λ (s : Stage). ClientHasGiven s given) (sym f) (subst (λ (s : Stage). ClientHasGiven s given) e has)
  enough old new (completes e f) given has = subst (λ (s : Stage). ClientHasGiven s given) (sym f) (subst (λ (s : Stage). ClientHasGiven s given) e has)
  enough old new (changes turn e f) given has = subst (λ (s : Stage). ClientHasGiven s given) (sym f) (subst (λ (s : Stage). ClientHasGiven s given) e has)
  enough old new (answers e f) given has = subst (λ (s : Stage). ClientHasGiven s given) (sym f) (subst (λ (s : Stage). ClientHasGiven s given) e has)

  after : On (acting now item part)
  after = one_item now item part On (closed Reason.State) (closed Reason.Version)
      (λ is. asks (Message.Initialisation part.client.peer.protocol InitialisationRequest) refl (ap length (posted_acted now _ (acted_on item part)) ∙ count_push part.acted item) is refl)
      (λ one same called peer acted on. goes_on same acted (not_outside part.client.stage one.client.stage on) (enough part.client.stage one.client.stage on))

-- an item counts
one_risen : (now : ℕ) (item : List ℕ) (left : ℕ) (part : ClientSoFar) → Risen (suc left) part.client → Risen left (acting now item part).client
one_risen now item left part r = choose (after now item part)
  where
    done : ClientSoFar
    done = acting now item part

    counts : Counts part done
    counts = acts now item part

    one : length done.acted ≡ length part.acted + 1 → counts.more ≡ 1
    one e = let a = counts.acted in omega (arith, a, e)

    acted_then : (taken : ℕ) → length done.acted ≡ length part.acted + 1 → ClientHasActedOn part.client.peer part.client.stage taken → ClientHasActedOn done.client.peer done.client.stage (taken + 1)
    acted_then taken e has = subst (λ (n : ℕ). ClientHasActedOn done.client.peer done.client.stage (taken + n)) (one e)
        (subst (λ (peer : PeerState). ClientHasActedOn peer done.client.stage (taken + counts.more)) (sym counts.peer) (counts.on taken has))

    choose : After now item part done → Risen left done.client
    choose (closes e) = record {
      mid = record { inside = λ up. absurd (false≢true (sym e ∙ up_open done.client.link.phase up)); starting = λ opened down. absurd (false≢true (sym e ∙ opened)) };
      risen = λ up. absurd (false≢true (sym e ∙ up_open done.client.link.phase up));
    }
    choose (goes_on same acted inside gave) = record {
      mid = record {
        inside = λ up. let m = r.mid.inside (ap (λ (l : LinkState). is_up l.phase) (sym same) ∙ up) in record {
          taken = m.taken + 1;
          given = m.given;
          counts = subst (HasCounted ((m.taken + 1) + left) m.given) (sym same) (subst (λ (n : ℕ). HasCounted n m.given part.client.link) (one_fewer m.taken left) m.counts);
          acted = acted_then m.taken acted m.acted;
          gave = gave m.given m.gave;
        };
        starting = λ opened down. subst (HasCounted 0 0) (sym same) (r.mid.starting (ap (λ (l : LinkState). is_open l.phase) (sym same) ∙ opened) (ap (λ (l : LinkState). is_up l.phase) (sym same) ∙ down));
      };
      risen = λ up. inside;
    }
    choose (asks told same acted before then_at) = record {
      mid = record {
        inside = λ up. asked (ap (λ (l : LinkState). is_up l.phase) (sym same) ∙ up);
        starting = λ opened down. subst (HasCounted 0 0) (sym same) (post_starting now told (acted_on item part) (ap (λ (l : LinkState). is_open l.phase) (sym same) ∙ opened) (ap (λ (l : LinkState). is_up l.phase) (sym same) ∙ down) r.mid.starting);
      };
      risen = λ up. ap is_outside then_at;
    }
      where
        asked : is_up (posting now told (acted_on item part)).client.link.phase ≡ true → Midway left done.client
        asked up =
            let m = r.mid.inside (is_up_before now told (acted_on item part) up)
            in let p = post_up now told (acted_on item part) (m.taken + suc left) m.given up m.counts
            in let some = subst (λ (s : Stage). ClientHasGiven s m.given) before m.gave
            in record {
              taken = m.taken + 1;
              given = m.given + 1;
              counts = subst (HasCounted ((m.taken + 1) + left) (m.given + 1)) (sym same) (subst (λ (n : ℕ). HasCounted n (m.given + 1) (posting now told (acted_on item part)).client.link) (one_fewer m.taken left) p.0);
              acted = acted_then m.taken acted m.acted;
              gave = subst (λ (s : Stage). ClientHasGiven s (m.given + 1)) (sym then_at) (omega (arith, some));
            }

all_risen : (now : ℕ) (items : List (List ℕ)) (part : ClientSoFar) → Risen (length items) part.client → Risen 0 (acting_all now items part).client
unfolding acting_all
all_risen now [] part r = r
all_risen now (item ∷ others) part r = choose (is_open part.client.link.phase) refl (all_risen now others (acting now item part) (one_risen now item (length others) part r))
  where
    choose : (b : Bool) → is_open part.client.link.phase ≡ b → Risen 0 (acting_all now others (acting now item part)).client → Risen 0 (if b then acting_all now others (acting now item part) else part).client
    choose true e so = so
    choose false e so = record {
      mid = record { inside = λ up. absurd (false≢true (sym e ∙ up_open part.client.link.phase up)); starting = λ opened down. absurd (false≢true (sym e ∙ opened)) };
      risen = λ up. absurd (false≢true (sym e ∙ up_open part.client.link.phase up));
    }

-- a connection that has come up
rising_risen : (now : ℕ) (left : ℕ) (part : ClientSoFar) → Mid left part.client → Risen left (rising now part).client
unfolding rising
rising_risen now left part mid = choose part.client.stage refl (is_up part.client.link.phase) refl
  where
    told : Message
    told = Message.Initialisation part.client.peer.protocol (VersionCheck part.client.peer.version)

    said : ClientSoFar
    said = at_stage Stage.AwaitsAnswer (saying now (VersionCheck part.client.peer.version) part)

    said_risen : part.client.stage ≡ Stage.Outside → Risen left said.client
    said_risen is = record {
      mid = record {
        inside = λ up.
            let m = mid.inside (is_up_before now told part up)
            in let p = post_up now told part (m.taken + left) m.given up m.counts
            in let none = subst (λ (s : Stage). ClientHasActedOn part.client.peer s m.taken) is m.acted
            in record { taken = m.taken; given = m.given + 1; counts = p.0; acted = none; gave = omega arith };
        starting = λ opened down. post_starting now told part opened down mid.starting;
      };
      risen = λ up. refl;
    }

    as_it_is : (is_up part.client.link.phase ≡ true → is_outside part.client.stage ≡ false) → Risen left part.client
    as_it_is so = record { mid = mid; risen = so }

    choose : (s : Stage) → part.client.stage ≡ s → (b : Bool) → is_up part.client.link.phase ≡ b → Risen left (if is_outside s && b then said else part).client
    choose Stage.Outside e true f = said_risen e
    choose Stage.Outside e false f = as_it_is (λ up. absurd (false≢true (sym f ∙ up)))
    choose Stage.AwaitsAnswer e b f = as_it_is (λ up. ap is_outside e)
    choose Stage.AwaitsStart e b f = as_it_is (λ up. ap is_outside e)
    choose (Stage.AwaitsStatus n) e b f = as_it_is (λ up. ap is_outside e)
    choose Stage.Completed e b f = as_it_is (λ up. ap is_outside e)
    choose Stage.AwaitsReport e b f = as_it_is (λ up. ap is_outside e)

-- ---- the parts of a step

-- what a client counts before a part of a step, if its link is open
record Before (client : ClientState) : Type 0 where
  taken : ℕ
  given : ℕ
  has : is_open client.link.phase ≡ true → HasCounted taken given client.link × ClientHasActedOn client.peer client.stage taken × ClientHasGiven client.stage given

before_of : (client : ClientState) → ClientStandsByCounts client → Before client
before_of client stands = by_open (is_open client.link.phase) refl
  where
    by_open : (b : Bool) → is_open client.link.phase ≡ b → Before client
    by_open true f = let c = stands.stands f in record { taken = c.taken; given = c.given; has = λ g. (c.counts, c.acted, c.gave) }
    by_open false f = record { taken = 0; given = 0; has = λ g. absurd (false≢true (sym f ∙ g)) }

not_up : (phase : Phase) → is_open phase ≡ false → is_up phase ≡ false
not_up Phase.Closed e = refl
not_up Phase.Start e = absurd (false≢true (sym e))
not_up Phase.Up e = absurd (false≢true (sym e))
not_up Phase.RetransmissionRequested e = absurd (false≢true (sym e))
not_up Phase.RetransmissionRunning e = absurd (false≢true (sym e))

-- bytes that come
came_mid : (now : ℕ) (bytes : List ℕ) (part : ClientSoFar) → ClockedStands now part.client → Mid (length (receiving now bytes part.client.link).items) (calling now (Receives bytes) part).client
unfolding calling
came_mid now bytes part is = record { inside = λ up. of_inside (receipt (up_open _ up)); starting = λ opened down. of_starting down (receipt opened) }
  where
    client : ClientState
    client = part.client

    items : List (List ℕ)
    items = (receiving now bytes client.link).items

    came : LinkState
    came = (receiving now bytes client.link).link

    had : Before client
    had = before_of client is.stands

    receipt : is_open came.phase ≡ true → AfterReceipt now bytes had.taken had.given client.link
    receipt e = receipt_counts now bytes had.taken had.given client.link e (λ g. (had.has g).0)

    out : is_open client.link.phase ≡ false → client.stage ≡ Stage.Outside
    out e = outside_is client.stage (not_false (is_outside client.stage) (is_up client.link.phase) is.stands.outside (not_up client.link.phase e))

    was_out : is_open (settled now client.link).phase ≡ false → is_open client.link.phase ≡ false
    was_out e = ap (λ (l : LinkState). is_open l.phase) is.link_is ∙ settled_again now is.link (ap (λ (l : LinkState). is_open (settled now l).phase) (sym is.link_is) ∙ e)

    nothing : length items ≡ 0 → 0 ≡ 0 + length items
    nothing f = omega (arith, f)

    of_inside : AfterReceipt now bytes had.taken had.given client.link → Midway (length items) (calling now (Receives bytes) part).client
    of_inside (stays_in is_in counts up stays_up) = let h = had.has is_in in record { taken = had.taken; given = had.given; counts = counts; acted = h.1; gave = h.2 }
    of_inside (comes_in was none counts) = let o = out (was_out was) in record {
      taken = 0;
      given = 0;
      counts = subst (λ (n : ℕ). HasCounted n 0 came) (nothing (ap length none)) counts;
      acted = subst (λ (s : Stage). ClientHasActedOn client.peer s 0) (sym o) refl;
      gave = subst (λ (s : Stage). ClientHasGiven s 0) (sym o) refl;
    }

    of_starting : is_up came.phase ≡ false → AfterReceipt now bytes had.taken had.given client.link → HasCounted 0 0 came
    of_starting down (comes_in was none counts) = counts
    of_starting down (stays_in is_in counts up stays_up) = choose up (by_up (is_up client.link.phase) refl)
      where
        by_up : (b : Bool) → is_up client.link.phase ≡ b → client.stage ≡ Stage.Outside
        by_up true e = absurd (false≢true (sym down ∙ stays_up e))
        by_up false e = outside_is client.stage (not_false (is_outside client.stage) (is_up client.link.phase) is.stands.outside e)

        none_of : (t g : ℕ) → t ≡ 0 → g ≡ 0 → HasCounted t g came → HasCounted 0 0 came
        none_of t g e f has = subst (λ (n : ℕ). HasCounted n 0 came) e (subst (λ (n : ℕ). HasCounted t n came) f has)

        choose : (items ≡ []) ⊎ (is_up came.phase ≡ true) → client.stage ≡ Stage.Outside → HasCounted 0 0 came
        choose (inr u) o = absurd (false≢true (sym down ∙ u))
        choose (inl none) o =
            let h = had.has is_in
            in let t = subst (λ (s : Stage). ClientHasActedOn client.peer s had.taken) o h.1
            in let g = subst (λ (s : Stage). ClientHasGiven s had.given) o h.2
            in none_of (had.taken + length items) had.given (omega (arith, t, ap length none)) g counts

pub hearing_stands : (now : ℕ) (bytes : List ℕ) (part : ClientSoFar) → ClockedStands now part.client → ClientStandsByCounts (hearing now bytes part).client
unfolding hearing
hearing_stands now bytes part is = fallen_stands (acting_all now items (rising now received)).client (all_risen now items (rising now received) (rising_risen now (length items) received (came_mid now bytes part is)))
  where
    received : ClientSoFar
    received = calling now (Receives bytes) part

    items : List (List ℕ)
    items = (receiving now bytes part.client.link).items

-- a command
pub commanding_stands : (now : ℕ) (command : Command) (part : ClientSoFar) → ClientStandsByCounts part.client → ClientStandsByCounts (commanding now command part).client
unfolding commanding
commanding_stands now command part stands = fallen_stands (at_stage (stage_after_command command part.client.stage) (posting now (message_of command) part)).client (record {
  mid = record {
    inside = λ up.
        let before = is_up_before now (message_of command) part up
        in let m = r.mid.inside before
        in let p = post_up now (message_of command) part (m.taken + 0) m.given up m.counts
        in record { taken = m.taken; given = m.given + 1; counts = p.0; acted = same_peer m.taken (acted_on_so command part.client.stage m.taken m.acted); gave = given_so command part.client.stage (r.risen before) m.given m.gave };
    starting = λ opened down. post_starting now (message_of command) part opened down r.mid.starting;
  };
  risen = λ up. inside_so command part.client.stage (r.risen (is_up_before now (message_of command) part up));
})
  where
    r : Risen 0 part.client
    r = mid_of part.client stands

    then_at : Stage
    then_at = stage_after_command command part.client.stage

    same_peer : (taken : ℕ) → ClientHasActedOn part.client.peer then_at taken → ClientHasActedOn (at_stage then_at (posting now (message_of command) part)).client.peer then_at taken
    same_peer taken has = subst (λ (peer : PeerState). ClientHasActedOn peer then_at taken) (sym (posted_at now (message_of command) then_at part)) has

    acted_on_so : (c : Command) (s : Stage) (taken : ℕ) → ClientHasActedOn part.client.peer s taken → ClientHasActedOn part.client.peer (stage_after_command c s) taken
    acted_on_so (Command.Indicate aspect) s taken has = has
    acted_on_so (Command.Move side) Stage.Outside taken has = has
    acted_on_so (Command.Move side) Stage.AwaitsAnswer taken has = has
    acted_on_so (Command.Move side) Stage.AwaitsStart taken has = has
    acted_on_so (Command.Move side) (Stage.AwaitsStatus left) taken has = has
    acted_on_so (Command.Move side) Stage.Completed taken has = has
    acted_on_so (Command.Move side) Stage.AwaitsReport taken has = has

    more : (s : Stage) → is_outside s ≡ false → (given : ℕ) → ClientHasGiven s given → ClientHasGiven s (given + 1)
    more Stage.Outside inside given has = absurd (false≢true (sym inside))
    more Stage.AwaitsAnswer inside given has = omega (arith, has)
    more Stage.AwaitsStart inside given has = omega (arith, has)
    more (Stage.AwaitsStatus left) inside given has = omega (arith, has)
    more Stage.Completed inside given has = omega (arith, has)
    more Stage.AwaitsReport inside given has = omega (arith, has)

    given_so : (c : Command) (s : Stage) → is_outside s ≡ false → (given : ℕ) → ClientHasGiven s given → ClientHasGiven (stage_after_command c s) (given + 1)
    given_so (Command.Indicate aspect) s inside given has = more s inside given has
    given_so (Command.Move side) Stage.Outside inside given has = absurd (false≢true (sym inside))
    given_so (Command.Move side) Stage.AwaitsAnswer inside given has = omega (arith, has)
    given_so (Command.Move side) Stage.AwaitsStart inside given has = omega (arith, has)
    given_so (Command.Move side) (Stage.AwaitsStatus left) inside given has = omega (arith, has)
    given_so (Command.Move side) Stage.Completed inside given has = omega (arith, has)
    given_so (Command.Move side) Stage.AwaitsReport inside given has = omega (arith, has)

    inside_so : (c : Command) (s : Stage) → is_outside s ≡ false → is_outside (stage_after_command c s) ≡ false
    inside_so (Command.Indicate aspect) s inside = inside
    inside_so (Command.Move side) Stage.Outside inside = inside
    inside_so (Command.Move side) Stage.AwaitsAnswer inside = refl
    inside_so (Command.Move side) Stage.AwaitsStart inside = refl
    inside_so (Command.Move side) (Stage.AwaitsStatus left) inside = refl
    inside_so (Command.Move side) Stage.Completed inside = refl
    inside_so (Command.Move side) Stage.AwaitsReport inside = refl

-- a tick
pub ticking_stands : (now : ℕ) (part : ClientSoFar) → ClientStandsByCounts part.client → ClientStandsByCounts (ticking now part).client
unfolding ticking calling
ticking_stands now part stands = fallen_stands (calling now Opens (calling now Ticks part)).client (record {
  mid = record { inside = λ up. of_inside up (opened_by (up_open _ up)); starting = λ opened down. of_starting down (opened_by opened) };
  risen = λ up. risen_so up (opened_by (up_open _ up));
})
  where
    client : ClientState
    client = part.client

    r : Risen 0 client
    r = mid_of client stands

    had : Before client
    had = before_of client stands

    ticked : LinkState
    ticked = (link_ticking now client.link).link

    then_is : LinkState
    then_is = (opening now ticked).link

    ticked_counts : is_open ticked.phase ≡ true → (ticked.phase ≡ client.link.phase) × (is_open client.link.phase ≡ true) × HasCounted had.taken had.given ticked
    ticked_counts e = tick_counts now client.link had.taken had.given e (had.has (tick_was_open now client.link e).1).0

    opened_by : is_open then_is.phase ≡ true → ((is_open ticked.phase ≡ true) × (then_is.phase ≡ ticked.phase) × HasCounted had.taken had.given then_is) ⊎ ((then_is.phase ≡ Phase.Start) × HasCounted 0 0 then_is)
    opened_by e = open_counts now ticked had.taken had.given e (λ g. (ticked_counts g).2)

    up_before : is_open ticked.phase ≡ true → then_is.phase ≡ ticked.phase → is_up then_is.phase ≡ is_up client.link.phase
    up_before is_in same = ap is_up (same ∙ (ticked_counts is_in).0)

    of_inside : is_up then_is.phase ≡ true → ((is_open ticked.phase ≡ true) × (then_is.phase ≡ ticked.phase) × HasCounted had.taken had.given then_is) ⊎ ((then_is.phase ≡ Phase.Start) × HasCounted 0 0 then_is) → Midway 0 (calling now Opens (calling now Ticks part)).client
    of_inside up (inl (is_in, same, counts)) = let h = had.has (ticked_counts is_in).1 in record { taken = had.taken; given = had.given; counts = subst (λ (n : ℕ). HasCounted n had.given then_is) (sym (none_more had.taken)) counts; acted = h.1; gave = h.2 }
    of_inside up (inr (start, counts)) = absurd (false≢true (sym (ap is_up start) ∙ up))

    of_starting : is_up then_is.phase ≡ false → ((is_open ticked.phase ≡ true) × (then_is.phase ≡ ticked.phase) × HasCounted had.taken had.given then_is) ⊎ ((then_is.phase ≡ Phase.Start) × HasCounted 0 0 then_is) → HasCounted 0 0 then_is
    of_starting down (inr (start, counts)) = counts
    of_starting down (inl (is_in, same, counts)) =
        let h = had.has (ticked_counts is_in).1
        in let o = outside_is client.stage (not_false (is_outside client.stage) (is_up client.link.phase) stands.outside (sym (up_before is_in same) ∙ down))
        in none_of had.taken had.given (subst (λ (s : Stage). ClientHasActedOn client.peer s had.taken) o h.1) (subst (λ (s : Stage). ClientHasGiven s had.given) o h.2) counts
      where
        none_of : (t g : ℕ) → t ≡ 0 → g ≡ 0 → HasCounted t g then_is → HasCounted 0 0 then_is
        none_of t g e f has = subst (λ (n : ℕ). HasCounted n 0 then_is) e (subst (λ (n : ℕ). HasCounted t n then_is) f has)

    risen_so : is_up then_is.phase ≡ true → ((is_open ticked.phase ≡ true) × (then_is.phase ≡ ticked.phase) × HasCounted had.taken had.given then_is) ⊎ ((then_is.phase ≡ Phase.Start) × HasCounted 0 0 then_is) → is_outside client.stage ≡ false
    risen_so up (inl (is_in, same, counts)) = r.risen (sym (up_before is_in same) ∙ up)
    risen_so up (inr (start, counts)) = absurd (false≢true (sym (ap is_up start) ∙ up))

-- a client that was just made
pub new_client_stands : (identity : Identity) (peer : PeerState) (first now : ℕ) → ClientStandsByCounts (new_client identity peer first now)
unfolding new_client created
new_client_stands identity peer first now = record { outside = refl; stands = λ e. absurd (false≢true e) }

-- ---- and whom a client speaks with stays

fallen_peer : (client : ClientState) → (fallen client).peer ≡ client.peer
unfolding fallen
fallen_peer client = choose (is_up client.link.phase)
  where
    choose : (b : Bool) → (if b then client else record client { stage = Stage.Outside }).peer ≡ client.peer
    choose true = refl
    choose false = refl

pub clocked_peer : (now : ℕ) (client : ClientState) → (clocked now client).peer ≡ client.peer
unfolding clocked
clocked_peer now client = fallen_peer (record client { link = settled now client.link })

pub hearing_peer : (now : ℕ) (bytes : List ℕ) (part : ClientSoFar) → (hearing now bytes part).client.peer ≡ part.client.peer
unfolding hearing calling
hearing_peer now bytes part = fallen_peer (acting_all now (receiving now bytes part.client.link).items (rising now (calling now (Receives bytes) part))).client
    ∙ (all_act now (receiving now bytes part.client.link).items (rising now (calling now (Receives bytes) part))).peer ∙ (rises now (calling now (Receives bytes) part)).peer

pub commanding_peer : (now : ℕ) (command : Command) (part : ClientSoFar) → (commanding now command part).client.peer ≡ part.client.peer
unfolding commanding
commanding_peer now command part = fallen_peer (at_stage (stage_after_command command part.client.stage) (posting now (message_of command) part)).client ∙ posted_at now (message_of command) (stage_after_command command part.client.stage) part

pub ticking_peer : (now : ℕ) (part : ClientSoFar) → (ticking now part).client.peer ≡ part.client.peer
unfolding ticking calling
ticking_peer now part = fallen_peer (calling now Opens (calling now Ticks part)).client
