-- How many items wait at a client that is ready: no part of a step adds one but a command.
use Rattle.simulator_recovery.proofs.Words.Basics.{◌≡◌, ℕ, ◌∙◌, ◌+◌, ◌-◌, ◌≤◌, ◌<◌, ◌⊎◌, inl, inr, Bool, true, false, List, [], ◌∷◌, length, if◌then◌else◌, refl, sym, ap, subst, arith, ◌&&◌, is_ok, nat_le, false≢true}
use Rattle.simulator_recovery.proofs.Words.Links.{acceptance, opening, receiving, sending_item, ticking as link_ticking, settled, Each, beginning, may_open, requesting, OutboxState, window_size, Step, beating, entered, giving, sending, silent, LinkState, is_open, is_up, Reason, Heartbeat}
use Rattle.simulator_recovery.proofs.Words.Controllers.{writing, Aspect}
use Rattle.simulator_recovery.proofs.Words.Interlockings.{ClientState, is_outside, is_ready, ClientSoFar, Closes, Opens, Receives, Sends, Ticks, begun, calling, acting, acting_all, at_stage, clocked, commanding, fallen, hearing, message_of, posting, rising, telegram_to, ticking, Stage}
use Rattle.simulator_spec.specs.ixl_client.declared.command.Command.{Command}
use Rattle.simulator_recovery.proofs.Lemmas.Ground.AspectCalls.{DoneBy, IsCommanded, hears, ticks}
use Rattle.simulator_recovery.proofs.Lemmas.Ground.ClientItem.{answers, changes, completes, Goes, starts, tells}
use Rattle.simulator_recovery.proofs.Lemmas.Talk.ClientLinks.{up_open}
use Rattle.simulator_recovery.proofs.Lemmas.Talk.ClientTalk.{Fate, asks, closes, fate, goes}
use Rattle.simulator_recovery.proofs.Lemmas.Windows.FewItems.{FewSoFar, GivesFew, LeavesWindow, clocked_few, commanding_few, hearing_few, not_full, ticking_few}
use Rattle.simulator_recovery.proofs.Lemmas.Ground.LinkCounts.{close_closes, entered_open, receipt_window, send_phase, send_was_open, settled_open, tick_was_open}
use Rattle.simulator_recovery.proofs.Lemmas.Ground.EndCalls.{count_push}

-- A link has given the same, and no more items wait.
pub record NoMore (old new : LinkState) : Type 0 where
  pub given : new.given ≡ old.given
  pub waiting : length new.waiting ≤ length old.waiting

none_more_then : (one two three : LinkState) → NoMore one two → NoMore two three → NoMore one three
none_more_then one two three a b = record { given = b.given ∙ a.given; waiting = let m = a.waiting in let n = b.waiting in omega (arith, m, n) }

-- a client that isn't outside after a part is up
pub fallen_up : (client : ClientState) → is_outside (fallen client).stage ≡ false → is_up (fallen client).link.phase ≡ true
unfolding fallen
fallen_up client = choose (is_up client.link.phase) refl
  where
    choose : (b : Bool) → is_up client.link.phase ≡ b → is_outside (if b then client else record client { stage = Stage.Outside }).stage ≡ false → is_up (if b then client else record client { stage = Stage.Outside }).link.phase ≡ true
    choose true e inside = e
    choose false e inside = absurd (false≢true (sym inside))

fallen_link : (client : ClientState) → (fallen client).link ≡ client.link
unfolding fallen
fallen_link client = choose (is_up client.link.phase)
  where
    choose : (b : Bool) → (if b then client else record client { stage = Stage.Outside }).link ≡ client.link
    choose true = refl
    choose false = refl

-- a client that is ready isn't outside
pub ready_inside : (s : Stage) → is_ready s ≡ true → is_outside s ≡ false
ready_inside Stage.Outside e = absurd (false≢true e)
ready_inside Stage.AwaitsAnswer e = refl
ready_inside Stage.AwaitsStart e = refl
ready_inside (Stage.AwaitsStatus left) e = refl
ready_inside Stage.Completed e = refl
ready_inside Stage.AwaitsReport e = refl

-- after each part of a step a client that isn't outside is up
heard_up : (now : ℕ) (bytes : List ℕ) (client : ClientState) (outbox : OutboxState) → is_outside (hearing now bytes (begun client outbox)).client.stage ≡ false → is_up (hearing now bytes (begun client outbox)).client.link.phase ≡ true
unfolding hearing
heard_up now bytes client outbox = fallen_up (acting_all now (receiving now bytes client.link).items (rising now (calling now (Receives bytes) (begun client outbox)))).client

ticked_up : (now : ℕ) (client : ClientState) (outbox : OutboxState) → is_outside (ticking now (begun client outbox)).client.stage ≡ false → is_up (ticking now (begun client outbox)).client.link.phase ≡ true
unfolding ticking
ticked_up now client outbox = fallen_up (calling now Opens (calling now Ticks (begun client outbox))).client

commanded_up : (now : ℕ) (aspect : Aspect) (client : ClientState) (outbox : OutboxState) → is_outside (commanding now (Command.Indicate aspect) (begun client outbox)).client.stage ≡ false
    → is_up (commanding now (Command.Indicate aspect) (begun client outbox)).client.link.phase ≡ true
unfolding commanding
commanded_up now aspect client outbox = fallen_up (at_stage client.stage (posting now (message_of (Command.Indicate aspect)) (begun client outbox))).client

clocked_up : (now : ℕ) (client : ClientState) → is_outside (clocked now client).stage ≡ false → is_up (clocked now client).link.phase ≡ true
unfolding clocked
clocked_up now client = fallen_up (record client { link = settled now client.link })

-- ---- items that come

-- it has closed, or is ready still
abbrev Stays : (part after : ClientSoFar) → Type 0
Stays part after = (is_open after.client.link.phase ≡ false) ⊎ ((is_ready after.client.stage ≡ true) × (after.client.link ≡ part.client.link))

goes_ready : (peer : _) (old new : Stage) → Goes peer old new → is_ready old ≡ true → is_ready new ≡ true
goes_ready peer old new (starts e f) ready = absurd (false≢true (sym (ap is_ready e) ∙ ready))
goes_ready peer old new (tells left some e f) ready = absurd (false≢true (sym (ap is_ready e) ∙ ready))
goes_ready peer old new (completes e f) ready = absurd (false≢true (sym (ap is_ready e) ∙ ready))
goes_ready peer old new (changes turn e f) ready = ap is_ready f
goes_ready peer old new (answers e f) ready = ap is_ready f

module _ (now : ℕ) where
  shut_by : (why : Reason) (part : ClientSoFar) → is_open (calling now (Closes why) part).client.link.phase ≡ false
  unfolding calling
  shut_by why part = close_closes now why part.client.link

  one_acts : (item : List ℕ) (part : ClientSoFar) → is_ready part.client.stage ≡ true → Stays part (acting now item part)
  one_acts item part ready = by_fate (fate now item part)
    where
      by_fate : Fate now item part (acting now item part) → Stays part (acting now item part)
      by_fate (closes why e) = inl (ap (λ (p : ClientSoFar). is_open p.client.link.phase) e ∙ shut_by why part)
      by_fate (goes same called peer acted on) = inr (goes_ready part.client.peer part.client.stage (acting now item part).client.stage on ready, same)
      by_fate (asks at e) = absurd (false≢true (sym (ap is_ready at) ∙ ready))

  shut_all : (items : List (List ℕ)) (part : ClientSoFar) → is_open part.client.link.phase ≡ false → acting_all now items part ≡ part
  unfolding acting_all
  shut_all [] part shut = refl
  shut_all (first ∷ others) part shut = ap (λ (b : Bool). if b then acting_all now others (acting now first part) else part) shut

  then_stays : (one two three : ClientSoFar) → two.client.link ≡ one.client.link → Stays two three → Stays one three
  then_stays one two three same (inl shut) = inl shut
  then_stays one two three same (inr (still, then_same)) = inr (still, then_same ∙ same)

  all_act : (items : List (List ℕ)) (part : ClientSoFar) → is_ready part.client.stage ≡ true → Stays part (acting_all now items part)
  unfolding acting_all
  all_act [] part ready = inr (ready, refl)
  all_act (first ∷ others) part ready = choose (is_open part.client.link.phase) (then_others (one_acts first part ready) (λ still. all_act others (acting now first part) still))
    where
      next : ClientSoFar
      next = acting now first part

      then_others : Stays part next → (is_ready next.client.stage ≡ true → Stays next (acting_all now others next)) → Stays part (acting_all now others next)
      then_others (inl shut) rest = inl (ap (λ (p : ClientSoFar). is_open p.client.link.phase) (shut_all others next shut) ∙ shut)
      then_others (inr (still, same)) rest = then_stays part next (acting_all now others next) same (rest still)

      choose : (b : Bool) → Stays part (acting_all now others next) → Stays part (if b then acting_all now others next else part)
      choose true so = so
      choose false so = inr (ready, refl)

  open_before : (l : LinkState) → is_up (opening now l).link.phase ≡ true → is_open l.phase ≡ true
  unfolding opening requesting beginning sending
  open_before l = choose (may_open k)
    where
      k : LinkState
      k = (entered now l).link

      choose : (b : Bool) → is_up (if b then requesting k else silent k).link.phase ≡ true → is_open l.phase ≡ true
      choose true up = absurd (false≢true up)
      choose false up = (entered_open now l (up_open k.phase up)).1

  opens_none : (l : LinkState) → is_up (opening now l).link.phase ≡ true → NoMore l (opening now l).link
  unfolding opening requesting beginning sending
  opens_none l = choose (may_open k)
    where
      k : LinkState
      k = (entered now l).link

      choose : (b : Bool) → is_up (if b then requesting k else silent k).link.phase ≡ true → NoMore l (if b then requesting k else silent k).link
      choose true up = absurd (false≢true up)
      choose false up = subst (λ (s : Step). NoMore l s.link) (sym (entered_open now l (up_open k.phase up)).0) (record { given = refl; waiting = omega arith })

  ticks_none : (l : LinkState) → is_open (link_ticking now l).link.phase ≡ true → NoMore l (link_ticking now l).link
  unfolding beating link_ticking sending
  ticks_none l opened = subst (λ (s : Step). NoMore l (beating s.link).link) (sym (tick_was_open now l opened).0) (beats (is_up l.phase && nat_le 300 (now - l.sent_at)))
    where
      at : LinkState
      at = record l { clock = now }

      beats : (b : Bool) → NoMore l (if b then sending Heartbeat at else silent at).link
      beats true = record { given = refl; waiting = omega arith }
      beats false = record { given = refl; waiting = omega arith }

  tick_then_open : (l : LinkState) → is_up (opening now (link_ticking now l).link).link.phase ≡ true → NoMore l (opening now (link_ticking now l).link).link
  tick_then_open l up =
      let opened = opens_none (link_ticking now l).link up
      in none_more_then l (link_ticking now l).link (opening now (link_ticking now l).link).link (ticks_none l (still_open l up)) opened
    where
      still_open : (l : LinkState) → is_up (opening now (link_ticking now l).link).link.phase ≡ true → is_open (link_ticking now l).link.phase ≡ true
      still_open l up = open_before (link_ticking now l).link up

  -- nothing is said where a client is ready
  none_rises : (part : ClientSoFar) → is_ready part.client.stage ≡ true → rising now part ≡ part
  unfolding rising
  none_rises part ready = rw (ready_inside part.client.stage ready) refl

  -- what is counted at a link that is open
  received : (bytes : List ℕ) (client : ClientState) → GivesFew true client → is_up (receiving now bytes client.link).link.phase ≡ true
      → ((receiving now bytes client.link).link.given ≡ client.link.given) × (length (receiving now bytes client.link).link.waiting ≤ length client.link.waiting)
  received bytes client few up = by_up (is_up client.link.phase) refl
    where
      by_up : (b : Bool) → is_up client.link.phase ≡ b → ((receiving now bytes client.link).link.given ≡ client.link.given) × (length (receiving now bytes client.link).link.waiting ≤ length client.link.waiting)
      by_up true e = let w = few.inside e in receipt_window now bytes w.taken w.given client.link (up_open _ up) up (λ opened. w.counts)
      by_up false e = receipt_window now bytes 0 0 client.link (up_open _ up) up (λ opened. few.starting opened e)

  heard_none : (bytes : List ℕ) (client : ClientState) (outbox : OutboxState) → GivesFew true client → is_ready client.stage ≡ true → is_up (hearing now bytes (begun client outbox)).client.link.phase ≡ true
      → NoMore client.link (hearing now bytes (begun client outbox)).client.link
  unfolding hearing calling
  heard_none bytes client outbox few ready up = by_fate acted
    where
      items : List (List ℕ)
      items = (receiving now bytes client.link).items

      part : ClientSoFar
      part = calling now (Receives bytes) (begun client outbox)

      done : ClientSoFar
      done = acting_all now items (rising now part)

      acted : Stays part done
      acted = subst (λ (p : ClientSoFar). Stays part (acting_all now items p)) (sym (none_rises part ready)) (all_act items part ready)

      by_fate : Stays part done → NoMore client.link (fallen done.client).link
      by_fate (inl shut) = absurd (false≢true (sym shut ∙ up_open _ (ap (λ (l : LinkState). is_up l.phase) (sym (fallen_link done.client)) ∙ up)))
      by_fate (inr (still, same)) =
          let link_is : (fallen done.client).link ≡ (receiving now bytes client.link).link = fallen_link done.client ∙ same
          in let came = received bytes client few (ap (λ (l : LinkState). is_up l.phase) (sym link_is) ∙ up)
          in subst (NoMore client.link) (sym link_is) (record { given = came.0; waiting = came.1 })

  -- ---- a tick

  pub ticked_none : (client : ClientState) (outbox : OutboxState) → is_up (ticking now (begun client outbox)).client.link.phase ≡ true → NoMore client.link (ticking now (begun client outbox)).client.link
  unfolding ticking calling
  ticked_none client outbox up = subst (NoMore client.link) (sym link_is) (tick_then_open client.link (ap (λ (l : LinkState). is_up l.phase) (sym link_is) ∙ up))
    where
      link_is : (ticking now (begun client outbox)).client.link ≡ (opening now (link_ticking now client.link).link).link
      link_is = fallen_link (record client { link = (opening now (link_ticking now client.link).link).link })

  -- ---- the clock

  clocked_none : (client : ClientState) → is_up (clocked now client).link.phase ≡ true → NoMore client.link (clocked now client).link
  unfolding clocked
  clocked_none client up = subst (NoMore client.link) (sym link_is) (settles (ap (λ (l : LinkState). is_up l.phase) (sym link_is) ∙ up))
    where
      link_is : (fallen (record client { link = settled now client.link })).link ≡ settled now client.link
      link_is = fallen_link (record client { link = settled now client.link })

      settles : is_up (settled now client.link).phase ≡ true → NoMore client.link (settled now client.link)
      settles is = subst (NoMore client.link) (sym (settled_open now client.link (up_open _ is)).0) (record { given = refl; waiting = omega arith })

  -- ---- a command

  -- it was up, and one item more waits
  pub record OneMore (old new : LinkState) : Type 0 where
    pub up : is_up old.phase ≡ true
    pub waiting : length new.waiting ≤ length old.waiting + 1

  sends_one : (item : List ℕ) (l : LinkState) → is_up (sending_item now item l).link.phase ≡ true → OneMore l (sending_item now item l).link
  unfolding sending_item giving sending
  sends_one item l up = record {
    up = ap is_up (sym (send_phase now item l opened)) ∙ up;
    waiting = subst (λ (s : Step). length (done s.link).waiting ≤ length l.waiting + 1) (sym (send_was_open now item l opened).0) (by_answer (is_ok (acceptance at)));
  }
    where
      at : LinkState
      at = record l { clock = now }

      done : LinkState → LinkState
      done x = (if is_ok (acceptance x) then giving item x else silent x).link

      opened : is_open (sending_item now item l).link.phase ≡ true
      opened = up_open _ up

      by_answer : (b : Bool) → length (if b then giving item at else silent at).link.waiting ≤ length l.waiting + 1
      by_answer true = let more = count_push l.waiting (record { tag = l.sent; item = item }) in omega (arith, more)
      by_answer false = omega arith

  commanded_one : (aspect : Aspect) (client : ClientState) (outbox : OutboxState) → (is_up client.link.phase ≡ true → length client.link.waiting < window_size)
      → is_up (commanding now (Command.Indicate aspect) (begun client outbox)).client.link.phase ≡ true → OneMore client.link (commanding now (Command.Indicate aspect) (begun client outbox)).client.link
  unfolding commanding posting calling
  commanded_one aspect client outbox room up = subst (OneMore client.link) (sym link_is) (sends_one item client.link (ap (λ (l : LinkState). is_up l.phase) (sym link_is) ∙ up))
    where
      item : List ℕ
      item = writing (telegram_to client.peer (message_of (Command.Indicate aspect)))

      part : ClientSoFar
      part = posting now (message_of (Command.Indicate aspect)) (begun client outbox)

      sent_is : part.client.link ≡ (sending_item now item client.link).link
      sent_is = ap (λ (b : Bool). (if b then calling now (Closes Reason.Window) (calling now (Sends item) (begun client outbox)) else calling now (Sends item) (begun client outbox)).client.link) (not_full now client.link room)

      link_is : (commanding now (Command.Indicate aspect) (begun client outbox)).client.link ≡ (sending_item now item client.link).link
      link_is = fallen_link (at_stage client.stage part).client ∙ sent_is

-- ---- what a part of a step is

-- What a client goes through in a part of a step that is no command.
pub record Went (old new : ClientState) : Type 0 where
  pub few : (commanded : Bool) → GivesFew commanded old → GivesFew commanded new
  pub up : is_outside new.stage ≡ false → is_up new.link.phase ≡ true
  pub none : GivesFew true old → is_ready old.stage ≡ true → is_up new.link.phase ≡ true → NoMore old.link new.link

pub clock_went : (now : ℕ) (client : ClientState) → Went client (clocked now client)
clock_went now client = record { few = λ b few. clocked_few b now client few; up = clocked_up now client; none = λ few ready up. clocked_none now client up }

pub done_went : (now : ℕ) (old : ClientState) (done : ClientSoFar) → DoneBy now old done → Went old done.client
done_went now old done (hears bytes outbox is) = subst (λ (d : ClientSoFar). Went old d.client) (sym is) (record {
  few = λ b few. (hearing_few b now bytes old outbox [] (record { few = few; leaves = tt })).few;
  up = heard_up now bytes old outbox;
  none = heard_none now bytes old outbox;
})
done_went now old done (ticks outbox is) = subst (λ (d : ClientSoFar). Went old d.client) (sym is) (record {
  few = λ b few. (ticking_few b now old outbox [] (record { few = few; leaves = tt })).few;
  up = ticked_up now old outbox;
  none = λ few ready up. ticked_none now old outbox up;
})

-- and none of its calls closes the link for a full window
pub done_leaves : (now : ℕ) (old : ClientState) (done : ClientSoFar) → DoneBy now old done → GivesFew true old → Each LeavesWindow done.calls
done_leaves now old done (hears bytes outbox is) few = subst (λ (d : ClientSoFar). Each LeavesWindow d.calls) (sym is) (hearing_few true now bytes old outbox [] (record { few = few; leaves = tt })).leaves
done_leaves now old done (ticks outbox is) few = subst (λ (d : ClientSoFar). Each LeavesWindow d.calls) (sym is) (ticking_few true now old outbox [] (record { few = few; leaves = tt })).leaves

-- What a client goes through that is given an aspect, where its window has room.
pub record IsGivenOne (old new : ClientState) : Type 0 where
  pub few : GivesFew true new
  pub up : is_outside new.stage ≡ false → is_up new.link.phase ≡ true
  pub one : is_up new.link.phase ≡ true → (is_up old.link.phase ≡ true) × (length new.link.waiting ≤ length old.link.waiting + 1)

pub commanded_is : (now : ℕ) (aspect : Aspect) (old : ClientState) (done : ClientSoFar) → IsCommanded now aspect old done → (is_up old.link.phase ≡ true → length old.link.waiting < window_size) → GivesFew true old
    → IsGivenOne old done.client × Each LeavesWindow done.calls
commanded_is now aspect old done so room few = subst (λ (d : ClientSoFar). IsGivenOne old d.client × Each LeavesWindow d.calls) (sym so.is) (
  record {
    few = gave.few;
    up = commanded_up now aspect old so.outbox;
    one = λ up. let m = commanded_one now aspect old so.outbox room up in (m.up, m.waiting);
  },
  gave.leaves,
)
  where
    gave : FewSoFar true (commanding now (Command.Indicate aspect) (begun old so.outbox)).client (commanding now (Command.Indicate aspect) (begun old so.outbox)).calls
    gave = commanding_few now (Command.Indicate aspect) old so.outbox [] so.ready room (record { few = few; leaves = tt })
