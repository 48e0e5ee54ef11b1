-- A client that is given no command gives two items in a connection: the check of its version, and the request for the
-- initialisation. So its window has room for them.
use Rattle.simulator_recovery.proofs.Words.Basics.{◌≡◌, ℕ, ◌∙◌, ◌+◌, ◌≤◌, ◌<◌, ◌⊎◌, inl, inr, Bool, true, false, ◌&&◌, nat_lt, List, [], ◌∷◌, ◌++◌, length, if◌then◌else◌, refl, sym, ap, subst, arith, is_ok, false≢true, nat_tests}
use Rattle.simulator_recovery.proofs.Words.Links.{acceptance, answer_to_send, created, opening, receiving, sending_item, ticking as link_ticking, settled, Each, OutboxState, window_size, Step, entered, LinkState, is_open, is_up, Identity, Phase, Reason}
use Rattle.simulator_recovery.proofs.Words.Controllers.{writing, VersionCheck, Message}
use Rattle.simulator_recovery.proofs.Words.Interlockings.{ClientState, PeerState, is_outside, is_ready, new_client, ClientSoFar, Closes, LinkCall, Opens, Receives, Sends, Ticks, begun, calling, acted_on, acting, acting_all, at_stage, clocked, commanding, fallen, hearing, is_refused_by_window, message_of, posting, rising, saying, stage_after_command, telegram_to, ticking, Stage}
use Rattle.simulator_recovery.proofs.Words.Recovery.{HasCounted}
use Rattle.simulator_spec.specs.ixl_client.declared.command.Command.{Command}
use Rattle.simulator_recovery.proofs.Lemmas.Ground.ClientItem.{answers, changes, completes, Goes, one_item, starts, tells}
use Rattle.simulator_recovery.proofs.Lemmas.Talk.ClientLinks.{answer_down, up_open}
use Rattle.simulator_recovery.proofs.Lemmas.Ground.LinkCounts.{AfterReceipt, close_closes, comes_in, entered_open, open_counts, receipt_counts, send_counts, send_phase, send_was_open, settled_open, stays_in, tick_counts, tick_was_open}
use Rattle.simulator_recovery.proofs.Lemmas.Ground.EndCalls.{each_both}

-- a call that doesn't close the link for a full window
abbrev pub LeavesWindow : LinkCall → Type 0
LeavesWindow (Closes Reason.Window) = ⊥
LeavesWindow _ = Unit {0}

-- how many items a client has given by its stage: of one that is given commands nothing is said once it is ready
abbrev pub GivenBy : (commanded : Bool) → Stage → ℕ → Type 0
GivenBy commanded Stage.Outside given = given ≡ 0
GivenBy commanded Stage.AwaitsAnswer given = given ≤ 1
GivenBy commanded Stage.AwaitsStart given = given ≤ 2
GivenBy commanded (Stage.AwaitsStatus left) given = given ≤ 2
GivenBy false Stage.Completed given = given ≤ 2
GivenBy true Stage.Completed given = Unit {0}
GivenBy false Stage.AwaitsReport given = given ≤ 2
GivenBy true Stage.AwaitsReport given = Unit {0}

-- a link that has given so many items
pub record Within (Few : ℕ → Type 0) (link : LinkState) : Type 0 where
  pub taken : ℕ
  pub given : ℕ
  pub counts : HasCounted taken given link
  pub few : Few given

-- A client has given as many by its stage, and none before it is up.
pub record GivesFew (commanded : Bool) (client : ClientState) : Type 0 where
  pub inside : is_up client.link.phase ≡ true → Within (GivenBy commanded client.stage) client.link
  pub starting : is_open client.link.phase ≡ true → is_up client.link.phase ≡ false → HasCounted 0 0 client.link

pub few_wait : (client : ClientState) → GivesFew false client → is_open client.link.phase ≡ true → length client.link.waiting ≤ 2
few_wait client few opened = by_up (is_up client.link.phase) refl
  where
    at_most : (s : Stage) (n : ℕ) → GivenBy false s n → n ≤ 2
    at_most Stage.Outside n few = omega (arith, few)
    at_most Stage.AwaitsAnswer n few = omega (arith, few)
    at_most Stage.AwaitsStart n few = few
    at_most (Stage.AwaitsStatus left) n few = few
    at_most Stage.Completed n few = few
    at_most Stage.AwaitsReport n few = few

    by_up : (b : Bool) → is_up client.link.phase ≡ b → length client.link.waiting ≤ 2
    by_up true e = let w = few.inside e in let n = w.counts.waiting in let m = at_most client.stage w.given w.few in omega (arith, n, m)
    by_up false e = let n = (few.starting opened e).waiting in omega (arith, n)

-- and none of the calls of its step closes its link for a full window
record Fine (commanded : Bool) (part : ClientSoFar) : Type 0 where
  few : GivesFew commanded part.client
  calls : Each LeavesWindow part.calls

-- ---- the end of a part, and the clock

pub fallen_few : (commanded : Bool) (client : ClientState) → GivesFew commanded client → GivesFew commanded (fallen client)
unfolding fallen
fallen_few commanded client few = choose (is_up client.link.phase) refl
  where
    choose : (b : Bool) → is_up client.link.phase ≡ b → GivesFew commanded (if b then client else record client { stage = Stage.Outside })
    choose true e = few
    choose false e = record { inside = λ up. absurd (false≢true (sym e ∙ up)); starting = few.starting }

pub clocked_few : (commanded : Bool) (now : ℕ) (client : ClientState) → GivesFew commanded client → GivesFew commanded (clocked now client)
unfolding clocked
clocked_few commanded now client few = fallen_few commanded (record client { link = settled now client.link }) (record {
  inside = λ up.
      let so = settled_open now client.link (up_open (settled now client.link).phase up)
      in let w = few.inside (ap (λ (l : LinkState). is_up l.phase) (sym so.0) ∙ up)
      in subst (Within (GivenBy commanded client.stage)) (sym so.0) (record { taken = w.taken; given = w.given; counts = record { taken_is = w.counts.taken_is; given_is = w.counts.given_is; waiting = w.counts.waiting }; few = w.few });
  starting = λ opened down.
      let so = settled_open now client.link opened
      in let none = few.starting so.1 (ap (λ (l : LinkState). is_up l.phase) (sym so.0) ∙ down)
      in subst (HasCounted 0 0) (sym so.0) (record { taken_is = none.taken_is; given_is = none.given_is; waiting = none.waiting });
})

-- ---- what a client says

shut_few : (commanded : Bool) (client : ClientState) → is_open client.link.phase ≡ false → GivesFew commanded client
shut_few commanded client shut = record { inside = λ up. absurd (false≢true (sym shut ∙ up_open client.link.phase up)); starting = λ opened down. absurd (false≢true (sym shut ∙ opened)) }

module _ (now : ℕ) where
  free_window : (k : LinkState) → is_up k.phase ≡ true → length k.waiting < window_size → is_refused_by_window (acceptance k) ≡ false
  unfolding acceptance
  free_window k up some = rw (up, has) refl
    where
      has : nat_lt (length k.waiting) window_size ≡ true
      has = grind (arith, nat_tests, some)

  down_window : (k : LinkState) → is_up k.phase ≡ false → is_refused_by_window (acceptance k) ≡ false
  unfolding acceptance
  down_window k down = rw down refl

  -- the window has room where few items wait
  pub not_full : (l : LinkState) → (is_up l.phase ≡ true → length l.waiting < window_size) → is_refused_by_window (answer_to_send now l) ≡ false
  unfolding answer_to_send
  not_full l few = by_up (is_up (entered now l).link.phase) refl
    where
      by_up : (b : Bool) → is_up (entered now l).link.phase ≡ b → is_refused_by_window (acceptance (entered now l).link) ≡ false
      by_up false e = down_window (entered now l).link e
      by_up true e =
          let so = entered_open now l (up_open (entered now l).link.phase e)
          in let up = ap (λ (s : Step). is_up s.link.phase) (sym so.0) ∙ e
          in subst (λ (s : Step). is_refused_by_window (acceptance s.link) ≡ false) (sym so.0) (free_window (record l { clock = now }) up (few up))

  -- what was given after an item that is sent
  sent_few : (item : List ℕ) (Few More : ℕ → Type 0) (l : LinkState) → ((b : Bool) (n : ℕ) → Few n → More (if b then n + 1 else n)) → (is_up l.phase ≡ true → Within Few l) → is_up (sending_item now item l).link.phase ≡ true → Within More (sending_item now item l).link
  sent_few item Few More l more few up =
      let opened = up_open (sending_item now item l).link.phase up
      in let phase_is = send_phase now item l opened
      in let w = few (ap is_up (sym phase_is) ∙ up)
      in let after = send_counts now item l w.taken w.given opened w.counts
      in record { taken = w.taken; given = if is_ok (answer_to_send now l) then w.given + 1 else w.given; counts = after.counts; few = more (is_ok (answer_to_send now l)) w.given w.few }

  sent_none : (item : List ℕ) (l : LinkState) → (is_open l.phase ≡ true → is_up l.phase ≡ false → HasCounted 0 0 l) → is_open (sending_item now item l).link.phase ≡ true → is_up (sending_item now item l).link.phase ≡ false
      → HasCounted 0 0 (sending_item now item l).link
  unfolding answer_to_send
  sent_none item l none opened down =
      let before = send_was_open now item l opened
      in let was_down : is_up l.phase ≡ false = ap is_up (sym (send_phase now item l opened)) ∙ down
      in let after = send_counts now item l 0 0 opened (none before.1 was_down)
      in let refused : is_ok (answer_to_send now l) ≡ false = ap (λ (s : Step). is_ok (acceptance s.link)) before.0 ∙ answer_down now (record l { clock = now }) was_down
      in subst (λ (b : Bool). HasCounted 0 (if b then 0 + 1 else 0) (sending_item now item l).link) refused after.counts

  -- a telegram that comes with a stage, where the window has room
  posts : (commanded : Bool) (told : Message) (how_far : Stage) (part : ClientSoFar) → (is_up part.client.link.phase ≡ true → length part.client.link.waiting < window_size)
      → ((b : Bool) (n : ℕ) → GivenBy commanded part.client.stage n → GivenBy commanded how_far (if b then n + 1 else n)) → Fine commanded part → Fine commanded (at_stage how_far (posting now told part))
  unfolding posting calling
  posts commanded told how_far part room more fine = subst (λ (b : Bool). Fine commanded (at_stage how_far (if b then calling now (Closes Reason.Window) sent else sent))) (sym (not_full part.client.link room)) (record {
    few = record {
      inside = λ up. sent_few item (GivenBy commanded part.client.stage) (GivenBy commanded how_far) part.client.link more fine.few.inside up;
      starting = λ opened down. sent_none item part.client.link fine.few.starting opened down;
    };
    calls = each_both LeavesWindow part.calls (Sends item ∷ []) fine.calls (tt, tt);
  })
    where
      item : List ℕ
      item = writing (telegram_to part.client.peer told)

      sent : ClientSoFar
      sent = calling now (Sends item) part

  shuts : (commanded : Bool) (why : Reason) (part : ClientSoFar) → LeavesWindow (Closes why) → Fine commanded part → Fine commanded (calling now (Closes why) part)
  unfolding calling
  shuts commanded why part leaves fine = record { few = shut_few commanded (calling now (Closes why) part).client (close_closes now why part.client.link); calls = each_both LeavesWindow part.calls (Closes why ∷ []) fine.calls (leaves, tt) }

  -- the check of the version, and the request for the initialisation
  checks : (commanded : Bool) (told : Message) (part : ClientSoFar) → part.client.stage ≡ Stage.Outside → Fine commanded part → Fine commanded (at_stage Stage.AwaitsAnswer (posting now told part))
  checks commanded told part at fine = posts commanded told Stage.AwaitsAnswer part room (λ b n few. more b n (subst (λ (s : Stage). GivenBy commanded s n) at few)) fine
    where
      room : is_up part.client.link.phase ≡ true → length part.client.link.waiting < window_size
      room up = let w = fine.few.inside up in let n = w.counts.waiting in let f = subst (λ (s : Stage). GivenBy commanded s w.given) at w.few in omega (arith, n, f)

      more : (b : Bool) (n : ℕ) → n ≡ 0 → (if b then n + 1 else n) ≤ 1
      more true n none = omega (arith, none)
      more false n none = omega (arith, none)

  requests : (commanded : Bool) (told : Message) (part : ClientSoFar) → part.client.stage ≡ Stage.AwaitsAnswer → Fine commanded part → Fine commanded (at_stage Stage.AwaitsStart (posting now told part))
  requests commanded told part at fine = posts commanded told Stage.AwaitsStart part room (λ b n few. more b n (subst (λ (s : Stage). GivenBy commanded s n) at few)) fine
    where
      room : is_up part.client.link.phase ≡ true → length part.client.link.waiting < window_size
      room up = let w = fine.few.inside up in let n = w.counts.waiting in let f = subst (λ (s : Stage). GivenBy commanded s w.given) at w.few in omega (arith, n, f)

      more : (b : Bool) (n : ℕ) → n ≤ 1 → (if b then n + 1 else n) ≤ 2
      more true n some = omega (arith, some)
      more false n some = omega (arith, some)

-- ---- an item

module _ (commanded : Bool) (now : ℕ) (item : List ℕ) (part : ClientSoFar) (fine : Fine commanded part) where
  -- what a stage tells of what was given is so at the next
  goes_few : (old new : Stage) (n : ℕ) → Goes part.client.peer old new → GivenBy commanded old n → GivenBy commanded new n
  goes_few old new n (starts e f) few = subst (λ (s : Stage). GivenBy commanded s n) (sym f) (subst (λ (s : Stage). GivenBy commanded s n) e few)
  goes_few old new n (tells left some e f) few = subst (λ (s : Stage). GivenBy commanded s n) (sym f) (subst (λ (s : Stage). GivenBy commanded s n) e few)
  goes_few old new n (completes e f) few = subst (λ (s : Stage). GivenBy commanded s n) (sym f) (by_kind commanded (subst (λ (s : Stage). GivenBy commanded s n) e few))
    where
      by_kind : (b : Bool) → GivenBy b (Stage.AwaitsStatus 0) n → GivenBy b Stage.Completed n
      by_kind true some = tt
      by_kind false some = some
  goes_few old new n (changes turn e f) few = subst (λ (s : Stage). GivenBy commanded s n) (sym f) (subst (λ (s : Stage). GivenBy commanded s n) e few)
  goes_few old new n (answers e f) few = subst (λ (s : Stage). GivenBy commanded s n) (sym f) (by_kind commanded (subst (λ (s : Stage). GivenBy commanded s n) e few))
    where
      by_kind : (b : Bool) → GivenBy b Stage.AwaitsReport n → GivenBy b Stage.Completed n
      by_kind true some = tt
      by_kind false some = some

  abbrev On : ClientSoFar → Type 0
  On after = Fine commanded after

  violates : On (calling now (Closes Reason.State) part)
  violates = shuts now commanded Reason.State part tt fine

  differs : On (calling now (Closes Reason.Version) part)
  differs = shuts now commanded Reason.Version part tt fine

  -- it leads on, and nothing is given
  leads : (after : ClientSoFar) → after.client.link ≡ part.client.link → after.calls ≡ part.calls → Goes part.client.peer part.client.stage after.client.stage → On after
  leads after same called on = record {
    few = record {
      inside = λ up.
          let w = fine.few.inside (ap (λ (l : LinkState). is_up l.phase) (sym same) ∙ up)
          in subst (Within (GivenBy commanded after.client.stage)) (sym same) (record { taken = w.taken; given = w.given; counts = w.counts; few = goes_few part.client.stage after.client.stage w.given on w.few });
      starting = λ opened down. subst (HasCounted 0 0) (sym same) (fine.few.starting (ap (λ (l : LinkState). is_open l.phase) (sym same) ∙ opened) (ap (λ (l : LinkState). is_up l.phase) (sym same) ∙ down));
    };
    calls = subst (Each LeavesWindow) (sym called) fine.calls;
  }

  one_acts : Fine commanded (acting now item part)
  one_acts = one_item now item part On violates differs (λ is. requests now commanded _ (acted_on item part) is (record { few = fine.few; calls = fine.calls }))
      (λ after same called peer acted on. leads after same called on)

all_act : (commanded : Bool) (now : ℕ) (items : List (List ℕ)) (part : ClientSoFar) → Fine commanded part → Fine commanded (acting_all now items part)
unfolding acting_all
all_act commanded now [] part fine = fine
all_act commanded now (item ∷ others) part fine = choose (is_open part.client.link.phase) (all_act commanded now others (acting now item part) (one_acts commanded now item part fine))
  where
    choose : (b : Bool) → Fine commanded (acting_all now others (acting now item part)) → Fine commanded (if b then acting_all now others (acting now item part) else part)
    choose true so = so
    choose false so = fine

-- ---- the parts of a step

rises : (commanded : Bool) (now : ℕ) (part : ClientSoFar) → Fine commanded part → Fine commanded (rising now part)
unfolding rising
rises commanded now part fine = choose part.client.stage refl (is_up part.client.link.phase)
  where
    said : ClientSoFar
    said = at_stage Stage.AwaitsAnswer (saying now (VersionCheck part.client.peer.version) part)

    choose : (s : Stage) → part.client.stage ≡ s → (b : Bool) → Fine commanded (if is_outside s && b then said else part)
    choose Stage.Outside e true = checks now commanded _ part e fine
    choose Stage.Outside e false = fine
    choose Stage.AwaitsAnswer e b = fine
    choose Stage.AwaitsStart e b = fine
    choose (Stage.AwaitsStatus left) e b = fine
    choose Stage.Completed e b = fine
    choose Stage.AwaitsReport e b = fine

-- none was given at any stage
none_given : (commanded : Bool) (s : Stage) → GivenBy commanded s 0
none_given commanded Stage.Outside = refl
none_given commanded Stage.AwaitsAnswer = omega arith
none_given commanded Stage.AwaitsStart = omega arith
none_given commanded (Stage.AwaitsStatus left) = omega arith
none_given true Stage.Completed = tt
none_given false Stage.Completed = omega arith
none_given true Stage.AwaitsReport = tt
none_given false Stage.AwaitsReport = omega arith

-- what a client has counted, if its link is open
record Before (commanded : Bool) (client : ClientState) : Type 0 where
  taken : ℕ
  given : ℕ
  counts : is_open client.link.phase ≡ true → HasCounted taken given client.link
  few : GivenBy commanded client.stage given
  none : is_up client.link.phase ≡ false → (taken ≡ 0) × (given ≡ 0)

before_of : (commanded : Bool) (client : ClientState) → GivesFew commanded client → Before commanded client
before_of commanded client few = by_up (is_up client.link.phase) refl
  where
    by_up : (b : Bool) → is_up client.link.phase ≡ b → Before commanded client
    by_up true e = let w = few.inside e in record { taken = w.taken; given = w.given; counts = λ opened. w.counts; few = w.few; none = λ down. absurd (false≢true (sym down ∙ e)) }
    by_up false e = record { taken = 0; given = 0; counts = λ opened. few.starting opened e; few = none_given commanded client.stage; none = λ down. (refl, refl) }

-- bytes that come
receives : (commanded : Bool) (now : ℕ) (bytes : List ℕ) (part : ClientSoFar) → Fine commanded part → Fine commanded (calling now (Receives bytes) part)
unfolding calling
receives commanded now bytes part fine = record {
  few = record { inside = λ up. of_inside (receipt (up_open came.phase up)); starting = λ opened down. of_starting down (receipt opened) };
  calls = each_both LeavesWindow part.calls (Receives bytes ∷ []) fine.calls (tt, tt);
}
  where
    client : ClientState
    client = part.client

    items : List (List ℕ)
    items = (receiving now bytes client.link).items

    came : LinkState
    came = (receiving now bytes client.link).link

    had : Before commanded client
    had = before_of commanded client fine.few

    receipt : is_open came.phase ≡ true → AfterReceipt now bytes had.taken had.given client.link
    receipt e = receipt_counts now bytes had.taken had.given client.link e had.counts

    of_inside : AfterReceipt now bytes had.taken had.given client.link → Within (GivenBy commanded client.stage) came
    of_inside (stays_in is_in counts up stays_up) = record { taken = had.taken + length items; given = had.given; counts = counts; few = had.few }
    of_inside (comes_in was none counts) = record { taken = 0; given = 0; counts = counts; few = none_given commanded client.stage }

    of_starting : is_up came.phase ≡ false → AfterReceipt now bytes had.taken had.given client.link → HasCounted 0 0 came
    of_starting down (comes_in was none counts) = counts
    of_starting down (stays_in is_in counts up stays_up) = choose up (by_up (is_up client.link.phase) refl)
      where
        by_up : (b : Bool) → is_up client.link.phase ≡ b → (had.taken ≡ 0) × (had.given ≡ 0)
        by_up true e = absurd (false≢true (sym down ∙ stays_up e))
        by_up false e = had.none e

        none_of : (t g : ℕ) → t ≡ 0 → g ≡ 0 → HasCounted t g came → HasCounted 0 0 came
        none_of t g e f has = subst (λ (n : ℕ). HasCounted n 0 came) e (subst (λ (n : ℕ). HasCounted t n came) f has)

        choose : (items ≡ []) ⊎ (is_up came.phase ≡ true) → (had.taken ≡ 0) × (had.given ≡ 0) → HasCounted 0 0 came
        choose (inr u) zeros = absurd (false≢true (sym down ∙ u))
        choose (inl none) zeros = let t = zeros.0 in none_of (had.taken + length items) had.given (omega (arith, t, ap length none)) zeros.1 counts

hears : (commanded : Bool) (now : ℕ) (bytes : List ℕ) (part : ClientSoFar) → Fine commanded part → Fine commanded (hearing now bytes part)
unfolding hearing
hears commanded now bytes part fine = record { few = fallen_few commanded done.client acted.few; calls = acted.calls }
  where
    items : List (List ℕ)
    items = (receiving now bytes part.client.link).items

    done : ClientSoFar
    done = acting_all now items (rising now (calling now (Receives bytes) part))

    acted : Fine commanded done
    acted = all_act commanded now items (rising now (calling now (Receives bytes) part)) (rises commanded now (calling now (Receives bytes) part) (receives commanded now bytes part fine))

-- a tick
ticks : (commanded : Bool) (now : ℕ) (part : ClientSoFar) → Fine commanded part → Fine commanded (ticking now part)
unfolding ticking calling
ticks commanded now part fine = record {
  few = fallen_few commanded (calling now Opens (calling now Ticks part)).client (record {
    inside = λ up. of_inside up (opened_by (up_open then_is.phase up));
    starting = λ opened down. of_starting down (opened_by opened);
  });
  calls = each_both LeavesWindow (part.calls ++ Ticks ∷ []) (Opens ∷ []) (each_both LeavesWindow part.calls (Ticks ∷ []) fine.calls (tt, tt)) (tt, tt);
}
  where
    client : ClientState
    client = part.client

    had : Before commanded client
    had = before_of commanded client fine.few

    ticked : LinkState
    ticked = (link_ticking now client.link).link

    then_is : LinkState
    then_is = (opening now ticked).link

    ticked_counts : is_open ticked.phase ≡ true → (ticked.phase ≡ client.link.phase) × (is_open client.link.phase ≡ true) × HasCounted had.taken had.given ticked
    ticked_counts e = tick_counts now client.link had.taken had.given e (had.counts (tick_was_open now client.link e).1)

    opened_by : is_open then_is.phase ≡ true → ((is_open ticked.phase ≡ true) × (then_is.phase ≡ ticked.phase) × HasCounted had.taken had.given then_is) ⊎ ((then_is.phase ≡ Phase.Start) × HasCounted 0 0 then_is)
    opened_by e = open_counts now ticked had.taken had.given e (λ g. (ticked_counts g).2)

    of_inside : is_up then_is.phase ≡ true → ((is_open ticked.phase ≡ true) × (then_is.phase ≡ ticked.phase) × HasCounted had.taken had.given then_is) ⊎ ((then_is.phase ≡ Phase.Start) × HasCounted 0 0 then_is) → Within (GivenBy commanded client.stage) then_is
    of_inside up (inl (is_in, same, counts)) = record { taken = had.taken; given = had.given; counts = counts; few = had.few }
    of_inside up (inr (start, counts)) = record { taken = 0; given = 0; counts = counts; few = none_given commanded client.stage }

    of_starting : is_up then_is.phase ≡ false → ((is_open ticked.phase ≡ true) × (then_is.phase ≡ ticked.phase) × HasCounted had.taken had.given then_is) ⊎ ((then_is.phase ≡ Phase.Start) × HasCounted 0 0 then_is) → HasCounted 0 0 then_is
    of_starting down (inr (start, counts)) = counts
    of_starting down (inl (is_in, same, counts)) =
        let zeros = had.none (ap is_up (sym (same ∙ (ticked_counts is_in).0)) ∙ down)
        in subst (λ (n : ℕ). HasCounted n 0 then_is) zeros.0 (subst (λ (n : ℕ). HasCounted had.taken n then_is) zeros.1 counts)

-- ---- a client between the parts of a step, with the calls of its link so far

pub record FewSoFar (commanded : Bool) (client : ClientState) (calls : List LinkCall) : Type 0 where
  pub few : GivesFew commanded client
  pub leaves : Each LeavesWindow calls

behind : (commanded : Bool) (calls : List LinkCall) (part : ClientSoFar) → Each LeavesWindow calls → Fine commanded part → FewSoFar commanded part.client (calls ++ part.calls)
behind commanded calls part leaves fine = record { few = fine.few; leaves = each_both LeavesWindow calls part.calls leaves fine.calls }

pub hearing_few : (commanded : Bool) (now : ℕ) (bytes : List ℕ) (client : ClientState) (outbox : OutboxState) (calls : List LinkCall) → FewSoFar commanded client calls
    → FewSoFar commanded (hearing now bytes (begun client outbox)).client (calls ++ (hearing now bytes (begun client outbox)).calls)
hearing_few commanded now bytes client outbox calls so = behind commanded calls (hearing now bytes (begun client outbox)) so.leaves (hears commanded now bytes (begun client outbox) (record { few = so.few; calls = tt }))

pub ticking_few : (commanded : Bool) (now : ℕ) (client : ClientState) (outbox : OutboxState) (calls : List LinkCall) → FewSoFar commanded client calls
    → FewSoFar commanded (ticking now (begun client outbox)).client (calls ++ (ticking now (begun client outbox)).calls)
ticking_few commanded now client outbox calls so = behind commanded calls (ticking now (begun client outbox)) so.leaves (ticks commanded now (begun client outbox) (record { few = so.few; calls = tt }))

-- a command to a client that is ready, and whose window has room
pub commanding_few : (now : ℕ) (command : Command) (client : ClientState) (outbox : OutboxState) (calls : List LinkCall) → is_ready client.stage ≡ true → (is_up client.link.phase ≡ true → length client.link.waiting < window_size) → FewSoFar true client calls
    → FewSoFar true (commanding now command (begun client outbox)).client (calls ++ (commanding now command (begun client outbox)).calls)
unfolding commanding
commanding_few now command client outbox calls ready room so = record { few = fallen_few true then_at.client said.few; leaves = each_both LeavesWindow calls then_at.calls so.leaves said.calls }
  where
    then_at : ClientSoFar
    then_at = at_stage (stage_after_command command client.stage) (posting now (message_of command) (begun client outbox))

    any : (c : Command) (s : Stage) (n : ℕ) → is_ready s ≡ true → GivenBy true (stage_after_command c s) n
    any (Command.Indicate aspect) Stage.Completed n e = tt
    any (Command.Indicate aspect) Stage.AwaitsReport n e = tt
    any (Command.Move side) Stage.Completed n e = tt
    any (Command.Move side) Stage.AwaitsReport n e = tt
    any c Stage.Outside n e = absurd (false≢true e)
    any c Stage.AwaitsAnswer n e = absurd (false≢true e)
    any c Stage.AwaitsStart n e = absurd (false≢true e)
    any c (Stage.AwaitsStatus left) n e = absurd (false≢true e)

    said : Fine true then_at
    said = posts now true (message_of command) (stage_after_command command client.stage) (begun client outbox) room (λ b n few. any command client.stage (if b then n + 1 else n) ready) (record { few = so.few; calls = tt })

-- a client that was just made
pub new_client_few : (commanded : Bool) (identity : Identity) (peer : PeerState) (first now : ℕ) → GivesFew commanded (new_client identity peer first now)
unfolding new_client created
new_client_few commanded identity peer first now = record { inside = λ up. absurd (false≢true up); starting = λ opened down. absurd (false≢true opened) }
