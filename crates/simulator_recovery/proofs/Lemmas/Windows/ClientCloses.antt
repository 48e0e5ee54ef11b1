-- A client that hears what it expects closes its link for its own full window at most.
use Rattle.simulator_recovery.proofs.Words.Basics.{◌≡◌, ◌⊎◌, inl, inr, ℕ, ◌+◌, ◌≤◌, ◌∙◌, ◌&&◌, Bool, true, false, List, [], ◌∷◌, ◌++◌, append_assoc, length, Some, slice_get, if◌then◌else◌, refl, sym, ap, subst, arith, IsTrue, false≢true, slice_get_within}
use Rattle.simulator_recovery.proofs.Words.Links.{answer_to_send, receiving, Each, OutboxState, is_open, is_up, Reason}
use Rattle.simulator_recovery.proofs.Words.Controllers.{reading, writing, InitialisationRequest, VersionCheck, Message}
use Rattle.simulator_recovery.proofs.Words.Interlockings.{ClientState, PeerState, is_outside, ClientSoFar, Closes, LinkCall, Receives, Sends, begun, calling, IsExpected, reports_changes, acted_on, acting, acting_all, at_stage, commanding, hearing, is_refused_by_window, message_of, posting, rising, saying, telegram_to, ticking, Stage}
use Rattle.simulator_recovery.proofs.Words.Recovery.{ClientActs, ClientHasActedOn}
use Rattle.simulator_spec.specs.ixl_client.declared.command.Command.{Command}
use Rattle.simulator_recovery.proofs.Lemmas.Ground.ClientCalls.{ticking_calls}
use Rattle.simulator_recovery.proofs.Lemmas.Talk.ClientConversation.{client_acts}
use Rattle.simulator_recovery.proofs.Lemmas.Talk.ClientCounts.{Counts, acts, posted_at}
use Rattle.simulator_recovery.proofs.Lemmas.Ground.ClientItem.{answers, changes, completes, Goes, starts, tells}
use Rattle.simulator_recovery.proofs.Lemmas.Talk.ClientLinks.{up_open}
use Rattle.simulator_recovery.proofs.Lemmas.Talk.ClientTalk.{Fate, asks, closes, fate, goes}
use Rattle.simulator_recovery.proofs.Lemmas.Talk.ExpectedItems.{EachExpected, HasBegun}
use Rattle.simulator_recovery.proofs.Lemmas.Ground.EndCalls.{count_push, each_both}

-- a call that closes the link for its own full window at most
abbrev pub ByWindow : LinkCall → Type 0
ByWindow (Closes why) = why ≡ Reason.Window
ByWindow _ = Unit {0}

abbrev pub ClosesNone : ClientSoFar → Type 0
ClosesNone part = Each ByWindow part.calls

-- ---- what is said

posting_closes_none : (now : ℕ) (told : Message) (part : ClientSoFar) → ClosesNone part → ClosesNone (posting now told part)
unfolding posting calling
posting_closes_none now told part none = choose (is_refused_by_window (answer_to_send now part.client.link))
  where
    item : List ℕ
    item = writing (telegram_to part.client.peer told)

    sent : ClientSoFar
    sent = calling now (Sends item) part

    none_sent : ClosesNone sent
    none_sent = each_both ByWindow part.calls (Sends item ∷ []) none (tt, tt)

    choose : (b : Bool) → ClosesNone (if b then calling now (Closes Reason.Window) sent else sent)
    choose true = each_both ByWindow sent.calls (Closes Reason.Window ∷ []) none_sent (refl, tt)
    choose false = none_sent

rising_closes_none : (now : ℕ) (part : ClientSoFar) → ClosesNone part → ClosesNone (rising now part)
unfolding rising
rising_closes_none now part none = choose (is_outside part.client.stage && is_up part.client.link.phase)
  where
    choose : (b : Bool) → ClosesNone (if b then at_stage Stage.AwaitsAnswer (saying now (VersionCheck part.client.peer.version) part) else part)
    choose true = posting_closes_none now _ part none
    choose false = none

-- a command
pub commanding_closes_none : (now : ℕ) (command : Command) (client : ClientState) (outbox : OutboxState) → ClosesNone (commanding now command (begun client outbox))
unfolding commanding
commanding_closes_none now command client outbox = posting_closes_none now (message_of command) (begun client outbox) tt

-- a tick
pub ticking_closes_none : (now : ℕ) (client : ClientState) (outbox : OutboxState) → ClosesNone (ticking now (begun client outbox))
ticking_closes_none now client outbox = subst (Each ByWindow) (sym (ticking_calls now client outbox)) (tt, (tt, tt))

-- ---- what is heard

-- what stands where the front of a list ends
at_end : {X : Type 0} (front rest : List X) (x : X) → slice_get (front ++ x ∷ rest) (length front) ≡ Some x
at_end [] rest x = refl
at_end (first ∷ front) rest x = at_end front rest x

module _ (peer : PeerState) (given : List (List ℕ)) where
  -- so few items were given that none comes which the client doesn't await
  abbrev pub IsFew : Stage → ℕ → Type 0
  IsFew Stage.Completed count = length given ≤ count
  IsFew Stage.AwaitsReport count = length given ≤ count + 1
  IsFew _ count = length given ≤ 3 + length peer.objects

  -- a client at this stage has acted on so many items
  pub record Stands (s : Stage) (count : ℕ) : Type 0 where
    pub acted : ClientHasActedOn peer s count
    pub begun : HasBegun s count
    pub hears : IsTrue (reports_changes peer.protocol) ⊎ IsFew s count

  -- one item more
  module _ (old new : Stage) (count : ℕ) (s : Stands old count) where
    goes_few : Goes peer old new → IsFew old count → IsTrue (reports_changes peer.protocol) ⊎ IsFew new (count + 1)
    goes_few (starts e f) few = inr (subst (λ (x : Stage). IsFew x (count + 1)) (sym f) (subst (λ (x : Stage). IsFew x count) e few))
    goes_few (tells left some e f) few = inr (subst (λ (x : Stage). IsFew x (count + 1)) (sym f) (subst (λ (x : Stage). IsFew x count) e few))
    goes_few (completes e f) few =
        let all = subst (λ (x : Stage). ClientHasActedOn peer x count) e s.acted
        in let some = subst (λ (x : Stage). IsFew x count) e few
        in inr (subst (λ (x : Stage). IsFew x (count + 1)) (sym f) (omega (arith, all, some)))
    goes_few (changes turn e f) few = inl turn
    goes_few (answers e f) few = inr (subst (λ (x : Stage). IsFew x (count + 1)) (sym f) (subst (λ (x : Stage). IsFew x count) e few))

    goes_begun : Goes peer old new → HasBegun new (count + 1)
    goes_begun (starts e f) = let one = subst (λ (x : Stage). ClientHasActedOn peer x count) e s.acted in subst (λ (x : Stage). HasBegun x (count + 1)) (sym f) (omega (arith, one))
    goes_begun (tells left some e f) = let some = subst (λ (x : Stage). HasBegun x count) e s.begun in subst (λ (x : Stage). HasBegun x (count + 1)) (sym f) (omega (arith, some))
    goes_begun (completes e f) = subst (λ (x : Stage). HasBegun x (count + 1)) (sym f) tt
    goes_begun (changes turn e f) = subst (λ (x : Stage). HasBegun x (count + 1)) (sym f) tt
    goes_begun (answers e f) = subst (λ (x : Stage). HasBegun x (count + 1)) (sym f) tt

    goes_inside : Goes peer old new → is_outside new ≡ false
    goes_inside (starts e f) = ap is_outside f
    goes_inside (tells left some e f) = ap is_outside f
    goes_inside (completes e f) = ap is_outside f
    goes_inside (changes turn e f) = ap is_outside f
    goes_inside (answers e f) = ap is_outside f

    stands_on : Goes peer old new → ClientHasActedOn peer new (count + 1) → Stands new (count + 1)
    stands_on on acted = record { acted = acted; begun = goes_begun on; hears = more s.hears }
      where
        more : IsTrue (reports_changes peer.protocol) ⊎ IsFew old count → IsTrue (reports_changes peer.protocol) ⊎ IsFew new (count + 1)
        more (inl hears) = inl hears
        more (inr few) = goes_few on few

  -- A client that is inside has acted on so many items, and has closed its link for its own full window at most.
  pub record Walks (count : ℕ) (part : ClientSoFar) : Type 0 where
    pub peer_is : part.client.peer ≡ peer
    pub stands : Stands part.client.stage count
    pub inside : is_outside part.client.stage ≡ false
    pub none : ClosesNone part

  module _ (expected : EachExpected peer given) (now : ℕ) where
    hears_at : (s : Stage) (count : ℕ) (item : List ℕ) → slice_get given count ≡ Some item → IsTrue (reports_changes peer.protocol) ⊎ IsFew s count → s ≡ Stage.Completed → IsTrue (reports_changes peer.protocol)
    hears_at s count item at (inl hears) is = hears
    hears_at s count item at (inr few) is =
        let within = slice_get_within given count item at
        in let all = subst (λ (x : Stage). IsFew x count) is few
        in absurd (omega (arith, within, all))

    module _ (item : List ℕ) (part : ClientSoFar) (count : ℕ) (at : slice_get given count ≡ Some item) (w : Walks count part) where
      abbrev done : ClientSoFar
      done = acting now item part

      counts : Counts part done
      counts = acts now item part

      does : ClientActs now item part done
      does = client_acts now item part (subst (λ (p : PeerState). IsExpected p part.client.stage (reading item)) (sym w.peer_is)
          (expected part.client.stage count item at w.stands.acted w.inside w.stands.begun (hears_at part.client.stage count item at w.stands.hears)))

      one_acted : length done.acted ≡ length part.acted + 1
      one_acted = ap length does.acted ∙ count_push part.acted item

      acted_then : ClientHasActedOn peer done.client.stage (count + 1)
      acted_then = subst (λ (n : ℕ). ClientHasActedOn peer done.client.stage (count + n)) (let a = counts.acted in let e = one_acted in omega (arith, a, e))
          (subst (λ (p : PeerState). ClientHasActedOn p done.client.stage (count + counts.more)) w.peer_is
          (counts.on count (subst (λ (p : PeerState). ClientHasActedOn p part.client.stage count) (sym w.peer_is) w.stands.acted)))

      -- an item that closes the link isn't acted on
      none_acted : (why : Reason) → done ≡ calling now (Closes why) part → length done.acted ≡ length part.acted
      unfolding calling
      none_acted why e = ap (λ (p : ClientSoFar). length p.acted) e

      asked : part.client.stage ≡ Stage.AwaitsAnswer → Walks (count + 1) (at_stage Stage.AwaitsStart (saying now InitialisationRequest (acted_on item part)))
      asked is = record {
        peer_is = posted_at now (Message.Initialisation part.client.peer.protocol InitialisationRequest) Stage.AwaitsStart (acted_on item part) ∙ w.peer_is;
        stands = record { acted = let none = subst (λ (x : Stage). ClientHasActedOn peer x count) is w.stands.acted in omega (arith, none); begun = tt; hears = more w.stands.hears };
        inside = refl;
        none = posting_closes_none now (Message.Initialisation part.client.peer.protocol InitialisationRequest) (acted_on item part) w.none;
      }
        where
          more : IsTrue (reports_changes peer.protocol) ⊎ IsFew part.client.stage count → IsTrue (reports_changes peer.protocol) ⊎ IsFew Stage.AwaitsStart (count + 1)
          more (inl hears) = inl hears
          more (inr few) = inr (subst (λ (x : Stage). IsFew x count) is few)

      one_walks : Walks (count + 1) done
      one_walks = choose (fate now item part)
        where
          choose : Fate now item part done → Walks (count + 1) done
          choose (closes why e) = absurd (let none = none_acted why e in let one = one_acted in omega (arith, none, one))
          choose (goes same called_same peer_same acted_one on) = let at_peer = subst (λ (p : PeerState). Goes p part.client.stage done.client.stage) w.peer_is on in record {
            peer_is = peer_same ∙ w.peer_is;
            stands = stands_on part.client.stage done.client.stage count w.stands at_peer acted_then;
            inside = goes_inside part.client.stage done.client.stage count w.stands at_peer;
            none = subst (Each ByWindow) (sym called_same) w.none;
          }
          choose (asks is at_end_is) = subst (Walks (count + 1)) (sym at_end_is) (asked is)

    -- all items of a datagram
    all_walk : (items front rest : List (List ℕ)) (part : ClientSoFar) → given ≡ front ++ (items ++ rest) → Walks (length front) part → ClosesNone (acting_all now items part)
    unfolding acting_all
    all_walk [] front rest part are w = w.none
    all_walk (item ∷ others) front rest part are w = choose (is_open part.client.link.phase)
        (all_walk others (front ++ item ∷ []) rest (acting now item part) (are ∙ sym (append_assoc front (item ∷ []) (others ++ rest)))
        (subst (λ (n : ℕ). Walks n (acting now item part)) (sym (count_push front item)) (one_walks item part (length front) here w)))
      where
        here : slice_get given (length front) ≡ Some item
        here = ap (λ (list : List (List ℕ)). slice_get list (length front)) are ∙ at_end front (others ++ rest) item

        choose : (b : Bool) → ClosesNone (acting_all now others (acting now item part)) → ClosesNone (if b then acting_all now others (acting now item part) else part)
        choose true so = so
        choose false so = w.none

    -- a connection that has come up
    rising_walks : (count : ℕ) (part : ClientSoFar) → part.client.peer ≡ peer → Stands part.client.stage count → is_up part.client.link.phase ≡ true → ClosesNone part → Walks count (rising now part)
    unfolding rising
    rising_walks count part same stands up none = subst (λ (b : Bool). Walks count (if is_outside part.client.stage && b then then_at else part)) (sym up) (choose part.client.stage refl)
      where
        told : Message
        told = Message.Initialisation part.client.peer.protocol (VersionCheck part.client.peer.version)

        then_at : ClientSoFar
        then_at = at_stage Stage.AwaitsAnswer (posting now told part)

        as_it_is : is_outside part.client.stage ≡ false → Walks count part
        as_it_is inside = record { peer_is = same; stands = stands; inside = inside; none = none }

        begins : part.client.stage ≡ Stage.Outside → Walks count then_at
        begins is = record {
          peer_is = posted_at now told Stage.AwaitsAnswer part ∙ same;
          stands = record { acted = subst (λ (x : Stage). ClientHasActedOn peer x count) is stands.acted; begun = tt; hears = more stands.hears };
          inside = refl;
          none = posting_closes_none now told part none;
        }
          where
            more : IsTrue (reports_changes peer.protocol) ⊎ IsFew part.client.stage count → IsTrue (reports_changes peer.protocol) ⊎ IsFew Stage.AwaitsAnswer count
            more (inl hears) = inl hears
            more (inr few) = inr (subst (λ (x : Stage). IsFew x count) is few)

        choose : (s : Stage) → part.client.stage ≡ s → Walks count (if is_outside s && true then then_at else part)
        choose Stage.Outside e = begins e
        choose Stage.AwaitsAnswer e = as_it_is (ap is_outside e)
        choose Stage.AwaitsStart e = as_it_is (ap is_outside e)
        choose (Stage.AwaitsStatus left) e = as_it_is (ap is_outside e)
        choose Stage.Completed e = as_it_is (ap is_outside e)
        choose Stage.AwaitsReport e = as_it_is (ap is_outside e)

module _ (now : ℕ) where
  -- a client whose link isn't open acts on nothing
  shut_closes_none : (items : List (List ℕ)) (part : ClientSoFar) → is_open part.client.link.phase ≡ false → ClosesNone part → ClosesNone (acting_all now items (rising now part))
  unfolding acting_all rising
  shut_closes_none items part shut none = subst (λ (p : ClientSoFar). ClosesNone (acting_all now items p)) (sym (stays (is_outside part.client.stage) (is_up part.client.link.phase) refl)) (acts_on_none items)
    where
      then_at : ClientSoFar
      then_at = at_stage Stage.AwaitsAnswer (saying now (VersionCheck part.client.peer.version) part)

      stays : (a b : Bool) → is_up part.client.link.phase ≡ b → (if a && b then then_at else part) ≡ part
      stays true true e = absurd (false≢true (sym shut ∙ up_open _ e))
      stays true false e = refl
      stays false b e = refl

      acts_on_none : (list : List (List ℕ)) → ClosesNone (acting_all now list part)
      acts_on_none [] = none
      acts_on_none (item ∷ others) = subst (λ (b : Bool). ClosesNone (if b then acting_all now others (acting now item part) else part)) (sym shut) none

  -- What comes to a client goes on where the client stands, and its link is up after it.
  pub record ComesNext (bytes : List ℕ) (client : ClientState) : Type 0 where
    pub up : is_up (receiving now bytes client.link).link.phase ≡ true
    pub given : List (List ℕ)
    pub front : List (List ℕ)
    pub rest : List (List ℕ)
    pub are : given ≡ front ++ ((receiving now bytes client.link).items ++ rest)
    pub expected : EachExpected client.peer given
    pub stands : Stands client.peer given client.stage (length front)

  -- a datagram
  pub hearing_closes_none : (bytes : List ℕ) (client : ClientState) (outbox : OutboxState)
      → (is_open (receiving now bytes client.link).link.phase ≡ true → ((receiving now bytes client.link).items ≡ []) ⊎ ComesNext bytes client) → ClosesNone (hearing now bytes (begun client outbox))
  unfolding hearing calling acting_all
  hearing_closes_none bytes client outbox comes = choose (is_open (receiving now bytes client.link).link.phase) refl
    where
      received : ClientSoFar
      received = calling now (Receives bytes) (begun client outbox)

      items : List (List ℕ)
      items = (receiving now bytes client.link).items

      by_items : (items ≡ []) ⊎ ComesNext bytes client → ClosesNone (acting_all now items (rising now received))
      by_items (inl none) = subst (λ (list : List (List ℕ)). ClosesNone (acting_all now list (rising now received))) (sym none) (rising_closes_none now received (tt, tt))
      by_items (inr c) = all_walk client.peer c.given c.expected now items c.front c.rest (rising now received) c.are (rising_walks client.peer c.given c.expected now (length c.front) received refl c.stands c.up (tt, tt))

      choose : (b : Bool) → is_open (receiving now bytes client.link).link.phase ≡ b → ClosesNone (acting_all now items (rising now received))
      choose true opened = by_items (comes opened)
      choose false shut = shut_closes_none items received shut (tt, tt)
