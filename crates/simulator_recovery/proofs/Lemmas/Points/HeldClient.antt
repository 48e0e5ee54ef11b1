-- What a point's client hears in a step while it awaits a report: one item at most, and with it it awaits no more.
use Rattle.simulator_recovery.proofs.Words.Basics.{◌≡◌, ℕ, ◌∙◌, Bool, true, false, List, [], ◌∷◌, length, if◌then◌else◌, refl, sym, ap, subst, false≢true}
use Rattle.simulator_recovery.proofs.Words.Links.{receiving, OutboxState, is_open, is_up, Reason}
use Rattle.simulator_recovery.proofs.Words.Controllers.{Protocol, Side}
use Rattle.simulator_recovery.proofs.Words.Interlockings.{ClientState, PeerState, is_available, is_outside, is_ready, ClientSoFar, Closes, Receives, begun, calling, reports_changes, acting, acting_all, commanding, fallen, hearing, message_of, posting, rising, stage_after_command, Move, Stage}
use Rattle.simulator_recovery.proofs.Lemmas.Ground.ClientItem.{answers, changes, completes, Goes, starts, tells}
use Rattle.simulator_recovery.proofs.Lemmas.Talk.ClientLinks.{up_open}
use Rattle.simulator_recovery.proofs.Lemmas.Talk.ClientTalk.{Fate, asks, closes, fate, goes}
use Rattle.simulator_recovery.proofs.Lemmas.Ground.LinkCounts.{close_closes}

-- The items that a client which awaited a report has acted on, by its stage after them: none, or the report.
pub data HearsOne (s : Stage) (items : List (List ℕ)) : Type 0 where
  nothing : s ≡ Stage.AwaitsReport → items ≡ [] → HearsOne s items
  report : s ≡ Stage.Completed → length items ≡ 1 → HearsOne s items

-- where an item leads from stages at which a client is ready
completed_changes : (peer : PeerState) (old new : Stage) → Goes peer old new → old ≡ Stage.Completed → reports_changes peer.protocol ≡ true
completed_changes peer old new (starts e f) is = absurd (false≢true (ap is_ready (sym e ∙ is)))
completed_changes peer old new (tells left some e f) is = absurd (false≢true (ap is_ready (sym e ∙ is)))
completed_changes peer old new (completes e f) is = absurd (false≢true (ap is_ready (sym e ∙ is)))
completed_changes peer old new (changes turn e f) is = turn
completed_changes peer old new (answers e f) is = absurd (false≢true (ap is_available (sym e ∙ is)))

awaiting_completes : (peer : PeerState) (old new : Stage) → Goes peer old new → old ≡ Stage.AwaitsReport → new ≡ Stage.Completed
awaiting_completes peer old new (starts e f) is = absurd (false≢true (ap is_ready (sym e ∙ is)))
awaiting_completes peer old new (tells left some e f) is = absurd (false≢true (ap is_ready (sym e ∙ is)))
awaiting_completes peer old new (completes e f) is = f
awaiting_completes peer old new (changes turn e f) is = f
awaiting_completes peer old new (answers e f) is = f

closing_shuts : (now : ℕ) (why : Reason) (part : ClientSoFar) → is_open (calling now (Closes why) part).client.link.phase ≡ false
unfolding calling
closing_shuts now why part = close_closes now why part.client.link

-- after a link that has closed all is dropped
shut_drops : (now : ℕ) (items : List (List ℕ)) (part : ClientSoFar) → is_open part.client.link.phase ≡ false → acting_all now items part ≡ part
unfolding acting_all
shut_drops now [] part shut = refl
shut_drops now (item ∷ others) part shut = ap (λ (b : Bool). if b then acting_all now others (acting now item part) else part) shut

-- a point's client that awaits no report acts on no item
completed_shuts : (now : ℕ) (item : List ℕ) (part : ClientSoFar) → part.client.stage ≡ Stage.Completed → part.client.peer.protocol ≡ Protocol.Point
    → is_open (acting now item part).client.link.phase ≡ false
completed_shuts now item part completed point = choose (fate now item part)
  where
    choose : Fate now item part (acting now item part) → is_open (acting now item part).client.link.phase ≡ false
    choose (closes why at) = subst (λ (q : ClientSoFar). is_open q.client.link.phase ≡ false) (sym at) (closing_shuts now why part)
    choose (goes link_same calls_same peer_same more on) =
        absurd (false≢true (ap reports_changes (sym point) ∙ completed_changes part.client.peer part.client.stage (acting now item part).client.stage on completed))
    choose (asks is at) = absurd (false≢true (ap is_ready (sym is ∙ completed)))

completed_hears : (now : ℕ) (items : List (List ℕ)) (part : ClientSoFar) → part.client.stage ≡ Stage.Completed → part.client.peer.protocol ≡ Protocol.Point
    → is_open (acting_all now items part).client.link.phase ≡ true → items ≡ []
unfolding acting_all
completed_hears now [] part completed point opened = refl
completed_hears now (item ∷ others) part completed point opened = absurd (choose (is_open part.client.link.phase) refl opened)
  where
    shut : is_open (acting now item part).client.link.phase ≡ false
    shut = completed_shuts now item part completed point

    choose : (b : Bool) → is_open part.client.link.phase ≡ b → is_open (if b then acting_all now others (acting now item part) else part).client.link.phase ≡ true → ⊥
    choose true e open_then = false≢true (sym (ap (λ (q : ClientSoFar). is_open q.client.link.phase) (shut_drops now others (acting now item part) shut) ∙ shut) ∙ open_then)
    choose false e open_then = false≢true (sym e ∙ open_then)

awaiting_hears : (now : ℕ) (items : List (List ℕ)) (part : ClientSoFar) → part.client.stage ≡ Stage.AwaitsReport → part.client.peer.protocol ≡ Protocol.Point
    → is_open (acting_all now items part).client.link.phase ≡ true
    → HearsOne (acting_all now items part).client.stage items
unfolding acting_all
awaiting_hears now [] part awaits point opened = nothing awaits refl
awaiting_hears now (item ∷ others) part awaits point opened = choose (is_open part.client.link.phase) refl opened
  where
    acted : ClientSoFar
    acted = acting now item part

    by_fate : Fate now item part acted → is_open (acting_all now others acted).client.link.phase ≡ true → HearsOne (acting_all now others acted).client.stage (item ∷ others)
    by_fate (closes why at) open_then =
        let shut : is_open acted.client.link.phase ≡ false = subst (λ (q : ClientSoFar). is_open q.client.link.phase ≡ false) (sym at) (closing_shuts now why part)
        in absurd (false≢true (sym (ap (λ (q : ClientSoFar). is_open q.client.link.phase) (shut_drops now others acted shut) ∙ shut) ∙ open_then))
    by_fate (goes link_same calls_same peer_same more on) open_then =
        let completed : acted.client.stage ≡ Stage.Completed = awaiting_completes part.client.peer part.client.stage acted.client.stage on awaits
        in let none : others ≡ [] = completed_hears now others acted completed (ap (λ (p : PeerState). p.protocol) peer_same ∙ point) open_then
        in subst (λ (list : List (List ℕ)). HearsOne (acting_all now list acted).client.stage (item ∷ list)) (sym none) (report completed refl)
    by_fate (asks is at) open_then = absurd (false≢true (ap is_ready (sym is ∙ awaits)))

    choose : (b : Bool) → is_open part.client.link.phase ≡ b → is_open (if b then acting_all now others acted else part).client.link.phase ≡ true
        → HearsOne (if b then acting_all now others acted else part).client.stage (item ∷ others)
    choose true e open_then = by_fate (fate now item part) open_then
    choose false e open_then = absurd (false≢true (sym e ∙ open_then))

-- it says nothing as its link comes up, since that was up
rises_not : (now : ℕ) (part : ClientSoFar) → part.client.stage ≡ Stage.AwaitsReport → rising now part ≡ part
unfolding rising
rises_not now part awaits = rw awaits refl

received_client : (now : ℕ) (bytes : List ℕ) (client : ClientState) (outbox : OutboxState) → ((calling now (Receives bytes)
    (begun client outbox)).client.stage ≡ client.stage) × ((calling now (Receives bytes) (begun client outbox)).client.peer ≡ client.peer)
unfolding calling
received_client now bytes client outbox = (refl, refl)

pub hears_one : (now : ℕ) (bytes : List ℕ) (client : ClientState) (outbox : OutboxState) → client.stage ≡ Stage.AwaitsReport → client.peer.protocol ≡ Protocol.Point
    → is_outside (hearing now bytes (begun client outbox)).client.stage ≡ false
    → HearsOne (hearing now bytes (begun client outbox)).client.stage (receiving now bytes client.link).items
unfolding hearing fallen
hears_one now bytes client outbox awaits point = choose (is_up acted.client.link.phase) refl
  where
    items : List (List ℕ)
    items = (receiving now bytes client.link).items

    received : ClientSoFar
    received = calling now (Receives bytes) (begun client outbox)

    acted : ClientSoFar
    acted = acting_all now items (rising now received)

    late : ClientState
    late = record acted.client { stage = Stage.Outside }

    waits : received.client.stage ≡ Stage.AwaitsReport
    waits = (received_client now bytes client outbox).0 ∙ awaits

    risen : rising now received ≡ received
    risen = rises_not now received waits

    choose : (b : Bool) → is_up acted.client.link.phase ≡ b → is_outside (if b then acted.client else late).stage ≡ false → HearsOne (if b then acted.client else late).stage items
    choose true e inside = awaiting_hears now items (rising now received) (ap (λ (q : ClientSoFar). q.client.stage) risen ∙ waits)
        (ap (λ (q : ClientSoFar). q.client.peer.protocol) risen ∙ (ap (λ (p : PeerState). p.protocol) (received_client now bytes client outbox).1 ∙ point)) (up_open acted.client.link.phase e)
    choose false e inside = absurd (false≢true (sym inside))

-- a move that is given in vain leaves it so
pub moved_awaits : (now : ℕ) (side : Side) (part : ClientSoFar) → is_outside (commanding now (Move side) part).client.stage ≡ false → part.client.stage ≡ Stage.AwaitsReport
    → (commanding now (Move side) part).client.stage ≡ Stage.AwaitsReport
unfolding commanding fallen
moved_awaits now side part = choose (is_up posted.link.phase)
  where
    posted : ClientState
    posted = (posting now (message_of (Move side)) part).client

    late : ClientState
    late = record posted { stage = stage_after_command (Move side) part.client.stage }

    choose : (b : Bool) → is_outside (if b then late else record late { stage = Stage.Outside }).stage ≡ false → part.client.stage ≡ Stage.AwaitsReport
        → (if b then late else record late { stage = Stage.Outside }).stage ≡ Stage.AwaitsReport
    choose true inside e = ap (stage_after_command (Move side)) e
    choose false inside e = absurd (false≢true (sym inside))
