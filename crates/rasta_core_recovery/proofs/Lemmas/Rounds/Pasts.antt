-- An end has closed, and has sent what it sent, no later than its clock: so it is after whatever happens.
use Rattle.rasta_core_recovery.proofs.Words.Basics.{◌≡◌, ℕ, ◌⊎◌, inl, inr, ◌+◌, ◌-◌, ◌≤◌, ◌<◌, Bool, true, false, ◌&&◌, not, nat_le, nat_lt, ◌==◌, if◌then◌else◌, List, [], ◌∷◌, Result, Ok, Err, refl, sym, subst, arith, leb-true, leb-false, nat_eq, is_ok, pointwise}
use Rattle.rasta_core_recovery.proofs.Words.Links.{own_version, window_size, LinkState, is_open, is_asking, is_client, is_up, settled, deadline, state_at, open_state, Step, silent, sending, telling, closing, closed, entered, limited, beating, giving, is_told, beginning, meeting, judging, granting, requesting, may_open, own_opening, refusing, accepting, resting, by_state, hearing, created, opening, ticking, closing_by, sending_item, acceptance, hearing_bytes, receiving, reading, Verdict, Reason, Role, Phase, State, Pdu, PduFault, Body, Opening, ConnectionRequest, ConnectionResponse, RetransmissionRequest, RetransmissionResponse, DisconnectionRequest, Heartbeat, Data, RetransmittedData, EndState, Call, Ticks, Opens, Closes, Sends, Receives, outcome, end_after, end_later, end_restarted, reading_of, Ends, called, later, lost, restarted, Event, Calls, Passes, Loses, Restarts, Elsewhere, MayRun, Start, happened, run, started, Names, AreNames, Timely}
use Rattle.rasta_core_recovery.proofs.Words.Recovery.{LawsBelow}
use Rattle.rasta_core_recovery.proofs.Lemmas.Rounds.Deed.{Deed, Leaves, leaves, keeps, asks, takes, hears}
use Rattle.rasta_core_recovery.proofs.Lemmas.Rounds.Words.{says_most}
use Rattle.rasta_core_recovery.proofs.Lemmas.Rounds.Course.{fresh_age}
use Rattle.rasta_core_recovery.proofs.Lemmas.Asking.Asks.{AskDeed, ask_leaves, ask_keeps, ask_joins, asking_is, asks_hears}

pub record Past (l : LinkState) : Type 0 where
  pub closed : is_open l.phase ≡ false → l.closed_at ≤ l.clock
  pub said : is_open l.phase ≡ true → l.sent_at ≤ l.clock
  -- its partner confirmed no more than it sent
  pub counts : is_open l.phase ≡ true → l.confirmed < l.sent

-- and an end inside is within its time
record Ready (l : LinkState) : Type 0 where
  past : Past l
  young : is_open l.phase ≡ true → l.clock < l.own_stamp + 1800
  own : is_open l.phase ≡ true → l.own_stamp ≤ l.clock

settled_past : (now : ℕ) (l : LinkState) → l.clock ≤ now → Past l → Past (settled now l)
unfolding settled deadline
settled_past now l later past = choose (is_open l.phase) (nat_le (l.own_stamp + 1800) now) refl refl
  where
    deadline_of : (b : Bool) → ℕ
    deadline_of b = if b then l.own_stamp + 1800 else l.closed_at

    choose : (a b : Bool) → is_open l.phase ≡ a → nat_le (l.own_stamp + 1800) now ≡ b
        → Past (if is_open l.phase && nat_le (if is_open l.phase then l.own_stamp + 1800 else l.closed_at) now then record l { phase = Phase.Closed; closed_at = (if is_open l.phase then l.own_stamp + 1800 else l.closed_at); clock = now } else record l { clock = now })
    choose true true e f = rw (e, f) (record { closed = λ is. leb-true _ _ f; said = λ is. absurd (cc is); counts = λ is. absurd (cc is) })
    choose true false e f = rw (e, f) (record { closed = λ is. absurd (cc (e, is)); said = λ is. omega (arith, past.said e, later); counts = λ is. past.counts e })
    choose false b e f = rw e (record { closed = λ is. omega (arith, past.closed e, later); said = λ is. absurd (cc (e, is)); counts = λ is. absurd (cc (e, is)) })

young_then : (now : ℕ) (l : LinkState) → is_open (settled now l).phase ≡ true → (settled now l).clock < (settled now l).own_stamp + 1800
unfolding settled deadline
young_then now l = choose (is_open l.phase) (nat_le (l.own_stamp + 1800) now) refl refl
  where
    choose : (a b : Bool) → is_open l.phase ≡ a → nat_le (l.own_stamp + 1800) now ≡ b
        → let k = (if is_open l.phase && nat_le (if is_open l.phase then l.own_stamp + 1800 else l.closed_at) now then record l { phase = Phase.Closed; closed_at = (if is_open l.phase then l.own_stamp + 1800 else l.closed_at); clock = now } else record l { clock = now })
        in is_open k.phase ≡ true → k.clock < k.own_stamp + 1800
    choose true true e f = rw (e, f) (λ is. absurd (cc is))
    choose true false e f = rw (e, f) (λ is. leb-false _ _ f)
    choose false b e f = rw e (λ is. absurd (cc (e, is)))

own_then : (now : ℕ) (l : LinkState) → l.clock ≤ now → (is_open l.phase ≡ true → l.own_stamp ≤ l.clock) → is_open (settled now l).phase ≡ true → (settled now l).own_stamp ≤ (settled now l).clock
unfolding settled deadline
own_then now l later own = choose (is_open l.phase) (nat_le (l.own_stamp + 1800) now) refl refl
  where
    choose : (a b : Bool) → is_open l.phase ≡ a → nat_le (l.own_stamp + 1800) now ≡ b
        → let k = (if is_open l.phase && nat_le (if is_open l.phase then l.own_stamp + 1800 else l.closed_at) now then record l { phase = Phase.Closed; closed_at = (if is_open l.phase then l.own_stamp + 1800 else l.closed_at); clock = now } else record l { clock = now })
        in is_open k.phase ≡ true → k.own_stamp ≤ k.clock
    choose true true e f = rw (e, f) (λ is. absurd (cc is))
    choose true false e f = rw (e, f) (λ is. omega (arith, own e, later))
    choose false b e f = rw e (λ is. absurd (cc (e, is)))

settled_ready : (now : ℕ) (l : LinkState) → l.clock ≤ now → Past l → (is_open l.phase ≡ true → l.own_stamp ≤ l.clock) → Ready (settled now l)
settled_ready now l later past own = record { past = settled_past now l later past; young = young_then now l; own = own_then now l later own }

left_ready : (l k : LinkState) → Leaves l k → Ready k
left_ready l k left = record {
  past = record { closed = λ e. omega (arith, left.closed_at, left.clock); said = λ e. absurd (cc (e, left.is_out)); counts = λ e. absurd (cc (e, left.is_out)) };
  young = λ e. absurd (cc (e, left.is_out));
  own = λ e. absurd (cc (e, left.is_out));
}

telling_ready : (why : Reason) (l : LinkState) → Ready (telling why l).link
unfolding telling sending
telling_ready why l = left_ready l (telling why l).link (record { clock = refl; is_out = refl; closed_at = refl })

sending_ready : (body : Body) (l : LinkState) → Ready l → Ready (sending body l).link
unfolding sending
sending_ready body l is = record { past = record { closed = is.past.closed; said = λ e. omega arith; counts = λ e. omega (arith, is.past.counts e) }; young = is.young; own = is.own }

by_test : (test : Bool) (one other : LinkState) → Ready one → Ready other → Ready (if test then one else other)
by_test true one other a b = a
by_test false one other a b = b

by_steps : (test : Bool) (one other : Step) → Ready one.link → Ready other.link → Ready (if test then one else other).link
by_steps true one other a b = a
by_steps false one other a b = b

limited_ready : (l : LinkState) → Ready l → Ready (limited l).link
unfolding limited
limited_ready l is = by_steps (is_open l.phase && nat_le 2147483000 l.sent) (telling Reason.Sequence l) (silent l) (telling_ready Reason.Sequence l) is

entered_ready : (now : ℕ) (l : LinkState) → l.clock ≤ now → Past l → (is_open l.phase ≡ true → l.own_stamp ≤ l.clock) → Ready (entered now l).link
unfolding entered
entered_ready now l later past own = limited_ready (settled now l) (settled_ready now l later past own)

beating_ready : (l : LinkState) → Ready l → Ready (beating l).link
unfolding beating
beating_ready l is = by_steps (is_up l.phase && nat_le 300 (l.clock - l.sent_at)) (sending Heartbeat l) (silent l) (sending_ready Heartbeat l is) is

begun_ready : (l : LinkState) → Ready (requesting l).link
unfolding requesting sending beginning
begun_ready l = record { past = record { closed = λ e. absurd (cc e); said = λ e. omega arith; counts = λ e. omega arith }; young = λ e. omega arith; own = λ e. omega arith }

may_request : (l : LinkState) → Ready l → Ready (if may_open l then requesting l else silent l).link
may_request l is = by_steps (may_open l) (requesting l) (silent l) (begun_ready l) is

closed_ready : (l : LinkState) → Ready (closed l)
closed_ready l = left_ready l (closed l) (record { clock = refl; is_out = refl; closed_at = refl })

closing_ready : (why : Reason) (l : LinkState) → Ready (closing why l).link
unfolding closing
closing_ready why l = by_steps (is_told why) (telling why l) (silent (closed l)) (telling_ready why l) (closed_ready l)

giving_ready : (item : List ℕ) (l : LinkState) → Ready l → Ready (giving item l).link
unfolding giving sending
giving_ready item l is = record { past = record { closed = is.past.closed; said = λ e. omega arith; counts = λ e. omega (arith, is.past.counts e) }; young = is.young; own = is.own }

-- ---- what comes

begins_ready : (p : Pdu) (l : LinkState) → Ready (sending (ConnectionResponse own_opening) (meeting p (beginning l))).link
unfolding sending meeting beginning
begins_ready p l = record { past = record { closed = λ e. absurd (cc e); said = λ e. omega arith; counts = λ e. omega arith }; young = λ e. omega arith; own = λ e. omega arith }

granting_ready : (p : Pdu) (o : Opening) (l : LinkState) → Ready (granting p o l).link
unfolding granting judging
granting_ready p o l = choose (pointwise nat_eq o.version own_version) (o.window == window_size)
  where
    begun : LinkState
    begun = meeting p (beginning l)

    choose : (a b : Bool) → Ready (if a then (if b then sending (ConnectionResponse own_opening) begun else telling Reason.Window begun) else telling Reason.Version begun).link
    choose true true = begins_ready p l
    choose true false = telling_ready Reason.Window begun
    choose false b = telling_ready Reason.Version begun

resting_ready : (p : Pdu) (l : LinkState) (body : Body) → Ready l → Ready (resting body p l).link
unfolding resting
resting_ready p l (ConnectionRequest o) is = choose (is_client l.identity.role)
  where
    choose : (b : Bool) → Ready (if b then refusing Verdict.WrongState l else accepting (granting p o l)).link
    choose true = is
    choose false = granting_ready p o l
resting_ready p l (ConnectionResponse o) is = is
resting_ready p l RetransmissionRequest is = is
resting_ready p l RetransmissionResponse is = is
resting_ready p l (DisconnectionRequest d r) is = is
resting_ready p l Heartbeat is = is
resting_ready p l (Data x) is = is
resting_ready p l (RetransmittedData x) is = is

deed_ready : (p : Pdu) (l k : LinkState) (qs : List Pdu) → Ready l → is_open l.phase ≡ true → is_asking l ≡ false → Deed p l k qs → Ready k
deed_ready p l k qs is in_it joined (leaves why left) = left_ready l k left
deed_ready p l k qs is in_it joined (keeps b same none) = subst Ready (sym same) is
deed_ready p l k qs is in_it joined (asks passes apart a) = subst Ready (sym a.link) (record { past = record { closed = λ e. absurd (cc e); said = λ e. omega arith; counts = λ e. omega (arith, is.past.counts in_it) }; young = λ e. is.young in_it; own = λ e. is.own in_it })
deed_ready p l k qs is in_it joined (takes passes t) =
    let f = fresh_age p l passes.fresh in record {
      past = record { closed = λ e. absurd (cc (e, t.stays.connected)); said = λ e. said t.sent_at; counts = λ e. omega (arith, t.confirmed, says_most _ _ l.sent qs k.sent t.answers, is.past.counts in_it) };
      young = λ e. omega (arith, f, is.young in_it, is.own in_it, t.own_stamp, t.stays.clock);
      own = λ e. omega (arith, t.own_stamp, t.stays.clock);
    }
  where
    said : ((qs ≡ []) × (k.sent_at ≡ l.sent_at)) ⊎ ((k.sent_at ≡ l.clock) × (qs ≡ [] → ⊥)) → k.sent_at ≤ k.clock
    said (inl e) = omega (arith, e.1, is.past.said in_it, t.stays.clock)
    said (inr e) = omega (arith, e.0, t.stays.clock)

ask_ready : (p : Pdu) (l k : LinkState) (qs : List Pdu) → Ready l → is_open l.phase ≡ true → AskDeed p l k qs → Ready k
ask_ready p l k qs is in_it (ask_leaves left) = left_ready l k left
ask_ready p l k qs is in_it (ask_keeps same none) = subst Ready (sym same) is
ask_ready p l k qs is in_it (ask_joins opens clock then_in joined own said confirmed sent row met) = record {
  past = record { closed = λ e. absurd (cc (e, then_in)); said = λ e. omega (arith, said, clock); counts = λ e. omega (arith, confirmed, sent, is.past.counts in_it) };
  young = λ e. omega (arith, is.young in_it, own, clock);
  own = λ e. omega (arith, is.own in_it, own, clock);
}

out_ready : (p : Pdu) (l : LinkState) → Ready l → is_open l.phase ≡ false → Ready (hearing p l).link
unfolding hearing by_state state_at
out_ready p l is shut = choose (p.receiver == l.identity.own) (p.sender == l.identity.partner)
  where
    at_state : (b : Bool) → Ready (by_state (if b then State.Quiet else State.Down) p l).link
    at_state true = is
    at_state false = resting_ready p l p.body is

    choose : (a b : Bool) → Ready (if not a then refusing Verdict.NotForMe l else if not b then refusing Verdict.WrongSender l
        else by_state (if is_open l.phase && nat_lt l.clock (deadline l) then open_state l.phase else if nat_lt l.clock (deadline l + 6000) then State.Quiet else State.Down) p l).link
    choose false b = is
    choose true false = is
    choose true true = rw shut (at_state (nat_lt l.clock (deadline l + 6000)))

hearing_ready : (p : Pdu) (l : LinkState) → Ready l → Ready (hearing p l).link
hearing_ready p l is = choose (is_open l.phase) (is_asking l) refl refl
  where
    choose : (a b : Bool) → is_open l.phase ≡ a → is_asking l ≡ b → Ready (hearing p l).link
    choose false b e f = out_ready p l is e
    choose true false e f = deed_ready p l (hearing p l).link (hearing p l).pdus is e f (hears p l e f (is.young e))
    choose true true e f = ask_ready p l (hearing p l).link (hearing p l).pdus is e (asks_hears p l (asking_is l.clock l refl f (is.young e) (is.own e)))

bytes_ready : (r : Result Pdu PduFault) (l : LinkState) → Ready l → Ready (hearing_bytes r l).link
unfolding hearing_bytes
bytes_ready (Err f) l is = is
bytes_ready (Ok p) l is = hearing_ready p l is

-- ---- calls and events

module _ (moment : ℕ) (end : EndState) (at : end.link.clock ≡ reading_of end.clock) (past : Past end.link) (own : is_open end.link.phase ≡ true → end.link.own_stamp ≤ end.link.clock) where
  begun_ready_at : Ready (entered (reading_of end.clock) end.link).link
  begun_ready_at = entered_ready (reading_of end.clock) end.link (omega (arith, at)) past own

  outcome_ready : (call : Call) → Ready (outcome call moment end).link
  unfolding outcome ticking opening closing_by sending_item receiving
  outcome_ready Ticks = beating_ready _ begun_ready_at
  outcome_ready Opens = may_request _ begun_ready_at
  outcome_ready (Closes why) = by_steps (is_open (entered (reading_of end.clock) end.link).link.phase) (closing why (entered (reading_of end.clock) end.link).link) (silent (entered (reading_of end.clock) end.link).link) (closing_ready why _) begun_ready_at
  outcome_ready (Sends item) = by_steps (is_ok (acceptance (entered (reading_of end.clock) end.link).link)) (giving item (entered (reading_of end.clock) end.link).link) (silent (entered (reading_of end.clock) end.link).link) (giving_ready item _ begun_ready_at) begun_ready_at
  outcome_ready (Receives bytes connection) = bytes_ready (reading end.link.identity.key bytes) _ begun_ready_at

-- both ends
pub record Pasts (ends : Ends) : Type 0 where
  pub client : Past ends.client.link
  pub server : Past ends.server.link

-- an end's own stamp isn't younger than its clock
abbrev pub OwnBefore : LinkState → Type 0
OwnBefore l = is_open l.phase ≡ true → l.own_stamp ≤ l.clock

called_past : (who : Role) (call : Call) (ends : Ends) → ends.client.link.clock ≡ reading_of ends.client.clock → ends.server.link.clock ≡ reading_of ends.server.clock
    → OwnBefore ends.client.link → OwnBefore ends.server.link → Pasts ends → Pasts (called who call ends)
unfolding called end_after
called_past Role.Client call ends c s oc os are = record { client = (outcome_ready ends.moment ends.client c are.client oc call).past; server = are.server }
called_past Role.Server call ends c s oc os are = record { client = are.client; server = (outcome_ready ends.moment ends.server s are.server os call).past }

later_past : (elapsed of_client of_server : ℕ) (ends : Ends) → ends.client.link.clock ≡ reading_of ends.client.clock → ends.server.link.clock ≡ reading_of ends.server.clock → Pasts ends → Pasts (later elapsed of_client of_server ends)
unfolding later end_later
later_past elapsed of_client of_server ends c s are = record {
  client = settled_past (reading_of (ends.client.clock + of_client)) ends.client.link (omega (arith, c)) are.client;
  server = settled_past (reading_of (ends.server.clock + of_server)) ends.server.link (omega (arith, s)) are.server;
}

created_past : (l : LinkState) (first clock : ℕ) → Past (created l.identity first clock)
unfolding created
created_past l first clock = record { closed = λ e. omega arith; said = λ e. absurd (cc e); counts = λ e. absurd (cc e) }

restarted_past : (who : Role) (clock first : ℕ) (ends : Ends) → Pasts ends → Pasts (restarted who clock first ends)
unfolding restarted end_restarted
restarted_past Role.Client clock first ends are = record { client = created_past ends.client.link first clock; server = are.server }
restarted_past Role.Server clock first ends are = record { client = are.client; server = created_past ends.server.link first clock }

lost_past : (bytes : List ℕ) (ends : Ends) → Pasts ends → Pasts (lost bytes ends)
unfolding lost
lost_past bytes ends are = record { client = are.client; server = are.server }

pub event_past : (names : Names) (event : Event) (ends : Ends) → Timely names ends → OwnBefore ends.client.link → OwnBefore ends.server.link → Pasts ends → Pasts (happened event ends)
event_past names (Calls who call) ends is oc os are = called_past who call ends is.client.clock is.server.clock oc os are
event_past names (Passes elapsed of_client of_server) ends is oc os are = later_past elapsed of_client of_server ends is.client.clock is.server.clock are
event_past names (Loses bytes) ends is oc os are = lost_past bytes ends are
event_past names (Restarts who clock first) ends is oc os are = restarted_past who clock first ends are
event_past names (Elsewhere count) ends is oc os are = record { client = are.client; server = are.server }

pub run_past : LawsBelow → (names : Names) → AreNames names → ((ends : Ends) → Timely names ends → OwnBefore ends.client.link × OwnBefore ends.server.link)
    → (events : List Event) (ends : Ends) → Timely names ends → Pasts ends → MayRun names events ends → Pasts (run events ends)
run_past laws names are own [] ends is pasts may = pasts
run_past laws names are own (e ∷ events) ends is pasts may =
    run_past laws names are own events (happened e ends) (laws.every_event_keeps_time names e ends are is may.0) (event_past names e ends is (own ends is).0 (own ends is).1 pasts) may.1

pub starts_past : (names : Names) (start : Start) → Pasts (started names start)
unfolding created
starts_past names start = record { client = record { closed = λ e. omega arith; said = λ e. absurd (cc e); counts = λ e. absurd (cc e) }; server = record { closed = λ e. omega arith; said = λ e. absurd (cc e); counts = λ e. absurd (cc e) } }
