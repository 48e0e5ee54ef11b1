-- The window of a server at every moment, also where it has left its connection: no call after which it is outside fills it.
use Rattle.rasta_core_recovery.proofs.Words.Basics.{◌≡◌, ℕ, ◌∙◌, ◌+◌, ◌-◌, ◌≤◌, ◌<◌, Bool, true, false, ◌&&◌, ◌==◌, not, nat_le, List, [], ◌∷◌, ◌++◌, length, Option, Some, None, Result, Ok, Err, if◌then◌else◌, refl, sym, ap, subst, arith, is_ok, nat_eq, pointwise, false≢true, none-some}
use Rattle.rasta_core_recovery.proofs.Words.Links.{own_version, window_size, LinkState, is_asking, is_client, is_open, is_up, deadline, settled, beginning, granting, judging, may_open, meeting, own_opening, requesting, Step, beating, closed, closing, entered, giving, is_told, sending, silent, telling, then_do, Receipt, accepting, ahead, answering, behind, bringing, handing, in_turn, missing, refusing, repeating, taking, violating, hearing, acceptance, answer_to_send, closing_by, created, hearing_bytes, opening, opens, receiving, sending_item, ticking, Identity, Role, Phase, Reason, Verdict, Unconfirmed, reading, Pdu, PduFault, Body, ConnectionRequest, ConnectionResponse, Data, DisconnectionRequest, Heartbeat, RetransmissionRequest, RetransmissionResponse, RetransmittedData, Opening, Call, Closes, EndState, Opens, Outcome, Receives, Sends, Ticks, end_after, end_later, end_restarted, is_taken, kept, outcome, reading_of, Calls, Elsewhere, Event, Loses, May, Passes as TimePasses, Restarts, happened, AreNames, Names, Ends, called, later, lost, restarted, HearsOutside, grants, refuses, Timely, AreTogether, Ordered}
use Rattle.rasta_core_recovery.proofs.Words.Recovery.{AreIn, AwaitsAnswers, ClientHasLeft, ClientOwes, FewOfServerLeft, FewOfServerWait, ServerConfirming, LawsBelow}
use Rattle.rasta_core_recovery.proofs.Lemmas.Windows.Confirmed.{never_asks}
use Rattle.rasta_core_recovery.proofs.Lemmas.Windows.ConfirmingEvents.{server_enters_none, settled_so}
use Rattle.rasta_core_recovery.proofs.Lemmas.Rounds.Facts.{together_in}
use Rattle.rasta_core_recovery.proofs.Lemmas.Rounds.Fold.{beats_not, not_up}
use Rattle.rasta_core_recovery.proofs.Lemmas.Windows.ServerConfirmed.{event_confirms_servers}
use Rattle.rasta_core_recovery.proofs.Lemmas.Windows.ServerLeft.{event_left_servers}
use Rattle.rasta_core_recovery.proofs.Lemmas.Windows.StaysIn.{IsSettledAt, entering, hears_all, quiet_bytes, told_shut}
use Rattle.rasta_core_recovery.proofs.Lemmas.Windows.WindowNumbers.{at_most, count_one}
use Rattle.rasta_core_recovery.proofs.Lemmas.Rounds.Blocks.{still_fewer, as_many_both}

-- ---- what comes to an end in a connection, and closes it

module _ (p : Pdu) (l : LinkState) (is_in : is_open l.phase ≡ true) (joined : is_asking l ≡ false) where
  abbrev Shuts : Receipt → Type 0
  Shuts r = is_open r.link.phase ≡ false → (length r.link.waiting ≤ length l.waiting) × (r.items ≡ [])

  refused : (why : Verdict) → Shuts (refusing why l)
  refused why shut = absurd (false≢true (sym shut ∙ is_in))

  violated : Shuts (violating l)
  unfolding telling sending
  violated shut = (omega arith, refl)

  closes : Shuts (accepting (silent (closed (taking p l))))
  unfolding taking
  closes shut = (still_fewer (l.sent - 1 - behind p l) l.waiting, refl)

  brings : (body : Body) → Shuts (bringing body (taking p l))
  unfolding bringing handing taking answering repeating sending
  brings (Data items) shut = absurd (false≢true (sym shut))
  brings (RetransmittedData items) shut = absurd (false≢true (sym shut ∙ is_in))
  brings RetransmissionRequest shut = absurd (false≢true (sym shut ∙ is_in))
  brings Heartbeat shut = absurd (false≢true (sym shut))
  brings RetransmissionResponse shut = absurd (false≢true (sym shut))
  brings (ConnectionRequest o) shut = absurd (false≢true (sym shut))
  brings (ConnectionResponse o) shut = absurd (false≢true (sym shut))
  brings (DisconnectionRequest d r) shut = absurd (false≢true (sym shut))

  turns : Shuts (in_turn p l)
  unfolding in_turn missing sending
  turns = choose (ahead p l == 0)
    where
      choose : (b : Bool) → Shuts (if b then bringing p.body (taking p l) else missing l)
      choose true = brings p.body
      choose false = λ shut. absurd (false≢true (sym shut))

  resumes : Shuts (accepting (silent (record (taking p l) { phase = Phase.RetransmissionRunning })))
  resumes shut = absurd (false≢true (sym shut))

  hearing_shuts : l.clock < l.own_stamp + 1800 → Shuts (hearing p l)
  hearing_shuts = hears_all p l is_in joined Shuts refused violated closes (λ pass. turns) (λ pass. resumes)

-- ---- calls at an end in a connection

module _ (now : ℕ) (l : LinkState) (is_in : is_open l.phase ≡ true) (settled_at : IsSettledAt now l) where
  ticks_window : length (ticking now l).link.waiting ≤ length l.waiting
  unfolding ticking beating telling sending
  ticks_window = entering now l is_in settled_at (λ (s : Step). length (then_do s beating).link.waiting ≤ length l.waiting) (beats (is_up l.phase && nat_le 300 (l.clock - l.sent_at))) (omega arith)
    where
      beats : (b : Bool) → length (if b then sending Heartbeat l else silent l).link.waiting ≤ length l.waiting
      beats true = omega arith
      beats false = omega arith

  opens_window : length (opening now l).link.waiting ≤ length l.waiting
  unfolding opening requesting beginning telling sending
  opens_window = entering now l is_in settled_at (λ (s : Step). length (then_do s (λ k. if may_open k then requesting k else silent k)).link.waiting ≤ length l.waiting)
      (asks l (omega arith) (may_open l)) (asks told (omega arith) (may_open told))
    where
      told : LinkState
      told = (telling Reason.Sequence l).link

      asks : (k : LinkState) → length k.waiting ≤ length l.waiting → (b : Bool) → length (if b then requesting k else silent k).link.waiting ≤ length l.waiting
      asks k few true = omega arith
      asks k few false = few

  closes_window : (why : Reason) → length (closing_by now why l).link.waiting ≤ length l.waiting
  unfolding closing_by closing telling sending
  closes_window why = entering now l is_in settled_at (λ (s : Step). length (then_do s (λ k. if is_open k.phase then closing why k else silent k)).link.waiting ≤ length l.waiting)
      (shut (is_open l.phase) (is_told why)) (omega arith)
    where
      shut : (b t : Bool) → length (if b then (if t then telling why l else silent (closed l)) else silent l).link.waiting ≤ length l.waiting
      shut true true = omega arith
      shut true false = omega arith
      shut false t = omega arith

  sends_window : (item : List ℕ) → length (sending_item now item l).link.waiting ≤ length l.waiting + length (if is_ok (answer_to_send now l) then item ∷ [] else [])
  unfolding sending_item answer_to_send acceptance giving telling sending
  sends_window item = entering now l is_in settled_at
      (λ (s : Step). length (then_do s (λ k. if is_ok (acceptance k) then giving item k else silent k)).link.waiting ≤ length l.waiting + length (if is_ok (acceptance s.link) then item ∷ [] else []))
      (gives (is_ok (acceptance l))) (omega arith)
    where
      gives : (b : Bool) → length (if b then giving item l else silent l).link.waiting ≤ length l.waiting + length (if b then item ∷ [] else [])
      gives true = let one = count_one l.waiting (record { tag = l.sent; item = item }) in omega (arith, one)
      gives false = omega arith

  receives_window : is_asking l ≡ false → (bytes : List ℕ) → is_open (receiving now bytes l).link.phase ≡ false
      → (length (receiving now bytes l).link.waiting ≤ length l.waiting) × ((receiving now bytes l).items ≡ [])
  unfolding receiving hearing_bytes telling sending
  receives_window joined bytes = entering now l is_in settled_at
      (λ (s : Step). is_open (hearing_bytes (reading l.identity.key bytes) s.link).link.phase ≡ false
      → (length (hearing_bytes (reading l.identity.key bytes) s.link).link.waiting ≤ length l.waiting) × ((hearing_bytes (reading l.identity.key bytes) s.link).items ≡ []))
      (by_reading (reading l.identity.key bytes)) (λ shut. when_told (reading l.identity.key bytes))
    where
      by_reading : (what : Result Pdu PduFault) → is_open (hearing_bytes what l).link.phase ≡ false
          → (length (hearing_bytes what l).link.waiting ≤ length l.waiting) × ((hearing_bytes what l).items ≡ [])
      by_reading (Err fault) shut = absurd (false≢true (sym shut ∙ is_in))
      by_reading (Ok p) shut = hearing_shuts p l is_in joined (subst (λ (n : ℕ). n < l.own_stamp + 1800) (sym settled_at.clock) settled_at.young) shut

      when_told : (what : Result Pdu PduFault) → (length (hearing_bytes what (telling Reason.Sequence l).link).link.waiting ≤ length l.waiting)
          × ((hearing_bytes what (telling Reason.Sequence l).link).items ≡ [])
      when_told what = quiet_bytes what (telling Reason.Sequence l).link (told_shut l).0 (told_shut l).1
          (λ (r : Receipt). (length r.link.waiting ≤ length l.waiting) × (r.items ≡ [])) (λ why. (omega arith, refl))

-- a call after which an end is outside that was in a connection
leaving_window : (call : Call) (moment : ℕ) (end : EndState) → is_open end.link.phase ≡ true → IsSettledAt (reading_of end.clock) end.link → is_asking end.link ≡ false
    → is_open (outcome call moment end).link.phase ≡ false
    → (length (outcome call moment end).link.waiting ≤ length end.link.waiting + length (outcome call moment end).given) × ((outcome call moment end).taken ≡ [])
unfolding outcome
leaving_window Ticks moment end is_in at joined shut = let w = ticks_window (reading_of end.clock) end.link is_in at in (omega (arith, w), refl)
leaving_window Opens moment end is_in at joined shut = let w = opens_window (reading_of end.clock) end.link is_in at in (omega (arith, w), refl)
leaving_window (Closes why) moment end is_in at joined shut = let w = closes_window (reading_of end.clock) end.link is_in at why in (omega (arith, w), refl)
leaving_window (Sends item) moment end is_in at joined shut = (sends_window (reading_of end.clock) end.link is_in at item, refl)
leaving_window (Receives bytes connection) moment end is_in at joined shut =
    let w = receives_window (reading_of end.clock) end.link is_in at joined bytes shut
    in let few = w.0
    in (omega (arith, few), w.1)

-- ---- calls at a server outside

-- nothing of its window grows, nothing is taken, and where it enters a connection that has no items yet
record Outside (enters : Option ℕ) (waiting old : List Unconfirmed) (taken : List (List ℕ)) : Type 0 where
  pub fewer : length waiting ≤ length old
  pub anew : (connection : ℕ) → enters ≡ Some connection → waiting ≡ []
  pub none : taken ≡ []

taken_is : (what : Verdict) → is_taken what ≡ true → what ≡ Verdict.Taken
taken_is what e = grind (arith, e)

granting_none : (p : Pdu) (o : Opening) (l : LinkState) → (granting p o l).link.waiting ≡ []
unfolding granting judging sending telling meeting beginning
granting_none p o l = choose (pointwise nat_eq o.version own_version) (o.window == window_size)
  where
    met : LinkState
    met = meeting p (beginning l)

    choose : (a b : Bool) → (if a then (if b then sending (ConnectionResponse own_opening) met else telling Reason.Window met) else telling Reason.Version met).link.waiting ≡ []
    choose true true = refl
    choose true false = refl
    choose false b = refl

module _ (laws : LawsBelow) (end : EndState) (shut : is_open end.link.phase ≡ false) (server : is_client end.link.identity.role ≡ false) where
  abbrev at : LinkState
  at = record end.link { clock = reading_of end.clock }

  entered_so : (P : Step → Type 0) → P (silent at) → P (entered (reading_of end.clock) end.link)
  entered_so P = subst P (sym (laws.connection_begins_entering (reading_of end.clock) end.link shut))

  quiet : (enters : Option ℕ) → enters ≡ None → Outside enters end.link.waiting end.link.waiting []
  quiet enters none = record { fewer = omega arith; anew = λ connection e. absurd (none-some connection (sym none ∙ e)); none = refl }

  -- what comes to it
  abbrev OutsideBy : ℕ → Receipt → Type 0
  OutsideBy connection r = Outside (if not (is_open end.link.phase) && is_taken r.verdict then Some connection else None) r.link.waiting end.link.waiting r.items

  by_hearing : (connection : ℕ) (p : Pdu) → HearsOutside p at (hearing p at) → OutsideBy connection (hearing p at)
  by_hearing connection p (refuses why differs same) = subst (OutsideBy connection) (sym same) (quiet _ (refused (is_taken why) refl))
    where
      refused : (b : Bool) → is_taken why ≡ b → (if not (is_open end.link.phase) && is_taken why then Some connection else None) ≡ None
      refused true e = absurd (differs (taken_is why e))
      refused false e = ap (λ (t : Bool). if not (is_open end.link.phase) && t then Some connection else None) e ∙ off (not (is_open end.link.phase))
        where
          off : (a : Bool) → (if a && false then Some connection else None) ≡ None
          off true = refl
          off false = refl
  by_hearing connection p (grants o is_server body down late same) = subst (OutsideBy connection) (sym same)
      (record { fewer = let none = ap length (granting_none p o at) in omega (arith, none); anew = λ c e. granting_none p o at; none = refl })

  outside_call : (call : Call) (moment : ℕ) → Outside (outcome call moment end).enters (outcome call moment end).link.waiting end.link.waiting (outcome call moment end).taken
  unfolding outcome ticking opening opens closing_by sending_item acceptance receiving hearing_bytes
  outside_call Ticks moment = entered_so (λ (s : Step). Outside None (then_do s beating).link.waiting end.link.waiting [])
      (subst (λ (s : Step). Outside None s.link.waiting end.link.waiting []) (sym (beats_not at shut)) (quiet None refl))
  outside_call Opens moment = entered_so (λ (s : Step). Outside (if may_open s.link then Some moment else None)
      (then_do s (λ k. if may_open k then requesting k else silent k)).link.waiting end.link.waiting [])
      (opens_none (may_open at) (rw server refl))
    where
      opens_none : (b : Bool) → b ≡ false → Outside (if b then Some moment else None) (if b then requesting at else silent at).link.waiting end.link.waiting []
      opens_none true e = absurd (false≢true (sym e))
      opens_none false e = quiet None refl
  outside_call (Closes why) moment = entered_so (λ (s : Step). Outside None (then_do s (λ k. if is_open k.phase then closing why k else silent k)).link.waiting end.link.waiting [])
      (none_closes (is_open end.link.phase) shut)
    where
      none_closes : (b : Bool) → b ≡ false → Outside None (if b then closing why at else silent at).link.waiting end.link.waiting []
      none_closes true e = absurd (false≢true (sym e))
      none_closes false e = quiet None refl
  outside_call (Sends item) moment = entered_so (λ (s : Step). Outside None (then_do s (λ k. if is_ok (acceptance k) then giving item k else silent k)).link.waiting end.link.waiting [])
      (none_sends (is_ok (acceptance at)) (rw (not_up end.link.phase shut) refl))
    where
      none_sends : (b : Bool) → b ≡ false → Outside None (if b then giving item at else silent at).link.waiting end.link.waiting []
      none_sends true e = absurd (false≢true (sym e))
      none_sends false e = quiet None refl
  outside_call (Receives bytes connection) moment = entered_so (λ (s : Step). OutsideBy connection (hearing_bytes (reading end.link.identity.key bytes) s.link))
      (by_reading (reading end.link.identity.key bytes))
    where
      by_reading : (what : Result Pdu PduFault) → OutsideBy connection (hearing_bytes what at)
      by_reading (Err fault) = quiet _ (off (not (is_open end.link.phase)))
        where
          off : (a : Bool) → (if a && false then Some connection else None) ≡ None
          off true = refl
          off false = refl
      by_reading (Ok p) = by_hearing connection p (laws.connection_begins_hearing p at shut)

-- ---- an event after which the server is outside

-- few wait after a call in which it enters a connection, or none
abbrev FewThen : ℕ → EndState → Outcome → Option ℕ → Type 0
FewThen few end made enters = length (kept enters end.taken ++ made.taken) + length made.link.waiting ≤ length (kept enters end.given ++ made.given) + few

module _ (laws : LawsBelow) (names : Names) (few : ℕ) (ends : Ends) (timely : Timely names ends) (before : FewOfServerWait few ends) where
  of_call : (call : Call) → is_open (outcome call ends.moment ends.server).link.phase ≡ false → FewOfServerWait few (called Role.Server call ends)
  unfolding called end_after
  of_call call shut = by_open (is_open ends.server.link.phase) refl
    where
      serves : is_client ends.server.link.identity.role ≡ false
      serves = ap (λ (i : Identity). is_client i.role) timely.server.identity

      made : Outcome
      made = outcome call ends.moment ends.server

      stays : made.taken ≡ [] → length made.link.waiting ≤ length ends.server.link.waiting + length made.given → FewThen few ends.server made None
      stays none window =
          let t = as_many_both ends.server.taken made.taken
          in let g = as_many_both ends.server.given made.given
          in let z = ap length none
          in omega (arith, t, g, z, window, before)

      by_enters : (found : Option ℕ) → made.enters ≡ found → Outside made.enters made.link.waiting ends.server.link.waiting made.taken → FewThen few ends.server made found
      by_enters None e out = let w = out.fewer in stays out.none (omega (arith, w))
      by_enters (Some connection) e out = let w = ap length (out.anew connection e) in let z = ap length out.none in omega (arith, w, z)

      by_open : (b : Bool) → is_open ends.server.link.phase ≡ b → FewThen few ends.server made made.enters
      by_open true e =
          let left = leaving_window call ends.moment ends.server e (settled_so laws names ends Role.Server timely e) (never_asks ends.server.link serves) shut
          in subst (FewThen few ends.server made) (sym (server_enters_none laws names ends timely e call)) (stays left.1 left.0)
      by_open false e = by_enters made.enters refl (outside_call laws ends.server e serves call ends.moment)

  -- time closes an end, and leaves its window
  settled_window : (now : ℕ) (l : LinkState) → length (settled now l).waiting ≡ length l.waiting
  unfolding settled
  settled_window now l = choose (is_open l.phase && nat_le (deadline l) now)
    where
      choose : (b : Bool) → length (if b then record l { phase = Phase.Closed; closed_at = deadline l; clock = now } else record l { clock = now }).waiting ≡ length l.waiting
      choose true = refl
      choose false = refl

  of_time : (elapsed of_clients of_servers : ℕ) → FewOfServerWait few (later elapsed of_clients of_servers ends)
  unfolding later end_later
  of_time elapsed of_clients of_servers = let w = settled_window (reading_of (ends.server.clock + of_servers)) ends.server.link in omega (arith, w, before)

  of_anew : (who : Role) (clock first : ℕ) → FewOfServerWait few (restarted who clock first ends)
  unfolding restarted end_restarted created
  of_anew Role.Client clock first = before
  of_anew Role.Server clock first = omega (arith, before)

  outside_few : (event : Event) → is_open (happened event ends).server.link.phase ≡ false → FewOfServerWait few (happened event ends)
  unfolding called end_after lost
  outside_few (Calls Role.Client call) shut = before
  outside_few (Calls Role.Server call) shut = of_call call shut
  outside_few (TimePasses elapsed of_clients of_servers) shut = of_time elapsed of_clients of_servers
  outside_few (Loses bytes) shut = before
  outside_few (Restarts who clock first) shut = of_anew who clock first
  outside_few (Elsewhere count) shut = before

-- ---- every event

-- what a server took was given
taken_given : (names : Names) (ends : Ends) → AreTogether names ends → length ends.server.taken ≤ length ends.client.given
taken_given names ends t =
    let took = ap length (sym t.server_taken ∙ t.order.there.taken)
    in let m = at_most (t.client.passed t.server.reached) t.client.given
    in let p = t.order.there.counts.passed t.server.reached t.order.there.counts.most
    in let g = ap length t.client_given
    in omega (arith, took, m, p, g)

pub event_window : (laws : LawsBelow) (names : Names) (event : Event) (ends : Ends) (spare owed : ℕ) → AreNames names → Timely names ends → Ordered names ends → May names event ends
    → ServerConfirming names spare ends → FewOfServerLeft (spare + owed) ends → FewOfServerWait (spare + owed) ends
    → (AreIn (happened event ends) → AwaitsAnswers spare (happened event ends)) → (AreIn ends → ClientHasLeft (happened event ends) → ClientOwes owed (happened event ends))
    → FewOfServerWait (spare + owed) (happened event ends)
event_window laws names event ends spare owed are timely ordered may confirming left before awaits owes = by_server (is_open (happened event ends).server.link.phase) refl
  where
    by_client : is_open (happened event ends).server.link.phase ≡ true → (b : Bool) → is_open (happened event ends).client.link.phase ≡ b → FewOfServerWait (spare + owed) (happened event ends)
    by_client opened true e =
        let few = (event_confirms_servers laws names event ends spare are timely ordered may confirming awaits (record { client = e; server = opened })).few
        in omega (arith, few)
    by_client opened false e =
        let few = event_left_servers laws names are spare owed ends timely ordered confirming left event may owes (record { client = e; server = opened })
        in let one = together_in names (happened event ends) (laws.every_event_keeps_time names event ends are timely may) (laws.every_event_keeps_order_kept names event ends are timely ordered may) opened
        in let t = taken_given names (happened event ends) one
        in omega (arith, few, t)

    by_server : (b : Bool) → is_open (happened event ends).server.link.phase ≡ b → FewOfServerWait (spare + owed) (happened event ends)
    by_server true e = by_client e (is_open (happened event ends).client.link.phase) refl
    by_server false e = outside_few laws names (spare + owed) ends timely before event e
