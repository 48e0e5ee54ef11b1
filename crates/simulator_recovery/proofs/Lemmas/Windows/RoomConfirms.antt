-- How few items of a server wait whose client awaits its answers, event by event of their link.
use Rattle.simulator_recovery.proofs.Words.Basics.{◌≡◌, ℕ, ◌∙◌, ◌+◌, ◌-◌, ◌<◌, ◌≤◌, Bool, true, false, ◌&&◌, nat_lt, nat_le, List, [], ◌++◌, length, Option, Some, None, if◌then◌else◌, refl, sym, ap, subst, arith, is_ok, false≢true, nat_tests, length-append, ◌∷◌}
use Rattle.simulator_recovery.proofs.Words.Links.{acceptance, closing_by, opening, opens, sending_item, ticking, deadline, open_state, settled, state_at, Call, Closes, EndState, Opens, Outcome, Receives, Sends, Ticks, end_after, kept, newer, outcome, reading_of, is_down, may_open, requesting, connection_limit, beating, closed, closing, entered, giving, is_told, limited, sending, silent, telling, LinkState, is_client, is_open, is_up, Phase, Reason, Heartbeat, AreIn, AwaitsAnswers, ClientHasLeft, ClientOwes, FewOfServerLeft, FewOfServerWait, ServerConfirming, Each, end_later, end_restarted, Calls, Elsewhere, Event, Loses, May, MayRun, Passes, Restarts, happened, run, Timely, AreNames, Names, Ordered, Ends, called, later, lost, restarted, Role}
use Rattle.simulator_recovery.proofs.Words.Recovery.{LawsBelow}
use Rattle.simulator_recovery.proofs.Lemmas.Ground.LinkCounts.{settled_closed, settled_open}
use Rattle.simulator_recovery.proofs.Lemmas.Windows.PointConfirms.{count_none, IsReply, KeepsLists}

-- ---- a client that was in a connection at some reading of its clock opens no other at the same reading: it is still in it, or has closed at that reading, and is quiet

-- A link is in a connection at this reading, or closed at it.
pub data Recent (now : ℕ) (l : LinkState) : Type 0 where
  inside : is_open l.phase ≡ true → now < l.own_stamp + 1800 → Recent now l
  closed_now : is_open l.phase ≡ false → l.closed_at ≡ now → Recent now l

-- the same, with the clock at this reading
pub record RecentAt (now : ℕ) (l : LinkState) : Type 0 where
  pub recent : Recent now l
  pub clock : l.clock ≡ now

deadline_open : (l : LinkState) → is_open l.phase ≡ true → deadline l ≡ l.own_stamp + 1800
unfolding deadline
deadline_open l opened = rw opened refl

-- a link that is settled, and in a connection
pub recent_in : (now : ℕ) (l : LinkState) → settled now l ≡ l → is_open l.phase ≡ true → Recent now l
recent_in now l same opened =
    let so = settled_open now l (ap (λ (k : LinkState). is_open k.phase) same ∙ opened)
    in inside opened (subst (λ (n : ℕ). now < n) (deadline_open l opened) so.2)

recent_like : (now : ℕ) (l k : LinkState) → k.phase ≡ l.phase → k.own_stamp ≡ l.own_stamp → k.closed_at ≡ l.closed_at → Recent now l → Recent now k
recent_like now l k p s c (inside opened young) = inside (ap is_open p ∙ opened) (subst (λ (n : ℕ). now < n + 1800) (sym s) young)
recent_like now l k p s c (closed_now shut at) = closed_now (ap is_open p ∙ shut) (c ∙ at)

-- ---- calls

settled_recent : (now : ℕ) (l : LinkState) → Recent now l → settled now l ≡ record l { clock = now }
unfolding settled deadline
settled_recent now l (inside opened young) = rw (opened, early) refl
  where
    early : nat_le (l.own_stamp + 1800) now ≡ false
    early = grind (arith, nat_tests, young)
settled_recent now l (closed_now shut at) = settled_closed now l shut

limited_recent : (now : ℕ) (l : LinkState) → RecentAt now l → RecentAt now (limited l).link
unfolding limited telling sending
limited_recent now l r = choose (is_open l.phase && nat_le connection_limit l.sent)
  where
    choose : (b : Bool) → RecentAt now (if b then telling Reason.Sequence l else silent l).link
    choose true = record { recent = closed_now refl r.clock; clock = r.clock }
    choose false = r

-- how each call begins
entered_recent : (now : ℕ) (l : LinkState) → Recent now l → RecentAt now (entered now l).link
unfolding entered
entered_recent now l r = subst (λ (k : LinkState). RecentAt now (limited k).link) (sym (settled_recent now l r))
    (limited_recent now (record l { clock = now }) (record { recent = recent_like now l (record l { clock = now }) refl refl refl r; clock = refl }))

ticking_recent : (now : ℕ) (l : LinkState) → Recent now l → Recent now (ticking now l).link
unfolding ticking beating sending
ticking_recent now l r = choose (is_up k.phase && nat_le 300 (k.clock - k.sent_at))
  where
    k : LinkState
    k = (entered now l).link

    choose : (b : Bool) → Recent now (if b then sending Heartbeat k else silent k).link
    choose true = recent_like now k (sending Heartbeat k).link refl refl refl (entered_recent now l r).recent
    choose false = (entered_recent now l r).recent

closing_recent : (now : ℕ) (why : Reason) (l : LinkState) → Recent now l → Recent now (closing_by now why l).link
unfolding closing_by closing telling sending
closing_recent now why l r = choose (is_open k.phase) (is_told why)
  where
    k : LinkState
    k = (entered now l).link

    at : RecentAt now k
    at = entered_recent now l r

    choose : (a b : Bool) → Recent now (if a then (if b then telling why k else silent (closed k)) else silent k).link
    choose true true = closed_now refl at.clock
    choose true false = closed_now refl at.clock
    choose false b = at.recent

sending_recent : (now : ℕ) (item : List ℕ) (l : LinkState) → Recent now l → Recent now (sending_item now item l).link
unfolding sending_item giving sending
sending_recent now item l r = choose (is_ok (acceptance k))
  where
    k : LinkState
    k = (entered now l).link

    choose : (b : Bool) → Recent now (if b then giving item k else silent k).link
    choose true = recent_like now k (giving item k).link refl refl refl (entered_recent now l r).recent
    choose false = (entered_recent now l r).recent

-- ---- it opens none

open_not_down : (p : Phase) → is_open p ≡ true → is_down (open_state p) ≡ false
open_not_down Phase.Closed e = absurd (false≢true e)
open_not_down Phase.Start e = refl
open_not_down Phase.Up e = refl
open_not_down Phase.RetransmissionRequested e = refl
open_not_down Phase.RetransmissionRunning e = refl

not_down : (now : ℕ) (l : LinkState) → Recent now l → is_down (state_at now l) ≡ false
unfolding state_at deadline
not_down now l (inside opened young) = rw (opened, early) (open_not_down l.phase opened)
  where
    early : nat_lt now (l.own_stamp + 1800) ≡ true
    early = grind (arith, nat_tests, young)
not_down now l (closed_now shut at) = rw (shut, quiet) refl
  where
    quiet : nat_lt now (l.closed_at + 6000) ≡ true
    quiet = grind (arith, nat_tests, at)

not_opened : (now : ℕ) (l : LinkState) → RecentAt now l → may_open l ≡ false
not_opened now l r = subst (λ (n : ℕ). (is_client l.identity.role && is_down (state_at n l)) ≡ false) (sym r.clock)
    (ap (λ (b : Bool). is_client l.identity.role && b) (not_down now l r.recent) ∙ and_false (is_client l.identity.role))
  where
    and_false : (b : Bool) → (b && false) ≡ false
    and_false true = refl
    and_false false = refl

opens_none : (now : ℕ) (l : LinkState) → Recent now l → opens now l ≡ false
unfolding opens
opens_none now l r = not_opened now (entered now l).link (entered_recent now l r)

opening_recent : (now : ℕ) (l : LinkState) → Recent now l → Recent now (opening now l).link
unfolding opening
opening_recent now l r = subst (λ (b : Bool). Recent now (if b then requesting k else silent k).link) (sym (not_opened now k at)) at.recent
  where
    k : LinkState
    k = (entered now l).link

    at : RecentAt now k
    at = entered_recent now l r

-- ---- what a call of it does at its end

-- a call in which nothing is taken
abbrev pub TakesNone : Call → Type 0
TakesNone (Receives bytes connection) = ⊥
TakesNone _ = Unit {0}

-- An end that stays in its connection gives more at most, and takes nothing.
pub record GivesMore (old new : EndState) : Type 0 where
  pub given : length old.given ≤ length new.given
  pub taken : length new.taken ≡ length old.taken
  pub connection : new.connection ≡ old.connection

pub gives_by : (made : Outcome) (moment : ℕ) (end : EndState) → made.enters ≡ None → made.taken ≡ [] → GivesMore end (end_after made moment end)
unfolding end_after
gives_by made moment end none takes = record {
  given = let g = ap (λ (e : Option ℕ). length (kept e end.given ++ made.given)) none in let b = length-append end.given made.given in omega (arith, g, b);
  taken = ap (λ (e : Option ℕ). length (kept e end.taken ++ made.taken)) none ∙ ap (λ (items : List (List ℕ)). length (end.taken ++ items)) takes ∙ count_none end.taken;
  connection = ap (λ (e : Option ℕ). newer e end.connection) none;
}

-- the outcome of a call at an end that is in a connection at this reading, or closed at it
pub record StaysRecent (now : ℕ) (made : Outcome) : Type 0 where
  pub none : made.enters ≡ None
  pub takes : made.taken ≡ []
  pub recent : Recent now made.link

pub call_recent : (call : Call) (moment : ℕ) (end : EndState) → TakesNone call → Recent (reading_of end.clock) end.link → StaysRecent (reading_of end.clock) (outcome call moment end)
unfolding outcome
call_recent Ticks moment end own r = record { none = refl; takes = refl; recent = ticking_recent (reading_of end.clock) end.link r }
call_recent Opens moment end own r = record {
  none = ap (λ (b : Bool). if b then Some moment else None) (opens_none (reading_of end.clock) end.link r);
  takes = refl;
  recent = opening_recent (reading_of end.clock) end.link r;
}
call_recent (Closes why) moment end own r = record { none = refl; takes = refl; recent = closing_recent (reading_of end.clock) why end.link r }
call_recent (Sends item) moment end own r = record { none = refl; takes = refl; recent = sending_recent (reading_of end.clock) item end.link r }
call_recent (Receives bytes connection) moment end own r = absurd own

-- ---- how few items of a server wait whose client awaits its answers, event by event of their link

-- laws of the link, handed in by who has them
pub record ServerGuarded (names : Names) (spare owed : ℕ) (ends : Ends) : Type 0 where
  pub timely : Timely names ends
  pub ordered : Ordered names ends
  pub confirming : ServerConfirming names spare ends
  pub left : FewOfServerLeft (spare + owed) ends
  pub few : FewOfServerWait (spare + owed) ends

-- the client awaits few answers, and owes few
pub record Awaits (spare owed : ℕ) (ends : Ends) : Type 0 where
  pub answers : AwaitsAnswers spare ends
  pub owes : (connection : ℕ) → ends.client.connection ≡ Some connection → ends.server.connection ≡ Some connection → ClientOwes owed ends

-- an event that leaves the client as it is
abbrev pub SparesClient : Event → Type 0
SparesClient (Calls Role.Server call) = Unit {0}
SparesClient (Loses bytes) = Unit {0}
SparesClient (Elsewhere count) = Unit {0}
SparesClient _ = ⊥

-- such a call of the client, or something elsewhere
abbrev pub AtClient : (Call → Type 0) → Event → Type 0
AtClient Is (Calls Role.Client call) = Is call
AtClient Is (Elsewhere count) = Unit {0}
AtClient Is _ = ⊥

reply_takes_none : (call : Call) → IsReply call → TakesNone call
reply_takes_none Ticks reply = tt
reply_takes_none Opens reply = tt
reply_takes_none (Closes why) reply = tt
reply_takes_none (Sends item) reply = tt
reply_takes_none (Receives bytes connection) reply = absurd reply

own_of_said : (events : List Event) → Each (AtClient IsReply) events → Each (AtClient TakesNone) events
own_of_said [] said = tt
own_of_said (first ∷ others) said = (one first said.0, own_of_said others said.1)
  where
    one : (event : Event) → AtClient IsReply event → AtClient TakesNone event
    one (Calls Role.Client call) is = reply_takes_none call is
    one (Calls Role.Server call) is = absurd is
    one (Passes elapsed of_client of_server) is = absurd is
    one (Loses bytes) is = absurd is
    one (Restarts who clock first) is = absurd is
    one (Elsewhere count) is = tt

-- ---- what the client gives

-- The client gives more at most, and the server stays as it is.
record GoesOn (old new : Ends) : Type 0 where
  client : GivesMore old.client new.client
  server : new.server ≡ old.server

goes_same : (ends : Ends) → GoesOn ends ends
goes_same ends = record { client = record { given = omega arith; taken = refl; connection = refl }; server = refl }

goes_elsewhere : (ends : Ends) (count : ℕ) → GoesOn ends (happened (Elsewhere count) ends)
goes_elsewhere ends count = record { client = record { given = omega arith; taken = refl; connection = refl }; server = refl }

goes_then : (one two three : Ends) → GoesOn one two → GoesOn two three → GoesOn one three
goes_then one two three first second = record {
  client = record {
    given = let a = first.client.given in let b = second.client.given in omega (arith, a, b);
    taken = second.client.taken ∙ first.client.taken;
    connection = second.client.connection ∙ first.client.connection;
  };
  server = second.server ∙ first.server;
}

abbrev RecentClient : Ends → Type 0
RecentClient ends = Recent (reading_of ends.client.clock) ends.client.link

-- a call that opens nothing
said_goes_one : (event : Event) (ends : Ends) → AtClient IsReply event → GoesOn ends (happened event ends)
unfolding called outcome
said_goes_one (Calls Role.Client Ticks) ends said = record { client = gives_by (outcome Ticks ends.moment ends.client) ends.moment ends.client refl refl; server = refl }
said_goes_one (Calls Role.Client (Closes why)) ends said = record { client = gives_by (outcome (Closes why) ends.moment ends.client) ends.moment ends.client refl refl; server = refl }
said_goes_one (Calls Role.Client (Sends item)) ends said = record { client = gives_by (outcome (Sends item) ends.moment ends.client) ends.moment ends.client refl refl; server = refl }
said_goes_one (Calls Role.Client Opens) ends said = absurd said
said_goes_one (Calls Role.Client (Receives bytes connection)) ends said = absurd said
said_goes_one (Calls Role.Server call) ends said = absurd said
said_goes_one (Passes elapsed of_client of_server) ends said = absurd said
said_goes_one (Loses bytes) ends said = absurd said
said_goes_one (Restarts who clock first) ends said = absurd said
said_goes_one (Elsewhere count) ends said = goes_elsewhere ends count

said_goes : (events : List Event) (ends : Ends) → Each (AtClient IsReply) events → GoesOn ends (run events ends)
said_goes [] ends said = goes_same ends
said_goes (first ∷ others) ends said = goes_then ends (happened first ends) (run others (happened first ends)) (said_goes_one first ends said.0) (said_goes others (happened first ends) said.1)

-- a client that is in a connection at this reading, or closed at it, opens nothing
own_goes_one : (event : Event) (ends : Ends) → AtClient TakesNone event → RecentClient ends → GoesOn ends (happened event ends) × RecentClient (happened event ends)
unfolding called end_after
own_goes_one (Calls Role.Client call) ends own r =
    let stays = call_recent call ends.moment ends.client own r
    in (record { client = gives_by (outcome call ends.moment ends.client) ends.moment ends.client stays.none stays.takes; server = refl }, stays.recent)
own_goes_one (Calls Role.Server call) ends own r = absurd own
own_goes_one (Passes elapsed of_client of_server) ends own r = absurd own
own_goes_one (Loses bytes) ends own r = absurd own
own_goes_one (Restarts who clock first) ends own r = absurd own
own_goes_one (Elsewhere count) ends own r = (goes_elsewhere ends count, r)

own_goes : (events : List Event) (ends : Ends) → Each (AtClient TakesNone) events → RecentClient ends → GoesOn ends (run events ends)
own_goes [] ends own r = goes_same ends
own_goes (first ∷ others) ends own r =
    let one = own_goes_one first ends own.0 r
    in goes_then ends (happened first ends) (run others (happened first ends)) one.0 (own_goes others (happened first ends) own.1 one.1)

module _ (laws : LawsBelow) (names : Names) (are : AreNames names) (spare owed : ℕ) where
  abbrev Guards : Ends → Type 0
  Guards ends = ServerGuarded names spare owed ends

  abbrev IsGood : Ends → Type 0
  IsGood ends = Awaits spare owed ends

  one_event : (event : Event) (ends : Ends) → May names event ends → Guards ends → (AreIn (happened event ends) → AwaitsAnswers spare (happened event ends))
      → (AreIn ends → ClientHasLeft (happened event ends) → ClientOwes owed (happened event ends)) → Guards (happened event ends)
  one_event event ends may g answers owes = record {
    timely = laws.every_event_keeps_time names event ends are g.timely may;
    ordered = laws.every_event_keeps_order_kept names event ends are g.timely g.ordered may;
    confirming = laws.what_a_server_takes_confirms_kept names event ends spare are g.timely g.ordered may g.confirming answers;
    left = laws.what_a_server_takes_confirms_left names event ends spare owed are g.timely g.ordered may g.confirming g.left owes;
    few = laws.what_a_server_takes_confirms_ever names event ends spare owed are g.timely g.ordered may g.confirming g.left g.few answers owes;
  }

  owes_then : (ends : Ends) → Timely names ends → IsGood ends → ClientHasLeft ends → ClientOwes owed ends
  owes_then ends timely good left =
      let some = laws.one_connection_some names ends Role.Server timely left.server
      in good.owes some.0 (sym (laws.one_connection_server names ends timely left.server) ∙ some.1) some.1

  -- what is so after all of it was so before
  good_back : (old new : Ends) → GoesOn old new → IsGood new → IsGood old
  good_back old new goes good = record {
    answers = let a = good.answers in let g = goes.client.given in let t = goes.client.taken in omega (arith, a, g, t);
    owes = λ connection e f.
        let o = good.owes connection (goes.client.connection ∙ e) (ap (λ (s : EndState). s.connection) goes.server ∙ f)
        in let g = goes.client.given
        in let t = ap (λ (s : EndState). length s.taken) goes.server
        in omega (arith, o, g, t);
  }

  -- ---- the client stays as it is

  same_client : (event : Event) (ends : Ends) → SparesClient event → (happened event ends).client ≡ ends.client
  unfolding called lost
  same_client (Calls Role.Server call) ends spares = refl
  same_client (Calls Role.Client call) ends spares = absurd spares
  same_client (Passes elapsed of_client of_server) ends spares = absurd spares
  same_client (Loses bytes) ends spares = refl
  same_client (Restarts who clock first) ends spares = absurd spares
  same_client (Elsewhere count) ends spares = refl

  pub spared_guards : (events : List Event) (ends : Ends) → Each SparesClient events → MayRun names events ends → Guards ends → AwaitsAnswers spare ends → Guards (run events ends)
  spared_guards [] ends spares may g answers = g
  spared_guards (first ∷ others) ends spares may g answers =
      let same = same_client first ends spares.0
      in let then_answers = subst (λ (s : EndState). length s.given ≤ length s.taken + spare) (sym same) answers
      in spared_guards others (happened first ends) spares.1 may.1 (one_event first ends may.0 g (λ are_in. then_answers)
      (λ are_in left. absurd (false≢true (sym left.client ∙ ap (λ (s : EndState). is_open s.link.phase) same ∙ are_in.client)))) then_answers

  -- ---- the ends keep what they gave and took

  keeps_good : (event : Event) (ends : Ends) → KeepsLists event → IsGood ends → IsGood (happened event ends)
  unfolding later end_later restarted end_restarted
  keeps_good (Calls who call) ends keeps good = absurd keeps
  keeps_good (Passes elapsed of_client of_server) ends keeps good = record { answers = good.answers; owes = good.owes }
  keeps_good (Loses bytes) ends keeps good = absurd keeps
  keeps_good (Restarts Role.Client clock first) ends keeps good = record { answers = good.answers; owes = good.owes }
  keeps_good (Restarts Role.Server clock first) ends keeps good = record { answers = good.answers; owes = good.owes }
  keeps_good (Elsewhere count) ends keeps good = absurd keeps

  pub kept_guards : (events : List Event) (ends : Ends) → Each KeepsLists events → MayRun names events ends → Guards ends → IsGood ends → Guards (run events ends)
  kept_guards [] ends keeps may g good = g
  kept_guards (first ∷ others) ends keeps may g good =
      let then_good = keeps_good first ends keeps.0 good
      in kept_guards others (happened first ends) keeps.1 may.1 (one_event first ends may.0 g (λ are_in. then_good.answers)
      (λ are_in left. owes_then (happened first ends) (laws.every_event_keeps_time names first ends are g.timely may.0) then_good left)) then_good

  -- ---- the client is called

  recent_client : (ends : Ends) → Timely names ends → is_open ends.client.link.phase ≡ true → RecentClient ends
  recent_client ends timely opened = recent_in (reading_of ends.client.clock) ends.client.link (laws.links_are_settled names ends Role.Client timely) opened

  pub own_guards : (events : List Event) (ends : Ends) → Each (AtClient TakesNone) events → MayRun names events ends → Guards ends → IsGood (run events ends) → Guards (run events ends)
  own_guards [] ends own may g good = g
  own_guards (first ∷ others) ends own may g good =
      let then_timely = laws.every_event_keeps_time names first ends are g.timely may.0
      in own_guards others (happened first ends) own.1 may.1 (one_event first ends may.0 g
      (λ are_in. (back (recent_client (happened first ends) then_timely are_in.client)).answers)
      (λ are_in left. owes_then (happened first ends) then_timely (back (own_goes_one first ends own.0 (recent_client ends g.timely are_in.client)).1) left)) good
    where
      back : RecentClient (happened first ends) → IsGood (happened first ends)
      back r = good_back (happened first ends) (run others (happened first ends)) (own_goes others (happened first ends) own.1 r) good

  -- the first event of a step may be any, where the client opens nothing after it
  pub any_guards : (first : Event) (others : List Event) (ends : Ends) → Each (AtClient IsReply) others → MayRun names (first ∷ others) ends → Guards ends
      → IsGood (run (first ∷ others) ends) → Guards (run (first ∷ others) ends)
  any_guards first others ends said may g good =
      let then_good = good_back (happened first ends) (run others (happened first ends)) (said_goes others (happened first ends) said) good
      in own_guards others (happened first ends) (own_of_said others said) may.1 (one_event first ends may.0 g (λ are_in. then_good.answers)
      (λ are_in left. owes_then (happened first ends) (laws.every_event_keeps_time names first ends are g.timely may.0) then_good left)) good
