-- An end that has joined a connection, in a round in which heartbeats and new items come alone: it stays in it, and gives on.
use Rattle.rasta_core_recovery.proofs.Words.Basics.{◌≡◌, ℕ, ◌∙◌, ◌-◌, ◌≤◌, List, [], ◌∷◌, ◌++◌, append-nil, append_assoc, if◌then◌else◌, refl, sym, ap, subst, arith, is_ok}
use Rattle.rasta_core_recovery.proofs.Words.Links.{LinkState, Step, header_of, answer_to_send, opens, behind, taking, hearing, Unconfirmed, Role, Pdu, Each, EndState, Call, Ticks, Opens, Closes, Sends, Receives, outcome, end_after, reading_of}
use Rattle.rasta_core.specs.EndFlow.{later as waiting_from}
use Rattle.rasta_core_recovery.proofs.Lemmas.Rounds.Links.{heard}
use Rattle.rasta_core_recovery.proofs.Lemmas.Rounds.Given.{Grows, grows_none, grows_then, fewer_wait}
use Rattle.rasta_core_recovery.proofs.Lemmas.Rounds.Acts.{Act, Hears, Beats, Asks, Gives, did, all_did, brought, all_brought, clock_acts, IsGift, IsWork, HasRoom, Roomy}
use Rattle.rasta_core_recovery.proofs.Lemmas.Rounds.Calls.{heard_lives, may_not_open}
use Rattle.rasta_core_recovery.proofs.Lemmas.Rounds.Words.{IsPlain, IsSimple, simple_plain, says_most}
use Rattle.rasta_core_recovery.proofs.Lemmas.Rounds.Deed.{Deed, leaves, keeps, asks, takes, hears}
use Rattle.rasta_core_recovery.proofs.Lemmas.Rounds.Fold.{same_clock}
use Rattle.rasta_core_recovery.proofs.Lemmas.Rounds.Own.{lives_of, own_utters}
use Rattle.rasta_core_recovery.proofs.Lemmas.Rounds.Course.{Joined, lively, asked_joined, taken_joined}
use Rattle.rasta_core_recovery.proofs.Lemmas.AtWork.WorkTurn.{IsSimplePdu, utters_joined}

-- before each act, and after the last, it is in its connection
abbrev pub Within : ℕ → List Act → LinkState → Type 0
Within now [] l = Joined now l
Within now (first ∷ others) l = Joined now l × Within now others (did now first l).link

-- ---- one act

simple_deed : (now : ℕ) (p : Pdu) (l k : LinkState) (qs : List Pdu) → Joined now l → IsSimple p.body → Deed p l k qs → Joined now k × Grows l k
simple_deed now p l k qs is simple (leaves why left) = absurd (why simple)
simple_deed now p l k qs is simple (keeps b same none) = subst (λ (j : LinkState). Joined now j × Grows l j) (sym same) (is, grows_none l)
simple_deed now p l k qs is simple (asks passes apart a) = (
  asked_joined now l k qs is a,
  subst (Grows l) (sym a.link) (record { sent = omega arith; waits = λ few. (omega arith, λ number most. omega arith) }),
)
simple_deed now p l k qs is simple (takes passes t) = (
  taken_joined now p l k qs is passes t,
  record {
    sent = says_most IsPlain (header_of (taking p l)) l.sent qs k.sent t.answers;
    waits = λ few. (omega (arith, t.given), λ number most. let fewer = few_of number in omega (arith, t.given, fewer));
  },
)
  where
    few_of : (number : ℕ) → waiting_from number k.waiting ≤ waiting_from number l.waiting
    few_of number = subst (λ (w : List Unconfirmed). waiting_from number w ≤ waiting_from number l.waiting) (sym (t.waiting (simple_plain p.body simple))) (fewer_wait (l.sent - 1 - behind p l) number l.waiting)

heard_grows : (now : ℕ) (p : Pdu) (l : LinkState) → Joined now l → HasRoom l → IsSimple p.body → Joined now (heard now p l).link × Grows l (heard now p l).link
heard_grows now p l is room simple = simple_deed now p l (heard now p l).link (heard now p l).pdus is simple
    (subst (λ (s : Step). Deed p l s.link s.pdus) (sym same) (hears p l is.connected is.joined (omega (arith, is.young, is.clock))))
  where
    same : heard now p l ≡ record { link = (hearing p l).link; pdus = (hearing p l).pdus }
    same = heard_lives now p l (record { connected = is.connected; young = is.young; room = room is.connected })
        ∙ ap (λ (k : LinkState). record { link = (hearing p k).link; pdus = (hearing p k).pdus }) (same_clock now l is.clock)

pub did_grows : (now : ℕ) (a : Act) (l : LinkState) → Joined now l → HasRoom l → Each IsSimplePdu (brought a) → Joined now (did now a l).link × Grows l (did now a l).link
unfolding did
did_grows now (Hears p) l is room simple = heard_grows now p l is room simple.0
did_grows now Beats l is room simple = let u = own_utters now Beats l tt (lively now l is) room in (utters_joined now l _ _ is u, u.grows)
did_grows now Asks l is room simple = let u = own_utters now Asks l tt (lively now l is) room in (utters_joined now l _ _ is u, u.grows)
did_grows now (Gives item) l is room simple = let u = own_utters now (Gives item) l tt (lively now l is) room in (utters_joined now l _ _ is u, u.grows)

-- ---- all of them

pub each_split : {X : Type 0} (P : X → Type 0) (xs ys : List X) → Each P (xs ++ ys) → Each P xs × Each P ys
each_split P [] ys each = (tt, each)
each_split P (x ∷ xs) ys each = let more = each_split P xs ys each.1 in ((each.0, more.0), more.1)

pub all_grow : (now : ℕ) (acts : List Act) (l : LinkState) → Joined now l → Roomy now acts l → Each IsSimplePdu (all_brought acts) → Within now acts l × Grows l (all_did now acts l).link
unfolding all_did
all_grow now [] l is room simple = (is, grows_none l)
all_grow now (first ∷ others) l is room simple =
    let each = each_split IsSimplePdu (brought first) (all_brought others) simple in
    let one = did_grows now first l is room.0 each.0 in
    let more = all_grow now others (did now first l).link one.0 room.1 each.1 in
    ((is, more.0), grows_then l (did now first l).link (all_did now others (did now first l).link).link one.1 more.1)

-- ---- what comes in a round

pub brought_both : (one other : List Act) → all_brought (one ++ other) ≡ all_brought one ++ all_brought other
brought_both [] other = refl
brought_both (first ∷ one) other = ap (λ (ps : List Pdu). brought first ++ ps) (brought_both one other) ∙ sym (append_assoc (brought first) (all_brought one) (all_brought other))

pub gifts_bring_none : (acts : List Act) → Each IsGift acts → all_brought acts ≡ []
gifts_bring_none [] each = refl
gifts_bring_none (Hears p ∷ acts) each = absurd each.0
gifts_bring_none (Beats ∷ acts) each = absurd each.0
gifts_bring_none (Asks ∷ acts) each = absurd each.0
gifts_bring_none (Gives item ∷ acts) each = gifts_bring_none acts each.1

pub clock_brings_none : (who : Role) (acts : List Act) → Each IsGift acts → all_brought (clock_acts who ++ acts) ≡ []
clock_brings_none Role.Client acts each = gifts_bring_none acts each
clock_brings_none Role.Server acts each = gifts_bring_none acts each

pub work_brings : (who : Role) (due : List Pdu) (acts : List Act) → IsWork who due acts → all_brought acts ≡ due
work_brings who due acts w = ap all_brought w.are ∙ brought_both w.front (clock_acts who ++ w.back) ∙ ap (λ (ps : List Pdu). all_brought w.front ++ ps) (clock_brings_none who w.back w.behind) ∙ append-nil (all_brought w.front) ∙ w.brings

-- ---- what a call in a connection is to an end

-- The end goes on in its last connection, and gives on in it.
pub record Continues (old new : EndState) : Type 0 where
  pub connection : new.connection ≡ old.connection
  pub more : List (List ℕ)
  pub given : new.given ≡ old.given ++ more

pub continues_none : (end : EndState) → Continues end end
continues_none end = record { connection = refl; more = []; given = sym (append-nil end.given) }

pub continues_then : (a b c : EndState) → Continues a b → Continues b c → Continues a c
continues_then a b c x y = record {
  connection = y.connection ∙ x.connection;
  more = x.more ++ y.more;
  given = y.given ∙ ap (λ (items : List (List ℕ)). items ++ y.more) x.given ∙ append_assoc a.given x.more y.more;
}

pub call_continues : (call : Call) (moment : ℕ) (end : EndState) → Joined (reading_of end.clock) end.link → HasRoom end.link → Continues end (end_after (outcome call moment end) moment end)
unfolding outcome end_after opens
call_continues Ticks moment end is room = record { connection = refl; more = []; given = refl }
call_continues (Closes why) moment end is room = record { connection = refl; more = []; given = refl }
call_continues (Sends item) moment end is room = record { connection = refl; more = if is_ok (answer_to_send (reading_of end.clock) end.link) then item ∷ [] else []; given = refl }
call_continues Opens moment end is room = rw (may_not_open (reading_of end.clock) end.link (lives_of (reading_of end.clock) end.link (lively (reading_of end.clock) end.link is) room)) (record { connection = refl; more = []; given = refl })
call_continues (Receives bytes connection) moment end is room = rw is.connected (record { connection = refl; more = []; given = refl })
