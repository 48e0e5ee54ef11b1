-- After whatever events, and whatever comes in the first round of what was sent by then, but for what the server says in it: both ends are up
-- after every round at work from some round on.
use Rattle.rasta_core_recovery.proofs.Words.Basics.{ℕ, zero, suc, ◌⊎◌, inl, inr, ◌∙◌, ◌+◌, ◌≤◌, List, [], ◌∷◌, ◌++◌, length, drop, sym, ap, subst, arith}
use Rattle.rasta_core_recovery.proofs.Words.Links.{LinkState, is_up, Role, Each, Sent, later, Event, IsAmong, MayRun, Passes, Start, started, Names, AreNames, Ordered}
use Rattle.rasta_core_recovery.proofs.Words.Recovery.{AlsoOfClient, BeginAtWork, IsFirstAtWork, WereSent, AreUp, Flow, flow_after, AreAtWork, HaveRoom, IsAtWork, IsWorkAt, LeavesOpen, StayBelow, calls_in, due_to, recovery_rounds_at_work, work_round, work_rounds, LawsBelow}
use Rattle.rasta_core_recovery.proofs.Lemmas.Rounds.Acts.{behind}
use Rattle.rasta_core_recovery.proofs.Lemmas.FirstRound.AnyFirst.{below_first, calls_may, calls_room, later_sent, mirrors_same, waiting_for, waits_asked, waits_later, waits_ordered, waits_timely}
use Rattle.rasta_core_recovery.proofs.Lemmas.Rounds.Bridge.{drop_append, mirror_of}
use Rattle.rasta_core_recovery.proofs.Lemmas.Rounds.Facts.{facts}
use Rattle.rasta_core_recovery.proofs.Lemmas.FirstRound.FirstSaidWork.{OldOrSoon, old_or_soon, q as then_pair, then_mirrors_said}
use Rattle.rasta_core_recovery.proofs.Lemmas.FirstRound.FirstGrants.{asking_of}
use Rattle.rasta_core_recovery.proofs.Lemmas.ComingUp.Hale.{Hale, hale_up}
use Rattle.rasta_core_recovery.proofs.Lemmas.Rounds.Links.{Pair}
use Rattle.rasta_core_recovery.proofs.Lemmas.Rounds.Mirror.{Mirrors}
use Rattle.rasta_core_recovery.proofs.Lemmas.Rounds.Pasts.{Past}
use Rattle.rasta_core_recovery.proofs.Lemmas.Rounds.Holds.{Holds, holds_run, holds_after}
use Rattle.rasta_core_recovery.proofs.Lemmas.AtWork.WorkBridge.{Follows, follows}
use Rattle.rasta_core_recovery.proofs.Lemmas.AtWork.WorkFates.{Soon, soon_on}
use Rattle.rasta_core_recovery.proofs.Lemmas.AtWork.WorkRecovers.{Leads, climbs_of, leads, sound_of}
use Rattle.rasta_core_recovery.proofs.Lemmas.AtWork.WorkRun.{Climb, Run, Sound, last_of}
use Rattle.rasta_core_recovery.proofs.Lemmas.AtWork.WorkSum.{all_come, soon_come}
use Rattle.rasta_core_recovery.proofs.Lemmas.Rounds.Happen.{among_front}

-- rounds of two ends as rounds of two links, in the first of which anything may come that was sent by then, but for what the server says in it
pub record Begins (names : Names) (n : ℕ) (f : Flow) : Type 0 where
  pub last : Pair
  pub mirrors : Mirrors names f last
  pub holds : Holds names f.ends
  pub soon : 1560 ≤ n → Soon names last
  pub hale : 1561 ≤ n → Hale names last

-- what comes to be soon after a first round is a round later
hale_behind : (names : Names) (n : ℕ) (q z : Pair) → ((m : ℕ) (y : Pair) → 1559 ≤ m → Run names m q y → Soon names y) → 1560 ≤ n → Run names n q z → Hale names z
hale_behind names zero q z soon long run = absurd (omega (arith, long))
hale_behind names (suc n) q z soon long run = let l = last_of names n q z run in subst (Hale names) l.ends (soon_on names l.before l.round (soon n l.before (omega (arith, long)) l.run))

module _ (laws : LawsBelow) (names : Names) (are : AreNames names) (f : Flow) (calls : List Event) (start : Holds names f.ends) (is : IsFirstAtWork names f calls)
    (opens : Each LeavesOpen calls)
    (room : HaveRoom calls (later 10000 10000 10000 f.ends)) where
  abbrev h : Flow
  h = work_round calls f

  h_holds : Holds names h.ends
  h_holds = holds_run laws names are (Passes 10000 10000 10000 ∷ calls) f.ends start is.may

  -- ---- where all that comes was sent before

  module _ (were : WereSent f.ends.sent is.due) where
    abbrev w : Flow
    w = waiting_for is.due f

    ordered : Ordered names w.ends
    ordered = waits_ordered names f is.due were start.ordered

    mirror : (p : Pair) × Mirrors names w p
    mirror = mirror_of names w (waits_timely names f is.due were start.timely)

    first_sound : Sound names mirror.0
    first_sound = record {
      facts = facts names w mirror.0 mirror.1 ordered;
      client_past = subst Past mirror.1.client start.pasts.client;
      server_past = subst Past mirror.1.server start.pasts.server;
      below = below_first names f is.due were start.timely start.ordered start.rising mirror.0 mirror.1;
      asking = asking_of names w mirror.0 mirror.1 ordered (waits_asked names f is.due were start.asked);
    }

    comes : (who : Role) → IsWorkAt who (due_to who (f.ends.time + 10000) is.due) (calls_in who calls)
        → IsWorkAt who (due_to who (w.ends.time + 10000) (drop w.passed w.ends.sent)) (calls_in who calls)
    comes who work = subst (λ (ds : List Sent). IsWorkAt who (due_to who (f.ends.time + 10000) ds) (calls_in who calls)) (sym (drop_append f.ends.sent is.due)) work

    at_work : IsAtWork names w calls
    at_work = record {
      may = (
        is.may.0,
        subst (MayRun names calls) (sym (waits_later is.due f))
            (calls_may names calls is.only (later 10000 10000 10000 f.ends) (f.ends.sent ++ is.due)
            (λ d among. among_front d f.ends.sent is.due (subst (IsAmong d) (later_sent f.ends) among)) is.may.1),
      );
      only = is.only;
      client = comes Role.Client is.client;
      server = comes Role.Server is.server;
    }

    first_round : Follows names w mirror.0 calls
    first_round = follows laws names are w mirror.0 calls mirror.1 at_work opens
        (subst (HaveRoom calls) (sym (waits_later is.due f)) (calls_room calls is.only (later 10000 10000 10000 f.ends) (f.ends.sent ++ is.due) room))

    then_holds : Holds names (work_round calls f).ends
    then_holds = holds_run laws names are (Passes 10000 10000 10000 ∷ calls) f.ends start is.may

    then_mirrors : Mirrors names (work_round calls f) (behind mirror.0 first_round.round)
    then_mirrors = mirrors_same names f is.due calls is.only then_holds.timely (behind mirror.0 first_round.round) first_round.mirrors

    was_begun : (others : List (List Event)) → AreAtWork names others (work_round calls f) → Each (Each LeavesOpen) others → StayBelow others (work_round calls f)
        → Begins names (length (calls ∷ others)) (work_rounds others (work_round calls f))
    was_begun others work all_open below = goes_on (leads laws names are others (work_round calls f) (behind mirror.0 first_round.round) then_holds then_mirrors work all_open below)
      where
        goes_on : Leads names (length others) (work_rounds others (work_round calls f)) (behind mirror.0 first_round.round) → Begins names (length (calls ∷ others)) (work_rounds others (work_round calls f))
        goes_on l = record {
          last = l.last;
          mirrors = l.mirrors;
          holds = l.holds;
          soon = λ long. soon_come names (suc (length others)) mirror.0 l.last long first_sound is_run climb;
          hale = λ long. all_come names (suc (length others)) mirror.0 l.last long first_sound is_run climb;
        }
          where
            is_run : Run names (suc (length others)) mirror.0 l.last
            is_run = (first_round.round, sound_of names (work_round calls f) (behind mirror.0 first_round.round) then_holds then_mirrors, l.is_run)

            climb : Climb names (suc (length others)) mirror.0 l.last is_run
            climb = climbs_of names (work_round calls f) (behind mirror.0 first_round.round) then_holds then_mirrors

  -- ---- where what the client says comes, too

  module _ (also : AlsoOfClient calls f is.due) where
    abbrev said_pair : Pair
    said_pair = then_pair laws names are f calls start is also opens room

    also_begun : (others : List (List Event)) → AreAtWork names others (work_round calls f) → Each (Each LeavesOpen) others → StayBelow others (work_round calls f)
        → Begins names (length (calls ∷ others)) (work_rounds others (work_round calls f))
    also_begun others work all_open below = choose (old_or_soon laws names are f calls start is also opens room)
      where
        goes_on : ((n : ℕ) (z : Pair) → 1559 ≤ n → Run names n said_pair z → Soon names z) → Leads names (length others) (work_rounds others (work_round calls f)) said_pair
            → Begins names (length (calls ∷ others)) (work_rounds others (work_round calls f))
        goes_on soon l = record {
          last = l.last;
          mirrors = l.mirrors;
          holds = l.holds;
          soon = λ long. soon (length others) l.last (omega (arith, long)) l.is_run;
          hale = λ long. hale_behind names (length others) said_pair l.last soon (omega (arith, long)) l.is_run;
        }

        choose : OldOrSoon laws names are f calls start is also opens room → Begins names (length (calls ∷ others)) (work_rounds others (work_round calls f))
        choose (inl were) = was_begun were others work all_open below
        choose (inr soon) = goes_on soon (leads laws names are others (work_round calls f) said_pair h_holds (then_mirrors_said laws names are f calls start is also opens room) work all_open below)

  begun : (others : List (List Event)) → AreAtWork names others (work_round calls f) → Each (Each LeavesOpen) others → StayBelow others (work_round calls f)
      → Begins names (length (calls ∷ others)) (work_rounds others (work_round calls f))
  begun others work all_open below = choose is.comes
    where
      choose : WereSent f.ends.sent is.due ⊎ AlsoOfClient calls f is.due → Begins names (length (calls ∷ others)) (work_rounds others (work_round calls f))
      choose (inl were) = was_begun were others work all_open below
      choose (inr also) = also_begun also others work all_open below

pub begins : (laws : LawsBelow) (names : Names) → AreNames names → (rounds : List (List Event)) (f : Flow) → Holds names f.ends → BeginAtWork names rounds f
    → Each (Each LeavesOpen) rounds → StayBelow rounds f
    → Begins names (length rounds) (work_rounds rounds f)
begins laws names are [] f holds work opens room =
    let m = mirror_of names f holds.timely in
    record { last = m.0; mirrors = m.1; holds = holds; soon = λ long. absurd (omega (arith, long)); hale = λ long. absurd (omega (arith, long)) }
begins laws names are (calls ∷ others) f holds work opens room = begun laws names are f calls holds work.0 opens.0 room.0 others work.1 opens.1 room.1

pub recovers_at_work : LawsBelow → (names : Names) (start : Start) (events : List Event) (passed : ℕ) (rounds : List (List Event)) → AreNames names
    → MayRun names events (started names start)
    → BeginAtWork names rounds (flow_after names start events passed) → Each (Each LeavesOpen) rounds → StayBelow rounds (flow_after names start events passed)
    → recovery_rounds_at_work ≤ length rounds → AreUp (work_rounds rounds (flow_after names start events passed)).ends
recovers_at_work laws names start events passed rounds are may work opens room long =
    let f : Flow = flow_after names start events passed in
    let l : Begins names (length rounds) (work_rounds rounds f) = begins laws names are rounds f (holds_after laws names start events are may) work opens room in
    let up = hale_up names l.last (l.hale long) in
    (ap (λ (k : LinkState). is_up k.phase) l.mirrors.client ∙ up.0, ap (λ (k : LinkState). is_up k.phase) l.mirrors.server ∙ up.1)
