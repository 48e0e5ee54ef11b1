-- After whatever events, and whatever comes in the first round of what was sent by then: both ends are up after every good round from some
-- round on.
use Rattle.rasta_core_recovery.proofs.Words.Basics.{◌≡◌, ℕ, inl, inr, ◌≤◌, Bool, true, false, List, refl, suc}
use Rattle.rasta_core_recovery.proofs.Words.Links.{is_open, Sent, Event, MayRun, Start, started, AreNames, Names}
use Rattle.rasta_core_recovery.proofs.Words.Recovery.{ComeFirst, StayBelowLimitFrom, round_of, AreUp, Flow, flow_after, good_rounds, recovery_rounds, EndsAskInTurn, LawsBelow}
use Rattle.rasta_core_recovery.proofs.Lemmas.Asking.Asks.{InIt}
use Rattle.rasta_core_recovery.proofs.Lemmas.Rounds.Bridge.{mirror_of}
use Rattle.rasta_core_recovery.proofs.Lemmas.Rounds.Facts.{young_client}
use Rattle.rasta_core_recovery.proofs.Lemmas.ComingUp.Fates.{in_it_of}
use Rattle.rasta_core_recovery.proofs.Lemmas.FirstRound.FirstAll.{joined_up}
use Rattle.rasta_core_recovery.proofs.Lemmas.FirstRound.FirstApart.{up_asking, up_outside}
use Rattle.rasta_core_recovery.proofs.Lemmas.Rounds.Links.{Pair}
use Rattle.rasta_core_recovery.proofs.Lemmas.Rounds.Mirror.{Mirrors}
use Rattle.rasta_core_recovery.proofs.Lemmas.Rounds.Holds.{Holds, holds_after}
use Rattle.rasta_core_recovery.proofs.Lemmas.Asking.AsksEvents.{asks_after}

-- the client is outside, has joined or asks
up_from : LawsBelow → (names : Names) → AreNames names → (f : Flow) → Holds names f.ends → EndsAskInTurn names f.ends → (due : List Sent) → ComeFirst names due f → (n : ℕ)
    → recovery_rounds ≤ suc n → StayBelowLimitFrom due n f → AreUp (good_rounds n (round_of due f)).ends
up_from laws names are f start asks due comes n long room = by_phase (is_open f.ends.client.link.phase) refl
  where
    mirror : (p : Pair) × Mirrors names f p
    mirror = mirror_of names f start.timely

    inside : InIt f.ends.client.link.clock f.ends.client.link → AreUp (good_rounds n (round_of due f)).ends
    inside (inl joined) = joined_up laws names are f start asks due comes n long room joined
    inside (inr asking) = up_asking laws names are f start due comes n long room asks asking

    by_phase : (b : Bool) → is_open f.ends.client.link.phase ≡ b → AreUp (good_rounds n (round_of due f)).ends
    by_phase false e = up_outside laws names are f start due comes n long room e
    by_phase true e = inside (in_it_of f.ends.client.link e (young_client names f mirror.0 mirror.1 start.ordered e))

pub recovers_whatever_comes : LawsBelow → (names : Names) (start : Start) (events : List Event) (due : List Sent) (n : ℕ) → AreNames names → MayRun names events (started names start)
    → ComeFirst names due (flow_after names start events 0) → recovery_rounds ≤ suc n → StayBelowLimitFrom due n (flow_after names start events 0)
    → AreUp (good_rounds n (round_of due (flow_after names start events 0))).ends
recovers_whatever_comes laws names start events due n are may comes long room =
    up_from laws names are (flow_after names start events 0) (holds_after laws names start events are may)
    (asks_after laws names start events are may)
    due comes n long room
