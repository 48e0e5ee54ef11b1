-- What holds of two ends, whatever has happened to them.
use Rattle.rasta_core_recovery.proofs.Words.Basics.{◌≡◌, Bool, true, List, [], ◌∷◌, if◌then◌else◌, sym, ap, subst, arith}
use Rattle.rasta_core_recovery.proofs.Words.Links.{LinkState, is_open, is_asking, Ends, Event, MayRun, Start, happened, run, started, Names, AreNames, Inside, Outside, own_stamp, standing, Timely, Ordered}
use Rattle.rasta_core_recovery.proofs.Words.Recovery.{NothingFalls, LawsBelow}
use Rattle.rasta_core.specs.TimedEnds.{IsInside}
use Rattle.rasta_core_recovery.proofs.Lemmas.Rounds.Pasts.{Pasts, OwnBefore, run_past, starts_past}
use Rattle.rasta_core_recovery.proofs.Lemmas.Falling.FallsEvents.{event_rises, starts_rising}
use Rattle.rasta_core_recovery.proofs.Lemmas.FirstRound.FirstAsked.{Asked, event_asked, starts_asked}

-- what holds of two ends
pub record Holds (names : Names) (ends : Ends) : Type 0 where
  pub timely : Timely names ends
  pub ordered : Ordered names ends
  pub pasts : Pasts ends
  pub rising : NothingFalls names ends
  pub asked : Asked names ends

own_before : (names : Names) (ends : Ends) → Timely names ends → OwnBefore ends.client.link × OwnBefore ends.server.link
own_before names ends is = (
  λ is_in. let own : own_stamp (standing ends.client.link) ≡ ends.client.link.own_stamp = ap own_stamp (standing_in ends.client.link is_in) in
      omega (arith, own, is.ends_timed.client.reached (subst IsInside (sym (standing_in ends.client.link is_in)) tt), is.client.clock),
  λ is_in. let own : own_stamp (standing ends.server.link) ≡ ends.server.link.own_stamp = ap own_stamp (standing_in ends.server.link is_in) in
      omega (arith, own, is.ends_timed.server.reached (subst IsInside (sym (standing_in ends.server.link is_in)) tt), is.server.clock),
)
  where
    standing_in : (l : LinkState) → is_open l.phase ≡ true → standing l ≡ Inside (is_asking l) l.own_stamp l.partner_stamp
    standing_in l e = ap (λ (b : Bool). if b then Inside (is_asking l) l.own_stamp l.partner_stamp else Outside l.closed_at) e

pub holds_run : LawsBelow → (names : Names) → AreNames names → (events : List Event) (ends : Ends) → Holds names ends → MayRun names events ends → Holds names (run events ends)
holds_run laws names are [] ends is may = is
holds_run laws names are (e ∷ events) ends is may = holds_run laws names are events (happened e ends) (record {
  timely = laws.every_event_keeps_time names e ends are is.timely may.0;
  ordered = laws.every_event_keeps_order_kept names e ends are is.timely is.ordered may.0;
  pasts = run_past laws names are (own_before names) (e ∷ []) ends is.timely is.pasts (may.0, tt);
  rising = event_rises laws names e ends are is.timely is.ordered may.0 is.rising;
  asked = event_asked laws names e ends are is.timely may.0 is.asked;
}) may.1

-- two fresh ends to which these events happened
pub holds_after : LawsBelow → (names : Names) (start : Start) (events : List Event) → AreNames names → MayRun names events (started names start) → Holds names (run events (started names start))
holds_after laws names start events are may = holds_run laws names are events (started names start) (record {
  timely = laws.starts_in_time names start are;
  ordered = laws.every_event_keeps_order_starts names start;
  pasts = starts_past names start;
  rising = starts_rising names start;
  asked = starts_asked names start;
}) may
