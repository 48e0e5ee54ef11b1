-- What rounds at work are to two links.
use Rattle.rasta_core_recovery.proofs.Words.Basics.{◌≡◌, ℕ, ◌∙◌, true, List, [], ◌∷◌, length, refl, ap, subst}
use Rattle.rasta_core_recovery.proofs.Words.Links.{LinkState, is_open, Event, Passes, Each, Names, AreNames}
use Rattle.rasta_core_recovery.proofs.Words.Recovery.{Flow, AreAtWork, LeavesOpen, StayBelow, work_round, work_rounds, LawsBelow}
use Rattle.rasta_core_recovery.proofs.Lemmas.Rounds.Links.{Pair}
use Rattle.rasta_core_recovery.proofs.Lemmas.Rounds.Acts.{behind}
use Rattle.rasta_core_recovery.proofs.Lemmas.Rounds.Mirror.{Mirrors}
use Rattle.rasta_core_recovery.proofs.Lemmas.Rounds.Facts.{facts}
use Rattle.rasta_core_recovery.proofs.Lemmas.FirstRound.FirstGrants.{asking_of}
use Rattle.rasta_core_recovery.proofs.Lemmas.FirstRound.FirstHears.{below_of}
use Rattle.rasta_core_recovery.proofs.Lemmas.FirstRound.FirstRises.{Climbs, climbs}
use Rattle.rasta_core_recovery.proofs.Lemmas.Rounds.Pasts.{Past}
use Rattle.rasta_core_recovery.proofs.Lemmas.Rounds.Holds.{Holds, holds_run}
use Rattle.rasta_core_recovery.proofs.Lemmas.AtWork.WorkBridge.{Follows, follows}
use Rattle.rasta_core_recovery.proofs.Lemmas.ComingUp.Seen.{BothIn}
use Rattle.rasta_core_recovery.proofs.Lemmas.AtWork.WorkRun.{Sound, Run, Climb}

-- what both ends have sent and comes doesn't fall
pub climbs_of : (names : Names) (f : Flow) (p : Pair) → Holds names f.ends → Mirrors names f p → BothIn p → Climbs p
climbs_of names f p holds m both = climbs names f p m holds.ordered client_in server_in (holds.rising (record { client = client_in; server = server_in }))
  where
    client_in : is_open f.ends.client.link.phase ≡ true
    client_in = ap (λ (l : LinkState). is_open l.phase) m.client ∙ both.client

    server_in : is_open f.ends.server.link.phase ≡ true
    server_in = ap (λ (l : LinkState). is_open l.phase) m.server ∙ both.server

pub sound_of : (names : Names) (f : Flow) (p : Pair) → Holds names f.ends → Mirrors names f p → Sound names p
sound_of names f p holds m = record {
  facts = facts names f p m holds.ordered;
  client_past = subst Past m.client holds.pasts.client;
  server_past = subst Past m.server holds.pasts.server;
  below = λ both. below_of p (climbs_of names f p holds m both);
  asking = asking_of names f p m holds.ordered holds.asked;
}

-- rounds of two ends as rounds of two links
pub record Leads (names : Names) (n : ℕ) (f : Flow) (p : Pair) : Type 0 where
  pub last : Pair
  pub is_run : Run names n p last
  pub climb : Climb names n p last is_run
  pub mirrors : Mirrors names f last
  pub holds : Holds names f.ends

module _ (laws : LawsBelow) (names : Names) (are : AreNames names) where
  pub leads : (rounds : List (List Event)) (f : Flow) (p : Pair) → Holds names f.ends → Mirrors names f p → AreAtWork names rounds f → Each (Each LeavesOpen) rounds → StayBelow rounds f → Leads names (length rounds) (work_rounds rounds f) p
  leads [] f p holds m work opens room = record { last = p; is_run = refl; climb = tt; mirrors = m; holds = holds }
  leads (calls ∷ others) f p holds m work opens room = on (leads others (work_round calls f) (behind p now.round) then_holds now.mirrors work.1 opens.1 room.1)
    where
      now : Follows names f p calls
      now = follows laws names are f p calls m work.0 opens.0 room.0

      then_holds : Holds names (work_round calls f).ends
      then_holds = holds_run laws names are (Passes 10000 10000 10000 ∷ calls) f.ends holds work.0.may

      on : Leads names (length others) (work_rounds others (work_round calls f)) (behind p now.round) → Leads names (length (calls ∷ others)) (work_rounds (calls ∷ others) f) p
      on l = record {
        last = l.last;
        is_run = (now.round, sound_of names (work_round calls f) (behind p now.round) then_holds now.mirrors, l.is_run);
        climb = climbs_of names (work_round calls f) (behind p now.round) then_holds now.mirrors;
        mirrors = l.mirrors;
        holds = l.holds;
      }
