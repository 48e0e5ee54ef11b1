-- What two ends of a link come to in rounds at work.
use Rattle.std.specs.Prelude.{List, length, suc, ℕ, ◌++◌, ◌+◌, ◌<◌, ◌≤◌}
use Rattle.rasta_core_recovery.specs.Confirming.{Answers, AreIn, Confirming, FewLeft, FewWait, HasLeft, Owes}
use Rattle.rasta_core_recovery.specs.FirstRound.{BeginAtWork}
use Rattle.rasta_core_recovery.specs.LongAgo.{AreStillIn, WaitsAsGivenSince, lasting_rounds}
use Rattle.rasta_core_recovery.specs.Replies.{Accepts, SpeaksAlone, StaysAtWork, in_round, speaking_rounds, with_reply}
use Rattle.rasta_core_recovery.specs.Rounds.{AreUp, flow_after}
use Rattle.rasta_core_recovery.specs.ServerConfirming.{AwaitsAnswers, ClientHasLeft, ClientOwes, FewOfServerLeft, FewOfServerWait, ServerConfirming}
use Rattle.rasta_core_recovery.specs.Work.{AreAtWork, HandOver, HaveRoom, IsAtWork, LeavesOpen, StayBelow, recovery_rounds_at_work, work_round, work_rounds}
use Rattle.simulator_spec.specs.rasta_core.Each.{Each}
use Rattle.simulator_spec.specs.rasta_core.Events.{Event as LinkEvent, Event, May, MayRun, Start, happened, run, started}
use Rattle.simulator_spec.specs.rasta_core.Invariant.{Timely}
use Rattle.simulator_spec.specs.rasta_core.Names.{AreNames, Names}
use Rattle.simulator_spec.specs.rasta_core.Ordered.{Ordered}
use Rattle.simulator_spec.specs.rasta_core.Run.{Ends, end_of, later}
use Rattle.simulator_spec.specs.rasta_core.State.{confirmed_items}
use Rattle.simulator_spec.specs.rasta_core.identity.Role.{Role}

abbrev pub Confirm : Type 0
Confirm = (names : Names) (start : Start) (events : List LinkEvent) (passed : ℕ) (rounds : List (List LinkEvent)) (front : List LinkEvent) (item : List ℕ) (rest calls : List LinkEvent) → AreNames names → MayRun names events (started names start)
    → AreAtWork names rounds (flow_after names start events passed) → Each (Each LeavesOpen) rounds → StayBelow rounds (flow_after names start events passed) → recovery_rounds_at_work ≤ length rounds
    → StaysAtWork names (work_rounds rounds (flow_after names start events passed)) (with_reply front item rest)
    → StaysAtWork names (work_round (with_reply front item rest) (work_rounds rounds (flow_after names start events passed))) calls
    → Accepts (in_round front (work_rounds rounds (flow_after names start events passed))).server
    → (in_round front (work_rounds rounds (flow_after names start events passed))).server.link.taken ≤ confirmed_items (work_round calls (work_round (with_reply front item rest) (work_rounds rounds (flow_after names start events passed)))).ends.client.link

abbrev pub GivenBefore : Type 0
GivenBefore = (names : Names) (start : Start) (events : List LinkEvent) (passed : ℕ) (rounds : List (List LinkEvent)) (who : Role) → AreNames names → MayRun names events (started names start)
    → BeginAtWork names rounds (flow_after names start events passed) → Each (Each LeavesOpen) rounds → StayBelow rounds (flow_after names start events passed)
    → lasting_rounds ≤ length rounds → AreStillIn (run events (started names start)) (work_rounds rounds (flow_after names start events passed)).ends
    → WaitsAsGivenSince (end_of who (run events (started names start))) (end_of who (work_rounds rounds (flow_after names start events passed)).ends)

abbrev pub HandsOver : Type 0
HandsOver = (names : Names) (start : Start) (events : List LinkEvent) (passed : ℕ) (rounds : List (List LinkEvent)) (calls : List LinkEvent) → AreNames names → MayRun names events (started names start)
    → BeginAtWork names rounds (flow_after names start events passed) → Each (Each LeavesOpen) rounds → StayBelow rounds (flow_after names start events passed)
    → recovery_rounds_at_work ≤ suc (length rounds)
    → IsAtWork names (work_rounds rounds (flow_after names start events passed)) calls → Each LeavesOpen calls → HaveRoom calls (later 10000 10000 10000 (work_rounds rounds (flow_after names start events passed)).ends)
    → HandOver (work_rounds rounds (flow_after names start events passed)).ends (work_round calls (work_rounds rounds (flow_after names start events passed))).ends

abbrev pub Takings : Type 0
Takings = (names : Names) (start : Start) (events : List LinkEvent) (passed : ℕ) (rounds : List (List LinkEvent)) (one front rest : List LinkEvent) → AreNames names → MayRun names events (started names start)
    → AreAtWork names rounds (flow_after names start events passed) → Each (Each LeavesOpen) rounds → StayBelow rounds (flow_after names start events passed) → recovery_rounds_at_work ≤ length rounds
    → StaysAtWork names (work_rounds rounds (flow_after names start events passed)) one
    → StaysAtWork names (work_round one (work_rounds rounds (flow_after names start events passed))) (front ++ rest)
    → (work_round one (work_rounds rounds (flow_after names start events passed))).ends.server.link.taken < (in_round front (work_round one (work_rounds rounds (flow_after names start events passed)))).server.link.taken
    → (work_rounds rounds (flow_after names start events passed)).ends.client.link.taken ≤ confirmed_items (in_round front (work_round one (work_rounds rounds (flow_after names start events passed)))).server.link

abbrev pub ServersSpeak : Type 0
ServersSpeak = (names : Names) (start : Start) (events : List LinkEvent) (passed : ℕ) (rounds more : List (List LinkEvent)) → AreNames names → MayRun names events (started names start)
    → AreAtWork names rounds (flow_after names start events passed) → Each (Each LeavesOpen) rounds → StayBelow rounds (flow_after names start events passed) → recovery_rounds_at_work ≤ length rounds
    → AreAtWork names more (work_rounds rounds (flow_after names start events passed)) → Each (Each LeavesOpen) more → StayBelow more (work_rounds rounds (flow_after names start events passed)) → speaking_rounds ≤ length more
    → (work_rounds rounds (flow_after names start events passed)).ends.server.link.sent < (work_rounds more (work_rounds rounds (flow_after names start events passed))).ends.server.link.sent

abbrev pub ServersConfirm : Type 0
ServersConfirm = (names : Names) (start : Start) (events : List LinkEvent) (passed : ℕ) (rounds : List (List LinkEvent)) (one two : List LinkEvent) → AreNames names → MayRun names events (started names start)
    → AreAtWork names rounds (flow_after names start events passed) → Each (Each LeavesOpen) rounds → StayBelow rounds (flow_after names start events passed) → recovery_rounds_at_work ≤ length rounds
    → StaysAtWork names (work_rounds rounds (flow_after names start events passed)) one
    → StaysAtWork names (work_round one (work_rounds rounds (flow_after names start events passed))) two
    → (work_rounds rounds (flow_after names start events passed)).ends.server.link.sent < (work_round one (work_rounds rounds (flow_after names start events passed))).ends.server.link.sent
    → (work_rounds rounds (flow_after names start events passed)).ends.server.link.taken ≤ confirmed_items (work_round two (work_round one (work_rounds rounds (flow_after names start events passed)))).ends.client.link

abbrev pub Speak : Type 0
Speak = (names : Names) (start : Start) (events : List LinkEvent) (passed : ℕ) (rounds more : List (List LinkEvent)) → AreNames names → MayRun names events (started names start)
    → AreAtWork names rounds (flow_after names start events passed) → Each (Each LeavesOpen) rounds → StayBelow rounds (flow_after names start events passed) → recovery_rounds_at_work ≤ length rounds
    → AreAtWork names more (work_rounds rounds (flow_after names start events passed)) → Each (Each LeavesOpen) more → StayBelow more (work_rounds rounds (flow_after names start events passed)) → speaking_rounds ≤ length more
    → (work_rounds rounds (flow_after names start events passed)).ends.client.link.sent < (work_rounds more (work_rounds rounds (flow_after names start events passed))).ends.client.link.sent

abbrev pub Alone : Type 0
Alone = (names : Names) (start : Start) (events : List LinkEvent) (passed : ℕ) (rounds : List (List LinkEvent)) (one two : List LinkEvent) → AreNames names → MayRun names events (started names start)
    → AreAtWork names rounds (flow_after names start events passed) → Each (Each LeavesOpen) rounds → StayBelow rounds (flow_after names start events passed) → recovery_rounds_at_work ≤ length rounds
    → SpeaksAlone names (work_rounds rounds (flow_after names start events passed)) one two
    → confirmed_items (work_round two (work_round one (work_rounds rounds (flow_after names start events passed)))).ends.server.link ≤ confirmed_items (work_round one (work_rounds rounds (flow_after names start events passed))).ends.server.link

abbrev pub AtOnce : Type 0
AtOnce = (names : Names) (start : Start) (events : List LinkEvent) (passed : ℕ) (rounds : List (List LinkEvent)) (one two three : List LinkEvent) → AreNames names → MayRun names events (started names start)
    → AreAtWork names rounds (flow_after names start events passed) → Each (Each LeavesOpen) rounds → StayBelow rounds (flow_after names start events passed) → recovery_rounds_at_work ≤ length rounds
    → SpeaksAlone names (work_rounds rounds (flow_after names start events passed)) one two
    → StaysAtWork names (work_round two (work_round one (work_rounds rounds (flow_after names start events passed)))) three
    → (work_round two (work_round one (work_rounds rounds (flow_after names start events passed)))).ends.client.link.taken
    ≤ confirmed_items (work_round three (work_round two (work_round one (work_rounds rounds (flow_after names start events passed))))).ends.server.link

pub record LawsOfRounds : Type 0 where
  pub two_ends_at_work_come_up : (names : Names) (start : Start) (events : List LinkEvent) (passed : ℕ) (rounds : List (List LinkEvent)) → AreNames names → MayRun names events (started names start)
      → BeginAtWork names rounds (flow_after names start events passed) → Each (Each LeavesOpen) rounds → StayBelow rounds (flow_after names start events passed)
      → recovery_rounds_at_work ≤ length rounds → AreUp (work_rounds rounds (flow_after names start events passed)).ends
  pub two_ends_at_work_confirm : Confirm
  pub what_was_given_before_is_confirmed : GivenBefore
  pub two_ends_at_work_hand_over : HandsOver
  pub what_servers_take_at_work_confirms : Takings
  pub servers_at_work_speak : ServersSpeak
  pub servers_at_work_confirm : ServersConfirm
  pub clients_at_work_speak : Speak
  pub quiet_clients_confirm_at_once_still : Alone
  pub quiet_clients_confirm_at_once_all : AtOnce
  pub what_is_taken_confirms_kept : (names : Names) (event : Event) (ends : Ends) (spare : ℕ) → AreNames names → Timely names ends → Ordered names ends → May names event ends → Confirming names spare ends
      → (AreIn (happened event ends) → Answers spare (happened event ends)) → Confirming names spare (happened event ends)
  pub what_is_taken_confirms_left : (names : Names) (event : Event) (ends : Ends) (spare owed : ℕ) → AreNames names → Timely names ends → Ordered names ends → May names event ends → Confirming names spare ends
      → FewLeft (spare + owed) ends → (AreIn ends → HasLeft (happened event ends) → Owes owed (happened event ends)) → FewLeft (spare + owed) (happened event ends)
  pub what_is_taken_confirms_few : (names : Names) (ends : Ends) (spare : ℕ) → Confirming names spare ends → AreIn ends → FewWait spare ends
  pub what_a_server_takes_confirms_kept : (names : Names) (event : Event) (ends : Ends) (spare : ℕ) → AreNames names → Timely names ends → Ordered names ends → May names event ends → ServerConfirming names spare ends
      → (AreIn (happened event ends) → AwaitsAnswers spare (happened event ends)) → ServerConfirming names spare (happened event ends)
  pub what_a_server_takes_confirms_left : (names : Names) (event : Event) (ends : Ends) (spare owed : ℕ) → AreNames names → Timely names ends → Ordered names ends → May names event ends → ServerConfirming names spare ends
      → FewOfServerLeft (spare + owed) ends → (AreIn ends → ClientHasLeft (happened event ends) → ClientOwes owed (happened event ends)) → FewOfServerLeft (spare + owed) (happened event ends)
  pub what_a_server_takes_confirms_ever : (names : Names) (event : Event) (ends : Ends) (spare owed : ℕ) → AreNames names → Timely names ends → Ordered names ends → May names event ends → ServerConfirming names spare ends
      → FewOfServerLeft (spare + owed) ends → FewOfServerWait (spare + owed) ends → (AreIn (happened event ends) → AwaitsAnswers spare (happened event ends))
      → (AreIn ends → ClientHasLeft (happened event ends) → ClientOwes owed (happened event ends)) → FewOfServerWait (spare + owed) (happened event ends)
