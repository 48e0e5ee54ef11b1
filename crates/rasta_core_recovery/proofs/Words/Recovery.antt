-- Words of this crate.
pub use Rattle.rasta_core_recovery.specs.Asks.{AnAnswerComes, AnswerComes, AreFew, AskComes, AskInTurn, AsksInTurn, BothWait, DontCross, EndsAskInTurn, HasAsked, IsAnswer, IsAnswerTo, IsAsk, IsComing, IsSaid, IsWaiting, View, of_client, of_partner, of_server}
pub use Rattle.rasta_core_recovery.specs.Confirming.{Answers, AreIn, Confirming, Confirms, FewLeft, FewWait, HasLeft, IsConfirmed, IsNumbered, Owes, reached_by}
pub use Rattle.rasta_core_recovery.specs.Falls.{IsMarked, IsOf, IsPaired, IsToldAt, Keeps, Mark, Marks, NoneFalls, NothingFalls, NothingFallsSince, Rises, Rising, RisingSince, Speaker, Stand, WaitFrom, confirmed_by, marks_of, nothing_sent, stands, the_client, the_client_since, the_server, the_server_since, unmarked}
pub use Rattle.rasta_core_recovery.specs.FirstRound.{AlsoOfClient, BeginAtWork, ComeFirst, IsFirstAtWork, StayBelowLimitFrom, WereSaidBefore, WereSent, behind_comings, round_of}
pub use Rattle.rasta_core_recovery.specs.LongAgo.{AreStillIn, AsksNothingAgain, StayIn, WaitsAsGiven, WaitsAsGivenSince, WaitsSince, lasting_rounds}
pub use Rattle.rasta_core_recovery.specs.Replies.{Accepts, ClientSpeaks, SpeaksAlone, StaysAtWork, in_round, speaking_rounds, with_reply}
pub use Rattle.rasta_core_recovery.specs.Rounds.{AreUp, Flow, IsBelowLimit, StayBelowLimit, calm_rounds, can_come, comings, events_of, flow_after, gap_rounds, good_rounds, own_work, recovery_rounds, round_events}
unfoldable pub use Rattle.rasta_core_recovery.specs.Rounds.{good_round}
pub use Rattle.rasta_core_recovery.specs.ServerConfirming.{AwaitsAnswers, ClientHasLeft, ClientOwes, FewOfServerLeft, FewOfServerWait, IsSaidByClient, ServerConfirming, ServerIsConfirmed, exchanged}
pub use Rattle.rasta_core_recovery.specs.Work.{AreAtWork, HandOver, HasTaken, HaveRoom, IsAtWork, IsBeforeTick, IsBehindTick, IsCall, IsWorkAt, LeavesOpen, StayBelow, all_coming, called_in, calls_in, clock_calls, coming, due_to, recovery_rounds_at_work, work_round, work_rounds}
pub use Rattle.rasta_core_recovery.specs.inside.LawsBelow.{LawsBelow}
pub use Rattle.rasta_core_recovery.specs.WrongRounds.{NeverUp, RestsFor, asks_in_vain, asks_once, at_zero, ends_at_limit, rounds_where, work_where}
unfoldable pub use Rattle.rasta_core_recovery.specs.WrongRounds.{round_where}
