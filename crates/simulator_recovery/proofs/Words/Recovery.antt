-- Words of this crate.
pub use Rattle.simulator_recovery.specs.Answered.{HasGivenSince, IsOccupancy, NoneWaitsFor, answered_rounds}
pub use Rattle.simulator_recovery.specs.Authority.{HasGivenMore, IsUnseen, authority_rounds}
pub use Rattle.simulator_recovery.specs.BeginsOfMoves.{TakesReport, TakesReportBehind}
pub use Rattle.simulator_recovery.specs.ClientSaid.{AllAnswered, AtMostOneWaits, ClientHasSaid, ClientSaid, ClientTalks, HasCommanded, HaveTalked, IsGivenTo, asked, checked, commanded, nothing}
pub use Rattle.simulator_recovery.specs.Closes.{FillsNoWindowOn, LeavesClientOpen, LeavesOpenOn, LeavesServerOpen}
pub use Rattle.simulator_recovery.specs.Conversation.{Accepts, AreMatched, ClientActs, ClientGives, ClientHasActedOn, HasRoomFor, HostActs, HostExpects, HostExpectsItem, HostGives, HostHasActedOn, IsForHost, IsSettled, KeepsCount, ReportsState, StandsAtItsStage}
pub use Rattle.simulator_recovery.specs.Counts.{AllHaveSaid, AllStandByCounts, ClientCountsByStage, ClientHasGiven, ClientStandsAt, ClientStandsByCounts, EachClient, HasCounted, HasSaidAt, HaveSaid, HostCountsByStage, HostHasGiven, HostHasSaid, HostStandsByCounts, IsOwed, IsToldAt, MakesAsMany, StandsByWhatItSaid, TellsAsMany, given_before, objects_told}
pub use Rattle.simulator_recovery.specs.Expected.{AnswersOnce, GivesAtMostTwoMore, HaveAnswered, HaveFitting, HaveNext, NextFits, NextIsExpected}
pub use Rattle.simulator_recovery.specs.FirstRound.{NoneIsSaidAgain, behind_arrivals, first_link_rounds, first_ready_rounds}
pub use Rattle.simulator_recovery.specs.Flows.{IsFlow}
pub use Rattle.simulator_recovery.specs.HandedOver.{ConfirmsAtOnce, HasConfirmed, HasHandedOver, HasSpoken, HasSpokenAlone}
pub use Rattle.simulator_recovery.specs.HeldPoints.{IsFreeFor, IsHeldBehindAspect, IsKnownOrOnItsWay, MayCome}
pub use Rattle.simulator_recovery.specs.KnownAgain.{HaveTold, IsReportedBack, ReportsLast, side_told}
pub use Rattle.simulator_recovery.specs.Lamps.{AcceptsCancel, GivesNoMore, HasStopLast, IsAtStop, IsGivenNoMore, IsStopLast, IsStopTaken, IsWithdrawnFrom, NoneProceeds, and_cancel, as_cancel_comes}
pub use Rattle.simulator_recovery.specs.LinkRounds.{AreInOne, HasRoomOn, HaveRoomOn, IsAtWorkOn, IsUpOn, StayBelowOn, StaysBelowLimit, all_events_tried, behind_time, calls_of_round, calls_on, event_of, events_tried, events_where, flow_of, link_rounds, links_behind, time_of_round}
pub use Rattle.simulator_recovery.specs.Matched.{AreMatchedAll, IsPeerAt, IsSpoken, SpeaksAt, name_of, peer_for, section_names}
pub use Rattle.simulator_recovery.specs.Moves.{AreAnswered, DrivesSince, HasReported, HasTakenMoves, HaveOwed, IsDriven, IsDrivenBehind, IsDriving, OwesEach, ReportComesBehind, ReportsBehind, ReportsCome, drive_rounds, drive_time, last_side, move_rounds, or_before, reports_in}
pub use Rattle.simulator_recovery.specs.NextItems.{GoOn}
pub use Rattle.simulator_recovery.specs.NothingDue.{CancelsNot, EachFinds, FindsUpheld, GivesMoveTo, HasAspect, HasLinksReady, HasPointsUp, IsClearFor, IsDetectorReady, IsInside, IsPointReady, IsUpAtClock, IsUpheld, KeepsSetting, Proceeds, RoundsFind, UpholdsAspect, Waits, input_at, input_of, known_in_step}
pub use Rattle.simulator_recovery.specs.OnceMoved.{HasGivenOn, HasGivenOneAtMost}
pub use Rattle.simulator_recovery.specs.Passage.{IsLeft, IsPassed, IsSeen}
pub use Rattle.simulator_recovery.specs.Quiet.{IsOccupancyElsewhere, IsTimeToReport, IsWorkElsewhere}
pub use Rattle.simulator_recovery.specs.Ready.{HostIsAt, IsAtStage, IsReadyOn, ready_rounds}
pub use Rattle.simulator_recovery.specs.Replies.{GoOnWith, behind_what_comes, indication}
pub use Rattle.simulator_recovery.specs.RepliesOn.{RepliesAfter, RepliesBehind, RepliesOn}
pub use Rattle.simulator_recovery.specs.Rounds.{HasTime, InGoodRounds, IsFresh, IsWork, LeavesFresh, NoneRefused, all_tried, arrivals, clock_of, clocks_of, good_rounds, rounds_later}
pub use Rattle.simulator_recovery.specs.RoutesCome.{AcceptsRequest, AreBelowLimit, AreKnownWithin, AreLinksUp, EachBehind, HasClearSections, IsClientUp, IsKnownWithin, IsOnCourse, IsSignalUp, StaysClear, StaysSet, Throughout, and_request, as_request_comes, events_of_round}
pub use Rattle.simulator_recovery.specs.SectionsReported.{HasRoomToReport, HaveReported, IsKnownAs, IsKnownAsInTheField, IsKnownAsItIs, KnowsByReports, LeavesSection, OwesNone, SensesAsTheyAre, SpeaksAloneIn, TellsAsTheyAre, is_occupied, is_told, section_rounds, told_behind, told_in}
pub use Rattle.simulator_recovery.specs.Shows.{IsGivenLast, ProceedsAt, ProceedsThrough, RouteProceeds, Shows, ShowsThrough, StaysGiven}
pub use Rattle.simulator_recovery.specs.SidesOfMoves.{AwaitsMove, HaveMovesWhereHeld, IsLast, MovesGoWhereHeld}
pub use Rattle.simulator_recovery.specs.Silence.{IsSpent, TakesNone, TakesNoneLater, takes}
pub use Rattle.simulator_recovery.specs.Told.{AllHostsTalk, Any, Begins, HasNames, IndicatesSpoken, OwedFit, SaidAll, SaidBy, SaidSome, SomeAsks, item_for}
pub use Rattle.simulator_recovery.specs.UnheldPoints.{HoldsWithAuthority}
pub use Rattle.simulator_recovery.specs.Withdrawn.{AcceptsRelease, IsNotSetAnew, NoneSets, SetsNot, approach_rounds, approach_time_rounds, behind_release, told_rounds}
pub use Rattle.simulator_recovery.specs.inside.LawsBelow.{LawsBelow}
pub use Rattle.simulator_recovery.specs.inside.LawsOfHost.{LawsOfHost}
pub use Rattle.simulator_recovery.specs.inside.LawsOfInterlockings.{FreeLaw, MoveLaw, ProceedLaw, RequestLaw, StopLaw, WrittenIsRead}
pub use Rattle.simulator_recovery.specs.inside.LawsOfMachine.{EachKeeps}
pub use Rattle.simulator_recovery.specs.inside.LawsOfObjects.{IsToldAlways, MakesStep}
pub use Rattle.simulator_recovery.specs.inside.LawsOfRounds.{Takings}
