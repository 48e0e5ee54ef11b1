-- What tells the numbers of one name apart: their words, and the order in which they stand.
use Rattle.std.specs.Prelude.{ℕ, ◌==◌, Bool, true, false, if◌then◌else◌, List, codes}
use Rattle.rasta_core_link.specs.declared.verdict.Verdict.{Verdict}
use Rattle.rasta_core_link.specs.declared.verdict.Verdict.TheVariants as verdicts
use Rattle.run_numbers.specs.declared.labels.Fate.{Fate}
use Rattle.run_numbers.specs.declared.labels.Fate.TheVariants as fates
use Rattle.run_numbers.specs.declared.labels.Outcome.{Outcome}
use Rattle.run_numbers.specs.declared.labels.Outcome.TheVariants as outcomes
use Rattle.run_numbers.specs.declared.labels.Reason.{Reason}
use Rattle.run_numbers.specs.declared.labels.Reason.TheVariants as reasons

-- ---- what became of a datagram

abbrev pub fate : Verdict → Fate
fate verdicts.Taken = fates.Taken
fate verdicts.Asked = fates.Asked
fate (verdicts.Unreadable fault) = fates.Unreadable
fate verdicts.NotForMe = fates.NotForMe
fate verdicts.WrongSender = fates.WrongSender
fate verdicts.OutOfRange = fates.OutOfRange
fate verdicts.Stale = fates.Stale
fate verdicts.BadConfirm = fates.BadConfirm
fate verdicts.WrongState = fates.WrongState
fate verdicts.Discarded = fates.Discarded
fate verdicts.Quiet = fates.Quiet

-- the link took it
abbrev pub is_taken : Fate → Bool
is_taken fates.Taken = true
is_taken other = false

abbrev pub fate_word : Fate → List ℕ
fate_word fates.Taken = codes "taken"
fate_word fates.Asked = codes "asked"
fate_word fates.Unreadable = codes "unreadable"
fate_word fates.NotForMe = codes "not_for_me"
fate_word fates.WrongSender = codes "wrong_sender"
fate_word fates.OutOfRange = codes "out_of_range"
fate_word fates.Stale = codes "stale"
fate_word fates.BadConfirm = codes "bad_confirm"
fate_word fates.WrongState = codes "wrong_state"
fate_word fates.Discarded = codes "discarded"
fate_word fates.Quiet = codes "quiet"

abbrev pub fate_place : Fate → ℕ
fate_place fates.Taken = 0
fate_place fates.Asked = 1
fate_place fates.Unreadable = 2
fate_place fates.NotForMe = 3
fate_place fates.WrongSender = 4
fate_place fates.OutOfRange = 5
fate_place fates.Stale = 6
fate_place fates.BadConfirm = 7
fate_place fates.WrongState = 8
fate_place fates.Discarded = 9
fate_place fates.Quiet = 10

-- ---- the reason of a disconnection request

abbrev pub reason : ℕ → Reason
reason number =
    if number == 0 then reasons.User
    else if number == 1 then reasons.State
    else if number == 2 then reasons.Sequence
    else if number == 3 then reasons.Time
    else if number == 4 then reasons.Version
    else if number == 5 then reasons.Window
    else reasons.Other

abbrev pub reason_word : Reason → List ℕ
reason_word reasons.User = codes "user"
reason_word reasons.State = codes "state"
reason_word reasons.Sequence = codes "sequence"
reason_word reasons.Time = codes "time"
reason_word reasons.Version = codes "version"
reason_word reasons.Window = codes "window"
reason_word reasons.Other = codes "other"

abbrev pub reason_place : Reason → ℕ
reason_place reasons.User = 0
reason_place reasons.State = 1
reason_place reasons.Sequence = 2
reason_place reasons.Time = 3
reason_place reasons.Version = 4
reason_place reasons.Window = 5
reason_place reasons.Other = 6

-- ---- the answer to a command

-- a refusal by its number
abbrev pub refused : ℕ → Outcome
refused number =
    if number == 1 then outcomes.Refused1
    else if number == 2 then outcomes.Refused2
    else if number == 3 then outcomes.Refused3
    else if number == 4 then outcomes.Refused4
    else if number == 5 then outcomes.Refused5
    else if number == 6 then outcomes.Refused6
    else if number == 7 then outcomes.Refused7
    else if number == 8 then outcomes.Refused8
    else if number == 9 then outcomes.Refused9
    else if number == 10 then outcomes.Refused10
    else if number == 11 then outcomes.Refused11
    else if number == 12 then outcomes.Refused12
    else if number == 13 then outcomes.Refused13
    else outcomes.Refused14

abbrev pub outcome_word : Outcome → List ℕ
outcome_word outcomes.Accepted = codes "accepted"
outcome_word outcomes.Refused1 = codes "refused_1"
outcome_word outcomes.Refused2 = codes "refused_2"
outcome_word outcomes.Refused3 = codes "refused_3"
outcome_word outcomes.Refused4 = codes "refused_4"
outcome_word outcomes.Refused5 = codes "refused_5"
outcome_word outcomes.Refused6 = codes "refused_6"
outcome_word outcomes.Refused7 = codes "refused_7"
outcome_word outcomes.Refused8 = codes "refused_8"
outcome_word outcomes.Refused9 = codes "refused_9"
outcome_word outcomes.Refused10 = codes "refused_10"
outcome_word outcomes.Refused11 = codes "refused_11"
outcome_word outcomes.Refused12 = codes "refused_12"
outcome_word outcomes.Refused13 = codes "refused_13"
outcome_word outcomes.Refused14 = codes "refused_14"

abbrev pub outcome_place : Outcome → ℕ
outcome_place outcomes.Accepted = 0
outcome_place outcomes.Refused1 = 1
outcome_place outcomes.Refused2 = 2
outcome_place outcomes.Refused3 = 3
outcome_place outcomes.Refused4 = 4
outcome_place outcomes.Refused5 = 5
outcome_place outcomes.Refused6 = 6
outcome_place outcomes.Refused7 = 7
outcome_place outcomes.Refused8 = 8
outcome_place outcomes.Refused9 = 9
outcome_place outcomes.Refused10 = 10
outcome_place outcomes.Refused11 = 11
outcome_place outcomes.Refused12 = 12
outcome_place outcomes.Refused13 = 13
outcome_place outcomes.Refused14 = 14
