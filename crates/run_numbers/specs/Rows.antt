-- The table of the numbers. A number is a row: it has a name, a label where several have its name, and a place.
--
--     links_up               how many links are ready
--     links_lost_total       how often a link that was ready was lost
--     datagrams_total        datagrams that came, by the verdict of their link
--     asks_taken_total       retransmission requests that were taken from partners
--     closings_taken_total   disconnection requests that were taken from partners, by reason
--     commands_total         commands to the interlocking, by answer
--     asks_sent_total        retransmission requests that were sent
--     closings_sent_total    disconnection requests that were sent, by reason
--     strangers_total        datagrams that came from the address of no node of the station
--     too_old_total          datagrams that were thrown away, since they may have been too old
--     rounds_total           rounds that began
--     rounds_late_total      rounds that began 20 ms after the one before, or later
--     memory_bytes           resident memory of the process
--     sent_memory_bytes      memory for the datagrams of a played station
use Rattle.std.specs.Prelude.{ℕ, ◌+◌, ◌==◌, Bool, true, List, [], ◌∷◌, ◌++◌, map, codes}
use Rattle.run_numbers.specs.Labels.{fate_place, fate_word, outcome_place, outcome_word, reason_place, reason_word}
use Rattle.run_numbers.specs.declared.labels.Fate.{Fate}
use Rattle.run_numbers.specs.declared.labels.Fate.TheVariants as fates
use Rattle.run_numbers.specs.declared.labels.Outcome.{Outcome}
use Rattle.run_numbers.specs.declared.labels.Outcome.TheVariants as outcomes
use Rattle.run_numbers.specs.declared.labels.Reason.{Reason}
use Rattle.run_numbers.specs.declared.labels.Reason.TheVariants as reasons
use Rattle.run_numbers.specs.declared.row.Row.{Row}
use Rattle.run_numbers.specs.declared.row.Row.TheVariants.{LinksUp, LinksLost, Datagrams, AsksTaken, ClosingsTaken, Commands, AsksSent, ClosingsSent, Strangers, TooOld, Rounds, RoundsLate, Memory, SentMemory}

-- ---- the table

abbrev pub fates_in_order : List Fate
fates_in_order =
    fates.Taken ∷ fates.Asked ∷ fates.Unreadable ∷ fates.NotForMe ∷ fates.WrongSender ∷ fates.OutOfRange ∷ fates.Stale ∷ fates.BadConfirm ∷ fates.WrongState ∷ fates.Discarded
    ∷ fates.Quiet ∷ []

abbrev pub reasons_in_order : List Reason
reasons_in_order = reasons.User ∷ reasons.State ∷ reasons.Sequence ∷ reasons.Time ∷ reasons.Version ∷ reasons.Window ∷ reasons.Other ∷ []

abbrev pub outcomes_in_order : List Outcome
outcomes_in_order =
    outcomes.Accepted ∷ outcomes.Refused1 ∷ outcomes.Refused2 ∷ outcomes.Refused3 ∷ outcomes.Refused4 ∷ outcomes.Refused5 ∷ outcomes.Refused6 ∷ outcomes.Refused7
    ∷ outcomes.Refused8 ∷ outcomes.Refused9 ∷ outcomes.Refused10 ∷ outcomes.Refused11 ∷ outcomes.Refused12 ∷ outcomes.Refused13 ∷ outcomes.Refused14 ∷ []

-- what a node counts of what comes to it
abbrev pub node_rows : List Row
node_rows =
    LinksUp ∷ LinksLost ∷ (map (λ one. Datagrams one) fates_in_order ++ AsksTaken ∷ (map (λ one. ClosingsTaken one) reasons_in_order ++ map (λ one. Commands one) outcomes_in_order))

-- what its process counts of what it calls outside
abbrev pub process_rows : List Row
process_rows = AsksSent ∷ (map (λ one. ClosingsSent one) reasons_in_order ++ Strangers ∷ TooOld ∷ Rounds ∷ RoundsLate ∷ Memory ∷ [])

abbrev pub rows : List Row
rows = node_rows ++ (process_rows ++ SentMemory ∷ [])

abbrev pub row_count : ℕ
row_count = 50

-- the place of a row among all
abbrev pub place_of : Row → ℕ
place_of LinksUp = 0
place_of LinksLost = 1
place_of (Datagrams fate) = 2 + fate_place fate
place_of AsksTaken = 13
place_of (ClosingsTaken reason) = 14 + reason_place reason
place_of (Commands outcome) = 21 + outcome_place outcome
place_of AsksSent = 36
place_of (ClosingsSent reason) = 37 + reason_place reason
place_of Strangers = 44
place_of TooOld = 45
place_of Rounds = 46
place_of RoundsLate = 47
place_of Memory = 48
place_of SentMemory = 49

-- ---- its words

abbrev pub name_of : Row → List ℕ
name_of LinksUp = codes "links_up"
name_of LinksLost = codes "links_lost_total"
name_of (Datagrams fate) = codes "datagrams_total"
name_of AsksTaken = codes "asks_taken_total"
name_of (ClosingsTaken reason) = codes "closings_taken_total"
name_of (Commands outcome) = codes "commands_total"
name_of AsksSent = codes "asks_sent_total"
name_of (ClosingsSent reason) = codes "closings_sent_total"
name_of Strangers = codes "strangers_total"
name_of TooOld = codes "too_old_total"
name_of Rounds = codes "rounds_total"
name_of RoundsLate = codes "rounds_late_total"
name_of Memory = codes "memory_bytes"
name_of SentMemory = codes "sent_memory_bytes"

-- a hyphen where no other has the name
abbrev pub label_of : Row → List ℕ
label_of (Datagrams fate) = fate_word fate
label_of (ClosingsTaken reason) = reason_word reason
label_of (ClosingsSent reason) = reason_word reason
label_of (Commands outcome) = outcome_word outcome
label_of row = codes "-"

-- what the label tells
abbrev pub key_of : Row → List ℕ
key_of (Datagrams fate) = codes "verdict"
key_of (ClosingsTaken reason) = codes "reason"
key_of (ClosingsSent reason) = codes "reason"
key_of (Commands outcome) = codes "answer"
key_of row = []

abbrev pub help_of : Row → List ℕ
help_of LinksUp = codes "Links that are ready."
help_of LinksLost = codes "How often a link that was ready was lost."
help_of (Datagrams fate) = codes "Datagrams that came, by what their link said of them."
help_of AsksTaken = codes "Retransmission requests that were taken from partners."
help_of (ClosingsTaken reason) = codes "Disconnection requests that were taken from partners, by reason."
help_of (Commands outcome) = codes "Commands to the interlocking, by their answer."
help_of AsksSent = codes "Retransmission requests that were sent."
help_of (ClosingsSent reason) = codes "Disconnection requests that were sent, by reason."
help_of Strangers = codes "Datagrams that came from the address of no node of the station."
help_of TooOld = codes "Datagrams that were thrown away since they may have been too old."
help_of Rounds = codes "Rounds that began."
help_of RoundsLate = codes "Rounds that began 20 ms or more after the one before."
help_of Memory = codes "Resident memory of the process."
help_of SentMemory = codes "Memory for the datagrams of a played station."

-- it counts what happened, and never falls while a process runs; or it tells what is so now
abbrev pub kind_of : Row → List ℕ
kind_of LinksUp = codes "gauge"
kind_of Memory = codes "gauge"
kind_of SentMemory = codes "gauge"
kind_of row = codes "counter"

-- the first of its name
abbrev pub begins : Row → Bool
begins (Datagrams fate) = fate_place fate == 0
begins (ClosingsTaken reason) = reason_place reason == 0
begins (ClosingsSent reason) = reason_place reason == 0
begins (Commands outcome) = outcome_place outcome == 0
begins row = true
