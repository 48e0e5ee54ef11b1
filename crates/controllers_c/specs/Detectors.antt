-- What calls of a detector do. It has no order, so a step of it is in force at once.
use Rattle.std.specs.Prelude.{ℕ, List, Option, Some, None, is_none, Result, Ok, Err, if◌then◌else◌}
use Rattle.embedded_host.specs.Calls.{Call, Senses, after_call, answer_to}
use Rattle.embedded_host.specs.Embedded.{EmbeddedState, put_in_force}
use Rattle.embedded_host.specs.declared.refusal.Refusal.{Refusal}
use Rattle.object_host.specs.Behaviour.{Behaviour}
use Rattle.object_host.specs.declared.sense.Sense.{Sense}
use Rattle.tds_ctl.specs.Controlled.{detection_behaviour}
use Rattle.tds_ctl.specs.Sections.{status_at}
use Rattle.tds_ctl.specs.declared.section.Section.{Section}
use Rattle.controllers_c.specs.Answers.{number_of}
use Rattle.controllers_c.specs.Sections.{occupancy_of, sensed_by}
use Rattle.controllers_c.specs.declared.answers.TheConstants.{NOT_STARTED, PLACE, VALUE}

module _ {Object : Type 0} where
  -- after a call with this answer
  abbrev pub settled_by : Result Unit Refusal → EmbeddedState Object → EmbeddedState Object
  settled_by (Ok done) it = put_in_force it
  settled_by (Err why) it = it

  abbrev pub after_step_done : Behaviour Object → Call → EmbeddedState Object → EmbeddedState Object
  after_step_done does call it = settled_by (answer_to call it) (after_call does call it)

-- to what the contacts of a section tell, where there is no such section, no such state, and else
abbrev pub answer_to_sensed : ℕ → Option Sense → EmbeddedState (List Section) → ℕ
answer_to_sensed now None it = VALUE
answer_to_sensed now (Some sense) it = number_of (answer_to (Senses now sense) it)

abbrev pub answer_to_report : ℕ → ℕ → ℕ → EmbeddedState (List Section) → ℕ
answer_to_report now place state it =
    if is_none (status_at place it.hosted.host.object) then PLACE else answer_to_sensed now (sensed_by place (occupancy_of state)) it

abbrev pub answer_to_report_in : ℕ → ℕ → ℕ → Option (EmbeddedState (List Section)) → ℕ
answer_to_report_in now place state None = NOT_STARTED
answer_to_report_in now place state (Some it) = answer_to_report now place state it

abbrev pub after_sensed : ℕ → Option Sense → EmbeddedState (List Section) → EmbeddedState (List Section)
after_sensed now None it = it
after_sensed now (Some sense) it = after_step_done detection_behaviour (Senses now sense) it

abbrev pub after_report : ℕ → ℕ → ℕ → EmbeddedState (List Section) → EmbeddedState (List Section)
after_report now place state it =
    if is_none (status_at place it.hosted.host.object) then it else after_sensed now (sensed_by place (occupancy_of state)) it
