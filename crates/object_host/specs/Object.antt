-- What an object is told in the course of time, call by call of its controller, and what it says in it.
use Rattle.std.specs.Prelude.{ℕ, List, [], ◌∷◌, ◌++◌, Option, Some, None}
use Rattle.sci_telegram.specs.declared.telegram.Telegram.{Telegram}
use Rattle.object_host.specs.Behaviour.{Behaviour}
use Rattle.object_host.specs.declared.report.Report.{Report}
use Rattle.object_host.specs.declared.sense.Sense.{Sense}

pub data ObjectCall : Type 0 where
  -- a telegram that is no part of the initialisation, at a clock reading
  Takes : ℕ → Telegram → ObjectCall
  -- a clock reading
  Ticks : ℕ → ObjectCall
  -- a contact has changed, at a clock reading
  Senses : ℕ → Sense → ObjectCall
  -- the moment from which it has to be restrictive
  Keeps : ℕ → ObjectCall
  -- the first report that it owes was sent, or isn't to be
  Pays : ObjectCall
  -- its link was lost
  Loses : ObjectCall

-- a list of things that may be one
abbrev pub one_of : {A : Type 0} → Option A → List A
one_of None = []
one_of (Some one) = one ∷ []

module _ {Object : Type 0} where
  abbrev pub object_after : Behaviour Object → ObjectCall → Object → Object
  object_after does (Takes now telegram) object = does.after_take now telegram object
  object_after does (Ticks now) object = does.after_tick now object
  object_after does (Senses now sense) object = does.after_sense now sense object
  object_after does (Keeps moment) object = does.after_keep moment object
  object_after does Pays object = does.after_paid object
  object_after does Loses object = does.after_loss object

  -- calls one after another
  unfoldable pub object_after_all : Behaviour Object → List ObjectCall → Object → Object
  object_after_all does [] object = object
  object_after_all does (first ∷ others) object = object_after_all does others (object_after does first object)

  -- the report that is paid in a call: the one that is owed then
  abbrev pub paid_in : Behaviour Object → ObjectCall → Object → List Report
  paid_in does Pays object = one_of (does.owed object)
  paid_in does _ object = []

  -- the reports that are paid in calls, in order
  unfoldable pub reports_paid : Behaviour Object → List ObjectCall → Object → List Report
  reports_paid does [] object = []
  reports_paid does (first ∷ others) object = paid_in does first object ++ reports_paid does others (object_after does first object)

-- the contacts among calls, in order
unfoldable pub contacts_in : List ObjectCall → List Sense
contacts_in [] = []
contacts_in (Senses now sense ∷ others) = sense ∷ contacts_in others
contacts_in (_ ∷ others) = contacts_in others

-- the telegrams among calls, in order
unfoldable pub telegrams_in : List ObjectCall → List Telegram
telegrams_in [] = []
telegrams_in (Takes now telegram ∷ others) = telegram ∷ telegrams_in others
telegrams_in (_ ∷ others) = telegrams_in others
