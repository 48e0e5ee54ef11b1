-- A step of a host as its object sees it: what the object is told in it, call by call, and what is sent of what it owes.
use Rattle.std.specs.Prelude.{◌≡◌, ◌⊎◌, ℕ, not, ◌&&◌, Bool, true, false, List, [], ◌∷◌, ◌++◌, map}
use Rattle.std.specs.List.{All}
use Rattle.sci_telegram.specs.Telegrams.{writing}
use Rattle.sci_telegram.specs.declared.message.Agreement.{Agreement}
use Rattle.sci_telegram.specs.declared.message.Initialisation.TheVariants.{StartInitialisation, InitialisationCompleted, VersionAnswer}
use Rattle.rasta_core.specs.State.{is_open}
use Rattle.rasta_core.specs.Clock.{alive_until, settled}
use Rattle.object_host.specs.Behaviour.{Behaviour}
use Rattle.object_host.specs.Host.{HostState, HostSoFar, is_completed, is_outside, said, telegram_of}
use Rattle.object_host.specs.Made.{items_given}
use Rattle.object_host.specs.Object.{ObjectCall, Takes, Ticks, Senses, Keeps, Pays, Loses, contacts_in, object_after, object_after_all, reports_paid, telegrams_in}
use Rattle.object_host.specs.Step.{beginning, given, initial_status, most_objects}
use Rattle.object_host.specs.declared.input.Input.{Input}
use Rattle.object_host.specs.declared.input.Input.TheVariants as inputs
use Rattle.object_host.specs.declared.report.Report.{Report}
use Rattle.object_host.specs.declared.sense.Sense.{Sense}
use Rattle.object_host.specs.declared.stage.Stage.{Stage}

-- a report as the item in which a host sends it
abbrev pub item_of : {Object : Type 0} → HostState Object → Report → List ℕ
item_of host report = writing (telegram_of report host)

-- the link of a host has closed, and its object wasn't told of it yet
abbrev pub has_lost : {Object : Type 0} → HostState Object → Bool
has_lost host = not (is_outside host.stage) && not (is_open host.link.phase)

-- some of a list's entries, in their order
abbrev pub AreSomeOf : {A : Type 0} → List A → List A → Type 0
AreSomeOf [] all = Unit {0}
AreSomeOf (one ∷ more) [] = ⊥
AreSomeOf (one ∷ more) (first ∷ others) = ((one ≡ first) × AreSomeOf more others) ⊎ AreSomeOf (one ∷ more) others

-- the contacts that an input tells of
abbrev pub contacts_of : Input → List Sense
contacts_of (inputs.Sense sense) = sense ∷ []
contacts_of _ = []

abbrev pub loss_where : Bool → List ObjectCall
loss_where true = Loses ∷ []
loss_where false = []

-- what comes in a step: telegrams and contacts, at its clock reading
abbrev pub AreComing : ℕ → List ObjectCall → Type 0
AreComing now [] = Unit {0}
AreComing now (Takes at telegram ∷ others) = (at ≡ now) × AreComing now others
AreComing now (Senses at sense ∷ others) = (at ≡ now) × AreComing now others
AreComing now (_ ∷ others) = ⊥

-- what is paid in it
abbrev pub ArePayments : List ObjectCall → Type 0
ArePayments [] = Unit {0}
ArePayments (Pays ∷ others) = ArePayments others
ArePayments (_ ∷ others) = ⊥

module _ {Object : Type 0} where
  -- each telegram of the calls fits where it comes
  unfoldable pub AllFit : Behaviour Object → List ObjectCall → Object → Type 0
  AllFit does [] object = Unit {0}
  AllFit does (Takes now telegram ∷ others) object =
      (does.accepts now telegram object ≡ true) × AllFit does others (does.after_take now telegram object)
  AllFit does (call ∷ others) object = AllFit does others (object_after does call object)

  -- an answer of the version, which tells the host's own one
  abbrev pub IsVersionAnswer : Behaviour Object → ℕ → Report → Type 0
  IsVersionAnswer does version report = (agreement : Agreement) × (report ≡ said does (VersionAnswer agreement version))

  -- all that the initialisation says of an object as it is: start, its status, completed
  abbrev pub initialisation : Behaviour Object → Object → List Report
  initialisation does object =
      said does StartInitialisation ∷ (initial_status does most_objects 0 object ++ said does InitialisationCompleted ∷ [])

  -- What a host itself says to what comes: answers of the version, and after them some of what its initialisation says,
  -- for the window may refuse each. Then the initialisation is completed.
  pub record IsSaid (does : Behaviour Object) (host : HostState Object) (after : Stage) (own : List Report) : Type 0 where
    pub answers : List Report
    pub begins : List Report
    pub own_is : own ≡ answers ++ begins
    pub are_answers : All (IsVersionAnswer does host.version) answers
    pub are_some : AreSomeOf begins (initialisation does host.object)
    pub completes : is_completed after ≡ false → begins ≡ []
    -- it says nothing where the initialisation was completed before
    pub late : is_completed host.stage ≡ true → own ≡ []

  -- how a step begins: before anything else a loss that the clock rules bring, then the clock reading
  abbrev pub calls_begun : ℕ → HostState Object → List ObjectCall
  calls_begun now old = loss_where (has_lost (record old { link = settled now old.link })) ++ Ticks now ∷ []

  -- The calls of an object in a step: what begins it, what comes and what is paid, a loss in the step itself, and at last
  -- the moment at which the link dies.
  abbrev pub calls_in_step : ℕ → HostState Object → List ObjectCall → Bool → HostState Object → List ObjectCall
  calls_in_step now old during is_lost new =
      calls_begun now old ++ (during ++ (loss_where is_lost ++ Keeps (alive_until new.link) ∷ []))

  pub record IsToldIn (does : Behaviour Object) (now : ℕ) (input : Input) (host : HostState Object) (part : HostSoFar Object) : Type 0 where
    -- the object after the step is that before it after these calls: what comes, and after it what is paid
    pub comes : List ObjectCall
    pub pays : List ObjectCall
    pub are_coming : AreComing now comes
    pub are_payments : ArePayments pays
    pub is_lost : Bool
    pub begun_is : (beginning does now host).object ≡ object_after_all does (calls_begun now host) host.object
    pub object_is : part.host.object ≡ object_after_all does (calls_in_step now host (comes ++ pays) is_lost part.host) host.object
    -- the telegrams that it took are those of the step, and there are none before the initialisation was completed
    pub takes : telegrams_in comes ≡ part.told
    pub untold : is_completed (given does now input (beginning does now host)).host.stage ≡ false → part.told ≡ []
    -- one that doesn't fit closes the link
    pub fit : is_open part.host.link.phase ≡ true → AllFit does comes (beginning does now host).object
    -- the contacts that it sensed are those of the input
    pub senses : contacts_in comes ≡ contacts_of input
    -- a link that stays open isn't lost, and one that was open by the clock rules or that what comes opens, and closes, is
    pub stays : is_open part.host.link.phase ≡ true → is_lost ≡ false
    pub falls : is_outside (given does now input (beginning does now host)).host.stage ≡ false → is_open part.host.link.phase ≡ false → is_lost ≡ true
    -- the items given: first what the host says itself to what comes, then the reports that were sent
    pub own : List Report
    pub reports : List Report
    pub gives : items_given now part.calls (settled now host.link) ≡ map (item_of part.host) (own ++ reports)
    pub says : IsSaid does (beginning does now host) (given does now input (beginning does now host)).host.stage own
    -- what comes leaves no connection, and no initialisation that was completed; while the link is open the stage is the one
    -- that it leads to
    pub remains : is_outside (beginning does now host).stage ≡ false → is_outside (given does now input (beginning does now host)).host.stage ≡ false
    pub completed : is_completed (beginning does now host).stage ≡ true → is_completed (given does now input (beginning does now host)).host.stage ≡ true
    pub stage_is : is_open part.host.link.phase ≡ true → part.host.stage ≡ (given does now input (beginning does now host)).host.stage
    -- each report that was paid was sent, as it was owed after what came, where that has completed the initialisation;
    -- otherwise all were dropped
    pub paid : is_completed (given does now input (beginning does now host)).host.stage ≡ true
        → reports ≡ reports_paid does pays (object_after_all does comes (beginning does now host).object)
    pub dropped : is_completed (given does now input (beginning does now host)).host.stage ≡ false → reports ≡ []
