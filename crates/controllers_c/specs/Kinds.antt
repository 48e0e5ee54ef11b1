-- Which controller a handle holds, and a handle after a call of it.
use Rattle.std.specs.Prelude.{List, Option, Some, None}
use Rattle.embedded_host.specs.Embedded.{EmbeddedState}
use Rattle.signal_ctl.specs.Signal.{SignalState}
use Rattle.point_ctl.specs.Drive.{PointState}
use Rattle.tds_ctl.specs.declared.section.Section.{Section}
use Rattle.controllers_c.specs.declared.held.Held.{Held}
use Rattle.controllers_c.specs.declared.held.Kind.{Kind}
use Rattle.controllers_c.specs.declared.held.Kind.TheVariants.{Signal, Point, Detector}

-- that of a signal, if it is one
abbrev pub signal_in : Kind → Option (EmbeddedState SignalState)
signal_in (Signal it) = Some it
signal_in _ = None

abbrev pub point_in : Kind → Option (EmbeddedState PointState)
point_in (Point it) = Some it
point_in _ = None

abbrev pub detector_in : Kind → Option (EmbeddedState (List Section))
detector_in (Detector it) = Some it
detector_in _ = None

-- a controller of one kind changes, and others stay
abbrev pub changed_signal : (EmbeddedState SignalState → EmbeddedState SignalState) → Kind → Kind
changed_signal change (Signal it) = Signal (change it)
changed_signal change kind = kind

abbrev pub changed_point : (EmbeddedState PointState → EmbeddedState PointState) → Kind → Kind
changed_point change (Point it) = Point (change it)
changed_point change kind = kind

abbrev pub changed_detector : (EmbeddedState (List Section) → EmbeddedState (List Section)) → Kind → Kind
changed_detector change (Detector it) = Detector (change it)
changed_detector change kind = kind

-- of a handle: before its start it holds none
abbrev pub held_signal : Option Held → Option (EmbeddedState SignalState)
held_signal None = None
held_signal (Some held) = signal_in held.kind

abbrev pub held_point : Option Held → Option (EmbeddedState PointState)
held_point None = None
held_point (Some held) = point_in held.kind

abbrev pub held_detector : Option Held → Option (EmbeddedState (List Section))
held_detector None = None
held_detector (Some held) = detector_in held.kind

abbrev pub held_after : (Kind → Kind) → Option Held → Option Held
held_after change None = None
held_after change (Some held) = Some (record held { kind = change held.kind })
