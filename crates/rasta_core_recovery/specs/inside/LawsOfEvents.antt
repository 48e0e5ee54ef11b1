-- What is so of two ends as they begin, and after every event.
use Rattle.std.specs.Prelude.{◌≡◌}
use Rattle.rasta_core_spec.specs.Clock.{settled}
use Rattle.rasta_core_spec.specs.Ends.{reading_of}
use Rattle.rasta_core_spec.specs.Events.{Event, May, Start, happened, started}
use Rattle.rasta_core_spec.specs.Names.{AreNames, Names}
use Rattle.rasta_core_spec.specs.Run.{Ends, end_of}
use Rattle.rasta_core_spec.specs.identity.Role.{Role}
use Rattle.rasta_core.specs.Invariant.{Timely}
use Rattle.rasta_core.specs.Ordered.{Ordered}

pub record LawsOfEvents : Type 0 where
  pub starts_in_time : (names : Names) (start : Start) → AreNames names → Timely names (started names start)
  pub every_event_keeps_time : (names : Names) (event : Event) (ends : Ends) → AreNames names → Timely names ends → May names event ends → Timely names (happened event ends)
  pub every_event_keeps_order_starts : (names : Names) (start : Start) → Ordered names (started names start)
  pub every_event_keeps_order_kept : (names : Names) (event : Event) (ends : Ends) → AreNames names → Timely names ends → Ordered names ends → May names event ends → Ordered names (happened event ends)
  pub links_are_settled : (names : Names) (ends : Ends) (who : Role) → Timely names ends → settled (reading_of (end_of who ends).clock) (end_of who ends).link ≡ (end_of who ends).link
