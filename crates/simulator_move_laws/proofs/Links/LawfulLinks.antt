-- A lawful link stays lawful, event by event.
use Rattle.std.proofs.Common.{ℕ, ◌<◌, List, [], ◌∷◌}
use Rattle.rasta_core.specs.EachLink.{AreOrdered, AreTimely}
use Rattle.rasta_core.specs.Events.{Event, May, MayRun, happened, run}
use Rattle.rasta_core.specs.Given.{IsGiven}
use Rattle.rasta_core.specs.Invariant.{Timely}
use Rattle.rasta_core.specs.Links.{AreLinks, Links, LinksEvent, MayHappenTo, MayRunLinks, happened_to, run_links, seen}
use Rattle.rasta_core.specs.Names.{AreNames, Names}
use Rattle.rasta_core.specs.Newest.{IsNewest, IsUnused}
use Rattle.rasta_core.specs.Ordered.{Ordered}
use Rattle.rasta_core.specs.Run.{Ends}
use Rattle.rasta_core.specs.identity.Role.{Role}
use Rattle.simulator_move_laws.specs.Lawful.{AreLawful, IsLawful}

-- the laws of two ends
pub record LawfulLaws : Type 0 where
  pub time : (names : Names) (event : Event) (ends : Ends) → AreNames names → Timely names ends → May names event ends → Timely names (happened event ends)
  pub order : (names : Names) (event : Event) (ends : Ends) → AreNames names → Timely names ends → Ordered names ends → May names event ends → Ordered names (happened event ends)
  pub newest : (names : Names) (event : Event) (ends : Ends) (who : Role) → Timely names ends → IsNewest who ends → IsNewest who (happened event ends)
  pub given : (names : Names) (events : List Event) (ends : Ends) → AreNames names → Timely names ends → ((who : Role) → IsGiven names who ends)
      → MayRun names events ends → (who : Role) → IsGiven names who (run events ends)
  pub unused : (names : Names) (event : Event) (ends : Ends) (who : Role) → Timely names ends → IsUnused who ends → IsUnused who (happened event ends)

pub event_lawful : LawfulLaws → (names : Names) (event : Event) (ends : Ends) → AreNames names → IsLawful names ends → May names event ends → IsLawful names (happened event ends)
event_lawful laws names event ends are is may = record {
  timely = laws.time names event ends are is.timely may;
  ordered = laws.order names event ends are is.timely is.ordered may;
  newest = λ who. laws.newest names event ends who is.timely (is.newest who);
  given = laws.given names (event ∷ []) ends are is.timely is.given (may, tt);
  unused = λ who. laws.unused names event ends who is.timely (is.unused who);
}

pub run_lawful : LawfulLaws → (names : Names) (events : List Event) (ends : Ends) → AreNames names → IsLawful names ends → MayRun names events ends → IsLawful names (run events ends)
run_lawful laws names [] ends are is may = is
run_lawful laws names (event ∷ events) ends are is may = run_lawful laws names events (happened event ends) are (event_lawful laws names event ends are is may.0) may.1

-- the laws of a world
pub record WorldLaws : Type 0 where
  pub time : (count : ℕ) (names : ℕ → Names) (event : LinksEvent) (links : Links) → AreLinks count names → AreTimely count names links
      → MayHappenTo count names event links → AreTimely count names (happened_to event links)
  pub order : (count : ℕ) (names : ℕ → Names) (event : LinksEvent) (links : Links) → AreLinks count names → AreTimely count names links
      → AreOrdered count names links → MayHappenTo count names event links → AreOrdered count names (happened_to event links)
  pub newest : (count : ℕ) (names : ℕ → Names) (event : LinksEvent) (links : Links) → AreLinks count names → AreTimely count names links
      → MayHappenTo count names event links → (link : ℕ) → link < count → (who : Role) → IsNewest who (seen link links)
      → IsNewest who (seen link (happened_to event links))
  pub given : (count : ℕ) (names : ℕ → Names) (event : LinksEvent) (links : Links) → AreLinks count names → AreTimely count names links
      → MayHappenTo count names event links → (link : ℕ) → link < count → ((who : Role) → IsGiven (names link) who (seen link links))
      → (who : Role) → IsGiven (names link) who (seen link (happened_to event links))
  pub unused : (count : ℕ) (names : ℕ → Names) (event : LinksEvent) (links : Links) → AreLinks count names → AreTimely count names links
      → MayHappenTo count names event links → (link : ℕ) → link < count → (who : Role) → IsUnused who (seen link links)
      → IsUnused who (seen link (happened_to event links))

pub world_lawful : WorldLaws → (count : ℕ) (names : ℕ → Names) (event : LinksEvent) (links : Links) → AreLinks count names → AreLawful count names links
    → MayHappenTo count names event links → AreLawful count names (happened_to event links)
world_lawful laws count names event links are is may = record {
  timely = laws.time count names event links are is.timely may;
  ordered = laws.order count names event links are is.timely is.ordered may;
  newest = λ link below who. laws.newest count names event links are is.timely may link below who (is.newest link below who);
  given = λ link below. laws.given count names event links are is.timely may link below (is.given link below);
  unused = λ link below who. laws.unused count names event links are is.timely may link below who (is.unused link below who);
}

pub worlds_lawful : WorldLaws → (count : ℕ) (names : ℕ → Names) (events : List LinksEvent) (links : Links) → AreLinks count names → AreLawful count names links
    → MayRunLinks count names events links → AreLawful count names (run_links events links)
worlds_lawful laws count names [] links are is may = is
worlds_lawful laws count names (event ∷ events) links are is may =
    worlds_lawful laws count names events (happened_to event links) are (world_lawful laws count names event links are is may.0) may.1
