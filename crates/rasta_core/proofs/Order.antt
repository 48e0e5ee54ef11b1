-- Each link of a world is in order, event by event.
use Rattle.std.proofs.Common.{ℕ, sym, subst, List, [], ◌∷◌}
use Rattle.rasta_core_spec.specs.Events.{Event, MayRun, run}
use Rattle.rasta_core_spec.specs.Names.{AreNames, Names}
use Rattle.rasta_core_spec.specs.Run.{Ends}
use Rattle.rasta_core.specs.Invariant.{Timely}
use Rattle.rasta_core.specs.Ordered.{Ordered}
use Rattle.rasta_core.specs.EachLink.{AreOrdered, AreTimely}
use Rattle.rasta_core.specs.Links.{AreLinks, Links, LinksEvent, MayHappenTo, MayRunLinks, events_on, happened_to, run_links, seen}
use Rattle.rasta_core.proofs.Projection.{KeepsTime, may_happen, sees, time_kept}

-- every list of events of two ends keeps the order
abbrev pub KeepsOrder : Type 0
KeepsOrder = (names : Names) (events : List Event) (ends : Ends) → AreNames names → Timely names ends → Ordered names ends → MayRun names events ends → Ordered names (run events ends)

pub order_kept : KeepsOrder → (count : ℕ) (names : ℕ → Names) (event : LinksEvent) (links : Links) → AreLinks count names → AreTimely count names links → AreOrdered count names links
    → MayHappenTo count names event links → AreOrdered count names (happened_to event links)
order_kept keeps count names event links are is ordered may = λ link below. subst (λ (ends : Ends). Ordered (names link) ends) (sym (sees link event links))
    (keeps (names link) (events_on link event links) (seen link links) (are.each link below) (is.each link below) (ordered link below) (may_happen count names event links are is may link below))

pub run_keeps_order : KeepsTime → KeepsOrder → (count : ℕ) (names : ℕ → Names) (events : List LinksEvent) (links : Links) → AreLinks count names → AreTimely count names links
    → AreOrdered count names links → MayRunLinks count names events links → AreOrdered count names (run_links events links)
run_keeps_order time order count names [] links are is ordered may = ordered
run_keeps_order time order count names (first ∷ others) links are is ordered may =
    run_keeps_order time order count names others (happened_to first links) are (time_kept time count names first links are is may.0)
    (order_kept order count names first links are is ordered may.0) may.1
