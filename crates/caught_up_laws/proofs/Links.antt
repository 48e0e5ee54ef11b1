-- What an event list of a world is to one of its links, part by part.
use Rattle.std.proofs.Common.{◌≡◌, ℕ, List, [], ◌∷◌, ◌++◌, refl, sym, ap, ◌∙◌, append_assoc}
use Rattle.rasta_core.specs.Links.{Links, LinksEvent, events_on, happened_to, run_links, run_on}
use Rattle.rasta_core_spec.specs.Events.{Event}

pub run_on_joined : (link : ℕ) (one other : List LinksEvent) (links : Links) → run_on link (one ++ other) links ≡ run_on link one links ++ run_on link other (run_links one links)
run_on_joined link [] other links = refl
run_on_joined link (first ∷ one) other links =
    ap (λ (rest : List Event). events_on link first links ++ rest) (run_on_joined link one other (happened_to first links))
    ∙ sym (append_assoc (events_on link first links) (run_on link one (happened_to first links)) (run_on link other (run_links one (happened_to first links))))
