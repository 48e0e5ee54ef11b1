-- A whole picture is its parts one after another.
use Rattle.std.proofs.Common.{◌≡◌, sym, ap, ◌∙◌, ℕ, ◌/◌, true, List, ◌++◌, length, codes, append_assoc}
use Rattle.std.specs.Fmt.{decimal}
use Rattle.std.proofs.lemmas.List.{length-map}
use Rattle.ixl_state.specs.layout.Entries.{Site}
use Rattle.ixl_state.specs.ixl_spec.Table.{Table}
use Rattle.simulator_spec.specs.Picture.{picture_text, point_lines, route_lines, section_lines, signal_lines}
use Rattle.simulator_spec.specs.Refusals.{driven_by}
use Rattle.simulator_spec.specs.Seen.{IsSnapshotOf}
use Rattle.simulator_spec.specs.State.{WorldState}
use Rattle.simulator_spec.specs.Interlocking.{held_of}
use Rattle.simulator_spec.specs.simulator_event.Safe.{Safe}
use Rattle.simulator_spec.specs.simulator_event.declared.snapshot.Snapshot.{Snapshot}

-- there are as many points as drives are seen
pub all_points : (site : Site) (table : Table) (world : WorldState) (seen : Snapshot) → IsSnapshotOf table world seen → Safe site seen → length world.points ≡ length site.points
all_points site table world seen of safe =
    sym (length-map world.points driven_by) ∙ ap length (sym of.driven) ∙ safe.of.drives

pub whole : (site : Site) (table : Table) (world : WorldState) (time signals points sections routes text : List ℕ)
    → time ≡ codes "time " ++ decimal (world.time / 1000)
    → signals ≡ time ++ signal_lines site (held_of table world.interlocking world.frozen) 0 site.signals world.signals
    → points ≡ signals ++ point_lines site.points world.positions world.points
    → sections ≡ points ++ section_lines site.sections world.occupancies
    → routes ≡ sections ++ route_lines site.routes world.interlocking.ixl.routes
    → text ≡ routes ++ (codes "\n" ++ codes "safe")
    → text ≡ picture_text site table true world
unfolding picture_text
whole site table world time signals points sections routes text e f g h i j =
    let s = signal_lines site (held_of table world.interlocking world.frozen) 0 site.signals world.signals
    in let p = point_lines site.points world.positions world.points
    in let c = section_lines site.sections world.occupancies
    in let r = route_lines site.routes world.interlocking.ixl.routes
    in let last : List ℕ = codes "\n" ++ codes "safe"
    in let now : List ℕ = decimal (world.time / 1000)
    in j
    ∙ ap (λ t. t ++ last) i ∙ append_assoc sections r last
    ∙ ap (λ t. t ++ (r ++ last)) h ∙ append_assoc points c (r ++ last)
    ∙ ap (λ t. t ++ (c ++ (r ++ last))) g ∙ append_assoc signals p (c ++ (r ++ last))
    ∙ ap (λ t. t ++ (p ++ (c ++ (r ++ last)))) f ∙ append_assoc time s (p ++ (c ++ (r ++ last)))
    ∙ ap (λ t. t ++ (s ++ (p ++ (c ++ (r ++ last))))) e ∙ append_assoc (codes "time ") now (s ++ (p ++ (c ++ (r ++ last))))
