-- What stays as it is.
use Rattle.std.proofs.Common.{refl, ◌∙◌, ℕ, List, [], ◌∷◌, Some}
use Rattle.std.proofs.lemmas.List.{length-set}
use Rattle.node_drive.specs.Lives.{state_after}
use Rattle.node_kinds.specs.Openings.{Lies, Nothing, Opening, Opens, Stands, opened_by, opening_kind}
use Rattle.node_kinds.specs.Same.{IsSameOpening}

kept_by_one : (input : Opens) (opening : Opening) → IsSameOpening opening (opened_by input opening)
kept_by_one Nothing opening = record { site = refl; equipment = refl; sections = refl }
kept_by_one (Lies position) opening = record { site = refl; equipment = refl; sections = refl }
kept_by_one (Stands place occupancy) opening = record { site = refl; equipment = refl; sections = length-set opening.sections place (Some occupancy) }

pub opening_kept : (inputs : List (ℕ × Opens)) (opening : Opening) → IsSameOpening opening (state_after opening_kind inputs opening)
opening_kept [] opening = record { site = refl; equipment = refl; sections = refl }
opening_kept (one ∷ others) opening =
    let first : IsSameOpening opening (opened_by one.1 opening) = kept_by_one one.1 opening
    in let rest : IsSameOpening (opened_by one.1 opening) (state_after opening_kind others (opened_by one.1 opening)) = opening_kept others (opened_by one.1 opening)
    in record { site = rest.site ∙ first.site; equipment = rest.equipment ∙ first.equipment; sections = rest.sections ∙ first.sections }
