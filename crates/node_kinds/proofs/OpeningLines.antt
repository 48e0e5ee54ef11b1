-- What is kept of what contacts told.
use Rattle.std.proofs.Common.{◌≡◌, refl, sym, ap, List, [], ◌∷◌, ◌++◌, Option, Some, None, option_map}
use Rattle.std.proofs.lemmas.List.{append_assoc}
use Rattle.simulator_spec.specs.sci_telegram.declared.message.Occupancy.{Occupancy}
use Rattle.simulator_spec.specs.sci_telegram.declared.message.Position.{Position}
use Rattle.node_kinds.specs.Openings.{Opening, opened_by}
use Rattle.node_kinds.specs.declared.opening_node.Contact.{Contact}
use Rattle.node_kinds.specs.declared.opening_node.Contact.TheVariants as contact
use Rattle.node_kinds.specs.inside.ControllerSteps.{noted, opens}
use Rattle.node_kinds.specs.Made.{all_told}

pub noted_is : (told : Contact) (opening : Opening) (position : Option Position) (sections : List (Option Occupancy)) → (position, sections) ≡ noted told (opening.position, opening.sections)
    → record opening { position = position; sections = sections } ≡ opened_by (opens told) opening
noted_is (contact.Lies lies) opening position sections same = ap (λ (kept : Option Position × List (Option Occupancy)). record opening { position = kept.0; sections = kept.1 }) same
noted_is (contact.Stands place occupancy) opening position sections same = ap (λ (kept : Option Position × List (Option Occupancy)). record opening { position = kept.0; sections = kept.1 }) same

-- one more was told
pub told_on : {Told : Type 0} (told : List Told) (one : Told) (others : List (Option Told))
    → option_map (λ more. told ++ more) (all_told (Some one ∷ others)) ≡ option_map (λ more. (told ++ one ∷ []) ++ more) (all_told others)
told_on {Told} told one others = by_rest (all_told others) where
  by_rest : (rest : Option (List Told)) → option_map (λ more. told ++ more) (option_map (λ more. one ∷ more) rest) ≡ option_map (λ more. (told ++ one ∷ []) ++ more) rest
  by_rest None = refl
  by_rest (Some more) = ap Some (sym (append_assoc told (one ∷ []) more))
