-- What is found at a step is told in another form.
use Rattle.std.proofs.Common.{◌≡◌, ◌∙◌, ◌==◌, false, ap, length, refl, sym, List, [], ◌∷◌, Option, Some, None}
use Rattle.std.specs.Option.{option_map, option_or}
use Rattle.std.specs.Prelude.{option_and_then, if◌then◌else◌}
use Rattle.control_table.specs.declared.fault.FaultyRoute.{FaultyRoute}
use Rattle.control_table.specs.declared.fault.TableFault.{TableFault}
use Rattle.control_table.specs.declared.fault.TableFault.TheVariants as fault
use Rattle.control_table.specs.layout.Entries.{RouteEntry, Site}
use Rattle.control_table.specs.layout.declared.ids.RouteId.{RouteId}
use Rattle.control_table.specs.layout.declared.port.Port.{Port}
use Rattle.station_layout.specs.RouteDetails.{break_at, broken_detail, detail_of, open_at, open_detail}
use Rattle.station_layout.specs.RouteStart.{start_of}
use Rattle.station_layout.specs.Search.{first_step}
use Rattle.station_layout.specs.SideDetails.{contrary_at, contrary_detail, lacking_at, lacking_detail}
use Rattle.station_layout.specs.declared.detail.PathDetail.{PathDetail}
use Rattle.station_layout.specs.declared.detail.PathDetail.TheVariants.{Empty}
use Rattle.station_layout.specs.declared.detail.RouteDetail.TheVariants.{Path, Points}
use Rattle.station_layout.specs.inside.StepsFound.{first_step_found, step_found}

module _ {A B : Type 0} (told : A → B) where
  either : (one other : Option A) → option_map told (option_or one other) ≡ option_or (option_map told one) (option_map told other)
  either None other = refl
  either (Some x) other = refl

  steps : (found : Port → Port → Option A) (before : Port) (path : List Port)
      → option_map told (first_step found before path) ≡ first_step (λ b l. option_map told (found b l)) before path
  steps found before [] = refl
  steps found before (left ∷ path) =
      either (found before left) (first_step found left path) ∙ ap (λ rest. option_or (option_map told (found before left)) rest) (steps found left path)

  pub steps_from : (found : Port → Port → Port → Option A) (path : List Port) (start : Option Port)
      → option_map told (option_and_then (λ s. first_step (found s) s path) start) ≡ option_and_then (λ s. first_step (λ b l. option_map told (found s b l)) s path) start
  steps_from found path None = refl
  steps_from found path (Some s) = steps (found s) s path

-- ---- the detail of a fault that is told by a step

module _ (l : Site) (r : RouteEntry) (id : RouteId) where
  pub broken : (at : FaultyRoute) → (length r.path == 0) ≡ false → first_step_found l r (fault.PathBroken at) ≡ detail_of l r id (fault.PathBroken at)
  unfolding detail_of broken_detail
  broken at some = sym (ap (λ b. option_map Path (if b then Some Empty else from_start)) some ∙ steps_from Path (λ start before left. break_at l before left) r.path (start_of l r))
    where
      from_start : Option PathDetail
      from_start = option_and_then (λ start. first_step (λ before left. break_at l before left) start r.path) (start_of l r)

  lacking : (at : FaultyRoute) → first_step_found l r (fault.FlankMissing at) ≡ detail_of l r id (fault.FlankMissing at)
  unfolding detail_of lacking_detail
  lacking at = sym (steps_from Path (λ start before left. lacking_at l r before left) r.path (start_of l r))

  open_leg : (at : FaultyRoute) → first_step_found l r (fault.FlankOpen at) ≡ detail_of l r id (fault.FlankOpen at)
  unfolding detail_of open_detail
  open_leg at = sym (steps_from Path (λ start before left. open_at l before left) r.path (start_of l r))

  contradicts : (at : FaultyRoute) → first_step_found l r (fault.FlankContradicts at) ≡ detail_of l r id (fault.FlankContradicts at)
  unfolding detail_of contrary_detail
  contradicts at = sym (steps_from Points (λ start. contrary_at l start r.path) r.path (start_of l r))

  nothing : (start : Option Port) → option_and_then (λ s. first_step (step_found l r s fault.OutOfMemory) s r.path) start ≡ None
  nothing None = refl
  nothing (Some s) = none_on s r.path where
    none_on : (before : Port) (path : List Port) → first_step (step_found l r s fault.OutOfMemory) before path ≡ None
    none_on before [] = refl
    none_on before (left ∷ path) = none_on left path

  -- no other fault, and no empty path
  pub by_steps : (f : TableFault) → ((at : FaultyRoute) → f ≡ fault.PathBroken at → (length r.path == 0) ≡ false) → ((at : FaultyRoute) → f ≡ fault.PathRepeats at → ⊥)
      → ((at : FaultyRoute) → f ≡ fault.PointMissing at → ⊥) → ((at : FaultyRoute) → f ≡ fault.PointWrong at → ⊥) → ((at : FaultyRoute) → f ≡ fault.SignalPlace at → ⊥)
      → ((at : FaultyRoute) → f ≡ fault.NotSymmetric at → ⊥) → first_step_found l r f ≡ detail_of l r id f
  unfolding detail_of
  by_steps (fault.PathBroken at) some a b c d e = broken at (some at refl)
  by_steps (fault.PathRepeats at) some a b c d e = absurd (a at refl)
  by_steps (fault.PointMissing at) some a b c d e = absurd (b at refl)
  by_steps (fault.PointWrong at) some a b c d e = absurd (c at refl)
  by_steps (fault.FlankMissing at) some a b c d e = lacking at
  by_steps (fault.FlankOpen at) some a b c d e = open_leg at
  by_steps (fault.FlankContradicts at) some a b c d e = contradicts at
  by_steps (fault.SignalPlace at) some a b c d e = absurd (d at refl)
  by_steps (fault.NotSymmetric at) some a b c d e = absurd (e at refl)
  by_steps fault.OutOfMemory some a b c d e = nothing (start_of l r)
