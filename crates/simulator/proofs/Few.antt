-- Entries of a snapshot, made one after another.
use Rattle.std.proofs.Common.{◌≡◌, refl, sym, ap, ◌∙◌, ℕ, zero, suc, ◌+◌, ◌<◌, List, [], ◌∷◌, ◌++◌, length, map, take, get_or, Some, arith}
use Rattle.std.specs.Prelude.{Option, slice_get}
use Rattle.std.specs.Option.{option_map}
use Rattle.std.proofs.lemmas.List.{map_more}
use Rattle.std.proofs.lemmas.Option.{same_Some, slice_get-get_or}
use Rattle.ixl_state.specs.sci_telegram.declared.message.Aspect.{Aspect}
use Rattle.ixl_state.specs.sci_telegram.declared.message.Side.{Side}
use Rattle.simulator_spec.specs.point_ctl.Drive.{PointState}
use Rattle.simulator_spec.specs.signal_ctl.Signal.{SignalState}
use Rattle.simulator_spec.specs.simulator_event.declared.snapshot.Shown.{Shown}
use Rattle.simulator_spec.specs.Refusals.{driven_at, driven_by}
use Rattle.simulator_spec.specs.Seen.{as_shown, shown_by}
use Rattle.simulator_spec.specs.State.{ClockedControllerState}

-- the next signal
pub shown_next : (servers : List (ClockedControllerState SignalState)) (shows : List Shown) (place : ℕ) (aspect : Aspect) → place < length servers → option_map shown_by (slice_get servers place) ≡ Some aspect → shows ≡ map as_shown (take place servers)
    → shows ++ record { 0 = aspect } ∷ [] ≡ map as_shown (take (place + 1) servers)
shown_next [] shows place aspect below is so_far = absurd (omega (arith, below))
shown_next (first ∷ others) shows place aspect below is so_far =
    let servers = first ∷ others
    in let As : Aspect → Shown = λ a. record { 0 = a }
    in let shown : aspect ≡ shown_by (get_or servers place first) = sym (same_Some _ _ (ap (option_map shown_by) (sym (slice_get-get_or servers place first below)) ∙ is))
    in ap (λ all. all ++ As aspect ∷ []) so_far ∙ ap (λ a. map as_shown (take place servers) ++ As a ∷ []) shown ∙ sym (map_more as_shown servers place first below)

driven_get : (place : ℕ) (servers : List (ClockedControllerState PointState)) (server : ClockedControllerState PointState) → place < length servers → driven_at place servers ≡ driven_by (get_or servers place server)
driven_get place [] server below = absurd (omega (arith, below))
driven_get zero (first ∷ others) server below = refl
driven_get (suc place) (first ∷ others) server below = driven_get place others server (omega (arith, below))

-- the next point
pub driven_next : (servers : List (ClockedControllerState PointState)) (drives : List (Option Side)) (place : ℕ) (side : Option Side) → place < length servers → side ≡ driven_at place servers → drives ≡ map driven_by (take place servers)
    → drives ++ side ∷ [] ≡ map driven_by (take (place + 1) servers)
driven_next [] drives place side below is so_far = absurd (omega (arith, below))
driven_next (first ∷ others) drives place side below is so_far =
    let servers = first ∷ others
    in ap (λ all. all ++ side ∷ []) so_far ∙ ap (λ s. map driven_by (take place servers) ++ s ∷ []) (is ∙ driven_get place servers first below) ∙ sym (map_more driven_by servers place first below)
