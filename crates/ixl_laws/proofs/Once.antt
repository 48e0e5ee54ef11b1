-- A move is given once for a route in a connection.
use Rattle.std.proofs.Common.{◌≡◌, ℕ, zero, suc, ◌<◌, Bool, true, false, List, [], ◌∷◌, length, arith, refl, ap, sym, ◌∙◌, subst}
use Rattle.std.specs.Prelude.{◌||◌, ◌==◌, Option, Some, None, slice_get}
use Rattle.std.specs.Cmp.{nat_cmp_total, unsigned_tied}
use Rattle.std.specs.FinSet.{contains, insert, contains-insert}
use Rattle.std.proofs.lemmas.Bool.{eqb-false, false≢true}
use Rattle.ixl_state.specs.bit_row.Places.{Places}
use Rattle.ixl_state.specs.sci_telegram.declared.message.Side.{Side}
use Rattle.ixl_state.specs.ixl_client.Client.{ClientState, is_available, is_outside}
use Rattle.ixl_state.specs.ixl_client.ClientSoFar.{begun}
use Rattle.ixl_state.specs.ixl_client.Step.{commanding}
use Rattle.ixl_state.specs.ixl_client.declared.command.Command.TheVariants as commands
use Rattle.ixl_state.specs.ixl_client.declared.stage.Stage.{Stage}
use Rattle.ixl_state.specs.ixl_client.declared.stage.Stage.TheVariants as stage
use Rattle.ixl_state.specs.ixl_spec.Due.{MoveDue}
use Rattle.ixl_state.specs.ixl_spec.StepSoFar.{StepSoFar, all_below, giving_move, known_point_after, with_one}
use Rattle.ixl_state.specs.ixl_spec.State.{RouteState, KnownPointState}
use Rattle.ixl_state.specs.ixl_spec.Table.{Need, Table}
use Rattle.ixl_laws.proofs.PointAnswers.{moved_by}
use Rattle.ixl_laws.proofs.Clients.{known_point_client}
use Rattle.ixl_laws.proofs.PickedByTest.{changed_here, none_is, some_same}

get_inside : {A : Type 0} (list : List A) (place : ℕ) (one : A) → slice_get list place ≡ Some one → place < length list
get_inside [] place one is = absurd (none_is is)
get_inside (first ∷ others) zero one is = omega arith
get_inside (first ∷ others) (suc place) one is = let within = get_inside others place one is in omega (arith, within)

put : (s : Places) (j k : ℕ) → contains (insert s j) k ≡ ((k == j) || contains s k)
put s j k = contains-insert nat_cmp_total s j k ∙ ap (λ b. b || contains s k) (unsigned_tied k j)

with_last : (n k : ℕ) → k < suc n → (k < n → contains (all_below n) k ≡ true) → (same : Bool) → (k == n) ≡ same → ((k == n) || contains (all_below n) k) ≡ true
with_last n k below others true is = ap (λ b. b || contains (all_below n) k) is
with_last n k below others false is =
    let apart : k ≡ n → ⊥ = eqb-false k n is
    in ap (λ b. b || contains (all_below n) k) is ∙ others (omega (arith, below, apart))

has_all_below : (n k : ℕ) → k < n → contains (all_below n) k ≡ true
has_all_below zero k below = absurd (omega (arith, below))
has_all_below (suc n) k below = put (all_below n) n k ∙ with_last n k below (has_all_below n k) (k == n) refl

-- inside a connection what counts as moved is kept
pub moved_is : (side : Option Side) (moved : Places) (client : ClientState) → is_outside client.stage ≡ false → (known_point_after side moved client).moved ≡ moved
unfolding known_point_after
moved_is side moved client inside = rw inside refl

pub moves_count : (now point : ℕ) (side : Side) (part : StepSoFar) (number : ℕ) (route : RouteState) (after : KnownPointState) → slice_get part.ixl.routes number ≡ Some route →
    slice_get (giving_move now point side part).ixl.known_points point ≡ Some after → is_outside after.client.stage ≡ false → contains after.moved number ≡ true
unfolding giving_move moved_by
moves_count now point side part number route after kept is inside = by_known_point (slice_get part.ixl.known_points point) refl is where
  by_known_point : (one : Option KnownPointState) → slice_get part.ixl.known_points point ≡ one →
      slice_get (with_one one (moved_by now point side) part).ixl.known_points point ≡ Some after → contains after.moved number ≡ true
  by_known_point None none is = absurd (none_is (sym none ∙ is))
  by_known_point (Some known_point) there is =
      let done = commanding now (commands.Move side) (begun known_point.client part.outbox)
      in let behind : KnownPointState = known_point_after known_point.side (all_below (length part.ixl.routes)) done.client
      in let same : after ≡ behind = (changed_here (λ _. behind) point part.ixl.known_points after is).2
      in let stays : is_outside done.client.stage ≡ false = sym (ap (λ (c : ClientState). is_outside c.stage) (known_point_client known_point.side (all_below (length part.ixl.routes)) done.client)) ∙ sym (ap (λ (s : KnownPointState). is_outside s.client.stage) same) ∙ inside
      in ap (λ (s : KnownPointState). contains s.moved number) same
      ∙ ap (λ (row : Places). contains row number) (moved_is known_point.side (all_below (length part.ixl.routes)) done.client stays)
      ∙ has_all_below (length part.ixl.routes) number (get_inside part.ixl.routes number route kept)

pub inside_of : (s : Stage) → is_available s ≡ true → is_outside s ≡ false
inside_of stage.Outside is = absurd (false≢true is)
inside_of stage.AwaitsAnswer is = refl
inside_of stage.AwaitsStart is = refl
inside_of (stage.AwaitsStatus left) is = refl
inside_of stage.Completed is = refl
inside_of stage.AwaitsReport is = refl

pub moves_once : (now : ℕ) (table : Table) (need : Need) (part : StepSoFar) (number : ℕ) (route later : RouteState) → slice_get part.ixl.routes number ≡ Some route →
    MoveDue table (giving_move now need.point need.side part).ixl number later need → ⊥
moves_once now table need part number route later kept due =
    let here : slice_get (giving_move now need.point need.side part).ixl.known_points need.point ≡ Some due.once.0 = due.once.1
    in let same : due.available.0 ≡ due.once.0 = some_same (sym due.available.1 ∙ here)
    in let inside : is_outside due.once.0.client.stage ≡ false = subst (λ (s : KnownPointState). is_outside s.client.stage ≡ false) same (inside_of due.available.0.client.stage due.available.2)
    in false≢true (sym due.once.2 ∙ moves_count now need.point need.side part number route due.once.0 kept here inside)
