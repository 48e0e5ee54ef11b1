-- The table of the small station is sound; and what is broken at the end of each run by a changed rule.
use Rattle.std.proofs.Common.{◌≡◌, ℕ, zero, suc, Bool, true, false, refl, subst, arith}
use Rattle.std.specs.Prelude.{not, ◌≢◌, ◌∷◌, ◌++◌}
use Rattle.simulator_machine.specs.Lists.{is_same}
use Rattle.simulator_machine.specs.Signal.{Proceed}
use Rattle.simulator_machine.specs.Point.{Side, Right, StandsUndriven}
use Rattle.simulator_machine.specs.Table.{IsSound}
use Rattle.simulator_machine.specs.Route.{is_whole}
use Rattle.simulator_machine.specs.Machine.{Machine, is_held}
use Rattle.simulator_machine.specs.Moves.{Sets}
use Rattle.simulator_machine.specs.Run.{run, right_rules}
use Rattle.simulator_machine.specs.Promise.{Promise}
use Rattle.simulator_machine.specs.Small.{small, small_entry, small_aspect, small_requires, start, ready, cleared, clears}
use Rattle.simulator_machine.specs.Wrong.{ends_unconfirmed, ended_unconfirmed, believes, believed, moves_held, sparse, moved_held, authorises_twice, authorised_twice, forgets_frozen, forgotten, ends_hold_early, hold_ended_early, sets_at_once, set_at_once, sets_blocked, set_blocked, keeps_aspect, aspect_kept, one_way, cleared_one_way, loose, cleared_loose}
use Rattle.simulator_machine.proofs.Lists.{same_is, same_self}

pub small_sound : IsSound small
small_sound = record { both_ways = both_ways; one_entry = one_entry }
  where
    both_ways : (a b : ℕ) → not (is_same a b) ≡ true → not (is_same b a) ≡ true
    both_ways zero zero e = e
    both_ways zero (suc b) e = refl
    both_ways (suc a) zero e = refl
    both_ways (suc a) (suc b) e = both_ways a b e

    differ : (a b : ℕ) → a ≢ b → (same : Bool) → is_same a b ≡ same → not same ≡ true
    differ a b other true e = absurd (other (same_is a b e))
    differ a b other false e = refl

    one_entry : (a b : ℕ) → a ≢ b → small.entry a ≡ small.entry b → not (is_same a b) ≡ true
    one_entry a b other e = differ a b other (is_same a b) refl

-- no route is held that could protect the signal
no_route : (held : ℕ → Bool) → held 0 ≡ false → ((route : ℕ) → held (suc route) ≡ false) → (route : ℕ) → held route ≡ true → ⊥
no_route held first others zero is = cc (first, is)
no_route held first others (suc route) is = cc (others route, is)

pub unconfirmed_broken : Promise small (run ends_unconfirmed small ended_unconfirmed start) → ⊥
unconfirmed_broken promise =
    let protected = promise.each 0 (λ e. cc (e))
    in no_route (is_held (run ends_unconfirmed small ended_unconfirmed start)) refl (λ route. refl) protected.route protected.held.1

pub forgotten_broken : Promise small (run forgets_frozen small forgotten start) → ⊥
forgotten_broken promise =
    let protected = promise.each 0 (λ e. cc (e))
    in no_route (is_held (run forgets_frozen small forgotten start)) refl (λ route. refl) protected.route protected.held.1

pub hold_ended_broken : Promise small (run ends_hold_early small hold_ended_early start) → ⊥
hold_ended_broken promise =
    let protected = promise.each 0 (λ e. cc (e))
    in no_route (is_held (run ends_hold_early small hold_ended_early start)) refl (λ route. refl) protected.route protected.held.1

-- route 0 is held, but its point is driven
driven : (machine : Machine) → (machine.points 0).driven ≡ true → ((route : ℕ) → is_held machine (suc route) ≡ false)
    → (route : ℕ) → is_held machine route ≡ true
    → ((point : ℕ) (side : Side) → small_requires route point side ≡ true → StandsUndriven side (machine.points point)) → ⊥
driven machine is others zero held points = cc (is, (points 0 Right refl).undriven)
driven machine is others (suc route) held points = cc (others route, held)

pub believed_broken : Promise small (run believes small believed start) → ⊥
believed_broken promise =
    let protected = promise.each 0 (λ e. cc (e))
    in driven (run believes small believed start) refl (λ route. others route) protected.route protected.held.1 protected.points
  where
    others : (route : ℕ) → is_held (run believes small believed start) (suc route) ≡ false
    others zero = refl
    others (suc route) = refl

-- the table in which routes conflict only if they begin at one signal
pub sparse_sound : IsSound sparse
sparse_sound = record {
  both_ways = λ a b e. subst (λ n. is_same n (small_entry a) ≡ true) (same_is (small_entry a) (small_entry b) e) (same_self (small_entry a));
  one_entry = λ a b other e. subst (λ n. is_same (small_entry a) n ≡ true) e (same_self (small_entry a));
}

-- route 1 may be set beside route 0
pub unblocked_sparse : (other : ℕ) → is_whole ((run moves_held sparse cleared start).routes other) ≡ true → sparse.conflict 1 other ≡ true → ⊥
unblocked_sparse zero whole conflict = cc (conflict)
unblocked_sparse (suc other) whole conflict = cc (whole)

pub moved_broken : Promise sparse (run moves_held sparse moved_held start) → ⊥
moved_broken promise =
    let protected = promise.each 0 (λ e. cc (e))
    in driven (run moves_held sparse moved_held start) refl (λ route. others route) protected.route protected.held.1 protected.points
  where
    others : (route : ℕ) → is_held (run moves_held sparse moved_held start) (suc route) ≡ false
    others zero = refl
    others (suc route) = refl

-- the routes 0 and 3 conflict
pub twice_broken : Promise small (run authorises_twice small authorised_twice start) → ⊥
twice_broken promise = promise.apart 0 1 0 3 (λ e. cc (e)) (λ e. cc (e)) (λ e. cc (e)) (refl, refl) (refl, refl) refl

pub blocked_broken : Promise small (run sets_blocked small set_blocked start) → ⊥
blocked_broken promise = promise.apart 0 1 0 3 (λ e. cc (e)) (λ e. cc (e)) (λ e. cc (e)) (refl, refl) (refl, refl) refl

-- route 0 alone is held, and begins at another signal
pub at_once_broken : Promise small (run sets_at_once small set_at_once start) → ⊥
at_once_broken promise =
    let protected = promise.each 1 (λ e. cc (e))
    in elsewhere protected.route protected.held.0 protected.held.1
  where
    elsewhere : (route : ℕ) → small_entry route ≡ 1 → is_held (run sets_at_once small set_at_once start) route ≡ true → ⊥
    elsewhere zero begins held = cc (begins)
    elsewhere (suc route) begins held = cc (held)

-- route 2 alone is held, and has another aspect
pub kept_broken : Promise small (run keeps_aspect small aspect_kept start) → ⊥
kept_broken promise =
    let protected = promise.each 0 (λ e. cc (e))
    in other_aspect protected.route protected.held.1 protected.aspect
  where
    other_aspect : (route : ℕ) → is_held (run keeps_aspect small aspect_kept start) route ≡ true → Proceed 0 ≡ small_aspect route → ⊥
    other_aspect zero held same = cc (held)
    other_aspect (suc zero) held same = cc (held)
    other_aspect (suc (suc route)) held same = cc (same)

-- ---- tables that aren't sound

-- route 0 may be set beside route 3
pub unblocked_one_way : (other : ℕ) → is_whole ((run right_rules one_way (ready ++ Sets 3 ∷ clears 3) start).routes other) ≡ true
    → one_way.conflict 0 other ≡ true → ⊥
unblocked_one_way zero whole conflict = cc (whole)
unblocked_one_way (suc zero) whole conflict = cc (whole)
unblocked_one_way (suc (suc zero)) whole conflict = cc (whole)
unblocked_one_way (suc (suc (suc zero))) whole conflict = cc (conflict)
unblocked_one_way (suc (suc (suc (suc route)))) whole conflict = cc (whole)

pub one_way_broken : Promise one_way (run right_rules one_way cleared_one_way start) → ⊥
one_way_broken promise = promise.apart 1 0 3 0 (λ e. cc (e)) (λ e. cc (e)) (λ e. cc (e)) (refl, refl) (refl, refl) refl

pub loose_broken : Promise loose (run right_rules loose cleared_loose start) → ⊥
loose_broken promise =
    let protected = promise.each 0 (λ e. cc (e))
    in two_routes protected.route (protected.only 0 (refl, refl)) (protected.only 2 (refl, refl))
  where
    two_routes : (route : ℕ) → 0 ≡ route → 2 ≡ route → ⊥
    two_routes route one other = omega (arith, one, other)
