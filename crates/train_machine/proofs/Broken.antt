-- Each run breaks the promise.
use Rattle.std.proofs.Common.{rules, ◌≡◌, ℕ, Bool, true, false, ◌||◌, [], ◌∷◌, refl, ap, inl, ◌∙◌}
use Rattle.std.specs.Prelude.{if◌then◌else◌}
use Rattle.train_machine.specs.Track.{Left, Right}
use Rattle.train_machine.specs.Train.{is_in}
use Rattle.train_machine.specs.Section.{Belief, Unknown, Occupied, Clear, Told, Came}
use Rattle.train_machine.specs.Machine.{Machine}
use Rattle.train_machine.specs.Moves.{Move, Passes}
use Rattle.train_machine.specs.Stations.{line, small, joined}
use Rattle.train_machine.specs.Wrong.{Breaks, plain, start, without, own_passes, clear_told, heard, awaited_late, gone_late, opened, let_go, authorise_clear, authorise_side, authorise_undriven, cancel_clear, cancel_early, cancel_ended, cancel_since, dark, each_change, free_seen, fresh, headway, in_order, inlet_empty, inlet_unclaimed, inlet_unheld, let_in, let_in_claimed, let_in_passed, move_clear, move_unheld, obey, own_headway, set_clear, set_unheld, stands, stood, stood_there, truth, headway_short, let_in_short, stood_short}
use Rattle.train_machine.specs.Runs.{disobeyed, following, passed_again, met_in_throat, met_in_joined, opposing, let_in_early, let_in_stale, let_in_before, resumed_early, resumed_stale, turned_back, went_on_resumed, lamp_starved, detector_starved, told_out_of_order, told_falsely, change_untold, set_unclear, set_held, authorised_unclear, authorised_beside, authorised_driven, freed_unseen, cancel_and_run, cancelled_at_once, cancelled_since, cancelled_unclear, moved_held, moved_unclear, followed_soon, let_in_soon, resumed_soon}
use Rattle.train_machine.proofs.CanRun.{KeepsSmall, can_run, start_small, stands_lawfully}

either_zero : (test : Bool) (n : ℕ) → n ≡ 0 → (if test then n else 0) ≡ 0
either_zero true n e = e
either_zero false n e = refl

came_still : (belief : Belief) (told : Told) → told ≡ Came → clear_told belief told ≡ Came
came_still Unknown told e = refl
came_still Occupied told e = refl
came_still Clear told e = e

plain_keeps : KeepsSmall plain
plain_keeps = record { absent = λ t e. e; loose = λ t e f. f; told = λ n s e. e; entered = λ n s e. e; unset = λ n r e. e; free = λ r e. e }

own_keeps : (machine : Machine) (move : Move) → KeepsSmall (own_passes machine move)
own_keeps machine (Passes train route place) = record { absent = λ t e. e; loose = λ t e f. f; told = λ n s e. e; entered = λ n s e. e; unset = λ n r e. e; free = λ r e. e }
own_keeps machine _ = plain_keeps

pub disobeyed_broken : Breaks small ((0 ∷ []) ∷ (7 ∷ []) ∷ [] ∷ []) Left (without obey) disobeyed
disobeyed_broken = (
  stands_lawfully small (0 ∷ []) (7 ∷ []) [] refl refl refl refl refl refl,
  can_run obey (λ machine move. record { absent = λ t e. e; loose = λ t e f. f; told = λ n s e. e; entered = λ n s e. e; unset = λ n r e. e; free = λ r e. ap opened e }) small disobeyed (start ((0 ∷ []) ∷ (7 ∷ []) ∷ [] ∷ []) Left) (start_small (0 ∷ []) (7 ∷ []) [] Left) (search rules),
  λ apart. cc (apart.alone 0 1 2 refl refl),
)

pub following_broken : Breaks line ((0 ∷ []) ∷ [] ∷ [] ∷ []) Left (without headway) following
following_broken = (
  stands_lawfully line (0 ∷ []) [] [] refl refl refl refl refl refl,
  can_run headway (λ machine move. record { absent = λ t e. e; loose = λ t e f. f; told = λ n s e. e; entered = λ n s e. e; unset = λ n r e. e; free = λ r e. e }) line following (start ((0 ∷ []) ∷ [] ∷ [] ∷ []) Left) (start_small (0 ∷ []) [] [] Left) (search rules),
  λ apart. cc (apart.alone 0 1 1 refl refl),
)

pub passed_again_broken : Breaks line ((0 ∷ []) ∷ (5 ∷ []) ∷ [] ∷ []) Left (without own_headway) passed_again
passed_again_broken = (
  stands_lawfully line (0 ∷ []) (5 ∷ []) [] refl refl refl refl refl refl,
  can_run own_headway own_keeps line passed_again (start ((0 ∷ []) ∷ (5 ∷ []) ∷ [] ∷ []) Left) (start_small (0 ∷ []) (5 ∷ []) [] Left) (search rules),
  λ apart. cc (apart.alone 0 1 1 refl refl),
)

pub met_in_throat_broken : Breaks line ([] ∷ [] ∷ [] ∷ []) Left (without inlet_empty) met_in_throat
met_in_throat_broken = (
  stands_lawfully line [] [] [] refl refl refl refl refl refl,
  can_run inlet_empty (λ machine move. record { absent = λ t e. refl; loose = λ t e f. f; told = λ n s e. e; entered = λ n s e. e; unset = λ n r e. e; free = λ r e. e }) line met_in_throat (start ([] ∷ [] ∷ [] ∷ []) Left) (start_small [] [] [] Left) (search rules),
  λ apart. cc (apart.alone 0 1 0 refl refl),
)

pub met_in_joined_broken : Breaks joined ([] ∷ [] ∷ [] ∷ []) Left (without inlet_unclaimed) met_in_joined
met_in_joined_broken = (
  stands_lawfully joined [] [] [] refl refl refl refl refl refl,
  can_run inlet_unclaimed (λ machine move. record { absent = λ t e. e; loose = λ t e f. refl; told = λ n s e. e; entered = λ n s e. e; unset = λ n r e. e; free = λ r e. e }) joined met_in_joined (start ([] ∷ [] ∷ [] ∷ []) Left) (start_small [] [] [] Left) (search rules),
  λ apart. cc (apart.alone 0 1 1 refl refl),
)

pub opposing_broken : Breaks line ((2 ∷ []) ∷ [] ∷ [] ∷ []) Left (without inlet_unheld) opposing
opposing_broken = (
  stands_lawfully line (2 ∷ []) [] [] refl refl refl refl refl refl,
  can_run inlet_unheld (λ machine move. record { absent = λ t e. e; loose = λ t e f. f; told = λ n s e. e; entered = λ n s e. e; unset = λ n r e. refl; free = λ r e. refl }) line opposing (start ((2 ∷ []) ∷ [] ∷ [] ∷ []) Left) (start_small (2 ∷ []) [] [] Left) (search rules),
  λ apart. cc (apart.alone 0 1 2 refl refl),
)

pub let_in_early_broken : Breaks line ((3 ∷ []) ∷ [] ∷ [] ∷ []) Left (without let_in) let_in_early
let_in_early_broken = (
  stands_lawfully line (3 ∷ []) [] [] refl refl refl refl refl refl,
  can_run let_in (λ machine move. record { absent = λ t e. e; loose = λ t e f. f; told = λ n s e. e; entered = λ n s e. e; unset = λ n r e. e; free = λ r e. e }) line let_in_early (start ((3 ∷ []) ∷ [] ∷ [] ∷ []) Left) (start_small (3 ∷ []) [] [] Left) (search rules),
  λ apart. cc (apart.alone 0 1 0 refl refl),
)

pub let_in_stale_broken : Breaks small ([] ∷ (7 ∷ []) ∷ [] ∷ []) Right (without let_in_passed) let_in_stale
let_in_stale_broken = (
  stands_lawfully small [] (7 ∷ []) [] refl refl refl refl refl refl,
  can_run let_in_passed (λ machine move. record { absent = λ t e. e; loose = λ t e f. f; told = λ n s e. e; entered = λ n s e. e; unset = λ n r e. e; free = λ r e. e }) small let_in_stale (start ([] ∷ (7 ∷ []) ∷ [] ∷ []) Right) (start_small [] (7 ∷ []) [] Right) (search rules),
  λ apart. cc (apart.alone 0 1 0 refl refl),
)

pub let_in_before_broken : Breaks joined ([] ∷ (7 ∷ []) ∷ [] ∷ []) Left (without let_in_claimed) let_in_before
let_in_before_broken = (
  stands_lawfully joined [] (7 ∷ []) [] refl refl refl refl refl refl,
  can_run let_in_claimed (λ machine move. record { absent = λ t e. e; loose = λ t e f. refl; told = λ n s e. e; entered = λ n s e. e; unset = λ n r e. e; free = λ r e. e }) joined let_in_before (start ([] ∷ (7 ∷ []) ∷ [] ∷ []) Left) (start_small [] (7 ∷ []) [] Left) (search rules),
  λ apart. cc (apart.alone 0 1 1 refl refl),
)

pub resumed_early_broken : Breaks small ((7 ∷ []) ∷ [] ∷ [] ∷ []) Left (without stood) resumed_early
resumed_early_broken = (
  stands_lawfully small (7 ∷ []) [] [] refl refl refl refl refl refl,
  can_run stood (λ machine move. record { absent = λ t e. e; loose = λ t e f. f; told = λ n s e. e; entered = λ n s e. refl; unset = λ n r e. e; free = λ r e. e }) small resumed_early (start ((7 ∷ []) ∷ [] ∷ [] ∷ []) Left) (start_small (7 ∷ []) [] [] Left) (search rules),
  λ apart. cc ((apart.still 0 5 (inl refl) 0 refl).undriven),
)

pub resumed_stale_broken : Breaks small ((7 ∷ []) ∷ (9 ∷ []) ∷ [] ∷ []) Left (without (stood_there small)) resumed_stale
resumed_stale_broken = (
  stands_lawfully small (7 ∷ []) (9 ∷ []) [] refl refl refl refl refl refl,
  can_run (stood_there small) (λ machine move. record { absent = λ t e. e; loose = λ t e f. f; told = λ n s e. e; entered = λ n s e. either_zero (is_in small n (machine.trains 0).places || (is_in small n (machine.trains 1).places || is_in small n (machine.trains 2).places)) s.entered e; unset = λ n r e. e; free = λ r e. e }) small resumed_stale (start ((7 ∷ []) ∷ (9 ∷ []) ∷ [] ∷ []) Left) (start_small (7 ∷ []) (9 ∷ []) [] Left) (search rules),
  λ apart. cc ((apart.still 1 3 (inl refl) 0 refl).undriven),
)

pub turned_back_broken : Breaks small ((7 ∷ []) ∷ [] ∷ [] ∷ []) Left (without stands) turned_back
turned_back_broken = (
  stands_lawfully small (7 ∷ []) [] [] refl refl refl refl refl refl,
  can_run stands (λ machine move. record { absent = λ t e. e; loose = λ t e f. ap (λ l. let_go l t.under) e ∙ f; told = λ n s e. e; entered = λ n s e. e; unset = λ n r e. e; free = λ r e. e }) small turned_back (start ((7 ∷ []) ∷ [] ∷ [] ∷ []) Left) (start_small (7 ∷ []) [] [] Left) (search rules),
  λ apart. cc (apart.alone 0 1 2 refl refl),
)

pub went_on_resumed_broken : Breaks small ((7 ∷ []) ∷ [] ∷ [] ∷ []) Left (without stands) went_on_resumed
went_on_resumed_broken = (
  stands_lawfully small (7 ∷ []) [] [] refl refl refl refl refl refl,
  can_run stands (λ machine move. record { absent = λ t e. e; loose = λ t e f. ap (λ l. let_go l t.under) e ∙ f; told = λ n s e. e; entered = λ n s e. e; unset = λ n r e. e; free = λ r e. e }) small went_on_resumed (start ((7 ∷ []) ∷ [] ∷ [] ∷ []) Left) (start_small (7 ∷ []) [] [] Left) (search rules),
  λ apart. cc (apart.alone 0 1 0 refl refl),
)

pub lamp_starved_broken : Breaks line ((5 ∷ []) ∷ [] ∷ [] ∷ []) Left (without dark) lamp_starved
lamp_starved_broken = (
  stands_lawfully line (5 ∷ []) [] [] refl refl refl refl refl refl,
  can_run dark (λ machine move. record { absent = λ t e. e; loose = λ t e f. f; told = λ n s e. e; entered = λ n s e. e; unset = λ n r e. e; free = λ r e. e }) line lamp_starved (start ((5 ∷ []) ∷ [] ∷ [] ∷ []) Left) (start_small (5 ∷ []) [] [] Left) (search rules),
  λ apart. cc (apart.alone 0 1 1 refl refl),
)

pub detector_starved_broken : Breaks line ((0 ∷ []) ∷ [] ∷ [] ∷ []) Left (without fresh) detector_starved
detector_starved_broken = (
  stands_lawfully line (0 ∷ []) [] [] refl refl refl refl refl refl,
  can_run fresh (λ machine move. record { absent = λ t e. e; loose = λ t e f. f; told = λ n s e. ap heard e; entered = λ n s e. e; unset = λ n r e. e; free = λ r e. e }) line detector_starved (start ((0 ∷ []) ∷ [] ∷ [] ∷ []) Left) (start_small (0 ∷ []) [] [] Left) (search rules),
  λ apart. cc (apart.alone 0 1 1 refl refl),
)

pub told_out_of_order_broken : Breaks line ((0 ∷ []) ∷ (5 ∷ []) ∷ [] ∷ []) Left (without in_order) told_out_of_order
told_out_of_order_broken = (
  stands_lawfully line (0 ∷ []) (5 ∷ []) [] refl refl refl refl refl refl,
  can_run in_order (λ machine move. record { absent = λ t e. e; loose = λ t e f. f; told = λ n s e. ap awaited_late e; entered = λ n s e. e; unset = λ n r e. e; free = λ r e. e }) line told_out_of_order (start ((0 ∷ []) ∷ (5 ∷ []) ∷ [] ∷ []) Left) (start_small (0 ∷ []) (5 ∷ []) [] Left) (search rules),
  λ apart. cc (apart.alone 0 1 1 refl refl),
)

pub told_falsely_broken : Breaks line ((0 ∷ []) ∷ (5 ∷ []) ∷ [] ∷ []) Left (without truth) told_falsely
told_falsely_broken = (
  stands_lawfully line (0 ∷ []) (5 ∷ []) [] refl refl refl refl refl refl,
  can_run truth (λ machine move. record { absent = λ t e. e; loose = λ t e f. f; told = λ n s e. ap gone_late e; entered = λ n s e. e; unset = λ n r e. e; free = λ r e. e }) line told_falsely (start ((0 ∷ []) ∷ (5 ∷ []) ∷ [] ∷ []) Left) (start_small (0 ∷ []) (5 ∷ []) [] Left) (search rules),
  λ apart. cc (apart.alone 0 1 1 refl refl),
)

pub change_untold_broken : Breaks small ((7 ∷ []) ∷ (9 ∷ []) ∷ [] ∷ []) Left (without each_change) change_untold
change_untold_broken = (
  stands_lawfully small (7 ∷ []) (9 ∷ []) [] refl refl refl refl refl refl,
  can_run each_change (λ machine move. record { absent = λ t e. e; loose = λ t e f. f; told = λ n s e. ap heard e; entered = λ n s e. e; unset = λ n r e. e; free = λ r e. e }) small change_untold (start ((7 ∷ []) ∷ (9 ∷ []) ∷ [] ∷ []) Left) (start_small (7 ∷ []) (9 ∷ []) [] Left) (search rules),
  λ apart. cc (apart.alone 0 1 0 refl refl),
)

pub set_unclear_broken : Breaks line ([] ∷ (2 ∷ []) ∷ [] ∷ []) Left (without set_clear) set_unclear
set_unclear_broken = (
  stands_lawfully line [] (2 ∷ []) [] refl refl refl refl refl refl,
  can_run set_clear (λ machine move. record { absent = λ t e. e; loose = λ t e f. f; told = λ n s e. came_still s.belief s.told e; entered = λ n s e. e; unset = λ n r e. e; free = λ r e. e }) line set_unclear (start ([] ∷ (2 ∷ []) ∷ [] ∷ []) Left) (start_small [] (2 ∷ []) [] Left) (search rules),
  λ apart. cc (apart.alone 0 1 2 refl refl),
)

pub set_held_broken : Breaks line ((0 ∷ []) ∷ (5 ∷ []) ∷ [] ∷ []) Left (without set_unheld) set_held
set_held_broken = (
  stands_lawfully line (0 ∷ []) (5 ∷ []) [] refl refl refl refl refl refl,
  can_run set_unheld (λ machine move. record { absent = λ t e. e; loose = λ t e f. f; told = λ n s e. e; entered = λ n s e. e; unset = λ n r e. refl; free = λ r e. e }) line set_held (start ((0 ∷ []) ∷ (5 ∷ []) ∷ [] ∷ []) Left) (start_small (0 ∷ []) (5 ∷ []) [] Left) (search rules),
  λ apart. cc (apart.alone 0 1 1 refl refl),
)

pub authorised_unclear_broken : Breaks line ((5 ∷ []) ∷ [] ∷ [] ∷ []) Left (without authorise_clear) authorised_unclear
authorised_unclear_broken = (
  stands_lawfully line (5 ∷ []) [] [] refl refl refl refl refl refl,
  can_run authorise_clear (λ machine move. record { absent = λ t e. e; loose = λ t e f. f; told = λ n s e. came_still s.belief s.told e; entered = λ n s e. e; unset = λ n r e. e; free = λ r e. e }) line authorised_unclear (start ((5 ∷ []) ∷ [] ∷ [] ∷ []) Left) (start_small (5 ∷ []) [] [] Left) (search rules),
  λ apart. cc (apart.alone 0 1 1 refl refl),
)

pub authorised_beside_broken : Breaks small ((7 ∷ []) ∷ [] ∷ [] ∷ []) Right (without (authorise_side Left)) authorised_beside
authorised_beside_broken = (
  stands_lawfully small (7 ∷ []) [] [] refl refl refl refl refl refl,
  can_run (authorise_side Left) (λ machine move. record { absent = λ t e. e; loose = λ t e f. f; told = λ n s e. e; entered = λ n s e. e; unset = λ n r e. e; free = λ r e. e }) small authorised_beside (start ((7 ∷ []) ∷ [] ∷ [] ∷ []) Right) (start_small (7 ∷ []) [] [] Right) (search rules),
  λ apart. cc ((apart.still 0 5 (inl refl) 0 refl).lies),
)

pub authorised_driven_broken : Breaks small ((7 ∷ []) ∷ [] ∷ [] ∷ []) Left (without authorise_undriven) authorised_driven
authorised_driven_broken = (
  stands_lawfully small (7 ∷ []) [] [] refl refl refl refl refl refl,
  can_run authorise_undriven (λ machine move. record { absent = λ t e. e; loose = λ t e f. f; told = λ n s e. e; entered = λ n s e. e; unset = λ n r e. e; free = λ r e. e }) small authorised_driven (start ((7 ∷ []) ∷ [] ∷ [] ∷ []) Left) (start_small (7 ∷ []) [] [] Left) (search rules),
  λ apart. cc ((apart.still 0 5 (inl refl) 0 refl).undriven),
)

pub freed_unseen_broken : Breaks small ((7 ∷ []) ∷ [] ∷ [] ∷ []) Left (without free_seen) freed_unseen
freed_unseen_broken = (
  stands_lawfully small (7 ∷ []) [] [] refl refl refl refl refl refl,
  can_run free_seen (λ machine move. record { absent = λ t e. e; loose = λ t e f. f; told = λ n s e. e; entered = λ n s e. e; unset = λ n r e. e; free = λ r e. e }) small freed_unseen (start ((7 ∷ []) ∷ [] ∷ [] ∷ []) Left) (start_small (7 ∷ []) [] [] Left) (search rules),
  λ apart. cc ((apart.still 0 5 (inl refl) 0 refl).undriven),
)

pub cancel_and_run_broken : Breaks small ((7 ∷ []) ∷ [] ∷ [] ∷ []) Left (without cancel_early) cancel_and_run
cancel_and_run_broken = (
  stands_lawfully small (7 ∷ []) [] [] refl refl refl refl refl refl,
  can_run cancel_early (λ machine move. record { absent = λ t e. e; loose = λ t e f. f; told = λ n s e. e; entered = λ n s e. e; unset = λ n r e. e; free = λ r e. e }) small cancel_and_run (start ((7 ∷ []) ∷ [] ∷ [] ∷ []) Left) (start_small (7 ∷ []) [] [] Left) (search rules),
  λ apart. cc ((apart.still 0 5 (inl refl) 0 refl).undriven),
)

pub cancelled_at_once_broken : Breaks small ((7 ∷ []) ∷ [] ∷ [] ∷ []) Left (without cancel_ended) cancelled_at_once
cancelled_at_once_broken = (
  stands_lawfully small (7 ∷ []) [] [] refl refl refl refl refl refl,
  can_run cancel_ended (λ machine move. record { absent = λ t e. e; loose = λ t e f. f; told = λ n s e. e; entered = λ n s e. e; unset = λ n r e. e; free = λ r e. e }) small cancelled_at_once (start ((7 ∷ []) ∷ [] ∷ [] ∷ []) Left) (start_small (7 ∷ []) [] [] Left) (search rules),
  λ apart. cc ((apart.still 0 5 (inl refl) 0 refl).undriven),
)

pub cancelled_since_broken : Breaks small ((7 ∷ []) ∷ (9 ∷ []) ∷ [] ∷ []) Left (without cancel_since) cancelled_since
cancelled_since_broken = (
  stands_lawfully small (7 ∷ []) (9 ∷ []) [] refl refl refl refl refl refl,
  can_run cancel_since (λ machine move. record { absent = λ t e. e; loose = λ t e f. f; told = λ n s e. e; entered = λ n s e. e; unset = λ n r e. e; free = λ r e. e }) small cancelled_since (start ((7 ∷ []) ∷ (9 ∷ []) ∷ [] ∷ []) Left) (start_small (7 ∷ []) (9 ∷ []) [] Left) (search rules),
  λ apart. cc (apart.alone 0 1 0 refl refl),
)

pub cancelled_unclear_broken : Breaks small ((0 ∷ []) ∷ [] ∷ [] ∷ []) Left (without cancel_clear) cancelled_unclear
cancelled_unclear_broken = (
  stands_lawfully small (0 ∷ []) [] [] refl refl refl refl refl refl,
  can_run cancel_clear (λ machine move. record { absent = λ t e. e; loose = λ t e f. f; told = λ n s e. came_still s.belief s.told e; entered = λ n s e. e; unset = λ n r e. e; free = λ r e. e }) small cancelled_unclear (start ((0 ∷ []) ∷ [] ∷ [] ∷ []) Left) (start_small (0 ∷ []) [] [] Left) (search rules),
  λ apart. cc (apart.alone 0 1 2 refl refl),
)

pub moved_held_broken : Breaks small ((0 ∷ []) ∷ [] ∷ [] ∷ []) Left (without move_unheld) moved_held
moved_held_broken = (
  stands_lawfully small (0 ∷ []) [] [] refl refl refl refl refl refl,
  can_run move_unheld (λ machine move. record { absent = λ t e. e; loose = λ t e f. f; told = λ n s e. e; entered = λ n s e. e; unset = λ n r e. refl; free = λ r e. refl }) small moved_held (start ((0 ∷ []) ∷ [] ∷ [] ∷ []) Left) (start_small (0 ∷ []) [] [] Left) (search rules),
  λ apart. cc ((apart.still 0 4 (inl refl) 0 refl).undriven),
)

pub moved_unclear_broken : Breaks small ((0 ∷ []) ∷ [] ∷ [] ∷ []) Left (without move_clear) moved_unclear
moved_unclear_broken = (
  stands_lawfully small (0 ∷ []) [] [] refl refl refl refl refl refl,
  can_run move_clear (λ machine move. record { absent = λ t e. e; loose = λ t e f. f; told = λ n s e. came_still s.belief s.told e; entered = λ n s e. e; unset = λ n r e. e; free = λ r e. e }) small moved_unclear (start ((0 ∷ []) ∷ [] ∷ [] ∷ []) Left) (start_small (0 ∷ []) [] [] Left) (search rules),
  λ apart. cc ((apart.still 0 4 (inl refl) 0 refl).undriven),
)

pub followed_soon_broken : Breaks line ((5 ∷ []) ∷ [] ∷ [] ∷ []) Left (without headway_short) followed_soon
followed_soon_broken = (
  stands_lawfully line (5 ∷ []) [] [] refl refl refl refl refl refl,
  can_run headway_short (λ machine move. record { absent = λ t e. e; loose = λ t e f. f; told = λ n s e. e; entered = λ n s e. e; unset = λ n r e. e; free = λ r e. e }) line followed_soon (start ((5 ∷ []) ∷ [] ∷ [] ∷ []) Left) (start_small (5 ∷ []) [] [] Left) (search rules),
  λ apart. cc (apart.alone 0 1 1 refl refl),
)

pub let_in_soon_broken : Breaks line ((3 ∷ []) ∷ [] ∷ [] ∷ []) Left (without let_in_short) let_in_soon
let_in_soon_broken = (
  stands_lawfully line (3 ∷ []) [] [] refl refl refl refl refl refl,
  can_run let_in_short (λ machine move. record { absent = λ t e. e; loose = λ t e f. f; told = λ n s e. e; entered = λ n s e. e; unset = λ n r e. e; free = λ r e. e }) line let_in_soon (start ((3 ∷ []) ∷ [] ∷ [] ∷ []) Left) (start_small (3 ∷ []) [] [] Left) (search rules),
  λ apart. cc (apart.alone 0 1 0 refl refl),
)

pub resumed_soon_broken : Breaks small ((7 ∷ []) ∷ [] ∷ [] ∷ []) Left (without stood_short) resumed_soon
resumed_soon_broken = (
  stands_lawfully small (7 ∷ []) [] [] refl refl refl refl refl refl,
  can_run stood_short (λ machine move. record { absent = λ t e. e; loose = λ t e f. f; told = λ n s e. e; entered = λ n s e. e; unset = λ n r e. e; free = λ r e. e }) small resumed_soon (start ((7 ∷ []) ∷ [] ∷ [] ∷ []) Left) (start_small (7 ∷ []) [] [] Left) (search rules),
  λ apart. cc ((apart.still 0 5 (inl refl) 0 refl).undriven),
)
