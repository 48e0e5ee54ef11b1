-- The calls of small loops, worked by hand, of an interlocking that starts at 1000.
use Rattle.std.specs.Prelude.{◌≡◌, [], ◌∷◌, None, Ok, Err}
use Rattle.ixl_state.specs.State.{StateView}
use Rattle.ixl_state.specs.ixl_spec.declared.command.Command.TheVariants.{Resume}
use Rattle.embedded_ixl.specs.Embedded.{leaving, started}
use Rattle.embedded_ixl.specs.Calls.{Hears, Ticks, Obeys, FindsEmpty, Takes, after_calls, answer_to}
use Rattle.embedded_ixl.specs.declared.call_refusal.CallRefusal.TheVariants.{ClockFell, TooSoon, TooOld}

pub record Worked (state : StateView) : Type 0 where
  -- it is quiet for 2000 ms, though nothing waited
  pub quiet_hears : answer_to (Hears 2999 []) (after_calls (FindsEmpty 2999 ∷ []) (started state 1000)) ≡ Err TooSoon
  pub quiet_takes : answer_to (Takes 2999) (after_calls (Ticks 2999 ∷ []) (started state 1000)) ≡ Err TooSoon
  -- before a receive found nothing it hears nothing; then for 400 ms
  pub never_empty : answer_to (Hears 3000 []) (started state 1000) ≡ Err TooOld
  pub heard : answer_to (Hears 3400 []) (after_calls (FindsEmpty 3000 ∷ []) (started state 1000)) ≡ Ok tt
  pub too_old : answer_to (Hears 3401 []) (after_calls (FindsEmpty 3000 ∷ []) (started state 1000)) ≡ Err TooOld
  -- a step's datagrams may leave for 500 ms
  pub leaves : answer_to (Takes 3000) (after_calls (Ticks 3000 ∷ []) (started state 1000)) ≡ Ok tt
  pub dropped : leaving 3500 (after_calls (Ticks 3000 ∷ []) (started state 1000)) ≡ None
  -- a reading that falls is refused, and one that was refused isn't kept
  pub fell : answer_to (Obeys 2999 Resume) (after_calls (Ticks 3000 ∷ []) (started state 1000)) ≡ Err ClockFell
  pub not_kept : answer_to (Ticks 3000) (after_calls (Ticks 3000 ∷ Hears 9000 [] ∷ []) (started state 1000)) ≡ Ok tt
