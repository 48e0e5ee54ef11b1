-- The calls of small loops, worked by hand, of a controller that starts at 1000.
use Rattle.std.specs.Prelude.{◌≡◌, [], ◌∷◌, None, Ok, Err}
use Rattle.object_host.specs.Behaviour.{Behaviour}
use Rattle.object_host.specs.Host.{HostState}
use Rattle.embedded_host.specs.Embedded.{leaving, started}
use Rattle.object_host.specs.declared.input.Input.TheVariants as inputs
use Rattle.embedded_host.specs.Calls.{Hears, Ticks, FindsEmpty, Done, Takes, after_calls, answer_to}
use Rattle.embedded_host.specs.Inputs.{inputs_by}
use Rattle.embedded_host.specs.Orders.{up_to_done}
use Rattle.embedded_host.specs.declared.refusal.Refusal.TheVariants.{ClockFell, TooSoon, TooOld, NotInForce}

pub record Worked {Object : Type 0} (does : Behaviour Object) (host : HostState Object) : Type 0 where
  -- it is quiet for 2000 ms, though nothing waited
  pub quiet_hears : answer_to (Hears 2999 []) (after_calls does (FindsEmpty 2999 ∷ []) (started host 1000)) ≡ Err TooSoon
  pub quiet_takes : answer_to (Takes 2999) (after_calls does (Ticks 2999 ∷ Done ∷ []) (started host 1000)) ≡ Err TooSoon
  -- before a receive found nothing it hears nothing; then for 400 ms
  pub never_empty : answer_to (Hears 3000 []) (started host 1000) ≡ Err TooOld
  pub heard : answer_to (Hears 3400 []) (after_calls does (FindsEmpty 3000 ∷ []) (started host 1000)) ≡ Ok tt
  pub too_old : answer_to (Hears 3401 []) (after_calls does (FindsEmpty 3000 ∷ []) (started host 1000)) ≡ Err TooOld
  -- a step's datagrams wait for `done`, and a step without it makes those before wait again
  pub waits : answer_to (Takes 3000) (after_calls does (Ticks 3000 ∷ []) (started host 1000)) ≡ Err NotInForce
  pub leaves : answer_to (Takes 3000) (after_calls does (Ticks 3000 ∷ Done ∷ []) (started host 1000)) ≡ Ok tt
  pub waits_again : answer_to (Takes 3001) (after_calls does (Ticks 3000 ∷ Done ∷ Ticks 3001 ∷ []) (started host 1000)) ≡ Err NotInForce
  -- 500 ms after the step nothing of it leaves
  pub dropped : leaving 3500 (after_calls does (Ticks 3000 ∷ Done ∷ []) (started host 1000)) ≡ None
  -- a reading that falls is refused, and one that was refused isn't kept
  pub fell : answer_to (Ticks 2999) (after_calls does (Ticks 3000 ∷ []) (started host 1000)) ≡ Err ClockFell
  pub not_kept : answer_to (Ticks 3000) (after_calls does (Ticks 3000 ∷ Hears 9000 [] ∷ []) (started host 1000)) ≡ Ok tt
  -- a tick counts once an order was put in force behind it, and one that was refused never does
  pub counts : inputs_by does (up_to_done (Ticks 3000 ∷ Ticks 2999 ∷ Done ∷ Ticks 3001 ∷ [])) (started host 1000) ≡ (3000, inputs.Tick) ∷ []
  pub counts_not_yet : inputs_by does (up_to_done (Ticks 3000 ∷ Takes 3000 ∷ [])) (started host 1000) ≡ []
