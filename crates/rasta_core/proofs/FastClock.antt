-- A clock that runs fast by short events keeps time, and one that runs away doesn't.
use Rattle.std.proofs.Common.{◌≡◌, ℕ, zero, suc, ◌+◌, ◌*◌, ◌-◌, ◌≤◌, refl, arith}
use Rattle.rasta_core_spec.specs.Ends.{end_later}
use Rattle.rasta_core_spec.specs.Events.{IsWithinDrift, Start, started}
use Rattle.rasta_core_spec.specs.Names.{Names}
use Rattle.rasta_core_spec.specs.Run.{Ends, later}
use Rattle.rasta_core_spec.specs.TrueClocks.{IsSteady, KeepTime, MayAllCome, Moment, StaysSteady, moment_of}
use Rattle.rasta_core_spec.specs.identity.Role.{Role}
use Rattle.rasta_core_spec.specs.identity.Role.TheVariants as role
use Rattle.rasta_core.specs.Worked.{IsWithinDriftAnew, fast_clock, fast_from, runaway}

-- two ends after so many events of 100 microseconds
record IsAt (number time client server : ℕ) (ends : Ends) : Type 0 where
  time_is : ends.time ≡ time + 100 * number
  client_is : ends.client.clock ≡ client + fast_clock number
  server_is : ends.server.clock ≡ server + 100 * number

next : (number time client server : ℕ) (ends : Ends) → IsAt number time client server ends
    → IsAt (suc number) time client server (later 100 (fast_clock (suc number) - fast_clock number) 100 ends)
unfolding later end_later
next number time client server ends is = record {
  time_is = omega (arith, is.time_is);
  client_is = omega (arith, is.client_is);
  server_is = omega (arith, is.server_is);
}

-- the clock of an end after so many of them
abbrev clock_at : Role → ℕ → ℕ → ℕ → ℕ
clock_at role.Client client server number = client + fast_clock number
clock_at role.Server client server number = server + 100 * number

module _ (time client server : ℕ) where
  steady : (who : Role) (from : Moment) (early number : ℕ) (ends : Ends) → from.at ≡ time + 100 * early → from.clock ≡ clock_at who client server early → early ≤ number
      → IsAt number time client server ends → IsSteady from (moment_of who ends)
  steady role.Client from early number ends at clock before is = record {
    least = omega (arith, at, clock, before, is.time_is, is.client_is);
    most = omega (arith, at, clock, before, is.time_is, is.client_is);
  }
  steady role.Server from early number ends at clock before is = record {
    least = omega (arith, at, clock, before, is.time_is, is.server_is);
    most = omega (arith, at, clock, before, is.time_is, is.server_is);
  }

  stays : (who : Role) (from : Moment) (early count number : ℕ) (ends : Ends) → from.at ≡ time + 100 * early → from.clock ≡ clock_at who client server early → early ≤ number
      → IsAt number time client server ends → StaysSteady who from (fast_from number count) ends
  stays who from early zero number ends at clock before is = steady who from early number ends at clock before is
  stays who from early (suc count) number ends at clock before is = (
    steady who from early number ends at clock before is,
    stays who from early count (suc number) _ at clock (omega (arith, before)) (next number time client server ends is),
  )

  now_clock : (who : Role) (number : ℕ) (ends : Ends) → IsAt number time client server ends → (moment_of who ends).clock ≡ clock_at who client server number
  now_clock role.Client number ends is = is.client_is
  now_clock role.Server number ends is = is.server_is

  keeps : (count number : ℕ) (ends : Ends) → IsAt number time client server ends → KeepTime (fast_from number count) ends
  keeps zero number ends is = tt
  keeps (suc count) number ends is = (
    λ who. stays who (moment_of who ends) number (suc count) number ends is.time_is (now_clock who number ends is) (omega arith) is,
    keeps count (suc number) _ (next number time client server ends is),
  )

pub fast_keeps : (names : Names) (start : Start) → KeepTime (fast_from 0 200) (started names start)
fast_keeps names start = keeps start.time (start.client_clock * 1000) (start.server_clock * 1000) 200 0 (started names start) (record {
  time_is = omega arith;
  client_is = omega arith;
  server_is = omega arith;
})

pub fast_come : (names : Names) (count number : ℕ) (ends : Ends) → MayAllCome names (fast_from number count) ends
fast_come names zero number ends = tt
fast_come names (suc count) number ends = (tt, fast_come names count (suc number) _)

pub refused : IsWithinDrift 100 (fast_clock 10 - fast_clock 9) → ⊥
refused within = omega (arith, within.most)

pub anew : IsWithinDriftAnew 1 2
anew = record { least = omega arith; most = omega arith }

-- ---- a clock that runs away

record IsGone (number time client : ℕ) (ends : Ends) : Type 0 where
  time_is : ends.time ≡ time + number
  client_is : ends.client.clock ≡ client + 2 * number

goes : (number time client : ℕ) (ends : Ends) → IsGone number time client ends → IsGone (suc number) time client (later 1 2 1 ends)
unfolding later end_later
goes number time client ends is = record { time_is = omega (arith, is.time_is); client_is = omega (arith, is.client_is) }

far : (time client : ℕ) (from : Moment) → from.at ≡ time → from.clock ≡ client → (count number : ℕ) (ends : Ends) → IsGone number time client ends
    → StaysSteady role.Client from (runaway count) ends → 1000 * (client + 2 * (number + count)) + 1001 * time ≤ 1000 * client + 1001 * (time + (number + count)) + 10000
far time client from at clock zero number ends is steady = omega (arith, at, clock, is.time_is, is.client_is, steady.most)
far time client from at clock (suc count) number ends is steady =
    let rest = far time client from at clock count (suc number) _ (goes number time client ends is) steady.1 in omega (arith, rest)

pub runs_away : (names : Names) (start : Start) → KeepTime (runaway 20) (started names start) → ⊥
runs_away names start time =
    let rest = far start.time (start.client_clock * 1000) (moment_of role.Client (started names start)) refl refl 20 0 (started names start)
    (record { time_is = omega arith; client_is = omega arith }) (time.0 role.Client) in
    omega (arith, rest)
