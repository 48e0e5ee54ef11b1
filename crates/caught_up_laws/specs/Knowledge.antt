-- How old what an end doesn't know can be.
use Rattle.std.specs.Prelude.{◌≡◌, ℕ, ◌+◌, ◌≤◌, ◌<◌, true, List, ◌++◌, Some}
use Rattle.rasta_core_spec.specs.Ends.{reading_of}
use Rattle.rasta_core_spec.specs.Events.{Event, MayRun, Start, run, started}
use Rattle.rasta_core_spec.specs.Names.{Names, partner_of}
use Rattle.rasta_core_spec.specs.Parameters.{time_limit}
use Rattle.rasta_core_spec.specs.Run.{Ends, end_of}
use Rattle.rasta_core_spec.specs.Sentences.{freshness}
use Rattle.rasta_core_spec.specs.State.{is_up}
use Rattle.rasta_core_spec.specs.identity.Role.{Role}
use Rattle.caught_up_laws.specs.Observer.{Rule, caught_up, until_by}

-- what the clock of an end reads, in milliseconds
abbrev pub clock_of : Role → Ends → ℕ
clock_of who ends = reading_of (end_of who ends).clock

-- these items are the first of those
pub record IsBeginning (some all : List (List ℕ)) : Type 0 where
  pub rest : List (List ℕ)
  pub same : all ≡ some ++ rest

-- All items that its partner had given by a moment, in the connection that an end is in now, the end has taken by now.
abbrev pub HasTaken : Role → Ends → Ends → Type 0
HasTaken who then now =
    (connection : ℕ) → (end_of who now).connection ≡ Some connection → (end_of (partner_of who) then).connection ≡ Some connection
    → IsBeginning (end_of (partner_of who) then).given (end_of who now).taken

-- Whoever is up, and caught up by this rule, has taken all that its partner had given at any earlier moment at which the own
-- clock read 1800 ms less than now, or still less: after what happened earlier, and before what happened later.
abbrev pub KnowsAllBy : Rule → Role → Names → Start → List Event → List Event → Type 0
KnowsAllBy rule who names start earlier later =
    let then = run earlier (started names start)
    in let now = run later then
    in MayRun names (earlier ++ later) (started names start)
    → is_up (end_of who now).link.phase ≡ true → clock_of who now < until_by rule who (earlier ++ later) (started names start)
    → clock_of who then + time_limit ≤ clock_of who now → HasTaken who then now

-- And all that it had given 1802 ms of true time ago, or before.
abbrev pub KnowsAllInTime : Role → Names → Start → List Event → List Event → Type 0
KnowsAllInTime who names start earlier later =
    let then = run earlier (started names start)
    in let now = run later then
    in MayRun names (earlier ++ later) (started names start)
    → is_up (end_of who now).link.phase ≡ true → clock_of who now < until_by caught_up who (earlier ++ later) (started names start)
    → then.time + freshness ≤ now.time → HasTaken who then now

-- And all that it had given before the own clock read what it read 1800 ms before the end of being caught up, whatever it reads
-- now: so what an end doesn't know was given at that reading, or later.
abbrev pub KnowsUntil : Role → Names → Start → List Event → List Event → Type 0
KnowsUntil who names start earlier later =
    let then = run earlier (started names start)
    in let now = run later then
    in MayRun names (earlier ++ later) (started names start)
    → is_up (end_of who now).link.phase ≡ true
    → clock_of who then + time_limit < until_by caught_up who (earlier ++ later) (started names start) → HasTaken who then now
