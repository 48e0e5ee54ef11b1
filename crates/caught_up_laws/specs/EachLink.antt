-- How old what an end of one of many links doesn't know can be.
use Rattle.std.specs.Prelude.{◌≡◌, ℕ, ◌+◌, ◌≤◌, ◌<◌, true, List, ◌++◌}
use Rattle.rasta_core_spec.specs.Names.{Names}
use Rattle.rasta_core_spec.specs.Parameters.{time_limit}
use Rattle.rasta_core_spec.specs.Run.{end_of}
use Rattle.rasta_core_spec.specs.Sentences.{freshness}
use Rattle.rasta_core_spec.specs.State.{is_up}
use Rattle.rasta_core_spec.specs.identity.Role.{Role}
use Rattle.rasta_core.specs.Links.{LinksEvent, LinksStart, begun, run_links, run_on, seen}
use Rattle.caught_up_laws.specs.Knowledge.{HasTaken, clock_of}
use Rattle.caught_up_laws.specs.Observer.{caught_up_until}

-- until when an end of this link is caught up: its observer sees what each event of the world is to the link
abbrev pub caught_up_on : Role → ℕ → (ℕ → Names) → LinksStart → List LinksEvent → ℕ
caught_up_on who link names start events = caught_up_until who (run_on link events (begun names start)) (seen link (begun names start))

-- Whoever is up and caught up on this link has taken there all that its partner had given 1800 ms of the own clock ago, or before.
abbrev pub KnowsAllOn : Role → ℕ → (ℕ → Names) → LinksStart → List LinksEvent → List LinksEvent → Type 0
KnowsAllOn who link names start earlier later =
    let then = seen link (run_links earlier (begun names start))
    in let now = seen link (run_links later (run_links earlier (begun names start)))
    in is_up (end_of who now).link.phase ≡ true → clock_of who now < caught_up_on who link names start (earlier ++ later)
    → clock_of who then + time_limit ≤ clock_of who now → HasTaken who then now

-- And all that it had given 1802 ms of true time ago, or before.
abbrev pub KnowsAllInTimeOn : Role → ℕ → (ℕ → Names) → LinksStart → List LinksEvent → List LinksEvent → Type 0
KnowsAllInTimeOn who link names start earlier later =
    let then = seen link (run_links earlier (begun names start))
    in let now = seen link (run_links later (run_links earlier (begun names start)))
    in is_up (end_of who now).link.phase ≡ true → clock_of who now < caught_up_on who link names start (earlier ++ later)
    → then.time + freshness ≤ now.time → HasTaken who then now
