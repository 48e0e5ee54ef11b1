-- The age of what is heard.
use Rattle.std.proofs.Common.{◌<◌, ◌≤◌, ◌+◌, ◌*◌, ◌/◌, ℕ, arith}
use Rattle.node_kinds.specs.simulator_spec.rasta_core.Bag.{lifetime}
use Rattle.node_safety.specs.Journeys.{IsInTime, Journey}

-- by how much a clock went on between two readings
less_than : (early late : ℕ) → late / 1000 < early / 1000 + 500 → late < early + 500000
less_than early late soon = omega (arith, soon)

at_most : (early late : ℕ) → late / 1000 ≤ early / 1000 + 400 → late < early + 401000
at_most early late soon = omega (arith, soon)

-- and so true time
sender_took : (handed_at handed sent_at sent : ℕ) → 999 * sent_at + 1000 * handed ≤ 1000 * sent + 999 * handed_at + 10000 → sent < handed + 500000 → 999 * sent_at ≤ 999 * handed_at + 500010000
sender_took handed_at handed sent_at sent least soon = omega (arith, least, soon)

receiver_took : (empty_at empty heard_at heard : ℕ) → 999 * heard_at + 1000 * empty ≤ 1000 * heard + 999 * empty_at + 10000 → heard < empty + 401000 → 999 * heard_at ≤ 999 * empty_at + 401010000
receiver_took empty_at empty heard_at heard least soon = omega (arith, least, soon)

in_all : (handed_at sent_at came empty_at heard_at : ℕ) → 999 * sent_at ≤ 999 * handed_at + 500010000 → came ≤ sent_at + 1000000 → empty_at ≤ came + 90000 → 999 * heard_at ≤ 999 * empty_at + 401010000
    → heard_at ≤ handed_at + 2000000
in_all handed_at sent_at came empty_at heard_at sender network none receiver = omega (arith, sender, network, none, receiver)

pub age : (journey : Journey) → IsInTime journey → journey.heard.at ≤ journey.handed_out.at + lifetime
age journey is =
    in_all journey.handed_out.at journey.sent.at journey.came journey.empty.at journey.heard.at
    (sender_took journey.handed_out.at journey.handed_out.clock journey.sent.at journey.sent.clock is.sender.least (less_than journey.handed_out.clock journey.sent.clock is.sent_soon))
    is.carried is.none_waited
    (receiver_took journey.empty.at journey.empty.clock journey.heard.at journey.heard.clock is.receiver.least (at_most journey.empty.clock journey.heard.clock is.heard_soon))
