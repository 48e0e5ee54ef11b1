-- What was sent since a round began comes in the next one, in the order of sending.
use Rattle.simulator_recovery.proofs.Words.Basics.{◌≡◌, ℕ, zero, suc, ◌+◌, ◌-◌, ◌^◌, ◌<◌, ◌≤◌, true, false, nat_le, min, List, [], ◌∷◌, ◌++◌, append_assoc, length, Option, Some, None, slice_get, refl, sym, ap, subst, ◌∙◌, arith, bytes_eq, nat_tests, bytes_eq-Decides}
use Rattle.simulator_recovery.proofs.Words.Links.{is_alive_copy, lifetime, newest_copy, Each, Sent, OnLink, begun, Role}
use Rattle.simulator_recovery.proofs.Words.Interlockings.{SitedTable, Table}
use Rattle.simulator_recovery.proofs.Words.Stations.{Site, Once, IsStation, Event, NodeId, Flowing, deliveries, round_of_time, passed, names_at, starts_at_zero, copy_of, datagrams_of, links, nodes, is_missing, refusal, WorldState, Played, after, arrival_in, receiver, IsStanding, IsReached}
use Rattle.simulator_recovery.proofs.Words.Recovery.{IsFresh, LeavesFresh, NoneRefused, arrivals, LawsBelow}
use Rattle.simulator_recovery.proofs.Lemmas.Rounds.Rounds.{time_happens, tried_keeps}
use Rattle.simulator_recovery.proofs.Lemmas.Rounds.Sends.{HasAdded, adds_none, time_sends_none, tried_adds}

-- ---- what is due

pub get_after : (front rest : List OnLink) (one : OnLink) → slice_get (front ++ one ∷ rest) (length front) ≡ Some one
get_after [] rest one = refl
get_after (head ∷ front) rest one = get_after front rest one

pub count_more : (front : List OnLink) (one : OnLink) → length (front ++ one ∷ []) ≡ suc (length front)
count_more [] one = refl
count_more (head ∷ front) one = ap suc (count_more front one)

pub count_both : (front more : List OnLink) → length (front ++ more) ≡ length front + length more
count_both [] more = omega arith
count_both (head ∷ front) more = let e = count_both front more in omega (arith, e)

all_due : (world : Played) (front more : List OnLink) (n : ℕ) → world.run.sent ≡ front ++ more → n ≡ length more → Each (λ (one : OnLink). one.datagram.is_lost ≡ false) more → deliveries (arrival_in world) (length front) n ≡ arrivals (length front) more
unfolding deliveries
all_due world front [] zero sent count there = refl
all_due world front [] (suc n) sent count there = absurd (omega (arith, count))
all_due world front (one ∷ more) zero sent count there = absurd (omega (arith, count))
all_due world front (one ∷ more) (suc n) sent count there =
    let got : slice_get world.run.sent (length front) ≡ Some one = ap (λ (l : List OnLink). slice_get l (length front)) sent ∙ get_after front more one
    in let rest : deliveries (arrival_in world) (suc (length front)) n ≡ arrivals (suc (length front)) more
    = subst (λ (k : ℕ). deliveries (arrival_in world) k n ≡ arrivals k more) (count_more front one)
    (all_due world (front ++ one ∷ []) more n (sent ∙ sym (append_assoc front (one ∷ []) more)) (omega (arith, count)) there.1)
    in rw (got, there.0, rest) refl

fresh_there : (time : ℕ) (more : List OnLink) → Each (IsFresh time) more → Each (λ (one : OnLink). one.datagram.is_lost ≡ false) more
fresh_there time [] fresh = tt
fresh_there time (one ∷ more) fresh = (fresh.0.1, fresh_there time more fresh.1)

pub due_in_order : (old new : Flowing) (leaves : LeavesFresh old new) → deliveries (arrival_in new.state) new.passed (length new.state.run.sent - new.passed) ≡ arrivals new.passed leaves.more
due_in_order old new leaves =
    let passed_is = leaves.passed
    in let total : length new.state.run.sent ≡ length old.state.run.sent + length leaves.more = ap length leaves.sent ∙ count_both old.state.run.sent leaves.more
    in subst (λ (k : ℕ). deliveries (arrival_in new.state) k (length new.state.run.sent - new.passed) ≡ arrivals k leaves.more) (sym leaves.passed)
    (all_due new.state old.state.run.sent leaves.more (length new.state.run.sent - new.passed) leaves.sent (omega (arith, total, passed_is)) (fresh_there new.state.run.time leaves.more leaves.fresh))

-- ---- and isn't refused

pub found_later : (time : ℕ) (bytes : List ℕ) (first : Sent) (later : List Sent) (copy : Sent) → newest_copy time bytes later ≡ Some copy → newest_copy time bytes (first ∷ later) ≡ Some copy
found_later time bytes first later copy found = rw found refl

pub found_first : (time : ℕ) (bytes : List ℕ) (first : Sent) (later : List Sent) → newest_copy time bytes later ≡ None → is_alive_copy time bytes first ≡ true → newest_copy time bytes (first ∷ later) ≡ Some first
found_first time bytes first later none_later alive = rw (none_later, alive) refl

pub has_copy : (time : ℕ) (one : OnLink) (front rest : List OnLink) → is_alive_copy time one.datagram.bytes one.datagram ≡ true → (copy : Sent) × (newest_copy time one.datagram.bytes (datagrams_of (front ++ one ∷ rest)) ≡ Some copy)
has_copy time one [] rest alive = choose (newest_copy time one.datagram.bytes (datagrams_of rest)) refl
  where
    choose : (o : Option Sent) → newest_copy time one.datagram.bytes (datagrams_of rest) ≡ o → (copy : Sent) × (newest_copy time one.datagram.bytes (one.datagram ∷ datagrams_of rest) ≡ Some copy)
    choose None e = (one.datagram, found_first time one.datagram.bytes one.datagram (datagrams_of rest) e alive)
    choose (Some copy) e = (copy, found_later time one.datagram.bytes one.datagram (datagrams_of rest) copy e)
has_copy time one (head ∷ front) rest alive = let found = has_copy time one front rest alive in (found.0, found_later time one.datagram.bytes head.datagram (datagrams_of (front ++ one ∷ rest)) found.0 found.1)

alive_still : (time at : ℕ) (one : OnLink) → one.datagram.at ≡ at → one.datagram.is_lost ≡ false → time ≤ at + 10000 → is_alive_copy time one.datagram.bytes one.datagram ≡ true
alive_still time at one sent there soon = rw (in_time, there, same) refl
  where
    in_time : nat_le time (one.datagram.at + lifetime) ≡ true
    in_time = grind (arith, nat_tests)

    same : bytes_eq one.datagram.bytes one.datagram.bytes ≡ true
    same = (bytes_eq-Decides one.datagram.bytes one.datagram.bytes).1 refl

pub there_is : (site : Site) (who : Role) (link : ℕ) → link < links site → is_missing (receiver who link).0 site ≡ false
there_is site Role.Client link below = too_few (nodes site) (min (link + 1) (2 ^ 64 - 1)) (omega (arith, below))
  where
    too_few : (a b : ℕ) → b < a → nat_le a b ≡ false
    too_few a b h = grind (arith, nat_tests)
there_is site Role.Server link below = too_few (nodes site) 0 (omega (arith, below))
  where
    too_few : (a b : ℕ) → b < a → nat_le a b ≡ false
    too_few a b h = grind (arith, nat_tests)

pub not_refused : (site : Site) (node : NodeId) (bytes : List ℕ) (world : WorldState) (copy : Sent) → is_missing node.0 site ≡ false → copy_of bytes world ≡ Some copy → refusal site (Event.Deliver node bytes) world ≡ None
unfolding refusal
not_refused site node bytes world copy there found = rw (there, found) refl

-- a station is of this data
pub record IsSited (sited : SitedTable) (world : Played) : Type 0 where
  pub same : world.sited ≡ sited

module _ (first : WorldState) (time : ℕ) (soon : first.time ≤ time + 10000) (sited : SitedTable) where
  all_arrive : (place : ℕ) (front more : List OnLink) (world : Played) → first.sent ≡ front ++ more → Each (IsFresh time) more → Each (λ (one : OnLink). one.link < links sited.site) more → world.sited ≡ sited → HasAdded first world
      → NoneRefused (arrivals place more) world
  all_arrive place front [] world sent fresh below same adds = tt
  all_arrive place front (one ∷ more) world sent fresh below same adds = (
    not_refused world.sited.site (receiver one.datagram.sender one.link) one.datagram.bytes world.run copy.0 (subst (λ (s : SitedTable). is_missing (receiver one.datagram.sender one.link).0 s.site ≡ false) (sym same)
        (there_is sited.site one.datagram.sender one.link below.0)) (found ∙ copy.1),
    all_arrive (suc place) (front ++ one ∷ []) more (after world arrival) (sent ∙ sym (append_assoc front (one ∷ []) more)) fresh.1 below.1 (still_sited world arrival sited same) (tried_adds first world arrival tt adds),
  )
    where
      arrival : Event
      arrival = Event.Deliver (receiver one.datagram.sender one.link) one.datagram.bytes

      still_sited : (w : Played) (e : Event) (s : SitedTable) → w.sited ≡ s → (after w e).sited ≡ s
      still_sited w e s is = (tried_keeps (IsSited s) w e (record { same = is }) (λ none. record { same = is })).same

      soon_here : world.run.time ≤ time + 10000
      soon_here = subst (λ (t : ℕ). t ≤ time + 10000) (sym adds.is.time) soon

      copy : (copy : Sent) × (newest_copy world.run.time one.datagram.bytes (datagrams_of (front ++ one ∷ (more ++ adds.is.more))) ≡ Some copy)
      copy = has_copy world.run.time one front (more ++ adds.is.more) (alive_still world.run.time time one fresh.0.0 fresh.0.1 soon_here)

      found : copy_of one.datagram.bytes world.run ≡ newest_copy world.run.time one.datagram.bytes (datagrams_of (front ++ one ∷ (more ++ adds.is.more)))
      found = ap (λ (l : List OnLink). newest_copy world.run.time one.datagram.bytes (datagrams_of l)) (adds.is.sent ∙ (ap (λ (l : List OnLink). l ++ adds.is.more) sent ∙ append_assoc front (one ∷ more) adds.is.more))

-- by the time of a round 10 ms pass, or none
record IsSoon (time : ℕ) (world : Played) : Type 0 where
  soon : world.run.time ≤ time + 10000

pub passed_time : (elapsed : ℕ) (clocks : List ℕ) (world : WorldState) → (passed elapsed clocks world).time ≡ world.time + elapsed
unfolding passed
passed_time elapsed clocks world = refl

time_is_soon : (world : Played) → IsSoon world.run.time (after world (round_of_time world.sited.site))
time_is_soon world = tried_keeps (IsSoon world.run.time) world (round_of_time world.sited.site) (record { soon = omega arith })
    (λ none. let e = ap (λ (w : WorldState). w.time) (time_happens world.sited.site world.sited.table world.run) ∙ passed_time 10000 _ world.run in record { soon = omega (arith, e) })

pub time_sited : (world : Played) → IsSited world.sited (after world (round_of_time world.sited.site))
time_sited world = tried_keeps (IsSited world.sited) world (round_of_time world.sited.site) (record { same = refl }) (λ none. record { same = refl })

pub each_behind : (P : OnLink → Type 0) (one other : List OnLink) → Each P (one ++ other) → Each P other
each_behind P [] other each = each
each_behind P (head ∷ one) other each = each_behind P one other each.1

module _ (laws : LawsBelow) where
  pub numbered : (site : Site) (table : Table) (world : WorldState) → IsStation site → Once site → IsReached site table world → Each (λ (one : OnLink). one.link < links site) world.sent
  numbered site table world station once is =
      let standing : IsStanding site world = subst (IsStanding site) (sym is.after) (laws.stations_have_links_run site table is.outset is.events station once is.lies is.can)
      in let are_links = laws.layouts_name_their_links site station once
      in let timely = laws.links_keep_time_run (links site) (names_at site) standing.linked.events (begun (names_at site) starts_at_zero) are_links (laws.links_keep_time_starts (links site) (names_at site) starts_at_zero are_links) standing.linked.may
      in subst (Each (λ (one : OnLink). one.link < links site)) standing.linked.are.sent_is timely.numbered

  pub none_refused : (old new : Flowing) (leaves : LeavesFresh old new) → Once new.state.sited.site → IsStation new.state.sited.site
      → IsReached new.state.sited.site new.state.sited.table new.state.run → NoneRefused (arrivals new.passed leaves.more) (after new.state (round_of_time new.state.sited.site))
  none_refused old new leaves once station reached =
      let site = new.state.sited.site
      in let below = each_behind (λ (one : OnLink). one.link < links site) old.state.run.sent leaves.more
      (subst (Each (λ (one : OnLink). one.link < links site)) leaves.sent (numbered site new.state.sited.table new.state.run station once reached))
      in let behind = after new.state (round_of_time site)
      in all_arrive behind.run new.state.run.time (time_is_soon new.state).soon new.state.sited new.passed old.state.run.sent leaves.more behind ((time_sends_none new.state).sent ∙ leaves.sent)
      leaves.fresh below (time_sited new.state).same (record { is = adds_none behind.run })
