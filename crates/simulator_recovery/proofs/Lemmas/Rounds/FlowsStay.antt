-- What a flow of a station notes of drives, how it begins, and that it stays one.
use Rattle.simulator_recovery.proofs.Words.Basics.{◌≡◌, ℕ, zero, suc, ◌∙◌, ◌+◌, ◌*◌, ◌≤◌, if◌then◌else◌, List, [], ◌∷◌, ◌++◌, append_assoc, length, map, Option, Some, slice_get, refl, sym, ap, subst, arith, none-some, same_Some, replicate, None, length-replicate}
use Rattle.simulator_recovery.proofs.Words.Links.{Each, Sent, is_of, items_given, items_in, Names, Role, reading}
use Rattle.simulator_recovery.proofs.Words.Controllers.{Side, PointState}
use Rattle.simulator_recovery.proofs.Words.Stations.{Event, FoundDriven, PointId, Flowing, all_did, due, next_drives, round, ClockedControllerState, WorldState, driven as found_driven, Once, IsStation, IsOutsetOf, Outset, world_at, IsReached}
use Rattle.simulator_recovery.proofs.Words.Recovery.{all_tried, clock_of, clocks_of, good_rounds, rounds_later, IsFlow, LawsBelow}
use Rattle.simulator_recovery.proofs.Words.Interlockings.{IsTableOf, SitedTable}
use Rattle.simulator_recovery.proofs.Lemmas.Points.DrivenPoints.{did_drives, work_drives}
use Rattle.simulator_recovery.proofs.Lemmas.Rounds.Rounds.{IsAt, rounds_reached, work_reached}

-- ---- lists of rounds, of what was sent and of drives, and clocks: what the proofs of moves in good rounds stand on

-- ---- lists

pub each_split : {X : Type 0} (P : X → Type 0) (front rest : List X) → Each P (front ++ rest) → Each P front × Each P rest
each_split P [] rest each = (tt, each)
each_split P (x ∷ front) rest each = let more = each_split P front rest each.1 in ((each.0, more.0), more.1)

pub same_front : {X : Type 0} (a b x y : List X) → a ++ x ≡ b ++ y → length a ≡ length b → a ≡ b
same_front [] [] x y e n = refl
same_front [] (one ∷ b) x y e n = absurd (omega (arith, n))
same_front (one ∷ a) [] x y e n = absurd (omega (arith, n))
same_front {X} (one ∷ a) (other ∷ b) x y e n = both (cc e) (same_front a b x y (cc e) (omega (arith, n)))
  where
    both : {p q : X} {l m : List X} → p ≡ q → l ≡ m → p ∷ l ≡ q ∷ m
    both f g = cc (f, g)

pub longer_front : {X : Type 0} (a b x y : List X) → a ++ x ≡ b ++ y → length b ≤ length a → (more : List X) × (a ≡ b ++ more)
longer_front a [] x y e few = (a, refl)
longer_front [] (other ∷ b) x y e few = absurd (omega (arith, few))
longer_front {X} (one ∷ a) (other ∷ b) x y e few = let rest = longer_front a b x y (cc e) (omega (arith, few)) in (rest.0, both (cc e) rest.1)
  where
    both : {p q : X} {l m : List X} → p ≡ q → l ≡ m → p ∷ l ≡ q ∷ m
    both f g = cc (f, g)

-- ---- what was given is read off what was sent

pub given_both : (names : Names) (who : Role) (connection : ℕ) (one other : List Sent) → items_given names who connection (one ++ other) ≡ items_given names who connection one ++ items_given names who connection other
given_both names who connection [] other = refl
given_both names who connection (first ∷ one) other =
    ap (λ (rest : List (List ℕ)). (if is_of who connection first then items_in (reading names.key first.bytes) else []) ++ rest) (given_both names who connection one other)
    ∙ sym (append_assoc (if is_of who connection first then items_in (reading names.key first.bytes) else []) (items_given names who connection one) (items_given names who connection other))

-- ---- clocks

clock_there : (P : ℕ → Type 0) (points : List (ClockedControllerState PointState)) (place : ℕ) (c : ClockedControllerState PointState) → slice_get points place ≡ Some c → Each P (map clock_of points) → P c.clock
clock_there P [] place c e each = absurd (none-some c e)
clock_there P (one ∷ points) zero c e each = subst P (ap (λ (x : ClockedControllerState PointState). x.clock) (same_Some one c e)) each.0
clock_there P (one ∷ points) (suc place) c e each = clock_there P points place c e each.1

pub point_clock : (P : ℕ → Type 0) (world : WorldState) (place : ℕ) (c : ClockedControllerState PointState) → slice_get world.points place ≡ Some c → Each P (clocks_of world) → P c.clock
point_clock P world place c e each =
    clock_there P world.points place c e (each_split P (map clock_of world.points) (map clock_of world.detectors) (each_split P (map clock_of world.signals) (map clock_of world.points ++ map clock_of world.detectors) each.1.1).1).0

pub below_limit : (n : ℕ) (clocks : List ℕ) → Each (λ clock. clock + 10000 * n ≤ 9000000000000000) clocks → Each (λ clock. clock ≤ 9000000000000000) (rounds_later n clocks)
below_limit n [] each = tt
below_limit n (clock ∷ clocks) each = (each.0, below_limit n clocks each.1)

-- ---- what is noted of drives

next_length : (found : PointId → Option Side) (at : ℕ) (drives : List (Option FoundDriven)) → length (next_drives found at drives) ≡ length drives
unfolding next_drives
next_length found at [] = refl
next_length found at (drive ∷ drives) = ap suc (next_length found (suc at) drives)

pub kept_on : (between : List Event) (flowing : Flowing) → length (all_tried between (round flowing)).drives ≡ length flowing.drives
kept_on between flowing = ap length (work_drives between (round flowing))
    ∙ next_length (found_driven (all_did (due flowing) flowing).state) 0 (all_did (due flowing) flowing).drives
    ∙ ap length (did_drives (due flowing) flowing)

pub drives_kept : (rounds : List (List Event)) (flowing : Flowing) → length (good_rounds rounds flowing).drives ≡ length flowing.drives
drives_kept [] flowing = refl
drives_kept (between ∷ later_rounds) flowing = drives_kept later_rounds (all_tried between (round flowing)) ∙ kept_on between flowing

-- ---- what a flow of a station notes of drives, how it begins, and that it stays one

pub noted : {flowing : Flowing} → IsFlow flowing → length flowing.state.sited.site.points ≤ length flowing.drives
noted flow = let each = flow.drives in omega (arith, each)

pub begins : (flowing : Flowing) → Once flowing.state.sited.site → IsStation flowing.state.sited.site → IsTableOf flowing.state.sited.site flowing.state.sited.table
    → IsReached flowing.state.sited.site flowing.state.sited.table flowing.state.run → flowing.drives ≡ replicate (length flowing.state.sited.site.points) None → IsFlow flowing
begins flowing once station is_table reached none = record {
  once = once;
  station = station;
  table = is_table;
  reached = reached;
  drives = ap length none ∙ length-replicate {A = Option FoundDriven} (length flowing.state.sited.site.points) None;
}

pub begins_first : (flowing : Flowing) (outset : Outset) → Once flowing.state.sited.site → IsStation flowing.state.sited.site → IsTableOf flowing.state.sited.site flowing.state.sited.table
    → IsOutsetOf flowing.state.sited.site outset → flowing.state.run ≡ world_at flowing.state.sited.site flowing.state.sited.table outset
    → flowing.drives ≡ replicate (length flowing.state.sited.site.points) None → IsFlow flowing
begins_first flowing outset once station is_table lies first none = begins flowing once station is_table (record {
  outset = outset;
  lies = lies;
  events = [];
  can = tt;
  after = first;
}) none

-- what is of the same station, is reached, and notes as much is a flow, too
stays : (old new : Flowing) → IsFlow old → IsAt old.state.sited new.state → length new.drives ≡ length old.drives → IsFlow new
stays old new flow at many = record {
  once = subst (λ (s : SitedTable). Once s.site) (sym at.same) flow.once;
  station = subst (λ (s : SitedTable). IsStation s.site) (sym at.same) flow.station;
  table = subst (λ (s : SitedTable). IsTableOf s.site s.table) (sym at.same) flow.table;
  reached = subst (λ (s : SitedTable). IsReached s.site s.table new.state.run) (sym at.same) at.reached;
  drives = many ∙ (flow.drives ∙ ap (λ (s : SitedTable). length s.site.points) (sym at.same));
}

at_first : (flowing : Flowing) → IsFlow flowing → IsAt flowing.state.sited flowing.state
at_first flowing flow = record { same = refl; reached = flow.reached }

pub over_events : LawsBelow → (events : List Event) (flowing : Flowing) → IsFlow flowing → IsFlow (all_tried events flowing)
over_events laws events flowing flow =
    stays flowing (all_tried events flowing) flow (work_reached laws flowing.state.sited events flowing (at_first flowing flow)) (ap length (work_drives events flowing))

pub over_rounds : LawsBelow → (between : List (List Event)) (flowing : Flowing) → IsFlow flowing → IsFlow (good_rounds between flowing)
over_rounds laws between flowing flow =
    stays flowing (good_rounds between flowing) flow (rounds_reached laws flowing.state.sited between flowing (at_first flowing flow)) (drives_kept between flowing)

pub over_round : LawsBelow → (flowing : Flowing) → IsFlow flowing → IsFlow (round flowing)
over_round laws flowing flow = over_rounds laws ([] ∷ []) flowing flow
