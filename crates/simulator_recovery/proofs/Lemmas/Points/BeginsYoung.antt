-- A drive that is found after good rounds began in one of the last of them: so it is far from its limit.
use Rattle.simulator_recovery.proofs.Words.Basics.{◌≡◌, ◌⊎◌, inl, inr, ℕ, zero, suc, ◌∙◌, ◌+◌, ◌*◌, ◌≤◌, ◌<◌, nat_le, Bool, true, false, List, [], ◌∷◌, ◌++◌, length, replicate, Option, Some, None, slice_get, refl, sym, ap, subst, arith, leb-true, leb-false, drop, none-some, same_Some}
use Rattle.simulator_recovery.proofs.Words.Links.{settled, Each, reading_of, LinkState, is_open}
use Rattle.simulator_recovery.proofs.Words.Controllers.{IsPointStep, Side, HostState, is_completed, host_step, Input, point_behaviour, PointState, unanswered, Progress}
use Rattle.simulator_recovery.proofs.Words.Interlockings.{IsTableOf, SitedTable}
use Rattle.simulator_recovery.proofs.Words.Stations.{Once, IsStation, Event, Refused, controller_after, controller_later, step_of, Flowing, did, round, round_of_time, all_later, happens, passed, nodes, ClockedControllerState, Played, after, refusal_of, world_where}
use Rattle.simulator_recovery.proofs.Words.Recovery.{behind_time, IsDriven, IsDrivenBehind, IsWork, all_tried, good_rounds, LawsBelow, MakesStep}
use Rattle.simulator_recovery.proofs.Lemmas.Rounds.Clocks.{IsCalm}
use Rattle.simulator_recovery.proofs.Lemmas.Ground.LinkCounts.{settled_is, settled_open}
use Rattle.simulator_recovery.proofs.Lemmas.Ground.EndCalls.{at_place}
use Rattle.simulator_recovery.proofs.Lemmas.Points.FieldPointsStep.{Held, always_owes}
use Rattle.simulator_recovery.proofs.Lemmas.Points.MovesPaid.{IsNew, found_new, step_new}
use Rattle.simulator_recovery.proofs.Lemmas.Points.MovesReported.{timed_clock, timed_host}
use Rattle.simulator_recovery.proofs.Lemmas.Points.MovesRound.{driven_there, left_behind, left_drives, tried_still_holds}
use Rattle.simulator_recovery.proofs.Lemmas.Talk.PointCounts.{begins_so}
use Rattle.simulator_recovery.proofs.Lemmas.Rounds.Rounds.{IsAt, behind_calm, calm_keeps, round_state, rounds_reached, tried_reached, work_calm}

-- ---- a controller in a round

module _ (makes : MakesStep) (Was : Side → ℕ → Type 0) (clock : ℕ) where
  abbrev now : ℕ
  now = reading_of clock

  -- A controller at this clock. Where its link is open, its drive was there so before, or has begun at this reading.
  pub record IsYoungHere (c : ClockedControllerState PointState) : Type 0 where
    pub at : c.clock ≡ clock
    pub idle : is_completed c.host.stage ≡ false → c.host.object.progress ≡ Progress.Answered
    pub young : is_open (settled now c.host.link).phase ≡ true → IsNew Was now c.host.object.progress

  keeps : (input : Input) (connection moment : ℕ) (c : ClockedControllerState PointState) → IsYoungHere c → IsYoungHere (controller_after (step_of point_behaviour input c) connection moment c)
  unfolding controller_after
  keeps input connection moment c here = record {
    at = here.at;
    idle = (makes (reading_of c.clock) input c.host).answered here.idle;
    young = λ opened. subst (λ (n : ℕ). IsNew Was (reading_of n) (host_step point_behaviour (reading_of c.clock) input c.host).host.object.progress) here.at
        (by_open (is_open (settled (reading_of c.clock) c.host.link).phase) refl);
  }
    where
      step : IsPointStep (reading_of c.clock) input c.host (host_step point_behaviour (reading_of c.clock) input c.host)
      step = makes (reading_of c.clock) input c.host

      -- outside its connection no move waits
      by_open : (b : Bool) → is_open (settled (reading_of c.clock) c.host.link).phase ≡ b
          → IsNew Was (reading_of c.clock) (host_step point_behaviour (reading_of c.clock) input c.host).host.object.progress
      by_open true e = step_new Was (reading_of c.clock) input c.host step
          (subst (λ (n : ℕ). IsNew Was (reading_of n) c.host.object.progress) (sym here.at) (here.young (subst (λ (n : ℕ). is_open (settled (reading_of n) c.host.link).phase ≡ true) here.at e)))
      by_open false e = found_new Was (reading_of c.clock) input c.host step
          (λ side since f. let none = ((begins_so (reading_of c.clock) c.host).outside e (λ early. ap unanswered (here.idle early))).1 in let waits = ap unanswered f in absurd
          (omega (arith, none, waits)))

  module _ (place : ℕ) where
    abbrev pub AreYoung : Played → Type 0
    AreYoung world = (c : ClockedControllerState PointState) → slice_get world.run.points place ≡ Some c → IsYoungHere c

    tried_young : (world : Played) (one : Event) → IsCalm one → AreYoung world → AreYoung (after world one)
    tried_young world one calm before = tried_still_holds IsYoungHere keeps place world one calm before

    work_young : (between : List Event) (flowing : Flowing) → Each IsWork between → AreYoung flowing.state → AreYoung (all_tried between flowing).state
    work_young [] flowing work before = before
    work_young (first ∷ others) flowing work before = work_young others (record flowing { state = after flowing.state first }) work.1
        (tried_young flowing.state first (work_calm first work.0) before)

    -- after a round, from after its time
    pub round_young : (between : List Event) (flowing : Flowing) → Each IsWork between → AreYoung (after flowing.state (round_of_time flowing.state.sited.site))
        → AreYoung (all_tried between (round flowing)).state
    round_young between flowing work timed = work_young between (round flowing) work (subst AreYoung (sym (round_state flowing))
        (calm_keeps AreYoung tried_young (behind_time flowing) (did (record { event = round_of_time flowing.state.sited.site; passed = flowing.passed }) flowing)
        (behind_calm flowing) timed))

-- ---- clocks

later_clock : (moment : ℕ) (times : List ℕ) (servers : List (ClockedControllerState PointState)) (place : ℕ) (one : ClockedControllerState PointState)
    → slice_get (all_later moment times servers) place ≡ Some one
    → (server : ClockedControllerState PointState) × (slice_get servers place ≡ Some server) × (server.clock ≤ one.clock)
unfolding controller_later
later_clock moment times [] place one e = absurd (none-some one e)
later_clock moment [] (first ∷ others) place one e = (one, e, omega arith)
later_clock moment (step ∷ times) (first ∷ others) zero one e = (first, refl, let same = ap (λ (c : ClockedControllerState PointState). c.clock) (same_Some _ one e) in omega (arith, same))
later_clock moment (step ∷ times) (first ∷ others) (suc place) one e = later_clock moment times others place one e

-- after the time of a round a clock reads no less
timed_since : (flowing : Flowing) (place : ℕ) (c new : ClockedControllerState PointState) → slice_get flowing.state.run.points place ≡ Some c
    → slice_get (after flowing.state (round_of_time flowing.state.sited.site)).run.points place ≡ Some new
    → c.clock ≤ new.clock
unfolding happens passed
timed_since flowing place c new there e = choose (refusal_of (round_of_time flowing.state.sited.site) flowing.state) e
  where
    choose : (why : Option Refused)
        → slice_get (world_where why flowing.state
        (record flowing.state { run = happens flowing.state.sited.site flowing.state.sited.table (round_of_time flowing.state.sited.site) flowing.state.run })).run.points place ≡ Some new
        → c.clock ≤ new.clock
    choose (Some why) f = let same = ap (λ (x : ClockedControllerState PointState). x.clock) (same_Some new c (sym f ∙ there)) in omega (arith, same)
    choose None f =
        let found = later_clock (length flowing.state.run.sent)
        (drop (length flowing.state.run.signals) (drop 1 (replicate (nodes flowing.state.sited.site) 10000))) flowing.state.run.points place new f
        in let same = ap (λ (x : ClockedControllerState PointState). x.clock) (same_Some found.0 c (sym found.1 ∙ there))
        in let least = found.2
        in omega (arith, same, least)

-- a link that is open by a reading was so by an earlier one
earlier_open : (early late : ℕ) (link : LinkState) → early ≤ late → is_open (settled late link).phase ≡ true → is_open (settled early link).phase ≡ true
earlier_open early late link less e =
    let so = settled_open late link e
    in let before = so.2
    in ap (λ (l : LinkState). is_open l.phase) (settled_is early link so.1 (omega (arith, less, before))) ∙ so.1

-- ---- lists

-- the last so many of a list
pub record LastOf {X : Type 0} (count : ℕ) (list : List X) : Type 0 where
  pub front : List X
  pub rest : List X
  pub are : list ≡ front ++ rest
  pub long : length rest ≡ count

pub last_so_many : {X : Type 0} (count : ℕ) (list : List X) → count ≤ length list → LastOf count list
last_so_many count [] few = record { front = []; rest = []; are = refl; long = omega (arith, few) }
last_so_many {X} count (x ∷ list) few = choose (nat_le count (length list)) refl (λ less. last_so_many count list less)
  where
    choose : (b : Bool) → nat_le count (length list) ≡ b → (count ≤ length list → LastOf count list) → LastOf count (x ∷ list)
    choose true e rest_of = let more = rest_of (leb-true _ _ e) in record { front = x ∷ more.front; rest = more.rest; are = ap (λ (l : List X). x ∷ l) more.are; long = more.long }
    choose false e rest_of = let short = leb-false _ _ e in record { front = []; rest = x ∷ list; are = refl; long = omega (arith, short, few) }

-- ---- good rounds

module _ (laws : LawsBelow) (sited : SitedTable) (station : IsStation sited.site) (once : Once sited.site) (is_table : IsTableOf sited.site sited.table) (place : ℕ)
    (few : place < length sited.site.points) where
  pub held_at : (world : Played) → IsAt sited world → Held laws laws sited.site sited.table station once is_table world.run
  held_at world is = always_owes laws laws sited.site sited.table station once is_table world.run is.reached

  there_at : (world : Played) → IsAt sited world → (c : ClockedControllerState PointState) × (slice_get world.run.points place ≡ Some c)
  there_at world is = let many = (held_at world is).holds.stands.whole.points in at_place world.run.points place (omega (arith, few, many))

  idle_at : (world : Played) → IsAt sited world → (c : ClockedControllerState PointState) → slice_get world.run.points place ≡ Some c → is_completed c.host.stage ≡ false
      → c.host.object.progress ≡ Progress.Answered
  idle_at world is c e = let entry = at_place sited.site.points place few in ((held_at world is).holds.owing.of_points place c e entry.0 entry.1).owed.idle

  few_at : (world : Played) → IsAt sited world → place < length world.sited.site.points
  few_at world is = subst (λ (s : SitedTable). place < length s.site.points) (sym is.same) few

  module _ (side : Side) (since : ℕ) where
    -- A controller drives with its link open, at so many rounds before this clock.
    pub record WasDriving (rounds clock : ℕ) (world : Played) : Type 0 where
      pub c : ClockedControllerState PointState
      pub there : slice_get world.run.points place ≡ Some c
      pub drives : c.host.object.progress ≡ Progress.Driving side since
      pub inside : is_open (settled (reading_of c.clock) c.host.link).phase ≡ true
      pub earlier : c.clock ≤ clock
      pub near : clock ≤ c.clock + 10000 * rounds

    -- one round back: the drive has begun in it, or it was there before
    one_back : (last : List Event) (flowing : Flowing) → Each IsWork last → IsAt sited flowing.state → (c : ClockedControllerState PointState)
        → slice_get (all_tried last (round flowing)).state.run.points place ≡ Some c
        → is_open (settled (reading_of c.clock) c.host.link).phase ≡ true → c.host.object.progress ≡ Progress.Driving side since → (since ≡ reading_of c.clock) ⊎ WasDriving 1 c.clock flowing.state
    one_back last flowing work is c there inside drives = choose (here.young (subst (λ (n : ℕ). is_open (settled (reading_of n) c.host.link).phase ≡ true) here.at inside) side since drives)
      where
        timed : Played
        timed = after flowing.state (round_of_time flowing.state.sited.site)

        timed_is : IsAt sited timed
        timed_is = tried_reached laws sited flowing.state (round_of_time flowing.state.sited.site) is

        old : (c : ClockedControllerState PointState) × (slice_get flowing.state.run.points place ≡ Some c)
        old = there_at flowing.state is

        one : (c : ClockedControllerState PointState) × (slice_get timed.run.points place ≡ Some c)
        one = there_at timed timed_is

        least : old.0.clock ≤ one.0.clock
        least = timed_since flowing place old.0 one.0 old.1 one.1

        most : one.0.clock ≤ old.0.clock + 10000
        most = timed_clock flowing place old.0 one.0 old.1 one.1

        Was : Side → ℕ → Type 0
        Was s n = (old.0.host.object.progress ≡ Progress.Driving s n) × (is_open (settled (reading_of one.0.clock) old.0.host.link).phase ≡ true)

        first : AreYoung laws.point_makes_a_step Was one.0.clock place timed
        first x e = record {
          at = ap (λ (y : ClockedControllerState PointState). y.clock) (same_Some x one.0 (sym e ∙ one.1));
          idle = idle_at timed timed_is x e;
          young = λ opened s n g. inl (
            sym (ap (λ (h : HostState PointState). h.object.progress) (timed_host flowing place old.0 x old.1 e)) ∙ g,
            subst (λ (h : HostState PointState). is_open (settled (reading_of one.0.clock) h.link).phase ≡ true) (timed_host flowing place old.0 x old.1 e) opened,
          );
        }

        here : IsYoungHere laws.point_makes_a_step Was one.0.clock c
        here = round_young laws.point_makes_a_step Was one.0.clock place last flowing work first c there

        less : (n m : ℕ) → n ≤ m → reading_of n ≤ reading_of m
        less n m before = omega (arith, before)

        choose : Was side since ⊎ (since ≡ reading_of one.0.clock) → (since ≡ reading_of c.clock) ⊎ WasDriving 1 c.clock flowing.state
        choose (inl was) = inr (record {
          c = old.0;
          there = old.1;
          drives = was.0;
          inside = earlier_open (reading_of old.0.clock) (reading_of one.0.clock) old.0.host.link (less old.0.clock one.0.clock least) was.1;
          earlier = let same = here.at in omega (arith, least, same);
          near = let same = here.at in omega (arith, most, same);
        })
        choose (inr begun) = inl (begun ∙ ap reading_of (sym here.at))

    -- a drive after a round is found
    found_behind : (last : List Event) (flowing : Flowing) → Each IsWork last → IsAt sited flowing.state → (c : ClockedControllerState PointState)
        → slice_get (all_tried last (round flowing)).state.run.points place ≡ Some c
        → is_open (settled (reading_of c.clock) c.host.link).phase ≡ true → c.clock ≤ 9000000000000000 → c.host.object.progress ≡ Progress.Driving side since
        → IsDriven place side (all_tried last (round flowing)).state
    found_behind last flowing work is c there inside early drives =
        driven_there place side (all_tried last (round flowing)).state c (few_at (all_tried last (round flowing)).state (rounds_reached laws sited (last ∷ []) flowing is)) there
        (left_drives laws.point_makes_a_step c (left_behind last flowing place work (few_at flowing.state is) c there) inside early side since drives)

    -- After these rounds a drive has begun in one of them, or it was there before the first and was found after each.
    pub back : (rounds : List (List Event)) (flowing : Flowing) → Each (Each IsWork) rounds → IsAt sited flowing.state → (c : ClockedControllerState PointState)
        → slice_get (good_rounds rounds flowing).state.run.points place ≡ Some c
        → is_open (settled (reading_of c.clock) c.host.link).phase ≡ true → c.clock ≤ 9000000000000000 → c.host.object.progress ≡ Progress.Driving side since
        → (reading_of c.clock ≤ since + 10 * length rounds) ⊎ (WasDriving (length rounds) c.clock flowing.state × IsDrivenBehind place side rounds flowing)
    back [] flowing works is c there inside early drives = inr (record { c = c; there = there; drives = drives; inside = inside; earlier = omega arith; near = omega arith }, tt)
    back (first ∷ rest) flowing works is c there inside early drives = choose (back rest next works.1 next_is c there inside early drives)
      where
        next : Flowing
        next = all_tried first (round flowing)

        next_is : IsAt sited next.state
        next_is = rounds_reached laws sited (first ∷ []) flowing is

        begun_then : (n m : ℕ) → n ≤ m + 10000 * length rest → reading_of n ≤ reading_of m + 10 * suc (length rest)
        begun_then n m less = omega (arith, less)

        choose : (reading_of c.clock ≤ since + 10 * length rest) ⊎ (WasDriving (length rest) c.clock next.state × IsDrivenBehind place side rest next)
            → (reading_of c.clock ≤ since + 10 * suc (length rest)) ⊎ (WasDriving (suc (length rest)) c.clock flowing.state × IsDrivenBehind place side (first ∷ rest) flowing)
        choose (inl young) = inl (omega (arith, young))
        choose (inr (was, driven)) = by_back (one_back first flowing works.0 is was.c was.there was.inside was.drives)
          where
            by_back : (since ≡ reading_of was.c.clock) ⊎ WasDriving 1 was.c.clock flowing.state
                → (reading_of c.clock ≤ since + 10 * suc (length rest)) ⊎ (WasDriving (suc (length rest)) c.clock flowing.state × IsDrivenBehind place side (first ∷ rest) flowing)
            by_back (inl begun) = let near = begun_then c.clock was.c.clock was.near in inl (omega (arith, near, begun))
            by_back (inr before) = inr (
              record {
                c = before.c;
                there = before.there;
                drives = before.drives;
                inside = before.inside;
                earlier = let one = before.earlier in let other = was.earlier in omega (arith, one, other);
                near = let one = before.near in let other = was.near in omega (arith, one, other);
              },
              (found_behind first flowing works.0 is was.c was.there was.inside (let less = was.earlier in omega (arith, less, early)) was.drives, driven),
            )
