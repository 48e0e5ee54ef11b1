-- After good rounds no cancelled route waits that lets itself be freed, or whose release is over; and after 12000 of them its time is over.
use Rattle.simulator_recovery.proofs.Words.Basics.{◌≡◌, ℕ, ◌+◌, ◌-◌, ◌*◌, ◌^◌, ◌≤◌, min, true, List, ◌∷◌, length, Some, slice_get, refl, sym, ap, subst, ◌∙◌, arith}
use Rattle.simulator_recovery.proofs.Words.Links.{Each, reading_of}
use Rattle.simulator_recovery.proofs.Words.Interlockings.{IsRouteOf, RouteState, Row, SitedTable, Phase}
use Rattle.simulator_recovery.proofs.Words.Stations.{Once, IsStation, Event, Flowing, round, IsReached}
use Rattle.simulator_recovery.proofs.Words.Recovery.{FreeLaw, HasTime, IsWork, LawsBelow, all_tried, approach_time_rounds, good_rounds}
use Rattle.simulator_recovery.proofs.Lemmas.Links.Ready.{Last, each_front, last_of}
use Rattle.simulator_recovery.proofs.Lemmas.Lamps.StopComes.{last_round}
use Rattle.simulator_recovery.proofs.Lemmas.RoutesGoing.AuthorityRoundFrees.{MayGo, round_frees}
use Rattle.simulator_recovery.proofs.Lemmas.Rounds.Rounds.{IsAt, rounds_reached, take_their_time}

module _ (frees : FreeLaw) (laws : LawsBelow) (more : List (List Event)) (start : Flowing) (reached : IsReached start.state.sited.site start.state.sited.table start.state.run) (works : Each (Each IsWork) more) where
  abbrev sited : SitedTable
  sited = start.state.sited

  abbrev end : Flowing
  end = good_rounds more start

  module _ (number : ℕ) (row : Row) (route : RouteState) (clock done : ℕ) (of : IsRouteOf sited.table end.state.run.interlocking.ixl number row route) (cancelled : route.cancelled ≡ true) (ended : route.phase ≡ Phase.Ended clock done)
      (goes : MayGo (reading_of end.state.run.interlocking.clock) sited.table end.state.run.interlocking.ixl row route clock) where
    -- in the last of them
    frees_last : Last (length more - 1) more → ⊥
    frees_last l = round_frees frees laws l.last but_one number row route clock done (subst (λ (s : SitedTable). IsReached s.site s.table but_one.state.run) (sym at_but_one.same) at_but_one.reached) last_works
        (subst (λ (s : SitedTable). slice_get s.table.rows number ≡ Some row) (sym at_but_one.same) of.0, ap (λ (f : Flowing). slice_get f.state.run.interlocking.ixl.routes number) (sym end_is) ∙ of.1) cancelled ended
        (subst (λ (s : SitedTable). MayGo (reading_of (all_tried l.last (round but_one)).state.run.interlocking.clock) s.table (all_tried l.last (round but_one)).state.run.interlocking.ixl row route clock) (sym at_but_one.same)
        (subst (λ (f : Flowing). MayGo (reading_of f.state.run.interlocking.clock) sited.table f.state.run.interlocking.ixl row route clock) end_is goes))
      where
        but_one : Flowing
        but_one = good_rounds l.front start

        end_is : end ≡ all_tried l.last (round but_one)
        end_is = ap (λ (rounds : List (List Event)). good_rounds rounds start) l.are ∙ last_round l.front l.last start

        last_works : Each IsWork l.last
        last_works = (each_front (Each IsWork) l.front l.last (subst (Each (Each IsWork)) l.are works)).1

        at_but_one : IsAt sited but_one.state
        at_but_one = rounds_reached laws sited l.front start (record { same = refl; reached = reached })

    pub rounds_free : 1 ≤ length more → ⊥
    rounds_free some = frees_last (last_of (length more - 1) more (omega (arith, some)))

-- ---- so many rounds

-- the clock of the interlocking among all
abbrev second : List ℕ → ℕ
second (first ∷ next ∷ others) = next
second others = 0

-- the approach time is over
time_over : (at clock rounds : ℕ) → at ≤ reading_of clock → 12000 ≤ rounds → min (at + 120000) (2 ^ 64 - 1) ≤ reading_of (clock + 10000 * rounds)
time_over at clock rounds before long = omega (arith, before, long)

-- since a reading at which they began
pub approach_over : LawsBelow → (more : List (List Event)) (start : Flowing) → Once start.state.sited.site → IsStation start.state.sited.site → IsReached start.state.sited.site start.state.sited.table start.state.run → Each (Each IsWork) more
    → HasTime (length more) start.state.run → approach_time_rounds ≤ length more → (at : ℕ) → at ≤ reading_of start.state.run.interlocking.clock → min (at + 120000) (2 ^ 64 - 1) ≤ reading_of (good_rounds more start).state.run.interlocking.clock
approach_over laws more start once station reached works can far at by = subst (λ (c : ℕ). min (at + 120000) (2 ^ 64 - 1) ≤ reading_of c) (sym (ap second (take_their_time laws more start once station reached works can)))
    (time_over at start.state.run.interlocking.clock (length more) by far)
