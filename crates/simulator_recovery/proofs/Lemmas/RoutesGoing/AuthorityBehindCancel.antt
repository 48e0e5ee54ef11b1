-- Two good rounds after the cancel of a route that proceeds its authority has ended.
use Rattle.simulator_recovery.proofs.Words.Basics.{◌≡◌, inl, inr, suc, ◌+◌, ◌^◌, ◌<◌, ◌≤◌, List, [], ◌∷◌, ◌++◌, length, Option, Some, None, slice_get, refl, sym, ap, ◌∙◌, arith, same_Some}
use Rattle.simulator_recovery.proofs.Words.Links.{Each}
use Rattle.simulator_recovery.proofs.Words.Controllers.{Aspect}
use Rattle.simulator_recovery.proofs.Words.Interlockings.{IsTableOf, At, is_proceeding, KnownSignalState, Row, SitedTable, Cancel}
use Rattle.simulator_recovery.proofs.Words.Stations.{RouteId, Once, IsStation, Event, Request, Flowing, round, happens, WorldState, IsReached}
use Rattle.simulator_recovery.proofs.Words.Recovery.{HasGivenMore, ClientStandsByCounts, AcceptsCancel, IsWithdrawnFrom, NoneProceeds, and_cancel, as_cancel_comes, StaysBelowLimit, Proceeds, ready_rounds, HasTime, IsWork, all_tried, good_rounds, IsNotSetAnew, LawsBelow}
use Rattle.simulator_recovery.proofs.Lemmas.Windows.SignalWindows.{reached_rests}
use Rattle.simulator_recovery.proofs.Lemmas.Lamps.ConfirmedStops.{standing_then}
use Rattle.simulator_recovery.proofs.Lemmas.RoutesGoing.AuthorityCancels.{IsPast, cancel_happened}
use Rattle.simulator_recovery.proofs.Lemmas.RoutesGoing.AuthorityOver.{authority_ends, few_given, gave_before, none_given_ends}
use Rattle.simulator_recovery.proofs.Lemmas.Ground.EndCalls.{each_both}
use Rattle.simulator_recovery.proofs.Lemmas.Rounds.Rounds.{IsAt, rounds_reached}
use Rattle.simulator_recovery.proofs.Lemmas.Lamps.SeenSignals.{known_there, seen_then}
use Rattle.simulator_recovery.proofs.Lemmas.Lamps.StopComes.{accepted_there, cancel_happens, entry_there, none_behind_cancel}
use Rattle.simulator_recovery.proofs.Lemmas.Talk.Standing.{stand_by_counts}

module _ (laws : LawsBelow) (between : List Event) (later_rounds : List (List Event)) (before one two : List Event) (flowing : Flowing) (route : RouteId) (row : Row) (once : Once flowing.state.sited.site) (station : IsStation flowing.state.sited.site)
    (is_table : IsTableOf flowing.state.sited.site flowing.state.sited.table) (reached : IsReached flowing.state.sited.site flowing.state.sited.table flowing.state.run) (work : Each IsWork between) (works : Each (Each IsWork) later_rounds)
    (before_works : Each IsWork before) (work_one : Each IsWork one) (work_two : Each IsWork two) (can : HasTime (suc (2 + suc (length later_rounds))) flowing.state.run) (there : slice_get flowing.state.sited.table.rows route.0 ≡ Some row) (long : ready_rounds ≤ suc (suc (length later_rounds)))
    (below : StaysBelowLimit flowing.state.sited.site row.entry (later_rounds ++ and_cancel route before ∷ one ∷ two ∷ []) (all_tried between (round flowing)))
    (proceeds : At (as_cancel_comes (between ∷ later_rounds) before flowing).state.run.interlocking.ixl.routes route.0 Proceeds) (accepted : AcceptsCancel route (as_cancel_comes (between ∷ later_rounds) before flowing).state) where
  abbrev sited : SitedTable
  sited = flowing.state.sited

  abbrev last : List Event
  last = and_cancel route before

  abbrev comes : WorldState
  comes = (as_cancel_comes (between ∷ later_rounds) before flowing).state.run

  abbrev behind : WorldState
  behind = (good_rounds (between ∷ (later_rounds ++ last ∷ [])) flowing).state.run

  pub few : row.entry < length sited.site.signals
  few = entry_there sited.site sited.table station is_table route.0 row there

  pub all_works : Each (Each IsWork) (later_rounds ++ last ∷ [])
  all_works = each_both (Each IsWork) later_rounds (last ∷ []) works (each_both IsWork before (Request (Cancel route) ∷ []) before_works (tt, tt), tt)

  pub none : NoneProceeds sited.table behind.interlocking.ixl row.entry
  none = none_behind_cancel laws (between ∷ later_rounds) before flowing route row reached there accepted

  pub happened : IsAt sited (as_cancel_comes (between ∷ later_rounds) before flowing).state × (behind ≡ happens sited.site sited.table (Request (Cancel route)) comes)
  happened = cancel_happens laws (between ∷ later_rounds) before flowing route reached

  behind_reached : IsReached sited.site sited.table behind
  behind_reached = (rounds_reached laws sited (between ∷ (later_rounds ++ last ∷ [])) flowing (record { same = refl; reached = reached })).reached

  known_in : (world : WorldState) → IsReached sited.site sited.table world → (known : KnownSignalState) × (slice_get world.interlocking.ixl.known_signals row.entry ≡ Some known)
  known_in world is = let seen = seen_then laws sited.site sited.table once station is_table world is in known_there sited.site sited.table world seen.0 seen.1 row.entry few

  was : (known : KnownSignalState) × (slice_get comes.interlocking.ixl.known_signals row.entry ≡ Some known)
  was = known_in comes happened.0.reached

  is : (known : KnownSignalState) × (slice_get behind.interlocking.ixl.known_signals row.entry ≡ Some known)
  is = known_in behind behind_reached

  counts : ClientStandsByCounts was.0.client
  counts = ((stand_by_counts sited.site sited.table comes station happened.0.reached).clients.signals row.entry was.0 was.1).stands

  small : was.0.client.link.given < 2 ^ 31
  small = few_given laws between later_rounds last one two flowing row.entry once station is_table reached work all_works work_one work_two can few long below none before (Request (Cancel route) ∷ []) refl was.0 was.1

  past : IsPast was.0.client.link.given is.0
  past = cancel_happened sited.site sited.table comes route row proceeds.0 was.0 there (standing_then sited.site sited.table comes happened.0.reached) (accepted_there (between ∷ later_rounds) before flowing route happened.0 accepted)
      proceeds.1 (ap is_proceeding proceeds.2) was.1 counts small is.0 (ap (λ (w : WorldState). slice_get w.interlocking.ixl.known_signals row.entry) (sym happened.1) ∙ is.1)

  more : (aspect : Aspect) → is.0.aspect ≡ Some aspect → HasGivenMore row.entry (round (good_rounds (between ∷ later_rounds) flowing)).state.run.interlocking.ixl behind.interlocking.ixl
  more aspect e old new old_there new_there = by_past past
    where
      number : is.0.number ≡ is.0.client.link.given
      number = ((reached_rests sited.site sited.table behind behind_reached).few row.entry is.0 is.1).number aspect e

      by_past : IsPast was.0.client.link.given is.0 → old.client.link.given < new.client.link.given
      by_past (inl unaspected) = absurd (cc (sym unaspected ∙ e))
      by_past (inr given) =
          let least = gave_before laws between later_rounds last one two flowing row.entry once station is_table reached work all_works work_one work_two can few long below none before (Request (Cancel route) ∷ []) refl was.0 was.1 old old_there
          in let same = ap (λ (s : KnownSignalState). s.client.link.given) (same_Some is.0 new (sym is.1 ∙ new_there))
          in let n = number
          in omega (arith, given, least, same, n)

  pub authority_ends_behind_cancel : (withdrawn : IsWithdrawnFrom flowing.state.sited.table (good_rounds (between ∷ (later_rounds ++ and_cancel route before ∷ one ∷ two ∷ [])) flowing).state.run.interlocking.ixl row.entry)
      → IsNotSetAnew withdrawn.number (one ∷ two ∷ []) (good_rounds (between ∷ (later_rounds ++ and_cancel route before ∷ [])) flowing) → ⊥
  authority_ends_behind_cancel withdrawn apart = by_aspect is.0.aspect refl
    where
      by_aspect : (aspect : Option Aspect) → is.0.aspect ≡ aspect → ⊥
      by_aspect None e = none_given_ends laws between later_rounds last one two flowing row.entry once station is_table reached work all_works work_one work_two can few long below none is.0 is.1 e withdrawn apart
      by_aspect (Some aspect) e = authority_ends laws between later_rounds last one two flowing row.entry once station is_table reached work all_works work_one work_two can few long below none (more aspect e) withdrawn apart
