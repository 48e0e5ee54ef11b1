-- Two good rounds after the moment at which stop is given, or more, the authority of a withdrawn route has ended.
use Rattle.simulator_recovery.proofs.Words.Basics.{◌≡◌, ℕ, suc, ◌+◌, ◌<◌, ◌≤◌, List, [], ◌∷◌, ◌++◌, append_assoc, length, Some, slice_get, refl, sym, ap, subst, ◌∙◌, arith}
use Rattle.simulator_recovery.proofs.Words.Links.{Each}
use Rattle.simulator_recovery.proofs.Words.Interlockings.{IsTableOf, RouteState, SitedTable, Phase}
use Rattle.simulator_recovery.proofs.Words.Stations.{Once, IsStation, Event, Flowing, round, IsReached}
use Rattle.simulator_recovery.proofs.Words.Recovery.{HasGivenMore, authority_rounds, IsWithdrawnFrom, NoneProceeds, StayBelowOn, StaysBelowLimit, ready_rounds, HasTime, IsWork, all_tried, clocks_of, good_rounds, IsNotSetAnew, LawsBelow, Takings}
use Rattle.simulator_recovery.proofs.Lemmas.RoutesGoing.AuthorityOver.{authority_ends, authority_ends_within}
use Rattle.simulator_recovery.proofs.Lemmas.RoutesGoing.BetweenSignals.{rests_keeps, route_kept, was_withdrawn}
use Rattle.simulator_recovery.proofs.Lemmas.Lamps.Cancelled.{OfRoute}
use Rattle.simulator_recovery.proofs.Lemmas.Lamps.GivenNoMore.{RestsSo}
use Rattle.simulator_recovery.proofs.Lemmas.Ground.EndCalls.{each_both}
use Rattle.simulator_recovery.proofs.Lemmas.Points.MovesAnswered.{rounds_both}
use Rattle.simulator_recovery.proofs.Lemmas.Links.Ready.{fewer_time}
use Rattle.simulator_recovery.proofs.Lemmas.Rounds.Rounds.{IsAt, rounds_reached}
use Rattle.simulator_recovery.proofs.Lemmas.Windows.WindowsAlone.{below_two as below_front}
use Rattle.simulator_recovery.proofs.Lemmas.Windows.WindowsSpoken.{count_two, each_two}

-- ---- two rounds, and others after them

module _ (reach : LawsBelow) (between : List Event) (later_rounds : List (List Event)) (last one two : List Event) (rest : List (List Event)) (flowing : Flowing) (signal : ℕ)
    (reached : IsReached flowing.state.sited.site flowing.state.sited.table flowing.state.run) (works : Each (Each IsWork) (later_rounds ++ last ∷ one ∷ two ∷ rest)) (can : HasTime (suc (length (later_rounds ++ last ∷ one ∷ two ∷ rest))) flowing.state.run)
    (below : StaysBelowLimit flowing.state.sited.site signal (later_rounds ++ last ∷ one ∷ two ∷ rest) (all_tried between (round flowing))) where
  abbrev sited : SitedTable
  sited = flowing.state.sited

  abbrev next : Flowing
  next = all_tried between (round flowing)

  abbrev first : Flowing
  first = good_rounds (between ∷ (later_rounds ++ last ∷ [])) flowing

  abbrev third : Flowing
  third = good_rounds (between ∷ (later_rounds ++ last ∷ one ∷ two ∷ [])) flowing

  pub parts : Each (Each IsWork) later_rounds × Each (Each IsWork) (last ∷ one ∷ two ∷ rest)
  parts = each_two (Each IsWork) later_rounds (last ∷ one ∷ two ∷ rest) works

  pub works_first : Each (Each IsWork) (later_rounds ++ last ∷ [])
  works_first = each_both (Each IsWork) later_rounds (last ∷ []) parts.0 (parts.1.0, tt)

  pub can_two : HasTime (suc (2 + suc (length later_rounds))) flowing.state.run
  can_two = fewer_time (suc (2 + suc (length later_rounds))) (suc (length (later_rounds ++ last ∷ one ∷ two ∷ rest))) (clocks_of flowing.state.run) (let count = count_two later_rounds (last ∷ one ∷ two ∷ rest) in omega (arith, count)) can

  pub below_two : StaysBelowLimit sited.site signal (later_rounds ++ last ∷ one ∷ two ∷ []) next
  below_two before are = below_front signal (later_rounds ++ last ∷ one ∷ two ∷ []) rest next before
      (subst (λ (l : List (List Event)). StayBelowOn signal l next before) (sym (append_assoc later_rounds (last ∷ one ∷ two ∷ []) rest)) (below before are))

  at : (rounds : List (List Event)) → IsAt sited (good_rounds (between ∷ rounds) flowing).state
  at rounds = rounds_reached reach sited (between ∷ rounds) flowing (record { same = refl; reached = reached })

  third_is : third ≡ good_rounds (one ∷ two ∷ []) first
  third_is = ap (λ (l : List (List Event)). good_rounds (between ∷ l) flowing) (sym (append_assoc later_rounds (last ∷ []) (one ∷ two ∷ []))) ∙ rounds_both (between ∷ (later_rounds ++ last ∷ [])) (one ∷ two ∷ []) flowing

  end_is : good_rounds (between ∷ (later_rounds ++ last ∷ one ∷ two ∷ rest)) flowing ≡ good_rounds rest third
  end_is = ap (λ (l : List (List Event)). good_rounds (between ∷ l) flowing) (sym (append_assoc later_rounds (last ∷ one ∷ two ∷ []) rest)) ∙ rounds_both (between ∷ (later_rounds ++ last ∷ one ∷ two ∷ [])) rest flowing

  -- what is withdrawn after all of them was withdrawn after the two
  module _ (none : NoneProceeds flowing.state.sited.table (good_rounds (between ∷ (later_rounds ++ last ∷ [])) flowing).state.run.interlocking.ixl signal)
      (still : IsWithdrawnFrom flowing.state.sited.table (good_rounds (between ∷ (later_rounds ++ last ∷ one ∷ two ∷ rest)) flowing).state.run.interlocking.ixl signal) (apart : IsNotSetAnew still.number (one ∷ two ∷ rest) (good_rounds (between ∷ (later_rounds ++ last ∷ [])) flowing)) where
    rests_first : OfRoute still.number RestsSo first.state.run.interlocking.ixl.routes []
    rests_first route e = none still.number still.row route (still.is_route.0, e) still.entry

    rests_third : OfRoute still.number RestsSo third.state.run.interlocking.ixl.routes []
    rests_third = subst (λ (f : Flowing). OfRoute still.number RestsSo f.state.run.interlocking.ixl.routes []) (sym third_is)
        (route_kept reach sited still.number RestsSo rests_keeps (one ∷ two ∷ []) first (parts.1.1.0, (parts.1.1.1.0, tt)) (apart.0, (apart.1.0, tt)) (at (later_rounds ++ last ∷ [])) rests_first)

    pub was : (route : RouteState) × (slice_get third.state.run.interlocking.ixl.routes still.number ≡ Some route) × (route.phase ≡ Phase.Withdrawn)
    was = was_withdrawn reach sited still.number rest third parts.1.1.1.1 (subst (IsNotSetAnew still.number rest) (sym third_is) apart.1.1) (at (later_rounds ++ last ∷ one ∷ two ∷ [])) rests_third still.route
        (ap (λ (f : Flowing). slice_get f.state.run.interlocking.ixl.routes still.number) (sym end_is) ∙ still.is_route.1) still.withdrawn

    abbrev pub still_two : IsWithdrawnFrom flowing.state.sited.table (good_rounds (between ∷ (later_rounds ++ last ∷ one ∷ two ∷ [])) flowing).state.run.interlocking.ixl signal
    still_two = record { number = still.number; row = still.row; route = was.0; is_route = (still.is_route.0, was.1); entry = still.entry; withdrawn = was.2 }

    pub apart_two : IsNotSetAnew still.number (one ∷ two ∷ []) (good_rounds (between ∷ (later_rounds ++ last ∷ [])) flowing)
    apart_two = (apart.0, (apart.1.0, tt))

    -- stop was given after the last round before
    pub ends_given : (laws : LawsBelow) → Once flowing.state.sited.site → IsStation flowing.state.sited.site → IsTableOf flowing.state.sited.site flowing.state.sited.table → Each IsWork between → signal < length flowing.state.sited.site.signals
        → ready_rounds ≤ suc (suc (length later_rounds))
        → HasGivenMore signal (round (good_rounds (between ∷ later_rounds) flowing)).state.run.interlocking.ixl (good_rounds (between ∷ (later_rounds ++ last ∷ [])) flowing).state.run.interlocking.ixl → ⊥
    ends_given laws once station is_table work few long more = authority_ends laws between later_rounds last one two flowing signal once station is_table reached work works_first parts.1.1.0 parts.1.1.1.0 can_two few long below_two none more still_two apart_two

    -- or within it
    pub ends_within : (laws : LawsBelow) → Takings → Once flowing.state.sited.site → IsStation flowing.state.sited.site → IsTableOf flowing.state.sited.site flowing.state.sited.table → Each IsWork between → signal < length flowing.state.sited.site.signals
        → ready_rounds ≤ suc (length later_rounds)
        → HasGivenMore signal (good_rounds (between ∷ later_rounds) flowing).state.run.interlocking.ixl (good_rounds (between ∷ (later_rounds ++ last ∷ [])) flowing).state.run.interlocking.ixl → ⊥
    ends_within laws takings once station is_table work few long more = authority_ends_within laws between later_rounds last one two flowing signal once station is_table reached work works_first parts.1.1.0 parts.1.1.1.0 can_two few (omega (arith, long)) below_two none
        takings long more still_two apart_two

-- ---- so many rounds

abbrev Many : LawsBelow → List (List Event) → Type 0
Many laws more = (between : List Event) (later_rounds : List (List Event)) (last : List Event) (flowing : Flowing) (signal : ℕ) → Once flowing.state.sited.site → IsStation flowing.state.sited.site
    → IsTableOf flowing.state.sited.site flowing.state.sited.table → IsReached flowing.state.sited.site flowing.state.sited.table flowing.state.run → Each IsWork between → Each (Each IsWork) (later_rounds ++ last ∷ more)
    → HasTime (suc (length (later_rounds ++ last ∷ more))) flowing.state.run → signal < length flowing.state.sited.site.signals → ready_rounds ≤ suc (suc (length later_rounds)) → authority_rounds ≤ length more
    → StaysBelowLimit flowing.state.sited.site signal (later_rounds ++ last ∷ more) (all_tried between (round flowing))
    → HasGivenMore signal (round (good_rounds (between ∷ later_rounds) flowing)).state.run.interlocking.ixl (good_rounds (between ∷ (later_rounds ++ last ∷ [])) flowing).state.run.interlocking.ixl
    → NoneProceeds flowing.state.sited.table (good_rounds (between ∷ (later_rounds ++ last ∷ [])) flowing).state.run.interlocking.ixl signal
    → (still : IsWithdrawnFrom flowing.state.sited.table (good_rounds (between ∷ (later_rounds ++ last ∷ more)) flowing).state.run.interlocking.ixl signal) → IsNotSetAnew still.number more (good_rounds (between ∷ (later_rounds ++ last ∷ [])) flowing) → ⊥

pub many_given : (laws : LawsBelow) (more : List (List Event)) → Many laws more
many_given laws [] between later_rounds last flowing signal once station is_table reached work works can few long enough below gave none still apart = absurd (omega (arith, enough))
many_given laws (one ∷ []) between later_rounds last flowing signal once station is_table reached work works can few long enough below gave none still apart = absurd (omega (arith, enough))
many_given laws (one ∷ (two ∷ rest)) between later_rounds last flowing signal once station is_table reached work works can few long enough below gave none still apart =
    ends_given laws between later_rounds last one two rest flowing signal reached works can below none still apart laws once station is_table work few long gave

abbrev ManyWithin : LawsBelow → List (List Event) → Type 0
ManyWithin laws more = (between : List Event) (later_rounds : List (List Event)) (last : List Event) (flowing : Flowing) (signal : ℕ) → Once flowing.state.sited.site → IsStation flowing.state.sited.site
    → IsTableOf flowing.state.sited.site flowing.state.sited.table → IsReached flowing.state.sited.site flowing.state.sited.table flowing.state.run → Each IsWork between → Each (Each IsWork) (later_rounds ++ last ∷ more)
    → HasTime (suc (length (later_rounds ++ last ∷ more))) flowing.state.run → signal < length flowing.state.sited.site.signals → ready_rounds ≤ suc (length later_rounds) → authority_rounds ≤ length more
    → StaysBelowLimit flowing.state.sited.site signal (later_rounds ++ last ∷ more) (all_tried between (round flowing))
    → HasGivenMore signal (good_rounds (between ∷ later_rounds) flowing).state.run.interlocking.ixl (good_rounds (between ∷ (later_rounds ++ last ∷ [])) flowing).state.run.interlocking.ixl
    → NoneProceeds flowing.state.sited.table (good_rounds (between ∷ (later_rounds ++ last ∷ [])) flowing).state.run.interlocking.ixl signal
    → (still : IsWithdrawnFrom flowing.state.sited.table (good_rounds (between ∷ (later_rounds ++ last ∷ more)) flowing).state.run.interlocking.ixl signal) → IsNotSetAnew still.number more (good_rounds (between ∷ (later_rounds ++ last ∷ [])) flowing) → ⊥

pub many_within : (laws : LawsBelow) → Takings → (more : List (List Event)) → ManyWithin laws more
many_within laws takings [] between later_rounds last flowing signal once station is_table reached work works can few long enough below gave none still apart = absurd (omega (arith, enough))
many_within laws takings (one ∷ []) between later_rounds last flowing signal once station is_table reached work works can few long enough below gave none still apart = absurd (omega (arith, enough))
many_within laws takings (one ∷ (two ∷ rest)) between later_rounds last flowing signal once station is_table reached work works can few long enough below gave none still apart =
    ends_within laws between later_rounds last one two rest flowing signal reached works can below none still apart laws takings once station is_table work few long gave
