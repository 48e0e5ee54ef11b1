-- What an end knows, after every list of events.
use Rattle.std.proofs.Common.{◌≡◌, ℕ, zero, suc, ◌≤◌, true, false, List, [], ◌∷◌, ◌++◌, length, take, inl, inr, refl, sym, ap, subst, ◌∙◌, arith}
use Rattle.rasta_core_spec.specs.Calls.{created}
use Rattle.rasta_core_spec.specs.Clock.{alive_until}
use Rattle.rasta_core_spec.specs.Events.{Event, MayRun, Start, happened, run, started}
use Rattle.rasta_core_spec.specs.Names.{AreNames, Names, partner_of}
use Rattle.rasta_core_spec.specs.Run.{Ends, end_of}
use Rattle.rasta_core_spec.specs.State.{LinkState, is_asking, is_open, is_up}
use Rattle.rasta_core_spec.specs.identity.Role.{Role}
use Rattle.rasta_core_spec.specs.identity.Role.TheVariants as role
use Rattle.rasta_core_spec.specs.phase.Phase.{Phase}
use Rattle.rasta_core_spec.specs.phase.Phase.TheVariants as phase
use Rattle.rasta_core.specs.Carried.{carried}
use Rattle.caught_up_laws.specs.Exact.{pdus_of}
use Rattle.caught_up_laws.specs.Knowledge.{HasTaken, KnowsAllBy, KnowsAllInTime, KnowsUntil}
use Rattle.caught_up_laws.specs.Observer.{caught_up, until_by, watched}
use Rattle.caught_up_laws.specs.inside.Laws.{Laws}
use Rattle.caught_up_laws.proofs.KnownRuns.{event_knows}
use Rattle.caught_up_laws.proofs.Knows.{IsWatched, Knowing, Stayed, begins_known}
use Rattle.caught_up_laws.proofs.Level.{carried-append}
use Rattle.caught_up_laws.proofs.Whole.{IsWhole, given_carried, part_of, whole_starts}

-- ---- runs

run_joined : (one other : List Event) (ends : Ends) → run (one ++ other) ends ≡ run other (run one ends)
run_joined [] other ends = refl
run_joined (first ∷ one) other ends = run_joined one other (happened first ends)

watched_joined : (who : Role) (one other : List Event) (ends : Ends) (until : ℕ)
    → watched caught_up who (one ++ other) ends until ≡ watched caught_up who other (run one ends) (watched caught_up who one ends until)
watched_joined who [] other ends until = refl
watched_joined who (first ∷ one) other ends until = watched_joined who one other (happened first ends) (caught_up until (end_of who (happened first ends)).link)

may_first : (names : Names) (one other : List Event) (ends : Ends) → MayRun names (one ++ other) ends → MayRun names one ends
may_first names [] other ends may = tt
may_first names (first ∷ one) other ends may = (may.0, may_first names one other (happened first ends) may.1)

may_later : (names : Names) (one other : List Event) (ends : Ends) → MayRun names (one ++ other) ends → MayRun names other (run one ends)
may_later names [] other ends may = may
may_later names (first ∷ one) other ends may = may_later names one other (happened first ends) may.1

-- an end and its observer, as they begin and after a run
pub record IsObserved (names : Names) (who : Role) (ends : Ends) (until : ℕ) : Type 0 where
  pub whole : IsWhole names ends
  pub watched : IsWatched (end_of who ends) until

new_is_shut : (names : Names) (start : Start) (who : Role) → is_open (end_of who (started names start)).link.phase ≡ false
unfolding created
new_is_shut names start role.Client = refl
new_is_shut names start role.Server = refl

begins_observed : Laws → (names : Names) (start : Start) → AreNames names → (who : Role) → IsObserved names who (started names start) (alive_until (end_of who (started names start)).link)
begins_observed law names start are who = record {
  whole = whole_starts law names start are;
  watched = record { exact = λ opened e. refl; bounded = λ opened. absurd (cc (opened, new_is_shut names start who)) };
}

module _ (law : Laws) (names : Names) (are : AreNames names) (who : Role) where
  observed_on : (events : List Event) (ends : Ends) (until : ℕ) → MayRun names events ends → IsObserved names who ends until → IsObserved names who (run events ends) (watched caught_up who events ends until)
  observed_on [] ends until may is = is
  observed_on (first ∷ others) ends until may is =
      let k = event_knows law names are who ends ends until is.whole (begins_known names who ends until is.whole is.watched) first may.0
      in observed_on others (happened first ends) (caught_up until (end_of who (happened first ends)).link) may.1 (record { whole = k.whole; watched = k.watched })

  knows_on : (past : Ends) → IsWhole names past → (events : List Event) (now : Ends) (until : ℕ) → MayRun names events now → Knowing names who past now until
      → Knowing names who past (run events now) (watched caught_up who events now until)
  knows_on past was [] now until may k = k
  knows_on past was (first ∷ others) now until may k =
      knows_on past was others (happened first now) (caught_up until (end_of who (happened first now)).link) may.1 (event_knows law names are who past now until was k first may.0)

  -- a moment of a run, and what is known of it now
  pub record AtMoment (start : Start) (earlier later : List Event) : Type 0 where
    pub was : IsWhole names (run earlier (started names start))
    pub knowing : Knowing names who (run earlier (started names start)) (run later (run earlier (started names start))) (until_by caught_up who (earlier ++ later) (started names start))

  pub at_moment : (start : Start) (earlier later : List Event) → MayRun names (earlier ++ later) (started names start) → AtMoment start earlier later
  at_moment start earlier later may = record {
    was = seen.whole;
    knowing = subst (Knowing names who past (run later past)) (sym (watched_joined who earlier later (started names start) begun))
        (knows_on past seen.whole later past (watched caught_up who earlier (started names start) begun) (may_later names earlier later (started names start) may)
        (begins_known names who past (watched caught_up who earlier (started names start) begun) seen.whole seen.watched));
  }
    where
      past : Ends
      past = run earlier (started names start)

      begun : ℕ
      begun = alive_until (end_of who (started names start)).link

      seen : IsObserved names who past (watched caught_up who earlier (started names start) begun)
      seen = observed_on earlier (started names start) begun (may_first names earlier later (started names start) may) (begins_observed law names start are who)

  -- ---- what was given has been taken

  up_open : (its : Phase) → is_up its ≡ true → is_open its ≡ true
  up_open phase.Closed e = absurd (cc (e))
  up_open phase.Start e = absurd (cc (e))
  up_open phase.Up e = refl
  up_open phase.RetransmissionRequested e = refl
  up_open phase.RetransmissionRunning e = refl

  up_asks_not : (link : LinkState) → is_up link.phase ≡ true → is_asking link ≡ false
  up_asks_not link e = grind (arith, e)

  front_of : (count : ℕ) (one other : List (List ℕ)) → length one ≤ length (take count (one ++ other)) → (rest : List (List ℕ)) × (take count (one ++ other) ≡ one ++ rest)
  front_of count [] other few = (take count other, refl)
  front_of zero (first ∷ one) other few = absurd (omega (arith, few))
  front_of (suc count) (first ∷ one) other few = let rest = front_of count one other (omega (arith, few)) in (rest.0, ap (λ items. first ∷ items) rest.1)

  takes_all : (past now : Ends) (until : ℕ) → IsWhole names past → Knowing names who past now until → is_up (end_of who now).link.phase ≡ true
      → ((connection : ℕ) → Stayed who past now until connection → length (end_of (partner_of who) past).given ≤ length (end_of who now).taken)
      → HasTaken who past now
  takes_all past now until was k up enough connection at given = elim (k.known connection (up_open (end_of who now).link.phase up) at given) [
    | inl stayed ↦ record { rest = (front stayed).0; same = (front stayed).1 }
    | inr none ↦ record { rest = (end_of who now).taken; same = ap (λ items. items ++ (end_of who now).taken) (sym none) }
  ]
    where
      front : Stayed who past now until connection → (rest : List (List ℕ)) × ((end_of who now).taken ≡ (end_of (partner_of who) past).given ++ rest)
      front stayed =
          let own = part_of law names now k.whole who connection (up_open (end_of who now).link.phase up) (up_asks_not (end_of who now).link up) at
          in let given_now : own.giver.given ≡ carried (pdus_of names (partner_of who) connection past.sent) ++ carried (k.since connection).more
          = own.given ∙ given_carried names now k.whole (partner_of who) connection own.of_partner ∙ ap carried (k.since connection).same
          ∙ carried-append (pdus_of names (partner_of who) connection past.sent) (k.since connection).more
          in let was_given : (end_of (partner_of who) past).given ≡ carried (pdus_of names (partner_of who) connection past.sent) = given_carried names past was (partner_of who) connection given
          in let taken : (end_of who now).taken ≡ take (own.giver.passed own.taker.reached) ((end_of (partner_of who) past).given ++ carried (k.since connection).more)
          = sym own.taken ∙ own.way.taken ∙ ap (take (own.giver.passed own.taker.reached)) (given_now ∙ ap (λ items. items ++ carried (k.since connection).more) (sym was_given))
          in let few : length (end_of (partner_of who) past).given ≤ length (take (own.giver.passed own.taker.reached) ((end_of (partner_of who) past).given ++ carried (k.since connection).more))
          = subst (λ (items : List (List ℕ)). length (end_of (partner_of who) past).given ≤ length items) taken (enough connection stayed)
          in let rest = front_of (own.giver.passed own.taker.reached) (end_of (partner_of who) past).given (carried (k.since connection).more) few
          in (rest.0, taken ∙ rest.1)

  pub knows_all : (start : Start) (earlier later : List Event) → KnowsAllBy caught_up who names start earlier later
  knows_all start earlier later may up before long_ago =
      let moment = at_moment start earlier later may
      in takes_all (run earlier (started names start)) (run later (run earlier (started names start))) (until_by caught_up who (earlier ++ later) (started names start)) moment.was moment.knowing up
      (λ connection stayed. stayed.knows (omega (arith, before, long_ago)))

  pub knows_in_time : (start : Start) (earlier later : List Event) → KnowsAllInTime who names start earlier later
  knows_in_time start earlier later may up before long_ago =
      let moment = at_moment start earlier later may
      in takes_all (run earlier (started names start)) (run later (run earlier (started names start))) (until_by caught_up who (earlier ++ later) (started names start)) moment.was moment.knowing up
      (λ connection stayed. stayed.knows (omega (arith, before, long_ago, stayed.least)))

  pub knows_until : (start : Start) (earlier later : List Event) → KnowsUntil who names start earlier later
  knows_until start earlier later may up before =
      let moment = at_moment start earlier later may
      in takes_all (run earlier (started names start)) (run later (run earlier (started names start))) (until_by caught_up who (earlier ++ later) (started names start)) moment.was moment.knowing up
      (λ connection stayed. stayed.knows before)
