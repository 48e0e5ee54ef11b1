-- The first state has the invariant, each move keeps it, and the promise follows from it.
use Rattle.std.proofs.Common.{◌≡◌, ℕ, Bool, true, false, List, [], ◌∷◌, ◌⊎◌, inl, inr, refl, sym, ap, subst, ◌∙◌, arith}
use Rattle.std.specs.Prelude.{◌≢◌}
use Rattle.simulator_machine.specs.Link.{In, Closes}
use Rattle.simulator_machine.specs.Signal.{Aspect, SignalLink, signal_after, aspect_given, shown, IsLive, IsAtKnownStop, HasStopConfirmed}
use Rattle.simulator_machine.specs.Point.{Side, Position, PointLink, point_after, move_given}
use Rattle.simulator_machine.specs.Table.{Table, IsSound}
use Rattle.simulator_machine.specs.Route.{Phase, Free, Waiting, Authorised, Ended, has_authority, has_ended, is_whole}
use Rattle.simulator_machine.specs.Machine.{Machine, is_held, with_signal, with_route, made_anew}
use Rattle.simulator_machine.specs.Moves.{Move, AtSignal, AtPoint, GivesMove, Sets, Authorises, GivesAspect, Ends, FreesPart, Frees, Restarts, HoldEnds, MaySet, AllKnown, May, after}
use Rattle.simulator_machine.specs.Run.{right_rules, run, MayRun, unlinked, first}
use Rattle.simulator_machine.specs.Promise.{ShowsOther, IsHeldFor, IsProtected, Promise}
use Rattle.simulator_machine.specs.Invariant.{IsLinkSound, IsSettled, IsBacked, Invariant}
use Rattle.simulator_machine.proofs.Lists.{same_or_not}
use Rattle.simulator_machine.proofs.Signals.{signal_kept, given_kept, live_before, given_live, known_stop_dark, out_dark, shown_live}
use Rattle.simulator_machine.proofs.Points.{point_kept, move_given_kept, settled_kept, known_settled}
use Rattle.simulator_machine.proofs.Frames.{held_holding, held_resumed, authority_whole, signal_frame, point_frame, held_elsewhere, held_still, route_frame}

unlinked_sound : IsLinkSound unlinked
unlinked_sound = record { quiet = λ e. absurd (cc (e)); up = λ e. absurd (cc (e)) }

pub first_kept : (table : Table) (positions : ℕ → Position) → Invariant table (first positions)
first_kept table positions = record {
  signals = λ signal. record { link = unlinked_sound; none_done = λ e. refl; none_given = λ e. refl; confirmed = λ e. omega arith };
  points = λ point. record {
    link = unlinked_sound;
    none_given = λ e. omega arith;
    none_made = λ e. refl;
    given = omega arith;
    taken = λ e. omega arith;
    last = λ e side last. absurd (cc (last));
    driver = λ e. absurd (cc (e));
    owing = λ e. omega arith;
  };
  unset = λ holding route. refl;
  set_apart = λ a b differs whole. absurd (cc (whole));
  frozen_apart = λ holding a b differs frozen. absurd (cc (frozen));
  backed = λ signal aspect live. absurd (live.stays refl);
  settled = λ route point side held. absurd (cc (held));
}

module _ (table : Table) (sound : IsSound table) (machine : Machine) (kept : Invariant table machine) where
  -- two held routes don't conflict
  held_apart : (a b : ℕ) → a ≢ b → is_held machine a ≡ true → is_held machine b ≡ true → table.conflict a b ≡ true → ⊥
  held_apart a b differs held_a held_b = go machine.holding refl
    where
      go : (test : Bool) → machine.holding ≡ test → table.conflict a b ≡ true → ⊥
      go true e = kept.frozen_apart e a b differs (sym (held_holding machine a e) ∙ held_a) (sym (held_holding machine b e) ∙ held_b)
      go false e =
          kept.set_apart a b differs (authority_whole (machine.routes a) (sym (held_resumed machine a e) ∙ held_a))
          (authority_whole (machine.routes b) (sym (held_resumed machine b e) ∙ held_b))

  pub promised : Promise table machine
  promised = record { each = each; apart = apart }
    where
      each : (signal : ℕ) → ShowsOther machine signal → IsProtected table machine signal
      each signal other =
          let backed = kept.backed signal (shown (machine.signals signal)) (shown_live (machine.signals signal) other) in record {
            route = backed.0;
            held = backed.1;
            only = λ rival held. only rival backed.0 held backed.1 (same_or_not rival backed.0);
            aspect = sym backed.2;
            points = λ point side required. (kept.settled backed.0 point side backed.1.1 required).stands;
          }
        where
          only : (rival route : ℕ) → IsHeldFor table machine signal rival → IsHeldFor table machine signal route → (rival ≡ route) ⊎ (rival ≢ route) → rival ≡ route
          only rival route its ours (inl same) = same
          only rival route its ours (inr differs) = absurd (held_apart rival route differs its.1 ours.1 (sound.one_entry rival route differs (its.0 ∙ sym ours.0)))

      apart : (signal other a b : ℕ) → signal ≢ other → ShowsOther machine signal → ShowsOther machine other
          → IsHeldFor table machine signal a → IsHeldFor table machine other b → table.conflict a b ≡ true → ⊥
      apart signal other a b differs shows_one shows_other held_a held_b =
          held_apart a b (λ same. differs (sym held_a.0 ∙ (ap table.entry same ∙ held_b.0))) held_a.1 held_b.1

  -- ---- each move

  -- a route that had no authority changes
  unauthorised : (place : ℕ) (phase : Phase) → has_authority (machine.routes place) ≡ false → (signal : ℕ) (aspect : Aspect)
      → IsLive aspect (machine.signals signal) → IsBacked table (with_route place phase machine) signal aspect
  unauthorised place phase none signal aspect live =
      let backed = kept.backed signal aspect live
      in (backed.0, (backed.1.0, held_still table machine kept place phase backed.0 none backed.1.1), backed.2)

  -- in the hold no route is set
  not_holding : (place : ℕ) (phase : Phase) → machine.routes place ≡ phase → phase ≢ Free → machine.holding ≡ true → ⊥
  not_holding place phase is set holding = set (sym is ∙ kept.unset holding place)

  sets_kept : (route : ℕ) → MaySet table machine route → Invariant table (with_route route Waiting machine)
  sets_kept route may =
      route_frame table machine kept sound route Waiting (λ holding. absurd (cc (holding, may.resumed))) (λ other differs whole whole_other. may.unblocked other whole_other)
      (λ authority. absurd (cc (authority))) (unauthorised route Waiting (ap has_authority may.free))

  authorises_kept : (route : ℕ) → machine.routes route ≡ Waiting → AllKnown table machine route → Invariant table (with_route route Authorised machine)
  authorises_kept route waiting known =
      route_frame table machine kept sound route Authorised (λ holding. absurd (not_holding route Waiting waiting (λ e. cc (e)) holding))
      (λ other differs whole. kept.set_apart route other (λ e. differs (sym e)) (ap is_whole waiting))
      (λ authority point side required. known_settled side (machine.points point) (kept.points point) (known point side required))
      (unauthorised route Authorised (ap has_authority waiting))

  ends_kept : (route : ℕ) → machine.routes route ≡ Authorised → IsAtKnownStop (machine.signals (table.entry route)) → Invariant table (with_route route (Ended true) machine)
  ends_kept route authorised stop =
      route_frame table machine kept sound route (Ended true) (λ holding. absurd (not_holding route Authorised authorised (λ e. cc (e)) holding))
      (λ other differs whole. kept.set_apart route other (λ e. differs (sym e)) (ap is_whole authorised))
      (λ authority. absurd (cc (authority))) backed
    where
      at_entry : (signal : ℕ) (aspect : Aspect) (holder : ℕ) → table.entry holder ≡ signal → IsLive aspect (machine.signals signal) → holder ≡ route → ⊥
      at_entry signal aspect holder begins live same =
          known_stop_dark aspect (machine.signals (table.entry route)) (kept.signals (table.entry route)) stop
          (subst (λ (n : ℕ). IsLive aspect (machine.signals n)) (sym begins ∙ ap table.entry same) live)

      backed : (signal : ℕ) (aspect : Aspect) → IsLive aspect (machine.signals signal) → IsBacked table (with_route route (Ended true) machine) signal aspect
      backed signal aspect live =
          let before = kept.backed signal aspect live
          in (
            before.0,
            (before.1.0, held_elsewhere table machine kept route (Ended true) before.0 (at_entry signal aspect before.0 before.1.0 live) before.1.1),
            before.2,
          )

  ended_none : (phase : Phase) → has_ended phase ≡ true → has_authority phase ≡ false
  ended_none Free e = absurd (cc (e))
  ended_none Waiting e = absurd (cc (e))
  ended_none Authorised e = absurd (cc (e))
  ended_none (Ended whole) e = refl

  frees_part_kept : (route : ℕ) → has_ended (machine.routes route) ≡ true → Invariant table (with_route route (Ended false) machine)
  frees_part_kept route ended =
      route_frame table machine kept sound route (Ended false) (λ holding. absurd (cc (ended, ap has_ended (kept.unset holding route))))
      (λ other differs whole. absurd (cc (whole))) (λ authority. absurd (cc (authority)))
      (unauthorised route (Ended false) (ended_none (machine.routes route) ended))

  frees_kept : (route : ℕ) → has_authority (machine.routes route) ≡ false → Invariant table (with_route route Free machine)
  frees_kept route none =
      route_frame table machine kept sound route Free (λ holding. refl) (λ other differs whole. absurd (cc (whole))) (λ authority. absurd (cc (authority)))
      (unauthorised route Free none)

  gives_aspect_kept : (route : ℕ) → machine.routes route ≡ Authorised → HasStopConfirmed (machine.signals (table.entry route))
      → Invariant table (with_signal (table.entry route) (aspect_given (table.aspect route) (machine.signals (table.entry route))) machine)
  gives_aspect_kept route authorised stop =
      signal_frame table machine kept (table.entry route) (aspect_given (table.aspect route) (machine.signals (table.entry route)))
      (given_kept (table.aspect route) (machine.signals (table.entry route)) (kept.signals (table.entry route)) stop.up)
      (λ aspect live. backed aspect (given_live (table.aspect route) aspect (machine.signals (table.entry route)) live))
    where
      held : (test : Bool) → machine.holding ≡ test → is_held machine route ≡ true
      held true e = absurd (not_holding route Authorised authorised (λ e. cc (e)) e)
      held false e = held_resumed machine route e ∙ ap has_authority authorised

      backed : (aspect : Aspect) → IsLive aspect (machine.signals (table.entry route)) ⊎ (table.aspect route ≡ aspect) → IsBacked table machine (table.entry route) aspect
      backed aspect (inl live) = absurd (known_stop_dark aspect (machine.signals (table.entry route)) (kept.signals (table.entry route)) (inl stop) live)
      backed aspect (inr same) = (route, (refl, held machine.holding refl), same)

  restarts_kept : Invariant table (made_anew machine)
  restarts_kept = record {
    signals = λ signal. signal_kept (SignalLink Closes) (machine.signals signal) (kept.signals signal) tt;
    points = λ point. point_kept (PointLink Closes) (machine.points point) (kept.points point) tt;
    unset = λ holding route. refl;
    set_apart = λ a b differs whole. absurd (cc (whole));
    frozen_apart = λ holding. held_apart;
    backed = λ signal aspect live. kept.backed signal aspect (live_before (SignalLink Closes) aspect (machine.signals signal) tt live);
    settled = λ route point side held required. settled_kept (PointLink Closes) side (machine.points point) tt (kept.settled route point side held required);
  }

  hold_ends_kept : ((place : ℕ) → (machine.signals place).link.server ≢ In) → Invariant table (record machine { holding = false })
  hold_ends_kept out = record {
    signals = kept.signals;
    points = kept.points;
    unset = λ holding. absurd (cc (holding));
    set_apart = kept.set_apart;
    frozen_apart = λ holding. absurd (cc (holding));
    backed = λ signal aspect live. absurd (out_dark aspect (machine.signals signal) (machine.signals signal).link.server refl (kept.signals signal) (out signal) live);
    settled = λ route point side. settled route point side machine.holding refl;
  }
    where
      settled : (route point : ℕ) (side : Side) (test : Bool) → machine.holding ≡ test → has_authority (machine.routes route) ≡ true
          → table.requires route point side ≡ true → IsSettled side (machine.points point)
      settled route point side true e authority = absurd (cc (authority, ap has_authority (kept.unset e route)))
      settled route point side false e authority = kept.settled route point side (held_resumed machine route e ∙ authority)

  pub move_kept : (move : Move) → May table machine move → Invariant table (after table machine move)
  move_kept (AtSignal place move) may =
      signal_frame table machine kept place (signal_after move (machine.signals place)) (signal_kept move (machine.signals place) (kept.signals place) may)
      (λ aspect live. kept.backed place aspect (live_before move aspect (machine.signals place) may live))
  move_kept (AtPoint place move) may =
      point_frame table machine kept place (point_after move (machine.points place)) (point_kept move (machine.points place) (kept.points place) may)
      (λ route side held required. settled_kept move side (machine.points place) may (kept.settled route place side held required))
  move_kept (GivesMove place) may =
      point_frame table machine kept place (move_given (machine.points place)) (move_given_kept (machine.points place) (kept.points place) may.0)
      (λ route side held required. absurd (may.1 route side held required))
  move_kept (Sets route) may = sets_kept route may
  move_kept (Authorises route) may = authorises_kept route may.0 may.1
  move_kept (GivesAspect route) may = gives_aspect_kept route may.0 may.1
  move_kept (Ends route) may = ends_kept route may.0 may.1
  move_kept (FreesPart route) may = frees_part_kept route may
  move_kept (Frees route) may = frees_kept route may
  move_kept Restarts may = restarts_kept
  move_kept HoldEnds may = hold_ends_kept may

-- a list of moves
pub run_kept : (table : Table) → IsSound table → (moves : List Move) (machine : Machine) → Invariant table machine → MayRun right_rules table moves machine
    → Invariant table (run right_rules table moves machine)
run_kept table sound [] machine kept may = kept
run_kept table sound (move ∷ moves) machine kept may = run_kept table sound moves (after table machine move) (move_kept table sound machine kept move may.0) may.1
