-- What is seen is safe where more equipment rests than in what is safe.
use Rattle.std.proofs.Common.{◌≡◌, ◌∙◌, ◌⊎◌, inl, inr, ℕ, List, length, Option, Some, None, slice_get, sym, subst}
use Rattle.std.specs.Prelude.{◌≢◌}
use Rattle.std.specs.List.{Contains}
use Rattle.node_kinds.specs.simulator_spec.layout.Entries.{Site}
use Rattle.node_kinds.specs.simulator_spec.layout.declared.ids.PointId.{PointId}
use Rattle.node_kinds.specs.simulator_spec.layout.declared.ids.SignalId.{SignalId}
use Rattle.node_kinds.specs.simulator_spec.sci_telegram.declared.message.Aspect.{Aspect}
use Rattle.node_kinds.specs.simulator_spec.sci_telegram.declared.message.Aspect.TheVariants as aspects
use Rattle.node_kinds.specs.simulator_spec.sci_telegram.declared.message.Side.{Side}
use Rattle.node_kinds.specs.simulator_spec.simulator_event.Safe.{IsProtected, Safe, Shows, ShowsOther, StandsUndriven}
use Rattle.node_kinds.specs.simulator_spec.simulator_event.declared.snapshot.Held.{Held}
use Rattle.node_kinds.specs.simulator_spec.simulator_event.declared.snapshot.Snapshot.{Snapshot}

-- Each signal shows stop or what it shows in the other, each point is driven nowhere or to where it is driven in the other, and all
-- else is the same.
pub record Rests (other seen : Snapshot) : Type 0 where
  pub signals : length seen.shows.items ≡ length other.shows.items
  pub drives : length seen.driven.items ≡ length other.driven.items
  pub positions : length seen.position.items ≡ length other.position.items
  pub shows : (signal : SignalId) (aspect : Aspect) → Shows seen signal aspect → (aspect ≡ aspects.Stop) ⊎ Shows other signal aspect
  pub driven : (place : ℕ) (side : Option Side) → slice_get other.driven.items place ≡ Some side → (slice_get seen.driven.items place ≡ Some None) ⊎ (slice_get seen.driven.items place ≡ Some side)
  pub position : (place : ℕ) → slice_get seen.position.items place ≡ slice_get other.position.items place
  pub held : seen.held.items ≡ other.held.items

module _ (site : Site) (other seen : Snapshot) (rests : Rests other seen) (safe : Safe site other) where
  shown_there : (signal : SignalId) (aspect : Aspect) → Shows seen signal aspect → aspect ≢ aspects.Stop → Shows other signal aspect
  shown_there signal aspect shows not_stop = by_either (rests.shows signal aspect shows) where
    by_either : (aspect ≡ aspects.Stop) ⊎ Shows other signal aspect → Shows other signal aspect
    by_either (inl stop) = absurd (not_stop stop)
    by_either (inr there) = there

  shows_other : (signal : SignalId) → ShowsOther seen signal → ShowsOther other signal
  shows_other signal shows = (shows.0, shown_there signal shows.0 shows.1 shows.2, shows.2)

  held_there : (held : Held) → Contains seen.held.items held → Contains other.held.items held
  held_there held contains = subst (λ (l : List Held). Contains l held) rests.held contains

  held_here : (held : Held) → Contains other.held.items held → Contains seen.held.items held
  held_here held contains = subst (λ (l : List Held). Contains l held) (sym rests.held) contains

  undriven : (place : ℕ) → slice_get other.driven.items place ≡ Some None → slice_get seen.driven.items place ≡ Some None
  undriven place none = by_either (rests.driven place None none) where
    by_either : (slice_get seen.driven.items place ≡ Some None) ⊎ (slice_get seen.driven.items place ≡ Some None) → slice_get seen.driven.items place ≡ Some None
    by_either (inl is) = is
    by_either (inr is) = is

  stands : (point : PointId) (side : Side) → StandsUndriven other point side → StandsUndriven seen point side
  stands point side there = record { stands = rests.position point.0 ∙ there.stands; undriven = undriven point.0 there.undriven }

  protected : (signal : SignalId) (aspect : Aspect) → IsProtected site other signal aspect → IsProtected site seen signal aspect
  protected signal aspect is = record {
    route = is.route;
    held = held_here (record { signal = signal; route = is.route }) is.held;
    only = λ route held. is.only route (held_there (record { signal = signal; route = route }) held);
    shows = is.shows;
    points = λ point side requires. stands point side (is.points point side requires);
  }

  pub safe_at_rest : Safe site seen
  safe_at_rest = record {
    of = record {
      signals = rests.signals ∙ safe.of.signals;
      positions = rests.positions ∙ safe.of.positions;
      drives = rests.drives ∙ safe.of.drives;
      there = λ held contains. safe.of.there held (held_there held contains);
    };
    each = λ signal aspect shows not_stop. protected signal aspect (safe.each signal aspect (shown_there signal aspect shows not_stop) not_stop);
    apart = λ signal another a b differ shows shows_too held held_too conflict.
        safe.apart signal another a b differ (shows_other signal shows) (shows_other another shows_too) (held_there (record { signal = signal; route = a }) held) (held_there (record { signal = another; route = b }) held_too) conflict;
  }
