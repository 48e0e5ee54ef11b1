-- What an interlocking's tests of sections, points and signals decide.
use Rattle.std.proofs.Common.{inl, inr, ◌≡◌, ◌⊎◌, ℕ, ◌≤◌, Bool, true, false, not, if◌then◌else◌, List, refl, ap, sym, ◌∙◌}
use Rattle.std.specs.Prelude.{nat_le, Option, Some, None, is_some}
use Rattle.std.specs.FinSet.{contains}
use Rattle.std.proofs.lemmas.Bool.{true≢false, false≢true, le-leb, leb-true}
use Rattle.closings.specs.sci_telegram.declared.message.Aspect.{Aspect}
use Rattle.closings.specs.sci_telegram.declared.message.Aspect.TheVariants as aspects
use Rattle.closings.specs.sci_telegram.declared.message.Side.{Side}
use Rattle.closings.specs.sci_telegram.declared.message.Side.TheVariants as sides
use Rattle.rasta_core.specs.Clock.{quiet_until}
use Rattle.rasta_core.specs.State.{confirmed_items, is_up}
use Rattle.ixl_client.specs.Client.{is_available, is_ready}
use Rattle.ixl_spec.specs.Table.{Need, Table, is_same_side}
use Rattle.ixl_spec.specs.State.{IxlState, KnownSignalState}
use Rattle.ixl_spec.specs.View.{all_clear, all_known, has_taken_stop, is_at_known_stop, is_clear, is_known, is_known_signal_at_stop, is_occupied, is_point_available, is_side, is_signal_ready}
use Rattle.ixl_spec.specs.Due.{AllClear, AllKnown, IsAvailable, IsClear, IsKnownSignalAtStop, IsOccupied, IsSignalReady, Known, KnownStop}
use Rattle.ixl_spec.proofs.Decide.{Decides, all_decides, at_decides, both_decide, itself_decides, not_decides}

pub clear_decides : (table : Table) (ixl : IxlState) (section : ℕ) → Decides (is_clear table ixl section) (IsClear table ixl section)
unfolding is_clear
clear_decides table ixl section =
    at_decides table.reporters section _ _ (λ reporter. at_decides ixl.detectors reporter.0 _ _
    (λ detector. both_decide (is_ready detector.client.stage) (not (contains detector.occupied reporter.1)) _ _ (itself_decides _) (not_decides (contains detector.occupied reporter.1))))

pub all_clear_decides : (table : Table) (ixl : IxlState) (sections : List ℕ) → Decides (all_clear table ixl sections) (AllClear table ixl sections)
all_clear_decides table ixl sections = all_decides (is_clear table ixl) (IsClear table ixl) sections (clear_decides table ixl)

pub available_decides : (ixl : IxlState) (point : ℕ) → Decides (is_point_available ixl point) (IsAvailable ixl point)
available_decides ixl point = at_decides ixl.known_points point _ _ (λ known_point. itself_decides (is_available known_point.client.stage))

pub same_side : (a b : Side) → is_same_side a b ≡ true → a ≡ b
same_side sides.Right sides.Right is = refl
same_side sides.Left sides.Left is = refl
same_side sides.Right sides.Left is = absurd (false≢true is)
same_side sides.Left sides.Right is = absurd (false≢true is)

pub itself : (a : Side) → is_same_side a a ≡ true
itself sides.Right = refl
itself sides.Left = refl

pub side_decides : (side : Side) (told : Option Side) → Decides (is_side side told) (told ≡ Some side)
side_decides side None = record { yes = λ is. absurd (false≢true is); shown = λ is. ap (is_side side) is ∙ itself side }
side_decides side (Some told) = record { yes = λ is. ap (λ s. Some s) (sym (same_side side told is)); shown = λ is. ap (is_side side) is ∙ itself side }

pub known_decides : (ixl : IxlState) (point : ℕ) (side : Side) → Decides (is_known ixl point side) (Known ixl point side)
unfolding is_known
known_decides ixl point side =
    at_decides ixl.known_points point _ _ (λ known_point. both_decide (is_available known_point.client.stage) (is_side side known_point.side) _ _ (itself_decides _) (side_decides side known_point.side))

pub all_known_decides : (ixl : IxlState) (needs : List Need) → Decides (all_known ixl needs) (AllKnown ixl needs)
all_known_decides ixl needs = all_decides _ _ needs (λ need. known_decides ixl need.point need.side)

pub signal_ready_decides : (ixl : IxlState) (signal : ℕ) → Decides (is_signal_ready ixl signal) (IsSignalReady ixl signal)
signal_ready_decides ixl signal = at_decides ixl.known_signals signal _ _ (λ known_signal. itself_decides (is_ready known_signal.client.stage))

-- ---- known stop

pub some_is : {A : Type 0} {one : A} → Some one ≡ None → ⊥
some_is is = true≢false (ap is_some is)

pub is_some_stop : Option Aspect → Bool
is_some_stop (Some aspects.Stop) = true
is_some_stop _ = false

pub stop_taken_decides : (given : Option Aspect) (number confirmed : ℕ) → Decides (has_taken_stop given number confirmed) ((given ≡ None) ⊎ ((given ≡ Some aspects.Stop) × (number ≤ confirmed)))
unfolding is_some_stop
stop_taken_decides None number confirmed = record { yes = λ is. inl refl; shown = λ is. refl }
stop_taken_decides (Some aspects.Stop) number confirmed = record {
  yes = λ is. inr (refl, leb-true number confirmed is);
  shown = λ is. taken is;
} where
  taken : (Some aspects.Stop ≡ None) ⊎ ((Some aspects.Stop ≡ Some aspects.Stop) × (number ≤ confirmed)) → nat_le number confirmed ≡ true
  taken (inl none) = absurd (some_is none)
  taken (inr is) = le-leb number confirmed is.1
stop_taken_decides (Some aspects.Proceed) number confirmed = record { yes = λ is. absurd (false≢true is); shown = λ is. other is } where
  other : (Some aspects.Proceed ≡ None) ⊎ ((Some aspects.Proceed ≡ Some aspects.Stop) × (number ≤ confirmed)) → false ≡ true
  other (inl none) = absurd (some_is none)
  other (inr is) = ap is_some_stop is.0
stop_taken_decides (Some aspects.Slow) number confirmed = record { yes = λ is. absurd (false≢true is); shown = λ is. other is } where
  other : (Some aspects.Slow ≡ None) ⊎ ((Some aspects.Slow ≡ Some aspects.Stop) × (number ≤ confirmed)) → false ≡ true
  other (inl none) = absurd (some_is none)
  other (inr is) = ap is_some_stop is.0

pub known_signal_decides : (now : ℕ) (known_signal : KnownSignalState) → Decides (is_known_signal_at_stop now known_signal) (IsKnownSignalAtStop now known_signal)
known_signal_decides now known_signal = cases (is_up known_signal.client.link.phase) refl where
  Taken : Type 0
  Taken = (known_signal.aspect ≡ None) ⊎ ((known_signal.aspect ≡ Some aspects.Stop) × (known_signal.number ≤ confirmed_items known_signal.client.link))

  cases : (b : Bool) → is_up known_signal.client.link.phase ≡ b →
      Decides (if b then has_taken_stop known_signal.aspect known_signal.number (confirmed_items known_signal.client.link) else nat_le (quiet_until known_signal.client.link) now)
      (((is_up known_signal.client.link.phase ≡ true) × Taken) ⊎ ((is_up known_signal.client.link.phase ≡ false) × (quiet_until known_signal.client.link ≤ now)))
  cases true up = record { yes = λ is. inl (up, stop.yes is); shown = λ is. taken is } where
    stop : Decides (has_taken_stop known_signal.aspect known_signal.number (confirmed_items known_signal.client.link)) Taken
    stop = stop_taken_decides known_signal.aspect known_signal.number (confirmed_items known_signal.client.link)

    taken : ((is_up known_signal.client.link.phase ≡ true) × Taken) ⊎ ((is_up known_signal.client.link.phase ≡ false) × (quiet_until known_signal.client.link ≤ now)) → has_taken_stop known_signal.aspect known_signal.number (confirmed_items known_signal.client.link) ≡ true
    taken (inl is) = stop.shown is.1
    taken (inr is) = absurd (true≢false (sym up ∙ is.0))
  cases false down = record { yes = λ is. inr (down, leb-true _ _ is); shown = λ is. quiet is } where
    quiet : ((is_up known_signal.client.link.phase ≡ true) × Taken) ⊎ ((is_up known_signal.client.link.phase ≡ false) × (quiet_until known_signal.client.link ≤ now)) → nat_le (quiet_until known_signal.client.link) now ≡ true
    quiet (inl is) = absurd (true≢false (sym is.0 ∙ down))
    quiet (inr is) = le-leb _ _ is.1

pub known_stop_decides : (now : ℕ) (ixl : IxlState) (signal : ℕ) → Decides (is_at_known_stop now ixl signal) (KnownStop now ixl signal)
unfolding is_at_known_stop
known_stop_decides now ixl signal = at_decides ixl.known_signals signal _ _ (known_signal_decides now)

pub occupied_decides : (table : Table) (ixl : IxlState) (section : ℕ) → Decides (is_occupied table ixl section) (IsOccupied table ixl section)
unfolding is_occupied
occupied_decides table ixl section =
    at_decides table.reporters section _ _ (λ reporter. at_decides ixl.detectors reporter.0 _ _
    (λ detector. both_decide (is_ready detector.client.stage) (contains detector.occupied reporter.1) _ _ (itself_decides _) (itself_decides _)))
