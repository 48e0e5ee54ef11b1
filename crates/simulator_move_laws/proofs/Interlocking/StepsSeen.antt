-- The machine sees the interlocking after a step, and after what controllers do.
use Rattle.std.proofs.Common.{◌≡◌, ℕ, true, List, length, refl, sym, ap, subst, ◌∙◌}
use Rattle.std.specs.Prelude.{Option, Some, None, slice_get}
use Rattle.ixl_spec.specs.ixl_client.ClientSoFar.{LinkCall}
use Rattle.ixl_spec.specs.StepSoFar.{StepSoFar, Point, Signal}
use Rattle.ixl_spec.specs.State.{IxlState, KnownSignalState, KnownPointState}
use Rattle.ixl_spec.specs.Step.{Input}
use Rattle.ixl_spec.specs.View.{is_holding}
use Rattle.simulator_machine.specs.Lists.{last_of}
use Rattle.simulator_machine.specs.Machine.{Machine}
use Rattle.simulator_machine.specs.Point.{Point as MachinePoint, Position}
use Rattle.simulator_machine.specs.Signal.{Signal as MachineSignal}
use Rattle.simulator_machine.specs.Table.{Table}
use Rattle.simulator_move_laws.specs.Behind.{Behind, KnownSignalIsBehind, KnownPointIsBehind, given_behind, known_signal_items, known_point_items}
use Rattle.simulator_move_laws.specs.Calls.{Items, calls_at}
use Rattle.simulator_move_laws.specs.Onward.{LooksAlike, PointLooksAlike, SignalLooksAlike}
use Rattle.simulator_move_laws.specs.Sees.{Given, IsClosedSince, Sees, SeesPoint, SeesSignal}
use Rattle.simulator_move_laws.specs.Telegrams.{AreHeard}

module _ (now : ℕ) (input : Input) (table : Table) (ixl : IxlState) (given : Given) (machine : Machine) (later : IxlState) (created : later.created ≡ ixl.created) where
  holds_there : is_holding now later ≡ true → is_holding now ixl ≡ true
  holds_there holds = ap (λ created. is_holding now (record ixl { created = created })) (sym created) ∙ holds

  known_signal_seen : (first : Option KnownSignalState) (items : Items) (calls : List LinkCall) (known_signal : Option KnownSignalState) (old new : MachineSignal) → SeesSignal now ixl first items old →
      KnownSignalIsBehind now input table ixl given machine first items calls known_signal old new → SeesSignal now later known_signal (known_signal_items now calls first items) new
  known_signal_seen None items calls None old new sees is = ap (λ (s : MachineSignal). s.link.server) is ∙ sees
  known_signal_seen None items calls (Some known_signal) old new sees is = absurd is
  known_signal_seen (Some first) items calls None old new sees is = absurd is
  known_signal_seen (Some first) items calls (Some known_signal) old new sees is =
      record { fits = is.fits; held = λ holds. subst (λ c. IsClosedSince c known_signal.client.link) (sym created) (is.held (holds_there holds)) }

  known_point_seen : (first : Option KnownPointState) (items : Items) (calls : List LinkCall) (known_point : Option KnownPointState) (old new : MachinePoint) → SeesPoint now ixl first items old →
      KnownPointIsBehind now input table ixl given machine first items calls known_point old new → SeesPoint now later known_point (known_point_items now calls first items) new
  known_point_seen None items calls None old new sees is = tt
  known_point_seen None items calls (Some known_point) old new sees is = absurd is
  known_point_seen (Some first) items calls None old new sees is = absurd is
  known_point_seen (Some first) items calls (Some known_point) old new sees is =
      record { fits = is.fits; held = λ holds. subst (λ c. IsClosedSince c known_point.client.link) (sym created) (is.held (holds_there holds)) }

pub sees_behind : (now : ℕ) (input : Input) (table : Table) (ixl : IxlState) (given : Given) (machine : Machine) (part : StepSoFar) (new : Machine) → Sees now ixl given machine →
    Behind now input table ixl given machine part new → Sees now part.ixl (given_behind now ixl part.calls given) new
sees_behind now input table ixl given machine part new sees behind = record {
  signals = λ place. known_signal_seen now input table ixl given machine part.ixl behind.created (slice_get ixl.known_signals place) (given.signals place) (calls_at (Signal place) part.calls) (slice_get part.ixl.known_signals place)
      (machine.signals place) (new.signals place) (sees.signals place) (behind.signals place);
  points = λ place. known_point_seen now input table ixl given machine part.ixl behind.created (slice_get ixl.known_points place) (given.points place) (calls_at (Point place) part.calls) (slice_get part.ixl.known_points place)
      (machine.points place) (new.points place) (sees.points place) (behind.points place);
  routes = behind.routes;
  holding = behind.holding ∙ ap (λ created. is_holding now (record ixl { created = created })) (sym behind.created);
}

-- ---- what controllers do

module _ (now : ℕ) (ixl : IxlState) where
  known_signal_alike : (known_signal : Option KnownSignalState) (items : Items) (old new : MachineSignal) → SeesSignal now ixl known_signal items old → SignalLooksAlike old new →
      (known_signal ≡ None → SeesSignal now ixl None items old → SeesSignal now ixl None items new) → SeesSignal now ixl known_signal items new
  known_signal_alike None items old new sees alike unknown = unknown refl sees
  known_signal_alike (Some known_signal) items old new sees alike unknown = record {
    fits = record {
      commands = sees.fits.commands;
      client = sees.fits.client;
      place = alike.client ∙ sees.fits.place;
      aspects = λ inside. alike.aspects ∙ sees.fits.aspects inside;
      last = sees.fits.last;
      confirmed = λ up. alike.confirmed ∙ sees.fits.confirmed (sym alike.client ∙ up);
    };
    held = sees.held;
  }

  known_point_alike : (known_point : Option KnownPointState) (items : Items) (old new : MachinePoint) → SeesPoint now ixl known_point items old → PointLooksAlike old new → SeesPoint now ixl known_point items new
  known_point_alike None items old new sees alike = tt
  known_point_alike (Some known_point) items old new sees alike = record {
    fits = record {
      commands = sees.fits.commands;
      client = sees.fits.client;
      peer = sees.fits.peer;
      place = alike.client ∙ sees.fits.place;
      moves = λ inside. alike.moves ∙ sees.fits.moves inside;
      told = λ inside. alike.heard ∙ sees.fits.told inside;
      heard = λ inside. subst (λ (list : List Position). AreHeard known_point.client.stage (length list) (length sees.fits.commands)) (sym alike.heard) (sees.fits.heard inside);
      last = λ inside. ap (last_of None) alike.heard ∙ sees.fits.last inside;
    };
    held = sees.held;
  }

pub alike_sees : (now : ℕ) (ixl : IxlState) (given : Given) (old new : Machine) → Sees now ixl given old → LooksAlike ixl old new → Sees now ixl given new
alike_sees now ixl given old new sees alike = record {
  signals = λ place. known_signal_alike now ixl (slice_get ixl.known_signals place) (given.signals place) (old.signals place) (new.signals place) (sees.signals place) (alike.signals place) (λ none gone. alike.unknown place none gone);
  points = λ place. known_point_alike now ixl (slice_get ixl.known_points place) (given.points place) (old.points place) (new.points place) (sees.points place) (alike.points place);
  routes = λ number. ap (λ routes. routes number) alike.routes ∙ sees.routes number;
  holding = alike.holding ∙ sees.holding;
}
