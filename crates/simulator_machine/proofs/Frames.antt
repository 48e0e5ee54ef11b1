-- The invariant is kept where one signal, one point or one route changes.
use Rattle.std.proofs.Common.{◌≡◌, ℕ, Bool, true, false, refl, sym, ap, ◌∙◌}
use Rattle.std.specs.Prelude.{◌≢◌, if◌then◌else◌}
use Rattle.simulator_machine.specs.Lists.{changed_at}
use Rattle.simulator_machine.specs.Signal.{Aspect, Signal, IsLive}
use Rattle.simulator_machine.specs.Point.{Side, Point}
use Rattle.simulator_machine.specs.Table.{Table, IsSound}
use Rattle.simulator_machine.specs.Route.{Phase, Free, Waiting, Authorised, Ended, has_authority, is_whole}
use Rattle.simulator_machine.specs.Machine.{Machine, is_held, with_signal, with_point, with_route}
use Rattle.simulator_machine.specs.Invariant.{IsSignalSound, IsPointSound, IsSettled, IsBacked, Invariant}
use Rattle.simulator_machine.proofs.Lists.{at_each}

pub held_holding : (machine : Machine) (route : ℕ) → machine.holding ≡ true → is_held machine route ≡ machine.frozen route
held_holding machine route e = ap (λ (test : Bool). if test then machine.frozen route else has_authority (machine.routes route)) e

pub held_resumed : (machine : Machine) (route : ℕ) → machine.holding ≡ false → is_held machine route ≡ has_authority (machine.routes route)
held_resumed machine route e = ap (λ (test : Bool). if test then machine.frozen route else has_authority (machine.routes route)) e

pub authority_whole : (phase : Phase) → has_authority phase ≡ true → is_whole phase ≡ true
authority_whole Free e = absurd (cc (e))
authority_whole Waiting e = refl
authority_whole Authorised e = refl
authority_whole (Ended whole) e = absurd (cc (e))

module _ (table : Table) (machine : Machine) (kept : Invariant table machine) where
  pub signal_frame : (place : ℕ) (signal : Signal) → IsSignalSound signal → ((aspect : Aspect) → IsLive aspect signal → IsBacked table machine place aspect)
      → Invariant table (with_signal place signal machine)
  signal_frame place signal sound backed = record {
    signals = at_each (λ n s. IsSignalSound s) place signal machine.signals sound (λ n other. kept.signals n);
    points = kept.points;
    unset = kept.unset;
    set_apart = kept.set_apart;
    frozen_apart = kept.frozen_apart;
    backed = at_each (λ n s. (aspect : Aspect) → IsLive aspect s → IsBacked table machine n aspect) place signal machine.signals backed (λ n other. kept.backed n);
    settled = kept.settled;
  }

  pub point_frame : (place : ℕ) (point : Point) → IsPointSound point
      → ((route : ℕ) (side : Side) → is_held machine route ≡ true → table.requires route place side ≡ true → IsSettled side point)
      → Invariant table (with_point place point machine)
  point_frame place point sound settled = record {
    signals = kept.signals;
    points = at_each (λ n p. IsPointSound p) place point machine.points sound (λ n other. kept.points n);
    unset = kept.unset;
    set_apart = kept.set_apart;
    frozen_apart = kept.frozen_apart;
    backed = kept.backed;
    settled = λ route n side held required.
        at_each (λ m p. table.requires route m side ≡ true → IsSettled side p) place point machine.points (settled route side held)
        (λ m other. kept.settled route m side held) n required;
  }

  -- a route that has no authority and is held all the same is frozen
  frozen_kept : (place : ℕ) (phase : Phase) (route : ℕ) → machine.holding ≡ true → is_held (with_route place phase machine) route ≡ is_held machine route
  frozen_kept place phase route e = held_holding (with_route place phase machine) route e ∙ sym (held_holding machine route e)

  -- another route is held as before
  pub held_elsewhere : (place : ℕ) (phase : Phase) (route : ℕ) → route ≢ place → is_held machine route ≡ true → is_held (with_route place phase machine) route ≡ true
  held_elsewhere place phase route other held = go machine.holding refl
    where
      go : (test : Bool) → machine.holding ≡ test → is_held (with_route place phase machine) route ≡ true
      go true e = frozen_kept place phase route e ∙ held
      go false e =
          held_resumed (with_route place phase machine) route e
          ∙ at_each (λ n p. n ≢ place → has_authority (machine.routes n) ≡ true → has_authority p ≡ true) place phase machine.routes
          (λ differs. absurd (differs refl)) (λ n differs same authority. authority) route other (sym (held_resumed machine route e) ∙ held)

  -- so is each, where the route that changes had no authority
  pub held_still : (place : ℕ) (phase : Phase) (route : ℕ) → has_authority (machine.routes place) ≡ false → is_held machine route ≡ true
      → is_held (with_route place phase machine) route ≡ true
  held_still place phase route none held = go machine.holding refl
    where
      go : (test : Bool) → machine.holding ≡ test → is_held (with_route place phase machine) route ≡ true
      go true e = frozen_kept place phase route e ∙ held
      go false e =
          held_resumed (with_route place phase machine) route e
          ∙ at_each (λ n p. has_authority (machine.routes n) ≡ true → has_authority p ≡ true) place phase machine.routes
          (λ authority. absurd (cc (authority, none))) (λ n differs authority. authority) route (sym (held_resumed machine route e) ∙ held)

  pub route_frame : IsSound table → (place : ℕ) (phase : Phase) → (machine.holding ≡ true → phase ≡ Free)
      → ((other : ℕ) → other ≢ place → is_whole phase ≡ true → is_whole (machine.routes other) ≡ true → table.conflict place other ≡ true → ⊥)
      → (has_authority phase ≡ true → (point : ℕ) (side : Side) → table.requires place point side ≡ true → IsSettled side (machine.points point))
      → ((signal : ℕ) (aspect : Aspect) → IsLive aspect (machine.signals signal) → IsBacked table (with_route place phase machine) signal aspect)
      → Invariant table (with_route place phase machine)
  route_frame sound place phase unset apart settled backed = record {
    signals = kept.signals;
    points = kept.points;
    unset = λ holding. at_each (λ n p. p ≡ Free) place phase machine.routes (unset holding) (λ n other. kept.unset holding n);
    set_apart = set_apart;
    frozen_apart = kept.frozen_apart;
    backed = backed;
    settled = λ route point side held. settled_at route point side machine.holding refl held;
  }
    where
      set_apart : (a b : ℕ) → a ≢ b → is_whole (changed_at place phase machine.routes a) ≡ true → is_whole (changed_at place phase machine.routes b) ≡ true
          → table.conflict a b ≡ true → ⊥
      set_apart a b =
          at_each (λ n p. n ≢ b → is_whole p ≡ true → is_whole (changed_at place phase machine.routes b) ≡ true → table.conflict n b ≡ true → ⊥) place phase machine.routes
          (at_each (λ m p. place ≢ m → is_whole phase ≡ true → is_whole p ≡ true → table.conflict place m ≡ true → ⊥) place phase machine.routes
          (λ differs. absurd (differs refl)) (λ m other differs whole whole_m. apart m other whole whole_m) b)
          (λ n other. at_each (λ m p. n ≢ m → is_whole (machine.routes n) ≡ true → is_whole p ≡ true → table.conflict n m ≡ true → ⊥) place phase machine.routes
          (λ differs whole_n whole conflict. apart n other whole whole_n (sound.both_ways n place conflict))
          (λ m differs. kept.set_apart n m) b) a

      settled_at : (route point : ℕ) (side : Side) (test : Bool) → machine.holding ≡ test → is_held (with_route place phase machine) route ≡ true
          → table.requires route point side ≡ true → IsSettled side (machine.points point)
      settled_at route point side true e held = kept.settled route point side (sym (frozen_kept place phase route e) ∙ held)
      settled_at route point side false e held =
          at_each (λ n p. has_authority p ≡ true → table.requires n point side ≡ true → IsSettled side (machine.points point)) place phase machine.routes
          (λ authority. settled authority point side)
          (λ n other authority. kept.settled n point side (held_resumed machine n e ∙ authority)) route (sym (held_resumed (with_route place phase machine) route e) ∙ held)
