-- When a place follows another.
use Rattle.std.proofs.Common.{◌≡◌, ◌<◌, ℕ, zero, suc, true, length, List, [], ◌∷◌, Option, Some, None, refl, sym, ap, ◌∙◌, arith}
use Rattle.std.proofs.lemmas.Bool.{false≢true}
use Rattle.std.specs.Prelude.{slice_get}
use Rattle.std.specs.Option.{option_map}
use Rattle.control_table.specs.layout.declared.port.Port.{Port}
use Rattle.control_table.specs.layout.declared.entries.Signal.{Signal}
use Rattle.control_table.specs.layout.Entries.{Site}
use Rattle.control_table.specs.layout.Once.{Once}
use Rattle.control_table.specs.layout.declared.ids.SignalId.{SignalId}
use Rattle.control_table.specs.Topology.{Joined, StandsAt}
use Rattle.station_track.specs.declared.place.Place.{Place}
use Rattle.station_track.specs.Places.{place_at}
use Rattle.station_track.specs.Ports.{front, rear, beyond, is_same_port}
use Rattle.station_track.specs.Tracks.{track_of, front_of, rear_of, beyond_front, signal_before}
use Rattle.station_track.proofs.Members.{none-some}
use Rattle.station_track.proofs.Same.{port-decides}
use Rattle.station_track.proofs.Joints.{beyond-joined, joined-beyond, signal-stands, stands-signal}

-- A place follows another: what is joined to the front of the one is at the rear of the other.
pub record LeadsTo (l : Site) (a b : ℕ) : Type 0 where
  pub place : Place
  pub next : Place
  pub between : Port
  pub at : place_at l a ≡ Some place
  pub behind : place_at l b ≡ Some next
  pub joined : Joined l (front place) between
  pub entered : rear next ≡ Some between

pub leads-follows : (l : Site) → Once l → (a b : ℕ) → LeadsTo l a b → (track_of l).follows a b ≡ true
leads-follows l once a b h =
    ap (λ o. is_same_port (beyond_front l (front_of o)) (rear_of (place_at l b))) h.at
    ∙ ap (λ o. is_same_port (beyond l.joints (front h.place)) (rear_of o)) h.behind
    ∙ ap (λ o. is_same_port o (rear h.next)) (joined-beyond l once (front h.place) h.between h.joined)
    ∙ ap (λ o. is_same_port (Some h.between) o) h.entered
    ∙ (port-decides h.between h.between).1 refl

pub follows-leads : (l : Site) (a b : ℕ) → (track_of l).follows a b ≡ true → LeadsTo l a b
follows-leads l a b h = from (place_at l a) (place_at l b) refl refl h
  where
    to : (p q : Place) (o r : Option Port) → place_at l a ≡ Some p → place_at l b ≡ Some q → beyond l.joints (front p) ≡ o → rear q ≡ r → is_same_port o r ≡ true → LeadsTo l a b
    to p q (Some x) (Some y) at behind j e t =
        let same : x ≡ y = (port-decides x y).0 t in
        record { place = p; next = q; between = x; at = at; behind = behind; joined = beyond-joined l (front p) x j; entered = e ∙ ap Some (sym same) }
    to p q None r at behind j e t = absurd (false≢true t)
    to p q (Some x) None at behind j e t = absurd (false≢true t)

    none-before : (r : Option Port) → is_same_port None r ≡ true → ⊥
    none-before r t = false≢true t

    none-behind : (o : Option Port) → is_same_port o None ≡ true → ⊥
    none-behind None t = false≢true t
    none-behind (Some x) t = false≢true t

    from : (o r : Option Place) → place_at l a ≡ o → place_at l b ≡ r → is_same_port (beyond_front l (front_of o)) (rear_of r) ≡ true → LeadsTo l a b
    from (Some p) (Some q) at behind t = to p q (beyond l.joints (front p)) (rear q) at behind refl refl t
    from None r at behind t = absurd (none-before (rear_of r) t)
    from (Some p) None at behind t = absurd (none-behind (beyond l.joints (front p)) t)

-- the signal before a place stands at its front
pub signal-found : (l : Site) (a n : ℕ) → (track_of l).signal a ≡ Some n → (p : Place) × (place_at l a ≡ Some p) × StandsAt l (record { 0 = n }) (front p)
signal-found l a n h = from (place_at l a) refl h
  where
    from : (o : Option Place) → place_at l a ≡ o → signal_before l (front_of o) ≡ Some n → (p : Place) × (place_at l a ≡ Some p) × StandsAt l (record { 0 = n }) (front p)
    from None at h = absurd (none-some n h)
    from (Some p) at h = (p, at, signal-stands l (front p) n h)

pub signal-known : (l : Site) (a n : ℕ) → (track_of l).signal a ≡ Some n → n < length l.signals
signal-known l a n h = let f = signal-found l a n h in within l.signals n (front f.0) f.2
  where
    within : (signals : List Signal) (n : ℕ) (p : Port) → option_map (λ (s : Signal). s.at) (slice_get signals n) ≡ Some p → n < length signals
    within [] n p e = absurd (none-some p e)
    within (signal ∷ signals) zero p e = omega arith
    within (signal ∷ signals) (suc n) p e = let h = within signals n p e in omega (arith, h)

pub before-signal : (l : Site) → Once l → (a : ℕ) (p : Place) (s : SignalId) → place_at l a ≡ Some p → StandsAt l s (front p) → (track_of l).signal a ≡ Some s.0
before-signal l once a p s at h = ap (λ o. signal_before l (front_of o)) at ∙ stands-signal l once s (front p) h
