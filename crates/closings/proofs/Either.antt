-- What either of two closings closes, and what a track does.
use Rattle.std.proofs.Common.{◌≡◌, ◌⊎◌, ◌∙◌, ◌↔◌, ℕ, ◌||◌, Bool, true, false, IsTrue, refl, sym, inl, inr, ⊎_elim}
use Rattle.std.specs.Ordering.{nat_cmp}
use Rattle.std.specs.Cmp.{nat_cmp_total}
use Rattle.std.specs.FinSet.{contains, empty, contains-empty, contains-union}
use Rattle.std.proofs.lemmas.Bool.{false≢true}
use Rattle.control_table.specs.bit_row.Places.{Places}
use Rattle.control_table.specs.sci_telegram.declared.message.Side.TheVariants as side
use Rattle.closings.specs.declared.thing.Thing.{Thing}
use Rattle.closings.specs.declared.thing.Thing.TheVariants.{Section, Point, Signal, Route}
use Rattle.closings.specs.declared.closed.Closings.{Closings}
use Rattle.closings.specs.Things.{IsOfTrack}
use Rattle.closings.specs.Closed.{IsClosed, either, is_closed, track}

either_is : (c d : Closings) (t : Thing) → is_closed (either c d) t ≡ (is_closed c t || is_closed d t)
either_is c d (Section s) = contains-union nat_cmp_total c.sections d.sections s.0
either_is c d (Point p side.Left) = contains-union nat_cmp_total c.left d.left p.0
either_is c d (Point p side.Right) = contains-union nat_cmp_total c.right d.right p.0
either_is c d (Signal s) = contains-union nat_cmp_total c.signals d.signals s.0
either_is c d (Route r) = contains-union nat_cmp_total c.routes d.routes r.0

one_of : (a b : Bool) → (a || b) ≡ true → (a ≡ true) ⊎ (b ≡ true)
one_of true b e = inl refl
one_of false b e = inr e

of_one : (a b : Bool) → (a ≡ true) ⊎ (b ≡ true) → (a || b) ≡ true
of_one true b h = refl
of_one false b h = ⊎_elim (λ e. absurd (false≢true e)) (λ e. e) h

pub either_closed : (c d : Closings) (t : Thing) → IsClosed (either c d) t ↔ (IsClosed c t ⊎ IsClosed d t)
either_closed c d t =
    (λ h. one_of (is_closed c t) (is_closed d t) (sym (either_is c d t) ∙ h), λ h. either_is c d t ∙ of_one (is_closed c t) (is_closed d t) h)

none : (k : ℕ) → IsTrue (contains (empty {R = nat_cmp}) k) → ⊥
none k h = false≢true (sym (contains-empty nat_cmp k) ∙ h)

pub track_has : (sections points : Places) (t : Thing) → IsClosed (track sections points) t ↔ IsOfTrack sections points t
track_has sections points (Section s) = (λ h. h, λ h. h)
track_has sections points (Point p side.Left) = (λ h. h, λ h. h)
track_has sections points (Point p side.Right) = (λ h. h, λ h. h)
track_has sections points (Signal s) = (none s.0, λ h. absurd h)
track_has sections points (Route r) = (none r.0, λ h. absurd h)
