-- The invariant is kept where no train moves, and no route holds more or less.
use Rattle.std.proofs.Common.{◌≡◌, ℕ, ◌≤◌, ◌+◌, ◌⊎◌, inl, inr, true, false, List, Some, sym, ◌∙◌, arith}
use Rattle.std.specs.Prelude.{◌≢◌}
use Rattle.train_machine.specs.Track.{Track}
use Rattle.train_machine.specs.Train.{Under, Nothing, Throat, OnRoute}
use Rattle.train_machine.specs.Section.{Clear, Came, Gone, Section, is_unheard}
use Rattle.train_machine.specs.Route.{Route, is_given}
use Rattle.train_machine.specs.Machine.{report_time, Point, Pass, Machine, IsIn, IsOn}
use Rattle.train_machine.specs.Promise.{StandsAt}
use Rattle.train_machine.specs.Invariant.{IsRouteSound, IsHeldBy, IsAccounted, IsClaimed, IsOnWay, HoldsPoint, IsUnder, Invariant}

abbrev pub carried : Machine → (ℕ → Section) → (ℕ → Route) → (ℕ → Point) → (ℕ → Pass) → (now clock : ℕ) → Machine
carried machine sections routes points passes now clock =
    record { trains = machine.trains; sections = sections; routes = routes; points = points; passes = passes; now = now; clock = clock }

-- What is to be shown where all but the trains changes.
pub record Carries (track : Track) (machine : Machine) (sections : ℕ → Section) (routes : ℕ → Route) (points : ℕ → Point) (passes : ℕ → Pass) (now clock : ℕ) : Type 0 where
  pub sound : (route : ℕ) → IsRouteSound track sections points passes now route (routes route)
  pub given : (route : ℕ) → is_given (routes route).phase ≡ is_given (machine.routes route).phase
  pub holds : (route section : ℕ) → (routes route).holds section ≡ (machine.routes route).holds section
  pub owner : (route : ℕ) → (routes route).owner ≡ (machine.routes route).owner
  pub entered : (section : ℕ) → (sections section).entered ≡ (machine.sections section).entered
  pub inlet : (section : ℕ) → (sections section).inlet ≡ (machine.sections section).inlet
  pub gone : (section : ℕ) → (sections section).told ≡ Gone → (train : ℕ) → IsIn track machine train section → ⊥
  pub came : (section : ℕ) → (sections section).told ≡ Came → (sections section).belief ≢ Clear
  pub unheard : (section : ℕ) → is_unheard (sections section).told ≡ true → is_unheard (machine.sections section).told ≡ true
  pub ahead : (route section : ℕ) → (machine.sections section).told ≡ Gone → (machine.routes route).seen section ≡ false
      → ((sections section).told ≡ Gone) × ((routes route).seen section ≡ false)
  pub stands : (train place point : ℕ) → IsOn machine train place → track.point place ≡ Some point → StandsAt (track.leg place) (points point)
  pub runs : machine.clock ≤ clock

module _ (track : Track) (machine : Machine) (kept : Invariant track machine) (sections : ℕ → Section) (routes : ℕ → Route) (points : ℕ → Point)
    (passes : ℕ → Pass) (now clock : ℕ) (carries : Carries track machine sections routes points passes now clock) where
  held : (section route : ℕ) → IsHeldBy machine section route → IsHeldBy (carried machine sections routes points passes now clock) section route
  held section route old = record { given = carries.given route ∙ old.given; holds = carries.holds route section ∙ old.holds }

  was_held : (section route : ℕ) → IsHeldBy (carried machine sections routes points passes now clock) section route → IsHeldBy machine section route
  was_held section route new = record { given = sym (carries.given route) ∙ new.given; holds = sym (carries.holds route section) ∙ new.holds }

  past : (section : ℕ) → (machine.sections section).entered + report_time ≤ machine.clock → (sections section).entered + report_time ≤ clock
  past section old = let same = carries.entered section in let later = carries.runs in omega (arith, same, later, old)

  behind : (section : ℕ) → is_unheard (sections section).told ≡ true → IsAccounted (carried machine sections routes points passes now clock) section
  behind section unheard = go (kept.behind section (carries.unheard section unheard))
    where
      go : IsAccounted machine section → IsAccounted (carried machine sections routes points passes now clock) section
      go (inl old) = inl (old.0, held section old.0 old.1)
      go (inr (inl inlet)) = inr (inl (carries.inlet section ∙ inlet))
      go (inr (inr old)) = inr (inr (past section old))

  claim : (train front route place : ℕ) → IsClaimed track machine train front route place
      → IsClaimed track (carried machine sections routes points passes now clock) train front route place
  claim train front route place old = record {
    given = carries.given route ∙ old.given;
    holds = carries.holds route (track.section place) ∙ old.holds;
    owner = carries.owner route ∙ old.owner;
    ahead = go old.ahead;
  }
    where
      go : (track.section place ≡ track.section front) ⊎ (((machine.sections (track.section place)).told ≡ Gone) × ((machine.routes route).seen (track.section place) ≡ false))
          → (track.section place ≡ track.section front) ⊎ (((sections (track.section place)).told ≡ Gone) × ((routes route).seen (track.section place) ≡ false))
      go (inl same) = inl same
      go (inr told) = inr (carries.ahead route (track.section place) told.0 told.1)

  on_way : (train front : ℕ) (under : Under) (way : List ℕ) → IsOnWay track machine train front under way
      → IsOnWay track (carried machine sections routes points passes now clock) train front under way
  on_way train front Nothing way on = tt
  on_way train front (Throat border) way on = record {
    ends = on.ends;
    claims = λ place of. let old = on.claims place of in record {
      unheld = λ route holds. old.unheld route (sym (carries.holds route (track.section place)) ∙ holds);
      empty = old.empty;
      unclaimed = old.unclaimed;
    };
  }
  on_way train front (OnRoute route) way on = record { ends = on.ends; claims = λ place of. claim train front route place (on.claims place of) }

  under : (train place point : ℕ) → IsOn machine train place → track.point place ≡ Some point
      → IsUnder track (carried machine sections routes points passes now clock) place point
  under train place point on over = record { stands = carries.stands train place point on over; guarded = go (kept.under train place point on over).guarded }
    where
      go : ((route : ℕ) × HoldsPoint track machine point route) ⊎ ((machine.sections (track.section place)).entered + report_time ≤ machine.clock)
          → ((route : ℕ) × HoldsPoint track (carried machine sections routes points passes now clock) point route) ⊎ ((sections (track.section place)).entered + report_time ≤ clock)
      go (inl old) = inl (
        old.0,
        record {
          place = old.1.place;
          given = carries.given old.0 ∙ old.1.given;
          on_path = old.1.on_path;
          over = old.1.over;
          holds = carries.holds old.0 (track.section old.1.place) ∙ old.1.holds;
        },
      )
      go (inr old) = inr (past (track.section place) old)

  pub carried_kept : Invariant track (carried machine sections routes points passes now clock)
  carried_kept = record {
    routes = carries.sound;
    locks = λ a b section holds_a holds_b. kept.locks a b section (sym (carries.holds a section) ∙ holds_a) (sym (carries.holds b section) ∙ holds_b);
    gone = carries.gone;
    came = carries.came;
    past = λ section. let same = carries.entered section in let later = carries.runs in let old = kept.past section in omega (arith, same, later, old);
    behind = behind;
    alone = kept.alone;
    own = λ train section route new inside. carries.owner route ∙ kept.own train section route (was_held section route new) inside;
    ways = λ train front rear stands. on_way train front (machine.trains train).under (machine.trains train).way (kept.ways train front rear stands);
    under = under;
  }
