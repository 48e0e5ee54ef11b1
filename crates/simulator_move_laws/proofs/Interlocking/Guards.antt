-- What the tests of the rules tell the machine.
use Rattle.std.proofs.Common.{inl, inr, ◌≡◌, ℕ, zero, suc, ◌+◌, ◌<◌, ◌≤◌, Bool, true, false, not, if◌then◌else◌, List, [], ◌∷◌, length, refl, sym, ap, subst, ◌∙◌, arith}
use Rattle.std.specs.Prelude.{◌&&◌, ◌||◌, ◌-◌, nat_le, nat_lt, min, Option, Some, None, slice_get}
use Rattle.std.specs.List.{list_all, list_any}
use Rattle.std.proofs.lemmas.Bool.{true≢false, false≢true, leb-true, ltb-true}
use Rattle.std.proofs.lemmas.Option.{same_Some}
use Rattle.ixl_spec.specs.sci_telegram.declared.message.Aspect.{Aspect as TelegramAspect}
use Rattle.ixl_spec.specs.sci_telegram.declared.message.Aspect.TheVariants as aspects
use Rattle.ixl_spec.specs.sci_telegram.declared.message.Side.{Side as TelegramSide}
use Rattle.ixl_spec.specs.sci_telegram.declared.message.Side.TheVariants as sides
use Rattle.ixl_spec.specs.rasta_core.Clock.{alive_until, deadline, quiet_until, state_at}
use Rattle.ixl_spec.specs.rasta_core.Parameters.{greatest, quiet_time}
use Rattle.ixl_spec.specs.rasta_core.State.{LinkState, confirmed_items, is_open, is_up}
use Rattle.ixl_spec.specs.ixl_client.Client.{is_available, is_outside}
use Rattle.ixl_spec.specs.ixl_client.declared.command.Command.{Command}
use Rattle.ixl_spec.specs.ixl_client.declared.stage.Stage.{Stage}
use Rattle.ixl_spec.specs.ixl_client.declared.stage.Stage.TheVariants as stage
use Rattle.ixl_spec.specs.Table.{Row, at, passes}
use Rattle.ixl_spec.specs.State.{KnownSignalState, RouteState, KnownPointState}
use Rattle.ixl_spec.specs.View.{has_taken_stop, is_known_signal_at_stop, is_side, some_route}
use Rattle.simulator_machine.specs.Lists.{last_of}
use Rattle.simulator_machine.specs.Link.{Down, Up}
use Rattle.simulator_machine.specs.Signal.{HasStopConfirmed, IsAtKnownStop, Signal, Stop, aspects_given}
use Rattle.simulator_machine.specs.Point.{IsKnownAt, Point, Side, Left, Right}
use Rattle.simulator_move_laws.specs.Calls.{Items}
use Rattle.simulator_move_laws.specs.Link.{client_at, is_inside}
use Rattle.simulator_move_laws.specs.Nodes.{IsLastGiven, KnownSignalFits, KnownPointFits, openings}
use Rattle.simulator_move_laws.specs.Rows.{is_side_seen}
use Rattle.simulator_move_laws.specs.Telegrams.{AreHeard, aspect_of, aspects_of, position_seen, side_seen}
use Rattle.simulator_move_laws.proofs.Interlocking.Phases.{up_is_open}
use Rattle.simulator_move_laws.proofs.Interlocking.Tests.{both_true}
use Rattle.simulator_move_laws.proofs.Interlocking.Places.{inside_up}
use Rattle.simulator_move_laws.proofs.Interlocking.Nodes.{length_same}

-- what passes a test at a place is there
pub at_true : {A : Type 0} (list : List A) (place : ℕ) (test : A → Bool) → at list place test ≡ true → (one : A) × (slice_get list place ≡ Some one) × (test one ≡ true)
unfolding at
at_true {A} list place test is = cases (slice_get list place) refl is where
  cases : (one : Option A) → slice_get list place ≡ one → passes test one ≡ true → (one : A) × (slice_get list place ≡ Some one) × (test one ≡ true)
  cases None e passed = absurd (false≢true passed)
  cases (Some one) e passed = (one, e, passed)

-- one that passes the first test of a list that passes the second throughout
pub any_of_all : {A : Type 0} (some all : A → Bool) (list : List A) → list_any some list ≡ true → list_all all list ≡ true → (one : A) × (some one ≡ true) × (all one ≡ true)
any_of_all some all [] any every = absurd (false≢true any)
any_of_all {A} some all (first ∷ others) any every = cases (some first) refl (λ rest. any_of_all some all others rest (both_true (all first) (list_all all others) every).1) where
  cases : (b : Bool) → some first ≡ b → (list_any some others ≡ true → (one : A) × (some one ≡ true) × (all one ≡ true)) → (one : A) × (some one ≡ true) × (all one ≡ true)
  cases true e on = (first, e, (both_true (all first) (list_all all others) every).0)
  cases false e on = on (rest_any (some first) (list_any some others) e any) where
    rest_any : (a b : Bool) → a ≡ false → a || b ≡ true → b ≡ true
    rest_any true b none is = absurd (true≢false none)
    rest_any false b none is = is

pub or_left : (a b : Bool) → a ≡ true → a || b ≡ true
or_left true b is = refl
or_left false b is = absurd (false≢true is)

pub or_right : (a b : Bool) → b ≡ true → a || b ≡ true
or_right true b is = refl
or_right false b is = is

or_other : (a b : Bool) → a ≡ false → a || b ≡ true → b ≡ true
or_other true b none is = absurd (true≢false none)
or_other false b none is = is

-- what follows from both tests of one
pub all_shown : {A : Type 0} (some all other : A → Bool) (list : List A) → ((one : A) → some one ≡ true → all one ≡ true → other one ≡ true) → list_all all list ≡ true → list_any some list ≡ true → list_any other list ≡ true
all_shown some all other [] each every is = absurd (false≢true is)
all_shown some all other (first ∷ others) each every is = cases (some first) refl (all_shown some all other others each (both_true (all first) (list_all all others) every).1) where
  cases : (b : Bool) → some first ≡ b → (list_any some others ≡ true → list_any other others ≡ true) → list_any other (first ∷ others) ≡ true
  cases true e on = or_left (other first) (list_any other others) (each first e (both_true (all first) (list_all all others) every).0)
  cases false e on = or_right (other first) (list_any other others) (on (or_other (some first) (list_any some others) e is))

pub is_ready_where_available : (s : Stage) → is_available s ≡ true → s ≡ stage.Completed
is_ready_where_available stage.Outside is = absurd (false≢true is)
is_ready_where_available stage.AwaitsAnswer is = absurd (false≢true is)
is_ready_where_available stage.AwaitsStart is = absurd (false≢true is)
is_ready_where_available (stage.AwaitsStatus left) is = absurd (false≢true is)
is_ready_where_available stage.Completed is = refl
is_ready_where_available stage.AwaitsReport is = absurd (false≢true is)

-- a client that isn't outside is up
pub up_where_inside : (outside up : Bool) → outside ≡ not up → outside ≡ false → up ≡ true
up_where_inside outside true is inside = refl
up_where_inside outside false is inside = absurd (true≢false (sym is ∙ inside))

-- ---- known stop

arithmetic : (n d now g q : ℕ) → min (min d g + q) g ≤ now → now < g → d + q ≤ now
arithmetic n d now g q until clock = omega (arith, until, clock)

quiet_over : (now : ℕ) (link : LinkState) → now < greatest → quiet_until link ≤ now → deadline link + quiet_time ≤ now
unfolding quiet_until alive_until
quiet_over now link clock until = arithmetic 0 (deadline link) now greatest quiet_time until clock

-- an end whose quiet time is over is down
down_where_quiet : (now : ℕ) (link : LinkState) → now < greatest → quiet_until link ≤ now → client_at now link ≡ Down
unfolding state_at
down_where_quiet now link clock until = shut (is_open link.phase && nat_lt now (deadline link)) refl (nat_lt now (deadline link + quiet_time)) refl where
  over : deadline link + quiet_time ≤ now
  over = quiet_over now link clock until

  shut : (a : Bool) → (is_open link.phase && nat_lt now (deadline link)) ≡ a → (b : Bool) → nat_lt now (deadline link + quiet_time) ≡ b → client_at now link ≡ Down
  shut true e b f = absurd (late (both_true (is_open link.phase) (nat_lt now (deadline link)) e).1) where
    late : nat_lt now (deadline link) ≡ true → ⊥
    late is = omega (arith, over, ltb-true now (deadline link) is)
  shut false e true f = absurd (late f) where
    late : nat_lt now (deadline link + quiet_time) ≡ true → ⊥
    late is = omega (arith, over, ltb-true now (deadline link + quiet_time) is)
  shut false e false f = rw e (rw f refl)

taken_stop : (aspect : Option TelegramAspect) (number confirmed : ℕ) (commands : List Command) → has_taken_stop aspect number confirmed ≡ true → IsLastGiven aspect number commands →
    (last_of Stop (aspects_of commands) ≡ Stop) × (length (aspects_of commands) ≤ confirmed - openings)
taken_stop None number confirmed commands is none = (ap (λ given. last_of Stop (aspects_of given)) none, subst (λ given. length (aspects_of given) ≤ confirmed - openings) (sym none) (omega arith))
taken_stop (Some aspects.Stop) number confirmed commands is last = (last.0, few number confirmed (length commands) (length (aspects_of commands)) (leb-true number confirmed is) last.1 (length_same aspect_of commands)) where
  few : (n c k l : ℕ) → n ≤ c → n ≡ k + openings → l ≡ k → l ≤ c - openings
  few n c k l le e f = omega (arith, le, e, f)
taken_stop (Some aspects.Proceed) number confirmed commands is last = absurd (false≢true is)
taken_stop (Some aspects.Slow) number confirmed commands is last = absurd (false≢true is)

-- a lamp at known stop is a signal at known stop
pub known_signal_at_stop : (now : ℕ) (known_signal : KnownSignalState) (items : Items) (signal : Signal) → now < greatest → KnownSignalFits now known_signal items signal → (is_open known_signal.client.link.phase ≡ true → is_inside now known_signal.client.link ≡ true) →
    is_known_signal_at_stop now known_signal ≡ true → IsAtKnownStop signal × (is_up known_signal.client.link.phase ≡ true → HasStopConfirmed signal)
known_signal_at_stop now known_signal items signal clock fits alive is = cases (is_up known_signal.client.link.phase) refl is where
  cases : (b : Bool) → is_up known_signal.client.link.phase ≡ b →
      (if b then has_taken_stop known_signal.aspect known_signal.number (confirmed_items known_signal.client.link) else nat_le (quiet_until known_signal.client.link) now) ≡ true →
      IsAtKnownStop signal × (is_up known_signal.client.link.phase ≡ true → HasStopConfirmed signal)
  cases true up taken = (inl confirmed, λ e. confirmed) where
    inside : is_inside now known_signal.client.link ≡ true
    inside = alive (up_is_open known_signal.client.link.phase up)

    at : signal.link.client ≡ Up
    at = fits.place ∙ inside_up now known_signal.client.link inside up

    stop : (last_of Stop (aspects_of fits.commands) ≡ Stop) × (length (aspects_of fits.commands) ≤ confirmed_items known_signal.client.link - openings)
    stop = taken_stop known_signal.aspect known_signal.number (confirmed_items known_signal.client.link) fits.commands taken (fits.last inside)

    confirmed : HasStopConfirmed signal
    confirmed = record {
      up = at;
      stop = ap (last_of Stop) (fits.aspects inside) ∙ stop.0;
      confirmed = subst (λ n. length (aspects_given signal) ≤ n) (sym (fits.confirmed at)) (subst (λ list. length list ≤ confirmed_items known_signal.client.link - openings) (sym (fits.aspects inside)) stop.1);
    }
  cases false down quiet = (inr (fits.place ∙ down_where_quiet now known_signal.client.link clock (leb-true (quiet_until known_signal.client.link) now quiet)), λ e. absurd (true≢false (sym e ∙ down)))

-- ---- a point that is known

side_is : (side : TelegramSide) (told : Option TelegramSide) → is_side side told ≡ true → told ≡ Some side
side_is side None is = absurd (false≢true is)
side_is sides.Right (Some sides.Right) is = refl
side_is sides.Right (Some sides.Left) is = absurd (false≢true is)
side_is sides.Left (Some sides.Right) is = absurd (false≢true is)
side_is sides.Left (Some sides.Left) is = refl

pub seen_side_is : (one other : Side) → is_side_seen one other ≡ true → one ≡ other
seen_side_is Left Left is = refl
seen_side_is Left Right is = absurd (false≢true is)
seen_side_is Right Left is = absurd (false≢true is)
seen_side_is Right Right is = refl

pub known_point_known : (now : ℕ) (known_point : KnownPointState) (items : Items) (point : Point) (side : TelegramSide) → KnownPointFits now known_point items point → (is_open known_point.client.link.phase ≡ true → is_inside now known_point.client.link ≡ true) →
    is_available known_point.client.stage && is_side side known_point.side ≡ true → IsKnownAt (side_seen side) point
known_point_known now known_point items point side fits alive is =
    let both = both_true (is_available known_point.client.stage) (is_side side known_point.side) is
    in let completed = is_ready_where_available known_point.client.stage both.0
    in let up = up_where_inside (is_outside known_point.client.stage) (is_up known_point.client.link.phase) fits.client.steady.outside (ap is_outside completed)
    in let inside = alive (up_is_open known_point.client.link.phase up)
    in record {
      up = fits.place ∙ inside_up now known_point.client.link inside up;
      answered = subst (λ s. AreHeard s (length point.heard) (length fits.commands)) completed (fits.heard inside) ∙ ap (λ n. n + 1) (sym (fits.moves inside));
      last = fits.last inside ∙ ap position_seen (side_is side known_point.side both.1);
    }

-- ---- a route that holds a point

-- a test of some route holds where it holds of one
pub some_at : (test : Row → RouteState → Bool) (start : ℕ) (rows : List Row) (routes : List RouteState) (n : ℕ) (row : Row) (route : RouteState) → slice_get rows n ≡ Some row → slice_get routes n ≡ Some route →
    test row route ≡ true → some_route (λ number row route. test row route) start rows routes ≡ true
some_at test start [] routes n row route has is holds = absurd (cc (has))
some_at test start (first ∷ rows) [] n row route has is holds = absurd (cc (is))
some_at test start (first ∷ rows) (one ∷ routes) zero row route has is holds = or_left (test first one) (some_route (λ number row route. test row route) (suc start) rows routes)
    (subst (λ r. test first r ≡ true) (sym (same_Some one route is)) (subst (λ r. test r route ≡ true) (sym (same_Some first row has)) holds))
  where
    or_left : (a b : Bool) → a ≡ true → a || b ≡ true
    or_left true b is = refl
    or_left false b is = absurd (false≢true is)
some_at test start (first ∷ rows) (one ∷ routes) (suc n) row route has is holds = or_right (test first one) (some_route (λ number row route. test row route) (suc start) rows routes)
    (some_at test (suc start) rows routes n row route has is holds)
  where
    or_right : (a b : Bool) → b ≡ true → a || b ≡ true
    or_right true b is = refl
    or_right false b is = is
