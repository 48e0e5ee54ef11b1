-- Where a point is known that stands at a side, with its moves answered: at this side or nowhere, as the machine sees it. So a point stands that a
-- route with authority requires.
use Rattle.simulator_recovery.proofs.Words.Basics.{◌≡◌, ◌⊎◌, inl, inr, ℕ, ◌+◌, ◌≤◌, ◌==◌, ◌&&◌, Bool, true, false, List, [], ◌∷◌, ◌++◌, append-nil, length, Option, Some, None, slice_get, refl, sym, ap, subst, ◌∙◌, arith, ◌||◌, All, Contains, list_any, false≢true, nat_tests, length-append, All-cons, All-contains, All-nil}
use Rattle.simulator_recovery.proofs.Words.Links.{settled, reading_of, is_up}
use Rattle.simulator_recovery.proofs.Words.Controllers.{Side}
use Rattle.simulator_recovery.proofs.Words.Interlockings.{IsTableOf, is_available, Stage, IsRouteOf, KnownPointState, RouteState, Need, Row, Table, Phase}
use Rattle.simulator_recovery.proofs.Words.Stations.{Site, Once, IsStation, world_at, after_all, WorldState, IsReached, Represents, RepresentsAfter, given_in, positions_at}
use Rattle.simulator_recovery.proofs.Words.Machine.{IsPointSound, last_of, Machine, is_held, Point, Position, moves_given, reports_made, Authorised, has_authority, first, is_inside, KnownPointFits, phase_seen, route_seen, is_side_seen, machine_table, row_or_none, SeesPoint, AreHeard, side_seen}
use Rattle.simulator_recovery.proofs.Words.Recovery.{LawsBelow}
use Rattle.simulator_move_laws.specs.Telegrams.{position_seen}
use Rattle.simulator_recovery.proofs.Lemmas.Points.FieldPointsMachine.{Answers, HasTaken, HeldAnswer, all_taken, held_answer, held_resumed}
use Rattle.simulator_recovery.proofs.Lemmas.Lamps.SeenSignals.{inside_at}

-- ---- the table of the machine

side_is_seen : (side : Side) → is_side_seen (side_seen side) (side_seen side) ≡ true
side_is_seen Side.Right = refl
side_is_seen Side.Left = refl

pub same_side : (one other : Side) → side_seen one ≡ side_seen other → one ≡ other
same_side Side.Right Side.Right e = refl
same_side Side.Right Side.Left e = absurd (cc e)
same_side Side.Left Side.Right e = absurd (cc e)
same_side Side.Left Side.Left e = refl

none_true : {A : Type 0} (test : A → Bool) (list : List A) → list_any test list ≡ false → All (λ x. test x ≡ false) list
none_true test [] e = All-nil (λ x. test x ≡ false)
none_true test (y ∷ list) e = both (test y) refl e (λ later. none_true test list later)
  where
    both : (b : Bool) → test y ≡ b → (b || list_any test list) ≡ false → (list_any test list ≡ false → All (λ x. test x ≡ false) list) → All (λ x. test x ≡ false) (y ∷ list)
    both true f g others = absurd (false≢true (sym g))
    both false f g others = All-cons (λ x. test x ≡ false) y list f (others g)

any_true : {A : Type 0} (test : A → Bool) (list : List A) (x : A) → Contains list x → test x ≡ true → list_any test list ≡ true
any_true test list x within passes = choose (list_any test list) refl
  where
    choose : (b : Bool) → list_any test list ≡ b → list_any test list ≡ true
    choose true e = e
    choose false e = absurd (false≢true (sym (All-contains (λ y. test y ≡ false) list x (none_true test list e) within) ∙ passes))

required : (table : Table) (number : ℕ) (row : Row) (need : Need) → slice_get table.rows number ≡ Some row → Contains row.needs need
    → (machine_table table).requires number need.point (side_seen need.side) ≡ true
unfolding machine_table
required table number row need there within = subst (λ (r : Row). list_any test r.needs ≡ true) (sym (ap row_or_none there))
    (any_true test row.needs need within (both _ _ (same need.point) (side_is_seen need.side)))
  where
    test : Need → Bool
    test one = one.point == need.point && is_side_seen (side_seen one.side) (side_seen need.side)

    same : (n : ℕ) → (n == n) ≡ true
    same n = grind (arith, nat_tests)

    both : (a b : Bool) → a ≡ true → b ≡ true → (a && b) ≡ true
    both true true e f = refl
    both true false e f = absurd (cc f)
    both false b e f = absurd (cc e)

-- ---- a point

none_left : (list : List Position) → length list ≤ 0 → list ≡ []
none_left [] few = refl
none_left (one ∷ later) few = absurd (omega (arith, few))

all_heard : (s : Stage) (heard moves : ℕ) → is_available s ≡ true → AreHeard s heard moves → heard ≡ moves + 1
all_heard Stage.Completed heard moves e are = are
all_heard Stage.AwaitsReport heard moves e are = absurd (false≢true e)
all_heard Stage.Outside heard moves e are = absurd (false≢true e)
all_heard Stage.AwaitsAnswer heard moves e are = absurd (false≢true e)
all_heard Stage.AwaitsStart heard moves e are = absurd (false≢true e)
all_heard (Stage.AwaitsStatus left) heard moves e are = absurd (false≢true e)

-- A route has authority: it proceeds, or it was withdrawn and its authority hasn't ended.
abbrev pub HasAuthority : RouteState → Type 0
HasAuthority route = (route.phase ≡ Phase.Proceeding) ⊎ (route.phase ≡ Phase.Withdrawn)

authorised : (route : RouteState) → HasAuthority route → route_seen (Some route) ≡ Authorised
authorised route (inl proceeds) = ap phase_seen proceeds
authorised route (inr withdrawn) = ap phase_seen withdrawn

-- where a route has authority
module _ (site : Site) (table : Table) (world : WorldState) (machine : Machine) (represented : Represents site table world machine) (answer : HeldAnswer (machine_table table) machine)
    (number : ℕ) (row : Row) (route : RouteState) (need : Need) (is : IsRouteOf table world.interlocking.ixl number row route) (within : Contains row.needs need) (authority : HasAuthority route) where
  held : is_held machine number ≡ true
  held = go machine.holding refl
    where
      seen : machine.routes number ≡ Authorised
      seen = represented.station.sees.routes number ∙ (ap route_seen is.1 ∙ authorised route authority)

      go : (test : Bool) → machine.holding ≡ test → is_held machine number ≡ true
      go true e = absurd (cc (sym seen ∙ represented.invariant.unset e number))
      go false e = held_resumed machine number e ∙ ap has_authority seen

  pub authority_stands : (machine.points need.point).position ≡ Some (side_seen need.side)
  authority_stands = (represented.invariant.settled number need.point (side_seen need.side) held (required table number row need is.0 within)).stands.stands

  pub authority_answers : Answers (side_seen need.side) (machine.points need.point)
  authority_answers = answer number need.point (side_seen need.side) held (required table number row need is.0 within)

-- where it is available
module _ (site : Site) (table : Table) (world : WorldState) (machine : Machine) (represented : Represents site table world machine) (place : ℕ)
    (known : KnownPointState) (there : slice_get world.interlocking.ixl.known_points place ≡ Some known)
    (up : is_up (settled (reading_of world.interlocking.clock) known.client.link).phase ≡ true) (available : is_available known.client.stage ≡ true) where
  abbrev now : ℕ
  now = reading_of world.interlocking.clock

  abbrev point : Point
  point = machine.points place

  sound : IsPointSound point
  sound = represented.invariant.points place

  pub inside : is_inside now known.client.link ≡ true
  inside = inside_at now known.client.link up

  pub fits : KnownPointFits now known ((given_in site represented.network).points place) point
  fits = (subst (λ (found : Option KnownPointState). SeesPoint now world.interlocking.ixl found ((given_in site represented.network).points place) point) there
      (represented.station.sees.points place)).fits

  heard : length point.heard ≡ length fits.commands + 1
  heard = all_heard known.client.stage (length point.heard) (length fits.commands) available (fits.heard inside)

  none_coming : point.coming ≡ []
  none_coming = let given = sound.given in let all = heard in let moves = fits.moves inside in let both = length-append point.heard point.coming in none_left point.coming (omega
      (arith, given, all, moves, both))

  pub made : reports_made point ≡ point.heard
  made = ap (λ (coming : List Position). point.heard ++ coming) none_coming ∙ append-nil point.heard

  pub count : length (reports_made point) ≡ moves_given point + 1
  count = ap length made ∙ (heard ∙ ap (λ (n : ℕ). n + 1) (sym (fits.moves inside)))

  pub last : last_of None (reports_made point) ≡ position_seen known.side
  last = ap (last_of None) made ∙ fits.last inside

  -- one that is known at a side stands there
  pub known_stands : (side : Side) → known.side ≡ Some side → point.position ≡ Some (side_seen side)
  known_stands side at = sound.last count (side_seen side) (last ∙ ap position_seen at)

  -- where it stands at a side, and its moves are answered
  module _ (side : Side) (stands : point.position ≡ Some (side_seen side)) (answers : Answers (side_seen side) point) where
    -- it is known at its side; or nowhere, and it was given no move in the connection
    pub known_or : (known.side ≡ Some side) ⊎ ((known.side ≡ None) × (moves_given point ≡ 0))
    known_or = by_side known.side refl
      where
        by_answer : known.side ≡ None → Answers (side_seen side) point → (known.side ≡ Some side) ⊎ ((known.side ≡ None) × (moves_given point ≡ 0))
        by_answer e (inl none) = inr (e, none)
        by_answer e (inr (all, at)) = absurd (cc (sym at ∙ (last ∙ ap position_seen e)))

        by_side : (s : Option Side) → known.side ≡ s → (known.side ≡ Some side) ⊎ ((known.side ≡ None) × (moves_given point ≡ 0))
        by_side None e = by_answer e answers
        by_side (Some s) e = inl (e ∙ ap Some (same_side s side (some_same (sym (known_stands s e) ∙ stands))))
          where
            some_same : {A : Type 0} {a b : A} → Some a ≡ Some b → a ≡ b
            some_same f = cc f

-- ---- a world that is reached

-- the machine that sees it, and what the points of held routes have answered there
pub record AnswersIn (site : Site) (table : Table) (world : WorldState) : Type 0 where
  pub machine : Machine
  pub represented : Represents site table world machine
  pub answers : HeldAnswer (machine_table table) machine
  pub took : (place : ℕ) → HasTaken (machine.points place)

pub answers_in : LawsBelow → (site : Site) (table : Table) → Once site → IsStation site → IsTableOf site table → (world : WorldState) → IsReached site table world → AnswersIn site table world
answers_in laws site table once station is_table world reached = subst (AnswersIn site table) (sym reached.after) (record {
  machine = to.machine;
  represented = to.represented;
  answers = held_answer laws.invariant_is_kept_each (machine_table table) (laws.tables_are_sound table) (positions_at reached.outset) (laws.invariant_is_kept_first (machine_table table) (positions_at reached.outset)) to.machine to.moves;
  took = all_taken laws.invariant_is_kept_each (machine_table table) (laws.tables_are_sound table) (positions_at reached.outset) (laws.invariant_is_kept_first (machine_table table) (positions_at reached.outset)) to.machine to.moves;
})
  where
    to : RepresentsAfter site table (first (positions_at reached.outset)) (after_all site table reached.events (world_at site table reached.outset))
    to = laws.every_world_is_reached_by_moves site table reached.outset reached.events once station is_table reached.lies reached.can

-- In this machine a point stands at a side, and its moves are answered.
pub record RestsIn (laws : LawsBelow) (site : Site) (table : Table) (once : Once site) (station : IsStation site) (is_table : IsTableOf site table) (world : WorldState)
    (reached : IsReached site table world) (place : ℕ) (side : Side) : Type 0 where
  pub stands : ((answers_in laws site table once station is_table world reached).machine.points place).position ≡ Some (side_seen side)
  pub answers : Answers (side_seen side) ((answers_in laws site table once station is_table world reached).machine.points place)

pub authority_rests : (laws : LawsBelow) (site : Site) (table : Table) (once : Once site) (station : IsStation site) (is_table : IsTableOf site table) (world : WorldState)
    (reached : IsReached site table world) (number : ℕ) (row : Row) (route : RouteState) (need : Need) → IsRouteOf table world.interlocking.ixl number row route → Contains row.needs need
    → HasAuthority route → RestsIn laws site table once station is_table world reached need.point need.side
authority_rests laws site table once station is_table world reached number row route need is within authority =
    let it = answers_in laws site table once station is_table world reached
    in record {
      stands = authority_stands site table world it.machine it.represented it.answers number row route need is within authority;
      answers = authority_answers site table world it.machine it.represented it.answers number row route need is within authority;
    }
