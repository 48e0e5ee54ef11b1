-- Clocks that go on within the limit, kind after kind.
use Rattle.std.proofs.Common.{◌≡◌, refl, sym, ap, ◌∙◌, ℕ, ◌+◌, ◌≤◌, ◌<◌, ◌==◌, ◌&&◌, not, Bool, true, false, List, [], ◌∷◌, length, drop, take, get_or, arith, Option, Some, None, ◌⊎◌, inl, inr}
use Rattle.std.specs.Prelude.{nat_le, slice_index_or}
use Rattle.std.specs.List.{list_all}
use Rattle.std.proofs.lemmas.Bool.{and_parts, false≢true}
use Rattle.std.proofs.lemmas.Bool.Decides.{nat_tests}
use Rattle.std.proofs.lemmas.List.{drop_all, drop_more, length-drop}
use Rattle.ixl_state.specs.layout.Entries.{Site}
use Rattle.simulator_spec.specs.simulator_event.refused.Refused.{Refused}
use Rattle.simulator_spec.specs.Nodes.{nodes}
use Rattle.simulator_spec.specs.Refusals.{all_within, are_within, clock_limit, keeps_time, refusal_of_time, refused_where}
use Rattle.simulator_spec.specs.State.{ClockedControllerState, WorldState}

-- ---- tests

and_assoc : (a b c : Bool) → (a && (b && c)) ≡ ((a && b) && c)
and_assoc true b c = refl
and_assoc false b c = refl

and_true : (b : Bool) → (b && true) ≡ b
and_true true = refl
and_true false = refl

some_is_not_none : (why : Refused) → Some why ≡ None → ⊥
some_is_not_none why same = cc

pub where_none : (fails : Bool) (why : Refused) (otherwise : Option Refused) → refused_where fails why otherwise ≡ None → (fails ≡ false) × (otherwise ≡ None)
where_none true why otherwise none = absurd (some_is_not_none why none)
where_none false why otherwise none = (refl, none)

pub not_false : (b : Bool) → not b ≡ false → b ≡ true
not_false true is = refl
not_false false is = cc

pub counted : (a b : ℕ) → (a == b) ≡ true → a ≡ b
counted a b is = grind (arith, nat_tests)

pub le_told : (a b : ℕ) → nat_le a b ≡ true → a ≤ b
le_told a b is = grind (arith, nat_tests)

-- ---- clocks of one kind

module _ {Object : Type 0} where
  pub within_then : (servers : List (ClockedControllerState Object)) (steps : List ℕ) (others : List ℕ → Bool) → length servers ≤ length steps
      → are_within servers steps others ≡ (are_within servers steps (λ rest. true) && others (drop (length servers) steps))
  within_then [] steps others enough = refl
  within_then (server ∷ servers) [] others enough = absurd (omega (arith, enough))
  within_then (server ∷ servers) (step ∷ steps) others enough =
      let here = nat_le (server.clock + step) clock_limit
      in ap (λ b. here && b) (within_then servers steps others (omega (arith, enough)))
      ∙ and_assoc here (are_within servers steps (λ rest. true)) (others (drop (length servers) steps))

  -- the clocks from a place on
  abbrev pub within_from : ℕ → List (ClockedControllerState Object) → List ℕ → Bool
  within_from place servers steps = are_within (drop place servers) (drop place steps) (λ rest. true)

  within_next : (place : ℕ) (servers : List (ClockedControllerState Object)) (steps : List ℕ) (server : ClockedControllerState Object) → place < length servers → place < length steps → server ≡ get_or servers place server
      → within_from place servers steps ≡ (nat_le (server.clock + get_or steps place 0) clock_limit && within_from (place + 1) servers steps)
  within_next place servers steps server below enough is =
      ap (λ all. are_within all (drop place steps) (λ rest. true)) (drop_more servers place server below)
      ∙ ap (λ all. are_within (get_or servers place server ∷ drop (place + 1) servers) all (λ rest. true)) (drop_more steps place 0 enough)
      ∙ ap (λ (one : ClockedControllerState Object). nat_le (one.clock + get_or steps place 0) clock_limit && within_from (place + 1) servers steps) (sym is)

  -- a clock that passes the limit
  pub one_past : (place : ℕ) (servers : List (ClockedControllerState Object)) (steps : List ℕ) (server : ClockedControllerState Object) (is_within : Bool) → place < length servers → length servers ≤ length steps → server ≡ get_or servers place server
      → is_within ≡ nat_le (server.clock + get_or steps place 0) clock_limit → is_within ≡ false → within_from place servers steps ≡ are_within servers steps (λ rest. true)
      → false ≡ are_within servers steps (λ rest. true)
  one_past place servers steps server is_within below enough is test fails so_far =
      ap (λ b. b && within_from (place + 1) servers steps) (sym fails ∙ test) ∙ sym (within_next place servers steps server below (omega (arith, below, enough)) is) ∙ so_far

  -- one that doesn't
  pub one_within : (place : ℕ) (servers : List (ClockedControllerState Object)) (steps : List ℕ) (server : ClockedControllerState Object) (is_within : Bool) → place < length servers → length servers ≤ length steps → server ≡ get_or servers place server
      → is_within ≡ nat_le (server.clock + get_or steps place 0) clock_limit → is_within ≡ true → within_from place servers steps ≡ are_within servers steps (λ rest. true)
      → within_from (place + 1) servers steps ≡ are_within servers steps (λ rest. true)
  one_within place servers steps server is_within below enough is test holds so_far =
      ap (λ b. b && within_from (place + 1) servers steps) (sym holds ∙ test) ∙ sym (within_next place servers steps server below (omega (arith, below, enough)) is) ∙ so_far

  pub none_left : (place : ℕ) (servers : List (ClockedControllerState Object)) (steps : List ℕ) → length servers ≤ place → within_from place servers steps ≡ are_within servers steps (λ rest. true) → true ≡ are_within servers steps (λ rest. true)
  none_left place servers steps over so_far = ap (λ all. are_within all (drop place steps) (λ rest. true)) (sym (drop_all place servers over)) ∙ so_far

-- ---- all clocks

pub all_told : (world : WorldState) (steps of_controllers of_points of_detectors : List ℕ) (first : ℕ) (station signals points detectors : Bool)
    → steps ≡ first ∷ of_controllers → of_points ≡ drop (length world.signals) of_controllers → of_detectors ≡ drop (length world.points) of_points
    → length world.signals ≤ length of_controllers → length world.points ≤ length of_points → length world.detectors ≤ length of_detectors
    → station ≡ nat_le (world.interlocking.clock + first) clock_limit → signals ≡ are_within world.signals of_controllers (λ rest. true)
    → points ≡ are_within world.points of_points (λ rest. true) → detectors ≡ are_within world.detectors of_detectors (λ rest. true)
    → (station && (signals && (points && detectors))) ≡ all_within world steps
all_told world steps of_controllers of_points of_detectors first station signals points detectors steps_are points_are detectors_are enough_signals enough_points enough_detectors station_is signals_is points_is detectors_is =
    let detectors_last : List ℕ → Bool = λ s. are_within world.detectors s (λ rest. true)
    in let points_then : List ℕ → Bool = λ s. are_within world.points s detectors_last
    in let within : Bool = nat_le (world.interlocking.clock + first) clock_limit
    in ap (λ b. b && (signals && (points && detectors))) station_is
    ∙ ap (λ b. within && (b && (points && detectors))) signals_is
    ∙ ap (λ b. within && (are_within world.signals of_controllers (λ rest. true) && b))
    (ap (λ b. b && detectors) points_is
    ∙ ap (λ b. are_within world.points of_points (λ rest. true) && b) (detectors_is ∙ ap detectors_last detectors_are)
    ∙ sym (within_then world.points of_points detectors_last enough_points) ∙ ap points_then points_are)
    ∙ ap (λ b. within && b) (sym (within_then world.signals of_controllers points_then enough_signals))
    ∙ sym (ap (all_within world) steps_are)

-- what is so where time may go on
pub record MayGoOn (site : Site) (elapsed : ℕ) (steps : List ℕ) (world : WorldState) : Type 0 where
  pub each : length steps ≡ nodes site
  pub time : world.time + elapsed ≤ clock_limit
  pub clocks : all_within world steps ≡ true

pub may_go_on : (site : Site) (elapsed : ℕ) (steps : List ℕ) (world : WorldState) → refusal_of_time site elapsed steps world ≡ None → MayGoOn site elapsed steps world
unfolding refusal_of_time
may_go_on site elapsed steps world none =
    let counts = where_none (not (length steps == nodes site)) _ _ none
    in let keeps = where_none (not (list_all (keeps_time elapsed) steps)) _ _ counts.1
    in let within = where_none (not (nat_le (world.time + elapsed) clock_limit && all_within world steps)) _ _ keeps.1
    in let both = and_parts (nat_le (world.time + elapsed) clock_limit) (all_within world steps) (not_false _ within.0)
    in record { each = counted (length steps) (nodes site) (not_false _ counts.0); time = le_told (world.time + elapsed) clock_limit both.0; clocks = both.1 }

-- ---- the steps by kinds

-- the first step and the others
pub first_then : (steps front back : List ℕ) → 1 ≤ length steps → front ≡ take 1 steps → back ≡ drop 1 steps → steps ≡ slice_index_or front 0 0 ∷ back
first_then [] front back some front_is back_is = absurd (omega (arith, some))
first_then (step ∷ steps) front back some front_is back_is = sym (ap (λ f. slice_index_or f 0 0 ∷ back) front_is ∙ ap (λ b. step ∷ b) back_is)

and_all : (a b c d : Bool) → (((a && b) && c) && d) ≡ (a && (b && (c && d)))
and_all true true c d = refl
and_all true false c d = refl
and_all false b c d = refl

-- the last test is made where the others hold
pub last_told : (a b c d : Bool) → (a ≡ true) × (b ≡ true) × (c ≡ true) → d ≡ (((a && b) && c) && d)
last_told a b c d holds = sym (ap (λ x. ((x && b) && c) && d) holds.0 ∙ ap (λ x. (x && c) && d) holds.1 ∙ ap (λ x. x && d) holds.2)

-- one of the tests before it fails
abbrev pub OneFails : Bool → Bool → Bool → Type 0
OneFails a b c = ((a ≡ true) × (b ≡ true) × (c ≡ false)) ⊎ (((a ≡ true) × (b ≡ false)) ⊎ (a ≡ false))

pub fails_told : (a b c d : Bool) → OneFails a b c → false ≡ (((a && b) && c) && d)
fails_told a b c d (inl fails) = sym (ap (λ x. ((x && b) && c) && d) fails.0 ∙ ap (λ x. (x && c) && d) fails.1 ∙ ap (λ x. x && d) fails.2)
fails_told a b c d (inr (inl fails)) = sym (ap (λ x. ((x && b) && c) && d) fails.0 ∙ ap (λ x. (x && c) && d) fails.1)
fails_told a b c d (inr (inr fails)) = sym (ap (λ x. ((x && b) && c) && d) fails)

pub second_fails : (a b : Bool) → ((a ≡ true) × (b ≡ false)) ⊎ (a ≡ false) → a ≡ true → b ≡ false
second_fails a b (inl fails) holds = fails.1
second_fails a b (inr fails) holds = absurd (false≢true (sym fails ∙ holds))

pub third_fails : (a b c : Bool) → OneFails a b c → (a ≡ true) × (b ≡ true) → c ≡ false
third_fails a b c (inl fails) holds = fails.2
third_fails a b c (inr (inl fails)) holds = absurd (false≢true (sym fails.1 ∙ holds.1))
third_fails a b c (inr (inr fails)) holds = absurd (false≢true (sym fails ∙ holds.0))

pub all_so : (world : WorldState) (steps of_controllers of_points of_detectors : List ℕ) (first : ℕ) (station signals points detectors found : Bool)
    → steps ≡ first ∷ of_controllers → of_points ≡ drop (length world.signals) of_controllers → of_detectors ≡ drop (length world.points) of_points
    → length world.signals + length world.points + length world.detectors ≡ length of_controllers
    → station ≡ nat_le (world.interlocking.clock + first) clock_limit → signals ≡ are_within world.signals of_controllers (λ rest. true)
    → points ≡ are_within world.points of_points (λ rest. true) → detectors ≡ are_within world.detectors of_detectors (λ rest. true)
    → found ≡ (((station && signals) && points) && detectors)
    → found ≡ all_within world steps
all_so world steps of_controllers of_points of_detectors first station signals points detectors found steps_are points_are detectors_are each station_is signals_is points_is detectors_is found_is =
    let of_points_left = ap length points_are ∙ length-drop (length world.signals) of_controllers
    in let of_detectors_left = ap length detectors_are ∙ length-drop (length world.points) of_points
    in found_is ∙ and_all station signals points detectors
    ∙ all_told world steps of_controllers of_points of_detectors first station signals points detectors steps_are points_are detectors_are
    (omega (arith, each)) (omega (arith, each, of_points_left)) (omega (arith, each, of_points_left, of_detectors_left)) station_is signals_is points_is detectors_is

-- what is so of each kind where it is so of all
pub record EachWithin (world : WorldState) (first : ℕ) (steps : List ℕ) : Type 0 where
  pub station : world.interlocking.clock + first ≤ clock_limit
  pub signals : are_within world.signals steps (λ rest. true) ≡ true
  pub points : are_within world.points (drop (length world.signals) steps) (λ rest. true) ≡ true
  pub detectors : are_within world.detectors (drop (length world.points) (drop (length world.signals) steps)) (λ rest. true) ≡ true

pub each_within : (world : WorldState) (all steps : List ℕ) (first : ℕ) → all ≡ first ∷ steps → length world.signals + length world.points + length world.detectors ≡ length steps → all_within world all ≡ true
    → EachWithin world first steps
each_within world all steps first all_are each within =
    let of_points = drop (length world.signals) steps
    in let left = length-drop (length world.signals) steps
    in let detectors_last : List ℕ → Bool = λ s. are_within world.detectors s (λ rest. true)
    in let points_then : List ℕ → Bool = λ s. are_within world.points s detectors_last
    in let one = and_parts (nat_le (world.interlocking.clock + first) clock_limit) (are_within world.signals steps points_then) (sym (ap (all_within world) all_are) ∙ within)
    in let two = and_parts (are_within world.signals steps (λ rest. true)) (points_then of_points) (sym (within_then world.signals steps points_then (omega (arith, each))) ∙ one.1)
    in let three = and_parts (are_within world.points of_points (λ rest. true)) (detectors_last (drop (length world.points) of_points)) (sym (within_then world.points of_points detectors_last (omega (arith, each, left))) ∙ two.1)
    in record { station = le_told (world.interlocking.clock + first) clock_limit one.0; signals = two.0; points = three.0; detectors = three.1 }
