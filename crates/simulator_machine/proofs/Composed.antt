-- Lists of moves follow one another, and the moves of one signal or point, or of each, are moves of the machine.
use Rattle.std.proofs.Common.{◌≡◌, ℕ, zero, suc, ◌≤◌, List, [], ◌∷◌, ◌++◌, ◌⊎◌, inl, inr, refl, sym, ap, subst, ◌∙◌, arith}
use Rattle.std.proofs.Math.Path.{fun_ext}
use Rattle.std.specs.Prelude.{◌≢◌, map}
use Rattle.simulator_machine.specs.Lists.{changed_at}
use Rattle.simulator_machine.specs.Link.{Link, LinkMove, Opens, Enters, ComesUp, Closes, Leaves, QuietEnds, LinkMay, link_after}
use Rattle.simulator_machine.specs.Signal.{SignalLink, signal_linked, Signal, SignalMove, SignalMay, signal_after}
use Rattle.simulator_machine.specs.Point.{PointLink, point_linked, Point, PointMove, PointMay, point_after}
use Rattle.simulator_machine.specs.Table.{Table, IsSound}
use Rattle.simulator_machine.specs.Machine.{Machine, with_signal, with_point}
use Rattle.simulator_machine.specs.Moves.{Move, AtSignal, AtPoint, May, after}
use Rattle.simulator_machine.specs.Run.{Rules, right_rules, run, MayRun}
use Rattle.simulator_machine.specs.Invariant.{Invariant}
use Rattle.simulator_machine.specs.Chains.{link_chained, LinkMayChain, MovesTo, chained, MayChain, signal_chained, SignalMayChain, point_chained, PointMayChain, signals_chained, points_chained, NoneFrom}
use Rattle.simulator_machine.proofs.Lists.{same_or_not, at_each}
use Rattle.simulator_machine.proofs.Kept.{run_kept}

pub changed_here : {A : Type 0} (place : ℕ) (new : A) (old : ℕ → A) → changed_at place new old place ≡ new
changed_here place new old = at_each (λ n one. n ≡ place → one ≡ new) place new old (λ same. refl) (λ n other same. absurd (other same)) place refl

pub changed_elsewhere : {A : Type 0} (place : ℕ) (new : A) (old : ℕ → A) (n : ℕ) → n ≢ place → changed_at place new old n ≡ old n
changed_elsewhere place new old n = at_each (λ m one. m ≢ place → one ≡ old m) place new old (λ other. absurd (other refl)) (λ m other again. refl) n

-- what is put back changes nothing
changed_back : {A : Type 0} (place : ℕ) (old : ℕ → A) → changed_at place (old place) old ≡ old
changed_back place old = fun_ext (at_each (λ n one. one ≡ old n) place (old place) old refl (λ n other. refl))

-- the last change at a place is the one that counts
changed_twice : {A : Type 0} (place : ℕ) (new between : A) (old : ℕ → A) → changed_at place new (changed_at place between old) ≡ changed_at place new old
changed_twice place new between old = fun_ext (λ n. go n (same_or_not n place))
  where
    go : (n : ℕ) → (n ≡ place) ⊎ (n ≢ place) → changed_at place new (changed_at place between old) n ≡ changed_at place new old n
    go n (inl same) =
        subst (λ m. changed_at place new (changed_at place between old) m ≡ changed_at place new old m) (sym same)
        (changed_here place new (changed_at place between old) ∙ sym (changed_here place new old))
    go n (inr other) =
        changed_elsewhere place new (changed_at place between old) n other ∙ (changed_elsewhere place between old n other ∙ sym (changed_elsewhere place new old n other))

-- one list of moves may be made after another, by whatever rules
pub both_may_by : (rules : Rules) (table : Table) (moves later : List Move) (machine : Machine) → MayRun rules table moves machine
    → MayRun rules table later (run rules table moves machine) → MayRun rules table (moves ++ later) machine
both_may_by rules table [] later machine may may_later = may_later
both_may_by rules table (move ∷ moves) later machine may may_later =
    (may.0, both_may_by rules table moves later (rules.after table machine move) may.1 may_later)

module _ (table : Table) where
  pub stays : (machine : Machine) → MovesTo table machine machine
  stays machine = record { moves = []; may = tt; leads = refl }

  pub one_move : (machine : Machine) (move : Move) → May table machine move → MovesTo table machine (after table machine move)
  one_move machine move may = record { moves = move ∷ []; may = (may, tt); leads = refl }

  pub both_may : (moves later : List Move) (machine : Machine) → MayRun right_rules table moves machine → MayRun right_rules table later (run right_rules table moves machine)
      → MayRun right_rules table (moves ++ later) machine
  both_may moves later machine may may_later = both_may_by right_rules table moves later machine may may_later

  both_run : (moves later : List Move) (machine : Machine) → run right_rules table (moves ++ later) machine ≡ run right_rules table later (run right_rules table moves machine)
  both_run [] later machine = refl
  both_run (move ∷ moves) later machine = both_run moves later (after table machine move)

  pub then_reaches : (old between new : Machine) → MovesTo table old between → MovesTo table between new → MovesTo table old new
  then_reaches old between new there onward = record {
    moves = there.moves ++ onward.moves;
    may = both_may there.moves onward.moves old there.may (subst (MayRun right_rules table onward.moves) (sym there.leads) onward.may);
    leads = both_run there.moves onward.moves old ∙ (ap (run right_rules table onward.moves) there.leads ∙ onward.leads);
  }

  pub reached_kept : IsSound table → (old new : Machine) → Invariant table old → MovesTo table old new → Invariant table new
  reached_kept sound old new kept reaches = subst (Invariant table) reaches.leads (run_kept table sound reaches.moves old kept reaches.may)

  -- ---- a family of the machine's objects, and the moves of each

  module _ (Step Object : Type 0) (may : Step → Object → Type 0) (step : Step → Object → Object) (family : Machine → ℕ → Object)
      (with_family : (ℕ → Object) → Machine → Machine) (gets : (objects : ℕ → Object) (machine : Machine) → family (with_family objects machine) ≡ objects)
      (puts : (objects others : ℕ → Object) (machine : Machine) → with_family objects (with_family others machine) ≡ with_family objects machine)
      (same : (machine : Machine) → with_family (family machine) machine ≡ machine)
      (moves_one : (place : ℕ) (move : Step) (machine : Machine) → may move (family machine place)
      → MovesTo table machine (with_family (changed_at place (step move (family machine place)) (family machine)) machine)) where
    -- the machine where one object has become another
    abbrev put : ℕ → Object → Machine → Machine
    put place object machine = with_family (changed_at place object (family machine)) machine

    put_again : (place : ℕ) (object between : Object) (machine : Machine) → put place object (put place between machine) ≡ put place object machine
    put_again place object between machine =
        puts (changed_at place object (family (put place between machine))) (changed_at place between (family machine)) machine
        ∙ ap (λ (objects : ℕ → Object). with_family objects machine)
        (ap (changed_at place object) (gets (changed_at place between (family machine)) machine) ∙ changed_twice place object between (family machine))

    put_same : (place : ℕ) (machine : Machine) → put place (family machine place) machine ≡ machine
    put_same place machine = ap (λ (objects : ℕ → Object). with_family objects machine) (changed_back place (family machine)) ∙ same machine

    get_here : (place : ℕ) (object : Object) (machine : Machine) → family (put place object machine) place ≡ object
    get_here place object machine =
        ap (λ (objects : ℕ → Object). objects place) (gets (changed_at place object (family machine)) machine) ∙ changed_here place object (family machine)

    get_elsewhere : (place : ℕ) (object : Object) (machine : Machine) (n : ℕ) → n ≢ place → family (put place object machine) n ≡ family machine n
    get_elsewhere place object machine n other =
        ap (λ (objects : ℕ → Object). objects n) (gets (changed_at place object (family machine)) machine) ∙ changed_elsewhere place object (family machine) n other

    pub chain_one : (moves : List Step) (place : ℕ) (machine : Machine) → MayChain may step moves (family machine place)
        → MovesTo table machine (put place (chained step moves (family machine place)) machine)
    chain_one [] place machine may_all = subst (MovesTo table machine) (sym (put_same place machine)) (stays machine)
    chain_one (move ∷ moves) place machine may_all =
        then_reaches machine (put place (step move (family machine place)) machine) (put place (chained step moves (step move (family machine place))) machine)
        (moves_one place move machine may_all.0)
        (subst (MovesTo table (put place (step move (family machine place)) machine))
        (ap (λ (object : Object). put place (chained step moves object) (put place (step move (family machine place)) machine)) (get_here place (step move (family machine place)) machine)
        ∙ put_again place (chained step moves (step move (family machine place))) (step move (family machine place)) machine)
        (chain_one moves place (put place (step move (family machine place)) machine)
        (subst (MayChain may step moves) (sym (get_here place (step move (family machine place)) machine)) may_all.1)))

    -- each object after moves of its own
    abbrev each_chained : (ℕ → List Step) → Machine → Machine
    each_chained moves machine = with_family (λ place. chained step (moves place) (family machine place)) machine

    pub chain_each : (count : ℕ) (moves : ℕ → List Step) (machine : Machine) → ((place : ℕ) → MayChain may step (moves place) (family machine place)) → NoneFrom count moves
        → MovesTo table machine (each_chained moves machine)
    chain_each zero moves machine may_all none =
        subst (MovesTo table machine)
        (sym (ap (λ (objects : ℕ → Object). with_family objects machine)
        (fun_ext (λ place. ap (λ (steps : List Step). chained step steps (family machine place)) (none place (omega arith)))) ∙ same machine))
        (stays machine)
    chain_each (suc count) moves machine may_all none =
        then_reaches machine next (each_chained moves machine) (chain_one (moves count) count machine (may_all count))
        (subst (MovesTo table next) same_end (chain_each count rest next (λ place. rest_may place (same_or_not place count)) (λ place from. rest_none place from (same_or_not place count))))
      where
        next : Machine
        next = put count (chained step (moves count) (family machine count)) machine

        rest : ℕ → List Step
        rest = changed_at count [] moves

        rest_here : (place : ℕ) → place ≡ count → rest place ≡ []
        rest_here place here = subst (λ n. changed_at count [] moves n ≡ []) (sym here) (changed_here count [] moves)

        next_elsewhere : (place : ℕ) → place ≢ count → family next place ≡ family machine place
        next_elsewhere = get_elsewhere count (chained step (moves count) (family machine count)) machine

        rest_may : (place : ℕ) → (place ≡ count) ⊎ (place ≢ count) → MayChain may step (rest place) (family next place)
        rest_may place (inl here) = subst (λ (steps : List Step). MayChain may step steps (family next place)) (sym (rest_here place here)) tt
        rest_may place (inr other) =
            subst (λ (steps : List Step). MayChain may step steps (family next place)) (sym (changed_elsewhere count [] moves place other))
            (subst (MayChain may step (moves place)) (sym (next_elsewhere place other)) (may_all place))

        rest_none : (place : ℕ) → count ≤ place → (place ≡ count) ⊎ (place ≢ count) → rest place ≡ []
        rest_none place from (inl here) = rest_here place here
        rest_none place from (inr other) = changed_elsewhere count [] moves place other ∙ none place (omega (arith, other))

        end_at : (place : ℕ) → (place ≡ count) ⊎ (place ≢ count) → chained step (rest place) (family next place) ≡ chained step (moves place) (family machine place)
        end_at place (inl here) =
            ap (λ (steps : List Step). chained step steps (family next place)) (rest_here place here)
            ∙ subst (λ n. family next n ≡ chained step (moves n) (family machine n)) (sym here) (get_here count (chained step (moves count) (family machine count)) machine)
        end_at place (inr other) =
            ap (λ (steps : List Step). chained step steps (family next place)) (changed_elsewhere count [] moves place other)
            ∙ ap (chained step (moves place)) (next_elsewhere place other)

        same_end : each_chained rest next ≡ each_chained moves machine
        same_end =
            puts (λ place. chained step (rest place) (family next place)) (changed_at count (chained step (moves count) (family machine count)) (family machine)) machine
            ∙ ap (λ (objects : ℕ → Object). with_family objects machine) (fun_ext (λ place. end_at place (same_or_not place count)))

-- ---- the signals, and the points

pub signal_chain : (table : Table) (machine : Machine) (place : ℕ) (moves : List SignalMove) → SignalMayChain moves (machine.signals place)
    → MovesTo table machine (with_signal place (signal_chained moves (machine.signals place)) machine)
signal_chain table machine place moves may =
    chain_one table SignalMove Signal SignalMay signal_after (λ m. m.signals) (λ signals m. record m { signals = signals }) (λ signals m. refl) (λ signals others m. refl)
    (λ m. refl) (λ place move m may. one_move table m (AtSignal place move) may) moves place machine may

pub point_chain : (table : Table) (machine : Machine) (place : ℕ) (moves : List PointMove) → PointMayChain moves (machine.points place)
    → MovesTo table machine (with_point place (point_chained moves (machine.points place)) machine)
point_chain table machine place moves may =
    chain_one table PointMove Point PointMay point_after (λ m. m.points) (λ points m. record m { points = points }) (λ points m. refl) (λ points others m. refl)
    (λ m. refl) (λ place move m may. one_move table m (AtPoint place move) may) moves place machine may

pub signal_chains : (table : Table) (machine : Machine) (count : ℕ) (moves : ℕ → List SignalMove) → ((place : ℕ) → SignalMayChain (moves place) (machine.signals place))
    → NoneFrom count moves → MovesTo table machine (signals_chained moves machine)
signal_chains table machine count moves may none =
    chain_each table SignalMove Signal SignalMay signal_after (λ m. m.signals) (λ signals m. record m { signals = signals }) (λ signals m. refl) (λ signals others m. refl)
    (λ m. refl) (λ place move m may. one_move table m (AtSignal place move) may) count moves machine may none

pub point_chains : (table : Table) (machine : Machine) (count : ℕ) (moves : ℕ → List PointMove) → ((place : ℕ) → PointMayChain (moves place) (machine.points place))
    → NoneFrom count moves → MovesTo table machine (points_chained moves machine)
point_chains table machine count moves may none =
    chain_each table PointMove Point PointMay point_after (λ m. m.points) (λ points m. record m { points = points }) (λ points m. refl) (λ points others m. refl)
    (λ m. refl) (λ place move m may. one_move table m (AtPoint place move) may) count moves machine may none

-- ---- the moves of a link

module _ (Object : Type 0) (may : LinkMove → Object → Type 0) (step : LinkMove → Object → Object) (link : Object → Link)
    (lifts : (move : LinkMove) (object : Object) → LinkMay move (link object) → may move object)
    (does : (move : LinkMove) (object : Object) → link (step move object) ≡ link_after move (link object)) where
  linked_may : (moves : List LinkMove) (object : Object) → LinkMayChain moves (link object) → MayChain may step moves object
  linked_may [] object may_all = tt
  linked_may (move ∷ moves) object may_all =
      (lifts move object may_all.0, linked_may moves (step move object) (subst (LinkMayChain moves) (sym (does move object)) may_all.1))

  linked_chain : (moves : List LinkMove) (object : Object) → link (chained step moves object) ≡ link_chained moves (link object)
  linked_chain [] object = refl
  linked_chain (move ∷ moves) object = linked_chain moves (step move object) ∙ ap (link_chained moves) (does move object)

-- a list of steps under another name
renamed_may : (Step Other State : Type 0) (may : Other → State → Type 0) (step : Other → State → State) (name : Step → Other) (steps : List Step) (state : State)
    → MayChain (λ one. may (name one)) (λ one. step (name one)) steps state → MayChain may step (map name steps) state
renamed_may Step Other State may step name [] state may_all = tt
renamed_may Step Other State may step name (one ∷ steps) state may_all =
    (may_all.0, renamed_may Step Other State may step name steps (step (name one) state) may_all.1)

renamed_chain : (Step Other State : Type 0) (step : Other → State → State) (name : Step → Other) (steps : List Step) (state : State)
    → chained step (map name steps) state ≡ chained (λ one. step (name one)) steps state
renamed_chain Step Other State step name [] state = refl
renamed_chain Step Other State step name (one ∷ steps) state = renamed_chain Step Other State step name steps (step (name one) state)

signal_link_after : (move : LinkMove) (signal : Signal) → (signal_linked move signal).link ≡ link_after move signal.link
signal_link_after Opens signal = refl
signal_link_after Enters signal = refl
signal_link_after ComesUp signal = refl
signal_link_after Closes signal = refl
signal_link_after Leaves signal = refl
signal_link_after QuietEnds signal = refl

point_link_after : (move : LinkMove) (point : Point) → (point_linked move point).link ≡ link_after move point.link
point_link_after Opens point = refl
point_link_after Enters point = refl
point_link_after ComesUp point = refl
point_link_after Closes point = refl
point_link_after Leaves point = refl
point_link_after QuietEnds point = refl

pub signal_links_may : (moves : List LinkMove) (signal : Signal) → LinkMayChain moves signal.link → SignalMayChain (map SignalLink moves) signal
signal_links_may moves signal may =
    renamed_may LinkMove SignalMove Signal SignalMay signal_after SignalLink moves signal
    (linked_may Signal (λ move s. LinkMay move s.link) signal_linked (λ s. s.link) (λ move s may. may) signal_link_after moves signal may)

pub signal_links : (moves : List LinkMove) (signal : Signal) → (signal_chained (map SignalLink moves) signal).link ≡ link_chained moves signal.link
signal_links moves signal =
    ap (λ (s : Signal). s.link) (renamed_chain LinkMove SignalMove Signal signal_after SignalLink moves signal)
    ∙ linked_chain Signal (λ move s. LinkMay move s.link) signal_linked (λ s. s.link) (λ move s may. may) signal_link_after moves signal

pub point_links_may : (moves : List LinkMove) (point : Point) → LinkMayChain moves point.link → PointMayChain (map PointLink moves) point
point_links_may moves point may =
    renamed_may LinkMove PointMove Point PointMay point_after PointLink moves point
    (linked_may Point (λ move p. LinkMay move p.link) point_linked (λ p. p.link) (λ move p may. may) point_link_after moves point may)

pub point_links : (moves : List LinkMove) (point : Point) → (point_chained (map PointLink moves) point).link ≡ link_chained moves point.link
point_links moves point =
    ap (λ (p : Point). p.link) (renamed_chain LinkMove PointMove Point point_after PointLink moves point)
    ∙ linked_chain Point (λ move p. LinkMay move p.link) point_linked (λ p. p.link) (λ move p may. may) point_link_after moves point
