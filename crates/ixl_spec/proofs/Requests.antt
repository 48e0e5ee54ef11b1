-- Which requests are refused, and for what cause.
use Rattle.std.proofs.Common.{inl, inr, ◌≡◌, ◌↔◌, ℕ, Bool, true, false, not, if◌then◌else◌, List, [], ◌∷◌, refl, ap, sym, ◌∙◌, subst}
use Rattle.std.specs.Prelude.{◌||◌, Option, Some, None, slice_get}
use Rattle.std.specs.List.{All, Contains, list_all}
use Rattle.std.specs.Option.{option_or}
use Rattle.std.proofs.lemmas.Bool.{true≢false, false≢true}
use Rattle.std.proofs.lemmas.List.Elements.{All-cons, All-contains_itself, All-nil, Contains-append_right}
use Rattle.std.proofs.lemmas.Option.{same_Some}
use Rattle.closings.specs.layout.declared.ids.RouteId.{RouteId}
use Rattle.ixl_spec.specs.Table.{Need, Row, Table}
use Rattle.ixl_spec.specs.State.{IxlState, RouteState}
use Rattle.ixl_spec.specs.View.{first_blocking, is_at_known_stop, is_holding, is_occupied, is_set, is_signal_ready, is_unknown}
use Rattle.ixl_spec.specs.Operations.{counts_as_closed, things_used}
use Rattle.ixl_spec.specs.Due.{Admissible, AllClear, At, CountsAsClosed, IsAvailable, IsClear, IsHeldAt, IsOccupied, IsRouteOf}
use Rattle.ixl_spec.specs.Commands.{closed_refusal, conflict_told, first_failing, is_point_wanting, locking_refusal, refusal, refused_where, request_refusal}
use Rattle.ixl_spec.specs.declared.command.Command.TheVariants as commands
use Rattle.ixl_spec.specs.declared.command.Refusal.{Refusal}
use Rattle.ixl_spec.specs.declared.command.Refusal.TheVariants as refusals
use Rattle.ixl_spec.specs.Refusals.{AreThere, IsCause, IsFirstOf, IsRequestRefused, IsSignalThere, IsThere, IsUnblocked, IsUnknown, NoneOccupied, Obeys}
use Rattle.ixl_spec.proofs.Lists.{contains-here}
use Rattle.ixl_spec.proofs.Decide.{Decides, all_decides, both_decide, equally, negation_decides, no, one_fails, or_decide}
use Rattle.ixl_spec.proofs.Knows.{available_decides, clear_decides, known_stop_decides, occupied_decides, signal_ready_decides}
use Rattle.ixl_spec.proofs.Closed.{counts_decides}
use Rattle.ixl_spec.proofs.HoldTests.{first_found, held_at_decides, none_found, none_is}

-- two facts of what a list has at a place are facts of one
at_one_place : {A : Type 0} (list : List A) (place : ℕ) (P Q : A → Type 0) → At list place P → At list place Q → (one : A) × (P one × Q one)
at_one_place list place P Q p q = (p.0, (p.2, subst Q (same_Some _ _ (sym q.1 ∙ p.1)) q.2))

pub clear_or_occupied : (table : Table) (ixl : IxlState) (section : ℕ) → IsClear table ixl section → IsOccupied table ixl section → ⊥
clear_or_occupied table ixl section clear occupied =
    let reporter = at_one_place table.reporters section _ _ clear occupied
    in let detector = at_one_place ixl.detectors reporter.0.0 _ _ reporter.1.0 reporter.1.1
    in true≢false (sym detector.1.1.1 ∙ detector.1.0.1)

of_all : {A : Type 0} (holds : A → Type 0) (list : List A) → All holds list → (one : A) → Contains list one → holds one
of_all holds list all one is = subst holds is.2 (all is.0 one is.1)

all_of : {A : Type 0} (holds : A → Type 0) (list : List A) → ((one : A) → Contains list one → holds one) → All holds list
all_of holds list each = λ place other within. each _ (All-contains_itself list place other within)

-- ---- one cause after another

by_first_failing : {A : Type 0} (Tells : Option Refusal → Type 0) (fails : A → Bool) (Fails : A → Type 0) (told : A → Refusal) (list : List A) (otherwise : Option Refusal) →
    ((one : A) → Decides (fails one) (Fails one)) → ((one : A) → IsFirstOf Fails list one → Tells (Some (told one))) → (All (λ one. Fails one → ⊥) list → Tells otherwise) →
    Tells (first_failing fails told list otherwise)
by_first_failing Tells fails Fails told [] otherwise each failing passing = passing (All-nil _)
by_first_failing {A} Tells fails Fails told (first ∷ others) otherwise each failing passing =
    by_test (fails first) refl (by_first_failing Tells fails Fails told others otherwise each)
  where
    by_test : (b : Bool) → fails first ≡ b →
        (((one : A) → IsFirstOf Fails others one → Tells (Some (told one))) → (All (λ one. Fails one → ⊥) others → Tells otherwise) → Tells (first_failing fails told others otherwise)) →
        Tells (if b then Some (told first) else first_failing fails told others otherwise)
    by_test true is behind = failing first ([], others, refl, All-nil (λ one. Fails one → ⊥), (each first).yes is)
    by_test false is behind = behind
        (λ one found. failing one (first ∷ found.0, found.1, ap (λ l. first ∷ l) found.2, All-cons (λ one. Fails one → ⊥) first found.0 (no (fails first) (Fails first) (each first) is) found.3, found.4))
        (λ none. passing (All-cons (λ one. Fails one → ⊥) first others (no (fails first) (Fails first) (each first) is) none))

pub by_refused_where : (Tells : Option Refusal → Type 0) (fails : Bool) (Fails : Type 0) (told : Refusal) (otherwise : Option Refusal) → Decides fails Fails →
    (Fails → Tells (Some told)) → ((Fails → ⊥) → Tells otherwise) → Tells (refused_where fails told otherwise)
by_refused_where Tells true Fails told otherwise is failing passing = failing (is.yes refl)
by_refused_where Tells false Fails told otherwise is failing passing = passing (no _ _ is refl)

-- ---- of a request past the first four tests

wanting_decides : (table : Table) (ixl : IxlState) (need : Need) → Decides (is_point_wanting table ixl need) (IsThere table ixl need → ⊥)
wanting_decides table ixl need = equally _ _ _
    (both_decide _ _ _ _ (negation_decides _ _ (available_decides ixl need.point)) (negation_decides _ _ (held_at_decides table ixl need.point need.side)))
    neither (λ none. ((λ is. none (inl is)), (λ is. none (inr is))))
  where
    neither : (IsAvailable ixl need.point → ⊥) × (IsHeldAt table ixl need.point need.side → ⊥) → IsThere table ixl need → ⊥
    neither none (inl is) = none.0 is
    neither none (inr is) = none.1 is

-- what is decided holds or doesn't
pub stands : (test : Bool) (fact : Type 0) → Decides test fact → ((fact → ⊥) → ⊥) → fact
stands true fact is doubly = is.yes refl
stands false fact is doubly = absurd (doubly (no _ _ is refl))

are_there : (table : Table) (ixl : IxlState) (needs : List Need) → All (λ need. (IsThere table ixl need → ⊥) → ⊥) needs → AreThere table ixl needs
are_there table ixl needs is = λ place other within. stands _ _
    (or_decide _ _ _ _ (available_decides ixl _) (held_at_decides table ixl _ _)) (is place other within)

away_decides : (now : ℕ) (ixl : IxlState) (signal : ℕ) → Decides (not (is_signal_ready ixl signal) || not (is_at_known_stop now ixl signal)) (IsSignalThere now ixl signal → ⊥)
away_decides now ixl signal = by (is_signal_ready ixl signal) (is_at_known_stop now ixl signal) (signal_ready_decides ixl signal) (known_stop_decides now ixl signal) where
  by : (a b : Bool) {one other : Type 0} → Decides a one → Decides b other → Decides (not a || not b) (one × other → ⊥)
  by false b is also = record { yes = λ r both. no _ _ is refl both.0; shown = λ none. refl }
  by true false is also = record { yes = λ r both. no _ _ also refl both.1; shown = λ none. refl }
  by true true is also = record { yes = λ r. absurd (false≢true r); shown = λ none. absurd (none (is.yes refl, also.yes refl)) }

unknown_decides : (table : Table) (ixl : IxlState) (section : ℕ) → Decides (is_unknown table ixl section) (IsUnknown table ixl section)
unknown_decides table ixl section = both_decide _ _ _ _ (negation_decides _ _ (clear_decides table ixl section)) (negation_decides _ _ (occupied_decides table ixl section))

down_decides : (table : Table) (ixl : IxlState) (sections : List ℕ) →
    Decides (not (list_all (λ section. not (is_unknown table ixl section)) sections)) ((section : ℕ) × Contains sections section × IsUnknown table ixl section)
down_decides table ixl sections = record { yes = λ is. found (list_all known sections) refl is; shown = λ is. failing is (list_all known sections) refl } where
  known : ℕ → Bool
  known section = not (is_unknown table ixl section)

  all : list_all known sections ≡ true → All (λ section. IsUnknown table ixl section → ⊥) sections
  all = (all_decides known _ sections (λ section. negation_decides _ _ (unknown_decides table ixl section))).yes

  unknown_where : (b : Bool) → not b ≡ false → b ≡ true
  unknown_where true is = refl
  unknown_where false is = absurd (true≢false is)

  found : (b : Bool) → list_all known sections ≡ b → not b ≡ true → (section : ℕ) × Contains sections section × IsUnknown table ixl section
  found true is no_one = absurd (false≢true no_one)
  found false is some = let one = one_fails known sections is in (one.0, one.1, (unknown_decides table ixl one.0).yes (unknown_where _ one.2))

  failing : ((section : ℕ) × Contains sections section × IsUnknown table ixl section) → (b : Bool) → list_all known sections ≡ b → not b ≡ true
  failing one false is = refl
  failing one true is = absurd (of_all (λ section. IsUnknown table ixl section → ⊥) sections (all is) one.0 one.1 one.2)

clear_where : (table : Table) (ixl : IxlState) (sections : List ℕ) → NoneOccupied table ixl sections →
    (((section : ℕ) × Contains sections section × IsUnknown table ixl section) → ⊥) → AllClear table ixl sections
clear_where table ixl sections free known = all_of _ sections (λ section within.
    stands _ _ (clear_decides table ixl section) (λ other. known (section, within, (other, of_all (λ section. IsOccupied table ixl section → ⊥) sections free section within))))

abbrev Lockable : ℕ → Table → IxlState → ℕ → Row → Type 0
Lockable now table ixl number row =
    (IsUnblocked table ixl number row × AllClear table ixl row.sections) × (AreThere table ixl row.needs × IsSignalThere now ixl row.entry)

abbrev Tells : ℕ → Table → IxlState → ℕ → Row → Option Refusal → Type 0
Tells now table ixl number row None = Lockable now table ixl number row
Tells now table ixl number row (Some cause) = IsCause now table ixl number row cause

locking_tells : (now : ℕ) (table : Table) (ixl : IxlState) (number : ℕ) (row : Row) → Tells now table ixl number row (locking_refusal now table ixl number row)
unfolding locking_refusal
locking_tells now table ixl number row = by_found (first_blocking number row 0 table.rows ixl.routes) refl where
  by_found : (found : Option ℕ) → first_blocking number row 0 table.rows ixl.routes ≡ found → Tells now table ixl number row (conflict_told found
      (first_failing (is_occupied table ixl) (λ section. refusals.NotClear (record { 0 = section })) row.sections
      (first_failing (is_point_wanting table ixl) (λ need. refusals.PointUnavailable (record { 0 = need.point })) row.needs
      (refused_where (not (is_signal_ready ixl row.entry) || not (is_at_known_stop now ixl row.entry)) refusals.SignalUnavailable
      (refused_where (not (list_all (λ section. not (is_unknown table ixl section)) row.sections)) refusals.DetectionDown None)))))
  by_found (Some blocking) is = first_found table ixl number row blocking is
  by_found None is =
      by_first_failing (Tells now table ixl number row) _ (IsOccupied table ixl) _ row.sections _ (occupied_decides table ixl) (λ section first. (none_found table ixl number row is, first))
      (λ free. by_first_failing (Tells now table ixl number row) _ (λ need. IsThere table ixl need → ⊥) _ row.needs _ (wanting_decides table ixl) (λ need first. (none_found table ixl number row is, free, (need, refl, first)))
      (λ some. by_refused_where (Tells now table ixl number row) _ _ _ _ (away_decides now ixl row.entry) (λ away. (none_found table ixl number row is, free, are_there table ixl row.needs some, away))
      (λ near. let there : IsSignalThere now ixl row.entry = stands _ _ (both_decide _ _ _ _ (signal_ready_decides ixl row.entry) (known_stop_decides now ixl row.entry)) near
      in by_refused_where (Tells now table ixl number row) _ _ _ _ (down_decides table ixl row.sections) (λ down. (none_found table ixl number row is, free, are_there table ixl row.needs some, there, down))
      (λ known. ((none_found table ixl number row is, clear_where table ixl row.sections free known), (are_there table ixl row.needs some, there))))))

-- ---- of a request

abbrev pub Answers : ℕ → Table → IxlState → ℕ → Option Refusal → Type 0
Answers now table ixl number None = Admissible now table ixl number
Answers now table ixl number (Some cause) = IsRequestRefused now table ixl number cause

pub request_answers : (now : ℕ) (table : Table) (ixl : IxlState) (route : RouteId) → Answers now table ixl route.0 (refusal now table (commands.Request route) ixl)
unfolding refusal closed_refusal
request_answers now table ixl route = by_row (slice_get table.rows route.0) (slice_get ixl.routes route.0) refl refl where
  by_row : (row : Option Row) (state : Option RouteState) → slice_get table.rows route.0 ≡ row → slice_get ixl.routes route.0 ≡ state →
      Answers now table ixl route.0 (request_refusal now table ixl route.0 row state)
  by_row None state is also = λ known. none_is (sym is ∙ known.2.0)
  by_row (Some row) None is also = λ known. none_is (sym also ∙ known.2.1)
  by_row (Some row) (Some state) is also = by_hold (is_holding now ixl) refl where
    by_hold : (b : Bool) → is_holding now ixl ≡ b → Answers now table ixl route.0 (refused_where b refusals.Holding
        (refused_where (not ixl.resumed) refusals.NotResumed (refused_where (is_set state.phase) refusals.AlreadySet (option_or (locking_refusal now table ixl route.0 row) (closed_refusal table ixl route.0 row)))))
    by_hold true holding = ((row, state, (is, also)), holding)
    by_hold false over = by_resumed ixl.resumed refl where
      by_resumed : (b : Bool) → ixl.resumed ≡ b → Answers now table ixl route.0
          (refused_where (not b) refusals.NotResumed (refused_where (is_set state.phase) refusals.AlreadySet (option_or (locking_refusal now table ixl route.0 row) (closed_refusal table ixl route.0 row))))
      by_resumed false waits = ((row, state, (is, also)), over, waits)
      by_resumed true resumed = by_set (is_set state.phase) refl where
        by_set : (b : Bool) → is_set state.phase ≡ b → Answers now table ixl route.0 (refused_where b refusals.AlreadySet (option_or (locking_refusal now table ixl route.0 row) (closed_refusal table ixl route.0 row)))
        by_set true set = ((over, resumed), (row, state, (is, also), set))
        by_set false free = told (locking_refusal now table ixl route.0 row) (locking_tells now table ixl route.0 row) where
          past : (cause : Refusal) → IsCause now table ixl route.0 row cause →
              Obeys now ixl × ((row : Row) × (state : RouteState) × IsRouteOf table ixl route.0 row state × (is_set state.phase ≡ false) × IsCause now table ixl route.0 row cause)
          past cause why = ((over, resumed), (row, state, (is, also), free, why))

          admissible : Lockable now table ixl route.0 row → All (λ thing. CountsAsClosed table ixl thing → ⊥) (things_used route.0 row) → Admissible now table ixl route.0
          admissible can none = record {
            row = row;
            route = state;
            known = (is, also);
            over = over;
            resumed = resumed;
            free = free;
            unblocked = can.0.0;
            clear = can.0.1;
            points = of_all (IsThere table ixl) row.needs can.1.0;
            ready = can.1.1.0;
            at_stop = can.1.1.1;
            unclosed = of_all (λ thing. CountsAsClosed table ixl thing → ⊥) (things_used route.0 row) none;
          }

          -- nothing but what is closed stands against it
          unclosed : Lockable now table ixl route.0 row → Answers now table ixl route.0 (closed_refusal table ixl route.0 row)
          unclosed can = by_first_failing (Answers now table ixl route.0) (counts_as_closed table ixl) (CountsAsClosed table ixl) refusals.Closed (things_used route.0 row) None (counts_decides table ixl)
              (λ thing first. past (refusals.Closed thing) (can.0.0, can.0.1, can.1.0, can.1.1, first)) (admissible can)

          told : (found : Option Refusal) → Tells now table ixl route.0 row found → Answers now table ixl route.0 (option_or found (closed_refusal table ixl route.0 row))
          told None can = unclosed can
          told (Some (refusals.Conflict a)) why = past (refusals.Conflict a) why
          told (Some (refusals.NotClear section)) why = past (refusals.NotClear section) why
          told (Some (refusals.PointUnavailable point)) why = past (refusals.PointUnavailable point) why
          told (Some refusals.SignalUnavailable) why = past refusals.SignalUnavailable why
          told (Some refusals.DetectionDown) why = past refusals.DetectionDown why
          told (Some (refusals.Closed thing)) why = past (refusals.Closed thing) why
          told (Some refusals.UnknownRoute) why = absurd why
          told (Some refusals.Holding) why = absurd why
          told (Some refusals.NotResumed) why = absurd why
          told (Some refusals.AlreadySet) why = absurd why
          told (Some refusals.NotSet) why = absurd why
          told (Some refusals.NoSuchThing) why = absurd why
          told (Some refusals.NotEnded) why = absurd why
          told (Some (refusals.Held a)) why = absurd why

pub refuses_for_cause : (now : ℕ) (table : Table) (ixl : IxlState) (route : RouteId) (cause : Refusal) → refusal now table (commands.Request route) ixl ≡ Some cause → IsRequestRefused now table ixl route.0 cause
refuses_for_cause now table ixl route cause is = subst (Answers now table ixl route.0) is (request_answers now table ixl route)

-- no cause is given for a request that is admissible
first_of : {A : Type 0} (holds : A → Type 0) (list : List A) (one : A) → IsFirstOf holds list one → Contains list one × holds one
first_of holds list one found = (subst (λ l. Contains l one) (sym found.2) (Contains-append_right found.0 (one ∷ found.1) one (contains-here one found.1)), found.4)

cause_is_not : (now : ℕ) (table : Table) (ixl : IxlState) (number : ℕ) (can : Admissible now table ixl number) (cause : Refusal) → IsCause now table ixl number can.row cause → ⊥
cause_is_not now table ixl number can (refusals.Conflict a) why = can.unblocked a.0 why.0
cause_is_not now table ixl number can (refusals.NotClear section) why =
    let one = first_of (IsOccupied table ixl) can.row.sections section.0 why.1
    in clear_or_occupied table ixl section.0 (of_all (IsClear table ixl) can.row.sections can.clear section.0 one.0) one.1
cause_is_not now table ixl number can (refusals.PointUnavailable point) why =
    let one = first_of (λ need. IsThere table ixl need → ⊥) can.row.needs why.2.0 why.2.2 in one.1 (can.points why.2.0 one.0)
cause_is_not now table ixl number can refusals.SignalUnavailable why = why.3 (can.ready, can.at_stop)
cause_is_not now table ixl number can refusals.DetectionDown why =
    why.4.2.0 (of_all (IsClear table ixl) can.row.sections can.clear why.4.0 why.4.1)
cause_is_not now table ixl number can (refusals.Closed thing) why =
    let one = first_of (CountsAsClosed table ixl) (things_used number can.row) thing why.4 in can.unclosed thing one.0 one.1
cause_is_not now table ixl number can refusals.NoSuchThing why = why
cause_is_not now table ixl number can refusals.NotEnded why = why
cause_is_not now table ixl number can (refusals.Held a) why = why
cause_is_not now table ixl number can refusals.UnknownRoute why = why
cause_is_not now table ixl number can refusals.Holding why = why
cause_is_not now table ixl number can refusals.NotResumed why = why
cause_is_not now table ixl number can refusals.AlreadySet why = why
cause_is_not now table ixl number can refusals.NotSet why = why

same_row : (now : ℕ) (table : Table) (ixl : IxlState) (number : ℕ) (can : Admissible now table ixl number) (row : Row) (route : RouteState) → IsRouteOf table ixl number row route →
    (cause : Refusal) → IsCause now table ixl number row cause → ⊥
same_row now table ixl number can row route is cause why =
    cause_is_not now table ixl number can cause (subst (λ r. IsCause now table ixl number r cause) (same_Some _ _ (sym is.0 ∙ can.known.0)) why)

never_refused : (now : ℕ) (table : Table) (ixl : IxlState) (number : ℕ) → Admissible now table ixl number → (cause : Refusal) → IsRequestRefused now table ixl number cause → ⊥
never_refused now table ixl number can refusals.UnknownRoute why = why (can.row, can.route, can.known)
never_refused now table ixl number can refusals.Holding why = true≢false (sym why.1 ∙ can.over)
never_refused now table ixl number can refusals.NotResumed why = true≢false (sym can.resumed ∙ why.2)
never_refused now table ixl number can refusals.AlreadySet why =
    true≢false (sym why.1.3 ∙ ap (λ route. is_set route.phase) (same_Some _ _ (sym why.1.2.1 ∙ can.known.1)) ∙ can.free)
never_refused now table ixl number can (refusals.Conflict a) why = same_row now table ixl number can why.1.0 why.1.1 why.1.2 (refusals.Conflict a) why.1.4
never_refused now table ixl number can (refusals.NotClear section) why = same_row now table ixl number can why.1.0 why.1.1 why.1.2 (refusals.NotClear section) why.1.4
never_refused now table ixl number can (refusals.PointUnavailable point) why = same_row now table ixl number can why.1.0 why.1.1 why.1.2 (refusals.PointUnavailable point) why.1.4
never_refused now table ixl number can refusals.SignalUnavailable why = same_row now table ixl number can why.1.0 why.1.1 why.1.2 refusals.SignalUnavailable why.1.4
never_refused now table ixl number can refusals.DetectionDown why = same_row now table ixl number can why.1.0 why.1.1 why.1.2 refusals.DetectionDown why.1.4
never_refused now table ixl number can refusals.NotSet why = same_row now table ixl number can why.1.0 why.1.1 why.1.2 refusals.NotSet why.1.4
never_refused now table ixl number can (refusals.Closed thing) why = same_row now table ixl number can why.1.0 why.1.1 why.1.2 (refusals.Closed thing) why.1.4
never_refused now table ixl number can refusals.NoSuchThing why = same_row now table ixl number can why.1.0 why.1.1 why.1.2 refusals.NoSuchThing why.1.4
never_refused now table ixl number can refusals.NotEnded why = same_row now table ixl number can why.1.0 why.1.1 why.1.2 refusals.NotEnded why.1.4
never_refused now table ixl number can (refusals.Held a) why = same_row now table ixl number can why.1.0 why.1.1 why.1.2 (refusals.Held a) why.1.4

pub accepts_admissible : (now : ℕ) (table : Table) (ixl : IxlState) (route : RouteId) → refusal now table (commands.Request route) ixl ≡ None ↔ Admissible now table ixl route.0
accepts_admissible now table ixl route = (λ is. subst (Answers now table ixl route.0) is (request_answers now table ixl route), back) where
  back : Admissible now table ixl route.0 → refusal now table (commands.Request route) ixl ≡ None
  back can = by_answer (refusal now table (commands.Request route) ixl) (request_answers now table ixl route) where
    by_answer : (found : Option Refusal) → Answers now table ixl route.0 found → found ≡ None
    by_answer None is = refl
    by_answer (Some cause) why = absurd (never_refused now table ixl route.0 can cause why)
