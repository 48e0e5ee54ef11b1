-- Calls of an intake, one after another.
use Rattle.std.proofs.Common.{◌≡◌, ◌∙◌, ℕ, List, [], ◌∷◌, ◌++◌, Option, Some, None, refl, sym, ap, subst, append_assoc}
use Rattle.datagram_hold.specs.Came.{Came}
use Rattle.datagram_hold.specs.Intake.{AsksAt, FindsEmpty, Forgets, IntakeCall, IntakeState, ReadsClock, TakesFrom, forgotten, found_empty, given, intake_called, intake_run, taken_from}
use Rattle.std.specs.Option.{option_map, option_to_list}
use Rattle.datagram_hold.specs.declared.network.Network.{Network}
use Rattle.node_drive.specs.Calls.{DatagramHeard}
use Rattle.node_drive.specs.declared.outside.NextDatagram.{NextDatagram}
use Rattle.node_network.specs.Intakes.{Answers, AnswersIfAny, AreFrom, IsSender, Places, Takes, empty, failed, handed, heard_of, strange}

run_append : (xs ys : List IntakeCall) (a : IntakeState)
    → intake_run (xs ++ ys) a ≡ ((intake_run xs a).0 ++ (intake_run ys (intake_run xs a).1).0, (intake_run ys (intake_run xs a).1).1)
run_append [] ys a = refl
run_append (call ∷ xs) ys a =
    let first = intake_called call a in
    let more = intake_run xs first.1 in
    let last = intake_run ys more.1 in
    ap (λ (r : List Came × IntakeState). (first.0 ++ r.0, r.1)) (run_append xs ys first.1)
    ∙ ap (λ (l : List Came). (l, last.1)) (sym (append_assoc first.0 more.0 last.0))

are_both : (places : Places) (xs ys : List IntakeCall) → AreFrom places xs → AreFrom places ys → AreFrom places (xs ++ ys)
are_both places [] ys one other = other
are_both places (ReadsClock reading ∷ xs) ys one other = absurd one
are_both places (TakesFrom network place bytes ∷ xs) ys one other = (one.0, are_both places xs ys one.1 other)
are_both places (FindsEmpty network ∷ xs) ys one other = are_both places xs ys one other
are_both places (AsksAt now ∷ xs) ys one other = are_both places xs ys one other
are_both places (Forgets ∷ xs) ys one other = are_both places xs ys one other

module _ {places : Places} where
  pub takes_none : (a : IntakeState) → Takes places a a []
  takes_none a = record { calls = []; are = tt; run = refl }

  pub takes_then : {a b c : IntakeState} {some more : List Came} → Takes places a b some → Takes places b c more → Takes places a c (some ++ more)
  takes_then {a} {b} {c} {some} {more} one other = record {
    calls = one.calls ++ other.calls;
    are = are_both places one.calls other.calls one.are other.are;
    run = run_append one.calls other.calls a
        ∙ ap (λ (r : List Came × IntakeState). (r.0 ++ (intake_run other.calls r.1).0, (intake_run other.calls r.1).1)) one.run
        ∙ ap (λ (r : List Came × IntakeState). (some ++ r.0, r.1)) other.run;
  }

  -- ---- one call

  pub takes_empty : {a b : IntakeState} (network : Network) → b ≡ found_empty network a → Takes places a b []
  takes_empty network e = record { calls = FindsEmpty network ∷ []; are = tt; run = ap (λ (s : IntakeState). ([], s)) (sym e) }

  pub takes_forgets : {a b : IntakeState} → b ≡ forgotten a → Takes places a b []
  takes_forgets e = record { calls = Forgets ∷ []; are = tt; run = ap (λ (s : IntakeState). ([], s)) (sym e) }

  pub takes_nothing : {a b : IntakeState} (now : ℕ) → None ≡ (given now a).0 → b ≡ (given now a).1 → Takes places a b []
  takes_nothing {a} {b} now none e = record {
    calls = AsksAt now ∷ [];
    are = tt;
    run = λ i. (option_to_list (option_map (λ (o : ℕ × Came). o.1) (sym none i)) ++ [], sym e i);
  }

  pub takes_given : {a b : IntakeState} (now place : ℕ) (one : Came) → Some (place, one) ≡ (given now a).0 → b ≡ (given now a).1 → Takes places a b (one ∷ [])
  takes_given {a} {b} now place one some e = record {
    calls = AsksAt now ∷ [];
    are = tt;
    run = λ i. (option_to_list (option_map (λ (o : ℕ × Came). o.1) (sym some i)) ++ [], sym e i);
  }

  pub takes_held : {a b : IntakeState} (network : Network) (place : ℕ) (bytes : List ℕ) → ((sender : _) × IsSender places network sender (Some (record { 0 = place }))) → None ≡ (taken_from network place bytes a).0
      → b ≡ (taken_from network place bytes a).1 → Takes places a b []
  takes_held {a} {b} network place bytes from none e = record {
    calls = TakesFrom network place bytes ∷ [];
    are = (from, tt);
    run = λ i. (option_to_list (sym none i) ++ [], sym e i);
  }

  pub takes_passed : {a b : IntakeState} (network : Network) (place : ℕ) (bytes : List ℕ) (one : Came) → ((sender : _) × IsSender places network sender (Some (record { 0 = place })))
      → Some one ≡ (taken_from network place bytes a).0 → b ≡ (taken_from network place bytes a).1 → Takes places a b (one ∷ [])
  takes_passed {a} {b} network place bytes one from some e = record {
    calls = TakesFrom network place bytes ∷ [];
    are = (from, tt);
    run = λ i. (option_to_list (sym some i) ++ [], sym e i);
  }

  -- ---- answers

  pub answers_one : {a b : IntakeState} {heard : DatagramHeard} (one : Came) → heard ≡ heard_of places one → Takes places a b (one ∷ []) → Answers places a b heard
  answers_one {a} {b} one e takes = subst (Answers places a b) (sym e) (handed takes)

  pub answers_then : {a b c : IntakeState} {heard : DatagramHeard} → Takes places a b [] → Answers places b c heard → Answers places a c heard
  answers_then before (handed takes) = handed (takes_then before takes)
  answers_then before (strange network takes none origin) = strange network (takes_then before takes) none origin
  answers_then before (empty takes clear) = empty (takes_then before takes) clear
  answers_then before (failed takes) = failed (takes_then before takes)

pub takes_at : {one other : Places} {a b : IntakeState} {all : List Came} → one ≡ other → Takes one a b all → Takes other a b all
takes_at {one} {other} {a} {b} {all} e takes = subst (λ (p : Places). Takes p a b all) e takes

pub answers_at : {one other : Places} {a b : IntakeState} {heard : DatagramHeard} → one ≡ other → Answers one a b heard → Answers other a b heard
answers_at {one} {other} {a} {b} {heard} e answers = subst (λ (p : Places). Answers p a b heard) e answers

-- one call after another that handed out nothing
pub takes_on : {one other : Places} {a b c : IntakeState} {all : List Came} → Takes other a b [] → one ≡ other → Takes one b c all → Takes other a c all
takes_on before e takes = takes_then before (takes_at e takes)

pub answers_on : {one other : Places} {a b c : IntakeState} {heard : DatagramHeard} → Takes other a b [] → one ≡ other → Answers one b c heard → Answers other a c heard
answers_on before e answers = answers_then before (answers_at e answers)

pub any_on : {one other : Places} {a b : IntakeState} (c : IntakeState) (result : Option NextDatagram) → Takes other a b [] → one ≡ other → AnswersIfAny one b c result → AnswersIfAny other a c result
any_on c None before e takes = takes_on before e takes
any_on c (Some next) before e answers = answers_on before e answers
