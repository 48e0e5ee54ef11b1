-- What was given and taken in the client's last connection.
use Rattle.std.proofs.Common.{◌≡◌, ℕ, ◌≤◌, Bool, true, false, List, [], ◌++◌, length, Option, Some, None, refl, sym, ap, subst, ◌∙◌, arith}
use Rattle.std.specs.Prelude.{◌==◌}
use Rattle.std.proofs.lemmas.Bool.Decides.{nat_tests}
use Rattle.rasta_core.specs.Ends.{EndState}
use Rattle.rasta_core.specs.Invariant.{Timely}
use Rattle.rasta_core.specs.Names.{Names}
use Rattle.rasta_core.specs.Ordered.{Ordered}
use Rattle.rasta_core.specs.Run.{Ends, end_of}
use Rattle.rasta_core.specs.Safe.{AreCounted, AreSafe, CountsNone, IsCounted, IsCountedAlone, counts, made_anew}
use Rattle.rasta_core.specs.Sentences.{IsIn}
use Rattle.rasta_core.specs.State.{LinkState, confirmed_items, is_open}
use Rattle.rasta_core.specs.identity.Role.{Role}
use Rattle.rasta_core.specs.identity.Role.TheVariants as role
use Rattle.simulator_machine.specs.Link.{Server, Before}
use Rattle.simulator_move_laws.specs.Flows.{AreInOne, Counts, FlowsInOrder, IsBeginning, commands_given, commands_taken, of_server, reports_given, reports_taken}
use Rattle.simulator_move_laws.specs.Lawful.{IsLawful}
use Rattle.simulator_move_laws.specs.EndsSeen.{is_inside, is_same_connection, server_in, server_of, state_of}
use Rattle.simulator_move_laws.proofs.Links.Goes.{PlaceLaws, inside_is, open_same}

-- the laws of the link on order
pub record FlowLaws : Type 0 where
  pub place : PlaceLaws
  pub safe : (names : Names) (ends : Ends) → Ordered names ends → AreSafe ends
  pub counted : (names : Names) (ends : Ends) → Ordered names ends → AreCounted ends
  pub alone : (names : Names) (ends : Ends) → Ordered names ends → IsCountedAlone ends
  pub some : (names : Names) (ends : Ends) (who : Role) → Timely names ends → IsIn who ends → (connection : ℕ) × ((end_of who ends).connection ≡ Some connection)
  pub early : (names : Names) (ends : Ends) (connection : ℕ) → Ordered names ends → ends.client.connection ≡ Some connection
      → (ends.server.connection ≡ Some connection → ⊥) → (ends.client.given ≡ []) × (ends.client.taken ≡ [])

-- ---- the two connections

-- both ends have had none, or are in the same, or the server isn't in the client's
data Joined (of_client of_server : Option ℕ) : Type 0 where
  neither : of_client ≡ None → of_server ≡ None → is_same_connection of_client of_server ≡ true → Joined of_client of_server
  both : (connection : ℕ) → of_client ≡ Some connection → of_server ≡ Some connection → is_same_connection of_client of_server ≡ true → Joined of_client of_server
  unbegun_client : of_client ≡ None → is_same_connection of_client of_server ≡ false → Joined of_client of_server
  apart : (connection : ℕ) → of_client ≡ Some connection → (of_server ≡ Some connection → ⊥) → is_same_connection of_client of_server ≡ false → Joined of_client of_server

same_number : (a b : ℕ) → (a == b) ≡ true → a ≡ b
same_number a b e = grind (arith, nat_tests)

other_number : (a b : ℕ) → (a == b) ≡ false → Some b ≡ Some a → ⊥
other_number a b e same = differ (numbers same) where
  numbers : Some b ≡ Some a → b ≡ a
  numbers e = cc

  differ : b ≡ a → ⊥
  differ f = grind (arith, nat_tests)

joined : (of_client of_server : Option ℕ) → Joined of_client of_server
joined None None = neither refl refl refl
joined None (Some b) = unbegun_client refl refl
joined (Some a) None = apart a refl (λ e. cc e) refl
joined (Some a) (Some b) = by_number (a == b) refl where
  by_number : (test : Bool) → (a == b) ≡ test → Joined (Some a) (Some b)
  by_number true e = both a refl (ap (λ (n : ℕ). Some n) (sym (same_number a b e))) e
  by_number false e = apart a refl (other_number a b e) e

module _ (laws : FlowLaws) (names : Names) (ends : Ends) (is : IsLawful names ends) where
  outside : (same : Bool) → is_same_connection ends.client.connection ends.server.connection ≡ false → is_open ends.server.link.phase ≡ true → ⊥
  outside same differ opened = let joins = open_same laws.place names ends is.timely opened in cc (joins, differ)

  -- a server that isn't in the client's last connection, and never was, is before it
  pub is_before : is_same_connection ends.client.connection ends.server.connection ≡ false → server_of ends ≡ Before
  is_before differ = by_phase (is_open ends.server.link.phase) refl where
    by_phase : (o : Bool) → is_open ends.server.link.phase ≡ o → server_of ends ≡ Before
    by_phase true e = absurd (outside true differ e)
    by_phase false e = ap (λ (b : Bool). server_in b (is_same_connection ends.client.connection ends.server.connection)) (inside_is laws.place names ends is.timely ∙ e) ∙ ap (server_in false) differ

  -- and any other is in it, or has left it
  after_same : (inside : Bool) (items : List (List ℕ)) → of_server (server_in inside true) items ≡ items
  after_same true items = refl
  after_same false items = refl

  pub of_same : is_same_connection ends.client.connection ends.server.connection ≡ true → (items : List (List ℕ)) → of_server (server_of ends) items ≡ items
  of_same same items = ap (λ (b : Bool). of_server (server_in (is_inside (state_of ends.server)) b) items) same ∙ after_same (is_inside (state_of ends.server)) items

  pub of_before : server_of ends ≡ Before → (items : List (List ℕ)) → of_server (server_of ends) items ≡ []
  of_before before items = ap (λ (s : Server). of_server s items) before

  not_before : (inside : Bool) → server_in inside true ≡ Before → ⊥
  not_before true e = cc e
  not_before false e = cc e

  -- before the server enters nothing is given and nothing is taken
  pub nothing_before : server_of ends ≡ Before → (ends.client.given ≡ []) × (ends.client.taken ≡ [])
  nothing_before before = choose (joined ends.client.connection ends.server.connection) where
    same_not : is_same_connection ends.client.connection ends.server.connection ≡ true → ⊥
    same_not same = not_before (is_inside (state_of ends.server)) (ap (server_in (is_inside (state_of ends.server))) (sym same) ∙ before)

    choose : Joined ends.client.connection ends.server.connection → (ends.client.given ≡ []) × (ends.client.taken ≡ [])
    choose (neither client server same) = absurd (same_not same)
    choose (both connection client server same) = absurd (same_not same)
    choose (unbegun_client client differ) = is.unused role.Client client
    choose (apart connection client server differ) = laws.early names ends connection is.ordered client server

  beginning_of : (taken given of : List (List ℕ)) (rest : List (List ℕ)) → of ≡ taken → given ≡ of ++ rest → IsBeginning taken given
  beginning_of taken given of rest same begins = record { rest = rest; same = begins ∙ ap (λ (front : List (List ℕ)). front ++ rest) same }

  pub commands_begin : IsBeginning (commands_taken ends) (commands_given ends)
  commands_begin = choose (joined ends.client.connection ends.server.connection) where
    before : server_of ends ≡ Before → IsBeginning (commands_taken ends) (commands_given ends)
    before e = record { rest = ends.client.given; same = sym (ap (λ (front : List (List ℕ)). front ++ ends.client.given) (of_before e ends.server.taken)) }

    choose : Joined ends.client.connection ends.server.connection → IsBeginning (commands_taken ends) (commands_given ends)
    choose (neither client server same) = record {
      rest = [];
      same = (is.unused role.Client client).0 ∙ sym (ap (λ (front : List (List ℕ)). front ++ []) (of_same same ends.server.taken ∙ (is.unused role.Server server).1));
    }
    choose (both connection client server same) =
        let safe = (laws.safe names ends is.ordered connection client server).0
        in record { rest = safe.rest; same = safe.beginning ∙ ap (λ (front : List (List ℕ)). front ++ safe.rest) (sym (of_same same ends.server.taken)) }
    choose (unbegun_client client differ) = before (is_before differ)
    choose (apart connection client server differ) = before (is_before differ)

  pub reports_begin : IsBeginning (reports_taken ends) (reports_given ends)
  reports_begin = choose (joined ends.client.connection ends.server.connection) where
    before : server_of ends ≡ Before → IsBeginning (reports_taken ends) (reports_given ends)
    before e = record { rest = []; same = of_before e ends.server.given ∙ sym (ap (λ (front : List (List ℕ)). front ++ []) (nothing_before e).1) }

    choose : Joined ends.client.connection ends.server.connection → IsBeginning (reports_taken ends) (reports_given ends)
    choose (neither client server same) = record {
      rest = [];
      same = of_same same ends.server.given ∙ (is.unused role.Server server).0 ∙ sym (ap (λ (front : List (List ℕ)). front ++ []) (is.unused role.Client client).1);
    }
    choose (both connection client server same) =
        let safe = (laws.safe names ends is.ordered connection client server).1
        in record { rest = safe.rest; same = of_same same ends.server.given ∙ safe.beginning }
    choose (unbegun_client client differ) = before (is_before differ)
    choose (apart connection client server differ) = before (is_before differ)

  -- ---- counts

  not_open : (l : LinkState) → is_open l.phase ≡ true → is_open l.phase ≡ false → ⊥
  not_open l opened shut = cc (opened, shut)

  begun : is_open ends.client.link.phase ≡ true → ends.client.connection ≡ None → ⊥
  begun opened none = let within = laws.some names ends role.Client is.timely opened in some_none within.0 (sym within.1 ∙ none) where
    some_none : (n : ℕ) → Some n ≡ None → ⊥
    some_none n e = cc e

  counted : (end : EndState) → IsCounted end → Counts end
  counted end (counts given taken) = record { given = λ opened. given; taken = λ opened. taken }
  counted end (made_anew shut given taken) = record { given = λ opened. absurd (not_open end.link opened shut); taken = λ opened. absurd (not_open end.link opened shut) }

  -- a client alone in its connection
  none_counted : (end : EndState) → CountsNone end → (end.given ≡ []) × (end.taken ≡ []) → Counts end
  none_counted end none nothing = record { given = λ opened. none.given ∙ sym (ap length nothing.0); taken = λ opened. none.taken ∙ sym (ap length nothing.1) }

  pub client_counts : Counts ends.client
  client_counts = choose (joined ends.client.connection ends.server.connection) where
    unbegun_counts : ends.client.connection ≡ None → Counts ends.client
    unbegun_counts none = record { given = λ opened. absurd (begun opened none); taken = λ opened. absurd (begun opened none) }

    choose : Joined ends.client.connection ends.server.connection → Counts ends.client
    choose (neither client server same) = unbegun_counts client
    choose (unbegun_client client differ) = unbegun_counts client
    choose (both connection client server same) = counted ends.client (laws.counted names ends is.ordered connection client server).0
    choose (apart connection client server differ) =
        none_counted ends.client (laws.alone names ends is.ordered connection client server) (laws.early names ends connection is.ordered client server)

  pub in_one : is_open ends.server.link.phase ≡ true → AreInOne ends
  in_one opened =
      let within = laws.some names ends role.Server is.timely opened
      in record { connection = within.0; client = sym (laws.place.together names ends is.timely opened) ∙ within.1; server = within.1 }

  pub server_counts : Counts ends.server
  server_counts = record { given = λ opened. (when opened).given opened; taken = λ opened. (when opened).taken opened } where
    when : is_open ends.server.link.phase ≡ true → Counts ends.server
    when opened = let one = in_one opened in counted ends.server (laws.counted names ends is.ordered one.connection one.client one.server).1

  none_less : (confirmed bound : ℕ) → confirmed ≡ 0 → confirmed ≤ bound
  none_less confirmed bound none = omega (arith, none)

  pub confirmed_taken : is_open ends.client.link.phase ≡ true → confirmed_items ends.client.link ≤ length (commands_taken ends)
  confirmed_taken opened = choose (joined ends.client.connection ends.server.connection) where
    choose : Joined ends.client.connection ends.server.connection → confirmed_items ends.client.link ≤ length (commands_taken ends)
    choose (neither client server same) = absurd (begun opened client)
    choose (unbegun_client client differ) = absurd (begun opened client)
    choose (both connection client server same) =
        subst (λ (items : List (List ℕ)). confirmed_items ends.client.link ≤ length items) (sym (of_same same ends.server.taken)) (laws.safe names ends is.ordered connection client server).0.confirmed
    choose (apart connection client server differ) = none_less (confirmed_items ends.client.link) (length (commands_taken ends)) (laws.alone names ends is.ordered connection client server).confirmed

  pub flows : FlowsInOrder ends
  flows = record { commands = commands_begin; reports = reports_begin; confirmed = confirmed_taken }
