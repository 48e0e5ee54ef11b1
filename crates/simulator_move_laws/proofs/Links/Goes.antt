-- An event in which neither end enters a connection.
use Rattle.std.proofs.Common.{◌≡◌, ◌≢◌, ◌⊎◌, inl, inr, ℕ, Bool, true, false, Option, Some, None, refl, sym, ap, subst, ◌∙◌, arith}
use Rattle.std.specs.Prelude.{◌==◌}
use Rattle.std.proofs.lemmas.Bool.Decides.{nat_tests}
use Rattle.rasta_core.specs.Clock.{settled}
use Rattle.rasta_core.specs.Ends.{EndState, reading_of}
use Rattle.rasta_core.specs.Invariant.{Timely}
use Rattle.rasta_core.specs.Names.{Names}
use Rattle.rasta_core.specs.Run.{Ends, end_of}
use Rattle.rasta_core.specs.Sentences.{IsDownNow, IsIn, IsOut}
use Rattle.rasta_core.specs.State.{is_open, is_up}
use Rattle.rasta_core.specs.identity.Role.{Role}
use Rattle.rasta_core.specs.identity.Role.TheVariants as role
use Rattle.simulator_machine.specs.Link.{Client, Quiet, Down, Start, Up, Server, Before, In}
use Rattle.simulator_move_laws.specs.LinkMoves.{LinkGoes, moves_between, moves_by, server_moves}
use Rattle.simulator_move_laws.specs.EndsSeen.{client_of, is_inside, is_same_connection, represented, server_in, server_of, state_of}
use Rattle.simulator_move_laws.proofs.Links.Chains.{ClientMay, ServerMay, both_go}
use Rattle.simulator_move_laws.proofs.Links.States.{IsSettled, IsShut, client_shut, client_start, client_up, inside_open, inside_shut, is_down, up_is_up}

-- the laws of the link that tell where its ends may be
pub record PlaceLaws : Type 0 where
  pub settles : (names : Names) (ends : Ends) (who : Role) → Timely names ends → settled (reading_of (end_of who ends).clock) (end_of who ends).link ≡ (end_of who ends).link
  pub alone : (names : Names) (ends : Ends) → Timely names ends → IsDownNow role.Client ends → IsOut role.Server ends
  pub joined : (names : Names) (ends : Ends) → Timely names ends → is_up ends.client.link.phase ≡ true → ends.server.connection ≡ ends.client.connection
  pub together : (names : Names) (ends : Ends) → Timely names ends → IsIn role.Server ends → ends.server.connection ≡ ends.client.connection

-- ---- a connection

equal : (n : ℕ) → (n == n) ≡ true
equal n = grind (arith, nat_tests)

pub same_self : (connection : Option ℕ) → is_same_connection connection connection ≡ true
same_self None = refl
same_self (Some n) = equal n

-- ---- what can be said of two ends

module _ (laws : PlaceLaws) (names : Names) (ends : Ends) (timely : Timely names ends) where
  pub client_settled : IsSettled (reading_of ends.client.clock) ends.client.link
  client_settled = laws.settles names ends role.Client timely

  pub server_settled : IsSettled (reading_of ends.server.clock) ends.server.link
  server_settled = laws.settles names ends role.Server timely

  pub inside_is : is_inside (state_of ends.server) ≡ is_open ends.server.link.phase
  inside_is = by_phase (is_open ends.server.link.phase) refl where
    by_phase : (o : Bool) → is_open ends.server.link.phase ≡ o → is_inside (state_of ends.server) ≡ o
    by_phase true e = inside_open ends.server server_settled e
    by_phase false e = inside_shut ends.server e

  pub open_same : is_open ends.server.link.phase ≡ true → is_same_connection ends.client.connection ends.server.connection ≡ true
  open_same opened = ap (is_same_connection ends.client.connection) (laws.together names ends timely opened) ∙ same_self ends.client.connection

  pub not_inside : (same : Bool) → is_inside (state_of ends.server) ≡ false → server_in (is_inside (state_of ends.server)) same ≢ In
  not_inside same outside is = shut_in same (ap (λ (b : Bool). server_in b same) (sym outside) ∙ is) where
    shut_in : (same : Bool) → server_in false same ≡ In → ⊥
    shut_in true e = cc
    shut_in false e = cc

  pub down_not_in : client_of ends.client ≡ Down → server_of ends ≢ In
  down_not_in down = not_inside _ (inside_is ∙ laws.alone names ends timely (is_down ends.client down))

  not_before : (inside : Bool) → server_in inside true ≢ Before
  not_before true e = cc
  not_before false e = cc

  pub up_not_before : client_of ends.client ≡ Up → server_of ends ≢ Before
  up_not_before up is =
      let same : is_same_connection ends.client.connection ends.server.connection ≡ true
      = ap (is_same_connection ends.client.connection) (laws.joined names ends timely (up_is_up ends.client client_settled up)) ∙ same_self ends.client.connection
      in not_before (is_inside (state_of ends.server)) (ap (server_in (is_inside (state_of ends.server))) (sym same) ∙ is)

-- ---- from one place to another

-- what is told of a client by whether it is in a connection, and whether it is up
abbrev Told : Bool → Bool → Client → Type 0
Told false up client = (client ≡ Quiet) ⊎ (client ≡ Down)
Told true true client = client ≡ Up
Told true false client = client ≡ Start

told : (end : EndState) → IsSettled (reading_of end.clock) end.link → Told (is_open end.link.phase) (is_up end.link.phase) (client_of end)
told end settles = by_phase (is_open end.link.phase) (is_up end.link.phase) refl refl where
  by_phase : (o u : Bool) → is_open end.link.phase ≡ o → is_up end.link.phase ≡ u → Told o u (client_of end)
  by_phase false u e f = client_shut end e
  by_phase true true e f = client_up end settles f
  by_phase true false e f = client_start end settles e f

alike : (server : Server) (c d : Client) (of_c of_d : Client) → c ≡ of_c → d ≡ of_d → ClientMay server of_c of_d → ClientMay server c d
alike server c d of_c of_d e f may = subst (λ (x : Client). ClientMay server x d) (sym e) (subst (λ (x : Client). ClientMay server of_c x) (sym f) may)

client_may : (server : Server) (o u o' u' : Bool) (c d : Client) → Told o u c → Told o' u' d → (o ≡ false → o' ≡ false) → (u ≡ true → o' ≡ true → u' ≡ true)
    → (d ≡ Down → server ≢ In) → (d ≡ Up → server ≢ Before) → ClientMay server c d
client_may server false u false u' c d (inl is) (inl will) shut kept down up = alike server c d Quiet Quiet is will tt
client_may server false u false u' c d (inl is) (inr will) shut kept down up = alike server c d Quiet Down is will (down will)
client_may server false u false u' c d (inr is) (inl will) shut kept down up = alike server c d Down Quiet is will tt
client_may server false u false u' c d (inr is) (inr will) shut kept down up = alike server c d Down Down is will tt
client_may server false u true u' c d is will shut kept down up = absurd (cc (shut refl))
client_may server true true false u' c d is (inl will) shut kept down up = alike server c d Up Quiet is will tt
client_may server true true false u' c d is (inr will) shut kept down up = alike server c d Up Down is will (down will)
client_may server true false false u' c d is (inl will) shut kept down up = alike server c d Start Quiet is will tt
client_may server true false false u' c d is (inr will) shut kept down up = alike server c d Start Down is will (down will)
client_may server true true true true c d is will shut kept down up = alike server c d Up Up is will tt
client_may server true true true false c d is will shut kept down up = absurd (cc (kept refl refl))
client_may server true false true true c d is will shut kept down up = alike server c d Start Up is will (up will)
client_may server true false true false c d is will shut kept down up = alike server c d Start Start is will tt

server_may : (client : Client) (inside inside' same same' : Bool) → same' ≡ same → (inside ≡ true → same ≡ true) → (inside ≡ false → inside' ≡ false)
    → ServerMay client (server_in inside same) (server_in inside' same')
server_may client true true same same' kept is shut = tt
server_may client true false same true kept is shut = tt
server_may client true false same false kept is shut = absurd (cc (is refl, kept))
server_may client false true same same' kept is shut = absurd (cc (shut refl))
server_may client false false true true kept is shut = tt
server_may client false false false false kept is shut = tt
server_may client false false true false kept is shut = absurd (cc kept)
server_may client false false false true kept is shut = absurd (cc kept)

-- An end that enters no connection keeps its last one, and stays outside where it is.
pub record EntersNone (old new : EndState) : Type 0 where
  pub connection : new.connection ≡ old.connection
  pub shut : IsShut old.link → IsShut new.link

-- A client that is up and stays in its connection stays up.
abbrev pub StaysUp : EndState → EndState → Type 0
StaysUp old new = is_up old.link.phase ≡ true → is_open new.link.phase ≡ true → is_up new.link.phase ≡ true

-- An event as moves of the link, and those of the server, told by whether it is in a connection.
pub record IsMoved (entered : Bool) (old new : Ends) : Type 0 where
  pub goes : LinkGoes (moves_between (represented old) (represented new)) (represented old) (represented new)
  pub told : server_moves (server_of old) (server_of new) ≡ moves_by entered (is_open old.server.link.phase) (is_open new.server.link.phase)

pub told_by : (was is same same' : Bool) → same' ≡ same → (was ≡ true → same ≡ true) → (was ≡ false → is ≡ false) → server_moves (server_in was same) (server_in is same') ≡ moves_by false was is
told_by true true same same' kept was shut = refl
told_by true false true true kept was shut = refl
told_by true false true false kept was shut = absurd (cc kept)
told_by true false false same' kept was shut = absurd (cc (was refl))
told_by false true same same' kept was shut = absurd (cc (shut refl))
told_by false false true true kept was shut = refl
told_by false false false false kept was shut = refl
told_by false false true false kept was shut = absurd (cc kept)
told_by false false false true kept was shut = absurd (cc kept)

none_goes : PlaceLaws → (names : Names) (old new : Ends) → Timely names old → Timely names new → EntersNone old.client new.client → EntersNone old.server new.server → StaysUp old.client new.client
    → LinkGoes (moves_between (represented old) (represented new)) (represented old) (represented new)
unfolding represented
none_goes laws names old new before after client server up =
    both_go (client_of old.client) (client_of new.client) (server_of old) (server_of new)
    (server_may (client_of old.client) (is_inside (state_of old.server)) (is_inside (state_of new.server))
    (is_same_connection old.client.connection old.server.connection) (is_same_connection new.client.connection new.server.connection)
    (ap (λ (c : Option ℕ). is_same_connection c new.server.connection) client.connection ∙ ap (is_same_connection old.client.connection) server.connection)
    (λ inside. open_same laws names old before (sym (inside_is laws names old before) ∙ inside))
    (λ outside. inside_is laws names new after ∙ server.shut (sym (inside_is laws names old before) ∙ outside)))
    (client_may (server_of new) (is_open old.client.link.phase) (is_up old.client.link.phase) (is_open new.client.link.phase) (is_up new.client.link.phase) (client_of old.client) (client_of new.client)
    (told old.client (client_settled laws names old before)) (told new.client (client_settled laws names new after)) client.shut up
    (down_not_in laws names new after) (up_not_before laws names new after))

same_flag : (old new : Ends) → EntersNone old.client new.client → EntersNone old.server new.server
    → is_same_connection new.client.connection new.server.connection ≡ is_same_connection old.client.connection old.server.connection
same_flag old new client server =
    ap (λ (c : Option ℕ). is_same_connection c new.server.connection) client.connection ∙ ap (is_same_connection old.client.connection) server.connection

-- the server at its clock, and in its phase
pub in_phase : PlaceLaws → (names : Names) (ends : Ends) → Timely names ends → server_of ends ≡ server_in (is_open ends.server.link.phase) (is_same_connection ends.client.connection ends.server.connection)
in_phase laws names ends timely = ap (λ (b : Bool). server_in b (is_same_connection ends.client.connection ends.server.connection)) (inside_is laws names ends timely)

pub by_phases : PlaceLaws → (names : Names) (old new : Ends) → Timely names old → Timely names new
    → server_moves (server_in (is_open old.server.link.phase) (is_same_connection old.client.connection old.server.connection)) (server_in (is_open new.server.link.phase) (is_same_connection new.client.connection new.server.connection))
    ≡ server_moves (server_of old) (server_of new)
by_phases laws names old new before after =
    sym (ap (λ (s : Server). server_moves s (server_of new)) (in_phase laws names old before)
    ∙ ap (server_moves (server_in (is_open old.server.link.phase) (is_same_connection old.client.connection old.server.connection))) (in_phase laws names new after))

pub none_entered : PlaceLaws → (names : Names) (old new : Ends) → Timely names old → Timely names new → EntersNone old.client new.client → EntersNone old.server new.server → StaysUp old.client new.client
    → IsMoved false old new
none_entered laws names old new before after client server up = record {
  goes = none_goes laws names old new before after client server up;
  told = sym (by_phases laws names old new before after)
      ∙ told_by (is_open old.server.link.phase) (is_open new.server.link.phase) (is_same_connection old.client.connection old.server.connection) (is_same_connection new.client.connection new.server.connection)
      (same_flag old new client server) (open_same laws names old before) server.shut;
}
