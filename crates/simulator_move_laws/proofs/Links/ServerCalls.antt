-- The moves of a server in a list of its calls.
use Rattle.std.proofs.Common.{◌≡◌, ℕ, Bool, true, false, List, [], ◌∷◌, Option, Some, None, refl, sym, ap, subst, ◌∙◌}
use Rattle.std.specs.Prelude.{is_some}
use Rattle.rasta_core.specs.Ends.{Call, EndState, outcome, end_after, newer, reading_of}
use Rattle.rasta_core.specs.Events.{Calls, MayRun, run}
use Rattle.rasta_core.specs.Invariant.{Timely}
use Rattle.rasta_core.specs.Names.{AreNames, Names}
use Rattle.rasta_core.specs.Run.{Ends, called}
use Rattle.rasta_core.specs.State.{is_open}
use Rattle.rasta_core.specs.Steps.{EnterNone, StaysIn, calls_at}
use Rattle.rasta_core.specs.identity.Role.TheVariants as role
use Rattle.simulator_machine.specs.Link.{Client, Server, Link}
use Rattle.simulator_move_laws.specs.LinkMoves.{LinkGoes, moves_by, server_moves}
use Rattle.simulator_move_laws.specs.EndsSeen.{client_of, is_same_connection, represented, server_in, server_of}
use Rattle.simulator_move_laws.proofs.Links.Chains.{link}
use Rattle.simulator_move_laws.proofs.Links.Goes.{PlaceLaws, by_phases, in_phase, open_same, told_by}

-- the laws that this stands on
pub record ListLaws : Type 0 where
  pub place : PlaceLaws
  pub time : (names : Names) (calls : List Call) (ends : Ends) → AreNames names → Timely names ends → MayRun names (calls_at role.Server calls) ends → Timely names (run (calls_at role.Server calls) ends)
  pub goes : (names : Names) (calls : List Call) (ends : Ends) → AreNames names → Timely names ends → MayRun names (calls_at role.Server calls) ends
      → LinkGoes (server_moves (server_of ends) (server_of (run (calls_at role.Server calls) ends))) (represented ends) (represented (run (calls_at role.Server calls) ends))
  pub client : (calls : List Call) (ends : Ends) → (run (calls_at role.Server calls) ends).client ≡ ends.client
  pub stays : (calls : List Call) (ends : Ends) → EnterNone (reading_of ends.server.clock) calls ends.server.link → StaysIn calls ends.server (run (calls_at role.Server calls) ends).server
  pub told : (names : Names) (call : Call) (ends : Ends) → AreNames names → Timely names ends → MayRun names (Calls role.Server call ∷ []) ends
      → server_moves (server_of ends) (server_of (called role.Server call ends)) ≡ moves_by (is_some (outcome call ends.moment ends.server).enters) (is_open ends.server.link.phase) (is_open (called role.Server call ends).server.link.phase)
  pub outside : (call : Call) (moment connection : ℕ) (end : EndState) → end.link.identity.role ≡ role.Server → (outcome call moment end).enters ≡ Some connection → is_open end.link.phase ≡ false

-- a server outside that enters nothing stays outside
stays_out : (client : Client) (same same' is : Bool) → same' ≡ same → (is ≡ true → same' ≡ true) → LinkGoes (server_moves (server_in false same) (server_in is same')) (link client (server_in false same)) (link client (server_in is same'))
    → is ≡ false
stays_out client same same' false kept is goes = refl
stays_out client true true true kept is goes = absurd (cc (ap (λ (l : Link). l.server) goes.leads))
stays_out client false true true kept is goes = absurd (cc kept)
stays_out client same false true kept is goes = absurd (cc (is refl))

shut_then : (client : Client) (was is same same' : Bool) → same' ≡ same → (is ≡ true → same' ≡ true) → LinkGoes (server_moves (server_in was same) (server_in is same')) (link client (server_in was same)) (link client (server_in is same'))
    → was ≡ false → is ≡ false
shut_then client true is same same' kept joins goes shut = absurd (cc shut)
shut_then client false is same same' kept joins goes shut = stays_out client same same' is kept joins goes

-- what a server that enters, and then makes calls that enter nothing, has moved
enters_then : (was m is flag0 flag1 flag2 : Bool) → was ≡ false → flag2 ≡ flag1 → (m ≡ true → flag1 ≡ true) → (m ≡ false → is ≡ false)
    → server_moves (server_in was flag0) (server_in m flag1) ≡ moves_by true was m → server_moves (server_in was flag0) (server_in is flag2) ≡ moves_by true was is
enters_then true m is flag0 flag1 flag2 shut kept joins stays told = absurd (cc shut)
enters_then false m is flag0 true false shut kept joins stays told = absurd (cc kept)
enters_then false m is flag0 false true shut kept joins stays told = absurd (cc kept)
enters_then false true is flag0 false flag2 shut kept joins stays told = absurd (cc (joins refl))
enters_then false false is true false false shut kept joins stays told = absurd (cc told)
enters_then false false is false false false shut kept joins stays told = absurd (cc told)
enters_then false true is true true true shut kept joins stays told = absurd (cc told)
enters_then false false is true true true shut kept joins stays told = absurd (cc told)
enters_then false true true false true true shut kept joins stays told = refl
enters_then false true false false true true shut kept joins stays told = refl
enters_then false false true false true true shut kept joins stays told = absurd (cc (stays refl))
enters_then false false false false true true shut kept joins stays told = refl

module _ (laws : ListLaws) (names : Names) (are : AreNames names) where
  flag : Ends → Bool
  flag ends = is_same_connection ends.client.connection ends.server.connection

  same_flag : (old new : Ends) → new.client ≡ old.client → new.server.connection ≡ old.server.connection → is_same_connection new.client.connection new.server.connection ≡ is_same_connection old.client.connection old.server.connection
  same_flag old new client server =
      ap (λ (c : EndState). is_same_connection c.connection new.server.connection) client ∙ ap (is_same_connection old.client.connection) server

  -- the moves between, in phases
  in_phases : (old new : Ends) → Timely names old → Timely names new → new.client ≡ old.client
      → LinkGoes (server_moves (server_of old) (server_of new)) (represented old) (represented new)
      → LinkGoes (server_moves (server_in (is_open old.server.link.phase) (is_same_connection old.client.connection old.server.connection)) (server_in (is_open new.server.link.phase) (is_same_connection new.client.connection new.server.connection)))
      (link (client_of old.client) (server_in (is_open old.server.link.phase) (is_same_connection old.client.connection old.server.connection)))
      (link (client_of old.client) (server_in (is_open new.server.link.phase) (is_same_connection new.client.connection new.server.connection)))
  unfolding represented
  in_phases old new before after client goes =
      subst (λ (s : Server). LinkGoes (server_moves s (server_in (is_open new.server.link.phase) (is_same_connection new.client.connection new.server.connection))) (link (client_of old.client) s)
      (link (client_of old.client) (server_in (is_open new.server.link.phase) (is_same_connection new.client.connection new.server.connection)))) (in_phase laws.place names old before)
      (subst (λ (s : Server). LinkGoes (server_moves (server_of old) s) (link (client_of old.client) (server_of old)) (link (client_of old.client) s)) (in_phase laws.place names new after)
      (subst (λ (c : EndState). LinkGoes (server_moves (server_of old) (server_of new)) (link (client_of old.client) (server_of old)) (link (client_of c) (server_of new))) client goes))

  -- a server that is outside, and enters nothing, is outside
  out : (old new : Ends) → Timely names old → Timely names new → new.client ≡ old.client → new.server.connection ≡ old.server.connection
      → LinkGoes (server_moves (server_of old) (server_of new)) (represented old) (represented new) → is_open old.server.link.phase ≡ false → is_open new.server.link.phase ≡ false
  out old new before after client server goes = shut_then (client_of old.client) (is_open old.server.link.phase) (is_open new.server.link.phase)
      (is_same_connection old.client.connection old.server.connection) (is_same_connection new.client.connection new.server.connection)
      (same_flag old new client server) (open_same laws.place names new after) (in_phases old new before after client goes)

  none_told : (old new : Ends) → Timely names old → Timely names new → new.client ≡ old.client → new.server.connection ≡ old.server.connection
      → LinkGoes (server_moves (server_of old) (server_of new)) (represented old) (represented new)
      → server_moves (server_of old) (server_of new) ≡ moves_by false (is_open old.server.link.phase) (is_open new.server.link.phase)
  none_told old new before after client server goes = sym (by_phases laws.place names old new before after)
      ∙ told_by (is_open old.server.link.phase) (is_open new.server.link.phase) (is_same_connection old.client.connection old.server.connection) (is_same_connection new.client.connection new.server.connection)
      (same_flag old new client server) (open_same laws.place names old before) (out old new before after client server goes)

  pub none_enter : (calls : List Call) (ends : Ends) → Timely names ends → MayRun names (calls_at role.Server calls) ends → EnterNone (reading_of ends.server.clock) calls ends.server.link
      → server_moves (server_of ends) (server_of (run (calls_at role.Server calls) ends)) ≡ moves_by false (is_open ends.server.link.phase) (is_open (run (calls_at role.Server calls) ends).server.link.phase)
  none_enter calls ends timely may none =
      none_told ends (run (calls_at role.Server calls) ends) timely (laws.time names calls ends are timely may) (laws.client calls ends) (laws.stays calls ends none).connection (laws.goes names calls ends are timely may)

  pub first_enters : (call : Call) (calls : List Call) (ends : Ends) → Timely names ends → ends.server.link.identity.role ≡ role.Server → MayRun names (calls_at role.Server (call ∷ calls)) ends
      → EnterNone (reading_of ends.server.clock) calls (called role.Server call ends).server.link
      → server_moves (server_of ends) (server_of (run (calls_at role.Server (call ∷ calls)) ends))
      ≡ moves_by (is_some (outcome call ends.moment ends.server).enters) (is_open ends.server.link.phase) (is_open (run (calls_at role.Server (call ∷ calls)) ends).server.link.phase)
  unfolding called end_after
  first_enters call calls ends timely server may none = choose (outcome call ends.moment ends.server).enters refl where
    mid : Ends
    mid = called role.Server call ends

    last : Ends
    last = run (calls_at role.Server calls) mid

    mid_timely : Timely names mid
    mid_timely = laws.time names (call ∷ []) ends are timely (may.0, tt)

    last_timely : Timely names last
    last_timely = laws.time names calls mid are mid_timely may.1

    kept : last.server.connection ≡ mid.server.connection
    kept = (laws.stays calls mid none).connection

    stays : is_open mid.server.link.phase ≡ false → is_open last.server.link.phase ≡ false
    stays = out mid last mid_timely last_timely (laws.client calls mid) kept (laws.goes names calls mid are mid_timely may.1)

    choose : (enters : Option ℕ) → (outcome call ends.moment ends.server).enters ≡ enters
        → server_moves (server_of ends) (server_of last) ≡ moves_by (is_some (outcome call ends.moment ends.server).enters) (is_open ends.server.link.phase) (is_open last.server.link.phase)
    choose None e =
        none_told ends last timely last_timely (laws.client (call ∷ calls) ends) (kept ∙ ap (λ (o : Option ℕ). newer o ends.server.connection) e) (laws.goes names (call ∷ calls) ends are timely may)
        ∙ sym (ap (λ (o : Option ℕ). moves_by (is_some o) (is_open ends.server.link.phase) (is_open last.server.link.phase)) e)
    choose (Some connection) e =
        sym (by_phases laws.place names ends last timely last_timely)
        ∙ enters_then (is_open ends.server.link.phase) (is_open mid.server.link.phase) (is_open last.server.link.phase)
        (is_same_connection ends.client.connection ends.server.connection) (is_same_connection mid.client.connection mid.server.connection) (is_same_connection last.client.connection last.server.connection)
        (laws.outside call ends.moment connection ends.server server e)
        (same_flag mid last (laws.client calls mid) kept)
        (open_same laws.place names mid mid_timely) stays
        (by_phases laws.place names ends mid timely mid_timely ∙ laws.told names call ends are timely (may.0, tt)
        ∙ ap (λ (o : Option ℕ). moves_by (is_some o) (is_open ends.server.link.phase) (is_open mid.server.link.phase)) e)
        ∙ sym (ap (λ (o : Option ℕ). moves_by (is_some o) (is_open ends.server.link.phase) (is_open last.server.link.phase)) e)
