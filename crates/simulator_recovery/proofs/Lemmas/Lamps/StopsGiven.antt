-- A signal from which no route has its aspect was given stop last in the present connection, or no aspect.
use Rattle.simulator_recovery.proofs.Words.Basics.{◌≡◌, ◌≢◌, ◌⊎◌, inl, inr, ℕ, zero, suc, ◌+◌, ◌==◌, ◌&&◌, Bool, true, false, if◌then◌else◌, List, [], ◌∷◌, length, Option, Some, None, slice_get, option_or, refl, sym, ap, subst, ◌∙◌, arith, ◌||◌, not, list_any, false≢true, nat_tests, none-some, same_Some}
use Rattle.simulator_recovery.proofs.Words.Links.{settled, is_up}
use Rattle.simulator_recovery.proofs.Words.Controllers.{Aspect}
use Rattle.simulator_recovery.proofs.Words.Interlockings.{ClientState, PeerState, is_outside, is_ready, ClientSoFar, begun, clocked, commanding, fallen, hearing, ticking, Stage, conflict_told, locking_refusal, closed_refusal, refusal, refused_where, request_refusal, set_anew, come_to, is_proceeding, is_waiting, IxlState, KnownSignalState, RouteState, changed, clocked_known_signal, known_signal_after, Row, Table, at, passes, blocks, first_blocking, holds_point_elsewhere, holds_section, is_holding, is_set, Command, Refusal, Phase}
use Rattle.simulator_recovery.proofs.Words.Stations.{RouteId}
use Rattle.simulator_recovery.proofs.Words.Recovery.{ClientHasActedOn, KeepsCount, IsStopLast}
use Rattle.simulator_spec.specs.ixl_client.declared.command.Command.{Command as ClientCommand}
use Rattle.simulator_recovery.proofs.Lemmas.Talk.ClientCounts.{commanding_counts, hearing_counts, ticking_counts}
use Rattle.simulator_recovery.proofs.Lemmas.Ground.IxlClients.{changed_at, mapped_at, signal_is}
use Rattle.simulator_recovery.proofs.Lemmas.Ground.IxlSoFar.{set_at}
use Rattle.simulator_recovery.proofs.Lemmas.Ground.SignalParts.{AtRoute, GoesOn, IsGiven, IsQuiet, PartsKeep, hears, new_signal, ticks}

-- ---- a client that is ready stays so, or is outside

abbrev pub Stays : Stage → Stage → Type 0
Stays old new = is_ready old ≡ true → is_outside new ≡ false → is_ready new ≡ true

by_count : (peer : PeerState) (old new : Stage) (more : ℕ) → ((count : ℕ) → ClientHasActedOn peer old (count + 0) → is_outside new ≡ false → ClientHasActedOn peer new (count + more)) → Stays old new
by_count peer old new more counts ready inside = of_count new (counts (3 + length peer.objects) (has old ready) inside) inside
  where
    has : (s : Stage) → is_ready s ≡ true → ClientHasActedOn peer s (3 + length peer.objects + 0)
    has Stage.Outside e = absurd (false≢true e)
    has Stage.AwaitsAnswer e = absurd (false≢true e)
    has Stage.AwaitsStart e = absurd (false≢true e)
    has (Stage.AwaitsStatus left) e = absurd (false≢true e)
    has Stage.Completed e = omega arith
    has Stage.AwaitsReport e = omega arith

    of_count : (s : Stage) → ClientHasActedOn peer s (3 + length peer.objects + more) → is_outside s ≡ false → is_ready s ≡ true
    of_count Stage.Outside counted e = absurd (false≢true (sym e))
    of_count Stage.AwaitsAnswer counted e = absurd (omega (arith, counted))
    of_count Stage.AwaitsStart counted e = absurd (omega (arith, counted))
    of_count (Stage.AwaitsStatus left) counted e = absurd (omega (arith, counted))
    of_count Stage.Completed counted e = refl
    of_count Stage.AwaitsReport counted e = refl

keeps_count : (part after : ClientSoFar) → part.acted ≡ [] → KeepsCount part after → Stays part.client.stage after.client.stage
keeps_count part after none keeps = by_count part.client.peer part.client.stage after.client.stage (length after.acted)
    (λ count has inside. keeps count (subst (λ (l : List (List ℕ)). ClientHasActedOn part.client.peer part.client.stage (count + length l)) (sym none) has) inside)

pub goes_on_stays : (now : ℕ) (old new : ClientState) → GoesOn now old new → Stays old.stage new.stage
goes_on_stays now old new (hears bytes outbox is) = subst (λ (c : ClientState). Stays old.stage c.stage) (sym is) (keeps_count (begun old outbox) (hearing now bytes (begun old outbox)) refl (hearing_counts now bytes (begun old outbox)))
goes_on_stays now old new (ticks outbox is) = subst (λ (c : ClientState). Stays old.stage c.stage) (sym is) (keeps_count (begun old outbox) (ticking now (begun old outbox)) refl (ticking_counts now (begun old outbox)))

pub given_stays : (now : ℕ) (aspect : Aspect) (old new : ClientState) → IsGiven now aspect old new → is_outside new.stage ≡ false → is_ready new.stage ≡ true
given_stays now aspect old new given = subst (λ (c : ClientState). is_outside c.stage ≡ false → is_ready c.stage ≡ true) (sym given.is)
    (keeps_count (begun old given.outbox) (commanding now (ClientCommand.Indicate aspect) (begun old given.outbox)) refl (commanding_counts now (ClientCommand.Indicate aspect) (begun old given.outbox)) given.ready)

pub clocked_stage : (now : ℕ) (client : ClientState) → is_outside (clocked now client).stage ≡ false → (clocked now client).stage ≡ client.stage
unfolding clocked fallen
clocked_stage now client = choose (is_up (settled now client.link).phase)
  where
    late : ClientState
    late = record client { link = settled now client.link }

    choose : (b : Bool) → is_outside (if b then late else record late { stage = Stage.Outside }).stage ≡ false → (if b then late else record late { stage = Stage.Outside }).stage ≡ client.stage
    choose true inside = refl
    choose false inside = absurd (false≢true (sym inside))

-- ---- what is kept of a signal

-- stop was given last, or nothing
stop_after : (aspect : Option Aspect) (number : ℕ) (indicated : Option Aspect) (client : ClientState) → (aspect ≡ None) ⊎ (aspect ≡ Some Aspect.Stop) → IsStopLast (known_signal_after aspect number indicated client)
stop_after aspect number indicated client stops = signal_is IsStopLast aspect number indicated client (λ outside. inl refl) (λ inside. stops)

-- a signal whose client isn't ready was given no aspect
abbrev IsGivenWhenReady : KnownSignalState → Type 0
IsGivenWhenReady known = is_ready known.client.stage ≡ false → known.aspect ≡ None

ready_after : (aspect : Option Aspect) (number : ℕ) (indicated : Option Aspect) (client : ClientState) → (is_outside client.stage ≡ false → is_ready client.stage ≡ false → aspect ≡ None) → IsGivenWhenReady (known_signal_after aspect number indicated client)
ready_after aspect number indicated client so = signal_is IsGivenWhenReady aspect number indicated client (λ outside unready. refl) so

still_ready : (known : KnownSignalState) (client : ClientState) → Stays known.client.stage client.stage → IsGivenWhenReady known → is_outside client.stage ≡ false → is_ready client.stage ≡ false → known.aspect ≡ None
still_ready known client stays was inside unready = choose (is_ready known.client.stage) refl
  where
    choose : (b : Bool) → is_ready known.client.stage ≡ b → known.aspect ≡ None
    choose true e = absurd (false≢true (sym unready ∙ stays e inside))
    choose false e = was e

-- ---- routes from one signal

pub waiting_set : (p : Phase) → is_waiting p ≡ true → is_set p ≡ true
waiting_set Phase.Free e = absurd (false≢true e)
waiting_set Phase.Waiting e = refl
waiting_set Phase.Proceeding e = absurd (false≢true e)
waiting_set Phase.Withdrawn e = absurd (false≢true e)
waiting_set (Phase.Ended clock done) e = absurd (false≢true e)

pub proceeding_set : (p : Phase) → is_proceeding p ≡ true → is_set p ≡ true
proceeding_set Phase.Free e = absurd (false≢true e)
proceeding_set Phase.Waiting e = absurd (false≢true e)
proceeding_set Phase.Proceeding e = refl
proceeding_set Phase.Withdrawn e = absurd (false≢true e)
proceeding_set (Phase.Ended clock done) e = absurd (false≢true e)

-- no route that begins at this signal has its aspect
abbrev pub NoAspect : Table → List RouteState → ℕ → Type 0
NoAspect table routes signal = (number : ℕ) (row : Row) (route : RouteState) → AtRoute table number row route routes → row.entry ≡ signal → is_proceeding route.phase ≡ false

-- Two set routes don't begin at one signal; a signal from which no route has its aspect was given stop last, or nothing; and what was
-- given was given to a signal that is ready.
pub record StopsStand (table : Table) (routes : List RouteState) (signals : List KnownSignalState) : Type 0 where
  pub apart : (a b : ℕ) (row other_row : Row) (route other_route : RouteState) → AtRoute table a row route routes → AtRoute table b other_row other_route routes → row.entry ≡ other_row.entry
      → is_set route.phase ≡ true → is_set other_route.phase ≡ true → a ≡ b
  pub stops : (signal : ℕ) (known : KnownSignalState) → slice_get signals signal ≡ Some known → NoAspect table routes signal → IsStopLast known
  pub ready : (place : ℕ) (known : KnownSignalState) → slice_get signals place ≡ Some known → IsGivenWhenReady known

-- a route that is set after a change was set before
record Was (table : Table) (number : ℕ) (row : Row) (routes : List RouteState) : Type 0 where
  was : RouteState
  at : AtRoute table number row was routes
  set : is_set was.phase ≡ true

was_set : (table : Table) (number k : ℕ) (change : RouteState → RouteState) (row : Row) (route : RouteState) (routes : List RouteState) → ((was : RouteState) → slice_get routes number ≡ Some was → is_set (change was).phase ≡ true → is_set was.phase ≡ true)
    → AtRoute table k row route (changed change number routes) → is_set route.phase ≡ true → Was table k row routes
was_set table number k change row route routes stays at set = choose (changed_at change number routes k route at.there)
  where
    choose : ((k ≡ number) × (was : RouteState) × (slice_get routes number ≡ Some was) × (route ≡ change was)) ⊎ (slice_get routes k ≡ Some route) → Was table k row routes
    choose (inl (same, was, there, is)) = record { was = was; at = record { row_there = at.row_there; there = ap (slice_get routes) same ∙ there }; set = stays was there (ap (λ (r : RouteState). is_set r.phase) (sym is) ∙ set) }
    choose (inr there) = record { was = route; at = record { row_there = at.row_there; there = there }; set = set }

apart_then : (table : Table) (number : ℕ) (change : RouteState → RouteState) (routes : List RouteState) (signals : List KnownSignalState) → ((was : RouteState) → slice_get routes number ≡ Some was → is_set (change was).phase ≡ true → is_set was.phase ≡ true) → StopsStand table routes signals
    → (a b : ℕ) (row other_row : Row) (route other_route : RouteState) → AtRoute table a row route (changed change number routes) → AtRoute table b other_row other_route (changed change number routes) → row.entry ≡ other_row.entry
    → is_set route.phase ≡ true → is_set other_route.phase ≡ true → a ≡ b
apart_then table number change routes signals stays stand a b row other_row route other_route at other_at same set other_set =
    let one = was_set table number a change row route routes stays at set
    in let other = was_set table number b change other_row other_route routes stays other_at other_set
    in stand.apart a b row other_row one.was other.was one.at other.at same one.set other.set

-- what stands at a place that is changed, and at another
pub changed_here : {X : Type 0} (change : X → X) (place : ℕ) (list : List X) (x : X) → slice_get list place ≡ Some x → slice_get (changed change place list) place ≡ Some (change x)
changed_here change place [] x e = absurd (none-some x e)
changed_here change zero (y ∷ list) x e = ap (λ z. Some (change z)) (same_Some y x e)
changed_here change (suc place) (y ∷ list) x e = changed_here change place list x e

pub changed_elsewhere : {X : Type 0} (change : X → X) (place k : ℕ) (list : List X) → k ≢ place → slice_get (changed change place list) k ≡ slice_get list k
changed_elsewhere change place k [] differ = refl
changed_elsewhere change zero zero (y ∷ list) differ = absurd (differ refl)
changed_elsewhere change zero (suc k) (y ∷ list) differ = refl
changed_elsewhere change (suc place) zero (y ∷ list) differ = refl
changed_elsewhere change (suc place) (suc k) (y ∷ list) differ = changed_elsewhere change place k list (λ same. differ (ap suc same))

pub is_equal : (a b : ℕ) → (a == b) ≡ true → a ≡ b
is_equal a b e = grind (arith, nat_tests, e)

pub differs : (a b : ℕ) → (a == b) ≡ false → a ≢ b
differs a b e same = grind (arith, nat_tests, e, same)

-- where no route from a signal has its aspect after a change, none had it before
no_aspect_before : (table : Table) (number signal : ℕ) (change : RouteState → RouteState) (routes : List RouteState)
    → ((row : Row) (was : RouteState) → AtRoute table number row was routes → row.entry ≡ signal → is_proceeding (change was).phase ≡ false → is_proceeding was.phase ≡ false)
    → NoAspect table (changed change number routes) signal → NoAspect table routes signal
no_aspect_before table number signal change routes so none k row route at entry = decide (k == number) refl
  where
    decide : (b : Bool) → (k == number) ≡ b → is_proceeding route.phase ≡ false
    decide true e =
        let same : k ≡ number = is_equal k number e
        in let here : AtRoute table number row route routes = record { row_there = ap (slice_get table.rows) (sym same) ∙ at.row_there; there = ap (slice_get routes) (sym same) ∙ at.there }
        in so row route here entry (none number row (change route) (record { row_there = here.row_there; there = changed_here change number routes route here.there }) entry)
    decide false e = none k row route (record { row_there = at.row_there; there = changed_elsewhere change number k routes (differs k number e) ∙ at.there }) entry

-- ---- a request that isn't refused

pub where_not : (b : Bool) (told : Refusal) (rest : Option Refusal) → refused_where b told rest ≡ None → b ≡ false
where_not true told rest e = absurd (cc e)
where_not false told rest e = refl

pub where_none : (b : Bool) (told : Refusal) (rest : Option Refusal) → refused_where b told rest ≡ None → rest ≡ None
where_none true told rest e = absurd (cc e)
where_none false told rest e = e

conflict_none : (found : Option ℕ) (rest : Option Refusal) → conflict_told found rest ≡ None → found ≡ None
conflict_none None rest e = refl
conflict_none (Some blocking) rest e = absurd (cc e)

locking_none : (now : ℕ) (table : Table) (ixl : IxlState) (number : ℕ) (row : Row) → locking_refusal now table ixl number row ≡ None → first_blocking number row 0 table.rows ixl.routes ≡ None
unfolding locking_refusal
locking_none now table ixl number row none = conflict_none (first_blocking number row 0 table.rows ixl.routes) _ none

no_first : (first second : Option Refusal) → option_or first second ≡ None → first ≡ None
no_first None second none = refl
no_first (Some told) second none = absurd (cc none)

-- what is asked of a request when it is known that its route exists
abbrev unset_refusal : ℕ → Table → IxlState → ℕ → Row → RouteState → Option Refusal
unset_refusal now table ixl number row route =
    refused_where (is_set route.phase) Refusal.AlreadySet (option_or (locking_refusal now table ixl number row) (closed_refusal table ixl number row))

unset_none : (now : ℕ) (table : Table) (ixl : IxlState) (number : ℕ) (row : Row) (route : RouteState) → request_refusal now table ixl number (Some row) (Some route) ≡ None → unset_refusal now table ixl number row route ≡ None
unset_none now table ixl number row route none = where_none (not ixl.resumed) Refusal.NotResumed (unset_refusal now table ixl number row route)
    (where_none (is_holding now ixl) Refusal.Holding (refused_where (not ixl.resumed) Refusal.NotResumed (unset_refusal now table ixl number row route)) none)

request_none : (now : ℕ) (table : Table) (ixl : IxlState) (number : ℕ) (row : Row) (route : RouteState) → request_refusal now table ixl number (Some row) (Some route) ≡ None → first_blocking number row 0 table.rows ixl.routes ≡ None
request_none now table ixl number row route none = locking_none now table ixl number row (no_first (locking_refusal now table ixl number row) (closed_refusal table ixl number row)
    (where_none (is_set route.phase) Refusal.AlreadySet (option_or (locking_refusal now table ixl number row) (closed_refusal table ixl number row)) (unset_none now table ixl number row route none)))

pub request_unset : (now : ℕ) (table : Table) (ixl : IxlState) (number : ℕ) (row : Row) (route : RouteState) → request_refusal now table ixl number (Some row) (Some route) ≡ None → is_set route.phase ≡ false
request_unset now table ixl number row route none =
    where_not (is_set route.phase) Refusal.AlreadySet (option_or (locking_refusal now table ixl number row) (closed_refusal table ixl number row)) (unset_none now table ixl number row route none)

none_first : (n : ℕ) (b : Bool) (rest : Option ℕ) → (if b then Some n else rest) ≡ None → (b ≡ false) × (rest ≡ None)
none_first n true rest is = absurd (cc is)
none_first n false rest is = (refl, is)

none_blocks : (wanted : ℕ) (wanted_row : Row) (n k : ℕ) (rows : List Row) (routes : List RouteState) (row : Row) (route : RouteState) → first_blocking wanted wanted_row n rows routes ≡ None → slice_get rows k ≡ Some row → slice_get routes k ≡ Some route
    → blocks wanted wanted_row (n + k) row route ≡ false
none_blocks wanted wanted_row n k [] routes row route none e f = absurd (none-some row e)
none_blocks wanted wanted_row n k (first ∷ rows) [] row route none e f = absurd (none-some route f)
none_blocks wanted wanted_row n zero (first ∷ rows) (head ∷ routes) row route none e f =
    let at_n : n + 0 ≡ n = omega arith
    in ap (λ (m : ℕ). blocks wanted wanted_row m row route) at_n ∙ (ap (λ (r : Row). blocks wanted wanted_row n r route) (sym (same_Some first row e)) ∙ (ap (λ (r : RouteState). blocks wanted wanted_row n first r) (sym (same_Some head route f))
    ∙ (none_first n (blocks wanted wanted_row n first head) (first_blocking wanted wanted_row (suc n) rows routes) none).0))
none_blocks wanted wanted_row n (suc k) (first ∷ rows) (head ∷ routes) row route none e f =
    let next : n + suc k ≡ suc n + k = omega arith
    in ap (λ (m : ℕ). blocks wanted wanted_row m row route) next
    ∙ none_blocks wanted wanted_row (suc n) k rows routes row route (none_first n (blocks wanted wanted_row n first head) (first_blocking wanted wanted_row (suc n) rows routes) none).1 e f

-- a set route from the same signal blocks
is_blocked : (wanted number : ℕ) (wanted_row row : Row) (route : RouteState) → blocks wanted wanted_row number row route ≡ false → number ≢ wanted → is_set route.phase ≡ true → row.entry ≡ wanted_row.entry → ⊥
is_blocked wanted number wanted_row row route free differ set same = refuted (not (number == wanted)) (is_set route.phase) (row.entry == wanted_row.entry)
    (list_any (λ one. one == wanted) row.extra) (list_any (λ one. one == number) wanted_row.extra) (list_any (holds_section row route.phase) wanted_row.sections) (list_any (holds_point_elsewhere row route.phase) wanted_row.needs) free (other (number == wanted) refl) set (equal same)
  where
    refuted : (a b c d e f g : Bool) → (a && b && (c || d || e || f || g)) ≡ false → a ≡ true → b ≡ true → c ≡ true → ⊥
    refuted true true true d e f g h i j k = false≢true (sym h)
    refuted true true false d e f g h i j k = false≢true k
    refuted true false c d e f g h i j k = false≢true j
    refuted false b c d e f g h i j k = false≢true i

    equal : row.entry ≡ wanted_row.entry → (row.entry == wanted_row.entry) ≡ true
    equal e = grind (arith, nat_tests, e)

    is_same : (number == wanted) ≡ true → number ≡ wanted
    is_same e = grind (arith, nat_tests, e)

    other : (b : Bool) → (number == wanted) ≡ b → not b ≡ true
    other true e = absurd (differ (is_same e))
    other false e = refl

-- ---- each part of a step keeps that

pub fails : {A : Type 0} (list : List A) (place : ℕ) (test : A → Bool) (one : A) → slice_get list place ≡ Some one → at list place test ≡ false → test one ≡ false
unfolding at
fails list place test one e holds = ap (passes test) (sym e) ∙ holds

-- whatever command comes
abbrev pub AnyCommand : Command → Type 0
AnyCommand command = Unit {0}

module _ (now : ℕ) (table : Table) where
  abbrev Stand : List RouteState → List KnownSignalState → Type 0
  Stand = StopsStand table

  quiet_set : (old new : RouteState) → IsQuiet old new → is_set new.phase ≡ true → is_set old.phase ≡ true
  quiet_set old new (inl (same, cancelled)) set = ap is_set (sym same) ∙ set
  quiet_set old new (inr (over, undone, was, kept)) set = was

  quiet_aspect : (old new : RouteState) → IsQuiet old new → is_proceeding new.phase ≡ false → is_proceeding old.phase ≡ false
  quiet_aspect old new (inl (same, cancelled)) none = ap is_proceeding (sym same) ∙ none
  quiet_aspect old new (inr (over, undone, was, kept)) none = undone

  -- the client of a signal goes on
  client_stands : (place : ℕ) (known : KnownSignalState) (client : ClientState) (indicated : Option Aspect) (routes : List RouteState) (signals : List KnownSignalState) → slice_get signals place ≡ Some known
      → GoesOn now known.client client → Stand routes signals → Stand routes (changed (λ old. known_signal_after known.aspect known.number indicated client) place signals)
  client_stands place known client indicated routes signals there goes stand = record {
    apart = stand.apart;
    stops = λ signal later e none. stops_so signal later none (changed_at (λ old. new) place signals signal later e);
    ready = λ k later e. ready_so k later (changed_at (λ old. new) place signals k later e);
  }
    where
      new : KnownSignalState
      new = known_signal_after known.aspect known.number indicated client

      stops_so : (signal : ℕ) (later : KnownSignalState) → NoAspect table routes signal → ((signal ≡ place) × (was : KnownSignalState) × (slice_get signals place ≡ Some was) × (later ≡ new)) ⊎ (slice_get signals signal ≡ Some later) → IsStopLast later
      stops_so signal later none (inl (same, was, f, is)) = subst IsStopLast (sym is) (stop_after known.aspect known.number indicated client (stand.stops signal known (ap (slice_get signals) same ∙ there) none))
      stops_so signal later none (inr f) = stand.stops signal later f none

      ready_so : (k : ℕ) (later : KnownSignalState) → ((k ≡ place) × (was : KnownSignalState) × (slice_get signals place ≡ Some was) × (later ≡ new)) ⊎ (slice_get signals k ≡ Some later) → IsGivenWhenReady later
      ready_so k later (inl (same, was, f, is)) = subst IsGivenWhenReady (sym is) (ready_after known.aspect known.number indicated client (still_ready known client (goes_on_stays now known.client client goes) (stand.ready place known there)))
      ready_so k later (inr f) = stand.ready k later f

  -- a signal is given an aspect
  given_ready : (aspect : Aspect) (place items : ℕ) (known : KnownSignalState) (client : ClientState) (routes : List RouteState) (signals : List KnownSignalState) → IsGiven now aspect known.client client → Stand routes signals
      → (k : ℕ) (later : KnownSignalState) → slice_get (changed (λ old. new_signal aspect items client known) place signals) k ≡ Some later → IsGivenWhenReady later
  given_ready aspect place items known client routes signals given stand k later e = choose (changed_at (λ old. new_signal aspect items client known) place signals k later e)
    where
      choose : ((k ≡ place) × (was : KnownSignalState) × (slice_get signals place ≡ Some was) × (later ≡ new_signal aspect items client known)) ⊎ (slice_get signals k ≡ Some later) → IsGivenWhenReady later
      choose (inl (same, was, f, is)) = subst IsGivenWhenReady (sym is) (ready_after (Some aspect) items known.indicated client (λ inside unready. absurd (false≢true (sym unready ∙ given_stays now aspect known.client client given inside))))
      choose (inr f) = stand.ready k later f

  -- where a route of another signal is changed
  no_aspect_elsewhere : (number signal : ℕ) (row : Row) (route : RouteState) (change : RouteState → RouteState) (routes : List RouteState) → AtRoute table number row route routes → signal ≢ row.entry
      → NoAspect table (changed change number routes) signal → NoAspect table routes signal
  no_aspect_elsewhere number signal row route change routes there differ = no_aspect_before table number signal change routes (λ other was other_at entry none.
      absurd (differ (sym entry ∙ ap (λ (r : Row). r.entry) (same_Some other row (sym other_at.row_there ∙ there.row_there)))))

  -- a route is withdrawn
  withdrawn_set : (number : ℕ) (row : Row) (route : RouteState) (routes : List RouteState) → AtRoute table number row route routes → is_proceeding route.phase ≡ true
      → (was : RouteState) → slice_get routes number ≡ Some was → is_set (come_to Phase.Withdrawn was).phase ≡ true → is_set was.phase ≡ true
  withdrawn_set number row route routes there given was e set = ap (λ (r : RouteState). is_set r.phase) (same_Some was route (sym e ∙ there.there)) ∙ proceeding_set route.phase given

  withdrawn_stands : (number : ℕ) (row : Row) (route : RouteState) (known : KnownSignalState) (items : ℕ) (client : ClientState) (routes : List RouteState) (signals : List KnownSignalState) → AtRoute table number row route routes
      → is_proceeding route.phase ≡ true → slice_get signals row.entry ≡ Some known → IsGiven now Aspect.Stop known.client client → Stand routes signals
      → Stand (changed (come_to Phase.Withdrawn) number routes) (changed (λ old. new_signal Aspect.Stop items client known) row.entry signals)
  withdrawn_stands number row route known items client routes signals there given e so stand = record {
    apart = apart_then table number (come_to Phase.Withdrawn) routes signals (withdrawn_set number row route routes there given) stand;
    stops = λ signal later f none. by_signal signal later none (set_at row.entry new signals signal later f);
    ready = given_ready Aspect.Stop row.entry items known client routes signals so stand;
  }
    where
      new : KnownSignalState
      new = new_signal Aspect.Stop items client known

      by_signal : (signal : ℕ) (later : KnownSignalState) → NoAspect table (changed (come_to Phase.Withdrawn) number routes) signal → ((signal ≡ row.entry) × (later ≡ new)) ⊎ ((signal ≢ row.entry) × (slice_get signals signal ≡ Some later)) → IsStopLast later
      by_signal signal later none (inl (same, is)) = subst IsStopLast (sym is) (stop_after (Some Aspect.Stop) items known.indicated client (inr refl))
      by_signal signal later none (inr (differ, f)) = stand.stops signal later f (no_aspect_elsewhere number signal row route (come_to Phase.Withdrawn) routes there differ none)

  fallen_stands : (number : ℕ) (row : Row) (route : RouteState) (routes : List RouteState) (signals : List KnownSignalState) → AtRoute table number row route routes → is_proceeding route.phase ≡ true
      → at signals row.entry (λ known. is_ready known.client.stage) ≡ false → Stand routes signals → Stand (changed (come_to Phase.Withdrawn) number routes) signals
  fallen_stands number row route routes signals there given unready stand = record {
    apart = apart_then table number (come_to Phase.Withdrawn) routes signals (withdrawn_set number row route routes there given) stand;
    stops = λ signal known e none. by_signal signal known e none (signal == row.entry) refl;
    ready = stand.ready;
  }
    where
      by_signal : (signal : ℕ) (known : KnownSignalState) → slice_get signals signal ≡ Some known → NoAspect table (changed (come_to Phase.Withdrawn) number routes) signal → (b : Bool) → (signal == row.entry) ≡ b → IsStopLast known
      by_signal signal known e none true is =
          let here : slice_get signals row.entry ≡ Some known = ap (slice_get signals) (sym (is_equal signal row.entry is)) ∙ e
          in inl (stand.ready row.entry known here (fails signals row.entry (λ k. is_ready k.client.stage) known here unready))
      by_signal signal known e none false is = stand.stops signal known e (no_aspect_elsewhere number signal row route (come_to Phase.Withdrawn) routes there (differs signal row.entry is) none)

  -- a route is given its aspect
  proceeding_stands : (number : ℕ) (row : Row) (route : RouteState) (known : KnownSignalState) (items : ℕ) (client : ClientState) (change : RouteState → RouteState) (routes : List RouteState) (signals : List KnownSignalState)
      → AtRoute table number row route routes → is_waiting route.phase ≡ true → route.cancelled ≡ false → ((one : RouteState) → (change one).phase ≡ Phase.Proceeding) → slice_get signals row.entry ≡ Some known
      → IsGiven now row.aspect known.client client → Stand routes signals → Stand (changed change number routes) (changed (λ old. new_signal row.aspect items client known) row.entry signals)
  proceeding_stands number row route known items client change routes signals there waits goes_on proceeds e so stand = record {
    apart = apart_then table number change routes signals (λ was f set. ap (λ (r : RouteState). is_set r.phase) (same_Some was route (sym f ∙ there.there)) ∙ waiting_set route.phase waits) stand;
    stops = λ signal later f none. by_signal signal later none (set_at row.entry new signals signal later f);
    ready = given_ready row.aspect row.entry items known client routes signals so stand;
  }
    where
      new : KnownSignalState
      new = new_signal row.aspect items client known

      by_signal : (signal : ℕ) (later : KnownSignalState) → NoAspect table (changed change number routes) signal → ((signal ≡ row.entry) × (later ≡ new)) ⊎ ((signal ≢ row.entry) × (slice_get signals signal ≡ Some later)) → IsStopLast later
      by_signal signal later none (inl (same, is)) = absurd (false≢true (sym (none number row (change route) (record { row_there = there.row_there; there = changed_here change number routes route there.there }) (sym same)) ∙ ap is_proceeding (proceeds route)))
      by_signal signal later none (inr (differ, f)) = stand.stops signal later f (no_aspect_elsewhere number signal row route change routes there differ none)

  -- a route is set
  set_stands : (route : RouteId) (ixl : IxlState) → refusal now table (Command.Request route) ixl ≡ None → Stand ixl.routes ixl.known_signals → Stand (changed set_anew route.0 ixl.routes) ixl.known_signals
  unfolding refusal
  set_stands route ixl none stand = record {
    apart = λ a b row other_row one other one_at other_at same set other_set. apart_so a b row other_row one other one_at other_at same set other_set (changed_at set_anew route.0 ixl.routes a one one_at.there) (changed_at set_anew route.0 ixl.routes b other other_at.there);
    stops = λ signal known e no_aspect. stand.stops signal known e (no_aspect_before table route.0 signal set_anew ixl.routes (λ row was was_at entry so. unset_aspect was (request_unset now table ixl route.0 row was (asked row was was_at.row_there was_at.there))) no_aspect);
    ready = stand.ready;
  }
    where
      Found : ℕ → RouteState → Type 0
      Found k one = ((k ≡ route.0) × (was : RouteState) × (slice_get ixl.routes route.0 ≡ Some was) × (one ≡ set_anew was)) ⊎ (slice_get ixl.routes k ≡ Some one)

      asked : (row : Row) (was : RouteState) → slice_get table.rows route.0 ≡ Some row → slice_get ixl.routes route.0 ≡ Some was → request_refusal now table ixl route.0 (Some row) (Some was) ≡ None
      asked row was g h = sym (ap (λ (o : Option Row). request_refusal now table ixl route.0 o (slice_get ixl.routes route.0)) g ∙ ap (request_refusal now table ixl route.0 (Some row)) h) ∙ none

      unset_aspect : (was : RouteState) → is_set was.phase ≡ false → is_proceeding was.phase ≡ false
      unset_aspect was unset = choose (is_proceeding was.phase) refl
        where
          choose : (b : Bool) → is_proceeding was.phase ≡ b → is_proceeding was.phase ≡ false
          choose true e = absurd (false≢true (sym unset ∙ proceeding_set was.phase e))
          choose false e = e

      -- another set route from the same signal would block it
      blocked : (k : ℕ) (row wanted_row : Row) (one was : RouteState) → slice_get table.rows k ≡ Some row → slice_get ixl.routes k ≡ Some one → slice_get table.rows route.0 ≡ Some wanted_row → slice_get ixl.routes route.0 ≡ Some was
          → row.entry ≡ wanted_row.entry → is_set one.phase ≡ true → k ≡ route.0
      blocked k row wanted_row one was e f g h same set = decide (k == route.0) refl
        where
          unblocked : blocks route.0 wanted_row k row one ≡ false
          unblocked = let here : 0 + k ≡ k = omega arith in ap (λ (m : ℕ). blocks route.0 wanted_row m row one) (sym here)
              ∙ none_blocks route.0 wanted_row 0 k table.rows ixl.routes row one (request_none now table ixl route.0 wanted_row was (asked wanted_row was g h)) e f

          decide : (b : Bool) → (k == route.0) ≡ b → k ≡ route.0
          decide true is = is_equal k route.0 is
          decide false is = absurd (is_blocked route.0 k wanted_row row one unblocked (differs k route.0 is) set same)

      apart_so : (a b : ℕ) (row other_row : Row) (one other : RouteState) → AtRoute table a row one (changed set_anew route.0 ixl.routes) → AtRoute table b other_row other (changed set_anew route.0 ixl.routes) → row.entry ≡ other_row.entry
          → is_set one.phase ≡ true → is_set other.phase ≡ true → Found a one → Found b other → a ≡ b
      apart_so a b row other_row one other one_at other_at same set other_set (inl (e, was, f, g)) (inl (h, other_was, i, j)) = e ∙ sym h
      apart_so a b row other_row one other one_at other_at same set other_set (inl (e, was, f, g)) (inr h) =
          e ∙ sym (blocked b other_row row other was other_at.row_there h (ap (slice_get table.rows) (sym e) ∙ one_at.row_there) f (sym same) other_set)
      apart_so a b row other_row one other one_at other_at same set other_set (inr e) (inl (h, was, i, j)) =
          blocked a row other_row one was one_at.row_there e (ap (slice_get table.rows) (sym h) ∙ other_at.row_there) i same set ∙ sym h
      apart_so a b row other_row one other one_at other_at same set other_set (inr e) (inr f) =
          stand.apart a b row other_row one other (record { row_there = one_at.row_there; there = e }) (record { row_there = other_at.row_there; there = f }) same set other_set

  pub stand_keep : PartsKeep now table AnyCommand Stand
  stand_keep = record {
    rules = record {
      quiet = λ number change routes signals quiet stand. record {
        apart = apart_then table number change routes signals (λ was e set. quiet_set was (change was) (quiet was e) set) stand;
        stops = λ signal known e none. stand.stops signal known e (no_aspect_before table number signal change routes (λ row was was_at entry so. quiet_aspect was (change was) (quiet was was_at.there) so) none);
        ready = stand.ready;
      };
      proceeds = proceeding_stands;
      ticks = λ place known outbox routes signals there stand. client_stands place known (ticking now (begun known.client outbox)).client known.indicated routes signals there (ticks outbox refl) stand;
    };
    clock = λ routes signals stand. record {
      apart = stand.apart;
      stops = λ signal known e none. let was = mapped_at (clocked_known_signal now) signals signal known e
          in subst IsStopLast (sym was.2) (stop_after was.0.aspect was.0.number was.0.indicated (clocked now was.0.client) (stand.stops signal was.0 was.1 none));
      ready = λ place known e. let was = mapped_at (clocked_known_signal now) signals place known e
          in subst IsGivenWhenReady (sym was.2) (ready_after was.0.aspect was.0.number was.0.indicated (clocked now was.0.client)
          (λ inside unready. stand.ready place was.0 was.1 (ap is_ready (sym (clocked_stage now was.0.client inside)) ∙ unready)));
    };
    client = client_stands;
    withdraws = withdrawn_stands;
    falls = fallen_stands;
    sets = λ route ixl obeys none stand. set_stands route ixl none stand;
  }
