-- What a server sends, gives and takes in a list of its calls, and when it leaves.
use Rattle.std.proofs.Common.{◌≡◌, ℕ, ◌+◌, Bool, true, false, ◌&&◌, ◌||◌, not, List, [], ◌∷◌, ◌++◌, length, Option, Some, None, refl, sym, ap, subst, ◌∙◌, arith}
use Rattle.std.specs.Prelude.{if◌then◌else◌, is_some}
use Rattle.std.proofs.lemmas.List.{append-nil, append_assoc, length-append, map-append}
use Rattle.rasta_core.specs.Ends.{Sent, EndState, Call, Outcome, Ticks, Opens, Closes, Sends, Receives, outcome, end_after, handed_out, kept, reading_of}
use Rattle.rasta_core.specs.Events.{Calls, MayRun, run}
use Rattle.rasta_core.specs.Invariant.{Timely}
use Rattle.rasta_core.specs.Names.{AreNames, Names}
use Rattle.rasta_core.specs.Outbox.{spellings}
use Rattle.rasta_core.specs.Run.{Ends, called}
use Rattle.rasta_core.specs.Safe.{DoesNothing}
use Rattle.rasta_core.specs.State.{LinkState, is_open}
use Rattle.rasta_core.specs.Steps.{EnterNone, Made, all_made, calls_at, enters_by, made_by, IsAfter}
use Rattle.rasta_core.specs.identity.Identity.{Identity}
use Rattle.rasta_core.specs.identity.Role.TheVariants as role
use Rattle.rasta_pdu.specs.Spelling.{writing}
use Rattle.rasta_pdu.specs.declared.key.Key.{Key}
use Rattle.rasta_pdu.specs.declared.pdu.Pdu.{Pdu}
use Rattle.simulator_move_laws.specs.Flows.{ServerIsAfter}

-- the laws that this stands on
pub record SendLaws : Type 0 where
  pub time : (names : Names) (call : Call) (ends : Ends) → AreNames names → Timely names ends → MayRun names (Calls role.Server call ∷ []) ends → Timely names (called role.Server call ends)
  pub stays : (call : Call) (moment : ℕ) (end : EndState) → is_open end.link.phase ≡ false → (outcome call moment end).enters ≡ None → is_open (outcome call moment end).link.phase ≡ false
  pub nothing : (call : Call) (moment : ℕ) (end : EndState) → is_open end.link.phase ≡ false → (outcome call moment end).enters ≡ None → DoesNothing (outcome call moment end)

-- ---- a call, with the moment and without

pub record IsMade (call : Call) (moment : ℕ) (end : EndState) : Type 0 where
  pub link : (outcome call moment end).link ≡ (made_by (reading_of end.clock) call end.link).link
  pub pdus : (outcome call moment end).pdus ≡ (made_by (reading_of end.clock) call end.link).pdus
  pub given : (outcome call moment end).given ≡ (made_by (reading_of end.clock) call end.link).given
  pub taken : (outcome call moment end).taken ≡ (made_by (reading_of end.clock) call end.link).taken

is_made : (call : Call) (moment : ℕ) (end : EndState) → IsMade call moment end
unfolding outcome made_by
is_made Ticks moment end = record { link = refl; pdus = refl; given = refl; taken = refl }
is_made Opens moment end = record { link = refl; pdus = refl; given = refl; taken = refl }
is_made (Closes why) moment end = record { link = refl; pdus = refl; given = refl; taken = refl }
is_made (Sends item) moment end = record { link = refl; pdus = refl; given = refl; taken = refl }
is_made (Receives bytes connection) moment end = record { link = refl; pdus = refl; given = refl; taken = refl }

no_number : (moment : ℕ) (test : Bool) → test ≡ false → (if test then Some moment else None) ≡ None
no_number moment true e = absurd (cc e)
no_number moment false e = refl

enters_none : (call : Call) (moment : ℕ) (end : EndState) → enters_by (reading_of end.clock) call end.link ≡ false → (outcome call moment end).enters ≡ None
unfolding outcome enters_by
enters_none Ticks moment end e = refl
enters_none Opens moment end e = no_number moment _ e
enters_none (Closes why) moment end e = refl
enters_none (Sends item) moment end e = refl
enters_none (Receives bytes connection) moment end e = no_number connection _ e

-- ---- lists of datagrams

spelled_append : (key : Key) (one other : List Pdu) → spellings key (one ++ other) ≡ spellings key one ++ spellings key other
spelled_append key [] other = refl
spelled_append key (first ∷ others) other = ap (λ (rest : List (List ℕ)). writing key first ∷ rest) (spelled_append key others other)

handed_append : (time : ℕ) (connection : Option ℕ) (one other : List (List ℕ))
    → handed_out time role.Server connection (one ++ other) ≡ handed_out time role.Server connection one ++ handed_out time role.Server connection other
handed_append time connection one other = map-append _ one other

pub sent_append : (time : ℕ) (connection : Option ℕ) (key : Key) (one other : List Pdu)
    → handed_out time role.Server connection (spellings key (one ++ other)) ≡ handed_out time role.Server connection (spellings key one) ++ handed_out time role.Server connection (spellings key other)
sent_append time connection key one other = ap (handed_out time role.Server connection) (spelled_append key one other) ∙ handed_append time connection (spellings key one) (spellings key other)

-- ---- when it leaves

-- in one call, and then in others that enter nothing
left_then : (was mid is entered : Bool) (moment one more left mid_left new_left : ℕ) → ((was || entered) ≡ false → mid ≡ false) → (mid ≡ false → is ≡ false) → (mid ≡ false → more ≡ 0)
    → mid_left ≡ (if (was || entered) && not mid then moment + one else left) → new_left ≡ (if (mid || false) && not is then moment + one + more else mid_left)
    → new_left ≡ (if (was || entered) && not is then moment + (one + more) else left)
left_then was true true entered moment one more left mid_left new_left joins stays none first second = second ∙ first ∙ kept_left was entered where
  kept_left : (a b : Bool) → (if (a || b) && false then moment + one else left) ≡ (if (a || b) && false then moment + (one + more) else left)
  kept_left true b = refl
  kept_left false true = refl
  kept_left false false = refl
left_then true true false entered moment one more left mid_left new_left joins stays none first second = second ∙ sums where
  sums : moment + one + more ≡ moment + (one + more)
  sums = omega arith
left_then false true false true moment one more left mid_left new_left joins stays none first second = second ∙ sums where
  sums : moment + one + more ≡ moment + (one + more)
  sums = omega arith
left_then false true false false moment one more left mid_left new_left joins stays none first second = absurd (cc (joins refl))
left_then was false true entered moment one more left mid_left new_left joins stays none first second = absurd (cc (stays refl))
left_then was false false entered moment one more left mid_left new_left joins stays none first second = second ∙ first ∙ ap (λ (n : ℕ). if (was || entered) && true then n else left) sums where
  sums : moment + one ≡ moment + (one + more)
  sums = omega (arith, none refl)

-- ---- a server outside

-- that enters nothing sends nothing, and stays outside
record IsSilent (made : Made) : Type 0 where
  pub pdus : made.pdus ≡ []
  pub shut : is_open made.link.phase ≡ false

silent : SendLaws → (calls : List Call) (end : EndState) → is_open end.link.phase ≡ false → EnterNone (reading_of end.clock) calls end.link → IsSilent (all_made (reading_of end.clock) calls end.link)
unfolding all_made EnterNone
silent laws [] end shut none = record { pdus = refl; shut = shut }
silent laws (call ∷ calls) end shut none =
    let same = is_made call 0 end
    in let enters = enters_none call 0 end none.0
    in let next : EndState = record end { link = (made_by (reading_of end.clock) call end.link).link }
    in let rest = silent laws calls next (sym (ap (λ (l : LinkState). is_open l.phase) same.link) ∙ laws.stays call 0 end shut enters) none.1
    in record {
      pdus = ap (λ (pdus : List Pdu). pdus ++ (all_made (reading_of end.clock) calls next.link).pdus) (sym same.pdus ∙ (laws.nothing call 0 end shut enters).pdus) ∙ rest.pdus;
      shut = rest.shut;
    }

-- ---- a list of calls

or_none : (was : Bool) (enters : Option ℕ) → (was || is_some enters) ≡ false → (was ≡ false) × (enters ≡ None)
or_none true enters e = absurd (cc e)
or_none false None e = (refl, refl)
or_none false (Some number) e = absurd (cc e)

same_left : (was : Bool) (n left : ℕ) → left ≡ (if (was || false) && not was then n else left)
same_left true n left = refl
same_left false n left = refl

no_calls : (ends : Ends) → ServerIsAfter [] None ends ends
unfolding all_made
no_calls ends = record {
  connection = refl;
  given = sym (append-nil ends.server.given);
  taken = sym (append-nil ends.server.taken);
  left = same_left (is_open ends.server.link.phase) (ends.moment + 0) ends.server.left;
  sent = sym (append-nil ends.sent);
  moment = sums;
}
  where
    sums : ends.moment ≡ ends.moment + 0
    sums = omega arith

module _ (laws : SendLaws) (names : Names) (are : AreNames names) where
  then_after : (call : Call) (calls : List Call) (ends last : Ends) → Timely names ends → MayRun names (Calls role.Server call ∷ []) ends
      → EnterNone (reading_of ends.server.clock) calls (called role.Server call ends).server.link
      → last.server.link ≡ (all_made (reading_of ends.server.clock) calls (called role.Server call ends).server.link).link
      → ServerIsAfter calls None (called role.Server call ends) last → ServerIsAfter (call ∷ calls) (outcome call ends.moment ends.server).enters ends last
  unfolding called end_after all_made
  then_after call calls ends last timely may none linked rest = record {
    connection = rest.connection;
    given = rest.given ∙ append_assoc (kept enters ends.server.given) made.given more.given ∙ ap (λ (items : List (List ℕ)). kept enters ends.server.given ++ items) given_is;
    taken = rest.taken ∙ append_assoc (kept enters ends.server.taken) made.taken more.taken ∙ ap (λ (items : List (List ℕ)). kept enters ends.server.taken ++ items) taken_is;
    left = left_then (is_open ends.server.link.phase) (is_open next.server.link.phase) (is_open last.server.link.phase) (is_some enters) ends.moment (length made.pdus) (length more.pdus) ends.server.left next.server.left last.server.left
        outside later_outside nothing_more refl rest.left
        ∙ ap (λ (n : ℕ). if (is_open ends.server.link.phase || is_some enters) && not (is_open last.server.link.phase) then ends.moment + n else ends.server.left) count_is;
    sent = rest.sent
        ∙ ap (λ (k : Key). next.sent ++ handed_out ends.time role.Server last.server.connection (spellings k more.pdus)) same_key
        ∙ append_assoc ends.sent (handed_out ends.time role.Server next.server.connection (spellings key made.pdus)) (handed_out ends.time role.Server last.server.connection (spellings key more.pdus))
        ∙ ap (λ (c : Option ℕ). ends.sent ++ (handed_out ends.time role.Server c (spellings key made.pdus) ++ handed_out ends.time role.Server last.server.connection (spellings key more.pdus))) (sym rest.connection)
        ∙ ap (λ (s : List Sent). ends.sent ++ s) (sym (sent_append ends.time last.server.connection key made.pdus more.pdus))
        ∙ ap (λ (pdus : List Pdu). ends.sent ++ handed_out ends.time role.Server last.server.connection (spellings key pdus)) pdus_is;
    moment = rest.moment ∙ sums ∙ ap (λ (n : ℕ). ends.moment + n) count_is;
  }
    where
      next : Ends
      next = called role.Server call ends

      now : ℕ
      now = reading_of ends.server.clock

      made : Outcome
      made = outcome call ends.moment ends.server

      enters : Option ℕ
      enters = made.enters

      more : Made
      more = all_made now calls next.server.link

      same : IsMade call ends.moment ends.server
      same = is_made call ends.moment ends.server

      pdus_is : made.pdus ++ more.pdus ≡ (all_made now (call ∷ calls) ends.server.link).pdus
      pdus_is = ap (λ (pdus : List Pdu). pdus ++ more.pdus) same.pdus ∙ ap (λ (l : LinkState). (made_by now call ends.server.link).pdus ++ (all_made now calls l).pdus) same.link

      given_is : made.given ++ more.given ≡ (all_made now (call ∷ calls) ends.server.link).given
      given_is = ap (λ (items : List (List ℕ)). items ++ more.given) same.given ∙ ap (λ (l : LinkState). (made_by now call ends.server.link).given ++ (all_made now calls l).given) same.link

      taken_is : made.taken ++ more.taken ≡ (all_made now (call ∷ calls) ends.server.link).taken
      taken_is = ap (λ (items : List (List ℕ)). items ++ more.taken) same.taken ∙ ap (λ (l : LinkState). (made_by now call ends.server.link).taken ++ (all_made now calls l).taken) same.link

      count_is : length made.pdus + length more.pdus ≡ length (all_made now (call ∷ calls) ends.server.link).pdus
      count_is = sym (length-append made.pdus more.pdus) ∙ ap length pdus_is

      sums : ends.moment + length made.pdus + length more.pdus ≡ ends.moment + (length made.pdus + length more.pdus)
      sums = omega arith

      key : Key
      key = ends.server.link.identity.key

      same_key : next.server.link.identity.key ≡ key
      same_key = ap (λ (i : Identity). i.key) ((laws.time names call ends are timely may).server.identity ∙ sym timely.server.identity)

      outside : (is_open ends.server.link.phase || is_some enters) ≡ false → is_open next.server.link.phase ≡ false
      outside e = let told = or_none (is_open ends.server.link.phase) enters e in laws.stays call ends.moment ends.server told.0 told.1

      later_outside : is_open next.server.link.phase ≡ false → is_open last.server.link.phase ≡ false
      later_outside shut = ap (λ (l : LinkState). is_open l.phase) linked ∙ (silent laws calls next.server shut none).shut

      nothing_more : is_open next.server.link.phase ≡ false → length more.pdus ≡ 0
      nothing_more shut = ap length (silent laws calls next.server shut none).pdus

  -- the law of calls at one clock
  abbrev pub AtOneClock : Type 0
  AtOneClock = (calls : List Call) (ends : Ends) → IsAfter calls ends.server (run (calls_at role.Server calls) ends).server

  clock_stays : (call : Call) (ends : Ends) → (called role.Server call ends).server.clock ≡ ends.server.clock
  unfolding called end_after
  clock_stays call ends = refl

  made_next : (call : Call) (ends : Ends) → (called role.Server call ends).server.link ≡ (made_by (reading_of ends.server.clock) call ends.server.link).link
  unfolding called end_after
  made_next call ends = (is_made call ends.moment ends.server).link

  pub none_after : AtOneClock → (calls : List Call) (ends : Ends) → Timely names ends → MayRun names (calls_at role.Server calls) ends → EnterNone (reading_of ends.server.clock) calls ends.server.link
      → ServerIsAfter calls None ends (run (calls_at role.Server calls) ends)
  unfolding EnterNone
  none_after after [] ends timely may none = no_calls ends
  none_after after (call ∷ calls) ends timely may none =
      let next : Ends = called role.Server call ends
      in let rest_none : EnterNone (reading_of ends.server.clock) calls next.server.link = subst (λ (l : LinkState). EnterNone (reading_of ends.server.clock) calls l) (sym (made_next call ends)) none.1
      in subst (λ (e : Option ℕ). ServerIsAfter (call ∷ calls) e ends (run (calls_at role.Server calls) next)) (enters_none call ends.moment ends.server none.0)
      (then_after call calls ends (run (calls_at role.Server calls) next) timely (may.0, tt) rest_none
      ((after calls next).link ∙ ap (λ (n : ℕ). (all_made (reading_of n) calls next.server.link).link) (clock_stays call ends))
      (none_after after calls next (laws.time names call ends are timely (may.0, tt)) may.1 (subst (λ (n : ℕ). EnterNone (reading_of n) calls next.server.link) (sym (clock_stays call ends)) rest_none)))

  pub first_after : AtOneClock → (call : Call) (calls : List Call) (ends : Ends) → Timely names ends → MayRun names (calls_at role.Server (call ∷ calls)) ends
      → EnterNone (reading_of ends.server.clock) calls (called role.Server call ends).server.link
      → ServerIsAfter (call ∷ calls) (outcome call ends.moment ends.server).enters ends (run (calls_at role.Server (call ∷ calls)) ends)
  first_after after call calls ends timely may none =
      let next : Ends = called role.Server call ends
      in then_after call calls ends (run (calls_at role.Server calls) next) timely (may.0, tt) none
      ((after calls next).link ∙ ap (λ (n : ℕ). (all_made (reading_of n) calls next.server.link).link) (clock_stays call ends))
      (none_after after calls next (laws.time names call ends are timely (may.0, tt)) may.1 (subst (λ (n : ℕ). EnterNone (reading_of n) calls next.server.link) (sym (clock_stays call ends)) none))
