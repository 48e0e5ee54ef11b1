-- The lamp shows what it has to, after every event.
use Rattle.std.proofs.Common.{◌≡◌, ℕ, ◌+◌, ◌<◌, ◌≤◌, inl, inr, ◌∙◌, sym, ap, subst, refl, arith, Bool, true, false, List, [], ◌∷◌, ◌++◌, length, Option, Some, None, Result, Ok, Err}
use Rattle.std.specs.Prelude.{◌⊎◌, ◌&&◌, OnOk, OnErr, nat_le, nat_lt, if◌then◌else◌}
use Rattle.std.specs.Str.{bytes_eq}
use Rattle.std.proofs.lemmas.Bool.Decides.{nat_tests}
use Rattle.std.proofs.lemmas.Slice.Eq.{bytes_eq-Decides}
use Rattle.rasta_core.specs.State.{LinkState, is_open}
use Rattle.rasta_core.specs.Clock.{deadline, alive_until, settled}
use Rattle.rasta_core.specs.identity.Role.TheVariants.{Client, Server}
use Rattle.rasta_core.specs.Ends.{EndState, Call, Ticks, Opens, Closes, Sends, Receives, Outcome, outcome, end_after, end_later, end_restarted, kept, reading_of}
use Rattle.rasta_core.specs.Run.{called, later, lost, restarted}
use Rattle.rasta_core.specs.Calls.{created}
use Rattle.rasta_core.specs.identity.Role.{Role}
use Rattle.rasta_core.specs.Safe.{AreSafe}
use Rattle.signal_ctl.specs.Lamp.{standing}
use Rattle.sci_telegram.specs.declared.message.Aspect.{Aspect}
use Rattle.sci_telegram.specs.declared.message.Aspect.TheVariants.{Stop, Proceed, Slow}
use Rattle.simulator_pair.specs.Pair.{PairState, indicated_after, indicated_by, lamp_after, proceed_item, shown, stepped, stop_item, unless_closed}
use Rattle.simulator_pair.specs.Events.{connection_of, copy_of, happens}
use Rattle.simulator_pair.specs.Lamp.{StopHolds, aspect_due, aspect_taken, last_aspect}
use Rattle.simulator_pair.specs.inside.Lit.{IsLit}
use Rattle.simulator_pair.specs.declared.event.PairEvent.{PairEvent}
use Rattle.simulator_pair.specs.declared.event.PairEvent.TheVariants as event
use Rattle.simulator_pair.specs.declared.event.PairReply.{PairReply}
use Rattle.simulator_refused.specs.declared.refused.Refused.{Refused}

-- the laws of how an end enters a connection
pub record EnteringLaws : Type 0 where
  pub stays : (call : Call) (moment : ℕ) (end : EndState) → is_open end.link.phase ≡ false → (outcome call moment end).enters ≡ None → is_open (outcome call moment end).link.phase ≡ false
  pub server : (call : Call) (moment connection : ℕ) (end : EndState) → end.link.identity.role ≡ Server → (outcome call moment end).enters ≡ Some connection → is_open end.link.phase ≡ false

abbrev pub IsServer : PairState → Type 0
IsServer pair = pair.ends.server.link.identity.role ≡ Server

-- ---- items one after the other

pub indicated_append : (earlier later : List (List ℕ)) (last : Aspect) → indicated_after (earlier ++ later) last ≡ indicated_after later (indicated_after earlier last)
unfolding indicated_after
indicated_append [] later last = refl
indicated_append (first ∷ others) later last = indicated_append others later (indicated_by first last)

-- ---- a step of the server

open_then : (link : LinkState) (last : Aspect) → is_open link.phase ≡ true → unless_closed link last ≡ last
open_then link last inside = rw inside refl

shut_then : (link : LinkState) (last : Aspect) → is_open link.phase ≡ false → unless_closed link last ≡ Stop
shut_then link last outside = rw outside refl

-- inside after the step, the server was inside with the items that it keeps, or it begins with none
indicated_before : EnteringLaws → (call : Call) (pair : PairState) → IsServer pair → IsLit pair → is_open (outcome call pair.ends.moment pair.ends.server).link.phase ≡ true
    → unless_closed pair.ends.server.link pair.lamp.indicated ≡ last_aspect (kept (outcome call pair.ends.moment pair.ends.server).enters pair.ends.server.taken)
unfolding indicated_after
indicated_before laws call pair is_server lit inside = by_entry (outcome call pair.ends.moment pair.ends.server).enters refl where
  server : EndState
  server = pair.ends.server

  Goal : Option ℕ → Type 0
  Goal enters = unless_closed server.link pair.lamp.indicated ≡ last_aspect (kept enters server.taken)

  by_phase : (was_inside : Bool) → is_open server.link.phase ≡ was_inside → (outcome call pair.ends.moment server).enters ≡ None → Goal None
  by_phase true e enters = open_then server.link pair.lamp.indicated e ∙ lit.inside e
  by_phase false e enters = let out = laws.stays call pair.ends.moment server e enters in cc

  by_entry : (enters : Option ℕ) → (outcome call pair.ends.moment server).enters ≡ enters → Goal enters
  by_entry None e = by_phase (is_open server.link.phase) refl e
  by_entry (Some connection) e = shut_then server.link pair.lamp.indicated (laws.server call pair.ends.moment connection server is_server e)

server_lit : EnteringLaws → (call : Call) (pair : PairState) → IsServer pair → IsLit pair → IsLit (stepped Server call pair)
unfolding stepped called end_after lamp_after
server_lit laws call pair is_server lit = record {
  until = refl;
  inside = λ inside.
      open_then made.link _ inside
      ∙ ap (indicated_after made.taken) (indicated_before laws call pair is_server lit inside)
      ∙ sym (indicated_append (kept made.enters pair.ends.server.taken) made.taken Stop);
  outside = λ outside. inl (shut_then made.link _ outside);
}
  where
    made : Outcome
    made = outcome call pair.ends.moment pair.ends.server

client_lit : (call : Call) (pair : PairState) → IsLit pair → IsLit (stepped Client call pair)
unfolding stepped called
client_lit call pair lit = record { until = lit.until; inside = lit.inside; outside = lit.outside }

stepped_lit : EnteringLaws → (who : Role) (call : Call) (pair : PairState) → IsServer pair → IsLit pair → IsLit (stepped who call pair)
stepped_lit laws Client call pair is_server lit = client_lit call pair lit
stepped_lit laws Server call pair is_server lit = server_lit laws call pair is_server lit

-- ---- time goes on

-- where the link's time has come, or not
settled_cases : (P : LinkState → Type 0) (now : ℕ) (link : LinkState)
    → (is_open link.phase ≡ true → deadline link ≤ now → P (settled now link)) → (settled now link ≡ record link { clock = now } → P (settled now link)) → P (settled now link)
unfolding settled
settled_cases P now link comes goes_on = by_open (is_open link.phase) refl where
  by_time : (come : Bool) → is_open link.phase ≡ true → nat_le (deadline link) now ≡ come → P (settled now link)
  by_time true inside e = comes inside (grind (arith, nat_tests))
  by_time false inside e = goes_on (rw (inside, e) refl)

  by_open : (inside : Bool) → is_open link.phase ≡ inside → P (settled now link)
  by_open true e = by_time (nat_le (deadline link) now) e refl
  by_open false e = goes_on (rw e refl)

alive_settled : (now : ℕ) (link : LinkState) → alive_until (settled now link) ≡ alive_until link
unfolding alive_until deadline settled
alive_settled now link = by_come (is_open link.phase && nat_le (deadline link) now) refl where
  Goal : LinkState → Type 0
  Goal after = alive_until after ≡ alive_until link

  by_come : (come : Bool) → (is_open link.phase && nat_le (deadline link) now) ≡ come → Goal (settled now link)
  by_come true e = rw e refl
  by_come false e = rw e refl

-- what is told of the time that has come isn't later
told_past : (now : ℕ) (link : LinkState) → deadline link ≤ now → alive_until link ≤ now
unfolding alive_until
told_past now link come = omega (arith, come)

later_lit : (elapsed of_client of_server : ℕ) (pair : PairState) → IsLit pair → IsLit (record pair { ends = later elapsed of_client of_server pair.ends })
unfolding later end_later
later_lit elapsed of_client of_server pair lit = record {
  until = lit.until ∙ sym (alive_settled now link);
  inside = λ inside. lit.inside (was_open inside);
  outside = settled_cases Outside now link (λ inside come outside. inr (omega (arith, lit.until, told_past now link come))) (λ same outside. still (lit.outside (was_shut same outside)));
}
  where
    now : ℕ
    now = reading_of (pair.ends.server.clock + of_server)

    link : LinkState
    link = pair.ends.server.link

    Outside : LinkState → Type 0
    Outside after = is_open after.phase ≡ false → (pair.lamp.indicated ≡ Stop) ⊎ (pair.lamp.until ≤ now)

    Was_open : LinkState → Type 0
    Was_open after = is_open after.phase ≡ true → is_open link.phase ≡ true

    was_open : is_open (settled now link).phase ≡ true → is_open link.phase ≡ true
    was_open = settled_cases Was_open now link (λ inside come still_inside. inside) (λ same still_inside. cc (ap (λ (l : LinkState). is_open l.phase) same))

    was_shut : settled now link ≡ record link { clock = now } → is_open (settled now link).phase ≡ false → is_open link.phase ≡ false
    was_shut same outside = cc (ap (λ (l : LinkState). is_open l.phase) same)

    still : (pair.lamp.indicated ≡ Stop) ⊎ (pair.lamp.until ≤ reading_of pair.ends.server.clock) → (pair.lamp.indicated ≡ Stop) ⊎ (pair.lamp.until ≤ now)
    still (inl dark) = inl dark
    still (inr past) = inr (omega (arith, past))

-- ---- every event

pub lit_happens : EnteringLaws → (happening : PairEvent) (pair : PairState) → IsServer pair → IsLit pair → IsLit (happens happening pair)
unfolding happens lost restarted end_restarted created
lit_happens laws (event.Give who item) pair is_server lit = stepped_lit laws who (Sends item) pair is_server lit
lit_happens laws (event.Tick Client) pair is_server lit = client_lit Opens (stepped Client Ticks pair) (client_lit Ticks pair lit)
lit_happens laws (event.Tick Server) pair is_server lit = server_lit laws Ticks pair is_server lit
lit_happens laws (event.Time elapsed of_client of_server) pair is_server lit = later_lit elapsed of_client of_server pair lit
lit_happens laws (event.Deliver who bytes) pair is_server lit = stepped_lit laws who (Receives bytes.items (connection_of (copy_of bytes.items pair.ends))) pair is_server lit
lit_happens laws (event.Lose bytes) pair is_server lit = record { until = lit.until; inside = lit.inside; outside = lit.outside }
lit_happens laws (event.Close who why) pair is_server lit = stepped_lit laws who (Closes why) pair is_server lit
lit_happens laws (event.Restart Client clock first) pair is_server lit = record { until = lit.until; inside = lit.inside; outside = lit.outside }
lit_happens laws (event.Restart Server clock first) pair is_server lit = record { until = refl; inside = λ inside. cc; outside = λ outside. inl refl }

-- and every answer of `apply`
pub lit_answer : EnteringLaws → (happening : PairEvent) (old new : PairState) (answer : Result PairReply Refused) → OnOk answer (new ≡ happens happening old) → OnErr answer (new ≡ old) → IsServer old → IsLit old → IsLit new
lit_answer laws happening old new (Ok reply) step same is_server lit = subst IsLit (sym step) (lit_happens laws happening old is_server lit)
lit_answer laws happening old new (Err why) step same is_server lit = subst IsLit (sym same) lit

-- ---- what follows

not_before : (until now : ℕ) → until ≤ now → nat_lt now until ≡ false
not_before until now past = grind (arith, nat_tests)

dark_at : (aspect : Aspect) (until now : ℕ) → until ≤ now → standing aspect until now ≡ Stop
dark_at Stop until now past = refl
dark_at Proceed until now past = rw (not_before until now past) refl
dark_at Slow until now past = rw (not_before until now past) refl

pub lit_shows : (pair : PairState) → IsLit pair → shown pair ≡ aspect_due pair.ends.server
lit_shows pair lit = by_phase (is_open pair.ends.server.link.phase) refl where
  now : ℕ
  now = reading_of pair.ends.server.clock

  link : LinkState
  link = pair.ends.server.link

  dark : (pair.lamp.indicated ≡ Stop) ⊎ (pair.lamp.until ≤ now) → standing pair.lamp.indicated pair.lamp.until now ≡ Stop
  dark (inl stop) = ap (λ aspect. standing aspect pair.lamp.until now) stop
  dark (inr past) = dark_at pair.lamp.indicated pair.lamp.until now past

  by_phase : (inside : Bool) → is_open link.phase ≡ inside → shown pair ≡ aspect_due pair.ends.server
  by_phase true e =
      ap (λ until. standing pair.lamp.indicated until now) lit.until
      ∙ ap (λ aspect. standing aspect (alive_until link) now) (lit.inside e ∙ sym (ap (λ (b : Bool). if b then last_aspect pair.ends.server.taken else Stop) e))
  by_phase false e =
      dark (lit.outside e)
      ∙ sym (ap (λ (b : Bool). standing (if b then last_aspect pair.ends.server.taken else Stop) (alive_until link) now) e)

-- ---- a stop that is confirmed

-- what two lists have in common, as far as the longer reaches
split_beginning : (earlier later taken rest : List (List ℕ)) (item : List ℕ) → earlier ++ item ∷ later ≡ taken ++ rest → length earlier < length taken
    → (tail : List (List ℕ)) × (taken ≡ earlier ++ item ∷ tail)
split_beginning earlier later [] rest item same shorter = absurd (omega (arith, shorter))
split_beginning [] later (first ∷ others) rest item same shorter = (others, cc)
split_beginning (one ∷ earlier) later (first ∷ others) rest item same shorter =
    let tails : earlier ++ item ∷ later ≡ others ++ rest = cc
    in let shorter_tail : length earlier < length others = omega (arith, shorter)
    in let inner = split_beginning earlier later others rest item tails shorter_tail
    in let heads : one ≡ first = cc
    in (inner.0, ap (λ (x : List ℕ). x ∷ others) (sym heads) ∙ ap (λ (xs : List (List ℕ)). one ∷ xs) inner.1)

-- from stop, proceed comes only by an item that indicates it
proceed_among : (items : List (List ℕ)) → indicated_after items Stop ≡ Proceed → (between rest : List (List ℕ)) × (items ≡ between ++ proceed_item ∷ rest)
unfolding indicated_after
proceed_among [] same = cc
proceed_among (first ∷ others) same = by_item (bytes_eq first proceed_item) refl (λ later. proceed_among others later) where
  stays : bytes_eq first proceed_item ≡ false → indicated_by first Stop ≡ Stop
  stays e = by_stop (bytes_eq first stop_item) where
    by_stop : (told : Bool) → (if bytes_eq first proceed_item then Proceed else if told then Stop else Stop) ≡ Stop
    by_stop true = rw e refl
    by_stop false = rw e refl

  Found : List (List ℕ) → Type 0
  Found items = (between rest : List (List ℕ)) × (items ≡ between ++ proceed_item ∷ rest)

  by_item : (told : Bool) → bytes_eq first proceed_item ≡ told → (indicated_after others Stop ≡ Proceed → Found others) → (between rest : List (List ℕ)) × (first ∷ others ≡ between ++ proceed_item ∷ rest)
  by_item true e in_others = ([], others, ap (λ (item : List ℕ). item ∷ others) ((bytes_eq-Decides first proceed_item).0 e))
  by_item false e in_others =
      let inner = in_others (sym (ap (indicated_after others) (stays e)) ∙ same)
      in (first ∷ inner.0, inner.1, ap (λ (items : List (List ℕ)). first ∷ items) inner.2)

stop_then : (earlier tail : List (List ℕ)) → indicated_after (earlier ++ stop_item ∷ tail) Stop ≡ indicated_after tail Stop
unfolding indicated_after
stop_then earlier tail = indicated_append earlier (stop_item ∷ tail) Stop

due_proceed : (end : EndState) → aspect_due end ≡ Proceed → last_aspect end.taken ≡ Proceed
due_proceed end due = by_phase (is_open end.link.phase) refl where
  aspect_stands : (aspect : Aspect) (until now : ℕ) → standing aspect until now ≡ Proceed → aspect ≡ Proceed
  aspect_stands Stop until now e = e
  aspect_stands Proceed until now e = refl
  aspect_stands Slow until now e = not_slow (nat_lt now until) e where
    not_slow : (before : Bool) → (if before then Slow else Stop) ≡ Proceed → Slow ≡ Proceed
    not_slow true f = f
    not_slow false f = cc

  by_phase : (inside : Bool) → is_open end.link.phase ≡ inside → last_aspect end.taken ≡ Proceed
  by_phase inside e = by_inside inside (sym (ap (λ (b : Bool). if b then last_aspect end.taken else Stop) e) ∙ aspect_stands (aspect_taken end) (alive_until end.link) (reading_of end.clock) due)
    where
      by_inside : (b : Bool) → (if b then last_aspect end.taken else Stop) ≡ Proceed → last_aspect end.taken ≡ Proceed
      by_inside true f = f
      by_inside false f = cc

joined : (taken earlier tail later : List (List ℕ)) → taken ≡ earlier ++ stop_item ∷ tail → tail ≡ later → taken ≡ earlier ++ stop_item ∷ later
joined taken earlier tail later split found = split ∙ ap (λ (t : List (List ℕ)). earlier ++ stop_item ∷ t) found

pub stop_holds : (pair : PairState) → AreSafe pair.ends → IsLit pair → StopHolds pair
stop_holds pair safe lit = λ connection of_client of_server earlier later given confirmed proceed.
    let one_way = (safe connection of_client of_server).0
    in let split = split_beginning earlier later pair.ends.server.taken one_way.rest stop_item (sym given ∙ one_way.beginning) (omega (arith, confirmed, one_way.confirmed))
    in let last : last_aspect pair.ends.server.taken ≡ Proceed = due_proceed pair.ends.server (sym (lit_shows pair lit) ∙ proceed)
    in let after_stop : indicated_after split.0 Stop ≡ Proceed = sym (stop_then earlier split.0) ∙ ap (λ items. indicated_after items Stop) (sym split.1) ∙ last
    in let found = proceed_among split.0 after_stop
    in (found.0, found.1, joined pair.ends.server.taken earlier split.0 (found.0 ++ proceed_item ∷ found.1) split.1 found.2)
