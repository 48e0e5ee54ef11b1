-- What the code asks of a link, and what it notes, in the words of the definitions.
use Rattle.std.proofs.Common.{◌≡◌, refl, sym, ap, ◌∙◌, ℕ, ◌+◌, ◌/◌, ◌==◌, ◌<◌, ◌≤◌, ◌&&◌, ◌||◌, min, not, Bool, true, false, List, [], ◌∷◌, ◌++◌, length, map, Option, Some, subst, if◌then◌else◌, arith}
use Rattle.std.specs.Prelude.{nat_le, nat_lt}
use Rattle.std.proofs.lemmas.Bool.Decides.{nat_tests}
use Rattle.std.proofs.lemmas.Grind.{common_steps}
use Rattle.std.proofs.lemmas.List.{length-map}
use Rattle.simulator_spec.specs.rasta_core.Clock.{alive_until, deadline, settled}
use Rattle.simulator_spec.specs.rasta_core.Ends.{handed_out, reading_of}
use Rattle.simulator_spec.specs.rasta_core.Links.{OnLink, sent_on}
use Rattle.simulator_spec.specs.rasta_core.Outbox.{OutboxState, posted, spellings}
use Rattle.simulator_spec.specs.rasta_core.State.{LinkState, is_open}
use Rattle.simulator_spec.specs.rasta_pdu.Spelling.{writing}
use Rattle.simulator_spec.specs.rasta_pdu.declared.key.Key.{Key}
use Rattle.simulator_spec.specs.rasta_pdu.declared.pdu.Pdu.{Pdu}
use Rattle.simulator_spec.specs.object_host.Host.{HostState, HostSoFar}
use Rattle.simulator_spec.specs.object_host.Hosted.{empty_outbox, most_in_step}
use Rattle.simulator_spec.specs.object_host.Behaviour.{Behaviour}
use Rattle.simulator_spec.specs.object_host.Step.{host_step}
use Rattle.simulator_spec.specs.object_host.declared.input.Input.{Input}
use Rattle.simulator_spec.specs.Controllers.{controller_after, is_inside_at, is_some_sent, sent_by_controller, step_of}
use Rattle.simulator_spec.specs.State.{ClockedControllerState}
use Rattle.simulator_field.specs.declared.stay.Stay.{Stay}
use Rattle.simulator_field.specs.inside.Stay.{noted}
use Rattle.simulator_field.proofs.OutboxTaken.{by_server}

-- ---- whether a link is in a connection

closed_by_time : (now : ℕ) (link : LinkState) → (is_open link.phase && nat_le (deadline link) now) ≡ true → is_open (settled now link).phase ≡ false
unfolding settled
closed_by_time now link over = rw over refl

as_it_was : (now : ℕ) (link : LinkState) → (is_open link.phase && nat_le (deadline link) now) ≡ false → is_open (settled now link).phase ≡ is_open link.phase
unfolding settled
as_it_was now link over = rw over refl

not_lt : (now until : ℕ) (opened : Bool) → opened ≡ true → (opened && nat_le until now) ≡ true → nat_lt now until ≡ false
not_lt now until opened is_open over = grind (arith, nat_tests, common_steps)

is_lt : (now until : ℕ) (opened : Bool) → opened ≡ true → (opened && nat_le until now) ≡ false → nat_lt now until ≡ true
is_lt now until opened is_open over = grind (arith, nat_tests, common_steps)

greatest_is_later : (now until : ℕ) → now < 18446744073709551615 → nat_lt now (min until 18446744073709551615) ≡ nat_lt now until
greatest_is_later now until fits = grind (arith, nat_tests, common_steps)

in_time : (now : ℕ) (link : LinkState) → is_open link.phase ≡ true → nat_lt now (deadline link) ≡ is_open (settled now link).phase
in_time now link opened = by_test (is_open link.phase && nat_le (deadline link) now) refl where
  by_test : (over : Bool) → (is_open link.phase && nat_le (deadline link) now) ≡ over → nat_lt now (deadline link) ≡ is_open (settled now link).phase
  by_test true over = not_lt now (deadline link) (is_open link.phase) opened over ∙ sym (closed_by_time now link over)
  by_test false over = is_lt now (deadline link) (is_open link.phase) opened over ∙ sym (as_it_was now link over ∙ opened)

told_deadline : (now : ℕ) (link : LinkState) → now < 18446744073709551615 → nat_lt now (alive_until link) ≡ nat_lt now (deadline link)
unfolding alive_until
told_deadline now link fits = greatest_is_later now (deadline link) fits

pub inside_while_alive : (clock until : ℕ) (link : LinkState) → clock < 18446744073709551616 → until ≡ alive_until link → is_open link.phase ≡ true → nat_lt (clock / 1000) until ≡ is_inside_at clock link
inside_while_alive clock until link fits until_is opened =
    ap (nat_lt (clock / 1000)) until_is ∙ told_deadline (clock / 1000) link (omega arith) ∙ in_time (clock / 1000) link opened

stays_closed : (now : ℕ) (link : LinkState) (opened : Bool) → is_open link.phase ≡ false → (is_open link.phase && nat_le (deadline link) now) ≡ false
stays_closed now link opened closed = rw closed refl

pub outside_where_closed : (clock : ℕ) (link : LinkState) (result : Bool) → result ≡ is_open link.phase → result ≡ false → result ≡ is_inside_at clock link
outside_where_closed clock link result result_is closed =
    let link_closed = sym result_is ∙ closed
    in result_is ∙ sym (as_it_was (clock / 1000) link (stays_closed (clock / 1000) link false link_closed))

-- ---- what a step leaves

above_zero : (n : ℕ) → 0 < n → not (n == 0) ≡ true
above_zero n above = grind (arith, nat_tests, common_steps)

some_counted : (pdus : List Pdu) → not (length pdus == 0) ≡ is_some_sent pdus
some_counted [] = refl
some_counted (first ∷ others) = above_zero (length (first ∷ others)) (omega arith)

pub datagrams_posted : (key : Key) (pdus : List Pdu) (outbox : OutboxState) → outbox ≡ posted key pdus empty_outbox → outbox.datagrams ≡ spellings key pdus
unfolding posted
datagrams_posted key pdus outbox is_posted = ap (λ (o : OutboxState). o.datagrams) is_posted

pub few_posted : (key : Key) (pdus : List Pdu) (outbox : OutboxState) → outbox ≡ posted key pdus empty_outbox → length pdus ≤ most_in_step → length outbox.datagrams ≤ most_in_step
few_posted key pdus outbox is_posted few =
    let same = ap length (datagrams_posted key pdus outbox is_posted)
    in let spelled = length-map pdus (writing key)
    in omega (arith, same, spelled, few)

pub counted : (key : Key) (pdus : List Pdu) (outbox : OutboxState) (sends : ℕ) → outbox ≡ posted key pdus empty_outbox → sends ≡ length outbox.datagrams → sends ≡ length pdus
counted key pdus outbox sends is_posted sends_are = sends_are ∙ ap length (datagrams_posted key pdus outbox is_posted) ∙ length-map pdus (writing key)

module _ {Object : Type 0} where
  made : HostState Object → Bool → Bool → ℕ → Bool → ℕ → ℕ → ClockedControllerState Object → ClockedControllerState Object
  made host was_inside opened sends some connection moment old = record {
    host = host;
    clock = old.clock;
    connection = if not was_inside && some then Some connection else old.connection;
    left = if (was_inside || (not was_inside && some)) && not opened then moment + sends else old.left;
  }

  as_made : (done : HostSoFar Object) (connection moment : ℕ) (old : ClockedControllerState Object)
      → made done.host (is_inside_at old.clock old.host.link) (is_open done.host.link.phase) (length done.pdus) (is_some_sent done.pdus) connection moment old ≡ controller_after done connection moment old
  unfolding made controller_after
  as_made done connection moment old = refl

  as_noted : (host : HostState Object) (was_inside opened : Bool) (sends connection moment : ℕ) (old : ClockedControllerState Object) (stay new_stay : Stay) → stay.connection ≡ old.connection → stay.left ≡ old.left
      → new_stay ≡ noted was_inside sends opened connection moment stay
      → (record { host = host; clock = old.clock; connection = new_stay.connection; left = new_stay.left }) ≡ made host was_inside opened sends (not (sends == 0)) connection moment old
  unfolding made
  as_noted host was_inside opened sends connection moment old stay new_stay same_connection same_left stay_is =
      let After : Stay → ClockedControllerState Object = λ s. record { host = host; clock = old.clock; connection = s.connection; left = s.left }
      in let Made : Option ℕ → ℕ → ClockedControllerState Object = λ c l. record {
        host = host;
        clock = old.clock;
        connection = if not was_inside && not (sends == 0) then Some connection else c;
        left = if (was_inside || (not was_inside && not (sends == 0))) && not opened then moment + sends else l;
      }
      in ap After stay_is ∙ ap (λ c. Made c stay.left) same_connection ∙ ap (Made old.connection) same_left

  pub step_noted : (done : HostSoFar Object) (connection moment sends : ℕ) (old : ClockedControllerState Object) (host : HostState Object) (was_inside opened : Bool) (stay new_stay : Stay)
      → stay.connection ≡ old.connection → stay.left ≡ old.left → host ≡ done.host → was_inside ≡ is_inside_at old.clock old.host.link → opened ≡ is_open done.host.link.phase → sends ≡ length done.pdus
      → new_stay ≡ noted was_inside sends opened connection moment stay
      → (record { host = host; clock = old.clock; connection = new_stay.connection; left = new_stay.left }) ≡ controller_after done connection moment old
  step_noted done connection moment sends old host was_inside opened stay new_stay same_connection same_left host_is inside_is open_is sends_are stay_is =
      as_noted host was_inside opened sends connection moment old stay new_stay same_connection same_left stay_is
      ∙ ap (λ h. made h was_inside opened sends (not (sends == 0)) connection moment old) host_is
      ∙ ap (λ i. made done.host i opened sends (not (sends == 0)) connection moment old) inside_is
      ∙ ap (λ o. made done.host (is_inside_at old.clock old.host.link) o sends (not (sends == 0)) connection moment old) open_is
      ∙ ap (λ s. made done.host (is_inside_at old.clock old.host.link) (is_open done.host.link.phase) s (not (s == 0)) connection moment old) sends_are
      ∙ ap (λ s. made done.host (is_inside_at old.clock old.host.link) (is_open done.host.link.phase) (length done.pdus) s connection moment old) (some_counted done.pdus)
      ∙ as_made done connection moment old

  pub step_sent : (done : HostSoFar Object) (link time : ℕ) (connection : Option ℕ) (datagrams : List (List ℕ)) (old new : ClockedControllerState Object) → datagrams ≡ spellings old.host.link.identity.key done.pdus → connection ≡ new.connection
      → by_server link time connection datagrams ≡ sent_by_controller done time link old new
  unfolding sent_by_controller
  step_sent done link time connection datagrams old new datagrams_are connection_is =
      ap (by_server link time connection) datagrams_are ∙ ap (λ c. by_server link time c (spellings old.host.link.identity.key done.pdus)) connection_is

  -- what the code has at the end of a step, of a controller that was seen so before it
  abbrev server_of : HostState Object → ℕ → Stay → ClockedControllerState Object
  server_of host clock stay = record { host = host; clock = clock; connection = stay.connection; left = stay.left }

  done_at : (does : Behaviour Object) (input : Input) (now clock : ℕ) (host : HostState Object) (stay : Stay) → now ≡ reading_of clock → host_step does now input host ≡ step_of does input (server_of host clock stay)
  done_at does input now clock host stay now_is = ap (λ n. host_step does n input host) now_is

  pub step_performed : (does : Behaviour Object) (input : Input) (host host_after host_last : HostState Object) (clock now connection moment sends : ℕ) (was_inside opened : Bool) (stay new_stay : Stay) (outbox : OutboxState) (old : ClockedControllerState Object)
      → server_of host clock stay ≡ old → was_inside ≡ is_inside_at clock old.host.link → now ≡ reading_of old.clock → host_after ≡ (host_step does now input host).host
      → outbox ≡ posted host.link.identity.key (host_step does now input host).pdus empty_outbox → opened ≡ is_open host_after.link.phase → sends ≡ length outbox.datagrams
      → new_stay ≡ noted was_inside sends opened connection moment stay → host_last ≡ host_after
      → server_of host_last clock new_stay ≡ controller_after (step_of does input old) connection moment old
  step_performed does input host host_after host_last clock now connection moment sends was_inside opened stay new_stay outbox old is_old =
      let Performed : ClockedControllerState Object → Type 0 = λ seen.
      was_inside ≡ is_inside_at clock seen.host.link → now ≡ reading_of seen.clock → host_after ≡ (host_step does now input host).host
      → outbox ≡ posted host.link.identity.key (host_step does now input host).pdus empty_outbox → opened ≡ is_open host_after.link.phase → sends ≡ length outbox.datagrams
      → new_stay ≡ noted was_inside sends opened connection moment stay → host_last ≡ host_after
      → server_of host_last clock new_stay ≡ controller_after (step_of does input seen) connection moment seen
      in subst Performed is_old performed
    where
      performed : was_inside ≡ is_inside_at clock host.link → now ≡ reading_of clock → host_after ≡ (host_step does now input host).host
          → outbox ≡ posted host.link.identity.key (host_step does now input host).pdus empty_outbox → opened ≡ is_open host_after.link.phase → sends ≡ length outbox.datagrams
          → new_stay ≡ noted was_inside sends opened connection moment stay → host_last ≡ host_after
          → server_of host_last clock new_stay ≡ controller_after (step_of does input (server_of host clock stay)) connection moment (server_of host clock stay)
      performed inside_is now_is after_is outbox_is opened_is sends_are stay_is last_is =
          let done = done_at does input now clock host stay now_is
          in let after : host_after ≡ (step_of does input (server_of host clock stay)).host = after_is ∙ ap (λ (d : HostSoFar Object). d.host) done
          in step_noted (step_of does input (server_of host clock stay)) connection moment sends (server_of host clock stay) host_last was_inside opened stay new_stay refl refl
          (last_is ∙ after) inside_is (opened_is ∙ ap (λ (h : HostState Object). is_open h.link.phase) after)
          (counted host.link.identity.key (host_step does now input host).pdus outbox sends outbox_is sends_are ∙ ap (λ (d : HostSoFar Object). length d.pdus) done) stay_is

  pub step_handed_out : (does : Behaviour Object) (input : Input) (host : HostState Object) (clock now link time : ℕ) (stay : Stay) (outbox : OutboxState) (old new : ClockedControllerState Object)
      → server_of host clock stay ≡ old → now ≡ reading_of old.clock → outbox ≡ posted host.link.identity.key (host_step does now input host).pdus empty_outbox
      → by_server link time new.connection outbox.datagrams ≡ sent_by_controller (step_of does input old) time link old new
  step_handed_out does input host clock now link time stay outbox old new is_old =
      let HandedOut : ClockedControllerState Object → Type 0 = λ seen.
      now ≡ reading_of seen.clock → outbox ≡ posted host.link.identity.key (host_step does now input host).pdus empty_outbox
      → by_server link time new.connection outbox.datagrams ≡ sent_by_controller (step_of does input seen) time link seen new
      in subst HandedOut is_old handed
    where
      handed : now ≡ reading_of clock → outbox ≡ posted host.link.identity.key (host_step does now input host).pdus empty_outbox
          → by_server link time new.connection outbox.datagrams ≡ sent_by_controller (step_of does input (server_of host clock stay)) time link (server_of host clock stay) new
      handed now_is outbox_is =
          step_sent (step_of does input (server_of host clock stay)) link time new.connection outbox.datagrams (server_of host clock stay) new
          (datagrams_posted host.link.identity.key (host_step does now input host).pdus outbox outbox_is ∙ ap (λ (d : HostSoFar Object). spellings host.link.identity.key d.pdus) (done_at does input now clock host stay now_is)) refl
