-- What the object is told in a step.
use Rattle.std.proofs.Common.{◌≡◌, ℕ, suc, zero, Bool, true, false, not, if◌then◌else◌, List, [], ◌∷◌, ◌++◌, append_assoc, refl, ap, sym, ◌∙◌, subst}
use Rattle.std.specs.Prelude.{Option, Some, None, Result, Ok, Err, is_ok}
use Rattle.std.proofs.lemmas.Bool.{true≢false, false≢true}
use Rattle.std.proofs.lemmas.List.{append-nil}
use Rattle.sci_telegram.specs.TelegramRead.{reading}
use Rattle.sci_telegram.specs.declared.fault.SciFault.{SciFault}
use Rattle.sci_telegram.specs.declared.message.Message.{Message}
use Rattle.sci_telegram.specs.declared.message.Message.TheVariants as message
use Rattle.sci_telegram.specs.declared.telegram.Telegram.{Telegram}
use Rattle.rasta_core.specs.State.{LinkState, is_open}
use Rattle.rasta_core.specs.Clock.{settled}
use Rattle.rasta_core.specs.Calls.{answer_to_send, receiving}
use Rattle.object_host.specs.Behaviour.{Behaviour}
use Rattle.object_host.specs.Meaning.{meaning, commanding as to_object}
use Rattle.object_host.specs.Host.{HostState, LinkCall, HostSoFar, Ticks, Closes, Sends, Receives, is_completed, keeping, silent, then_do}
use Rattle.object_host.specs.Made.{ActsOn, AreOwn, IsMadeOf, IsOwn, call_made, calls_made, command_of, commands_of, items_taken, items_taken_by}
use Rattle.object_host.specs.Made as made
use Rattle.object_host.specs.Step.{acting, acting_all, beating, beginning, following, given, goes_on, hearing, host_step, is_admitted, most_owed, paid, paying, paying_first, posting, received, violating}
use Rattle.object_host.specs.declared.meaning.Meaning.{Meaning}
use Rattle.object_host.specs.declared.meaning.Meaning.TheVariants as meanings
use Rattle.object_host.specs.declared.input.Input.{Input}
use Rattle.object_host.specs.declared.input.Input.TheVariants as inputs
use Rattle.object_host.specs.declared.report.Report.{Report}
use Rattle.object_host.specs.declared.stage.Stage.{Stage}
use Rattle.object_host.specs.declared.stage.Stage.TheVariants as stage
use Rattle.object_host.proofs.Between.{is_command, no_command}
use Rattle.object_host.proofs.Closed.{closing_closed, closing_closes, sending_closed, ticking_closed}
use Rattle.object_host.proofs.Made.{IsPart, acting_all_part, beating_part, begun_link, fallen_link, given_made, made_then, paying_part}

-- own calls take nothing, and leave a closed link closed
own_takes_nothing : (now : ℕ) (calls : List LinkCall) (link : LinkState) → AreOwn calls → items_taken now calls link ≡ []
unfolding items_taken
own_takes_nothing now [] link own = refl
own_takes_nothing now (Ticks ∷ others) link own = own_takes_nothing now others _ own.1
own_takes_nothing now (Closes why ∷ others) link own = own_takes_nothing now others _ own.1
own_takes_nothing now (Sends item ∷ others) link own = own_takes_nothing now others _ own.1
own_takes_nothing now (Receives bytes ∷ others) link own = absurd own.0

pub own_closed : (now : ℕ) (calls : List LinkCall) (link : LinkState) → AreOwn calls → is_open link.phase ≡ false →
    is_open (calls_made now calls link).link.phase ≡ false
unfolding calls_made
own_closed now [] link own closed = closed
own_closed now (Ticks ∷ others) link own closed = own_closed now others _ own.1 (ticking_closed now link closed)
own_closed now (Closes why ∷ others) link own closed = own_closed now others _ own.1 (closing_closed now why link closed)
own_closed now (Sends item ∷ others) link own closed = own_closed now others _ own.1 (sending_closed now item link closed)
own_closed now (Receives bytes ∷ others) link own closed = absurd own.0

items_joined : (now : ℕ) (first others : List LinkCall) (link : LinkState) →
    items_taken now (first ++ others) link ≡ items_taken now first link ++ items_taken now others (calls_made now first link).link
unfolding items_taken calls_made
items_joined now [] others link = refl
items_joined now (call ∷ calls) others link =
    ap (λ rest. items_taken_by now call link ++ rest) (items_joined now calls others (call_made now call link).link)
    ∙ sym (append_assoc (items_taken_by now call link) _ _)

-- the meanings of commands
is_own : Meaning → Bool
is_own (meanings.Checks version) = true
is_own meanings.Initialises = true
is_own meanings.Commands = false
is_own meanings.Violates = false

not_own : (s : Stage) → is_own (to_object s) ≡ false
unfolding is_own
not_own stage.Outside = refl
not_own stage.AwaitsCheck = refl
not_own stage.AwaitsRequest = refl
not_own stage.Completed = refl
not_own stage.Refused = refl

own_meaning : (m : Message) (s : Stage) → is_own (meaning m s) ≡ true → made.is_command m ≡ false
own_meaning (message.Initialisation p x) s own = refl
own_meaning (message.Point x) s own = absurd (false≢true (sym (not_own s) ∙ own))
own_meaning (message.Signal x) s own = absurd (false≢true (sym (not_own s) ∙ own))
own_meaning (message.Detection x) s own = absurd (false≢true (sym (not_own s) ∙ own))

command_meaning : (m : Message) (s : Stage) → is_command (meaning m s) ≡ true → made.is_command m ≡ true
command_meaning (message.Initialisation p x) s commands = absurd (false≢true (sym (no_command p x s) ∙ commands))
command_meaning (message.Point x) s commands = refl
command_meaning (message.Signal x) s commands = refl
command_meaning (message.Detection x) s commands = refl

commands_one : (item : List ℕ) → commands_of (item ∷ []) ≡ command_of (reading item)
unfolding commands_of
commands_one item = append-nil (command_of (reading item))

commands_more : (item : List ℕ) (others : List (List ℕ)) → commands_of (item ∷ others) ≡ command_of (reading item) ++ commands_of others
unfolding commands_of
commands_more item others = refl

commands_none : commands_of [] ≡ []
unfolding commands_of
commands_none = refl

-- what became of an item: it was acted on, or it closed the link
data Fate {Object : Type 0} (item : List ℕ) (part : HostSoFar Object) : Type 0 where
  obeyed : part.acted ≡ item ∷ [] → part.told ≡ command_of (reading item) → Fate item part
  refused : part.acted ≡ [] → part.told ≡ [] → is_open part.host.link.phase ≡ false → Fate item part

module _ {Object : Type 0} (does : Behaviour Object) where
  violating_refuses : (now : ℕ) (item : List ℕ) (host : HostState Object) → Fate item (violating now host)
  unfolding violating
  violating_refuses now item host = refused refl refl (closing_closes now host.link)

  following_fate : (now : ℕ) (item : List ℕ) (telegram : Telegram) (c : Meaning) (host : HostState Object) → reading item ≡ Ok telegram →
      meaning telegram.message host.stage ≡ c → Fate item (following does now item telegram c host)
  unfolding following is_own is_command
  following_fate now item telegram (meanings.Checks version) host read is =
      obeyed refl (sym (ap command_of read ∙ ap (λ b. if b then telegram ∷ [] else []) (own_meaning telegram.message host.stage (ap is_own is))))
  following_fate now item telegram meanings.Initialises host read is =
      obeyed refl (sym (ap command_of read ∙ ap (λ b. if b then telegram ∷ [] else []) (own_meaning telegram.message host.stage (ap is_own is))))
  following_fate now item telegram meanings.Commands host read is =
      obeyed refl (sym (ap command_of read ∙ ap (λ b. if b then telegram ∷ [] else []) (command_meaning telegram.message host.stage (ap is_command is))))
  following_fate now item telegram meanings.Violates host read is = violating_refuses now item host

  acting_fate : (now : ℕ) (item : List ℕ) (read : Result Telegram SciFault) (host : HostState Object) → reading item ≡ read → Fate item (acting does now item read host)
  unfolding acting
  acting_fate now item (Err fault) host is = violating_refuses now item host
  acting_fate now item (Ok telegram) host is = cases (is_admitted does telegram host) where
    cases : (b : Bool) → Fate item (if b then following does now item telegram (meaning telegram.message host.stage) host else violating now host)
    cases true = following_fate now item telegram _ host is refl
    cases false = violating_refuses now item host

  -- nothing is done on a closed link
  pub closed_silent : (now : ℕ) (items : List (List ℕ)) (host : HostState Object) → is_open host.link.phase ≡ false → acting_all does now items host ≡ silent host
  unfolding acting_all
  closed_silent now [] host closed = refl
  closed_silent now (item ∷ others) host closed = rw closed refl

  acts_more : (now : ℕ) (item : List ℕ) (others : List (List ℕ)) (first : HostSoFar Object) → Fate item first → ActsOn others (acting_all does now others first.host) →
      ActsOn (item ∷ others) (then_do first (acting_all does now others))
  acts_more now item others first (obeyed acted told) more = record {
    dropped = more.dropped;
    beginning = ap (λ rest. item ∷ rest) more.beginning ∙ ap (λ xs. (xs ++ (acting_all does now others first.host).acted) ++ more.dropped) (sym acted);
    whole = more.whole;
    told = ap (λ ts. ts ++ (acting_all does now others first.host).told) told
        ∙ ap (λ ts. command_of (reading item) ++ ts) more.told
        ∙ sym (commands_more item (acting_all does now others first.host).acted)
        ∙ ap (λ xs. commands_of (xs ++ (acting_all does now others first.host).acted)) (sym acted);
  }
  acts_more now item others first (refused acted told closed) more =
      let silence = closed_silent now others first.host closed
      in record {
        dropped = item ∷ others;
        beginning = sym (ap (λ xs. (xs ++ (acting_all does now others first.host).acted) ++ (item ∷ others)) acted
            ∙ ap (λ (p : HostSoFar Object). p.acted ++ (item ∷ others)) silence);
        whole = λ opened. absurd (true≢false (sym opened ∙ ap (λ (p : HostSoFar Object). is_open p.host.link.phase) silence ∙ closed));
        told = ap (λ ts. ts ++ (acting_all does now others first.host).told) told ∙ ap (λ (p : HostSoFar Object). p.told) silence
            ∙ sym commands_none
            ∙ sym (ap (λ xs. commands_of (xs ++ (acting_all does now others first.host).acted)) acted ∙ ap (λ (p : HostSoFar Object). commands_of p.acted) silence);
      }

  acts_none : (host : HostState Object) → ActsOn [] (silent host)
  acts_none host = record { dropped = []; beginning = refl; whole = λ _. refl; told = sym commands_none }

  acting_all_acts : (now : ℕ) (items : List (List ℕ)) (host : HostState Object) → ActsOn items (acting_all does now items host)
  unfolding acting_all
  acting_all_acts now [] host = acts_none host
  acting_all_acts now (item ∷ others) host =
      cases (is_open host.link.phase) refl (acting_all_acts now others (acting does now item (reading item) host).host)
    where
      cases : (b : Bool) → is_open host.link.phase ≡ b → ActsOn others (acting_all does now others (acting does now item (reading item) host).host) →
          ActsOn (item ∷ others) (if b then then_do (acting does now item (reading item) host) (acting_all does now others) else silent host)
      cases true is more = acts_more now item others _ (acting_fate now item (reading item) host refl) more
      cases false is more = record {
        dropped = item ∷ others;
        beginning = refl;
        whole = λ opened. absurd (true≢false (sym opened ∙ is));
        told = sym commands_none;
      }

  given_acts : (now : ℕ) (input : Input) (host : HostState Object) → ActsOn (items_taken now (given does now input host).calls host.link) (given does now input host)
  unfolding given hearing received items_taken
  given_acts now inputs.Tick host = acts_none host
  given_acts now (inputs.Datagram bytes) host =
      let receipt = receiving now bytes.now host.link
      in let begun = (received now bytes.now receipt host).host
      in let acts = acting_all_acts now receipt.items begun
      in let nothing = own_takes_nothing now (acting_all does now receipt.items begun).calls receipt.link (acting_all_part does now receipt.items begun).own
      in record {
        dropped = acts.dropped;
        beginning = ap (λ rest. receipt.items ++ rest) nothing ∙ append-nil receipt.items ∙ acts.beginning;
        whole = acts.whole;
        told = acts.told;
      }
  given_acts now (inputs.Sense sense) host = acts_none (record host { object = does.after_sense now sense host.object })

  -- a part that tells the object nothing
  pub record IsQuiet (part : HostSoFar Object) : Type 0 where
    pub acts_on_none : part.acted ≡ []
    pub tells_none : part.told ≡ []

  paying_first_quiet : (now : ℕ) (report : Option Report) (host : HostState Object) → IsQuiet (paying_first does now report host)
  unfolding posting
  paying_first_quiet now None host = record { acts_on_none = refl; tells_none = refl }
  paying_first_quiet now (Some report) host = cases (is_completed host.stage) (is_ok (answer_to_send now host.link)) where
    sent : HostSoFar Object
    sent = posting now report host

    cases : (b k : Bool) → IsQuiet (if not b then silent (paid does host) else if k then record sent { host = paid does sent.host } else sent)
    cases false k = record { acts_on_none = refl; tells_none = refl }
    cases true true = record { acts_on_none = refl; tells_none = refl }
    cases true false = record { acts_on_none = refl; tells_none = refl }

  quiet_then : (first : HostSoFar Object) (next : HostState Object → HostSoFar Object) → IsQuiet first → IsQuiet (next first.host) → IsQuiet (then_do first next)
  quiet_then first next one more = record {
    acts_on_none = ap (λ xs. xs ++ (next first.host).acted) one.acts_on_none ∙ more.acts_on_none;
    tells_none = ap (λ xs. xs ++ (next first.host).told) one.tells_none ∙ more.tells_none;
  }

  pub paying_quiet : (now : ℕ) (more : ℕ) (host : HostState Object) → IsQuiet (paying does now more host)
  unfolding paying
  paying_quiet now zero host = record { acts_on_none = refl; tells_none = refl }
  paying_quiet now (suc more) host =
      cases (goes_on now (does.owed host.object) host) (paying_quiet now more (paying_first does now (does.owed host.object) host).host)
    where
      first : HostSoFar Object
      first = paying_first does now (does.owed host.object) host

      cases : (b : Bool) → IsQuiet (paying does now more first.host) → IsQuiet (if b then then_do first (paying does now more) else first)
      cases true next = quiet_then first (paying does now more) (paying_first_quiet now (does.owed host.object) host) next
      cases false next = paying_first_quiet now (does.owed host.object) host

  pub beating_quiet : (now : ℕ) (input : Input) (host : HostState Object) → IsQuiet (beating now input host)
  unfolding beating
  beating_quiet now inputs.Tick host = record { acts_on_none = refl; tells_none = refl }
  beating_quiet now (inputs.Datagram bytes) host = record { acts_on_none = refl; tells_none = refl }
  beating_quiet now (inputs.Sense sense) host = record { acts_on_none = refl; tells_none = refl }

  -- a quiet part of own calls after another
  acts_then : (now : ℕ) (link : LinkState) (first : HostSoFar Object) (next : HostState Object → HostSoFar Object) → IsMadeOf now link first →
      ActsOn (items_taken now first.calls link) first → IsPart now first.host.link (next first.host) → IsQuiet (next first.host) →
      ActsOn (items_taken now (then_do first next).calls link) (then_do first next)
  acts_then now link first next made acts part quiet =
      let others = next first.host
      in record {
        dropped = acts.dropped;
        beginning = items_joined now first.calls others.calls link
            ∙ ap (λ xs. items_taken now first.calls link ++ xs) (own_takes_nothing now others.calls _ part.own)
            ∙ append-nil _ ∙ acts.beginning
            ∙ ap (λ xs. xs ++ acts.dropped) (sym (ap (λ xs. first.acted ++ xs) quiet.acts_on_none ∙ append-nil first.acted));
        whole = λ opened. cases opened (is_open first.host.link.phase) refl;
        told = ap (λ ts. first.told ++ ts) quiet.tells_none ∙ append-nil first.told ∙ acts.told
            ∙ ap commands_of (sym (ap (λ xs. first.acted ++ xs) quiet.acts_on_none ∙ append-nil first.acted));
      }
    where
      cases : is_open (next first.host).host.link.phase ≡ true → (b : Bool) → is_open first.host.link.phase ≡ b → acts.dropped ≡ []
      cases opened true is = acts.whole is
      cases opened false is = absurd (true≢false (sym opened ∙ ap (λ (l : LinkState). is_open l.phase) part.made.link_is
          ∙ own_closed now (next first.host).calls first.host.link part.own is))

  pub step_acts : (now : ℕ) (input : Input) (host : HostState Object) → ActsOn (items_taken now (host_step does now input host).calls (settled now host.link)) (host_step does now input host)
  unfolding host_step keeping
  step_acts now input host =
      let begun = beginning does now host
      in let heard = given does now input begun
      in let told = then_do heard (paying does now most_owed)
      in let heard_made = given_made does now input begun
      in let told_part = paying_part does now most_owed heard.host
      in let acts_told = acts_then now begun.link heard (paying does now most_owed) heard_made (given_acts now input begun) told_part (paying_quiet now most_owed heard.host)
      in let told_made = made_then now begun.link heard (paying does now most_owed) heard_made told_part.made
      in let acts = acts_then now begun.link told (beating now input) told_made acts_told (beating_part does now input told.host) (beating_quiet now input told.host)
      in let link_is = fallen_link does (then_do told (beating now input)).host
      in subst (λ l. ActsOn (items_taken now (host_step does now input host).calls l) (host_step does now input host)) (begun_link does now host)
      (record {
        dropped = acts.dropped;
        beginning = acts.beginning;
        whole = λ opened. acts.whole (sym (ap (λ (l : LinkState). is_open l.phase) link_is) ∙ opened);
        told = acts.told;
      })
