-- The calls that the parts of a step make.
use Rattle.std.proofs.Common.{◌≡◌, ℕ, Bool, true, false, if◌then◌else◌, List, [], ◌∷◌, ◌++◌, append_assoc, refl, ap, sym, ◌∙◌}
use Rattle.std.specs.Prelude.{◌&&◌}
use Rattle.std.proofs.lemmas.List.{append-nil}
use Rattle.sci_telegram.specs.TelegramRead.{reading}
use Rattle.sci_telegram.specs.Telegrams.{writing}
use Rattle.sci_telegram.specs.declared.message.Initialisation.TheVariants.{InitialisationRequest, VersionCheck}
use Rattle.sci_telegram.specs.declared.message.Message.{Message}
use Rattle.rasta_core.specs.Calls.{answer_to_send, receiving}
use Rattle.rasta_core.specs.Outbox.{OutboxState, posted}
use Rattle.rasta_core.specs.State.{LinkState, is_open, is_up}
use Rattle.rasta_core.specs.reason.Reason.{Reason}
use Rattle.rasta_core.specs.reason.Reason.TheVariants as reason
use Rattle.ixl_client.specs.Client.{ClientState, is_outside}
use Rattle.ixl_client.specs.Made.{AreOwn, IsOwn, Makes, MakesAfterReceipt, MakesOwn, link_after, outbox_after}
use Rattle.ixl_client.specs.ClientSoFar.{Closes, LinkCall, Opens, ClientSoFar, Receives, Sends, Ticks, call_made, calling}
use Rattle.ixl_client.specs.Step.{acted_on, acting, acting_all, at_stage, commanding, meaning_of_item, ending, fallen, following, hearing, is_refused_by_window, message_of, posting, rising, saying, stage_after_command, telegram_to, ticking}
use Rattle.ixl_client.specs.declared.command.Command.{Command}
use Rattle.ixl_client.specs.declared.meaning.Meaning.{Meaning}
use Rattle.ixl_client.specs.declared.meaning.Meaning.TheVariants as meanings
use Rattle.ixl_client.specs.declared.stage.Stage.TheVariants as stage
use Rattle.ixl_client.proofs.ItemActions.{fallen_link}

own_joined : (first others : List LinkCall) → AreOwn first → AreOwn others → AreOwn (first ++ others)
own_joined [] others one more = more
own_joined (call ∷ calls) others one more = (one.0, own_joined calls others one.1 more)

links_joined : (now : ℕ) (first others : List LinkCall) (link : LinkState) → link_after now (first ++ others) link ≡ link_after now others (link_after now first link)
unfolding link_after
links_joined now [] others link = refl
links_joined now (call ∷ calls) others link = links_joined now calls others (call_made now call link).link

outboxes_joined : (now : ℕ) (first others : List LinkCall) (link : LinkState) (outbox : OutboxState) →
    outbox_after now (first ++ others) link outbox ≡ outbox_after now others (link_after now first link) (outbox_after now first link outbox)
unfolding link_after outbox_after
outboxes_joined now [] others link outbox = refl
outboxes_joined now (call ∷ calls) others link outbox =
    outboxes_joined now calls others (call_made now call link).link (posted link.identity.key (call_made now call link).pdus outbox)

makes_then : (now : ℕ) (some more : List LinkCall) (a b c : ClientSoFar) → Makes now some a b → Makes now more b c → Makes now (some ++ more) a c
makes_then now some more a b c one next = record {
  calls_are = next.calls_are ∙ ap (λ calls. calls ++ more) one.calls_are ∙ append_assoc a.calls some more;
  link_is = next.link_is ∙ ap (link_after now more) one.link_is ∙ sym (links_joined now some more a.client.link);
  outbox_is = next.outbox_is ∙ ap (λ link. outbox_after now more link b.outbox) one.link_is
      ∙ ap (outbox_after now more (link_after now some a.client.link)) one.outbox_is ∙ sym (outboxes_joined now some more a.client.link a.outbox);
}

own_then : (now : ℕ) (a b c : ClientSoFar) → MakesOwn now a b → MakesOwn now b c → MakesOwn now a c
own_then now a b c one next = (one.0 ++ next.0, makes_then now one.0 next.0 a b c one.1 next.1, own_joined one.0 next.0 one.2 next.2)

-- nothing of the link, and nothing is handed out
own_none : (now : ℕ) (a b : ClientSoFar) → b.calls ≡ a.calls → b.client.link ≡ a.client.link → b.outbox ≡ a.outbox → MakesOwn now a b
unfolding link_after outbox_after
own_none now a b calls link outbox = ([], record { calls_are = calls ∙ sym (append-nil a.calls); link_is = link; outbox_is = outbox }, tt)

makes_call : (now : ℕ) (call : LinkCall) (a : ClientSoFar) → Makes now (call ∷ []) a (calling now call a)
unfolding calling link_after outbox_after
makes_call now call a = record { calls_are = refl; link_is = refl; outbox_is = refl }

own_call : (now : ℕ) (call : LinkCall) (a : ClientSoFar) → IsOwn call → MakesOwn now a (calling now call a)
own_call now call a own = (call ∷ [], makes_call now call a, (own, tt))

posting_own : (now : ℕ) (told : Message) (a : ClientSoFar) → MakesOwn now a (posting now told a)
unfolding posting
posting_own now told a = cases (is_refused_by_window (answer_to_send now a.client.link)) where
  sent : ClientSoFar
  sent = calling now (Sends (writing (telegram_to a.client.peer told))) a

  one : MakesOwn now a sent
  one = own_call now (Sends (writing (telegram_to a.client.peer told))) a tt

  cases : (b : Bool) → MakesOwn now a (if b then calling now (Closes reason.Window) sent else sent)
  cases true = own_then now a sent (calling now (Closes reason.Window) sent) one (own_call now (Closes reason.Window) sent tt)
  cases false = one

rising_own : (now : ℕ) (a : ClientSoFar) → MakesOwn now a (rising now a)
unfolding rising
rising_own now a = cases (is_outside a.client.stage && is_up a.client.link.phase) where
  said : ClientSoFar
  said = saying now (VersionCheck a.client.peer.version) a

  cases : (b : Bool) → MakesOwn now a (if b then at_stage stage.AwaitsAnswer said else a)
  cases true = own_then now a said (at_stage stage.AwaitsAnswer said) (posting_own now _ a) (own_none now said (at_stage stage.AwaitsAnswer said) refl refl refl)
  cases false = own_none now a a refl refl refl

following_own : (now : ℕ) (item : List ℕ) (meaning : Meaning) (a : ClientSoFar) → MakesOwn now a (following now item meaning a)
unfolding following
following_own now item meanings.Agrees a =
    let begun : ClientSoFar = acted_on item a
    in let said : ClientSoFar = saying now InitialisationRequest begun
    in own_then now a begun (at_stage stage.AwaitsStart said) (own_none now a begun refl refl refl)
    (own_then now begun said (at_stage stage.AwaitsStart said) (posting_own now _ begun) (own_none now said (at_stage stage.AwaitsStart said) refl refl refl))
following_own now item meanings.Starts a = own_none now a _ refl refl refl
following_own now item (meanings.Indicates indication) a = own_none now a _ refl refl refl
following_own now item meanings.Completes a = own_none now a _ refl refl refl
following_own now item meanings.Differs a = own_call now (Closes reason.Version) a tt
following_own now item meanings.Violates a = own_call now (Closes reason.State) a tt

acting_own : (now : ℕ) (items : List (List ℕ)) (a : ClientSoFar) → MakesOwn now a (acting_all now items a)
unfolding acting_all acting
acting_own now [] a = own_none now a a refl refl refl
acting_own now (item ∷ others) a = cases (is_open a.client.link.phase) (acting_own now others (acting now item a)) where
  meaning : Meaning
  meaning = meaning_of_item a.client.peer a.client.stage (reading item)

  cases : (b : Bool) → MakesOwn now (acting now item a) (acting_all now others (acting now item a)) → MakesOwn now a (if b then acting_all now others (acting now item a) else a)
  cases true next = own_then now a (acting now item a) (acting_all now others (acting now item a)) (following_own now item meaning a) next
  cases false next = own_none now a a refl refl refl

ending_own : (now : ℕ) (a : ClientSoFar) → MakesOwn now a (ending a)
ending_own now a = own_none now a (ending a) refl (fallen_link a.client) refl

pub commanding_own : (now : ℕ) (command : Command) (a : ClientSoFar) → MakesOwn now a (commanding now command a)
unfolding commanding
commanding_own now command a =
    let told : ClientSoFar = posting now (message_of command) a
    in let done : ClientSoFar = at_stage (stage_after_command command a.client.stage) told
    in own_then now a told (ending done) (posting_own now (message_of command) a) (own_then now told done (ending done) (own_none now told done refl refl refl) (ending_own now done))

pub ticking_own : (now : ℕ) (a : ClientSoFar) → MakesOwn now a (ticking now a)
unfolding ticking
ticking_own now a =
    let beaten : ClientSoFar = calling now Ticks a
    in let done : ClientSoFar = calling now Opens beaten
    in own_then now a beaten (ending done) (own_call now Ticks a tt) (own_then now beaten done (ending done) (own_call now Opens beaten tt) (ending_own now done))

pub hearing_made : (now : ℕ) (bytes : List ℕ) (a : ClientSoFar) → MakesAfterReceipt now bytes a (hearing now bytes a)
unfolding hearing
hearing_made now bytes a =
    let received : ClientSoFar = calling now (Receives bytes) a
    in let items = (receiving now bytes a.client.link).items
    in let risen : ClientSoFar = rising now received
    in let done : ClientSoFar = acting_all now items risen
    in let rest = own_then now received risen (ending done) (rising_own now received) (own_then now risen done (ending done) (acting_own now items risen) (ending_own now done))
    in (rest.0, makes_then now (Receives bytes ∷ []) rest.0 a received (ending done) (makes_call now (Receives bytes) a) rest.1, rest.2)
