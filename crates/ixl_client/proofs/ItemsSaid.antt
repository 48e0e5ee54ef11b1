-- What a client says in the initialisation of a connection.
use Rattle.std.proofs.Common.{◌≡◌, ℕ, Bool, true, false, if◌then◌else◌, List, [], ◌∷◌, ◌++◌, append_assoc, refl, ap, sym, ◌∙◌}
use Rattle.std.specs.Prelude.{◌&&◌, ◌==◌, length, map, Option, Some, None, Result, Ok, Err}
use Rattle.std.specs.Str.{bytes_eq}
use Rattle.std.proofs.lemmas.Bool.{true≢false, false≢true}
use Rattle.std.proofs.lemmas.List.{append-nil}
use Rattle.sci_telegram.specs.TelegramRead.{reading}
use Rattle.sci_telegram.specs.Telegrams.{writing}
use Rattle.sci_telegram.specs.declared.fault.SciFault.{SciFault}
use Rattle.sci_telegram.specs.declared.message.Agreement.{Agreement}
use Rattle.sci_telegram.specs.declared.message.Initialisation.{Initialisation}
use Rattle.sci_telegram.specs.declared.message.Initialisation.TheVariants.{InitialisationRequest, StartInitialisation, InitialisationCompleted, VersionCheck, VersionAnswer}
use Rattle.sci_telegram.specs.declared.message.Message.{Message}
use Rattle.sci_telegram.specs.declared.message.Message.TheVariants as message
use Rattle.sci_telegram.specs.declared.telegram.Telegram.{Telegram}
use Rattle.rasta_core.specs.Calls.{answer_to_send, receiving}
use Rattle.rasta_core.specs.Clock.{settled}
use Rattle.rasta_core.specs.State.{is_open, is_up}
use Rattle.rasta_core.specs.reason.Reason.TheVariants as reason
use Rattle.ixl_client.specs.Client.{ClientState, PeerState, is_outside}
use Rattle.ixl_client.specs.Meaning.{meaning, meaning_of, initial_meaning, is_for_client, is_in_turn, is_in_version, is_match, place_of, report_meaning, state_in}
use Rattle.ixl_client.specs.ClientSoFar.{Closes, LinkCall, Opens, ClientSoFar, Receives, Sends, Ticks, calling}
use Rattle.ixl_client.specs.Step.{acted_on, acting, acting_all, at_stage, clocked, commanding, meaning_of_item, ending, fallen, following, hearing, is_refused_by_window, message_of, posting, rising, saying, stage_after_command, stage_after_report, telegram_to, ticking}
use Rattle.ixl_client.specs.declared.command.Command.{Command}
use Rattle.ixl_client.specs.declared.command.Command.TheVariants as commands
use Rattle.ixl_client.specs.declared.indication.ObjectState.{ObjectState}
use Rattle.ixl_client.specs.declared.stage.Stage.{Stage}
use Rattle.ixl_client.specs.declared.stage.Stage.TheVariants as stage
use Rattle.ixl_client.proofs.PickedByTest.{both, either, picked}
use Rattle.ixl_client.specs.LinkClosed.{telegram_of}
use Rattle.ixl_client.specs.ItemsSaid.{KeepsWhatWasSaid, SaysCommand, SaysInOrder, SaysNothing, item_of, items_said, items_sent, said_by}

-- what is said at a stage, as items
abbrev pub said_at : PeerState → Stage → List (List ℕ)
said_at peer s = map (item_of peer) (said_by peer s)

nothing_said : (peer : PeerState) (s : Stage) → said_at peer s ≡ said_at peer s ++ []
nothing_said peer s = sym (append-nil (said_at peer s))

-- ---- the parts of a step

sent_joined : (some more : List LinkCall) → items_sent (some ++ more) ≡ items_sent some ++ items_sent more
unfolding items_sent
sent_joined [] more = refl
sent_joined (Sends item ∷ others) more = ap (λ items. item ∷ items) (sent_joined others more)
sent_joined (Opens ∷ others) more = sent_joined others more
sent_joined (Ticks ∷ others) more = sent_joined others more
sent_joined (Closes why ∷ others) more = sent_joined others more
sent_joined (Receives bytes ∷ others) more = sent_joined others more

-- a part of a step says what leads from its stage to the next; the link may be closed after it
record Says (a b : ClientSoFar) : Type 0 where
  calls : List LinkCall
  made : b.calls ≡ a.calls ++ calls
  peer : b.client.peer ≡ a.client.peer
  said : said_at a.client.peer b.client.stage ≡ said_at a.client.peer a.client.stage ++ items_sent calls

says_nothing : (a b : ClientSoFar) → b.calls ≡ a.calls → b.client.peer ≡ a.client.peer → b.client.stage ≡ a.client.stage → Says a b
unfolding items_sent
says_nothing a b calls peer same = record {
  calls = [];
  made = calls ∙ sym (append-nil a.calls);
  peer = peer;
  said = ap (said_at a.client.peer) same ∙ nothing_said a.client.peer a.client.stage;
}

says_then : (a b c : ClientSoFar) → Says a b → Says b c → Says a c
says_then a b c one next = record {
  calls = one.calls ++ next.calls;
  made = next.made ∙ ap (λ calls. calls ++ next.calls) one.made ∙ append_assoc a.calls one.calls next.calls;
  peer = next.peer ∙ one.peer;
  said = ap (λ (p : PeerState). said_at p c.client.stage) (sym one.peer) ∙ next.said ∙ ap (λ (p : PeerState). said_at p b.client.stage ++ items_sent next.calls) one.peer
      ∙ ap (λ items. items ++ items_sent next.calls) one.said ∙ append_assoc (said_at a.client.peer a.client.stage) (items_sent one.calls) (items_sent next.calls)
      ∙ ap (λ items. said_at a.client.peer a.client.stage ++ items) (sym (sent_joined one.calls next.calls));
}

-- what is posted: the item alone, and perhaps a close
record Posts (item : List ℕ) (a b : ClientSoFar) : Type 0 where
  calls : List LinkCall
  made : b.calls ≡ a.calls ++ calls
  sent : items_sent calls ≡ item ∷ []
  peer : b.client.peer ≡ a.client.peer
  stage : b.client.stage ≡ a.client.stage

posting_posts : (now : ℕ) (told : Message) (a : ClientSoFar) → Posts (writing (telegram_to a.client.peer told)) a (posting now told a)
unfolding posting calling items_sent
posting_posts now told a = cases (is_refused_by_window (answer_to_send now a.client.link)) where
  item : List ℕ
  item = writing (telegram_to a.client.peer told)

  sent : ClientSoFar
  sent = calling now (Sends item) a

  cases : (b : Bool) → Posts item a (if b then calling now (Closes reason.Window) sent else sent)
  cases true = record { calls = Sends item ∷ Closes reason.Window ∷ []; made = append_assoc a.calls (Sends item ∷ []) (Closes reason.Window ∷ []); sent = refl; peer = refl; stage = refl }
  cases false = record { calls = Sends item ∷ []; made = refl; sent = refl; peer = refl; stage = refl }

-- a telegram of the initialisation leads to a stage
says_one : (next : Stage) (initialisation : Initialisation) (a b : ClientSoFar) → Posts (item_of a.client.peer initialisation) a b →
    said_at a.client.peer next ≡ said_at a.client.peer a.client.stage ++ item_of a.client.peer initialisation ∷ [] → Says a (at_stage next b)
says_one next initialisation a b posts goes = record {
  calls = posts.calls;
  made = posts.made;
  peer = posts.peer;
  said = goes ∙ ap (λ items. said_at a.client.peer a.client.stage ++ items) (sym posts.sent);
}

outside_said : (peer : PeerState) (s : Stage) → is_outside s ≡ true → said_at peer s ≡ []
outside_said peer stage.Outside is = refl
outside_said peer stage.AwaitsAnswer is = absurd (false≢true is)
outside_said peer stage.AwaitsStart is = absurd (false≢true is)
outside_said peer (stage.AwaitsStatus left) is = absurd (false≢true is)
outside_said peer stage.Completed is = absurd (false≢true is)
outside_said peer stage.AwaitsReport is = absurd (false≢true is)

rising_says : (now : ℕ) (a : ClientSoFar) → Says a (rising now a)
unfolding rising
rising_says now a = by_stage (is_outside a.client.stage) refl where
  check : Initialisation
  check = VersionCheck a.client.peer.version

  by_link : (b : Bool) → is_outside a.client.stage ≡ true → Says a (if b then at_stage stage.AwaitsAnswer (saying now check a) else a)
  by_link true is = says_one stage.AwaitsAnswer check a (saying now check a) (posting_posts now _ a)
      (ap (λ items. items ++ item_of a.client.peer check ∷ []) (sym (outside_said a.client.peer a.client.stage is)))
  by_link false is = says_nothing a a refl refl refl

  by_stage : (b : Bool) → is_outside a.client.stage ≡ b → Says a (if b && is_up a.client.link.phase then at_stage stage.AwaitsAnswer (saying now check a) else a)
  by_stage true is = by_link (is_up a.client.link.phase) is
  by_stage false is = says_nothing a a refl refl refl

-- a course that sends nothing
says_stage : (next : Stage) (a b : ClientSoFar) → b.calls ≡ a.calls → b.client.peer ≡ a.client.peer → b.client.stage ≡ next →
    said_at a.client.peer next ≡ said_at a.client.peer a.client.stage ++ [] → Says a b
unfolding items_sent
says_stage next a b calls peer same goes = record { calls = []; made = calls ∙ sym (append-nil a.calls); peer = peer; said = ap (said_at a.client.peer) same ∙ goes }

says_close : (call : LinkCall) (a b : ClientSoFar) → items_sent (call ∷ []) ≡ [] → b.calls ≡ a.calls ++ call ∷ [] → b.client.peer ≡ a.client.peer → b.client.stage ≡ a.client.stage → Says a b
says_close call a b none calls peer same = record {
  calls = call ∷ [];
  made = calls;
  peer = peer;
  said = ap (said_at a.client.peer) same ∙ nothing_said a.client.peer a.client.stage ∙ ap (λ items. said_at a.client.peer a.client.stage ++ items) (sym none);
}

violation_says : (now : ℕ) (a b : ClientSoFar) → b ≡ calling now (Closes reason.State) a → Says a b
unfolding calling items_sent
violation_says now a b is =
    says_close (Closes reason.State) a b refl (ap (λ (p : ClientSoFar). p.calls) is) (ap (λ (p : ClientSoFar). p.client.peer) is) (ap (λ (p : ClientSoFar). p.client.stage) is)

nothing_at : (s next : Stage) (a : ClientSoFar) → a.client.stage ≡ s → said_at a.client.peer next ≡ said_at a.client.peer s →
    said_at a.client.peer next ≡ said_at a.client.peer a.client.stage ++ []
nothing_at s next a at same = same ∙ ap (said_at a.client.peer) (sym at) ∙ nothing_said a.client.peer a.client.stage

answer_says : (now : ℕ) (item : List ℕ) (a : ClientSoFar) (agreement : Agreement) (version : ℕ) → a.client.stage ≡ stage.AwaitsAnswer →
    Says a (following now item (initial_meaning a.client.peer (VersionAnswer agreement version) stage.AwaitsAnswer) a)
unfolding following calling items_sent
answer_says now item a agreement version at = either (λ c. Says a (following now item c a)) (is_match agreement && version == a.client.peer.version) _ _
    (says_then a (acted_on item a) _ (says_nothing a (acted_on item a) refl refl refl)
    (says_one stage.AwaitsStart InitialisationRequest (acted_on item a) (saying now InitialisationRequest (acted_on item a)) (posting_posts now _ (acted_on item a))
    (ap (λ s. said_at a.client.peer s ++ item_of a.client.peer InitialisationRequest ∷ []) (sym at))))
    (says_close (Closes reason.Version) a _ refl refl refl refl)

completed_says : (now left : ℕ) (item : List ℕ) (a : ClientSoFar) → a.client.stage ≡ stage.AwaitsStatus left →
    Says a (following now item (initial_meaning a.client.peer InitialisationCompleted (stage.AwaitsStatus left)) a)
unfolding following
completed_says now left item a at = either (λ c. Says a (following now item c a)) (left == 0) _ _
    (says_stage stage.Completed a _ refl refl refl (nothing_at (stage.AwaitsStatus left) stage.Completed a at refl))
    (violation_says now a _ refl)

initial_says : (now : ℕ) (item : List ℕ) (a : ClientSoFar) (initialisation : Initialisation) (s : Stage) → a.client.stage ≡ s →
    Says a (following now item (initial_meaning a.client.peer initialisation s) a)
unfolding following
initial_says now item a (VersionAnswer agreement version) stage.AwaitsAnswer at = answer_says now item a agreement version at
initial_says now item a StartInitialisation stage.AwaitsStart at =
    says_stage (stage.AwaitsStatus (length a.client.peer.objects)) a _ refl refl refl (nothing_at stage.AwaitsStart (stage.AwaitsStatus (length a.client.peer.objects)) a at refl)
initial_says now item a InitialisationCompleted (stage.AwaitsStatus left) at = completed_says now left item a at
initial_says now item a InitialisationRequest stage.Outside at = violation_says now a _ refl
initial_says now item a InitialisationRequest stage.AwaitsAnswer at = violation_says now a _ refl
initial_says now item a InitialisationRequest stage.AwaitsStart at = violation_says now a _ refl
initial_says now item a InitialisationRequest (stage.AwaitsStatus left) at = violation_says now a _ refl
initial_says now item a InitialisationRequest stage.Completed at = violation_says now a _ refl
initial_says now item a InitialisationRequest stage.AwaitsReport at = violation_says now a _ refl
initial_says now item a StartInitialisation stage.Outside at = violation_says now a _ refl
initial_says now item a StartInitialisation stage.AwaitsAnswer at = violation_says now a _ refl
initial_says now item a StartInitialisation (stage.AwaitsStatus left) at = violation_says now a _ refl
initial_says now item a StartInitialisation stage.Completed at = violation_says now a _ refl
initial_says now item a StartInitialisation stage.AwaitsReport at = violation_says now a _ refl
initial_says now item a InitialisationCompleted stage.Outside at = violation_says now a _ refl
initial_says now item a InitialisationCompleted stage.AwaitsAnswer at = violation_says now a _ refl
initial_says now item a InitialisationCompleted stage.AwaitsStart at = violation_says now a _ refl
initial_says now item a InitialisationCompleted stage.Completed at = violation_says now a _ refl
initial_says now item a InitialisationCompleted stage.AwaitsReport at = violation_says now a _ refl
initial_says now item a (VersionCheck version) stage.Outside at = violation_says now a _ refl
initial_says now item a (VersionCheck version) stage.AwaitsAnswer at = violation_says now a _ refl
initial_says now item a (VersionCheck version) stage.AwaitsStart at = violation_says now a _ refl
initial_says now item a (VersionCheck version) (stage.AwaitsStatus left) at = violation_says now a _ refl
initial_says now item a (VersionCheck version) stage.Completed at = violation_says now a _ refl
initial_says now item a (VersionCheck version) stage.AwaitsReport at = violation_says now a _ refl
initial_says now item a (VersionAnswer agreement version) stage.Outside at = violation_says now a _ refl
initial_says now item a (VersionAnswer agreement version) stage.AwaitsStart at = violation_says now a _ refl
initial_says now item a (VersionAnswer agreement version) (stage.AwaitsStatus left) at = violation_says now a _ refl
initial_says now item a (VersionAnswer agreement version) stage.Completed at = violation_says now a _ refl
initial_says now item a (VersionAnswer agreement version) stage.AwaitsReport at = violation_says now a _ refl

-- where a state comes in its turn, it says nothing new of the initialisation
turn_keeps : (peer : PeerState) (place : ℕ) (state : ObjectState) (s : Stage) → is_in_turn peer place state s ≡ true → said_at peer (stage_after_report s) ≡ said_at peer s
turn_keeps peer place state stage.Outside is = absurd (false≢true is)
turn_keeps peer place state stage.AwaitsAnswer is = absurd (false≢true is)
turn_keeps peer place state stage.AwaitsStart is = absurd (false≢true is)
turn_keeps peer place state (stage.AwaitsStatus left) is = refl
turn_keeps peer place state stage.Completed is = refl
turn_keeps peer place state stage.AwaitsReport is = refl

report_says : (now : ℕ) (item : List ℕ) (a : ClientSoFar) (place : Option ℕ) (state : Option ObjectState) →
    Says a (following now item (report_meaning a.client.peer place state a.client.stage) a)
unfolding following
report_says now item a None state = violation_says now a _ refl
report_says now item a (Some place) None = violation_says now a _ refl
report_says now item a (Some place) (Some state) =
    picked (λ c. Says a (following now item c a)) (is_in_turn a.client.peer place state a.client.stage && is_in_version a.client.peer.version state) _ _
    (λ test. says_stage (stage_after_report a.client.stage) a _ refl refl refl
    (turn_keeps a.client.peer place state a.client.stage (both _ _ test).0 ∙ nothing_said a.client.peer a.client.stage))
    (λ test. violation_says now a _ refl)

meaning_says : (now : ℕ) (item : List ℕ) (a : ClientSoFar) (sender : List ℕ) (told : Message) → Says a (following now item (meaning_of a.client.peer sender told a.client.stage) a)
unfolding following
meaning_says now item a sender (message.Initialisation protocol initialisation) =
    either (λ c. Says a (following now item c a)) (bytes_eq sender a.client.peer.name) _ _ (initial_says now item a initialisation a.client.stage refl) (violation_says now a _ refl)
meaning_says now item a sender (message.Point told) = report_says now item a (place_of a.client.peer sender) (state_in (message.Point told))
meaning_says now item a sender (message.Signal told) = report_says now item a (place_of a.client.peer sender) (state_in (message.Signal told))
meaning_says now item a sender (message.Detection told) = report_says now item a (place_of a.client.peer sender) (state_in (message.Detection told))

item_says : (now : ℕ) (item : List ℕ) (a : ClientSoFar) (read : Result Telegram SciFault) → Says a (following now item (meaning_of_item a.client.peer a.client.stage read) a)
unfolding meaning following
item_says now item a (Err fault) = violation_says now a _ refl
item_says now item a (Ok telegram) =
    either (λ c. Says a (following now item c a)) (is_for_client a.client.peer telegram) _ _ (meaning_says now item a telegram.sender telegram.message) (violation_says now a _ refl)

acting_says : (now : ℕ) (item : List ℕ) (a : ClientSoFar) → Says a (acting now item a)
unfolding acting
acting_says now item a = item_says now item a (reading item)

all_say : (now : ℕ) (items : List (List ℕ)) (a : ClientSoFar) → Says a (acting_all now items a)
unfolding acting_all
all_say now [] a = says_nothing a a refl refl refl
all_say now (item ∷ others) a = cases (is_open a.client.link.phase) (all_say now others (acting now item a)) where
  cases : (b : Bool) → Says (acting now item a) (acting_all now others (acting now item a)) → Says a (if b then acting_all now others (acting now item a) else a)
  cases true more = says_then a (acting now item a) (acting_all now others (acting now item a)) (acting_says now item a) more
  cases false more = says_nothing a a refl refl refl

-- ---- the end of a step

inside_stays : (client : ClientState) → is_outside (fallen client).stage ≡ false → ((fallen client).stage ≡ client.stage) × ((fallen client).peer ≡ client.peer)
unfolding fallen
inside_stays client = cases (is_up client.link.phase) where
  cases : (b : Bool) → is_outside (if b then client else record client { stage = stage.Outside }).stage ≡ false →
      ((if b then client else record client { stage = stage.Outside }).stage ≡ client.stage) × ((if b then client else record client { stage = stage.Outside }).peer ≡ client.peer)
  cases true inside = (refl, refl)
  cases false inside = absurd (true≢false inside)

said_of : (a b : ClientState) → b.peer ≡ a.peer → items_said b ≡ said_at a.peer b.stage
said_of a b peer = ap (λ (p : PeerState). said_at p b.stage) peer

ended_says : (a b : ClientSoFar) → Says a b → SaysInOrder a (ending b)
ended_says a b says = record {
  calls = says.calls;
  made = says.made;
  said = λ inside.
      let stays = inside_stays b.client inside
      in said_of a.client (fallen b.client) (stays.1 ∙ says.peer) ∙ ap (said_at a.client.peer) stays.0 ∙ says.said;
}

pub hearing_says : (now : ℕ) (bytes : List ℕ) (a : ClientSoFar) → SaysInOrder a (hearing now bytes a)
unfolding hearing calling items_sent
hearing_says now bytes a =
    let received : ClientSoFar = calling now (Receives bytes) a
    in let items = (receiving now bytes a.client.link).items
    in let risen : ClientSoFar = rising now received
    in let done : ClientSoFar = acting_all now items risen
    in ended_says a done (says_then a received done (says_close (Receives bytes) a received refl refl refl refl)
    (says_then received risen done (rising_says now received) (all_say now items risen)))

same_said : (peer : PeerState) (command : Command) (s : Stage) → said_at peer (stage_after_command command s) ≡ said_at peer s
same_said peer (commands.Indicate aspect) s = refl
same_said peer (commands.Move side) stage.Outside = refl
same_said peer (commands.Move side) stage.AwaitsAnswer = refl
same_said peer (commands.Move side) stage.AwaitsStart = refl
same_said peer (commands.Move side) (stage.AwaitsStatus left) = refl
same_said peer (commands.Move side) stage.Completed = refl
same_said peer (commands.Move side) stage.AwaitsReport = refl

pub commanding_says : (now : ℕ) (command : Command) (a : ClientSoFar) → SaysCommand (telegram_of command a) a (commanding now command a)
unfolding commanding
commanding_says now command a =
    let posts = posting_posts now (message_of command) a
    in let done : ClientSoFar = at_stage (stage_after_command command a.client.stage) (posting now (message_of command) a)
    in record {
      calls = posts.calls;
      made = posts.made;
      sent = posts.sent;
      said = λ inside.
          let stays = inside_stays done.client inside
          in said_of a.client (fallen done.client) (stays.1 ∙ posts.peer) ∙ ap (said_at a.client.peer) stays.0 ∙ same_said a.client.peer command a.client.stage;
    }

pub ticking_says : (now : ℕ) (a : ClientSoFar) → SaysNothing a (ticking now a)
unfolding ticking calling items_sent
ticking_says now a = record {
  calls = Ticks ∷ Opens ∷ [];
  made = append_assoc a.calls (Ticks ∷ []) (Opens ∷ []);
  sent = refl;
  said = λ inside.
      let done : ClientSoFar = calling now Opens (calling now Ticks a)
      in let stays = inside_stays done.client inside
      in said_of a.client (fallen done.client) stays.1 ∙ ap (said_at a.client.peer) stays.0;
}

pub clock_keeps : (now : ℕ) (client : ClientState) → KeepsWhatWasSaid client (clocked now client)
unfolding clocked
clock_keeps now client inside =
    let later : ClientState = record client { link = settled now client.link }
    in let stays = inside_stays later inside
    in said_of client (fallen later) stays.1 ∙ ap (said_at client.peer) stays.0
