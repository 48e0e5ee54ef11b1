-- What a client gave, and how far its initialisation has come, while a step goes on.
use Rattle.std.proofs.Common.{◌≡◌, ℕ, ◌+◌, Bool, true, false, List, [], ◌∷◌, ◌++◌, length, refl, sym, ap, ◌∙◌}
use Rattle.std.specs.Prelude.{is_ok}
use Rattle.std.proofs.lemmas.Bool.{true≢false}
use Rattle.ixl_spec.specs.sci_telegram.Telegrams.{writing}
use Rattle.ixl_spec.specs.sci_telegram.declared.message.Message.{Message}
use Rattle.ixl_spec.specs.rasta_core.Calls.{answer_to_send}
use Rattle.ixl_spec.specs.rasta_core.State.{LinkState, is_client, is_open, is_up}
use Rattle.ixl_spec.specs.rasta_core.reason.Reason.{Reason}
use Rattle.ixl_spec.specs.rasta_core.reason.Reason.TheVariants as reason
use Rattle.ixl_spec.specs.ixl_client.Client.{PeerState, is_outside, is_ready}
use Rattle.ixl_spec.specs.ixl_client.Made.{link_after}
use Rattle.ixl_spec.specs.ixl_client.ClientSoFar.{LinkCall, Opens, Ticks, Closes, Sends, Receives, ClientSoFar, call_made, calling}
use Rattle.ixl_spec.specs.ixl_client.Step.{is_refused_by_window, posting, telegram_to}
use Rattle.ixl_spec.specs.ixl_client.declared.command.Command.{Command}
use Rattle.ixl_spec.specs.ixl_client.declared.stage.Stage.{Stage}
use Rattle.ixl_spec.specs.Step.{Input}
use Rattle.simulator_move_laws.specs.Calls.{Items, items_by, items_after}
use Rattle.simulator_move_laws.specs.Facts.{AreCallsIn, IsCallIn}
use Rattle.simulator_move_laws.specs.Telegrams.{AreHeard, given_by, item_of}
use Rattle.simulator_move_laws.proofs.Interlocking.Tests.{by_test}
use Rattle.simulator_move_laws.proofs.Interlocking.Phases.{Goes, goes_itself, goes_then, stays_open, stays_up}
use Rattle.simulator_move_laws.proofs.Interlocking.Calls.{IsNoOpening, accepted_where_open, call_goes, closed_by, refused_where_shut, window_refuses}

-- ---- lists of calls

pub link_then : (now : ℕ) (calls others : List LinkCall) (link : LinkState) → link_after now (calls ++ others) link ≡ link_after now others (link_after now calls link)
unfolding link_after
link_then now [] others link = refl
link_then now (first ∷ later) others link = link_then now later others (call_made now first link).link

pub items_then : (now : ℕ) (calls others : List LinkCall) (link : LinkState) (items : Items) →
    items_after now (calls ++ others) link items ≡ items_after now others (link_after now calls link) (items_after now calls link items)
unfolding link_after items_after
items_then now [] others link items = refl
items_then now (first ∷ later) others link items = items_then now later others (call_made now first link).link (items_by now first link items)

pub link_one : (now : ℕ) (call : LinkCall) (link : LinkState) → link_after now (call ∷ []) link ≡ (call_made now call link).link
unfolding link_after
link_one now call link = refl

pub items_one : (now : ℕ) (call : LinkCall) (link : LinkState) (items : Items) → items_after now (call ∷ []) link items ≡ items_by now call link items
unfolding items_after
items_one now call link items = refl

pub calls_then : (input : Input) (peer : PeerState) (calls others : List LinkCall) → AreCallsIn input peer calls → AreCallsIn input peer others → AreCallsIn input peer (calls ++ others)
calls_then input peer [] others are more = more
calls_then input peer (first ∷ later) others are more = (are.0, calls_then input peer later others are.1 more)

no_opening : (input : Input) (peer : PeerState) (call : LinkCall) → IsCallIn input peer call → IsNoOpening call
no_opening input peer Opens is = is
no_opening input peer Ticks is = tt
no_opening input peer (Closes why) is = tt
no_opening input peer (Sends item) is = tt
no_opening input peer (Receives bytes) is = tt

pub calls_go : (now : ℕ) (input : Input) (peer : PeerState) (calls : List LinkCall) (link : LinkState) → AreCallsIn input peer calls → is_client link.identity.role ≡ true →
    Goes link (link_after now calls link)
unfolding link_after
calls_go now input peer [] link are client = goes_itself link
calls_go now input peer (first ∷ later) link are client =
    let one = call_goes now first link (no_opening input peer first are.0) client
    in goes_then link (call_made now first link).link _ one (calls_go now input peer later (call_made now first link).link are.1 (ap (λ i. is_client i.role) one.identity ∙ client))

-- ---- a client in the middle of a step, that gave so many commands in its connection; a point's reports are counted

module _ (now : ℕ) (input : Input) (start : LinkState) (items : Items) (peer : PeerState) (commands : List Command) (of_point : Bool) (heard_before : ℕ) where
  -- what was given and taken after these calls
  abbrev pub items_behind : List LinkCall → Items
  items_behind calls = items_after now calls start items

  -- the link is what the calls made of it
  pub record Runs (calls : List LinkCall) (link : LinkState) (told : PeerState) : Type 0 where
    pub are : AreCallsIn input peer calls
    pub made : link ≡ link_after now calls start
    pub same : told ≡ peer
    pub client : is_client link.identity.role ≡ true

  pub record Stands (calls : List LinkCall) (link : LinkState) (told : PeerState) (stage : Stage) (more : ℕ) : Type 0 where
    pub runs : Runs calls link told
    pub given : is_open link.phase ≡ true → (items_behind calls).given ≡ given_by peer stage commands
    pub early : is_open link.phase ≡ true → is_ready stage ≡ false → commands ≡ []
    pub inside : is_outside stage ≡ false → is_open link.phase ≡ true → is_up link.phase ≡ true
    pub heard : of_point ≡ true → is_open link.phase ≡ true → AreHeard stage (heard_before + more) (length commands)

  abbrev pub Running : ClientSoFar → Type 0
  Running part = Runs part.calls part.client.link part.client.peer

  abbrev pub Standing : ClientSoFar → Type 0
  Standing part = Stands part.calls part.client.link part.client.peer part.client.stage (length part.heard)

  pub runs_on : (call : LinkCall) (part : ClientSoFar) → IsCallIn input peer call → Running part → Running (calling now call part)
  unfolding calling
  runs_on call part is runs = record {
    are = calls_then input peer part.calls (call ∷ []) runs.are (is, tt);
    made = sym (link_then now part.calls (call ∷ []) start ∙ link_one now call (link_after now part.calls start) ∙ ap (λ l. (call_made now call l).link) (sym runs.made));
    same = runs.same;
    client = ap (λ i. is_client i.role) (call_goes now call part.client.link (no_opening input peer call is) runs.client).identity ∙ runs.client;
  }

  pub items_on : (call : LinkCall) (part : ClientSoFar) → Running part → items_behind (calling now call part).calls ≡ items_by now call part.client.link (items_behind part.calls)
  unfolding calling
  items_on call part runs =
      items_then now part.calls (call ∷ []) start items ∙ items_one now call (link_after now part.calls start) (items_behind part.calls)
      ∙ ap (λ l. items_by now call l (items_behind part.calls)) (sym runs.made)

  went : (call : LinkCall) (part : ClientSoFar) → IsCallIn input peer call → Running part → Goes part.client.link (calling now call part).client.link
  unfolding calling
  went call part is runs = call_goes now call part.client.link (no_opening input peer call is) runs.client

  -- a call that gives nothing
  pub stands_on : (call : LinkCall) (part : ClientSoFar) → IsCallIn input peer call → ((link : LinkState) (before : Items) → (items_by now call link before).given ≡ before.given) →
      Standing part → Standing (calling now call part)
  unfolding calling
  stands_on call part may gives stands = record {
    runs = runs_on call part may stands.runs;
    given = λ is. ap (λ (i : Items). i.given) (items_on call part stands.runs) ∙ gives part.client.link (items_behind part.calls) ∙ stands.given (was is);
    early = λ is. stands.early (was is);
    inside = λ stage is. stays_up part.client.link.phase _ (went call part may stands.runs).may (stands.inside stage (was is)) is;
    heard = λ point is. stands.heard point (was is);
  } where
    was : is_open (call_made now call part.client.link).link.phase ≡ true → is_open part.client.link.phase ≡ true
    was opened = stays_open part.client.link.phase _ (went call part may stands.runs).may opened

  pub receipt_gives : (bytes : List ℕ) (link : LinkState) (before : Items) → (items_by now (Receives bytes) link before).given ≡ before.given
  unfolding items_by
  receipt_gives bytes link before = refl

  pub tick_gives : (link : LinkState) (before : Items) → (items_by now Ticks link before).given ≡ before.given
  unfolding items_by
  tick_gives link before = refl

  -- a client closes its link
  pub closes_shut : (why : Reason) (part : ClientSoFar) → is_open (calling now (Closes why) part).client.link.phase ≡ false
  unfolding calling
  closes_shut why part = closed_by now why part.client.link

  pub stands_shut : (part : ClientSoFar) → Running part → is_open part.client.link.phase ≡ false → Standing part
  stands_shut part runs shut = record {
    runs = runs;
    given = λ is. absurd (true≢false (sym is ∙ shut));
    early = λ is. absurd (true≢false (sym is ∙ shut));
    inside = λ stage is. absurd (true≢false (sym is ∙ shut));
    heard = λ point is. absurd (true≢false (sym is ∙ shut));
  }

  pub stands_closed : (why : Reason) (part : ClientSoFar) → Running part → Standing (calling now (Closes why) part)
  stands_closed why part runs = stands_shut (calling now (Closes why) part) (runs_on (Closes why) part tt runs) (closes_shut why part)

  -- ---- a client that is up gives a telegram, or its link closes

  pub record Posted (told : Message) (part after : ClientSoFar) : Type 0 where
    pub runs : Running after
    pub stage : after.client.stage ≡ part.client.stage
    pub heard : after.heard ≡ part.heard
    pub given : is_open after.client.link.phase ≡ true → (items_behind after.calls).given ≡ (items_behind part.calls).given ++ item_of peer told ∷ []
    pub refused : is_open after.client.link.phase ≡ false → (items_behind after.calls).given ≡ (items_behind part.calls).given
    pub taken : (items_behind after.calls).taken ≡ (items_behind part.calls).taken
    pub up : is_open after.client.link.phase ≡ true → is_up after.client.link.phase ≡ true

  item_same : (told : Message) (part : ClientSoFar) → Running part → writing (telegram_to part.client.peer told) ≡ item_of peer told
  item_same told part runs = ap (λ p. writing (telegram_to p told)) runs.same

  send_taken : (item : List ℕ) (link : LinkState) (before : Items) → (items_by now (Sends item) link before).taken ≡ before.taken
  unfolding items_by
  send_taken item link before = by_test (λ (i : Items). i.taken ≡ before.taken) (is_ok (answer_to_send now link)) _ before (λ e. refl) (λ e. refl)

  close_taken : (why : Reason) (link : LinkState) (before : Items) → (items_by now (Closes why) link before).taken ≡ before.taken
  unfolding items_by
  close_taken why link before = refl

  send_given : (item : List ℕ) (link : LinkState) (before : Items) → is_ok (answer_to_send now link) ≡ true → (items_by now (Sends item) link before).given ≡ before.given ++ item ∷ []
  unfolding items_by
  send_given item link before ok = rw ok refl

  send_refused : (item : List ℕ) (link : LinkState) (before : Items) → is_ok (answer_to_send now link) ≡ false → (items_by now (Sends item) link before).given ≡ before.given
  unfolding items_by
  send_refused item link before none = rw none refl

  close_gives : (why : Reason) (link : LinkState) (before : Items) → (items_by now (Closes why) link before).given ≡ before.given
  unfolding items_by
  close_gives why link before = refl

  pub posts : (told : Message) (part : ClientSoFar) → Running part → is_up part.client.link.phase ≡ true → Posted told part (posting now told part)
  unfolding posting calling
  posts told part runs up =
      by_test (Posted told part) (is_refused_by_window (answer_to_send now part.client.link)) (calling now (Closes reason.Window) sent) sent refused accepted
    where
      item : List ℕ
      item = writing (telegram_to part.client.peer told)

      sent : ClientSoFar
      sent = calling now (Sends item) part

      ran : Running sent
      ran = runs_on (Sends item) part (told, item_same told part runs) runs

      went_on : Goes part.client.link sent.client.link
      went_on = went (Sends item) part (told, item_same told part runs) runs

      sent_taken : (items_behind sent.calls).taken ≡ (items_behind part.calls).taken
      sent_taken = ap (λ (i : Items). i.taken) (items_on (Sends item) part runs) ∙ send_taken item part.client.link (items_behind part.calls)

      sent_nothing : is_ok (answer_to_send now part.client.link) ≡ false → (items_behind sent.calls).given ≡ (items_behind part.calls).given
      sent_nothing none = ap (λ (i : Items). i.given) (items_on (Sends item) part runs) ∙ send_refused item part.client.link (items_behind part.calls) none

      refused : is_refused_by_window (answer_to_send now part.client.link) ≡ true → Posted told part (calling now (Closes reason.Window) sent)
      refused e = record {
        runs = runs_on (Closes reason.Window) sent tt ran;
        stage = refl;
        heard = refl;
        given = λ is. absurd (true≢false (sym is ∙ closes_shut reason.Window sent));
        refused = λ is. ap (λ (i : Items). i.given) (items_on (Closes reason.Window) sent ran) ∙ close_gives reason.Window sent.client.link (items_behind sent.calls)
            ∙ sent_nothing (window_refuses (answer_to_send now part.client.link) e);
        taken = ap (λ (i : Items). i.taken) (items_on (Closes reason.Window) sent ran) ∙ close_taken reason.Window sent.client.link (items_behind sent.calls) ∙ sent_taken;
        up = λ is. absurd (true≢false (sym is ∙ closes_shut reason.Window sent));
      }

      accepted : is_refused_by_window (answer_to_send now part.client.link) ≡ false → Posted told part sent
      accepted e = record {
        runs = ran;
        stage = refl;
        heard = refl;
        given = λ is. ap (λ (i : Items). i.given) (items_on (Sends item) part runs)
            ∙ send_given item part.client.link (items_behind part.calls) (accepted_where_open now item part.client.link up e is)
            ∙ ap (λ one. (items_behind part.calls).given ++ one ∷ []) (item_same told part runs);
        refused = λ is. sent_nothing (refused_where_shut now item part.client.link is);
        taken = sent_taken;
        up = λ is. stays_up part.client.link.phase _ went_on.may up is;
      }
