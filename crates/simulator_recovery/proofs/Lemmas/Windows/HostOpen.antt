-- A step of a host closes no link, where the host expects each item that comes.
use Rattle.simulator_recovery.proofs.Words.Basics.{◌≡◌, ℕ, zero, suc, ◌+◌, ◌≤◌, ◌∙◌, Bool, true, false, not, ◌&&◌, List, [], ◌∷◌, ◌++◌, length, Option, Some, None, Result, Ok, Err, slice_get, if◌then◌else◌, refl, sym, ap, subst, arith, is_ok, false≢true}
use Rattle.simulator_recovery.proofs.Words.Links.{Each, answer_to_send, receiving, settled, is_open}
use Rattle.simulator_recovery.proofs.Words.Controllers.{reading, SciFault, NoMatch, Match, VersionAnswer, Message, Telegram, Behaviour, Closes, HostSoFar, HostState, LinkCall, Receives, Sends, at_stage, fallen, is_completed, is_outside, risen, said, silent, then_do, is_command, meaning, acting, acting_all, answering, beating, beginning, commanding, following, given as given_in, goes_on, hearing, host_step, initialising, most_owed, paid, paying, paying_first, posting, received, violating, Input, Report, Sense, Stage}
use Rattle.simulator_recovery.proofs.Words.Interlockings.{PeerState, Node}
use Rattle.simulator_recovery.proofs.Words.Stations.{Site, coming, IsPeer}
use Rattle.simulator_recovery.proofs.Words.Recovery.{ClientSaid, IsGivenTo, commanded, AreMatched, HostActs, HostExpects, HostExpectsItem, HostGives, HostHasActedOn, WrittenIsRead}
use Rattle.simulator_spec.specs.object_host.Host.{Ticks}
use Rattle.simulator_spec.specs.ixl_client.declared.command.Command.{Command}
use Rattle.simulator_recovery.proofs.Lemmas.Talk.HostConversation.{admitted, host_acts}
use Rattle.simulator_recovery.proofs.Lemmas.Talk.HostCounts.{acts as counts_item}
use Rattle.simulator_recovery.proofs.Lemmas.Ground.HostKeeps.{Kept, ObjectKeeps, acted as keeps_item, begins as keeps_beginning, came as keeps_receipt}
use Rattle.simulator_recovery.proofs.Lemmas.Ground.EndCalls.{each_both}
use Rattle.simulator_recovery.proofs.Lemmas.Talk.AlwaysFits.{is_talking, item_expected, said_at}
use Rattle.simulator_recovery.proofs.Lemmas.Ground.DueTests.{same_true}

-- a call that closes nothing
abbrev pub StaysOpen : LinkCall → Type 0
StaysOpen (Closes why) = ⊥
StaysOpen _ = Unit {0}

gives_open : (calls : List LinkCall) → Each HostGives calls → Each StaysOpen calls
gives_open [] each = tt
gives_open (Ticks ∷ others) each = absurd each.0
gives_open (Closes why ∷ others) each = absurd each.0
gives_open (Sends item ∷ others) each = (tt, gives_open others each.1)
gives_open (Receives bytes ∷ others) each = absurd each.0

module _ {Object : Type 0} (does : Behaviour Object) (now : ℕ) where
  -- ---- reports that are owed

  first_gives : (report : Option Report) (host : HostState Object) → Each HostGives (paying_first does now report host).calls
  unfolding posting
  first_gives None host = tt
  first_gives (Some report) host = cases (is_completed host.stage) (is_ok (answer_to_send now host.link))
    where
      sent : HostSoFar Object
      sent = posting now report host

      cases : (b c : Bool) → Each HostGives (if not b then silent (paid does host) else (if c then record sent { host = paid does sent.host } else sent)).calls
      cases false c = tt
      cases true true = (tt, tt)
      cases true false = (tt, tt)

  pay_gives : (most : ℕ) (host : HostState Object) → Each HostGives (paying does now most host).calls
  unfolding paying
  pay_gives zero host = tt
  pay_gives (suc more) host = choose (goes_on now (does.owed host.object) host) (each_both HostGives first.calls (paying does now more first.host).calls (first_gives (does.owed host.object) host) (pay_gives more first.host))
    where
      first : HostSoFar Object
      first = paying_first does now (does.owed host.object) host

      choose : (b : Bool) → Each HostGives (then_do first (paying does now more)).calls → Each HostGives (if b then then_do first (paying does now more) else first).calls
      choose true so = so
      choose false so = first_gives (does.owed host.object) host

  -- ---- steps

  pub tick_open : (host : HostState Object) → Each StaysOpen (host_step does now Input.Tick host).calls
  unfolding host_step given_in beating
  tick_open host = each_both StaysOpen (paying does now most_owed (beginning does now host)).calls (Ticks ∷ []) (gives_open _ (pay_gives most_owed (beginning does now host))) (tt, tt)

  pub sense_open : (contact : Sense) (host : HostState Object) → Each StaysOpen (host_step does now (Input.Sense contact) host).calls
  unfolding host_step given_in beating
  sense_open contact host = each_both StaysOpen (paying does now most_owed sensed).calls [] (gives_open _ (pay_gives most_owed sensed)) tt
    where
      sensed : HostState Object
      sensed = record (beginning does now host) { object = does.after_sense now contact (beginning does now host).object }

  -- what comes, where acting on it gives items at most
  pub datagram_open : (bytes : List ℕ) (host : HostState Object)
      → Each HostGives (acting_all does now (receiving now bytes (beginning does now host).link).items (received now bytes (receiving now bytes (beginning does now host).link) (beginning does now host)).host).calls
      → Each StaysOpen (host_step does now (coming bytes) host).calls
  unfolding host_step given_in beating hearing received
  datagram_open bytes host gives = (tt, each_both StaysOpen (acted ++ paid_for) [] (each_both StaysOpen acted paid_for (gives_open acted gives) (gives_open paid_for (pay_gives most_owed (hearing does now bytes begun).host))) tt)
    where
      begun : HostState Object
      begun = beginning does now host

      acted : List LinkCall
      acted = (acting_all does now (receiving now bytes begun.link).items (received now bytes (receiving now bytes begun.link) begun).host).calls

      paid_for : List LinkCall
      paid_for = (paying does now most_owed (hearing does now bytes begun).host).calls

  -- ---- what a step finds

  -- a link that the clock rules leave open
  pub record IsFoundOpen (host found : HostState Object) : Type 0 where
    pub link : found.link ≡ settled now host.link
    pub inside : is_open (settled now host.link).phase ≡ true → found.stage ≡ host.stage

  pub finds : (host : HostState Object) → IsFoundOpen host (beginning does now host)
  unfolding beginning fallen
  finds host = by (is_outside host.stage) (is_open (settled now host.link).phase) refl
    where
      at : HostState Object
      at = record host { link = settled now host.link }

      lost : HostState Object
      lost = record at { stage = Stage.Outside; object = does.after_loss host.object }

      ticked : HostState Object → HostState Object
      ticked h = record h { object = does.after_tick now h.object }

      by : (x y : Bool) → is_open (settled now host.link).phase ≡ y → IsFoundOpen host (ticked (if not x && not y then lost else at))
      by true y h = record { link = refl; inside = λ opened. refl }
      by false true h = record { link = refl; inside = λ opened. refl }
      by false false h = record { link = refl; inside = λ opened. absurd (false≢true (sym h ∙ opened)) }

  -- on a link that is shut nothing is acted on
  pub shut_acts : (items : List (List ℕ)) (host : HostState Object) → is_open host.link.phase ≡ false → Each HostGives (acting_all does now items host).calls
  unfolding acting_all
  shut_acts [] host e = tt
  shut_acts (item ∷ others) host e = subst (λ (b : Bool). Each HostGives (if b then then_do (acting does now item (reading item) host) (acting_all does now others) else silent host).calls) (sym e) tt

  pub risen_link : (host : HostState Object) → (risen host).link ≡ host.link
  unfolding risen
  risen_link host = choose (is_outside host.stage && is_open host.link.phase)
    where
      choose : (b : Bool) → (if b then record host { stage = Stage.AwaitsCheck } else host).link ≡ host.link
      choose true = refl
      choose false = refl

  -- an end that is open rises before it acts
  pub risen_talks : (host : HostState Object) → is_open host.link.phase ≡ true → (host.stage ≡ Stage.Refused → ⊥) → is_talking (risen host).stage ≡ true
  unfolding risen
  risen_talks host opened not_refused = by_stage (is_open host.link.phase) opened host.stage refl
    where
      by_stage : (b : Bool) → b ≡ true → (s : Stage) → host.stage ≡ s → is_talking (if is_outside s && b then record host { stage = Stage.AwaitsCheck } else host).stage ≡ true
      by_stage false f s e = absurd (false≢true f)
      by_stage true f Stage.Outside e = refl
      by_stage true f Stage.AwaitsCheck e = ap is_talking e
      by_stage true f Stage.AwaitsRequest e = ap is_talking e
      by_stage true f Stage.Completed e = ap is_talking e
      by_stage true f Stage.Refused e = absurd (not_refused e)

  -- ---- one item

  answer_talks : (host : HostState Object) → is_talking (answering does now host.version host).host.stage ≡ true
  unfolding answering
  answer_talks host = subst (λ (b : Bool). is_talking (if b then at_stage Stage.AwaitsRequest (posting now (said does (VersionAnswer Match host.version)) host) else at_stage Stage.Refused (posting now (said does (VersionAnswer NoMatch host.version)) host)).host.stage ≡ true)
      (sym (same_true host.version)) refl

  command_talks : (telegram : Telegram) (host : HostState Object) → host.stage ≡ Stage.Completed → is_talking (commanding does now telegram host).host.stage ≡ true
  unfolding commanding violating
  command_talks telegram host e = choose (does.accepts now telegram host.object)
    where
      after : HostState Object
      after = record host { object = does.after_take now telegram host.object }

      choose : (b : Bool) → is_talking (if b then silent after else violating now after).host.stage ≡ true
      choose true = ap is_talking e
      choose false = ap is_talking e

  told_talks : (item : List ℕ) (telegram : Telegram) (told : Message) (host : HostState Object) → host.stage ≡ Stage.Completed → is_command told ≡ true → is_talking (following does now item telegram (meaning told Stage.Completed) host).host.stage ≡ true
  unfolding following
  told_talks item telegram (Message.Initialisation protocol what) host e commands = absurd (false≢true commands)
  told_talks item telegram (Message.Point what) host e commands = command_talks telegram host e
  told_talks item telegram (Message.Signal what) host e commands = command_talks telegram host e
  told_talks item telegram (Message.Detection what) host e commands = command_talks telegram host e

  follow_talks : (item : List ℕ) (telegram : Telegram) (how_far : Stage) (told : Message) (host : HostState Object) → host.stage ≡ how_far → HostExpects does now host telegram how_far told
      → is_talking (following does now item telegram (meaning told how_far) host).host.stage ≡ true
  unfolding following initialising
  follow_talks item telegram Stage.Outside told host e expects = absurd expects
  follow_talks item telegram Stage.AwaitsCheck told host e (protocol, is) = subst (λ (m : Message). is_talking (following does now item telegram (meaning m Stage.AwaitsCheck) host).host.stage ≡ true) (sym is) (answer_talks host)
  follow_talks item telegram Stage.AwaitsRequest told host e (protocol, is) = subst (λ (m : Message). is_talking (following does now item telegram (meaning m Stage.AwaitsRequest) host).host.stage ≡ true) (sym is) refl
  follow_talks item telegram Stage.Completed told host e (commands, fits) = told_talks item telegram told host e commands
  follow_talks item telegram Stage.Refused told host e expects = absurd expects

  item_talks : (item : List ℕ) (read : Result Telegram SciFault) (host : HostState Object) → HostExpectsItem does now host read → is_talking (acting does now item read host).host.stage ≡ true
  unfolding acting
  item_talks item (Err fault) host expects = absurd expects
  item_talks item (Ok telegram) host (is, expects) = subst (λ (b : Bool). is_talking (if b then following does now item telegram (meaning telegram.message host.stage) host else violating now host).host.stage ≡ true) (sym (admitted does now telegram host is))
      (follow_talks item telegram host.stage telegram.message host refl expects)

  -- ---- names

  all_keep : (version : ℕ) → ObjectKeeps does (λ object. Unit {0}) version
  all_keep version = record { takes = λ at telegram object e is. tt; ticks = λ at object is. tt; senses = λ at contact object is. tt; keeps = λ moment object is. tt; pays = λ object is. tt; loses = λ object is. tt }

  abbrev KeepsNames : HostState Object → HostState Object → Type 0
  KeepsNames host after = Kept does (λ object. Unit {0}) host.version host.own_name host.peer_name (all_keep host.version) after

  own_names : (host : HostState Object) → KeepsNames host host
  own_names host = record { object = tt; own_is = refl; peer_is = refl; version_is = refl }

  still_matched : (peer : PeerState) (host after : HostState Object) → AreMatched does peer host → KeepsNames host after → AreMatched does peer after
  still_matched peer host after matched names = record { own_name = names.peer_is ∙ matched.own_name; name = names.own_is ∙ matched.name; version = names.version_is ∙ matched.version; protocol = matched.protocol }

  pub receipt_matched : (peer : PeerState) (bytes : List ℕ) (host : HostState Object) → AreMatched does peer host
      → AreMatched does peer (received now bytes (receiving now bytes (beginning does now host).link) (beginning does now host)).host
  receipt_matched peer bytes host matched = still_matched peer host (received now bytes (receiving now bytes (beginning does now host).link) (beginning does now host)).host matched
      (keeps_receipt does (λ object. Unit {0}) host.version host.own_name host.peer_name (all_keep host.version) now bytes (beginning does now host)
      (keeps_beginning does (λ object. Unit {0}) host.version host.own_name host.peer_name (all_keep host.version) now host (own_names host)))

  -- ---- all items of a datagram

  -- A host has acted on so many items of those that its client gave, and takes the next one; *More* is what else it needs to expect a command.
  module _ (written : WrittenIsRead) (site : Site) (node : Node) (peer : PeerState) (is_peer : IsPeer peer) (taken : ℕ) (given : List (List ℕ)) (has_said : ClientSaid site node peer taken given) (More : ℕ → HostState Object → Type 0)
      (fits : (count : ℕ) (host : HostState Object) → More count host → AreMatched does peer host → 2 ≤ count → (item : List ℕ) → slice_get given count ≡ Some item → host.stage ≡ Stage.Completed → (command : Command) → IsGivenTo site node command
      → HostExpectsItem does now host (reading (commanded peer command)))
      (more_on : (count : ℕ) (item : List ℕ) (host : HostState Object) → More count host → (acting does now item (reading item) host).acted ≡ item ∷ [] → More (count + 1) (acting does now item (reading item) host).host) where
    pub record IsReady (count : ℕ) (host : HostState Object) : Type 0 where
      pub matched : AreMatched does peer host
      pub acted : HostHasActedOn host.stage count
      pub talks : is_talking host.stage ≡ true
      pub more : More count host

    expects : (count : ℕ) (item : List ℕ) (host : HostState Object) → IsReady count host → slice_get given count ≡ Some item → HostExpectsItem does now host (reading item)
    expects count item host ready e = item_expected written site node does now peer is_peer host ready.matched
        (λ completed. fits count host ready.more ready.matched (subst (λ (s : Stage). HostHasActedOn s count) completed ready.acted) item e completed) count item ready.talks ready.acted
        (said_at site node peer taken given has_said count item e)

    next_ready : (count : ℕ) (item : List ℕ) (host : HostState Object) → IsReady count host → HostExpectsItem does now host (reading item) → HostActs item (acting does now item (reading item) host) → IsReady (count + 1) (acting does now item (reading item) host).host
    next_ready count item host ready expected acts = record {
      matched = still_matched peer host (acting does now item (reading item) host).host ready.matched
          (keeps_item does (λ object. Unit {0}) host.version host.own_name host.peer_name (all_keep host.version) now item (reading item) host (own_names host));
      acted = subst (λ (l : List (List ℕ)). HostHasActedOn (acting does now item (reading item) host).host.stage (count + length l)) acts.acted (counts_item does now count item (reading item) host ready.acted);
      talks = item_talks item (reading item) host expected;
      more = more_on count item host ready.more acts.acted;
    }

    pub all_give : (items : List (List ℕ)) (count : ℕ) (host : HostState Object) → IsReady count host → ((k : ℕ) (item : List ℕ) → slice_get items k ≡ Some item → slice_get given (count + k) ≡ Some item) → Each HostGives (acting_all does now items host).calls
    unfolding acting_all
    all_give [] count host ready there = tt
    all_give (item ∷ others) count host ready there = choose (is_open host.link.phase)
        (each_both HostGives (acting does now item (reading item) host).calls (acting_all does now others (acting does now item (reading item) host).host).calls acts.gives
        (all_give others (count + 1) (acting does now item (reading item) host).host (next_ready count item host ready expected acts) behind))
      where
        here : (n : ℕ) → n ≡ n + 0
        here n = omega arith

        later : (n k : ℕ) → n + suc k ≡ (n + 1) + k
        later n k = omega arith

        expected : HostExpectsItem does now host (reading item)
        expected = expects count item host ready (subst (λ (n : ℕ). slice_get given n ≡ Some item) (sym (here count)) (there 0 item refl))

        acts : HostActs item (acting does now item (reading item) host)
        acts = host_acts does now item (reading item) host expected

        behind : (k : ℕ) (x : List ℕ) → slice_get others k ≡ Some x → slice_get given ((count + 1) + k) ≡ Some x
        behind k x e = subst (λ (n : ℕ). slice_get given n ≡ Some x) (later count k) (there (suc k) x e)

        choose : (b : Bool) → Each HostGives (then_do (acting does now item (reading item) host) (acting_all does now others)).calls
            → Each HostGives (if b then then_do (acting does now item (reading item) host) (acting_all does now others) else silent host).calls
        choose true so = so
        choose false so = tt
