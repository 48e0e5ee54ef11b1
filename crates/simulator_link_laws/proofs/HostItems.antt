-- What a controller sends are telegrams, and so items.
use Rattle.std.proofs.Common.{ℕ, zero, suc, ◌+◌, not, ◌&&◌, List, [], ◌∷◌, ◌++◌, Option, Some, None, Result, Ok, Err}
use Rattle.std.specs.Prelude.{◌==◌, is_ok}
use Rattle.simulator_spec.specs.sci_telegram.Names.{IsName}
use Rattle.simulator_spec.specs.sci_telegram.TelegramRead.{reading}
use Rattle.simulator_spec.specs.sci_telegram.Telegrams.{IsMessage, IsTelegram, writing}
use Rattle.simulator_spec.specs.sci_telegram.declared.fault.SciFault.{SciFault}
use Rattle.simulator_spec.specs.sci_telegram.declared.message.Agreement.TheVariants.{NoMatch, Match}
use Rattle.simulator_spec.specs.sci_telegram.declared.message.Initialisation.TheVariants.{InitialisationRequest, StartInitialisation, InitialisationCompleted, VersionCheck, VersionAnswer}
use Rattle.simulator_spec.specs.sci_telegram.declared.message.Message.{Message}
use Rattle.simulator_spec.specs.sci_telegram.declared.message.Message.TheVariants as message
use Rattle.simulator_spec.specs.sci_telegram.declared.telegram.Telegram.{Telegram}
use Rattle.simulator_spec.specs.rasta_pdu.Items.{IsItem}
use Rattle.simulator_spec.specs.rasta_core.Calls.{answer_to_send, receiving}
use Rattle.simulator_spec.specs.rasta_core.Clock.{settled}
use Rattle.simulator_spec.specs.rasta_core.State.{is_open}
use Rattle.simulator_spec.specs.object_host.Behaviour.{Behaviour}
use Rattle.simulator_spec.specs.object_host.Meaning as courses
use Rattle.simulator_spec.specs.object_host.Meaning.{meaning}
use Rattle.simulator_spec.specs.object_host.Host.{HostState, LinkCall, HostSoFar, Ticks, Closes, Sends, Receives, fallen, is_completed, is_outside, keeping, risen, said, sender_of, silent, telegram_of, then_do}
use Rattle.simulator_spec.specs.object_host.Made.{AreItems}
use Rattle.simulator_spec.specs.object_host.Step.{acting, acting_all, answering, beating, beginning, commanding, following, given, goes_on, hearing, host_step, initial_status, initialising, is_admitted, most_objects, most_owed, paid, paying, paying_first, posting, posting_all, received, report_then, telling_status, violating}
use Rattle.simulator_spec.specs.object_host.declared.input.Input.{Input}
use Rattle.simulator_spec.specs.object_host.declared.input.Input.TheVariants as inputs
use Rattle.simulator_spec.specs.object_host.declared.report.Report.{Report}
use Rattle.simulator_spec.specs.object_host.declared.sense.Sense.{Sense}
use Rattle.simulator_spec.specs.object_host.declared.stage.Stage.{Stage}
use Rattle.simulator_spec.specs.object_host.declared.stage.Stage.TheVariants as stage
use Rattle.simulator_link_laws.proofs.Lists.{by_test}
use Rattle.simulator_link_laws.specs.Whole.{IsNamed}

-- a report that can be told: of a section that has a name, or of the controller itself
abbrev pub IsSectionNamed : Option (List ℕ) → Type 0
IsSectionNamed None = Unit {0}
IsSectionNamed (Some name) = IsName name

abbrev pub IsTellable : Report → Type 0
IsTellable report = IsSectionNamed report.section × IsMessage report.message

abbrev pub IsToldWhere : Option Report → Type 0
IsToldWhere None = Unit {0}
IsToldWhere (Some report) = IsTellable report

abbrev AreTellable : List Report → Type 0
AreTellable [] = Unit {0}
AreTellable (first ∷ others) = IsTellable first × AreTellable others

-- what an object keeps, so that each of its reports can be told
pub record Tells {Object : Type 0} (does : Behaviour Object) (Good : Object → Type 0) : Type 0 where
  pub takes : (now : ℕ) (telegram : Telegram) (object : Object) → Good object → Good (does.after_take now telegram object)
  pub ticks : (now : ℕ) (object : Object) → Good object → Good (does.after_tick now object)
  pub senses : (now : ℕ) (sense : Sense) (object : Object) → Good object → Good (does.after_sense now sense object)
  pub keeps : (moment : ℕ) (object : Object) → Good object → Good (does.after_keep moment object)
  pub pays : (object : Object) → Good object → Good (does.after_paid object)
  pub loses : (object : Object) → Good object → Good (does.after_loss object)
  pub owes : (object : Object) → Good object → IsToldWhere (does.owed object)
  pub states : (place : ℕ) (object : Object) → Good object → IsToldWhere (does.status place object)

items_joined : (first others : List LinkCall) → AreItems first → AreItems others → AreItems (first ++ others)
items_joined [] others one more = more
items_joined (Ticks ∷ calls) others one more = items_joined calls others one more
items_joined (Closes why ∷ calls) others one more = items_joined calls others one more
items_joined (Sends item ∷ calls) others one more = (one.0, items_joined calls others one.1 more)
items_joined (Receives bytes ∷ calls) others one more = items_joined calls others one more

-- the law of telegrams
abbrev pub TelegramsAreItems : Type 0
TelegramsAreItems = (telegram : Telegram) → IsTelegram telegram → IsItem (writing telegram)

module _ {Object : Type 0} (does : Behaviour Object) (Good : Object → Type 0) (tells : Tells does Good) (written : TelegramsAreItems) where
  -- a host that can tell of itself and of its object, and a part of a step that leaves one
  pub record IsSound (host : HostState Object) : Type 0 where
    pub named : IsNamed host
    pub good : Good host.object

  record SaysItems (part : HostSoFar Object) : Type 0 where
    pub items : AreItems part.calls
    pub sound : IsSound part.host

  silent_says : (host : HostState Object) → IsSound host → SaysItems (silent host)
  silent_says host sound = record { items = tt; sound = sound }

  says_then : (first : HostSoFar Object) (next : HostState Object → HostSoFar Object) → SaysItems first → ((host : HostState Object) → IsSound host → SaysItems (next host)) → SaysItems (then_do first next)
  says_then first next one more = let rest = more first.host one.sound in record { items = items_joined first.calls (next first.host).calls one.items rest.items; sound = rest.sound }

  sender_named : (section : Option (List ℕ)) (own_name : List ℕ) → IsSectionNamed section → IsName own_name → IsName (sender_of section own_name)
  sender_named None own_name is own = own
  sender_named (Some name) own_name is own = is

  posting_says : (now : ℕ) (report : Report) (host : HostState Object) → IsTellable report → IsSound host → SaysItems (posting now report host)
  unfolding posting
  posting_says now report host told sound = record {
    items = (written (telegram_of report host) (record { sender = sender_named report.section host.own_name told.0 sound.named.own_name; receiver = sound.named.peer_name; message = told.1 }), tt);
    sound = record { named = record { own_name = sound.named.own_name; peer_name = sound.named.peer_name; version = sound.named.version }; good = sound.good };
  }

  posting_all_says : (now : ℕ) (reports : List Report) (host : HostState Object) → AreTellable reports → IsSound host → SaysItems (posting_all now reports host)
  unfolding posting_all
  posting_all_says now [] host told sound = silent_says host sound
  posting_all_says now (first ∷ others) host told sound = says_then (posting now first host) (posting_all now others) (posting_says now first host told.0 sound) (λ next is. posting_all_says now others next told.1 is)

  violating_says : (now : ℕ) (host : HostState Object) → IsSound host → SaysItems (violating now host)
  unfolding violating
  violating_says now host sound = record { items = tt; sound = record { named = record { own_name = sound.named.own_name; peer_name = sound.named.peer_name; version = sound.named.version }; good = sound.good } }

  -- what is left of a part beside its stage
  same_says : (part : HostSoFar Object) (stage : Stage) → SaysItems part → SaysItems (record part { host = record part.host { stage = stage } })
  same_says part stage is = record { items = is.items; sound = record { named = record { own_name = is.sound.named.own_name; peer_name = is.sound.named.peer_name; version = is.sound.named.version }; good = is.sound.good } }

  acted_says : (part : HostSoFar Object) (item : List ℕ) (told : List Telegram) → SaysItems part → SaysItems (record part { acted = item ∷ []; told = told })
  acted_says part item told is = record { items = is.items; sound = is.sound }

  answering_says : (now version : ℕ) (host : HostState Object) → IsSound host → SaysItems (answering does now version host)
  unfolding answering
  answering_says now version host sound = by_test SaysItems (version == host.version) _ _
      (λ e. same_says (posting now (said does (VersionAnswer Match host.version)) host) stage.AwaitsRequest (posting_says now _ host (tt, sound.named.version) sound))
      (λ e. same_says (posting now (said does (VersionAnswer NoMatch host.version)) host) stage.Refused (posting_says now _ host (tt, sound.named.version) sound))

  status_told : (more place : ℕ) (object : Object) → Good object → AreTellable (initial_status does more place object)
  unfolding initial_status
  status_told zero place object good = tt
  status_told (suc more) place object good = cases (does.status place object) (tells.states place object good) (status_told more (place + 1) object good) where
    cases : (first : Option Report) → IsToldWhere first → AreTellable (initial_status does more (place + 1) object) → AreTellable (report_then first (initial_status does more (place + 1) object))
    cases None told rest = tt
    cases (Some report) told rest = (told, rest)

  telling_says : (now : ℕ) (host : HostState Object) → IsSound host → SaysItems (telling_status does now host)
  telling_says now host sound = posting_all_says now (initial_status does most_objects 0 host.object) host (status_told most_objects 0 host.object sound.good) sound

  initialising_says : (now : ℕ) (host : HostState Object) → IsSound host → SaysItems (initialising does now host)
  unfolding initialising
  initialising_says now host sound =
      let begun = posting now (said does StartInitialisation) host
      in let told = then_do begun (telling_status does now)
      in same_says (then_do told (posting now (said does InitialisationCompleted))) stage.Completed
      (says_then told (posting now (said does InitialisationCompleted))
      (says_then begun (telling_status does now) (posting_says now (said does StartInitialisation) host (tt, tt) sound) (telling_says now))
      (λ next is. posting_says now (said does InitialisationCompleted) next (tt, tt) is))

  commanding_says : (now : ℕ) (telegram : Telegram) (host : HostState Object) → IsSound host → SaysItems (commanding does now telegram host)
  unfolding commanding
  commanding_says now telegram host sound = by_test SaysItems (does.accepts now telegram host.object) _ _ (λ e. silent_says after taken) (λ e. violating_says now after taken) where
    after : HostState Object
    after = record host { object = does.after_take now telegram host.object }

    taken : IsSound after
    taken = record { named = record { own_name = sound.named.own_name; peer_name = sound.named.peer_name; version = sound.named.version }; good = tells.takes now telegram host.object sound.good }

  -- what is no command closes the link
  commanded_says : (now : ℕ) (item : List ℕ) (telegram : Telegram) (at : Stage) (host : HostState Object) → IsSound host → SaysItems (following does now item telegram (courses.commanding at) host)
  unfolding following
  commanded_says now item telegram stage.Outside host sound = violating_says now host sound
  commanded_says now item telegram stage.AwaitsCheck host sound = violating_says now host sound
  commanded_says now item telegram stage.AwaitsRequest host sound = violating_says now host sound
  commanded_says now item telegram stage.Refused host sound = violating_says now host sound
  commanded_says now item telegram stage.Completed host sound = acted_says (commanding does now telegram host) item (telegram ∷ []) (commanding_says now telegram host sound)

  following_says : (now : ℕ) (item : List ℕ) (telegram : Telegram) (told : Message) (at : Stage) (host : HostState Object) → IsSound host → SaysItems (following does now item telegram (meaning told at) host)
  unfolding following
  following_says now item telegram (message.Initialisation protocol (VersionCheck version)) stage.Outside host sound = violating_says now host sound
  following_says now item telegram (message.Initialisation protocol (VersionCheck version)) stage.AwaitsCheck host sound = acted_says (answering does now version host) item [] (answering_says now version host sound)
  following_says now item telegram (message.Initialisation protocol (VersionCheck version)) stage.AwaitsRequest host sound = violating_says now host sound
  following_says now item telegram (message.Initialisation protocol (VersionCheck version)) stage.Refused host sound = violating_says now host sound
  following_says now item telegram (message.Initialisation protocol (VersionCheck version)) stage.Completed host sound = violating_says now host sound
  following_says now item telegram (message.Initialisation protocol InitialisationRequest) stage.Outside host sound = violating_says now host sound
  following_says now item telegram (message.Initialisation protocol InitialisationRequest) stage.AwaitsCheck host sound = violating_says now host sound
  following_says now item telegram (message.Initialisation protocol InitialisationRequest) stage.AwaitsRequest host sound = acted_says (initialising does now host) item [] (initialising_says now host sound)
  following_says now item telegram (message.Initialisation protocol InitialisationRequest) stage.Refused host sound = violating_says now host sound
  following_says now item telegram (message.Initialisation protocol InitialisationRequest) stage.Completed host sound = violating_says now host sound
  following_says now item telegram (message.Initialisation protocol StartInitialisation) at host sound = violating_says now host sound
  following_says now item telegram (message.Initialisation protocol InitialisationCompleted) at host sound = violating_says now host sound
  following_says now item telegram (message.Initialisation protocol (VersionAnswer agreement version)) at host sound = violating_says now host sound
  following_says now item telegram (message.Point told) at host sound = commanded_says now item telegram at host sound
  following_says now item telegram (message.Signal told) at host sound = commanded_says now item telegram at host sound
  following_says now item telegram (message.Detection told) at host sound = commanded_says now item telegram at host sound

  acting_says : (now : ℕ) (item : List ℕ) (found : Result Telegram SciFault) (host : HostState Object) → IsSound host → SaysItems (acting does now item found host)
  unfolding acting
  acting_says now item (Err fault) host sound = violating_says now host sound
  acting_says now item (Ok telegram) host sound = by_test SaysItems (is_admitted does telegram host) _ _
      (λ e. following_says now item telegram telegram.message host.stage host sound) (λ e. violating_says now host sound)

  acting_all_says : (now : ℕ) (list : List (List ℕ)) (host : HostState Object) → IsSound host → SaysItems (acting_all does now list host)
  unfolding acting_all
  acting_all_says now [] host sound = silent_says host sound
  acting_all_says now (item ∷ others) host sound = by_test SaysItems (is_open host.link.phase) _ _
      (λ e. says_then (acting does now item (reading item) host) (acting_all does now others) (acting_says now item (reading item) host sound) (λ next is. acting_all_says now others next is))
      (λ e. silent_says host sound)

  risen_sound : (host : HostState Object) → IsSound host → IsSound (risen host)
  unfolding risen
  risen_sound host sound = by_test IsSound (is_outside host.stage && is_open host.link.phase) _ host
      (λ e. record { named = record { own_name = sound.named.own_name; peer_name = sound.named.peer_name; version = sound.named.version }; good = sound.good }) (λ e. sound)

  hearing_says : (now : ℕ) (bytes : List ℕ) (host : HostState Object) → IsSound host → SaysItems (hearing does now bytes host)
  unfolding hearing received
  hearing_says now bytes host sound =
      let receipt = receiving now bytes host.link
      in says_then (received now bytes receipt host) (acting_all does now receipt.items)
      (record { items = tt; sound = risen_sound (record host { link = receipt.link }) (record { named = record { own_name = sound.named.own_name; peer_name = sound.named.peer_name; version = sound.named.version }; good = sound.good }) })
      (λ next is. acting_all_says now receipt.items next is)

  paid_sound : (host : HostState Object) → IsSound host → IsSound (paid does host)
  paid_sound host sound = record { named = record { own_name = sound.named.own_name; peer_name = sound.named.peer_name; version = sound.named.version }; good = tells.pays host.object sound.good }

  paying_first_says : (now : ℕ) (first : Option Report) (host : HostState Object) → IsToldWhere first → IsSound host → SaysItems (paying_first does now first host)
  paying_first_says now None host told sound = silent_says host sound
  paying_first_says now (Some report) host told sound =
      let sent = posting_says now report host told sound
      in by_test SaysItems (not (is_completed host.stage)) _ _ (λ e. silent_says (paid does host) (paid_sound host sound)) (λ e.
      by_test SaysItems (is_ok (answer_to_send now host.link)) _ _ (λ f. record { items = sent.items; sound = paid_sound (posting now report host).host sent.sound }) (λ f. sent))

  paying_says : (now more : ℕ) (host : HostState Object) → IsSound host → SaysItems (paying does now more host)
  unfolding paying
  paying_says now zero host sound = silent_says host sound
  paying_says now (suc more) host sound =
      let first = paying_first does now (does.owed host.object) host
      in let paid_one = paying_first_says now (does.owed host.object) host (tells.owes host.object sound.good) sound
      in by_test SaysItems (goes_on now (does.owed host.object) host) _ first (λ e. says_then first (paying does now more) paid_one (λ next is. paying_says now more next is)) (λ e. paid_one)

  fallen_sound : (host : HostState Object) → IsSound host → IsSound (fallen does host)
  unfolding fallen
  fallen_sound host sound = by_test IsSound (not (is_outside host.stage) && not (is_open host.link.phase)) _ host
      (λ e. record { named = record { own_name = sound.named.own_name; peer_name = sound.named.peer_name; version = sound.named.version }; good = tells.loses host.object sound.good }) (λ e. sound)

  beginning_sound : (now : ℕ) (host : HostState Object) → IsSound host → IsSound (beginning does now host)
  unfolding beginning
  beginning_sound now host sound =
      let clocked = fallen_sound (record host { link = settled now host.link }) (record { named = record { own_name = sound.named.own_name; peer_name = sound.named.peer_name; version = sound.named.version }; good = sound.good })
      in record { named = record { own_name = clocked.named.own_name; peer_name = clocked.named.peer_name; version = clocked.named.version }; good = tells.ticks now _ clocked.good }

  given_says : (now : ℕ) (input : Input) (host : HostState Object) → IsSound host → SaysItems (given does now input host)
  unfolding given
  given_says now inputs.Tick host sound = silent_says host sound
  given_says now (inputs.Datagram bytes) host sound = hearing_says now bytes.now host sound
  given_says now (inputs.Sense sense) host sound = silent_says _ (record { named = record { own_name = sound.named.own_name; peer_name = sound.named.peer_name; version = sound.named.version }; good = tells.senses now sense host.object sound.good })

  beating_says : (now : ℕ) (input : Input) (host : HostState Object) → IsSound host → SaysItems (beating now input host)
  unfolding beating
  beating_says now inputs.Tick host sound = record { items = tt; sound = record { named = record { own_name = sound.named.own_name; peer_name = sound.named.peer_name; version = sound.named.version }; good = sound.good } }
  beating_says now (inputs.Datagram bytes) host sound = silent_says host sound
  beating_says now (inputs.Sense sense) host sound = silent_says host sound

  keeping_sound : (host : HostState Object) → IsSound host → IsSound (keeping does host)
  unfolding keeping
  keeping_sound host sound = record { named = record { own_name = sound.named.own_name; peer_name = sound.named.peer_name; version = sound.named.version }; good = tells.keeps _ host.object sound.good }

  -- what a step sends are items, and it leaves a host that can tell of itself
  pub record StepIsSound (part : HostSoFar Object) : Type 0 where
    pub items : AreItems part.calls
    pub sound : IsSound part.host

  pub step_is_sound : (now : ℕ) (input : Input) (host : HostState Object) → IsSound host → StepIsSound (host_step does now input host)
  unfolding host_step
  step_is_sound now input host sound =
      let heard = given does now input (beginning does now host)
      in let told = then_do heard (paying does now most_owed)
      in let done = says_then told (beating now input)
      (says_then heard (paying does now most_owed) (given_says now input (beginning does now host) (beginning_sound now host sound)) (λ next is. paying_says now most_owed next is))
      (λ next is. beating_says now input next is)
      in record { items = done.items; sound = keeping_sound _ (fallen_sound _ done.sound) }
