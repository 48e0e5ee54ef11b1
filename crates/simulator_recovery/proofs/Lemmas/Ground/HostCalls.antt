-- What a host calls its link to in a step: it receives what comes, then says something or closes the link, and ticks last.
use Rattle.simulator_recovery.proofs.Words.Basics.{◌≡◌, ℕ, zero, suc, Bool, true, false, List, [], ◌∷◌, ◌++◌, Option, Some, None, ◌==◌, not, Result, Ok, Err, refl, if◌then◌else◌, is_ok}
use Rattle.simulator_recovery.proofs.Words.Links.{Each, answer_to_send, receiving, is_open}
use Rattle.simulator_recovery.proofs.Words.Controllers.{reading, SciFault, Telegram, Behaviour, HostState, HostSoFar, LinkCall, Closes, Sends, Receives, at_stage, is_completed, said, silent, then_do, meaning, acting, acting_all, answering, beating, beginning, commanding, following, given, goes_on, hearing, host_step, initial_status, initialising, is_admitted, most_objects, most_owed, paying, paying_first, posting, paid, posting_all, received, telling_status, violating, Input, Report, Sense, NoMatch, Match, InitialisationCompleted, InitialisationRequest, StartInitialisation, VersionAnswer, VersionCheck, Message, Stage}
use Rattle.simulator_spec.specs.object_host.Host.{Ticks}
use Rattle.simulator_spec.specs.object_host.Meaning.{commanding as by_stage}
use Rattle.simulator_recovery.proofs.Lemmas.Ground.EndCalls.{each_both}

-- an item is given, or the link is closed
abbrev pub IsSaid : LinkCall → Type 0
IsSaid Ticks = ⊥
IsSaid (Closes why) = Unit {0}
IsSaid (Sends item) = Unit {0}
IsSaid (Receives bytes) = ⊥

module _ {Object : Type 0} (does : Behaviour Object) (now : ℕ) where
  abbrev Says : HostSoFar Object → Type 0
  Says part = Each IsSaid part.calls

  says_then : (first : HostSoFar Object) (next : HostState Object → HostSoFar Object) → Says first → ((host : HostState Object) → Says (next host)) → Says (then_do first next)
  says_then first next one other = each_both IsSaid first.calls (next first.host).calls one (other first.host)

  posting_says : (report : Report) (host : HostState Object) → Says (posting now report host)
  unfolding posting
  posting_says report host = (tt, tt)

  posting_all_says : (reports : List Report) (host : HostState Object) → Says (posting_all now reports host)
  unfolding posting_all
  posting_all_says [] host = tt
  posting_all_says (first ∷ others) host = says_then (posting now first host) (posting_all now others) (posting_says first host) (posting_all_says others)

  violating_says : (host : HostState Object) → Says (violating now host)
  unfolding violating
  violating_says host = (tt, tt)

  answering_says : (version : ℕ) (host : HostState Object) → Says (answering does now version host)
  unfolding answering posting
  answering_says version host = choose (version == host.version)
    where
      choose : (b : Bool) → Says (if b then at_stage Stage.AwaitsRequest (posting now (said does (VersionAnswer Match host.version)) host) else at_stage Stage.Refused (posting now (said does (VersionAnswer NoMatch host.version)) host))
      choose true = (tt, tt)
      choose false = (tt, tt)

  initialising_says : (host : HostState Object) → Says (initialising does now host)
  unfolding initialising
  initialising_says host = says_then (then_do (posting now (said does StartInitialisation) host) (telling_status does now)) (posting now (said does InitialisationCompleted))
      (says_then (posting now (said does StartInitialisation) host) (telling_status does now) (posting_says (said does StartInitialisation) host) (λ h. posting_all_says (initial_status does most_objects 0 h.object) h))
      (λ h. posting_says (said does InitialisationCompleted) h)

  commanding_says : (telegram : Telegram) (host : HostState Object) → Says (commanding does now telegram host)
  unfolding commanding
  commanding_says telegram host = choose (does.accepts now telegram host.object)
    where
      after : HostState Object
      after = record host { object = does.after_take now telegram host.object }

      choose : (b : Bool) → Says (if b then silent after else violating now after)
      choose true = tt
      choose false = violating_says after

  commands : (item : List ℕ) (telegram : Telegram) (how_far : Stage) (host : HostState Object) → Says (following does now item telegram (by_stage how_far) host)
  unfolding following
  commands item telegram Stage.Completed host = commanding_says telegram host
  commands item telegram Stage.Outside host = violating_says host
  commands item telegram Stage.AwaitsCheck host = violating_says host
  commands item telegram Stage.AwaitsRequest host = violating_says host
  commands item telegram Stage.Refused host = violating_says host

  -- what a telegram is at each stage
  following_says : (item : List ℕ) (telegram : Telegram) (told : Message) (how_far : Stage) (host : HostState Object) → Says (following does now item telegram (meaning told how_far) host)
  unfolding following
  following_says item telegram (Message.Initialisation protocol (VersionCheck version)) Stage.AwaitsCheck host = answering_says version host
  following_says item telegram (Message.Initialisation protocol (VersionCheck version)) Stage.Outside host = violating_says host
  following_says item telegram (Message.Initialisation protocol (VersionCheck version)) Stage.AwaitsRequest host = violating_says host
  following_says item telegram (Message.Initialisation protocol (VersionCheck version)) Stage.Completed host = violating_says host
  following_says item telegram (Message.Initialisation protocol (VersionCheck version)) Stage.Refused host = violating_says host
  following_says item telegram (Message.Initialisation protocol InitialisationRequest) Stage.AwaitsRequest host = initialising_says host
  following_says item telegram (Message.Initialisation protocol InitialisationRequest) Stage.Outside host = violating_says host
  following_says item telegram (Message.Initialisation protocol InitialisationRequest) Stage.AwaitsCheck host = violating_says host
  following_says item telegram (Message.Initialisation protocol InitialisationRequest) Stage.Completed host = violating_says host
  following_says item telegram (Message.Initialisation protocol InitialisationRequest) Stage.Refused host = violating_says host
  following_says item telegram (Message.Initialisation protocol StartInitialisation) how_far host = violating_says host
  following_says item telegram (Message.Initialisation protocol InitialisationCompleted) how_far host = violating_says host
  following_says item telegram (Message.Initialisation protocol (VersionAnswer agreement version)) how_far host = violating_says host
  following_says item telegram (Message.Point told) how_far host = commands item telegram how_far host
  following_says item telegram (Message.Signal told) how_far host = commands item telegram how_far host
  following_says item telegram (Message.Detection told) how_far host = commands item telegram how_far host

  acting_says : (item : List ℕ) (read : Result Telegram SciFault) (host : HostState Object) → Says (acting does now item read host)
  unfolding acting
  acting_says item (Err fault) host = violating_says host
  acting_says item (Ok telegram) host = choose (is_admitted does telegram host)
    where
      choose : (b : Bool) → Says (if b then following does now item telegram (meaning telegram.message host.stage) host else violating now host)
      choose true = following_says item telegram telegram.message host.stage host
      choose false = violating_says host

  acting_all_says : (items : List (List ℕ)) (host : HostState Object) → Says (acting_all does now items host)
  unfolding acting_all
  acting_all_says [] host = tt
  acting_all_says (item ∷ others) host = choose (is_open host.link.phase) (says_then (acting does now item (reading item) host) (acting_all does now others) (acting_says item (reading item) host) (acting_all_says others))
    where
      choose : (b : Bool) → Says (then_do (acting does now item (reading item) host) (acting_all does now others)) → Says (if b then then_do (acting does now item (reading item) host) (acting_all does now others) else silent host)
      choose true said = said
      choose false said = tt

  paying_first_says : (report : Option Report) (host : HostState Object) → Says (paying_first does now report host)
  unfolding posting
  paying_first_says None host = tt
  paying_first_says (Some report) host = cases (is_completed host.stage) (is_ok (answer_to_send now host.link))
    where
      sent : HostSoFar Object
      sent = posting now report host

      cases : (b c : Bool) → Says (if not b then silent (paid does host) else (if c then record sent { host = paid does sent.host } else sent))
      cases false c = tt
      cases true true = (tt, tt)
      cases true false = (tt, tt)

  paying_says : (most : ℕ) (host : HostState Object) → Says (paying does now most host)
  unfolding paying
  paying_says zero host = tt
  paying_says (suc more) host = choose (goes_on now (does.owed host.object) host)
      (says_then (paying_first does now (does.owed host.object) host) (paying does now more) (paying_first_says (does.owed host.object) host) (paying_says more))
    where
      first : HostSoFar Object
      first = paying_first does now (does.owed host.object) host

      choose : (b : Bool) → Says (then_do first (paying does now more)) → Says (if b then then_do first (paying does now more) else first)
      choose true said = said
      choose false said = paying_first_says (does.owed host.object) host

  -- a tick: something is said, and then the link ticks
  pub tick_calls : (host : HostState Object) → (front : List LinkCall) × (Each IsSaid front × ((host_step does now Input.Tick host).calls ≡ front ++ Ticks ∷ []))
  unfolding host_step given beating
  tick_calls host = ((paying does now most_owed (beginning does now host)).calls, (paying_says most_owed (beginning does now host), refl))

  -- a contact
  pub sense_calls : (contact : Sense) (host : HostState Object) → Each IsSaid (host_step does now (Input.Sense contact) host).calls
  unfolding host_step given beating
  sense_calls contact host = each_both IsSaid (paying does now most_owed sensed).calls [] (paying_says most_owed sensed) tt
    where
      sensed : HostState Object
      sensed = record (beginning does now host) { object = does.after_sense now contact (beginning does now host).object }

  -- what comes is received first
  pub datagram_calls : (bytes : _) (host : HostState Object) → (others : List LinkCall) × (Each IsSaid others × ((host_step does now (Input.Datagram bytes) host).calls ≡ Receives bytes.now ∷ others))
  unfolding host_step given beating hearing received
  datagram_calls bytes host = ((acted ++ paid_for) ++ [], (each_both IsSaid (acted ++ paid_for) [] (each_both IsSaid acted paid_for (acting_all_says (receiving now bytes.now begun.link).items (received now bytes.now (receiving now bytes.now begun.link) begun).host) (paying_says most_owed (hearing does now bytes.now begun).host)) tt, refl))
    where
      begun : HostState Object
      begun = beginning does now host

      acted : List LinkCall
      acted = (acting_all does now (receiving now bytes.now begun.link).items (received now bytes.now (receiving now bytes.now begun.link) begun).host).calls

      paid_for : List LinkCall
      paid_for = (paying does now most_owed (hearing does now bytes.now begun).host).calls
