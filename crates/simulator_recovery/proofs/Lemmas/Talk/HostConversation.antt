-- What a host expects it acts on, and closes nothing.
use Rattle.simulator_recovery.proofs.Words.Basics.{◌≡◌, ℕ, Bool, true, false, List, [], ◌∷◌, Result, Ok, Err, refl, sym, subst, if◌then◌else◌, ◌==◌, false≢true, bytes_eq-Decides}
use Rattle.simulator_recovery.proofs.Words.Links.{Each}
use Rattle.simulator_recovery.proofs.Words.Controllers.{SciFault, NoMatch, Match, InitialisationCompleted, StartInitialisation, VersionAnswer, Message, Telegram, Behaviour, HostSoFar, HostState, at_stage, said, silent, then_do, is_command, meaning, acting, answering, commanding, following, initial_status, initialising, is_admitted, most_objects, posting, posting_all, telling_status, violating, Report, Stage}
use Rattle.simulator_recovery.proofs.Words.Recovery.{HostActs, HostExpects, HostExpectsItem, HostGives, IsForHost}
use Rattle.simulator_recovery.proofs.Lemmas.Ground.EndCalls.{each_both}

module _ {Object : Type 0} (does : Behaviour Object) (now : ℕ) where
  abbrev Gives : HostSoFar Object → Type 0
  Gives part = Each HostGives part.calls

  gives_then : (first : HostSoFar Object) (next : HostState Object → HostSoFar Object) → Gives first → ((host : HostState Object) → Gives (next host)) → Gives (then_do first next)
  gives_then first next one other = each_both HostGives first.calls (next first.host).calls one (other first.host)

  posting_gives : (report : Report) (host : HostState Object) → Gives (posting now report host)
  unfolding posting
  posting_gives report host = (tt, tt)

  posting_all_gives : (reports : List Report) (host : HostState Object) → Gives (posting_all now reports host)
  unfolding posting_all
  posting_all_gives [] host = tt
  posting_all_gives (first ∷ others) host = gives_then (posting now first host) (posting_all now others) (posting_gives first host) (posting_all_gives others)

  answering_gives : (version : ℕ) (host : HostState Object) → Gives (answering does now version host)
  unfolding answering posting
  answering_gives version host = choose (version == host.version)
    where
      choose : (b : Bool) → Gives (if b then at_stage Stage.AwaitsRequest (posting now (said does (VersionAnswer Match host.version)) host) else at_stage Stage.Refused (posting now (said does (VersionAnswer NoMatch host.version)) host))
      choose true = (tt, tt)
      choose false = (tt, tt)

  initialising_gives : (host : HostState Object) → Gives (initialising does now host)
  unfolding initialising
  initialising_gives host = gives_then (then_do (posting now (said does StartInitialisation) host) (telling_status does now)) (posting now (said does InitialisationCompleted))
      (gives_then (posting now (said does StartInitialisation) host) (telling_status does now) (posting_gives (said does StartInitialisation) host) (λ h. posting_all_gives (initial_status does most_objects 0 h.object) h))
      (λ h. posting_gives (said does InitialisationCompleted) h)

  commanding_gives : (telegram : Telegram) (host : HostState Object) → does.accepts now telegram host.object ≡ true → Gives (commanding does now telegram host)
  unfolding commanding
  commanding_gives telegram host fits = subst (λ (b : Bool). Gives (if b then silent told else violating now told)) (sym fits) tt
    where
      told : HostState Object
      told = record host { object = does.after_take now telegram host.object }

  completed_acts : (item : List ℕ) (telegram : Telegram) (told : Message) (host : HostState Object) → is_command told ≡ true → does.accepts now telegram host.object ≡ true → HostActs item (following does now item telegram (meaning told Stage.Completed) host)
  unfolding following
  completed_acts item telegram (Message.Initialisation protocol told) host commands fits = absurd (false≢true commands)
  completed_acts item telegram (Message.Point told) host commands fits = record { acted = refl; gives = commanding_gives telegram host fits }
  completed_acts item telegram (Message.Signal told) host commands fits = record { acted = refl; gives = commanding_gives telegram host fits }
  completed_acts item telegram (Message.Detection told) host commands fits = record { acted = refl; gives = commanding_gives telegram host fits }

  expected_acts : (item : List ℕ) (telegram : Telegram) (how_far : Stage) (told : Message) (host : HostState Object) → HostExpects does now host telegram how_far told → HostActs item (following does now item telegram (meaning told how_far) host)
  unfolding following
  expected_acts item telegram Stage.Outside told host expects = absurd expects
  expected_acts item telegram Stage.AwaitsCheck told host (protocol, is) = subst (λ (m : Message). HostActs item (following does now item telegram (meaning m Stage.AwaitsCheck) host)) (sym is)
      (record { acted = refl; gives = answering_gives host.version host })
  expected_acts item telegram Stage.AwaitsRequest told host (protocol, is) = subst (λ (m : Message). HostActs item (following does now item telegram (meaning m Stage.AwaitsRequest) host)) (sym is)
      (record { acted = refl; gives = initialising_gives host })
  expected_acts item telegram Stage.Completed told host (commands, fits) = completed_acts item telegram told host commands fits
  expected_acts item telegram Stage.Refused told host expects = absurd expects

  pub admitted : (telegram : Telegram) (host : HostState Object) → IsForHost does host telegram → is_admitted does telegram host ≡ true
  admitted telegram host is =
      let sender = (bytes_eq-Decides telegram.sender host.peer_name).1 is.sender
      in let receiver = (bytes_eq-Decides telegram.receiver host.own_name).1 is.receiver
      in rw (is.protocol, sender, receiver, is.version) refl

  pub host_acts : (item : List ℕ) (read : Result Telegram SciFault) (host : HostState Object) → HostExpectsItem does now host read → HostActs item (acting does now item read host)
  unfolding acting
  host_acts item (Err fault) host expects = absurd expects
  host_acts item (Ok telegram) host (is, expects) = subst (λ (b : Bool). HostActs item (if b then following does now item telegram (meaning telegram.message host.stage) host else violating now host)) (sym (admitted telegram host is))
      (expected_acts item telegram host.stage telegram.message host expects)
