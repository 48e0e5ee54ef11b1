-- What is true of a host between the parts of a step, and of its end.
use Rattle.std.proofs.Common.{◌≡◌, ℕ, suc, zero, Bool, true, false, not, ◌&&◌, ◌==◌, if◌then◌else◌, List, [], ◌∷◌, refl, ap, sym, ◌∙◌}
use Rattle.std.specs.Prelude.{Option, Some, None, Result, Ok, Err, is_ok}
use Rattle.std.proofs.lemmas.Bool.{true≢false, false≢true}
use Rattle.sci_telegram.specs.TelegramRead.{reading}
use Rattle.sci_telegram.specs.declared.fault.SciFault.{SciFault}
use Rattle.sci_telegram.specs.declared.message.Message.{Message}
use Rattle.sci_telegram.specs.declared.message.Message.TheVariants as message
use Rattle.sci_telegram.specs.declared.message.Initialisation.{Initialisation}
use Rattle.sci_telegram.specs.declared.message.Initialisation.TheVariants as init
use Rattle.sci_telegram.specs.declared.message.Protocol.{Protocol}
use Rattle.sci_telegram.specs.declared.telegram.Telegram.{Telegram}
use Rattle.rasta_core.specs.State.{LinkState, is_open}
use Rattle.rasta_core.specs.Clock.{alive_until, settled}
use Rattle.rasta_core.specs.Calls.{answer_to_send, created, receiving}
use Rattle.rasta_core.specs.identity.Identity.{Identity}
use Rattle.object_host.proofs.Closed.{settled_closed, ticking_closed}
use Rattle.object_host.specs.Behaviour.{Behaviour}
use Rattle.object_host.specs.Lawful.{IsLawful}
use Rattle.object_host.specs.Meaning.{meaning, commanding as to_object}
use Rattle.object_host.specs.Host.{HostState, HostSoFar, fallen, is_completed, is_outside, keeping, risen, silent, then_do}
use Rattle.object_host.specs.Hosted.{IsHosted, IsSteady}
use Rattle.object_host.specs.Step.{acting, acting_all, answering, beating, beginning, commanding, ending, following, given, goes_on, hearing, host_step, initialising, is_admitted, most_owed, paid, paying, paying_first, posting, received, violating}
use Rattle.object_host.specs.declared.meaning.Meaning.{Meaning}
use Rattle.object_host.specs.declared.meaning.Meaning.TheVariants as meanings
use Rattle.object_host.specs.declared.input.Input.{Input}
use Rattle.object_host.specs.declared.input.Input.TheVariants as inputs
use Rattle.object_host.specs.declared.report.Report.{Report}
use Rattle.object_host.specs.declared.stage.Stage.{Stage}
use Rattle.object_host.specs.declared.stage.Stage.TheVariants as stage

-- the meanings
unfoldable pub is_check : Meaning → Bool
is_check (meanings.Checks version) = true
is_check meanings.Initialises = false
is_check meanings.Commands = false
is_check meanings.Violates = false

unfoldable pub is_command : Meaning → Bool
is_command (meanings.Checks version) = false
is_command meanings.Initialises = false
is_command meanings.Commands = true
is_command meanings.Violates = false

unfoldable pub is_request : Meaning → Bool
is_request (meanings.Checks version) = false
is_request meanings.Initialises = true
is_request meanings.Commands = false
is_request meanings.Violates = false

completed_no_check : (m : Message) → is_check (meaning m stage.Completed) ≡ false
unfolding is_check
completed_no_check (message.Initialisation p init.InitialisationRequest) = refl
completed_no_check (message.Initialisation p init.StartInitialisation) = refl
completed_no_check (message.Initialisation p init.InitialisationCompleted) = refl
completed_no_check (message.Initialisation p (init.VersionCheck v)) = refl
completed_no_check (message.Initialisation p (init.VersionAnswer a v)) = refl
completed_no_check (message.Point x) = refl
completed_no_check (message.Signal x) = refl
completed_no_check (message.Detection x) = refl

pub checks_early : (m : Message) (s : Stage) → is_check (meaning m s) ≡ true → is_completed s ≡ false
checks_early m stage.Outside holds = refl
checks_early m stage.AwaitsCheck holds = refl
checks_early m stage.AwaitsRequest holds = refl
checks_early m stage.Completed holds = absurd (false≢true (sym (completed_no_check m) ∙ holds))
checks_early m stage.Refused holds = refl

pub no_command : (p : Protocol) (x : Initialisation) (s : Stage) → is_command (meaning (message.Initialisation p x) s) ≡ false
unfolding is_command
no_command p init.InitialisationRequest stage.Outside = refl
no_command p init.InitialisationRequest stage.AwaitsCheck = refl
no_command p init.InitialisationRequest stage.AwaitsRequest = refl
no_command p init.InitialisationRequest stage.Completed = refl
no_command p init.InitialisationRequest stage.Refused = refl
no_command p init.StartInitialisation s = refl
no_command p init.InitialisationCompleted s = refl
no_command p (init.VersionCheck v) stage.Outside = refl
no_command p (init.VersionCheck v) stage.AwaitsCheck = refl
no_command p (init.VersionCheck v) stage.AwaitsRequest = refl
no_command p (init.VersionCheck v) stage.Completed = refl
no_command p (init.VersionCheck v) stage.Refused = refl
no_command p (init.VersionAnswer a v) s = refl

late : (s : Stage) → is_command (to_object s) ≡ true → is_completed s ≡ true
unfolding is_command
late stage.Outside holds = absurd (false≢true holds)
late stage.AwaitsCheck holds = absurd (false≢true holds)
late stage.AwaitsRequest holds = absurd (false≢true holds)
late stage.Completed holds = refl
late stage.Refused holds = absurd (false≢true holds)

pub commands_late : (m : Message) (s : Stage) → is_command (meaning m s) ≡ true → is_completed s ≡ true
commands_late (message.Initialisation p x) s holds = absurd (false≢true (sym (no_command p x s) ∙ holds))
commands_late (message.Point x) s holds = late s holds
commands_late (message.Signal x) s holds = late s holds
commands_late (message.Detection x) s holds = late s holds

completed_inside : (s : Stage) → is_completed s ≡ true → is_outside s ≡ false
completed_inside stage.Outside holds = absurd (false≢true holds)
completed_inside stage.AwaitsCheck holds = refl
completed_inside stage.AwaitsRequest holds = refl
completed_inside stage.Completed holds = refl
completed_inside stage.Refused holds = refl

completed_no_request : (m : Message) → is_request (meaning m stage.Completed) ≡ false
unfolding is_request
completed_no_request (message.Initialisation p init.InitialisationRequest) = refl
completed_no_request (message.Initialisation p init.StartInitialisation) = refl
completed_no_request (message.Initialisation p init.InitialisationCompleted) = refl
completed_no_request (message.Initialisation p (init.VersionCheck v)) = refl
completed_no_request (message.Initialisation p (init.VersionAnswer a v)) = refl
completed_no_request (message.Point x) = refl
completed_no_request (message.Signal x) = refl
completed_no_request (message.Detection x) = refl

pub initialises_early : (m : Message) (s : Stage) → is_request (meaning m s) ≡ true → is_completed s ≡ false
initialises_early m stage.Outside holds = refl
initialises_early m stage.AwaitsCheck holds = refl
initialises_early m stage.AwaitsRequest holds = refl
initialises_early m stage.Completed holds = absurd (false≢true (sym (completed_no_request m) ∙ holds))
initialises_early m stage.Refused holds = refl

pub outside_early : (s : Stage) → is_outside s ≡ true → is_completed s ≡ false
outside_early stage.Outside out = refl
outside_early stage.AwaitsCheck out = refl
outside_early stage.AwaitsRequest out = refl
outside_early stage.Completed out = absurd (false≢true out)
outside_early stage.Refused out = refl

negated : (b : Bool) → not b ≡ true → b ≡ false
negated true denied = absurd (false≢true denied)
negated false denied = refl

module _ {Object : Type 0} (does : Behaviour Object) (law : IsLawful does) where
  pub of_hosted : (host : HostState Object) → IsHosted does host → IsSteady does host
  of_hosted host hosted = record {
    outside = λ out. negated (is_open host.link.phase) (sym hosted.outside ∙ out);
    idle = hosted.idle;
  }

  -- in a connection only the object matters
  of_inside : (host : HostState Object) → is_outside host.stage ≡ false → (is_completed host.stage ≡ false → does.is_idle host.object ≡ true) → IsSteady does host
  of_inside host inside idle = record { outside = λ out. absurd (true≢false (sym out ∙ inside)); idle = idle }

  inside_where_open : (host : HostState Object) → IsSteady does host → is_open host.link.phase ≡ true → is_outside host.stage ≡ false
  inside_where_open host right opened = cases (is_outside host.stage) refl where
    cases : (o : Bool) → is_outside host.stage ≡ o → o ≡ false
    cases false is = refl
    cases true is = absurd (true≢false (sym opened ∙ right.outside is))

  fallen_right : (host : HostState Object) → IsSteady does host → IsSteady does (fallen does host)
  unfolding fallen
  fallen_right host right = cases (is_outside host.stage) (is_open host.link.phase) refl refl where
    cases : (o p : Bool) → is_outside host.stage ≡ o → is_open host.link.phase ≡ p →
        IsSteady does (if not o && not p then record host { stage = stage.Outside; object = does.after_loss host.object } else host)
    cases true p out opened = right
    cases false true out opened = right
    cases false false out opened = record { outside = λ _. opened; idle = λ _. law.loss_idles host.object }

  fallen_outside : (host : HostState Object) → IsSteady does host → is_outside (fallen does host).stage ≡ not (is_open (fallen does host).link.phase)
  unfolding fallen
  fallen_outside host right = cases (is_outside host.stage) (is_open host.link.phase) refl refl where
    after : Bool → Bool → HostState Object
    after o p = if not o && not p then record host { stage = stage.Outside; object = does.after_loss host.object } else host

    cases : (o p : Bool) → is_outside host.stage ≡ o → is_open host.link.phase ≡ p →
        is_outside (after o p).stage ≡ not (is_open (after o p).link.phase)
    cases true true out opened = absurd (true≢false (sym opened ∙ right.outside out))
    cases true false out opened = out ∙ sym (ap not opened)
    cases false true out opened = out ∙ sym (ap not opened)
    cases false false out opened = sym (ap not opened)

  pub clocked_right : (now : ℕ) (host : HostState Object) → IsSteady does host → IsSteady does (record host { link = settled now host.link })
  clocked_right now host right = record { outside = λ out. settled_closed now host.link (right.outside out); idle = right.idle }

  begun_right : (now : ℕ) (host : HostState Object) → IsSteady does host → IsSteady does (beginning does now host)
  unfolding beginning
  begun_right now host right =
      let fell = fallen_right (record host { link = settled now host.link }) (clocked_right now host right)
      in record { outside = fell.outside; idle = λ early. law.tick_idles now _ (fell.idle early) }

  violating_right : (now : ℕ) (host : HostState Object) → is_outside host.stage ≡ false → (is_completed host.stage ≡ false → does.is_idle host.object ≡ true) →
      IsSteady does (violating now host).host
  unfolding violating
  violating_right now host inside idle = of_inside _ inside idle

  answering_right : (now version : ℕ) (host : HostState Object) → does.is_idle host.object ≡ true → IsSteady does (answering does now version host).host
  unfolding answering posting
  answering_right now version host idle = cases (version == host.version) refl where
    cases : (b : Bool) → (version == host.version) ≡ b → IsSteady does (answering does now version host).host
    cases true is = rw is (record { outside = λ out. absurd (false≢true out); idle = λ _. idle })
    cases false is = rw is (record { outside = λ out. absurd (false≢true out); idle = λ _. idle })

  initialising_right : (now : ℕ) (host : HostState Object) → IsSteady does (initialising does now host).host
  unfolding initialising
  initialising_right now host = record { outside = λ out. absurd (false≢true out); idle = λ early. absurd (true≢false early) }

  commanding_right : (now : ℕ) (telegram : Telegram) (host : HostState Object) → is_completed host.stage ≡ true → IsSteady does (commanding does now telegram host).host
  unfolding commanding
  commanding_right now telegram host completed = cases (does.accepts now telegram host.object) where
    told : HostState Object
    told = record host { object = does.after_take now telegram host.object }

    cases : (b : Bool) → IsSteady does (if b then silent told else violating now told).host
    cases true = of_inside told (completed_inside host.stage completed) (λ early. absurd (true≢false (sym completed ∙ early)))
    cases false = violating_right now told (completed_inside host.stage completed) (λ early. absurd (true≢false (sym completed ∙ early)))

  following_right : (now : ℕ) (item : List ℕ) (telegram : Telegram) (c : Meaning) (host : HostState Object) → meaning telegram.message host.stage ≡ c →
      is_outside host.stage ≡ false → IsSteady does host → IsSteady does (following does now item telegram c host).host
  unfolding following is_check is_command
  following_right now item telegram (meanings.Checks version) host is inside right =
      answering_right now version host (right.idle (checks_early telegram.message host.stage (ap is_check is)))
  following_right now item telegram meanings.Initialises host is inside right = initialising_right now host
  following_right now item telegram meanings.Commands host is inside right =
      commanding_right now telegram host (commands_late telegram.message host.stage (ap is_command is))
  following_right now item telegram meanings.Violates host is inside right = violating_right now host inside right.idle

  acting_right : (now : ℕ) (item : List ℕ) (read : Result Telegram SciFault) (host : HostState Object) → is_outside host.stage ≡ false → IsSteady does host →
      IsSteady does (acting does now item read host).host
  unfolding acting
  acting_right now item (Err fault) host inside right = violating_right now host inside right.idle
  acting_right now item (Ok telegram) host inside right = cases (is_admitted does telegram host) where
    cases : (b : Bool) → IsSteady does (if b then following does now item telegram (meaning telegram.message host.stage) host else violating now host).host
    cases true = following_right now item telegram _ host refl inside right
    cases false = violating_right now host inside right.idle

  acting_all_right : (now : ℕ) (items : List (List ℕ)) (host : HostState Object) → IsSteady does host → IsSteady does (acting_all does now items host).host
  unfolding acting_all
  acting_all_right now [] host right = right
  acting_all_right now (item ∷ others) host right =
      cases (is_open host.link.phase) refl (acting_all_right now others (acting does now item (reading item) host).host)
    where
      cases : (b : Bool) → is_open host.link.phase ≡ b → (IsSteady does (acting does now item (reading item) host).host → IsSteady does (acting_all does now others (acting does now item (reading item) host).host).host) →
          IsSteady does (if b then then_do (acting does now item (reading item) host) (acting_all does now others) else silent host).host
      cases true is next = next (acting_right now item (reading item) host (inside_where_open host right is) right)
      cases false is next = right

  risen_right : (host : HostState Object) → (is_completed host.stage ≡ false → does.is_idle host.object ≡ true) → IsSteady does (risen host)
  unfolding risen
  risen_right host idle = cases (is_outside host.stage) (is_open host.link.phase) refl refl where
    cases : (o p : Bool) → is_outside host.stage ≡ o → is_open host.link.phase ≡ p →
        IsSteady does (if o && p then record host { stage = stage.AwaitsCheck } else host)
    cases true true out opened = record { outside = λ o. absurd (false≢true o); idle = λ _. idle (outside_early host.stage out) }
    cases true false out opened = record { outside = λ _. opened; idle = idle }
    cases false p out opened = of_inside host out idle

  given_right : (now : ℕ) (input : Input) (host : HostState Object) → IsSteady does host → IsSteady does (given does now input host).host
  unfolding given hearing received
  given_right now inputs.Tick host right = right
  given_right now (inputs.Datagram bytes) host right =
      acting_all_right now (receiving now bytes.now host.link).items _ (risen_right (record host { link = (receiving now bytes.now host.link).link }) right.idle)
  given_right now (inputs.Sense sense) host right = record { outside = right.outside; idle = λ early. law.sense_idles now sense _ (right.idle early) }

  paying_first_right : (now : ℕ) (report : Option Report) (host : HostState Object) → IsSteady does host → IsSteady does (paying_first does now report host).host
  unfolding posting
  paying_first_right now None host right = right
  paying_first_right now (Some report) host right = cases (is_completed host.stage) (is_ok (answer_to_send now host.link)) refl where
    sent : HostSoFar Object
    sent = posting now report host

    cases : (b k : Bool) → is_completed host.stage ≡ b →
        IsSteady does (if not b then silent (paid does host) else if k then record sent { host = paid does sent.host } else sent).host
    cases false k is = record { outside = right.outside; idle = λ early. law.paid_idles host.object (right.idle early) }
    cases true true is = of_inside _ (completed_inside host.stage is) (λ early. absurd (true≢false (sym is ∙ early)))
    cases true false is = of_inside _ (completed_inside host.stage is) (λ early. absurd (true≢false (sym is ∙ early)))

  paying_right : (now : ℕ) (more : ℕ) (host : HostState Object) → IsSteady does host → IsSteady does (paying does now more host).host
  unfolding paying
  paying_right now zero host right = right
  paying_right now (suc more) host right =
      cases (goes_on now (does.owed host.object) host) (paying_right now more (paying_first does now (does.owed host.object) host).host)
    where
      first : HostSoFar Object
      first = paying_first does now (does.owed host.object) host

      first_right : IsSteady does first.host
      first_right = paying_first_right now (does.owed host.object) host right

      cases : (b : Bool) → (IsSteady does first.host → IsSteady does (paying does now more first.host).host) → IsSteady does (if b then then_do first (paying does now more) else first).host
      cases true next = next first_right
      cases false next = first_right

  beating_right : (now : ℕ) (input : Input) (host : HostState Object) → IsSteady does host → IsSteady does (beating now input host).host
  unfolding beating
  beating_right now inputs.Tick host right = record { outside = λ out. ticking_closed now host.link (right.outside out); idle = right.idle }
  beating_right now (inputs.Datagram bytes) host right = right
  beating_right now (inputs.Sense sense) host right = right

  ending_hosted : (host : HostState Object) → IsSteady does host → IsHosted does (ending does host)
  unfolding keeping
  ending_hosted host right =
      let fell = fallen_right host right
      in record {
        outside = fallen_outside host right;
        kept = law.keeps (alive_until (fallen does host).link) (fallen does host).object;
        idle = λ early. law.keep_idles _ _ (fell.idle early);
      }

  -- every step keeps it
  pub step_hosted : (now : ℕ) (input : Input) (host : HostState Object) → IsSteady does host → IsHosted does (host_step does now input host).host
  unfolding host_step
  step_hosted now input host steady =
      ending_hosted _ (beating_right now input _ (paying_right now most_owed _ (given_right now input _ (begun_right now host steady))))

  -- a new host
  pub new_hosted : (identity : Identity) (first now until : ℕ) (link : LinkState) (own_name peer_name : List ℕ) (version : ℕ) (object lost kept : Object) →
      link ≡ created identity first now → until ≡ alive_until link → lost ≡ does.after_loss object → kept ≡ does.after_keep until lost →
      IsHosted does (record { link = link; stage = stage.Outside; object = kept; own_name = own_name; peer_name = peer_name; version = version })
  unfolding created
  new_hosted identity first now until link own_name peer_name version object lost kept link_is until_is lost_is kept_is = record {
    outside = sym (ap not (ap (λ (l : LinkState). is_open l.phase) link_is));
    kept = rw (kept_is, until_is) (law.keeps (alive_until link) lost);
    idle = λ early. rw (kept_is, lost_is) (law.keep_idles until (does.after_loss object) (law.loss_idles object));
  }
