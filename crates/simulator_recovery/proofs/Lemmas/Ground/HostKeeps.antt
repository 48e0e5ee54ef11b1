-- What every telegram of its version, and all else that an object is told, keeps of it is kept by the steps of its host; and so are the
-- host's names.
use Rattle.simulator_recovery.proofs.Words.Basics.{◌≡◌, ℕ, zero, suc, Bool, true, false, not, ◌&&◌, ◌==◌, List, [], ◌∷◌, Option, Some, None, Result, Ok, Err, if◌then◌else◌, refl, sym, ap, ◌∙◌, is_ok}
use Rattle.simulator_recovery.proofs.Words.Links.{answer_to_send, receiving, alive_until, settled, is_open}
use Rattle.simulator_recovery.proofs.Words.Controllers.{reading, SciFault, NoMatch, Match, InitialisationCompleted, InitialisationRequest, StartInitialisation, VersionAnswer, VersionCheck, Message, Telegram, Behaviour, HostSoFar, HostState, at_stage, fallen, is_completed, is_outside, keeping, risen, said, silent, then_do, new_host, meaning, acting, acting_all, answering, beating, beginning, commanding, following, given as given_in, goes_on, hearing, host_step, initialising, is_admitted, is_from_peer, is_in_version, most_owed, paid, paying, paying_first, posting, posting_all, received, telling_status, violating, Input, Report, Sense, Stage}
use Rattle.simulator_spec.specs.object_host.Meaning.{commanding as by_stage}
use Rattle.simulator_recovery.proofs.Lemmas.Ground.DueTests.{last_true}

-- what is kept of an object, whatever it is told in a version
pub record ObjectKeeps {Object : Type 0} (does : Behaviour Object) (Fits : Object → Type 0) (version : ℕ) : Type 0 where
  pub takes : (now : ℕ) (telegram : Telegram) (object : Object) → is_in_version version telegram.message ≡ true → Fits object → Fits (does.after_take now telegram object)
  pub ticks : (now : ℕ) (object : Object) → Fits object → Fits (does.after_tick now object)
  pub senses : (now : ℕ) (sense : Sense) (object : Object) → Fits object → Fits (does.after_sense now sense object)
  pub keeps : (moment : ℕ) (object : Object) → Fits object → Fits (does.after_keep moment object)
  pub pays : (object : Object) → Fits object → Fits (does.after_paid object)
  pub loses : (object : Object) → Fits object → Fits (does.after_loss object)

module _ {Object : Type 0} (does : Behaviour Object) (Fits : Object → Type 0) (version : ℕ) (own_name peer_name : List ℕ) (keep : ObjectKeeps does Fits version) where
  pub record Kept (host : HostState Object) : Type 0 where
    pub object : Fits host.object
    pub own_is : host.own_name ≡ own_name
    pub peer_is : host.peer_name ≡ peer_name
    pub version_is : host.version ≡ version

  module _ (now : ℕ) where
    posted : (report : Report) (host : HostState Object) → Kept host → Kept (posting now report host).host
    unfolding posting
    posted report host k = record { object = k.object; own_is = k.own_is; peer_is = k.peer_is; version_is = k.version_is }

    all_posted : (reports : List Report) (host : HostState Object) → Kept host → Kept (posting_all now reports host).host
    unfolding posting_all
    all_posted [] host k = k
    all_posted (first ∷ others) host k = all_posted others (posting now first host).host (posted first host k)

    violated : (host : HostState Object) → Kept host → Kept (violating now host).host
    unfolding violating
    violated host k = record { object = k.object; own_is = k.own_is; peer_is = k.peer_is; version_is = k.version_is }

    staged : (s : Stage) (part : HostSoFar Object) → Kept part.host → Kept (at_stage s part).host
    staged s part k = record { object = k.object; own_is = k.own_is; peer_is = k.peer_is; version_is = k.version_is }

    answered : (asked : ℕ) (host : HostState Object) → Kept host → Kept (answering does now asked host).host
    unfolding answering
    answered asked host k = choose (asked == host.version)
      where
        choose : (b : Bool) → Kept (if b then at_stage Stage.AwaitsRequest (posting now (said does (VersionAnswer Match host.version)) host) else at_stage Stage.Refused (posting now (said does (VersionAnswer NoMatch host.version)) host)).host
        choose true = staged Stage.AwaitsRequest (posting now (said does (VersionAnswer Match host.version)) host) (posted _ host k)
        choose false = staged Stage.Refused (posting now (said does (VersionAnswer NoMatch host.version)) host) (posted _ host k)

    initialised : (host : HostState Object) → Kept host → Kept (initialising does now host).host
    unfolding initialising
    initialised host k = staged Stage.Completed (then_do (then_do (posting now (said does StartInitialisation) host) (telling_status does now)) (posting now (said does InitialisationCompleted)))
        (posted _ _ (all_posted _ _ (posted _ host k)))

    commanded : (telegram : Telegram) (host : HostState Object) → is_in_version version telegram.message ≡ true → Kept host → Kept (commanding does now telegram host).host
    unfolding commanding
    commanded telegram host in_version k = choose (does.accepts now telegram host.object)
      where
        after : HostState Object
        after = record host { object = does.after_take now telegram host.object }

        told : Kept after
        told = record { object = keep.takes now telegram host.object in_version k.object; own_is = k.own_is; peer_is = k.peer_is; version_is = k.version_is }

        choose : (b : Bool) → Kept (if b then silent after else violating now after).host
        choose true = told
        choose false = violated after told

    by_stages : (item : List ℕ) (telegram : Telegram) (how_far : Stage) (host : HostState Object) → is_in_version version telegram.message ≡ true → Kept host → Kept (following does now item telegram (by_stage how_far) host).host
    unfolding following
    by_stages item telegram Stage.Completed host in_version k = commanded telegram host in_version k
    by_stages item telegram Stage.Outside host in_version k = violated host k
    by_stages item telegram Stage.AwaitsCheck host in_version k = violated host k
    by_stages item telegram Stage.AwaitsRequest host in_version k = violated host k
    by_stages item telegram Stage.Refused host in_version k = violated host k

    followed : (item : List ℕ) (telegram : Telegram) (what : Message) (how_far : Stage) (host : HostState Object) → is_in_version version telegram.message ≡ true → Kept host
        → Kept (following does now item telegram (meaning what how_far) host).host
    unfolding following
    followed item telegram (Message.Initialisation protocol (VersionCheck asked)) Stage.AwaitsCheck host in_version k = answered asked host k
    followed item telegram (Message.Initialisation protocol (VersionCheck asked)) Stage.Outside host in_version k = violated host k
    followed item telegram (Message.Initialisation protocol (VersionCheck asked)) Stage.AwaitsRequest host in_version k = violated host k
    followed item telegram (Message.Initialisation protocol (VersionCheck asked)) Stage.Completed host in_version k = violated host k
    followed item telegram (Message.Initialisation protocol (VersionCheck asked)) Stage.Refused host in_version k = violated host k
    followed item telegram (Message.Initialisation protocol InitialisationRequest) Stage.AwaitsRequest host in_version k = initialised host k
    followed item telegram (Message.Initialisation protocol InitialisationRequest) Stage.Outside host in_version k = violated host k
    followed item telegram (Message.Initialisation protocol InitialisationRequest) Stage.AwaitsCheck host in_version k = violated host k
    followed item telegram (Message.Initialisation protocol InitialisationRequest) Stage.Completed host in_version k = violated host k
    followed item telegram (Message.Initialisation protocol InitialisationRequest) Stage.Refused host in_version k = violated host k
    followed item telegram (Message.Initialisation protocol StartInitialisation) how_far host in_version k = violated host k
    followed item telegram (Message.Initialisation protocol InitialisationCompleted) how_far host in_version k = violated host k
    followed item telegram (Message.Initialisation protocol (VersionAnswer agreement told)) how_far host in_version k = violated host k
    followed item telegram (Message.Point what) how_far host in_version k = by_stages item telegram how_far host in_version k
    followed item telegram (Message.Signal what) how_far host in_version k = by_stages item telegram how_far host in_version k
    followed item telegram (Message.Detection what) how_far host in_version k = by_stages item telegram how_far host in_version k

    pub acted : (item : List ℕ) (read : Result Telegram SciFault) (host : HostState Object) → Kept host → Kept (acting does now item read host).host
    unfolding acting
    acted item (Err fault) host k = violated host k
    acted item (Ok telegram) host k = choose (is_admitted does telegram host) refl
      where
        choose : (b : Bool) → is_admitted does telegram host ≡ b → Kept (if b then following does now item telegram (meaning telegram.message host.stage) host else violating now host).host
        choose true e = followed item telegram telegram.message host.stage host (ap (λ (v : ℕ). is_in_version v telegram.message) (sym k.version_is) ∙ last_true (is_from_peer does telegram host) (is_in_version host.version telegram.message) e) k
        choose false e = violated host k

    all_acted : (items : List (List ℕ)) (host : HostState Object) → Kept host → Kept (acting_all does now items host).host
    unfolding acting_all
    all_acted [] host k = k
    all_acted (item ∷ others) host k = choose (is_open host.link.phase) (all_acted others (acting does now item (reading item) host).host (acted item (reading item) host k))
      where
        choose : (b : Bool) → Kept (acting_all does now others (acting does now item (reading item) host).host).host → Kept (if b then then_do (acting does now item (reading item) host) (acting_all does now others) else silent host).host
        choose true so = so
        choose false so = k

    pub came : (bytes : List ℕ) (host : HostState Object) → Kept host → Kept (received now bytes (receiving now bytes host.link) host).host
    unfolding received risen
    came bytes host k = choose (is_outside host.stage && is_open (receiving now bytes host.link).link.phase)
      where
        at : HostState Object
        at = record host { link = (receiving now bytes host.link).link }

        choose : (b : Bool) → Kept (if b then record at { stage = Stage.AwaitsCheck } else at)
        choose true = record { object = k.object; own_is = k.own_is; peer_is = k.peer_is; version_is = k.version_is }
        choose false = record { object = k.object; own_is = k.own_is; peer_is = k.peer_is; version_is = k.version_is }

    pub heard : (input : Input) (host : HostState Object) → Kept host → Kept (given_in does now input host).host
    unfolding given_in hearing
    heard Input.Tick host k = k
    heard (Input.Datagram bytes) host k = all_acted (receiving now bytes.now host.link).items (received now bytes.now (receiving now bytes.now host.link) host).host (came bytes.now host k)
    heard (Input.Sense sense) host k = record { object = keep.senses now sense host.object k.object; own_is = k.own_is; peer_is = k.peer_is; version_is = k.version_is }

    paid_so : (host : HostState Object) → Kept host → Kept (paid does host)
    paid_so host k = record { object = keep.pays host.object k.object; own_is = k.own_is; peer_is = k.peer_is; version_is = k.version_is }

    first_paid : (report : Option Report) (host : HostState Object) → Kept host → Kept (paying_first does now report host).host
    first_paid None host k = k
    first_paid (Some report) host k = choose (is_completed host.stage) (is_ok (answer_to_send now host.link))
      where
        sent : HostSoFar Object
        sent = posting now report host

        choose : (b c : Bool) → Kept (if not b then silent (paid does host) else (if c then record sent { host = paid does sent.host } else sent)).host
        choose false c = paid_so host k
        choose true true = paid_so sent.host (posted report host k)
        choose true false = posted report host k

    pays : (most : ℕ) (host : HostState Object) → Kept host → Kept (paying does now most host).host
    unfolding paying
    pays zero host k = k
    pays (suc most) host k = choose (goes_on now (does.owed host.object) host) (pays most (paying_first does now (does.owed host.object) host).host (first_paid (does.owed host.object) host k))
      where
        choose : (b : Bool) → Kept (paying does now most (paying_first does now (does.owed host.object) host).host).host
            → Kept (if b then then_do (paying_first does now (does.owed host.object) host) (paying does now most) else paying_first does now (does.owed host.object) host).host
        choose true so = so
        choose false so = first_paid (does.owed host.object) host k

    beats : (input : Input) (host : HostState Object) → Kept host → Kept (beating now input host).host
    unfolding beating
    beats Input.Tick host k = record { object = k.object; own_is = k.own_is; peer_is = k.peer_is; version_is = k.version_is }
    beats (Input.Datagram bytes) host k = k
    beats (Input.Sense sense) host k = k

    falls : (host : HostState Object) → Kept host → Kept (fallen does host)
    unfolding fallen
    falls host k = choose (not (is_outside host.stage) && not (is_open host.link.phase))
      where
        choose : (b : Bool) → Kept (if b then record host { stage = Stage.Outside; object = does.after_loss host.object } else host)
        choose true = record { object = keep.loses host.object k.object; own_is = k.own_is; peer_is = k.peer_is; version_is = k.version_is }
        choose false = k

    pub begins : (host : HostState Object) → Kept host → Kept (beginning does now host)
    unfolding beginning
    begins host k =
        let fell = falls (record host { link = settled now host.link }) (record { object = k.object; own_is = k.own_is; peer_is = k.peer_is; version_is = k.version_is })
        in record { object = keep.ticks now _ fell.object; own_is = fell.own_is; peer_is = fell.peer_is; version_is = fell.version_is }

    keeps_until : (host : HostState Object) → Kept host → Kept (keeping does host)
    unfolding keeping
    keeps_until host k = record { object = keep.keeps (alive_until host.link) host.object k.object; own_is = k.own_is; peer_is = k.peer_is; version_is = k.version_is }

    pub step_keeps : (input : Input) (host : HostState Object) → Kept host → Kept (host_step does now input host).host
    unfolding host_step
    step_keeps input host k = keeps_until _ (falls _ (beats input _ (pays most_owed _ (heard input _ (begins host k)))))

-- a new host
pub new_kept : {Object : Type 0} (does : Behaviour Object) (Fits : Object → Type 0) (version : ℕ) (own_name peer_name : List ℕ) (keep : ObjectKeeps does Fits version) (identity : _) (first now : ℕ) (object : Object) → Fits object
    → Kept does Fits version own_name peer_name keep (new_host does identity own_name peer_name first now object version)
unfolding new_host keeping
new_kept does Fits version own_name peer_name keep identity first now object fits = record { object = keep.keeps _ _ (keep.loses object fits); own_is = refl; peer_is = refl; version_is = refl }
