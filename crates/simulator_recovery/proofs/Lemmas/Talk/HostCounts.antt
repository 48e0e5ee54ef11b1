-- The stage of a host tells how many items it has acted on in its connection.
use Rattle.simulator_recovery.proofs.Words.Basics.{◌≡◌, ℕ, zero, suc, ◌+◌, ◌≤◌, Bool, true, false, not, List, [], ◌∷◌, ◌++◌, length, Option, Some, None, Result, Ok, Err, refl, sym, ap, subst, ◌∙◌, if◌then◌else◌, arith, ◌==◌, ◌&&◌, is_ok, false≢true, length-append}
use Rattle.simulator_recovery.proofs.Words.Links.{answer_to_send, receiving, Receipt, is_open}
use Rattle.simulator_recovery.proofs.Words.Controllers.{reading, SciFault, NoMatch, Match, InitialisationCompleted, InitialisationRequest, StartInitialisation, VersionAnswer, VersionCheck, Message, Telegram, Behaviour, HostSoFar, HostState, at_stage, fallen, is_completed, is_outside, keeping, risen, said, silent, then_do, meaning, acting, acting_all, answering, beating, beginning, commanding, ending, following, given, goes_on, hearing, host_step, initialising, is_admitted, most_owed, paid, paying, paying_first, posting, received, violating, Input, Report, Stage}
use Rattle.simulator_recovery.proofs.Words.Recovery.{HostHasActedOn}
use Rattle.simulator_spec.specs.object_host.Meaning.{commanding as by_stage}
use Rattle.simulator_recovery.proofs.Lemmas.Ground.DueTests.{none_more}

module _ {Object : Type 0} (does : Behaviour Object) (now : ℕ) where
  -- a part of a step counts on
  abbrev Counts : ℕ → HostSoFar Object → Type 0
  Counts count part = HostHasActedOn part.host.stage (count + length part.acted)

  -- a part that acts on nothing, and leaves the stage
  record Stays (host : HostState Object) (part : HostSoFar Object) : Type 0 where
    stage_is : part.host.stage ≡ host.stage
    acted : part.acted ≡ []

  stays_counts : (count : ℕ) (host : HostState Object) (part : HostSoFar Object) → Stays host part → HostHasActedOn host.stage count → Counts count part
  stays_counts count host part stays has = subst (λ (n : ℕ). HostHasActedOn part.host.stage n) (sym (ap (λ (l : List (List ℕ)). count + length l) stays.acted ∙ none_more count)) (subst (λ (s : Stage). HostHasActedOn s count) (sym stays.stage_is) has)

  counts_then : (count : ℕ) (first : HostSoFar Object) (next : HostState Object → HostSoFar Object) → Counts count first → ((more : ℕ) → HostHasActedOn first.host.stage more → Counts more (next first.host)) → Counts count (then_do first next)
  counts_then count first next one other = let both = length-append first.acted (next first.host).acted in let sum : (count + length first.acted) + length (next first.host).acted ≡ count + length (first.acted ++ (next first.host).acted) = omega (arith, both) in
      subst (HostHasActedOn (next first.host).host.stage) sum (other (count + length first.acted) one)

  stays_then : (host : HostState Object) (first : HostSoFar Object) (next : HostState Object → HostSoFar Object) → Stays host first → ((h : HostState Object) → Stays h (next h)) → Stays host (then_do first next)
  stays_then host first next one other = record {
    stage_is = (other first.host).stage_is ∙ one.stage_is;
    acted = ap (λ (l : List (List ℕ)). l ++ (next first.host).acted) one.acted ∙ (other first.host).acted;
  }

  posting_stays : (report : Report) (host : HostState Object) → Stays host (posting now report host)
  unfolding posting
  posting_stays report host = record { stage_is = refl; acted = refl }

  -- ---- one item

  abbrev On : ℕ → HostState Object → HostSoFar Object → Type 0
  On count host part = HostHasActedOn part.host.stage (count + length part.acted)

  one_more : (count : ℕ) (at : Stage) (part : HostSoFar Object) (item : List ℕ) → part.acted ≡ item ∷ [] → part.host.stage ≡ at → HostHasActedOn at (count + 1) → Counts count part
  one_more count at part item acted is has = subst (λ (s : Stage). HostHasActedOn s (count + length part.acted)) (sym is) (subst (HostHasActedOn at) (sym (ap (λ (l : List (List ℕ)). count + length l) acted)) has)

  violates : (count : ℕ) (host : HostState Object) → HostHasActedOn host.stage count → Counts count (violating now host)
  unfolding violating
  violates count host has = subst (HostHasActedOn host.stage) (sym (none_more count)) has

  -- the version is answered
  checks : (count : ℕ) (item : List ℕ) (telegram : Telegram) (version : ℕ) (host : HostState Object) → count ≡ 0 → Counts count (following does now item telegram (meaning (Message.Initialisation does.protocol (VersionCheck version)) Stage.AwaitsCheck) host)
  unfolding following answering posting
  checks count item telegram version host none = choose (version == host.version)
    where
      one : count + 1 ≡ 1
      one = omega (arith, none)

      choose : (b : Bool) → HostHasActedOn (if b then at_stage Stage.AwaitsRequest (posting now (said does (VersionAnswer Match host.version)) host) else at_stage Stage.Refused (posting now (said does (VersionAnswer NoMatch host.version)) host)).host.stage (count + 1)
      choose true = one
      choose false = one

  -- a command
  told : (count : ℕ) (item : List ℕ) (telegram : Telegram) (how_far : Stage) (host : HostState Object) → host.stage ≡ how_far → HostHasActedOn how_far count → Counts count (following does now item telegram (by_stage how_far) host)
  unfolding following commanding violating
  told count item telegram Stage.Completed host is has = choose (does.accepts now telegram host.object)
    where
      after : HostState Object
      after = record host { object = does.after_take now telegram host.object }

      choose : (b : Bool) → HostHasActedOn (if b then silent after else violating now after).host.stage (count + 1)
      choose true = subst (λ (s : Stage). HostHasActedOn s (count + 1)) (sym is) (omega (arith, has))
      choose false = subst (λ (s : Stage). HostHasActedOn s (count + 1)) (sym is) (omega (arith, has))
  told count item telegram Stage.Outside host is has = violates count host (subst (λ (s : Stage). HostHasActedOn s count) (sym is) has)
  told count item telegram Stage.AwaitsCheck host is has = violates count host (subst (λ (s : Stage). HostHasActedOn s count) (sym is) has)
  told count item telegram Stage.AwaitsRequest host is has = violates count host (subst (λ (s : Stage). HostHasActedOn s count) (sym is) has)
  told count item telegram Stage.Refused host is has = violates count host (subst (λ (s : Stage). HostHasActedOn s count) (sym is) has)

  follows : (count : ℕ) (item : List ℕ) (telegram : Telegram) (what : Message) (how_far : Stage) (host : HostState Object) → host.stage ≡ how_far → HostHasActedOn how_far count → Counts count (following does now item telegram (meaning what how_far) host)
  unfolding following initialising
  follows count item telegram (Message.Initialisation protocol (VersionCheck version)) Stage.AwaitsCheck host is has = checks count item telegram version host has
  follows count item telegram (Message.Initialisation protocol (VersionCheck version)) Stage.Outside host is has = violates count host (subst (λ (s : Stage). HostHasActedOn s count) (sym is) has)
  follows count item telegram (Message.Initialisation protocol (VersionCheck version)) Stage.AwaitsRequest host is has = violates count host (subst (λ (s : Stage). HostHasActedOn s count) (sym is) has)
  follows count item telegram (Message.Initialisation protocol (VersionCheck version)) Stage.Completed host is has = violates count host (subst (λ (s : Stage). HostHasActedOn s count) (sym is) has)
  follows count item telegram (Message.Initialisation protocol (VersionCheck version)) Stage.Refused host is has = violates count host (subst (λ (s : Stage). HostHasActedOn s count) (sym is) has)
  follows count item telegram (Message.Initialisation protocol InitialisationRequest) Stage.AwaitsRequest host is has = initialised count host has
    where
      initialised : (n : ℕ) (h : HostState Object) → n ≡ 1 → 2 ≤ n + 1
      initialised n h one = omega (arith, one)
  follows count item telegram (Message.Initialisation protocol InitialisationRequest) Stage.Outside host is has = violates count host (subst (λ (s : Stage). HostHasActedOn s count) (sym is) has)
  follows count item telegram (Message.Initialisation protocol InitialisationRequest) Stage.AwaitsCheck host is has = violates count host (subst (λ (s : Stage). HostHasActedOn s count) (sym is) has)
  follows count item telegram (Message.Initialisation protocol InitialisationRequest) Stage.Completed host is has = violates count host (subst (λ (s : Stage). HostHasActedOn s count) (sym is) has)
  follows count item telegram (Message.Initialisation protocol InitialisationRequest) Stage.Refused host is has = violates count host (subst (λ (s : Stage). HostHasActedOn s count) (sym is) has)
  follows count item telegram (Message.Initialisation protocol StartInitialisation) how_far host is has = violates count host (subst (λ (s : Stage). HostHasActedOn s count) (sym is) has)
  follows count item telegram (Message.Initialisation protocol InitialisationCompleted) how_far host is has = violates count host (subst (λ (s : Stage). HostHasActedOn s count) (sym is) has)
  follows count item telegram (Message.Initialisation protocol (VersionAnswer agreement version)) how_far host is has = violates count host (subst (λ (s : Stage). HostHasActedOn s count) (sym is) has)
  follows count item telegram (Message.Point what) how_far host is has = told count item telegram how_far host is has
  follows count item telegram (Message.Signal what) how_far host is has = told count item telegram how_far host is has
  follows count item telegram (Message.Detection what) how_far host is has = told count item telegram how_far host is has

  pub acts : (count : ℕ) (item : List ℕ) (read : Result Telegram SciFault) (host : HostState Object) → HostHasActedOn host.stage count → Counts count (acting does now item read host)
  unfolding acting
  acts count item (Err fault) host has = violates count host has
  acts count item (Ok telegram) host has = choose (is_admitted does telegram host)
    where
      choose : (b : Bool) → Counts count (if b then following does now item telegram (meaning telegram.message host.stage) host else violating now host)
      choose true = follows count item telegram telegram.message host.stage host refl has
      choose false = violates count host has

  all_acts : (count : ℕ) (items : List (List ℕ)) (host : HostState Object) → HostHasActedOn host.stage count → Counts count (acting_all does now items host)
  unfolding acting_all
  all_acts count [] host has = subst (HostHasActedOn host.stage) (sym (none_more count)) has
  all_acts count (item ∷ others) host has = choose (is_open host.link.phase)
      (counts_then count (acting does now item (reading item) host) (acting_all does now others) (acts count item (reading item) host has) (λ more so. all_acts more others (acting does now item (reading item) host).host so))
    where
      choose : (b : Bool) → Counts count (then_do (acting does now item (reading item) host) (acting_all does now others))
          → Counts count (if b then then_do (acting does now item (reading item) host) (acting_all does now others) else silent host)
      choose true so = so
      choose false so = subst (HostHasActedOn host.stage) (sym (none_more count)) has

  -- ---- a step

  pub risen_has : (count : ℕ) (host : HostState Object) → HostHasActedOn host.stage count → HostHasActedOn (risen host).stage count
  unfolding risen
  risen_has count host has = at_stages host.stage (is_open host.link.phase) refl has
    where
      at_stages : (s : Stage) (b : Bool) → host.stage ≡ s → HostHasActedOn s count → HostHasActedOn (if is_outside s && b then record host { stage = Stage.AwaitsCheck } else host).stage count
      at_stages Stage.Outside true e h = h
      at_stages Stage.Outside false e h = subst (λ (s : Stage). HostHasActedOn s count) (sym e) h
      at_stages Stage.AwaitsCheck b e h = subst (λ (s : Stage). HostHasActedOn s count) (sym e) h
      at_stages Stage.AwaitsRequest b e h = subst (λ (s : Stage). HostHasActedOn s count) (sym e) h
      at_stages Stage.Completed b e h = subst (λ (s : Stage). HostHasActedOn s count) (sym e) h
      at_stages Stage.Refused b e h = subst (λ (s : Stage). HostHasActedOn s count) (sym e) h

  hears : (count : ℕ) (bytes : List ℕ) (host : HostState Object) → HostHasActedOn host.stage count → Counts count (hearing does now bytes host)
  unfolding hearing received
  hears count bytes host has = counts_then count (received now bytes receipt host) (acting_all does now receipt.items)
      (subst (HostHasActedOn (risen (record host { link = receipt.link })).stage) (sym (none_more count)) (risen_has count (record host { link = receipt.link }) has))
      (λ more so. all_acts more receipt.items (received now bytes receipt host).host so)
    where
      receipt : Receipt
      receipt = receiving now bytes host.link

  gives : (count : ℕ) (input : Input) (host : HostState Object) → HostHasActedOn host.stage count → Counts count (given does now input host)
  unfolding given
  gives count Input.Tick host has = subst (HostHasActedOn host.stage) (sym (none_more count)) has
  gives count (Input.Datagram bytes) host has = hears count bytes.now host has
  gives count (Input.Sense sense) host has = subst (HostHasActedOn host.stage) (sym (none_more count)) has

  paying_first_stays : (report : Option Report) (host : HostState Object) → Stays host (paying_first does now report host)
  unfolding posting
  paying_first_stays None host = record { stage_is = refl; acted = refl }
  paying_first_stays (Some report) host = cases (is_completed host.stage) (is_ok (answer_to_send now host.link))
    where
      sent : HostSoFar Object
      sent = posting now report host

      cases : (b c : Bool) → Stays host (if not b then silent (paid does host) else (if c then record sent { host = paid does sent.host } else sent))
      cases false c = record { stage_is = refl; acted = refl }
      cases true true = record { stage_is = refl; acted = refl }
      cases true false = record { stage_is = refl; acted = refl }

  paying_stays : (most : ℕ) (host : HostState Object) → Stays host (paying does now most host)
  unfolding paying
  paying_stays zero host = record { stage_is = refl; acted = refl }
  paying_stays (suc more) host = choose (goes_on now (does.owed host.object) host)
      (stays_then host (paying_first does now (does.owed host.object) host) (paying does now more) (paying_first_stays (does.owed host.object) host) (paying_stays more))
    where
      choose : (b : Bool) → Stays host (then_do (paying_first does now (does.owed host.object) host) (paying does now more))
          → Stays host (if b then then_do (paying_first does now (does.owed host.object) host) (paying does now more) else paying_first does now (does.owed host.object) host)
      choose true so = so
      choose false so = paying_first_stays (does.owed host.object) host

  beating_stays : (input : Input) (host : HostState Object) → Stays host (beating now input host)
  unfolding beating
  beating_stays Input.Tick host = record { stage_is = refl; acted = refl }
  beating_stays (Input.Datagram bytes) host = record { stage_is = refl; acted = refl }
  beating_stays (Input.Sense sense) host = record { stage_is = refl; acted = refl }

  -- a link that is open isn't lost
  record StillOpen (host after : HostState Object) : Type 0 where
    stage_is : is_open after.link.phase ≡ true → after.stage ≡ host.stage

  ends : (host : HostState Object) → StillOpen host (ending does host)
  unfolding fallen keeping
  ends host = choose (is_outside host.stage) (is_open host.link.phase) refl
    where
      lost : HostState Object
      lost = record host { stage = Stage.Outside; object = does.after_loss host.object }

      choose : (b c : Bool) → is_open host.link.phase ≡ c → StillOpen host (keeping does (if not b && not c then lost else host))
      choose true c e = record { stage_is = λ f. refl }
      choose false true e = record { stage_is = λ f. refl }
      choose false false e = record { stage_is = λ f. absurd (false≢true (sym e ∙ f)) }

  pub step_counts : (count : ℕ) (input : Input) (host : HostState Object) → HostHasActedOn (beginning does now host).stage count → is_open (host_step does now input host).host.link.phase ≡ true
      → HostHasActedOn (host_step does now input host).host.stage (count + length (host_step does now input host).acted)
  unfolding host_step
  step_counts count input host has open_still = subst (λ (s : Stage). HostHasActedOn s (count + length done.acted)) (sym ((ends done.host).stage_is open_still))
      (counts_then count told_so (beating now input) (counts_then count heard (paying does now most_owed) (gives count input (beginning does now host) has)
      (λ more so. stays_counts more heard.host (paying does now most_owed heard.host) (paying_stays most_owed heard.host) so))
      (λ more so. stays_counts more told_so.host (beating now input told_so.host) (beating_stays input told_so.host) so))
    where
      heard : HostSoFar Object
      heard = given does now input (beginning does now host)

      told_so : HostSoFar Object
      told_so = then_do heard (paying does now most_owed)

      done : HostSoFar Object
      done = then_do told_so (beating now input)
