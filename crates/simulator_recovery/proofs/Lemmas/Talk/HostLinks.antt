-- While the link of a host is open it counts what the stage tells.
use Rattle.simulator_recovery.proofs.Words.Basics.{◌≡◌, ℕ, zero, suc, ◌∙◌, ◌+◌, ◌≤◌, ◌<◌, ◌⊎◌, inl, inr, Bool, true, false, not, ◌&&◌, ◌==◌, List, [], ◌∷◌, length, Option, Some, None, Result, Ok, Err, if◌then◌else◌, refl, sym, ap, subst, arith, is_ok, false≢true}
use Rattle.simulator_recovery.proofs.Words.Links.{answer_to_send, created, receiving, sending_item, ticking, alive_until, settled, Receipt, LinkState, is_open, is_up, Identity, Reason}
use Rattle.simulator_recovery.proofs.Words.Controllers.{reading, SciFault, NoMatch, Match, InitialisationCompleted, InitialisationRequest, StartInitialisation, VersionAnswer, VersionCheck, Message, Telegram, Behaviour, HostSoFar, HostState, at_stage, fallen, is_completed, is_outside, keeping, risen, said, silent, then_do, new_host, meaning, Keeps, Loses, Pays, Senses, Takes, Ticks, acting, acting_all, answering, beating, beginning, commanding, ending, following, given as given_in, goes_on, hearing, host_step, initial_status, initialising, is_admitted, most_objects, most_owed, paid, paying, paying_first, posting, posting_all, received, report_then, violating, item_of, Input, Report, Stage}
use Rattle.simulator_recovery.proofs.Words.Recovery.{HostHasActedOn, HasCounted, HostHasGiven, HostStandsByCounts, TellsAsMany, objects_told}
use Rattle.simulator_spec.specs.object_host.Meaning.{commanding as by_stage}
use Rattle.simulator_recovery.proofs.Lemmas.Ground.LinkCounts.{AfterReceipt, AfterSend, close_closes, comes_in, receipt_counts, send_counts, send_was_open, settled_again, settled_open, stays_in, tick_counts, tick_was_open}
use Rattle.simulator_recovery.proofs.Lemmas.Ground.DueTests.{none_more, one_fewer}

module _ {Object : Type 0} (does : Behaviour Object) (many : TellsAsMany does) (objects : ℕ) (now : ℕ) where
  abbrev pub Tells : Object → Type 0
  Tells object = objects_told does object ≡ objects

  -- in the middle of a step: so many items that were taken are still to be acted on
  pub record Midway (left : ℕ) (host : HostState Object) : Type 0 where
    pub taken : ℕ
    pub given : ℕ
    pub counts : HasCounted (taken + left) given host.link
    pub acted : HostHasActedOn host.stage taken
    pub gave : HostHasGiven objects host.stage given
    pub up : (left ≡ 0) ⊎ (is_up host.link.phase ≡ true)

  pub record Mid (left : ℕ) (host : HostState Object) : Type 0 where
    pub tells : Tells host.object
    pub midway : is_open host.link.phase ≡ true → Midway left host

  -- ---- reports

  -- what a host says, one report after another, where it is up and the window has room
  pub record Said (taken given : ℕ) (link : LinkState) : Type 0 where
    pub counts : HasCounted taken given link
    pub up : is_up link.phase ≡ true

  pub post_one : (report : Report) (host : HostState Object) (taken given : ℕ) → is_open (posting now report host).host.link.phase ≡ true → given < 20 → Said taken given host.link → Said taken (given + 1) (posting now report host).host.link
  unfolding posting
  post_one report host taken given e few said_so =
      let after = send_counts now (item_of host report) host.link taken given e said_so.counts
      in let waiting = said_so.counts.waiting
      in let ok = after.surely said_so.up (omega (arith, few, waiting))
      in record {
        counts = subst (λ (b : Bool). HasCounted taken (if b then given + 1 else given) (sending_item now (item_of host report) host.link).link) ok after.counts;
        up = ap is_up after.phase_is ∙ said_so.up;
      }

  pub was_accepted : (report : Report) (host : HostState Object) (taken given : ℕ) → is_open (posting now report host).host.link.phase ≡ true → given < 20 → Said taken given host.link → is_ok (answer_to_send now host.link) ≡ true
  unfolding posting
  was_accepted report host taken given e few said_so = let waiting = said_so.counts.waiting in (send_counts now (item_of host report) host.link taken given e said_so.counts).surely said_so.up (omega (arith, few, waiting))

  pub posted_open : (report : Report) (host : HostState Object) → is_open (posting now report host).host.link.phase ≡ true → is_open host.link.phase ≡ true
  unfolding posting
  posted_open report host e = (send_was_open now (item_of host report) host.link e).1

  pub all_posted_open : (reports : List Report) (host : HostState Object) → is_open (posting_all now reports host).host.link.phase ≡ true → is_open host.link.phase ≡ true
  unfolding posting_all
  all_posted_open [] host e = e
  all_posted_open (first ∷ others) host e = posted_open first host (all_posted_open others (posting now first host).host e)

  pub post_all : (reports : List Report) (host : HostState Object) (taken given : ℕ) → is_open (posting_all now reports host).host.link.phase ≡ true → given + length reports ≤ 20 → Said taken given host.link
      → Said taken (given + length reports) (posting_all now reports host).host.link
  unfolding posting_all
  post_all [] host taken given e few said_so = subst (λ (n : ℕ). Said taken n host.link) (sym (none_more given)) said_so
  post_all (first ∷ others) host taken given e few said_so =
      let one = post_one first host taken given (all_posted_open others (posting now first host).host e) (omega (arith, few)) said_so
      in let sum : (given + 1) + length others ≡ given + suc (length others) = omega arith
      in subst (λ (n : ℕ). Said taken n (posting_all now others (posting now first host).host).host.link) sum
      (post_all others (posting now first host).host taken (given + 1) e (omega (arith, few)) one)

  pub same_object : (reports : List Report) (host : HostState Object) → (posting_all now reports host).host.object ≡ host.object
  unfolding posting_all posting
  same_object [] host = refl
  same_object (first ∷ others) host = same_object others (posting now first host).host

  pub status_few : (more place : ℕ) (object : Object) → length (initial_status does more place object) ≤ more
  unfolding initial_status
  status_few zero place object = omega arith
  status_few (suc more) place object = choose (does.status place object) (status_few more (place + 1) object)
    where
      choose : (first : Option Report) → length (initial_status does more (place + 1) object) ≤ more → length (report_then first (initial_status does more (place + 1) object)) ≤ suc more
      choose None few = omega arith
      choose (Some report) few = omega (arith, few)

  -- ---- one item

  closes : (left : ℕ) (host : HostState Object) → Tells host.object → Mid left (violating now host).host
  unfolding violating
  closes left host tells = record { tells = tells; midway = λ e. absurd (false≢true (sym (close_closes now Reason.State host.link) ∙ e)) }

  -- it is up, since some item is left
  pub is_up_there : (left : ℕ) (host : HostState Object) → Midway (suc left) host → is_up host.link.phase ≡ true
  is_up_there left host m = choose m.up
    where
      choose : (suc left ≡ 0) ⊎ (is_up host.link.phase ≡ true) → is_up host.link.phase ≡ true
      choose (inl e) = absurd (cc e)
      choose (inr up) = up

  -- the version is answered
  pub answers : (left version : ℕ) (host : HostState Object) → host.stage ≡ Stage.AwaitsCheck → Mid (suc left) host → Mid left (answering does now version host).host
  unfolding answering posting
  answers left version host is mid = choose (version == host.version)
    where
      answer : (report : Report) (after : Stage) → ((n : ℕ) → n ≡ 1 → HostHasActedOn after n) → ((n : ℕ) → n ≡ 1 → HostHasGiven objects after n) → Mid left (at_stage after (posting now report host)).host
      answer report after acted gave = record {
        tells = mid.tells;
        midway = λ e.
            let m = mid.midway (posted_open report host e)
            in let none = subst (λ (s : Stage). HostHasActedOn s m.taken) is m.acted
            in let unsaid = subst (λ (s : Stage). HostHasGiven objects s m.given) is m.gave
            in let said_so = post_one report host (m.taken + suc left) m.given e (omega (arith, unsaid)) (record { counts = m.counts; up = is_up_there left host m })
            in record {
              taken = m.taken + 1;
              given = m.given + 1;
              counts = subst (λ (n : ℕ). HasCounted n (m.given + 1) (posting now report host).host.link) (one_fewer m.taken left) said_so.counts;
              acted = acted (m.taken + 1) (omega (arith, none));
              gave = gave (m.given + 1) (omega (arith, unsaid));
              up = inr said_so.up;
            };
      }

      choose : (b : Bool) → Mid left (if b then at_stage Stage.AwaitsRequest (posting now (said does (VersionAnswer Match host.version)) host) else at_stage Stage.Refused (posting now (said does (VersionAnswer NoMatch host.version)) host)).host
      choose true = answer (said does (VersionAnswer Match host.version)) Stage.AwaitsRequest (λ n e. e) (λ n e. e)
      choose false = answer (said does (VersionAnswer NoMatch host.version)) Stage.Refused (λ n e. e) (λ n e. e)

  -- the initialisation
  pub initialises : (left : ℕ) (host : HostState Object) → host.stage ≡ Stage.AwaitsRequest → Mid (suc left) host → Mid left (initialising does now host).host
  unfolding initialising posting
  initialises left host is mid = record {
    tells = same ∙ mid.tells;
    midway = λ e.
        let open_two = posted_open (said does InitialisationCompleted) two e
        in let open_one = all_posted_open status one open_two
        in let m = mid.midway (posted_open (said does StartInitialisation) host open_one)
        in let acted = subst (λ (s : Stage). HostHasActedOn s m.taken) is m.acted
        in let gave = subst (λ (s : Stage). HostHasGiven objects s m.given) is m.gave
        in let few = status_few 16 0 host.object
        in let told = mid.tells
        in let first = post_one (said does StartInitialisation) host (m.taken + suc left) m.given open_one (omega (arith, gave)) (record { counts = m.counts; up = is_up_there left host m })
        in let states = post_all status one (m.taken + suc left) (m.given + 1) open_two (omega (arith, gave, few)) first
        in let last = post_one (said does InitialisationCompleted) two (m.taken + suc left) ((m.given + 1) + length status) e (omega (arith, gave, few)) states
        in record {
          taken = m.taken + 1;
          given = ((m.given + 1) + length status) + 1;
          counts = subst (λ (n : ℕ). HasCounted n (((m.given + 1) + length status) + 1) (posting now (said does InitialisationCompleted) two).host.link) (one_fewer m.taken left) last.counts;
          acted = omega (arith, acted);
          gave = omega (arith, gave, told);
          up = inr last.up;
        };
  }
    where
      status : List Report
      status = initial_status does most_objects 0 host.object

      one : HostState Object
      one = (posting now (said does StartInitialisation) host).host

      two : HostState Object
      two = (posting_all now (initial_status does most_objects 0 one.object) one).host

      same : objects_told does (posting now (said does InitialisationCompleted) two).host.object ≡ objects_told does host.object
      same = ap (objects_told does) (same_object (initial_status does most_objects 0 one.object) one)

  -- a command
  told : (left : ℕ) (telegram : Telegram) (host : HostState Object) → host.stage ≡ Stage.Completed → Mid (suc left) host → Mid left (commanding does now telegram host).host
  unfolding commanding
  told left telegram host is mid = choose (does.accepts now telegram host.object)
    where
      after : HostState Object
      after = record host { object = does.after_take now telegram host.object }

      tells : Tells after.object
      tells = many.same (Takes now telegram) host.object ∙ mid.tells

      choose : (b : Bool) → Mid left (if b then silent after else violating now after).host
      choose false = closes left after tells
      choose true = record {
        tells = tells;
        midway = λ e. let m = mid.midway e in let acted = subst (λ (s : Stage). HostHasActedOn s m.taken) is m.acted in record {
          taken = m.taken + 1;
          given = m.given;
          counts = subst (λ (n : ℕ). HasCounted n m.given host.link) (one_fewer m.taken left) m.counts;
          acted = subst (λ (s : Stage). HostHasActedOn s (m.taken + 1)) (sym is) (omega (arith, acted));
          gave = m.gave;
          up = inr (is_up_there left host m);
        };
      }

  -- by the stage
  commanded : (left : ℕ) (item : List ℕ) (telegram : Telegram) (how_far : Stage) (host : HostState Object) → host.stage ≡ how_far → Mid (suc left) host → Mid left (following does now item telegram (by_stage how_far) host).host
  unfolding following
  commanded left item telegram Stage.Completed host is mid = told left telegram host is mid
  commanded left item telegram Stage.Outside host is mid = closes left host mid.tells
  commanded left item telegram Stage.AwaitsCheck host is mid = closes left host mid.tells
  commanded left item telegram Stage.AwaitsRequest host is mid = closes left host mid.tells
  commanded left item telegram Stage.Refused host is mid = closes left host mid.tells

  follows : (left : ℕ) (item : List ℕ) (telegram : Telegram) (what : Message) (how_far : Stage) (host : HostState Object) → host.stage ≡ how_far → Mid (suc left) host → Mid left (following does now item telegram (meaning what how_far) host).host
  unfolding following
  follows left item telegram (Message.Initialisation protocol (VersionCheck version)) Stage.AwaitsCheck host is mid = answers left version host is mid
  follows left item telegram (Message.Initialisation protocol (VersionCheck version)) Stage.Outside host is mid = closes left host mid.tells
  follows left item telegram (Message.Initialisation protocol (VersionCheck version)) Stage.AwaitsRequest host is mid = closes left host mid.tells
  follows left item telegram (Message.Initialisation protocol (VersionCheck version)) Stage.Completed host is mid = closes left host mid.tells
  follows left item telegram (Message.Initialisation protocol (VersionCheck version)) Stage.Refused host is mid = closes left host mid.tells
  follows left item telegram (Message.Initialisation protocol InitialisationRequest) Stage.AwaitsRequest host is mid = initialises left host is mid
  follows left item telegram (Message.Initialisation protocol InitialisationRequest) Stage.Outside host is mid = closes left host mid.tells
  follows left item telegram (Message.Initialisation protocol InitialisationRequest) Stage.AwaitsCheck host is mid = closes left host mid.tells
  follows left item telegram (Message.Initialisation protocol InitialisationRequest) Stage.Completed host is mid = closes left host mid.tells
  follows left item telegram (Message.Initialisation protocol InitialisationRequest) Stage.Refused host is mid = closes left host mid.tells
  follows left item telegram (Message.Initialisation protocol StartInitialisation) how_far host is mid = closes left host mid.tells
  follows left item telegram (Message.Initialisation protocol InitialisationCompleted) how_far host is mid = closes left host mid.tells
  follows left item telegram (Message.Initialisation protocol (VersionAnswer agreement version)) how_far host is mid = closes left host mid.tells
  follows left item telegram (Message.Point what) how_far host is mid = commanded left item telegram how_far host is mid
  follows left item telegram (Message.Signal what) how_far host is mid = commanded left item telegram how_far host is mid
  follows left item telegram (Message.Detection what) how_far host is mid = commanded left item telegram how_far host is mid

  pub acts : (left : ℕ) (item : List ℕ) (read : Result Telegram SciFault) (host : HostState Object) → Mid (suc left) host → Mid left (acting does now item read host).host
  unfolding acting
  acts left item (Err fault) host mid = closes left host mid.tells
  acts left item (Ok telegram) host mid = choose (is_admitted does telegram host)
    where
      choose : (b : Bool) → Mid left (if b then following does now item telegram (meaning telegram.message host.stage) host else violating now host).host
      choose true = follows left item telegram telegram.message host.stage host refl mid
      choose false = closes left host mid.tells

  pub all_acts : (items : List (List ℕ)) (host : HostState Object) → Mid (length items) host → Mid 0 (acting_all does now items host).host
  unfolding acting_all
  all_acts [] host mid = mid
  all_acts (item ∷ others) host mid = choose (is_open host.link.phase) refl (all_acts others (acting does now item (reading item) host).host (acts (length others) item (reading item) host mid))
    where
      choose : (b : Bool) → is_open host.link.phase ≡ b → Mid 0 (acting_all does now others (acting does now item (reading item) host).host).host
          → Mid 0 (if b then then_do (acting does now item (reading item) host) (acting_all does now others) else silent host).host
      choose true e so = so
      choose false e so = record { tells = mid.tells; midway = λ f. absurd (false≢true (sym e ∙ f)) }

  -- ---- how a step begins

  -- the clock rules are applied; a host out of any connection is outside
  pub record Begun (host : HostState Object) : Type 0 where
    pub mid : Mid 0 host
    pub outside : is_open host.link.phase ≡ false → host.stage ≡ Stage.Outside
    pub link : LinkState
    pub link_is : host.link ≡ settled now link

  outside_is : (s : Stage) → is_outside s ≡ true → s ≡ Stage.Outside
  outside_is Stage.Outside e = refl
  outside_is Stage.AwaitsCheck e = absurd (false≢true e)
  outside_is Stage.AwaitsRequest e = absurd (false≢true e)
  outside_is Stage.Completed e = absurd (false≢true e)
  outside_is Stage.Refused e = absurd (false≢true e)

  pub begins : (host : HostState Object) → HostStandsByCounts does objects host → Begun (beginning does now host)
  unfolding beginning fallen
  begins host stands = choose (is_outside host.stage) refl (is_open (settled now host.link).phase) refl
    where
      at : HostState Object
      at = record host { link = settled now host.link }

      lost : HostState Object
      lost = record at { stage = Stage.Outside; object = does.after_loss host.object }

      ticked : HostState Object → HostState Object
      ticked h = record h { object = does.after_tick now h.object }

      counted : is_open (settled now host.link).phase ≡ true → Midway 0 (ticked at)
      counted e =
          let so = settled_open now host.link e
          in let c = stands.stands so.1
          in record {
            taken = c.taken;
            given = c.given;
            counts = subst (HasCounted (c.taken + 0) c.given) (sym so.0) (subst (λ (n : ℕ). HasCounted n c.given (record host.link { clock = now })) (sym (none_more c.taken))
                (record { taken_is = c.counts.taken_is; given_is = c.counts.given_is; waiting = c.counts.waiting }));
            acted = c.acted;
            gave = c.gave;
            up = inl refl;
          }

      choose : (a : Bool) → is_outside host.stage ≡ a → (b : Bool) → is_open (settled now host.link).phase ≡ b → Begun (ticked (if not a && not b then lost else at))
      choose true e b f = record { mid = record { tells = many.same (Ticks now) host.object ∙ stands.tells; midway = counted }; outside = λ g. outside_is host.stage e; link = host.link; link_is = refl }
      choose false e true f = record { mid = record { tells = many.same (Ticks now) host.object ∙ stands.tells; midway = counted }; outside = λ g. absurd (false≢true (sym g ∙ f)); link = host.link; link_is = refl }
      choose false e false f = record {
        mid = record { tells = many.same (Ticks now) (does.after_loss host.object) ∙ many.same Loses host.object ∙ stands.tells; midway = λ g. absurd (false≢true (sym f ∙ g)) };
        outside = λ g. refl;
        link = host.link;
        link_is = refl;
      }

  -- ---- what comes

  risen_acted : (count : ℕ) (host : HostState Object) → HostHasActedOn host.stage count → HostHasActedOn (risen host).stage count
  unfolding risen
  risen_acted count host has = at_stages host.stage refl (is_open host.link.phase)
    where
      at_stages : (s : Stage) → host.stage ≡ s → (b : Bool) → HostHasActedOn (if is_outside s && b then record host { stage = Stage.AwaitsCheck } else host).stage count
      at_stages Stage.Outside e true = subst (λ (s : Stage). HostHasActedOn s count) e has
      at_stages Stage.Outside e false = has
      at_stages Stage.AwaitsCheck e b = has
      at_stages Stage.AwaitsRequest e b = has
      at_stages Stage.Completed e b = has
      at_stages Stage.Refused e b = has

  risen_gave : (count : ℕ) (host : HostState Object) → HostHasGiven objects host.stage count → HostHasGiven objects (risen host).stage count
  unfolding risen
  risen_gave count host has = at_stages host.stage refl (is_open host.link.phase)
    where
      at_stages : (s : Stage) → host.stage ≡ s → (b : Bool) → HostHasGiven objects (if is_outside s && b then record host { stage = Stage.AwaitsCheck } else host).stage count
      at_stages Stage.Outside e true = subst (λ (s : Stage). HostHasGiven objects s count) e has
      at_stages Stage.Outside e false = has
      at_stages Stage.AwaitsCheck e b = has
      at_stages Stage.AwaitsRequest e b = has
      at_stages Stage.Completed e b = has
      at_stages Stage.Refused e b = has

  pub record Same (host after : HostState Object) : Type 0 where
    pub link : after.link ≡ host.link
    pub object : after.object ≡ host.object

  pub risen_same : (host : HostState Object) → Same host (risen host)
  unfolding risen
  risen_same host = choose (is_outside host.stage && is_open host.link.phase)
    where
      choose : (b : Bool) → Same host (if b then record host { stage = Stage.AwaitsCheck } else host)
      choose true = record { link = refl; object = refl }
      choose false = record { link = refl; object = refl }

  pub comes : (bytes : List ℕ) (host : HostState Object) → Begun host → Mid (length (receiving now bytes host.link).items) (received now bytes (receiving now bytes host.link) host).host
  unfolding received
  comes bytes host begun = record { tells = ap (objects_told does) same.object ∙ begun.mid.tells; midway = λ e. came_midway (ap (λ (l : LinkState). is_open l.phase) (sym same.link) ∙ e) }
    where
      receipt : Receipt
      receipt = receiving now bytes host.link

      came : HostState Object
      came = record host { link = receipt.link }

      same : Same came (risen came)
      same = risen_same came

      midway_of : (taken given : ℕ) → HasCounted (taken + length receipt.items) given receipt.link → HostHasActedOn host.stage taken → HostHasGiven objects host.stage given → (receipt.items ≡ []) ⊎ (is_up receipt.link.phase ≡ true) → Midway (length receipt.items) (risen came)
      midway_of taken given counts acted gave up = record {
        taken = taken;
        given = given;
        counts = subst (HasCounted (taken + length receipt.items) given) (sym same.link) counts;
        acted = risen_acted taken came acted;
        gave = risen_gave given came gave;
        up = choose up;
      }
        where
          choose : (receipt.items ≡ []) ⊎ (is_up receipt.link.phase ≡ true) → (length receipt.items ≡ 0) ⊎ (is_up (risen came).link.phase ≡ true)
          choose (inl none) = inl (ap length none)
          choose (inr u) = inr (ap (λ (l : LinkState). is_up l.phase) same.link ∙ u)

      came_midway : is_open receipt.link.phase ≡ true → Midway (length receipt.items) (risen came)
      came_midway e = by_cases (is_open host.link.phase) refl
        where
          nothing : length receipt.items ≡ 0 → 0 ≡ 0 + length receipt.items
          nothing f = omega (arith, f)

          -- an end that was outside enters
          entered : is_open host.link.phase ≡ false → AfterReceipt now bytes 0 0 host.link → Midway (length receipt.items) (risen came)
          entered out (stays_in is_in counts up stays_up) = absurd (false≢true (sym out ∙ is_in))
          entered out (comes_in was none counts) = let s = begun.outside out in
              midway_of 0 0 (subst (λ (n : ℕ). HasCounted n 0 receipt.link) (nothing (ap length none)) counts) (subst (λ (x : Stage). HostHasActedOn x 0) (sym s) refl) (subst (λ (x : Stage). HostHasGiven objects x 0) (sym s) refl) (inl none)

          kept_in : (m : Midway 0 host) → AfterReceipt now bytes m.taken m.given host.link → is_open host.link.phase ≡ true → Midway (length receipt.items) (risen came)
          kept_in m (stays_in is_in counts up stays_up) inside = midway_of m.taken m.given counts m.acted m.gave up
          kept_in m (comes_in was none counts) inside = absurd (false≢true (sym (ap (λ (l : LinkState). is_open l.phase) begun.link_is ∙ settled_again now begun.link (ap (λ (l : LinkState). is_open (settled now l).phase) (sym begun.link_is) ∙ was)) ∙ inside))

          by_cases : (b : Bool) → is_open host.link.phase ≡ b → Midway (length receipt.items) (risen came)
          by_cases true f = let m = begun.mid.midway f in kept_in m (receipt_counts now bytes m.taken m.given host.link e (λ g. subst (λ (n : ℕ). HasCounted n m.given host.link) (none_more m.taken) m.counts)) f
          by_cases false f = entered f (receipt_counts now bytes 0 0 host.link e (λ g. absurd (false≢true (sym f ∙ g))))

  hears : (bytes : List ℕ) (host : HostState Object) → Begun host → Mid 0 (hearing does now bytes host).host
  unfolding hearing
  hears bytes host begun = all_acts (receiving now bytes host.link).items (received now bytes (receiving now bytes host.link) host).host (comes bytes host begun)

  pub gives : (input : Input) (host : HostState Object) → Begun host → Mid 0 (given_in does now input host).host
  unfolding given_in
  gives Input.Tick host begun = begun.mid
  gives (Input.Datagram bytes) host begun = hears bytes.now host begun
  gives (Input.Sense sense) host begun = record { tells = many.same (Senses now sense) host.object ∙ begun.mid.tells; midway = λ e. let m = begun.mid.midway e in record { taken = m.taken; given = m.given; counts = m.counts; acted = m.acted; gave = m.gave; up = m.up } }

  -- ---- what is owed

  paid_mid : (host : HostState Object) → Mid 0 host → Mid 0 (paid does host)
  paid_mid host mid = record { tells = many.same Pays host.object ∙ mid.tells; midway = λ e. let m = mid.midway e in record { taken = m.taken; given = m.given; counts = m.counts; acted = m.acted; gave = m.gave; up = m.up } }

  -- a report more, once the initialisation was completed
  pub reports : (report : Report) (host : HostState Object) → is_completed host.stage ≡ true → Mid 0 host → Mid 0 (posting now report host).host
  unfolding posting
  reports report host done mid = record {
    tells = mid.tells;
    midway = λ e. let m = mid.midway (posted_open report host e) in counted m (send_counts now (item_of host report) host.link (m.taken + 0) m.given e m.counts);
  }
    where
      more : (s : Stage) (n k : ℕ) → is_completed s ≡ true → n ≤ k → HostHasGiven objects s n → HostHasGiven objects s k
      more Stage.Completed n k c few has = omega (arith, few, has)
      more Stage.Outside n k c few has = absurd (false≢true c)
      more Stage.AwaitsCheck n k c few has = absurd (false≢true c)
      more Stage.AwaitsRequest n k c few has = absurd (false≢true c)
      more Stage.Refused n k c few has = absurd (false≢true c)

      no_less : (b : Bool) (n : ℕ) → n ≤ (if b then n + 1 else n)
      no_less true n = omega arith
      no_less false n = omega arith

      counted : (m : Midway 0 host) → AfterSend now (item_of host report) (m.taken + 0) m.given host.link → Midway 0 (posting now report host).host
      counted m after = record {
        taken = m.taken;
        given = if is_ok (answer_to_send now host.link) then m.given + 1 else m.given;
        counts = after.counts;
        acted = m.acted;
        gave = more host.stage m.given (if is_ok (answer_to_send now host.link) then m.given + 1 else m.given) done (no_less (is_ok (answer_to_send now host.link)) m.given) m.gave;
        up = inl refl;
      }

  pub pays_first : (report : Option Report) (host : HostState Object) → Mid 0 host → Mid 0 (paying_first does now report host).host
  pays_first None host mid = mid
  pays_first (Some report) host mid = choose (is_completed host.stage) refl (is_ok (answer_to_send now host.link))
    where
      sent : HostSoFar Object
      sent = posting now report host

      choose : (b : Bool) → is_completed host.stage ≡ b → (c : Bool) → Mid 0 (if not b then silent (paid does host) else (if c then record sent { host = paid does sent.host } else sent)).host
      choose false e c = paid_mid host mid
      choose true e true = paid_mid sent.host (reports report host e mid)
      choose true e false = reports report host e mid

  pub pays : (most : ℕ) (host : HostState Object) → Mid 0 host → Mid 0 (paying does now most host).host
  unfolding paying
  pays zero host mid = mid
  pays (suc most) host mid = choose (goes_on now (does.owed host.object) host) (pays most (paying_first does now (does.owed host.object) host).host (pays_first (does.owed host.object) host mid))
    where
      choose : (b : Bool) → Mid 0 (paying does now most (paying_first does now (does.owed host.object) host).host).host
          → Mid 0 (if b then then_do (paying_first does now (does.owed host.object) host) (paying does now most) else paying_first does now (does.owed host.object) host).host
      choose true so = so
      choose false so = pays_first (does.owed host.object) host mid

  beats : (input : Input) (host : HostState Object) → Mid 0 host → Mid 0 (beating now input host).host
  unfolding beating
  beats Input.Tick host mid = record {
    tells = mid.tells;
    midway = λ e. let m = mid.midway (ticked_open e) in record { taken = m.taken; given = m.given; counts = (tick_counts now host.link (m.taken + 0) m.given e m.counts).2; acted = m.acted; gave = m.gave; up = inl refl };
  }
    where
      ticked_open : is_open (ticking now host.link).link.phase ≡ true → is_open host.link.phase ≡ true
      ticked_open e = (tick_was_open now host.link e).1
  beats (Input.Datagram bytes) host mid = mid
  beats (Input.Sense sense) host mid = mid

  -- ---- and how it ends

  ends : (host : HostState Object) → Mid 0 host → HostStandsByCounts does objects (ending does host)
  unfolding fallen keeping
  ends host mid = choose (is_outside host.stage) (is_open host.link.phase) refl
    where
      lost : HostState Object
      lost = record host { stage = Stage.Outside; object = does.after_loss host.object }

      kept_at : HostState Object → HostState Object
      kept_at h = record h { object = does.after_keep (alive_until h.link) h.object }

      as_it_is : HostStandsByCounts does objects (kept_at host)
      as_it_is = record {
        tells = many.same (Keeps (alive_until host.link)) host.object ∙ mid.tells;
        stands = λ e. let m = mid.midway e in record { taken = m.taken; given = m.given; counts = subst (λ (n : ℕ). HasCounted n m.given host.link) (none_more m.taken) m.counts; acted = m.acted; gave = m.gave };
      }

      choose : (a b : Bool) → is_open host.link.phase ≡ b → HostStandsByCounts does objects (kept_at (if not a && not b then lost else host))
      choose true b e = as_it_is
      choose false true e = as_it_is
      choose false false e = record { tells = many.same (Keeps (alive_until host.link)) (does.after_loss host.object) ∙ many.same Loses host.object ∙ mid.tells; stands = λ f. absurd (false≢true (sym e ∙ f)) }

  pub step_stands : (input : Input) (host : HostState Object) → HostStandsByCounts does objects host → HostStandsByCounts does objects (host_step does now input host).host
  unfolding host_step
  step_stands input host stands = ends done.host (beats input paid_so (pays most_owed heard.host (gives input (beginning does now host) (begins host stands))))
    where
      heard : HostSoFar Object
      heard = given_in does now input (beginning does now host)

      paid_so : HostState Object
      paid_so = (paying does now most_owed heard.host).host

      done : HostSoFar Object
      done = beating now input paid_so

-- a new host
pub new_stands : {Object : Type 0} (does : Behaviour Object) → TellsAsMany does → (objects : ℕ) (identity : Identity) (own_name peer_name : List ℕ) (first now : ℕ) (object : Object) (version : ℕ) → objects_told does object ≡ objects
    → HostStandsByCounts does objects (new_host does identity own_name peer_name first now object version)
unfolding new_host keeping created
new_stands does many objects identity own_name peer_name first now object version tells = record {
  tells = many.same (Keeps _) (does.after_loss object) ∙ many.same Loses object ∙ tells;
  stands = λ e. absurd (false≢true e);
}
