-- A signal whose initialisation is completed gives no more reports than items come to it, and the one that it owes.
use Rattle.simulator_recovery.proofs.Words.Basics.{◌≡◌, ℕ, zero, suc, ◌+◌, ◌-◌, ◌≤◌, Bool, true, false, not, ◌&&◌, ◌||◌, nat_le, List, [], ◌∷◌, ◌++◌, length, Option, Some, None, Result, Ok, Err, if◌then◌else◌, refl, sym, ap, subst, ◌∙◌, arith, is_ok, false≢true}
use Rattle.simulator_recovery.proofs.Words.Links.{acceptance, answer_to_send, receiving, sending_item, ticking, deadline, settled, connection_limit, stops_at_greatest, beating as link_beating, entered, giving, limited, sending, silent as stays_silent, telling, LinkState, is_open, is_up, Phase, Reason, Heartbeat}
use Rattle.simulator_recovery.proofs.Words.Controllers.{reading, writing, SciFault, Aspect, InitialisationCompleted, InitialisationRequest, StartInitialisation, VersionAnswer, VersionCheck, Message, Telegram, HostSoFar, HostState, LinkCall, Receives, fallen, is_completed, is_outside, keeping, risen, silent, telegram_of, then_do, meaning, acting, acting_all, beating, beginning, commanding, ending, following, given, goes_on, hearing, host_step, is_admitted, most_owed, paid, paying, paying_first, posting, received, violating, Input, Report, Stage, SignalState, fits, indicated_report, indicates, signal_behaviour, told as told_of}
use Rattle.simulator_spec.specs.object_host.Meaning.{commanding as by_stage}
use Rattle.simulator_recovery.proofs.Lemmas.Ground.LinkCounts.{close_closes, send_was_open, tick_was_open}
use Rattle.simulator_recovery.proofs.Lemmas.Talk.PointCounts.{coming}

-- how many reports a signal owes
abbrev pub owed : SignalState → ℕ
owed signal = if signal.owes then 1 else 0

pub owed_most : (signal : SignalState) → owed signal ≤ 1
owed_most signal = choose signal.owes
  where
    choose : (b : Bool) → (if b then 1 else 0) ≤ 1
    choose true = omega arith
    choose false = omega arith

-- ---- what calls leave of the counts

stops_below : (n : ℕ) → stops_at_greatest n ≤ n
stops_below n = omega arith

module _ (now : ℕ) where
  -- a link counts as many items given and taken
  record CountsAs (l k : LinkState) : Type 0 where
    given_is : k.given ≡ l.given
    taken_is : k.taken ≡ l.taken

  settled_counts : (l : LinkState) → CountsAs l (settled now l)
  unfolding settled
  settled_counts l = choose (is_open l.phase && nat_le (deadline l) now)
    where
      choose : (b : Bool) → CountsAs l (if b then record l { phase = Phase.Closed; closed_at = deadline l; clock = now } else record l { clock = now })
      choose true = record { given_is = refl; taken_is = refl }
      choose false = record { given_is = refl; taken_is = refl }

  entered_counts : (l : LinkState) → CountsAs l (entered now l).link
  unfolding entered limited telling sending
  entered_counts l = choose (is_open (settled now l).phase && nat_le connection_limit (settled now l).sent)
    where
      s : CountsAs l (settled now l)
      s = settled_counts l

      choose : (b : Bool) → CountsAs l (if b then telling Reason.Sequence (settled now l) else stays_silent (settled now l)).link
      choose true = record { given_is = s.given_is; taken_is = s.taken_is }
      choose false = s

  -- an item that is sent counts once where it is accepted
  record Sent (l : LinkState) (item : List ℕ) : Type 0 where
    taken_is : (sending_item now item l).link.taken ≡ l.taken
    accepted : (sending_item now item l).link.given ≤ l.given + 1
    refused : is_ok (answer_to_send now l) ≡ false → (sending_item now item l).link.given ≡ l.given

  sends : (l : LinkState) (item : List ℕ) → Sent l item
  unfolding sending_item answer_to_send giving sending
  sends l item = choose (is_ok (acceptance k)) refl
    where
      k : LinkState
      k = (entered now l).link

      c : CountsAs l k
      c = entered_counts l

      done : Bool → LinkState
      done b = (if b then giving item k else stays_silent k).link

      taken_same : (b : Bool) → (done b).taken ≡ l.taken
      taken_same true = c.taken_is
      taken_same false = c.taken_is

      choose : (b : Bool) → is_ok (acceptance k) ≡ b → Sent l item
      choose true e = record {
        taken_is = ap (λ (a : Bool). (done a).taken) e ∙ taken_same true;
        accepted = let s = stops_below (k.given + 1) in let g = c.given_is in let d = ap (λ (a : Bool). (done a).given) e in omega (arith, s, g, d);
        refused = λ f. absurd (false≢true (sym f ∙ e));
      }
      choose false e = record {
        taken_is = ap (λ (a : Bool). (done a).taken) e ∙ taken_same false;
        accepted = let g = c.given_is in let d = ap (λ (a : Bool). (done a).given) e in omega (arith, g, d);
        refused = λ f. ap (λ (a : Bool). (done a).given) e ∙ c.given_is;
      }

  ticks_counts : (l : LinkState) → CountsAs l (ticking now l).link
  unfolding ticking link_beating sending
  ticks_counts l = choose (is_up k.phase && nat_le 300 (k.clock - k.sent_at))
    where
      k : LinkState
      k = (entered now l).link

      c : CountsAs l k
      c = entered_counts l

      choose : (b : Bool) → CountsAs l (if b then sending Heartbeat k else stays_silent k).link
      choose true = record { given_is = c.given_is; taken_is = c.taken_is }
      choose false = c

  -- ---- what comes

  never : (host : HostState SignalState) → is_open (violating now host).host.link.phase ≡ true → ⊥
  unfolding violating
  never host opened = false≢true (sym (close_closes now Reason.State host.link) ∙ opened)

  -- A part of a step at a signal whose initialisation is completed: it was told something, and its link stays as it was.
  record ActsOn (host : HostState SignalState) (part : HostSoFar SignalState) : Type 0 where
    link : part.host.link ≡ host.link
    stage_is : part.host.stage ≡ host.stage
    calls : part.calls ≡ []
    told : part.told ≡ [] → ⊥

  commands : (item : List ℕ) (telegram : Telegram) (host : HostState SignalState) → is_open (following signal_behaviour now item telegram (by_stage Stage.Completed) host).host.link.phase ≡ true
      → ActsOn host (following signal_behaviour now item telegram (by_stage Stage.Completed) host)
  unfolding following commanding
  commands item telegram host = choose (indicates telegram.message)
    where
      part : Bool → Option Aspect → HostSoFar SignalState
      part b what = record (if b then silent (record host { object = told_of what host.object }) else violating now (record host { object = told_of what host.object })) { acted = item ∷ []; told = telegram ∷ [] }

      choose : (what : Option Aspect) → is_open (part (fits what) what).host.link.phase ≡ true → ActsOn host (part (fits what) what)
      choose (Some aspect) opened = record { link = refl; stage_is = refl; calls = refl; told = λ e. absurd (cc e) }
      choose None opened = absurd (never (record host { object = told_of None host.object }) opened)

  follows : (item : List ℕ) (telegram : Telegram) (what : Message) (host : HostState SignalState) → is_open (following signal_behaviour now item telegram (meaning what Stage.Completed) host).host.link.phase ≡ true
      → ActsOn host (following signal_behaviour now item telegram (meaning what Stage.Completed) host)
  unfolding following
  follows item telegram (Message.Initialisation protocol (VersionCheck version)) host opened = absurd (never host opened)
  follows item telegram (Message.Initialisation protocol InitialisationRequest) host opened = absurd (never host opened)
  follows item telegram (Message.Initialisation protocol StartInitialisation) host opened = absurd (never host opened)
  follows item telegram (Message.Initialisation protocol InitialisationCompleted) host opened = absurd (never host opened)
  follows item telegram (Message.Initialisation protocol (VersionAnswer agreement version)) host opened = absurd (never host opened)
  follows item telegram (Message.Point what) host opened = commands item telegram host opened
  follows item telegram (Message.Signal what) host opened = commands item telegram host opened
  follows item telegram (Message.Detection what) host opened = commands item telegram host opened

  acts : (item : List ℕ) (read : Result Telegram SciFault) (host : HostState SignalState) → host.stage ≡ Stage.Completed → is_open (acting signal_behaviour now item read host).host.link.phase ≡ true → ActsOn host (acting signal_behaviour now item read host)
  unfolding acting
  acts item (Err fault) host is = λ opened. absurd (never host opened)
  acts item (Ok telegram) host is = choose (is_admitted signal_behaviour telegram host)
    where
      at_stage : (s : Stage) → s ≡ Stage.Completed → is_open (following signal_behaviour now item telegram (meaning telegram.message s) host).host.link.phase ≡ true → ActsOn host (following signal_behaviour now item telegram (meaning telegram.message s) host)
      at_stage s e = subst (λ (x : Stage). is_open (following signal_behaviour now item telegram (meaning telegram.message x) host).host.link.phase ≡ true → ActsOn host (following signal_behaviour now item telegram (meaning telegram.message x) host)) (sym e)
          (follows item telegram telegram.message host)

      choose : (b : Bool) → is_open (if b then following signal_behaviour now item telegram (meaning telegram.message host.stage) host else violating now host).host.link.phase ≡ true
          → ActsOn host (if b then following signal_behaviour now item telegram (meaning telegram.message host.stage) host else violating now host)
      choose true = at_stage host.stage is
      choose false = λ opened. absurd (never host opened)

  stays_shut : (items : List (List ℕ)) (host : HostState SignalState) → is_open host.link.phase ≡ false → is_open (acting_all signal_behaviour now items host).host.link.phase ≡ false
  unfolding acting_all
  stays_shut [] host shut = shut
  stays_shut (item ∷ others) host shut = ap (λ (b : Bool). is_open (if b then then_do (acting signal_behaviour now item (reading item) host) (acting_all signal_behaviour now others) else silent host).host.link.phase) shut ∙ shut

  -- all items of a datagram
  pub record ActsOnAll (items : List (List ℕ)) (host : HostState SignalState) (part : HostSoFar SignalState) : Type 0 where
    pub link : part.host.link ≡ host.link
    pub stage_is : part.host.stage ≡ Stage.Completed
    pub calls : part.calls ≡ []
    pub none : items ≡ [] → part.host.object ≡ host.object
    pub told : part.told ≡ [] → items ≡ []

  pub all_act : (items : List (List ℕ)) (host : HostState SignalState) → host.stage ≡ Stage.Completed → is_open host.link.phase ≡ true → is_open (acting_all signal_behaviour now items host).host.link.phase ≡ true
      → ActsOnAll items host (acting_all signal_behaviour now items host)
  unfolding acting_all
  all_act [] host is opened opened_then = record { link = refl; stage_is = is; calls = refl; none = λ e. refl; told = λ e. refl }
  all_act (item ∷ others) host is opened opened_then = by_open (is_open host.link.phase) opened opened_then (λ first_is first_open. all_act others first.host first_is first_open)
    where
      first : HostSoFar SignalState
      first = acting signal_behaviour now item (reading item) host

      whole : Bool → HostSoFar SignalState
      whole b = if b then then_do first (acting_all signal_behaviour now others) else silent host

      Rest : Type 0
      Rest = first.host.stage ≡ Stage.Completed → is_open first.host.link.phase ≡ true → is_open (acting_all signal_behaviour now others first.host).host.link.phase ≡ true → ActsOnAll others first.host (acting_all signal_behaviour now others first.host)

      first_open : is_open (acting_all signal_behaviour now others first.host).host.link.phase ≡ true → is_open first.host.link.phase ≡ true
      first_open e = choose (is_open first.host.link.phase) refl
        where
          choose : (b : Bool) → is_open first.host.link.phase ≡ b → is_open first.host.link.phase ≡ true
          choose true f = f
          choose false f = absurd (false≢true (sym (stays_shut others first.host f) ∙ e))

      both : (a c : List Telegram) → (a ≡ [] → ⊥) → a ++ c ≡ [] → item ∷ others ≡ []
      both [] c some e = absurd (some refl)
      both (x ∷ a) c some e = absurd (cc e)

      by_open : (b : Bool) → b ≡ true → is_open (whole b).host.link.phase ≡ true → Rest → ActsOnAll (item ∷ others) host (whole b)
      by_open false e opened_so rest = absurd (false≢true e)
      by_open true e opened_so rest =
          let one = acts item (reading item) host is (first_open opened_so)
          in let more = rest (one.stage_is ∙ is) (first_open opened_so) opened_so
          in record {
            link = more.link ∙ one.link;
            stage_is = more.stage_is;
            calls = ap (λ (l : List LinkCall). l ++ (acting_all signal_behaviour now others first.host).calls) one.calls ∙ more.calls;
            none = λ f. absurd (cc f);
            told = both first.told (acting_all signal_behaviour now others first.host).told one.told;
          }

  -- what was told is owed
  all_owe : (items : List (List ℕ)) (host : HostState SignalState) (part : HostSoFar SignalState) → ActsOnAll items host part → owed part.host.object ≤ owed host.object + length items
  all_owe [] host part a = let e = ap owed (a.none refl) in omega (arith, e)
  all_owe (item ∷ others) host part a = let most = owed_most part.host.object in omega (arith, most)

  -- ---- what is owed is paid

  record Pays (host : HostState SignalState) (part : HostSoFar SignalState) : Type 0 where
    given_is : part.host.link.given + owed part.host.object ≤ host.link.given + owed host.object
    taken_is : part.host.link.taken ≡ host.link.taken
    stage_is : part.host.stage ≡ host.stage
    was_open : is_open part.host.link.phase ≡ true → is_open host.link.phase ≡ true

  pays : (more : ℕ) (host : HostState SignalState) → host.stage ≡ Stage.Completed → Pays host (paying signal_behaviour now more host)
  unfolding paying posting
  pays zero host is = record { given_is = omega arith; taken_is = refl; stage_is = refl; was_open = λ e. e }
  pays (suc more) host is = by_owing host.object.owes refl (λ h e. pays more h e)
    where
      report : Report
      report = indicated_report host.object

      item : List ℕ
      item = writing (telegram_of report host)

      sent : HostState SignalState
      sent = record host { link = (sending_item now item host.link).link }

      done : HostState SignalState
      done = paid signal_behaviour sent

      Rest : Type 0
      Rest = (h : HostState SignalState) → h.stage ≡ Stage.Completed → Pays h (paying signal_behaviour now more h)

      whole : Option Report → HostSoFar SignalState
      whole o = if goes_on now o host then then_do (paying_first signal_behaviour now o host) (paying signal_behaviour now more) else paying_first signal_behaviour now o host

      was : is_open (sending_item now item host.link).link.phase ≡ true → is_open host.link.phase ≡ true
      was e = (send_was_open now item host.link e).1

      s : Sent host.link item
      s = sends host.link item

      by_answer : host.object.owes ≡ true → (c : Bool) → is_completed host.stage ≡ c → (b : Bool) → is_ok (answer_to_send now host.link) ≡ b → Rest
          → Pays host (if not c || b then then_do (if not c then silent (paid signal_behaviour host) else (if b then record (posting now report host) { host = paid signal_behaviour (posting now report host).host } else posting now report host)) (paying signal_behaviour now more)
          else (if not c then silent (paid signal_behaviour host) else (if b then record (posting now report host) { host = paid signal_behaviour (posting now report host).host } else posting now report host)))
      by_answer owes false e b f rest = absurd (false≢true (sym e ∙ ap is_completed is))
      by_answer owes true e true f rest =
          let more_paid = rest done is
          in let accepted = s.accepted
          in let one = ap {B = ℕ} (λ (x : Bool). if x then 1 else 0) owes
          in let later_paid = more_paid.given_is
          in record { given_is = omega (arith, later_paid, accepted, one); taken_is = more_paid.taken_is ∙ s.taken_is; stage_is = more_paid.stage_is; was_open = λ o. was (more_paid.was_open o) }
      by_answer owes true e false f rest = let g = s.refused f in record { given_is = omega (arith, g); taken_is = s.taken_is; stage_is = refl; was_open = was }

      by_owing : (o : Bool) → host.object.owes ≡ o → Rest → Pays host (whole (if o then Some report else None))
      by_owing false e rest = record { given_is = omega arith; taken_is = refl; stage_is = refl; was_open = λ o. o }
      by_owing true e rest = by_answer e (is_completed host.stage) refl (is_ok (answer_to_send now host.link)) refl rest

  -- a link that is open after what is paid was open before
  pays_open : (more : ℕ) (host : HostState SignalState) → is_open (paying signal_behaviour now more host).host.link.phase ≡ true → is_open host.link.phase ≡ true
  unfolding paying posting
  pays_open zero host opened = opened
  pays_open (suc more) host opened = by_owing host.object.owes opened (λ h e. pays_open more h e)
    where
      report : Report
      report = indicated_report host.object

      Rest : Type 0
      Rest = (h : HostState SignalState) → is_open (paying signal_behaviour now more h).host.link.phase ≡ true → is_open h.link.phase ≡ true

      was : is_open (sending_item now (writing (telegram_of report host)) host.link).link.phase ≡ true → is_open host.link.phase ≡ true
      was e = (send_was_open now (writing (telegram_of report host)) host.link e).1

      first : Bool → Bool → HostSoFar SignalState
      first c b = if not c then silent (paid signal_behaviour host) else (if b then record (posting now report host) { host = paid signal_behaviour (posting now report host).host } else posting now report host)

      whole : Bool → Bool → HostSoFar SignalState
      whole c b = if not c || b then then_do (first c b) (paying signal_behaviour now more) else first c b

      of_report : (c b : Bool) → is_open (whole c b).host.link.phase ≡ true → Rest → is_open host.link.phase ≡ true
      of_report false b e rest = rest (paid signal_behaviour host) e
      of_report true true e rest = was (rest (first true true).host e)
      of_report true false e rest = was e

      asked : Option Report → HostSoFar SignalState
      asked o = if goes_on now o host then then_do (paying_first signal_behaviour now o host) (paying signal_behaviour now more) else paying_first signal_behaviour now o host

      by_owing : (o : Bool) → is_open (asked (if o then Some report else None)).host.link.phase ≡ true → Rest → is_open host.link.phase ≡ true
      by_owing false e rest = e
      by_owing true e rest = of_report (is_completed host.stage) (is_ok (answer_to_send now host.link)) e rest

  -- ---- a step

  -- the count of items taken after what comes
  abbrev pub taken_behind : Input → LinkState → ℕ
  taken_behind (Input.Datagram bytes) link = (receiving now bytes.now link).link.taken
  taken_behind _ link = link.taken

  abbrev pub given_behind : Input → LinkState → ℕ
  given_behind (Input.Datagram bytes) link = (receiving now bytes.now link).link.given
  given_behind _ link = link.given

  begins : (host : HostState SignalState) → host.stage ≡ Stage.Completed → is_open (settled now host.link).phase ≡ true → beginning signal_behaviour now host ≡ record host { link = settled now host.link }
  unfolding beginning fallen
  begins host is opened = rw (is, opened) refl

  rises : (host : HostState SignalState) → host.stage ≡ Stage.Completed → risen host ≡ host
  unfolding risen
  rises host is = rw is refl

  ends_as : (host : HostState SignalState) → owed (ending signal_behaviour host).object ≤ owed host.object
  unfolding fallen keeping
  ends_as host = choose (not (is_outside host.stage) && not (is_open host.link.phase))
    where
      lost : HostState SignalState
      lost = record host { stage = Stage.Outside; object = signal_behaviour.after_loss host.object }

      choose : (b : Bool) → owed (keeping signal_behaviour (if b then lost else host)).object ≤ owed host.object
      choose true = omega arith
      choose false = omega arith

  ends_link : (host : HostState SignalState) → (ending signal_behaviour host).link ≡ host.link
  unfolding fallen keeping
  ends_link host = choose (not (is_outside host.stage) && not (is_open host.link.phase))
    where
      lost : HostState SignalState
      lost = record host { stage = Stage.Outside; object = signal_behaviour.after_loss host.object }

      choose : (b : Bool) → (keeping signal_behaviour (if b then lost else host)).link ≡ host.link
      choose true = refl
      choose false = refl

  -- A datagram comes to a signal whose initialisation is completed, and its link stays open.
  pub record Hears (bytes : List ℕ) (host : HostState SignalState) : Type 0 where
    pub link : (hearing signal_behaviour now bytes host).host.link ≡ (receiving now bytes host.link).link
    pub stage_is : (hearing signal_behaviour now bytes host).host.stage ≡ Stage.Completed
    pub calls : (hearing signal_behaviour now bytes host).calls ≡ Receives bytes ∷ []
    pub owes : owed (hearing signal_behaviour now bytes host).host.object ≤ owed host.object + length (receiving now bytes host.link).items
    pub told : (hearing signal_behaviour now bytes host).told ≡ [] → (receiving now bytes host.link).items ≡ []

  pub hears : (bytes : List ℕ) (host : HostState SignalState) → host.stage ≡ Stage.Completed → is_open (hearing signal_behaviour now bytes host).host.link.phase ≡ true → Hears bytes host
  unfolding hearing received
  hears bytes host is opened = record {
    link = all.link ∙ ap (λ (h : HostState SignalState). h.link) same;
    stage_is = all.stage_is;
    calls = ap (λ (l : List LinkCall). Receives bytes ∷ l) all.calls;
    owes = let o = all_owe items came part all in let e = ap (λ (h : HostState SignalState). owed h.object) same in omega (arith, o, e);
    told = all.told;
  }
    where
      items : List (List ℕ)
      items = (receiving now bytes host.link).items

      heard : HostState SignalState
      heard = record host { link = (receiving now bytes host.link).link }

      came : HostState SignalState
      came = risen heard

      same : came ≡ heard
      same = rises heard is

      part : HostSoFar SignalState
      part = acting_all signal_behaviour now items came

      open_before : is_open came.link.phase ≡ true
      open_before = choose (is_open came.link.phase) refl
        where
          choose : (b : Bool) → is_open came.link.phase ≡ b → is_open came.link.phase ≡ true
          choose true e = e
          choose false e = absurd (false≢true (sym (stays_shut items came e) ∙ opened))

      all : ActsOnAll items came part
      all = all_act items came (ap (λ (h : HostState SignalState). h.stage) same ∙ is) open_before opened

  -- what it counts after a step
  pub record Counts (input : Input) (host : HostState SignalState) : Type 0 where
    pub begun : beginning signal_behaviour now host ≡ record host { link = settled now host.link }
    pub heard_open : is_open (given signal_behaviour now input (record host { link = settled now host.link })).host.link.phase ≡ true
    pub given_is : (host_step signal_behaviour now input host).host.link.given + owed (host_step signal_behaviour now input host).host.object
        ≤ given_behind input (settled now host.link) + (owed host.object + coming now input (settled now host.link))
    pub taken_is : (host_step signal_behaviour now input host).host.link.taken ≡ taken_behind input (settled now host.link)

  -- after what comes
  record Comes (input : Input) (host : HostState SignalState) : Type 0 where
    given_is : (given signal_behaviour now input host).host.link.given ≡ given_behind input host.link
    taken_is : (given signal_behaviour now input host).host.link.taken ≡ taken_behind input host.link
    stage_is : (given signal_behaviour now input host).host.stage ≡ Stage.Completed
    owes : owed (given signal_behaviour now input host).host.object ≤ owed host.object + coming now input host.link

  comes : (input : Input) (host : HostState SignalState) → host.stage ≡ Stage.Completed → is_open (given signal_behaviour now input host).host.link.phase ≡ true → Comes input host
  unfolding given
  comes Input.Tick host is opened = record { given_is = refl; taken_is = refl; stage_is = is; owes = omega arith }
  comes (Input.Sense contact) host is opened = record { given_is = refl; taken_is = refl; stage_is = is; owes = omega arith }
  comes (Input.Datagram bytes) host is opened = let h = hears bytes.now host is opened in record {
    given_is = ap (λ (l : LinkState). l.given) h.link;
    taken_is = ap (λ (l : LinkState). l.taken) h.link;
    stage_is = h.stage_is;
    owes = h.owes;
  }

  record Beats (host : HostState SignalState) (part : HostSoFar SignalState) : Type 0 where
    given_is : part.host.link.given ≡ host.link.given
    taken_is : part.host.link.taken ≡ host.link.taken
    object_is : part.host.object ≡ host.object
    was_open : is_open part.host.link.phase ≡ true → is_open host.link.phase ≡ true

  beats : (input : Input) (host : HostState SignalState) → Beats host (beating now input host)
  unfolding beating
  beats Input.Tick host = let c = ticks_counts host.link in record { given_is = c.given_is; taken_is = c.taken_is; object_is = refl; was_open = λ e. (tick_was_open now host.link e).1 }
  beats (Input.Datagram bytes) host = record { given_is = refl; taken_is = refl; object_is = refl; was_open = λ e. e }
  beats (Input.Sense contact) host = record { given_is = refl; taken_is = refl; object_is = refl; was_open = λ e. e }

  -- of a host whose link is settled
  abbrev Done : Input → HostState SignalState → HostSoFar SignalState
  Done input host = then_do (then_do (given signal_behaviour now input host) (paying signal_behaviour now most_owed)) (beating now input)

  record CountsAt (input : Input) (host : HostState SignalState) : Type 0 where
    given_is : (ending signal_behaviour (Done input host).host).link.given + owed (ending signal_behaviour (Done input host).host).object ≤ given_behind input host.link + (owed host.object + coming now input host.link)
    taken_is : (ending signal_behaviour (Done input host).host).link.taken ≡ taken_behind input host.link

  counts_at : (input : Input) (host : HostState SignalState) → host.stage ≡ Stage.Completed → is_open (ending signal_behaviour (Done input host).host).link.phase ≡ true → (is_open (given signal_behaviour now input host).host.link.phase ≡ true) × CountsAt input host
  counts_at input host is opened = by_parts (pays most_owed heard) (beats input paid_host)
    where
      heard : HostState SignalState
      heard = (given signal_behaviour now input host).host

      paid_host : HostState SignalState
      paid_host = (paying signal_behaviour now most_owed heard).host

      beaten : HostState SignalState
      beaten = (beating now input paid_host).host

      beaten_open : is_open beaten.link.phase ≡ true
      beaten_open = ap (λ (l : LinkState). is_open l.phase) (sym (ends_link beaten)) ∙ opened

      by_parts : (heard.stage ≡ Stage.Completed → Pays heard (paying signal_behaviour now most_owed heard)) → Beats paid_host (beating now input paid_host) → (is_open heard.link.phase ≡ true) × CountsAt input host
      by_parts paid_so b = (
        heard_open,
        record {
          given_is =
              let c = comes input host is heard_open
              in let p = paid_so c.stage_is
              in let e = ends_as beaten
              in let l = ap (λ (x : LinkState). x.given) (ends_link beaten)
              in let o = ap owed b.object_is
              in let g = b.given_is
              in let pg = p.given_is
              in let cg = c.given_is
              in let co = c.owes
              in omega (arith, e, l, o, g, pg, cg, co);
          taken_is = let c = comes input host is heard_open in let p = paid_so c.stage_is in ap (λ (x : LinkState). x.taken) (ends_link beaten) ∙ b.taken_is ∙ p.taken_is ∙ c.taken_is;
        },
      )
        where
          heard_open : is_open heard.link.phase ≡ true
          heard_open = pays_open most_owed heard (b.was_open beaten_open)

  pub counts : (input : Input) (host : HostState SignalState) → host.stage ≡ Stage.Completed → is_open (settled now host.link).phase ≡ true → is_open (host_step signal_behaviour now input host).host.link.phase ≡ true → Counts input host
  unfolding host_step
  counts input host is opened opened_then =
      let same = begins host is opened
      in let at = counts_at input (record host { link = settled now host.link }) is (ap (λ (h : HostState SignalState). is_open (ending signal_behaviour (Done input h).host).link.phase) (sym same) ∙ opened_then)
      in record {
        begun = same;
        heard_open = at.0;
        given_is = subst (λ (h : HostState SignalState). (ending signal_behaviour (Done input h).host).link.given + owed (ending signal_behaviour (Done input h).host).object ≤ given_behind input (settled now host.link) + (owed host.object + coming now input (settled now host.link))) (sym same) at.1.given_is;
        taken_is = ap (λ (h : HostState SignalState). (ending signal_behaviour (Done input h).host).link.taken) same ∙ at.1.taken_is;
      }
