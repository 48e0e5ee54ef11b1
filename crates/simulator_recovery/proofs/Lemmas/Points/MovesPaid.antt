-- What a step of a point's host leaves: a final report that is still owed was refused by a full window, and a drive hasn't come to its
-- limit.
use Rattle.simulator_recovery.proofs.Words.Basics.{◌≡◌, ◌⊎◌, inl, inr, ℕ, zero, suc, ◌∙◌, ◌-◌, ◌≤◌, ◌<◌, ◌&&◌, ◌||◌, not, nat_le, nat_lt, Bool, true, false, if◌then◌else◌, List, [], ◌∷◌, length, Option, Some, None, is_ok, refl, sym, ap, subst, ltb-false, false≢true, none-some, Result, Ok, Err}
use Rattle.simulator_recovery.proofs.Words.Links.{acceptance, answer_to_send, sending_item, ticking, deadline, settled, window_size, SendFault, Step, beating as link_beating, entered, giving, sending, silent as stays_silent, LinkState, is_open, is_up, Heartbeat}
use Rattle.simulator_recovery.proofs.Words.Controllers.{IsPointStep, found_by, HostSoFar, HostState, fallen, is_completed, is_outside, keeping, silent, then_do, Keeps, Loses, ObjectCall, Pays, Senses, Takes, Ticks, object_after_all, beating, beginning, ending, given as given_in, goes_on, host_step, most_owed, paid, paying, paying_first, posting, AreComing, ArePayments, has_lost, loss_where, Input, Report, Sense, Stage, Side, Telegram, point_behaviour, PointState, answered, begun, drive_end, final_report, is_at, limited, move_taken, sensing, taking, Progress}
use Rattle.simulator_spec.specs.point_ctl.Drive as drive
use Rattle.simulator_spec.specs.point_ctl.Drive.{losing}
use Rattle.simulator_recovery.proofs.Lemmas.Talk.ClientLinks.{up_open}
use Rattle.simulator_recovery.proofs.Lemmas.Points.DrivenPoints.{answered_drive}
use Rattle.simulator_recovery.proofs.Lemmas.Ground.LinkCounts.{tick_was_open}
use Rattle.simulator_recovery.proofs.Lemmas.Points.MovesOwed.{limited_drive, object_after, reached_drive}

-- ---- what is owed

-- no final report is owed
abbrev pub IsPaid : Progress → Type 0
IsPaid Progress.Answered = Unit {0}
IsPaid (Progress.Driving side since) = Unit {0}
IsPaid Progress.Arrived = ⊥
IsPaid Progress.TimedOut = ⊥

-- a link that is up has a full window
abbrev pub IsFull : LinkState → Type 0
IsFull link = is_up link.phase ≡ true → window_size ≤ length link.waiting

paid_so : (how : Progress) (point : PointState) → final_report how point ≡ None → IsPaid how
paid_so Progress.Answered point e = tt
paid_so (Progress.Driving side since) point e = tt
paid_so Progress.Arrived point e = absurd (none-some _ (sym e))
paid_so Progress.TimedOut point e = absurd (none-some _ (sym e))

answered_paid : (how : Progress) → IsPaid (answered how)
answered_paid Progress.Answered = tt
answered_paid (Progress.Driving side since) = tt
answered_paid Progress.Arrived = tt
answered_paid Progress.TimedOut = tt

none_owed : (how : Progress) (point : PointState) → IsPaid how → final_report how point ≡ None
none_owed Progress.Answered point paid_now = refl
none_owed (Progress.Driving side since) point paid_now = refl
none_owed Progress.Arrived point paid_now = absurd paid_now
none_owed Progress.TimedOut point paid_now = absurd paid_now

abbrev answer_by : Bool → Bool → Result Unit SendFault
answer_by is_link_up has_room = if is_link_up then (if has_room then Ok tt else Err SendFault.WindowFull) else Err SendFault.NotUp

module _ (now : ℕ) where
  -- a link that refused an item
  refused_full : (item : List ℕ) (link : LinkState) → is_ok (answer_to_send now link) ≡ false → IsFull (sending_item now item link).link
  unfolding sending_item answer_to_send acceptance
  refused_full item link denied = choose (is_ok (acceptance (entered now link).link)) denied
    where
      at : LinkState
      at = (entered now link).link

      full : is_ok (acceptance at) ≡ false → IsFull at
      full e up = by_room (is_up at.phase) up (nat_lt (length at.waiting) window_size) refl e
        where
          by_room : (a : Bool) → a ≡ true → (b : Bool) → nat_lt (length at.waiting) window_size ≡ b → is_ok (answer_by a b) ≡ false → window_size ≤ length at.waiting
          by_room true f true g h = absurd (false≢true (sym h))
          by_room true f false g h = ltb-false _ _ g
          by_room false f b g h = absurd (false≢true f)

      choose : (b : Bool) → b ≡ false → IsFull (if b then giving item at else stays_silent at).link
      choose true e = absurd (false≢true (sym e))
      choose false e = full denied

  tick_full : (link : LinkState) → IsFull link → IsFull (ticking now link).link
  unfolding ticking link_beating sending
  tick_full link full up = subst (λ (s : Step). is_up (link_beating s.link).link.phase ≡ true → window_size ≤ length (link_beating s.link).link.waiting) (sym opened.0) (choose (is_up at.phase && nat_le 300 (at.clock - at.sent_at))) up
    where
      at : LinkState
      at = record link { clock = now }

      opened : (entered now link ≡ stays_silent at) × (is_open link.phase ≡ true) × (now < deadline link)
      opened = tick_was_open now link (up_open _ up)

      choose : (b : Bool) → is_up (if b then sending Heartbeat at else stays_silent at).link.phase ≡ true → window_size ≤ length (if b then sending Heartbeat at else stays_silent at).link.waiting
      choose true u = full u
      choose false u = full u

  -- ---- what is paid

  abbrev IsDone : HostState PointState → Type 0
  IsDone host = IsPaid host.object.progress ⊎ IsFull host.link

  stays_paid : (most : ℕ) (host : HostState PointState) → IsPaid host.object.progress → (paying point_behaviour now most host).host.object.progress ≡ host.object.progress
  unfolding paying
  stays_paid zero host paid_now = refl
  stays_paid (suc most) host paid_now = ap (λ (o : Option Report). (if goes_on now o host then then_do (paying_first point_behaviour now o host) (paying point_behaviour now most) else paying_first point_behaviour now o host).host.object.progress)
      (none_owed host.object.progress host.object paid_now)

  pays_all : (most : ℕ) (host : HostState PointState) → is_completed host.stage ≡ true → IsDone (paying point_behaviour now (suc most) host).host
  unfolding paying posting
  pays_all most host completed = by_owed (point_behaviour.owed host.object) refl
    where
      by_owed : (o : Option Report) → point_behaviour.owed host.object ≡ o → IsDone (if goes_on now o host then then_do (paying_first point_behaviour now o host) (paying point_behaviour now most) else paying_first point_behaviour now o host).host
      by_owed None e = inl (paid_so host.object.progress host.object e)
      by_owed (Some report) e = by_tests (is_completed host.stage) completed (is_ok (answer_to_send now host.link)) refl
        where
          sent : HostSoFar PointState
          sent = posting now report host

          first : Bool → Bool → HostSoFar PointState
          first b d = if not b then silent (paid point_behaviour host) else (if d then record sent { host = paid point_behaviour sent.host } else sent)

          by_tests : (b : Bool) → b ≡ true → (d : Bool) → is_ok (answer_to_send now host.link) ≡ d → IsDone (if not b || d then then_do (first b d) (paying point_behaviour now most) else first b d).host
          by_tests true f true g = inl (subst IsPaid (sym (stays_paid most (paid point_behaviour sent.host) (answered_paid host.object.progress))) (answered_paid host.object.progress))
          by_tests true f false g = inr (refused_full _ host.link g)
          by_tests false f d g = absurd (false≢true f)

  paying_stage : (most : ℕ) (host : HostState PointState) → (paying point_behaviour now most host).host.stage ≡ host.stage
  unfolding paying posting
  paying_stage zero host = refl
  paying_stage (suc most) host = by_owed (point_behaviour.owed host.object) (paying_stage most (paying_first point_behaviour now (point_behaviour.owed host.object) host).host)
    where
      one : (o : Option Report) → (paying_first point_behaviour now o host).host.stage ≡ host.stage
      one None = refl
      one (Some report) = choose (is_completed host.stage) (is_ok (answer_to_send now host.link))
        where
          sent : HostSoFar PointState
          sent = posting now report host

          choose : (b d : Bool) → (if not b then silent (paid point_behaviour host) else (if d then record sent { host = paid point_behaviour sent.host } else sent)).host.stage ≡ host.stage
          choose false d = refl
          choose true true = refl
          choose true false = refl

      by_owed : (o : Option Report) → (paying point_behaviour now most (paying_first point_behaviour now o host).host).host.stage ≡ (paying_first point_behaviour now o host).host.stage
          → (if goes_on now o host then then_do (paying_first point_behaviour now o host) (paying point_behaviour now most) else paying_first point_behaviour now o host).host.stage ≡ host.stage
      by_owed o more = choose (goes_on now o host)
        where
          choose : (b : Bool) → (if b then then_do (paying_first point_behaviour now o host) (paying point_behaviour now most) else paying_first point_behaviour now o host).host.stage ≡ host.stage
          choose true = more ∙ one o
          choose false = one o

  -- ---- a step

  ends_done : (host : HostState PointState) → is_completed (ending point_behaviour host).stage ≡ true → (is_completed host.stage ≡ true → IsDone host) → IsDone (ending point_behaviour host)
  unfolding fallen keeping
  ends_done host completed before = choose (not (is_outside host.stage) && not (is_open host.link.phase)) completed
    where
      lost : HostState PointState
      lost = record host { stage = Stage.Outside; object = losing host.object }

      choose : (b : Bool) → is_completed (if b then lost else host).stage ≡ true → IsDone (keeping point_behaviour (if b then lost else host))
      choose true e = absurd (false≢true e)
      choose false e = before e

  pub step_done : (input : Input) (host : HostState PointState) → is_completed (host_step point_behaviour now input host).host.stage ≡ true
      → IsPaid (host_step point_behaviour now input host).host.object.progress ⊎ IsFull (host_step point_behaviour now input host).host.link
  unfolding host_step beating
  step_done input host completed = ends_done done completed (λ e. beats input told (pays_all 19 heard (ap is_completed (sym (beats_stage input told ∙ paying_stage 20 heard)) ∙ e)))
    where
      heard : HostState PointState
      heard = (given_in point_behaviour now input (beginning point_behaviour now host)).host

      told : HostState PointState
      told = (paying point_behaviour now most_owed heard).host

      done : HostState PointState
      done = (beating now input told).host

      beats : (i : Input) (h : HostState PointState) → IsDone h → IsDone (beating now i h).host
      beats Input.Tick h (inl paid_now) = inl paid_now
      beats Input.Tick h (inr full) = inr (tick_full h.link full)
      beats (Input.Datagram bytes) h d = d
      beats (Input.Sense contact) h d = d

      beats_stage : (i : Input) (h : HostState PointState) → (beating now i h).host.stage ≡ h.stage
      beats_stage Input.Tick h = refl
      beats_stage (Input.Datagram bytes) h = refl
      beats_stage (Input.Sense contact) h = refl

-- ---- the limit of a drive

-- a drive was there so before, or begins at this reading
abbrev pub IsNew : (Side → ℕ → Type 0) → ℕ → Progress → Type 0
IsNew Was now how = (side : Side) (since : ℕ) → how ≡ Progress.Driving side since → Was side since ⊎ (since ≡ now)

module _ (Was : Side → ℕ → Type 0) (now : ℕ) where
  answered_new : IsNew Was now Progress.Answered
  answered_new side since e = absurd (cc e)

  taken_new : (telegram : Telegram) (point : PointState) → IsNew Was now point.progress → IsNew Was now (taking now telegram point).progress
  taken_new telegram point before side since e = choose (move_taken telegram point) e
    where
      to : (s : Side) (b : Bool) → (if b then Progress.Arrived else Progress.Driving s now) ≡ Progress.Driving side since → Was side since ⊎ (since ≡ now)
      to s true f = absurd (cc f)
      to s false f = inr (sym (cc f))

      choose : (o : Option Side) → begun now point o ≡ Progress.Driving side since → Was side since ⊎ (since ≡ now)
      choose None f = before side since f
      choose (Some s) f = to s (is_at s point.sensed) f

  comes_new : (comes : List ObjectCall) (point : PointState) → AreComing now comes → IsNew Was now point.progress → IsNew Was now (object_after_all point_behaviour comes point).progress
  unfolding object_after_all
  comes_new [] point coming before = before
  comes_new (Takes at telegram ∷ others) point coming before = comes_new others (taking at telegram point) coming.1 (subst (λ (n : ℕ). IsNew Was now (taking n telegram point).progress) (sym coming.0) (taken_new telegram point before))
  comes_new (Senses at contact ∷ others) point coming before = comes_new others (sensing at contact point) coming.1 (sensed at contact)
    where
      sensed : (n : ℕ) (what : Sense) → IsNew Was now (sensing n what point).progress
      sensed n (Sense.Position position) side since e = before side since (limited_drive n point.progress side since (reached_drive position (limited n point.progress) side since e))
      sensed n (Sense.Section place occupancy) side since e = before side since e
  comes_new (Ticks at ∷ others) point coming before = absurd coming
  comes_new (Keeps moment ∷ others) point coming before = absurd coming
  comes_new (Pays ∷ others) point coming before = absurd coming
  comes_new (Loses ∷ others) point coming before = absurd coming

  pays_new : (pays : List ObjectCall) (point : PointState) → ArePayments pays → IsNew Was now point.progress → IsNew Was now (object_after_all point_behaviour pays point).progress
  unfolding object_after_all
  pays_new [] point are before = before
  pays_new (Pays ∷ others) point are before = pays_new others (drive.paying point) are (λ side since e. before side since (answered_drive point.progress side since e))
  pays_new (Takes at telegram ∷ others) point are before = absurd are
  pays_new (Ticks at ∷ others) point are before = absurd are
  pays_new (Senses at contact ∷ others) point are before = absurd are
  pays_new (Keeps moment ∷ others) point are before = absurd are
  pays_new (Loses ∷ others) point are before = absurd are

  -- after a step from where it is found
  pub found_new : (input : Input) (host : HostState PointState) → IsPointStep now input host (host_step point_behaviour now input host) → IsNew Was now (found_by now host).progress → IsNew Was now (host_step point_behaviour now input host).host.object.progress
  unfolding object_after_all
  found_new input host step found side since e = choose step.tells.is_lost (sym (object_after now input host step) ∙ e)
    where
      paid_now : PointState
      paid_now = object_after_all point_behaviour step.tells.pays (object_after_all point_behaviour step.tells.comes (found_by now host))

      choose : (b : Bool) → (object_after_all point_behaviour (loss_where b) paid_now).progress ≡ Progress.Driving side since → Was side since ⊎ (since ≡ now)
      choose true f = absurd (cc f)
      choose false f = pays_new step.tells.pays (object_after_all point_behaviour step.tells.comes (found_by now host)) step.tells.are_payments (comes_new step.tells.comes (found_by now host) step.tells.are_coming found) side since f

  -- after a step
  pub step_new : (input : Input) (host : HostState PointState) → IsPointStep now input host (host_step point_behaviour now input host) → IsNew Was now host.object.progress → IsNew Was now (host_step point_behaviour now input host).host.object.progress
  step_new input host step before = found_new input host step (by_lost (has_lost (record host { link = settled now host.link })) refl)
    where
      by_lost : (b : Bool) → has_lost (record host { link = settled now host.link }) ≡ b → IsNew Was now (found_by now host).progress
      by_lost true f = subst (λ (p : PointState). IsNew Was now p.progress) (sym (step.lost f)) (λ side since e. answered_new side since (limited_drive now Progress.Answered side since e))
      by_lost false f = subst (λ (p : PointState). IsNew Was now p.progress) (sym (step.stays f)) (λ side since e. before side since (limited_drive now host.object.progress side since e))

-- a drive hasn't come to its limit at this reading, or begins with it
abbrev pub IsFresh : ℕ → Progress → Type 0
IsFresh now how = IsNew (λ side since. nat_le (drive_end since) now ≡ false) now how

limited_fresh : (now : ℕ) (how : Progress) → IsFresh now (limited now how)
limited_fresh now Progress.Answered side since e = absurd (cc e)
limited_fresh now (Progress.Driving to from) side since e = choose (nat_le (drive_end from) now) refl e
  where
    choose : (b : Bool) → nat_le (drive_end from) now ≡ b → (if b then Progress.TimedOut else Progress.Driving to from) ≡ Progress.Driving side since → (nat_le (drive_end since) now ≡ false) ⊎ (since ≡ now)
    choose true f g = absurd (cc g)
    choose false f g = inl (subst (λ (n : ℕ). nat_le (drive_end n) now ≡ false) (cc g) f)
limited_fresh now Progress.Arrived side since e = absurd (cc e)
limited_fresh now Progress.TimedOut side since e = absurd (cc e)

pub step_fresh : (now : ℕ) (input : Input) (host : HostState PointState) → IsPointStep now input host (host_step point_behaviour now input host) → IsFresh now (host_step point_behaviour now input host).host.object.progress
step_fresh now input host step = found_new (λ side since. nat_le (drive_end since) now ≡ false) now input host step (by_lost (has_lost (record host { link = settled now host.link })) refl)
  where
    by_lost : (b : Bool) → has_lost (record host { link = settled now host.link }) ≡ b → IsFresh now (found_by now host).progress
    by_lost true f = subst (λ (p : PointState). IsFresh now p.progress) (sym (step.lost f)) (limited_fresh now Progress.Answered)
    by_lost false f = subst (λ (p : PointState). IsFresh now p.progress) (sym (step.stays f)) (limited_fresh now host.object.progress)
