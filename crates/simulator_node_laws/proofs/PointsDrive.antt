-- A step in which nothing comes leaves a point driven as it was.
use Rattle.std.proofs.Common.{◌≡◌, ℕ, zero, suc, ◌<◌, Bool, true, false, Option, Some, None, refl, sym, ap, ◌∙◌, arith, if◌then◌else◌}
use Rattle.std.specs.Prelude.{◌&&◌, not, is_none, is_ok, nat_le, nat_lt}
use Rattle.std.proofs.lemmas.Bool.Decides.{nat_tests}
use Rattle.std.proofs.lemmas.Option.{none-some}
use Rattle.simulator_spec.specs.sci_telegram.declared.message.Position.{Position}
use Rattle.simulator_spec.specs.sci_telegram.declared.message.Side.{Side}
use Rattle.simulator_spec.specs.rasta_core.Calls.{answer_to_send}
use Rattle.simulator_spec.specs.rasta_core.Clock.{alive_until, deadline, settled}
use Rattle.simulator_spec.specs.rasta_core.Parameters.{connection_limit}
use Rattle.simulator_spec.specs.rasta_core.State.{LinkState, is_open}
use Rattle.simulator_spec.specs.object_host.Host.{HostState, HostSoFar, is_completed, is_outside, keeping, silent, then_do}
use Rattle.simulator_spec.specs.object_host.Step.{beginning, ending, goes_on, host_step, paid, paying, paying_first, posting}
use Rattle.simulator_spec.specs.object_host.declared.report.Report.{Report}
use Rattle.simulator_spec.specs.object_host.declared.stage.Stage.{Stage}
use Rattle.simulator_spec.specs.object_host.declared.stage.Stage.TheVariants as stage
use Rattle.simulator_spec.specs.point_ctl.Controlled.{point_behaviour}
use Rattle.simulator_spec.specs.point_ctl.Drive.{PointState, answered, drive_end, driven, drives, final_report, limited, move_in, owing}
use Rattle.simulator_spec.specs.point_ctl.declared.progress.Progress.{Progress}
use Rattle.simulator_spec.specs.point_ctl.declared.progress.Progress.TheVariants.{Answered, Driving, Arrived, TimedOut}
use Rattle.simulator_spec.specs.Happens.{coming}
use Rattle.simulator_node_laws.specs.Contacts.{noise}
use Rattle.simulator_node_laws.proofs.Noise.{begun_is, begun_where, fallen_is, fallen_where, is_lost, lost_closed, noise_is_quiet, quiet_step, settled_is, settled_where}
use Rattle.simulator_node_laws.proofs.PointsAgain.{IsKept}

-- ---- a point that isn't driven

answered_still : (progress : Progress) → move_in progress ≡ None → move_in (answered progress) ≡ None
answered_still Answered still = refl
answered_still (Driving side since) still = still
answered_still Arrived still = refl
answered_still TimedOut still = refl

still_undriven : (now until : ℕ) (progress : Progress) → move_in progress ≡ None → driven now until progress ≡ None
still_undriven now until Answered still = refl
still_undriven now until (Driving side since) still = absurd (none-some side (sym still))
still_undriven now until Arrived still = refl
still_undriven now until TimedOut still = refl

first_still : (now : ℕ) (host : HostState PointState) (owed : Option Report) → move_in host.object.progress ≡ None → move_in (paying_first point_behaviour now owed host).host.object.progress ≡ None
unfolding posting
first_still now host None still = still
first_still now host (Some report) still = by_tests (not (is_completed host.stage)) (is_ok (answer_to_send now host.link)) where
  by_tests : (one other : Bool)
      → move_in (if one then silent (paid point_behaviour host) else
      let sent = posting now report host
      in if other then record sent { host = paid point_behaviour sent.host } else sent).host.object.progress ≡ None
  by_tests true other = answered_still host.object.progress still
  by_tests false true = answered_still host.object.progress still
  by_tests false false = still

paying_still : (now more : ℕ) (host : HostState PointState) → move_in host.object.progress ≡ None → move_in (paying point_behaviour now more host).host.object.progress ≡ None
unfolding paying
paying_still now zero host still = still
paying_still now (suc more) host still = cases (goes_on now (owing host.object) host) (paying_still now more (paying_first point_behaviour now (owing host.object) host).host (first_still now host (owing host.object) still)) where
  cases : (test : Bool)
      → move_in (paying point_behaviour now more (paying_first point_behaviour now (owing host.object) host).host).host.object.progress ≡ None
      → move_in (let first = paying_first point_behaviour now (owing host.object) host
      in if test then then_do first (paying point_behaviour now more) else first).host.object.progress ≡ None
  cases true later = later
  cases false later = first_still now host (owing host.object) still

ending_still : (now : ℕ) (host : HostState PointState) → move_in host.object.progress ≡ None → drives now (ending point_behaviour host).object ≡ None
unfolding keeping
ending_still now host still = ap (λ (h : HostState PointState). drives now (keeping point_behaviour h).object) (fallen_is point_behaviour host)
    ∙ cases (not (is_outside host.stage) && not (is_open host.link.phase)) where
      cases : (test : Bool) → drives now (keeping point_behaviour (fallen_where point_behaviour test host)).object ≡ None
      cases true = refl
      cases false = still_undriven now (alive_until host.link) host.object.progress still

quiet_still : (now : ℕ) (host : HostState PointState) → move_in (beginning point_behaviour now host).object.progress ≡ None → drives now (ending point_behaviour (quiet_step point_behaviour now host).host).object ≡ None
quiet_still now host still = ending_still now (quiet_step point_behaviour now host).host (paying_still now _ (beginning point_behaviour now host) still)

-- ---- a drive that goes on

-- what is paid where this is owed
abbrev paying_owed : ℕ → ℕ → HostState PointState → Option Report → HostSoFar PointState
paying_owed now more host owed =
    let first = paying_first point_behaviour now owed host
    in if goes_on now owed host then then_do first (paying point_behaviour now more) else first

no_report : (now more : ℕ) (host : HostState PointState) (side : Side) (since : ℕ) → host.object.progress ≡ Driving side since → paying point_behaviour now more host ≡ silent host
unfolding paying
no_report now zero host side since is = refl
no_report now (suc more) host side since is = ap (paying_owed now more host) (ap (λ p. final_report p host.object) is)

never : (one : Bool) → (one && false) ≡ false
never true = refl
never false = refl

both_false : (one other : Bool) → one ≡ false → (one && other) ≡ false
both_false one other is = ap (λ b. b && other) is

undriven_past : (now until : ℕ) (progress : Progress) → nat_lt now until ≡ false → driven now until progress ≡ None
undriven_past now until Answered past = refl
undriven_past now until (Driving side since) past = ap (λ b. if nat_lt now (drive_end since) && b then Some side else None) past ∙ ap (λ b. if b then Some side else None) (never (nat_lt now (drive_end since)))
undriven_past now until Arrived past = refl
undriven_past now until TimedOut past = refl

late_when_closed : (now : ℕ) (link : LinkState) → is_open link.phase ≡ true → is_open (settled now link).phase ≡ false → nat_le (deadline link) now ≡ true
late_when_closed now link inside closed = cases (nat_le (deadline link) now) refl where
  test : (late : Bool) → nat_le (deadline link) now ≡ late → is_open (settled_where late now link).phase ≡ false
  test late is = sym (ap (λ (l : LinkState). is_open l.phase) (settled_is now link ∙ ap (λ b. settled_where (b && nat_le (deadline link) now) now link) inside ∙ ap (λ b. settled_where b now link) is)) ∙ closed

  cases : (late : Bool) → nat_le (deadline link) now ≡ late → nat_le (deadline link) now ≡ true
  cases true is = is
  cases false is = absurd (none (sym inside ∙ test false is)) where
    none : true ≡ false → ⊥
    none e = cc (e)

alive_past : (now : ℕ) (link : LinkState) → nat_le (deadline link) now ≡ true → nat_lt now (alive_until link) ≡ false
unfolding alive_until
alive_past now link late = grind (arith, nat_tests)

lost_was : (outside inside was : Bool) → (not outside && not inside) ≡ true → outside ≡ not was → was ≡ true
lost_was true inside was lost out = absurd (none lost) where
  none : false ≡ true → ⊥
  none e = cc (e)
lost_was false inside true lost out = refl
lost_was false inside false lost out = absurd (none out) where
  none : false ≡ true → ⊥
  none e = cc (e)

stays_open : (outside inside : Bool) → (not outside && not inside) ≡ false → outside ≡ false → inside ≡ true
stays_open outside true stays out = refl
stays_open outside false stays out = absurd (none (sym (ap (λ b. not b && true) out) ∙ stays)) where
  none : true ≡ false → ⊥
  none e = cc (e)

completed_inside : (at : Stage) → is_completed at ≡ true → is_outside at ≡ false
completed_inside stage.Outside completed = absurd (none completed) where
  none : false ≡ true → ⊥
  none e = cc (e)
completed_inside stage.AwaitsCheck completed = refl
completed_inside stage.AwaitsRequest completed = refl
completed_inside stage.Completed completed = refl
completed_inside stage.Refused completed = refl

same_end : (now : ℕ) (link : LinkState) → alive_until (record link { clock = now }) ≡ alive_until link
unfolding alive_until deadline
same_end now link = refl

alive_settled : (now : ℕ) (link : LinkState) → is_open (settled now link).phase ≡ true → alive_until (settled now link) ≡ alive_until link
alive_settled now link inside = ap alive_until (settled_is now link) ∙ cases (is_open link.phase && nat_le (deadline link) now) (sym (ap (λ (l : LinkState). is_open l.phase) (settled_is now link)) ∙ inside) where
  cases : (test : Bool) → is_open (settled_where test now link).phase ≡ true → alive_until (settled_where test now link) ≡ alive_until link
  cases true is = absurd (none is) where
    none : false ≡ true → ⊥
    none e = cc (e)
  cases false is = same_end now link

-- ---- a step in which nothing comes

module _ (now : ℕ) (host : HostState PointState) (position : Position) (kept : IsKept host position) where
  abbrev Drives : Type 0
  Drives = drives now (ending point_behaviour (quiet_step point_behaviour now host).host).object ≡ drives now host.object

  begun_at : (test : Bool) → is_lost point_behaviour now host ≡ test → beginning point_behaviour now host ≡ begun_where point_behaviour test now host
  begun_at test is = begun_is point_behaviour now host ∙ ap (λ b. begun_where point_behaviour b now host) is

  -- the clock rules have lost the link: its moment has come
  when_lost : is_lost point_behaviour now host ≡ true → Drives
  when_lost lost = quiet_still now host (ap (λ (h : HostState PointState). move_in h.object.progress) (begun_at true lost))
      ∙ sym (undriven_past now host.object.until host.object.progress (ap (nat_lt now) kept.until ∙ alive_past now host.link late))
    where
      late : nat_le (deadline host.link) now ≡ true
      late = late_when_closed now host.link (lost_was (is_outside host.stage) (is_open (settled now host.link).phase) (is_open host.link.phase) lost kept.hosted.outside)
          (lost_closed (is_outside host.stage) (is_open (settled now host.link).phase) lost)

  -- what is so of it is so of a point that isn't driven
  when_still : is_lost point_behaviour now host ≡ false → (progress : Progress) → host.object.progress ≡ progress → move_in (limited now progress) ≡ None → driven now host.object.until progress ≡ None → Drives
  when_still stays progress is still undriven =
      quiet_still now host (ap (λ (h : HostState PointState). move_in h.object.progress) (begun_at false stays) ∙ ap (λ p. move_in (limited now p)) is ∙ still)
      ∙ sym (ap (driven now host.object.until) is ∙ undriven)

  completed : (side : Side) (since : ℕ) → host.object.progress ≡ Driving side since → is_completed host.stage ≡ true
  completed side since is = cases (is_completed host.stage) refl where
    cases : (test : Bool) → is_completed host.stage ≡ test → is_completed host.stage ≡ true
    cases true so = so
    cases false so = absurd (none (sym (ap (λ p. is_none (move_in p)) is) ∙ kept.hosted.idle so)) where
      none : false ≡ true → ⊥
      none e = cc (e)

  abbrev begun : HostState PointState
  begun = begun_where point_behaviour false now host

  when_driving : is_lost point_behaviour now host ≡ false → (side : Side) (since : ℕ) → host.object.progress ≡ Driving side since → nat_le (drive_end since) now ≡ false → Drives
  unfolding keeping
  when_driving stays side since is before =
      ap (λ (h : HostState PointState). drives now (ending point_behaviour h).object) (ap (λ (p : HostSoFar PointState). p.host) (no_report now _ (beginning point_behaviour now host) side since begun_drives) ∙ begun_at false stays)
      ∙ ap (λ (h : HostState PointState). drives now (keeping point_behaviour h).object) (fallen_is point_behaviour begun ∙ ap (λ b. fallen_where point_behaviour b begun) stays)
      ∙ ap (λ p. driven now (alive_until (settled now host.link)) p) same_progress
      ∙ ap (λ n. driven now n host.object.progress) (alive_settled now host.link inside ∙ sym kept.until)
    where
      same_progress : limited now host.object.progress ≡ host.object.progress
      same_progress = ap (limited now) is ∙ ap (λ b. if b then TimedOut else Driving side since) before ∙ sym is

      begun_drives : (beginning point_behaviour now host).object.progress ≡ Driving side since
      begun_drives = ap (λ (h : HostState PointState). h.object.progress) (begun_at false stays) ∙ same_progress ∙ is

      inside : is_open (settled now host.link).phase ≡ true
      inside = stays_open (is_outside host.stage) (is_open (settled now host.link).phase) stays (completed_inside host.stage (completed side since is))

  when_kept : is_lost point_behaviour now host ≡ false → (progress : Progress) → host.object.progress ≡ progress → Drives
  when_kept stays Answered is = when_still stays Answered is refl refl
  when_kept stays (Driving side since) is = cases (nat_le (drive_end since) now) refl where
    cases : (test : Bool) → nat_le (drive_end since) now ≡ test → Drives
    cases true past = when_still stays (Driving side since) is (ap (λ b. move_in (if b then TimedOut else Driving side since)) past)
        (ap (λ b. if b then Some side else None) (both_false (nat_lt now (drive_end since)) (nat_lt now host.object.until) over))
      where
        over : nat_lt now (drive_end since) ≡ false
        over = grind (arith, nat_tests)
    cases false before = when_driving stays side since is before
  when_kept stays Arrived is = when_still stays Arrived is refl refl
  when_kept stays TimedOut is = when_still stays TimedOut is refl refl

  quiet_drives : Drives
  quiet_drives = cases (is_lost point_behaviour now host) refl where
    cases : (test : Bool) → is_lost point_behaviour now host ≡ test → Drives
    cases true lost = when_lost lost
    cases false stays = when_kept stays host.object.progress refl

pub noise_drives : (now : ℕ) (host : HostState PointState) (position : Position) → IsKept host position → host.link.sent < connection_limit
    → drives now (host_step point_behaviour now (coming noise) host).host.object ≡ drives now host.object
noise_drives now host position kept few = ap (λ (h : HostState PointState). drives now h.object) (noise_is_quiet point_behaviour now host kept.hosted few).0 ∙ quiet_drives now host position kept
