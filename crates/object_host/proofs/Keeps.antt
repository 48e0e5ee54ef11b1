-- What a step keeps, and that the clock rules may have been applied before it.
use Rattle.std.proofs.Common.{◌≡◌, ◌≤◌, ℕ, Bool, true, false, nat_le, not, ◌&&◌, if◌then◌else◌, arith, refl, ap, sym, ◌∙◌}
use Rattle.std.proofs.lemmas.Bool.{false≢true}
use Rattle.std.proofs.lemmas.Bool.Decides.{nat_tests}
use Rattle.rasta_core.specs.State.{LinkState, is_open}
use Rattle.rasta_core.specs.Clock.{deadline, settled}
use Rattle.rasta_core.specs.phase.Phase.TheVariants as phase
use Rattle.object_host.specs.Behaviour.{Behaviour}
use Rattle.object_host.specs.Host.{HostState, fallen, is_completed, is_outside, then_do}
use Rattle.object_host.specs.Hosted.{IsNamedAs}
use Rattle.object_host.specs.Step.{beating, beginning, ending, given, host_step, most_owed, paying}
use Rattle.object_host.specs.declared.input.Input.{Input}
use Rattle.object_host.specs.declared.stage.Stage.TheVariants as stage
use Rattle.object_host.proofs.Closed.{settled_is}
use Rattle.object_host.proofs.Says.{given_says}
use Rattle.object_host.proofs.Told.{beating_same, ending_names, open_stage, pays_all}

-- the clock rules twice are the clock rules once, at the later reading
past : (a b c : ℕ) → a ≤ b → nat_le c a ≡ true → nat_le c b ≡ true
past a b c later at = grind (arith, nat_tests)

settled_late : (now : ℕ) (link : LinkState) → is_open link.phase ≡ true → nat_le (deadline link) now ≡ true →
    settled now link ≡ record link { phase = phase.Closed; closed_at = deadline link; clock = now }
unfolding settled
settled_late now link opened late = rw (opened, late) refl

settled_early : (now : ℕ) (link : LinkState) → is_open link.phase ≡ true → nat_le (deadline link) now ≡ false → settled now link ≡ record link { clock = now }
unfolding settled
settled_early now link opened early = rw (opened, early) refl

alive_then : (earlier : ℕ) (link : LinkState) → deadline (record link { clock = earlier }) ≡ deadline link
unfolding deadline
alive_then earlier link = refl

settled_from : (earlier now : ℕ) (link : LinkState) → settled now (record link { clock = earlier }) ≡ settled now link
unfolding settled
settled_from earlier now link =
    ap (λ alive. if is_open link.phase && nat_le alive now then record link { phase = phase.Closed; closed_at = alive; clock = now } else record link { clock = now })
    (alive_then earlier link)

settled_twice : (earlier now : ℕ) (link : LinkState) → earlier ≤ now → settled now (settled earlier link) ≡ settled now link
settled_twice earlier now link later = cases (is_open link.phase) (nat_le (deadline link) earlier) refl refl where
  cases : (o b : Bool) → is_open link.phase ≡ o → nat_le (deadline link) earlier ≡ b → settled now (settled earlier link) ≡ settled now link
  cases false b closed at = ap (settled now) (settled_is earlier link closed) ∙ settled_from earlier now link
  cases true true opened at =
      ap (settled now) (settled_late earlier link opened at)
      ∙ settled_is now (record link { phase = phase.Closed; closed_at = deadline link; clock = earlier }) refl
      ∙ sym (settled_late now link opened (past earlier now (deadline link) later at))
  cases true false opened at = ap (settled now) (settled_early earlier link opened at) ∙ settled_from earlier now link

module _ {Object : Type 0} (does : Behaviour Object) where
  pub step_settles_first : (earlier now : ℕ) (input : Input) (host : HostState Object) → earlier ≤ now →
      host_step does now input (record host { link = settled earlier host.link }) ≡ host_step does now input host
  unfolding host_step beginning
  step_settles_first earlier now input host later =
      ap (λ link.
      let begun = record (fallen does (record host { link = link })) { object = does.after_tick now (fallen does (record host { link = link })).object }
      in let heard = given does now input begun
      in let told = then_do heard (paying does now most_owed)
      in let done = then_do told (beating now input)
      in record done { host = ending does done.host })
      (settled_twice earlier now host.link later)

  begun_names : (now : ℕ) (host : HostState Object) → IsNamedAs host (beginning does now host)
  unfolding beginning fallen
  begun_names now host = cases (not (is_outside host.stage) && not (is_open (settled now host.link).phase)) where
    clocked : HostState Object
    clocked = record host { link = settled now host.link }

    after : Bool → HostState Object
    after b = if b then record clocked { stage = stage.Outside; object = does.after_loss clocked.object } else clocked

    cases : (b : Bool) → IsNamedAs host (record (after b) { object = does.after_tick now (after b).object })
    cases true = record { own_name = refl; peer_name = refl; version = refl }
    cases false = record { own_name = refl; peer_name = refl; version = refl }

  begun_stage : (now : ℕ) (host : HostState Object) → is_open (settled now host.link).phase ≡ true → (beginning does now host).stage ≡ host.stage
  unfolding beginning fallen
  begun_stage now host opened = cases (is_outside host.stage) (is_open (settled now host.link).phase) opened where
    clocked : HostState Object
    clocked = record host { link = settled now host.link }

    cases : (o p : Bool) → p ≡ true → (if not o && not p then record clocked { stage = stage.Outside; object = does.after_loss clocked.object } else clocked).stage ≡ host.stage
    cases true p is = refl
    cases false true is = refl
    cases false false is = absurd (false≢true is)

  pub step_names : (now : ℕ) (input : Input) (host : HostState Object) → IsNamedAs host (host_step does now input host).host
  unfolding host_step
  step_names now input host =
      let begun = beginning does now host
      in let heard = given does now input begun
      in let told = then_do heard (paying does now most_owed)
      in let done = then_do told (beating now input)
      in let first = begun_names now host
      in let says = given_says does now input begun
      in let payment = pays_all does now most_owed heard.host
      in let beat = beating_same does now input told.host
      in let last = ending_names does done.host
      in record {
        own_name = last.own_name ∙ beat.own_name_is ∙ payment.own_name_is ∙ says.own_name_is ∙ first.own_name;
        peer_name = last.peer_name ∙ beat.peer_name_is ∙ payment.peer_name_is ∙ says.peer_name_is ∙ first.peer_name;
        version = last.version ∙ beat.version_is ∙ payment.version_is ∙ says.version_is ∙ first.version;
      }

  pub step_completed : (now : ℕ) (input : Input) (host : HostState Object) → is_open (settled now host.link).phase ≡ true → is_completed host.stage ≡ true →
      is_open (host_step does now input host).host.link.phase ≡ true → is_completed (host_step does now input host).host.stage ≡ true
  unfolding host_step
  step_completed now input host opened completed open_after =
      let begun = beginning does now host
      in let heard = given does now input begun
      in let told = then_do heard (paying does now most_owed)
      in let done = then_do told (beating now input)
      in ap is_completed (open_stage does done.host open_after ∙ (beating_same does now input told.host).stage_is ∙ (pays_all does now most_owed heard.host).stage_is)
      ∙ (given_says does now input begun).stays (ap is_completed (begun_stage now host opened) ∙ completed)
