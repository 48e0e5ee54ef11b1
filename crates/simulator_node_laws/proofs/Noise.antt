-- A contact that changes nothing of its object leads a controller where noise leads it.
use Rattle.std.proofs.Common.{◌≡◌, ℕ, ◌<◌, Bool, true, false, [], ◌++◌, refl, sym, ap, subst, ◌∙◌, arith, if◌then◌else◌}
use Rattle.std.specs.Prelude.{◌&&◌, not, nat_le}
use Rattle.std.proofs.lemmas.Bool.Decides.{nat_tests}
use Rattle.std.proofs.lemmas.List.{append-nil}
use Rattle.simulator_spec.specs.rasta_core.Calls.{hearing_bytes, receiving}
use Rattle.simulator_spec.specs.rasta_core.Clock.{deadline, settled}
use Rattle.simulator_spec.specs.rasta_core.Parameters.{connection_limit}
use Rattle.simulator_spec.specs.rasta_core.Receipt.{Receipt, refusing}
use Rattle.simulator_spec.specs.rasta_core.PdusHandedOut.{Step, entered, limited, silent as link_silent, telling}
use Rattle.simulator_spec.specs.rasta_core.State.{LinkState, is_open}
use Rattle.simulator_spec.specs.rasta_core.phase.Phase.TheVariants as phase
use Rattle.simulator_spec.specs.rasta_core.reason.Reason.TheVariants as reason
use Rattle.simulator_spec.specs.rasta_core.verdict.Verdict.TheVariants as verdict
use Rattle.simulator_spec.specs.rasta_pdu.PduRead.{reading, text_of}
use Rattle.simulator_spec.specs.rasta_pdu.declared.fault.PduFault.TheVariants as faults
use Rattle.simulator_spec.specs.object_host.Behaviour.{Behaviour}
use Rattle.simulator_spec.specs.object_host.Host.{HostState, HostSoFar, fallen, is_outside, risen, silent, then_do}
use Rattle.simulator_spec.specs.object_host.Hosted.{IsHosted}
use Rattle.simulator_spec.specs.object_host.Step.{acting_all, beating, beginning, ending, given, hearing, host_step, most_owed, paying, received}
use Rattle.simulator_spec.specs.object_host.declared.input.Input.{Input}
use Rattle.simulator_spec.specs.object_host.declared.input.Input.TheVariants as inputs
use Rattle.simulator_spec.specs.object_host.declared.sense.Sense.{Sense}
use Rattle.simulator_spec.specs.object_host.declared.stage.Stage.TheVariants as stage
use Rattle.simulator_spec.specs.Happens.{coming}
use Rattle.simulator_node_laws.specs.Contacts.{IsAsNoise, noise}

-- ---- the link

abbrev pub closed_by : ℕ → LinkState → LinkState
closed_by now link = record link { phase = phase.Closed; closed_at = deadline link; clock = now }

abbrev pub settled_where : Bool → ℕ → LinkState → LinkState
settled_where true now link = closed_by now link
settled_where false now link = record link { clock = now }

pub settled_is : (now : ℕ) (link : LinkState) → settled now link ≡ settled_where (is_open link.phase && nat_le (deadline link) now) now link
unfolding settled
settled_is now link = cases (is_open link.phase && nat_le (deadline link) now) where
  cases : (test : Bool) → (if test then closed_by now link else record link { clock = now }) ≡ settled_where test now link
  cases true = refl
  cases false = refl

same_deadline : (now : ℕ) (link : LinkState) → deadline (record link { clock = now }) ≡ deadline link
unfolding deadline
same_deadline now link = refl

-- the clock rules do nothing twice
settled_twice : (now : ℕ) (link : LinkState) → settled now (settled now link) ≡ settled now link
settled_twice now link = ap (settled now) (settled_is now link) ∙ cases (is_open link.phase && nat_le (deadline link) now) refl ∙ sym (settled_is now link) where
  cases : (test : Bool) → (is_open link.phase && nat_le (deadline link) now) ≡ test → settled now (settled_where test now link) ≡ settled_where test now link
  cases true is = settled_is now (closed_by now link)
  cases false is = settled_is now (record link { clock = now })
      ∙ ap (λ n. settled_where (is_open link.phase && nat_le n now) now (record link { clock = now })) (same_deadline now link)
      ∙ ap (λ b. settled_where b now (record link { clock = now })) is

settled_sent : (now : ℕ) (link : LinkState) → (settled now link).sent ≡ link.sent
settled_sent now link = ap (λ (l : LinkState). l.sent) (settled_is now link) ∙ cases (is_open link.phase && nat_le (deadline link) now) where
  cases : (test : Bool) → (settled_where test now link).sent ≡ link.sent
  cases true = refl
  cases false = refl

-- a link that the clock rules leave open was open
pub settled_open : (now : ℕ) (link : LinkState) → is_open (settled now link).phase ≡ true → is_open link.phase ≡ true
settled_open now link inside = cases (is_open link.phase && nat_le (deadline link) now) (sym (ap (λ (l : LinkState). is_open l.phase) (settled_is now link)) ∙ inside) where
  cases : (test : Bool) → is_open (settled_where test now link).phase ≡ true → is_open link.phase ≡ true
  cases true is = absurd (none is) where
    none : false ≡ true → ⊥
    none e = cc (e)
  cases false is = is

not_limited : (link : LinkState) → link.sent < connection_limit → limited link ≡ link_silent link
unfolding limited
not_limited link few = ap (λ b. if b then telling reason.Sequence link else link_silent link) (neither (is_open link.phase) (nat_le connection_limit link.sent) past) where
  past : nat_le connection_limit link.sent ≡ false
  past = grind (arith, nat_tests)

  neither : (one other : Bool) → other ≡ false → (one && other) ≡ false
  neither true other is = is
  neither false other is = refl

-- a call at a link that is settled, and hasn't come to its limit of PDUs, begins with nothing
enters : (now : ℕ) (link : LinkState) → link.sent < connection_limit → entered now (settled now link) ≡ link_silent (settled now link)
unfolding entered
enters now link few = ap limited (settled_twice now link) ∙ not_limited (settled now link) (subst (λ n. n < connection_limit) (sym (settled_sent now link)) few)

hears_noise : (now : ℕ) (link : LinkState) → entered now link ≡ link_silent link → receiving now noise link ≡ refusing (verdict.Unreadable faults.TooShort) link
unfolding receiving hearing_bytes reading text_of
hears_noise now link same = ap (λ (begun : Step). record (refusing (verdict.Unreadable faults.TooShort) begun.link) { pdus = begun.pdus ++ [] }) same

-- ---- the host

pub lost_closed : (outside inside : Bool) → (not outside && not inside) ≡ true → inside ≡ false
lost_closed true inside lost = absurd (none lost) where
  none : false ≡ true → ⊥
  none e = cc (e)
lost_closed false true lost = absurd (none lost) where
  none : false ≡ true → ⊥
  none e = cc (e)
lost_closed false false lost = refl

kept_apart : (outside inside was : Bool) → (not outside && not inside) ≡ false → outside ≡ not was → (inside ≡ true → was ≡ true) → (outside && inside) ≡ false
kept_apart false inside was kept out opened = refl
kept_apart true false was kept out opened = refl
kept_apart true true was kept out opened = absurd (none (out ∙ ap not (opened refl))) where
  none : true ≡ false → ⊥
  none e = cc (e)

module _ {Object : Type 0} (does : Behaviour Object) where
  abbrev pub fallen_where : Bool → HostState Object → HostState Object
  fallen_where true host = record host { stage = stage.Outside; object = does.after_loss host.object }
  fallen_where false host = host

  pub fallen_is : (host : HostState Object) → fallen does host ≡ fallen_where (not (is_outside host.stage) && not (is_open host.link.phase)) host
  unfolding fallen
  fallen_is host = cases (not (is_outside host.stage) && not (is_open host.link.phase)) where
    cases : (test : Bool) → (if test then record host { stage = stage.Outside; object = does.after_loss host.object } else host) ≡ fallen_where test host
    cases true = refl
    cases false = refl

  -- how a step begins, by whether the clock rules have lost the link
  abbrev pub clocked : ℕ → HostState Object → HostState Object
  clocked now host = record host { link = settled now host.link }

  abbrev pub begun_where : Bool → ℕ → HostState Object → HostState Object
  begun_where test now host =
      let fell = fallen_where test (clocked now host)
      in record fell { object = does.after_tick now fell.object }

  abbrev pub is_lost : ℕ → HostState Object → Bool
  is_lost now host = not (is_outside host.stage) && not (is_open (settled now host.link).phase)

  pub begun_is : (now : ℕ) (host : HostState Object) → beginning does now host ≡ begun_where (is_lost now host) now host
  unfolding beginning
  begun_is now host = ap (λ (fell : HostState Object). record fell { object = does.after_tick now fell.object }) (fallen_is (clocked now host))

  pub begun_link : (now : ℕ) (host : HostState Object) → (beginning does now host).link ≡ settled now host.link
  begun_link now host = ap (λ (h : HostState Object). h.link) (begun_is now host) ∙ cases (is_lost now host) where
    cases : (test : Bool) → (begun_where test now host).link ≡ settled now host.link
    cases true = refl
    cases false = refl

  -- no host begins a step outside with a link that is open
  begun_apart : (now : ℕ) (host : HostState Object) → IsHosted does host → (is_outside (beginning does now host).stage && is_open (beginning does now host).link.phase) ≡ false
  begun_apart now host hosted = subst (λ (h : HostState Object). (is_outside h.stage && is_open h.link.phase) ≡ false) (sym (begun_is now host)) (cases (is_lost now host) refl) where
    cases : (test : Bool) → is_lost now host ≡ test → (is_outside (begun_where test now host).stage && is_open (begun_where test now host).link.phase) ≡ false
    cases true lost = lost_closed (is_outside host.stage) (is_open (settled now host.link).phase) lost
    cases false kept = kept_apart (is_outside host.stage) (is_open (settled now host.link).phase) (is_open host.link.phase) kept hosted.outside (settled_open now host.link)

  not_risen : (host : HostState Object) → (is_outside host.stage && is_open host.link.phase) ≡ false → risen host ≡ host
  unfolding risen
  not_risen host apart = ap (λ b. if b then record host { stage = stage.AwaitsCheck } else host) apart

  -- two parts of a step that leave the same
  record AreAlike (part same : HostSoFar Object) : Type 0 where
    host_is : part.host ≡ same.host
    pdus_are : part.pdus ≡ same.pdus

  alike_then : (part same : HostSoFar Object) (next : HostState Object → HostSoFar Object) → AreAlike part same → AreAlike (then_do part next) (then_do same next)
  alike_then part same next alike = record {
    host_is = ap (λ h. (next h).host) alike.host_is;
    pdus_are = ap (λ ps. ps ++ (next part.host).pdus) alike.pdus_are ∙ ap (λ h. same.pdus ++ (next h).pdus) alike.host_is;
  }

  silent_then : (host : HostState Object) (next : HostState Object → HostSoFar Object) → AreAlike (then_do (silent host) next) (next host)
  silent_then host next = record { host_is = refl; pdus_are = refl }

  both_alike : {one other third : HostSoFar Object} → AreAlike one other → AreAlike other third → AreAlike one third
  both_alike first second = record { host_is = first.host_is ∙ second.host_is; pdus_are = first.pdus_are ∙ second.pdus_are }

  noise_is_heard : (now : ℕ) (host : HostState Object) → entered now host.link ≡ link_silent host.link → (is_outside host.stage && is_open host.link.phase) ≡ false → AreAlike (hearing does now noise host) (silent host)
  unfolding hearing received acting_all
  noise_is_heard now host enters apart =
      subst (λ (r : Receipt). AreAlike (then_do (received now noise r host) (acting_all does now r.items)) (silent host)) (sym (hears_noise now host.link enters))
      (record { host_is = not_risen host apart; pdus_are = refl })

  -- a step in which nothing comes: the clock rules, the owed reports, and the end
  abbrev pub quiet_step : ℕ → HostState Object → HostSoFar Object
  quiet_step now host = paying does now most_owed (beginning does now host)

  -- what comes and does nothing leaves that
  ends_alike : (now : ℕ) (input : Input) (host : HostState Object) → ((other : HostState Object) → beating now input other ≡ silent other) → AreAlike (given does now input (beginning does now host)) (silent (beginning does now host))
      → ((host_step does now input host).host ≡ ending does (quiet_step now host).host) × ((host_step does now input host).pdus ≡ (quiet_step now host).pdus)
  unfolding host_step
  ends_alike now input host beats alike =
      let begun = beginning does now host
      in let paid = both_alike (alike_then (given does now input begun) (silent begun) (paying does now most_owed) alike) (silent_then begun (paying does now most_owed))
      in let told = then_do (given does now input begun) (paying does now most_owed)
      in (
        ap (λ (p : HostSoFar Object). ending does p.host) (beats told.host) ∙ ap (ending does) paid.host_is,
        ap (λ (p : HostSoFar Object). told.pdus ++ p.pdus) (beats told.host) ∙ append-nil told.pdus ∙ paid.pdus_are,
      )

  pub noise_is_quiet : (now : ℕ) (host : HostState Object) → IsHosted does host → host.link.sent < connection_limit
      → ((host_step does now (coming noise) host).host ≡ ending does (quiet_step now host).host) × ((host_step does now (coming noise) host).pdus ≡ (quiet_step now host).pdus)
  unfolding given beating
  noise_is_quiet now host hosted few = ends_alike now (coming noise) host (λ other. refl) (noise_is_heard now (beginning does now host) begins (begun_apart now host hosted)) where
    begins : entered now (beginning does now host).link ≡ link_silent (beginning does now host).link
    begins = subst (λ l. entered now l ≡ link_silent l) (sym (begun_link now host)) (enters now host.link few)

  same_is_quiet : (now : ℕ) (contact : Sense) (host : HostState Object) → does.after_sense now contact (beginning does now host).object ≡ (beginning does now host).object
      → ((host_step does now (inputs.Sense contact) host).host ≡ ending does (quiet_step now host).host) × ((host_step does now (inputs.Sense contact) host).pdus ≡ (quiet_step now host).pdus)
  unfolding given beating
  same_is_quiet now contact host same = ends_alike now (inputs.Sense contact) host (λ other. refl)
      (record { host_is = ap (λ o. record (beginning does now host) { object = o }) same; pdus_are = refl })

  pub same_is_noise : (now : ℕ) (contact : Sense) (host : HostState Object) → IsHosted does host → host.link.sent < connection_limit
      → does.after_sense now contact (beginning does now host).object ≡ (beginning does now host).object → IsAsNoise does now contact host
  same_is_noise now contact host hosted few same =
      let one = same_is_quiet now contact host same
      in let other = noise_is_quiet now host hosted few
      in record { host_is = one.0 ∙ sym other.0; pdus_are = one.1 ∙ sym other.1 }
