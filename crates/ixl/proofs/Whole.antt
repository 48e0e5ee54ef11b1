-- A whole step.
use Rattle.std.proofs.Common.{◌≡◌, ℕ, ◌+◌, arith, refl, sym, ◌∙◌, subst}
use Rattle.ixl_state.specs.rasta_pdu.declared.key.Key.{Key}
use Rattle.ixl_state.specs.rasta_core.Outbox.{OutboxState}
use Rattle.ixl_state.specs.ixl_spec.StepSoFar.{StepSoFar, begun_with, empty_outbox, over}
use Rattle.ixl_state.specs.ixl_spec.Rules.{count, ruled}
use Rattle.ixl_state.specs.ixl_spec.State.{IxlState}
use Rattle.ixl_state.specs.ixl_spec.Step.{Commands, Datagram, Input, Reply, Tick, all_clocked, given, reply, stepped, ticked, watching}
use Rattle.ixl_state.specs.ixl_spec.Table.{Table}
use Rattle.ixl_state.specs.ixl_table.Table.{SitedTable}
use Rattle.ixl_state.specs.First.{key_of}
use Rattle.ixl.specs.Interlocking.{HasStepped, InterlockingState, step_of}
use Rattle.ixl_state.specs.State.{Goes, StateView}
use Rattle.ixl.specs.inside.Parts.{Passes, answer_in}
use Rattle.ixl.proofs.StepParts.{goes_then, leads_at, part_at, passed_site}

abbrev pub settled_state : ℕ → StateView → StateView
settled_state now old = record old { ixl = all_clocked now old.ixl }

abbrev pub watched : Table → StepSoFar → StepSoFar
watched table = over (watching table) (count table)

from_settled : (now : ℕ) (key : Key) (input : Input) (old heard seen : StateView) (ruled_state new : StateView) (box one two out : OutboxState) →
    Goes now 30 (given now old.sited.table key input) (settled_state now old) box heard one → Passes now (watched heard.sited.table) heard seen →
    Goes now 4352 (ruled now seen.sited.table) seen one ruled_state two → Goes now 160 (ticked now input) ruled_state two new out →
    Goes now 4542 (stepped now old.sited.table key input) old box new out
unfolding stepped
from_settled now key input old heard seen ruled_state new box one two out hears watches rules ticks =
    let watching_here : Passes now (watched old.sited.table) heard seen = subst (λ (p : SitedTable). Passes now (watched p.table) heard seen) hears.sited watches
    in let ruling_here : Goes now 4352 (ruled now old.sited.table) seen one ruled_state two =
    subst (λ (p : SitedTable). Goes now 4352 (ruled now p.table) seen one ruled_state two) (passed_site now (watched heard.sited.table) heard seen watches ∙ hears.sited) rules
    in let whole : Goes now (30 + 0 + 4352 + 160) (λ part. ticked now input (ruled now old.sited.table (watched old.sited.table (given now old.sited.table key input part)))) (settled_state now old) box new out =
    goes_then now (30 + 0 + 4352) 160 (λ part. ruled now old.sited.table (watched old.sited.table (given now old.sited.table key input part))) (ticked now input) (settled_state now old) box ruled_state two new out
    (goes_then now (30 + 0) 4352 (λ part. watched old.sited.table (given now old.sited.table key input part)) (ruled now old.sited.table) (settled_state now old) box seen one ruled_state two
    (goes_then now 30 0 (given now old.sited.table key input) (watched old.sited.table) (settled_state now old) box heard one seen one hears (watching_here one)) ruling_here) ticks
    in record {
      leads = leads_at (stepped now old.sited.table key input) old.ixl box new.ixl out (λ calls acted. whole.leads (part_at (all_clocked now old.ixl) box calls acted) refl refl);
      sited = whole.sited;
      clock = whole.clock;
      capacity = whole.capacity;
      few = omega (arith, whole.few);
    }

pub step_goes : (now : ℕ) (key : Key) (input : Input) (old settled heard seen ruled_state new : StateView) (box one two out : OutboxState) → settled ≡ settled_state now old →
    Goes now 30 (given now settled.sited.table key input) settled box heard one → Passes now (watched heard.sited.table) heard seen →
    Goes now 4352 (ruled now seen.sited.table) seen one ruled_state two → Goes now 160 (ticked now input) ruled_state two new out →
    Goes now 4542 (stepped now old.sited.table key input) old box new out
step_goes now key input old settled heard seen ruled_state new box one two out is hears watches rules ticks =
    from_settled now key input old heard seen ruled_state new box one two out
    (subst (λ (s : StateView). Goes now 30 (given now s.sited.table key input) s box heard one) is hears) watches rules ticks

-- what is answered
answer_is : (now : ℕ) (table : Table) (key : Key) (input : Input) (ixl : IxlState) → answer_in now table key input (all_clocked now ixl) ≡ reply now table key input ixl
unfolding reply
answer_is now table key Tick ixl = refl
answer_is now table key (Datagram bytes) ixl = refl
answer_is now table key (Commands command) ixl = refl

pub step_answers : (now : ℕ) (key : Key) (input : Input) (old settled : StateView) (answer : Reply) → settled ≡ settled_state now old →
    answer ≡ answer_in now settled.sited.table key input settled.ixl → answer ≡ reply now old.sited.table key input old.ixl
step_answers now key input old settled answer is told =
    subst (λ (s : StateView). answer ≡ answer_in now s.sited.table key input s.ixl) is told ∙ answer_is now old.sited.table key input old.ixl

-- a step of an interlocking
pub has_stepped : (now : ℕ) (key : Key) (input : Input) (old new : InterlockingState) (box : OutboxState) (answer : Reply) → key ≡ key_of old.state.sited.site → box ≡ empty_outbox →
    Goes now 4542 (stepped now old.state.sited.table key input) old.state box new.state new.outbox → answer ≡ reply now old.state.sited.table key input old.state.ixl →
    HasStepped now input old new answer
has_stepped now key input old new box answer key_is box_is goes told =
    let here : Goes now 4542 (stepped now old.state.sited.table (key_of old.state.sited.site) input) old.state empty_outbox new.state new.outbox =
    subst (λ (b : OutboxState). Goes now 4542 (stepped now old.state.sited.table (key_of old.state.sited.site) input) old.state b new.state new.outbox) box_is
    (subst (λ (k : Key). Goes now 4542 (stepped now old.state.sited.table k input) old.state box new.state new.outbox) key_is goes)
    in let comes : ((step_of now input old.state).ixl ≡ new.state.ixl) × ((step_of now input old.state).outbox ≡ new.outbox) = here.leads (begun_with old.state.ixl empty_outbox) refl refl
    in record {
      sited = here.sited;
      ixl = sym comes.0;
      outbox = sym comes.1;
      clock = here.clock;
      answered = subst (λ (k : Key). answer ≡ reply now old.state.sited.table k input old.state.ixl) key_is told;
    }
