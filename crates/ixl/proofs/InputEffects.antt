-- What each kind of input does.
use Rattle.std.proofs.Common.{◌≡◌, ℕ, List, arith, refl, sym, subst}
use Rattle.std.specs.Prelude.{Ok, Err}
use Rattle.ixl_state.specs.rasta_core.Outbox.{OutboxState}
use Rattle.ixl_state.specs.rasta_pdu.PduRead.{reading}
use Rattle.ixl_state.specs.rasta_pdu.declared.fault.PduFault.{PduFault}
use Rattle.ixl_state.specs.rasta_pdu.declared.key.Key.{Key}
use Rattle.ixl_state.specs.rasta_pdu.declared.pdu.Pdu.{Pdu}
use Rattle.ixl_state.specs.ixl_spec.Step.{Commands, Datagram, Tick, given, ticked}
use Rattle.ixl_state.specs.ixl_spec.Table.{Table}
use Rattle.ixl_state.specs.ixl_spec.declared.command.Command.{Command}
use Rattle.ixl.specs.Interlocking.{meant}
use Rattle.ixl.specs.declared.input.Input.{Input as GivenInput}
use Rattle.ixl.specs.declared.input.Input.TheVariants as inputs
use Rattle.ixl_state.specs.State.{AllAt, Goes, StateView, heard_from}
use Rattle.ixl.proofs.StepParts.{goes_as, goes_nowhere, goes_within, leads_at, part_at}

-- a tick gives nothing
pub tick_given : (now : ℕ) (table : Table) (key : Key) (old : StateView) (box : OutboxState) → AllAt now old → Goes now 30 (given now table key Tick) old box old box
unfolding given
tick_given now table key old box at = goes_nowhere now 30 (given now table key Tick) old box at (λ part is_ixl is_box. (is_ixl, is_box))

-- a PDU goes to the node of its sender
pub pdu_given : (now : ℕ) (table : Table) (key : Key) (bytes : List ℕ) (pdu : Pdu) (old : StateView) (box : OutboxState) (new : StateView) (out : OutboxState) → Ok pdu ≡ reading key bytes →
    Goes now 30 (heard_from now table bytes pdu.sender) old box new out → Goes now 30 (given now table key (Datagram bytes)) old box new out
unfolding given
pdu_given now table key bytes pdu old box new out is goes = goes_as now 30 (heard_from now table bytes pdu.sender) (given now table key (Datagram bytes)) old box new out
    (λ leads. leads_at (given now table key (Datagram bytes)) old.ixl box new.ixl out (λ calls acted. rw (← is) (leads (part_at old.ixl box calls acted) refl refl))) goes

-- bytes that are no PDU go nowhere
pub fault_given : (now : ℕ) (table : Table) (key : Key) (bytes : List ℕ) (fault : PduFault) (old : StateView) (box : OutboxState) → AllAt now old → Err fault ≡ reading key bytes →
    Goes now 30 (given now table key (Datagram bytes)) old box old box
unfolding given
fault_given now table key bytes fault old box at is =
    goes_nowhere now 30 (given now table key (Datagram bytes)) old box at (leads_at (given now table key (Datagram bytes)) old.ixl box old.ixl box (λ calls acted. rw (← is) (refl, refl)))

-- a command hands out what a move does at most
pub command_given : (now : ℕ) (table : Table) (key : Key) (command : Command) (old : StateView) (box : OutboxState) (new : StateView) (out : OutboxState) →
    ((k : Key) → Goes now 2 (given now table k (Commands command)) old box new out) → Goes now 30 (given now table key (Commands command)) old box new out
command_given now table key command old box new out goes = goes_within now 2 30 (given now table key (Commands command)) old box new out (omega arith) (goes key)

-- what isn't a tick is over
pub not_ticked : (now : ℕ) (input : GivenInput) (old : StateView) (box : OutboxState) → AllAt now old → (input ≡ inputs.Tick → ⊥) → Goes now 160 (ticked now (meant input)) old box old box
unfolding ticked
not_ticked now inputs.Tick old box at other = absurd (other refl)
not_ticked now (inputs.Datagram bytes) old box at other = goes_nowhere now 160 (ticked now (Datagram bytes.now)) old box at (λ part is_ixl is_box. (is_ixl, is_box))
not_ticked now (inputs.Command command) old box at other = goes_nowhere now 160 (ticked now (Commands command)) old box at (λ part is_ixl is_box. (is_ixl, is_box))

-- of the input as the code has it
pub given_as : (now : ℕ) (table : Table) (key : Key) (one other : GivenInput) (old : StateView) (box : OutboxState) (new : StateView) (out : OutboxState) → one ≡ other →
    Goes now 30 (given now table key (meant other)) old box new out → Goes now 30 (given now table key (meant one)) old box new out
given_as now table key one other old box new out is goes = subst (λ (i : GivenInput). Goes now 30 (given now table key (meant i)) old box new out) (sym is) goes
