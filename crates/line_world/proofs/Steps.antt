-- A process's step, for what it is called and as an occasion.
use Rattle.std.proofs.Common.{◌≡◌, ◌⊎◌, ◌∙◌, ⊎_elim, inl, inr, ℕ, Option, Some, ap, refl, subst, sym}
use Rattle.std.specs.Prelude.{IfSome}
use Rattle.line_host.specs.Host.{HostState, emptied, writes}
use Rattle.line_host.specs.Sites.{kept_file}
use Rattle.line_host.specs.declared.input.Input.{Input}
use Rattle.line_host.specs.declared.input.Input.TheVariants as inputs
use Rattle.line_laws.specs.End.{File, Seen, file_of}
use Rattle.line_laws.specs.declared.words.Position.{Position}
use Rattle.line_world.specs.Events.{occasion_of}
use Rattle.line_world.specs.Happens.{file_after, input_of, process_after}
use Rattle.line_world.specs.State.{EndRun}
use Rattle.line_world.specs.inside.AtWork.{IsAtWork}
use Rattle.rasta_core.specs.Ends.{reading_of}
use Rattle.line_world.proofs.Below.{given, host_step, ticked}

pub same_step : (now : ℕ) (input : Input) (seen : Seen) (process : HostState) → host_step now (input_of (occasion_of input)) seen process ≡ host_step now input seen process
unfolding host_step given ticked
same_step now inputs.Tick seen process = refl
same_step now (inputs.Datagram bytes) seen process = refl
same_step now inputs.Look seen process = refl

pub same_writes : (now : ℕ) (input : Input) (seen : Seen) (process : HostState) → writes now (input_of (occasion_of input)) seen process ≡ writes now input seen process
unfolding given
same_writes now inputs.Tick seen process = refl
same_writes now (inputs.Datagram bytes) seen process = refl
same_writes now inputs.Look seen process = refl

-- ---- in the code

-- an end that has stepped and kept its file
abbrev pub stepped_end : EndRun → Input → Seen → HostState → EndRun
stepped_end end input seen process = record {
  process = Some (process_after (occasion_of input) seen end process);
  file = file_after (occasion_of input) seen end process;
  clock = end.clock;
}

abbrev pub IsSteppedEnd : EndRun → Input → Seen → EndRun → HostState → Type 0
IsSteppedEnd end input seen new process = new ≡ stepped_end end input seen process

pub stepped_so : (old inside : EndRun) (input : Input) (seen : Seen) (process next : HostState) (written : Option File) (file : File) → inside ≡ old → inside.process ≡ Some process
    → next ≡ host_step (reading_of inside.clock) input seen (emptied process) → written ≡ writes (reading_of inside.clock) input seen (emptied process) → file ≡ kept_file written inside.file
    → IfSome old.process (IsSteppedEnd old input seen (record { process = Some next; file = file; clock = inside.clock }))
stepped_so old inside input seen process next written file same is next-is written-is file-is =
    let now : ℕ = reading_of inside.clock
    in let new : EndRun = record { process = Some next; file = file; clock = inside.clock }
    in let with_process : HostState → EndRun = λ h. record { process = Some h; file = file; clock = inside.clock }
    in let with_file : File → EndRun = λ f. record { process = Some (process_after (occasion_of input) seen inside process); file = f; clock = inside.clock }
    in let both : IsSteppedEnd inside input seen new process =
    ap with_process (next-is ∙ sym (same_step now input seen (emptied process)))
    ∙ ap with_file (file-is ∙ ap (λ (w : Option File). kept_file w inside.file) (written-is ∙ sym (same_writes now input seen (emptied process))))
    in subst (λ (e : EndRun). IfSome e.process (IsSteppedEnd e input seen new)) same
    (subst (λ (o : Option HostState). IfSome o (IsSteppedEnd inside input seen new)) (sym is) both)

pub lock_so : (old inside : EndRun) (process next : HostState) (written : Option File) (file : File) (drive : Option Position) → inside ≡ old → inside.process ≡ Some process
    → IfSome inside.process (IsAtWork inside.clock inside.file) → file ≡ kept_file written inside.file
    → ((f : File) → f ≡ file_of process.end.end → kept_file written f ≡ file_of next.end.end)
    → (next.end.end.lock ≡ process.end.end.lock) ⊎ (drive ≡ Some next.end.end.lock) → (file.lock ≡ old.file.lock) ⊎ (drive ≡ Some file.lock)
lock_so old inside process next written file drive same is work file-is keeps moved =
    let kept : inside.file ≡ file_of process.end.end = (subst (λ (o : Option HostState). IfSome o (IsAtWork inside.clock inside.file)) is work).kept
    in let new : file ≡ file_of next.end.end = file-is ∙ keeps inside.file kept
    in ⊎_elim (λ stays. inl (ap (λ (f : File). f.lock) new ∙ (stays ∙ (sym (ap (λ (f : File). f.lock) kept) ∙ ap (λ (e : EndRun). e.file.lock) same))))
    (λ driven. inr (driven ∙ ap Some (sym (ap (λ (f : File). f.lock) new)))) moved
