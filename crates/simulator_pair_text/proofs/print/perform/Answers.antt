use Rattle.std.proofs.Common.{IsOk, ap, sym, subst, ◌∙◌, List, ℕ, [], ◌++◌}
use Rattle.simulator_pair_text.specs.Flow.{Flowing}
use Rattle.simulator_pair_text.specs.Text.{run_of, said}
use Rattle.std.proofs.lemmas.Bool.{false≢true}
use Rattle.std.proofs.lemmas.List.{append-nil}
use Rattle.simulator_pair_text.specs.Transcript.{Transcript, nothing, beginning}
use Rattle.simulator_pair_text.proofs.Transcripts.{GoesOn, appends-none, appends-twice, appends-kept, goes-on-begins, goes-on-further, said-fault, said-line}
use Rattle.simulator_pair_text.proofs.Judged.{later_ok}
use Rattle.simulator_pair_text.proofs.print.perform.Goals as goal

pub loop-number-init : goal.loop-number-init
loop-number-init g c =
    let whole = run_of c.args.text.now
    in let start = subst (λ (lines : List (ℕ × List ℕ)). GoesOn whole [] beginning (said lines)) (sym (c.into_iter-number-iterator.ensures.into_iter_gives ∙ c.of-number-items.ensures)) (goes-on-begins whole)
    in (
      [],
      appends-none (g.W.Write.contents c.args.out.now),
      subst (λ (now : Flowing). GoesOn whole [] now (said c.into_iter-number-iterator.result)) (sym c.in_ok-run.ensures) start,
      subst (λ (lines : List (ℕ × List ℕ)). IsOk (said lines)) (sym (c.into_iter-number-iterator.ensures.into_iter_gives ∙ c.of-number-items.ensures)) c.requires,
    )

pub loop-number-preserved : goal.loop-number-preserved
loop-number-preserved g c =
    let before = c.loop-number.invariant
    in let wrote = c.in_ok-carry_out.ensures
    in let whole = run_of c.args.text.now
    in let line-said = said-line c.loop-number.number-iterator c.next.new.self c.in-Some.number c.in-Some.line.now c.in-Ok.said c.in-Some.ensures.steps (sym c.is_passed_over.ensures ∙ c.if-is_passed_over.false) (sym c.read_line.ensures ∙ c.in-Ok.is)
    in let so-far = subst (GoesOn whole before.0 c.loop-number.run) line-said before.2
    in (
      before.0 ++ wrote.0,
      appends-twice (g.W.Write.contents c.args.out.now) (g.W.Write.contents c.loop-number.out) (g.W.Write.contents c.carry_out.new.out) before.0 wrote.0 before.1 wrote.2,
      goes-on-further whole (said c.next.new.self) c.in-Some.number c.in-Ok.said before.0 wrote.0 c.loop-number.run c.carry_out.new.run so-far wrote.1,
      later_ok c.in-Some.number c.in-Ok.said (said c.next.new.self) (subst IsOk line-said before.3),
    )

pub returns-in-Err-clause-explains : goal.returns-in-Err-clause-explains
returns-in-Err-clause-explains g c =
    let fault-said = said-fault c.loop-number.number-iterator c.next.new.self c.in-Some.number c.in-Some.line.now c.in-Err.fault c.in-Some.ensures.steps (sym c.is_passed_over.ensures ∙ c.if-is_passed_over.false) (sym c.read_line.ensures ∙ c.in-Err.is)
    in absurd (false≢true (subst IsOk fault-said c.loop-number.invariant.3))

pub returns-clause-done : goal.returns-clause-done
returns-clause-done g c =
    let before = c.loop-number.invariant
    in let done = before.2 [] [] (ap said c.in-None.ensures.steps.0) nothing
    in record {
      lines = done.0;
      says = done.1;
      written = before.0;
      transcript = subst (Transcript beginning done.0) (append-nil before.0) done.2;
      appended = appends-kept (g.W.Write.contents c.args.out.now) (g.W.Write.contents c.loop-number.out) (g.W.Write.contents c.flush.new.self) before.0 before.1 c.in_ok-flush.ensures.bytes;
    }
