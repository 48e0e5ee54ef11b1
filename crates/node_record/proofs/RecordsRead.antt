-- What the first line and those after it tell, together.
use Rattle.std.proofs.Common.{◌≡◌, ◌==◌, ◌∙◌, ℕ, Bool, true, false, List, Result, Ok, Err, ap, subst, sym}
use Rattle.std.specs.Prelude.{IsErrAnd}
use Rattle.std.specs.List.{enumerate_from}
use Rattle.control_table.specs.layout.Entries.{Site}
use Rattle.replay_lines.specs.Text.{FailsAt, Tells, Unless}
use Rattle.replay_lines.specs.declared.text.SessionFault.{SessionFault}
use Rattle.replay_words.specs.Cut.{words}
use Rattle.replay_words.specs.Fault.{number_of}
use Rattle.replay_words.specs.declared.fault.Fault.{Fault}
use Rattle.replay_words.specs.declared.fault.Fault.TheVariants.{Memory}
use Rattle.node_record.specs.RecordLines.{Line}
use Rattle.node_record.specs.Records.{behind_first, first_of, head_said, joined, lines_said, record_said, whole_lines}
use Rattle.node_record.specs.declared.record.Record.{Record}
use Rattle.node_record.specs.declared.record_head.Head.{Head}
use Rattle.node_record.specs.inside.RecordsRead.{said}

unless : {P : Type 0} (b : Bool) → P → Unless b P
unless true so = tt
unless false so = so

unless_so : {P Q : Type 0} (b : Bool) → (P → Q) → Unless b P → Unless b Q
unless_so true on so = tt
unless_so false on so = on so

faulty : (all : Result (Head × List Line) SessionFault) (fault : SessionFault) (answer : Result Record SessionFault) → FailsAt fault.line fault.number all → IsErrAnd answer (λ told. told ≡ fault)
    → Tells said all answer
faulty all fault (Ok read) fails told = absurd told
faulty all fault (Err other) fails told = subst (λ (f : SessionFault). FailsAt f.line f.number all) (sym told) fails

module _ (site : Site) (name text first : List ℕ) (lines : List (ℕ × List ℕ)) (lines_are : lines ≡ enumerate_from 1 (whole_lines text)) (first_is : first ≡ first_of lines) where
  -- what the record tells, by what was taken of it
  taken : (head : Result Head Fault) → head ≡ head_said site name (words first) → joined head (lines_said site (behind_first lines)) ≡ record_said site name text
  taken head head_is =
      ap (λ h. joined h (lines_said site (behind_first lines))) (head_is ∙ ap (λ f. head_said site name (words f)) first_is)
      ∙ ap (λ (l : List (ℕ × List ℕ)). joined (head_said site name (words (first_of l))) (lines_said site (behind_first l))) lines_are

  -- the first line is faulty
  pub head_faulty : (fault : Fault) (number : ℕ) → Err fault ≡ head_said site name (words first) → number ≡ number_of fault → Tells said (record_said site name text) (Err (record { line = 1; number = number }))
  head_faulty fault number head_is number_is =
      unless (number == number_of Memory) (sym (taken (Err fault) head_is) ∙ ap (λ n. Err (record { line = 1; number = n })) (sym number_is))

  -- one after it is
  pub later_faulty : (head : Head) (left : List (ℕ × List ℕ)) (fault : SessionFault) (answer : Result Record SessionFault) → Ok head ≡ head_said site name (words first) → left ≡ behind_first lines
      → FailsAt fault.line fault.number (lines_said site left) → IsErrAnd answer (λ told. told ≡ fault) → Tells said (record_said site name text) answer
  later_faulty head left fault answer head_is left_is fails told =
      faulty (record_said site name text) fault answer
      (unless_so (fault.number == number_of Memory) (λ so. sym (taken (Ok head) head_is) ∙ ap (joined (Ok head)) (ap (λ l. lines_said site l) (sym left_is) ∙ so)) fails) told
