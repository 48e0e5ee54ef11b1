-- The text and the end of the code in what is written under the standard key.
use Rattle.std.proofs.Common.{◌≡◌, ℕ, ◌+◌, ◌-◌, List, ◌++◌, length, take, drop, refl, arith}
use Rattle.std.proofs.lemmas.List.{length-append, take_at}
use Rattle.std.proofs.Math.Seq.{drop-append-add}
use Rattle.md4.specs.Md4.{digest}
use Rattle.rasta_pdu.specs.declared.pdu.Pdu.{Pdu}
use Rattle.rasta_pdu.specs.SafetyCode.{code}
use Rattle.rasta_pdu.specs.Spelling.{text, writing}
use Rattle.rasta_pdu_speed.specs.Passes.{standard}

length-code : (front : List ℕ) → length (code standard front) ≡ 8
unfolding code digest
length-code front = refl

length-with_code : (front : List ℕ) → length (front ++ code standard front) ≡ length front + 8
length-with_code front = omega (arith, length-append front (code standard front), length-code front)

module _ (pdu : Pdu) (bytes : List ℕ) (is : bytes ≡ writing standard pdu) where
  pub before_code-written : take (length bytes - 8) bytes ≡ text pdu
  unfolding writing
  before_code-written =
      rw is (take_at (text pdu) (code standard (text pdu)) _ (omega (arith, length-with_code (text pdu))))

  pub code_end-written : drop (length bytes - 4) bytes ≡ drop 4 (code standard (text pdu))
  unfolding writing
  code_end-written =
      let place : length (text pdu ++ code standard (text pdu)) - 4 ≡ length (text pdu) + 4 = omega (arith, length-with_code (text pdu)) in
      rw (is, place) (drop-append-add (text pdu) (code standard (text pdu)) 4)
