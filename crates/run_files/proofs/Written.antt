-- What a call of a writer has written.
use Rattle.std.proofs.Common.{◌≡◌, ◌≤◌, ◌∙◌, ℕ, zero, suc, List, [], ◌∷◌, length, take, Option, Result, Ok, Err, refl, ap, arith}
use Rattle.std.proofs.lemmas.List.{length-take-le}
use Rattle.std.specs.Option.{option_map}
use Rattle.std.specs.Prelude.{IfOk, OnErr}
use Rattle.std.specs.Io.KnownBytes.{WriteAppends}
use Rattle.run_files.specs.Parts.{Parts, ready, written}
use Rattle.run_files.specs.Written.{Writer, text_of}
use Rattle.run_files.proofs.Known.{appends_written, keeps_ready, ready_written}

pub take_fewer : (few many : ℕ) (xs : List ℕ) → few ≤ many → take few (take many xs) ≡ take few xs
take_fewer zero many xs h = refl
take_fewer (suc few) zero [] h = refl
take_fewer (suc few) (suc many) [] h = refl
take_fewer (suc few) zero (x ∷ xs) h = absurd (omega (arith, h))
take_fewer (suc few) (suc many) (x ∷ xs) h = ap (λ (l : List ℕ). x ∷ l) (take_fewer few many xs (omega (arith, h)))

module _ (size : ℕ) (bytes : List ℕ) (old : Option Parts) (mid new : Writer) (made : mid.parts ≡ option_map (ready size) old) where
  -- behind a part that was made ready so many bytes were written
  written_ready : (taken : ℕ) → taken ≤ length bytes → 1 ≤ taken → new.parts ≡ option_map (written size (take taken bytes)) mid.parts → new.parts ≡ option_map (written size (take taken bytes)) old
  written_ready taken few some is =
      let count = length-take-le taken bytes few in
      is ∙ ap (option_map (written size (take taken bytes))) made ∙ ready_written size (take taken bytes) old (omega (arith, count, some))

  pub parts_written : {E : Type 0} (result : Result ℕ E) → IfOk result (λ taken. taken ≤ length bytes) → IfOk result (λ taken. 1 ≤ taken)
      → IfOk result (λ taken. new.parts ≡ option_map (written size (take taken bytes)) mid.parts)
      → IfOk result (λ taken. new.parts ≡ option_map (written size (take taken bytes)) old)
  parts_written (Ok taken) few some is = written_ready taken few some is
  parts_written (Err error) few some is = tt

  pub text_appended : {E : Type 0} (result : Result ℕ E) → IfOk result (λ taken. taken ≤ length bytes) → IfOk result (λ taken. 1 ≤ taken)
      → IfOk result (λ taken. new.parts ≡ option_map (written size (take taken bytes)) mid.parts) → OnErr result (new ≡ mid)
      → WriteAppends (text_of old) (text_of new.parts) result bytes
  text_appended (Ok taken) few some is none = appends_written size (take taken bytes) old new.parts (written_ready taken few some is)
  text_appended (Err error) few some is none = keeps_ready size old new.parts (ap (λ (w : Writer). w.parts) none ∙ made)
