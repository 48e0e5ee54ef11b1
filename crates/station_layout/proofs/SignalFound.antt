-- The first signal at a port, looked for place by place.
use Rattle.std.proofs.Common.{◌≡◌, ◌∙◌, ℕ, ◌+◌, ◌<◌, ◌≤◌, true, false, cond, get_or, List, ◌∷◌, length, drop, Option, Some, None, ap, sym}
use Rattle.std.proofs.Math.ListN.{drop_of_length-le}
use Rattle.std.proofs.lemmas.Iterator.Adapters.{position_from-zero}
use Rattle.std.proofs.lemmas.List.{drop_more}
use Rattle.std.specs.List.{position, position_from}
use Rattle.control_table.specs.layout.Known.{same_port}
use Rattle.control_table.specs.layout.declared.entries.Signal.{Signal}
use Rattle.control_table.specs.layout.declared.port.Port.{Port}

module _ (port : Port) where
  pub begins : (signals : List Signal) → position_from (λ s. same_port s.at port) 0 signals ≡ position (λ s. same_port s.at port) signals
  begins signals = sym (position_from-zero (λ s. same_port s.at port) signals)

  -- what is left begins with the signal at this place
  next : (signals : List Signal) (place : ℕ) (signal : Signal) → place < length signals → signal ≡ get_or signals place signal
      → position_from (λ s. same_port s.at port) place (drop place signals)
      ≡ cond (same_port signal.at port) (Some place) (position_from (λ s. same_port s.at port) (place + 1) (drop (place + 1) signals))
  next signals place signal within at =
      ap (λ left. position_from (λ s. same_port s.at port) place left)
      (drop_more signals place signal within ∙ ap (λ s. s ∷ drop (place + 1) signals) (sym at))

  pub found : (signals : List Signal) (place : ℕ) (signal : Signal) (whole : Option ℕ) → place < length signals → signal ≡ get_or signals place signal
      → same_port signal.at port ≡ true → position_from (λ s. same_port s.at port) place (drop place signals) ≡ whole → Some place ≡ whole
  found signals place signal whole within at here so =
      sym (next signals place signal within at
      ∙ ap (λ b. cond b (Some place) (position_from (λ s. same_port s.at port) (place + 1) (drop (place + 1) signals))) here) ∙ so

  pub goes_on : (signals : List Signal) (place : ℕ) (signal : Signal) (whole : Option ℕ) → place < length signals → signal ≡ get_or signals place signal
      → same_port signal.at port ≡ false → position_from (λ s. same_port s.at port) place (drop place signals) ≡ whole
      → position_from (λ s. same_port s.at port) (place + 1) (drop (place + 1) signals) ≡ whole
  goes_on signals place signal whole within at elsewhere so =
      sym (next signals place signal within at
      ∙ ap (λ b. cond b (Some place) (position_from (λ s. same_port s.at port) (place + 1) (drop (place + 1) signals))) elsewhere) ∙ so

  pub nowhere : (signals : List Signal) (place : ℕ) (whole : Option ℕ) → length signals ≤ place
      → position_from (λ s. same_port s.at port) place (drop place signals) ≡ whole → None ≡ whole
  nowhere signals place whole past so = sym (ap (λ left. position_from (λ s. same_port s.at port) place left) (drop_of_length-le signals past)) ∙ so
