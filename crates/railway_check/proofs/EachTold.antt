-- The line of each fault is told.
use Rattle.std.proofs.Common.{◌≡◌, ◌∙◌, ◌<◌, ℕ, zero, suc, Bool, false, not, List, [], ◌∷◌, ◌++◌, ap, append_assoc, arith, length, slice_index_or, sym}
use Rattle.railway_layout.specs.declared.fault.RailwayFault.{RailwayFault}
use Rattle.railway_layout.specs.Written.{RailwayText}
use Rattle.railway_check.specs.EachTold.{HasPart, TellsEach}
use Rattle.railway_check.specs.FaultLines.{all_told, fault_line, fault_lines, is_of_layout, told_of, words_line}
use Rattle.railway_check.specs.RailwayVerdict.{AreFaults, IsVerdict}
use Rattle.railway_check.specs.StationTexts.{all_faults}
use Rattle.railway_check.specs.Verdicts.{VerdictState, told_if}

-- what is told behind another text
behind : (front text part : List ℕ) → HasPart text part → HasPart (front ++ text) part
behind front text part has = (front ++ has.0, has.1, ap (λ s. front ++ s) has.2 ∙ sym (append_assoc front has.0 (part ++ has.1)))

module _ (explained : Bool) (text : RailwayText) where
  -- the lines of a fault begin with its own
  own : (f : RailwayFault) → is_of_layout f ≡ false → told_of explained text f ≡ fault_line f ++ told_if explained (words_line text f)
  own f outside = ap (λ b. told_if (not b) (fault_lines explained text f)) outside

  told_at : (faults : List RailwayFault) (k : ℕ) (f : RailwayFault) → k < length faults → slice_index_or faults k f ≡ f → is_of_layout f ≡ false → HasPart (all_told explained text faults) (fault_line f)
  told_at [] k f lt at outside = absurd (omega (arith, lt))
  told_at (g ∷ gs) zero f lt at outside =
      let more = told_if explained (words_line text f) in
      let rest = all_told explained text gs in
      ([], more ++ rest, ap (λ s. s ++ rest) (ap (told_of explained text) at ∙ own f outside) ∙ append_assoc (fault_line f) more rest)
  told_at (g ∷ gs) (suc k) f lt at outside = behind (told_of explained text g) (all_told explained text gs) (fault_line f) (told_at gs k f (omega (arith, lt)) at outside)

pub each_told : (explained : Bool) (text : RailwayText) (layouts : List (List ℕ)) (verdicts : List VerdictState) (verdict : VerdictState)
    → IsVerdict explained text layouts verdicts verdict → (faults : List RailwayFault) × AreFaults text layouts faults × TellsEach faults verdict.err
each_told explained text layouts verdicts verdict is =
    let faults = is.0 in (
      faults,
      is.1,
      λ f at outside.
          let stations = all_faults verdicts text.stations in
          let has = behind stations (all_told explained text faults) (fault_line f) (told_at explained text faults at.0 f at.1 at.2 outside) in
          (has.0, has.1, ap (λ (v : VerdictState). v.err) is.2 ∙ has.2),
    )
