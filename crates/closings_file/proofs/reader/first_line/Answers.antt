use Rattle.std.proofs.Common.{◌∙◌, ◌+◌, ◌-◌, ℕ, List, ◌∷◌, length, take, drop, sym, ap, take_all, length-drop, arith}
use Rattle.std.specs.List.{slice_split}
use Rattle.closings_file.specs.Texts.{ends_line}
use Rattle.closings_file.proofs.Bytes.{first_line, no_line}
use Rattle.closings_file.proofs.reader.first_line.Goals as goal

pub returns-in-None-clause-none : goal.returns-in-None-clause-none
returns-in-None-clause-none c = no_line c.args.text.now (sym c.in-None.ensures.value)

pub returns-in-Some-clause-line : goal.returns-in-Some-clause-line
returns-in-Some-clause-line c =
    let text = c.args.text.now in
    let end = c.in-Some.end in
    first_line text end (sym c.in-Some.ensures.value)
    ∙ ap (λ (t : List ℕ). take end text ∷ slice_split ends_line t) (sym (take_all (length text - (end + 1)) (drop (end + 1) text) (omega (arith, length-drop (end + 1) text))))
