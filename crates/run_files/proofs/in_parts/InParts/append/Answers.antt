use Rattle.std.proofs.Common.{◌≡◌, ◌≤◌, ◌∙◌, Bool, false, List, ℕ, take, ap, subst, arith}
use Rattle.std.specs.Option.{option_map}
use Rattle.run_files.specs.Parts.{with_opened, written}
use Rattle.run_files.specs.Written.{IsKept, Writer}
use Rattle.run_files.specs.inside.Pieces.{piece}
use Rattle.run_files.proofs.Known.{parts_behind}
use Rattle.run_files.proofs.Written.{take_fewer}
use Rattle.run_files.proofs.in_parts.InParts.append.Goals as goal

pub returns-clause-parts : goal.returns-clause-parts
returns-clause-parts g c =
    let bytes = c.args.bytes.now in
    let taken = c.in_ok-taken.taken in
    let inside = c.self.inside in
    let files = g.P.PartFiles.parts inside.files in
    let after = g.P.PartFiles.parts c.append.new.self in
    let full : inside.full ≡ false = ap (λ (w : Writer). w.full) c.self.view_is ∙ c.requires in
    let kept : IsKept inside.size inside.missing false files = subst (λ (b : Bool). IsKept inside.size inside.missing b files) full c.self.invariant in
    let cut = c.piece.ensures.piece in
    let within = c.split_at.ensures.front_len in
    let bound = c.in_ok-taken.ensures.bound in
    let few : taken ≤ c.piece.result = omega (arith, within, bound) in
    let fewer : taken ≤ piece inside.missing bytes = omega (arith, few, cut) in
    subst (λ (w : Writer). after ≡ option_map (written w.size (take taken bytes)) w.parts) c.self.view_is
    (c.in_ok-taken.ensures.bytes
    ∙ ap (λ (l : List ℕ). option_map (with_opened l) files) (ap (take taken) c.split_at.ensures.front ∙ take_fewer taken c.piece.result bytes few)
    ∙ parts_behind inside.size inside.missing bytes taken files kept fewer)
