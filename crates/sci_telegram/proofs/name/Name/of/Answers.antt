-- The field that was written holds the name.
use Rattle.std.proofs.Common.{rules, subst, sym, ap, ◌∙◌, arith}
use Rattle.sci_telegram.specs.Names.{IsName, IsNameField, name_in}
use Rattle.sci_telegram.proofs.Names.{held, name_in-name_field, written}
use Rattle.sci_telegram.proofs.name.Name.of.Goals as goal

pub invariant_of-result : goal.invariant_of-result
invariant_of-result c =
    let name = c.args.bytes.now in
    let is_name : IsName name = record { some = search rules; most = omega arith; each = search rules } in
    subst IsNameField (sym (written name c.copy_from_slice.new.self c.copy_from_slice.ensures.after)) (held name is_name)

pub returns-clause-value : goal.returns-clause-value
returns-clause-value c =
    let name = c.args.bytes.now in
    let is_name : IsName name = record { some = search rules; most = omega arith; each = search rules } in
    ap name_in (written name c.copy_from_slice.new.self c.copy_from_slice.ensures.after) ∙ name_in-name_field name is_name
