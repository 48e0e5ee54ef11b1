use Rattle.std.proofs.Common.{◌≡◌, ◌∙◌, ◌==◌, [], ap, length, refl, string_bytes, sym, Option}
use Rattle.std.specs.Option.{option_map, unwrap_or}
use Rattle.std.specs.Prelude.{codes}
use Rattle.control_table.specs.layout.declared.ids.SectionId.{SectionId}
use Rattle.control_table.specs.layout.Entries.{Site}
use Rattle.station_layout.specs.Names.{point_name, section_name, spaced, with_word}
use Rattle.station_layout.specs.Row.{IsLetGoAt, name_there, point_at}
use Rattle.station_layout.proofs.Joined.{first_joined, none_joined, some_joined, told_behind}
use Rattle.station_layout.proofs.ListingLaws.{none_told, one_told}
use Rattle.station_layout.proofs.points_let_go.add_let_go.Goals as goal

pub returns-then-is_empty : goal.returns-then-is_empty
returns-then-is_empty c =
    let l = c.args.table.now in
    let told = c.in_ok-points.ensures in
    let empty = ap (λ n. n == 0) (sym c.in_ok-points.points.bytes.ok.0) ∙ sym c.is_empty.ensures ∙ c.if-is_empty.true in (
      none_told (λ k. IsLetGoAt l c.args.path.route c.args.path.sections.now c.args.place (point_at k)) (λ k text. text ≡ point_name l (point_at k)) (length l.points) told.0 told.1
          (none_joined (codes " ") (string_bytes c.in_ok-points.points) told.0 told.2 empty),
      refl,
    )

pub returns : goal.returns
returns c =
    let l = c.args.table.now in
    let sections = c.args.path.sections.now in
    let told = c.in_ok-points.ensures in
    let filled = ap (λ n. n == 0) (sym c.in_ok-points.points.bytes.ok.0) ∙ sym c.is_empty.ensures ∙ c.if-is_empty.false in
    let some = some_joined (codes " ") (string_bytes c.in_ok-points.points) told.0 told.2 filled in
    let one = one_told (λ k. IsLetGoAt l c.args.path.route sections c.args.place (point_at k)) (λ k text. text ≡ point_name l (point_at k)) (length l.points) told.0 told.1 some in
    let named = c.written.ensures ∙ c.section_name-section.ensures ∙ ap (λ (l : Site). section_name l c.section_at.result) c.layout.ensures.entries
    ∙ ap (λ (found : Option SectionId). unwrap_or (option_map (section_name l) found) []) (sym c.section_at.ensures) in
    let name = name_there l sections c.args.place in
    let behind = c.as_str.ensures.value ∙ told.2 ∙ first_joined (codes ": ") (codes " ") told.0 some in (
      one,
      (
        with_word name (spaced told.0),
        (told.0, told.1, refl),
        told_behind (string_bytes c.args.cell.now) c.args.before.now c.written.result.now name c.as_str.result.now (spaced told.0) (string_bytes c.add.new.cell) (string_bytes c.push_str.new.self)
            c.in_ok-add.ensures named c.in_ok-push_str.ensures.bytes behind,
      ),
    )
