use Rattle.std.proofs.Common.{◌∙◌, ap, refl, string_bytes}
use Rattle.control_table.specs.layout.Entries.{Site}
use Rattle.station_layout.specs.Names.{route_name as name_of, spaced, with_word}
use Rattle.station_layout.specs.Reasons.{reason_words}
use Rattle.station_layout.proofs.Joined.{on_ok, worded_added}
use Rattle.station_layout.proofs.conflicts.add_conflict.Goals as goal

pub returns : goal.returns
returns c =
    let name = name_of c.args.table.now c.args.other in
    let words = spaced (reason_words c.reasons.result) in
    let named = c.written.ensures ∙ c.route_name-name.ensures.text ∙ ap (λ (l : Site). name_of l c.args.other) c.layout.ensures.entries in
    on_ok c.add_reasons.result (λ told. (
      with_word name words,
      (c.reasons.result, c.reasons.ensures, refl),
      worded_added (string_bytes c.args.cell.now) c.args.before.now c.written.result.now name words (string_bytes c.add.new.cell) (string_bytes c.push_str.new.self) (string_bytes c.add_reasons.new.cell)
          c.in_ok-add.ensures named c.in_ok-push_str.ensures.bytes told,
    )) c.add_reasons.ensures
