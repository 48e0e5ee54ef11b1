use Rattle.std.proofs.Common.{◌∙◌, ap}
use Rattle.station_node.proofs.Taken.{is_kept_whole}
use Rattle.station_node.proofs.with_file.WithFileOutside.keep.Goals as goal

pub returns-clause-kept : goal.returns-clause-kept
returns-clause-kept g c =
    let before = c.args.self.now in
    is_kept_whole before.layout.now before.takeover c.args.all before.keeper c.note.new.self.keeper (g.P.Place.calls before.place) (g.P.Place.calls c.note.new.self.place) c.note.result
    c.all_to_keep-all.result c.keep_all-kept.result c.all_to_keep-all.ensures
    (ap (λ w. g.P.Place.calls w.place) c.note.ensures.others ∙ c.keep_all-kept.ensures.calls)
    (ap (λ w. w.keeper) c.note.ensures.others ∙ c.keep_all-kept.ensures.keeper)
    c.keep_all-kept.ensures.known
    c.note.ensures.answer
