use Rattle.std.proofs.Common.{◌∙◌, ◌++◌, ap}
use Rattle.std.proofs.lemmas.Fmt.{contents_after_writes}
use Rattle.station_check.specs.Failures.{told_line}
use Rattle.station_check.proofs.failure.Failure.line.Goals as goal

pub returns : goal.returns
returns c =
    let text = told_line c.args.self.now in
    contents_after_writes _ (λ line. line.bytes) (λ before bytes after took. took) c.new-line.result text c.write.new.self c.in_ok-write.ensures.writes
    ∙ ap (λ begun. begun ++ text) c.new-line.ensures
