use Rattle.draw_desk.proofs.Written.{written}
use Rattle.draw_desk.proofs.laws.a_file_is_written_over_only_where_it_is_known.Goals as goal

pub returns : goal.returns
returns g c old new request response answered = written _ old new request response answered
