use Rattle.draw_desk.proofs.Comes.{comes}
use Rattle.draw_desk.proofs.laws.what_is_done_comes_from_the_page.Goals as goal

pub returns : goal.returns
returns c access sent wanted h is = comes access sent wanted h is
