use Rattle.panel_desk.proofs.Following.{page-patched}
use Rattle.panel_desk.proofs.boards_followed.a_page_shows_what_is_told.Goals as goal

pub returns : goal.returns
returns c old new follows = page-patched old.number old.shown new.shown follows
