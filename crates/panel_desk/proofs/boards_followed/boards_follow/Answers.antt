use Rattle.panel_desk.proofs.Following.{kept-same, kept-told}
use Rattle.panel_desk.proofs.boards_followed.boards_follow.Goals as goal

pub returns-clause-same : goal.returns-clause-same
returns-clause-same c board = kept-same board.number board.shown

pub returns-clause-counted : goal.returns-clause-counted
returns-clause-counted c old new follows = follows

pub returns-clause-shown : goal.returns-clause-shown
returns-clause-shown c old new place line follows later = kept-told old.number new.number place line old.shown new.shown later follows

pub returns-clause-noted : goal.returns-clause-noted
returns-clause-noted c old new line follows = follows
