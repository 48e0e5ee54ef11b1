use Rattle.std.proofs.Common.{◌≡◌, ◌+◌, length, arith}
use Rattle.panel_desk.specs.Lines.{numbered}
use Rattle.panel_desk.proofs.Pictures.{shown_texts}
use Rattle.panel_desk.proofs.laws.what_is_shown_is_the_picture.Goals as goal

pub returns : goal.returns
returns c = λ site lines desk fits.
    let all : 0 + length lines ≡ length desk.board.shown = omega (arith, fits) in
    shown_texts site 0 lines (numbered desk.board) all
