use Rattle.std.proofs.Common.{◌≡◌, [], replicate}
use Rattle.panel_desk.proofs.board.Board.new.Given as goal

-- nothing was told at the places so far
abbrev pub invariant-loop : goal.invariant-loop
invariant-loop l = l.shown.items ≡ replicate l.counter (record { text = []; since = 0 })
