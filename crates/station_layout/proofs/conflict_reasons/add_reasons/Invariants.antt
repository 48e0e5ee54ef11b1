use Rattle.std.proofs.Common.{◌≡◌, ◌++◌, IsUtf8, codes, drop, string_bytes}
use Rattle.station_layout.specs.Names.{spaced}
use Rattle.station_layout.specs.Reasons.{reason_words}
use Rattle.station_layout.specs.inside.Joined.{joined, words_held}
use Rattle.station_layout.proofs.conflict_reasons.add_reasons.Given as goal

abbrev pub invariant-loop-holds : goal.invariant-loop-holds
invariant-loop-holds l =
    IsUtf8 l.before
    × (string_bytes l.cell ++ joined l.before (codes " ") (words_held (drop l.holds-index l.holds-items)) ≡ string_bytes l.fn.cell ++ spaced (reason_words l.fn.reasons))
