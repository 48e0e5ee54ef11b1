use Rattle.std.proofs.Common.{◌≡◌, drop}
use Rattle.std.specs.Char.{is_ascii_hexdigit}
use Rattle.std.specs.List.{list_all}
use Rattle.station_layout.proofs.value_forms.are_digits.Given as goal

abbrev pub invariant-loop-byte : goal.invariant-loop-byte
invariant-loop-byte l = list_all is_ascii_hexdigit (drop l.byte-index l.text) ≡ list_all is_ascii_hexdigit l.text
