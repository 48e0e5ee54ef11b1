-- When a text is written into the file, and what comes of it. A desk knows the text that it read or wrote last, and its number; a page
-- says by the number which text it knows.
use Rattle.std.specs.Prelude.{◌+◌, ◌-◌, ◌^◌, min, ℕ, Bool, true, false, if◌then◌else◌, List, codes, Option, Some, None}
use Rattle.std.specs.Fmt.{decimal}
use Rattle.std.specs.Str.{bytes_eq}
use Rattle.draw_desk.specs.declared.claim.Claim.{Claim}
use Rattle.draw_desk.specs.declared.claim.Claim.TheVariants.{Anything, Current, Stale}
use Rattle.draw_desk.specs.declared.known.Known.{Known}

-- what a page says that it knows, where the last text has this number
abbrev pub claim_of : ℕ → Option (List ℕ) → Claim
claim_of number None = Stale
claim_of number (Some said) =
    if bytes_eq said (codes "anything") then Anything
    else if bytes_eq said (decimal number) then Current
    else Stale

-- whether what was found is the text that is known; no text where no file was there
abbrev pub is_same : Option (List ℕ) → Option (List ℕ) → Bool
is_same None None = true
is_same (Some known) (Some found) = bytes_eq known found
is_same _ _ = false

-- whether the file may be written over in which this was found
abbrev pub may_write : Claim → Option (List ℕ) → Option (List ℕ) → Bool
may_write Anything known found = true
may_write Current known found = is_same known found
may_write Stale known found = false

-- the next number, of 64 bits
abbrev pub next_number : ℕ → ℕ
next_number number = min (number + 1) (2 ^ 64 - 1)

-- another text is known
abbrev pub known_next : Option (List ℕ) → Known → Known
known_next text known = record { number = next_number known.number; text = text }

-- what is known after a read: a text that was known already keeps its number
abbrev pub known_after : Option (List ℕ) → Known → Known
known_after found known = if is_same known.text found then known else known_next found known
