-- How long texts may be.
use Rattle.std.specs.Prelude.{ℕ, Bool, true, false}
use Rattle.limited_text.specs.declared.limits.Content.{Content}
use Rattle.limited_text.specs.declared.limits.Content.TheVariants.{Layout, Lines}

-- a layout 1 MiB; lines 64 MiB, or 4 GiB in a regular file
abbrev pub longest : Content → Bool → ℕ
longest Layout is_file = 1048576
longest Lines false = 67108864
longest Lines true = 4294967296
