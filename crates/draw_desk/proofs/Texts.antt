-- Bytes that are text.
use Rattle.std.proofs.Common.{◌≡◌, ℕ, Bool, true, false, List, IsUtf8, refl}
use Rattle.std.proofs.lemmas.Str.{IsUtf8-from_is_utf8, is_utf8-from_IsUtf8}
use Rattle.std.specs.Str.{is_utf8}

pub is_text : (bytes : List ℕ) → IsUtf8 bytes → is_utf8 bytes ≡ true
is_text bytes spelled = is_utf8-from_IsUtf8 bytes spelled

pub is_no_text : (bytes : List ℕ) → (IsUtf8 bytes → ⊥) → is_utf8 bytes ≡ false
is_no_text bytes never = by_case (is_utf8 bytes) refl
  where
    by_case : (test : Bool) → is_utf8 bytes ≡ test → test ≡ false
    by_case true is = absurd (never (IsUtf8-from_is_utf8 bytes is))
    by_case false is = refl
