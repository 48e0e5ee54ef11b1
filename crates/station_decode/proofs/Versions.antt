-- A version that may be a name.
use Rattle.std.proofs.Common.{◌≡◌, ℕ, ◌&&◌, nat_le, Bool, true, false, if◌then◌else◌, List, length, refl, arith}
use Rattle.std.specs.List.{list_all}
use Rattle.std.proofs.lemmas.Bool.{and_parts}
use Rattle.std.proofs.lemmas.Bool.Decides.{nat_tests}
use Rattle.hex.specs.Hex.{encode_lower}
use Rattle.ixl_spec.specs.sci_telegram.Names.{is_name, is_name_byte, IsName}
use Rattle.station_decode.specs.Datagrams.{version_word}

-- the test is true exactly of names
tested : (a b c : Bool) → a ≡ true → b ≡ true → c ≡ true → (a && b && c) ≡ true
tested true true true e f g = refl
tested true true false e f g = cc
tested true false c e f g = cc
tested false b c e f g = cc

is-name : (version : List ℕ) → IsName version → is_name version ≡ true
is-name version is =
    tested (nat_le 1 (length version)) (nat_le (length version) 20) (list_all is_name_byte version)
    (let some = is.some in grind (arith, nat_tests)) (let most = is.most in grind (arith, nat_tests)) is.each

name-is : (version : List ℕ) → is_name version ≡ true → IsName version
name-is version e =
    let parts = and_parts (nat_le 1 (length version) && nat_le (length version) 20) (list_all is_name_byte version) e in
    let sizes = and_parts (nat_le 1 (length version)) (nat_le (length version) 20) parts.0 in
    record { some = grind (arith, nat_tests, sizes.0); most = grind (arith, nat_tests, sizes.1); each = parts.1 }

pub word_of_name : (version : List ℕ) → IsName version → version_word version ≡ version
word_of_name version is = by (is_name version) (is-name version is)
  where
    by : (v : Bool) → v ≡ true → (if v then version else encode_lower version) ≡ version
    by true e = refl
    by false e = cc

pub word_of_other : (version : List ℕ) → (IsName version → ⊥) → version_word version ≡ encode_lower version
word_of_other version is = by (is_name version) (name-is version)
  where
    by : (v : Bool) → (v ≡ true → IsName version) → (if v then version else encode_lower version) ≡ encode_lower version
    by true held = absurd (is (held refl))
    by false held = refl
