-- Digests of RFC 1320's test suite and lengths of padded messages, so that a wrong table, step or padding in the
-- definition does not check.
use Rattle.std.proofs.Common.{◌≡◌, ◌+◌, [], ◌∷◌, length, codes, refl}
use Rattle.md4.specs.declared.message.TheConstants.{STANDARD}
use Rattle.md4.specs.Md4.{padding, block_words, sequence, after_block, after_blocks, digest}

pub digest_of_nothing : digest STANDARD [] ≡ 0x31 ∷ 0xd6 ∷ 0xcf ∷ 0xe0 ∷ 0xd1 ∷ 0x6a ∷ 0xe9 ∷ 0x31 ∷ 0xb7 ∷ 0x3c ∷ 0x59 ∷ 0xd7 ∷ 0xe0 ∷ 0xc0 ∷ 0x89 ∷ 0xc0 ∷ []
unfolding padding block_words sequence after_block after_blocks digest
digest_of_nothing = refl

pub digest_of_abc : digest STANDARD (codes "abc") ≡ 0xa4 ∷ 0x48 ∷ 0x01 ∷ 0x7a ∷ 0xaf ∷ 0x21 ∷ 0xd8 ∷ 0x52 ∷ 0x5f ∷ 0xc1 ∷ 0x0a ∷ 0xe8 ∷ 0x7a ∷ 0xa6 ∷ 0x72 ∷ 0x9d ∷ []
unfolding padding block_words sequence after_block after_blocks digest
digest_of_abc = refl

-- a message of 55 bytes is padded to one block; of 56, 63 and 64 bytes to two
pub padded_to_blocks : (55 + length (padding 55) ≡ 64) × (56 + length (padding 56) ≡ 128) × (63 + length (padding 63) ≡ 128) × (64 + length (padding 64) ≡ 128)
unfolding padding
padded_to_blocks = (refl, refl, refl, refl)
