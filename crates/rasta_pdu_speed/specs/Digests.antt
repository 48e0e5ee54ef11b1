-- One digest of a message after another.
use Rattle.std.specs.Prelude.{ℕ, zero, suc, List}
use Rattle.md4.specs.Md4.{block_words, digest}

-- the digest of a message, and then n times that from the words of the digest before
unfoldable pub digest_again : List ℕ → List ℕ → ℕ → List ℕ
digest_again start message zero = digest start message
digest_again start message (suc n) = digest (block_words (digest_again start message n) 4) message
