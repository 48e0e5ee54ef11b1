-- What ends with a part has no words after it, and more words after a part are joined to those before it.
use Rattle.std.proofs.Common.{◌≡◌, ◌∙◌, ℕ, List, [], ◌++◌, append_assoc, ap}
use Rattle.std.proofs.lemmas.List.{append-nil}

pub without_end : (words : List ℕ) → words ++ [] ≡ words
without_end words = append-nil words

pub around : (begin name end rest : List ℕ) → (begin ++ (name ++ end)) ++ rest ≡ begin ++ (name ++ (end ++ rest))
around begin name end rest = append_assoc begin (name ++ end) rest ∙ ap (λ words. begin ++ words) (append_assoc name end rest)
