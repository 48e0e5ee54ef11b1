-- Lists put one after the other.
use Rattle.std.proofs.Common.{◌≡◌, ◌∙◌, List, [], ◌∷◌, ◌++◌, ap}
use Rattle.std.proofs.lemmas.List.{append_assoc}

pub together : {A : Type 0} (start : List A) (first : A) (second third last : List A) (begun one two three all : List A) → begun ≡ start → one ≡ begun ++ first ∷ [] → two ≡ one ++ second → three ≡ two ++ third
    → all ≡ three ++ last → all ≡ start ++ (first ∷ second ++ (third ++ last))
together start first second third last begun one two three all beginning and_first and_second and_third and_last =
    and_last
    ∙ ap (λ l. l ++ last) (and_third ∙ ap (λ l. l ++ third) (and_second ∙ ap (λ l. l ++ second) (and_first ∙ ap (λ l. l ++ first ∷ []) beginning)))
    ∙ append_assoc ((start ++ first ∷ []) ++ second) third last
    ∙ append_assoc (start ++ first ∷ []) second (third ++ last)
    ∙ append_assoc start (first ∷ []) (second ++ (third ++ last))
