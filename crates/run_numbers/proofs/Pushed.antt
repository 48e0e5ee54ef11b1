-- What a text is after it was added to, one part after another.
use Rattle.std.proofs.Common.{◌≡◌, ◌∙◌, ◌++◌, List, Result, Ok, Err, ap, append_assoc}
use Rattle.std.specs.Prelude.{OnOk, cond, is_ok}

pub last_pushed : {X T E : Type 0} {now was : List X} {name_is last_is : List X} (result : Result T E) (before head name last : List X)
    → now ≡ cond (is_ok result) (was ++ last) was → was ≡ (before ++ head) ++ name → name ≡ name_is → last ≡ last_is → OnOk result (now ≡ before ++ (head ++ (name_is ++ last_is)))
last_pushed {X} {T} {E} {now} {was} {name_is} {last_is} (Ok x) before head name last now_is was_is name_so last_so =
    now_is
    ∙ ap (λ w. w ++ last) was_is
    ∙ append_assoc (before ++ head) name last
    ∙ append_assoc before head (name ++ last)
    ∙ ap (λ n. before ++ (head ++ (n ++ last))) name_so
    ∙ ap (λ l. before ++ (head ++ (name_is ++ l))) last_so
last_pushed (Err e) before head name last now_is was_is name_so last_so = tt
