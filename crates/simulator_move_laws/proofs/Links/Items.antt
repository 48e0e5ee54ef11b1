-- What items say.
use Rattle.std.proofs.Common.{◌≡◌, ℕ, List, [], ◌∷◌, ◌++◌, append_assoc, ap, refl, sym, ◌∙◌}
use Rattle.std.specs.Prelude.{Ok}
use Rattle.std.proofs.lemmas.List.{append-nil}
use Rattle.sci_telegram.specs.TelegramRead.{reading}
use Rattle.sci_telegram.specs.declared.message.Message.{Message}
use Rattle.sci_telegram.specs.declared.telegram.Telegram.{Telegram}
use Rattle.simulator_move_laws.specs.Items.{all_said, said_by}

pub joined : {A : Type 0} (of : Message → List A) (first others : List (List ℕ)) → all_said of (first ++ others) ≡ all_said of first ++ all_said of others
unfolding all_said
joined of [] others = refl
joined of (item ∷ items) others =
    ap (λ rest. said_by of (reading item) ++ rest) (joined of items others) ∙ sym (append_assoc (said_by of (reading item)) (all_said of items) (all_said of others))

pub read_one : {A : Type 0} (of : Message → List A) (item : List ℕ) (telegram : Telegram) → reading item ≡ Ok telegram → all_said of (item ∷ []) ≡ of telegram.message
unfolding all_said
read_one of item telegram is = append-nil (said_by of (reading item)) ∙ ap (said_by of) is
