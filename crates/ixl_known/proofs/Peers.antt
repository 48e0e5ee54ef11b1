-- What a controller is heard to tell is of an object that its client knows.
use Rattle.std.proofs.Common.{◌≡◌, ℕ, ◌<◌, ◌≤◌, Bool, true, false, if◌then◌else◌, List, [], ◌∷◌, length, get_or, arith, refl, sym, ◌∙◌, subst}
use Rattle.std.specs.Prelude.{nat_lt, Option, Some, None, Result, Ok, Err}
use Rattle.std.specs.List.{All, position, position_or_len}
use Rattle.std.proofs.lemmas.Bool.{ltb-true}
use Rattle.std.proofs.lemmas.List.Elements.{All-nil, All-cons, All-append}
use Rattle.std.proofs.lemmas.Option.{same_Some}
use Rattle.ixl_spec.specs.sci_telegram.TelegramRead.{reading}
use Rattle.ixl_spec.specs.sci_telegram.declared.fault.SciFault.{SciFault}
use Rattle.ixl_spec.specs.sci_telegram.declared.telegram.Telegram.{Telegram}
use Rattle.ixl_spec.specs.ixl_client.Meaning.{place_of}
use Rattle.ixl_spec.specs.ixl_client.Made.{ActsOn, told_by, told_by_all, told_of}
use Rattle.ixl_spec.specs.ixl_client.declared.indication.Indication.{Indication}
use Rattle.ixl_spec.specs.ixl_client.declared.indication.ObjectState.{ObjectState}
use Rattle.ixl_spec.specs.ixl_client.Client.{ClientState, PeerState}
use Rattle.ixl_spec.specs.ixl_client.ClientSoFar.{begun}
use Rattle.ixl_spec.specs.ixl_client.Step.{hearing}
use Rattle.ixl_spec.specs.rasta_core.Outbox.{OutboxState}

abbrev IsBelow : ℕ → Indication → Type 0
IsBelow most told = told.place < most

none_is : {a : ℕ} → None ≡ Some a → ⊥
none_is is = cc

first_within : (test : List ℕ → Bool) (list : List (List ℕ)) (place : ℕ) → position test list ≡ Some place → place < length list
first_within test list place is = cases (nat_lt (position_or_len test list) (length list)) refl is where
  cases : (b : Bool) → nat_lt (position_or_len test list) (length list) ≡ b → (if b then Some (position_or_len test list) else None) ≡ Some place → place < length list
  cases true within found = subst (λ n. n < length list) (same_Some _ _ found) (ltb-true _ _ within)
  cases false within found = absurd (none_is found)

told_within : (peer : PeerState) (sender : List ℕ) (found : Option ℕ) (state : Option ObjectState) → place_of peer sender ≡ found → All (IsBelow (length peer.objects)) (told_of found state)
told_within peer sender None state is = All-nil (IsBelow (length peer.objects))
told_within peer sender (Some place) None is = All-nil (IsBelow (length peer.objects))
told_within peer sender (Some place) (Some state) is = All-cons (IsBelow (length peer.objects)) (record { place = place; state = state }) [] (first_within _ peer.objects place is) (All-nil (IsBelow (length peer.objects)))

read_within : (peer : PeerState) (read : Result Telegram SciFault) → All (IsBelow (length peer.objects)) (told_by peer read)
read_within peer (Ok telegram) = told_within peer telegram.sender _ _ refl
read_within peer (Err fault) = All-nil (IsBelow (length peer.objects))

pub all_within : (peer : PeerState) (items : List (List ℕ)) → All (IsBelow (length peer.objects)) (told_by_all peer items)
unfolding told_by_all
all_within peer [] = All-nil (IsBelow (length peer.objects))
all_within peer (first ∷ others) = All-append (IsBelow (length peer.objects)) (told_by peer (reading first)) (told_by_all peer others) (read_within peer (reading first)) (all_within peer others)

-- a detector is heard to tell of its sections alone
pub heard_within : (now : ℕ) (bytes : List ℕ) (client : ClientState) (box : OutboxState) (most : ℕ) → ActsOn now bytes (begun client box) (hearing now bytes (begun client box)) →
    (told : List Indication) → told ≡ (hearing now bytes (begun client box)).heard → length client.peer.objects ≤ most → All (λ (told : Indication). told.place < most) told
heard_within now bytes client box most acts told is few =
    let below : All (IsBelow (length client.peer.objects)) told = subst (All (IsBelow (length client.peer.objects))) (sym (is ∙ acts.heard)) (all_within client.peer acts.items)
    in λ place other within. let one : (get_or told place other).place < length client.peer.objects = below place other within in omega (arith, one, few)

-- it keeps as many sections
pub as_many : (most : ℕ) (old new : ClientState) → new.peer ≡ old.peer → length old.peer.objects ≤ most → length new.peer.objects ≤ most
as_many most old new same few = subst (λ (peer : PeerState). length peer.objects ≤ most) (sym same) few
