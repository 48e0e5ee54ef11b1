-- Events lead on, one after the other.
use Rattle.std.proofs.Common.{◌≡◌, ◌∙◌, ℕ, ◌+◌, ◌<◌, ◌≤◌, List, ◌∷◌, length, drop, get_or, ap, sym}
use Rattle.std.proofs.lemmas.List.{drop_more, drop_all}
use Rattle.replay.specs.replay_lines.declared.session.Entry.{Entry}
use Rattle.replay.specs.World.{Played, after}
use Rattle.station_record.specs.Traffic.{left_by}

pub leads : (first : Played) (all : List Entry) (place : ℕ) (this : Entry) (now next : Played) → place < length all → this ≡ get_or all place this → next ≡ after now this.event
    → left_by now (drop place all) ≡ left_by first all → left_by next (drop (place + 1) all) ≡ left_by first all
leads first all place this now next within at moved before =
    let left : List Entry = drop (place + 1) all in
    let split : drop place all ≡ this ∷ left = drop_more all place this within ∙ ap (λ e. e ∷ left) (sym at) in
    ap (λ (w : Played). left_by w left) moved ∙ (ap (λ l. left_by now l) (sym split) ∙ before)

pub led : (first : Played) (all : List Entry) (place : ℕ) (now : Played) → length all ≤ place → left_by now (drop place all) ≡ left_by first all → now ≡ left_by first all
led first all place now past before = ap (λ l. left_by now l) (sym (drop_all place all past)) ∙ before
