-- Lists of good rounds by their last.
use Rattle.simulator_recovery.proofs.Words.Basics.{◌≡◌, ℕ, suc, ◌+◌, ◌*◌, ◌≤◌, List, [], ◌∷◌, ◌++◌, refl, ap, arith}
use Rattle.simulator_recovery.proofs.Words.Links.{Each, Event as LinkEvent, Links}
use Rattle.simulator_recovery.proofs.Words.Stations.{Event, Flowing, round}
use Rattle.simulator_recovery.proofs.Words.Recovery.{calls_on, links_behind, RepliesAfter, RepliesOn, all_tried, good_rounds, rounds_later}
use Rattle.simulator_recovery.proofs.Lemmas.Links.ComeUp.{links_after, lists_on}

pub links_last : (rounds : List (List Event)) (last : List Event) (flowing : Flowing) (before : Links) → links_after (rounds ++ last ∷ []) flowing before ≡ links_behind last (good_rounds rounds flowing) (links_after rounds flowing before)
links_last [] last flowing before = refl
links_last (between ∷ later) last flowing before = links_last later last (all_tried between (round flowing)) (links_behind between flowing before)

pub lists_last : (link : ℕ) (rounds : List (List Event)) (last : List Event) (flowing : Flowing) (before : Links)
    → lists_on link (rounds ++ last ∷ []) flowing before ≡ lists_on link rounds flowing before ++ calls_on link last (good_rounds rounds flowing) (links_after rounds flowing before) ∷ []
lists_last link [] last flowing before = refl
lists_last link (between ∷ later) last flowing before = ap (λ (l : List (List LinkEvent)). calls_on link between flowing before ∷ l) (lists_last link later last (all_tried between (round flowing)) (links_behind between flowing before))

pub replies_last : (link : ℕ) (rounds : List (List Event)) (last : List Event) (flowing : Flowing) (before : Links) → RepliesOn link last (good_rounds rounds flowing) (links_after rounds flowing before) → RepliesAfter link rounds last flowing before
replies_last link [] last flowing before replies = replies
replies_last link (between ∷ later) last flowing before replies = replies_last link later last (all_tried between (round flowing)) (links_behind between flowing before) replies

-- each clock can go on for one round more
pub time_left : (n : ℕ) (clocks : List ℕ) → Each (λ clock. clock + 10000 * suc n ≤ 9000000000000000) clocks → Each (λ clock. clock + 10000 * 1 ≤ 9000000000000000) (rounds_later n clocks)
time_left n [] each = tt
time_left n (clock ∷ clocks) each = let one = each.0 in (omega (arith, one), time_left n clocks each.1)
