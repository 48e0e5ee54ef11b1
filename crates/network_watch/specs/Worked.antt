-- Small runs of a watch, worked by hand: two partners whose heartbeats come every 300 ms.
use Rattle.std.specs.Prelude.{◌≡◌, ℕ, Bool, true, false, List, [], ◌∷◌, Some, None}
use Rattle.datagram_hold.specs.declared.network.Network.TheVariants.{First, Second}
use Rattle.network_watch.specs.Histories.{Round, news_in}
use Rattle.network_watch.specs.declared.path_seen.News.TheVariants.{Lost, Back}

abbrev pub round : ℕ → Bool → Bool → Bool → Round
round reading sent first second = record { sent = sent; first = first; second = second; reading = reading }

-- the link comes up, and both networks bring what the partner sends
abbrev pub up : List Round
up = round 300 true true true ∷ round 0 true true true ∷ []

-- the first network brings nothing from 300 ms on
abbrev pub cut : List Round
cut = round 1799 true false true ∷ round 1500 true false true ∷ round 1200 true false true ∷ round 900 true false true ∷ round 600 true false true ∷ up

pub record Worked : Type 0 where
  pub nothing_yet : news_in First up ≡ None
  pub not_yet : news_in First cut ≡ None
  pub lost : news_in First (round 1800 true false true ∷ cut) ≡ Some Lost
  pub other_is_not : news_in Second (round 1800 true false true ∷ cut) ≡ None
  pub told_once : news_in First (round 1810 true false true ∷ round 1800 true false true ∷ cut) ≡ None
  pub back : news_in First (round 1820 true true true ∷ round 1810 true false true ∷ round 1800 true false true ∷ cut) ≡ Some Back
  -- a question to a partner that doesn't answer is no link
  pub unanswered : news_in First (round 1500 false false false ∷ round 0 true false false ∷ []) ≡ None
  -- a link that comes up again is up from then on
  pub up_again : news_in First (round 9000 true false true ∷ round 8000 true false true ∷ up) ≡ None
  pub silent_again : news_in First (round 9500 true false true ∷ round 9000 true false true ∷ round 8000 true false true ∷ up) ≡ Some Lost
