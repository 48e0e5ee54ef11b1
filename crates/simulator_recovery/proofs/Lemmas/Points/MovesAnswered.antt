-- What comes of the moves of points in good rounds: each is answered so many rounds later, and reports come back.
use Rattle.simulator_recovery.proofs.Words.Basics.{◌≡◌, ℕ, suc, ◌≤◌, ◌<◌, List, [], ◌∷◌, ◌++◌, length, refl, arith, length-append}
use Rattle.simulator_recovery.proofs.Words.Links.{Each}
use Rattle.simulator_recovery.proofs.Words.Interlockings.{IsTableOf}
use Rattle.simulator_recovery.proofs.Words.Stations.{Once, IsStation, Event, Flowing, round, point_link, IsReached}
use Rattle.simulator_recovery.proofs.Words.Recovery.{StaysBelowLimit, ReportsCome, ready_rounds, HasTime, IsWork, all_tried, good_rounds, LawsBelow}
use Rattle.simulator_recovery.proofs.Lemmas.Points.MovesBehind.{Are, front_are, reports_come}
use Rattle.simulator_recovery.proofs.Lemmas.Points.RoomBehind.{HasRoomBehind}

pub room_front : (place : ℕ) (front rest : List (List Event)) (flowing : Flowing) → HasRoomBehind place (front ++ rest) flowing → HasRoomBehind place front flowing
room_front place [] rest flowing room = tt
room_front place (first ∷ front) rest flowing room = (room.0, room_front place front rest (all_tried first (round flowing)) room.1)

pub rounds_both : (one other : List (List Event)) (flowing : Flowing) → good_rounds (one ++ other) flowing ≡ good_rounds other (good_rounds one flowing)
rounds_both [] other flowing = refl
rounds_both (first ∷ one) other flowing = rounds_both one other (all_tried first (round flowing))

pub come_back : (laws : LawsBelow) (between last : List Event) (later_rounds : List (List Event)) (flowing : Flowing) (place : ℕ) → Once flowing.state.sited.site → IsStation flowing.state.sited.site
    → IsTableOf flowing.state.sited.site flowing.state.sited.table → IsReached flowing.state.sited.site flowing.state.sited.table flowing.state.run → Each IsWork between → Each (Each IsWork) (later_rounds ++ last ∷ [])
    → HasTime (suc (length (later_rounds ++ last ∷ []))) flowing.state.run → place < length flowing.state.sited.site.points → ready_rounds ≤ suc (length later_rounds)
    → StaysBelowLimit flowing.state.sited.site (point_link flowing.state.sited.site place) (later_rounds ++ last ∷ []) (all_tried between (round flowing))
    → ReportsCome flowing.state.sited.site place (good_rounds (between ∷ later_rounds) flowing).state.run (good_rounds (between ∷ (later_rounds ++ last ∷ [])) flowing).state.run
come_back laws between last later_rounds flowing place once station is_table reached work works can few long below =
    reports_come laws between flowing place once station is_table reached work few later_rounds last (omega (arith, long)) (front_are laws between flowing place once station is_table reached work few later_rounds (last ∷ []) (omega (arith, long)) a) a
  where
    a : Are laws between flowing place once station is_table reached work few (later_rounds ++ last ∷ [])
    a = record { works = works; can = can; room = below; long = let n = length-append later_rounds (last ∷ []) in omega (arith, long, n) }

pub first_of_more : (rest : List (List Event)) (last : List Event) → (first : List Event) × (others : List (List Event)) × (rest ++ last ∷ [] ≡ first ∷ others)
first_of_more [] last = (last, [], refl)
first_of_more (one ∷ rest) last = (one, rest ++ last ∷ [], refl)
