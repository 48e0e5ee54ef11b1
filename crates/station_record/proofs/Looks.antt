-- What is told of lanes that were looked at after an event.
use Rattle.std.proofs.Common.{◌≡◌, ◌∙◌, ◌↔◌, ℕ, ◌+◌, ◌≤◌, Bool, true, false, IsTrue, List, [], ◌∷◌, ◌++◌, length, drop, map, refl, ap, sym, subst, inl, inr}
use Rattle.std.proofs.Math.ListN.{drop_of_length-le}
use Rattle.std.proofs.lemmas.Bool.{false≢true}
use Rattle.std.proofs.lemmas.List.{append-nil, append_assoc}
use Rattle.replay.specs.simulator_spec.Tried.{Played}
use Rattle.station_record.specs.Changes.{TellsLane, TellsLanes, change_to, watch_of}
use Rattle.station_record.specs.Seen.{seen_at}
use Rattle.station_record.specs.inside.FirstChanges.{first_change}
use Rattle.lane_chart.specs.declared.change.Change.{Change}
use Rattle.station_record.specs.declared.watch.Watch.{Watch}
use Rattle.lane_chart.specs.declared.lane.Lane.{Lane}
use Rattle.lane_chart.specs.declared.lane.Seen.{Seen}

-- ---- one lane

abbrev pub Tells : ℕ → Played → Watch → List Change → List Change → Type 0
Tells line now watch old new = (told : List Change) × TellsLane line now watch told × (new ≡ old ++ told)

pub nothing_told : (line : ℕ) (now : Played) (watch : Watch) (seen : Seen) (same : Bool) (old : List Change) → IsTrue same ↔ (watch.seen ≡ seen) → seen ≡ seen_at now watch.lane → same ≡ true → Tells line now watch old old
nothing_told line now watch seen same old decides is so = ([], inl (decides.0 so ∙ is, refl), sym (append-nil old))

pub change_told : (line : ℕ) (now : Played) (watch : Watch) (seen : Seen) (same : Bool) (time : ℕ) (old new : List Change) → IsTrue same ↔ (watch.seen ≡ seen) → seen ≡ seen_at now watch.lane → same ≡ false
    → time ≡ now.run.time → new ≡ old ++ (record { line = line; time = time; lane = watch.lane; seen = seen }) ∷ [] → Tells line now watch old new
change_told line now watch seen same time old new decides is so at push =
    let told : ℕ → Seen → Change = λ t s. record { line = line; time = t; lane = watch.lane; seen = s }
    in let one : told time seen ≡ change_to line now watch.lane = ap (λ t. told t seen) at ∙ ap (told now.run.time) is
    in (told time seen ∷ [], inr (λ same_seen. false≢true (sym so ∙ decides.1 (same_seen ∙ sym is)), ap (λ (c : Change). c ∷ []) one), push)

-- ---- one after the other

-- what is told of the lanes that are left is told of all
pub record Looked (line : ℕ) (now : Played) (watches : List Watch) (place : ℕ) (old new : List Change) : Type 0 where
  pub told : List Change
  pub new_is : new ≡ old ++ told
  pub more : (rest : List Change) → TellsLanes line now (drop place watches) rest → TellsLanes line now watches (told ++ rest)

pub looks_begin : (line : ℕ) (now : Played) (watches : List Watch) (old : List Change) → Looked line now watches 0 old old
looks_begin line now watches old = record {
  told = [];
  new_is = sym (append-nil old);
  more = λ rest h. h;
}

pub looks_go_on : (line : ℕ) (now : Played) (watches : List Watch) (place : ℕ) (watch : Watch) (old next new : List Change) → drop place watches ≡ watch ∷ drop (place + 1) watches
    → Tells line now watch next new → Looked line now watches place old next → Looked line now watches (place + 1) old new
unfolding TellsLanes
looks_go_on line now watches place watch old next new left tells so = record {
  told = so.told ++ tells.0;
  new_is = tells.2 ∙ ap (λ t. t ++ tells.0) so.new_is ∙ append_assoc old so.told tells.0;
  more = λ rest h.
      let behind : TellsLanes line now (watch ∷ drop (place + 1) watches) (tells.0 ++ rest) = (tells.0, rest, tells.1, h, refl)
      in subst (λ (t : List Change). TellsLanes line now watches t) (sym (append_assoc so.told tells.0 rest)) (so.more (tells.0 ++ rest) (rw left behind));
}

pub looks_close : (line : ℕ) (now : Played) (watches : List Watch) (place : ℕ) (old new : List Change) → length watches ≤ place → Looked line now watches place old new
    → (told : List Change) × TellsLanes line now watches told × (new ≡ old ++ told)
unfolding TellsLanes
looks_close line now watches place old new past so =
    let none : TellsLanes line now (drop place watches) [] = rw (drop_of_length-le watches past) refl
    in (so.told, subst (λ (t : List Change). TellsLanes line now watches t) (append-nil so.told) (so.more [] none), so.new_is)

-- ---- what the lanes show then

-- those that were looked at, and those that are left
pub seen_more : {A B : Type 0} (view : A → B) (all : List A) (place : ℕ) (one : A) (old new : List B) → drop place all ≡ one ∷ drop (place + 1) all → new ≡ old ++ view one ∷ []
    → old ++ map view (drop place all) ≡ map view all → new ++ map view (drop (place + 1) all) ≡ map view all
seen_more view all place one old new left push so =
    ap (λ (b : List _). b ++ map view (drop (place + 1) all)) push ∙ append_assoc old (view one ∷ []) (map view (drop (place + 1) all))
    ∙ ap (λ xs. old ++ map view xs) (sym left) ∙ so

pub seen_close : {A B : Type 0} (view : A → B) (all : List A) (place : ℕ) (old : List B) → length all ≤ place → old ++ map view (drop place all) ≡ map view all → old ≡ map view all
seen_close view all place old past so = sym (append-nil old) ∙ ap (λ xs. old ++ map view xs) (sym (drop_of_length-le all past)) ∙ so

-- lanes that are looked at once more
pub watched_again : (old new : Played) (lanes : List Lane) → map (λ (watch : Watch). watch_of new watch.lane) (map (watch_of old) lanes) ≡ map (watch_of new) lanes
watched_again old new [] = refl
watched_again old new (lane ∷ lanes) = ap (λ ws. watch_of new lane ∷ ws) (watched_again old new lanes)

-- that lanes show this at first, by what was seen of them
first_shown : (world : Played) (lanes : List Lane) → map (first_change world.run.time) (map (watch_of world) lanes) ≡ map (change_to 0 world) lanes
first_shown world [] = refl
first_shown world (lane ∷ lanes) = ap (λ cs. change_to 0 world lane ∷ cs) (first_shown world lanes)

pub first_told : (world : Played) (time : ℕ) (lanes : List Lane) → time ≡ world.run.time → map (first_change time) (map (watch_of world) lanes) ≡ map (change_to 0 world) lanes
first_told world time lanes at = ap (λ t. map (first_change t) (map (watch_of world) lanes)) at ∙ first_shown world lanes

-- the lane of which something is told
abbrev pub watch_told : (line : ℕ) (now : Played) (watch : Watch) (old new : List Change) → Tells line now watch old new → Watch
watch_told line now watch old new tells = watch

-- a lane with what was seen of it is added
pub watch_added : (now : Played) (watch : Watch) (seen : Seen) (old new : List Watch) → new ≡ old ++ (record { lane = watch.lane; seen = seen }) ∷ [] → seen ≡ seen_at now watch.lane
    → new ≡ old ++ watch_of now watch.lane ∷ []
watch_added now watch seen old new push is = push ∙ ap (λ (s : Seen). old ++ (record { lane = watch.lane; seen = s }) ∷ []) is
