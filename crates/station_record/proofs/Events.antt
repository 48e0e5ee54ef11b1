-- What is told of a session of which a beginning was applied.
use Rattle.std.proofs.Common.{◌≡◌, ◌∙◌, ℕ, ◌+◌, ◌≤◌, List, [], ◌∷◌, ◌++◌, length, drop, map, refl, ap, sym, subst}
use Rattle.std.proofs.Math.ListN.{drop_of_length-le}
use Rattle.std.proofs.lemmas.List.{append-nil, append_assoc}
use Rattle.replay.specs.simulator_spec.Tried.{Played, after}
use Rattle.replay.specs.replay_lines.declared.session.Entry.{Entry}
use Rattle.station_record.specs.Changes.{TellsEvents, TellsLanes, watch_of}
use Rattle.station_record.specs.Marks.{Mark, mark_of, marks_of}
use Rattle.station_record.specs.Story.{world_behind}
use Rattle.lane_chart.specs.declared.change.Change.{Change}
use Rattle.lane_chart.specs.declared.lane.Lane.{Lane}

-- what is told of the events that are left is told of all
pub record Happened (lanes : List Lane) (first : Played) (entries : List Entry) (place : ℕ) (now : Played) (old new : List Change) : Type 0 where
  pub told : List Change
  pub new_is : new ≡ old ++ told
  pub more : (rest : List Change) → TellsEvents lanes (place + 1) now (drop place entries) rest → TellsEvents lanes 1 first entries (told ++ rest)

pub events_begin : (lanes : List Lane) (first : Played) (entries : List Entry) (old : List Change) → Happened lanes first entries 0 first old old
events_begin lanes first entries old = record {
  told = [];
  new_is = sym (append-nil old);
  more = λ rest h. h;
}

pub events_go_on : (lanes : List Lane) (first : Played) (entries : List Entry) (place : ℕ) (entry : Entry) (now then : Played) (old next new these : List Change) → drop place entries ≡ entry ∷ drop (place + 1) entries
    → then ≡ after now entry.event → TellsLanes (place + 1) then (map (watch_of now) lanes) these → new ≡ next ++ these
    → Happened lanes first entries place now old next → Happened lanes first entries (place + 1) then old new
unfolding TellsEvents
events_go_on lanes first entries place entry now then old next new these left moved tells push so = record {
  told = so.told ++ these;
  new_is = push ∙ ap (λ t. t ++ these) so.new_is ∙ append_assoc old so.told these;
  more = λ rest h.
      let behind : TellsEvents lanes (place + 1) now (entry ∷ drop (place + 1) entries) (these ++ rest) = (these, rest, rw (sym moved) tells, rw (sym moved) h, refl)
      in subst (λ (t : List Change). TellsEvents lanes 1 first entries t) (sym (append_assoc so.told these rest)) (so.more (these ++ rest) (rw left behind));
}

pub events_close : (lanes : List Lane) (first : Played) (entries : List Entry) (place : ℕ) (now : Played) (old new : List Change) → length entries ≤ place → Happened lanes first entries place now old new
    → (told : List Change) × TellsEvents lanes 1 first entries told × (new ≡ old ++ told)
unfolding TellsEvents
events_close lanes first entries place now old new past so =
    let none : TellsEvents lanes (place + 1) now (drop place entries) [] = rw (drop_of_length-le entries past) refl
    in (so.told, subst (λ (t : List Change). TellsEvents lanes 1 first entries t) (append-nil so.told) (so.more [] none), so.new_is)

-- ---- marks

pub marks_more : (first : Played) (entries : List Entry) (place : ℕ) (entry : Entry) (now then : Played) (old new whole : List Mark) → drop place entries ≡ entry ∷ drop (place + 1) entries
    → then ≡ after now entry.event → new ≡ old ++ mark_of (place + 1) now entry
    → old ++ marks_of (place + 1) now (drop place entries) ≡ whole → new ++ marks_of (place + 1 + 1) then (drop (place + 1) entries) ≡ whole
unfolding marks_of
marks_more first entries place entry now then old new whole left moved push so =
    let rest = marks_of (place + 1 + 1) then (drop (place + 1) entries)
    in let split : marks_of (place + 1) now (drop place entries) ≡ mark_of (place + 1) now entry ++ rest =
    ap (marks_of (place + 1) now) left ∙ ap (λ (w : Played). mark_of (place + 1) now entry ++ marks_of (place + 1 + 1) w (drop (place + 1) entries)) (sym moved)
    in ap (λ (m : List Mark). m ++ rest) push ∙ append_assoc old (mark_of (place + 1) now entry) rest ∙ ap (λ m. old ++ m) (sym split) ∙ so

pub marks_close : (entries : List Entry) (place : ℕ) (now : Played) (old whole : List Mark) → length entries ≤ place → old ++ marks_of (place + 1) now (drop place entries) ≡ whole → old ≡ whole
unfolding marks_of
marks_close entries place now old whole past so = sym (append-nil old) ∙ ap (λ es. old ++ marks_of (place + 1) now es) (sym (drop_of_length-le entries past)) ∙ so

-- ---- the world after all

pub behind_more : (entries : List Entry) (place : ℕ) (entry : Entry) (now then whole : Played) → drop place entries ≡ entry ∷ drop (place + 1) entries → then ≡ after now entry.event
    → world_behind now (drop place entries) ≡ whole → world_behind then (drop (place + 1) entries) ≡ whole
unfolding world_behind
behind_more entries place entry now then whole left moved so =
    ap (λ (w : Played). world_behind w (drop (place + 1) entries)) moved ∙ ap (world_behind now) (sym left) ∙ so

pub behind_close : (entries : List Entry) (place : ℕ) (now whole : Played) → length entries ≤ place → world_behind now (drop place entries) ≡ whole → now ≡ whole
unfolding world_behind
behind_close entries place now whole past so = ap (world_behind now) (sym (drop_of_length-le entries past)) ∙ so
