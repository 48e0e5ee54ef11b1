-- The lanes of a kind grow place by place.
use Rattle.std.proofs.Common.{◌≡◌, ◌∙◌, ℕ, suc, ◌+◌, ◌<◌, ◌≤◌, List, [], ◌∷◌, ◌++◌, ap, arith, fold, get_or, length, sym, take}
use Rattle.std.proofs.lemmas.List.{append_assoc, take_all}
use Rattle.std.proofs.lemmas.List.Sums.{fold_more}
use Rattle.replay.specs.layout.Entries.{Site}
use Rattle.station_record.specs.Lanes.{lane_of, lanes_below, lanes_of}
use Rattle.station_record.specs.inside.KindLanes.{with_lanes}
use Rattle.lane_chart.specs.declared.lane.Kind.{Kind}
use Rattle.lane_chart.specs.declared.lane.Kind.TheVariants as kind
use Rattle.lane_chart.specs.declared.lane.Lane.{Lane}

pub lanes_more : (kind : Kind) (place : ℕ) (before front all : List Lane) → front ≡ before ++ lanes_below kind place → all ≡ front ++ lane_of kind place ∷ [] → all ≡ before ++ lanes_below kind (place + 1)
lanes_more kind place before front all so more =
    let n : place + 1 ≡ suc place = omega arith in
    rw n (more ∙ ap (λ (ls : List Lane). ls ++ lane_of kind place ∷ []) so ∙ append_assoc before (lanes_below kind place) (lane_of kind place ∷ []))

-- those of one more kind
pub kinds_more : (kinds : List (Kind × ℕ)) (i : ℕ) (other : Kind × ℕ) (before after : List Lane) → i < length kinds → before ≡ fold with_lanes [] (take i kinds)
    → after ≡ with_lanes before (get_or kinds i other) → after ≡ fold with_lanes [] (take (i + 1) kinds)
kinds_more kinds i other before after within was more =
    more ∙ ap (λ (ls : List Lane). with_lanes ls (get_or kinds i other)) was ∙ sym (fold_more with_lanes [] kinds i other within)

pub kinds_all : (kinds : List (Kind × ℕ)) (i : ℕ) (now : List Lane) → length kinds ≤ i → now ≡ fold with_lanes [] (take i kinds) → now ≡ fold with_lanes [] kinds
kinds_all kinds i now past was = was ∙ ap (fold with_lanes []) (take_all i kinds past)

-- four lists of the field, and then five of the interlocking
field_first : (a b c d e f g h i : List Lane)
    → (((((((a ++ b) ++ c) ++ d) ++ e) ++ f) ++ g) ++ h) ++ i ≡ (a ++ (b ++ (c ++ d))) ++ (e ++ (f ++ (g ++ (h ++ i))))
field_first a b c d e f g h i =
    let field = ((a ++ b) ++ c) ++ d in
    append_assoc (((field ++ e) ++ f) ++ g) h i ∙ append_assoc ((field ++ e) ++ f) g (h ++ i) ∙ append_assoc (field ++ e) f (g ++ (h ++ i)) ∙ append_assoc field e (f ++ (g ++ (h ++ i)))
    ∙ ap (λ (ls : List Lane). ls ++ (e ++ (f ++ (g ++ (h ++ i))))) (append_assoc (a ++ b) c d ∙ append_assoc a b (c ++ d))

-- so many places of each kind
abbrev kinds_of : (signals points sections routes detectors : ℕ) → List (Kind × ℕ)
kinds_of signals points sections routes detectors =
    (kind.Aspect, signals) ∷ (kind.Position, points) ∷ (kind.Drive, points) ∷ (kind.Section, sections) ∷ (kind.Authority, signals) ∷ (kind.Route, routes)
    ∷ (kind.SignalLink, signals) ∷ (kind.PointLink, points) ∷ (kind.DetectorLink, detectors) ∷ []

-- those of a layout
pub all_lanes : (site : Site) (signals points sections routes detectors : ℕ) → signals ≡ length site.signals → points ≡ length site.points → sections ≡ length site.sections
    → routes ≡ length site.routes → detectors ≡ length site.detectors → fold with_lanes [] (kinds_of signals points sections routes detectors) ≡ lanes_of site
all_lanes site signals points sections routes detectors a b c d e =
    field_first (lanes_below kind.Aspect signals) (lanes_below kind.Position points) (lanes_below kind.Drive points) (lanes_below kind.Section sections)
    (lanes_below kind.Authority signals) (lanes_below kind.Route routes) (lanes_below kind.SignalLink signals) (lanes_below kind.PointLink points) (lanes_below kind.DetectorLink detectors)
    ∙ (λ j. (lanes_below kind.Aspect (a j) ++ (lanes_below kind.Position (b j) ++ (lanes_below kind.Drive (b j) ++ lanes_below kind.Section (c j))))
    ++ (lanes_below kind.Authority (a j) ++ (lanes_below kind.Route (d j) ++ (lanes_below kind.SignalLink (a j) ++ (lanes_below kind.PointLink (b j) ++ lanes_below kind.DetectorLink (e j))))))
