-- The words of a line say again what it tells.
use Rattle.std.proofs.Common.{◌≡◌, ◌≢◌, ◌<◌, ◌∙◌, ◌^◌, ◌++◌, ℕ, zero, suc, ◌&&◌, nat_lt, Bool, true, false, List, [], ◌∷◌, codes, length, map, Option, Some, None, slice_get, Result, Ok, refl, sym, ap, arith, if◌then◌else◌}
use Rattle.std.specs.Fmt.{decimal as written}
use Rattle.std.specs.List.{join_with_byte}
use Rattle.std.specs.Option.{option_map, option_map_or}
use Rattle.std.proofs.lemmas.Bool.Decides.{nat_tests}
use Rattle.panel_desk.specs.node_lines.closings.Things.{HasThing}
use Rattle.panel_desk.specs.node_lines.closings.Words.{Says as NamedBy, name_of, name_word, named, thing_name, thing_side}
use Rattle.panel_desk.specs.node_lines.closings.declared.auxiliary.Auxiliary.{Auxiliary}
use Rattle.panel_desk.specs.node_lines.closings.declared.auxiliary.Auxiliary.TheVariants as auxiliary
use Rattle.panel_desk.specs.node_lines.closings.declared.thing.Named.{Named}
use Rattle.panel_desk.specs.node_lines.closings.declared.thing.Named.TheVariants.{One}
use Rattle.panel_desk.specs.node_lines.closings.declared.thing.Thing.{Thing}
use Rattle.panel_desk.specs.node_lines.closings.declared.thing.Thing.TheVariants as things
use Rattle.panel_desk.specs.node_lines.replay_words.Read.{decimal}
use Rattle.panel_desk.specs.node_lines.layout.Nodes.{Signal as AtSignal, node_at}
use Rattle.panel_desk.specs.node_lines.layout.Entries.{RouteEntry, Site}
use Rattle.panel_desk.specs.node_lines.layout.declared.entries.Point.{Point as PointEntry}
use Rattle.panel_desk.specs.node_lines.layout.declared.entries.Signal.{Signal as SignalEntry}
use Rattle.panel_desk.specs.node_lines.layout.declared.ids.RouteId.{RouteId}
use Rattle.panel_desk.specs.node_lines.layout.declared.ids.PointId.{PointId}
use Rattle.panel_desk.specs.node_lines.layout.declared.ids.SectionId.{SectionId}
use Rattle.panel_desk.specs.node_lines.layout.declared.ids.SignalId.{SignalId}
use Rattle.panel_desk.specs.node_lines.replay_lines.Names.{node_named, node_names, point_named, point_word, route_named, route_word, section_named, section_word}
use Rattle.panel_desk.specs.node_lines.replay_words.Cut.{words}
use Rattle.panel_desk.specs.node_lines.replay_words.Fault.{◌>>=◌}
use Rattle.panel_desk.specs.node_lines.replay_words.Words.{are_words, is_without}
use Rattle.panel_desk.specs.node_lines.replay_words.declared.fault.Fault.{Fault}
use Rattle.panel_desk.specs.node_lines.sci_telegram.Words.{aspect_word}
use Rattle.panel_desk.specs.node_lines.sci_telegram.declared.message.Aspect.{Aspect}
use Rattle.panel_desk.specs.node_lines.sci_telegram.declared.message.Aspect.TheVariants.{Stop, Proceed, Slow}
use Rattle.panel_desk.specs.node_lines.sci_telegram.declared.message.Occupancy.{Occupancy}
use Rattle.panel_desk.specs.node_lines.sci_telegram.declared.message.Occupancy.TheVariants.{Clear, Occupied}
use Rattle.panel_desk.specs.node_lines.sci_telegram.declared.message.Side.{Side}
use Rattle.panel_desk.specs.node_lines.sci_telegram.declared.message.Side.TheVariants.{Left, Right}
use Rattle.panel_desk.specs.node_lines.simulator_event.layout.declared.ids.NodeId.{NodeId}
use Rattle.panel_desk.specs.node_lines.Known.{known_text, node_word, signal_word}
use Rattle.panel_desk.specs.node_lines.declared.operator_line.Authority.{Authority}
use Rattle.panel_desk.specs.node_lines.declared.operator_line.Known.{Known}
use Rattle.panel_desk.specs.node_lines.declared.operator_line.Known.TheVariants as known
use Rattle.panel_desk.specs.node_lines.declared.operator_line.LinkState.{LinkState}
use Rattle.panel_desk.specs.node_lines.declared.operator_line.LinkState.TheVariants.{Ready, Lost}
use Rattle.node_panel.specs.Lines.{IsOf, authority_said, closable, closing, known_route, one_thing, route_of, signal_named, signal_of, told_known, told_said}
use Rattle.node_panel.specs.declared.told.Told.TheVariants.{Tells}

-- what the crates below say of the names of a layout
pub record Names (site : Site) : Type 0 where
  pub joined : (ws : List (List ℕ)) → 0 < length ws → are_words ws ≡ true → words (join_with_byte 32 ws) ≡ ws
  pub nodes : (k : ℕ) (name : List ℕ) → slice_get (node_names site) k ≡ Some name → node_named site name ≡ Ok (record { 0 = k })
  pub sections : (k : ℕ) (name : List ℕ) → slice_get site.sections k ≡ Some name → section_named site name ≡ Ok (record { 0 = k })
  pub points : (k : ℕ) (point : PointEntry) → slice_get site.points k ≡ Some point → point_named site point.name ≡ Ok (record { 0 = k })
  pub routes : (k : ℕ) (route : RouteEntry) → slice_get site.routes k ≡ Some route → route_named site route.name ≡ record { 0 = k }
  pub node_words : (k : ℕ) (name : List ℕ) → slice_get (node_names site) k ≡ Some name → is_without 32 name ≡ true
  pub section_words : (k : ℕ) (name : List ℕ) → slice_get site.sections k ≡ Some name → is_without 32 name ≡ true
  pub point_words : (k : ℕ) (point : PointEntry) → slice_get site.points k ≡ Some point → is_without 32 point.name ≡ true
  pub route_words : (k : ℕ) (route : RouteEntry) → slice_get site.routes k ≡ Some route → is_without 32 route.name ≡ true
  pub things : (n : Named) (word : List ℕ) (side : Option Side) → NamedBy site n word side → named site word side ≡ Some n
  pub thing_words : (n : Named) (name : List ℕ) → name_of site n ≡ Some name → is_without 32 name ≡ true
  pub numbers : (n : ℕ) → n < 2 ^ 64 → decimal (written n) ≡ Ok n
  pub number_words : (n : ℕ) → n < 2 ^ 64 → is_without 32 (written n) ≡ true

-- a word that is read as this, and has no space
record Says (A : Type 0) (read : List ℕ → Result A Fault) (word : List ℕ) (value : A) : Type 0 where
  is_read : read word ≡ Ok value
  is_word : is_without 32 word ≡ true

not_past : {A : Type 0} (xs : List A) (k : ℕ) → k < length xs → slice_get xs k ≡ None → ⊥
not_past [] k h e = omega arith
not_past (x ∷ xs) zero h e = cc
not_past (x ∷ xs) (suc k) h e = not_past xs k (omega arith) e

-- the name of a signal is that of the node after it
signal_node : (xs : List SignalEntry) (rest : List (List ℕ)) (k : ℕ) (x : SignalEntry) → slice_get xs k ≡ Some x → slice_get (map (λ s. s.name) xs ++ rest) k ≡ Some x.name
signal_node [] rest k x e = absurd (cc)
signal_node (y ∷ ys) rest zero x e = ap (option_map (λ (s : SignalEntry). s.name)) e
signal_node (y ∷ ys) rest (suc k) x e = signal_node ys rest k x e

chosen : {A : Type 0} (test : Bool) (one other : A) → test ≡ true → (if test then one else other) ≡ one
chosen true one other e = refl
chosen false one other e = absurd (cc)

two : (first name : List ℕ) → is_without 32 first ≡ true → is_without 32 name ≡ true → are_words (first ∷ name ∷ []) ≡ true
two first name e f = ap (λ v. v && are_words (name ∷ [])) e ∙ ap (λ v. v && true) f

three : (first name last : List ℕ) → is_without 32 first ≡ true → is_without 32 name ≡ true → is_without 32 last ≡ true → are_words (first ∷ name ∷ last ∷ []) ≡ true
three first name last e f g = ap (λ v. v && are_words (name ∷ last ∷ [])) e ∙ ap (λ v. v && are_words (last ∷ [])) f ∙ ap (λ v. v && true) g

four : (first name aspect last : List ℕ) → is_without 32 first ≡ true → is_without 32 name ≡ true → is_without 32 aspect ≡ true → is_without 32 last ≡ true
    → are_words (first ∷ name ∷ aspect ∷ last ∷ []) ≡ true
four first name aspect last e f g h = ap (λ v. v && are_words (name ∷ aspect ∷ last ∷ [])) e ∙ three name aspect last f g h

module _ (site : Site) (names : Names site) where
  node-says : (node : NodeId) → node.0 < length (node_names site) → Says NodeId (node_named site) (node_word site node) node
  node-says node is = by (slice_get (node_names site) node.0) refl
    where
      by : (found : Option (List ℕ)) → slice_get (node_names site) node.0 ≡ found → Says NodeId (node_named site) (node_word site node) node
      by (Some name) e =
          let word : node_word site node ≡ name = ap (λ f. option_map_or (λ n. n) f (codes "_")) e in
          record { is_read = ap (node_named site) word ∙ names.nodes node.0 name e; is_word = ap (is_without 32) word ∙ names.node_words node.0 name e }
      by None e = absurd (not_past (node_names site) node.0 is e)

  section-says : (section : SectionId) → section.0 < length site.sections → Says SectionId (section_named site) (section_word site section) section
  section-says section is = by (slice_get site.sections section.0) refl
    where
      by : (found : Option (List ℕ)) → slice_get site.sections section.0 ≡ found → Says SectionId (section_named site) (section_word site section) section
      by (Some name) e =
          let word : section_word site section ≡ name = ap (λ f. option_map_or (λ n. n) f (codes "_")) e in
          record { is_read = ap (section_named site) word ∙ names.sections section.0 name e; is_word = ap (is_without 32) word ∙ names.section_words section.0 name e }
      by None e = absurd (not_past site.sections section.0 is e)

  point-says : (point : PointId) → point.0 < length site.points → Says PointId (point_named site) (point_word site point) point
  point-says point is = by (slice_get site.points point.0) refl
    where
      by : (found : Option PointEntry) → slice_get site.points point.0 ≡ found → Says PointId (point_named site) (point_word site point) point
      by (Some entry) e =
          let word : point_word site point ≡ entry.name = ap (λ f. option_map_or (λ p. p.name) f (codes "_")) e in
          record { is_read = ap (point_named site) word ∙ names.points point.0 entry e; is_word = ap (is_without 32) word ∙ names.point_words point.0 entry e }
      by None e = absurd (not_past site.points point.0 is e)

  signal-says : (signal : SignalId) → signal.0 < length site.signals → Says SignalId (signal_named site) (signal_word site signal) signal
  signal-says signal is = by (slice_get site.signals signal.0) refl
    where
      by : (found : Option SignalEntry) → slice_get site.signals signal.0 ≡ found → Says SignalId (signal_named site) (signal_word site signal) signal
      by (Some entry) e =
          let word : signal_word site signal ≡ entry.name = ap (λ f. option_map_or (λ s. s.name) f (codes "_")) e in
          let node : slice_get (node_names site) (suc signal.0) ≡ Some entry.name = signal_node site.signals (map (λ p. p.name) site.points ++ map (λ d. d.name) site.detectors) signal.0 entry e in
          let below : nat_lt signal.0 (length site.signals) ≡ true = grind (arith, nat_tests, is) in
          record {
            is_read = ap (signal_named site) word
                ∙ ap (λ (r : Result NodeId Fault). r >>= (λ (n : NodeId). signal_of (node_at site n.0))) (names.nodes (suc signal.0) entry.name node)
                ∙ ap signal_of (chosen (nat_lt signal.0 (length site.signals)) (Some (AtSignal signal.0)) _ below);
            is_word = ap (is_without 32) word ∙ names.node_words (suc signal.0) entry.name node;
          }
      by None e = absurd (not_past site.signals signal.0 is e)

  route-says : (route : RouteId) → route.0 < length site.routes → Says RouteId (known_route site) (route_word site route) route
  route-says route is = by (slice_get site.routes route.0) refl
    where
      by : (found : Option RouteEntry) → slice_get site.routes route.0 ≡ found → Says RouteId (known_route site) (route_word site route) route
      by (Some entry) e =
          let word : route_word site route ≡ entry.name = ap (λ f. option_map_or (λ r. r.name) f (codes "_")) e in
          let below : nat_lt route.0 (length site.routes) ≡ true = grind (arith, nat_tests, is) in
          record {
            is_read = ap (known_route site) word ∙ ap (route_of (length site.routes)) (names.routes route.0 entry e) ∙ chosen (nat_lt route.0 (length site.routes)) (Ok route) _ below;
            is_word = ap (is_without 32) word ∙ names.route_words route.0 entry e;
          }
      by None e = absurd (not_past site.routes route.0 is e)

  -- ---- lines of three words

  -- a line of a kind whose second word is read as a value
  line : {A : Type 0} (kind name word : List ℕ) (read : List ℕ → Result A Fault) (of : A → Known) (value : A)
      → is_without 32 kind ≡ true → is_without 32 word ≡ true → Says A read name value
      → told_said site (kind ∷ name ∷ word ∷ []) ≡ told_known (read name >>= (λ (a : A). Ok (of a)))
      → told_said site (words (join_with_byte 32 (kind ∷ name ∷ word ∷ []))) ≡ Ok (Tells (of value))
  line {A} kind name word read of value is_kind is_word says said =
      ap (told_said site) (names.joined (kind ∷ name ∷ word ∷ []) (omega arith) (three kind name word is_kind says.is_word is_word))
      ∙ said
      ∙ ap (λ (r : Result A Fault). told_known (r >>= (λ (a : A). Ok (of a)))) says.is_read

  link-read : (node : NodeId) (state : LinkState) → node.0 < length (node_names site) → told_said site (words (known_text site (known.Link node state))) ≡ Ok (Tells (known.Link node state))
  link-read node Ready is = line (codes "link") (node_word site node) (codes "ready") (node_named site) (λ n. known.Link n Ready) node refl refl (node-says node is) refl
  link-read node Lost is = line (codes "link") (node_word site node) (codes "lost") (node_named site) (λ n. known.Link n Lost) node refl refl (node-says node is) refl

  section-read : (section : SectionId) (occupancy : Option Occupancy) → section.0 < length site.sections
      → told_said site (words (known_text site (known.Section section occupancy))) ≡ Ok (Tells (known.Section section occupancy))
  section-read section (Some Clear) is = line (codes "section") (section_word site section) (codes "clear") (section_named site) (λ s. known.Section s (Some Clear)) section refl refl (section-says section is) refl
  section-read section (Some Occupied) is = line (codes "section") (section_word site section) (codes "occupied") (section_named site) (λ s. known.Section s (Some Occupied)) section refl refl (section-says section is) refl
  section-read section None is = line (codes "section") (section_word site section) (codes "unknown") (section_named site) (λ s. known.Section s None) section refl refl (section-says section is) refl

  point-read : (point : PointId) (side : Option Side) → point.0 < length site.points → told_said site (words (known_text site (known.Point point side))) ≡ Ok (Tells (known.Point point side))
  point-read point (Some Left) is = line (codes "point") (point_word site point) (codes "left") (point_named site) (λ p. known.Point p (Some Left)) point refl refl (point-says point is) refl
  point-read point (Some Right) is = line (codes "point") (point_word site point) (codes "right") (point_named site) (λ p. known.Point p (Some Right)) point refl refl (point-says point is) refl
  point-read point None is = line (codes "point") (point_word site point) (codes "unknown") (point_named site) (λ p. known.Point p None) point refl refl (point-says point is) refl

  indication-read : (signal : SignalId) (aspect : Aspect) → signal.0 < length site.signals
      → told_said site (words (known_text site (known.Indicates signal aspect))) ≡ Ok (Tells (known.Indicates signal aspect))
  indication-read signal Stop is = line (codes "indicates") (signal_word site signal) (codes "stop") (signal_named site) (λ s. known.Indicates s Stop) signal refl refl (signal-says signal is) refl
  indication-read signal Proceed is = line (codes "indicates") (signal_word site signal) (codes "proceed") (signal_named site) (λ s. known.Indicates s Proceed) signal refl refl (signal-says signal is) refl
  indication-read signal Slow is = line (codes "indicates") (signal_word site signal) (codes "slow") (signal_named site) (λ s. known.Indicates s Slow) signal refl refl (signal-says signal is) refl

  route-read : (route : RouteId) (is_set : Bool) → route.0 < length site.routes → told_said site (words (known_text site (known.Route route is_set))) ≡ Ok (Tells (known.Route route is_set))
  route-read route true is = line (codes "route") (route_word site route) (codes "set") (known_route site) (λ r. known.Route r true) route refl refl (route-says route is) refl
  route-read route false is = line (codes "route") (route_word site route) (codes "free") (known_route site) (λ r. known.Route r false) route refl refl (route-says route is) refl

  released-read : (route : RouteId) → route.0 < length site.routes → told_said site (words (known_text site (known.Released route))) ≡ Ok (Tells (known.Released route))
  released-read route is = line (codes "route") (route_word site route) (codes "released") (known_route site) (λ r. known.Released r) route refl refl (route-says route is) refl

  -- ---- what is closed, and isn't

  -- a thing of the layout has a name
  thing-name : (thing : Thing) → HasThing site thing → (name : List ℕ) × (thing_name site thing ≡ Some name)
  thing-name (things.Section section) is = by (slice_get site.sections section.0) refl
    where
      by : (found : Option (List ℕ)) → slice_get site.sections section.0 ≡ found → (name : List ℕ) × (thing_name site (things.Section section) ≡ Some name)
      by (Some name) e = (name, e)
      by None e = absurd (not_past site.sections section.0 is e)
  thing-name (things.Point point side) is = by (slice_get site.points point.0) refl
    where
      by : (found : Option PointEntry) → slice_get site.points point.0 ≡ found → (name : List ℕ) × (thing_name site (things.Point point side) ≡ Some name)
      by (Some entry) e = (entry.name, ap (option_map (λ (p : PointEntry). p.name)) e)
      by None e = absurd (not_past site.points point.0 is e)
  thing-name (things.Signal signal) is = by (slice_get site.signals signal.0) refl
    where
      by : (found : Option SignalEntry) → slice_get site.signals signal.0 ≡ found → (name : List ℕ) × (thing_name site (things.Signal signal) ≡ Some name)
      by (Some entry) e = (entry.name, ap (option_map (λ (s : SignalEntry). s.name)) e)
      by None e = absurd (not_past site.signals signal.0 is e)
  thing-name (things.Route route) is = by (slice_get site.routes route.0) refl
    where
      by : (found : Option RouteEntry) → slice_get site.routes route.0 ≡ found → (name : List ℕ) × (thing_name site (things.Route route) ≡ Some name)
      by (Some entry) e = (entry.name, ap (option_map (λ (r : RouteEntry). r.name)) e)
      by None e = absurd (not_past site.routes route.0 is e)

  -- its word is read as the thing, with its side where it has one
  thing-says : (thing : Thing) → HasThing site thing → Says Thing (λ word. one_thing (named site word (thing_side thing))) (name_word site (One thing)) thing
  thing-says thing is =
      let found = thing-name thing is in
      let word : name_word site (One thing) ≡ found.0 = ap (λ f. option_map_or (λ n. n) f (codes "_")) found.1 in
      record {
        is_read = ap (λ (n : Option Named). one_thing n) (names.things (One thing) (name_word site (One thing)) (thing_side thing) (record { name = found.1 ∙ ap Some (sym word); at = refl }));
        is_word = ap (is_without 32) word ∙ names.thing_words (One thing) found.0 found.1;
      }

  -- a line of two words, for a thing without a side
  whole-line : (kind : List ℕ) (is_closed : Bool) (thing : Thing) → is_without 32 kind ≡ true → HasThing site thing → thing_side thing ≡ None
      → ((word : List ℕ) → told_said site (kind ∷ word ∷ []) ≡ told_known (closing site is_closed (word ∷ [])))
      → told_said site (words (join_with_byte 32 (kind ∷ name_word site (One thing) ∷ []))) ≡ Ok (Tells (known.Closing thing is_closed))
  whole-line kind is_closed thing is_kind is whole said =
      let says = thing-says thing is in
      let word : List ℕ = name_word site (One thing) in
      let read : closable site word None ≡ Ok thing = ap (λ (s : Option Side). one_thing (named site word s)) (sym whole) ∙ says.is_read in
      ap (told_said site) (names.joined (kind ∷ word ∷ []) (omega arith) (two kind word is_kind says.is_word))
      ∙ said word
      ∙ ap (λ (r : Result Thing Fault). told_known (r >>= (λ (t : Thing). Ok (known.Closing t is_closed)))) read

  -- and of three, for a point at a side
  sided-line : (kind at : List ℕ) (is_closed : Bool) (point : PointId) (side : Side) → is_without 32 kind ≡ true → is_without 32 at ≡ true → point.0 < length site.points
      → ((word : List ℕ) → told_said site (kind ∷ word ∷ at ∷ []) ≡ told_known (one_thing (named site word (Some side)) >>= (λ (t : Thing). Ok (known.Closing t is_closed))))
      → told_said site (words (join_with_byte 32 (kind ∷ name_word site (One (things.Point point side)) ∷ at ∷ []))) ≡ Ok (Tells (known.Closing (things.Point point side) is_closed))
  sided-line kind at is_closed point side is_kind is_at is said =
      let says = thing-says (things.Point point side) is in
      let word : List ℕ = name_word site (One (things.Point point side)) in
      ap (told_said site) (names.joined (kind ∷ word ∷ at ∷ []) (omega arith) (three kind word at is_kind says.is_word is_at))
      ∙ said word
      ∙ ap (λ (r : Result Thing Fault). told_known (r >>= (λ (t : Thing). Ok (known.Closing t is_closed)))) says.is_read

  closing-read : (thing : Thing) (is_closed : Bool) → HasThing site thing → told_said site (words (known_text site (known.Closing thing is_closed))) ≡ Ok (Tells (known.Closing thing is_closed))
  closing-read (things.Section section) true is = whole-line (codes "closed") true (things.Section section) refl is refl (λ word. refl)
  closing-read (things.Section section) false is = whole-line (codes "open") false (things.Section section) refl is refl (λ word. refl)
  closing-read (things.Point point Left) true is = sided-line (codes "closed") (codes "left") true point Left refl refl is (λ word. refl)
  closing-read (things.Point point Left) false is = sided-line (codes "open") (codes "left") false point Left refl refl is (λ word. refl)
  closing-read (things.Point point Right) true is = sided-line (codes "closed") (codes "right") true point Right refl refl is (λ word. refl)
  closing-read (things.Point point Right) false is = sided-line (codes "open") (codes "right") false point Right refl refl is (λ word. refl)
  closing-read (things.Signal signal) true is = whole-line (codes "closed") true (things.Signal signal) refl is refl (λ word. refl)
  closing-read (things.Signal signal) false is = whole-line (codes "open") false (things.Signal signal) refl is refl (λ word. refl)
  closing-read (things.Route route) true is = whole-line (codes "closed") true (things.Route route) refl is refl (λ word. refl)
  closing-read (things.Route route) false is = whole-line (codes "open") false (things.Route route) refl is refl (λ word. refl)

  -- ---- what was counted

  number-says : (count : ℕ) → count < 2 ^ 64 → Says ℕ decimal (written count) count
  number-says count is = record { is_read = names.numbers count is; is_word = names.number_words count is }

  counted-line : (kind : List ℕ) (command : Auxiliary) (count : ℕ) → is_without 32 kind ≡ true → count < 2 ^ 64
      → ((word : List ℕ) → told_said site (codes "counted" ∷ kind ∷ word ∷ []) ≡ told_known (decimal word >>= (λ (n : ℕ). Ok (known.Counted command n))))
      → told_said site (words (join_with_byte 32 (codes "counted" ∷ kind ∷ written count ∷ []))) ≡ Ok (Tells (known.Counted command count))
  counted-line kind command count is_kind is said =
      let says = number-says count is in
      ap (told_said site) (names.joined (codes "counted" ∷ kind ∷ written count ∷ []) (omega arith) (three (codes "counted") kind (written count) refl is_kind says.is_word))
      ∙ said (written count)
      ∙ ap (λ (r : Result ℕ Fault). told_known (r >>= (λ (n : ℕ). Ok (known.Counted command n)))) says.is_read

  counted-read : (command : Auxiliary) (count : ℕ) → count < 2 ^ 64 → told_said site (words (known_text site (known.Counted command count))) ≡ Ok (Tells (known.Counted command count))
  counted-read auxiliary.Release count is = counted-line (codes "release") auxiliary.Release count refl is (λ word. refl)
  counted-read auxiliary.Open count is = counted-line (codes "open") auxiliary.Open count refl is (λ word. refl)

  -- ---- authority

  -- a signal's line, of which the third word is an aspect, and the fourth a route or a hyphen
  authority-line : (signal : SignalId) (aspect route : List ℕ) (authority : Option Authority) → signal.0 < length site.signals
      → is_without 32 aspect ≡ true → is_without 32 route ≡ true → authority_said site aspect route ≡ Ok authority
      → told_said site (words (join_with_byte 32 (codes "signal" ∷ signal_word site signal ∷ aspect ∷ route ∷ []))) ≡ Ok (Tells (known.Signal signal authority))
  authority-line signal aspect route authority is is_aspect is_route said =
      let says = signal-says signal is in
      ap (told_said site) (names.joined (codes "signal" ∷ signal_word site signal ∷ aspect ∷ route ∷ []) (omega arith) (four (codes "signal") (signal_word site signal) aspect route refl says.is_word is_aspect is_route))
      ∙ ap (λ (r : Result SignalId Fault). told_known (r >>= (λ (s : SignalId). authority_said site aspect route >>= (λ (a : Option Authority). Ok (known.Signal s a))))) says.is_read
      ∙ ap (λ (r : Result (Option Authority) Fault). told_known (r >>= (λ (a : Option Authority). Ok (known.Signal signal a)))) said

  given : (aspect : Aspect) (route : RouteId) → aspect ≢ Stop → route.0 < length site.routes
      → (authority_said site (aspect_word aspect) (route_word site route) ≡ Ok (Some (record { aspect = aspect; route = route }))) × (is_without 32 (aspect_word aspect) ≡ true)
  given Stop route other is = absurd (other refl)
  given Proceed route other is = (ap (λ (r : Result RouteId Fault). r >>= (λ (o : RouteId). Ok (Some (record { aspect = Proceed; route = o })))) (route-says route is).is_read, refl)
  given Slow route other is = (ap (λ (r : Result RouteId Fault). r >>= (λ (o : RouteId). Ok (Some (record { aspect = Slow; route = o })))) (route-says route is).is_read, refl)

  authority-read : (signal : SignalId) (authority : Option Authority) → IsOf site (known.Signal signal authority)
      → told_said site (words (known_text site (known.Signal signal authority))) ≡ Ok (Tells (known.Signal signal authority))
  authority-read signal None is = authority-line signal (codes "stop") (codes "-") None is.0 refl refl refl
  authority-read signal (Some authority) is =
      let said = given authority.aspect authority.route is.1.0 is.1.1 in
      authority-line signal (aspect_word authority.aspect) (route_word site authority.route) (Some authority) is.0 said.1 (route-says authority.route is.1.1).is_word said.0

  -- ---- all

  pub told-read : (thing : Known) → IsOf site thing → told_said site (words (known_text site thing)) ≡ Ok (Tells thing)
  told-read (known.Link node state) is = link-read node state is
  told-read (known.Section section occupancy) is = section-read section occupancy is
  told-read (known.Point point side) is = point-read point side is
  told-read (known.Signal signal authority) is = authority-read signal authority is
  told-read (known.Indicates signal aspect) is = indication-read signal aspect is
  told-read (known.Route route is_set) is = route-read route is_set is
  told-read (known.Released route) is = released-read route is
  told-read (known.Closing thing is_closed) is = closing-read thing is_closed is
  told-read (known.Counted command count) is = counted-read command count is
  told-read known.Holding is = ap (told_said site) (names.joined (codes "holding" ∷ []) (omega arith) refl)
  told-read known.WaitingForResume is = ap (told_said site) (names.joined (codes "waiting" ∷ codes "for" ∷ codes "resume" ∷ []) (omega arith) refl)
