-- The words of each event say it again.
use Rattle.std.proofs.Common.{◌≡◌, ◌≤◌, ◌<◌, ◌^◌, ◌∙◌, ℕ, zero, suc, ◌+◌, nat_lt, nat_le, ◌==◌, ◌&&◌, ◌||◌, not, Bool, true, false, List, [], ◌∷◌, ◌++◌, codes, length, replicate, slice_set, length-append, append_assoc, Option, Some, None, slice_get, Result, Ok, Err, refl, sym, ap, subst, arith, option_map, if◌then◌else◌}
use Rattle.std.proofs.lemmas.Bool.Decides.{nat_tests}
use Rattle.std.proofs.lemmas.Bool.{eqb-true, true≢false}
use Rattle.std.proofs.lemmas.List.{set_at}
use Rattle.std.proofs.lemmas.List.Elements.{All-head, All-tail}
use Rattle.std.proofs.lemmas.Slice.Eq.{bytes_eq-Decides}
use Rattle.std.proofs.lemmas.Option.{slice_get_within}
use Rattle.std.specs.Option.{option_map_or}
use Rattle.std.specs.List.{All, join_with_byte, list_any}
use Rattle.std.specs.Str.{bytes_eq}
use Rattle.std.specs.Fmt.{decimal as written}
use Rattle.std.proofs.lemmas.Option.{same_Some}
use Rattle.hex.specs.Hex.{IsBytes}
use Rattle.replay_words.specs.declared.fault.Fault.{Fault}
use Rattle.replay_words.specs.declared.fault.Fault.TheVariants.{Name, Number}
use Rattle.replay_words.specs.Fault.{both, ◌>>=◌}
use Rattle.replay_words.specs.Cut.{name_and_number, words}
use Rattle.replay_words.specs.Read.{decimal, hex_word, hexadecimal, hexadecimal_or_none}
use Rattle.replay_words.specs.Words.{are_words, is_without}
use Rattle.ixl_spec.specs.layout.declared.entries.Point.{Point}
use Rattle.ixl_spec.specs.layout.declared.ids.PointId.{PointId}
use Rattle.ixl_spec.specs.layout.declared.ids.RouteId.{RouteId}
use Rattle.ixl_spec.specs.layout.declared.ids.SectionId.{SectionId}
use Rattle.ixl_spec.specs.layout.Entries.{Site, RouteEntry}
use Rattle.ixl_spec.specs.closings.declared.thing.Named.{Named}
use Rattle.ixl_spec.specs.closings.declared.thing.Named.TheVariants.{BothSides, One}
use Rattle.ixl_spec.specs.closings.declared.thing.Thing.TheVariants as thing
use Rattle.ixl_spec.specs.closings.Words.{name_of, name_word, named, side_of, side_word}
use Rattle.ixl_spec.specs.declared.command.Command.{Command}
use Rattle.ixl_spec.specs.declared.command.Command.TheVariants as command
use Rattle.ixl_spec.specs.sci_telegram.declared.message.Side.{Side}
use Rattle.ixl_spec.specs.sci_telegram.declared.message.Side.TheVariants as sides
use Rattle.ixl_spec.specs.rasta_core.time.TheConstants.{LATEST_CLOCK}
use Rattle.ixl_spec.specs.rasta_pdu.declared.writer.TheConstants.{LONGEST_DATAGRAM}
use Rattle.ixl_spec.specs.sci_telegram.Words.{position_word}
use Rattle.ixl_spec.specs.sci_telegram.declared.message.Occupancy.TheVariants as occupancy
use Rattle.ixl_spec.specs.sci_telegram.declared.message.Position.{Position}
use Rattle.ixl_spec.specs.sci_telegram.declared.message.Position.TheVariants as position
use Rattle.simulator_event.specs.declared.event.Event.{Event}
use Rattle.simulator_event.specs.declared.event.Event.TheVariants.{Request, Occupy, Tick, Time, Deliver, Lose, Reach, Restart}
use Rattle.simulator_event.specs.layout.declared.ids.NodeId.{NodeId}
use Rattle.replay_lines.specs.Names.{node_named, node_names, point_named, point_word, route_named, route_word, section_named}
use Rattle.replay_lines.specs.Events.{are_formed, event as said, has_name, is_for, name_nodes, number_up_to, point_meant, point_or_last, sided_named, steps_set, whole_named}
use Rattle.replay_lines.specs.Written.{clock_words, event_line, event_words, side_words}
use Rattle.replay_lines.specs.ReadAgain.{IsOfValues, event_read, named_or_last, named_read, point_read, route_read}

-- what the crates below say of names, numbers and bytes
pub record Laws (site : Site) : Type 0 where
  pub joined : (ws : List (List ℕ)) → 0 < length ws → are_words ws ≡ true → words (join_with_byte 32 ws) ≡ ws
  pub parted : (name number : List ℕ) → is_without 61 name ≡ true → name_and_number (name ++ 61 ∷ number) ≡ Ok (name, number)
  pub number : (n : ℕ) → n < 2 ^ 64 → decimal (written n) ≡ Ok n
  pub number_word : (n : ℕ) → n < 2 ^ 64 → is_without 32 (written n) ≡ true
  pub bytes : (bytes : List ℕ) → IsBytes bytes → length bytes ≤ LONGEST_DATAGRAM → hexadecimal_or_none (hex_word bytes) ≡ Ok bytes
  pub some_bytes : (bytes : List ℕ) → IsBytes bytes → 0 < length bytes → length bytes ≤ LONGEST_DATAGRAM → hexadecimal (hex_word bytes) ≡ Ok bytes
  pub bytes_word : (bytes : List ℕ) → is_without 32 (hex_word bytes) ≡ true
  pub nodes : (k : ℕ) (name : List ℕ) → slice_get (node_names site) k ≡ Some name → node_named site name ≡ Ok (record { 0 = k })
  pub sections : (k : ℕ) (name : List ℕ) → slice_get site.sections k ≡ Some name → section_named site name ≡ Ok (record { 0 = k })
  pub points : (k : ℕ) (point : Point) → slice_get site.points k ≡ Some point → point_named site point.name ≡ Ok (record { 0 = k })
  pub routes : (k : ℕ) (route : RouteEntry) → slice_get site.routes k ≡ Some route → route_named site route.name ≡ record { 0 = k }
  pub node_words : (k : ℕ) (name : List ℕ) → slice_get (node_names site) k ≡ Some name → is_without 32 name ≡ true
  pub node_equals : (k : ℕ) (name : List ℕ) → slice_get (node_names site) k ≡ Some name → is_without 61 name ≡ true
  pub section_words : (k : ℕ) (name : List ℕ) → slice_get site.sections k ≡ Some name → is_without 32 name ≡ true
  pub point_words : (k : ℕ) (point : Point) → slice_get site.points k ≡ Some point → is_without 32 point.name ≡ true
  pub route_words : (k : ℕ) (route : RouteEntry) → slice_get site.routes k ≡ Some route → is_without 32 route.name ≡ true
  pub unknown : route_named site (codes "_") ≡ record { 0 = length site.routes }
  pub no_point : point_named site (codes "_") ≡ Err Name
  pub wholes : (n : Named) (name : List ℕ) → name_of site n ≡ Some name → side_of n ≡ None → named site name None ≡ Some n
  pub whole_words : (n : Named) (name : List ℕ) → name_of site n ≡ Some name → is_without 32 name ≡ true
  pub nothing : named site (codes "_") None ≡ None

-- ---- options and tests

mapped : {A B : Type 0} (f : A → B) (o : Option A) (b : B) → option_map f o ≡ Some b → (a : A) × (o ≡ Some a) × (b ≡ f a)
mapped f (Some a) b e = (a, refl, sym (same_Some (f a) b e))
mapped f None b e = absurd (cc)

kept : {A : Type 0} (test : Bool) (o : Option A) (b : A) → (if test then o else None) ≡ Some b → (test ≡ true) × (o ≡ Some b)
kept true o b e = (refl, e)
kept false o b e = absurd (cc)

within : (n most : ℕ) → nat_le n most ≡ true → n ≤ most
within n most e = grind (arith, nat_tests)

below : (n most : ℕ) → nat_lt n most ≡ true → n < most
below n most e = grind (arith, nat_tests)

two_tests : (a b : Bool) → (a && b) ≡ true → (a ≡ true) × (b ≡ true)
two_tests true b e = (refl, e)
two_tests false b e = absurd (cc)

not_past : {A : Type 0} (xs : List A) (k : ℕ) → k < length xs → slice_get xs k ≡ None → ⊥
not_past [] k h e = omega arith
not_past (x ∷ xs) zero h e = cc
not_past (x ∷ xs) (suc k) h e = not_past xs k (omega arith) e

-- ---- words

one_more : (w : List ℕ) (ws : List (List ℕ)) → is_without 32 w ≡ true → are_words ws ≡ true → are_words (w ∷ ws) ≡ true
one_more w ws e f = ap (λ v. v && are_words ws) e ∙ f

-- words say an event, and are words without spaces
pub record Says (site : Site) (ws : List (List ℕ)) (event : Event) : Type 0 where
  pub said_is : said site ws ≡ Ok event
  pub some : 0 < length ws
  pub are : are_words ws ≡ true

says-same : (site : Site) (ws vs : List (List ℕ)) (event : Event) → ws ≡ vs → Says site vs event → Says site ws event
says-same site ws vs event e says = subst (λ (list : List (List ℕ)). Says site list event) (sym e) says

module _ (site : Site) (laws : Laws site) where
  -- ---- commands

  route-says : (route : RouteId) → (route_named site (route_word site route) ≡ route_read site route) × (is_without 32 (route_word site route) ≡ true)
  route-says route = by (slice_get site.routes route.0) refl (nat_lt route.0 (length site.routes)) refl
    where
      by : (found : Option RouteEntry) → slice_get site.routes route.0 ≡ found → (v : Bool) → nat_lt route.0 (length site.routes) ≡ v
          → (route_named site (route_word site route) ≡ (if v then route else record { 0 = length site.routes })) × (is_without 32 (route_word site route) ≡ true)
      by (Some entry) e true h =
          let word : route_word site route ≡ entry.name = ap (λ f. option_map_or (λ r. r.name) f (codes "_")) e in
          (ap (route_named site) word ∙ laws.routes route.0 entry e, ap (is_without 32) word ∙ laws.route_words route.0 entry e)
      by (Some entry) e false h =
          let there = slice_get_within site.routes route.0 entry e in
          absurd (true≢false (sym (grind (arith, nat_tests, there)) ∙ h))
      by None e false h =
          let word : route_word site route ≡ codes "_" = ap (λ f. option_map_or (λ r. r.name) f (codes "_")) e in
          (ap (route_named site) word ∙ laws.unknown, ap (is_without 32) word)
      by None e true h = absurd (not_past site.routes route.0 (below route.0 (length site.routes) h) e)

  set-says : (route : RouteId) → Says site (codes "set" ∷ route_word site route ∷ []) (Request (command.Request (route_read site route)))
  set-says route =
      let says = route-says route in
      record {
        said_is = ap (λ (r : RouteId). Ok (Request (command.Request r))) says.0;
        some = omega arith;
        are = one_more (codes "set") (route_word site route ∷ []) refl (one_more (route_word site route) [] says.1 refl);
      }

  cancel-says : (route : RouteId) → Says site (codes "cancel" ∷ route_word site route ∷ []) (Request (command.Cancel (route_read site route)))
  cancel-says route =
      let says = route-says route in
      record {
        said_is = ap (λ (r : RouteId). Ok (Request (command.Cancel r))) says.0;
        some = omega arith;
        are = one_more (codes "cancel") (route_word site route ∷ []) refl (one_more (route_word site route) [] says.1 refl);
      }

  release-says : (route : RouteId) → Says site (codes "release" ∷ route_word site route ∷ []) (Request (command.Release (route_read site route)))
  release-says route =
      let says = route-says route in
      record {
        said_is = ap (λ (r : RouteId). Ok (Request (command.Release r))) says.0;
        some = omega arith;
        are = one_more (codes "release") (route_word site route ∷ []) refl (one_more (route_word site route) [] says.1 refl);
      }

  point-says : (point : PointId) → (point_meant site (point_word site point) ≡ point_read site point) × (is_without 32 (point_word site point) ≡ true)
  point-says point = by (slice_get site.points point.0) refl (nat_lt point.0 (length site.points)) refl
    where
      by : (found : Option Point) → slice_get site.points point.0 ≡ found → (v : Bool) → nat_lt point.0 (length site.points) ≡ v
          → (point_meant site (point_word site point) ≡ (if v then point else record { 0 = length site.points })) × (is_without 32 (point_word site point) ≡ true)
      by (Some entry) e true h =
          let word : point_word site point ≡ entry.name = ap (λ f. option_map_or (λ p. p.name) f (codes "_")) e in
          (ap (point_meant site) word ∙ ap (point_or_last site) (laws.points point.0 entry e), ap (is_without 32) word ∙ laws.point_words point.0 entry e)
      by (Some entry) e false h =
          let there = slice_get_within site.points point.0 entry e in
          absurd (true≢false (sym (grind (arith, nat_tests, there)) ∙ h))
      by None e false h =
          let word : point_word site point ≡ codes "_" = ap (λ f. option_map_or (λ p. p.name) f (codes "_")) e in
          (ap (point_meant site) word ∙ ap (point_or_last site) laws.no_point, ap (is_without 32) word)
      by None e true h = absurd (not_past site.points point.0 (below point.0 (length site.points) h) e)

  side-is-word : (side : Side) → is_without 32 (side_word side) ≡ true
  side-is-word sides.Left = refl
  side-is-word sides.Right = refl

  move-says : (point : PointId) (side : Side) → Says site (codes "move" ∷ point_word site point ∷ side_word side ∷ []) (Request (command.Move (point_read site point) side))
  move-says point side =
      let says = point-says point in
      record {
        said_is = by side ∙ ap (λ (p : PointId). Ok (Request (command.Move p side))) says.0;
        some = omega arith;
        are = one_more (codes "move") (point_word site point ∷ side_word side ∷ []) refl (one_more (point_word site point) (side_word side ∷ []) says.1 (one_more (side_word side) [] (side-is-word side) refl));
      }
    where
      by : (at : Side) → said site (codes "move" ∷ point_word site point ∷ side_word at ∷ []) ≡ Ok (Request (command.Move (point_meant site (point_word site point)) at))
      by sides.Left = refl
      by sides.Right = refl

  -- what is named without a side
  whole-says : (n : Named) → side_of n ≡ None → (whole_named site (name_word site n) ≡ named_or_last site n (name_of site n)) × (is_without 32 (name_word site n) ≡ true)
  whole-says n none = by (name_of site n) refl
    where
      by : (found : Option (List ℕ)) → name_of site n ≡ found
          → (whole_named site (option_map_or (λ name. name) found (codes "_")) ≡ named_or_last site n found) × (is_without 32 (option_map_or (λ name. name) found (codes "_")) ≡ true)
      by (Some name) e = (ap (λ (o : Option Named). option_map_or (λ m. m) o (One (thing.Route (record { 0 = length site.routes })))) (laws.wholes n name e none), laws.whole_words n name e)
      by None e = (ap (λ (o : Option Named). option_map_or (λ m. m) o (One (thing.Route (record { 0 = length site.routes })))) laws.nothing, refl)

  -- the name of a point is its word
  point-name : (point : PointId) (side : Side) → name_word site (One (thing.Point point side)) ≡ point_word site point
  point-name point side = by (slice_get site.points point.0)
    where
      by : (found : Option Point) → option_map_or (λ name. name) (option_map (λ p. p.name) found) (codes "_") ≡ option_map_or (λ p. p.name) found (codes "_")
      by (Some entry) = refl
      by None = refl

  -- what is named with one
  sided-says : (point : PointId) (side : Side) → (point_meant site (name_word site (One (thing.Point point side))) ≡ point_read site point) × (is_without 32 (name_word site (One (thing.Point point side))) ≡ true)
  sided-says point side =
      let says = point-says point in
      (ap (point_meant site) (point-name point side) ∙ says.0, ap (is_without 32) (point-name point side) ∙ says.1)

  -- a verb that is said of what is named
  abbrev IsSaid : List ℕ → (Named → Command) → Type 0
  IsSaid verb asks =
      ((word : List ℕ) → said site (verb ∷ word ∷ []) ≡ Ok (Request (asks (whole_named site word))))
      × ((word : List ℕ) (side : Side) → said site (verb ∷ word ∷ side_word side ∷ []) ≡ Ok (Request (asks (sided_named site word side))))
      × (is_without 32 verb ≡ true)

  whole-said : (verb : List ℕ) (asks : Named → Command) → IsSaid verb asks → (n : Named) → side_of n ≡ None → Says site (verb ∷ name_word site n ∷ []) (Request (asks (named_or_last site n (name_of site n))))
  whole-said verb asks is n none =
      let says = whole-says n none in
      record {
        said_is = is.0 (name_word site n) ∙ ap (λ m. Ok (Request (asks m))) says.0;
        some = omega arith;
        are = one_more verb (name_word site n ∷ []) is.2 (one_more (name_word site n) [] says.1 refl);
      }

  sided-said : (verb : List ℕ) (asks : Named → Command) → IsSaid verb asks → (point : PointId) (side : Side)
      → Says site (verb ∷ name_word site (One (thing.Point point side)) ∷ side_word side ∷ []) (Request (asks (One (thing.Point (point_read site point) side))))
  sided-said verb asks is point side =
      let says = sided-says point side in
      let word = name_word site (One (thing.Point point side)) in
      record {
        said_is = is.1 word side ∙ ap (λ (p : PointId). Ok (Request (asks (One (thing.Point p side))))) says.0;
        some = omega arith;
        are = one_more verb (word ∷ side_word side ∷ []) is.2 (one_more word (side_word side ∷ []) says.1 (one_more (side_word side) [] (side-is-word side) refl));
      }

  named-said : (verb : List ℕ) (asks : Named → Command) → IsSaid verb asks → (n : Named) → Says site (verb ∷ name_word site n ∷ side_words (side_of n)) (Request (asks (named_read site n)))
  named-said verb asks is (One (thing.Point point side)) = sided-said verb asks is point side
  named-said verb asks is (One (thing.Section s)) = whole-said verb asks is (One (thing.Section s)) refl
  named-said verb asks is (One (thing.Signal s)) = whole-said verb asks is (One (thing.Signal s)) refl
  named-said verb asks is (One (thing.Route r)) = whole-said verb asks is (One (thing.Route r)) refl
  named-said verb asks is (BothSides p) = whole-said verb asks is (BothSides p) refl

  close-says : (n : Named) → Says site (codes "close" ∷ name_word site n ∷ side_words (side_of n)) (Request (command.Close (named_read site n)))
  close-says = named-said (codes "close") command.Close ((λ word. refl), by, refl)
    where
      by : (word : List ℕ) (side : Side) → said site (codes "close" ∷ word ∷ side_word side ∷ []) ≡ Ok (Request (command.Close (sided_named site word side)))
      by word sides.Left = refl
      by word sides.Right = refl

  open-says : (n : Named) → Says site (codes "open" ∷ name_word site n ∷ side_words (side_of n)) (Request (command.Open (named_read site n)))
  open-says = named-said (codes "open") command.Open ((λ word. refl), by, refl)
    where
      by : (word : List ℕ) (side : Side) → said site (codes "open" ∷ word ∷ side_word side ∷ []) ≡ Ok (Request (command.Open (sided_named site word side)))
      by word sides.Left = refl
      by word sides.Right = refl

  -- ---- occupancies

  occupy-says : (k : ℕ) (name : List ℕ) → slice_get site.sections k ≡ Some name → Says site (codes "occupy" ∷ name ∷ []) (Occupy (record { 0 = k }) occupancy.Occupied)
  occupy-says k name e = record {
    said_is = ap (λ (r : Result SectionId Fault). r >>= (λ of. Ok (Occupy of occupancy.Occupied))) (laws.sections k name e);
    some = omega arith;
    are = one_more (codes "occupy") (name ∷ []) refl (one_more name [] (laws.section_words k name e) refl);
  }

  clear-says : (k : ℕ) (name : List ℕ) → slice_get site.sections k ≡ Some name → Says site (codes "clear" ∷ name ∷ []) (Occupy (record { 0 = k }) occupancy.Clear)
  clear-says k name e = record {
    said_is = ap (λ (r : Result SectionId Fault). r >>= (λ of. Ok (Occupy of occupancy.Clear))) (laws.sections k name e);
    some = omega arith;
    are = one_more (codes "clear") (name ∷ []) refl (one_more name [] (laws.section_words k name e) refl);
  }

  -- ---- nodes

  tick-says : (k : ℕ) (name : List ℕ) → slice_get (node_names site) k ≡ Some name → Says site (codes "tick" ∷ name ∷ []) (Tick (record { 0 = k }))
  tick-says k name e = record {
    said_is = ap (λ (r : Result NodeId Fault). r >>= (λ of. Ok (Tick of))) (laws.nodes k name e);
    some = omega arith;
    are = one_more (codes "tick") (name ∷ []) refl (one_more name [] (laws.node_words k name e) refl);
  }

  deliver-says : (k : ℕ) (name bytes : List ℕ) → slice_get (node_names site) k ≡ Some name → IsBytes bytes → length bytes ≤ LONGEST_DATAGRAM
      → Says site (codes "deliver" ∷ name ∷ hex_word bytes ∷ []) (Deliver (record { 0 = k }) bytes)
  deliver-says k name bytes e are few = record {
    said_is =
        ap (λ (r : Result NodeId Fault). both r (hexadecimal_or_none (hex_word bytes)) >>= (λ of. Ok (Deliver of.0 of.1))) (laws.nodes k name e)
        ∙ ap (λ (r : Result (List ℕ) Fault). both (Ok (record { 0 = k })) r >>= (λ (of : NodeId × List ℕ). Ok (Deliver of.0 of.1))) (laws.bytes bytes are few);
    some = omega arith;
    are = one_more (codes "deliver") (name ∷ hex_word bytes ∷ []) refl (one_more name (hex_word bytes ∷ []) (laws.node_words k name e) (one_more (hex_word bytes) [] (laws.bytes_word bytes) refl));
  }

  lose-says : (bytes : List ℕ) → IsBytes bytes → 0 < length bytes → length bytes ≤ LONGEST_DATAGRAM → Says site (codes "lose" ∷ hex_word bytes ∷ []) (Lose bytes)
  lose-says bytes are any few = record {
    said_is = ap (λ (r : Result (List ℕ) Fault). r >>= (λ of. Ok (Lose of))) (laws.some_bytes bytes are any few);
    some = omega arith;
    are = one_more (codes "lose") (hex_word bytes ∷ []) refl (one_more (hex_word bytes) [] (laws.bytes_word bytes) refl);
  }

  reach-says : (k : ℕ) (point : Point) (lies : Position) → slice_get site.points k ≡ Some point
      → Says site (codes "reach" ∷ point.name ∷ position_word lies ∷ []) (Reach (record { 0 = k }) lies)
  reach-says k point lies e = record {
    said_is = by lies;
    some = omega arith;
    are = one_more (codes "reach") (point.name ∷ position_word lies ∷ []) refl (one_more point.name (position_word lies ∷ []) (laws.point_words k point e) (one_more (position_word lies) [] (word lies) refl));
  }
    where
      by : (p : Position) → said site (codes "reach" ∷ point.name ∷ position_word p ∷ []) ≡ Ok (Reach (record { 0 = k }) p)
      by position.Left = ap (λ (r : Result PointId Fault). r >>= (λ of. Ok (Reach of position.Left))) (laws.points k point e)
      by position.Right = ap (λ (r : Result PointId Fault). r >>= (λ of. Ok (Reach of position.Right))) (laws.points k point e)
      by position.NoEndPosition = ap (λ (r : Result PointId Fault). r >>= (λ of. Ok (Reach of position.NoEndPosition))) (laws.points k point e)

      word : (p : Position) → is_without 32 (position_word p) ≡ true
      word position.Left = refl
      word position.Right = refl
      word position.NoEndPosition = refl

  up_to : (most n : ℕ) → n < 2 ^ 64 → n ≤ most → number_up_to most (written n) ≡ Ok n
  up_to most n small few =
      ap (λ (r : Result ℕ Fault). r >>= (λ (k : ℕ). if nat_le k most then Ok k else Err Number)) (laws.number n small)
      ∙ fits (nat_le n most) (grind (arith, nat_tests, few))
    where
      fits : (v : Bool) → v ≡ true → (if v then Ok n else Err Number) ≡ Ok n
      fits true h = refl
      fits false h = cc

  restart-says : (k : ℕ) (name : List ℕ) (clock number : ℕ) → slice_get (node_names site) k ≡ Some name → clock ≤ LATEST_CLOCK → number < 2 ^ 32
      → Says site (codes "restart" ∷ name ∷ written clock ∷ written number ∷ []) (Restart (record { 0 = k }) clock number)
  restart-says k name clock number e early small =
      let clock_small : clock < 2 ^ 64 = omega (arith, early) in
      let number_small : number < 2 ^ 64 = omega (arith, small) in
      record {
        said_is =
            ap (λ (r : Result NodeId Fault). both r (both (number_up_to LATEST_CLOCK (written clock)) (number_up_to 4294967295 (written number))) >>= (λ of. Ok (Restart of.0 of.1.0 of.1.1))) (laws.nodes k name e)
            ∙ ap (λ (r : Result ℕ Fault). both (Ok (record { 0 = k })) (both r (number_up_to 4294967295 (written number))) >>= (λ (of : NodeId × (ℕ × ℕ)). Ok (Restart of.0 of.1.0 of.1.1))) (up_to LATEST_CLOCK clock clock_small early)
            ∙ ap (λ (r : Result ℕ Fault). both (Ok (record { 0 = k })) (both (Ok clock) r) >>= (λ (of : NodeId × (ℕ × ℕ)). Ok (Restart of.0 of.1.0 of.1.1))) (up_to 4294967295 number number_small (omega (arith, small)));
        some = omega arith;
        are =
            one_more (codes "restart") (name ∷ written clock ∷ written number ∷ []) refl
            (one_more name (written clock ∷ written number ∷ []) (laws.node_words k name e)
            (one_more (written clock) (written number ∷ []) (laws.number_word clock clock_small) (one_more (written number) [] (laws.number_word number number_small) refl)));
      }

  -- ---- time

  -- two nodes have different names
  unlike : (p q : ℕ) (name other : List ℕ) → slice_get (node_names site) p ≡ Some name → slice_get (node_names site) q ≡ Some other → p < q → bytes_eq other name ≡ false
  unlike p q name other at there less = by (bytes_eq other name) refl
    where
      by : (v : Bool) → bytes_eq other name ≡ v → v ≡ false
      by true e =
          let same : other ≡ name = (bytes_eq-Decides other name).0 e in
          let place : Result NodeId Fault → ℕ = λ r. elim r [ Ok node ↦ node.0 | Err fault ↦ p ] in
          let places : p ≡ q = ap place (sym (laws.nodes p name at) ∙ ap (node_named site) (sym same) ∙ laws.nodes q other there) in
          absurd (omega (arith, places, less))
      by false e = refl

  -- names are those of the nodes from a place on
  abbrev Follow : ℕ → List (List ℕ) → Type 0
  Follow place names = (k : ℕ) → slice_get (node_names site) (place + k) ≡ slice_get names k

  first : (place : ℕ) (name : List ℕ) (names : List (List ℕ)) → Follow place (name ∷ names) → slice_get (node_names site) place ≡ Some name
  first place name names same = ap (slice_get (node_names site)) (omega arith) ∙ same 0

  later : (place : ℕ) (name : List ℕ) (names : List (List ℕ)) → Follow place (name ∷ names) → Follow (suc place) names
  later place name names same k = ap (slice_get (node_names site)) (omega arith) ∙ same (suc k)

  -- no word after that of a node names it
  none_has : (p : ℕ) (name : List ℕ) → slice_get (node_names site) p ≡ Some name → (elapsed q : ℕ) (names : List (List ℕ)) (steps : List ℕ) → p < q → Follow q names
      → list_any (has_name name) (clock_words elapsed names steps) ≡ false
  none_has p name at elapsed q [] [] less same = refl
  none_has p name at elapsed q [] (step ∷ steps) less same = refl
  none_has p name at elapsed q (other ∷ names) [] less same = refl
  none_has p name at elapsed q (other ∷ names) (step ∷ steps) less same = one (step == elapsed) (none_has p name at elapsed (suc q) names steps (omega (arith, less)) (later q other names same))
    where
      one : (v : Bool) → list_any (has_name name) (clock_words elapsed names steps) ≡ false → list_any (has_name name) (if v then clock_words elapsed names steps else (other ++ 61 ∷ written step) ∷ clock_words elapsed names steps) ≡ false
      one true rest = rest
      one false rest =
          ap (λ (r : Result (List ℕ × List ℕ) Fault). is_for name r || list_any (has_name name) (clock_words elapsed names steps)) (laws.parted other (written step) (laws.node_equals q other (first q other names same)))
          ∙ ap (λ (v : Bool). v || list_any (has_name name) (clock_words elapsed names steps)) (unlike p q name other at (first q other names same) less)
          ∙ rest

  formed : (elapsed place : ℕ) (names : List (List ℕ)) (steps : List ℕ) → Follow place names → are_formed (clock_words elapsed names steps) ≡ Ok tt
  formed elapsed place [] [] same = refl
  formed elapsed place [] (step ∷ steps) same = refl
  formed elapsed place (name ∷ names) [] same = refl
  formed elapsed place (name ∷ names) (step ∷ steps) same = one (step == elapsed) (formed elapsed (suc place) names steps (later place name names same))
    where
      one : (v : Bool) → are_formed (clock_words elapsed names steps) ≡ Ok tt → are_formed (if v then clock_words elapsed names steps else (name ++ 61 ∷ written step) ∷ clock_words elapsed names steps) ≡ Ok tt
      one true rest = rest
      one false rest =
          ap (λ (r : Result (List ℕ × List ℕ) Fault). r >>= (λ sides. are_formed (clock_words elapsed names steps))) (laws.parted name (written step) (laws.node_equals place name (first place name names same)))
          ∙ rest

  nodes_named : (elapsed place : ℕ) (names : List (List ℕ)) (steps : List ℕ) → Follow place names → name_nodes site (clock_words elapsed names steps) ≡ Ok tt
  nodes_named elapsed place [] [] same = refl
  nodes_named elapsed place [] (step ∷ steps) same = refl
  nodes_named elapsed place (name ∷ names) [] same = refl
  nodes_named elapsed place (name ∷ names) (step ∷ steps) same = one (step == elapsed) (nodes_named elapsed (suc place) names steps (later place name names same))
    where
      there : slice_get (node_names site) place ≡ Some name
      there = first place name names same

      one : (v : Bool) → name_nodes site (clock_words elapsed names steps) ≡ Ok tt → name_nodes site (if v then clock_words elapsed names steps else (name ++ 61 ∷ written step) ∷ clock_words elapsed names steps) ≡ Ok tt
      one true rest = rest
      one false rest =
          let more = clock_words elapsed names steps in
          ap (λ (r : Result (List ℕ × List ℕ) Fault). r >>= (λ sides. node_named site sides.0 >>= (λ node. if list_any (has_name sides.0) more then Err Name else name_nodes site more))) (laws.parted name (written step) (laws.node_equals place name there))
          ∙ ap (λ (r : Result NodeId Fault). r >>= (λ node. if list_any (has_name name) more then Err Name else name_nodes site more)) (laws.nodes place name there)
          ∙ ap (λ (v : Bool). if v then Err Name else name_nodes site more) (none_has place name there elapsed (suc place) names steps (omega arith) (later place name names same))
          ∙ rest

  clocks_set : (elapsed place : ℕ) (names : List (List ℕ)) (done steps : List ℕ) → Follow place names → length steps ≡ length names → length done ≡ place → All (λ step. step < 2 ^ 64) steps
      → steps_set site (clock_words elapsed names steps) (done ++ replicate (length names) elapsed) ≡ Ok (done ++ steps)
  clocks_set elapsed place [] done [] same counted at small = refl
  clocks_set elapsed place [] done (step ∷ steps) same counted at small = absurd (omega (arith, counted))
  clocks_set elapsed place (name ∷ names) done [] same counted at small = absurd (omega (arith, counted))
  clocks_set elapsed place (name ∷ names) done (step ∷ steps) same counted at small =
      one (step == elapsed) refl
      (ap (steps_set site (clock_words elapsed names steps)) (sym (append_assoc done (step ∷ []) (replicate (length names) elapsed)))
      ∙ clocks_set elapsed (suc place) names (done ++ step ∷ []) steps (later place name names same) (omega (arith, counted)) (length-append done (step ∷ []) ∙ omega (arith, at)) (All-tail (λ (s : ℕ). s < 2 ^ 64) step steps small)
      ∙ ap Ok (append_assoc done (step ∷ []) steps))
    where
      there : slice_get (node_names site) place ≡ Some name
      there = first place name names same

      one : (v : Bool) → (step == elapsed) ≡ v → steps_set site (clock_words elapsed names steps) (done ++ step ∷ replicate (length names) elapsed) ≡ Ok (done ++ step ∷ steps)
          → steps_set site (if v then clock_words elapsed names steps else (name ++ 61 ∷ written step) ∷ clock_words elapsed names steps) (done ++ elapsed ∷ replicate (length names) elapsed) ≡ Ok (done ++ step ∷ steps)
      one true e rest =
          ap (λ (n : ℕ). steps_set site (clock_words elapsed names steps) (done ++ n ∷ replicate (length names) elapsed)) (sym (eqb-true step elapsed e)) ∙ rest
      one false e rest =
          let start = done ++ elapsed ∷ replicate (length names) elapsed in
          ap (λ (r : Result (List ℕ × List ℕ) Fault). r >>= (λ sides. node_named site sides.0 >>= (λ node. decimal sides.1 >>= (λ number. steps_set site (clock_words elapsed names steps) (slice_set start node.0 number))))) (laws.parted name (written step) (laws.node_equals place name there))
          ∙ ap (λ (r : Result NodeId Fault). r >>= (λ node. decimal (written step) >>= (λ number. steps_set site (clock_words elapsed names steps) (slice_set start node.0 number)))) (laws.nodes place name there)
          ∙ ap (λ (r : Result ℕ Fault). r >>= (λ number. steps_set site (clock_words elapsed names steps) (slice_set start place number))) (laws.number step (All-head (λ (s : ℕ). s < 2 ^ 64) step steps small))
          ∙ ap (steps_set site (clock_words elapsed names steps)) (set_at done elapsed (replicate (length names) elapsed) step place at)
          ∙ rest

  without-append : (a b : List ℕ) → is_without 32 a ≡ true → is_without 32 b ≡ true → is_without 32 (a ++ b) ≡ true
  without-append [] b e f = f
  without-append (x ∷ a) b e f =
      let parts = two_tests (not (x == 32)) (is_without 32 a) e in
      ap (λ (v : Bool). v && is_without 32 (a ++ b)) parts.0 ∙ without-append a b parts.1 f

  clocks_are_words : (elapsed place : ℕ) (names : List (List ℕ)) (steps : List ℕ) → Follow place names → All (λ step. step < 2 ^ 64) steps → are_words (clock_words elapsed names steps) ≡ true
  clocks_are_words elapsed place [] [] same small = refl
  clocks_are_words elapsed place [] (step ∷ steps) same small = refl
  clocks_are_words elapsed place (name ∷ names) [] same small = refl
  clocks_are_words elapsed place (name ∷ names) (step ∷ steps) same small = one (step == elapsed) (clocks_are_words elapsed (suc place) names steps (later place name names same) (All-tail (λ (s : ℕ). s < 2 ^ 64) step steps small))
    where
      one : (v : Bool) → are_words (clock_words elapsed names steps) ≡ true → are_words (if v then clock_words elapsed names steps else (name ++ 61 ∷ written step) ∷ clock_words elapsed names steps) ≡ true
      one true rest = rest
      one false rest =
          one_more (name ++ 61 ∷ written step) (clock_words elapsed names steps)
          (without-append name (61 ∷ written step) (laws.node_words place name (first place name names same)) (laws.number_word step (All-head (λ (s : ℕ). s < 2 ^ 64) step steps small)))
          rest

  time-says : (elapsed : ℕ) (steps : List ℕ) → elapsed < 2 ^ 64 → All (λ step. step < 2 ^ 64) steps → length steps ≡ length (node_names site)
      → Says site (codes "time" ∷ written elapsed ∷ clock_words elapsed (node_names site) steps) (Time elapsed steps)
  time-says elapsed steps small all_small counted =
      let names = node_names site in
      let same : Follow 0 names = λ k. ap (slice_get names) (omega arith) in
      record {
        said_is =
            ap (λ (r : Result (Unit {0}) Fault). r >>= (λ _. name_nodes site (clock_words elapsed names steps) >>= (λ _. decimal (written elapsed) >>= (λ d. steps_set site (clock_words elapsed names steps) (replicate (length names) d) >>= (λ set. Ok (Time d set)))))) (formed elapsed 0 names steps same)
            ∙ ap (λ (r : Result (Unit {0}) Fault). r >>= (λ _. decimal (written elapsed) >>= (λ d. steps_set site (clock_words elapsed names steps) (replicate (length names) d) >>= (λ set. Ok (Time d set))))) (nodes_named elapsed 0 names steps same)
            ∙ ap (λ (r : Result ℕ Fault). r >>= (λ d. steps_set site (clock_words elapsed names steps) (replicate (length names) d) >>= (λ set. Ok (Time d set)))) (laws.number elapsed small)
            ∙ ap (λ (r : Result (List ℕ) Fault). r >>= (λ set. Ok (Time elapsed set))) (clocks_set elapsed 0 names [] steps same counted refl all_small);
        some = omega arith;
        are = one_more (codes "time") (written elapsed ∷ clock_words elapsed names steps) refl (one_more (written elapsed) (clock_words elapsed names steps) (laws.number_word elapsed small) (clocks_are_words elapsed 0 names steps same all_small));
      }

  -- ---- all events

  pub words-say : (event : Event) → IsOfValues event → (ws : List (List ℕ)) → event_words site event ≡ Some ws → Says site ws (event_read site event)
  words-say (Request (command.Request route)) values ws e = says-same site ws _ _ (sym (same_Some _ ws e)) (set-says route)
  words-say (Request (command.Cancel route)) values ws e = says-same site ws _ _ (sym (same_Some _ ws e)) (cancel-says route)
  words-say (Request command.Resume) values ws e =
      says-same site ws _ _ (sym (same_Some _ ws e)) (record { said_is = refl; some = omega arith; are = refl })
  words-say (Request (command.Release route)) values ws e = says-same site ws _ _ (sym (same_Some _ ws e)) (release-says route)
  words-say (Request (command.Move point side)) values ws e = says-same site ws _ _ (sym (same_Some _ ws e)) (move-says point side)
  words-say (Request (command.Close n)) values ws e = says-same site ws _ _ (sym (same_Some _ ws e)) (close-says n)
  words-say (Request (command.Open n)) values ws e = says-same site ws _ _ (sym (same_Some _ ws e)) (open-says n)
  words-say (Occupy section occupancy.Occupied) values ws e =
      let found = mapped _ (slice_get site.sections section.0) ws e in
      says-same site ws _ _ found.2 (occupy-says section.0 found.0 found.1)
  words-say (Occupy section occupancy.Clear) values ws e =
      let found = mapped _ (slice_get site.sections section.0) ws e in
      says-same site ws _ _ found.2 (clear-says section.0 found.0 found.1)
  words-say (Tick node) values ws e =
      let found = mapped _ (slice_get (node_names site) node.0) ws e in
      says-same site ws _ _ found.2 (tick-says node.0 found.0 found.1)
  words-say (Time elapsed steps) values ws e =
      let passed = kept (length steps == length (node_names site)) _ ws e in
      says-same site ws _ _ (sym (same_Some _ ws passed.1)) (time-says elapsed steps values.0 values.1 (eqb-true (length steps) (length (node_names site)) passed.0))
  words-say (Deliver node bytes) values ws e =
      let passed = kept (nat_le (length bytes) LONGEST_DATAGRAM) _ ws e in
      let found = mapped _ (slice_get (node_names site) node.0) ws passed.1 in
      says-same site ws _ _ found.2 (deliver-says node.0 found.0 bytes found.1 values (within (length bytes) LONGEST_DATAGRAM passed.0))
  words-say (Lose bytes) values ws e =
      let passed = kept (nat_lt 0 (length bytes) && nat_le (length bytes) LONGEST_DATAGRAM) _ ws e in
      let tests = two_tests (nat_lt 0 (length bytes)) (nat_le (length bytes) LONGEST_DATAGRAM) passed.0 in
      says-same site ws _ _ (sym (same_Some _ ws passed.1)) (lose-says bytes values (below 0 (length bytes) tests.0) (within (length bytes) LONGEST_DATAGRAM tests.1))
  words-say (Reach point lies) values ws e =
      let found = mapped _ (slice_get site.points point.0) ws e in
      says-same site ws _ _ found.2 (reach-says point.0 found.0 lies found.1)
  words-say (Restart node clock number) values ws e =
      let passed = kept (nat_le clock LATEST_CLOCK) _ ws e in
      let found = mapped _ (slice_get (node_names site) node.0) ws passed.1 in
      says-same site ws _ _ found.2 (restart-says node.0 found.0 clock number found.1 (within clock LATEST_CLOCK passed.0) values)

  pub line-says : (event : Event) → IsOfValues event → (line : List ℕ) → event_line site event ≡ Some line → said site (words line) ≡ Ok (event_read site event)
  line-says event values line e =
      let found = mapped (join_with_byte 32) (event_words site event) line e in
      let says = words-say event values found.0 found.1 in
      ap (said site) (ap words found.2 ∙ laws.joined found.0 says.some says.are) ∙ says.said_is
