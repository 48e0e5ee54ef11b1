-- A text with the routes that its table lacked.
use Rattle.std.specs.Prelude.{◌≡◌, ℕ, List, [], ◌++◌, Option, option_copied, drop, take}
use Rattle.std.specs.List.{flat_map}
use Rattle.route_derivation.specs.control_table.layout.Entries.{RouteEntry, Site}
use Rattle.route_derivation.specs.declared.rule.ApproachRule.{ApproachRule}
use Rattle.table_review.specs.Asked.{AreAsked, Follow}
use Rattle.table_review.specs.Block.{route_text}
use Rattle.table_review.specs.Places.{IsSpot, before_routes, behind_routes, form_at, place_of}
use Rattle.table_review.specs.declared.asked.Asked.{Asked}
use Rattle.table_review.specs.declared.places.Spot.{Spot}

-- What is put into a text at a spot: all routes, one after the other.
abbrev pub piece : List ℕ → Site → List RouteEntry → Spot → List ℕ
piece text l rs s = (before_routes text s ++ flat_map (route_text (form_at s) l) rs) ++ behind_routes s

-- All else stands as it stood.
abbrev pub with_piece : List ℕ → Site → List RouteEntry → Spot → List ℕ
with_piece text l rs s = (take (place_of text s) text ++ piece text l rs s) ++ drop (place_of text s) text

-- Routes are put into a text at some spot.
pub record ArePut (old : List ℕ) (l : Site) (rs : List RouteEntry) (new : List ℕ) : Type 0 where
  pub spot : Spot
  pub place : IsSpot old spot
  pub put : new ≡ with_piece old l rs spot

-- The table of a text lacks none of the routes that are asked for.
abbrev pub LacksNone : List ℕ → Option (List ℕ) → ApproachRule → Type 0
LacksNone text from rule = (l : Site) × Follow text from rule l []

-- Some routes are put into a text, and what comes of it lacks none any more.
pub record IsComplete (asked : Asked) (l : Site) (rs : List RouteEntry) (new : List ℕ) : Type 0 where
  pub put : ArePut asked.text.now l rs new
  pub lacks_none : LacksNone new (option_copied asked.from) asked.rule

-- The routes that a text lacked are put into it, and what came of it is a layout whose table is sound, and lacks no route
-- any more.
pub record IsCompleted (asked : Asked) (new : List ℕ) : Type 0 where
  pub table : Site
  pub routes : List RouteEntry
  pub lacking : AreAsked asked table routes
  pub completed : IsComplete asked table routes new
