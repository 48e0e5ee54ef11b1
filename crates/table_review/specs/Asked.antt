-- The routes that a table lacks, as they are asked for.
use Rattle.std.specs.Prelude.{◌≡◌, ℕ, List, ◌++◌, Option, None, Ok, option_copied}
use Rattle.std.specs.List.{All, Contains, flat_map}
use Rattle.route_derivation.specs.control_table.layout.Entries.{RouteEntry, Site}
use Rattle.route_derivation.specs.control_table.layout.Station.{HasSignal}
use Rattle.route_derivation.specs.control_table.layout.declared.ids.SignalId.{SignalId}
use Rattle.route_derivation.specs.control_table.Table.{Sound}
use Rattle.route_derivation.specs.Approach.{IsApproach}
use Rattle.route_derivation.specs.Derived.{HasDerivedAspect}
use Rattle.route_derivation.specs.Lacking.{AreLacking}
use Rattle.route_derivation.specs.declared.rule.ApproachRule.{ApproachRule}
use Rattle.route_derivation.specs.declared.slow.SlowLegs.{SlowLegs}
use Rattle.table_review.specs.Block.{route_text}
use Rattle.table_review.specs.SlowKey.{slow_legs_in}
use Rattle.table_review.specs.Topology.{topology_in}
use Rattle.table_review.specs.declared.asked.Asked.{Asked}
use Rattle.table_review.specs.declared.block.Form.TheVariants as form

-- A text says a layout whose table is sound.
abbrev pub IsSoundText : List ℕ → Type 0
IsSoundText text = (l : Site) × (topology_in text ≡ Ok l) × Sound l

-- These routes follow from the layout of a text, and its table, which is sound, lacks them: all that begin at the signals
-- that are asked for. Their aspects are those of the slow legs that the text names, their approaches those of the rule.
pub record Follow (text : List ℕ) (from : Option (List ℕ)) (rule : ApproachRule) (l : Site) (rs : List RouteEntry) : Type 0 where
  pub read : topology_in text ≡ Ok l
  pub sound : Sound l
  pub entries : List SignalId
  pub every : from ≡ None → (s : SignalId) → HasSignal l s → Contains entries s
  pub lacking : AreLacking l entries rs
  pub marks : List SlowLegs
  pub marked : slow_legs_in text ≡ Ok marks
  pub aspects : All (HasDerivedAspect marks) rs
  pub approaches : All (λ r. IsApproach l rule r.entry r.approach) rs

-- The routes that a question asks for.
abbrev pub AreAsked : Asked → Site → List RouteEntry → Type 0
AreAsked asked l rs = Follow asked.text.now (option_copied asked.from) asked.rule l rs

-- A text has these routes as blocks.
abbrev pub IsLackingText : Asked → List ℕ → Type 0
IsLackingText asked text = (l : Site) × (rs : List RouteEntry) × AreAsked asked l rs × (text ≡ flat_map (route_text form.Block l) rs)
