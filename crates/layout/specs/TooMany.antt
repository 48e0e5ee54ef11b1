-- The first entry too many, in words of a layout's text.
use Rattle.std.specs.Prelude.{◌≡◌, ◌⊎◌, ℕ, suc, ◌+◌, ◌<◌, ◌≤◌, List, [], ◌∷◌, ◌++◌, length}
use Rattle.layout_text.specs.declared.fault.LayoutFault.{LayoutFault}
use Rattle.layout_text.specs.declared.fault.LayoutFault.TheVariants.{Limit}
use Rattle.layout_text.specs.declared.fault.TableName.{TableName}
use Rattle.layout_text.specs.declared.fault.TableName.TheVariants as named
use Rattle.layout_text.specs.Written.{DetectorText, RouteText, LayoutText}

-- A table has more entries than it may hold: the fault is at the first one past the limit.
abbrev pub IsTooMany : ℕ → TableName → ℕ → LayoutFault → Type 0
IsTooMany limit table entries f = (limit < entries) × (f ≡ Limit (record { table = table; entry = limit + 1 }))

-- Each entry fits, where the first one stands at place n.
abbrev pub EachFits : {A : Type 0} → (ℕ → A → Type 0) → ℕ → List A → Type 0
EachFits fits n [] = Unit {0}
EachFits fits n (x ∷ xs) = fits n x × EachFits fits (suc n) xs

-- The fault is at the first entry of a table that doesn't fit: each one before it does.
pub record IsFirstUnfit {A : Type 0} (fits : ℕ → A → Type 0) (table : TableName) (xs : List A) (f : LayoutFault) : Type 0 where
  pub earlier : List A
  pub entry : A
  pub later : List A
  pub stands : xs ≡ earlier ++ entry ∷ later
  pub fault : f ≡ Limit (record { table = table; entry = suc (length earlier) })
  pub fit : EachFits fits 1 earlier
  pub unfit : fits (suc (length earlier)) entry → ⊥

-- The first 16 detection controllers fit that report 1 to 16 sections.
abbrev pub DetectorFits : ℕ → DetectorText → Type 0
DetectorFits n d = (n ≤ 16) × (1 ≤ length d.sections) × (length d.sections ≤ 16)

-- The first 64 routes fit that have at most 64 elements on their path.
abbrev pub RouteFits : ℕ → RouteText → Type 0
RouteFits n r = (n ≤ 64) × (length r.path ≤ 64)

-- Table after table, in reading order: the first that holds too many entries, or one that doesn't fit.
abbrev pub IsFirstTooMany : LayoutText → LayoutFault → Type 0
IsFirstTooMany text f =
    IsTooMany 64 named.Section (length text.sections) f
    ⊎ ((length text.sections ≤ 64) × (IsTooMany 128 named.Track (length text.tracks) f
    ⊎ ((length text.tracks ≤ 128) × (IsTooMany 32 named.Point (length text.points) f
    ⊎ ((length text.points ≤ 32) × (IsTooMany 16 named.Border (length text.borders) f
    ⊎ ((length text.borders ≤ 16) × (IsTooMany 32 named.Signal (length text.signals) f
    ⊎ ((length text.signals ≤ 32) × (IsFirstUnfit DetectorFits named.Detector text.detectors f
    ⊎ (EachFits DetectorFits 1 text.detectors × IsFirstUnfit RouteFits named.Route text.routes f)))))))))))

-- No table holds too many entries, and each detection controller and each route fits.
pub record KeepsLimits (text : LayoutText) : Type 0 where
  pub sections : length text.sections ≤ 64
  pub tracks : length text.tracks ≤ 128
  pub points : length text.points ≤ 32
  pub borders : length text.borders ≤ 16
  pub signals : length text.signals ≤ 32
  pub detectors : EachFits DetectorFits 1 text.detectors
  pub routes : EachFits RouteFits 1 text.routes
