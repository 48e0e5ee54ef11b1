-- Stations, lines and a whole railway as they are written: they call one another by name.
use Rattle.std.specs.Prelude.{ℕ, List}

pub record StationText : Type 0 where
  pub name : List ℕ
  -- the file of its layout
  pub layout : List ℕ

pub record EndText : Type 0 where
  pub station : List ℕ
  pub border : List ℕ
  pub lock : List ℕ
  pub clear : List ℕ
  pub part : List (List ℕ)
  pub id : ℕ

pub record LineText : Type 0 where
  pub name : List ℕ
  pub first : EndText
  pub second : EndText

pub record RailwayText : Type 0 where
  pub stations : List StationText
  pub lines : List LineText
