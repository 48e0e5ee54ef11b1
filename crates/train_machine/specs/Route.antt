-- A route, as far as trains depend on it.
use Rattle.std.specs.Prelude.{ℕ, Bool, true, false, Option, None}

-- how far a route is
pub data Phase : Type 0 where
  -- it isn't set
  Free : Phase
  -- it is set, and has had no authority since
  Waiting : Phase
  -- it has authority
  Proceeding : Phase
  -- its authority is withdrawn, and the signal isn't known to show stop yet
  Withdrawn : Phase
  -- its authority has ended
  Ended : Phase

pub record Route : Type 0 where
  pub phase : Phase
  -- the sections that it holds
  pub holds : (section : ℕ) → Bool
  -- the sections that were told occupied since its authority was given
  pub seen : (section : ℕ) → Bool
  -- the train that passed its entry signal since its authority was given
  pub owner : Option ℕ
  -- the true time of the step in which its authority was withdrawn
  pub withdrawn_at : ℕ
  -- the interlocking's reading when its authority ended
  pub ended : ℕ

-- it isn't set
abbrev pub free_route : Route
free_route = record { phase = Free; holds = λ section. false; seen = λ section. false; owner = None; withdrawn_at = 0; ended = 0 }

abbrev pub is_free : Phase → Bool
is_free Free = true
is_free _ = false

-- authority was given to it since it was set
abbrev pub is_given : Phase → Bool
is_given Free = false
is_given Waiting = false
is_given Proceeding = true
is_given Withdrawn = true
is_given Ended = true

-- its signal may show its aspect
abbrev pub is_open : Phase → Bool
is_open Free = false
is_open Waiting = false
is_open Proceeding = true
is_open Withdrawn = true
is_open Ended = false

-- it is set, and its authority hasn't ended
abbrev pub is_whole : Phase → Bool
is_whole Free = false
is_whole Waiting = true
is_whole Proceeding = true
is_whole Withdrawn = true
is_whole Ended = false

abbrev pub withdrawn_phase : Phase → Phase
withdrawn_phase Free = Free
withdrawn_phase Waiting = Waiting
withdrawn_phase Proceeding = Withdrawn
withdrawn_phase Withdrawn = Withdrawn
withdrawn_phase Ended = Ended

-- when its authority was withdrawn, if it is withdrawn now
abbrev pub withdrawn_time : (now : ℕ) → Phase → (before : ℕ) → ℕ
withdrawn_time now Free before = before
withdrawn_time now Waiting before = before
withdrawn_time now Proceeding before = now
withdrawn_time now Withdrawn before = before
withdrawn_time now Ended before = before
