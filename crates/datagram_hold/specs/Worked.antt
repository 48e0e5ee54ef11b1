-- What a hold of 60 ms does with some calls, worked by hand.
use Rattle.std.specs.Prelude.{◌≡◌, ℕ, List, [], ◌∷◌, ◌++◌, map, None, replicate}
use Rattle.std.specs.Int.{w32, to_le_bytes}
use Rattle.datagram_hold.specs.Came.{Came}
use Rattle.datagram_hold.specs.Sequence.{number_of}
use Rattle.datagram_hold.specs.Order.{round}
use Rattle.datagram_hold.specs.Runs.{Call, asks, run}
use Rattle.datagram_hold.specs.declared.network.Network.TheVariants.{First}

-- a datagram of this number comes at a reading, and then it is asked until there is none
abbrev comes : ℕ → ℕ → List Call
comes at number = round (record { at = at; sender = 0; over = First; bytes = replicate 12 0 ++ to_le_bytes w32 number })

abbrev all_of : List (List Call) → List Call
all_of [] = []
all_of (calls ∷ others) = calls ++ all_of others

-- the numbers of what a hold hands out from which nothing was handed out yet
abbrev handed : ℕ → List (List Call) → List ℕ
handed millis calls = map (λ (one : Came). number_of one.bytes) (run (all_of calls) (record { millis = millis; expected = None; held = [] })).0

abbrev numbers : List (List Call) → List ℕ
numbers calls = handed 60 calls

pub record Worked : Type 0 where
  -- what comes in order is handed out as it comes
  pub in_order : numbers (comes 0 5 ∷ comes 0 6 ∷ comes 10 7 ∷ []) ≡ 5 ∷ 6 ∷ 7 ∷ []
  -- what was overtaken comes before what overtook it
  pub overtaken : numbers (comes 0 5 ∷ comes 10 8 ∷ comes 20 7 ∷ comes 50 6 ∷ []) ≡ 5 ∷ 6 ∷ 7 ∷ 8 ∷ []
  -- nobody waits longer than for 60 ms
  pub waits : numbers (comes 0 5 ∷ comes 10 7 ∷ asks 8 69 ∷ []) ≡ 5 ∷ []
  pub lost : numbers (comes 0 5 ∷ comes 10 7 ∷ asks 8 70 ∷ []) ≡ 5 ∷ 7 ∷ []
  -- with what waits before it
  pub together : numbers (comes 0 5 ∷ comes 10 9 ∷ comes 40 7 ∷ asks 8 70 ∷ comes 80 10 ∷ []) ≡ 5 ∷ 7 ∷ 9 ∷ 10 ∷ []
  -- what comes too late is handed out at once, and so is what comes next
  pub late : numbers (comes 0 5 ∷ comes 10 7 ∷ asks 8 70 ∷ comes 80 6 ∷ comes 90 8 ∷ []) ≡ 5 ∷ 7 ∷ 6 ∷ 8 ∷ []
  -- what comes again is handed out again, and nothing waits for it
  pub again : numbers (comes 0 5 ∷ comes 0 6 ∷ comes 50 5 ∷ comes 50 7 ∷ comes 60 6 ∷ []) ≡ 5 ∷ 6 ∷ 5 ∷ 7 ∷ 6 ∷ []
  -- so it is where two networks lose 6 and 5, and bring 7 both
  pub both : numbers (comes 0 5 ∷ comes 0 7 ∷ comes 49 6 ∷ comes 49 7 ∷ []) ≡ 5 ∷ 6 ∷ 7 ∷ 7 ∷ []
  pub twice : numbers (comes 0 5 ∷ comes 0 7 ∷ comes 10 7 ∷ comes 20 6 ∷ comes 30 6 ∷ []) ≡ 5 ∷ 6 ∷ 7 ∷ 7 ∷ 6 ∷ []
  -- numbers go round
  pub wraps : numbers (comes 0 4294967295 ∷ comes 0 1 ∷ comes 10 0 ∷ comes 20 2 ∷ []) ≡ 4294967295 ∷ 0 ∷ 1 ∷ 2 ∷ []
  -- 8 ahead waits, 9 ahead doesn't, nor does a partner that begins anew with another number
  pub eight : numbers (comes 0 5 ∷ comes 0 14 ∷ []) ≡ 5 ∷ []
  pub nine : numbers (comes 0 5 ∷ comes 0 15 ∷ comes 0 16 ∷ []) ≡ 5 ∷ 15 ∷ 16 ∷ []
  pub anew : numbers (comes 0 4000000 ∷ comes 0 17 ∷ comes 0 18 ∷ comes 0 20 ∷ comes 10 19 ∷ []) ≡ 4000000 ∷ 17 ∷ 18 ∷ 19 ∷ 20 ∷ []
  -- a damaged number keeps nothing back and loses nothing
  pub damaged : numbers (comes 0 5 ∷ comes 0 70000 ∷ comes 0 6 ∷ comes 0 8 ∷ comes 10 7 ∷ []) ≡ 5 ∷ 70000 ∷ 6 ∷ 7 ∷ 8 ∷ []
  -- at most it lets those go that wait
  pub lets_go : numbers (comes 0 5 ∷ comes 0 7 ∷ comes 10 70000 ∷ comes 20 6 ∷ comes 20 8 ∷ []) ≡ 5 ∷ 70000 ∷ 7 ∷ 6 ∷ 8 ∷ []
  -- of nine that wait the first leaves
  pub full : numbers (comes 0 5 ∷ comes 0 7 ∷ comes 0 8 ∷ comes 0 9 ∷ comes 0 10 ∷ comes 0 11 ∷ comes 0 12 ∷ comes 0 13 ∷ comes 0 14 ∷ []) ≡ 5 ∷ []
  pub ninth : numbers (comes 0 5 ∷ comes 0 8 ∷ comes 0 9 ∷ comes 0 10 ∷ comes 0 11 ∷ comes 0 12 ∷ comes 0 13 ∷ comes 0 14 ∷ comes 0 14 ∷ comes 10 7 ∷ [])
      ≡ 5 ∷ 7 ∷ 8 ∷ 9 ∷ 10 ∷ 11 ∷ 12 ∷ 13 ∷ 14 ∷ 14 ∷ []
  -- with a hold of 0 each is handed out as it comes
  pub none : handed 0 (comes 0 5 ∷ comes 10 7 ∷ comes 20 6 ∷ []) ≡ 5 ∷ 7 ∷ 6 ∷ []
