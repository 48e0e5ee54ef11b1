-- What an event of a line changes, and what lists of them lead to.
use Rattle.std.specs.Prelude.{◌≡◌, ℕ, ◌+◌, ◌*◌, nat_le, true, if◌then◌else◌, List, [], ◌∷◌, ◌++◌, map, Option, Some, None}
use Rattle.line_host.specs.Host.{HostState, emptied, host_step, new_host, writes}
use Rattle.line_host.specs.Sites.{kept_file}
use Rattle.line_host.specs.declared.input.Input.{Input}
use Rattle.line_host.specs.declared.input.Input.TheVariants as inputs
use Rattle.line_laws.specs.End.{File, Seen}
use Rattle.line_laws.specs.Run.{first_file}
use Rattle.line_laws.specs.Step.{is_first}
use Rattle.line_laws.specs.declared.words.Side.{Side}
use Rattle.line_laws.specs.declared.words.Side.TheVariants.{First, Second}
use Rattle.line_world.specs.declared.ending.Ending.{Ending}
use Rattle.line_world.specs.declared.ending.Ending.TheVariants.{Whole, Unwritten, Written}
use Rattle.line_world.specs.declared.names.LineNames.{LineNames}
use Rattle.line_world.specs.declared.names.TheConstants.{VERSION}
use Rattle.line_world.specs.Events.{LineEvent, Looks, Misses, Passes, Loses, Restarts, Occasion, Tick, Delivers, Look, is_copy, may_happen}
use Rattle.line_world.specs.Names.{parties}
use Rattle.line_world.specs.State.{EndRun, Flying, LineRun, end_at, with_end}
use Rattle.rasta_core.specs.Bag.{lifetime}
use Rattle.rasta_core.specs.Ends.{reading_of}

-- ---- an end looks

-- what its process is called for
abbrev pub input_of : Occasion → Input
input_of Tick = inputs.Tick
input_of (Delivers bytes) = inputs.Datagram (record { ref_ptr = (0, 0); now = bytes })
input_of Look = inputs.Look

-- the process when it has made its step at the end's clock
abbrev pub process_after : Occasion → Seen → EndRun → HostState → HostState
process_after occasion seen end process = host_step (reading_of end.clock) (input_of occasion) seen (emptied process)

-- its file when that is kept, if it is to be
abbrev pub file_after : Occasion → Seen → EndRun → HostState → File
file_after occasion seen end process = kept_file (writes (reading_of end.clock) (input_of occasion) seen (emptied process)) end.file

-- an end that has looked, and what it sends
pub record Looked : Type 0 where
  pub end : EndRun
  pub sent : List Flying

abbrev pub just_sent : (bytes : List ℕ) → Flying
just_sent bytes = record { bytes = bytes; age = 0 }

-- All of it is done; or the process ends before its file is kept, or after that.
abbrev pub ended : Occasion → Seen → Ending → EndRun → HostState → Looked
ended occasion seen Whole end process =
    let next = process_after occasion seen end process
    in record {
      end = record end { process = Some (emptied next); file = file_after occasion seen end process };
      sent = map just_sent next.talk.outbox.datagrams;
    }
ended occasion seen Unwritten end process = record { end = record end { process = None }; sent = [] }
ended occasion seen Written end process =
    record { end = record end { process = None; file = file_after occasion seen end process }; sent = [] }

abbrev pub looked_by : Occasion → Seen → Ending → EndRun → Option HostState → Looked
looked_by occasion seen ending end None = record { end = end; sent = [] }
looked_by occasion seen ending end (Some process) = ended occasion seen ending end process

unfoldable pub end_looked : Occasion → Seen → Ending → EndRun → Looked
end_looked occasion seen ending end = looked_by occasion seen ending end end.process

unfoldable pub looked : Side → Occasion → Seen → Ending → LineRun → LineRun
looked side occasion seen ending run =
    let after = end_looked occasion seen ending (end_at side run)
    in record (with_end side after.end run) { flying = run.flying ++ after.sent }

-- ---- time, and a loss

-- A datagram lives at most 2000 ms.
abbrev pub age_after : (elapsed age : ℕ) → Option ℕ
age_after elapsed age = if nat_le (age + elapsed) lifetime then Some (age + elapsed) else None

abbrev pub aged : Flying → Option ℕ → List Flying → List Flying
aged one None others = others
aged one (Some age) others = record one { age = age } ∷ others

abbrev pub still_flying : (elapsed : ℕ) → List Flying → List Flying
still_flying elapsed [] = []
still_flying elapsed (one ∷ others) = aged one (age_after elapsed one.age) (still_flying elapsed others)

abbrev pub end_later : (elapsed : ℕ) → EndRun → EndRun
end_later elapsed end = record end { clock = end.clock + elapsed }

unfoldable pub later : (elapsed of_first of_second : ℕ) → LineRun → LineRun
later elapsed of_first of_second run =
    record { first = end_later of_first run.first; second = end_later of_second run.second; flying = still_flying elapsed run.flying }

-- all but the oldest of these bytes
abbrev pub without_oldest : List ℕ → List Flying → List Flying
without_oldest bytes [] = []
without_oldest bytes (one ∷ others) = if is_copy bytes one then others else one ∷ without_oldest bytes others

-- ---- an end is made anew

abbrev pub end_anew : LineNames → Side → (clock first : ℕ) → EndRun → EndRun
end_anew names side clock first end =
    record end { process = Some (new_host (parties side names) first clock VERSION end.file); clock = clock * 1000 }

unfoldable pub made_anew : LineNames → Side → (clock first : ℕ) → LineRun → LineRun
made_anew names side clock first run = with_end side (end_anew names side clock first (end_at side run)) run

-- ---- all events

abbrev pub happens : LineNames → LineEvent → LineRun → LineRun
happens names (Looks side occasion seen ending) run = looked side occasion seen ending run
happens names (Misses side busy) run = run
happens names (Passes elapsed of_first of_second) run = later elapsed of_first of_second run
happens names (Loses bytes) run = record run { flying = without_oldest bytes run.flying }
happens names (Restarts side clock first) run = made_anew names side clock first run

-- one after another
abbrev pub after_all : LineNames → List LineEvent → LineRun → LineRun
after_all names [] run = run
after_all names (event ∷ events) run = after_all names events (happens names event run)

-- each of them can happen where it comes
abbrev pub CanHappen : LineNames → List LineEvent → LineRun → Type 0
CanHappen names [] run = Unit {0}
CanHappen names (event ∷ events) run = (may_happen names event run ≡ true) × CanHappen names events (happens names event run)

-- ---- how it begins

-- The token is at the first end, and both locks lie at the left.
abbrev pub first_end : LineNames → Side → EndRun
first_end names side =
    let file = first_file (is_first side) in record { process = Some (new_host (parties side names) 0 0 VERSION file); file = file; clock = 0 }

unfoldable pub first_run : LineNames → LineRun
first_run names = record { first = first_end names First; second = first_end names Second; flying = [] }
