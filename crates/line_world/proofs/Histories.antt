-- After any list of events of a line that begins.
use Rattle.std.proofs.Common.{◌≡◌, ◌∙◌, ◌++◌, ◌+◌, ◌≤◌, ◌&&◌, ⊎_elim, ℕ, Bool, true, false, cond, not, List, [], ◌∷◌, Option, Some, None, ap, arith, refl, subst, sym}
use Rattle.std.specs.Prelude.{IsTrue}
use Rattle.std.proofs.lemmas.Bool.{false≢true}
use Rattle.std.proofs.lemmas.List.{append-nil}
use Rattle.line_host.specs.Host.{HostState, identity_of, new_host, role_of}
use Rattle.line_host.specs.Talk.{is_agreed}
use Rattle.line_laws.specs.End.{File, file_of, unlinked}
use Rattle.line_laws.specs.Invariant.{number}
use Rattle.line_laws.specs.Line.{Line}
use Rattle.line_laws.specs.Run.{begins, first_file}
use Rattle.line_laws.specs.declared.words.Side.{Side}
use Rattle.line_laws.specs.declared.words.Side.TheVariants.{First, Second}
use Rattle.line_world.specs.Events.{LineEvent, may_happen}
use Rattle.line_world.specs.Happens.{CanHappen, after_all, first_end, first_run}
use Rattle.line_world.specs.Names.{AreLineNames, link_names, other, parties}
use Rattle.line_world.specs.Promise.{AreFree, Contacts, HasToken, Holds, IsLocked, LineThen, WasClear, tells_clear, then_after, then_after_all, told_clear}
use Rattle.line_world.specs.State.{LineRun, end_at}
use Rattle.line_world.specs.declared.names.LineNames.{LineNames}
use Rattle.line_world.specs.declared.names.TheConstants.{VERSION}
use Rattle.line_world.specs.inside.Laws.{Laws}
use Rattle.rasta_core.specs.Ends.{EndState, reading_of}
use Rattle.rasta_core.specs.Events.{Start, started}
use Rattle.rasta_core.specs.Names as of_link
use Rattle.rasta_core.specs.Run.{Ends}
use Rattle.rasta_core.specs.State.{LinkState, is_open, is_up}
use Rattle.rasta_core.specs.identity.Identity.{Identity}
use Rattle.line_world.proofs.Below.{created}
use Rattle.line_world.proofs.Carried.{runs}
use Rattle.line_world.proofs.Course.{GoesOnSo, IsCarried, carrying_line, event_on, half_file, known_of, token_kept}
use Rattle.line_world.proofs.Cuts.{created_settled, same_identity}
use Rattle.line_world.proofs.EndEvents.{created_shut}
use Rattle.line_world.proofs.Hears.{up_is_open}
use Rattle.line_world.proofs.Known.{IsKnownSound, IsSteady, Known, known_in, known_steady, then_append, was_now, was_on}
use Rattle.line_world.proofs.Receipts.{both_of}
use Rattle.line_world.proofs.Talked.{Talked, nothing, nothing_said}
use Rattle.line_world.proofs.Whole.{IsProcess, half_by}

-- ---- how it begins

abbrev first_ends : LineNames → Ends
first_ends names = started (link_names names) (record { time = 0; moment = 0; client_clock = 0; client_first = 0; server_clock = 0; server_first = 0 })

abbrev begun : LineNames → Contacts → LineThen
begun names contacts = record { run = record { first = first_end names First; second = first_end names Second; flying = [] }; contacts = contacts }

first_line : (names : LineNames) (contacts : Contacts) → carrying_line (begun names contacts) (first_ends names) nothing_said nothing_said ≡ begins contacts.first contacts.second
unfolding created
first_line names contacts = refl

-- a process that begins, at its end of the link
process_begins : (names : LineNames) (side : Side) (file : File) (mine : EndState) → mine.clock ≡ 0 → mine.link ≡ created (of_link.identity_of (role_of side) (link_names names)) 0 0
    → IsProcess names side 0 file mine (new_host (parties side names) 0 0 VERSION file) nothing_said
process_begins names side file mine clock link_is = record {
  clock_is = clock;
  link =
      created_settled (identity_of (parties side names)) 0 0 (reading_of 0) refl
      ∙ (ap (λ (i : Identity). created i 0 0) (same_identity names side) ∙ sym link_is);
  own_name = refl;
  peer_name = refl;
  side_is = refl;
  kept = refl;
  staged = record {
    side_is = refl;
    version = refl;
    up = λ up. absurd (false≢true (sym shut ∙ up_is_open mine.link.phase up));
    starting = λ opened down. refl;
  };
}
  where
    shut : is_open mine.link.phase ≡ false
    shut = ap (λ (l : LinkState). is_open l.phase) link_is ∙ created_shut (of_link.identity_of (role_of side) (link_names names)) 0 0

abbrev first_known : LineNames → Contacts → Known
first_known names contacts = known_in (begins contacts.first contacts.second) (record { first = false; second = false })

first_carried : Laws → (names : LineNames) (contacts : Contacts) → AreLineNames names → IsCarried names (begun names contacts) (first_known names contacts)
first_carried laws names contacts are =
    let start : Start = record { time = 0; moment = 0; client_clock = 0; client_first = 0; server_clock = 0; server_first = 0 }
    in let ends : Ends = started (link_names names) start
    in let line : Line = begins contacts.first contacts.second
    in let known : Known = known_in line (record { first = false; second = false })
    in record {
      ends = ends;
      first_talked = nothing_said;
      second_talked = nothing_said;
      linked = record {
        are = record { timely = laws.starts_timely (link_names names) start are.link; ordered = laws.starts_ordered (link_names names) start };
        own_talks = record { given = refl; taken = refl };
        far_talks = record { given = refl; taken = refl };
        own_shape = nothing refl;
        far_shape = nothing refl;
        there = λ same. record { rest = []; is = refl };
        back = λ same. record { rest = []; is = refl };
      };
      first = runs (new_host (parties First names) 0 0 VERSION (first_file true)) refl (process_begins names First (first_file true) ends.client refl refl);
      second = runs (new_host (parties Second names) 0 0 VERSION (first_file false)) refl (process_begins names Second (first_file false) ends.server refl refl);
      flying = tt;
      steady = subst (IsSteady known) (sym (first_line names contacts)) (known_steady line (record { first = false; second = false }));
      sound = subst (IsKnownSound known) (sym (first_line names contacts)) (laws.begins_sound known.first known.second contacts.first contacts.second);
    }

-- ---- after each event

-- where the line is so, and what an end knows was so
pub record HasCome (names : LineNames) (start : LineThen) (events : List LineEvent) (now : LineThen) : Type 0 where
  pub known : Known
  pub carried : IsCarried names now known
  pub first : IsTrue known.first → WasClear names First start events
  pub second : IsTrue known.second → WasClear names Second start events

come_on : Laws → (names : LineNames) (start : LineThen) (events : List LineEvent) (event : LineEvent) (now : LineThen) → AreLineNames names → now ≡ then_after_all names events start
    → HasCome names start events now → may_happen names event now.run ≡ true → HasCome names start (events ++ event ∷ []) (then_after names event now)
come_on laws names start events event now are is come may =
    let on : GoesOnSo names come.known (then_after names event now) = event_on laws names come.known now event are come.carried may
    in let then_is : then_after names event now ≡ then_after_all names (events ++ event ∷ []) start = ap (then_after names event) is ∙ sym (then_append names events event start)
    in record {
      known = on.next;
      carried = on.carried;
      first = λ knows. ⊎_elim (λ knew. was_on names First start events event (come.first knew) (subst (Holds First) then_is (on.first.holds knows)))
          (λ free. was_now names First start (events ++ event ∷ []) (subst (λ (t : LineThen). AreFree t.contacts) then_is free) (subst (Holds First) then_is (on.first.holds knows)))
          (on.first.knew knows);
      second = λ knows. ⊎_elim (λ knew. was_on names Second start events event (come.second knew) (subst (Holds Second) then_is (on.second.holds knows)))
          (λ free. was_now names Second start (events ++ event ∷ []) (subst (λ (t : LineThen). AreFree t.contacts) then_is free) (subst (Holds Second) then_is (on.second.holds knows)))
          (on.second.knew knows);
    }

append_one : (events : List LineEvent) (event : LineEvent) (more : List LineEvent) → (events ++ event ∷ []) ++ more ≡ events ++ event ∷ more
append_one [] event more = refl
append_one (first ∷ events) event more = ap (λ (list : List LineEvent). first ∷ list) (append_one events event more)

come_all : Laws → (names : LineNames) (start : LineThen) (events more : List LineEvent) (now : LineThen) → AreLineNames names → now ≡ then_after_all names events start
    → HasCome names start events now → CanHappen names more now.run → HasCome names start (events ++ more) (then_after_all names more now)
come_all laws names start events [] now are is come may = subst (λ (list : List LineEvent). HasCome names start list now) (sym (append-nil events)) come
come_all laws names start events (event ∷ more) now are is come may =
    subst (λ (list : List LineEvent). HasCome names start list (then_after_all names more (then_after names event now))) (append_one events event more)
    (come_all laws names start (events ++ event ∷ []) more (then_after names event now) are (ap (then_after names event) is ∙ sym (then_append names events event start))
    (come_on laws names start events event now are is come may.0) may.1)

begins_so : Laws → (names : LineNames) (contacts : Contacts) → AreLineNames names → HasCome names (begun names contacts) [] (begun names contacts)
begins_so laws names contacts are =
    let known : Known = first_known names contacts
    in let carried : IsCarried names (begun names contacts) known = first_carried laws names contacts are
    in record {
      known = known;
      carried = carried;
      first = λ knows. was_now names First (begun names contacts) [] (free_first contacts knows) (token_kept names (begun names contacts) known carried First knows);
      second = λ knows. was_now names Second (begun names contacts) [] (free_second contacts knows) (token_kept names (begun names contacts) known carried Second knows);
    }
  where
    not_so : (b : Bool) → not b ≡ true → b ≡ false
    not_so true is = absurd (false≢true is)
    not_so false is = refl

    free_first : (c : Contacts) → known_of First (first_known names c) ≡ true → AreFree c
    free_first c knows =
        let both = both_of (not c.first) (not c.second) knows
        in record { first = not_so c.first both.0; second = not_so c.second both.1 }

    free_second : (c : Contacts) → known_of Second (first_known names c) ≡ true → AreFree c
    free_second c knows = absurd (false≢true knows)

begun_is : (names : LineNames) (contacts : Contacts) → begun names contacts ≡ record { run = first_run names; contacts = contacts }
unfolding first_run
begun_is names contacts = refl

-- After any list of events that can happen to a line that begins.
pub has_come : Laws → (names : LineNames) (contacts : Contacts) (events : List LineEvent) → AreLineNames names → CanHappen names events (first_run names)
    → let start : LineThen = record { run = first_run names; contacts = contacts } in HasCome names start events (then_after_all names events start)
has_come laws names contacts events are may =
    subst (λ (start : LineThen). CanHappen names events start.run → HasCome names start events (then_after_all names events start)) (begun_is names contacts)
    (λ can. come_all laws names (begun names contacts) [] events (begun names contacts) are refl (begins_so laws names contacts are) can) may

pub run_is : (names : LineNames) (events : List LineEvent) (now : LineThen) → (then_after_all names events now).run ≡ after_all names events now.run
run_is names [] now = refl
run_is names (event ∷ events) now = run_is names events (then_after names event now)

-- ---- what follows

node_token : (names : LineNames) (now : LineThen) (known : Known) → (carried : IsCarried names now known) → let line = carrying_line now carried.ends carried.first_talked carried.second_talked
    in (now.run.first.file ≡ file_of line.first.end) × (now.run.second.file ≡ file_of line.second.end)
node_token names now known carried = (
  sym (half_file now.run.first carried.ends.client now.contacts.first carried.first_talked) ∙ carried.sound.first_file,
  sym (half_file now.run.second carried.ends.server now.contacts.second carried.second_talked) ∙ carried.sound.second_file,
)

pub one_token : (names : LineNames) (now : LineThen) (known : Known) → IsCarried names now known → HasToken now.run.first → HasToken now.run.second → ⊥
one_token names now known carried first second =
    let line : Line = carrying_line now carried.ends carried.first_talked carried.second_talked
    in let files = node_token names now known carried
    in too_many line.first.end.token line.second.end.token _ (sym (ap (λ (f : File). f.token) files.0) ∙ first) (sym (ap (λ (f : File). f.token) files.1) ∙ second) carried.sound.ends.one_token
  where
    too_many : (one other : Bool) (rest : ℕ) → one ≡ true → other ≡ true → number one + number other + rest ≤ 1 → ⊥
    too_many true true rest first_is second_is few = omega (arith, few)
    too_many true false rest first_is second_is few = false≢true second_is
    too_many false other rest first_is second_is few = false≢true first_is

pub not_both_locked : (names : LineNames) (now : LineThen) (known : Known) → IsCarried names now known → IsLocked now.run.first → IsLocked now.run.second → ⊥
not_both_locked names now known carried first second =
    let files = node_token names now known carried
    in one_token names now known carried
    (ap (λ (f : File). f.token) files.0 ∙ carried.sound.ends.near_end.locked (sym (ap (λ (f : File). f.lock) files.0) ∙ first))
    (ap (λ (f : File). f.token) files.1 ∙ carried.sound.ends.far_end.locked (sym (ap (λ (f : File). f.lock) files.1) ∙ second))

-- an end that tells clear knows it
empty_so : (mine : EndState) (file : File) (busy : Bool) (own : Talked) (process : Option HostState) → told_clear process ≡ true
    → let half = half_by mine file busy own process in (cond half.joined half.end (unlinked half.end)).empty ≡ true
empty_so mine file busy own None told = absurd (false≢true told)
empty_so mine file busy own (Some process) told = by_joined (is_up mine.link.phase && is_agreed process.talk.greeting.stage)
  where
    empty : process.end.end.empty ≡ true
    empty = (both_of process.end.end.empty (not process.busy) told).0

    by_joined : (b : Bool) → (cond b process.end.end (unlinked process.end.end)).empty ≡ true
    by_joined true = empty
    by_joined false = empty

pub clear_known : (names : LineNames) (now : LineThen) (known : Known) → IsCarried names now known → (side : Side) → tells_clear (end_at side now.run) ≡ true → IsTrue (known_of side known)
clear_known names now known carried First told =
    carried.sound.ends.near_end.empty_known (empty_so carried.ends.client now.run.first.file now.contacts.first carried.first_talked now.run.first.process told)
clear_known names now known carried Second told =
    carried.sound.ends.far_end.empty_known (empty_so carried.ends.server now.run.second.file now.contacts.second carried.second_talked now.run.second.process told)

pub clear_is_so : Laws → (names : LineNames) (side : Side) (contacts : Contacts) (events : List LineEvent) → AreLineNames names → CanHappen names events (first_run names)
    → tells_clear (end_at side (after_all names events (first_run names))) ≡ true → WasClear names side (record { run = first_run names; contacts = contacts }) events
clear_is_so laws names side contacts events are may told = by_side side told
  where
    start : LineThen
    start = record { run = first_run names; contacts = contacts }

    now : LineThen
    now = then_after_all names events start

    come : HasCome names start events now
    come = has_come laws names contacts events are may

    same : (s : Side) → tells_clear (end_at s now.run) ≡ tells_clear (end_at s (after_all names events (first_run names)))
    same s = ap (λ (run : LineRun). tells_clear (end_at s run)) (run_is names events start)

    by_side : (s : Side) → tells_clear (end_at s (after_all names events (first_run names))) ≡ true → WasClear names s start events
    by_side First is = come.first (clear_known names now come.known come.carried First (same First ∙ is))
    by_side Second is = come.second (clear_known names now come.known come.carried Second (same Second ∙ is))

pub one_token_so : Laws → (names : LineNames) (events : List LineEvent) → AreLineNames names → CanHappen names events (first_run names)
    → let run = after_all names events (first_run names) in HasToken run.first → HasToken run.second → ⊥
one_token_so laws names events are may =
    let start : LineThen = record { run = first_run names; contacts = record { first = false; second = false } }
    in let come : HasCome names start events (then_after_all names events start) = has_come laws names (record { first = false; second = false }) events are may
    in subst (λ (run : LineRun). HasToken run.first → HasToken run.second → ⊥) (run_is names events start) (one_token names (then_after_all names events start) come.known come.carried)

pub locks_so : Laws → (names : LineNames) (events : List LineEvent) → AreLineNames names → CanHappen names events (first_run names)
    → let run = after_all names events (first_run names) in IsLocked run.first → IsLocked run.second → ⊥
locks_so laws names events are may =
    let start : LineThen = record { run = first_run names; contacts = record { first = false; second = false } }
    in let come : HasCome names start events (then_after_all names events start) = has_come laws names (record { first = false; second = false }) events are may
    in subst (λ (run : LineRun). IsLocked run.first → IsLocked run.second → ⊥) (run_is names events start)
    (not_both_locked names (then_after_all names events start) come.known come.carried)
