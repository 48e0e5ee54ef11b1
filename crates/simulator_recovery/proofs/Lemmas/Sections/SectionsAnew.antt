-- A detector to which no contact comes is in the connection in which it was, or has told of each of its sections once at most in the one that it
-- has entered since.
use Rattle.simulator_recovery.proofs.Words.Basics.{◌≡◌, ◌⊎◌, inl, inr, ℕ, ◌∙◌, Bool, true, false, not, ◌&&◌, List, length, Option, Some, if◌then◌else◌, slice_get, refl, sym, ap, arith, false≢true}
use Rattle.simulator_recovery.proofs.Words.Links.{LinkState, is_open}
use Rattle.simulator_recovery.proofs.Words.Controllers.{called_all, HostSoFar, HostState, detection_behaviour, Section}
use Rattle.simulator_recovery.proofs.Words.Interlockings.{Table}
use Rattle.simulator_recovery.proofs.Words.Stations.{DetectorEntry, Site, Once, IsStation, has_entered, step_of}
use Rattle.simulator_recovery.proofs.Words.Recovery.{section_names, LawsBelow}
use Rattle.simulator_recovery.proofs.Lemmas.Ground.ControllersOnLinks.{Lists, lists_of}
use Rattle.simulator_recovery.proofs.Lemmas.Sections.SectionsInCount.{IsFew, Quiet, step_few, then_idle, then_tells}
use Rattle.simulator_recovery.proofs.Lemmas.Sections.SectionsKept.{StepKept}
use Rattle.simulator_recovery.proofs.Lemmas.Sections.SectionsWindow.{IsIdle}
use Rattle.simulator_recovery.proofs.Lemmas.Talk.AlwaysTold.{TellsDetector}

not_both : (a b : Bool) → (not a && b) ≡ true → a ≡ true → ⊥
not_both true b e f = false≢true e
not_both false b e f = false≢true f

module _ (laws : LawsBelow) (site : Site) (table : Table) (station : IsStation site) (once : Once site) (at : ℕ) (entry : DetectorEntry) (there : slice_get site.detectors at ≡ Some entry) where
  -- how often a detector tells of its sections in a connection at most, where no contact comes
  abbrev pub all_once : ℕ
  all_once = length (section_names site entry)

  -- once at most
  abbrev pub IsOnce : HostState (List Section) → Lists → Type 0
  IsOnce = IsFew laws site table station once at entry there all_once (omega arith)

  -- The last connection that it entered was its last then, or it tells of each once at most in it.
  pub record InThatOrOnce (then_last last : Option ℕ) (host : HostState (List Section)) (lists : Lists) : Type 0 where
    pub tells : TellsDetector site entry host lists
    pub idle : IsIdle host
    pub which : (last ≡ then_last) ⊎ IsOnce host lists

  pub that_or_once : (then_last : Option ℕ) → StepKept Quiet (InThatOrOnce then_last)
  that_or_once then_last input connection c ends quiet link_is clock_is q = record {
    tells = then_tells laws site table station once at entry there all_once (omega arith) input connection c ends quiet link_is clock_is q.tells q.idle;
    idle = then_idle laws site table station once at entry there all_once (omega arith) input connection c ends quiet link_is clock_is q.tells q.idle;
    which = choose (has_entered c done) refl q.which;
  }
    where
      done : HostSoFar (List Section)
      done = step_of detection_behaviour input c

      after : Lists
      after = lists_of (called_all connection done.calls ends).server

      once_on : (is_open ends.server.link.phase ≡ true → IsOnce c.host (lists_of ends.server)) → IsOnce done.host after
      once_on = step_few laws site table station once at entry there all_once (omega arith) input connection c ends quiet link_is clock_is q.tells q.idle

      choose : (b : Bool) → has_entered c done ≡ b → (c.connection ≡ then_last) ⊎ IsOnce c.host (lists_of ends.server)
          → ((if b then Some connection else c.connection) ≡ then_last) ⊎ IsOnce done.host after
      choose false e (inl same) = inl same
      choose false e (inr few) = inr (once_on (λ f. few))
      choose true e was = inr (once_on (λ f. absurd (not_both _ _ e (ap (λ (l : LinkState). is_open l.phase) (sym link_is) ∙ f))))
