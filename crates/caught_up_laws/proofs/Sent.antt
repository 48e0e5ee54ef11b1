-- What was sent grows, event by event, and repeats an item in a retransmission alone.
use Rattle.std.proofs.Common.{◌≡◌, ℕ, Bool, true, false, ◌&&◌, if◌then◌else◌, List, [], ◌∷◌, ◌++◌, Option, Some, None, refl, sym, ap, subst, ◌∙◌, append-nil}
use Rattle.std.specs.Prelude.{◌==◌}
use Rattle.rasta_core_spec.specs.Each.{Each}
use Rattle.rasta_core_spec.specs.Ends.{Call, Outcome, end_after, handed_out, outcome}
use Rattle.rasta_core_spec.specs.Events.{Calls, Elsewhere, Event, Loses, May, MayRun, Passes, Restarts, happened, run}
use Rattle.rasta_core_spec.specs.Given.{is_same}
use Rattle.rasta_core_spec.specs.Names.{Names}
use Rattle.rasta_core_spec.specs.Outbox.{spellings}
use Rattle.rasta_core_spec.specs.PduRead.{reading}
use Rattle.rasta_core_spec.specs.Run.{Ends, called, end_of, later, lost, restarted}
use Rattle.rasta_core_spec.specs.Spelling.{writing}
use Rattle.rasta_core_spec.specs.Values.{IsPdu}
use Rattle.rasta_core_spec.specs.identity.Identity.{Identity}
use Rattle.rasta_core_spec.specs.identity.Role.{Role}
use Rattle.rasta_core_spec.specs.identity.Role.TheVariants as role
use Rattle.rasta_core_spec.specs.key.Key.{Key}
use Rattle.rasta_core_spec.specs.pdu.Pdu.{Pdu}
use Rattle.rasta_core.specs.Invariant.{Timely}
use Rattle.caught_up_laws.specs.Chain.{Chained}
use Rattle.caught_up_laws.specs.Exact.{pdus_in, pdus_of}
use Rattle.caught_up_laws.specs.inside.Laws.{Laws}
use Rattle.caught_up_laws.proofs.Chains.{calls_fine, chained_append}
use Rattle.caught_up_laws.proofs.Lists.{Writes, flow_without, pdus_append}

-- an end has sent these PDUs more in a connection
pub record Grows (names : Names) (who : Role) (connection : ℕ) (old new : Ends) : Type 0 where
  pub more : List Pdu
  pub same : pdus_of names who connection new.sent ≡ pdus_of names who connection old.sent ++ more
  pub chained : Chained false more

same_grows : (names : Names) (who : Role) (connection : ℕ) (old new : Ends) → pdus_of names who connection new.sent ≡ pdus_of names who connection old.sent → Grows names who connection old new
same_grows names who connection old new same = record { more = []; same = same ∙ sym (append-nil (pdus_of names who connection old.sent)); chained = tt }

number : Option ℕ → ℕ
number None = 0
number (Some entered) = entered

-- all of what a call hands out is of a connection, or none of it
of_handed : (names : Names) (who utterer : Role) (connection time : ℕ) (last : Option ℕ) → Writes → (pdus : List Pdu) → Each IsPdu pdus
    → pdus_of names who connection (handed_out time utterer last (spellings names.key pdus)) ≡ (if is_same utterer who && (number last == connection) then pdus else [])
unfolding number
of_handed names who utterer connection time None law pdus are = go (is_same utterer who && (0 == connection)) refl pdus are
  where
    go : (b : Bool) → (is_same utterer who && (0 == connection)) ≡ b → (pdus : List Pdu) → Each IsPdu pdus
        → pdus_of names who connection (handed_out time utterer None (spellings names.key pdus)) ≡ (if b then pdus else [])
    go true e [] are = refl
    go false e [] are = refl
    go true e (pdu ∷ pdus) are =
        ap (λ (b : Bool). (if b then pdus_in (reading names.key (writing names.key pdu)) else []) ++ pdus_of names who connection (handed_out time utterer None (spellings names.key pdus))) e
        ∙ ap (λ found. pdus_in found ++ pdus_of names who connection (handed_out time utterer None (spellings names.key pdus))) (law names.key pdu are.0)
        ∙ ap (λ more. pdu ∷ more) (go true e pdus are.1)
    go false e (pdu ∷ pdus) are =
        ap (λ (b : Bool). (if b then pdus_in (reading names.key (writing names.key pdu)) else []) ++ pdus_of names who connection (handed_out time utterer None (spellings names.key pdus))) e
        ∙ go false e pdus are.1
of_handed names who utterer connection time (Some last) law pdus are = go (is_same utterer who && (last == connection)) refl pdus are
  where
    go : (b : Bool) → (is_same utterer who && (last == connection)) ≡ b → (pdus : List Pdu) → Each IsPdu pdus
        → pdus_of names who connection (handed_out time utterer (Some last) (spellings names.key pdus)) ≡ (if b then pdus else [])
    go true e [] are = refl
    go false e [] are = refl
    go true e (pdu ∷ pdus) are =
        ap (λ (b : Bool). (if b then pdus_in (reading names.key (writing names.key pdu)) else []) ++ pdus_of names who connection (handed_out time utterer (Some last) (spellings names.key pdus))) e
        ∙ ap (λ found. pdus_in found ++ pdus_of names who connection (handed_out time utterer (Some last) (spellings names.key pdus))) (law names.key pdu are.0)
        ∙ ap (λ more. pdu ∷ more) (go true e pdus are.1)
    go false e (pdu ∷ pdus) are =
        ap (λ (b : Bool). (if b then pdus_in (reading names.key (writing names.key pdu)) else []) ++ pdus_of names who connection (handed_out time utterer (Some last) (spellings names.key pdus))) e
        ∙ go false e pdus are.1

its_key : (names : Names) (who : Role) (ends : Ends) → Timely names ends → (end_of who ends).link.identity.key ≡ names.key
its_key names role.Client ends timely = ap (λ (i : Identity). i.key) timely.client.identity
its_key names role.Server ends timely = ap (λ (i : Identity). i.key) timely.server.identity

called_sent : (utterer : Role) (call : Call) (ends : Ends)
    → (called utterer call ends).sent ≡ ends.sent ++ handed_out ends.time utterer (end_after (outcome call ends.moment (end_of utterer ends)) ends.moment (end_of utterer ends)).connection
    (spellings (end_of utterer ends).link.identity.key (outcome call ends.moment (end_of utterer ends)).pdus)
unfolding called
called_sent role.Client call ends = refl
called_sent role.Server call ends = refl

called_grows : Laws → (names : Names) (who : Role) (connection : ℕ) (utterer : Role) (call : Call) (ends : Ends) → Timely names ends → May names (Calls utterer call) ends
    → Grows names who connection ends (called utterer call ends)
called_grows law names who connection utterer call ends timely may = record {
  more = if mine then made.pdus else [];
  same = ap (pdus_of names who connection) (called_sent utterer call ends)
      ∙ pdus_append names who connection ends.sent (handed_out ends.time utterer last (spellings (end_of utterer ends).link.identity.key made.pdus))
      ∙ ap (λ (key : Key). pdus_of names who connection ends.sent ++ pdus_of names who connection (handed_out ends.time utterer last (spellings key made.pdus))) (its_key names utterer ends timely)
      ∙ ap (λ (more : List Pdu). pdus_of names who connection ends.sent ++ more)
      (of_handed names who utterer connection ends.time last law.written made.pdus (law.pdus names ends utterer call timely may));
  chained = fine mine;
}
  where
    made : Outcome
    made = outcome call ends.moment (end_of utterer ends)

    last : Option ℕ
    last = (end_after made ends.moment (end_of utterer ends)).connection

    mine : Bool
    mine = is_same utterer who && (number last == connection)

    fine : (b : Bool) → Chained false (if b then made.pdus else [])
    fine true = calls_fine call ends.moment (end_of utterer ends)
    fine false = tt

pub event_grows : Laws → (names : Names) (who : Role) (connection : ℕ) (event : Event) (ends : Ends) → Timely names ends → May names event ends → Grows names who connection ends (happened event ends)
unfolding later lost restarted
event_grows law names who connection (Calls utterer call) ends timely may = called_grows law names who connection utterer call ends timely may
event_grows law names who connection (Passes elapsed of_client of_server) ends timely may = same_grows names who connection ends (later elapsed of_client of_server ends) refl
event_grows law names who connection (Loses bytes) ends timely may = same_grows names who connection ends (lost bytes ends) (flow_without names who connection bytes ends.sent)
event_grows law names who connection (Restarts role.Client clock first) ends timely may = same_grows names who connection ends (restarted role.Client clock first ends) refl
event_grows law names who connection (Restarts role.Server clock first) ends timely may = same_grows names who connection ends (restarted role.Server clock first ends) refl
event_grows law names who connection (Elsewhere count) ends timely may = same_grows names who connection ends (happened (Elsewhere count) ends) refl

pub all_chained : Laws → (names : Names) (who : Role) (connection : ℕ) (events : List Event) (ends : Ends) → ((event : Event) (ends : Ends) → Timely names ends → May names event ends → Timely names (happened event ends))
    → Timely names ends → MayRun names events ends → Chained false (pdus_of names who connection ends.sent) → Chained false (pdus_of names who connection (run events ends).sent)
all_chained law names who connection [] ends kept timely may chained = chained
all_chained law names who connection (first ∷ others) ends kept timely may chained =
    let grown = event_grows law names who connection first ends timely may.0
    in all_chained law names who connection others (happened first ends) kept (kept first ends timely may.0) may.1
    (subst (Chained false) (sym grown.same) (chained_append false (pdus_of names who connection ends.sent) grown.more chained grown.chained))
