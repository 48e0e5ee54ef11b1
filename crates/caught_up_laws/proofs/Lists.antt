-- Facts of lists, and what an end sent in a connection.
use Rattle.std.proofs.Common.{◌≡◌, ℕ, Bool, true, false, ◌&&◌, if◌then◌else◌, List, [], ◌∷◌, ◌++◌, Option, Some, None, inl, inr, refl, sym, ap, subst, ◌∙◌, append_assoc, append-nil}
use Rattle.std.specs.Prelude.{◌==◌}
use Rattle.std.proofs.lemmas.Bool.{eqb-true, eq-eqb}
use Rattle.rasta_core_spec.specs.Bag.{is_copy, without_oldest}
use Rattle.rasta_core_spec.specs.Each.{Each}
use Rattle.rasta_core_spec.specs.Ends.{Sent, handed_out}
use Rattle.rasta_core_spec.specs.Events.{IsAmong}
use Rattle.rasta_core_spec.specs.Given.{is_of, is_same}
use Rattle.rasta_core_spec.specs.Names.{Names}
use Rattle.rasta_core_spec.specs.Outbox.{spellings}
use Rattle.rasta_core_spec.specs.PduRead.{reading}
use Rattle.rasta_core_spec.specs.Spelling.{writing}
use Rattle.rasta_core_spec.specs.Values.{IsPdu}
use Rattle.rasta_core_spec.specs.identity.Role.{Role}
use Rattle.rasta_core_spec.specs.identity.Role.TheVariants as role
use Rattle.rasta_core_spec.specs.key.Key.{Key}
use Rattle.rasta_core_spec.specs.pdu.Pdu.{Pdu}
use Rattle.rasta_core_spec.specs.PduRead.{reading}
use Rattle.std.specs.Prelude.{Ok}
use Rattle.caught_up_laws.specs.Exact.{pdus_in, pdus_of}

pub each_turned : {X : Type 0} (P Q : X → Type 0) → ((x : X) → P x → Q x) → (list : List X) → Each P list → Each Q list
each_turned P Q f [] a = tt
each_turned P Q f (x ∷ xs) a = (f x a.0, each_turned P Q f xs a.1)

pub among_each : (P : Sent → Type 0) (datagram : Sent) (list : List Sent) → IsAmong datagram list → Each P list → P datagram
among_each P datagram [] among each = absurd among
among_each P datagram (first ∷ later) (inl same) each = subst P same each.0
among_each P datagram (first ∷ later) (inr among) each = among_each P datagram later among each.1

pub by_test : {A : Type 0} (P : A → Type 0) (test : Bool) (one other : A) → (test ≡ true → P one) → (test ≡ false → P other) → P (if test then one else other)
by_test P true one other if_true if_false = if_true refl
by_test P false one other if_true if_false = if_false refl

pub same_self : (who : Role) → is_same who who ≡ true
same_self role.Client = refl
same_self role.Server = refl

pub same_is : (one other : Role) → is_same one other ≡ true → one ≡ other
same_is role.Client role.Client e = refl
same_is role.Server role.Server e = refl
same_is role.Client role.Server e = absurd (cc (e))
same_is role.Server role.Client e = absurd (cc (e))

pub both_true : (one other : Bool) → (one && other) ≡ true → (one ≡ true) × (other ≡ true)
both_true true true e = (refl, refl)
both_true true false e = absurd (cc (e))
both_true false other e = absurd (cc (e))

-- ---- what was sent

abbrev pub Writes : Type 0
Writes = (key : Key) (pdu : Pdu) → IsPdu pdu → reading key (writing key pdu) ≡ Ok pdu

pub pdus_append : (names : Names) (who : Role) (connection : ℕ) (one other : List Sent)
    → pdus_of names who connection (one ++ other) ≡ pdus_of names who connection one ++ pdus_of names who connection other
pdus_append names who connection [] other = refl
pdus_append names who connection (first ∷ later) other =
    ap (λ rest. here ++ rest) (pdus_append names who connection later other) ∙ sym (append_assoc here (pdus_of names who connection later) (pdus_of names who connection other))
  where
    here : List Pdu
    here = if is_of who connection first then pdus_in (reading names.key first.bytes) else []

-- the datagrams of these PDUs, in their connection
handed_pdus : Writes → (names : Names) (who : Role) (connection time : ℕ) (pdus : List Pdu) → Each IsPdu pdus
    → pdus_of names who connection (handed_out time who (Some connection) (spellings names.key pdus)) ≡ pdus
handed_pdus law names who connection time [] are = refl
handed_pdus law names who connection time (pdu ∷ pdus) are =
    ap (λ (b : Bool). (if b && (connection == connection) then pdus_in (reading names.key (writing names.key pdu)) else []) ++ rest) (same_self who)
    ∙ ap (λ (b : Bool). (if b then pdus_in (reading names.key (writing names.key pdu)) else []) ++ rest) (eq-eqb connection connection refl)
    ∙ ap (λ found. pdus_in found ++ rest) (law names.key pdu are.0)
    ∙ ap (λ more. pdu ∷ more) (handed_pdus law names who connection time pdus are.1)
  where
    rest : List Pdu
    rest = pdus_of names who connection (handed_out time who (Some connection) (spellings names.key pdus))

skipped : (same there : Bool) (items rest : List Pdu) → same ≡ false → (if same && there then items else []) ++ rest ≡ rest
skipped true there items rest e = absurd (cc (e))
skipped false there items rest e = refl

-- those of the other end
handed_by_other : (names : Names) (who utterer : Role) (connection time : ℕ) (last : Option ℕ) (datagrams : List (List ℕ)) → is_same utterer who ≡ false
    → pdus_of names who connection (handed_out time utterer last datagrams) ≡ []
handed_by_other names who utterer connection time last [] other = refl
handed_by_other names who utterer connection time None (bytes ∷ more) other =
    skipped (is_same utterer who) (0 == connection) (pdus_in (reading names.key bytes)) (pdus_of names who connection (handed_out time utterer None more)) other
    ∙ handed_by_other names who utterer connection time None more other
handed_by_other names who utterer connection time (Some entered) (bytes ∷ more) other =
    skipped (is_same utterer who) (entered == connection) (pdus_in (reading names.key bytes)) (pdus_of names who connection (handed_out time utterer (Some entered) more)) other
    ∙ handed_by_other names who utterer connection time (Some entered) more other

-- an end has sent more
pub flow_longer : Writes → (names : Names) (who : Role) (connection time : ℕ) (last : Option ℕ) (key : Key) (old new pdus : List Pdu) (sent : List Sent) → last ≡ Some connection → key ≡ names.key
    → new ≡ old ++ pdus → Each IsPdu pdus → pdus_of names who connection sent ≡ old → pdus_of names who connection (sent ++ handed_out time who last (spellings key pdus)) ≡ new
flow_longer law names who connection time last key old new pdus sent here same is are flow =
    pdus_append names who connection sent (handed_out time who last (spellings key pdus))
    ∙ ap (λ (c : Option ℕ). pdus_of names who connection sent ++ pdus_of names who connection (handed_out time who c (spellings key pdus))) here
    ∙ ap (λ (k : Key). pdus_of names who connection sent ++ pdus_of names who connection (handed_out time who (Some connection) (spellings k pdus))) same
    ∙ ap (λ (more : List Pdu). pdus_of names who connection sent ++ more) (handed_pdus law names who connection time pdus are)
    ∙ ap (λ (front : List Pdu). front ++ pdus) flow
    ∙ sym is

-- its partner has sent more
pub flow_kept : (names : Names) (who : Role) (connection time : ℕ) (utterer : Role) (last : Option ℕ) (flow : List Pdu) (datagrams : List (List ℕ)) (sent : List Sent) → is_same utterer who ≡ false
    → pdus_of names who connection sent ≡ flow → pdus_of names who connection (sent ++ handed_out time utterer last datagrams) ≡ flow
flow_kept names who connection time utterer last flow datagrams sent other same =
    pdus_append names who connection sent (handed_out time utterer last datagrams)
    ∙ ap (λ (more : List Pdu). pdus_of names who connection sent ++ more) (handed_by_other names who utterer connection time last datagrams other)
    ∙ append-nil (pdus_of names who connection sent) ∙ same

pub none_sent : (names : Names) (who : Role) (connection : ℕ) (sent : List Sent) → Each (λ (d : Sent). d.connection ≡ connection → d.sender ≡ who → ⊥) sent → pdus_of names who connection sent ≡ []
none_sent names who connection [] none = refl
none_sent names who connection (first ∷ others) none =
    by_test (λ (here : List Pdu). here ++ pdus_of names who connection others ≡ []) (is_of who connection first) (pdus_in (reading names.key first.bytes)) []
    (λ e. absurd (none.0 (eqb-true first.connection connection (both_true (is_same first.sender who) (first.connection == connection) e).1)
    (same_is first.sender who (both_true (is_same first.sender who) (first.connection == connection) e).0)))
    (λ e. none_sent names who connection others none.1)

-- one that is lost was sent
pub flow_without : (names : Names) (who : Role) (connection : ℕ) (bytes : List ℕ) (sent : List Sent) → pdus_of names who connection (without_oldest bytes sent) ≡ pdus_of names who connection sent
flow_without names who connection bytes [] = refl
flow_without names who connection bytes (first ∷ others) =
    by_test (λ (list : List Sent). pdus_of names who connection list ≡ pdus_of names who connection (first ∷ others)) (is_copy bytes first) ((record first { is_lost = true }) ∷ others)
    (first ∷ without_oldest bytes others)
    (λ e. refl)
    (λ e. ap (λ rest. (if is_of who connection first then pdus_in (reading names.key first.bytes) else []) ++ rest) (flow_without names who connection bytes others))
