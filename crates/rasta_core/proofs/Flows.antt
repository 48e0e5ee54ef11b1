-- What was sent spells the PDUs of the flows.
use Rattle.std.proofs.Common.{◌≡◌, ℕ, zero, suc, List, [], ◌∷◌, ◌++◌, Option, Ok, refl, sym, subst, append_assoc}
use Rattle.rasta_core_spec.specs.identity.Role.{Role}
use Rattle.rasta_core_spec.specs.Outbox.{spellings}
use Rattle.rasta_core_spec.specs.Ends.{Sent, handed_out}
use Rattle.rasta_core.specs.EndFlow.{IsAt, IsOf}
use Rattle.rasta_core_spec.specs.Each.{Each}
use Rattle.rasta_core_spec.specs.Names.{Names}
use Rattle.rasta_core.proofs.EachLaws.{each_join, each_turned}
use Rattle.rasta_core.proofs.Conversation.{WrittenIsRead}
use Rattle.rasta_core.specs.Ordered.{IsSpelledIn}
use Rattle.rasta_core_spec.specs.key.Key.{Key}
use Rattle.rasta_core_spec.specs.pdu.Pdu.{Pdu}
use Rattle.rasta_core_spec.specs.PduRead.{reading}
use Rattle.rasta_core_spec.specs.Spelling.{writing}
use Rattle.rasta_core_spec.specs.Values.{IsPdu}

at_front : (place : ℕ) (pdu : Pdu) (flow more : List Pdu) → IsAt place pdu flow → IsAt place pdu (flow ++ more)
at_front place pdu [] more at = elim at [ ]
at_front zero pdu (first ∷ others) more at = at
at_front (suc place) pdu (first ∷ others) more at = at_front place pdu others more at

pub of_front : (pdu : Pdu) (flow more : List Pdu) → IsOf pdu flow → IsOf pdu (flow ++ more)
of_front pdu flow more of = (of.0, at_front of.0 pdu flow more of.1)

of_here : (pdu : Pdu) (flow more : List Pdu) → IsOf pdu (flow ++ pdu ∷ more)
of_here pdu [] more = (0, refl)
of_here pdu (first ∷ others) more = let rest = of_here pdu others more in (suc rest.0, rest.1)

-- the datagrams of these PDUs
handed_spelled : WrittenIsRead → (names : Names) (who : Role) (connection : ℕ) (time : ℕ) (utterer : Role) (last : Option ℕ) (flow pdus : List Pdu) → Each IsPdu pdus
    → Each (IsSpelledIn names who connection (flow ++ pdus)) (handed_out time utterer last (spellings names.key pdus))
handed_spelled law names who connection time utterer last flow [] are = tt
handed_spelled law names who connection time utterer last flow (pdu ∷ pdus) are = (
  λ its same that read. subst (λ (p : Pdu). IsOf p (flow ++ pdu ∷ pdus)) (same_pdu that read) (of_here pdu flow pdus),
  subst (λ (all : List Pdu). Each (IsSpelledIn names who connection all) (handed_out time utterer last (spellings names.key pdus))) (append_assoc flow (pdu ∷ []) pdus)
      (handed_spelled law names who connection time utterer last (flow ++ pdu ∷ []) pdus are.1),
)
  where
    same_pdu : (that : Pdu) → reading names.key (writing names.key pdu) ≡ Ok that → pdu ≡ that
    same_pdu that read = let is : reading names.key (writing names.key pdu) ≡ Ok pdu = law names.key pdu are.0 in cc

-- the datagrams of the other end
handed_apart : (names : Names) (who : Role) (connection : ℕ) (flow : List Pdu) (time : ℕ) (utterer : Role) (last : Option ℕ) (datagrams : List (List ℕ)) → (utterer ≡ who → ⊥)
    → Each (IsSpelledIn names who connection flow) (handed_out time utterer last datagrams)
handed_apart names who connection flow time utterer last [] other = tt
handed_apart names who connection flow time utterer last (bytes ∷ more) other =
    (λ its same that read. absurd (other its), handed_apart names who connection flow time utterer last more other)

front_spelled : (names : Names) (who : Role) (connection : ℕ) (flow more : List Pdu) (sent : Sent) → IsSpelledIn names who connection flow sent → IsSpelledIn names who connection (flow ++ more) sent
front_spelled names who connection flow more sent is its same pdu read = of_front pdu flow more (is its same pdu read)

-- an end has sent more
pub flow_longer : WrittenIsRead → (names : Names) (who : Role) (connection time : ℕ) (last : Option ℕ) (key : Key) (old new pdus : List Pdu) (sent : List Sent) → key ≡ names.key
    → new ≡ old ++ pdus → Each IsPdu pdus → Each (IsSpelledIn names who connection old) sent
    → Each (IsSpelledIn names who connection new) (sent ++ handed_out time who last (spellings key pdus))
flow_longer law names who connection time last key old new pdus sent same is are flows =
    subst (λ (flow : List Pdu). Each (IsSpelledIn names who connection flow) (sent ++ handed_out time who last (spellings key pdus))) (sym is)
    (subst (λ (k : Key). Each (IsSpelledIn names who connection (old ++ pdus)) (sent ++ handed_out time who last (spellings k pdus))) (sym same)
    (each_join (IsSpelledIn names who connection (old ++ pdus)) sent (handed_out time who last (spellings names.key pdus))
    (each_turned (IsSpelledIn names who connection old) (IsSpelledIn names who connection (old ++ pdus)) (front_spelled names who connection old pdus) sent flows)
    (handed_spelled law names who connection time who last old pdus are)))

-- its partner has sent more
pub flow_kept : (names : Names) (who : Role) (connection time : ℕ) (utterer : Role) (last : Option ℕ) (flow : List Pdu) (datagrams : List (List ℕ)) (sent : List Sent) → (utterer ≡ who → ⊥)
    → Each (IsSpelledIn names who connection flow) sent → Each (IsSpelledIn names who connection flow) (sent ++ handed_out time utterer last datagrams)
flow_kept names who connection time utterer last flow datagrams sent other flows =
    each_join (IsSpelledIn names who connection flow) sent (handed_out time utterer last datagrams) flows (handed_apart names who connection flow time utterer last datagrams other)

-- a connection in which nothing was sent before
pub flow_new : WrittenIsRead → (names : Names) (who : Role) (connection time : ℕ) (last : Option ℕ) (key : Key) (new pdus : List Pdu) (sent : List Sent) → key ≡ names.key
    → new ≡ pdus → Each IsPdu pdus → Each (λ (d : Sent). d.connection ≡ connection → d.sender ≡ who → ⊥) sent
    → Each (IsSpelledIn names who connection new) (sent ++ handed_out time who last (spellings key pdus))
flow_new law names who connection time last key new pdus sent same is are none =
    flow_longer law names who connection time last key [] new pdus sent same is are
    (each_turned (λ (d : Sent). d.connection ≡ connection → d.sender ≡ who → ⊥) (IsSpelledIn names who connection []) (λ d no its there pdu read. absurd (no there its)) sent none)
