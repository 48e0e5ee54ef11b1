-- What an end has sent since a moment.
use Rattle.std.proofs.Common.{◌≡◌, ℕ, zero, suc, true, List, [], ◌∷◌, ◌++◌, ◌⊎◌, inl, inr, Ok, refl, sym, ap, subst, ◌∙◌, append_assoc, append-nil}
use Rattle.rasta_core_spec.specs.Bag.{is_copy, without_oldest}
use Rattle.rasta_core_spec.specs.Ends.{Call, Sent, end_after, handed_out, outcome}
use Rattle.rasta_core_spec.specs.Events.{Calls, Elsewhere, Event, IsAmong, Loses, Passes, Restarts, happened}
use Rattle.rasta_core_spec.specs.Names.{Names}
use Rattle.rasta_core_spec.specs.Outbox.{spellings}
use Rattle.rasta_core_spec.specs.PduRead.{reading}
use Rattle.rasta_core_spec.specs.Run.{Ends, called, end_of, later, lost, restarted}
use Rattle.rasta_core_spec.specs.identity.Role.{Role}
use Rattle.rasta_core_spec.specs.identity.Role.TheVariants as role
use Rattle.rasta_core_spec.specs.pdu.Pdu.{Pdu}
use Rattle.rasta_core.specs.EndFlow.{IsAt, IsOf}
use Rattle.caught_up_laws.specs.Exact.{pdus_of}
use Rattle.caught_up_laws.proofs.Comes.{in_flow}
use Rattle.caught_up_laws.proofs.Lists.{by_test, flow_without, pdus_append}

-- the same datagram, lost or not
pub record IsSame (one other : Sent) : Type 0 where
  pub bytes : one.bytes ≡ other.bytes
  pub at : one.at ≡ other.at
  pub sender : one.sender ≡ other.sender
  pub connection : one.connection ≡ other.connection

-- a datagram had been sent by a moment
pub record WasSentBy (then : List Sent) (datagram : Sent) : Type 0 where
  pub earlier : Sent
  pub among : IsAmong earlier then
  pub same : IsSame earlier datagram

same_self : (datagram : Sent) → IsSame datagram datagram
same_self datagram = record { bytes = refl; at = refl; sender = refl; connection = refl }

same_on : (one other last : Sent) → IsSame one other → IsSame other last → IsSame one last
same_on one other last a b = record { bytes = a.bytes ∙ b.bytes; at = a.at ∙ b.at; sender = a.sender ∙ b.sender; connection = a.connection ∙ b.connection }

-- what an end sent since then in a connection; whatever it sent there was sent by then or is of this
pub record Since (names : Names) (who : Role) (connection : ℕ) (then now : List Sent) : Type 0 where
  pub more : List Pdu
  pub same : pdus_of names who connection now ≡ pdus_of names who connection then ++ more
  pub sources : (datagram : Sent) (pdu : Pdu) → IsAmong datagram now → datagram.sender ≡ who → datagram.connection ≡ connection → reading names.key datagram.bytes ≡ Ok pdu
      → WasSentBy then datagram ⊎ IsOf pdu more

pub since_self : (names : Names) (who : Role) (connection : ℕ) (then : List Sent) → Since names who connection then then
since_self names who connection then = record {
  more = [];
  same = sym (append-nil (pdus_of names who connection then));
  sources = λ datagram pdu among its there read. inl (record { earlier = datagram; among = among; same = same_self datagram });
}

at_front : (place : ℕ) (pdu : Pdu) (flow more : List Pdu) → IsAt place pdu flow → IsAt place pdu (flow ++ more)
at_front place pdu [] more at = elim at [ ]
at_front zero pdu (first ∷ others) more at = at
at_front (suc place) pdu (first ∷ others) more at = at_front place pdu others more at

of_front : (pdu : Pdu) (flow more : List Pdu) → IsOf pdu flow → IsOf pdu (flow ++ more)
of_front pdu flow more of = (of.0, at_front of.0 pdu flow more of.1)

of_back : (pdu : Pdu) (flow more : List Pdu) → IsOf pdu more → IsOf pdu (flow ++ more)
of_back pdu [] more of = of
of_back pdu (first ∷ others) more of = let rest = of_back pdu others more of in (suc rest.0, rest.1)

among_split : (datagram : Sent) (one other : List Sent) → IsAmong datagram (one ++ other) → IsAmong datagram one ⊎ IsAmong datagram other
among_split datagram [] other among = inr among
among_split datagram (first ∷ one) other (inl same) = inl (inl same)
among_split datagram (first ∷ one) other (inr among) = elim (among_split datagram one other among) [ inl here ↦ inl (inr here) | inr there ↦ inr there ]

-- more is sent
since_more : (names : Names) (who : Role) (connection : ℕ) (then now handed : List Sent) → Since names who connection then now → Since names who connection then (now ++ handed)
since_more names who connection then now handed since = record {
  more = since.more ++ pdus_of names who connection handed;
  same = pdus_append names who connection now handed ∙ ap (λ front. front ++ pdus_of names who connection handed) since.same
      ∙ append_assoc (pdus_of names who connection then) since.more (pdus_of names who connection handed);
  sources = λ datagram pdu among its there read. elim (among_split datagram now handed among) [
    | inl here ↦ elim (since.sources datagram pdu here its there read) [ inl was ↦ inl was | inr of ↦ inr (of_front pdu since.more (pdus_of names who connection handed) of) ]
    | inr new ↦ inr (of_back pdu since.more (pdus_of names who connection handed) (in_flow names who connection datagram pdu handed new its there read))
  ];
}

-- one is lost
record WasKept (bytes : List ℕ) (list : List Sent) (datagram : Sent) : Type 0 where
  before : Sent
  among : IsAmong before list
  same : IsSame before datagram

kept_by_loss : (bytes : List ℕ) (list : List Sent) (datagram : Sent) → IsAmong datagram (without_oldest bytes list) → WasKept bytes list datagram
kept_by_loss bytes [] datagram among = absurd among
kept_by_loss bytes (first ∷ others) datagram within =
    by_test (λ (l : List Sent). IsAmong datagram l → WasKept bytes (first ∷ others) datagram) (is_copy bytes first) ((record first { is_lost = true }) ∷ others) (first ∷ without_oldest bytes others)
    (λ e among. elim among [
      | inl same ↦ record { before = first; among = inl refl; same = subst (IsSame first) same (record { bytes = refl; at = refl; sender = refl; connection = refl }) }
      | inr there ↦ record { before = datagram; among = inr there; same = same_self datagram }
    ])
    (λ e among. elim among [
      | inl same ↦ record { before = first; among = inl refl; same = subst (IsSame first) same (same_self first) }
      | inr there ↦ let was = kept_by_loss bytes others datagram there in record { before = was.before; among = inr was.among; same = was.same }
    ])
    within

since_lost : (names : Names) (who : Role) (connection : ℕ) (then now : List Sent) (bytes : List ℕ) → Since names who connection then now → Since names who connection then (without_oldest bytes now)
since_lost names who connection then now bytes since = record {
  more = since.more;
  same = flow_without names who connection bytes now ∙ since.same;
  sources = λ datagram pdu among its there read. of_kept datagram pdu (kept_by_loss bytes now datagram among) its there read;
}
  where
    of_kept : (datagram : Sent) (pdu : Pdu) → WasKept bytes now datagram → datagram.sender ≡ who → datagram.connection ≡ connection → reading names.key datagram.bytes ≡ Ok pdu
        → WasSentBy then datagram ⊎ IsOf pdu since.more
    of_kept datagram pdu was its there read = elim (since.sources was.before pdu was.among (was.same.sender ∙ its) (was.same.connection ∙ there)
        (subst (λ (b : List ℕ). reading names.key b ≡ Ok pdu) (sym was.same.bytes) read)) [
          | inl sent ↦ inl (record { earlier = sent.earlier; among = sent.among; same = same_on sent.earlier was.before datagram sent.same was.same })
          | inr of ↦ inr of
        ]

handed_by : Role → Call → Ends → List Sent
handed_by utterer call ends = handed_out ends.time utterer (end_after (outcome call ends.moment (end_of utterer ends)) ends.moment (end_of utterer ends)).connection
    (spellings (end_of utterer ends).link.identity.key (outcome call ends.moment (end_of utterer ends)).pdus)

called_sent : (utterer : Role) (call : Call) (ends : Ends) → (called utterer call ends).sent ≡ ends.sent ++ handed_by utterer call ends
unfolding called handed_by
called_sent role.Client call ends = refl
called_sent role.Server call ends = refl

pub event_since : (names : Names) (who : Role) (connection : ℕ) (then : List Sent) (event : Event) (now : Ends) → Since names who connection then now.sent
    → Since names who connection then (happened event now).sent
unfolding later lost restarted
event_since names who connection then (Calls utterer call) now since = subst (Since names who connection then) (sym (called_sent utterer call now)) (since_more names who connection then now.sent (handed_by utterer call now) since)
event_since names who connection then (Passes elapsed of_client of_server) now since = since
event_since names who connection then (Loses bytes) now since = since_lost names who connection then now.sent bytes since
event_since names who connection then (Restarts role.Client clock first) now since = since
event_since names who connection then (Restarts role.Server clock first) now since = since
event_since names who connection then (Elsewhere count) now since = since
