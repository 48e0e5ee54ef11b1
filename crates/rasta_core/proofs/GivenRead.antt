-- What an end gave is read off the datagrams that it sent.
use Rattle.std.proofs.Common.{◌≡◌, ℕ, Bool, true, false, ◌&&◌, if◌then◌else◌, List, [], ◌∷◌, ◌++◌, Option, Some, None, refl, sym, ap, ◌∙◌, append_assoc, append-nil}
use Rattle.std.specs.Prelude.{◌==◌}
use Rattle.std.proofs.lemmas.Bool.{eqb-true, eq-eqb}
use Rattle.rasta_core_spec.specs.Outbox.{spellings}
use Rattle.rasta_core_spec.specs.identity.Role.{Role}
use Rattle.rasta_core_spec.specs.identity.Role.TheVariants as role
use Rattle.rasta_core_spec.specs.Bag.{is_copy, without_oldest}
use Rattle.rasta_core_spec.specs.Ends.{Sent, Outcome, end_after, handed_out, newer, kept}
use Rattle.rasta_core_spec.specs.Run.{Ends}
use Rattle.rasta_core.specs.Carried.{carried}
use Rattle.rasta_core_spec.specs.Given.{new_items, is_same, is_of, items_in, items_given, IsGiven}
use Rattle.rasta_core_spec.specs.Each.{Each}
use Rattle.rasta_core_spec.specs.Names.{Names}
use Rattle.rasta_core.proofs.Conversation.{WrittenIsRead}
use Rattle.rasta_core.proofs.BothEndsAfter.{made_at}
use Rattle.rasta_core.proofs.Tests.{by_test}
use Rattle.rasta_core_spec.specs.key.Key.{Key}
use Rattle.rasta_core_spec.specs.pdu.Pdu.{Pdu}
use Rattle.rasta_core_spec.specs.PduRead.{reading}
use Rattle.rasta_core_spec.specs.Spelling.{writing}
use Rattle.rasta_core_spec.specs.Values.{IsPdu}

items_given-append : (names : Names) (who : Role) (connection : ℕ) (one other : List Sent)
    → items_given names who connection (one ++ other) ≡ items_given names who connection one ++ items_given names who connection other
items_given-append names who connection [] other = refl
items_given-append names who connection (first ∷ later) other =
    ap (λ rest. here ++ rest) (items_given-append names who connection later other) ∙ sym (append_assoc here (items_given names who connection later) (items_given names who connection other))
  where
    here : List (List ℕ)
    here = if is_of who connection first then items_in (reading names.key first.bytes) else []

pub same_self : (who : Role) → is_same who who ≡ true
same_self role.Client = refl
same_self role.Server = refl

same_is : (one other : Role) → is_same one other ≡ true → one ≡ other
same_is role.Client role.Client e = refl
same_is role.Server role.Server e = refl
same_is role.Client role.Server e = absurd (cc (e))
same_is role.Server role.Client e = absurd (cc (e))

-- the datagrams of these PDUs, in their connection
handed_given : WrittenIsRead → (names : Names) (who : Role) (connection time : ℕ) (pdus : List Pdu) → Each IsPdu pdus
    → items_given names who connection (handed_out time who (Some connection) (spellings names.key pdus)) ≡ carried pdus
handed_given law names who connection time [] are = refl
handed_given law names who connection time (pdu ∷ pdus) are =
    ap (λ (b : Bool). (if b && (connection == connection) then items_in (reading names.key (writing names.key pdu)) else []) ++ rest) (same_self who)
    ∙ ap (λ (b : Bool). (if b then items_in (reading names.key (writing names.key pdu)) else []) ++ rest) (eq-eqb connection connection refl)
    ∙ ap (λ found. items_in found ++ rest) (law names.key pdu are.0)
    ∙ ap (λ more. new_items pdu.body ++ more) (handed_given law names who connection time pdus are.1)
  where
    rest : List (List ℕ)
    rest = items_given names who connection (handed_out time who (Some connection) (spellings names.key pdus))

skipped : (same there : Bool) (items rest : List (List ℕ)) → same ≡ false → (if same && there then items else []) ++ rest ≡ rest
skipped true there items rest e = absurd (cc (e))
skipped false there items rest e = refl

-- those of the other end
handed_by_other : (names : Names) (who utterer : Role) (connection time : ℕ) (last : Option ℕ) (datagrams : List (List ℕ)) → is_same utterer who ≡ false
    → items_given names who connection (handed_out time utterer last datagrams) ≡ []
handed_by_other names who utterer connection time last [] other = refl
handed_by_other names who utterer connection time None (bytes ∷ more) other =
    skipped (is_same utterer who) (0 == connection) (items_in (reading names.key bytes)) (items_given names who connection (handed_out time utterer None more)) other
    ∙ handed_by_other names who utterer connection time None more other
handed_by_other names who utterer connection time (Some entered) (bytes ∷ more) other =
    skipped (is_same utterer who) (entered == connection) (items_in (reading names.key bytes)) (items_given names who connection (handed_out time utterer (Some entered) more)) other
    ∙ handed_by_other names who utterer connection time (Some entered) more other

-- a connection in which nothing was sent before
none_given : (names : Names) (who : Role) (connection : ℕ) (sent : List Sent) → Each (λ (d : Sent). d.connection ≡ connection → d.sender ≡ who → ⊥) sent
    → items_given names who connection sent ≡ []
none_given names who connection [] none = refl
none_given names who connection (first ∷ later) none =
    ap (λ (b : Bool). (if b then items_in (reading names.key first.bytes) else []) ++ items_given names who connection later) not_of ∙ none_given names who connection later none.1
  where
    pick : (same there : Bool) → is_same first.sender who ≡ same → (first.connection == connection) ≡ there → (same && there) ≡ false
    pick true true s t = absurd (none.0 (eqb-true first.connection connection t) (same_is first.sender who s))
    pick true false s t = refl
    pick false there s t = refl

    not_of : is_of who connection first ≡ false
    not_of = pick (is_same first.sender who) (first.connection == connection) refl refl

pub without_given : (names : Names) (who : Role) (connection : ℕ) (bytes : List ℕ) (sent : List Sent)
    → items_given names who connection (without_oldest bytes sent) ≡ items_given names who connection sent
without_given names who connection bytes [] = refl
without_given names who connection bytes (first ∷ later) =
    by_test (λ all. items_given names who connection all ≡ items_given names who connection (first ∷ later)) (is_copy bytes first) ((record first { is_lost = true }) ∷ later)
    (first ∷ without_oldest bytes later) (λ e. refl)
    (λ e. ap (λ rest. (if is_of who connection first then items_in (reading names.key first.bytes) else []) ++ rest) (without_given names who connection bytes later))

-- an end that has made a call
given_after : WrittenIsRead → (names : Names) (who : Role) (time : ℕ) (key : Key) (enters old : Option ℕ) (given more : List (List ℕ)) (pdus : List Pdu) (sent : List Sent) → key ≡ names.key
    → Each IsPdu pdus → carried pdus ≡ more
    → ((connection : ℕ) → enters ≡ Some connection → Each (λ (d : Sent). d.connection ≡ connection → d.sender ≡ who → ⊥) sent)
    → ((connection : ℕ) → old ≡ Some connection → given ≡ items_given names who connection sent)
    → (connection : ℕ) → newer enters old ≡ Some connection
    → kept enters given ++ more ≡ items_given names who connection (sent ++ handed_out time who (newer enters old) (spellings key pdus))
given_after law names who time key enters old given more pdus sent same are carries none was connection is =
    first enters refl ∙ sym (items_given-append names who connection sent (handed_out time who (newer enters old) (spellings key pdus)) ∙ ap (λ back. items_given names who connection sent ++ back) handed)
  where
    handed : items_given names who connection (handed_out time who (newer enters old) (spellings key pdus)) ≡ more
    handed =
        ap (λ last. items_given names who connection (handed_out time who last (spellings key pdus))) is
        ∙ ap (λ k. items_given names who connection (handed_out time who (Some connection) (spellings k pdus))) same
        ∙ handed_given law names who connection time pdus are ∙ carries

    first : (entered : Option ℕ) → enters ≡ entered → kept enters given ++ more ≡ items_given names who connection sent ++ more
    first None e = ap (λ x. kept x given ++ more) e ∙ ap (λ front. front ++ more) (was connection (sym (ap (λ x. newer x old) e) ∙ is))
    first (Some number) e =
        ap (λ x. kept x given ++ more) e
        ∙ ap (λ front. front ++ more) (sym (none_given names who connection sent (none connection (e ∙ sym (ap (λ x. newer x old) e) ∙ is))))

-- both ends after a call of one
pub client_gives : WrittenIsRead → (names : Names) (ends : Ends) (made : Outcome) → ends.client.link.identity.key ≡ names.key → Each IsPdu made.pdus → carried made.pdus ≡ made.given
    → ((connection : ℕ) → made.enters ≡ Some connection → Each (λ (d : Sent). d.connection ≡ connection → d.sender ≡ role.Client → ⊥) ends.sent)
    → IsGiven names role.Client ends → IsGiven names role.Client (made_at role.Client made ends)
unfolding end_after
client_gives law names ends made key are carries none was connection is =
    given_after law names role.Client ends.time ends.client.link.identity.key made.enters ends.client.connection ends.client.given made.given made.pdus ends.sent key are carries none was connection is

pub server_gives : WrittenIsRead → (names : Names) (ends : Ends) (made : Outcome) → ends.server.link.identity.key ≡ names.key → Each IsPdu made.pdus → carried made.pdus ≡ made.given
    → ((connection : ℕ) → made.enters ≡ Some connection → Each (λ (d : Sent). d.connection ≡ connection → d.sender ≡ role.Server → ⊥) ends.sent)
    → IsGiven names role.Server ends → IsGiven names role.Server (made_at role.Server made ends)
unfolding end_after
server_gives law names ends made key are carries none was connection is =
    given_after law names role.Server ends.time ends.server.link.identity.key made.enters ends.server.connection ends.server.given made.given made.pdus ends.sent key are carries none was connection is

-- and the partner's
partner_given : (names : Names) (who utterer : Role) (connection time : ℕ) (last : Option ℕ) (datagrams : List (List ℕ)) (sent : List Sent) (given : List (List ℕ)) → is_same utterer who ≡ false
    → given ≡ items_given names who connection sent → given ≡ items_given names who connection (sent ++ handed_out time utterer last datagrams)
partner_given names who utterer connection time last datagrams sent given other was =
    was ∙ sym (items_given-append names who connection sent (handed_out time utterer last datagrams)
    ∙ ap (λ back. items_given names who connection sent ++ back) (handed_by_other names who utterer connection time last datagrams other)
    ∙ append-nil (items_given names who connection sent))

pub client_given_kept : (names : Names) (ends : Ends) (made : Outcome) → IsGiven names role.Client ends → IsGiven names role.Client (made_at role.Server made ends)
unfolding end_after
client_given_kept names ends made was connection is =
    partner_given names role.Client role.Server connection ends.time (newer made.enters ends.server.connection) (spellings ends.server.link.identity.key made.pdus) ends.sent ends.client.given refl (was connection is)

pub server_given_kept : (names : Names) (ends : Ends) (made : Outcome) → IsGiven names role.Server ends → IsGiven names role.Server (made_at role.Client made ends)
unfolding end_after
server_given_kept names ends made was connection is =
    partner_given names role.Server role.Client connection ends.time (newer made.enters ends.client.connection) (spellings ends.client.link.identity.key made.pdus) ends.sent ends.server.given refl (was connection is)
