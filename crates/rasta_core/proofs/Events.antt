-- Every event keeps the order of two ends, and so does every run.
use Rattle.std.proofs.Common.{◌≡◌, ℕ, ◌+◌, ◌≤◌, ◌<◌, ◌^◌, inl, inr, true, List, [], ◌∷◌, ◌++◌, length, Some, None, refl, sym, ap, subst, ◌∙◌, arith}
use Rattle.std.proofs.lemmas.List.{length-append}
use Rattle.std.proofs.lemmas.Option.{same_Some}
use Rattle.rasta_core_spec.specs.Parameters.{stops_at_greatest}
use Rattle.rasta_core_spec.specs.State.{LinkState, confirmed_items}
use Rattle.rasta_core_spec.specs.Clock.{settled}
use Rattle.rasta_core_spec.specs.Calls.{created}
use Rattle.rasta_core_spec.specs.identity.Identity.{Identity}
use Rattle.rasta_core_spec.specs.identity.Role.{Role}
use Rattle.rasta_core_spec.specs.identity.Role.TheVariants as role
use Rattle.rasta_core_spec.specs.Bag.{is_copy, without_oldest}
use Rattle.rasta_core_spec.specs.Ends.{Sent, EndState, Call, Ticks, Opens, Closes, Sends, Receives, reading_of, end_later, end_restarted}
use Rattle.rasta_core_spec.specs.Run.{Ends, called, later, lost, restarted}
use Rattle.rasta_core.specs.Order.{InOrder}
use Rattle.rasta_core.specs.EndFlow.{EndFlow}
use Rattle.rasta_core.specs.LinkAndFlow.{Keeps, Plays, joined, asking, left}
use Rattle.rasta_core.specs.FirstPdus.{IsEarly, PlaysEarly, asks, gone}
use Rattle.rasta_core_spec.specs.Each.{Each}
use Rattle.rasta_core_spec.specs.Names.{Names, AreNames}
use Rattle.rasta_core.specs.Invariant.{Timely}
use Rattle.rasta_core_spec.specs.Events.{Event, Calls, Passes, Loses, Restarts, Elsewhere, May, MayCall, happened, run, MayRun, Start, started}
use Rattle.rasta_core.proofs.Called.{ReadIsIntact}
use Rattle.rasta_core.specs.Ordered.{AreTogether, IsSpelledIn, Ordered, unbegun, alone, together}
use Rattle.rasta_core_spec.specs.Safe.{AreCounted, AreFew, AreSafe, CountsNone, IsCounted, IsCountedAlone, IsFew, IsSafe, counts, made_anew}
use Rattle.rasta_core.proofs.Tests.{by_test}
use Rattle.rasta_core.proofs.OrderLaws.{Laws, SafeLaws}
use Rattle.rasta_core.proofs.Calls.{ticks_client, closes_client, sends_client, opens_client, ticks_server, closes_server, sends_server, opens_server}
use Rattle.rasta_core.proofs.Receptions.{receives_client, receives_server}
use Rattle.rasta_core_spec.specs.pdu.Pdu.{Pdu}

-- ---- time goes on

-- the laws that this stands on
pub record PassingLaws : Type 0 where
  pub settled_plays : (now : ℕ) (link : LinkState) (own other : EndFlow) → InOrder own other → Plays link own other → Plays (settled now link) own other
  pub swapped : (own other : EndFlow) → InOrder own other → InOrder other own
  pub early_settled : (now : ℕ) (link : LinkState) (client : EndFlow) → IsEarly client → PlaysEarly link client → PlaysEarly (settled now link) client

pub passed : PassingLaws → (names : Names) (elapsed of_client of_server : ℕ) (ends : Ends) → Ordered names ends → Ordered names (later elapsed of_client of_server ends)
unfolding later end_later
passed law names elapsed of_client of_server ends (unbegun is) = unbegun is
passed law names elapsed of_client of_server ends (alone is) = alone (record {
  connection = is.connection;
  client = is.client;
  of_client = is.of_client;
  not_of_server = is.not_of_server;
  early = is.early;
  plays = law.early_settled (reading_of (ends.client.clock + of_client)) ends.client.link is.client is.early is.plays;
  given = is.given;
  taken = is.taken;
  flow = is.flow;
})
passed law names elapsed of_client of_server ends (together is) = together (record {
  connection = is.connection;
  client = is.client;
  server = is.server;
  of_client = is.of_client;
  of_server = is.of_server;
  order = is.order;
  client_plays = law.settled_plays (reading_of (ends.client.clock + of_client)) ends.client.link is.client is.server is.order is.client_plays;
  server_plays = law.settled_plays (reading_of (ends.server.clock + of_server)) ends.server.link is.server is.client (law.swapped is.client is.server is.order) is.server_plays;
  client_given = is.client_given;
  client_taken = is.client_taken;
  server_given = is.server_given;
  server_taken = is.server_taken;
  client_few = is.client_few;
  server_few = is.server_few;
  client_flow = is.client_flow;
  server_flow = is.server_flow;
})

-- ---- a datagram is lost

flow_without : (names : Names) (who : Role) (connection : ℕ) (flow : List Pdu) (bytes : List ℕ) (sent : List Sent) → Each (IsSpelledIn names who connection flow) sent
    → Each (IsSpelledIn names who connection flow) (without_oldest bytes sent)
flow_without names who connection flow bytes [] each = tt
flow_without names who connection flow bytes (first ∷ others) each =
    by_test (Each (IsSpelledIn names who connection flow)) (is_copy bytes first) ((record first { is_lost = true }) ∷ others) (first ∷ without_oldest bytes others)
    (λ e. (each.0, each.1)) (λ e. (each.0, flow_without names who connection flow bytes others each.1))

lost_kept : (names : Names) (bytes : List ℕ) (ends : Ends) → Ordered names ends → Ordered names (lost bytes ends)
unfolding lost
lost_kept names bytes ends (unbegun is) = unbegun is
lost_kept names bytes ends (alone is) = alone (record {
  connection = is.connection;
  client = is.client;
  of_client = is.of_client;
  not_of_server = is.not_of_server;
  early = is.early;
  plays = is.plays;
  given = is.given;
  taken = is.taken;
  flow = flow_without names role.Client is.connection is.client.flow bytes ends.sent is.flow;
})
lost_kept names bytes ends (together is) = together (record {
  connection = is.connection;
  client = is.client;
  server = is.server;
  of_client = is.of_client;
  of_server = is.of_server;
  order = is.order;
  client_plays = is.client_plays;
  server_plays = is.server_plays;
  client_given = is.client_given;
  client_taken = is.client_taken;
  server_given = is.server_given;
  server_taken = is.server_taken;
  client_few = is.client_few;
  server_few = is.server_few;
  client_flow = flow_without names role.Client is.connection is.client.flow bytes ends.sent is.client_flow;
  server_flow = flow_without names role.Server is.connection is.server.flow bytes ends.sent is.server_flow;
})

-- ---- an end is made anew

early_anew : (identity : Identity) (first now : ℕ) (client : EndFlow) → PlaysEarly (created identity first now) client
unfolding created
early_anew identity first now client = gone refl (inr (record { given = refl; taken = refl }))

restarted_kept : Laws → (names : Names) (who : Role) (clock first : ℕ) (ends : Ends) → Ordered names ends → Ordered names (restarted who clock first ends)
unfolding restarted end_restarted
restarted_kept law names role.Client clock first ends (unbegun is) = unbegun is
restarted_kept law names role.Server clock first ends (unbegun is) = unbegun is
restarted_kept law names role.Client clock first ends (alone is) = alone (record {
  connection = is.connection;
  client = is.client;
  of_client = is.of_client;
  not_of_server = is.not_of_server;
  early = is.early;
  plays = early_anew ends.client.link.identity first clock is.client;
  given = is.given;
  taken = is.taken;
  flow = is.flow;
})
restarted_kept law names role.Server clock first ends (alone is) = alone (record {
  connection = is.connection;
  client = is.client;
  of_client = is.of_client;
  not_of_server = is.not_of_server;
  early = is.early;
  plays = is.plays;
  given = is.given;
  taken = is.taken;
  flow = is.flow;
})
restarted_kept law names role.Client clock first ends (together is) = together (record {
  connection = is.connection;
  client = is.client;
  server = is.server;
  of_client = is.of_client;
  of_server = is.of_server;
  order = is.order;
  client_plays = law.anew ends.client.link.identity first clock is.client is.server;
  server_plays = is.server_plays;
  client_given = is.client_given;
  client_taken = is.client_taken;
  server_given = is.server_given;
  server_taken = is.server_taken;
  client_few = is.client_few;
  server_few = is.server_few;
  client_flow = is.client_flow;
  server_flow = is.server_flow;
})
restarted_kept law names role.Server clock first ends (together is) = together (record {
  connection = is.connection;
  client = is.client;
  server = is.server;
  of_client = is.of_client;
  of_server = is.of_server;
  order = is.order;
  client_plays = is.client_plays;
  server_plays = law.anew ends.server.link.identity first clock is.server is.client;
  client_given = is.client_given;
  client_taken = is.client_taken;
  server_given = is.server_given;
  server_taken = is.server_taken;
  client_few = is.client_few;
  server_few = is.server_few;
  client_flow = is.client_flow;
  server_flow = is.server_flow;
})

-- ---- datagrams of other links

elsewhere_kept : (names : Names) (count : ℕ) (ends : Ends) → Ordered names ends → Ordered names (record ends { moment = ends.moment + count })
elsewhere_kept names count ends (unbegun is) = unbegun is
elsewhere_kept names count ends (alone is) = alone (record {
  connection = is.connection;
  client = is.client;
  of_client = is.of_client;
  not_of_server = is.not_of_server;
  early = is.early;
  plays = is.plays;
  given = is.given;
  taken = is.taken;
  flow = is.flow;
})
elsewhere_kept names count ends (together is) = together (record {
  connection = is.connection;
  client = is.client;
  server = is.server;
  of_client = is.of_client;
  of_server = is.of_server;
  order = is.order;
  client_plays = is.client_plays;
  server_plays = is.server_plays;
  client_given = is.client_given;
  client_taken = is.client_taken;
  server_given = is.server_given;
  server_taken = is.server_taken;
  client_few = is.client_few;
  server_few = is.server_few;
  client_flow = is.client_flow;
  server_flow = is.server_flow;
})

-- ---- every event

called_kept : Laws → ReadIsIntact → (names : Names) → AreNames names → (who : Role) (call : Call) (ends : Ends) → Timely names ends → MayCall names who call ends → Ordered names ends
    → Ordered names (called who call ends)
called_kept law intact names are role.Client Ticks ends timely may ordered = ticks_client law names ends timely ordered
called_kept law intact names are role.Client Opens ends timely may ordered = opens_client law names ends timely ordered
called_kept law intact names are role.Client (Closes why) ends timely may ordered = closes_client law names ends timely why ordered
called_kept law intact names are role.Client (Sends item) ends timely may ordered = sends_client law names ends timely item may ordered
called_kept law intact names are role.Client (Receives bytes connection) ends timely may ordered = receives_client law intact names are ends timely bytes connection may ordered
called_kept law intact names are role.Server Ticks ends timely may ordered = ticks_server law names ends timely ordered
called_kept law intact names are role.Server Opens ends timely may ordered = opens_server law names ends timely ordered
called_kept law intact names are role.Server (Closes why) ends timely may ordered = closes_server law names ends timely why ordered
called_kept law intact names are role.Server (Sends item) ends timely may ordered = sends_server law names ends timely item may ordered
called_kept law intact names are role.Server (Receives bytes connection) ends timely may ordered = receives_server law intact names are ends timely bytes connection may ordered

pub event_kept : Laws → ReadIsIntact → (names : Names) (event : Event) (ends : Ends) → AreNames names → Timely names ends → Ordered names ends → May names event ends
    → Ordered names (happened event ends)
event_kept law intact names (Calls who call) ends are timely ordered may = called_kept law intact names are who call ends timely may ordered
event_kept law intact names (Passes elapsed of_client of_server) ends are timely ordered may =
    passed (record { settled_plays = law.settled_plays; swapped = law.swapped; early_settled = law.early_settled }) names elapsed of_client of_server ends ordered
event_kept law intact names (Loses bytes) ends are timely ordered may = lost_kept names bytes ends ordered
event_kept law intact names (Restarts who clock first) ends are timely ordered may = restarted_kept law names who clock first ends ordered
event_kept law intact names (Elsewhere count) ends are timely ordered may = elsewhere_kept names count ends ordered

-- time is kept by every event: a law of time, handed in by who has it
abbrev pub KeepsTime : Type 0
KeepsTime = (names : Names) (event : Event) (ends : Ends) → AreNames names → Timely names ends → May names event ends → Timely names (happened event ends)

-- and so is the order
abbrev pub KeepsOrder : Type 0
KeepsOrder = (names : Names) (event : Event) (ends : Ends) → AreNames names → Timely names ends → Ordered names ends → May names event ends → Ordered names (happened event ends)

pub run_kept : KeepsOrder → KeepsTime → (names : Names) (events : List Event) (ends : Ends) → AreNames names → Timely names ends → Ordered names ends → MayRun names events ends
    → Ordered names (run events ends)
run_kept order time names [] ends are timely ordered may = ordered
run_kept order time names (first ∷ others) ends are timely ordered may =
    run_kept order time names others (happened first ends) are (time names first ends are timely may.0) (order names first ends are timely ordered may.0) may.1

pub starts : (names : Names) (start : Start) → Ordered names (started names start)
starts names start = unbegun refl

-- ---- what follows

not_none : (connection : ℕ) → None ≡ Some connection → ⊥
not_none connection e = cc

-- a count of fewer items than PDUs may be sent stops nowhere
small : (count : ℕ) → count < 2 ^ 31 → stops_at_greatest count ≡ count
small count few = omega (arith, few)

kept_counted : (end : EndState) (own : EndFlow) → Keeps end.link own → own.given ≡ end.given → own.taken ≡ end.taken → IsFew end → IsCounted end
kept_counted end own keeps given_is taken_is few =
    counts (keeps.given ∙ ap (λ (items : List (List ℕ)). stops_at_greatest (length items)) given_is ∙ small (length end.given) few.given)
    (keeps.taken ∙ ap (λ (items : List (List ℕ)). stops_at_greatest (length items)) taken_is ∙ small (length end.taken) few.taken)

plays_counted : (end : EndState) (own other : EndFlow) → Plays end.link own other → own.given ≡ end.given → own.taken ≡ end.taken → IsFew end → IsCounted end
plays_counted end own other (joined has) given_is taken_is few = kept_counted end own has.inside.keeps given_is taken_is few
plays_counted end own other (asking still) given_is taken_is few = kept_counted end own still.inside.keeps given_is taken_is few
plays_counted end own other (left shut keeps) given_is taken_is few = elim keeps [
  | inl kept ↦ kept_counted end own kept given_is taken_is few
  | inr new ↦ made_anew shut new.given new.taken
]

-- what was taken is a beginning of what was given, and each item given has a PDU
some_few : SafeLaws → (own other : EndFlow) (end : EndState) → InOrder own other → own.given ≡ end.given → own.taken ≡ end.taken → length own.given ≤ length own.flow → length other.given ≤ length other.flow → IsFew end
some_few law own other end order given_is taken_is few other_few =
    let first = law.beginning other own order.back
    in let given : length own.given ≡ length end.given = ap (λ (items : List (List ℕ)). length items) given_is
    in let taken : length own.taken ≡ length end.taken = ap (λ (items : List (List ℕ)). length items) taken_is
    in let both : length other.given ≡ length own.taken + length first.0 = ap (λ (items : List (List ℕ)). length items) first.1 ∙ length-append own.taken first.0
    in record {
      given = omega (arith, given, few, order.there.counts.fits);
      taken = omega (arith, taken, both, other_few, order.back.counts.fits);
    }

together_few : SafeLaws → (names : Names) (ends : Ends) → AreTogether names ends → IsFew ends.client × IsFew ends.server
together_few law names ends is = (
  some_few law is.client is.server ends.client is.order is.client_given is.client_taken is.client_few is.server_few,
  some_few law is.server is.client ends.server (law.swapped is.client is.server is.order) is.server_given is.server_taken is.server_few is.client_few,
)

-- in a connection that is the last of both ends, they are together
of_both : (names : Names) (ends : Ends) (connection : ℕ) → Ordered names ends → ends.client.connection ≡ Some connection → ends.server.connection ≡ Some connection → AreTogether names ends
of_both names ends connection (unbegun is) of_client of_server = absurd (not_none connection (sym is ∙ of_client))
of_both names ends connection (alone is) of_client of_server =
    absurd (is.not_of_server (of_server ∙ ap (λ (c : ℕ). Some c) (same_Some connection is.connection (sym of_client ∙ is.of_client))))
of_both names ends connection (together is) of_client of_server = is

pub ordered_few : SafeLaws → (names : Names) (ends : Ends) → Ordered names ends → AreFew ends
ordered_few law names ends ordered connection of_client of_server = together_few law names ends (of_both names ends connection ordered of_client of_server)

pub ordered_counted : SafeLaws → (names : Names) (ends : Ends) → Ordered names ends → AreCounted ends
ordered_counted law names ends ordered connection of_client of_server =
    let is = of_both names ends connection ordered of_client of_server
    in let few = together_few law names ends is
    in (
      plays_counted ends.client is.client is.server is.client_plays is.client_given is.client_taken few.0,
      plays_counted ends.server is.server is.client is.server_plays is.server_given is.server_taken few.1,
    )

-- a client alone in its connection counts none
counts_none : (end : EndState) → end.link.given ≡ 0 → end.link.taken ≡ 0 → CountsNone end
counts_none end given taken = record { given = given; taken = taken; confirmed = omega (arith, given) }

kept_none : (end : EndState) (client : EndFlow) → IsEarly client → Keeps end.link client → CountsNone end
kept_none end client early keeps =
    counts_none end (keeps.given ∙ ap (λ (items : List (List ℕ)). stops_at_greatest (length items)) early.given)
    (keeps.taken ∙ ap (λ (items : List (List ℕ)). stops_at_greatest (length items)) early.taken)

early_counted : (end : EndState) (client : EndFlow) → IsEarly client → PlaysEarly end.link client → CountsNone end
early_counted end client early (asks inside waits) = kept_none end client early inside.keeps
early_counted end client early (gone shut keeps) = elim keeps [
  | inl kept ↦ kept_none end client early kept
  | inr new ↦ counts_none end new.given new.taken
]

pub alone_counted : (names : Names) (ends : Ends) → Ordered names ends → IsCountedAlone ends
alone_counted names ends (unbegun is) connection of_client before = absurd (not_none connection (sym is ∙ of_client))
alone_counted names ends (alone is) connection of_client before = early_counted ends.client is.client is.early is.plays
alone_counted names ends (together is) connection of_client before =
    absurd (before (is.of_server ∙ ap (λ (c : ℕ). Some c) (same_Some is.connection connection (sym is.of_client ∙ of_client))))

pub ordered_safe : SafeLaws → (names : Names) (ends : Ends) → Ordered names ends → AreSafe ends
ordered_safe law names ends ordered connection of_client of_server = (there, back)
  where
    is : AreTogether names ends
    is = of_both names ends connection ordered of_client of_server

    there : IsSafe ends.client ends.server
    there =
        let first = law.beginning is.client is.server is.order.there
        in record {
          rest = first.0;
          beginning = sym is.client_given ∙ first.1 ∙ ap (λ (taken : List (List ℕ)). taken ++ first.0) is.server_taken;
          confirmed = subst (λ (taken : List (List ℕ)). confirmed_items ends.client.link ≤ length taken) is.server_taken (law.confirmed ends.client.link is.client is.server is.order is.client_plays);
        }

    back : IsSafe ends.server ends.client
    back =
        let first = law.beginning is.server is.client is.order.back
        in record {
          rest = first.0;
          beginning = sym is.server_given ∙ first.1 ∙ ap (λ (taken : List (List ℕ)). taken ++ first.0) is.client_taken;
          confirmed = subst (λ (taken : List (List ℕ)). confirmed_items ends.server.link ≤ length taken) is.client_taken
              (law.confirmed ends.server.link is.server is.client (law.swapped is.client is.server is.order) is.server_plays);
        }
