-- What the code does around a call of an end is one step of the pair.
use Rattle.std.proofs.Common.{◌≡◌, ap, ◌∙◌, ℕ, ◌+◌, List, [], ◌++◌, length}
use Rattle.rasta_core.specs.Clock.{alive_until}
use Rattle.rasta_core.specs.Outbox.{OutboxState, posted, spellings}
use Rattle.rasta_core.specs.State.{LinkState}
use Rattle.rasta_core.specs.identity.Role.{Role}
use Rattle.rasta_core.specs.identity.Role.TheVariants.{Client, Server}
use Rattle.rasta_core.specs.Ends.{EndState, Sent, Call, Outcome, outcome, end_after, handed_out}
use Rattle.rasta_core.specs.Run.{called}
use Rattle.rasta_pdu.specs.declared.key.Key.{Key}
use Rattle.rasta_pdu.specs.declared.pdu.Pdu.{Pdu}
use Rattle.signal_ctl.specs.Lamp.{Lamp}
use Rattle.sci_telegram.specs.declared.message.Aspect.{Aspect}
use Rattle.simulator_pair.specs.Pair.{PairState, stepped, lamp_after, indicated_after, unless_closed}

-- what stands in an outbox that was empty
pub datagrams-posted : (key : Key) (pdus : List Pdu) (box after : OutboxState) → box.datagrams ≡ [] → after ≡ posted key pdus box → after.datagrams ≡ spellings key pdus
unfolding posted
datagrams-posted key pdus box after empty posted-is =
    ap (λ b. b.datagrams) posted-is ∙ ap (λ ds. ds ++ spellings key pdus) empty

-- the datagrams of an end after a call
sent-as : (time moment : ℕ) (who : Role) (sent sent' : List Sent) (end end' : EndState) (made : Outcome) (datagrams : List (List ℕ)) → end' ≡ end_after made moment end → datagrams ≡ spellings end.link.identity.key made.pdus → sent' ≡ sent ++ handed_out time who end'.connection datagrams → sent' ≡ sent ++ handed_out time who (end_after made moment end).connection (spellings end.link.identity.key made.pdus)
sent-as time moment who sent sent' end end' made datagrams end-is datagrams-is sent-is =
    sent-is
    ∙ ap (λ e. sent ++ handed_out time who e.connection datagrams) end-is
    ∙ ap (λ ds. sent ++ handed_out time who (end_after made moment end).connection ds) datagrams-is

pub client_step : (call : Call) (pair : PairState) (client : EndState) (sent : List Sent) (moment : ℕ) (datagrams : List (List ℕ)) →
    client ≡ end_after (outcome call pair.ends.moment pair.ends.client) pair.ends.moment pair.ends.client →
    datagrams ≡ spellings pair.ends.client.link.identity.key (outcome call pair.ends.moment pair.ends.client).pdus →
    sent ≡ pair.ends.sent ++ handed_out pair.ends.time Client client.connection datagrams →
    moment ≡ pair.ends.moment + length (outcome call pair.ends.moment pair.ends.client).pdus →
    (record { ends = record pair.ends { client = client; sent = sent; moment = moment }; lamp = pair.lamp }) ≡ stepped Client call pair
unfolding stepped called
client_step call pair client sent moment datagrams client-is datagrams-is sent-is moment-is =
    let made = outcome call pair.ends.moment pair.ends.client
    in let new = end_after made pair.ends.moment pair.ends.client
    in let new_sent = pair.ends.sent ++ handed_out pair.ends.time Client new.connection (spellings pair.ends.client.link.identity.key made.pdus)
    in let built : EndState → List Sent → ℕ → PairState = λ e s m. record { ends = record pair.ends { client = e; sent = s; moment = m }; lamp = pair.lamp }
    in ap (λ e. built e sent moment) client-is
    ∙ ap (λ s. built new s moment) (sent-as pair.ends.time pair.ends.moment Client pair.ends.sent sent pair.ends.client client made datagrams client-is datagrams-is sent-is)
    ∙ ap (λ m. built new new_sent m) moment-is

pub server_step : (call : Call) (pair : PairState) (server : EndState) (sent : List Sent) (moment : ℕ) (datagrams : List (List ℕ)) (lamp : Lamp) →
    server ≡ end_after (outcome call pair.ends.moment pair.ends.server) pair.ends.moment pair.ends.server →
    datagrams ≡ spellings pair.ends.server.link.identity.key (outcome call pair.ends.moment pair.ends.server).pdus →
    sent ≡ pair.ends.sent ++ handed_out pair.ends.time Server server.connection datagrams →
    moment ≡ pair.ends.moment + length (outcome call pair.ends.moment pair.ends.server).pdus →
    lamp ≡ lamp_after pair.ends.server.link (outcome call pair.ends.moment pair.ends.server).taken server.link pair.lamp →
    (record { ends = record pair.ends { server = server; sent = sent; moment = moment }; lamp = lamp }) ≡ stepped Server call pair
unfolding stepped called end_after
server_step call pair server sent moment datagrams lamp server-is datagrams-is sent-is moment-is lamp-is =
    let made = outcome call pair.ends.moment pair.ends.server
    in let new = end_after made pair.ends.moment pair.ends.server
    in let new_sent = pair.ends.sent ++ handed_out pair.ends.time Server new.connection (spellings pair.ends.server.link.identity.key made.pdus)
    in let built : EndState → List Sent → ℕ → Lamp → PairState = λ e s m l. record { ends = record pair.ends { server = e; sent = s; moment = m }; lamp = l }
    in ap (λ e. built e sent moment lamp) server-is
    ∙ ap (λ s. built new s moment lamp) (sent-as pair.ends.time pair.ends.moment Server pair.ends.sent sent pair.ends.server server made datagrams server-is datagrams-is sent-is)
    ∙ ap (λ m. built new new_sent m lamp) moment-is
    ∙ ap (λ l. built new new_sent (pair.ends.moment + length made.pdus) l) (lamp-is ∙ ap (λ e. lamp_after pair.ends.server.link made.taken e.link pair.lamp) server-is)

-- the lamp in the code's steps
pub lamp_in_steps : (old new : LinkState) (items : List (List ℕ)) (lamp first second third fourth : Lamp) (taken : List (List ℕ)) (until : ℕ) →
    first ≡ record lamp { indicated = unless_closed old lamp.indicated } →
    second ≡ record first { indicated = indicated_after items first.indicated } →
    third ≡ record second { indicated = unless_closed new second.indicated } →
    fourth ≡ record third { until = until } →
    until ≡ alive_until new →
    items ≡ taken →
    fourth ≡ lamp_after old taken new lamp
unfolding lamp_after
lamp_in_steps old new items lamp first second third fourth taken until first-is second-is third-is fourth-is until-is items-is =
    let lit : Aspect → ℕ → Lamp = λ aspect end. record { indicated = aspect; until = end }
    in let told : List (List ℕ) → Aspect = λ xs. unless_closed new (indicated_after xs (unless_closed old lamp.indicated))
    in fourth-is
    ∙ ap (λ (t : Lamp). lit t.indicated until) third-is
    ∙ ap (λ (s : Lamp). lit (unless_closed new s.indicated) until) second-is
    ∙ ap (λ (f : Lamp). lit (unless_closed new (indicated_after items f.indicated)) until) first-is
    ∙ ap (λ u. lit (told items) u) until-is
    ∙ ap (λ xs. lit (told xs) (alive_until new)) items-is
