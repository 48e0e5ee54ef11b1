-- From what a call does at one end to the exact order of both after it.
use Rattle.std.proofs.Common.{◌≡◌, ℕ, ◌+◌, List, [], ◌++◌, length, Option, Some, None, refl, sym, ap, ◌∙◌}
use Rattle.rasta_core_spec.specs.Outbox.{spellings}
use Rattle.rasta_core_spec.specs.identity.Role.{Role}
use Rattle.rasta_core_spec.specs.identity.Role.TheVariants as role
use Rattle.rasta_core_spec.specs.Ends.{Sent, Outcome, end_after, handed_out, newer, kept}
use Rattle.rasta_core_spec.specs.Run.{Ends, end_of, with_end}
use Rattle.rasta_core.specs.LinkAndFlow.{GoesOn}
use Rattle.rasta_core.specs.FirstPdus.{EarlyGoesOn, Asks, Grants}
use Rattle.rasta_core_spec.specs.Each.{Each}
use Rattle.rasta_core_spec.specs.Names.{Names}
use Rattle.rasta_core_spec.specs.Values.{IsPdu}
use Rattle.caught_up_laws.specs.Exact.{AreTogether, IsAlone}
use Rattle.caught_up_laws.specs.inside.Laws.{Laws}
use Rattle.caught_up_laws.proofs.Lists.{flow_kept, flow_longer, none_sent}

-- the two ends after a call that did this at one
abbrev pub made_at : Role → Outcome → Ends → Ends
made_at who made ends =
    let new = end_after made ends.moment (end_of who ends)
    in record (with_end who new ends) {
      sent = ends.sent ++ handed_out ends.time who new.connection (spellings (end_of who ends).link.identity.key made.pdus);
      moment = ends.moment + length made.pdus;
    }

-- an end that enters nothing keeps its connection and its lists
same_lists : (enters : Option ℕ) (old new more : List (List ℕ)) (part : List (List ℕ)) → enters ≡ None → part ≡ old → new ≡ part ++ more → new ≡ kept enters old ++ more
same_lists enters old new more part none is grown = grown ∙ ap (λ front. front ++ more) is ∙ ap (λ e. kept e old ++ more) (sym none)

module _ (law : Laws) (names : Names) (ends : Ends) (made : Outcome) (none : made.enters ≡ None) (are : Each IsPdu made.pdus) where
  pub client_together : (is : AreTogether names ends) → ends.client.link.identity.key ≡ names.key → GoesOn is.client is.server made.link made.pdus made.given made.taken
      → AreTogether names (made_at role.Client made ends)
  unfolding end_after
  client_together is key goes = record {
    connection = is.connection;
    client = goes.part;
    server = is.server;
    of_client = ap (λ enters. newer enters ends.client.connection) none ∙ is.of_client;
    of_server = is.of_server;
    order = goes.order;
    client_plays = goes.plays;
    server_plays = law.partner_plays ends.server.link is.server is.client goes.part _ is.server_plays goes.first goes.flow;
    client_given = same_lists made.enters ends.client.given goes.part.given made.given is.client.given none is.client_given goes.given;
    client_taken = same_lists made.enters ends.client.taken goes.part.taken made.taken is.client.taken none is.client_taken goes.taken;
    server_given = is.server_given;
    server_taken = is.server_taken;
    client_flow = flow_longer law.written names role.Client is.connection ends.time (newer made.enters ends.client.connection) ends.client.link.identity.key is.client.flow goes.part.flow made.pdus ends.sent (ap (λ enters. newer enters ends.client.connection) none ∙ is.of_client) key goes.flow are is.client_flow;
    server_flow = flow_kept names role.Server is.connection ends.time role.Client (newer made.enters ends.client.connection) is.server.flow (spellings ends.client.link.identity.key made.pdus) ends.sent refl is.server_flow;
  }

  pub server_together : (is : AreTogether names ends) → ends.server.link.identity.key ≡ names.key → GoesOn is.server is.client made.link made.pdus made.given made.taken
      → AreTogether names (made_at role.Server made ends)
  unfolding end_after
  server_together is key goes = record {
    connection = is.connection;
    client = is.client;
    server = goes.part;
    of_client = is.of_client;
    of_server = ap (λ enters. newer enters ends.server.connection) none ∙ is.of_server;
    order = law.swapped goes.part is.client goes.order;
    client_plays = law.partner_plays ends.client.link is.client is.server goes.part _ is.client_plays goes.first goes.flow;
    server_plays = goes.plays;
    client_given = is.client_given;
    client_taken = is.client_taken;
    server_given = same_lists made.enters ends.server.given goes.part.given made.given is.server.given none is.server_given goes.given;
    server_taken = same_lists made.enters ends.server.taken goes.part.taken made.taken is.server.taken none is.server_taken goes.taken;
    client_flow = flow_kept names role.Client is.connection ends.time role.Server (newer made.enters ends.server.connection) is.client.flow (spellings ends.server.link.identity.key made.pdus) ends.sent refl is.client_flow;
    server_flow = flow_longer law.written names role.Server is.connection ends.time (newer made.enters ends.server.connection) ends.server.link.identity.key is.server.flow goes.part.flow made.pdus ends.sent (ap (λ enters. newer enters ends.server.connection) none ∙ is.of_server) key goes.flow are is.server_flow;
  }

  pub client_alone : (is : IsAlone names ends) → ends.client.link.identity.key ≡ names.key → EarlyGoesOn is.client made.link made.pdus
      → IsAlone names (made_at role.Client made ends)
  unfolding end_after
  client_alone is key goes = record {
    connection = is.connection;
    client = goes.part;
    of_client = ap (λ enters. newer enters ends.client.connection) none ∙ is.of_client;
    not_of_server = is.not_of_server;
    early = goes.early;
    plays = goes.plays;
    flow = flow_longer law.written names role.Client is.connection ends.time (newer made.enters ends.client.connection) ends.client.link.identity.key is.client.flow goes.part.flow made.pdus ends.sent (ap (λ enters. newer enters ends.client.connection) none ∙ is.of_client) key goes.flow are is.flow;
  }

-- a server that does nothing leaves the client alone
pub server_rests : (names : Names) (ends : Ends) (made : Outcome) → made.enters ≡ None → made.pdus ≡ [] → IsAlone names ends → IsAlone names (made_at role.Server made ends)
unfolding end_after
server_rests names ends made none silent is = record {
  connection = is.connection;
  client = is.client;
  of_client = is.of_client;
  not_of_server = λ e. is.not_of_server (ap (λ enters. newer enters ends.server.connection) (sym none) ∙ e);
  early = is.early;
  plays = is.plays;
  flow = flow_kept names role.Client is.connection ends.time role.Server (newer made.enters ends.server.connection) is.client.flow (spellings ends.server.link.identity.key made.pdus) ends.sent refl is.flow;
}

-- a client asks
pub client_asked : Laws → (names : Names) (ends : Ends) (made : Outcome) (connection : ℕ) → made.enters ≡ Some connection → Each IsPdu made.pdus → ends.client.link.identity.key ≡ names.key
    → (ends.server.connection ≡ Some connection → ⊥) → Each (λ (d : Sent). d.connection ≡ connection → d.sender ≡ role.Client → ⊥) ends.sent
    → Asks made.link made.pdus → IsAlone names (made_at role.Client made ends)
unfolding end_after
client_asked law names ends made connection enters are key not_server none asks = record {
  connection = connection;
  client = asks.part;
  of_client = ap (λ entered. newer entered ends.client.connection) enters;
  not_of_server = not_server;
  early = asks.early;
  plays = asks.plays;
  flow = flow_longer law.written names role.Client connection ends.time (newer made.enters ends.client.connection) ends.client.link.identity.key [] asks.part.flow made.pdus ends.sent (ap (λ entered. newer entered ends.client.connection) enters) key asks.flow are
      (none_sent names role.Client connection ends.sent none);
}

-- a server grants
pub server_granted : Laws → (names : Names) (ends : Ends) (made : Outcome) (is : IsAlone names ends) → made.enters ≡ Some is.connection → Each IsPdu made.pdus
    → ends.server.link.identity.key ≡ names.key → (ends.client.given ≡ []) × (ends.client.taken ≡ []) → made.given ≡ [] → made.taken ≡ [] → Each (λ (d : Sent). d.connection ≡ is.connection → d.sender ≡ role.Server → ⊥) ends.sent
    → Grants is.client made.link made.pdus → AreTogether names (made_at role.Server made ends)
unfolding end_after
server_granted law names ends made is enters are key empty no_given no_taken none grants = record {
  connection = is.connection;
  client = is.client;
  server = grants.part;
  of_client = is.of_client;
  of_server = ap (λ entered. newer entered ends.server.connection) enters;
  order = law.swapped grants.part is.client grants.order;
  client_plays = law.early_plays ends.client.link is.client grants.part is.early is.plays grants.first;
  server_plays = grants.plays;
  client_given = is.early.given ∙ sym empty.0;
  client_taken = is.early.taken ∙ sym empty.1;
  server_given = grants.given ∙ sym (nothing made.enters ends.server.given made.given enters no_given);
  server_taken = grants.taken ∙ sym (nothing made.enters ends.server.taken made.taken enters no_taken);
  client_flow = flow_kept names role.Client is.connection ends.time role.Server (newer made.enters ends.server.connection) is.client.flow (spellings ends.server.link.identity.key made.pdus) ends.sent refl is.flow;
  server_flow = flow_longer law.written names role.Server is.connection ends.time (newer made.enters ends.server.connection) ends.server.link.identity.key [] grants.part.flow made.pdus ends.sent (ap (λ entered. newer entered ends.server.connection) enters) key grants.flow are
      (none_sent names role.Server is.connection ends.sent none);
}
  where
    nothing : (entered : Option ℕ) (old more : List (List ℕ)) → entered ≡ Some is.connection → more ≡ [] → kept entered old ++ more ≡ []
    nothing entered old more e m = ap (λ x. kept x old ++ more) e ∙ m
