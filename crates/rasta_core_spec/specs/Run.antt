-- What happens to two ends and the datagrams between them, one event after another.
use Rattle.std.specs.Prelude.{ℕ, ◌+◌, List, ◌++◌, length}
use Rattle.rasta_core_link.specs.Outbox.{spellings}
use Rattle.rasta_core_link.specs.declared.identity.Role.{Role}
use Rattle.rasta_core_link.specs.declared.identity.Role.TheVariants as role
use Rattle.rasta_core_spec.specs.Ends.{Sent, EndState, Call, outcome, end_after, handed_out, end_later, end_restarted}
use Rattle.rasta_core_spec.specs.Bag.{without_oldest}

pub record Ends : Type 0 where
  -- true time, in microseconds
  pub time : ℕ
  pub client : EndState
  pub server : EndState
  -- every datagram that the two ends sent, oldest first; those not lost are the bag
  pub sent : List Sent
  -- how many datagrams were sent in the whole run, of which these may be a part
  pub moment : ℕ

abbrev pub end_of : Role → Ends → EndState
end_of role.Client ends = ends.client
end_of role.Server ends = ends.server

abbrev pub with_end : Role → EndState → Ends → Ends
with_end role.Client end ends = record ends { client = end }
with_end role.Server end ends = record ends { server = end }

-- a call at one end: what it hands out is sent at this moment, and the other end stays
unfoldable pub called : Role → Call → Ends → Ends
called who call ends =
    let old = end_of who ends
    in let made = outcome call ends.moment old
    in let new = end_after made ends.moment old
    in record (with_end who new ends) {
      sent = ends.sent ++ handed_out ends.time who new.connection (spellings old.link.identity.key made.pdus);
      moment = ends.moment + length made.pdus;
    }

-- time goes on by so many microseconds, and the clock of each end by its own
unfoldable pub later : ℕ → ℕ → ℕ → Ends → Ends
later elapsed of_client of_server ends = record ends {
  time = ends.time + elapsed;
  client = end_later of_client ends.moment ends.client;
  server = end_later of_server ends.moment ends.server;
}

unfoldable pub lost : List ℕ → Ends → Ends
lost bytes ends = record ends { sent = without_oldest bytes ends.sent }

unfoldable pub restarted : Role → ℕ → ℕ → Ends → Ends
restarted who clock first_sequence_number ends =
    with_end who (end_restarted clock first_sequence_number ends.moment (end_of who ends)) ends
