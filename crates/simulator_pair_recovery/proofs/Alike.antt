-- Two ends are alike where they differ in nothing that an end sees: so they go on alike.
use Rattle.std.proofs.Common.{◌≡◌, ℕ, ◌+◌, List, [], ◌∷◌, ◌++◌, Option, refl, ap, subst}
use Rattle.rasta_core_spec.specs.State.{LinkState}
use Rattle.rasta_core_spec.specs.Clock.{settled}
use Rattle.rasta_core_spec.specs.Outbox.{spellings}
use Rattle.rasta_core_spec.specs.Calls.{ticking, opening, receiving}
use Rattle.rasta_core_spec.specs.identity.Role.{Role}
use Rattle.rasta_core_spec.specs.identity.Role.TheVariants as role
use Rattle.rasta_core_spec.specs.pdu.Pdu.{Pdu}
use Rattle.rasta_core_spec.specs.Ends.{Sent, EndState, Call, Ticks, Opens, Receives, outcome, end_after, end_later, handed_out, reading_of}
use Rattle.rasta_core_spec.specs.Run.{Ends, called, later}

-- two datagrams, but for their connections
pub record AlikeSent (d e : Sent) : Type 0 where
  pub bytes : d.bytes ≡ e.bytes
  pub at : d.at ≡ e.at
  pub sender : d.sender ≡ e.sender
  pub is_lost : d.is_lost ≡ e.is_lost

abbrev pub AllAlike : List Sent → List Sent → Type 0
AllAlike [] [] = Unit {0}
AllAlike [] (e ∷ es) = ⊥
AllAlike (d ∷ ds) [] = ⊥
AllAlike (d ∷ ds) (e ∷ es) = AlikeSent d e × AllAlike ds es

pub all_same : (ds : List Sent) → AllAlike ds ds
all_same [] = tt
all_same (d ∷ ds) = (record { bytes = refl; at = refl; sender = refl; is_lost = refl }, all_same ds)

pub all_append : (ds es fs gs : List Sent) → AllAlike ds es → AllAlike fs gs → AllAlike (ds ++ fs) (es ++ gs)
all_append [] [] fs gs a b = b
all_append [] (e ∷ es) fs gs a b = absurd a
all_append (d ∷ ds) [] fs gs a b = absurd a
all_append (d ∷ ds) (e ∷ es) fs gs a b = (a.0, all_append ds es fs gs a.1 b)

pub record AlikeEnd (a b : EndState) : Type 0 where
  pub link : a.link ≡ b.link
  pub clock : a.clock ≡ b.clock

pub record Alike (a b : Ends) : Type 0 where
  pub time : a.time ≡ b.time
  pub client : AlikeEnd a.client b.client
  pub server : AlikeEnd a.server b.server
  pub sent : AllAlike a.sent b.sent

pub alike_same : (a : Ends) → Alike a a
alike_same a = record { time = refl; client = record { link = refl; clock = refl }; server = record { link = refl; clock = refl }; sent = all_same a.sent }

-- calls that an end can't tell apart
pub data SameCall : Call → Call → Type 0 where
  ticks : SameCall Ticks Ticks
  opens : SameCall Opens Opens
  receives : (bytes other : List ℕ) (connection number : ℕ) → bytes ≡ other → SameCall (Receives bytes connection) (Receives other number)

outcome_alike : (c d : Call) (m n : ℕ) (a b : EndState) → SameCall c d → AlikeEnd a b → ((outcome c m a).link ≡ (outcome d n b).link) × ((outcome c m a).pdus ≡ (outcome d n b).pdus)
unfolding outcome
outcome_alike _ _ m n a b ticks is = (two (λ (k : ℕ) (l : LinkState). (ticking k l).link) (ap reading_of is.clock) is.link, two (λ (k : ℕ) (l : LinkState). (ticking k l).pdus) (ap reading_of is.clock) is.link)
  where
    two : {A : Type 0} (f : ℕ → LinkState → A) → {i j : ℕ} {k l : LinkState} → i ≡ j → k ≡ l → f i k ≡ f j l
    two f e g = cc
outcome_alike _ _ m n a b opens is = (two (λ (k : ℕ) (l : LinkState). (opening k l).link) (ap reading_of is.clock) is.link, two (λ (k : ℕ) (l : LinkState). (opening k l).pdus) (ap reading_of is.clock) is.link)
  where
    two : {A : Type 0} (f : ℕ → LinkState → A) → {i j : ℕ} {k l : LinkState} → i ≡ j → k ≡ l → f i k ≡ f j l
    two f e g = cc
outcome_alike _ _ m n a b (receives bytes other connection number same) is =
    (three (λ (k : ℕ) (bs : List ℕ) (l : LinkState). (receiving k bs l).link) (ap reading_of is.clock) same is.link, three (λ (k : ℕ) (bs : List ℕ) (l : LinkState). (receiving k bs l).pdus) (ap reading_of is.clock) same is.link)
  where
    three : {A : Type 0} (f : ℕ → List ℕ → LinkState → A) → {i j : ℕ} {x y : List ℕ} {k l : LinkState} → i ≡ j → x ≡ y → k ≡ l → f i x k ≡ f j y l
    three f e h g = cc

handed_alike : (t u : ℕ) (who : Role) (c d : Option ℕ) (xs ys : List (List ℕ)) → t ≡ u → xs ≡ ys → AllAlike (handed_out t who c xs) (handed_out u who d ys)
handed_alike t u who c d xs ys e f = subst (λ (zs : List (List ℕ)). AllAlike (handed_out t who c xs) (handed_out u who d zs)) f (each xs)
  where
    each : (zs : List (List ℕ)) → AllAlike (handed_out t who c zs) (handed_out u who d zs)
    each [] = tt
    each (z ∷ zs) = (record { bytes = refl; at = e; sender = refl; is_lost = refl }, each zs)

pub called_alike : (who : Role) (c d : Call) (a b : Ends) → SameCall c d → Alike a b → Alike (called who c a) (called who d b)
unfolding called end_after
called_alike role.Client c d a b same is =
    let o = outcome_alike c d a.moment b.moment a.client b.client same is.client in record {
      time = is.time;
      client = record { link = o.0; clock = is.client.clock };
      server = is.server;
      sent = all_append a.sent b.sent _ _ is.sent (handed_alike a.time b.time role.Client (end_after (outcome c a.moment a.client) a.moment a.client).connection (end_after (outcome d b.moment b.client) b.moment b.client).connection (spellings a.client.link.identity.key (outcome c a.moment a.client).pdus) (spellings b.client.link.identity.key (outcome d b.moment b.client).pdus) is.time
          (two is.client.link o.1));
    }
  where
    two : {k l : LinkState} {ps qs : List Pdu} → k ≡ l → ps ≡ qs → spellings k.identity.key ps ≡ spellings l.identity.key qs
    two e f = cc
called_alike role.Server c d a b same is =
    let o = outcome_alike c d a.moment b.moment a.server b.server same is.server in record {
      time = is.time;
      client = is.client;
      server = record { link = o.0; clock = is.server.clock };
      sent = all_append a.sent b.sent _ _ is.sent (handed_alike a.time b.time role.Server (end_after (outcome c a.moment a.server) a.moment a.server).connection (end_after (outcome d b.moment b.server) b.moment b.server).connection (spellings a.server.link.identity.key (outcome c a.moment a.server).pdus) (spellings b.server.link.identity.key (outcome d b.moment b.server).pdus) is.time
          (two is.server.link o.1));
    }
  where
    two : {k l : LinkState} {ps qs : List Pdu} → k ≡ l → ps ≡ qs → spellings k.identity.key ps ≡ spellings l.identity.key qs
    two e f = cc

end_later_alike : (elapsed m n : ℕ) (a b : EndState) → AlikeEnd a b → AlikeEnd (end_later elapsed m a) (end_later elapsed n b)
unfolding end_later
end_later_alike elapsed m n a b is = record { link = two is.clock is.link; clock = ap (λ (c : ℕ). c + elapsed) is.clock }
  where
    two : {i j : ℕ} {k l : LinkState} → i ≡ j → k ≡ l → settled (reading_of (i + elapsed)) k ≡ settled (reading_of (j + elapsed)) l
    two e g = cc

pub later_alike : (elapsed of_client of_server : ℕ) (a b : Ends) → Alike a b → Alike (later elapsed of_client of_server a) (later elapsed of_client of_server b)
unfolding later
later_alike elapsed of_client of_server a b is = record {
  time = ap (λ (t : ℕ). t + elapsed) is.time;
  client = end_later_alike of_client a.moment b.moment a.client b.client is.client;
  server = end_later_alike of_server a.moment b.moment a.server b.server is.server;
  sent = is.sent;
}
