-- What a receipt hands out goes on where the end that takes it stands.
use Rattle.simulator_recovery.proofs.Words.Basics.{◌≡◌, ◌⊎◌, inl, inr, ℕ, ◌∙◌, true, List, [], ◌∷◌, ◌++◌, append_assoc, Some, length, refl, sym, ap, suc-ne-zero, none-some}
use Rattle.simulator_recovery.proofs.Words.Links.{Role, receiving, Receives, end_after, outcome, reading_of, Calls, May, Timely, AreNames, Names, Ordered, alone, together, unbegun, Ends, called, end_of, is_open}
use Rattle.simulator_recovery.proofs.Words.Recovery.{GoOn, LawsBelow}

no_more : (one other : List (List ℕ)) → one ++ other ≡ [] → other ≡ []
no_more [] other e = e
no_more (first ∷ one) other e = absurd (suc-ne-zero (length (one ++ other)) (ap length e))

module _ (laws : LawsBelow) (names : Names) (are_names : AreNames names) (ends : Ends) (timely : Timely names ends) (ordered : Ordered names ends) (bytes : List ℕ) (connection : ℕ) where
  -- what an end that is inside hands out
  abbrev pub items_at : Role → List (List ℕ)
  items_at who = (receiving (reading_of (end_of who ends).clock) bytes (end_of who ends).link).items

  -- so it does in a connection that is the last of both ends
  pub record GoesOnInOne (items : List (List ℕ)) : Type 0 where
    pub last : ℕ
    pub of_client : ends.client.connection ≡ Some last
    pub of_server : ends.server.connection ≡ Some last
    pub on : GoOn Role.Client ends items

  pub of_client : May names (Calls Role.Client (Receives bytes connection)) ends → is_open ends.client.link.phase ≡ true → (items_at Role.Client ≡ []) ⊎ GoesOnInOne (items_at Role.Client)
  unfolding called outcome end_after
  of_client may opened = by_order (laws.every_event_keeps_order_kept names (Calls Role.Client (Receives bytes connection)) ends are_names timely ordered may)
    where
      after : Ends
      after = called Role.Client (Receives bytes connection) ends

      same : after.client.connection ≡ ends.client.connection
      same = rw opened refl

      taken_is : after.client.taken ≡ ends.client.taken ++ items_at Role.Client
      taken_is = rw opened refl

      by_order : Ordered names after → (items_at Role.Client ≡ []) ⊎ GoesOnInOne (items_at Role.Client)
      by_order (unbegun none) = let has = laws.one_connection_some names ends Role.Client timely opened in absurd (none-some has.0 (sym none ∙ same ∙ has.1))
      by_order (alone a) = inl (no_more ends.client.taken (items_at Role.Client) (sym taken_is ∙ a.taken))
      by_order (together t) = let safe = (laws.order_is_safe names after (together t) t.connection t.of_client t.of_server).1
          in inr (record {
            last = t.connection;
            of_client = sym same ∙ t.of_client;
            of_server = t.of_server;
            on = record { rest = safe.rest; are = safe.beginning ∙ ap (λ (list : List (List ℕ)). list ++ safe.rest) taken_is ∙ append_assoc ends.client.taken (items_at Role.Client) safe.rest };
          })

  of_server : May names (Calls Role.Server (Receives bytes connection)) ends → is_open ends.server.link.phase ≡ true → (items_at Role.Server ≡ []) ⊎ GoOn Role.Server ends (items_at Role.Server)
  unfolding called outcome end_after
  of_server may opened = by_order (laws.every_event_keeps_order_kept names (Calls Role.Server (Receives bytes connection)) ends are_names timely ordered may)
    where
      after : Ends
      after = called Role.Server (Receives bytes connection) ends

      same : after.server.connection ≡ ends.server.connection
      same = rw opened refl

      taken_is : after.server.taken ≡ ends.server.taken ++ items_at Role.Server
      taken_is = rw opened refl

      both : after.server.connection ≡ after.client.connection
      both = same ∙ laws.one_connection_server names ends timely opened

      by_order : Ordered names after → (items_at Role.Server ≡ []) ⊎ GoOn Role.Server ends (items_at Role.Server)
      by_order (unbegun none) = let has = laws.one_connection_some names ends Role.Server timely opened in absurd (none-some has.0 (sym none ∙ sym both ∙ same ∙ has.1))
      by_order (alone a) = absurd (a.not_of_server (both ∙ a.of_client))
      by_order (together t) = let safe = (laws.order_is_safe names after (together t) t.connection t.of_client t.of_server).0
          in inr (record { rest = safe.rest; are = safe.beginning ∙ ap (λ (list : List (List ℕ)). list ++ safe.rest) taken_is ∙ append_assoc ends.server.taken (items_at Role.Server) safe.rest })

  pub goes_on : (who : Role) → May names (Calls who (Receives bytes connection)) ends → is_open (end_of who ends).link.phase ≡ true → (items_at who ≡ []) ⊎ GoOn who ends (items_at who)
  goes_on Role.Client may opened = choose (of_client may opened)
    where
      choose : (items_at Role.Client ≡ []) ⊎ GoesOnInOne (items_at Role.Client) → (items_at Role.Client ≡ []) ⊎ GoOn Role.Client ends (items_at Role.Client)
      choose (inl none) = inl none
      choose (inr some) = inr some.on
  goes_on Role.Server may opened = of_server may opened
