-- What a round sends: datagrams of its own time, not lost, and short.
use Rattle.std.proofs.Common.{◌≡◌, ℕ, ◌∙◌, ◌≤◌, false, List, [], ◌∷◌, ◌++◌, append_assoc, append-nil, length, Option, refl, sym, ap, subst}
use Rattle.rasta_core_spec.specs.Outbox.{spellings}
use Rattle.rasta_core_spec.specs.Spelling.{writing}
use Rattle.rasta_core_spec.specs.Values.{IsPdu}
use Rattle.rasta_core_spec.specs.identity.Role.{Role}
use Rattle.rasta_core_spec.specs.identity.Role.TheVariants as role
use Rattle.rasta_core_spec.specs.key.Key.{Key}
use Rattle.rasta_core_spec.specs.pdu.Pdu.{Pdu}
use Rattle.rasta_core_spec.specs.Each.{Each}
use Rattle.rasta_core_spec.specs.Ends.{Sent, Call, outcome, end_after, handed_out}
use Rattle.rasta_core_spec.specs.Run.{Ends, end_of, with_end, called}
use Rattle.rasta_core_spec.specs.Events.{MayCall}
use Rattle.rasta_core_spec.specs.Names.{Names}
use Rattle.rasta_core.specs.Invariant.{Timely}
use Rattle.simulator_pair.specs.Theorem.{names}

abbrev pub HandsOut : Type 0
HandsOut = (names : Names) (ends : Ends) (who : Role) (call : Call) → Timely names ends → MayCall names who call ends → Each IsPdu (outcome call ends.moment (end_of who ends)).pdus

abbrev pub WrittenIsShort : Type 0
WrittenIsShort = (key : Key) (pdu : Pdu) → IsPdu pdu → length (writing key pdu) ≤ 225

-- sent at this time, not lost, and short
pub record IsFresh (time : ℕ) (d : Sent) : Type 0 where
  pub at : d.at ≡ time
  pub there : d.is_lost ≡ false
  pub short : length d.bytes ≤ 225

-- from some ends to others at one time, with what was sent
pub record Adds (a b : Ends) : Type 0 where
  pub time : b.time ≡ a.time
  pub client_clock : b.client.clock ≡ a.client.clock
  pub server_clock : b.server.clock ≡ a.server.clock
  pub more : List Sent
  pub sent : b.sent ≡ a.sent ++ more
  pub fresh : Each (IsFresh a.time) more

pub adds_none : (a : Ends) → Adds a a
adds_none a = record { time = refl; client_clock = refl; server_clock = refl; more = []; sent = sym (append-nil a.sent); fresh = tt }

pub each_append : {X : Type 0} (P : X → Type 0) (xs ys : List X) → Each P xs → Each P ys → Each P (xs ++ ys)
each_append P [] ys a b = b
each_append P (x ∷ xs) ys a b = (a.0, each_append P xs ys a.1 b)

pub adds_then : (a b c : Ends) → Adds a b → Adds b c → Adds a c
adds_then a b c x y = record {
  time = y.time ∙ x.time;
  client_clock = y.client_clock ∙ x.client_clock;
  server_clock = y.server_clock ∙ x.server_clock;
  more = x.more ++ y.more;
  sent = y.sent ∙ ap (λ (s : List Sent). s ++ y.more) x.sent ∙ append_assoc a.sent x.more y.more;
  fresh = each_append (IsFresh a.time) x.more y.more x.fresh (subst (λ (t : ℕ). Each (IsFresh t) y.more) x.time y.fresh);
}

spelled_fresh : WrittenIsShort → (time : ℕ) (who : Role) (connection : Option ℕ) (key : Key) (pdus : List Pdu) → Each IsPdu pdus → Each (IsFresh time) (handed_out time who connection (spellings key pdus))
spelled_fresh short time who connection key [] each = tt
spelled_fresh short time who connection key (p ∷ pdus) each = (record { at = refl; there = refl; short = short key p each.0 }, spelled_fresh short time who connection key pdus each.1)

pub called_adds : HandsOut → WrittenIsShort → (who : Role) (call : Call) (ends : Ends) → Timely names ends → MayCall names who call ends → Adds ends (called who call ends)
unfolding called end_after
called_adds hands short who call ends is may = record {
  time = (same who).0;
  client_clock = (same who).1;
  server_clock = (same who).2;
  more = handed_out ends.time who (end_after (outcome call ends.moment (end_of who ends)) ends.moment (end_of who ends)).connection (spellings (end_of who ends).link.identity.key (outcome call ends.moment (end_of who ends)).pdus);
  sent = refl;
  fresh = spelled_fresh short ends.time who (end_after (outcome call ends.moment (end_of who ends)) ends.moment (end_of who ends)).connection (end_of who ends).link.identity.key (outcome call ends.moment (end_of who ends)).pdus (hands names ends who call is may);
}
  where
    after : (w : Role) → Ends
    after w = with_end w (end_after (outcome call ends.moment (end_of w ends)) ends.moment (end_of w ends)) ends

    same : (w : Role) → ((after w).time ≡ ends.time) × ((after w).client.clock ≡ ends.client.clock) × ((after w).server.clock ≡ ends.server.clock)
    same role.Client = (refl, refl, refl)
    same role.Server = (refl, refl, refl)
