-- A client at work that asks when a round begins, and has joined when it ends: what it says in it goes on in its numbers.
use Rattle.rasta_core_recovery.proofs.Words.Basics.{◌≡◌, ℕ, ◌+◌, inl, inr, true, false, List, [], ◌∷◌, refl, sym, ap}
use Rattle.rasta_core_recovery.proofs.Words.Links.{LinkState, is_open, is_asking, settled, header_of, Header, Role, Pdu}
use Rattle.rasta_core_recovery.proofs.Lemmas.Rounds.Links.{Pair, heard}
use Rattle.rasta_core_recovery.proofs.Lemmas.Rounds.Acts.{Act, acted, IsWork, HasRoom, Roomy, WorkRound, server_step, behind}
use Rattle.rasta_core_recovery.proofs.Lemmas.Rounds.Calls.{at_reading}
use Rattle.rasta_core_recovery.proofs.Lemmas.Rounds.Words.{IsSimple, Says, Row, voice_of, IsNumbered}
use Rattle.rasta_core_recovery.proofs.Lemmas.Rounds.Fold.{Next, gone_next, stays_next}
use Rattle.rasta_core_recovery.proofs.Lemmas.Rounds.Own.{Utters, Calm}
use Rattle.rasta_core_recovery.proofs.Lemmas.AtWork.WorkFold.{Done, gone_done, so_done, round_through}
use Rattle.rasta_core_recovery.proofs.Lemmas.Rounds.Course.{Joined}
use Rattle.rasta_core_recovery.proofs.Lemmas.Rounds.Turn.{Numbers}
use Rattle.rasta_core_recovery.proofs.Lemmas.Asking.Asks.{Asks, InIt, in_lively, asks_asking, reading_asks}
use Rattle.rasta_core_recovery.proofs.Lemmas.ComingUp.Joins.{Joins, of_rowed, joins_none, joins_then, joins_step}
use Rattle.rasta_core_recovery.proofs.Lemmas.ComingUp.Seen.{BothIn, Rows}
use Rattle.rasta_core_recovery.proofs.Lemmas.AtWork.WorkTurn.{utters_joined, utters_goes, utters_row}
use Rattle.rasta_core_recovery.proofs.Lemmas.AtWork.WorkTalk.{still_in, server_numbers}
use Rattle.rasta_core_recovery.proofs.Lemmas.AtWork.WorkAsks.{utters_asks, utters_none_then, utters_in_it}

pub says_none : (h : Header) (n end : ℕ) (ps : List Pdu) → ps ≡ [] → Says IsSimple h n ps end → end ≡ n
says_none h n end [] e s = sym s
says_none h n end (p ∷ ps) e s = absurd (cc e)

-- what it is given goes on in its numbers, too
utters_joins : (now : ℕ) (l k : LinkState) (qs : List Pdu) → InIt now l → Utters l k qs → Joins 0 l qs 0 k
utters_joins now l k qs (inl is) u = of_rowed now l k qs is (utters_joined now l k qs is u) (record { goes = utters_goes now l k qs is.clock u; row = utters_row l k qs u })
utters_joins now l k qs (inr is) u = let none = utters_none_then now l k qs is u in record {
  asks = λ e. (asks_asking now l is, none, says_none (header_of l) l.sent k.sent qs none u.says);
  row = λ e. absurd (cc (e, asks_asking now k (utters_asks now l k qs is u)));
  voice = λ e. absurd (cc (e, asks_asking now l is));
}

joins_row_at_work : (now : ℕ) (due : List Pdu) (acts : List Act) (l : LinkState) → IsWork Role.Client due acts → Asks l.clock l → now ≡ l.clock + 10 → Roomy now acts (settled now l)
    → is_open (acted now acts l).link.phase ≡ true → is_asking (acted now acts l).link ≡ false → Row (IsNumbered (voice_of (acted now acts l).link)) l.sent (acted now acts l).pdus (acted now acts l).link.sent
joins_row_at_work now due acts l work is at room is_in joined = finish (round_through (Unit {0}) ℕ now (λ g ps k. InIt now k) Joins (λ g k. joins_none g k) joins_then (λ g ps k in_it. in_lively now k in_it) hear own
    Role.Client due acts work 0 l tt at (ap is_open is.starts) is.young (λ young. inr (reading_asks now l is at young)) room)
  where
    hear : (g : ℕ) (p : Pdu) (ps : List Pdu) (k : LinkState) → InIt now k → HasRoom k → Done (Unit {0}) ℕ now (λ g ps j. InIt now j) Joins g k ps (heard now p k)
    hear g p ps k in_it roomy = either (joins_step now g p ps k in_it)
      where
        either : Next ℕ now (λ g ps j. InIt now j) Joins g k ps (heard now p k) → Done (Unit {0}) ℕ now (λ g ps j. InIt now j) Joins g k ps (heard now p k)
        either (gone_next left) = gone_done tt left
        either (stays_next h a o) = so_done h a o

    own : (g : ℕ) (ps : List Pdu) (k j : LinkState) (qs : List Pdu) → InIt now k → Utters k j qs → InIt now j × Joins g k qs g j
    own g ps k j qs in_it u = let o = utters_joins now k j qs in_it u in ((utters_in_it now k j qs in_it u).0, record { asks = o.asks; row = o.row; voice = o.voice })

    finish : Done (Unit {0}) ℕ now (λ g ps k. InIt now k × Calm now k) Joins 0 (at_reading now l) [] (acted now acts l) → Row (IsNumbered (voice_of (acted now acts l).link)) l.sent (acted now acts l).pdus (acted now acts l).link.sent
    finish (gone_done why left) = absurd (cc (left.is_out, is_in))
    finish (so_done h (a, calm) o) = o.row joined

pub rows_joining_at_work : (p : Pair) (r : WorkRound p) → Asks p.client.clock p.client → Joined p.server.clock p.server → is_asking (behind p r).client ≡ false → BothIn (behind p r) → Rows p (behind p r)
rows_joining_at_work p r c s joined then_in = record {
  joined = joined;
  client = joins_row_at_work (p.client.clock + 10) p.to_client r.client_acts p.client r.client_work c refl r.client_room then_in.client joined;
  server = (still_in (p.server.clock + 10) (server_step p r).link (Numbers (p.server.clock + 10) p.server (server_step p r)) then_in.server (server_numbers p r s)).row;
}
