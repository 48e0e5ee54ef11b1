-- What the last PDU of an end confirms its partner holds for confirmed after the round in which it comes, whichever of the two is the client.
use Rattle.rasta_core_recovery.proofs.Words.Basics.{◌≡◌, ℕ, ◌∙◌, ◌+◌, ◌^◌, ◌≤◌, ◌<◌, false, List, length, sym, ap, subst, arith}
use Rattle.rasta_core_recovery.proofs.Words.Links.{LinkState, confirmed_items, is_asking, settled, Pdu, Ends, HasJoined, Rises}
use Rattle.rasta_core.specs.EndFlow.{later as waiting_from}
use Rattle.rasta_core_recovery.proofs.Lemmas.Rounds.Acts.{Act, all_did, all_brought}
use Rattle.rasta_core_recovery.proofs.Lemmas.Rounds.Given.{Grows}
use Rattle.rasta_core_recovery.proofs.Lemmas.AtWork.HandOver.{fits_in}
use Rattle.rasta_core_recovery.proofs.Lemmas.Heartbeats.InTurn.{IsLast, Tells, Whole, waits_above}
use Rattle.rasta_core_recovery.proofs.Lemmas.Windows.Confirmed.{Sides, client_has}
use Rattle.rasta_core_recovery.proofs.Lemmas.Windows.WindowNumbers.{all_later}

-- where the last PDU that comes confirms a count, what waits then waits above it
pub waits_behind : (ends : Ends) → Sides ends → (now : ℕ) (acts : List Act) (least most : ℕ) (ps : List Pdu) (old : LinkState) → ends.server.link ≡ old → settled now old ≡ record old { clock = now }
    → Whole now acts (settled now old) → most < old.sent → all_brought acts ≡ ps → IsLast (Tells old.own_first least most) ps
    → Rises (least + 1) (all_did now acts (settled now old)).link.sent (all_did now acts (settled now old)).link.waiting
waits_behind ends s now acts least most ps old link same goes below brings last =
    let sent_is = ap (λ (l : LinkState). l.sent) same
    in waits_above old.own_first least most now acts (settled now old) goes (ap (λ (l : LinkState). l.own_first) same) (omega (arith, below, sent_is))
    (subst (λ (l : LinkState). Rises 0 l.sent l.waiting) (sym same) (subst (λ (l : LinkState). Rises 0 l.sent l.waiting) link
    (subst (λ (n : ℕ). Rises 0 n ends.server.link.waiting) (sym s.server_inside.counted) (subst (Rises 0 (length s.server.flow)) (sym s.server_inside.keeps.waiting) s.order.back.waits.rises))))
    (subst (IsLast (Tells old.own_first least most)) (sym brings) last)

-- an end has given few items
pub few_given : (ends : Ends) (s : Sides ends) (l : LinkState) → length s.server.given ≤ length s.server.flow → ends.server.link ≡ l → l.given < 2 ^ 31
few_given ends s l few link =
    let fits = s.order.back.counts.fits
    in let is = s.server_inside.keeps.given ∙ fits_in (length s.server.given) (omega (arith, few, fits))
    in let same = ap (λ (k : LinkState). k.given) link
    in omega (arith, few, fits, is, same)

-- ---- the counts

module _ (ends : Ends) (s : Sides ends) (less : length s.server.given ≤ length s.server.flow) (joins : is_asking ends.client.link ≡ false) (l : LinkState) (few : l.given < 2 ^ 31) (grows : Grows ends.server.link l) where
  taker : HasJoined ends.client.link s.client s.server
  taker = s.client_joined joins

  given_is : ends.server.link.given ≡ length ends.server.given
  given_is = let fits = s.order.back.counts.fits in s.server_inside.keeps.given ∙ fits_in (length s.server.given) (omega (arith, less, fits)) ∙ ap length s.server_given

  taken_is : ends.client.link.taken ≡ length ends.client.taken
  taken_is =
      let fits = s.order.back.counts.fits
      in let level = client_has ends s
      in let own = ap length s.client_taken
      in let of_server = ap length s.server_given
      in taker.inside.keeps.taken ∙ fits_in (length s.client.taken) (omega (arith, less, fits, level, own, of_server)) ∙ own

  pub some_reached : 1 ≤ ends.client.link.expected
  some_reached = let e = taker.expected in let some = s.order.back.counts.some in omega (arith, e, some)

  -- where what waits of the one waits above what the other had come to, all that this had taken is confirmed
  pub taken_confirmed : (low : ℕ) → low ≡ ends.client.link.expected → Rises low l.sent l.waiting → ends.client.link.taken ≤ confirmed_items l
  taken_confirmed low is_low above =
      let level = client_has ends s
      in let at = ap (λ (n : ℕ). waiting_from n ends.server.link.waiting) taker.expected
      in let far = s.order.back.counts.most
      in let counted = s.server_inside.counted
      in let is = taker.expected
      in let more = (grows.waits (omega (arith, few))).1 ends.client.link.expected (omega (arith, far, counted, is))
      in let all = all_later low l.sent ends.client.link.expected l.waiting above (omega (arith, is_low))
      in let given = given_is
      in let taken = taken_is
      in omega (arith, level, at, more, all, given, taken)
