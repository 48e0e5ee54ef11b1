-- An end at work that has asked for a connection, and what a server says to which nothing comes.
use Rattle.rasta_core_recovery.proofs.Words.Basics.{◌≡◌, ℕ, ◌∙◌, ◌+◌, ◌<◌, ◌⊎◌, inl, inr, true, false, List, [], ◌∷◌, ◌++◌, refl, sym, ap, subst}
use Rattle.rasta_core_recovery.proofs.Words.Links.{LinkState, is_open, is_up, settled, Step, silent, Role, Pdu, Each}
use Rattle.rasta_core_recovery.proofs.Lemmas.Rounds.Links.{heard}
use Rattle.rasta_core_recovery.proofs.Lemmas.Rounds.Acts.{Act, all_did, acted, clock_acts, IsWork, HasRoom, Roomy}
use Rattle.rasta_core_recovery.proofs.Lemmas.Rounds.Calls.{Lives, at_reading, entered_lives, opening_lives}
use Rattle.rasta_core_recovery.proofs.Lemmas.Rounds.Fold.{Out, Next, gone_next, stays_next, Begins, late, on, begins}
use Rattle.rasta_core_recovery.proofs.Lemmas.Rounds.Own.{Utters, Calm, quiet_all, out_all}
use Rattle.rasta_core_recovery.proofs.Lemmas.AtWork.WorkFold.{Done, gone_done, so_done, round_through}
use Rattle.rasta_core_recovery.proofs.Lemmas.Rounds.Course.{Joined}
use Rattle.rasta_core_recovery.proofs.Lemmas.Rounds.Turn.{Either, gone, so, reading_joined}
use Rattle.rasta_core_recovery.proofs.Lemmas.Asking.Asks.{IsTalkPdu, Asks, InIt, AsksOn, Mute, mute_then, in_lively, in_step, Alone, Same, same_then, alone_step, asks_asking, asks_lively, reading_asks, not_up}
use Rattle.rasta_core_recovery.proofs.Lemmas.AtWork.WorkTurn.{utters_joined}
use Rattle.rasta_core_recovery.proofs.Lemmas.AtWork.WorkOpens.{gifts_of, mute_server, mute_client, round_is}
use Rattle.rasta_core_recovery.proofs.Lemmas.ComingUp.Hale.{room_first}

-- ---- an end that asks is given items in vain

pub utters_asks : (now : ℕ) (l k : LinkState) (qs : List Pdu) → Asks now l → Utters l k qs → Asks now k
utters_asks now l k qs is u = subst (Asks now) (sym u.same) (record { clock = is.clock; starts = is.starts; client = is.client; young = is.young; own = is.own })

pub utters_none_then : (now : ℕ) (l k : LinkState) (qs : List Pdu) → Asks now l → Utters l k qs → qs ≡ []
utters_none_then now l k qs is u = u.mute (not_up l (asks_asking now l is))

pub utters_in_it : (now : ℕ) (l k : LinkState) (qs : List Pdu) → InIt now l → Utters l k qs → InIt now k × Mute now 0 l qs 0 k
utters_in_it now l k qs (inl is) u = let j = utters_joined now l k qs is u in (inl j, λ e. absurd (cc (e, j.joined)))
utters_in_it now l k qs (inr is) u = (inr (utters_asks now l k qs is u), λ e. (asks_asking now l is, ap (λ (j : LinkState). j.own_stamp) u.same, utters_none_then now l k qs is u))

-- what a round makes of an end inside
pub in_round_at_work : (now : ℕ) (due : List Pdu) (acts : List Act) (l : LinkState) → IsWork Role.Client due acts → InIt l.clock l → now ≡ l.clock + 10 → Roomy now acts (settled now l)
    → Either now (acted now acts l).link (Joined now (acted now acts l).link ⊎ AsksOn now l (acted now acts l))
in_round_at_work now due acts l work is at room = finish (round_through (Unit {0}) ℕ now (λ g ps l. InIt now l) (Mute now) (λ g l e. (e, refl, refl)) (mute_then now) (λ g ps l is. in_lively now l is) hear own
    Role.Client due acts work 0 l tt at (open_is is) (young_is is) (then_in is) room)
  where
    open_is : InIt l.clock l → is_open l.phase ≡ true
    open_is (inl is) = is.connected
    open_is (inr is) = ap is_open is.starts

    young_is : InIt l.clock l → l.clock < l.own_stamp + 1800
    young_is (inl is) = is.young
    young_is (inr is) = is.young

    then_in : InIt l.clock l → now < l.own_stamp + 1800 → InIt now (at_reading now l)
    then_in (inl is) young = inl (reading_joined now l is at young)
    then_in (inr is) young = inr (reading_asks now l is at young)

    hear : (g : ℕ) (p : Pdu) (ps : List Pdu) (k : LinkState) → InIt now k → HasRoom k → Done (Unit {0}) ℕ now (λ g ps l. InIt now l) (Mute now) g k ps (heard now p k)
    hear g p ps k in_it roomy = either (in_step now g p ps k in_it)
      where
        either : Next ℕ now (λ g ps l. InIt now l) (Mute now) g k ps (heard now p k) → Done (Unit {0}) ℕ now (λ g ps l. InIt now l) (Mute now) g k ps (heard now p k)
        either (gone_next left) = gone_done tt left
        either (stays_next h a o) = so_done h a o

    own : (g : ℕ) (ps : List Pdu) (k j : LinkState) (qs : List Pdu) → InIt now k → Utters k j qs → InIt now j × Mute now g k qs g j
    own g ps k j qs in_it u = let o = utters_in_it now k j qs in_it u in (o.0, o.1)

    finish : Done (Unit {0}) ℕ now (λ g ps k. InIt now k × Calm now k) (Mute now) 0 (at_reading now l) [] (acted now acts l) → Either now (acted now acts l).link (Joined now (acted now acts l).link ⊎ AsksOn now l (acted now acts l))
    finish (gone_done why left) = gone left
    finish (so_done h (inl j, calm) o) = so (inl j)
    finish (so_done h (inr a, calm) o) = let m = o (asks_asking now (acted now acts l).link a) in so (inr (record { asks = a; asked = m.0; own = m.1; silent = m.2 }))

-- where no opening comes
pub alone_round_at_work : (now : ℕ) (due : List Pdu) (acts : List Act) (l : LinkState) → IsWork Role.Client due acts → Asks l.clock l → Each IsTalkPdu due → now ≡ l.clock + 10 → Roomy now acts (settled now l)
    → Either now (acted now acts l).link (AsksOn now l (acted now acts l))
alone_round_at_work now due acts l work is talk at room = finish (round_through (Unit {0}) ℕ now (Alone now) (Same now) (λ g l. (refl, refl)) (same_then now) (λ g ps l is. asks_lively now l is.0) hear own
    Role.Client due acts work 0 l tt at (ap is_open is.starts) is.young (λ young. (reading_asks now l is at young, talk)) room)
  where
    hear : (g : ℕ) (p : Pdu) (ps : List Pdu) (k : LinkState) → Alone now g (p ∷ ps) k → HasRoom k → Done (Unit {0}) ℕ now (Alone now) (Same now) g k ps (heard now p k)
    hear g p ps k in_it roomy = either (alone_step now g p ps k in_it)
      where
        either : Next ℕ now (Alone now) (Same now) g k ps (heard now p k) → Done (Unit {0}) ℕ now (Alone now) (Same now) g k ps (heard now p k)
        either (gone_next left) = gone_done tt left
        either (stays_next h a o) = so_done h a o

    own : (g : ℕ) (ps : List Pdu) (k j : LinkState) (qs : List Pdu) → Alone now g ps k → Utters k j qs → Alone now g ps j × Same now g k qs g j
    own g ps k j qs in_it u = ((utters_asks now k j qs in_it.0 u, in_it.1), (ap (λ (m : LinkState). m.own_stamp) u.same, utters_none_then now k j qs in_it.0 u))

    finish : Done (Unit {0}) ℕ now (λ g ps k. Alone now g ps k × Calm now k) (Same now) 0 (at_reading now l) [] (acted now acts l) → Either now (acted now acts l).link (AsksOn now l (acted now acts l))
    finish (gone_done why left) = gone left
    finish (so_done h (a, calm) o) = so (record { asks = a.0; asked = asks_asking l.clock l is; own = o.0; silent = o.1 })

-- where nothing comes at all, it is outside by its clock, or stands as before; it says nothing either way
pub asks_on : (now : ℕ) (acts : List Act) (l : LinkState) → IsWork Role.Client [] acts → Asks l.clock l → now ≡ l.clock + 10 → Roomy now acts (settled now l)
    → (Out now (acted now acts l).link × ((acted now acts l).pdus ≡ [])) ⊎ ((acted now acts l ≡ silent (at_reading now l)) × Asks now (at_reading now l))
unfolding acted
asks_on now acts l work is at room = choose (begins now l at (ap is_open is.starts) is.young)
  where
    choose : Begins now l → (Out now (all_did now acts (settled now l)).link × ((all_did now acts (settled now l)).pdus ≡ [])) ⊎ ((all_did now acts (settled now l) ≡ silent (at_reading now l)) × Asks now (at_reading now l))
    choose (late left) = inl (out_all now acts (settled now l) left, ap (λ (s : Step). s.pdus) (quiet_all now acts (settled now l) left.is_out left.quiet left.clock))
    choose (on e young) = inr (
      round_is Role.Client now [] acts l work ∙ ap (λ (k : LinkState). all_did now (work.front ++ (clock_acts Role.Client ++ work.back)) k) e
          ∙ mute_client now work.front work.back k (gifts_of work.front work.before work.brings) work.behind (entered_lives now k lives) (ap is_up is.starts) (opening_lives now k lives),
      then_asks,
    )
      where
        k : LinkState
        k = at_reading now l

        then_asks : Asks now k
        then_asks = reading_asks now l is at young

        lives : Lives now k
        lives = record { connected = ap is_open is.starts; young = young; room = room_first now acts k (subst (Roomy now acts) e room) (ap is_open is.starts) }

-- ---- a server to which nothing comes

-- a server that isn't up, to which nothing comes, says nothing, and stands as before or is outside
pub server_silent : (now : ℕ) (acts : List Act) (l : LinkState) → IsWork Role.Server [] acts → Joined l.clock l → is_up l.phase ≡ false → now ≡ l.clock + 10 → Roomy now acts (settled now l)
    → Out now (acted now acts l).link ⊎ (acted now acts l ≡ silent (at_reading now l))
unfolding acted
server_silent now acts l work is down at room = choose (begins now l at is.connected is.young)
  where
    choose : Begins now l → Out now (all_did now acts (settled now l)).link ⊎ (all_did now acts (settled now l) ≡ silent (at_reading now l))
    choose (late left) = inl (out_all now acts (settled now l) left)
    choose (on e young) = inr (round_is Role.Server now [] acts l work ∙ ap (λ (k : LinkState). all_did now (work.front ++ (clock_acts Role.Server ++ work.back)) k) e
        ∙ mute_server now work.front work.back (at_reading now l) (gifts_of work.front work.before work.brings) work.behind (entered_lives now (at_reading now l) lives) down)
      where
        lives : Lives now (at_reading now l)
        lives = record { connected = is.connected; young = young; room = room_first now acts (at_reading now l) (subst (Roomy now acts) e room) is.connected }

-- and whether it stays or not, it says nothing
pub server_mute : (now : ℕ) (acts : List Act) (l : LinkState) → IsWork Role.Server [] acts → Joined l.clock l → is_up l.phase ≡ false → now ≡ l.clock + 10 → Roomy now acts (settled now l) → (acted now acts l).pdus ≡ []
unfolding acted
server_mute now acts l work is down at room = choose (begins now l at is.connected is.young)
  where
    choose : Begins now l → (all_did now acts (settled now l)).pdus ≡ []
    choose (late left) = ap (λ (s : Step). s.pdus) (quiet_all now acts (settled now l) left.is_out left.quiet left.clock)
    choose (on e young) = ap (λ (s : Step). s.pdus) (round_is Role.Server now [] acts l work ∙ ap (λ (k : LinkState). all_did now (work.front ++ (clock_acts Role.Server ++ work.back)) k) e
        ∙ mute_server now work.front work.back (at_reading now l) (gifts_of work.front work.before work.brings) work.behind (entered_lives now (at_reading now l) lives) down)
      where
        lives : Lives now (at_reading now l)
        lives = record { connected = is.connected; young = young; room = room_first now acts (at_reading now l) (subst (Roomy now acts) e room) is.connected }
