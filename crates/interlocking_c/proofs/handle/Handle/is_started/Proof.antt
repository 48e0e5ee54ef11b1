-- `is_started` reads a plain field.
use Rattle.std.proofs.Common.{◌≡◌, ℕ, List, [], ◌∷◌, refl, sym, ap, nat_eq, true, false}
use Rattle.std.proofs.raw_atomic.Walks.{proved}
use Rattle.std.specs.Prelude.{Option, Some, None}
use base.Fraction.{full_share}
use base.Logic.{ent, sep}
use base.Fml.{ftrue, flft}
use mir.Syntax.{named}
use mir.Val.{Val, vbool}
use seplogic.Ra.Ura.{Ura}
use types.Logic.{Logic, sem}
use contract.Monad.{fact, fact_i}
use base.Logic.{emp}
use contract.Running.{tables}
use types.Kit.{‵, raw, ◌⊛◌, ◌$◌, ◌∵◌, !, qed, done, move, keep, use0, use1, split, join, fsplit, fsplit3, fjoin, feq_l, feq_i, rewrite, suffices, frame, group}
use types.Part.{whole, sub, look_in}
use types.Run.{enter, bin, lit, load, of_opd, stop, fld, returns, well_typed}
use types.ByLocal.{alloc_all, pass_all, free_all, look_at, get, through, sets}
use denote.Laws.{shows}
use denote.Memory.{cell_at}
use denote.RawPtr.{Ptr}
use denote.Ref.{MutRef, mut_vals, mut_Tells}
use denote.Signature.{plain}
use denote.Steps.{nothing, opens, closes, peeks, heard}
use denote.Triple.Walked.{Stays, walk_of, says, stay_ref, Goes-ref, ends_at}
use Rattle.interlocking_c.specs.declared.held.Held.{Held}
use Rattle.interlocking_c.specs.Owned.{lies_or_room, is_started}
use Rattle.interlocking_c.specs.contracts.handle.Handle.is_started as f
use Rattle.interlocking_c.proofs.handle.Handle.is_started.Statement.{statement}
use Rattle.interlocking_c.proofs.handle.Handle.is_started.Code as code
use Rattle.interlocking_c.specs.contracts.handle.Handle.{the_row as R}
use Rattle.interlocking_c.proofs.handle.Handle.TheLaws.{lowers}

abbrev stayed : Stays f.ended.signature.params f.ended.kept
stayed = (stay_ref (0 ∷ []) tt (plain (λ _. R)), tt)

-- the plain field says which it is
tells : {M : Type 1} {𝓤 : Ura M} (𝓛 : Logic 𝓤) (state : ℕ) (p : Ptr) (m : Option Held) → ent 𝓤 (sem 𝓛 (lies_or_room state p m)) (sep 𝓤 (fact 𝓤 (nat_eq state 1 ≡ is_started m)) (sem 𝓛 (lies_or_room state p m)))
tells {𝓤 = 𝓤} 𝓛 state p None =
    qed 𝓛 (‵ (lies_or_room state p None) ∷ []) ∵ fsplit ! $ feq_l ! (λ e. feq_i ! ℕ state 0 e $ fjoin ! $
    use0 𝓛 (raw (fact 𝓤 (nat_eq state 1 ≡ false))) (fact_i 𝓤 (nat_eq state 1 ≡ false) (emp 𝓤) (ap (λ n. nat_eq n 1) e)) $ done !)
tells {𝓤 = 𝓤} 𝓛 state p (Some x) =
    qed 𝓛 (‵ (lies_or_room state p (Some x)) ∷ []) ∵ fsplit ! $ feq_l ! (λ e. feq_i ! ℕ state 1 e $ fjoin ! $
    use0 𝓛 (raw (fact 𝓤 (nat_eq state 1 ≡ true))) (fact_i 𝓤 (nat_eq state 1 ≡ true) (emp 𝓤) (ap (λ n. nat_eq n 1) e)) $ done !)

pub is_started_spec : {M : Type 1} → statement M
is_started_spec 𝓤 𝓛 𝓜 𝓡 wired =
    let c = f.clauses 𝓛 𝓜.mem 𝓡.returns in let W = walk_of 𝓛 f.ended stayed c in let 𝓣 = tables 𝓤 𝓛.H 𝓜 𝓡 𝓡.env in
    proved 𝓛 f.ended stayed c 𝓜 𝓡 (Goes-ref 𝓛 1 0 tt (plain (λ _. R)), tt)
    f.Key.name code.function (code.unfolded 𝓤 𝓛.H 𝓜 𝓡 wired)
    (λ κs. (mut_vals, tt)) (λ κs. (mut_Tells (named 0) κs.0 R, tt)) (λ κs qs bounds a _ are.
    let b = a.0.ref_ptr.0 in let o = a.0.ref_ptr.1 in let h = a.0.now in let vs = mut_vals a.0 in
    let y : W.Ghost = ((κs, qs, bounds, a, (vs, tt)), tt) in
    qed 𝓛 (((‵ (flft κs.0 qs.0) ⊛ ‵ ftrue) ⊛ ‵ ((MutRef (named 0) κs.0 R).own_val a.0 vs) ⊛ ‵ ftrue) ∷ ‵ ftrue ∷ []) ∵
    split ! $ split ! $ move ! (2 ∷ []) $ split ! $ keep ! (0 ∷ 2 ∷ []) $
    enter ! _ _ _ _ _ $ alloc_all ! (λ l. pass_all ! refl ((tt, tt), tt) $
    fsplit3 ! $ move ! (1 ∷ 2 ∷ 3 ∷ []) $ opens ! tt R b o (λ us.
    move ! (1 ∷ []) $ peeks ! R _ (shows 𝓛 R) h us (λ is. fsplit ! $ move ! (1 ∷ []) $
    use1 𝓛 (raw (fact 𝓤 (nat_eq h.state 1 ≡ is_started h.held)) ⊛ ‵ (lies_or_room h.state h.at h.held)) (tells 𝓛 h.state h.at h.held) $ split ! $ heard ! _ (λ same.
    let word = lowers.val_is h us is in
    let Cell = λ (ws : List Val). ‵ (cell_at full_share R.mir ws b o) in
    rewrite ! 2 Cell word refl $ move ! (2 ∷ []) $ well_typed ! (λ ok.
    sets ! (of_opd ! (load ! (through ! refl (fld ! refl (stop !))) (look_in ! 0 (sub ! 1 refl (whole !))))) refl (tt, ok.1.1.0) $
    sets ! (bin ! (get ! refl) (lit ! tt) tt) refl (tt, tt) $
    rewrite ! 0 Cell (sym word) refl $ move ! (1 ∷ 2 ∷ 0 ∷ []) $
    move ! (1 ∷ []) $ fjoin ! $ move ! (1 ∷ []) $ closes ! tt R h us b o $
    returns ! (look_at ! 0 refl) $ free_all ! refl $ move ! (3 ∷ []) $
    suffices ! _ (ends_at 𝓛 f.ended stayed c y (vbool (nat_eq h.state 1)) (nat_eq h.state 1) (h, tt) (tt, tt)) $
    says ! (same, refl) $
    group ! 3 $ nothing ! $ move ! (1 ∷ 0 ∷ []) $ join ! $ nothing ! $ move ! (2 ∷ 0 ∷ []) $ join ! $ frame ! $ frame ! $
    feq_i ! _ (vbool (nat_eq h.state 1) ∷ []) _ refl $ done !))))))
