-- `get` lends what lies at the handle's memory.
use Rattle.std.proofs.Common.{◌≡◌, ℕ, List, [], ◌∷◌, refl, sym, ap, ◌∙◌}
use Rattle.std.proofs.raw_atomic.Walks.{proved}
use base.Fraction.{full_share}
use base.Logic.{ent, sep, id⊢}
use base.Fml.{GName, Fml, ftrue, fsep, flft}
use mir.Syntax.{named}
use mir.Val.{Val, vptr}
use types.Logic.{sem}
use contract.Running.{tables}
use types.Kit.{‵, raw, ◌⊛◌, some, later, at_ret, ◌$◌, ◌∵◌, !, qed, done, move, keep, use1, split, split3, join, fsplit, fsplit3, fjoin, feq_i, feq_l, fpack, pick, await, rewrite, suffices, frame, group}
use types.Part.{whole, sub, look_in}
use types.Run.{enter, of_opd, load, stop, fld, addr, first, blocks, exec, returns}
use types.ByLocal.{alloc_all, pass_all, free_all, look_at, get, through, sets, sets_last, env}
use denote.Exit.{no}
use denote.Laws.{shows}
use denote.Memory.{cell_at, part_of, mem}
use denote.RawPtr.{Ptr, block_ptr, lies_at, in_a_block}
use denote.Ref.{MutRef, mut_vals, mut_Tells}
use denote.Signature.{plain, mut_ref_to}
use denote.Steps.{nothing, opens, peeks, heard}
use denote.Follow.{follows, Part, lends_Part}
use denote.Triple.Walked.{Stays, walk_of, says, stay_dropped, Goes-spent_ref, ends_at}
use Rattle.std.proofs.VecSteps.Shapes.{after}
use Rattle.interlocking_c.specs.declared.held.Held.{Held}
use Rattle.interlocking_c.proofs.Startedness.{held_in}
use Rattle.interlocking_c.specs.Owned.{lies_or_room}
use Rattle.interlocking_c.specs.Lending.{with_held}
use Rattle.interlocking_c.specs.contracts.handle.Handle.get as f
use Rattle.interlocking_c.proofs.handle.Handle.get.Statement.{statement}
use Rattle.interlocking_c.proofs.handle.Handle.get.Code as code
use Rattle.interlocking_c.specs.contracts.handle.Handle.{the_row as R}
use Rattle.interlocking_c.specs.contracts.held.Held.{the_row as I}
use Rattle.interlocking_c.proofs.handle.Handle.TheLaws.{lowers}
use Rattle.interlocking_c.specs.declared.handle.Handle.{Handle}
use Rattle.interlocking_c.specs.contracts.handle.Handle.{the_type}
use denote.Struct.Owning.{shape}
use denote.Struct.Struct.{within}
use seplogic.Ra.Ura.{Ura}
use types.Logic.{Logic}
use base.Fml.{fex}

abbrev stayed : Stays f.ended.signature.params f.ended.kept
stayed = (stay_dropped (mut_ref_to (0 ∷ []) tt (plain (λ _. R))) no, tt)

module _ (h : Handle) (us : List Val) (b o : ℕ) where
  -- all of the handle but what lies at its memory
  abbrev Rest : Fml
  Rest = fsep (fex (List Val × (List Val × Unit {0})) (within (shape the_type) (h.at, (h.state, tt)) us)) (cell_at full_share R.mir us b o)

  back : {M : Type 1} {𝓤 : Ura M} (𝓛 : Logic 𝓤) (b' o' : ℕ) → h.at ≡ block_ptr b' o' → h.state ≡ 1 → (w : Held) → ent 𝓤 (sep 𝓤 (sem 𝓛 ((mem I).own_at w b' o')) (sem 𝓛 Rest)) (sem 𝓛 ((mem R).own_at (with_held h w) b o))
  unfolding part_of
  back {𝓤 = 𝓤} 𝓛 b' o' e is_one w =
      qed 𝓛 (‵ (lies_at I full_share (block_ptr b' o') w) ∷ ‵ Rest ∷ []) ∵ move ! (1 ∷ []) $ fsplit ! $
      rewrite ! 2 (λ (p : Ptr). ‵ (lies_at I full_share p w)) (sym e) refl $
      move ! (2 ∷ []) $ feq_i ! ℕ h.state 1 is_one $ fjoin ! $ move ! (1 ∷ 0 ∷ []) $ fjoin ! $ move ! (1 ∷ 0 ∷ []) $ fjoin ! $
      fpack ! (List Val) (λ ws. fsep (cell_at full_share R.mir ws b o) (R.own_val (with_held h w) ws)) us $ done !

pub get_spec : {M : Type 1} → statement M
get_spec 𝓤 𝓛 𝓜 𝓡 wired =
    let c = f.clauses 𝓛 𝓜.mem 𝓡.returns in let W = walk_of 𝓛 f.ended stayed c in let 𝓣 = tables 𝓤 𝓛.H 𝓜 𝓡 𝓡.env in
    proved 𝓛 f.ended stayed c 𝓜 𝓡 (Goes-spent_ref 𝓛 1 (0 ∷ []) tt (plain (λ _. R)), tt)
    f.Key.name code.function (code.unfolded 𝓤 𝓛.H 𝓜 𝓡 wired)
    (λ κs. (mut_vals, tt)) (λ κs. (mut_Tells (named 0) κs.0 R, tt)) (λ κs qs bounds a _ are.
    let b = a.0.ref_ptr.0 in let o = a.0.ref_ptr.1 in let h = a.0.now in let vs = mut_vals a.0 in
    let y : W.Ghost = ((κs, qs, bounds, a, (vs, tt)), tt) in
    qed 𝓛 (((‵ (flft κs.0 qs.0) ⊛ ‵ ftrue) ⊛ ‵ ((MutRef (named 0) κs.0 R).own_val a.0 vs) ⊛ ‵ ftrue) ∷ raw ((c κs a).requires tt) ∷ []) ∵
    move ! (1 ∷ []) $ heard ! _ (λ started.
    let has = held_in h.held started in let x = has.0 in
    split ! $ split ! $ move ! (2 ∷ []) $ split ! $ keep ! (0 ∷ 2 ∷ []) $
    enter ! _ _ _ _ _ $ alloc_all ! (λ l. pass_all ! refl ((tt, tt), tt) $
    fsplit3 ! $ move ! (1 ∷ 2 ∷ 3 ∷ []) $ opens ! tt R b o (λ us.
    move ! (1 ∷ []) $ peeks ! R _ (shows 𝓛 R) h us (λ is. fsplit ! $ move ! (1 ∷ []) $
    rewrite ! 0 (λ m. ‵ (lies_or_room h.state h.at m)) has.1 refl $ fsplit ! $ feq_l ! (λ is_one.
    in_a_block ! h.at (λ p. lies_at I full_share p x) (id⊢ 𝓤 _) (λ b' o' e.
    let word = lowers.val_is h us is ∙ ap (λ (p : Ptr). lowers.lowered (record h { at = p }) ∷ []) e in
    let Cell = λ (ws : List Val). ‵ (cell_at full_share R.mir ws b o) in
    rewrite ! 2 Cell word refl $
    first ! $ blocks ! $
    sets ! (of_opd ! (load ! (through ! refl (fld ! refl (stop !))) (look_in ! 2 (sub ! 0 refl (whole !))))) refl (tt, tt) $
    sets_last ! (addr ! (through ! refl (stop !))) refl (tt, tt) $
    exec ! 𝓣.C 𝓣.Λ (env code.Mir.locals l) (after 1 (code.function).body) (at_ret _ (W.post y)) $
    sets ! (of_opd ! (get ! refl)) refl (tt, tt) $
    rewrite ! 2 Cell (sym word) refl $
    move ! (1 ∷ 2 ∷ []) $ fjoin ! $ move ! (2 ∷ 3 ∷ 4 ∷ 1 ∷ 0 ∷ []) $ group ! 5 $
    let Lent = λ (δ : GName). Part 𝓛 R I (with_held h) (named 0) κs.0 qs.0 b o b' o' a.0.ghost_name (sem 𝓛 (Rest h us b o)) (back h us b o 𝓛 b' o' e is_one) x δ in
    use1 𝓛 (later (some (λ (δ : GName). raw (Lent δ))))
    (lends_Part 𝓛 R I (with_held h) (named 0) κs.0 qs.0 b o b' o' a.0.ghost_name (sem 𝓛 (Rest h us b o)) (back h us b o 𝓛 b' o' e is_one) (R.coded.code h) (R.coded.code h) x) $ await ! tt $ pick ! (λ δ.
    returns ! (look_at ! 0 refl) $ free_all ! refl $ keep ! (0 ∷ []) $
    use1 𝓛 (‵ ((MutRef (named 0) κs.0 I).own_val (record { ref_ptr = (b', o'); ghost_name = δ; now = x }) (vptr b' o' ∷ [])) ⊛ ‵ (flft κs.0 qs.0) ⊛ ‵ (follows R I a.0.ghost_name δ (with_held h))) (id⊢ 𝓤 _) $ split3 ! $
    suffices ! _ (ends_at 𝓛 f.ended stayed c y (vptr b' o') (record { ref_ptr = (b', o'); ghost_name = δ; now = x }) (tt, tt) (tt, tt)) $
    nothing ! $ nothing ! $ fjoin ! $ join ! $ nothing ! $ move ! (2 ∷ 0 ∷ []) $ join ! $ join ! $ frame ! $ says ! has.1 $ done !))))))))
