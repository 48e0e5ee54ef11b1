-- `put` writes into the room of a handle.
use Rattle.std.proofs.Common.{ℕ, List, [], ◌∷◌, ◌++◌, refl, sym, ap, ◌∙◌, subst, lit<}
use Rattle.std.proofs.raw_atomic.Walks.{proved_at}
use Rattle.std.specs.Prelude.{Some}
use Rattle.std.proofs.alloc.Calls.{Al, handle_tells, Goes-blank}
use base.Fraction.{full_share}
use base.Logic.{SProp, ent, id⊢}
use base.Fml.{ftrue, flft}
use mir.Syntax.{given, w32}
use mir.Val.{Val, vptr, vunit, vint, vstruct, of_list}
use prog.Wp.{WpFn}
use borrow.Table.OneValue.{part_in}
use contract.Running.{tables}
use types.Kit.{‵, raw, ◌⊛◌, at_ret, ◌$◌, ◌∵◌, !, qed, done, move, keep, drop, use2, split, join, fsplit, fsplit3, fjoin, feq_i, feq_l, rewrite, suffices, frame, group}
use types.Part.{whole, sub, look_in, store_in}
use types.Run.{enter, of_opd, unit_lit, load, stop, fld, init, lit, first, blocks, exec, returns, assigns, assigns_last}
use types.ByLocal.{alloc_all, pass_all, free_all, look_at, get, through, sets, env}
use denote.Exit.{yes, Exit, Last, left, rest}
use denote.Param.Mute.{blank}
use lib.Dec.{T}
use denote.Laws.{shows, Is}
use denote.Memory.{cell_at, part_at}
use denote.RattleType.{owns}
use denote.RawPtr.{Ptr, lies_at, room_at, in_a_block, ptr_val, rawptr_vals}
use denote.Struct.Owning.{shape}
use denote.Struct.Struct.{Struct, Struct-Makes, Plains}
use denote.Signature.{plain, types_at}
use denote.Steps.{nothing, owned, opens, closes, peeks, heard}
use denote.Triple.Walked.{Stays, walk_of, says, stay_dropped, stay_ref, Goes-ref, ends_at}
use Rattle.std.proofs.VecSteps.Shapes.{after}
use Rattle.interlocking_c.proofs.Startedness.{none_in}
use Rattle.interlocking_c.specs.declared.held.Held.{Held}
use Rattle.interlocking_c.specs.Owned.{lies_or_room}
use Rattle.interlocking_c.specs.contracts.handle.Handle.put as f
use Rattle.interlocking_c.proofs.handle.Handle.put.Statement.{statement}
use Rattle.interlocking_c.proofs.handle.Handle.put.Code as code
use Rattle.interlocking_c.specs.contracts.handle.Handle.{the_row as R, the_type}
use Rattle.interlocking_c.specs.contracts.held.Held.{the_row as I}
use Rattle.interlocking_c.proofs.handle.Handle.TheLaws.{lowers}
use Rattle.interlocking_c.proofs.held.Held.TheLaws.{the_row_laws}

abbrev stayed : Stays f.ended.signature.params f.ended.kept
stayed = (stay_ref (0 ∷ []) tt (plain (λ _. R)), (stay_dropped (plain (λ _. I)) yes, tt))

-- what lies in memory, as one machine value
abbrev one : Al
one = record { row = I; laws = the_row_laws; g = record { dealloc_token = λ a σ p. ftrue }; d = given 0; drops = given 0 }

-- what goes into the room tells nothing any more
abbrev Gone : Exit Held
Gone = I.exit yes

gone_blank : (x : Held) (w : Last Gone x) → T (blank (left Gone x w))
gone_blank x w = tt

plains : Plains (shape the_type).fields
plains = ((λ p vs. tt), ((λ n vs. (tt, tt)), tt))

-- the machine's values of the fields of a handle that was started
fields_at : (p : Ptr) → Is (Struct (shape the_type)) (p, (1, tt)) (vstruct (of_list (ptr_val p ∷ vint w32 1 ∷ [])) ∷ [])
fields_at p = ((rawptr_vals p, (vint w32 1 ∷ [], tt)), (refl, (refl, ((refl, lit< tt), tt))))

pub put_spec : {M : Type 1} → statement M
put_spec 𝓤 𝓛 𝓜 𝓡 wired =
    let c = f.clauses 𝓛 𝓜.mem 𝓡.returns in let W = walk_of 𝓛 f.ended stayed c in let 𝓣 = tables 𝓤 𝓛.H 𝓜 𝓡 𝓡.env in
    proved_at 𝓛 f.ended stayed c 𝓜 𝓡 (Goes-ref 𝓛 1 0 tt (plain (λ _. R)), (Goes-blank 𝓛 1 (plain (λ _. I)) yes (λ κs x w. gone_blank x w), tt))
    f.Key.name code.function (code.unfolded 𝓤 𝓛.H 𝓜 𝓡 wired) (λ y are.
    let κs = y.0.0 in let qs = y.0.1 in let a = y.0.3 in
    let b = a.0.ref_ptr.0 in let o = a.0.ref_ptr.1 in let h = a.0.now in let x = a.1.0 in
    let Run : List Val → SProp 𝓤 = λ ws. WpFn 𝓤 𝓛.H 𝓣.C 𝓣.Λ code.function ws (W.post y) in
    qed 𝓛 (((‵ (flft κs.0 qs.0) ⊛ ‵ ftrue) ⊛ ‵ (owns (types_at f.ended.signature.params κs) a y.0.4)) ∷ raw ((c κs a).requires tt) ∷ []) ∵
    move ! (1 ∷ []) $ heard ! _ (λ unstarted. let none = none_in h.held unstarted in
    split ! $ move ! (1 ∷ []) $ fsplit ! $ fsplit3 ! $ feq_l ! (λ e0.
    move ! (2 ∷ []) $ fsplit ! $ handle_tells one ! x y.0.4.1.0 (λ v e1 fits.
    move ! (4 ∷ []) $ split ! $ keep ! (0 ∷ 2 ∷ 4 ∷ 5 ∷ []) $
    suffices ! (Run (vptr b o ∷ v ∷ [])) (subst (λ (ws : List Val × List Val). ent 𝓤 (Run (vptr b o ∷ v ∷ [])) (Run (ws.0 ++ (ws.1 ++ [])))) (λ j. (sym e0 j, sym e1 j)) (id⊢ 𝓤 (Run (vptr b o ∷ v ∷ [])))) $
    enter ! 𝓣.C 𝓣.Λ code.function (vptr b o ∷ v ∷ []) (W.post y) $ alloc_all ! (λ l. pass_all ! refl ((tt, tt), (fits, tt)) $
    -- [the token; what is put in; what the handle is seen at; its borrow; the locals]
    move ! (2 ∷ 3 ∷ 0 ∷ []) $ opens ! tt R b o (λ us.
    move ! (1 ∷ []) $ peeks ! R _ (shows 𝓛 R) h us (λ is. fsplit ! $ move ! (1 ∷ []) $
    rewrite ! 0 (λ m. ‵ (lies_or_room h.state h.at m)) none refl $ fsplit ! $ feq_l ! (λ is_zero.
    in_a_block ! h.at (λ p. room_at I p) (id⊢ 𝓤 _) (λ b' o' e.
    let word = lowers.val_is h us is ∙ ap (λ (p : Ptr). lowers.lowered (record h { at = p }) ∷ []) e in
    let Cell = λ (ws : List Val). ‵ (cell_at full_share R.mir ws b o) in
    rewrite ! 2 Cell word refl $
    -- [the room; what the fields own; the handle's cell; the open borrow, in three entries; what is put in; the locals]
    first ! $ blocks ! $
    sets ! (of_opd ! (load ! (through ! refl (fld ! refl (stop !))) (look_in ! 2 (sub ! 0 refl (whole !))))) refl (tt, tt) $
    sets ! (of_opd ! (get ! refl)) refl fits $
    assigns_last ! (of_opd ! (get ! refl)) (through ! refl (stop !)) (init ! 0 refl fits) $
    exec ! 𝓣.C 𝓣.Λ (env code.Mir.locals l) (after 1 (code.function).body) (at_ret _ (W.post y)) $
    assigns ! (of_opd ! (lit ! tt)) (through ! refl (fld ! refl (stop !))) (store_in ! 2 (sub ! 1 refl (whole !)) (tt, record { fits = lit< tt })) $
    sets ! (of_opd ! (unit_lit !)) refl (tt, tt) $
    rewrite ! 2 Cell (ap (λ (p : Ptr). lowers.lowered (record h { at = p; state = 1 }) ∷ []) (sym e)) refl $
    move ! (0 ∷ 6 ∷ []) $ use2 𝓛 (‵ (part_at I full_share x b' o')) (part_in 𝓛 I refl full_share x b' o' v) $
    rewrite ! 0 (λ (p : Ptr). ‵ (lies_at I full_share p x)) (sym e) refl $
    feq_i ! ℕ 1 1 refl $ fjoin ! $
    -- the fields anew, which own nothing but facts
    move ! (1 ∷ []) $ drop ! $ owned ! (Struct (shape the_type)) _ (Struct-Makes 𝓛 (shape the_type) plains) (h.at, (1, tt)) (lowers.lowered (record h { state = 1 }) ∷ []) (fields_at h.at) $
    fjoin ! $ move ! (1 ∷ []) $ closes ! tt R (record h { state = 1; held = Some x }) (lowers.lowered (record h { state = 1 }) ∷ []) b o $
    -- [two parts of the handle; the token; the locals]
    returns ! (look_at ! 0 refl) $ free_all ! refl $ feq_i ! (List Val) y.0.4.0 (vptr b o ∷ []) e0 $
    suffices ! _ (ends_at 𝓛 f.ended stayed c y vunit tt (record h { state = 1; held = Some x }, (rest Gone x, tt)) (tt, (tt, tt))) $ says ! refl $
    group ! 3 $ nothing ! $ nothing ! $ join ! $ move ! (1 ∷ 0 ∷ []) $ join ! $ nothing ! $ move ! (2 ∷ 0 ∷ []) $ join ! $ frame ! $ frame ! $
    feq_i ! _ (vunit ∷ []) _ refl $ done !)))))))))
