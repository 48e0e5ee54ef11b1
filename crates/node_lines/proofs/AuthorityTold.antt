-- Authority, and none.
use Rattle.std.proofs.Common.{◌≡◌, ◌≢◌, ℕ, List, [], ◌∷◌, ◌++◌, drop, codes, Some, None, slice_index_or, ap, arith, refl}
use Rattle.replay_lines.specs.ixl_spec.layout.Entries.{Site}
use Rattle.replay_lines.specs.ixl_spec.layout.declared.ids.SignalId.{SignalId}
use Rattle.replay_lines.specs.ixl_spec.sci_telegram.Words.{aspect_word}
use Rattle.replay_lines.specs.ixl_spec.sci_telegram.declared.message.Aspect.{Aspect}
use Rattle.replay_lines.specs.ixl_spec.sci_telegram.declared.message.Aspect.TheVariants.{Stop, Proceed, Slow}
use Rattle.replay_lines.specs.Names.{route_word}
use Rattle.node_lines.specs.Known.{signal_text, signal_word}
use Rattle.node_lines.specs.declared.operator_line.Authority.{Authority}

same_tail : (xs ys zs : List ℕ) → xs ++ ys ≡ xs ++ zs → ys ≡ zs
same_tail [] ys zs e = e
same_tail (x ∷ xs) ys zs e = same_tail xs ys zs (ap (drop 1) e)

by_aspect : (aspect : Aspect) (rest : List ℕ) → aspect ≢ Stop → aspect_word aspect ++ rest ≡ codes "stop -" → ⊥
by_aspect Stop rest lit e = lit refl
by_aspect Proceed rest lit e = let f : 112 ≡ 115 = ap (λ l. slice_index_or l 0 0) e in omega (arith, f)
by_aspect Slow rest lit e = let f : 108 ≡ 116 = ap (λ l. slice_index_or l 1 0) e in omega (arith, f)

pub told_apart : (site : Site) (signal : SignalId) (authority : Authority) → authority.aspect ≢ Stop → signal_text site signal (Some authority) ≢ signal_text site signal None
told_apart site signal authority lit e =
    by_aspect authority.aspect (32 ∷ route_word site authority.route) lit
    (ap (drop 1) (same_tail (signal_word site signal) _ _ (same_tail (codes "signal ") _ _ e)))
