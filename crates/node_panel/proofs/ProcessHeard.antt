-- The lines of the process are heard.
use Rattle.std.proofs.Common.{◌≡◌, ◌<◌, ℕ, true, List, [], ◌∷◌, codes, length, Ok, ap, refl, arith}
use Rattle.std.specs.List.{join_with_byte}
use Rattle.panel_desk.specs.node_lines.layout.Entries.{Site}
use Rattle.panel_desk.specs.node_lines.replay_words.Cut.{words}
use Rattle.panel_desk.specs.node_lines.replay_words.Words.{are_words}
use Rattle.node_panel.specs.Lines.{closings_lost, closings_not_kept, told_said}
use Rattle.node_panel.specs.declared.told.ClosingsTold.TheVariants.{Lost, NotKept}
use Rattle.node_panel.specs.declared.told.Told.TheVariants.{Process}

module _ (site : Site) (joined : (ws : List (List ℕ)) → 0 < length ws → are_words ws ≡ true → words (join_with_byte 32 ws) ≡ ws) where
  pub lost_heard : (cause : List (List ℕ)) → 0 < length cause → are_words cause ≡ true → told_said site (words (closings_lost cause)) ≡ Ok (Process Lost)
  lost_heard [] some are = absurd (omega (arith, some))
  lost_heard (first ∷ more) some are = ap (told_said site) (joined (codes "closings" ∷ codes "lost:" ∷ first ∷ more) (omega arith) are)

  pub not_kept_heard : told_said site (words closings_not_kept) ≡ Ok (Process NotKept)
  not_kept_heard = ap (told_said site) (joined (codes "closings" ∷ codes "not" ∷ codes "kept" ∷ []) (omega arith) refl)
