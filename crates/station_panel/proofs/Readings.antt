-- Readings one after the other, and the drives after a round.
use Rattle.std.proofs.Common.{◌≡◌, ◌∙◌, ℕ, suc, List, [], ◌∷◌, ◌++◌, length, Option, Some, None, refl, sym, ap, append_assoc, append-nil}
use Rattle.panel_desk.specs.node_lines.sci_telegram.declared.message.Side.{Side}
use Rattle.station_drive.specs.declared.course.Drive.{Drive}
use Rattle.station_drive.specs.Rounds.{drives_after}
use Rattle.station_drive.specs.Told.{Grows}

pub grows_none : {A : Type 0} (told : Option (List A)) → Grows told told []
grows_none None = tt
grows_none (Some all) = sym (append-nil all)

pub grows_on : {A : Type 0} (a b c : Option (List A)) (one other : List A) → Grows a b one → Grows b c other → Grows a c (one ++ other)
grows_on a b None one other p q = tt
grows_on a None (Some z) one other p q = absurd q
grows_on None (Some y) (Some z) one other p q = absurd p
grows_on (Some x) (Some y) (Some z) one other p q = q ∙ ap (λ l. l ++ other) p ∙ append_assoc x one other

pub as_many : (reading : ℕ) (driven : ℕ → Option Side) (place : ℕ) (drives : List (Option Drive)) → length (drives_after reading driven place drives) ≡ length drives
as_many reading driven place [] = refl
as_many reading driven place (drive ∷ more) = ap suc (as_many reading driven (suc place) more)
