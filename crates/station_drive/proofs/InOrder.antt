-- Calls one after another, told by a network over memory.
use Rattle.std.proofs.Common.{◌≡◌, ◌∙◌, List, [], ◌∷◌, ◌++◌, Option, Some, None, sym, ap, append_assoc, append-nil}
use Rattle.station_drive.specs.Told.{Call, Carried, Grows}
use Rattle.station_drive.specs.Log.{grows_by}

joined : (a b c : Option (List Call)) (one : Call) (more : List Call) → grows_by a one b → Grows b c more → Grows a c (one ∷ more)
joined a b None one more p q = tt
joined a None (Some z) one more p q = absurd q
joined None (Some y) (Some z) one more p q = absurd p
joined (Some x) (Some y) (Some z) one more p q = q ∙ ap (λ l. l ++ more) p ∙ append_assoc x (one ∷ []) more

none : (a b : Option (List Call)) → b ≡ a → Grows a b []
none a None is = tt
none None (Some y) is = absurd (let f : ⊥ = cc in f)
none (Some x) (Some y) is = let same : y ≡ x = cc in same ∙ sym (append-nil x)

pub in_order : (calls : List Call) (old new : Option (List Call)) → Carried grows_by old new calls → Grows old new calls
in_order [] old new is = none old new is
in_order (one ∷ more) old new is = joined old is.0 new one more is.1 (in_order more is.0 new is.2)
