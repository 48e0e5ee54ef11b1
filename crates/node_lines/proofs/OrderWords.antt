-- The words of an order, after others.
use Rattle.std.proofs.Common.{◌≡◌, ℕ, List, ◌∷◌, ◌++◌, refl}
use Rattle.std.specs.List.{join_with_byte}
use Rattle.node_lines.specs.Orders.{order_words}
use Rattle.node_lines.specs.declared.order.Order.{Order}
use Rattle.node_lines.specs.declared.order.Order.TheVariants.{ShowStop, ShowProceed, ShowSlow, DriveNone, Drive}

-- a word stands before those of an order
pub order_behind : (word : List ℕ) (order : Order) → join_with_byte 32 (word ∷ order_words order) ≡ word ++ 32 ∷ join_with_byte 32 (order_words order)
order_behind word ShowStop = refl
order_behind word (ShowProceed until) = refl
order_behind word (ShowSlow until) = refl
order_behind word DriveNone = refl
order_behind word (Drive side until) = refl
