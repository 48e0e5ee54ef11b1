-- What the code has inside a pair, and what each of its steps does there. No promise of `Pair` names any of it.
pub mod Seen
pub mod CallsMade
pub mod EventTest
pub mod Order
pub mod Indexed
pub mod Lit
pub mod Parts
