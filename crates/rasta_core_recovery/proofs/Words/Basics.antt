-- Words of std.
pub use Rattle.std.proofs.Common.{[], ℕ, ◌&&◌, ◌*◌, ◌++◌, ◌+◌, ◌-◌, ◌/◌, ◌<◌, ◌==◌, ◌^◌, ◌∙◌, ◌∷◌, ◌≡◌, ◌≢◌, ◌≤◌, ◌⊎◌, Bool, Err, List, None, Ok, Option, Result, Some, ap, append-nil, append_assoc, arith, drop, false, if◌then◌else◌, inl, inr, leb-false, leb-true, length, ltb-false, ltb-true, nat_le, nat_lt, not, refl, subst, suc, sym, take, true, zero}
pub use Rattle.std.proofs.lemmas.Bool.{eqb-false, eqb-true, false≢true}
pub use Rattle.std.proofs.lemmas.Bool.Decides.{nat_tests}
pub use Rattle.std.proofs.lemmas.List.{length-drop}
pub use Rattle.std.proofs.lemmas.Option.{none-some, same_Some}
pub use Rattle.std.specs.Cmp.Lexicographic.{pointwise}
pub use Rattle.std.specs.Prelude.{is_ok, nat_eq}
