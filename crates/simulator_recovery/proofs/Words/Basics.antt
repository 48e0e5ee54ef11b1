-- Words of std.
pub use Rattle.std.proofs.Common.{[], ℕ, ⊎_elim, ◌&&◌, ◌*◌, ◌++◌, ◌+◌, ◌-◌, ◌/◌, ◌<◌, ◌==◌, ◌^◌, ◌||◌, ◌∙◌, ◌∷◌, ◌≡◌, ◌≢◌, ◌≤◌, ◌⊎◌, Bool, Err, IsTrue, List, None, Ok, Option, Result, Some, ap, append-nil, append_assoc, arith, drop, false, get_or, if◌then◌else◌, inl, inr, is_ok, is_some, leb-false, leb-true, length, ltb-false, ltb-true, map, min, nat_le, nat_lt, not, refl, replicate, slice_get, slice_index_or, slice_set, subst, suc, sym, take, true, zero}
pub use Rattle.std.proofs.Math.Nat.{suc-ne-zero}
pub use Rattle.std.proofs.lemmas.Bool.{and_right, cases_lt, eq-eqb, lt-ltb, eqb-true, false≢true, le-leb, true≢false}
pub use Rattle.std.proofs.lemmas.Bool.Decides.{nat_tests}
pub use Rattle.std.proofs.lemmas.List.{length-append, length-replicate}
pub use Rattle.std.proofs.lemmas.List.Elements.{All-cons, All-contains, All-head, All-nil, All-tail, Contains-append_left, Contains-append_right, Contains-get_or}
pub use Rattle.std.proofs.lemmas.List.Folds.{find_at}
pub use Rattle.std.proofs.lemmas.List.Sums.{AllPass-from_list_all}
pub use Rattle.std.proofs.lemmas.Option.{get_or_from_slice_get, none-some, same_Some, slice_get-get_or, slice_get-map, slice_get_within}
pub use Rattle.std.proofs.lemmas.Slice.Eq.{bytes_eq-Decides}
pub use Rattle.std.specs.Cmp.{nat_cmp_total, unsigned_tied}
pub use Rattle.std.specs.Cmp.Lexicographic.{pointwise}
pub use Rattle.std.specs.FinSet.{contains, contains-empty, contains-insert, contains-remove, empty, insert, remove}
pub use Rattle.std.specs.Int.{to_le_bytes, w16}
pub use Rattle.std.specs.List.{All, Contains, find, flat_map, list_all, list_any, position, position_or_len, zip}
pub use Rattle.std.specs.Option.{option_or}
pub use Rattle.std.specs.Ordering.{nat_cmp}
pub use Rattle.std.specs.Prelude.{◌↔◌, cond, is_none, nat_eq, option_map}
pub use Rattle.std.specs.Str.{bytes_eq}
