-- What the accessors of a TOML value give, beside the definitions.
use Rattle.std.proofs.Common.{◌≡◌, List, [], ◌∷◌, map, Option, Some, None, is_some, Ok, Err, Global, Vec, Bor, option_map, refl, sym, ap, ◌∙◌}
use Rattle.toml.specs.Data.{Data, Items}
use Rattle.toml.specs.View.{view, items_of, array_view}
use Rattle.toml.specs.declared.value.Value.{Value}
use Rattle.railway_layout.specs.declared.fault.TextFault.TheVariants.{MissingKey}
use Rattle.railway_layout.specs.declared.fault.Place.{Place}
use Rattle.layout_text.specs.Values.{item_list}
use Rattle.railway_layout.specs.Text.{items_or_fault}
use Rattle.std.specs.Option.{ok_or}

-- a list of data as items is that list again
pub item_list-items_of : (ds : List Data) → item_list (items_of ds) ≡ ds
item_list-items_of [] = refl
item_list-items_of (d ∷ ds) = ap (λ rest. d ∷ rest) (item_list-items_of ds)

pub found_field : (found : Option (Bor Value)) (x : Bor Value) (there : Option Data) (place : Place) → found ≡ Some x → option_map (λ v. view v.now) found ≡ there → ok_or there (MissingKey place) ≡ Ok (view x.now)
found_field found x there place is same = ap (λ o. ok_or o (MissingKey place)) (sym same ∙ ap (option_map (λ v. view v.now)) is)

pub no_field : (found : Option (Bor Value)) (there : Option Data) (place : Place) → found ≡ None → option_map (λ v. view v.now) found ≡ there → ok_or there (MissingKey place) ≡ Err (MissingKey place)
no_field found there place is same = ap (λ o. ok_or o (MissingKey place)) (sym same ∙ ap (option_map (λ v. view v.now)) is)

pub found_items : (found : Option (Bor (Vec Value Global))) (x : Bor (Vec Value Global)) (vs : List Value) (there : Option Items) (place : Place) → found ≡ Some x → vs ≡ x.now.items → option_map (λ v. array_view v.now) found ≡ there → items_or_fault place there ≡ Ok (map view vs)
found_items found x vs there place is same seen =
    ap (items_or_fault place) (sym seen ∙ ap (option_map (λ v. array_view v.now)) is) ∙ ap Ok (item_list-items_of (map view x.now.items) ∙ ap (map view) (sym same))

-- a value is found where it is there
pub same_there : (found : Option (Bor Value)) (there : Option Data) → option_map (λ v. view v.now) found ≡ there → is_some found ≡ is_some there
same_there None there same = ap is_some same
same_there (Some x) there same = ap is_some same
