-- The identities of a layout's controllers: each stands at a place of its own among all identities.
use Rattle.std.proofs.Common.{◌≡◌, ◌≢◌, ◌⊎◌, inl, inr, ℕ, suc, ◌+◌, ◌-◌, ◌^◌, ◌<◌, nat_lt, Bool, true, false, List, ◌++◌, length, get_or, Some, slice_get, refl, sym, ap, subst, ◌∙◌, arith}
use Rattle.std.proofs.lemmas.Bool.Decides.{nat_tests}
use Rattle.std.proofs.lemmas.Option.{get_or_from_slice_get}
use Rattle.simulator_spec.specs.layout.Entries.{Site}
use Rattle.simulator_spec.specs.layout.Once.{Distinct, Once, all_ids}
use Rattle.simulator_spec.specs.layout.Station.{IsStation}
use Rattle.simulator_spec.specs.rasta_core.Links.{AreLinks}
use Rattle.simulator_spec.specs.rasta_core.Names.{AreNames, Names}
use Rattle.simulator_spec.specs.Links.{names_at}
use Rattle.simulator_spec.specs.Nodes.{links, partners}
use Rattle.simulator_link_laws.proofs.Lists.{get_left, get_right, within_some}
use Rattle.simulator_link_laws.proofs.Partners.{detector_ids, named_at, partner_at, point_ids, signal_ids}

-- where the identity of a link stands among all: the station's first, then points, signals and detectors
data Stands (site : Site) (link place : ℕ) : Type 0 where
  signal : (n : ℕ) → link ≡ n → n < length (signal_ids site) → place ≡ suc (length (point_ids site) + n) → Stands site link place
  point : (n : ℕ) → link ≡ length (signal_ids site) + n → n < length (point_ids site) → place ≡ suc n → Stands site link place
  detector : (n : ℕ) → link ≡ length (signal_ids site) + (length (point_ids site) + n) → place ≡ suc (length (point_ids site) + (length (signal_ids site) + n)) → Stands site link place

same_place : (site : Site) (link other place : ℕ) → Stands site link place → Stands site other place → link ≡ other
same_place site link other place (signal n a b c) (signal m d e f) = omega arith
same_place site link other place (signal n a b c) (point m d e f) = absurd (omega arith)
same_place site link other place (signal n a b c) (detector m d f) = absurd (omega arith)
same_place site link other place (point n a b c) (signal m d e f) = absurd (omega arith)
same_place site link other place (point n a b c) (point m d e f) = omega arith
same_place site link other place (point n a b c) (detector m d f) = absurd (omega arith)
same_place site link other place (detector n a c) (signal m d e f) = absurd (omega arith)
same_place site link other place (detector n a c) (point m d e f) = absurd (omega arith)
same_place site link other place (detector n a c) (detector m d f) = omega arith

record IsPlaced (site : Site) (link id : ℕ) : Type 0 where
  place : ℕ
  stands : Stands site link place
  there : slice_get (all_ids site) place ≡ Some id
  later : 0 < place

below_or : (a b : ℕ) → (a < b) ⊎ ((n : ℕ) × (a ≡ b + n))
below_or a b = cases (nat_lt a b) refl where
  cases : (less : Bool) → nat_lt a b ≡ less → (a < b) ⊎ ((n : ℕ) × (a ≡ b + n))
  cases true e = inl (grind (arith, nat_tests))
  cases false e = inr (a - b, grind (arith, nat_tests))

placed : (site : Site) (link id : ℕ) → slice_get (partners site) link ≡ Some id → IsPlaced site link id
unfolding all_ids
placed site link id at = by_signal (below_or link (length signals)) where
  signals : List ℕ
  signals = signal_ids site

  points : List ℕ
  points = point_ids site

  detectors : List ℕ
  detectors = detector_ids site

  by_point : (n : ℕ) → link ≡ length signals + n → slice_get (points ++ detectors) n ≡ Some id → (n < length points) ⊎ ((m : ℕ) × (n ≡ length points + m)) → IsPlaced site link id
  by_point n same found (inl below) = record {
    place = suc n;
    stands = point n same below refl;
    there = get_left points (signals ++ detectors) n below ∙ sym (get_left points detectors n below) ∙ found;
    later = omega arith;
  }
  by_point n same found (inr (m, more)) = record {
    place = suc (length points + (length signals + m));
    stands = detector m (same ∙ ap (λ k. length signals + k) more) refl;
    there = get_right points (signals ++ detectors) (length signals + m) (length points + (length signals + m)) refl ∙ get_right signals detectors m (length signals + m) refl
        ∙ sym (get_right points detectors m n more) ∙ found;
    later = omega arith;
  }

  by_signal : (link < length signals) ⊎ ((n : ℕ) × (link ≡ length signals + n)) → IsPlaced site link id
  by_signal (inl below) = record {
    place = suc (length points + link);
    stands = signal link refl below refl;
    there = get_right points (signals ++ detectors) link (length points + link) refl ∙ get_left signals detectors link below ∙ sym (get_left signals (points ++ detectors) link below) ∙ at;
    later = omega arith;
  }
  by_signal (inr (n, same)) = by_point n same (sym (get_right signals (points ++ detectors) n link same) ∙ at) (below_or n (length points))

-- different places have different identities
differ_at : (list : List ℕ) (one other a b : ℕ) → Distinct list → slice_get list one ≡ Some a → slice_get list other ≡ Some b → one ≢ other → a ≢ b
differ_at list one other a b distinct at_one at_other differ same = by_order (below_or one other) where
  read : (place n : ℕ) → slice_get list place ≡ Some n → get_or list place 0 ≡ n
  read place n at = get_or_from_slice_get list place n 0 at

  by_order : (one < other) ⊎ ((n : ℕ) × (one ≡ other + n)) → ⊥
  by_order (inl less) = distinct one other 0 less (within_some list other b at_other) (read one a at_one ∙ same ∙ sym (read other b at_other))
  by_order (inr (n, more)) = distinct other one 0 less (within_some list one a at_one) (read other b at_other ∙ sym same ∙ sym (read one a at_one)) where
    less : other < one
    less = omega (arith, differ)

module _ (site : Site) (station : IsStation site) (once : Once site) where
  station_there : slice_get (all_ids site) 0 ≡ Some site.station.id
  unfolding all_ids
  station_there = refl

  fits : (place id : ℕ) → slice_get (all_ids site) place ≡ Some id → id < 2 ^ 32
  fits place id at =
      let read = get_or_from_slice_get (all_ids site) place id 0 at
      in let most = (station.ids place 0 (within_some (all_ids site) place id at)).1
      in omega arith

  pub are_links : AreLinks (links site) (names_at site)
  are_links = record {
    each = λ link below.
        let partner = partner_at site link below
        in let is = placed site link partner.0 partner.1
        in subst AreNames (sym (named_at site link partner.0 partner.1)) (record {
          differ = differ_at (all_ids site) 0 is.place site.station.id partner.0 once.ids station_there is.there (λ same. omega (arith, is.later, same));
          client = fits 0 site.station.id station_there;
          server = fits is.place partner.0 is.there;
        });
    one_key = λ one other below below_other. refl;
    apart = λ one other below below_other differ.
        let first = partner_at site one below
        in let second = partner_at site other below_other
        in let is = placed site one first.0 first.1
        in let that = placed site other second.0 second.1
        in let first_is = ap (λ (n : Names). n.server) (named_at site one first.0 first.1)
        in let second_is = ap (λ (n : Names). n.server) (named_at site other second.0 second.1)
        in (
          λ same. differ_at (all_ids site) is.place that.place first.0 second.0 once.ids is.there that.there
              (λ places. differ (same_place site one other that.place (subst (λ p. Stands site one p) places is.stands) that.stands)) (sym first_is ∙ same ∙ second_is),
          λ same. differ_at (all_ids site) 0 is.place site.station.id first.0 once.ids station_there is.there (λ places. omega (arith, is.later, places)) (sym same ∙ first_is),
        );
  }
