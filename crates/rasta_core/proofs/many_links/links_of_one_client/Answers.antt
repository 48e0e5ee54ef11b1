use Rattle.std.proofs.Common.{◌≡◌, ◌+◌, ℕ, arith, lit<, refl}
use Rattle.rasta_core.proofs.many_links.links_of_one_client.Goals as goal

same_later : (one other : ℕ) → 2 + one ≡ 2 + other → one ≡ other
same_later one other same = omega arith

pub returns : goal.returns
returns c = λ key count few. record {
  each = λ link below. record {
    differ = λ same. omega arith;
    client = lit< tt;
    server = omega arith;
  };
  one_key = λ one other below below_other. refl;
  apart = λ one other below below_other differ. (λ same. differ (same_later one other same), λ same. omega arith);
}
