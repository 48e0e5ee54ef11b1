use Rattle.std.proofs.Common.{◌≡◌, List, ℕ, length, ap, ◌∙◌, refl, arith}
use Rattle.md4.specs.Md4.{after_block, newest, second_round, sequence, sums, third_round}
use Rattle.md4.proofs.Steps.{first_four, raised_four, sequence_four, sequence_start}
use Rattle.md4.proofs.block.after_block.Goals as goal

-- the registers after each group of four steps are the newest words of the sequence
pub returns : goal.returns
unfolding after_block
returns c =
    let h = c.args.registers in
    let x = c.words_of-x.result in
    let sixteen : length x ≡ 16 = omega arith in
    let at = sequence h x in
    let four = sequence_four h x in
    let by_second = λ (before : List ℕ) (i j k l : ℕ). raised_four second_round x c.raised-y.result before i j k l sixteen (rw (← c.words_of-x.ensures) at c.raised-y.ensures) in
    let by_third = λ (before : List ℕ) (i j k l : ℕ). raised_four third_round x c.raised-z.result before i j k l sixteen (rw (← c.words_of-x.ensures) at c.raised-z.ensures) in
    let v0 : h ≡ newest (at 0) = sequence_start h x (omega arith) in
    let v1 : c.first_round-turned.result ≡ newest (at 4) = c.first_round-turned.ensures (at 0) v0 ∙ ap newest (first_four x (at 0) 0 1 2 3 ∙ four 0) in
    let v2 : c.first_round-turned-2.result ≡ newest (at 8) = c.first_round-turned-2.ensures (at 4) v1 ∙ ap newest (first_four x (at 4) 4 5 6 7 ∙ four 4) in
    let v3 : c.first_round-turned-3.result ≡ newest (at 12) = c.first_round-turned-3.ensures (at 8) v2 ∙ ap newest (first_four x (at 8) 8 9 10 11 ∙ four 8) in
    let v4 : c.first_round-turned-4.result ≡ newest (at 16) = c.first_round-turned-4.ensures (at 12) v3 ∙ ap newest (first_four x (at 12) 12 13 14 15 ∙ four 12) in
    let v5 : c.second_round-turned.result ≡ newest (at 20) = c.second_round-turned.ensures (at 16) v4 ∙ ap newest (by_second (at 16) 0 4 8 12 refl ∙ four 16) in
    let v6 : c.second_round-turned-2.result ≡ newest (at 24) = c.second_round-turned-2.ensures (at 20) v5 ∙ ap newest (by_second (at 20) 1 5 9 13 refl ∙ four 20) in
    let v7 : c.second_round-turned-3.result ≡ newest (at 28) = c.second_round-turned-3.ensures (at 24) v6 ∙ ap newest (by_second (at 24) 2 6 10 14 refl ∙ four 24) in
    let v8 : c.second_round-turned-4.result ≡ newest (at 32) = c.second_round-turned-4.ensures (at 28) v7 ∙ ap newest (by_second (at 28) 3 7 11 15 refl ∙ four 28) in
    let v9 : c.third_round-turned.result ≡ newest (at 36) = c.third_round-turned.ensures (at 32) v8 ∙ ap newest (by_third (at 32) 0 8 4 12 refl ∙ four 32) in
    let v10 : c.third_round-turned-2.result ≡ newest (at 40) = c.third_round-turned-2.ensures (at 36) v9 ∙ ap newest (by_third (at 36) 2 10 6 14 refl ∙ four 36) in
    let v11 : c.third_round-turned-3.result ≡ newest (at 44) = c.third_round-turned-3.ensures (at 40) v10 ∙ ap newest (by_third (at 40) 1 9 5 13 refl ∙ four 40) in
    let v12 : c.third_round-turned-4.result ≡ newest (at 48) = c.third_round-turned-4.ensures (at 44) v11 ∙ ap newest (by_third (at 44) 3 11 7 15 refl ∙ four 44) in
    c.sums.ensures ∙ ap (sums h) v12 ∙ ap (λ (words : List ℕ). sums h (newest (sequence h words 48))) c.words_of-x.ensures
