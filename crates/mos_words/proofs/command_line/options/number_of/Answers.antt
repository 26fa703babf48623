use Rattle.std.proofs.Common.{ℕ, ◌≡◌, ◌+◌, ◌-◌, ◌*◌, ◌^◌, ◌<◌, ◌≤◌, true, List, length, get_or, arith}
use Rattle.std.proofs.Math.Nat.{pow-le-pow_right}
use Rattle.std.proofs.lemmas.Grind.{pow_more, common_steps}
use Rattle.std.proofs.lemmas.Bool.{and_parts, leb-true}
use Rattle.std.proofs.lemmas.List.Sums.{AllPass-from_list_all}
use Rattle.mos_text.specs.FileName.{is_digit}
use Rattle.mos_words.specs.CommandLine.{is_number}
use Rattle.mos_words.proofs.command_line.options.number_of.Goals as goal

-- each byte of a number is a digit, and there are at most ten
digit_at : (word : List ℕ) (place : ℕ) → is_number word ≡ true → place < length word → (48 ≤ get_or word place 0) × (get_or word place 0 ≤ 57) × (place < 10)
unfolding is_number
digit_at word place h within =
    let parts = and_parts _ _ h in
    let few = leb-true (length word) 10 (and_parts _ _ parts.0).1 in
    let here : is_digit (get_or word place 0) ≡ true = AllPass-from_list_all is_digit word parts.1 place 0 within in
    let bounds = and_parts _ _ here in
    (leb-true 48 _ bounds.0, leb-true _ 57 bounds.1, omega arith)

-- one more digit
step : (number place digit : ℕ) → number < 10 ^ place → 48 ≤ digit → digit ≤ 57 → place < 10 → (number * 10 + (digit - 48) < 10 ^ (place + 1)) × (number * 10 + (digit - 48) < 2 ^ 64)
step number place digit small low high within =
    let more = pow_more 10 place in
    let most : 10 ^ (place + 1) ≤ 10 ^ 10 = pow-le-pow_right {n = 10} (omega arith) {i = place + 1} {j = 10} (omega arith) in
    (omega arith, omega arith)

pub overflow_mul-number : goal.overflow_mul-number
overflow_mul-number c =
    let digit = digit_at c.args.digits.now c.loop-digit.digit-index c.requires c.loop-digit-test.true in
    let fits = step c.loop-digit.number c.loop-digit.digit-index _ c.loop-digit.invariant.small digit.0 digit.1 digit.2 in
    omega (arith, fits.1)

pub overflow_sub-number : goal.overflow_sub-number
overflow_sub-number c = (digit_at c.args.digits.now c.loop-digit.digit-index c.requires c.loop-digit-test.true).0

pub overflow_add-number : goal.overflow_add-number
overflow_add-number c =
    let digit = digit_at c.args.digits.now c.loop-digit.digit-index c.requires c.loop-digit-test.true in
    let fits = step c.loop-digit.number c.loop-digit.digit-index _ c.loop-digit.invariant.small digit.0 digit.1 digit.2 in
    omega (arith, fits.1)

pub loop-digit-preserved : goal.loop-digit-preserved
loop-digit-preserved c =
    let digit = digit_at c.args.digits.now c.loop-digit.digit-index c.requires c.loop-digit-test.true in
    record {
      written = grind (arith, common_steps);
      small = (step c.loop-digit.number c.loop-digit.digit-index _ c.loop-digit.invariant.small digit.0 digit.1 digit.2).0;
    }
