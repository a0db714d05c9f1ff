-- `text_constants::digits_value`: what is read and what is left make the number; four bits a digit bound it.
use mathlib.Core.Path.{◌≡◌, sym, subst, ap, ◌∙◌}
use mathlib.Core.List.{List}
use Prim.Native.Nat.{ℕ, ◌+◌, ◌-◌, ◌*◌, ◌%◌, ◌^◌, ◌≤◌, ◌<◌}
use native.Mathlib.Omega.{arith}
use lib.Pow.{pow_mono}
use lib.ListN.{get_or, take, drop, length-drop}
use Rattle.std.proofs.lemmas.List.{length-take-le}
use lib.Seq.{get_or-drop, get_or-take}
use Rattle.text_constants.specs.Constants.{number_at}
use Rattle.text_constants.proofs.Digits.{grows, more_digits, no_digits}
use Rattle.text_constants.proofs.digits_value.Goals as goal

-- a digit more: the digits that are left have four bits each of the 64
next_lt : (n i v base d : ℕ) → i < n → n ≤ 16 → v < 2 ^ (64 - 4 * (n - i)) → base ≤ 10 → d < 16 → v * base + d < 2 ^ (64 - 4 * (n - (i + 1)))
next_lt n i v base d p q h b e = subst (λ (k : ℕ). v * base + d < 2 ^ k) exponent (grows (64 - 4 * (n - i)) v base d h b e)
  where
    exponent : 64 - 4 * (n - i) + 4 ≡ 64 - 4 * (n - (i + 1))
    exponent = omega arith

small : (left : ℕ) → 2 ^ (64 - 4 * left) ≤ 2 ^ 64
small left = pow_mono {i = 64 - 4 * left} {j = 64} (omega arith)

-- the digit of so many, by its place in the line
digit_is : (s : List ℕ) (at n i : ℕ) → i < n → get_or (take (at + n - at) (drop at s)) i 0 ≡ get_or s (at + i) 0
digit_is s at n i h = get_or-take (at + n - at) (drop at s) i 0 (omega arith) ∙ get_or-drop at s i 0

pub overflow_mul-v : goal.overflow_mul-v
overflow_mul-v c = let next = next_lt c.args.n c.loop-digit.digit-index c.loop-digit.v c.args.base 0 (omega arith) c.requires.few_digits c.loop-digit.invariant.bounded c.requires.small_base (omega arith) in
    record { fits = omega (arith, small (c.args.n - (c.loop-digit.digit-index + 1))) }

pub overflow_add-v : goal.overflow_add-v
overflow_add-v c = let digit = get_or (take (c.args.at + c.args.n - c.args.at) (drop c.args.at c.args.s.now)) c.loop-digit.digit-index 0 % 16 in
    let next = next_lt c.args.n c.loop-digit.digit-index c.loop-digit.v c.args.base digit (omega arith) c.requires.few_digits c.loop-digit.invariant.bounded c.requires.small_base (omega arith) in
    record { fits = omega (arith, small (c.args.n - (c.loop-digit.digit-index + 1))) }

pub loop-digit-preserved : goal.loop-digit-preserved
loop-digit-preserved c = let at = c.args.at in
    let i = c.loop-digit.digit-index in
    let here = digit_is c.args.s.now at c.args.n i (omega arith) in
    let digit = get_or (take (at + c.args.n - at) (drop at c.args.s.now)) i 0 % 16 in
    let more = more_digits c.args.base c.args.s.now (at + i) (c.args.n - i) c.loop-digit.v (omega arith) in
    record {
      bounded = next_lt c.args.n i c.loop-digit.v c.args.base digit (omega arith) c.requires.few_digits c.loop-digit.invariant.bounded c.requires.small_base (omega arith);
      same =
          c.loop-digit.invariant.same
          ∙ more
          ∙ ap (λ (b : ℕ). number_at c.args.base c.args.s.now (at + i + 1) (c.args.n - i - 1) (c.loop-digit.v * c.args.base + b % 16)) (sym here)
          ∙ ap (λ (k : ℕ). number_at c.args.base c.args.s.now k (c.args.n - i - 1) (c.loop-digit.v * c.args.base + digit)) (omega arith)
          ∙ ap (λ (k : ℕ). number_at c.args.base c.args.s.now (at + (i + 1)) k (c.loop-digit.v * c.args.base + digit)) (omega arith);
    }

pub returns : goal.returns
returns c = sym (c.loop-digit.invariant.same ∙ no_digits c.args.base c.args.s.now (c.args.at + c.loop-digit.digit-index) (c.args.n - c.loop-digit.digit-index) c.loop-digit.v (omega (arith, length-drop c.args.at c.args.s.now, length-take-le (c.args.at + c.args.n - c.args.at) (drop c.args.at c.args.s.now) (omega (arith, length-drop c.args.at c.args.s.now)))))
