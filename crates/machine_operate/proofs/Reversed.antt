-- The conditions of a skip, and the reversed ones: all that are selected hold where no plain one does; and where none is selected bit 8 alone decides.
-- Assumes nothing.
use mathlib.Core.Path.{◌≡◌, refl, ap}
use mathlib.Core.Bool.{Bool, true, false, not, ◌&&◌, not-not}
use Prim.Native.Nat.{ℕ}
use native.Mathlib.Omega.{arith}
use Rattle.laws.proofs.Joined.{not_and, not_or}
use Rattle.word.specs.Choice.{on, pick}
use Rattle.word.specs.Word.{word_bits, bits}
use Rattle.machine_state.specs.State.{link, ac}
use Rattle.machine_state.specs.Instruction.{flag}
use Rattle.machine_operate.specs.Operate.{sign, skips_plain, skips_reversed, skips}

-- bits 5 to 7 with their plain conditions, by the names that they have in 002
abbrev pub sma : ℕ → ℕ → Bool
sma i lac = on (flag 5 i) && on (sign lac)

abbrev pub sza : ℕ → ℕ → Bool
sza i lac = on (flag 6 i) && not (on (ac lac))

abbrev pub snl : ℕ → ℕ → Bool
snl i lac = on (flag 7 i) && on (link lac)

-- "all selected conditions must hold" is the negation of "any selected condition holds" of the plain conditions
pub reversed_is : (i lac : ℕ) → skips_reversed i lac ≡ not (skips_plain i lac)
reversed_is i lac = simp (not_or, not_and, not-not)

-- so bit 8 turns the plain skip round
pub skips_by : (i lac : ℕ) → skips i lac ≡ pick (on (flag 8 i)) (not (skips_plain i lac)) (skips_plain i lac)
unfolding skips
skips_by i lac = ap (λ (t : Bool). pick (on (flag 8 i)) t (skips_plain i lac)) (reversed_is i lac)

-- a test, as a choice
chosen : (t : Bool) → pick t true false ≡ t
chosen true = refl
chosen false = refl

-- "none selected still skips": 7410 always, 7400 never
pub none_selected : (i lac : ℕ) → bits word_bits 5 7 i ≡ 0 → skips i lac ≡ on (flag 8 i)
unfolding skips
none_selected i lac none =
    let five : flag 5 i ≡ 0 = omega (arith, none) in
    let six : flag 6 i ≡ 0 = omega (arith, none) in
    let seven : flag 7 i ≡ 0 = omega (arith, none) in
    rw (five, six, seven) (chosen (on (flag 8 i)))
