-- What a run of a class takes, and the number that its digits stand for: bytes of the class, which end where a byte of another kind or the line's end stands; and digit
-- after digit makes the number that the powers of the base give.
-- Assumes nothing.
use mathlib.Core.Path.{◌≡◌, refl, sym, ap, subst, ◌∙◌}
use mathlib.Core.Bool.{true, ◌&&◌}
use mathlib.Core.List.{List, [], ◌∷◌, ◌++◌}
use Prim.Native.Nat.{ℕ, suc, ◌+◌, ◌*◌, ◌%◌, ◌^◌, ◌≤◌}
use native.Mathlib.Nat.{add-mul, mul_assoc, mul_comm, zero-mul, zero-add, add-zero, pow-zero, pow-suc}
use native.Mathlib.Omega.{arith}
use lib.Dec.{leb}
use lib.ListN.{length, get_or, take, drop}
use lib.Seq.{length-take-le, drop-drop, get_or-drop}
use borrow.Author.Tests.{leb-true}
use Rattle.laws.proofs.Tests.{by_test}
use Rattle.laws.proofs.Joined.{and_both}
use Rattle.characters.specs.Ascii.{digit}
use Rattle.characters.specs.Characters.{belongs, run}
use Rattle.characters.specs.declared.Class.{Class}
use Rattle.characters.specs.declared.Class.TheVariants.{Binary, Octal, Decimal}
use Rattle.characters.proofs.Runs.{run_more, run_none, run_le}
use Rattle.text_constants.specs.Constants.{number_at}
use Rattle.text_constants.specs.Numerals.{digit_value, value_of, All, none, more, Ends, with_line, before}

-- a run takes the bytes of its class that a text begins with
module _ (k : Class) where
  pub run_is : (ds rest : List ℕ) → All k ds → Ends k rest → run k (ds ++ rest) ≡ length ds
  unfolding run
  run_is [] [] none with_line = refl
  run_is [] (b ∷ rest) none (before e) = run_none k b rest e
  run_is (b ∷ ds) rest (more e h) i = run_more k b (ds ++ rest) e ∙ ap suc (run_is ds rest h i)

  pub run_all : (t : List ℕ) → All k (take (run k t) t)
  unfolding run
  run_all [] = none
  run_all (b ∷ t) =
      by_test (belongs k b)
      (λ e. subst (λ (n : ℕ). All k (take n (b ∷ t))) (sym (run_more k b t e)) (more e (run_all t)))
      (λ e. subst (λ (n : ℕ). All k (take n (b ∷ t))) (sym (run_none k b t e)) none)

  pub run_ends : (t : List ℕ) → Ends k (drop (run k t) t)
  unfolding run
  run_ends [] = with_line
  run_ends (b ∷ t) =
      by_test (belongs k b)
      (λ e. subst (λ (n : ℕ). Ends k (drop n (b ∷ t))) (sym (run_more k b t e)) (run_ends t))
      (λ e. subst (λ (n : ℕ). Ends k (drop n (b ∷ t))) (sym (run_none k b t e)) (before e))

  pub run_length : (t : List ℕ) → length (take (run k t) t) ≡ run k t
  run_length t = length-take-le (run k t) t (run_le k t)

-- a class within another
pub wider : (k l : Class) → ((b : ℕ) → belongs k b ≡ true → belongs l b ≡ true) → (ds : List ℕ) → All k ds → All l ds
wider k l h [] none = none
wider k l h (b ∷ ds) (more e i) = more (h b e) (wider k l h ds i)

-- what stands from a place on
module _ (s : List ℕ) (at b : ℕ) (t : List ℕ) (e : drop at s ≡ b ∷ t) where
  pub first_is : get_or s at 0 ≡ b
  first_is = ap (λ (i : ℕ). get_or s i 0) (sym (add-zero at)) ∙ sym (get_or-drop at s 0 0) ∙ ap (λ (l : List ℕ). get_or l 0 0) e

  pub others_are : drop (at + 1) s ≡ t
  others_are = sym (drop-drop 1 at s) ∙ ap (λ (l : List ℕ). drop 1 l) e

-- the codes of digits end in the numbers that they stand for
code_ends : (b last : ℕ) → last ≤ digit 9 → leb (digit 0) b && leb b last ≡ true → b % 16 ≡ digit_value b
code_ends b last l e =
    let h = and_both (leb 48 b) (leb b last) e in
    omega (arith, leb-true 48 b h.0, leb-true b last h.1)

pub binary_told : (b : ℕ) → belongs Binary b ≡ true → b % 16 ≡ digit_value b
binary_told b e = code_ends b 49 (omega arith) e

pub octal_told : (b : ℕ) → belongs Octal b ≡ true → b % 16 ≡ digit_value b
octal_told b e = code_ends b 55 (omega arith) e

pub decimal_told : (b : ℕ) → belongs Decimal b ≡ true → b % 16 ≡ digit_value b
decimal_told b e = code_ends b 57 (omega arith) e

-- digit after digit, of a class whose codes end so
module _ (k : Class) (told : (b : ℕ) → belongs k b ≡ true → b % 16 ≡ digit_value b) (base : ℕ) (s : List ℕ) where
  number_is : (ds rest : List ℕ) (at v : ℕ) → drop at s ≡ ds ++ rest → All k ds → number_at base s at (length ds) v ≡ v * base ^ length ds + value_of base ds
  unfolding number_at value_of
  number_is [] rest at v e none = once (base ^ 0) (pow-zero base)
    where
      once : (p : ℕ) → p ≡ 1 → v ≡ v * p + 0
      once p h = rw h (omega arith)
  number_is (b ∷ ds) rest at v e (more d h) =
      let x = get_or s at 0 % 16 in
      let is : x ≡ digit_value b = ap (λ (z : ℕ). z % 16) (first_is s at b (ds ++ rest) e) ∙ told b d in
      number_is ds rest (at + 1) (v * base + x) (others_are s at b (ds ++ rest) e) h
      ∙ ap (λ (z : ℕ). z + value_of base ds) (spread v base x (base ^ length ds))
      ∙ ap (λ (z : ℕ). v * (base ^ length ds * base) + z * base ^ length ds + value_of base ds) is
      ∙ behind (v * (base ^ length ds * base)) (digit_value b * base ^ length ds) (value_of base ds)
      ∙ ap (λ (z : ℕ). v * z + (digit_value b * base ^ length ds + value_of base ds)) (sym (pow-suc base (length ds)))
    where
      spread : (a c d p : ℕ) → (a * c + d) * p ≡ a * (p * c) + d * p
      spread a c d p = add-mul (a * c) d p ∙ ap (λ (z : ℕ). z + d * p) (mul_assoc a c p ∙ ap (λ (z : ℕ). a * z) (mul_comm c p))

      behind : (a c d : ℕ) → a + c + d ≡ a + (c + d)
      behind a c d = omega arith

  pub value_is : (ds rest : List ℕ) (at : ℕ) → drop at s ≡ ds ++ rest → All k ds → number_at base s at (length ds) 0 ≡ value_of base ds
  value_is ds rest at e h =
      number_is ds rest at 0 e h ∙ ap (λ (z : ℕ). z + value_of base ds) (zero-mul (base ^ length ds)) ∙ zero-add (value_of base ds)
