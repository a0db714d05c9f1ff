-- Tests that are joined by `&&` or `||`: what they tell of their parts, and their negation.
-- Assumes nothing.
use mathlib.Core.Path.{◌≡◌, refl, sym}
use mathlib.Core.Bool.{Bool, true, false, false≢true, not, ◌&&◌, ◌||◌}

pub and_left : (a b : Bool) → a && b ≡ true → a ≡ true
and_left true b e = refl
and_left false b e = e

pub and_right : (a b : Bool) → a && b ≡ true → b ≡ true
and_right true b e = e
and_right false b e = absurd (false≢true e)

pub and_both : (a b : Bool) → a && b ≡ true → (a ≡ true) × (b ≡ true)
and_both a b e = (and_left a b e, and_right a b e)

-- three tests that all hold, and more, as the code joins them
pub all_three : (a b c : Bool) → (a && b) && c ≡ true → (a ≡ true) × (b ≡ true) × (c ≡ true)
all_three a b c e =
    let two = and_left (a && b) c e in
    (and_left a b two, and_right a b two, and_right (a && b) c e)

pub all_four : (a b c d : Bool) → ((a && b) && c) && d ≡ true → (a ≡ true) × (b ≡ true) × (c ≡ true) × (d ≡ true)
all_four a b c d e =
    let h = all_three a b c (and_left ((a && b) && c) d e) in
    (h.0, h.1, h.2, and_right ((a && b) && c) d e)

pub all_five : (a b c d f : Bool) → (((a && b) && c) && d) && f ≡ true → (a ≡ true) × (b ≡ true) × (c ≡ true) × (d ≡ true) × (f ≡ true)
all_five a b c d f e =
    let h = all_four a b c d (and_left (((a && b) && c) && d) f e) in
    (h.0, h.1, h.2, h.3, and_right (((a && b) && c) && d) f e)

pub all_six : (a b c d f g : Bool) → ((((a && b) && c) && d) && f) && g ≡ true
    → (a ≡ true) × (b ≡ true) × (c ≡ true) × (d ≡ true) × (f ≡ true) × (g ≡ true)
all_six a b c d f g e =
    let h = all_five a b c d f (and_left ((((a && b) && c) && d) && f) g e) in
    (h.0, h.1, h.2, h.3, h.4, and_right ((((a && b) && c) && d) && f) g e)

-- three tests, and four behind them
pub all_seven : (a b c p q u v : Bool) → ((a && b) && c) && (((p && q) && u) && v) ≡ true
    → (a ≡ true) × (b ≡ true) × (c ≡ true) × (p ≡ true) × (q ≡ true) × (u ≡ true) × (v ≡ true)
all_seven a b c p q u v e =
    let h = all_three a b c (and_left ((a && b) && c) (((p && q) && u) && v) e) in
    let k = all_four p q u v (and_right ((a && b) && c) (((p && q) && u) && v) e) in
    (h.0, h.1, h.2, k.0, k.1, k.2, k.3)

-- a case for each of two tests of which one holds
pub either : (a b : Bool) {P : Type 0} → a || b ≡ true → (a ≡ true → P) → (b ≡ true → P) → P
either true b e p q = p refl
either false b e p q = q e

pub neither_right : (a b : Bool) → a || b ≡ false → b ≡ false
neither_right true b e = absurd (false≢true (sym e))
neither_right false b e = e

-- the negation of both (De Morgan)
pub not_and : (a b : Bool) → not (a && b) ≡ not a || not b
not_and true b = refl
not_and false b = refl

pub not_or : (a b : Bool) → not (a || b) ≡ not a && not b
not_or true b = refl
not_or false b = refl
