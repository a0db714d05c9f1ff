-- The grammar one call at a time, with the places, bytes and tokens that the code finds: a law for each way that a call takes. And what is read with any
-- number of calls that is enough.
-- Assumes nothing.
use mathlib.Core.Path.{◌≡◌, refl, sym, ap, subst, ◌∙◌}
use mathlib.Core.Bool.{Bool, true, false}
use mathlib.Core.List.{List}
use Prim.Native.Nat.{ℕ, zero, suc, ◌+◌, ◌≤◌, ◌<◌}
use native.Mathlib.Omega.{arith}
use lib.ListN.{get_or}
use borrow.Author.Tests.{eq-eqb, ne_eqb, lt-ltb, le-ltb}
use Rattle.std.specs.Prelude.{Option, Some, None}
use Rattle.characters.specs.Characters.{is_letter, run_end, same}
use Rattle.text_constants.specs.Constants.{decimal_at, constant_at}
use Rattle.characters.specs.Named.{Named}
use Rattle.characters.specs.declared.Class.TheVariants.{Word}
use Rattle.text_code.specs.declared.Cursor.{Cursor}
use Rattle.text_code.specs.declared.Part.{Part}
use Rattle.text_operators.specs.declared.Entry.{Entry}
use Rattle.text_operators.specs.Operators.{entry_in, weakest, strongest, rotations}
use Rattle.text_code.specs.Tree.{Expr}
use Rattle.text_tokens.specs.Tokens.{skip, next, slice, operator_at, after_token}
use Rattle.text_tokens.specs.Signs.{round_open, round_close, square_open, square_close, not_token, memory_token}
use Rattle.text_tokens.proofs.Tokens.{at_mark, off_mark}
use Rattle.text_bit_parts.specs.References.{reference_at}
use Rattle.text_code.specs.Readings.{Reading, read, outside, of_constant, of_reference, not_of, closed, rotation_of, joined}
use Rattle.text_grammar.specs.Says.{deepest}
use Rattle.text_grammar.specs.Grammar.{level, more, operation, operand, worded, negated, enclosed}
use Rattle.text_code.specs.Met.{Held, Meets, Taken, Grown, Behind, OneMore, part}
use Rattle.text_grammar.specs.Met.{Branch}
use Rattle.text_code.proofs.Parts.{met}

-- one call more
step : (n : ℕ) (g h : ℕ → Reading) (r : Option Part) (from : Cursor) (before after : List ℕ) → ((f : ℕ) → g (suc f) ≡ h f)
    → ((f : ℕ) → n ≤ f → Meets (h f) r from before after) → (f : ℕ) → suc n ≤ f → Meets (g f) r from before after
step n g h r from before after e m zero l = absurd (omega arith)
step n g h r from before after e m (suc f) l = met (g (suc f)) (h f) r from before after (e f) (m f (omega arith))

-- an answer by what one call comes to
pub answered : {need : ℕ} {g : ℕ → Reading} {s : List ℕ} {a words pieces : ℕ} {r : Option Part} {from : Cursor} {before after : List ℕ} (n : ℕ) (h : ℕ → Reading)
    → suc n ≤ need → ((f : ℕ) → g (suc f) ≡ h f) → ((f : ℕ) → n ≤ f → Meets (h f) r from before after) → Grown s a words pieces r
    → Branch need g s a words pieces r from before after
answered {need} {g} {s} {a} {words} {pieces} {r} {from} {before} {after} n h l e m grown =
    record { meets = λ f k. step n g h r from before after e m f (omega arith); grown = grown }

-- the same behind a left side, which ends where the code's does
pub answered_behind : {need : ℕ} {g : ℕ → Expr → ℕ → Reading} {s : List ℕ} {a words pieces : ℕ} {c : Cursor} {w : ℕ} {r : Option Part} {now after : List ℕ}
    (n : ℕ) (h : ℕ → Expr → Reading) → suc n ≤ need → ((l : Expr) (f : ℕ) → g (suc f) l c.place ≡ h f l)
    → ((l : Expr) (from : Cursor) (before : List ℕ) → Held l c.place (part c w) from before now → (f : ℕ) → n ≤ f → Meets (h f l) r from before after)
    → Grown s a words pieces r → Behind need g s a words pieces (part c w) r now after
answered_behind {need} {g} {s} {a} {words} {pieces} {c} {w} {r} {now} {after} n h k e m grown =
    record {
      meets = λ l p from before i f b.
          subst (λ (q : ℕ). Meets (g f l q) r from before after) i.place_is
          (step n (λ x. g x l c.place) (λ x. h x l) r from before after (e l)
          (m l from before (subst (λ (q : ℕ). Held l q (part c w) from before now) (sym i.place_is) i))
          f (omega arith));
      grown = grown;
    }

-- a cursor's place doesn't count for what is held
abbrev pub at : Cursor → ℕ → Cursor
at c q = record { place = q; words = c.words; pieces = c.pieces }

-- a cursor at another place, as the code makes it
pub placed : (c d : Cursor) (q : ℕ) → d ≡ at c q → (d.place ≡ q) × (d.words ≡ c.words) × (d.pieces ≡ c.pieces)
placed c d q e = (ap (λ (x : Cursor). x.place) e, ap (λ (x : Cursor). x.words) e, ap (λ (x : Cursor). x.pieces) e)

pub moved : (c : Cursor) (q : ℕ) (x : Reading) (r : Option Part) (before after : List ℕ) → Meets x r (at c q) before after → Meets x r c before after
moved c q (read t p) (Some d) before after h =
    record { place_is = h.place_is; width_is = h.width_is; pieces_are = h.pieces_are; words_are = h.words_are; code_is = h.code_is }
moved c q (read t p) None before after h = h
moved c q outside (Some d) before after h = h
moved c q outside None before after h = h

-- what grew from a later start, or with less
pub regrown : (s : List ℕ) (r : Option Part) (a words pieces a' words' pieces' : ℕ) → Grown s a words pieces r
    → (a' ≤ a) × (words + a' ≤ words' + a) × (pieces + a' ≤ pieces' + a) → Grown s a' words' pieces' r
regrown s (Some d) a words pieces a' words' pieces' g h =
    record { onward = omega (arith, g.onward, h); inside = g.inside; words_most = omega (arith, g.words_most, h); pieces_most = omega (arith, g.pieces_most, h); narrow = g.narrow }
regrown s None a words pieces a' words' pieces' g h = tt

-- a reading that meets a fault is outside the rules, and so is what is made of it
pub faulty : (x : Reading) (from : Cursor) (before after : List ℕ) → Meets x None from before after → x ≡ outside
faulty (read t p) from before after m = absurd m
faulty outside from before after m = refl

pub still_fault : (g : Reading → Reading) (x : Reading) (c from : Cursor) (now mid before after : List ℕ) → g outside ≡ outside → Meets x None c now mid
    → Meets (g x) None from before after
still_fault g x c from now mid before after e m = met (g x) outside None from before after (ap g (faulty x c now mid m) ∙ e) tt

module _ (rs : List Named) (s : List ℕ) (d : ℕ) where
  module _ (k at : ℕ) where
    pub level_operand : k ≡ strongest → (f : ℕ) → level (suc f) rs s d k at ≡ operand f rs s d at
    unfolding level
    level_operand e f = rw (eq-eqb k strongest e, level)

    pub level_more : k < strongest → (f : ℕ) → level (suc f) rs s d k at ≡ more f rs s d k (level f rs s d (k + 1) at)
    unfolding level
    level_more h f = rw (ne_eqb k strongest (λ e. omega arith), level)

  -- behind a left side, by the row of the operator that stands there
  module _ (k : ℕ) (l : Expr) (p row : ℕ) (stands : row ≡ operator_at s p) where
    module _ (entry : Entry) (in_row : entry ≡ entry_in row) where
      strength_is : entry.strength ≡ (entry_in (operator_at s p)).strength
      strength_is = ap (λ (e : Entry). e.strength) in_row ∙ ap (λ (r : ℕ). (entry_in r).strength) stands

      pub more_stops : (entry.strength ≡ k → ⊥) → (f : ℕ) → more (suc f) rs s d k (read l p) ≡ read l p
      unfolding more
      more_stops h f = rw (ne_eqb (entry_in (operator_at s p)).strength k (λ e. h (strength_is ∙ e)), more)

      pub more_goes_on : entry.strength ≡ k → (f : ℕ) → more (suc f) rs s d k (read l p) ≡ more f rs s d k (operation f rs s d k l p)
      unfolding more
      more_goes_on h f = rw (eq-eqb (entry_in (operator_at s p)).strength k (sym strength_is ∙ h), more)

    module _ (end : ℕ) (ends : end ≡ after_token s p) where
      pub operation_rotates : k ≡ rotations → (f : ℕ) → operation (suc f) rs s d k l p ≡ rotation_of row l (decimal_at s (skip s end))
      unfolding operation
      operation_rotates h f = rw (stands, ends, eq-eqb k rotations h, operation)

      pub operation_joins : (k ≡ rotations → ⊥) → (f : ℕ) → operation (suc f) rs s d k l p ≡ joined row l (level f rs s d (k + 1) end)
      unfolding operation
      operation_joins h f = rw (stands, ends, ne_eqb k rotations h, operation)

  pub more_outside : (k f : ℕ) → more f rs s d k outside ≡ outside
  unfolding more
  more_outside k zero = refl
  more_outside k (suc f) = refl

  -- what is read behind every left side that the code may hold is read behind the one that was found
  pub feed : (k f : ℕ) (x : Reading) (left : Cursor) (w : ℕ) (r : Option Part) (from : Cursor) (before mid after : List ℕ)
      → ((l : Expr) (p : ℕ) → Held l p (part left w) from before mid → Meets (more f rs s d k (read l p)) r from before after)
      → Meets x (Some (part left w)) from before mid → Meets (more f rs s d k x) r from before after
  feed k f (read l p) left w r from before mid after g m = g l p m
  feed k f outside left w r from before mid after g m = absurd m

  -- an operand, by the place where its token starts and the byte there
  module _ (at start x : ℕ) (starts : start ≡ skip s at) (here : x ≡ get_or s start 0) where
    pub operand_encloses : x ≡ round_open → (f : ℕ) → operand (suc f) rs s d at ≡ enclosed f rs s d round_close (start + 1)
    unfolding operand
    operand_encloses h f = rw (starts, at_mark s at start x round_open starts here h, operand)

    letter_is : (b : Bool) → is_letter x ≡ b → is_letter (next s at) ≡ b
    letter_is b h = ap (λ (z : ℕ). is_letter (get_or s z 0)) (sym starts) ∙ ap is_letter (sym here) ∙ h

    pub operand_worded : (x ≡ round_open → ⊥) → is_letter x ≡ true → (f : ℕ) → operand (suc f) rs s d at ≡ worded f rs s d start
    unfolding operand
    operand_worded h i f = rw (starts, off_mark s at start x round_open starts here h, letter_is true i, operand)

    pub operand_constant : (x ≡ round_open → ⊥) → is_letter x ≡ false → (f : ℕ) → operand (suc f) rs s d at ≡ of_constant (constant_at s start)
    unfolding operand
    operand_constant h i f = rw (starts, off_mark s at start x round_open starts here h, letter_is false i, operand)

  -- an operand that begins with a letter, by its token and the place after it
  module _ (at end : ℕ) (token : List ℕ) (ends : end ≡ run_end Word s at) (is : token ≡ slice s at end) where
    token_is : (w : List ℕ) (b : Bool) → same token w ≡ b → same (slice s at (run_end Word s at)) w ≡ b
    token_is w b h = ap (λ (z : List ℕ). same z w) (sym (is ∙ ap (slice s at) ends)) ∙ h

    pub worded_not : same token not_token ≡ true → (f : ℕ) → worded (suc f) rs s d at ≡ negated f rs s d end
    unfolding worded
    worded_not h f = rw (ends, token_is not_token true h, worded)

    module _ (no : same token not_token ≡ false) where
      -- by the byte that stands behind an M
      module _ (memory : same token memory_token ≡ true) (start x : ℕ) (starts : start ≡ skip s end) (here : x ≡ get_or s start 0) where
        pub worded_memory : x ≡ square_open → (f : ℕ) → worded (suc f) rs s d at ≡ enclosed f rs s d square_close (start + 1)
        unfolding worded
        worded_memory h f =
            rw (starts, ends, token_is not_token false no, token_is memory_token true memory, at_mark s (run_end Word s at) start x square_open (starts ∙ ap (skip s) ends) here h, worded)

        pub worded_bare : (x ≡ square_open → ⊥) → (f : ℕ) → worded (suc f) rs s d at ≡ outside
        unfolding worded
        worded_bare h f =
            rw (token_is not_token false no, token_is memory_token true memory, off_mark s (run_end Word s at) start x square_open (starts ∙ ap (skip s) ends) here h, worded)

      pub worded_name : same token memory_token ≡ false → (f : ℕ) → worded (suc f) rs s d at ≡ of_reference (reference_at rs s at)
      unfolding worded
      worded_name h f = rw (token_is not_token false no, token_is memory_token false h, worded)

  module _ (at : ℕ) where
    pub negated_in : d < deepest → (f : ℕ) → negated (suc f) rs s d at ≡ not_of (level f rs s (d + 1) strongest at)
    unfolding negated
    negated_in h f = rw (lt-ltb d deepest h, negated)

    pub negated_deep : deepest ≤ d → (f : ℕ) → negated (suc f) rs s d at ≡ outside
    unfolding negated
    negated_deep h f = rw (le-ltb d deepest h, negated)

    pub enclosed_in : (close : ℕ) → d < deepest → (f : ℕ) → enclosed (suc f) rs s d close at ≡ closed s close (level f rs s (d + 1) weakest at)
    unfolding enclosed
    enclosed_in close h f = rw (lt-ltb d deepest h, enclosed)

    pub enclosed_deep : (close : ℕ) → deepest ≤ d → (f : ℕ) → enclosed (suc f) rs s d close at ≡ outside
    unfolding enclosed
    enclosed_deep close h f = rw (le-ltb d deepest h, enclosed)

-- one word and one piece more than a right side
pub grown_by_one : (s : List ℕ) (right : Cursor) (v a n m : ℕ) (r : Option Part) → Taken s a n m (part right v) → OneMore right r → Grown s a (n + 1) (m + 1) r
grown_by_one s right v a n m (Some d) g o =
    let e = o.0 in
    let p : d.end.place ≡ right.place = ap (λ (x : Cursor). x.place) e in
    let q : d.end.words ≡ right.words + 1 = ap (λ (x : Cursor). x.words) e in
    let z : d.end.pieces ≡ right.pieces + 1 = ap (λ (x : Cursor). x.pieces) e in
    record { onward = omega (arith, g.onward); inside = omega (arith, g.inside); words_most = omega (arith, g.words_most); pieces_most = omega (arith, g.pieces_most); narrow = o.1 }
grown_by_one s right v a n m None g o = tt
