-- `text_code::leaves::reference_part`: a register or a bit part is one word.
use mathlib.Core.Path.{◌≡◌, refl, sym, ap, ◌∙◌}
use mathlib.Core.Bool.{true}
use mathlib.Core.List.{List, [], ◌∷◌}
use Prim.Native.Nat.{ℕ, ◌+◌, ◌-◌, ◌≤◌, ◌<◌}
use native.Mathlib.Omega.{arith}
use lib.ListN.{get_or}
use Rattle.std.specs.Prelude.{Option, Some, None}
use Rattle.characters.specs.Characters.{is_word}
use Rattle.characters.specs.Named.{Named}
use Rattle.text_names.specs.Dictionaries.{entries}
use Rattle.text_bit_parts.specs.declared.Reference.{Reference}
use Rattle.text_bit_parts.specs.declared.Reference.TheVariants as reference
use Rattle.text_bit_parts.specs.References.{reference_at}
use Rattle.text_bit_parts.proofs.Onward.{reference_past, bits_known}
use Rattle.text_constants.proofs.Places.{Past}
use Rattle.text_code.specs.declared.Cursor.{Cursor}
use Rattle.text_code.specs.declared.Part.{Part}
use Rattle.text_code.specs.Tree.{register, bit_part}
use Rattle.text_code.specs.Readings.{of_reference}
use Rattle.text_code.specs.Code.{code_of}
use Rattle.text_code.specs.Met.{Leaf, Single}
use Rattle.text_code.proofs.Parts.{no_leaf}
use Rattle.text_code.proofs.leaves.reference_part.Goals as goal

-- what was read at a word, by its three cases
module _ (rs : List Named) (s : List ℕ) (c : Cursor) {x : Option Reference} (e : x ≡ reference_at rs s c.place) where
  abbrev Reads : Option Part → List ℕ → List ℕ → Type 0
  Reads y before after = Leaf (of_reference (reference_at rs s c.place)) s (c.place + 1) (c.words + 1) (c.pieces + 1) y c before after

  whole : {r w p : ℕ} → is_word (get_or s c.place 0) ≡ true → x ≡ Some (reference.Whole r w p) → Past s c.place p
  whole i f = reference_past rs s c.place i (sym e ∙ f)

  bits : {r w a b p : ℕ} → is_word (get_or s c.place 0) ≡ true → x ≡ Some (reference.Part r w a b p) → Past s c.place p × (a ≤ b) × (b < w)
  bits {r} {w} {a} {b} {p} i f =
      let k = bits_known rs s c.place r w a b p (sym e ∙ f) in
      (reference_past rs s c.place i (sym e ∙ f), k.2, k.3)

  whole_leaf : {r w p : ℕ} {y : Option Part} {before after : List ℕ} → is_word (get_or s c.place 0) ≡ true → x ≡ Some (reference.Whole r w p)
      → Single p w (0 ∷ r ∷ w ∷ 0 ∷ []) y c before after → Reads y before after
  unfolding of_reference code_of
  whole_leaf {r} {w} i f h =
      let o = whole i f in
      h (of_reference (reference_at rs s c.place)) (register r w) s (ap of_reference (sym e ∙ f)) refl refl refl o.0 o.1

  bits_leaf : {r w a b p : ℕ} {y : Option Part} {before after : List ℕ} → is_word (get_or s c.place 0) ≡ true → x ≡ Some (reference.Part r w a b p)
      → Single p (b - a + 1) (1 ∷ r ∷ (w - 1 - b) ∷ (b - a + 1) ∷ []) y c before after → Reads y before after
  unfolding of_reference code_of
  bits_leaf {r} {w} {a} {b} i f h =
      let o = bits i f in
      h (of_reference (reference_at rs s c.place)) (bit_part r w a b) s (ap of_reference (sym e ∙ f)) refl refl refl o.0.0 o.0.1

  unknown_leaf : (now : List ℕ) → x ≡ None → Reads None now now
  unfolding of_reference
  unknown_leaf now f =
      no_leaf (of_reference (reference_at rs s c.place)) s (c.place + 1) (c.words + 1) (c.pieces + 1) c now now (ap of_reference (sym e ∙ f))

pub leaf_part-requires : goal.leaf_part-requires
leaf_part-requires c = let o = whole (entries c.args.field.now.text.now c.args.field.now.registers) c.args.field.now.bytes.now c.args.c c.reference_at.ensures c.requires.at_word (c.in_ok-register.was ∙ ap Some c.in-Whole.is) in
    omega (arith, c.requires, o)

pub overflow_sub-size : goal.overflow_sub-size
overflow_sub-size c = let o = bits (entries c.args.field.now.text.now c.args.field.now.registers) c.args.field.now.bytes.now c.args.c c.reference_at.ensures c.requires.at_word (c.in_ok-register.was ∙ ap Some c.in-Part.is) in
    omega (arith, o)

pub overflow_add-size : goal.overflow_add-size
overflow_add-size c = let o = bits (entries c.args.field.now.text.now c.args.field.now.registers) c.args.field.now.bytes.now c.args.c c.reference_at.ensures c.requires.at_word (c.in_ok-register.was ∙ ap Some c.in-Part.is) in
    omega (arith, o)

pub overflow_sub-width : goal.overflow_sub-width
overflow_sub-width c = let o = bits (entries c.args.field.now.text.now c.args.field.now.registers) c.args.field.now.bytes.now c.args.c c.reference_at.ensures c.requires.at_word (c.in_ok-register.was ∙ ap Some c.in-Part.is) in
    omega (arith, o)

pub overflow_sub-width-in-Part : goal.overflow_sub-width-in-Part
overflow_sub-width-in-Part c = let o = bits (entries c.args.field.now.text.now c.args.field.now.registers) c.args.field.now.bytes.now c.args.c c.reference_at.ensures c.requires.at_word (c.in_ok-register.was ∙ ap Some c.in-Part.is) in
    omega (arith, o)

pub leaf_part-requires-in-Part : goal.leaf_part-requires-in-Part
leaf_part-requires-in-Part c = let o = bits (entries c.args.field.now.text.now c.args.field.now.registers) c.args.field.now.bytes.now c.args.c c.reference_at.ensures c.requires.at_word (c.in_ok-register.was ∙ ap Some c.in-Part.is) in
    omega (arith, c.requires, o)

pub returns-in-Whole : goal.returns-in-Whole
returns-in-Whole c = whole_leaf (entries c.args.field.now.text.now c.args.field.now.registers) c.args.field.now.bytes.now c.args.c
    c.reference_at.ensures
    c.requires.at_word (c.in_ok-register.was ∙ ap Some c.in-Whole.is) c.leaf_part.ensures

pub returns-in-Part : goal.returns-in-Part
returns-in-Part c = bits_leaf (entries c.args.field.now.text.now c.args.field.now.registers) c.args.field.now.bytes.now c.args.c
    c.reference_at.ensures
    c.requires.at_word (c.in_ok-register.was ∙ ap Some c.in-Part.is) c.leaf_part-in-Part.ensures

pub returns-in_err-register : goal.returns-in_err-register
returns-in_err-register c = rw c.from_residual.ensures
    (unknown_leaf (entries c.args.field.now.text.now c.args.field.now.registers) c.args.field.now.bytes.now c.args.c c.reference_at.ensures c.args.code.now c.in_err-register.was)
