-- `text_bit_parts::reference_at` is its definition: the name is looked for.
use mathlib.Core.Path.{◌≡◌, sym, ◌∙◌}
use mathlib.Core.List.{List}
use Prim.Native.Nat.{ℕ}
use native.Mathlib.Omega.{arith}
use Rattle.std.proofs.Common.{rules}
use Rattle.std.specs.Prelude.{Some, None}
use Rattle.characters.specs.Characters.{run_end}
use Rattle.characters.specs.Named.{Named, found}
use Rattle.text_names.specs.Dictionaries.{entries}
use Rattle.characters.proofs.Runs.{after_start}
use Rattle.characters.proofs.Searches.{found_at, found_within, found_none}
use Rattle.characters.specs.declared.Class.TheVariants.{Word}
use Rattle.text_tokens.specs.Tokens.{slice}
use Rattle.text_bit_parts.specs.References.{width_in, register_at, reference_at}
use Rattle.text_names.proofs.Entries.{entries_length}
use Rattle.text_bit_parts.proofs.Listed.{width_is}
use Rattle.text_bit_parts.proofs.reference_at.Goals as goal

-- a name of the list, and another
module _ (rs : List Named) (s : List ℕ) (at : ℕ) where
  abbrev name : ℕ → List ℕ
  name end = slice s at end

  known : (r end w : ℕ) → end ≡ run_end Word s at → found (name end) rs ≡ Some r → w ≡ width_in rs r → register_at s r w end ≡ reference_at rs s at
  unfolding reference_at
  known r end w f e g =
      let p = found_at (name (run_end Word s at)) rs (rw f at e) in
      rw (g, f) (sym (rw (p.0, reference_at) (rw p.1)))

  unknown : (end : ℕ) → end ≡ run_end Word s at → found (name end) rs ≡ None → reference_at rs s at ≡ None
  unfolding reference_at
  unknown end f e = rw (← f, found_none (name end) rs e, reference_at)

pub overflow_sub-end : goal.overflow_sub-end
overflow_sub-end c = after_start Word c.args.field.now.bytes.now c.args.at c.run_end-end.result c.run_end-end.ensures

pub overflow_cast-register : goal.overflow_cast-register
overflow_cast-register c = let rs = entries c.args.field.now.text.now c.args.field.now.registers in
    let h = found_within c.part.result.now rs (sym c.place_of.ensures ∙ c.in_ok-register.was) in
    grind (arith, entries_length c.args.field.now.text.now c.args.field.now.registers, h, c.requires)

pub returns-in_err-register : goal.returns-in_err-register
returns-in_err-register c = search (rules, unknown (entries c.args.field.now.text.now c.args.field.now.registers) c.args.field.now.bytes.now c.args.at c.run_end-end.result c.run_end-end.ensures)

pub returns : goal.returns
returns c = let rs = entries c.args.field.now.text.now c.args.field.now.registers in
    let e = sym (rw c.part.ensures at c.place_of.ensures) ∙ c.in_ok-register.was in
    let h = found_within _ rs e in
    c.register_at.ensures
    ∙ known rs c.args.field.now.bytes.now c.args.at c.in_ok-register.register c.run_end-end.result c.number_of.result c.run_end-end.ensures e
    (c.number_of.ensures ∙ sym (width_is c.args.field.now.text.now c.args.field.now.registers c.in_ok-register.register (omega (arith, h, entries_length c.args.field.now.text.now c.args.field.now.registers))))
