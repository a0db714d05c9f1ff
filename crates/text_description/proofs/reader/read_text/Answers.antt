-- `text_description::reader::read_text`: size, header, then the lines.
use mathlib.Core.Path.{sym, ap, ◌∙◌}
use mathlib.Core.List.{List}
use Prim.Native.Nat.{ℕ}
use native.Mathlib.Omega.{arith}
use lib.ListN.{length}
use borrow.Author.Tests.{le-leb, lt-leb, lt-ltb, le-ltb}
use Rattle.characters.specs.Characters.{same}
use Rattle.characters.specs.Ascii.{line_feed}
use Rattle.characters.specs.declared.Class.TheVariants.{Other}
use Rattle.characters.proofs.Runs.{run_le}
use Rattle.text_fields.specs.Fields.{until}
use Rattle.text_fields.proofs.Lines.{before_length}
use Rattle.text_description.specs.Description.{header}
use Rattle.text_description.proofs.Texts.{tells_refused, tells_as, too_long, no_header, header_alone, after_header}
use Rattle.text_description.proofs.reader.read_text.Goals as goal

pub returns-then-text-gt-MOST_BYTES : goal.returns-then-text-gt-MOST_BYTES
returns-then-text-gt-MOST_BYTES c = tells_refused _ _ _ _ _ _ _ _ (too_long _ (lt-leb _ _ c.if-text-gt-MOST_BYTES.true))

pub returns-then-not-is_same : goal.returns-then-not-is_same
returns-then-not-is_same c = tells_refused _ _ _ _ _ _ _ _
    (no_header _ (le-leb _ _ c.if-text-gt-MOST_BYTES.false)
    (ap (λ (l : List ℕ). same l header) (sym c.part_before-header.ensures) ∙ sym c.is_same.ensures ∙ c.if-not-is_same.true))

pub returns-then-header-text : goal.returns-then-header-text
returns-then-header-text c = tells_refused c.args.text.now _ _ _ _ _ _ _
    (header_alone c.args.text.now (le-leb _ _ c.if-text-gt-MOST_BYTES.false)
    (ap (λ (l : List ℕ). same l header) (sym c.part_before-header.ensures) ∙ sym c.is_same.ensures ∙ c.if-not-is_same.false)
    (le-ltb (until line_feed c.args.text.now) (length c.args.text.now) (omega (arith, c.if-header-text.true, ap length c.part_before-header.ensures ∙ before_length line_feed c.args.text.now))))

pub returns : goal.returns
returns c = tells_as c.args.text.now _ _ _ _ _ _ _
    (after_header c.args.text.now (le-leb _ _ c.if-text-gt-MOST_BYTES.false)
    (ap (λ (l : List ℕ). same l header) (sym c.part_before-header.ensures) ∙ sym c.is_same.ensures ∙ c.if-not-is_same.false)
    (lt-ltb (until line_feed c.args.text.now) (length c.args.text.now) (omega (arith, c.if-header-text.false, run_le (Other line_feed) c.args.text.now, ap length c.part_before-header.ensures ∙ before_length line_feed c.args.text.now))))
    c.read_lines.ensures
