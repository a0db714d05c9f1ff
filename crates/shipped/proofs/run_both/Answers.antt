-- `shipped::run_both`: the claim of the two programs' own answers.
use Rattle.shipped_rows.specs.Variant.{variant_of}
use Rattle.shipped.proofs.Unrefused.{together}
use borrow.Author.Rules.{rules}
use Rattle.shipped.proofs.run_both.Goals as goal

pub returns : goal.returns
returns c =
    together (variant_of c.args.devices) c.args.m c.args.c c.args.registers.values c.args.first.now c.args.second.now c.args.budget c.args.rows.now c.args.input.now
    c.args.left.now c.args.right.now _ _ (search rules) c.emulate_variant-emulated.ensures c.evaluate_variant-evaluated.ensures
