-- `rows_value::value_of`: word by word.
use mathlib.Core.Path.{sym, ap, ◌∙◌}
use native.Mathlib.Omega.{arith}
use Prim.Native.Nat.{◌+◌, ◌-◌, ◌*◌}
use lib.ListN.{get_or}
use Rattle.rows_value.specs.Value.{State}
use Rattle.rows_value.specs.Words.{Stack}
use Rattle.rows_value.proofs.Words.{few_pops, next_word, no_words}
use borrow.Author.Rules.{rules}
use Rattle.rows_value.proofs.value_of.Goals as goal

pub overflow_sub-base : goal.overflow_sub-base
overflow_sub-base c = omega (arith, few_pops _ _ c.pops.ensures)

pub loop-k-preserved : goal.loop-k-preserved
loop-k-preserved c = let s : State = record { registers = c.args.r.now; memory = c.args.memory.now } in
    record {
      shallow = search rules;
      same = c.loop-k.invariant.same ∙ next_word s c.args.code.now c.args.from c.loop-k.k c.args.n c.loop-k.stack c.loop-k.depth _ _ c.loop-k-test.true c.pops.ensures c.word_value.ensures;
    }

pub returns : goal.returns
returns c = let s : State = record { registers = c.args.r.now; memory = c.args.memory.now } in
    sym (ap (λ (z : Stack). get_or z.places 0 0) (c.loop-k.invariant.same ∙ no_words s c.args.code.now (c.args.from + 4 * c.loop-k.k) (c.args.n - c.loop-k.k) _ (omega (arith, c.loop-k-test.false))))
