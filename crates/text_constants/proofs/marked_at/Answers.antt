-- `text_constants::marked_at`: the digits that count, of so many bits each.
use mathlib.Core.Path.{sym}
use native.Mathlib.Omega.{arith}
use Rattle.characters.proofs.Runs.{after_start}
use Rattle.text_constants.proofs.Readings.{some_count, none_counts, found_as}
use Rattle.text_constants.proofs.marked_at.Goals as goal

pub overflow_sub-run_end : goal.overflow_sub-run_end
overflow_sub-run_end c = after_start c.args.class c.args.s.now c.args.at c.run_end.result c.run_end.ensures

pub returns-then-n-eq0 : goal.returns-then-n-eq0
returns-then-n-eq0 c = sym (none_counts c.args.class c.args.base c.args.size c.args.most c.args.s.now c.args.at c.run_end.result c.counted-n.result c.run_end.ensures c.counted-n.ensures c.if-n-eq0.true)

pub digits_value-requires : goal.digits_value-requires
digits_value-requires c = let counts =
    some_count c.args.class c.args.base c.args.size c.args.most c.args.s.now c.args.at c.run_end.result c.counted-n.result c.run_end.ensures c.counted-n.ensures c.requires c.if-n-eq0.false in
    omega (arith, c.requires.short, counts)

pub overflow_cast-result : goal.overflow_cast-result
overflow_cast-result c = let counts =
    some_count c.args.class c.args.base c.args.size c.args.most c.args.s.now c.args.at c.run_end.result c.counted-n.result c.run_end.ensures c.counted-n.ensures
    c.requires c.if-n-eq0.false in
    record { fits = rw c.digits_value.ensures counts.value }

pub overflow_mul-result : goal.overflow_mul-result
overflow_mul-result c = let counts =
    some_count c.args.class c.args.base c.args.size c.args.most c.args.s.now c.args.at c.run_end.result c.counted-n.result c.run_end.ensures c.counted-n.ensures
    c.requires c.if-n-eq0.false in
    record { fits = omega (arith, counts.width) }

pub overflow_cast-result-2 : goal.overflow_cast-result-2
overflow_cast-result-2 c = let counts =
    some_count c.args.class c.args.base c.args.size c.args.most c.args.s.now c.args.at c.run_end.result c.counted-n.result c.run_end.ensures c.counted-n.ensures
    c.requires c.if-n-eq0.false in
    record { fits = omega (arith, counts.width) }

pub overflow_add-result : goal.overflow_add-result
overflow_add-result c = let counts =
    some_count c.args.class c.args.base c.args.size c.args.most c.args.s.now c.args.at c.run_end.result c.counted-n.result c.run_end.ensures c.counted-n.ensures
    c.requires c.if-n-eq0.false in
    record { fits = omega (arith, counts.inside) }

pub returns : goal.returns
returns c = let counts =
    some_count c.args.class c.args.base c.args.size c.args.most c.args.s.now c.args.at c.run_end.result c.counted-n.result c.run_end.ensures c.counted-n.ensures
    c.requires c.if-n-eq0.false in
    found_as c.args.class c.args.base c.args.size c.args.most c.args.s.now c.args.at c.counted-n.result _ _ _ counts.end counts.some counts.few
    c.digits_value.ensures (omega arith) (omega arith)
