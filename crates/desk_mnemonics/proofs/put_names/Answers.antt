-- `desk_mnemonics::put_names`: the names read have been written.
use Rattle.std.proofs.Common.{rules, arith, refl, ap, sym, ◌∙◌, append-nil}
use lib.ListN.{length}
use Rattle.page.proofs.Writing.{drafted_more}
use Rattle.desk_mnemonics.specs.Mnemonics.{names_of}
use Rattle.desk_mnemonics.proofs.Names.{names_within, text_more, marks_more}
use Rattle.desk_mnemonics.proofs.put_names.Goals as goal

pub loop-name-init : goal.loop-name-init
unfolding names_of
loop-name-init g c = (omega arith, refl, sym (append-nil _))

pub put_name-mark-requires : goal.put_name-mark-requires
put_name-mark-requires g c =
    (search rules, omega (arith, c.loop-name.invariant.0, ap length c.machine_names-names.ensures, names_within c.args.devices, c.loop-name-test.true, c.requires))

pub loop-name-preserved : goal.loop-name-preserved
loop-name-preserved g c = (
  omega (arith, c.loop-name.invariant.0, c.put_name-mark.ensures.room),
  c.put_name-mark.ensures.after ∙ marks_more c.args.i c.machine_names-names.result.now c.loop-name.name-index _ c.loop-name-test.true c.loop-name.mark c.loop-name.invariant.1,
  drafted_more _ _ _
      (text_more c.args.i c.machine_names-names.result.now c.loop-name.name-index _ c.loop-name-test.true c.loop-name.mark c.loop-name.invariant.1)
      c.loop-name.invariant.2
      c.put_name-mark.ensures.text,
)
