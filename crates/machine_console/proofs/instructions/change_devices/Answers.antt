-- `machine_console::instructions::change_devices`: a choice by the word for each register.
use Rattle.machine_console.proofs.Words.{changed_is}
use Rattle.machine_console.proofs.instructions.change_devices.Goals as goal

pub returns : goal.returns
returns c = changed_is c.args.i c.args.lac c.args.c _ _ _ _ c.pick.ensures c.pick-2.ensures c.pick-3.ensures c.pick-4.ensures
