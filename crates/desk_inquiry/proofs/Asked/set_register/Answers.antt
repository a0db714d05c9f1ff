-- `desk_inquiry::Asked::set_register`: nothing is set past the end.
use Rattle.std.proofs.Common.{◌≡◌, ℕ, ◌≤◌, ◌||◌, List, length, take, sym, refl, ap, arith, rules}
use lib.Seq.{set_out}
use Rattle.desk_inquiry.specs.Input.{is_devices, entered}
use Rattle.desk_inquiry.proofs.Asked.set_register.Goals as goal

pub returns-then-place-lt-DESK_REGISTERS : goal.returns-then-place-lt-DESK_REGISTERS
unfolding entered
returns-then-place-lt-DESK_REGISTERS c = λ memory value. refl

pub returns-else-place-lt-DESK_REGISTERS : goal.returns-else-place-lt-DESK_REGISTERS
unfolding entered
returns-else-place-lt-DESK_REGISTERS c =
    let a = c.args.self.now in
    let size : length a.registers ≡ 11 = (search rules) in
    let past : length a.registers ≤ c.args.place = omega (arith, size, c.if-place-lt-DESK_REGISTERS.false) in
    λ memory value.
    ap (λ (l : List ℕ). record { registers = l; budget = a.budget; memory = memory; input = take a.typed a.input; devices = is_devices c.args.place || a.devices })
    (sym (set_out a.registers c.args.place c.args.v past))
