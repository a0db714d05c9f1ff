-- "Ops" 0 to 5, which work on the word at an address e. "The result, e, is worked out once in an instruction of ops 0 to 5".
-- Assumes nothing.
use Rattle.std.specs.Prelude.{ℕ, ◌+◌, ◌%◌, ◌^◌, [], ◌∷◌, eqb, get_or}
use Rattle.std.specs.Int.Bits.{bit_and}
use Rattle.word.specs.Choice.{pick}
use Rattle.word.specs.Word.{next}
use Rattle.machine_state.specs.State.{State, lac_bits, word, stored, with_lac, with_pc, with_memory, ac, with_ac}
use Rattle.machine_state.specs.Instruction.{op}
use Rattle.machine_reference.specs.Address.{effective, after_indexing}

-- "0: AC = AC And M[e]"
abbrev pub and_to : ℕ → State → State
and_to e s = with_lac (with_ac s.lac (bit_and (ac s.lac) (word e s))) s

-- "1: LAC = LAC + M[e] modulo 8,192, M[e] extended by a zero bit"
abbrev pub add_to : ℕ → State → State
add_to e s = with_lac ((s.lac + word e s) % 2 ^ lac_bits) s

-- "2: increase M[e]; if it is now 0, PC + 1"
abbrev pub increment_and_skip : ℕ → State → State
increment_and_skip e s = with_pc (pick (eqb (next (word e s)) 0) (next s.pc) s.pc) (stored e (next (word e s)) s)

-- "3: M[e] = AC, then AC = 0"
abbrev pub deposit : ℕ → State → State
deposit e s = with_lac (with_ac s.lac 0) (stored e (ac s.lac) s)

-- "4: M[e] = PC, then PC = e + 1"
abbrev pub call_at : ℕ → State → State
call_at e s = with_pc (next e) (stored e s.pc s)

-- "5: PC = e"
abbrev pub jump_to : ℕ → State → State
jump_to e s = with_pc e s

-- by the op's number, of which 5 is the last
unfoldable pub operation : ℕ → ℕ → State → State
operation n e s = get_or (and_to ∷ add_to ∷ increment_and_skip ∷ deposit ∷ call_at ∷ []) n jump_to e s

-- the instruction i that was fetched from `last`: address, then operation
unfoldable pub reference : ℕ → ℕ → State → State
reference i last s = operation (op i) (effective i last s.memory) (with_memory (after_indexing i last s.memory) s)
