-- "Steps worth marking", the marked ones as one table: the state before a step and the state after it, (L) at each of its four steps and
-- 6001 at its own step and the next; and those that document 02 adds. Machine words are octal.
-- Assumes nothing.
use Rattle.std.specs.Prelude.{List, [], ◌∷◌, ℕ, set, replicate}
use Rattle.state.specs.Limits.{memory_words}
use Rattle.machine_state.specs.State.{State, with_lac, with_pc, with_run, with_enable, stored}

pub record Mark : Type 0 where
  pub before : State
  pub after : State

-- RUN is 1, PC 0200, and every other register and word is 0
unfoldable pub ready : State
ready =
    record { lac = 0; pc = 0o200; run = 1; enable = 0; request = 0; switches = 0; memory = replicate memory_words 0 }

-- the image (L)
unfoldable pub image_l : State
image_l = stored 0o200 0o7300 (stored 0o201 0o1204 (stored 0o202 0o7001 (stored 0o203 0o7402 (stored 0o204 0o7777 ready))))

-- an instruction at 0200 and a LAC, and the LAC after it
abbrev on_lac : ℕ → ℕ → ℕ → Mark
on_lac i lac after =
    record { before = with_lac lac (stored 0o200 i ready); after = with_pc 0o201 (with_lac after (stored 0o200 i ready)) }

-- INTERRUPT.REQUEST 1, with 6001 at 0200 and 7000 at 0201
unfoldable pub requested : State
requested =
    record { lac = 0; pc = 0o200; run = 1; enable = 0; request = 1; switches = 0; memory = set (set (replicate memory_words 0) 0o200 0o6001) 0o201 0o7000 }

-- INTERRUPT.ENABLE 1, too, with another instruction at 0200
unfoldable pub pending : ℕ → State
pending i = with_enable 1 (stored 0o200 i requested)

unfoldable pub marked : List Mark
marked =
    -- "(L)": 7300, 1204, 7001, 7402
    record { before = image_l; after = with_pc 0o201 image_l }
    ∷ record { before = with_pc 0o201 image_l; after = with_pc 0o202 (with_lac 0o7777 image_l) }
    ∷ record { before = with_pc 0o202 (with_lac 0o7777 image_l); after = with_pc 0o203 (with_lac 0o10000 image_l) }
    ∷ record { before = with_pc 0o203 (with_lac 0o10000 image_l); after = with_pc 0o204 (with_run 0 (with_lac 0o10000 image_l)) }
    -- "LAC 17777 plus 0001 gives 00000"
    ∷ record { before = with_lac 0o17777 (stored 0o200 0o1205 (stored 0o205 1 ready)); after = with_pc 0o201 (stored 0o200 0o1205 (stored 0o205 1 ready)) }
    -- "7004 on LAC 10000 gives 00001; 7006 gives 00002; 7010 on 00001 gives 10000; 7014 changes nothing"
    ∷ on_lac 0o7004 0o10000 0o1
    ∷ on_lac 0o7006 0o10000 0o2
    ∷ on_lac 0o7010 0o1 0o10000
    ∷ on_lac 0o7014 0o12345 0o12345
    -- "1410 with M[0010] = 7777 makes it 0000 and adds M[0000]"
    ∷ record {
      before = stored 0o200 0o1410 (stored 0o10 0o7777 (stored 0 0o1234 ready));
      after = with_pc 0o201 (with_lac 0o1234 (stored 0o200 0o1410 (stored 0 0o1234 ready)));
    }
    -- "4420 at 0200 with M[0020] = 7777 stores 0201 at 7777 and leaves PC 0000"
    ∷ record {
      before = stored 0o200 0o4420 (stored 0o20 0o7777 ready);
      after = with_pc 0 (stored 0o7777 0o201 (stored 0o200 0o4420 (stored 0o20 0o7777 ready)));
    }
    -- "6001 at 0200, request 1: no interrupt until 0201 is done"
    ∷ record { before = requested; after = with_pc 0o201 (with_enable 1 requested) }
    ∷ record { before = with_pc 0o201 (with_enable 1 requested); after = with_pc 1 (stored 0 0o202 requested) }
    -- document 02, One: 7402 with INTERRUPT.ENABLE and INTERRUPT.REQUEST both 1; 7403, which doesn't halt, is tested
    ∷ record { before = pending 0o7402; after = with_pc 0o201 (with_run 0 (pending 0o7402)) }
    ∷ record { before = pending 0o7403; after = with_pc 1 (with_enable 0 (stored 0 0o201 (pending 0o7403))) }
    -- document 02, Three: "7550 with AC 0 no longer skips"
    ∷ on_lac 0o7550 0 0
    ∷ []
