-- "Turned down for the state": what is tried of memory, registers and budget, by both engines.
-- Assumes nothing.
use Rattle.std.specs.Prelude.{ℕ, suc, true, false, List, [], ◌∷◌, length, get_or, eqb, ltb, Some, None, Ok, Err}
use Rattle.std.specs.declared.option.Option.{Option}
use Rattle.word.specs.Choice.{pick}
use Rattle.word.specs.Word.{fits, word_bits}
use Rattle.state.specs.Limits.{memory_words, budget_limit, row_places}
use Rattle.state.specs.Refusals.{Verdict, or_else}
use Rattle.state.specs.declared.Refusal.{Refusal}
use Rattle.state.specs.declared.Refusal.TheVariants.{MemoryLength, Word, Register, Budget, RowList}

-- "the lowest offending place, from 0": the first place, counted from `at`, whose value has more bits than `width` gives the place, if one has
unfoldable pub first_too_wide : (ℕ → ℕ) → ℕ → List ℕ → Option ℕ
first_too_wide width at [] = None
first_too_wide width at (x ∷ xs) = elim (fits (width at) x) [ true ↦ first_too_wide width (suc at) xs | false ↦ Some at ]

-- a place that offends is refused
abbrev pub refused_at : (ℕ → Refusal) → Option ℕ → Verdict
refused_at why (Some place) = Err (why place)
refused_at why None = Ok tt

-- "12 a word above 4,095"
abbrev pub first_large_word : List ℕ → Option ℕ
first_large_word memory = first_too_wide (λ place. word_bits) 0 memory

-- "13 a register value wider than its register, or not 0 in the unused part": a place without a register has no bits
abbrev pub first_wide_register : List ℕ → List ℕ → Option ℕ
first_wide_register widths values = first_too_wide (λ place. get_or widths place 0) 0 values

-- "11 memory isn't 4,096 words", then 12
abbrev pub check_memory : List ℕ → Verdict
check_memory memory = pick (eqb (length memory) memory_words) (refused_at Word (first_large_word memory)) (Err MemoryLength)

-- 13, of the widths of the registers and the values in their places
abbrev pub check_registers : List ℕ → List ℕ → Verdict
check_registers widths values = refused_at Register (first_wide_register widths values)

-- "14 budget above 1,000,000"
abbrev pub check_budget : ℕ → Verdict
check_budget budget = pick (ltb budget_limit budget) (Err Budget) (Ok tt)

-- "in this order": 11 and 12, 13, 14
abbrev pub check_state : List ℕ → List ℕ → List ℕ → ℕ → Verdict
check_state widths values memory budget = or_else (check_memory memory) (or_else (check_registers widths values) (check_budget budget))

-- "15 (evaluator) row list shorter than 128 places"
abbrev pub check_row_list : ℕ → Verdict
check_row_list places = pick (ltb places row_places) (Err RowList) (Ok tt)
