-- The entry's laws: what the reader's tables, the checks and the run over the tables come to, by the definitions.
-- Assumes nothing.
use mathlib.Core.Path.{◌≡◌, refl, sym, ap, ap₂, subst, ◌∙◌}
use mathlib.Core.Bool.{Bool, true, false, ◌&&◌}
use mathlib.Core.List.{List, [], ◌∷◌, ◌++◌}
use Prim.Native.Nat.{ℕ, suc, ◌-◌, ◌*◌, ◌%◌, ◌≤◌, ◌<◌}
use native.Mathlib.Nat.{mod-eq_of_lt}
use native.Mathlib.Omega.{arith}
use lib.Dec.{eqb, ltb}
use lib.ListN.{length, get_or, take, drop, replicate, get_or-eq_default}
use lib.Seq.{sets}
use borrow.Author.Tests.{ltb-true, ltb-false}
use Rattle.std.specs.Prelude.{Ok, Err}
use Rattle.word.specs.Choice.{pick}
use Rattle.word.specs.Word.{widest, fits}
use Rattle.state.specs.Limits.{memory_words, budget_limit}
use Rattle.state.specs.Acceptable.{Acceptable, Fitting}
use Rattle.state.specs.Refusals.{reason_with, Verdict, or_else}
use Rattle.state.specs.Refusals as state
use Rattle.state.specs.Checks.{first_too_wide, refused_at, check_memory, check_budget, check_state, check_row_list}
use Rattle.state.specs.declared.Reason.{Reason}
use Rattle.state.specs.declared.Refusal.{Refusal}
use Rattle.state.specs.declared.Refusal.TheVariants.{Register}
use Rattle.std.specs.Prelude.{Some, None, Ok, Err, cond, is_some}
use Rattle.std.specs.declared.option.Option.{Option}
use Rattle.state.proofs.Accepted.{row_list_long, both_fit, state_sound}
use Rattle.text_limits.specs.Limits.{most_rows, most_registers}
use Rattle.characters.specs.Named.{Named, find, found as place_found}
use Rattle.characters.proofs.Searches.{found_at}
use Rattle.text_names.specs.Dictionaries.{entries, number_at}
use Rattle.laws.proofs.Joined.{and_left}
use Rattle.laws.proofs.Tests.{by_test}
use Rattle.text_bit_parts.specs.References.{width_in}
use Rattle.text_names.proofs.Entries.{entries_length}
use Rattle.text_bit_parts.proofs.Listed.{width_is}
use Rattle.text_code.proofs.Formed.{register_width}
use Rattle.text_declaration.specs.Rows.{Description}
use Rattle.text_declaration.specs.Faults.{number_of}
use Rattle.text_code.specs.RowTable.{row_cells}
use Rattle.text_description.specs.declared.reader.Description as found
use Rattle.text_description.specs.declared.reader.Refusal as reader
use Rattle.text_rows.specs.Cells as row
use Rattle.text_description.specs.Description.{accepted, turned_down, run_name, read_text}
use Rattle.text_description.specs.Formed.{Formed}
use Rattle.text_description.specs.Stored.{Leaves}
use Rattle.text_description.proofs.Texts.{rows_of, leaves_is, leaves_turned_down, leaves_rows}
use Rattle.text_description.proofs.Formed.{accepted_keeps}
use Rattle.rows_value.specs.Value.{State}
use Rattle.rows_value.specs.Fitting as fitting
use Rattle.rows_value.specs.Words.{code_places}
use Rattle.rows_value.proofs.Widths.{width_of_lem}
use Rattle.runs.specs.Run as runs
use Rattle.runs.specs.Run.{Ended}
use Rattle.devices.specs.Devices.{written, device_registers}
use Rattle.devices.specs.Held.{Bytes}
use Rattle.devices.specs.Session.{Session, opened, Exchange, exchanged, untouched}
use Rattle.rows_cycles.specs.Cycle.{Cycle}
use Rattle.rows_cycles.specs.Run.{running, run}
use Rattle.rows_cycles.specs.Devices.{has_devices, device_places, run_devices}
use Rattle.rows_cycles.specs.declared.run.Course as course
use Rattle.rows_cycles.specs.Stored.{run_at, room_for, Coursed}
use Rattle.rows_cycles.proofs.TableRuns.{tables_run, tables_run_devices}
use Rattle.evaluator.specs.Evaluate.{Report, refused, ended, finished, widths_of, check, evaluate_of, evaluate, outcome_of}
use Rattle.evaluator.specs.Evaluate.{DeviceReport, device_report, without, finished_devices, run_of, evaluate_devices_of, evaluate_devices}
use Rattle.evaluator.specs.Evaluate as answer
use Rattle.evaluator.specs.Lent.{attached, lent_run, finished_lent, evaluate_lent}
use Rattle.evaluator.specs.Padded.{width_at, padded, check_padded}
use Rattle.evaluator.proofs.Padding.{padded_at, padded_past}

-- what a run comes to, by another reading of RUN that is the same at its end
finished_by : (places : Option (List ℕ)) (f g : State → ℕ) (r : Ended (Session Cycle)) (list input output : List ℕ)
    → f r.left.engine.state ≡ g r.left.engine.state → finished_lent places f r list input output ≡ finished_lent places g r list input output
finished_by places f g r list input output e =
    ap (λ (n : ℕ). record {
      report = ended (reason_with n (room_for (is_some places) (length output) r.left)) r.steps r.left.engine list;
      exchange = exchanged input output r.left;
    }) e

-- a session in which nothing was read or printed
exchanged_none : (c : Cycle) (input output : List ℕ) → exchanged input output (opened c input) ≡ untouched output
unfolding written
exchanged_none c input output = ap (λ (n : ℕ). record { read = n; printed = 0; output = output }) {x = length input - length input} {y = 0} (omega arith)

-- the checks go by each place's width alone
too_wide_ext : (f g : ℕ → ℕ) → ((k : ℕ) → f k ≡ g k) → (at : ℕ) (xs : List ℕ) → first_too_wide f at xs ≡ first_too_wide g at xs
unfolding first_too_wide
too_wide_ext f g e at [] = refl
too_wide_ext f g e at (x ∷ xs) =
    ap (λ (w : ℕ). elim (fits w x) [ true ↦ first_too_wide f (suc at) xs | false ↦ Some at ]) (e at)
    ∙ ap (λ (n : Option ℕ). elim (fits (g at) x) [ true ↦ n | false ↦ Some at ]) (too_wide_ext f g e (suc at) xs)

state_ext : (v w : List ℕ) → ((k : ℕ) → get_or v k 0 ≡ get_or w k 0) → (values memory : List ℕ) (budget : ℕ)
    → check_state v values memory budget ≡ check_state w values memory budget
state_ext v w e values memory budget =
    ap (λ (n : Option ℕ). or_else (check_memory memory) (or_else (refused_at Register n) (check_budget budget)))
    (too_wide_ext (λ k. get_or v k 0) (λ k. get_or w k 0) e 0 values)

-- a text that the reader turns down
module _ (text : List ℕ) (e : reader.Refusal) {code₀ code table₀ table : List ℕ} (leaves : Leaves (read_text text) text (Err e) code₀ code table₀ table) where
  read_refused : read_text text ≡ turned_down e.fault e.line
  read_refused = leaves_turned_down text (read_text text) e leaves

  pub text_refused : (registers memory : List ℕ) (budget : ℕ) (list : List ℕ)
      → evaluate text registers memory budget list ≡ refused (number_of e.fault) e.line registers memory list
  unfolding evaluate evaluate_of
  text_refused registers memory budget list = ap (λ a. evaluate_of a registers memory budget list) read_refused

  pub lent_text_refused : (lends : Bool) (registers memory : List ℕ) (budget : ℕ) (list input output : List ℕ)
      → evaluate_lent lends text registers memory budget list input output ≡ without (refused (number_of e.fault) e.line registers memory list) output
  unfolding evaluate_devices evaluate_devices_of
  lent_text_refused true registers memory budget list input output = ap (λ a. evaluate_devices_of a registers memory budget list input output) read_refused
  lent_text_refused false registers memory budget list input output = ap (λ (x : Report). without x output) (text_refused registers memory budget list)

-- a text, the description that the reader answers, and the tables that it leaves
module _ (text : List ℕ) (r : found.Description) where
  abbrev described : Description
  described = record { registers = entries text r.registers; rows = rows_of (read_text text) }

  module _ {code₀ code table₀ table : List ℕ} (leaves : Leaves (read_text text) text (Ok r) code₀ code table₀ table) where
    read_is : read_text text ≡ accepted described
    read_is = leaves_is text (read_text text) r leaves

    stored : (r.rows ≡ length described.rows) × ((code ≡ sets code₀ 0 (row.code described.rows)) × (table ≡ sets table₀ 0 (row.cells 0 described.rows)))
    stored = leaves_rows text (read_text text) r code₀ code table₀ table leaves

    formed : Formed described
    formed = (accepted_keeps text described read_is).formed

    count_is : length described.registers ≡ r.registers.count
    count_is = entries_length text r.registers

    -- the width at a place, 0 where there is no register
    none_past : (k : ℕ) → length described.registers ≤ k → width_in described.registers k ≡ 0
    none_past k h = ap (λ (e : Named). e.number) (get_or-eq_default described.registers (record { name = []; number = 0 }) h)

    width_told : (k : ℕ) → width_at r.registers k ≡ width_in described.registers k
    width_told k =
        by_test (ltb k r.registers.count)
        (λ t. ap (λ (b : Bool). pick b (number_at r.registers k) 0) t ∙ sym (width_is text r.registers k (ltb-true k r.registers.count t)))
        (λ t. ap (λ (b : Bool). pick b (number_at r.registers k) 0) t ∙ sym (none_past k (omega (arith, count_is, ltb-false k r.registers.count t))))

    pub widths_narrow : (k : ℕ) → width_at r.registers k ≤ widest
    widths_narrow k =
        subst (λ (n : ℕ). n ≤ widest) (sym (width_told k))
        (by_test (ltb k (length described.registers))
        (λ t. (register_width described.registers k formed.registers_fit (ltb-true k (length described.registers) t)).1)
        (λ t. subst (λ (n : ℕ). n ≤ widest) (sym (none_past k (ltb-false k (length described.registers) t))) (omega arith)))

    same_width : (k : ℕ) → get_or (padded r.registers) k 0 ≡ get_or (widths_of described) k 0
    same_width k =
        by_test (ltb k most_registers)
        (λ t. padded_at r.registers k (ltb-true k most_registers t) ∙ width_told k)
        (λ t. padded_past r.registers k (ltb-false k most_registers t) ∙ sym (none_past k (omega (arith, formed.few_registers, ltb-false k most_registers t))))
        ∙ sym (width_of_lem described.registers k refl)

    -- RUN's place
    run_there : place_found run_name described.registers ≡ Some (find run_name described.registers)
    run_there =
        let rs = described.registers in
        let place = find run_name rs in
        rw (and_left (ltb place (length rs)) (eqb (width_in rs place) 1) formed.has_run_lem) refl

    pub has_place : {o : Option ℕ} → o ≡ place_found run_name described.registers → is_some o ≡ true
    has_place e = ap is_some (e ∙ run_there)

    pub place_is : {o : Option ℕ} {place : ℕ} → o ≡ place_found run_name described.registers → o ≡ Some place → place ≡ find run_name described.registers
    place_is e f = sym (found_at run_name described.registers (sym e ∙ f)).1

    run_below : find run_name described.registers < most_registers
    run_below =
        let rs = described.registers in
        let place = find run_name rs in
        let h = ltb-true place (length rs) (and_left (ltb place (length rs)) (eqb (width_in rs place) 1) formed.has_run_lem) in
        omega (arith, h, formed.few_registers)

    run_read : (place : ℕ) → place ≡ find run_name described.registers → (s : State) → run_at place s ≡ running described s
    run_read place e s = ap (λ (k : ℕ). get_or s.registers k 0) (ap (λ (k : ℕ). k % most_registers) e ∙ mod-eq_of_lt run_below)

    -- a state, and what the checks by the dictionary's widths found of it
    module _ (registers memory : List ℕ) (budget : ℕ) (list : List ℕ) {found : Verdict}
        (found-is : found ≡ or_else (check_padded r.registers registers memory budget) (check_row_list (length list))) where
      abbrev start : State
      start = record { registers = registers; memory = memory }

      checked : found ≡ check described registers memory budget list
      checked =
          found-is
          ∙ ap (λ (v : Verdict). or_else v (check_row_list (length list))) (state_ext (padded r.registers) (widths_of described) same_width registers memory budget)

      abbrev by_verdict : Verdict → Report
      by_verdict (Ok fit) = finished (running described) (run described budget start) list
      by_verdict (Err why) = refused (state.number_of why) (state.place_of why) registers memory list

      evaluated : {v : Verdict} → found ≡ v → evaluate text registers memory budget list ≡ by_verdict v
      unfolding evaluate evaluate_of
      evaluated e = ap (λ a. evaluate_of a registers memory budget list) read_is ∙ ap by_verdict (sym checked ∙ e)

      -- input and output, and whether they are lent
      module _ (input output : List ℕ) where
        abbrev devices_by_verdict : Verdict → DeviceReport
        devices_by_verdict (Ok fit) = run_of described start budget list input output
        devices_by_verdict (Err why) = without (refused (state.number_of why) (state.place_of why) registers memory list) output

        evaluated_devices : {v : Verdict} → found ≡ v → evaluate_devices text registers memory budget list input output ≡ devices_by_verdict v
        unfolding evaluate_devices evaluate_devices_of
        evaluated_devices e =
            ap (λ a. evaluate_devices_of a registers memory budget list input output) read_is ∙ ap devices_by_verdict (sym checked ∙ e)

        pub lent_state_refused : (lends : Bool) (why : Refusal) → found ≡ Err why
            → evaluate_lent lends text registers memory budget list input output
            ≡ without (refused (state.number_of why) (state.place_of why) registers memory list) output
        lent_state_refused true why e = evaluated_devices e
        lent_state_refused false why e = ap (λ (x : Report). without x output) (evaluated e)

        -- with devices, or without
        abbrev by_devices : Bool → DeviceReport
        by_devices devices =
            elim devices [
              | true ↦ finished_devices (running described) (run_devices described (length output) budget start input) list input output
              | false ↦ without (finished (running described) (run described budget start) list) output
            ]

        lent_fit : (lends : Bool) → found ≡ Ok tt → evaluate_lent lends text registers memory budget list input output ≡ by_devices (lends && has_devices described)
        lent_fit true e = evaluated_devices e
        lent_fit false e = ap (λ (x : Report). without x output) (evaluated e)

      -- a state that passes the checks
      module _ (e : found ≡ Ok tt) where
        outer : (check_state (widths_of described) registers memory budget ≡ Ok tt) × (check_row_list (length list) ≡ Ok tt)
        outer = both_fit (check_state (widths_of described) registers memory budget) (check_row_list (length list)) (sym checked ∙ e)

        sound : Acceptable memory × Fitting (widths_of described) registers × (budget ≤ budget_limit)
        sound = state_sound (widths_of described) registers memory budget outer.0

        -- the rows are within their limit, memory has its words, and the caller's list has room
        pub run_ready : (r.rows ≤ most_rows) × ((length memory ≡ memory_words) × (most_rows ≤ length list))
        run_ready =
            (omega (arith, stored.0, formed.few_rows), (sound.0.size, row_list_long (length list) outer.1))

        fits_registers : length registers ≡ most_registers → fitting.Fit described.registers start
        fits_registers places =
            record { places = places; values = sound.1; words = sound.0 }

        module _ (places : length registers ≡ most_registers) (lc : length code₀ ≡ code_places) (lt : length table₀ ≡ row_cells * most_rows)
            (place : ℕ) (p : place ≡ find run_name described.registers) (input output : List ℕ) (bytes : Bytes input) where
          abbrev ran : Option (List ℕ) → Ended (Session Cycle)
          ran places = lent_run code table r.rows place places (length output) budget start input

          run_with : has_devices described ≡ true
              → finished_lent (Some (device_places described)) (run_at place) (ran (Some (device_places described))) list input output ≡ by_devices input output true
          run_with h =
              let there : Option (List ℕ) = Some (device_places described) in
              let last = (run_devices described (length output) budget start input).left.engine.state in
              ap (λ (x : Ended (Session Cycle)). finished_lent there (run_at place) x list input output)
              (tables_run_devices described formed code₀ table₀ code table r.rows place stored.0 lc lt stored.1.0 stored.1.1
              (run_read place p) h (length output) budget start input (fits_registers places) bytes)
              ∙ finished_by there (run_at place) (running described) (run_devices described (length output) budget start input) list input output (run_read place p last)

          run_without : finished_lent None (run_at place) (ran None) list input output ≡ by_devices input output false
          run_without =
              let r₀ = run described budget start in
              let end : Ended (Session Cycle) = runs.ended r₀.steps (opened r₀.left input) in
              ap (λ (x : Ended (Session Cycle)). finished_lent None (run_at place) x list input output)
              (tables_run described formed code₀ table₀ code table r.rows place stored.0 lc lt stored.1.0 stored.1.1
              (run_read place p) (replicate (length device_registers) 0) (length output) input budget start (fits_registers places))
              ∙ finished_by None (run_at place) (running described) end list input output (run_read place p r₀.left.state)
              ∙ ap (λ (x : Exchange). record { report = finished (running described) r₀ list; exchange = x }) (exchanged_none r₀.left input output)

          -- by whether input and output are lent, and whether all five registers are there
          abbrev used : Bool → Bool → Option (List ℕ)
          used lends all = cond lends (cond all (Some (device_places described)) None) None

          run_used : (lends all : Bool) → has_devices described ≡ all
              → finished_lent (used lends all) (run_at place) (ran (used lends all)) list input output ≡ by_devices input output (lends && all)
          run_used true true h = run_with h
          run_used true false h = run_without
          run_used false all h = run_without

          pub run_told : (lends : Bool) (found : Option (List ℕ)) → found ≡ cond lends (attached described.registers) None
              → finished_lent found (run_at place) (ran found) list input output ≡ evaluate_lent lends text registers memory budget list input output
          run_told lends found is =
              ap (λ (ps : Option (List ℕ)). finished_lent ps (run_at place) (ran ps) list input output) is
              ∙ run_used lends (has_devices described) refl
              ∙ sym (lent_fit input output lends e)

-- a run's end and the rows put at the front of a caller's list
pub finish : (places : Option (List ℕ)) (place : ℕ) (input output : List ℕ) (x : Ended (Session Cycle)) (t : course.Course) (memory list after rows rows' : List ℕ)
    → Coursed (is_some places) place input output x t memory list after → rows' ≡ take t.listed list ++ drop t.listed rows
    → device_report
    (record { answer = record { registers = t.registers; outcome = answer.ran t.reason t.steps t.listed }; read = t.read; printed = t.printed })
    memory rows' after
    ≡ finished_lent places (run_at place) x rows input output
finish places place input output x t memory list after rows rows' k e =
    let last = x.left.engine in
    let why = reason_with (run_at place last.state) (room_for (is_some places) (length output) x.left) in
    ap₂ (λ (p : Report) (q : Exchange). record { report = p; exchange = q })
    (ap (λ (s : State). outcome_of (answer.ran t.reason t.steps t.listed) s.registers s.memory rows') k.state_is
    ∙ ap₂ (λ (w : Reason) (n : ℕ). outcome_of (answer.ran w n t.listed) last.state.registers last.state.memory rows') k.reason_is k.steps_are
    ∙ ap₂ (λ (n : ℕ) (l : List ℕ). outcome_of (answer.ran why x.steps n) last.state.registers last.state.memory l) k.count_is
    (e ∙ ap₂ (λ (l : List ℕ) (n : ℕ). l ++ drop n rows) k.list_is k.count_is))
    k.exchange_is
