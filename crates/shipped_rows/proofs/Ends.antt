-- Where rows end: from a state of the rows, the machine's state and the devices that they leave, with working registers that fit. A rule for each kind of row
-- and of test. The judgement is nominal, so that rows, states and ends are compared and never half-run cycles.
-- Assumes nothing.
use mathlib.Core.Path.{◌≡◌, refl, ap, ◌∙◌}
use mathlib.Core.Bool.{Bool, true, false, not}
use mathlib.Core.List.{List, [], ◌∷◌}
use Prim.Native.Nat.{◌-◌}
use lib.ListN.{length}
use Rattle.word.specs.Choice.{on, pick}
use Rattle.word.proofs.Choice.{case_true, case_false}
use Rattle.devices.specs.declared.Devices.{Devices}
use Rattle.machine_state.specs.State.{State, Good}
use Rattle.text_code.specs.Tree.{Expr, Destination}
use Rattle.text_declaration.specs.Rows.{Row, does}
use Rattle.rows_value.specs.Value as rows
use Rattle.rows_value.specs.Value.{value, store}
use Rattle.shipped_rows.specs.Variant.{Variant}
use Rattle.shipped_rows.proofs.Tree.{go_to, rows·interrupt}
use Rattle.shipped_rows.proofs.Labels.{Below, lands}
use Rattle.shipped_rows.proofs.Places.{Work, Fit, in_places}
use Rattle.shipped_rows.proofs.Unnoted.{unnoted, unnoted_drop}

pub record Ends (v : Variant) (c : Devices) (rs : List Row) (s : rows.State) (o : State) : Type 0 where
  pub left : Work
  pub fits : Fit left
  pub same : unnoted rs 0 s ≡ in_places v c o left

module _ {v : Variant} {after : Devices} where
  -- past the last row
  pub past : {o : State} {w : Work} → Fit w → Ends v after [] (in_places v after o w) o
  unfolding unnoted
  past {o} {w} f = record { left = w; fits = f; same = refl }

  -- rows from which a cycle goes on as it does from others
  goes_on : {rs qs : List Row} {s t : rows.State} {o : State} → unnoted rs 0 s ≡ unnoted qs 0 t → Ends v after qs t o → Ends v after rs s o
  goes_on e r = record { left = r.left; fits = r.fits; same = e ∙ r.same }

  -- another name of the same state
  pub seen : {rs : List Row} {s t : rows.State} {o : State} → s ≡ t → Ends v after rs t o → Ends v after rs s o
  seen {rs} e r = goes_on (ap (unnoted rs 0) e) r

  module _ {c : Expr} {d : Destination} {e : Expr} {rs : List Row} where
    -- a `do` that acts, and leaves t
    pub acts : {s : rows.State} {o : State} (t : rows.State) → on (value s c) ≡ true → store s d (value s e) ≡ t → Ends v after rs t o → Ends v after (does c d e ∷ rs) s o
    unfolding unnoted
    acts {s} t test eq r = goes_on (case_true (on (value s c)) (unnoted rs 0 (store s d (value s e))) (unnoted rs 0 s) test ∙ ap (unnoted rs 0) eq) r

    -- one that does not
    pub idles : {s : rows.State} {o : State} → on (value s c) ≡ false → Ends v after rs s o → Ends v after (does c d e ∷ rs) s o
    unfolding unnoted
    idles {s} test r = goes_on (case_false (on (value s c)) (unnoted rs 0 (store s d (value s e))) (unnoted rs 0 s) test) r

    -- a `do` by a test, that makes f y of f x
    pub moved : {A : Type 0} {o : State} (f : A → rows.State) (x y : A) (t : Bool) → on (value (f x) c) ≡ t → store (f x) d (value (f x) e) ≡ f y
        → Ends v after rs (f (pick t y x)) o → Ends v after (does c d e ∷ rs) (f x) o
    moved f x y true test eq r = acts (f y) test eq r
    moved f x y false test eq r = idles test r

  module _ {c : Expr} {label rs : List Row} where
    -- a `go` that acts lands on its label, and one that does not goes on below
    pub jumps : {s : rows.State} {o : State} → Below label rs → on (value s c) ≡ true → Ends v after label s o → Ends v after (go_to c label rs) s o
    unfolding unnoted
    jumps {s} below test r =
        goes_on
        (case_true (on (value s c)) (unnoted rs (length rs - length label) s) (unnoted rs 0 s) test
        ∙ unnoted_drop rs (length rs - length label) s
        ∙ ap (λ (l : List Row). unnoted l 0 s) (lands below)) r

    pub stays : {s : rows.State} {o : State} → Below label rs → on (value s c) ≡ false → Ends v after rs s o → Ends v after (go_to c label rs) s o
    unfolding unnoted
    stays {s} below test r = goes_on (case_false (on (value s c)) (unnoted rs (length rs - length label) s) (unnoted rs 0 s) test) r

    -- a `go` by a test that decides the end
    pub decides : {s : rows.State} → Below label rs → (P : Bool → State) (t : Bool) → on (value s c) ≡ t → Ends v after label s (P true) → Ends v after rs s (P false)
        → Ends v after (go_to c label rs) s (P t)
    decides below P true test a b = jumps below test a
    decides below P false test a b = stays below test b

    -- the same where it goes if the test does not hold
    pub unless : {s : rows.State} → Below label rs → (P : Bool → State) (t : Bool) → on (value s c) ≡ not t → Ends v after label s (P false) → Ends v after rs s (P true)
        → Ends v after (go_to c label rs) s (P t)
    unless below P true test a b = stays below test b
    unless below P false test a b = jumps below test a

    -- the same by cases in what the machine still does
    pub branches : {s : rows.State} {x y : State} → Below label rs → (F : State → State) (t : Bool) → on (value s c) ≡ t → Ends v after label s (F x) → Ends v after rs s (F y)
        → Ends v after (go_to c label rs) s (F (pick t x y))
    branches {s} {x} {y} below F t test a b = decides below (λ u. F (pick u x y)) t test a b

-- an interrupt test that the rows below `interrupt` make: the other rows are shown to end as the machine does, whatever test that is
pub record Tested (v : Variant) (c : Devices) (test : State → State) : Type 0 where
  pub ends : (o : State) (w : Work) → Good o → Fit w → Ends v c (rows·interrupt v) (in_places v c o w) (test o)
