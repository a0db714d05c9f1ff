-- Labels: the rows of each stand below every row that goes there, in every variant, and a `go` lands on them.
-- Assumes nothing.
use mathlib.Core.Path.{◌≡◌, refl, sym, ap, ◌∙◌}
use mathlib.Core.List.{List, [], ◌∷◌, ◌++◌, append-nil, append_assoc}
use Prim.Native.Nat.{ℕ, ◌+◌, ◌-◌}
use native.Mathlib.Omega.{arith}
use lib.ListN.{length, drop, length-append}
use lib.Seq.{drop-append_seam}
use Rattle.text_declaration.specs.Rows.{Row}
use Rattle.shipped_rows.specs.Variant.{Variant, plain, devices}
use Rattle.shipped_rows.proofs.Tree.{
  rows·devices,
  rows·interrupt,
  rows·group3,
  rows·decided,
  rows·second,
  rows·group2,
  rows·twice,
  rows·opr,
  rows·iot,
  rows·jms,
  rows·dca,
  rows·isz,
  rows·tad,
  rows·and,
  rows·jmp,
  rows·execute,
  rows·address,
}

-- ---- rows that stand below

pub record Below (label rs : List Row) : Type 0 where
  pub above : List Row
  pub is : rs ≡ above ++ label

pub here : {label : List Row} → Below label label
here = record { above = []; is = refl }

pub under : {r : Row} {label rs : List Row} → Below label rs → Below label (r ∷ rs)
under {r} b = record { above = r ∷ b.above; is = ap (λ (l : List Row). r ∷ l) b.is }

-- and rows below those
pub through : {a b c : List Row} → Below a b → Below b c → Below a c
through {a} p q = record { above = q.above ++ p.above; is = q.is ∙ ap (λ (l : List Row). q.above ++ l) p.is ∙ sym (append_assoc q.above p.above a) }

-- past the last row stand none
pub at_the_end : (rs : List Row) → Below [] rs
at_the_end rs = record { above = rs; is = sym (append-nil rs) }

back : (m n : ℕ) → m + n - n ≡ m
back m n = omega arith

-- a `go` passes over the rows above its label, and lands on it
pub lands : {label rs : List Row} → Below label rs → drop (length rs - length label) rs ≡ label
lands {label} b =
    ap (λ (l : List Row). drop (length l - length label) l) b.is
    ∙ ap (λ (n : ℕ). drop n (b.above ++ label)) (ap (λ (n : ℕ). n - length label) (length-append b.above label) ∙ back (length b.above) (length label))
    ∙ drop-append_seam b.above label

-- what stands below the rest stands below the rows that only some variants have, too
pub under_devices : (v : Variant) {label rest : List Row} → Below label rest → Below label (rows·devices v rest)
under_devices plain b = b
under_devices devices b = under (under (under (under (under (under (under b))))))

-- ---- the labels: of two in a name, the first stands below the second

module _ (v : Variant) where
  pub interrupt_group3 : Below (rows·interrupt v) (rows·group3 v)
  interrupt_group3 = under here

  group3_decided : Below (rows·group3 v) (rows·decided v)
  group3_decided = under (under (under (under (under (under here)))))

  pub group3_second : Below (rows·group3 v) (rows·second v)
  group3_second = under (under (under (under (under group3_decided))))

  pub interrupt_group2 : Below (rows·interrupt v) (rows·group2 v)
  interrupt_group2 = through interrupt_group3 (under group3_second)

  pub group2_twice : Below (rows·group2 v) (rows·twice v)
  group2_twice = under (under (under here))

  pub interrupt_twice : Below (rows·interrupt v) (rows·twice v)
  interrupt_twice = through interrupt_group2 group2_twice

  twice_opr : Below (rows·twice v) (rows·opr v)
  twice_opr = under (under (under (under (under (under (under (under (under (under here)))))))))

  pub interrupt_opr : Below (rows·interrupt v) (rows·opr v)
  interrupt_opr = through interrupt_twice twice_opr

  opr_iot : Below (rows·opr v) (rows·iot v)
  opr_iot = under (under (under (under_devices v (under here))))

  pub interrupt_iot : Below (rows·interrupt v) (rows·iot v)
  interrupt_iot = through interrupt_opr opr_iot

  iot_jms : Below (rows·iot v) (rows·jms v)
  iot_jms = under (under (under here))

  pub interrupt_jms : Below (rows·interrupt v) (rows·jms v)
  interrupt_jms = through interrupt_iot iot_jms

  jms_dca : Below (rows·jms v) (rows·dca v)
  jms_dca = under (under (under here))

  pub interrupt_dca : Below (rows·interrupt v) (rows·dca v)
  interrupt_dca = through interrupt_jms jms_dca

  dca_isz : Below (rows·dca v) (rows·isz v)
  dca_isz = under (under (under here))

  pub interrupt_isz : Below (rows·interrupt v) (rows·isz v)
  interrupt_isz = through interrupt_dca dca_isz

  isz_tad : Below (rows·isz v) (rows·tad v)
  isz_tad = under (under here)

  pub interrupt_tad : Below (rows·interrupt v) (rows·tad v)
  interrupt_tad = through interrupt_isz isz_tad

  tad_and : Below (rows·tad v) (rows·and v)
  tad_and = under (under here)

  pub interrupt_and : Below (rows·interrupt v) (rows·and v)
  interrupt_and = through interrupt_tad tad_and

  -- the ops, below the row that begins with JMP's, where `execute` has told the others apart
  pub and_jmp : Below (rows·and v) (rows·jmp v)
  and_jmp = under (under here)

  pub tad_jmp : Below (rows·tad v) (rows·jmp v)
  tad_jmp = through tad_and and_jmp

  pub isz_jmp : Below (rows·isz v) (rows·jmp v)
  isz_jmp = through isz_tad tad_jmp

  pub dca_jmp : Below (rows·dca v) (rows·jmp v)
  dca_jmp = through dca_isz isz_jmp

  pub jms_jmp : Below (rows·jms v) (rows·jmp v)
  jms_jmp = through jms_dca dca_jmp

  jmp_execute : Below (rows·jmp v) (rows·execute v)
  jmp_execute = under (under (under (under (under here))))

  execute_address : Below (rows·execute v) (rows·address v)
  execute_address = under (under (under (under (under here))))

  pub iot_address : Below (rows·iot v) (rows·address v)
  iot_address = through (through iot_jms jms_jmp) (through jmp_execute execute_address)

  pub opr_address : Below (rows·opr v) (rows·address v)
  opr_address = through opr_iot iot_address
