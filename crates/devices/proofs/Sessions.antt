-- Two sessions, of engines that stay alike: they read the same, print the same and end alike.
-- Assumes nothing.
use mathlib.Core.Path.{◌≡◌, sym, ap, ap₂, subst}
use mathlib.Core.Bool.{Bool, ◌&&◌}
use mathlib.Core.List.{List}
use Prim.Native.Nat.{ℕ, ◌-◌}
use native.Mathlib.Omega.{arith}
use lib.Dec.{ltb}
use lib.ListN.{length}
use Rattle.runs.proofs.Alike.{Alike}
use Rattle.runs.proofs.Alike as runs
use Rattle.devices.specs.declared.Devices.{Devices}
use Rattle.devices.specs.Devices.{begun, unread_after, printed_after, written}
use Rattle.devices.specs.Session.{Session, Attached, turn, place_left, goes_on, opened, run, exchanged, untouched}

-- the engines are related; unread input and printed bytes are the same
pub record Paired {A B : Type 0} (R : A → B → Type 0) (x : Session A) (y : Session B) : Type 0 where
  pub engine : R x.engine y.engine
  pub unread : y.unread ≡ x.unread
  pub printed : y.printed ≡ x.printed

module _ {A B : Type 0} {R : A → B → Type 0} {x : Session A} {y : Session B} (p : Paired R x y) where
  pub same_place : (room : ℕ) → place_left room y ≡ place_left room x
  same_place room = ap (λ (l : List ℕ). ltb (length l) room) p.printed

  pub same_exchange : (input output : List ℕ) → exchanged input output y ≡ exchanged input output x
  same_exchange input output =
      ap₂ (λ (u l : List ℕ). record { read = length input - length u; printed = length l; output = written l output }) p.unread p.printed

-- before the first step nothing has been read or printed
pub nothing_exchanged : {A : Type 0} (x : A) (input output : List ℕ) → exchanged input output (opened x input) ≡ untouched output
unfolding written
nothing_exchanged x input output = ap (λ (n : ℕ). record { read = n; printed = 0; output = output }) (none (length input))
  where
    none : (n : ℕ) → n - n ≡ 0
    none n = omega arith

module _ {A B : Type 0} (R : A → B → Type 0) (at : Attached A) (at' : Attached B) (running : A → Bool) (running' : B → Bool) (step : A → A) (step' : B → B)
    (alike : (a : A) (b : B) → R a b → running' b ≡ running a) (same : (a : A) (b : B) → R a b → at'.get b ≡ at.get a)
    (starts : (a : A) (b : B) (l : List ℕ) → R a b → R (at.put (begun (at.get a) l) a) (at'.put (begun (at.get a) l) b))
    (kept : (a : A) (b : B) → R a b → R (step a) (step' b)) where
  -- one start and one step of both
  turn_kept : (x : Session A) (y : Session B) → Paired R x y → Paired R (turn at step x) (turn at' step' y)
  unfolding turn
  turn_kept x y p =
      let found = same x.engine y.engine p.engine in
      let begun-alike = subst (λ (c : Devices). R (at.put (begun (at.get x.engine) x.unread) x.engine) (at'.put c y.engine))
      (sym (ap₂ begun found p.unread)) (starts x.engine y.engine x.unread p.engine) in
      let after = kept _ _ begun-alike in
      record { engine = after; unread = ap₂ unread_after found p.unread; printed = ap₂ printed_after (same _ _ after) p.printed }

  pub sessions_alike : (room budget : ℕ) (x : Session A) (y : Session B) → Paired R x y
      → Alike (Paired R) (run at running step room budget x) (run at' running' step' room budget y)
  sessions_alike room budget x y p =
      runs.runs_alike (Paired R) (goes_on running room) (turn at step) (goes_on running' room) (turn at' step')
      (λ a b q. ap₂ ◌&&◌ (alike a.engine b.engine q.engine) (same_place q room)) turn_kept budget x y p
