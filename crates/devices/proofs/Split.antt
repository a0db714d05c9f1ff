-- Two calls are one, whatever engine runs: a run of a + b steps is a run of a, then one of b from what it left, on the input that it left unread and into the rest of the output.
-- Assumes nothing.
use mathlib.Core.Path.{◌≡◌, refl, sym, ap, ap₂, ◌∙◌}
use mathlib.Core.Bool.{Bool, true, false, ◌&&◌}
use mathlib.Core.List.{List, [], ◌∷◌, ◌++◌, append-nil, append_assoc}
use Prim.Native.Nat.{ℕ, ◌+◌, ◌-◌, ◌≤◌}
use native.Mathlib.Omega.{arith}
use lib.Dec.{ltb}
use lib.ListN.{length, drop, take, length-append, length-drop}
use lib.Seq.{drop-drop}
use borrow.Author.Tests.{ltb-true, ltb-false, lt-ltb, le-ltb}
use Rattle.laws.proofs.Tests.{by_test}
use Rattle.word.specs.Choice.{on, pick}
use Rattle.runs.specs.Run.{ended}
use Rattle.runs.proofs.Runs as runs-laws
use Rattle.runs.proofs.Runs.{following}
use Rattle.runs.proofs.Alike.{runs_alike}
use Rattle.devices.specs.declared.Devices.{Devices}
use Rattle.devices.specs.Devices.{begun, unread_after, printed_after, written}
use Rattle.devices.specs.Session.{Session, Attached, turn, place_left, goes_on, opened, run, Exchange, exchanged}
use Rattle.devices.proofs.Held.{read_after, unread_at, read_within, printed_at}

-- room for what comes after p
room_after : (room : ℕ) (p q : List ℕ) → ltb (length (p ++ q)) room ≡ ltb (length q) (room - length p)
room_after room p q =
    let n = length-append p q in
    by_test (ltb (length q) (room - length p))
    (λ t. lt-ltb (length (p ++ q)) room (omega (arith, n, ltb-true (length q) (room - length p) t)) ∙ sym t)
    (λ t. le-ltb (length (p ++ q)) room (omega (arith, n, ltb-false (length q) (room - length p) t)) ∙ sym t)

printed_after_lem : (c : Devices) (p q : List ℕ) → printed_after c (p ++ q) ≡ p ++ printed_after c q
unfolding printed_after
printed_after_lem c p q = go (on c.mark)
  where
    go : (b : Bool) → pick b ((p ++ q) ++ (c.print ∷ [])) (p ++ q) ≡ p ++ pick b (q ++ (c.print ∷ [])) q
    go true = append_assoc p q (c.print ∷ [])
    go false = refl

-- what the second call writes goes behind what the first wrote
pub written_behind : (p q output : List ℕ) → written (p ++ q) output ≡ p ++ written q (drop (length p) output)
unfolding written
written_behind p q output =
    ap (λ (n : ℕ). (p ++ q) ++ drop n output) (length-append p q)
    ∙ ap (λ (r : List ℕ). (p ++ q) ++ r) (sym (drop-drop (length q) (length p) output))
    ∙ append_assoc p q (drop (length q) (drop (length p) output))

-- two calls' exchanges as one: the second's output behind what the first printed
abbrev pub joined_exchange : Exchange → Exchange → Exchange
joined_exchange e f = record { read = e.read + f.read; printed = e.printed + f.printed; output = take e.printed e.output ++ f.output }

joins : {A : Type 0} (x y : Session A) (input output : List ℕ) → length x.unread ≤ length input → length y.unread ≤ length x.unread
    → ◌≡◌ {A = Exchange}
    (record { read = length input - length y.unread; printed = length (x.printed ++ y.printed); output = written (x.printed ++ y.printed) output })
    (joined_exchange (exchanged input output x) (exchanged x.unread (drop (length x.printed) output) y))
joins x y input output one two =
    let p = x.printed in
    let q = y.printed in
    let sum : length input - length y.unread ≡ (length input - length x.unread) + (length x.unread - length y.unread) = omega (arith, one, two) in
    ap₂ (λ (n m : ℕ). record { read = n; printed = m; output = written (p ++ q) output }) sum (length-append p q)
    ∙ ap (λ (l : List ℕ). record { read = (length input - length x.unread) + (length x.unread - length y.unread); printed = length p + length q; output = l })
    (written_behind p q output ∙ ap (λ (l : List ℕ). l ++ written q (drop (length p) output)) (sym (printed_at p output)))

module _ {A : Type 0} (at : Attached A) (running : A → Bool) (step : A → A) where
  -- a session, with p printed before
  abbrev pub behind : List ℕ → Session A → Session A
  behind p x = record { engine = x.engine; unread = x.unread; printed = p ++ x.printed }

  -- what a call leaves, as the next one finds it
  abbrev pub handed_on : Session A → Session A
  handed_on x = opened x.engine x.unread

  pub place_behind : (room : ℕ) (p : List ℕ) (x : Session A) → place_left room (behind p x) ≡ place_left (room - length p) x
  place_behind room p x = room_after room p x.printed

  turn_behind : (p : List ℕ) (x : Session A) → turn at step (behind p x) ≡ behind p (turn at step x)
  unfolding turn
  turn_behind p x =
      let after : A = step (at.put (begun (at.get x.engine) x.unread) x.engine) in
      ap (λ (q : List ℕ). record { engine = after; unread = unread_after (at.get x.engine) x.unread; printed = q }) (printed_after_lem (at.get after) p x.printed)

  -- a run with p printed before is the run into the rest of the output
  run_behind : (room : ℕ) (p : List ℕ) (budget : ℕ) (x : Session A)
      → run at running step room budget (behind p x)
      ≡ ended (run at running step (room - length p) budget x).steps (behind p (run at running step (room - length p) budget x).left)
  run_behind room p budget x =
      let alike = runs_alike (λ (a b : Session A). b ≡ behind p a) (goes_on running (room - length p)) (turn at step) (goes_on running room) (turn at step)
      (λ a b e. ap (goes_on running room) e ∙ ap (λ (t : Bool). running a.engine && t) (place_behind room p a))
      (λ a b e. ap (turn at step) e ∙ turn_behind p a)
      budget x (behind p x) refl in
      ap₂ ended alike.steps alike.related

  -- also where the first call stopped early
  pub session_split : (room a b : ℕ) (x : Session A)
      → run at running step room (a + b) x
      ≡ (let first = run at running step room a x in
      let second = run at running step (room - length first.left.printed) b (handed_on first.left) in
      ended (first.steps + second.steps) (behind first.left.printed second.left))
  session_split room a b x =
      let first = run at running step room a x in
      let p = first.left.printed in
      let y : List ℕ → Session A = λ (q : List ℕ). record { engine = first.left.engine; unread = first.left.unread; printed = q } in
      runs-laws.run_split (goes_on running room) (turn at step) a b x
      ∙ ap (λ (q : List ℕ). following first.steps (run at running step room b (y q))) (sym (append-nil p))
      ∙ ap (following first.steps) (run_behind room p b (handed_on first.left))

  -- ---- what is unread is a rest of the input

  pub record Rest (input l : List ℕ) : Type 0 where
    pub read : ℕ
    pub within : read ≤ length input
    pub is : l ≡ drop read input

  rest_kept : (input : List ℕ) (x : Session A) → Rest input x.unread → Rest input (turn at step x).unread
  unfolding turn
  rest_kept input x r =
      let c : Devices = at.get x.engine in
      record {
        read = read_after c input r.read;
        within = read_within c input r.read r.within;
        is = ap (unread_after c) r.is ∙ unread_at c input r.read;
      }

  run_rest : (room budget : ℕ) (x : A) (input : List ℕ) → Rest input (run at running step room budget (opened x input)).left.unread
  run_rest room budget x input =
      runs-laws.run_keeps (goes_on running room) (turn at step) (λ (y : Session A). Rest input y.unread) (rest_kept input) budget (opened x input)
      (record { read = 0; within = omega arith; is = refl })

  shorter : {input l : List ℕ} → Rest input l → length l ≤ length input
  shorter {input} {l} r = let n : length l ≡ length input - r.read = ap length r.is ∙ length-drop r.read input in omega (arith, n)

  rest_is : {input l : List ℕ} → Rest input l → drop (length input - length l) input ≡ l
  rest_is {input} {l} r =
      let n : length l ≡ length input - r.read = ap length r.is ∙ length-drop r.read input in
      let k : length input - length l ≡ r.read = omega (arith, n, r.within) in
      ap (λ (i : ℕ). drop i input) k ∙ sym r.is

  -- the second call's input is what the first left unread
  pub unread_handed : (room budget : ℕ) (x : A) (input : List ℕ)
      → drop (length input - length (run at running step room budget (opened x input)).left.unread) input ≡ (run at running step room budget (opened x input)).left.unread
  unread_handed room budget x input = rest_is (run_rest room budget x input)

  -- what two calls read, printed and wrote is what one does
  pub exchange_split : (room a b : ℕ) (x : A) (input output : List ℕ)
      → (let first = (run at running step room a (opened x input)).left in
      let second = (run at running step (room - length first.printed) b (handed_on first)).left in
      exchanged input output (behind first.printed second)
      ≡ joined_exchange (exchanged input output first) (exchanged first.unread (drop (length first.printed) output) second))
  exchange_split room a b x input output =
      let first = (run at running step room a (opened x input)).left in
      joins first (run at running step (room - length first.printed) b (handed_on first)).left input output
      (shorter (run_rest room a x input))
      (shorter (run_rest (room - length first.printed) b first.engine first.unread))
