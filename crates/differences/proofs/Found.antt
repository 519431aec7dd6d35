-- Lists of what is found place by place along a row, and row by row: what holds of all of it, what is among it, and its order.
-- Assumes nothing.
use Prim.Native.Nat.{ℕ, zero, suc, ◌+◌, ◌*◌, ◌≤◌, ◌<◌}
use mathlib.Core.Path.{◌≡◌, ◌∙◌, sym, ap, subst}
use mathlib.Core.Bool.{Bool, true, cond, true≢false}
use mathlib.Core.Logic.{inl, inr, ⊎_elim}
use mathlib.Core.List.{List, [], ◌∷◌}
use native.Mathlib.Nat.{eq-or-lt_of_le}
use native.Mathlib.Omega.{arith}
use lib.ListN.{get_or, drop}
use lib.Seq.{get_or-take, get_or-drop}
use Rattle.codes.proofs.Tests.{chosen}
use Rattle.bus.specs.Bytes.{All}
use Rattle.picture.specs.Frame.{row_of, place_of}
use Rattle.differences.specs.ByRows.{by_rows}
use Rattle.differences.specs.InOrder.{Some, InOrder}
use Rattle.differences.proofs.InOrder.{all_append, some_first, some_then, order_append, all_map}

-- a place of a row is a place of the whole
pub place_of_row : (w p x : ℕ) (f : List ℕ) → x < w → get_or (row_of w p f) x 0 ≡ place_of w p x f
unfolding row_of place_of
place_of_row w p x f h = get_or-take w (drop (p * w) f) x 0 h ∙ get_or-drop (p * w) f x 0

-- What the places at which a test holds give, among the n places from x on.
unfoldable pub found : {A : Type 0} → (ℕ → Bool) → (ℕ → A) → ℕ → ℕ → List A
found test entry zero x = []
found test entry (suc n) x = cond (test x) (entry x ∷ found test entry n (suc x)) (found test entry n (suc x))

module _ {A : Type 0} (test : ℕ → Bool) (entry : ℕ → A) where
  -- what each such place's entry has, all have
  pub all_found : (P : A → Type 0) (n x : ℕ) → ((y : ℕ) → x ≤ y → y < x + n → test y ≡ true → P (entry y)) → All P (found test entry n x)
  unfolding found
  all_found P zero x each = tt
  all_found P (suc n) x each =
      let rest = all_found P n (suc x) (λ y h k e. each y (omega arith) (omega arith) e) in
      chosen (All P) (test x) (entry x ∷ found test entry n (suc x)) (found test entry n (suc x)) (λ e. (each x (omega arith) (omega arith) e, rest)) (λ e. rest)

  -- each such place's entry is among them
  pub some_found : (P : A → Type 0) (n x y : ℕ) → x ≤ y → y < x + n → test y ≡ true → P (entry y) → Some P (found test entry n x)
  unfolding found
  some_found P zero x y h k e p = absurd (omega arith)
  some_found P (suc n) x y h k e p =
      let rest : x < y → Some P (found test entry n (suc x)) = λ l. some_found P n (suc x) y (omega arith) (omega arith) e p in
      chosen (Some P) (test x) (entry x ∷ found test entry n (suc x)) (found test entry n (suc x))
      (λ d. ⊎_elim (λ i. inl (subst (λ z. P (entry z)) (sym i) p)) (λ l. inr (rest l)) (eq-or-lt_of_le h))
      (λ d. ⊎_elim (λ i. absurd (true≢false (sym e ∙ ap test (sym i) ∙ d))) rest (eq-or-lt_of_le h))

  -- they are in order where any two of them are
  pub order_found : (Before : A → A → Type 0) → ((y z : ℕ) → y < z → test y ≡ true → test z ≡ true → Before (entry y) (entry z)) → (n x : ℕ) → InOrder Before (found test entry n x)
  unfolding found
  order_found Before two zero x = tt
  order_found Before two (suc n) x =
      let rest = order_found Before two n (suc x) in
      chosen (InOrder Before) (test x) (entry x ∷ found test entry n (suc x)) (found test entry n (suc x)) (λ e. (all_found (Before (entry x)) n (suc x) (λ y h k d. two x y (omega arith) e d), rest)) (λ e. rest)

module _ {A : Type 0} (w : ℕ) (each : ℕ → List ℕ → List ℕ → List A) (f g : List ℕ) where
  -- What row p gives.
  abbrev row : ℕ → List A
  row p = each p (row_of w p f) (row_of w p g)

  pub all_rows : (P : A → Type 0) (n p : ℕ) → ((q : ℕ) → p ≤ q → q < p + n → All P (row q)) → All P (by_rows w each f g n p)
  unfolding by_rows
  all_rows P zero p all = tt
  all_rows P (suc n) p all = all_append P (row p) (by_rows w each f g n (suc p)) (all p (omega arith) (omega arith)) (all_rows P n (suc p) (λ q h k. all q (omega arith) (omega arith)))

  pub some_rows : (P : A → Type 0) (n p q : ℕ) → p ≤ q → q < p + n → Some P (row q) → Some P (by_rows w each f g n p)
  unfolding by_rows
  some_rows P zero p q h k s = absurd (omega arith)
  some_rows P (suc n) p q h k s =
      ⊎_elim
      (λ i. some_first P (row p) (by_rows w each f g n (suc p)) (subst (λ r. Some P (row r)) (sym i) s))
      (λ l. some_then P (row p) (by_rows w each f g n (suc p)) (some_rows P n (suc p) q (omega arith) (omega arith) s))
      (eq-or-lt_of_le h)

  -- Rows in order, where what is of a row stands before what is of a later one.
  module _ (Before : A → A → Type 0) (Of : ℕ → A → Type 0) (apart : (p q : ℕ) → p < q → (a b : A) → Of p a → Of q b → Before a b) where
    pub order_rows : (n p : ℕ) → ((q : ℕ) → All (Of q) (row q)) → ((q : ℕ) → InOrder Before (row q)) → InOrder Before (by_rows w each f g n p)
    unfolding by_rows
    order_rows zero p own order = tt
    order_rows (suc n) p own order =
        order_append Before (row p) (by_rows w each f g n (suc p)) (order p) (order_rows n (suc p) own order)
        (all_map (Of p) (λ a. All (Before a) (by_rows w each f g n (suc p))) (λ a o. all_rows (Before a) n (suc p) (λ q h k. all_map (Of q) (Before a) (λ b. apart p q (omega arith) a b o) (row q) (own q))) (row p) (own p))
