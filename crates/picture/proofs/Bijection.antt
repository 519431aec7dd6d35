-- Bijections of the numbers below n, and what demand 3 rests on: rows, columns and the values that are shown go there and back.
-- Assumes nothing.
use mathlib.Core.Path.{◌≡◌, sym, ◌∙◌, ap}
use mathlib.Core.Logic.{◌≢◌}
use mathlib.Core.List.{List}
use Prim.Native.Nat.{ℕ, ◌<◌}

pub record Bijection (n : ℕ) (there back : ℕ → ℕ) : Type 0 where
  pub there_in : (a : ℕ) → a < n → there a < n
  pub back_in : (a : ℕ) → a < n → back a < n
  pub there_back : (a : ℕ) → a < n → there (back a) ≡ a
  pub back_there : (a : ℕ) → a < n → back (there a) ≡ a

-- no two numbers go to one
pub one : (n : ℕ) (there back : ℕ → ℕ) → Bijection n there back → (a c : ℕ) → a < n → c < n → there a ≡ there c → a ≡ c
one n there back b a c l k e = sym (b.back_there a l) ∙ ap back e ∙ b.back_there c k

-- A frame of h rows, w wide, each place of which shows a value of the memory: rows, columns and values go there and back, so that one value changed changes one place.
module _ (h w count : ℕ) (ram showing column segment shown read : ℕ → ℕ) (rows : Bijection h ram showing) (columns : Bijection w column segment) (values : Bijection count shown read) (value : List ℕ → ℕ → ℕ → ℕ) (small : (memory : List ℕ) (row c : ℕ) → value memory row c < count) (place : ℕ → ℕ → List ℕ → ℕ) (shows : (memory : List ℕ) (y x : ℕ) → y < h → x < w → place y x memory ≡ shown (value memory (ram y) (column x))) where
  -- another value shows otherwise
  pub changed : (memory other : List ℕ) (y x : ℕ) → y < h → x < w → value other (ram y) (column x) ≢ value memory (ram y) (column x) → place y x other ≢ place y x memory
  changed memory other y x l k differs e =
      differs (one count shown read values _ _ (small other _ _) (small memory _ _) (sym (shows other y x l k) ∙ e ∙ shows memory y x l k))

  -- where no other value changed, no other place does
  pub unchanged : (memory other : List ℕ) (y x : ℕ) → y < h → x < w → ((row c : ℕ) → c < w → ((row ≡ ram y) × (c ≡ column x) → ⊥) → value other row c ≡ value memory row c) → (y' x' : ℕ) → y' < h → x' < w → ((y' ≡ y) × (x' ≡ x) → ⊥) → place y' x' other ≡ place y' x' memory
  unchanged memory other y x l k same y' x' l' k' n =
      shows other y' x' l' k' ∙
      ap shown (same (ram y') (column x') (columns.there_in x' k') (λ e. n (one h ram showing rows y' y l' l e.0, one w column segment columns x' x k' k e.1))) ∙
      sym (shows memory y' x' l' k')
