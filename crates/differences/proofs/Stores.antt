-- Laws on one value stored at places side by side, and on lists that begin alike.
-- Assumes nothing.
use Prim.Native.Nat.{ℕ, zero, suc, ◌+◌, ◌≤◌, ◌<◌}
use mathlib.Core.Path.{◌≡◌, refl, sym, ◌∙◌, ap}
use mathlib.Core.Logic.{◌⊎◌, inl, inr, ⊎_elim}
use mathlib.Core.List.{List, [], ◌∷◌}
use native.Mathlib.Nat.{eq-or-lt_of_le}
use native.Mathlib.Omega.{arith}
use lib.ListN.{length, get_or, take, drop, set, length-set, replicate}
use lib.Seq.{sets, get_or-set_same, get_or-set_other, drop-set-lt, get_or-take, length-take-le, ext_get_or}

-- a place that is not one of them holds what it held,
pub stored_outside : (list : List ℕ) (from n value place : ℕ) → (place < from) ⊎ (from + n ≤ place) → get_or (sets list from (replicate n value)) place 0 ≡ get_or list place 0
stored_outside list from zero value place o = refl
stored_outside list from (suc n) value place o =
    stored_outside (set list from value) (suc from) n value place (⊎_elim (λ h. inl (omega (arith, h))) (λ h. inr (omega (arith, h))) o)
    ∙ get_or-set_other list from place value 0 (λ e. ⊎_elim (λ h. omega (arith, e, h)) (λ h. omega (arith, e, h)) o)

-- and one of them the value
pub stored_inside : (list : List ℕ) (from n value place : ℕ) → from ≤ place → place < from + n → place < length list → get_or (sets list from (replicate n value)) place 0 ≡ value
stored_inside list from zero value place h k l = absurd (omega (arith, h, k))
stored_inside list from (suc n) value place h k l =
    ⊎_elim
    (λ e. stored_outside (set list from value) (suc from) n value place (inl (omega (arith, e))) ∙ rw (← e) (get_or-set_same list from value 0 (omega (arith, e, l))))
    (λ m. stored_inside (set list from value) (suc from) n value place m (omega (arith, k)) (rw length-set l))
    (eq-or-lt_of_le h)

-- nothing changes from the place after them on
pub stored_before : (n : ℕ) (values list : List ℕ) (from : ℕ) → from + length values ≤ n → drop n (sets list from values) ≡ drop n list
stored_before n [] list from h = refl
stored_before n (value ∷ values) list from h =
    stored_before n values (set list from value) (suc from) (omega (arith, h)) ∙ drop-set-lt n list from value (omega (arith, h))

-- lists that hold the same at their first n places begin alike
pub begin_alike : (n : ℕ) (list other : List ℕ) → n ≤ length list → n ≤ length other → ((place : ℕ) → place < n → get_or list place 0 ≡ get_or other place 0) → take n list ≡ take n other
begin_alike n list other h k same = ext_get_or 0 (take n list) (take n other) (length-take-le n list h ∙ sym (length-take-le n other k)) at
  where
    at : (place : ℕ) → place < length (take n list) → get_or (take n list) place 0 ≡ get_or (take n other) place 0
    at place l =
        let m : place < n = omega (arith, l, length-take-le n list h) in
        get_or-take n list place 0 m ∙ same place m ∙ sym (get_or-take n other place 0 m)

-- and lists that begin alike hold the same there
pub alike_at : (n : ℕ) (list other : List ℕ) (place : ℕ) → take n list ≡ take n other → place < n → get_or list place 0 ≡ get_or other place 0
alike_at n list other place e h = sym (get_or-take n list place 0 h) ∙ ap (λ first. get_or first place 0) e ∙ get_or-take n other place 0 h
