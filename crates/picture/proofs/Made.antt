-- Arrays made place by place by calls that leave their closure as it is: what holds of each call holds at each place.
-- Assumes nothing.
use mathlib.Core.Path.{◌≡◌, sym, ◌∙◌, ap, subst}
use mathlib.Core.List.{List}
use Prim.Native.Nat.{ℕ, zero, suc, ◌+◌, ◌≤◌, ◌<◌}
use native.Mathlib.Omega.{arith}
use native.Mathlib.Decide.{dec_lt}
use lib.ListN.{length, get_or, replicate}
use denote.Param.Members.{Mut}
use Rattle.std.specs.Fn.{Called}
use Rattle.std.specs.Array.{IsFromFnResultFrom, IsFromFnResult}
use Rattle.std.proofs.lemmas.List.FromFn.{fill_by_all}
use Rattle.picture.specs.Frame.{line}
use Rattle.picture.proofs.Lines.{line_length, line_at, line_alike}

module _ {F B : Type 0} (g : Mut F (ℕ × Unit {0}) B) (P : ℕ → B → Type 0) (f : F) (w : ℕ) (call : (x : ℕ) (v : B) (after : F) → x < w → Called g f (x, tt) v after → P x v × (after ≡ f)) (d : B) where
  made_from : (made : List B) (i n : ℕ) → i + n ≤ w → IsFromFnResultFrom g f made i n → (k : ℕ) → i ≤ k → k < i + n → P k (get_or made k d)
  made_from made i zero room calls k low high = absurd (omega arith)
  made_from made i (suc n) room calls k low high =
      let first = call i calls.1 calls.0 (omega arith) calls.3 in
      either first (made_from made (i + 1) n (omega arith) (subst (λ (s : F). IsFromFnResultFrom g s made (i + 1) n) first.1 calls.4)) (dec_lt i k)
    where
      either : P i calls.1 × (calls.0 ≡ f) → ((k : ℕ) → i + 1 ≤ k → k < i + 1 + n → P k (get_or made k d)) → Dec (i < k) → P k (get_or made k d)
      either first later (yes l) = later k (omega arith) (omega arith)
      either first later (no n) =
          let same : i ≡ k = omega arith in
          subst (λ (j : ℕ). P j (get_or made j d)) same (subst (P i) (sym (calls.2.1 d)) first.0)

  pub made_each : (made : List B) → IsFromFnResult g f made w → (k : ℕ) → k < w → P k (get_or made k d)
  made_each made calls k l = made_from made 0 w (omega arith) calls.each k (omega arith) (omega arith)

-- a list is a row by what stands at its places
pub line_by_each : (w : ℕ) (shown : ℕ → ℕ) (places : List ℕ) → length places ≡ w → ((x : ℕ) → x < w → get_or places x 0 ≡ shown x) → places ≡ line w shown
line_by_each w shown places e each = fill_by_all shown places w 0 e each ∙ sym (fill_by_all shown (line w shown) w 0 (line_length w shown) (line_at w shown))

-- a row made place by place
pub made_line : {F : Type 0} (g : Mut F (ℕ × Unit {0}) ℕ) (f : F) (w : ℕ) (shown : ℕ → ℕ) → ((x v : ℕ) (after : F) → x < w → Called g f (x, tt) v after → (v ≡ shown x) × (after ≡ f)) → {made : List ℕ} → IsFromFnResult g f made w → made ≡ line w shown
made_line g f w shown call {made = made} calls = line_by_each w shown made calls.long (made_each g (λ x v. v ≡ shown x) f w call 0 made calls)

-- a row filled with one value
pub filled_line : (w value : ℕ) (was : List ℕ) {later : List ℕ} → length was ≡ w → (((y : ℕ) → y ≡ value → y ≡ value) → later ≡ replicate (length was) value) → later ≡ line w (λ x. value)
filled_line w value was e filled = filled (λ y p. p) ∙ ap (λ (n : ℕ). replicate n value) e ∙ sym (line_alike w value)
