-- The row rule with all h rows in use, as a turn of the rows: laws over any h. A turn has a direction, rows normal or not, and an amount.
-- Assumes nothing.
use mathlib.Core.Path.{◌≡◌, refl, ◌∙◌, ap}
use mathlib.Core.Bool.{Bool, true, false, cond}
use Prim.Native.Nat.{ℕ, ◌+◌, ◌-◌, ◌%◌, ◌<◌}
use native.Mathlib.Omega.{arith}
use native.Mathlib.Nat.{mod-lt, mod-eq_of_lt, add-mod_right, add-mod-mod, mod-add-mod}
use native.Mathlib.Decide.{dec_lt}

-- a number below 2h and its remainder v: either it is v, or it is past v by h
pub data Wrap (h a v : ℕ) : Type 0 where
  low : v ≡ a → Wrap h a v
  high : v + h ≡ a → Wrap h a v

pub wrap : (h a : ℕ) → a < h + h → Wrap h a (a % h)
wrap h a l = either (dec_lt a h)
  where
    either : Dec (a < h) → Wrap h a (a % h)
    either (yes k) = low (mod-eq_of_lt k)
    either (no n) =
        let e : a ≡ a - h + h = omega arith in
        let v : a % h ≡ a - h = ap (λ b. b % h) e ∙ add-mod_right (a - h) h ∙ mod-eq_of_lt {n = a - h} {m = h} (omega arith) in
        high (omega arith)

-- the row that row p shows in a turn, and the row at which row n shows
abbrev pub turn_of : ℕ → Bool → ℕ → ℕ → ℕ
turn_of h normal c p = cond normal ((c + p) % h) ((c + (h - 1) - p) % h)

abbrev pub back_of : ℕ → Bool → ℕ → ℕ → ℕ
back_of h normal c n = cond normal ((n + (h - c)) % h) ((c + (h - 1) - n) % h)

module _ (h : ℕ) where
  there_and_back : (c p u w : ℕ) → c < h → p < h → u < h → w < h → Wrap h (c + p) u → Wrap h (u + (h - c)) w → w ≡ p
  there_and_back c p u w k l k' l' (low d) (low e) = omega arith
  there_and_back c p u w k l k' l' (low d) (high e) = omega arith
  there_and_back c p u w k l k' l' (high d) (low e) = omega arith
  there_and_back c p u w k l k' l' (high d) (high e) = omega arith

  back_and_there : (c n u w : ℕ) → c < h → n < h → u < h → w < h → Wrap h (n + (h - c)) u → Wrap h (c + u) w → w ≡ n
  back_and_there c n u w k l k' l' (low d) (low e) = omega arith
  back_and_there c n u w k l k' l' (low d) (high e) = omega arith
  back_and_there c n u w k l k' l' (high d) (low e) = omega arith
  back_and_there c n u w k l k' l' (high d) (high e) = omega arith

  there_again : (c p u w : ℕ) → c < h → p < h → u < h → w < h → Wrap h (c + (h - 1) - p) u → Wrap h (c + (h - 1) - u) w → w ≡ p
  there_again c p u w k l k' l' (low d) (low e) = omega arith
  there_again c p u w k l k' l' (low d) (high e) = omega arith
  there_again c p u w k l k' l' (high d) (low e) = omega arith
  there_again c p u w k l k' l' (high d) (high e) = omega arith

  -- they stay among the h rows
  pub turn_below : (normal : Bool) (c p : ℕ) → 0 < h → turn_of h normal c p < h
  turn_below true c p pos = mod-lt _ pos
  turn_below false c p pos = mod-lt _ pos

  pub back_below : (normal : Bool) (c n : ℕ) → 0 < h → back_of h normal c n < h
  back_below true c n pos = mod-lt _ pos
  back_below false c n pos = mod-lt _ pos

  -- the turn and the turn back undo each other
  pub turn_back : (normal : Bool) (c n : ℕ) → c < h → n < h → turn_of h normal c (back_of h normal c n) ≡ n
  turn_back true c n k l =
      let below = mod-lt (n + (h - c)) {m = h} (omega arith) in
      back_and_there c n _ _ k l below (mod-lt _ (omega arith)) (wrap h (n + (h - c)) (omega arith)) (wrap h (c + (n + (h - c)) % h) (omega arith))
  turn_back false c n k l =
      let below = mod-lt (c + (h - 1) - n) {m = h} (omega arith) in
      there_again c n _ _ k l below (mod-lt _ (omega arith)) (wrap h (c + (h - 1) - n) (omega arith)) (wrap h (c + (h - 1) - (c + (h - 1) - n) % h) (omega arith))

  pub back_turn : (normal : Bool) (c p : ℕ) → c < h → p < h → back_of h normal c (turn_of h normal c p) ≡ p
  back_turn true c p k l =
      let below = mod-lt (c + p) {m = h} (omega arith) in
      there_and_back c p _ _ k l below (mod-lt _ (omega arith)) (wrap h (c + p) (omega arith)) (wrap h ((c + p) % h + (h - c)) (omega arith))
  back_turn false c p k l = turn_back false c p k l

  -- rows reversed: the offset is taken from the start line
  reversed_by : (start offset p q t : ℕ) → start < h → offset < h → p < h → q < h → t < h → Wrap h (p + offset) q → Wrap h (start + h - offset) t → (start + (h - 1) - q) % h ≡ (t + (h - 1) - p) % h
  reversed_by start offset p q t s o l k m (low d) (low e) =
      let past : t + (h - 1) - p ≡ start + (h - 1) - q + h = omega arith in
      rw (past, add-mod_right)
  reversed_by start offset p q t s o l k m (low d) (high e) = ap (λ a. a % h) (omega arith)
  reversed_by start offset p q t s o l k m (high d) (low e) = ap (λ a. a % h) (omega arith)
  reversed_by start offset p q t s o l k m (high d) (high e) =
      let past : start + (h - 1) - q ≡ t + (h - 1) - p + h = omega arith in
      rw (past, add-mod_right)

  reversed : (start offset p : ℕ) → start < h → offset < h → p < h → (start + (h - 1) - (p + offset) % h) % h ≡ ((start + h - offset) % h + (h - 1) - p) % h
  reversed start offset p s o l = reversed_by start offset p _ _ s o l (mod-lt _ (omega arith)) (mod-lt _ (omega arith)) (wrap h (p + offset) (omega arith)) (wrap h (start + h - offset) (omega arith))

  -- the amount that start line and offset come to
  abbrev pub amount : Bool → ℕ → ℕ → ℕ
  amount normal start offset = cond normal ((start + offset) % h) ((start + h - offset) % h)

  pub amount_below : (normal : Bool) (start offset : ℕ) → 0 < h → amount normal start offset < h
  amount_below true start offset pos = mod-lt _ pos
  amount_below false start offset pos = mod-lt _ pos

  rule_within : (normal : Bool) (start offset p : ℕ) → start < h → offset < h → p < h → cond normal ((start + (p + offset) % h) % h) ((start + h - 1 - (p + offset) % h) % h) ≡ turn_of h normal (amount normal start offset) p
  rule_within true start offset p s o l =
      let sum : start + (p + offset) ≡ start + offset + p = omega arith in
      rw (add-mod-mod start (p + offset) h, mod-add-mod (start + offset) h p, sum)
  rule_within false start offset p s o l =
      let below = mod-lt (p + offset) {m = h} (omega arith) in
      let last : start + h - 1 - (p + offset) % h ≡ start + (h - 1) - (p + offset) % h = omega arith in
      rw last (reversed start offset p s o l)

  -- the row rule is a turn by it, for any shift of the COMs
  pub rule : (normal : Bool) (start shift p : ℕ) → start < h → p < h → cond normal ((start + (p + shift) % h) % h) ((start + h - 1 - (p + shift) % h) % h) ≡ turn_of h normal (amount normal start (shift % h)) p
  rule normal start shift p s l = rw (← (add-mod-mod p shift h)) (rule_within normal start (shift % h) p s (mod-lt shift (omega arith)) l)

  -- the start line raised by n: rows normal show what was n rows below, rows reversed what was n rows above
  pub up : (start offset n p : ℕ) → turn_of h true (amount true ((start + n) % h) offset) p ≡ turn_of h true (amount true start offset) ((p + n) % h)
  up start offset n p =
      let e : (start + n) % h + offset + p ≡ (start + n) % h + (offset + p) = omega arith in
      let f : start + n + (offset + p) ≡ start + offset + (p + n) = omega arith in
      rw (mod-add-mod ((start + n) % h + offset) h p, e, mod-add-mod (start + n) h (offset + p), f, mod-add-mod (start + offset) h ((p + n) % h), add-mod-mod (start + offset) (p + n) h)

  unturned_by : (c m u w : ℕ) → c < h → m < h → u < h → w < h → Wrap h (c + m) u → Wrap h (u + h - m) w → w ≡ c
  unturned_by c m u w k l k' l' (low d) (low e) = omega arith
  unturned_by c m u w k l k' l' (low d) (high e) = omega arith
  unturned_by c m u w k l k' l' (high d) (low e) = omega arith
  unturned_by c m u w k l k' l' (high d) (high e) = omega arith

  unturned : (c m : ℕ) → c < h → m < h → ((c + m) % h + h - m) % h ≡ c
  unturned c m k l =
      let below = mod-lt (c + m) {m = h} (omega arith) in
      unturned_by c m _ _ k l below (mod-lt _ (omega arith)) (wrap h (c + m) (omega arith)) (wrap h ((c + m) % h + h - m) (omega arith))

  pub down : (start offset n p : ℕ) → start < h → offset < h → p < h → turn_of h false (amount false ((start + n) % h) offset) ((p + n) % h) ≡ turn_of h false (amount false start offset) p
  down start offset n p s o l =
      let a : (start + n) % h + h - offset ≡ (start + n) % h + (h - offset) = omega arith in
      let e : start + n + (h - offset) ≡ start + h - offset + n = omega arith in
      let c = (start + h - offset) % h in
      let there : ((start + n) % h + h - offset) % h ≡ (c + n % h) % h =
      rw (a, mod-add-mod (start + n) h (h - offset), e, add-mod-mod c n h, mod-add-mod (start + h - offset) h n) in
      let pos : 0 < h = omega arith in
      rw (there, ← (add-mod-mod p n h)) (reversed ((c + n % h) % h) (n % h) p (mod-lt _ pos) (mod-lt _ pos) l ∙ rw (unturned c (n % h) (mod-lt _ pos) (mod-lt _ pos)))

  -- rows 0 and 1 decide a turn, where there are more than two rows
  one_way : (c d u v : ℕ) → 2 < h → c < h → d < h → u < h → v < h → Wrap h (c + 0) u → Wrap h (c + 1) v → Wrap h (d + (h - 1) - 0) u → Wrap h (d + (h - 1) - 1) v → ⊥
  one_way c d u v two k l m n (low p) (low q) (low s) (low t) = omega arith
  one_way c d u v two k l m n (low p) (low q) (low s) (high t) = omega arith
  one_way c d u v two k l m n (low p) (low q) (high s) (low t) = omega arith
  one_way c d u v two k l m n (low p) (low q) (high s) (high t) = omega arith
  one_way c d u v two k l m n (low p) (high q) (low s) (low t) = omega arith
  one_way c d u v two k l m n (low p) (high q) (low s) (high t) = omega arith
  one_way c d u v two k l m n (low p) (high q) (high s) (low t) = omega arith
  one_way c d u v two k l m n (low p) (high q) (high s) (high t) = omega arith
  one_way c d u v two k l m n (high p) q s t = omega arith

  same_way : (c d k a b u : ℕ) → c < h → d < h → u < h → a ≡ c + k → b ≡ d + k → Wrap h a u → Wrap h b u → c ≡ d
  same_way c d k a b u l m n e f (low p) (low q) = omega arith
  same_way c d k a b u l m n e f (low p) (high q) = omega arith
  same_way c d k a b u l m n e f (high p) (low q) = omega arith
  same_way c d k a b u l m n e f (high p) (high q) = omega arith

  pub decided : (normal normal' : Bool) (c d : ℕ) → 2 < h → c < h → d < h → turn_of h normal c 0 ≡ turn_of h normal' d 0 → turn_of h normal c 1 ≡ turn_of h normal' d 1 → (normal ≡ normal') × (c ≡ d)
  decided true true c d two k l e f =
      (refl, same_way c d 0 (c + 0) (d + 0) _ k l (mod-lt _ (omega arith)) refl refl (wrap h (c + 0) (omega arith)) (rw (← e) at (wrap h (d + 0) (omega arith))))
  decided false false c d two k l e f =
      (refl, same_way c d (h - 1) (c + (h - 1) - 0) (d + (h - 1) - 0) _ k l (mod-lt _ (omega arith)) (omega arith) (omega arith) (wrap h (c + (h - 1) - 0) (omega arith)) (rw (← e) at (wrap h (d + (h - 1) - 0) (omega arith))))
  decided true false c d two k l e f =
      absurd (one_way c d _ _ two k l (mod-lt _ (omega arith)) (mod-lt _ (omega arith)) (wrap h (c + 0) (omega arith)) (wrap h (c + 1) (omega arith)) (rw (← e) at (wrap h (d + (h - 1) - 0) (omega arith))) (rw (← f) at (wrap h (d + (h - 1) - 1) (omega arith))))
  decided false true c d two k l e f =
      absurd (one_way d c _ _ two l k (mod-lt _ (omega arith)) (mod-lt _ (omega arith)) (wrap h (d + 0) (omega arith)) (wrap h (d + 1) (omega arith)) (rw e at (wrap h (c + (h - 1) - 0) (omega arith))) (rw f at (wrap h (c + (h - 1) - 1) (omega arith))))
