-- Laws on a row of places and on rows one after the other: their lengths, one row more, and what stands at a place.
-- Assumes nothing.
use mathlib.Core.Path.{◌≡◌, refl, sym, ◌∙◌, ap}
use mathlib.Core.List.{List, [], ◌∷◌, ◌++◌, append_assoc}
use Prim.Native.Nat.{ℕ, zero, suc, ◌+◌, ◌*◌, ◌≤◌, ◌<◌}
use native.Mathlib.Omega.{arith}
use native.Mathlib.Nat.{suc-mul, zero-mul, mul-le-mul_right, not-suc-le-zero, le_of_eq}
use native.Mathlib.Decide.{dec_lt}
use native.Mathlib.Numerals.{add-one}
use lib.ListN.{length, get_or, take, drop, length-append, length-drop, replicate, replicate-append-replicate, get_or-append}
use lib.Seq.{take_at, drop_at, drop-drop, take-append-le, drop-append-le, take_all, get_or_at, get_or-take, get_or-drop}
use Rattle.picture.specs.Frame.{line, grid}

pub line_length : (w : ℕ) (f : ℕ → ℕ) → length (line w f) ≡ w
unfolding line
line_length zero f = refl
line_length (suc w) f = length-append (line w f) (f w ∷ []) ∙ rw (line_length w f, add-one)

-- rows that agree at each place are the same
pub line_same : (w : ℕ) (f g : ℕ → ℕ) → ((x : ℕ) → x < w → f x ≡ g x) → line w f ≡ line w g
unfolding line
line_same zero f g h = refl
line_same (suc w) f g h = rw (line_same w f g (λ x l. h x (omega arith)), h w (omega arith))

pub grid_length : (w h : ℕ) (f : ℕ → ℕ → ℕ) → length (grid w h f) ≡ h * w
unfolding grid
grid_length w zero f = sym (zero-mul w)
grid_length w (suc h) f = length-append (grid w h f) (line w (f h)) ∙ rw (grid_length w h f, line_length w (f h), suc-mul)

-- one row more is drawn: its own part of the frame came back as that row
pub grid_turn : (w y k : ℕ) (f : ℕ → ℕ → ℕ) (was row : List ℕ) → k ≡ w → row ≡ line w (f y) → take (y * w) (grid w y f ++ drop (y * w) was) ++ (row ++ drop k (drop (y * w) (grid w y f ++ drop (y * w) was))) ≡ grid w (y + 1) f ++ drop ((y + 1) * w) was
unfolding grid
grid_turn w y k f was row e p =
    rw (take_at (grid w y f) (drop (y * w) was) (y * w) (grid_length w y f), drop_at (grid w y f) (drop (y * w) was) (y * w) (grid_length w y f), p, e, drop-drop w (y * w) was, add-one, suc-mul)
    (sym (append_assoc (grid w y f) (line w (f y)) (drop (y * w + w) was)))

-- frames that agree at each place are the same
pub grid_same : (w h : ℕ) (f g : ℕ → ℕ → ℕ) → ((y x : ℕ) → y < h → x < w → f y x ≡ g y x) → grid w h f ≡ grid w h g
unfolding grid
grid_same w zero f g e = refl
grid_same w (suc h) f g e = rw (grid_same w h f g (λ y x k l. e y x (omega arith) l), line_same w (f h) (g h) (λ x l. e h x (omega arith) l))

-- rows and frames whose places are all alike
pub line_alike : (w v : ℕ) → line w (λ x. v) ≡ replicate w v
unfolding line
line_alike zero v = refl
line_alike (suc w) v = rw (line_alike w v) (replicate-append-replicate w 1 v ∙ rw add-one)

pub grid_alike : (w h v : ℕ) → grid w h (λ y x. v) ≡ replicate (h * w) v
unfolding grid
grid_alike w zero v = rw zero-mul
grid_alike w (suc h) v = rw (grid_alike w h v, line_alike w v, suc-mul) (replicate-append-replicate (h * w) w v)

-- what stands at a place of a row
pub line_at : (w : ℕ) (f : ℕ → ℕ) (x : ℕ) → x < w → get_or (line w f) x 0 ≡ f x
unfolding line
line_at zero f x l = absurd (not-suc-le-zero l)
line_at (suc w) f x l = either (line_at w f x) (dec_lt x w)
  where
    either : (x < w → get_or (line w f) x 0 ≡ f x) → Dec (x < w) → get_or (line w f ++ f w ∷ []) x 0 ≡ f x
    either before (yes k) = get_or-append (line w f) (f w ∷ []) 0 x (rw (line_length w f) k) ∙ before k
    either before (no n) =
        let e : x ≡ w = omega arith in
        rw e (get_or_at (line w f) (f w) [] 0 w (line_length w f))

-- a row of a frame
pub grid_row : (w h : ℕ) (f : ℕ → ℕ → ℕ) (y : ℕ) → y < h → take w (drop (y * w) (grid w h f)) ≡ line w (f y)
unfolding grid
grid_row w zero f y l = absurd (not-suc-le-zero l)
grid_row w (suc h) f y l = either (grid_row w h f y) (dec_lt y h)
  where
    either : (y < h → take w (drop (y * w) (grid w h f)) ≡ line w (f y)) → Dec (y < h) → take w (drop (y * w) (grid w h f ++ line w (f h))) ≡ line w (f y)
    either before (yes k) =
        let room : y * w + w ≤ h * w = rw suc-mul at (mul-le-mul_right w k) in
        let e = grid_length w h f in
        rw (drop-append-le (y * w) (grid w h f) (line w (f h)) (omega arith), take-append-le w (drop (y * w) (grid w h f)) (line w (f h)) (rw length-drop (omega arith))) (before k)
    either before (no n) =
        let e : y ≡ h = omega arith in
        rw (e, drop_at (grid w h f) (line w (f h)) (h * w) (grid_length w h f), take_all w (line w (f h)) (le_of_eq (line_length w (f h))))

-- what stands at a place of a row of a frame
pub grid_at : (w h : ℕ) (f : ℕ → ℕ → ℕ) (y x : ℕ) → y < h → x < w → get_or (grid w h f) (y * w + x) 0 ≡ f y x
grid_at w h f y x l k =
    sym (get_or-drop (y * w) (grid w h f) x 0) ∙
    sym (get_or-take w (drop (y * w) (grid w h f)) x 0 k) ∙
    ap (λ row. get_or row x 0) (grid_row w h f y l) ∙
    line_at w (f y) x k
