-- The differing bytes of two memories, put into the first, give the bits of the second; and there is none exactly where the two have the same bits.
-- Assumes nothing.
use Prim.Native.Nat.{ℕ, ◌-◌, ◌*◌, ◌/◌, ◌%◌, ◌≤◌, ◌<◌}
use mathlib.Core.Path.{◌≡◌, refl, sym, ◌∙◌}
use mathlib.Core.Bool.{Bool, true, false}
use mathlib.Core.Logic.{◌≢◌, ◌↔◌, ◌⊎◌, inl, inr}
use mathlib.Core.List.{List, [], ◌∷◌}
use native.Mathlib.Omega.{arith}
use native.Mathlib.Decide.{dec_lt}
use borrow.Author.Tests.{eqb-true, eqb-false, ne_eqb}
use lib.Dec.{eqb}
use lib.ListN.{length, get_or, drop, set, length-set}
use lib.Seq.{get_or-set_same, get_or-set_other, drop-set-lt}
use Rattle.constants.specs.Sizes.{width, icon_page, memory_size}
use Rattle.bus.specs.Bytes.{All}
use Rattle.bus.specs.Memory.{address, kept}
use Rattle.picture.specs.Ignored.{SameBits}
use Rattle.differences.specs.Bytes.{DifferingByte, bytes_of}
use Rattle.differences.specs.InOrder.{Some}
use Rattle.differences.specs.MemoryRule.{content, Differing, MemoryRule}
use Rattle.differences.specs.PutBack.{put_bytes}
use Rattle.differences.proofs.MemoryRule.{the_only_bytes}

-- what is kept is kept again
kept_again : (page byte : ℕ) → kept page (kept page byte) ≡ kept page byte
unfolding kept
kept_again page byte = by (eqb page icon_page) refl
  where
    by : (t : Bool) → eqb page icon_page ≡ t → kept page (kept page byte) ≡ kept page byte
    by true e = rw e (omega arith)
    by false e = rw e

-- of pages 0 to 7 the byte, of page 8 bit 0
content_page : (memory : List ℕ) (place : ℕ) → place < icon_page * width → content memory place ≡ get_or memory place 0
unfolding content kept
content_page memory place h = rw (ne_eqb (place / width) icon_page (λ e. omega (arith, e, h)))

content_icon : (memory : List ℕ) (column : ℕ) → column < width → content memory (address icon_page column) ≡ get_or memory (address icon_page column) 0 % 2
unfolding content kept
content_icon memory column h =
    let page : address icon_page column / width ≡ icon_page = omega (arith, h) in
    rw page

-- Two memories have the same bits exactly where they hold the same at each place.
Same : List ℕ → List ℕ → Type 0
Same memory other = (place : ℕ) → place < memory_size → content memory place ≡ content other place

same_bits : (memory other : List ℕ) → Same memory other → SameBits memory other
unfolding Same
same_bits memory other same = record {
  pages = λ place h. sym (content_page memory place h) ∙ same place (omega (arith, h)) ∙ content_page other place h;
  icons = λ column h. sym (content_icon memory column h) ∙ same (address icon_page column) (omega (arith, h)) ∙ content_icon other column h;
}

bits_same : (memory other : List ℕ) → SameBits memory other → Same memory other
unfolding Same
bits_same memory other bits place h = by (dec_lt place (icon_page * width))
  where
    by : Dec (place < icon_page * width) → content memory place ≡ content other place
    by (yes k) = content_page memory place k ∙ bits.pages place k ∙ sym (content_page other place k)
    by (no n) =
        let column = place - icon_page * width in
        let within : column < width = omega (arith, n, h) in
        let e : address icon_page column ≡ place = omega (arith, n) in
        rw e at (content_icon memory column within ∙ bits.icons column within ∙ sym (content_icon other column within))

-- One byte put: its place holds what the second memory holds, and any other place what it held.
put_here : (memory g : List ℕ) (byte : DifferingByte) (place : ℕ) → byte.place ≡ place → place < length memory → byte.in_second ≡ content g byte.place → content (set memory byte.place byte.in_second) place ≡ content g place
unfolding content
put_here memory g byte place here h e =
    rw (← here, get_or-set_same memory byte.place byte.in_second 0 (omega (arith, here, h)), e) (kept_again (byte.place / width) (get_or g byte.place 0))

put_there : (memory : List ℕ) (byte : DifferingByte) (place : ℕ) → place ≢ byte.place → content (set memory byte.place byte.in_second) place ≡ content memory place
unfolding content
put_there memory byte place n = rw (get_or-set_other memory byte.place place byte.in_second 0 n)

-- all put: a place that held what the second memory holds, or is listed, holds it
put_all : (f g : List ℕ) (list : List DifferingByte) → All (Differing f g) list → (memory : List ℕ) (place : ℕ) → place < length memory → (content memory place ≡ content g place) ⊎ Some (λ byte. byte.place ≡ place) list → content (put_bytes memory list) place ≡ content g place
unfolding put_bytes
put_all f g [] all memory place h (inl e) = e
put_all f g [] all memory place h (inr s) = absurd s
put_all f g (byte ∷ rest) all memory place h was =
    put_all f g rest all.1 (set memory byte.place byte.in_second) place (rw length-set h) (by (eqb byte.place place) refl was)
  where
    by : (t : Bool) → eqb byte.place place ≡ t → (content memory place ≡ content g place) ⊎ Some (λ byte. byte.place ≡ place) (byte ∷ rest) → (content (set memory byte.place byte.in_second) place ≡ content g place) ⊎ Some (λ byte. byte.place ≡ place) rest
    by true e was = inl (put_here memory g byte place (eqb-true byte.place place e) h all.0.second)
    by false e (inl same) = inl (put_there memory byte place (λ q. eqb-false byte.place place e (sym q)) ∙ same)
    by false e (inr (inl q)) = absurd (eqb-false byte.place place e q)
    by false e (inr (inr later)) = inr later

-- Two memories.
module _ (f g : List ℕ) where
  rule : MemoryRule f g (bytes_of f g)
  rule = the_only_bytes.meets f g

  put_same : memory_size ≤ length f → Same (put_bytes f (bytes_of f g)) g
  unfolding Same
  put_same l place h = put_all f g (bytes_of f g) rule.differing f place (omega (arith, l, h)) (by (eqb (content f place) (content g place)) refl)
    where
      by : (t : Bool) → eqb (content f place) (content g place) ≡ t → (content f place ≡ content g place) ⊎ Some (λ byte. byte.place ≡ place) (bytes_of f g)
      by true e = inl (eqb-true (content f place) (content g place) e)
      by false e = inr (rule.every place h (eqb-false (content f place) (content g place) e))

  pub bytes_back : memory_size ≤ length f → SameBits (put_bytes f (bytes_of f g)) g
  bytes_back l = same_bits (put_bytes f (bytes_of f g)) g (put_same l)

  -- nothing past the memory changes
  put_past : (list : List DifferingByte) → All (Differing f g) list → (memory : List ℕ) → drop memory_size (put_bytes memory list) ≡ drop memory_size memory
  unfolding put_bytes
  put_past [] all memory = refl
  put_past (byte ∷ rest) all memory =
      put_past rest all.1 (set memory byte.place byte.in_second) ∙ drop-set-lt memory_size memory byte.place byte.in_second all.0.place_in

  pub bytes_past : drop memory_size (put_bytes f (bytes_of f g)) ≡ drop memory_size f
  bytes_past = put_past (bytes_of f g) rule.differing f

  -- memories that hold the same have no differing byte
  none_differing : Same f g → (list : List DifferingByte) → All (Differing f g) list → list ≡ []
  unfolding Same
  none_differing same [] all = refl
  none_differing same (byte ∷ rest) all =
      let d = all.0 in
      absurd (d.differs (d.first ∙ same byte.place d.place_in ∙ sym d.second))

  pub no_bytes : memory_size ≤ length f → (bytes_of f g ≡ []) ↔ SameBits f g
  unfolding put_bytes
  no_bytes l = (λ e. rw e at (bytes_back l), λ bits. none_differing (bits_same f g bits) (bytes_of f g) rule.differing)
