-- The differing bytes of two memories meet the order's rule, and no other list does.
-- Assumes nothing.
use Prim.Native.Nat.{ℕ, zero, suc, ◌/◌, ◌%◌, ◌<◌}
use mathlib.Core.Path.{◌≡◌, refl, ◌∙◌, sym, ap}
use mathlib.Core.Bool.{Bool, true, false, not, cond}
use mathlib.Core.Logic.{◌≢◌}
use mathlib.Core.List.{List, ◌∷◌}
use native.Mathlib.Omega.{arith}
use borrow.Author.Tests.{eqb-false, not-true, ne_eqb}
use lib.Dec.{eqb}
use Rattle.constants.specs.Sizes.{width, pages, memory_size}
use Rattle.bus.specs.Bytes.{All}
use Rattle.bus.specs.Memory.{address}
use Rattle.picture.specs.Frame.{row_of, place_of}
use Rattle.differences.specs.Bytes.{DifferingByte, held, byte_at, bytes_from, page_bytes, bytes_of}
use Rattle.differences.specs.InOrder.{Some, InOrder}
use Rattle.differences.specs.MemoryRule.{content, Below, Differing, MemoryRule, TheOnlyBytes}
use Rattle.differences.proofs.InOrder.{Among, all_map, some_map, all_some, one_list}
use Rattle.differences.proofs.Found.{found, place_of_row, all_found, some_found, order_found, all_rows, some_rows, order_rows}

-- what a page holds in a column is what the memory holds at its address
held_content : (page x : ℕ) (memory : List ℕ) → x < width → held page (row_of width page memory) x ≡ content memory (address page x)
unfolding content place_of
held_content page x memory h =
    let e : address page x / width ≡ page = omega arith in
    rw (place_of_row width page x memory h, e)

-- A page of both memories.
module _ (page : ℕ) (a b : List ℕ) where
  -- Column x differs.
  abbrev other : ℕ → Bool
  other x = not (eqb (held page a x) (held page b x))

  -- the page's bytes are what its differing columns give
  bytes_found : (n x : ℕ) → bytes_from page a b n x ≡ found other (byte_at page a b) n x
  unfolding bytes_from found
  bytes_found zero x = refl
  bytes_found (suc n) x = rw (bytes_found n (suc x)) (by (eqb (held page a x) (held page b x)) (found other (byte_at page a b) n (suc x)))
    where
      by : (t : Bool) (rest : List DifferingByte) → cond t rest (byte_at page a b x ∷ rest) ≡ cond (not t) (byte_at page a b x ∷ rest) rest
      by true rest = refl
      by false rest = refl

  -- so they are in order,
  page_order : InOrder Below (page_bytes page a b)
  page_order = rw (bytes_found width 0) (order_found other (byte_at page a b) Below (λ y z h d e. omega arith) width 0)

  -- what each column's has, all have,
  page_all : (P : DifferingByte → Type 0) → ((x : ℕ) → x < width → held page a x ≢ held page b x → P (byte_at page a b x)) → All P (page_bytes page a b)
  page_all P each = rw (bytes_found width 0) (all_found other (byte_at page a b) P width 0 (λ x l k e. each x (omega arith) (eqb-false (held page a x) (held page b x) (not-true _ e))))

  -- and each differing column's is among them
  page_some : (P : DifferingByte → Type 0) (x : ℕ) → x < width → held page a x ≢ held page b x → P (byte_at page a b x) → Some P (page_bytes page a b)
  page_some P x h n p = rw (bytes_found width 0) (some_found other (byte_at page a b) P width 0 x (omega arith) (omega arith) (ap not (ne_eqb (held page a x) (held page b x) n)) p)

module _ (f g : List ℕ) where
  -- each listed byte differs, and has its contents
  bytes_differing : All (Differing f g) (bytes_of f g)
  unfolding bytes_of
  bytes_differing = all_rows width page_bytes f g (Differing f g) pages 0 (λ page l h. page_all page (row_of width page f) (row_of width page g) (Differing f g) (λ x k n. record {
    place_in = omega arith;
    first = held_content page x f k;
    second = held_content page x g k;
    differs = n;
  }))

  -- the pages rise
  bytes_order : InOrder Below (bytes_of f g)
  unfolding bytes_of
  bytes_order =
      order_rows width page_bytes f g Below (λ page byte. byte.place / width ≡ page) (λ p q h byte other d e. omega arith) pages 0
      (λ page. page_all page (row_of width page f) (row_of width page g) (λ byte. byte.place / width ≡ page) (λ x k n. omega arith))
      (λ page. page_order page (row_of width page f) (row_of width page g))

  -- each differing byte is listed
  bytes_every : (place : ℕ) → place < memory_size → content f place ≢ content g place → Some (λ byte. byte.place ≡ place) (bytes_of f g)
  unfolding bytes_of
  bytes_every place h n =
      let page = place / width in
      let x = place % width in
      let here : address page x ≡ place = omega arith in
      let k : x < width = omega arith in
      some_rows width page_bytes f g (λ byte. byte.place ≡ place) pages 0 page (omega arith) (omega arith)
      (page_some page (row_of width page f) (row_of width page g) (λ byte. byte.place ≡ place) x k
      (λ e. n (ap (content f) (sym here) ∙ sym (held_content page x f k) ∙ e ∙ held_content page x g k ∙ ap (content g) here))
      here)

  bytes_meet : MemoryRule f g (bytes_of f g)
  bytes_meet = record { in_order = bytes_order; differing = bytes_differing; every = bytes_every }

  -- differing bytes at one place are the same
  one_byte : (byte other : DifferingByte) → Differing f g byte → Differing f g other → other.place ≡ byte.place → other ≡ byte
  one_byte byte other d e i =
      let first : other.in_first ≡ byte.in_first = e.first ∙ ap (content f) i ∙ sym d.first in
      let second : other.in_second ≡ byte.in_second = e.second ∙ ap (content g) i ∙ sym d.second in
      λ j. record { place = i j; in_first = first j; in_second = second j }

  -- so any list that meets the rule has each of them
  bytes_among : (list : List DifferingByte) → MemoryRule f g list → (byte : DifferingByte) → Differing f g byte → Among list byte
  bytes_among list r byte d =
      some_map (λ other. Differing f g other × (other.place ≡ byte.place)) (λ other. other ≡ byte) (λ other p. one_byte byte other d p.0 p.1) list
      (all_some (Differing f g) (λ other. other.place ≡ byte.place) list r.differing
      (r.every byte.place d.place_in (λ e. d.differs (d.first ∙ e ∙ sym d.second))))

  -- and two that meet it are one
  bytes_one : (list other : List DifferingByte) → MemoryRule f g list → MemoryRule f g other → list ≡ other
  bytes_one list other r s =
      one_list Below (λ a b h k. omega arith) list other r.in_order s.in_order
      (all_map (Differing f g) (Among other) (bytes_among other s) list r.differing)
      (all_map (Differing f g) (Among list) (bytes_among list r) other s.differing)

pub the_only_bytes : TheOnlyBytes
the_only_bytes = record { meets = bytes_meet; alone = λ f g list r. bytes_one f g list (bytes_of f g) r (bytes_meet f g) }
