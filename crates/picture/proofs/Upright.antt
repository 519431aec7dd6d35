-- Laws on the whole frame drawn at once: a row by its number from an upright memory shows what the row rule, the column direction and reverse say.
-- Assumes nothing.
use mathlib.Core.Path.{◌≡◌, refl, sym, ◌∙◌}
use mathlib.Core.Logic.{◌≢◌}
use mathlib.Core.Bool.{Bool, true, false, cond}
use mathlib.Core.List.{List}
use Prim.Native.Nat.{ℕ, zero, suc, ◌+◌, ◌*◌, ◌-◌, ◌/◌, ◌%◌, ◌^◌, ◌≤◌, ◌<◌}
use native.Mathlib.Omega.{arith}
use native.Mathlib.Nat.{mod-lt, add-mod-mod}
use borrow.Author.Tests.{eq-eqb, ne_eqb}
use lib.Bits.{bit_xor, bit_and, and_mask, xor_shr, xor_mod, xor_zero_r}
use lib.Dec.{eqb}
use lib.ListN.{get_or}
use Rattle.std.specs.Prelude.{Option, None}
use Rattle.constants.specs.Sizes.{width, pages, height, frame_rows}
use Rattle.bus.specs.Memory.{address}
use Rattle.bus.specs.declared.registers.Registers.{Registers}
use Rattle.picture.specs.Scan.{panel_row, column_of, row_shows}
use Rattle.picture.specs.Rows.{scan_of}
use Rattle.picture.specs.Frame.{bit, turned, shown_bit, while_on, segment, line, grid, frame}
use Rattle.picture.specs.Upright.{upright_byte, WithinRam, RowsOf, seen}
use Rattle.picture.specs.declared.rows.RamRow.{RamRow}
use Rattle.picture.specs.Shown.{Shown, shown_of}
use Rattle.picture.proofs.Lines.{line_same, line_at, grid_same, grid_at}
use Rattle.picture.proofs.RamRows.{shows_within}

-- a column of the page is one of its columns
pub column_within : (direction x : ℕ) → x < width → column_of width direction x < width
unfolding column_of
column_within direction x h = either (eqb direction 0)
  where
    either : (b : Bool) → cond b x (width - 1 - x) < width
    either true = h
    either false = omega arith

-- a bit of a byte all of whose bits are turned round, or none
all_bits : (k : ℕ) → k < 8 → 255 / 2 ^ k % 2 ≡ 1
all_bits zero l = refl
all_bits (suc zero) l = refl
all_bits (suc (suc zero)) l = refl
all_bits (suc (suc (suc zero))) l = refl
all_bits (suc (suc (suc (suc zero)))) l = refl
all_bits (suc (suc (suc (suc (suc zero))))) l = refl
all_bits (suc (suc (suc (suc (suc (suc zero)))))) l = refl
all_bits (suc (suc (suc (suc (suc (suc (suc zero))))))) l = refl
all_bits (suc (suc (suc (suc (suc (suc (suc (suc k)))))))) l = absurd (omega arith)

bit_turned : (v : ℕ) → v < 2 → bit_xor v 1 ≡ (v + 1) % 2
bit_turned zero l = refl
bit_turned (suc zero) l = refl
bit_turned (suc (suc v)) l = absurd (omega arith)

bit_kept : (v : ℕ) → v < 2 → v ≡ (v + 0) % 2
bit_kept zero l = refl
bit_kept (suc zero) l = refl
bit_kept (suc (suc v)) l = absurd (omega arith)

byte_turned : (byte k reverse : ℕ) → k < 8 → reverse < 2 → bit_xor byte (255 * reverse) / 2 ^ k % 2 ≡ turned reverse (byte / 2 ^ k % 2)
unfolding turned
byte_turned byte k zero l m = rw (xor_zero_r byte) (bit_kept (byte / 2 ^ k % 2) (mod-lt _ (omega arith)))
byte_turned byte k (suc zero) l m =
    rw (xor_shr byte 255 k, xor_mod (byte / 2 ^ k) (255 / 2 ^ k) 1, all_bits k l) (bit_turned (byte / 2 ^ k % 2) (mod-lt _ (omega arith)))
byte_turned byte k (suc (suc reverse)) l m = absurd (omega arith)

-- the bits of a RAM row, made of the page that it lies in: as some registers show it, and of a memory that is upright
pub row_bits : (r : Registers) (memory : List ℕ) (row : RamRow) {page b : ℕ} {shown bits : List ℕ} → page ≡ row.0 / 8 → b ≡ row.0 % 8
    → shown ≡ line width (upright_byte r.column_direction (bit_and r.reverse 1) memory page) → bits ≡ line width (λ x. get_or shown x 0 / 2 ^ b % 2) → bits ≡ line width (shown_bit r memory row)
unfolding bit shown_bit turned upright_byte
row_bits r memory row {page = page} p q s made =
    made ∙
    line_same width _ _ (λ x h. rw (s, line_at width (upright_byte r.column_direction (bit_and r.reverse 1) memory page) x h, p, q, and_mask r.reverse 1)
    (byte_turned (get_or memory (address (row.0 / 8) (column_of width r.column_direction x)) 0) (row.0 % 8) (r.reverse % 2) (omega arith) (omega arith) ∙ rw (turned, add-mod-mod)))

pub upright_bits : (upright : List ℕ) (row : RamRow) {page b : ℕ} {shown bits : List ℕ} → page ≡ row.0 / 8 → b ≡ row.0 % 8
    → shown ≡ line width (upright_byte 0 0 upright page) → bits ≡ line width (λ x. get_or shown x 0 / 2 ^ b % 2) → bits ≡ line width (bit address upright row)
unfolding bit column_of upright_byte
upright_bits upright row {page = page} p q s made =
    made ∙
    line_same width _ _ (λ x h. rw (s, line_at width (upright_byte 0 0 upright page) x h, p, q, xor_zero_r (get_or upright (address (row.0 / 8) x) 0)))

-- a memory that is upright for some registers: its bits are what the registers show
abbrev pub Upright : Registers → List ℕ → List ℕ → Type 0
Upright r memory upright = (p x : ℕ) → p < pages → x < width → get_or upright (address p x) 0 ≡ upright_byte r.column_direction (r.reverse % 2) memory p x

-- the memory itself, where columns are normal and nothing is reversed
pub upright_already : (r : Registers) (memory : List ℕ) → r.column_direction ≡ 0 → bit_and r.reverse 1 ≡ 0 → Upright r memory memory
unfolding upright_byte column_of
upright_already r memory e f p x l h =
    let g : r.reverse % 2 ≡ 0 = sym (and_mask r.reverse 1) ∙ f in
    rw (eq-eqb r.column_direction 0 e, g, xor_zero_r (get_or memory (address p x) 0))

-- a memory that was brought upright
pub upright_made : (r : Registers) (memory upright : List ℕ) → upright ≡ grid width pages (upright_byte r.column_direction (bit_and r.reverse 1) memory) → Upright r memory upright
upright_made r memory upright e p x l h =
    let byte = upright_byte r.column_direction (bit_and r.reverse 1) memory in
    rw e (grid_at width pages byte p x l h ∙ rw (and_mask r.reverse 1))

module _ (r : Registers) (memory upright : List ℕ) (on : r.on ≢ 0) (entire : r.entire ≢ 1) (holds : Upright r memory upright) where
  upright_bit : (row : RamRow) (x : ℕ) → row.0 ≤ height → x < width → bit address upright row x ≡ shown_bit r memory row x
  unfolding bit shown_bit upright_byte turned
  upright_bit row x l h =
      rw (holds (row.0 / 8) x (omega arith) h) (byte_turned (get_or memory (address (row.0 / 8) (column_of width r.column_direction x)) 0) (row.0 % 8) (r.reverse % 2) (omega arith) (omega arith) ∙ rw (turned, add-mod-mod))

  shown_place : (shown : Shown) (x : ℕ) → WithinRam height shown → x < width → seen upright shown x ≡ segment r memory shown x
  unfolding seen segment while_on
  shown_place Shown.Dark x within h = rw (ne_eqb r.on 0 on)
  shown_place (Shown.Ram row) x within h = rw (ne_eqb r.on 0 on, ne_eqb r.entire 1 entire) (upright_bit row x within h)

  -- the frame is drawn by what each of its rows shows
  pub frame_seen : (rows : List (Option RamRow)) → RowsOf r rows → grid width frame_rows (λ y. seen upright (shown_of (get_or rows y None))) ≡ frame r memory
  unfolding frame
  frame_seen rows shows =
      grid_same width frame_rows _ _ (λ y x k h. rw (shows.each y k) (shown_place (row_shows (scan_of r) (panel_row y)) x (shows_within (scan_of r) (omega arith) (panel_row y)) h))

-- each of those rows is one of the memory
pub rows_within : (r : Registers) (rows : List (Option RamRow)) → RowsOf r rows → (y : ℕ) → y < frame_rows → WithinRam height (shown_of (get_or rows y None))
rows_within r rows shows y l = rw (shows.each y l) (shows_within (scan_of r) (omega arith) (panel_row y))
