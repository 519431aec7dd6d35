-- Each number is given exactly when document 02 says so, what is left of the list buffer, and how large it must be.
-- Assumes nothing.
use Prim.Native.Nat.{ℕ, zero, suc, ◌*◌, ◌≤◌, ◌<◌}
use mathlib.Core.Path.{◌≡◌, refl, sym, ◌∙◌}
use mathlib.Core.Bool.{Bool, true, false, ◌||◌, or-true, false≢true}
use mathlib.Core.Logic.{◌⊎◌, inl, inr, ⊎_elim, ⊎_map}
use mathlib.Core.List.{List, [], ◌∷◌}
use native.Mathlib.Nat.{not-suc-le-zero}
use native.Mathlib.Omega.{arith}
use borrow.Author.Tests.{lt-ltb, ltb-true, ltb-false}
use lib.Dec.{ltb}
use lib.ListN.{length, length-append, length-replicate, get_or, take, replicate}
use Rattle.constants.specs.Sizes.{width, frame_rows, frame_size, memory_size, frame_entry_size, memory_entry_size, longest_frame_list, longest_memory_list}
use Rattle.codes.proofs.Tests.{chosen, either}
use Rattle.bus.specs.Bytes.{All}
use Rattle.differences.specs.Runs.{runs_of}
use Rattle.differences.specs.Bytes.{bytes_of}
use Rattle.differences.specs.Entries.{run_entry, byte_entry}
use Rattle.differences.specs.Compare.{Outcome, any_above, compare_frames, compare_memories}
use Rattle.differences.specs.Given.{Long, Above, no_run, no_byte, FramesCompared, MemoriesCompared, turns, striped, Given}
use Rattle.differences.proofs.Entries.{run_sized, byte_sized, runs_at_most, bytes_at_most}
use Rattle.differences.proofs.InOrder.{all_append}
use Rattle.differences.proofs.Longest.{most_runs, most_bytes}
use Rattle.differences.proofs.Ways.{Way, short, bad, by_length, when_one, when_twelve, when_eleven, when_zero, left_then}

-- The test on the first bytes finds one above 1 where there is one,
pub above_found : (size : ℕ) (frame : List ℕ) → any_above (take size frame) ≡ true → Above size frame
unfolding any_above
above_found zero frame e = absurd (false≢true e)
above_found (suc n) [] e = absurd (false≢true e)
above_found (suc n) (b ∷ rest) e = ⊎_elim here (λ t. later (above_found n rest t)) (either (ltb 1 b) (any_above (take n rest)) e)
  where
    here : ltb 1 b ≡ true → Above (suc n) (b ∷ rest)
    here t = record { place = 0; place_in = omega arith; above = ltb-true 1 b t }

    later : Above n rest → Above (suc n) (b ∷ rest)
    later a = record { place = suc a.place; place_in = omega (arith, a.place_in); above = a.above }

-- and only there.
pub above_at : (size : ℕ) (frame : List ℕ) (place : ℕ) → place < size → 1 < get_or frame place 0 → any_above (take size frame) ≡ true
unfolding any_above
above_at zero frame place h a = absurd (not-suc-le-zero h)
above_at (suc n) [] place h a = absurd (not-suc-le-zero a)
above_at (suc n) (b ∷ rest) zero h a = rw (lt-ltb 1 b a)
above_at (suc n) (b ∷ rest) (suc place) h a = rw (above_at n rest place (omega (arith, h)) a, or-true)

pub none_above : (size : ℕ) (frame : List ℕ) → any_above (take size frame) ≡ false → Above size frame → ⊥
none_above size frame e a = false≢true (sym e ∙ above_at size frame a.place a.place_in a.above)

-- what it is that neither of two tests holds
neither : (s t : Bool) → (s || t) ≡ false → (s ≡ false) × (t ≡ false)
neither true t e = absurd (false≢true (sym e))
neither false t e = (refl, e)

-- the tests on two lengths
module _ (size : ℕ) (f g : List ℕ) where
  is_short : (ltb (length f) size || ltb (length g) size) ≡ true → (length f < size) ⊎ (length g < size)
  is_short e = ⊎_map (ltb-true (length f) size) (ltb-true (length g) size) (either (ltb (length f) size) (ltb (length g) size) e)

  is_long : (ltb (length f) size || ltb (length g) size) ≡ false → Long size f g
  is_long e =
      let n = neither (ltb (length f) size) (ltb (length g) size) e in
      (ltb-false (length f) size n.0, ltb-false (length g) size n.1)

-- Two frames and a list buffer.
module _ (f g list : List ℕ) where
  abbrev pub BadFrames : Type 0
  BadFrames = Above frame_size f ⊎ Above frame_size g

  abbrev pub FrameWay : Outcome → Type 0
  FrameWay = Way frame_entry_size run_entry run_sized (runs_of f g) list frame_size f g BadFrames

  -- the way that comparing them goes
  pub frame_way : FrameWay (compare_frames f g list)
  unfolding compare_frames
  frame_way =
      chosen FrameWay (ltb (length f) frame_size || ltb (length g) frame_size) _ _
      (λ s. short (is_short frame_size f g s))
      (λ s. chosen FrameWay (any_above (take frame_size f) || any_above (take frame_size g)) _ _
      (λ a. bad (is_long frame_size f g s) (found a))
      (λ a. by_length frame_entry_size run_entry run_sized (runs_of f g) list frame_size f g BadFrames (is_long frame_size f g s) (none a)))
    where
      found : (any_above (take frame_size f) || any_above (take frame_size g)) ≡ true → BadFrames
      found a = ⊎_map (above_found frame_size f) (above_found frame_size g) (either (any_above (take frame_size f)) (any_above (take frame_size g)) a)

      none : (any_above (take frame_size f) || any_above (take frame_size g)) ≡ false → BadFrames → ⊥
      none a =
          let n = neither (any_above (take frame_size f)) (any_above (take frame_size g)) a in
          ⊎_elim (none_above frame_size f n.0) (none_above frame_size g n.1)

  frames_compared : FramesCompared f g list
  frames_compared =
      let o = compare_frames f g list in
      let eleven = when_eleven o frame_way in
      let zero = when_zero o frame_way in
      record {
        one = when_one o frame_way;
        twelve = when_twelve o frame_way;
        eleven = (λ e. let t = eleven.0 e in (t.0, λ a. t.1 (inl a), λ a. t.1 (inr a), t.2), λ t. eleven.1 (t.0, ⊎_elim t.1 t.2, t.3));
        zero = (λ e. let t = zero.0 e in (t.0, λ a. t.1 (inl a), λ a. t.1 (inr a), t.2), λ t. zero.1 (t.0, ⊎_elim t.1 t.2, t.3));
        left = left_then no_run o frame_way;
      }

  -- Two memories and a list buffer.
  abbrev pub MemoryWay : Outcome → Type 0
  MemoryWay = Way memory_entry_size byte_entry byte_sized (bytes_of f g) list memory_size f g ⊥

  pub memory_way : MemoryWay (compare_memories f g list)
  unfolding compare_memories
  memory_way =
      chosen MemoryWay (ltb (length f) memory_size || ltb (length g) memory_size) _ _
      (λ s. short (is_short memory_size f g s))
      (λ s. by_length memory_entry_size byte_entry byte_sized (bytes_of f g) list memory_size f g ⊥ (is_long memory_size f g s) (λ n. n))

  memories_compared : MemoriesCompared f g list
  memories_compared =
      let o = compare_memories f g list in
      let eleven = when_eleven o memory_way in
      let zero = when_zero o memory_way in
      record {
        one = when_one o memory_way;
        eleven = (λ e. let t = eleven.0 e in (t.0, t.2), λ t. eleven.1 (t.0, λ n. n, t.1));
        zero = (λ e. let t = zero.0 e in (t.0, t.2), λ t. zero.1 (t.0, λ n. n, t.1));
        left = left_then no_byte o memory_way;
      }

-- the entries of any two frames, or memories, fit into the longest list
frames_enough : (f g : List ℕ) → length (runs_of f g) * frame_entry_size ≤ longest_frame_list
frames_enough f g = omega (arith, runs_at_most width frame_rows f g)

memories_enough : (f g : List ℕ) → length (bytes_of f g) * memory_entry_size ≤ longest_memory_list
memories_enough f g = omega (arith, bytes_at_most f g)

-- the two striped frames are frames that are taken
striped_length : (a b n : ℕ) → length (striped a b n) ≡ n * width
striped_length a b zero = refl
striped_length a b (suc n) = length-append (turns a b 66) (striped a b n) ∙ rw (striped_length a b n) (omega arith)

turns_low : (a b : ℕ) → a ≤ 1 → b ≤ 1 → (n : ℕ) → All (λ (byte : ℕ). byte ≤ 1) (turns a b n)
turns_low a b k l zero = tt
turns_low a b k l (suc n) = (k, (l, turns_low a b k l n))

striped_low : (a b : ℕ) → a ≤ 1 → b ≤ 1 → (n : ℕ) → All (λ (byte : ℕ). byte ≤ 1) (striped a b n)
striped_low a b k l zero = tt
striped_low a b k l (suc n) = all_append (λ (byte : ℕ). byte ≤ 1) (turns a b 66) (striped a b n) (turns_low a b k l 66) (striped_low a b k l n)

low_at : (frame : List ℕ) → All (λ (byte : ℕ). byte ≤ 1) frame → (place : ℕ) → get_or frame place 0 ≤ 1
low_at [] all place = omega arith
low_at (b ∷ rest) all zero = all.0
low_at (b ∷ rest) all (suc place) = low_at rest all.1 place

striped_taken : (a b : ℕ) → a ≤ 1 → b ≤ 1 → Above frame_size (striped a b frame_rows) → ⊥
striped_taken a b k l above = omega (arith, above.above, low_at (striped a b frame_rows) (striped_low a b k l frame_rows) above.place)

pub given : Given
given = record {
  frames = frames_compared;
  memories = memories_compared;
  frames_enough = λ f g list h e. omega (arith, h, frames_enough f g, ((frames_compared f g list).eleven.0 e).3);
  frames_reached = λ list h.
      (frames_compared (striped 0 1 frame_rows) (striped 1 0 frame_rows) list).eleven.1
      ((omega (arith, striped_length 0 1 frame_rows), omega (arith, striped_length 1 0 frame_rows)), striped_taken 0 1 (omega arith) (omega arith), striped_taken 1 0 (omega arith) (omega arith), rw most_runs h);
  memories_enough = λ f g list h e. omega (arith, h, memories_enough f g, ((memories_compared f g list).eleven.0 e).1);
  memories_reached = λ list h.
      (memories_compared (replicate memory_size 0) (replicate memory_size 1) list).eleven.1 ((omega (arith, length-replicate {A = ℕ} memory_size 0), omega (arith, length-replicate {A = ℕ} memory_size 1)), rw most_bytes h);
}
