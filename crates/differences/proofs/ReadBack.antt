-- What a reader finds in the list buffer is what was listed.
-- Assumes nothing.
use Prim.Native.Nat.{ℕ, ◌+◌, ◌*◌, ◌/◌, ◌%◌}
use mathlib.Core.Path.{◌≡◌, refl, ap, ◌∙◌}
use mathlib.Core.List.{List, [], ◌∷◌, ◌++◌}
use native.Mathlib.Omega.{arith}
use lib.ListN.{length, drop}
use Rattle.constants.specs.Sizes.{width, frame_rows, frame_entry_size, memory_entry_size}
use Rattle.constants.specs.Numbers.{taken}
use Rattle.differences.specs.Runs.{Run, runs_of}
use Rattle.differences.specs.Bytes.{DifferingByte, bytes_of}
use Rattle.differences.specs.Entries.{run_entry, byte_entry, entries}
use Rattle.differences.specs.Compare.{Outcome, number_of, count_of, compare_frames, compare_memories}
use Rattle.differences.specs.ReadBack.{read_runs, read_bytes, ReadBack}
use Rattle.differences.proofs.FrameRule.{the_only_runs}
use Rattle.differences.proofs.MemoryRule.{the_only_bytes}
use Rattle.differences.proofs.Given.{FrameWay, MemoryWay, frame_way, memory_way, given}
use Rattle.differences.proofs.PutBack.{put_back}
use Rattle.differences.proofs.Ways.{short, bad, small, well}

-- entries read one after the other
read_runs_lem : (found : List Run) (rest : List ℕ) → read_runs (length found) (entries run_entry found ++ rest) ≡ found
unfolding read_runs entries run_entry
read_runs_lem [] rest = refl
read_runs_lem (a ∷ q) rest = ap (λ (r : List Run). a ∷ r) (read_runs_lem q rest)

-- a place from its two bytes
whole : (n : ℕ) → n % 256 + 256 * (n / 256) ≡ n
whole n = omega arith

byte_place : (b : DifferingByte) (n : ℕ) → n ≡ b.place → ◌≡◌ {A = DifferingByte} (record { place = n; in_first = b.in_first; in_second = b.in_second }) b
byte_place b n e = ap (λ (p : ℕ). record { place = p; in_first = b.in_first; in_second = b.in_second }) e

read_bytes_lem : (found : List DifferingByte) (rest : List ℕ) → read_bytes (length found) (entries byte_entry found ++ rest) ≡ found
unfolding read_bytes entries byte_entry
read_bytes_lem [] rest = refl
read_bytes_lem (a ∷ q) rest = ap (λ (b : DifferingByte). b ∷ read_bytes (length q) (entries byte_entry q ++ rest)) (byte_place a _ (whole a.place)) ∙ ap (λ (r : List DifferingByte). a ∷ r) (read_bytes_lem q rest)

-- what is read is what was found
frames_found : (f g list : List ℕ) (o : Outcome) → FrameWay f g list o → number_of o.answer ≡ taken → read_runs (count_of o.answer) o.list ≡ runs_of f g
unfolding number_of count_of
frames_found f g list o (short s) e = absurd (omega (arith, e))
frames_found f g list o (bad l b) e = absurd (omega (arith, e))
frames_found f g list o (small l n h) e = absurd (omega (arith, e))
frames_found f g list o (well l n h) e = read_runs_lem (runs_of f g) (drop (length (runs_of f g) * frame_entry_size) list)

memories_found : (f g list : List ℕ) (o : Outcome) → MemoryWay f g list o → number_of o.answer ≡ taken → read_bytes (count_of o.answer) o.list ≡ bytes_of f g
unfolding number_of count_of
memories_found f g list o (short s) e = absurd (omega (arith, e))
memories_found f g list o (bad l b) e = absurd (omega (arith, e))
memories_found f g list o (small l n h) e = absurd (omega (arith, e))
memories_found f g list o (well l n h) e = read_bytes_lem (bytes_of f g) (drop (length (bytes_of f g) * memory_entry_size) list)

pub read_back : ReadBack
read_back = record {
  frames = λ f g list e. rw (frames_found f g list (compare_frames f g list) (frame_way f g list) e) (the_only_runs.meets width frame_rows f g);
  frames_back = λ f g list e.
      let long = ((given.frames f g list).zero.0 e).0 in
      rw (frames_found f g list (compare_frames f g list) (frame_way f g list) e) (put_back.frames f g long.0 long.1);
  memories = λ f g list e. rw (memories_found f g list (compare_memories f g list) (memory_way f g list) e) (the_only_bytes.meets f g);
  memories_back = λ f g list e. rw (memories_found f g list (compare_memories f g list) (memory_way f g list) e) (put_back.memories f g ((given.memories f g list).zero.0 e).0.0);
}
