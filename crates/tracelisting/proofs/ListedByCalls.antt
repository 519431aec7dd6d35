-- What start, run, draw and list leave one after the other is the listing of the trace, whole at the start of the buffer.
-- Assumes nothing.
use mathlib.Core.Path.{◌≡◌, refl, ◌∙◌, ap}
use mathlib.Core.List.{List}
use Prim.Native.Nat.{ℕ, ◌^◌, ◌≤◌, ◌<◌}
use native.Mathlib.Omega.{arith}
use borrow.Author.Tests.{le-ltb}
use lib.ListN.{length, replicate}
use Rattle.std.specs.Prelude.{Result, Ok, Err}
use Rattle.std.specs.Result.{result_unwrap_or}
use Rattle.constants.specs.Numbers.{taken}
use Rattle.constants.specs.Sizes.{image_size, memory_size, frame_size, longest_listing}
use Rattle.bus.specs.Registers.{power_on, image_of}
use Rattle.bus.specs.Image.{short, stored}
use Rattle.bus.specs.Start.{registers_at_start, memory_at_start, started, start_of}
use Rattle.bus.specs.declared.start.Hung.{Hung}
use Rattle.trace.specs.Run.{Stop, ran, run}
use Rattle.picture.specs.Draw.{drawn, draw}
use Rattle.framelisting.specs.Text.{listing_of}
use Rattle.constants.specs.Refusals.{number_of_refusal}
use Rattle.constants.specs.declared.refusal.Refusal.{Refusal}
use Rattle.framelisting.specs.Listing.{Listed, listed_of, outcome, written, listed}
use Rattle.framelisting.proofs.LentBuffers.{always_enough}
use Rattle.trace.specs.EitherStart.{ran_from_start}
use Rattle.tracelisting.specs.TraceListing.{frame_after, listing_of_trace, printed, printed_of}

-- the start in arrays of the listing's own
start_there : (hung : Hung) → start_of hung (replicate image_size 0) (replicate memory_size 0) ≡ started taken (image_of (registers_at_start hung)) memory_at_start
unfolding power_on stored short start_of
start_there Hung.UpsideDown = refl
start_there Hung.Upright = refl

pub whole : (hung : Hung) (trace text state memory : List ℕ) (begun : ℕ) (stop : Stop) (later left frame text' : List ℕ) (number : ℕ) (answer : Listed) → started begun state memory ≡ start_of hung (replicate image_size 0) (replicate memory_size 0) → ran stop later left ≡ run state memory trace → drawn number frame ≡ draw later left (replicate frame_size 0) → outcome answer text' ≡ listed stop.number stop.offset frame text → stop.number < 256 → stop.offset < 2 ^ 64 → frame_size ≤ length frame → longest_listing ≤ length text → outcome answer text' ≡ written (listing_of_trace hung trace) text
unfolding ran_from_start frame_after listing_of_trace
whole hung trace text state memory begun stop later left frame text' number answer s p d l n o f t =
    l ∙
    always_enough stop.number stop.offset frame text n o f t ∙
    ap (λ listing. written listing text)
    (ap (λ drawing. listing_of stop.number stop.offset drawing.frame) d ∙
    ap (λ r. listing_of r.stop.number r.stop.offset (draw r.state r.memory (replicate frame_size 0)).frame)
    (p ∙ ap (λ begin. run begin.state begin.memory trace) (s ∙ start_there hung)))

-- the text stands at the start of the buffer, with its length; it is never refused
pub finished : (listing text later : List ℕ) (answer : Result ℕ Refusal) → longest_listing ≤ length text → outcome (listed_of answer) later ≡ written listing text → printed (result_unwrap_or answer 0) later ≡ printed_of listing text
unfolding written printed_of
finished listing text later (Ok size) t e =
    let same : Listed.Written size ≡ Listed.Written (length listing) = ap (λ o. o.answer) e in
    let long : size ≡ length listing = cc in
    rw (le-ltb (length text) longest_listing t, long, ap (λ o. o.text) e)
finished listing text later (Err refusal) t e =
    let same : Listed.Refused (number_of_refusal refusal) ≡ Listed.Written (length listing) = ap (λ o. o.answer) e in
    let z : ◌≡◌ {A = ℕ} 0 1 = cc in
    absurd (omega arith)
