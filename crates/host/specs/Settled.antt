-- Any two results that satisfy what an exported call states are equal: its answer, and what it leaves of everything lent to be changed. A field has the name of its call.
use Rattle.std.specs.Prelude.{ℕ, ◌≡◌, List, drop}
use Rattle.constants.specs.Settles.{Settles}
use Rattle.trace.specs.Front.{front_of}
use Rattle.trace.specs.Run.{ran, stop_of, run}
use Rattle.picture.specs.Draw.{drawn, draw}
use Rattle.framelisting.specs.Listing.{listed}
use Rattle.host.specs.Record.{record_reply, record_of}
use Rattle.differences.specs.Compare.{compare_frames, compare_memories}
use Rattle.host.specs.List.{list_reply, of_listed}
use Rattle.host.specs.Compare.{compare_reply, of_compared}

pub record Settled : Type 0 where
  -- number, kind, offset after the record
  pub ssd1815b_record : (bytes : List ℕ) (at : ℕ) → Settles (λ (o : ℕ × ℕ × ℕ). record_reply o.0 o.1 o.2 ≡ record_of (front_of (drop at bytes)) at)
  -- number, offset, count, state, memory
  pub ssd1815b_run : (state memory bytes : List ℕ) → Settles (λ (o : ℕ × ℕ × ℕ × List ℕ × List ℕ). ran (stop_of o.0 o.1 o.2) o.3 o.4 ≡ run state memory bytes)
  -- number, frame
  pub ssd1815b_draw : (state memory frame : List ℕ) → Settles (λ (o : ℕ × List ℕ). drawn o.0 o.1 ≡ draw state memory frame)
  -- number, length, text
  pub ssd1815b_list : (number offset : ℕ) (frame text : List ℕ) → Settles (λ (o : ℕ × ℕ × List ℕ). list_reply o.0 o.1 o.2 ≡ of_listed (listed number offset frame text))
  -- number, count, list
  pub ssd1815b_compare_frames : (first second list : List ℕ) → Settles (λ (o : ℕ × ℕ × List ℕ). compare_reply o.0 o.1 o.2 ≡ of_compared (compare_frames first second list))
  pub ssd1815b_compare_memories : (first second list : List ℕ) → Settles (λ (o : ℕ × ℕ × List ℕ). compare_reply o.0 o.1 o.2 ≡ of_compared (compare_memories first second list))
