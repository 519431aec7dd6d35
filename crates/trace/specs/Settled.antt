-- Any two results that satisfy what a public call of this crate states are equal: its answer, and what it leaves of everything lent to be changed. A field has the name of its call.
use Rattle.std.specs.Prelude.{ℕ, ◌≡◌, List, drop, Result}
use Rattle.std.specs.Borrow.{Bor}
use Rattle.constants.specs.declared.refusal.Refusal.{Refusal}
use Rattle.bus.specs.Stretch.{Stretch, stretch, stretch_of}
use Rattle.bus.specs.declared.registers.Registers.{Registers}
use Rattle.trace.specs.Records.{split}
use Rattle.trace.specs.Front.{front_of}
use Rattle.trace.specs.Play.{play}
use Rattle.trace.specs.Kinds.{replay, chip_of, the_chip}
use Rattle.trace.specs.Code.{Named, recorded_in, stop_met, played_of}
use Rattle.trace.specs.Run.{ran, run}
use Rattle.trace.specs.ReaderWalk.{New, Moved, Next}
use Rattle.trace.specs.declared.kind.Kind.{Kind}
use Rattle.trace.specs.declared.reader.Reader.{Reader}
use Rattle.trace.specs.declared.records.Front.{Front}
use Rattle.trace.specs.declared.records.Header.{Header}
use Rattle.trace.specs.declared.run.Played.{Played}
use Rattle.trace.specs.declared.run.Stop.{Stop}
use Rattle.constants.specs.Settles.{Settles}

pub record Settled : Type 0 where
  -- stop, state, memory
  pub «run::run» : (state memory trace : List ℕ) → Settles (λ (o : Stop × List ℕ × List ℕ). ran (stop_met o.0) o.1 o.2 ≡ run state memory trace)
  -- stop and registers, memory
  pub «run::play» : (registers : Registers) (memory trace : List ℕ) → Settles (λ (o : Played × List ℕ). played_of o.0 o.1 ≡ play the_chip (split trace) (chip_of registers memory))
  pub records::front_at : (trace : List ℕ) (at : ℕ) → Settles (λ (f : Front). f ≡ front_of (drop at trace))
  pub reader::read_at : (trace : List ℕ) (at : ℕ) → Settles (λ (f : Front). f ≡ front_of (drop at trace))
  -- `Reader::new`, `Reader::moved`, `Reader::next`: a reader holds the caller's own bytes
  pub «reader::new» : (lent : Bor (List ℕ)) → Settles (λ (q : Reader). New lent q)
  pub «reader::moved» : (r : Reader) (at : ℕ) → Settles (λ (q : Reader). Moved r at q)
  pub «reader::next» : (r : Reader) → Settles (λ (f : Front). Next r f)
  pub Kind::try_from : (header : Header) → Settles (λ (found : Result Kind Refusal). Named header found)
  -- stretch, memory
  pub «Kind::obey» : (self : Kind) (registers : Registers) (memory payload : List ℕ) → Settles (λ (o : Stretch × List ℕ). stretch_of o.0 o.1 ≡ stretch replay (recorded_in self payload) (chip_of registers memory))
