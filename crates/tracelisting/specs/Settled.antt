-- Any two results that satisfy what a public call of this crate states are equal: its answer, and what it leaves of the buffer. A field has the name of its call.
use Rattle.std.specs.Prelude.{ℕ, ◌≡◌, Bool, List}
use Rattle.constants.specs.Settles.{Settles}
use Rattle.bus.specs.declared.start.Hung.{Hung}
use Rattle.tracelisting.specs.TraceListing.{text_for, printed, printed_of}
use Rattle.tracelisting.specs.Beginning.{begins}

pub record Settled : Type 0 where
  pub list_input : (hung : Hung) (input text : List ℕ) → Settles (λ (o : ℕ × List ℕ). printed o.0 o.1 ≡ printed_of (text_for hung input) text)
  pub word::begins_with : (text word : List ℕ) → Settles (λ (r : Bool). r ≡ begins word text)
