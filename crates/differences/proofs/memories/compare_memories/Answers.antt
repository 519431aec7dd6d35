-- `differences::memories::compare_memories` meets its contract: what is asked first refuses first.
use mathlib.Core.Path.{◌≡◌, sym, ◌∙◌}
use mathlib.Core.List.{List}
use Prim.Native.Nat.{ℕ, ◌≤◌, ◌<◌}
use borrow.Author.Tests.{lt-ltb, le-ltb}
use lib.ListN.{length}
use Rattle.constants.specs.Sizes.{memory_size}
use Rattle.differences.specs.Bytes.{bytes_of}
use Rattle.differences.specs.Entries.{byte_entry}
use Rattle.differences.specs.Compare.{outcome, listed, compare_memories}
use Rattle.differences.specs.Compared.{Compared}
use Rattle.differences.proofs.Coded.{memories_listed, handed_on}
use Rattle.differences.proofs.memories.compare_memories.Goals as goal

-- each thing that is asked
first_short : (f g list : List ℕ) → length f < memory_size → compare_memories f g list ≡ outcome (Compared.Refused 1) list
unfolding compare_memories
first_short f g list h = rw (lt-ltb (length f) memory_size h)

second_short : (f g list : List ℕ) → memory_size ≤ length f → length g < memory_size → compare_memories f g list ≡ outcome (Compared.Refused 1) list
unfolding compare_memories
second_short f g list h k = rw (le-ltb (length f) memory_size h, lt-ltb (length g) memory_size k)

all_in_order : (f g list : List ℕ) → memory_size ≤ length f → memory_size ≤ length g → compare_memories f g list ≡ listed byte_entry (bytes_of f g) list
unfolding compare_memories
all_in_order f g list h k = rw (le-ltb (length f) memory_size h, le-ltb (length g) memory_size k)

pub returns-in_err-first : goal.returns-in_err-first
returns-in_err-first c =
    let refused = c.in_err-first.ensures in
    rw (handed_on _ _ c.from_residual.ensures, refused.1) (sym (first_short _ _ _ refused.0))

pub returns-in_err-second : goal.returns-in_err-second
returns-in_err-second c =
    let refused = c.in_err-second.ensures in
    rw (handed_on _ _ c.from_residual-in_err-second.ensures, refused.1) (sym (second_short _ _ _ c.in_ok-first.ensures.0 refused.0))

pub returns : goal.returns
returns c =
    let f = c.in_ok-first.ensures in
    let g = c.in_ok-second.ensures in
    c.list_all.ensures ∙ memories_listed _ _ _ _ _ f.1 g.1 ∙ sym (all_in_order _ _ _ f.0 g.0)
