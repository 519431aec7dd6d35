-- A whole entry is within its pack.
-- Assumes nothing.
use mathlib.Core.Path.{◌≡◌, refl, ap}
use mathlib.Core.Bool.{Bool, true, false, cond, ◌&&◌}
use mathlib.Core.List.{List}
use Prim.Native.Nat.{ℕ, ◌+◌, ◌≤◌}
use native.Mathlib.Omega.{arith}
use borrow.Author.Tests.{leb-true}
use lib.Dec.{eqb, leb}
use lib.ListN.{length, drop, length-drop}
use Rattle.codes.proofs.Tests.{both}
use Rattle.listpack.specs.Pack.{header_size, name_length, trace_length, entry_of}
use Rattle.listpack.specs.declared.pack.Sizes.{Sizes}
use Rattle.listpack.specs.declared.pack.Entry.{Entry}

chosen : (empty there : Bool) (found sizes : Sizes) → cond empty Entry.Nothing (cond there (Entry.Whole found) Entry.Cut) ≡ Entry.Whole sizes → (there ≡ true) × (found ≡ sizes)
chosen true there found sizes e = absurd (let z : ◌≡◌ {A = ℕ} 0 1 = cc in omega arith)
chosen false true found sizes e = (refl, cc)
chosen false false found sizes e = absurd (let z : ◌≡◌ {A = ℕ} 0 1 = cc in omega arith)

-- a whole entry is within the pack
pub within : (pack : List ℕ) (at : ℕ) (sizes : Sizes) → entry_of (drop at pack) ≡ Entry.Whole sizes → at + header_size + sizes.name + sizes.trace ≤ length pack
unfolding entry_of
within pack at sizes e =
    let bytes = drop at pack in
    let fits = leb (header_size + name_length bytes + trace_length bytes) (length bytes) in
    let found = chosen (eqb (length bytes) 0) (leb header_size (length bytes) && fits) (record { name = name_length bytes; trace = trace_length bytes }) sizes e in
    omega (arith, ap (λ (s : Sizes). s.name) found.1, ap (λ (s : Sizes). s.trace) found.1, length-drop at pack, leb-true (header_size + name_length bytes + trace_length bytes) (length bytes) (both (leb header_size (length bytes)) fits found.0).1)
