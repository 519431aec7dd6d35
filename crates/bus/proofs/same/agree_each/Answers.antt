-- `bus::same::agree_each` meets its contract: where no bit differs, the bytes passed agree.
use Prim.Native.Nat.{ℕ, ◌<◌}
use mathlib.Core.Path.{◌≡◌, sym, ◌∙◌, ap}
use native.Mathlib.Omega.{arith}
use borrow.Author.Tests.{eqb-true}
use native.Mathlib.Nat.{not-suc-le-zero}
use lib.Bits.{bit_or, bit_xor}
use lib.ListN.{length, get_or}
use Rattle.std.proofs.Common.{rules}
use Rattle.std.proofs.lemmas.Fn.{fold_over, fronts}
use Rattle.std.proofs.lemmas.Iterator.{YieldsList-from_slice, YieldsList-from_zip, zips}
use Rattle.std.proofs.lemmas.Slice.Zip.{length-zip, get_or-zip}
use Rattle.std.specs.List.{zip}
use Rattle.bus.specs.Memory.{kept}
use Rattle.bus.proofs.SideBySide.{each_more, or_zero, xor_zero}
use Rattle.bus.proofs.same.agree_each.Goals as goal

pub returns : goal.returns
returns c =
    let a = c.args in
    let P : ℕ × ℕ → Type 0 = λ p. kept a.page p.0 ≡ p.1 in
    let pairs = zip a.places.now a.bytes.now in
    λ t.
    let all : (i : ℕ) → i < length pairs → P (get_or pairs i (0, 0)) =
    fold_over (zips fronts fronts) (λ p. (p.0.now, p.1.now)) _ (λ ys d. d ≡ 0 → (i : ℕ) → i < length ys → P (get_or ys i (0, 0))) _
    (λ ys d p e f' j k.
    let e-is : e ≡ bit_or d (bit_xor (kept a.page p.0.now) p.1.now) = search rules in
    (λ z. let none = or_zero d (bit_xor (kept a.page p.0.now) p.1.now) (sym e-is ∙ z) in each_more P (0, 0) ys (p.0.now, p.1.now) (j none.0) (xor_zero _ _ none.1), search rules))
    c.zip.result pairs _ _ (YieldsList-from_zip (YieldsList-from_slice a.places.now (search rules)) (YieldsList-from_slice a.bytes.now (search rules))).runs (λ e i h. absurd (not-suc-le-zero h)) c.fold-differing.ensures.ran (eqb-true _ _ t) in
    λ i h.
    let at = get_or-zip a.places.now a.bytes.now i (0, 0) (omega arith) h in
    ap (λ p. kept a.page p.0) (sym at) ∙ all i (omega (arith, length-zip a.places.now a.bytes.now)) ∙ ap (λ p. p.1) at
