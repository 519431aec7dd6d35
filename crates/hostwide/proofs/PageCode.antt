-- The page call by the tests of the code: a memory that is too short, a number that names no side, and the page of the side.
-- Assumes nothing.
use mathlib.Core.Path.{◌≡◌, refl, sym, ◌∙◌, ap}
use mathlib.Core.Logic.{◌⊎◌, inl, inr, ⊎_elim}
use mathlib.Core.Bool.{Bool, true, false, cond, true≢false}
use mathlib.Core.List.{List}
use Prim.Native.Nat.{ℕ, ◌≤◌, ◌<◌}
use native.Mathlib.Omega.{arith}
use borrow.Author.Tests.{le-ltb}
use lib.Dec.{eqb}
use lib.ListN.{length}
use Rattle.std.specs.Prelude.{Err}
use Rattle.constants.specs.Sizes.{memory_size}
use Rattle.constants.specs.Numbers.{no_selection}
use Rattle.constants.specs.Refusals.{number_of_refusal}
use Rattle.constants.specs.declared.refusal.Refusal.{Refusal}
use Rattle.constants.proofs.Refusals.{refusal_not_taken}
use Rattle.bus.specs.Result.{Result, refuses, gives, on_result}
use Rattle.widebus.specs.Selection.{side_of}
use Rattle.widebus.specs.Page.{page_of}
use Rattle.widebus.specs.declared.selection.Side.{Side}
use Rattle.hostwide.specs.Page.{PageReply, page_reply, of_handed, part_reply, page_reply_of}
use Rattle.hostwide.proofs.PagePlace.{page_place}

-- a refusal has place 0 and length 0
pub refusal_reply : (page : ℕ) (refusal : Refusal) → part_reply page (Err refusal) ≡ page_reply (number_of_refusal refusal) 0 0
unfolding of_handed
refusal_reply page refusal = rw (refusal_not_taken refusal) refl

-- a number that is given is not refused
given_not : {n : ℕ} {side : Side} → ◌≡◌ {A = Result Side} (gives side) (refuses n) → ⊥
given_not e = true≢false (ap (λ (r : Result Side). on_result r (λ n. false) (λ s. true)) e)

module _ (side : ℕ) (left right : List ℕ) (page : ℕ) where
  pub short : (length left < memory_size) ⊎ (memory_size ≤ length left) × (length right < memory_size) → part_reply page (Err Refusal.TooShort) ≡ page_reply_of side left right page
  short s =
      let place = page_place left right page in
      let n = (place.number1 side).1 (⊎_elim (λ l. inl l) (λ r. inr r.1) s) in
      refusal_reply page Refusal.TooShort ∙ sym (place.empty side (λ z. omega (arith, n, z)) ∙ ap (λ n. page_reply n 0 0) n)

  pub no_side : (refusal : Refusal) → refuses (number_of_refusal refusal) ≡ side_of side → memory_size ≤ length left → memory_size ≤ length right → part_reply page (Err refusal) ≡ page_reply_of side left right page
  unfolding side_of page_reply_of
  no_side refusal e l r = refusal_reply page refusal ∙ rw (le-ltb _ _ l, le-ltb _ _ r) (by (eqb side 1) (eqb side 2) _ _ e)
    where
      by : (t u : Bool) (one two : PageReply) → refuses (number_of_refusal refusal) ≡ cond t (gives Side.Left) (cond u (gives Side.Right) (refuses no_selection))
          → page_reply (number_of_refusal refusal) 0 0 ≡ cond t one (cond u two (page_reply no_selection 0 0))
      by true u one two e = absurd (given_not (sym e))
      by false true one two e = absurd (given_not (sym e))
      by false false one two e = ap (λ (r : Result Side). page_reply (on_result r (λ n. n) (λ s. no_selection)) 0 0) e

  pub its_page : (named : Side) → gives named ≡ side_of side → of_handed page (page_of named left right page) ≡ page_reply_of side left right page
  unfolding side_of page_reply_of
  its_page named e = by (eqb side 1) (eqb side 2) _ e
    where
      by : (t u : Bool) (rest : PageReply) → gives named ≡ cond t (gives Side.Left) (cond u (gives Side.Right) (refuses no_selection))
          → of_handed page (page_of named left right page) ≡ cond t (of_handed page (page_of Side.Left left right page)) (cond u (of_handed page (page_of Side.Right left right page)) rest)
      by true u rest e = ap (λ (r : Result Side). of_handed page (page_of (on_result r (λ n. named) (λ s. s)) left right page)) e
      by false true rest e = ap (λ (r : Result Side). of_handed page (page_of (on_result r (λ n. named) (λ s. s)) left right page)) e
      by false false rest e = absurd (given_not e)
