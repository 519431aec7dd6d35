-- Each refusal has a number of its own, and none the number of what is taken.
-- Assumes nothing.
use mathlib.Core.Path.{◌≡◌, refl, sym, ◌∙◌, ap, subst}
use mathlib.Core.Bool.{Bool, true, false}
use mathlib.Core.List.{List, [], ◌∷◌}
use Prim.Native.Nat.{ℕ}
use lib.Dec.{eqb}
use lib.ListN.{get_or}
use Rattle.std.specs.Prelude.{Result, Ok, Err}
use Rattle.constants.specs.Numbers.{taken}
use Rattle.constants.specs.Refusals.{Met, number_of_refusal, number_met}
use Rattle.constants.specs.declared.refusal.Refusal.{Refusal}

-- the refusal with a number
unfoldable pub refusal_of : ℕ → Refusal
refusal_of n = get_or (Refusal.TooShort ∷ Refusal.TooShort ∷ Refusal.OutOfRange ∷ Refusal.OutsideTable ∷ Refusal.NoPage ∷ Refusal.NotAllowed ∷ Refusal.CodeAwaited ∷ Refusal.ColumnAbove ∷ Refusal.HeaderCut ∷ Refusal.KindUnknown ∷ Refusal.ReadDiffers ∷ Refusal.ListTooSmall ∷ Refusal.FrameByteAbove ∷ Refusal.NoSelection ∷ Refusal.BothSelected ∷ Refusal.TestMode ∷ []) n Refusal.TooShort

pub undone : (refusal : Refusal) → refusal_of (number_of_refusal refusal) ≡ refusal
unfolding refusal_of
undone Refusal.TooShort = refl
undone Refusal.OutOfRange = refl
undone Refusal.OutsideTable = refl
undone Refusal.NoPage = refl
undone Refusal.NotAllowed = refl
undone Refusal.CodeAwaited = refl
undone Refusal.ColumnAbove = refl
undone Refusal.HeaderCut = refl
undone Refusal.KindUnknown = refl
undone Refusal.ReadDiffers = refl
undone Refusal.ListTooSmall = refl
undone Refusal.FrameByteAbove = refl
undone Refusal.NoSelection = refl
undone Refusal.BothSelected = refl
undone Refusal.TestMode = refl

pub number_of_refusal_injective : (one other : Refusal) → number_of_refusal one ≡ number_of_refusal other → one ≡ other
number_of_refusal_injective one other e = sym (undone one) ∙ ap refusal_of e ∙ undone other

pub refusal_not_taken : (refusal : Refusal) → eqb (number_of_refusal refusal) taken ≡ false
refusal_not_taken Refusal.TooShort = refl
refusal_not_taken Refusal.OutOfRange = refl
refusal_not_taken Refusal.OutsideTable = refl
refusal_not_taken Refusal.NoPage = refl
refusal_not_taken Refusal.NotAllowed = refl
refusal_not_taken Refusal.CodeAwaited = refl
refusal_not_taken Refusal.ColumnAbove = refl
refusal_not_taken Refusal.HeaderCut = refl
refusal_not_taken Refusal.KindUnknown = refl
refusal_not_taken Refusal.ReadDiffers = refl
refusal_not_taken Refusal.ListTooSmall = refl
refusal_not_taken Refusal.FrameByteAbove = refl
refusal_not_taken Refusal.NoSelection = refl
refusal_not_taken Refusal.BothSelected = refl
refusal_not_taken Refusal.TestMode = refl

-- what is met is settled by its number
unfoldable pub met_of : ℕ → Met
met_of n = get_or (Ok tt ∷ Err Refusal.TooShort ∷ Err Refusal.OutOfRange ∷ Err Refusal.OutsideTable ∷ Err Refusal.NoPage ∷ Err Refusal.NotAllowed ∷ Err Refusal.CodeAwaited ∷ Err Refusal.ColumnAbove ∷ Err Refusal.HeaderCut ∷ Err Refusal.KindUnknown ∷ Err Refusal.ReadDiffers ∷ Err Refusal.ListTooSmall ∷ Err Refusal.FrameByteAbove ∷ Err Refusal.NoSelection ∷ Err Refusal.BothSelected ∷ Err Refusal.TestMode ∷ []) n (Ok tt)

pub met_undone : (met : Met) → met_of (number_met met) ≡ met
unfolding met_of
met_undone (Ok tt) = refl
met_undone (Err Refusal.TooShort) = refl
met_undone (Err Refusal.OutOfRange) = refl
met_undone (Err Refusal.OutsideTable) = refl
met_undone (Err Refusal.NoPage) = refl
met_undone (Err Refusal.NotAllowed) = refl
met_undone (Err Refusal.CodeAwaited) = refl
met_undone (Err Refusal.ColumnAbove) = refl
met_undone (Err Refusal.HeaderCut) = refl
met_undone (Err Refusal.KindUnknown) = refl
met_undone (Err Refusal.ReadDiffers) = refl
met_undone (Err Refusal.ListTooSmall) = refl
met_undone (Err Refusal.FrameByteAbove) = refl
met_undone (Err Refusal.NoSelection) = refl
met_undone (Err Refusal.BothSelected) = refl
met_undone (Err Refusal.TestMode) = refl

pub number_met_injective : (one other : Met) → number_met one ≡ number_met other → one ≡ other
number_met_injective one other e = sym (met_undone one) ∙ ap met_of e ∙ met_undone other
