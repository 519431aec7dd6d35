-- How the code heeds a record, by the tests that it makes.
-- Assumes nothing.
use mathlib.Core.Path.{◌≡◌, refl, sym, ◌∙◌, ap}
use mathlib.Core.Bool.{Bool, true, false, cond, not, false≢true}
use mathlib.Core.List.{List}
use Prim.Native.Nat.{ℕ, ◌+◌, ◌≤◌}
use native.Mathlib.Omega.{arith}
use borrow.Author.Tests.{ne_eqb, eqb-true, eqb-false}
use denote.Enum.Bare.{sameb}
use lib.ListN.{length}
use Rattle.std.specs.Prelude as std
use Rattle.std.specs.Prelude.{Ok, Err, ◌==◌}
use Rattle.constants.specs.Numbers.{taken, kind_unknown, both_selected}
use Rattle.constants.specs.Refusals.{Met, number_of_refusal, number_met}
use Rattle.constants.specs.Sizes.{header_size}
use Rattle.constants.specs.declared.refusal.Refusal.{Refusal}
use Rattle.constants.proofs.Refusals.{refusal_not_taken}
use Rattle.bus.specs.Chip.{Chip}
use Rattle.bus.specs.Stretch.{Stretched, stretch, stretch_of}
use Rattle.bus.specs.Stretch.{Stretch}
use Rattle.bus.proofs.StretchLaws.{stretches, the_chip_never_zero}
use Rattle.trace.specs.Code.{Named, recorded_in}
use Rattle.trace.specs.Given.{Unknown, no_kind, loaded}
use Rattle.trace.specs.Play.{Result, refuses, gives}
use Rattle.trace.specs.Kinds.{Recorded, events_of, replay}
use Rattle.trace.specs.contracts.kind.Kind as kinds_type
use Rattle.trace.specs.declared.kind.Kind.{Kind}
use Rattle.trace.proofs.ChipKinds.{by_kind}
use Rattle.trace.proofs.ChipKinds as kinds
use Rattle.trace.proofs.RecordsAreStretches.{takes, few_events}
use Rattle.widebus.specs.Events.{are_both}
use Rattle.widebus.specs.contracts.selection.Selection.{the_type}
use Rattle.widebus.specs.declared.selection.Selection.{Selection}
use Rattle.widebus.specs.declared.selection.Side.{Side}
use Rattle.widetrace.specs.Terminal.{selected_by}
use Rattle.widetrace.specs.EachChip.{hears}
use Rattle.widetrace.specs.Code.{heed_met, Obeys}
use Rattle.widetrace.specs.Heeding.{Heed, for_selected, selected_before, heed_of}
use Rattle.widetrace.specs.declared.heed.Heed as code

-- a reset that is not refused has no payload
empty_reset : (bytes : List ℕ) → events_of 4 bytes ≡ gives (recorded_in Kind.Reset bytes) → length bytes ≡ 0
empty_reset bytes e = by (events_of 4 bytes) e (by_kind 4 bytes)
  where
    by : (x : Result (List Recorded)) → x ≡ gives (recorded_in Kind.Reset bytes) → kinds.Kind 4 bytes x → length bytes ≡ 0
    by x e (kinds.commands k) = absurd (omega arith)
    by x e (kinds.writes k) = absurd (omega arith)
    by x e (kinds.reads k) = absurd (omega arith)
    by x e (kinds.reset k z) = z
    by x e (kinds.none u) = let z : ◌≡◌ {A = ℕ} 0 1 = cc in absurd (omega arith)

-- a header that is refused is of no kind that a chip knows
unknown : (kind : ℕ) (bytes : List ℕ) (number : ℕ) → events_of kind bytes ≡ refuses number → Unknown kind (length bytes) × (number ≡ kind_unknown)
unknown kind bytes number e = by (events_of kind bytes) e (by_kind kind bytes)
  where
    by : (x : Result (List Recorded)) → x ≡ refuses number → kinds.Kind kind bytes x → Unknown kind (length bytes) × (number ≡ kind_unknown)
    by x e (kinds.commands k) = let z : ◌≡◌ {A = ℕ} 0 1 = cc in absurd (omega arith)
    by x e (kinds.writes k) = let z : ◌≡◌ {A = ℕ} 0 1 = cc in absurd (omega arith)
    by x e (kinds.reads k) = let z : ◌≡◌ {A = ℕ} 0 1 = cc in absurd (omega arith)
    by x e (kinds.reset k z) = let z : ◌≡◌ {A = ℕ} 0 1 = cc in absurd (omega arith)
    by x e (kinds.none u) = (u, cc)

module _ (side : Side) (selection : Selection) (kind at : ℕ) (bytes : List ℕ) where
  abbrev pub its : Heed
  its = heed_of side selection kind at bytes

  abbrev header_for : std.Result Kind Refusal → Type 0
  header_for found = Named (record { kind = kind; length = length bytes }) found

  pub selects_heeded : kind ≡ 5 → {r : Heed} → r ≡ selected_before at (selected_by bytes) → r ≡ its
  unfolding heed_of
  selects_heeded k s = s ∙ rw k

  pub no_read : header_for (Ok Kind.Reads) → length bytes ≡ 0 → Heed.Passes selection ≡ its
  unfolding heed_of
  no_read named none = rw (named.0, none)

  pub read_of_both : header_for (Ok Kind.Reads) → (length bytes ≡ 0 → ⊥) → are_both selection ≡ true → Heed.Refused both_selected (at + header_size) ≡ its
  unfolding heed_of
  read_of_both named some both = rw (named.0, ne_eqb _ _ some, both)

  pub read_of_one : header_for (Ok Kind.Reads) → (length bytes ≡ 0 → ⊥) → are_both selection ≡ false → for_selected (hears side selection) selection ≡ its
  unfolding heed_of
  read_of_one named some one = rw (named.0, ne_eqb _ _ some, one)

  pub no_read_heeded : (found : Kind) → (found ≡ Kind.Reads → ⊥) → header_for (Ok found) → for_selected (hears side selection) selection ≡ its
  unfolding heed_of
  no_read_heeded Kind.Commands other named = rw named.0
  no_read_heeded Kind.Writes other named = rw named.0
  no_read_heeded Kind.Reads other named = absurd (other refl)
  no_read_heeded Kind.Reset other named =
      let none = empty_reset bytes (rw (sym named.0) (named.1 bytes refl)) in
      rw (named.0, none)

  unknown_heeded : (kind ≡ 5 → ⊥) → Unknown kind (length bytes) → Heed.Refused kind_unknown at ≡ its
  unfolding heed_of
  unknown_heeded f (no_kind a b c d) = rw (ne_eqb _ _ a, ne_eqb _ _ b, ne_eqb _ _ c, ne_eqb _ _ d, ne_eqb _ _ f)
  unknown_heeded f (loaded k some) = rw (k, ne_eqb _ _ some)

  pub refused_heeded : (kind ≡ 5 → ⊥) → (refusal : Refusal) → header_for (Err refusal) → Heed.Refused (number_of_refusal refusal) at ≡ its
  refused_heeded f refusal named =
      let found = unknown kind bytes (number_of_refusal refusal) (named bytes refl) in
      rw found.1 (unknown_heeded f found.0)

-- where the code's stretch of a payload stops, it has taken no more events than there are bytes
pub takes_few : (kind : Kind) (bytes : List ℕ) (c : Chip) (s : Stretch) (memory : List ℕ) → stretch_of s memory ≡ stretch replay (recorded_in kind bytes) c → (number_met s.outcome ≡ taken → ⊥) → s.count ≤ length bytes
takes_few kind bytes c s memory h stopped =
    let events = recorded_in kind bytes in
    let fewer : s.count ≡ length events → ⊥ = λ e. stopped (ap (λ (x : Stretched Chip). x.number) h ∙ ((stretches replay).all_taken the_chip_never_zero events c).1 (sym (ap (λ (x : Stretched Chip). x.count) h) ∙ e)) in
    omega (arith, takes events c s memory h, few_events kind bytes, fewer)

-- a record for the selected chips
module _ (selection : Selection) (kind : Kind) where
  pub for_selected_met : (h : Bool) → heed_met (Ok (cond h (code.Heed.Obeys kind) (code.Heed.Passes selection))) ≡ for_selected h selection
  for_selected_met true = refl
  for_selected_met false = refl

  pub for_selected_obeys : (h : Bool) (number : ℕ) (payload : List ℕ) → events_of number payload ≡ gives (recorded_in kind payload) → Obeys (Ok (cond h (code.Heed.Obeys kind) (code.Heed.Passes selection))) number payload
  for_selected_obeys true number payload e = e
  for_selected_obeys false number payload e = tt

-- the code's tests
pub none_there : (payload : List ℕ) → (length payload == 0) ≡ true → length payload ≡ 0
none_there payload e = eqb-true (length payload) 0 e

pub some_there : (payload : List ℕ) → (length payload == 0) ≡ false → length payload ≡ 0 → ⊥
some_there payload e = eqb-false (length payload) 0 e

pub is_both : (selection : Selection) {b : Bool} → sameb the_type selection Selection.Both ≡ b → are_both selection ≡ b
is_both Selection.Left e = e
is_both Selection.Right e = e
is_both Selection.Both e = e

pub is_reads : (kind : Kind) → not (sameb kinds_type.the_type kind Kind.Reads) ≡ false → kind ≡ Kind.Reads
is_reads Kind.Commands e = absurd (false≢true (sym e))
is_reads Kind.Writes e = absurd (false≢true (sym e))
is_reads Kind.Reads e = refl
is_reads Kind.Reset e = absurd (false≢true (sym e))

pub no_reads : (kind : Kind) → not (sameb kinds_type.the_type kind Kind.Reads) ≡ true → kind ≡ Kind.Reads → ⊥
no_reads kind e is = false≢true (sym (ap (λ k. not (sameb kinds_type.the_type k Kind.Reads)) is) ∙ e)

-- a refusal is not taken
pub refused : (met : Met) {refusal : Refusal} → met ≡ Err refusal → number_met met ≡ taken → ⊥
refused met {refusal} e zero = eqb-false _ _ (refusal_not_taken refusal) (ap number_met (sym e) ∙ zero)
