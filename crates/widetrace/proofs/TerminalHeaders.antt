-- What the terminal makes of a record's kind and payload: events, 13 or 9.
-- Assumes nothing.
use mathlib.Core.Path.{◌≡◌, refl, subst}
use mathlib.Core.Logic.{◌⊎◌, inl, inr}
use mathlib.Core.Bool.{false}
use mathlib.Core.List.{List, [], ◌∷◌, map}
use Prim.Native.Nat.{ℕ}
use native.Mathlib.Omega.{arith}
use borrow.Author.Tests.{eqb-true, eqb-false}
use lib.Dec.{eqb}
use lib.ListN.{length}
use Rattle.codes.proofs.Tests.{chosen}
use Rattle.constants.specs.Numbers.{taken, kind_unknown, no_selection}
use Rattle.bus.specs.Bytes.{All}
use Rattle.trace.specs.Play.{Result, refuses, gives, on_result}
use Rattle.trace.specs.Kinds.{Recorded, read_as, recorded_command, recorded_write}
use Rattle.trace.specs.Given as goal
use Rattle.trace.proofs.ChipKinds.{Kind, by_kind}
use Rattle.trace.proofs.ChipKinds as kinds
use Rattle.widebus.specs.Selection.{selection_of}
use Rattle.widebus.specs.Events.{reads_data}
use Rattle.widebus.specs.declared.selection.Selection.{Selection}
use Rattle.widetrace.specs.Terminal.{WideEvent, selects, happens, selected_by, wide_events_of}
use Rattle.widetrace.specs.WideGivenRun.{OneOfThree, WideUnknown, no_kind, loaded, NoSelection}

pub data Headed (kind : ℕ) (payload : List ℕ) : Result (List WideEvent) → Type 0 where
  known : (events : List WideEvent) → (NoSelection kind payload → ⊥) → (WideUnknown kind (length payload) → ⊥) → Headed kind payload (gives events)
  unselected : NoSelection kind payload → Headed kind payload (refuses no_selection)
  unknown : WideUnknown kind (length payload) → Headed kind payload (refuses kind_unknown)

not_unknown : {kind size : ℕ} → (kind ≡ 1) ⊎ (kind ≡ 2) ⊎ (kind ≡ 3) ⊎ (kind ≡ 5) → WideUnknown kind size → ⊥
not_unknown (inl e) (no_kind a b c d f) = a e
not_unknown (inr (inl e)) (no_kind a b c d f) = b e
not_unknown (inr (inr (inl e))) (no_kind a b c d f) = c e
not_unknown (inr (inr (inr e))) (no_kind a b c d f) = f e
not_unknown (inl e) (loaded k s) = omega arith
not_unknown (inr (inl e)) (loaded k s) = omega arith
not_unknown (inr (inr (inl e))) (loaded k s) = omega arith
not_unknown (inr (inr (inr e))) (loaded k s) = omega arith

not_reset : {kind size : ℕ} → kind ≡ 4 → size ≡ 0 → WideUnknown kind size → ⊥
not_reset k s (no_kind a b c d f) = d k
not_reset k s (loaded l n) = n s

-- what selects and what does not
data Selecting (payload : List ℕ) : Result Selection → Type 0 where
  one : (selection : Selection) → OneOfThree payload → Selecting payload (gives selection)
  none : (OneOfThree payload → ⊥) → Selecting payload (refuses no_selection)

by_byte : (byte : ℕ) → Selecting (byte ∷ []) (selection_of byte)
unfolding selection_of
by_byte byte =
    chosen (Selecting (byte ∷ [])) (eqb byte 1) _ _ (λ a. one Selection.Left (let e = eqb-true byte 1 a in (omega arith, omega arith)))
    (λ a. chosen (Selecting (byte ∷ [])) (eqb byte 2) _ _ (λ b. one Selection.Right (let e = eqb-true byte 2 b in (omega arith, omega arith)))
    (λ b. chosen (Selecting (byte ∷ [])) (eqb byte 3) _ _ (λ c. one Selection.Both (let e = eqb-true byte 3 c in (omega arith, omega arith)))
    (λ c. none (λ h. omega (arith, eqb-false byte 1 a, eqb-false byte 2 b, eqb-false byte 3 c, h.0, h.1)))))

by_payload : (payload : List ℕ) → Selecting payload (selected_by payload)
unfolding selected_by
by_payload [] = none (λ h. h)
by_payload (byte ∷ []) = by_byte byte
by_payload (byte ∷ more ∷ rest) = none (λ h. h)

module _ (kind : ℕ) (payload : List ℕ) where
  selecting : kind ≡ 5 → {x : Result Selection} → Selecting payload x → Headed kind payload (on_result x refuses (λ selection. gives (selects selection ∷ [])))
  selecting k (one selection h) = known _ (λ n. n.other h) (not_unknown (inr (inr (inr k))))
  selecting k (none h) = unselected (record { selects = k; other = h })

  happening : (kind ≡ 5 → ⊥) → {x : Result (List Recorded)} → Kind kind payload x → Headed kind payload (on_result x refuses (λ events. gives (map happens events)))
  happening five (kinds.commands k) = known _ (λ n. five n.selects) (not_unknown (inl k))
  happening five (kinds.writes k) = known _ (λ n. five n.selects) (not_unknown (inr (inl k)))
  happening five (kinds.reads k) = known _ (λ n. five n.selects) (not_unknown (inr (inr (inl k))))
  happening five (kinds.reset k e) = known _ (λ n. five n.selects) (not_reset k e)
  happening five (kinds.none (goal.no_kind a b c d)) = unknown (no_kind a b c d five)
  happening five (kinds.none (goal.loaded k s)) = unknown (loaded k s)

  pub by_header : Headed kind payload (wide_events_of kind payload)
  unfolding wide_events_of
  by_header = chosen (Headed kind payload) (eqb kind 5) _ _ (λ e. selecting (eqb-true kind 5 e) (by_payload payload)) (λ e. happening (eqb-false kind 5 e) (by_kind kind payload))

-- a header is refused with 13 or 9, and then the record is so
abbrev pub Refused : ℕ → List ℕ → Result (List WideEvent) → Type 0
Refused kind payload (refuses number) = ((number ≡ no_selection) × NoSelection kind payload) ⊎ ((number ≡ kind_unknown) × WideUnknown kind (length payload))
Refused kind payload (gives events) = (NoSelection kind payload → ⊥) × (WideUnknown kind (length payload) → ⊥)

pub by_refusal : {kind : ℕ} {payload : List ℕ} {x : Result (List WideEvent)} → Headed kind payload x → Refused kind payload x
by_refusal (known events n u) = (n, u)
by_refusal (unselected n) = inl (refl, n)
by_refusal (unknown u) = inr (refl, u)

pub refused_header : (kind : ℕ) (payload : List ℕ) (number : ℕ) → wide_events_of kind payload ≡ refuses number → ((number ≡ no_selection) × NoSelection kind payload) ⊎ ((number ≡ kind_unknown) × WideUnknown kind (length payload))
refused_header kind payload number e = subst (Refused kind payload) e (by_refusal (by_header kind payload))

-- no header is refused with 0
pub header_never_zero : (kind : ℕ) (payload : List ℕ) (number : ℕ) → wide_events_of kind payload ≡ refuses number → number ≡ taken → ⊥
header_never_zero kind payload number e zero = by (refused_header kind payload number e)
  where
    by : ((number ≡ no_selection) × NoSelection kind payload) ⊎ ((number ≡ kind_unknown) × WideUnknown kind (length payload)) → ⊥
    by (inl h) = omega (arith, h.0)
    by (inr h) = omega (arith, h.0)

-- and the record that is so is refused so
pub selects_nothing : (kind : ℕ) (payload : List ℕ) → NoSelection kind payload → wide_events_of kind payload ≡ refuses no_selection
selects_nothing kind payload n = by (by_header kind payload)
  where
    by : {x : Result (List WideEvent)} → Headed kind payload x → x ≡ refuses no_selection
    by (known events a b) = absurd (a n)
    by (unselected m) = refl
    by (unknown u) = absurd (not_unknown (inr (inr (inr n.selects))) u)

pub stands_for_nothing : (kind : ℕ) (payload : List ℕ) → WideUnknown kind (length payload) → wide_events_of kind payload ≡ refuses kind_unknown
stands_for_nothing kind payload u = by (by_header kind payload)
  where
    by : {x : Result (List WideEvent)} → Headed kind payload x → x ≡ refuses kind_unknown
    by (known events a b) = absurd (b u)
    by (unselected m) = absurd (not_unknown (inr (inr (inr m.selects))) u)
    by (unknown v) = refl

-- events that read are of kind 3 alone
abbrev pub NoRead : WideEvent → Type 0
NoRead (selects selection) = Unit {0}
NoRead (happens recorded) = reads_data recorded ≡ false

abbrev Reading : ℕ → List ℕ → Result (List WideEvent) → Type 0
Reading kind payload (refuses number) = Unit {0}
Reading kind payload (gives events) = ((kind ≡ 3) × (events ≡ map happens (map read_as payload))) ⊎ All NoRead events

module _ (kind : ℕ) (payload : List ℕ) where
  none_reads : (means : ℕ → Recorded) → ((b : ℕ) → reads_data (means b) ≡ false) → (bytes : List ℕ) → All NoRead (map happens (map means bytes))
  none_reads means h [] = tt
  none_reads means h (b ∷ rest) = (h b, none_reads means h rest)

  of_selection : (x : Result Selection) → Reading kind payload (on_result x refuses (λ selection. gives (selects selection ∷ [])))
  of_selection (refuses number) = tt
  of_selection (gives selection) = inr (tt, tt)

  of_kind : {x : Result (List Recorded)} → Kind kind payload x → Reading kind payload (on_result x refuses (λ events. gives (map happens events)))
  of_kind (kinds.commands k) = inr (none_reads recorded_command (λ b. refl) payload)
  of_kind (kinds.writes k) = inr (none_reads recorded_write (λ b. refl) payload)
  of_kind (kinds.reads k) = inl (k, refl)
  of_kind (kinds.reset k e) = inr (refl, tt)
  of_kind (kinds.none u) = tt

  reading : Reading kind payload (wide_events_of kind payload)
  unfolding wide_events_of
  reading = chosen (Reading kind payload) (eqb kind 5) _ _ (λ e. of_selection (selected_by payload)) (λ e. of_kind (by_kind kind payload))

  pub what_reads : (events : List WideEvent) → wide_events_of kind payload ≡ gives events → ((kind ≡ 3) × (events ≡ map happens (map read_as payload))) ⊎ All NoRead events
  what_reads events e = subst (Reading kind payload) e reading
