-- What the terminal's events are refused with: a chip's own number, which is none of 0, 8, 9, 13 and 14, or 14, for a read with both selected.
-- Assumes nothing.
use mathlib.Core.Path.{◌≡◌, refl, sym, ◌∙◌, ap, subst}
use mathlib.Core.Logic.{◌⊎◌, inl, inr}
use mathlib.Core.Bool.{Bool, true, false, ◌&&◌, false≢true}
use mathlib.Core.List.{List, [], ◌∷◌, ◌++◌, map}
use Prim.Native.Nat.{ℕ, ◌+◌, ◌<◌}
use native.Mathlib.Omega.{arith}
use lib.ListN.{length}
use Rattle.codes.proofs.Tests.{chosen}
use Rattle.constants.specs.Numbers.{taken, read_differs, both_selected}
use Rattle.bus.specs.Bytes.{All}
use Rattle.bus.specs.Chip.{Chip}
use Rattle.bus.proofs.Answers.{Callable}
use Rattle.trace.specs.Play.{Result, refuses, gives, on_result, stopped, done, play_events}
use Rattle.trace.specs.Kinds.{Recorded, read_as, replay}
use Rattle.trace.proofs.ChipRefusals.{Refusing, Refusal, own, differing, refused_event}
use Rattle.widebus.specs.Pair.{at}
use Rattle.widebus.specs.declared.selection.Side.{Side}
use Rattle.widebus.specs.Events.{to_selected, are_both, reads_data, replay_on}
use Rattle.widebus.specs.declared.selection.Selection.{Selection}
use Rattle.widetrace.specs.Terminal.{Terminal, WideEvent, selects, happens, wide_step, the_terminal}
use Rattle.widetrace.proofs.TerminalHeaders.{NoRead}
use Rattle.widetrace.proofs.OneChipAlone.{keeps}

-- a number that a chip refuses an event with
abbrev pub OfChip : ℕ → Type 0
OfChip number = ((taken < number) × Callable number) ⊎ (number ≡ read_differs)

chip_refuses : (recorded : Recorded) (c : Chip) → Refusing OfChip (replay recorded c)
chip_refuses recorded c = by (replay recorded c) refl
  where
    number_of_lem : {number : ℕ} → Refusal recorded c number → OfChip number
    number_of_lem (own p q) = inl (p, q)
    number_of_lem (differing byte after r a d b n) = inr n

    by : (x : Result Chip) → replay recorded c ≡ x → Refusing OfChip x
    by (refuses number) e = number_of_lem (refused_event recorded c number e)
    by (gives t) e = tt

-- a number that the terminal refuses an event with, from a selection
abbrev pub OfTerminal : Bool → Selection → ℕ → Type 0
OfTerminal reads selection number = OfChip number ⊎ ((number ≡ both_selected) × (selection ≡ Selection.Both) × (reads ≡ true))

-- what holds of each number that a chip refuses with, and of 14 where both are selected and it reads, holds of the number that the terminal refuses with
module _ (P : ℕ → Type 0) where
  onward : {A B : Type 0} (x : Result A) (go : A → Result B) → Refusing P x → ((a : A) → Refusing P (go a)) → Refusing P (on_result x refuses go)
  onward (refuses number) go m later = m
  onward (gives a) go m later = later a

  module _ (recorded : Recorded) (t : Terminal) (each : (side : Side) → Refusing P (replay recorded (at side t.chips))) where
    to_selected_lem : (selection : Selection) → Refusing P (to_selected replay selection recorded t.chips)
    unfolding to_selected
    to_selected_lem Selection.Left = onward (replay recorded t.chips.left) _ (each Side.Left) (λ l. tt)
    to_selected_lem Selection.Right = onward (replay recorded t.chips.right) _ (each Side.Right) (λ r. tt)
    to_selected_lem Selection.Both = onward (replay recorded t.chips.left) _ (each Side.Left) (λ l. onward (replay recorded t.chips.right) _ (each Side.Right) (λ r. tt))

    pub refusing : ((are_both t.selection && reads_data recorded) ≡ true → P both_selected) → Refusing P (wide_step (happens recorded) t)
    unfolding wide_step replay_on
    refusing both = onward (replay_on t.selection recorded t.chips) _ (chosen (Refusing P) (are_both t.selection && reads_data recorded) _ _ both (λ e. to_selected_lem t.selection)) (λ chips. tt)

are_both_lem : (selection : Selection) (reads : Bool) → (are_both selection && reads) ≡ true → (selection ≡ Selection.Both) × (reads ≡ true)
are_both_lem Selection.Left reads e = absurd (false≢true e)
are_both_lem Selection.Right reads e = absurd (false≢true e)
are_both_lem Selection.Both reads e = (refl, e)

-- whether an event of the terminal reads
abbrev pub reads_wide : WideEvent → Bool
reads_wide (selects selection) = false
reads_wide (happens recorded) = reads_data recorded

of_chip : {P : ℕ → Type 0} (x : Result Chip) → Refusing OfChip x → ((number : ℕ) → OfChip number → P number) → Refusing P x
of_chip (refuses number) h f = f number h
of_chip (gives t) h f = tt

step_refuses : (event : WideEvent) (t : Terminal) → Refusing (OfTerminal (reads_wide event) t.selection) (wide_step event t)
unfolding wide_step
step_refuses (selects selection) t = tt
step_refuses (happens recorded) t =
    refusing (OfTerminal (reads_data recorded) t.selection) recorded t (λ side. of_chip {P = OfTerminal (reads_data recorded) t.selection} (replay recorded (at side t.chips)) (chip_refuses recorded (at side t.chips)) (λ n h. inl h))
    (λ e. let h = are_both_lem t.selection (reads_data recorded) e in inr (refl, h.0, h.1))

pub refused_step : (event : WideEvent) (t : Terminal) (number : ℕ) → wide_step event t ≡ refuses number → OfTerminal (reads_wide event) t.selection number
refused_step event t number e = subst (Refusing (OfTerminal (reads_wide event) t.selection)) e (step_refuses event t)

-- a read with both selected
pub both_refuse : (byte : ℕ) (t : Terminal) → t.selection ≡ Selection.Both → wide_step (happens (read_as byte)) t ≡ refuses both_selected
unfolding wide_step replay_on
both_refuse byte t s = rw s

no_read : (event : WideEvent) → NoRead event → reads_wide event ≡ true → ⊥
no_read (selects selection) n e = false≢true e
no_read (happens recorded) n e = false≢true (sym n ∙ e)

pub middle : (before : List WideEvent) (event : WideEvent) (rest : List WideEvent) → All NoRead (before ++ event ∷ rest) → reads_wide event ≡ true → ⊥
middle [] event rest h = no_read event h.0
middle (b ∷ before) event rest h = middle before event rest h.1

never : {S : Type 0} {number offset : ℕ} {s u : S} → stopped number offset s ≡ done u → ⊥
never e = let z : ◌≡◌ {A = ℕ} 0 1 = cc in omega arith

given : {S : Type 0} {number : ℕ} {s : S} → gives s ≡ refuses number → ⊥
given e = let z : ◌≡◌ {A = ℕ} 0 1 = cc in omega arith

-- reads that are all done, and then both are selected: there are none
pub none_before : (before : List WideEvent) (event : WideEvent) (rest : List WideEvent) (payload : List ℕ) (offset : ℕ) (t u : Terminal) → before ++ event ∷ rest ≡ map happens (map read_as payload)
    → play_events the_terminal before offset t ≡ done u → u.selection ≡ Selection.Both → (before ≡ []) × (t ≡ u)
unfolding play_events
none_before [] event rest payload offset t u e d s = (refl, cc)
none_before (b ∷ before) event rest [] offset t u e d s = absurd (omega (arith, ap (λ (list : List WideEvent). length list) e))
none_before (b ∷ before) event rest (byte ∷ payload) offset t u e d s =
    let first : b ≡ happens (read_as byte) = cc in
    let later : before ++ event ∷ rest ≡ map happens (map read_as payload) = cc in
    by (wide_step (happens (read_as byte)) t) refl (rw first at d) (λ next f. none_before before event rest payload (offset + 1) next u later f s)
  where
    by : (x : Result Terminal) → wide_step (happens (read_as byte)) t ≡ x → on_result x (λ number. stopped number offset t) (λ next. play_events the_terminal before (offset + 1) next) ≡ done u
        → ((next : Terminal) → play_events the_terminal before (offset + 1) next ≡ done u → (before ≡ []) × (next ≡ u)) → (b ∷ before ≡ []) × (t ≡ u)
    by (refuses number) f d later = absurd (never d)
    by (gives next) f d later =
        let same : t.selection ≡ Selection.Both = sym (keeps (read_as byte) t next f) ∙ ap (λ (v : Terminal). v.selection) (later next d).1 ∙ s in
        absurd (given (sym f ∙ both_refuse byte t same))
