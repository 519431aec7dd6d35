-- A record played for one chip of the terminal is what it comes to as the chip heeds it.
-- Assumes nothing.
use mathlib.Core.Path.{◌≡◌, refl, sym, ◌∙◌, ap}
use mathlib.Core.Bool.{Bool, true, false, cond, ◌&&◌}
use mathlib.Core.List.{List, [], ◌∷◌, map}
use Prim.Native.Nat.{ℕ, ◌+◌}
use native.Mathlib.Omega.{arith}
use borrow.Author.Tests.{eqb-true, eqb-false, ne_eqb}
use lib.Dec.{eqb}
use lib.ListN.{length}
use Rattle.constants.specs.Numbers.{kind_unknown, both_selected}
use Rattle.constants.specs.Sizes.{header_size}
use Rattle.codes.proofs.Tests.{chosen}
use Rattle.bus.specs.Bytes.{All}
use Rattle.bus.specs.Chip.{Chip, reset_pulse}
use Rattle.bus.specs.Stretch.{Stretched, stretch, stretch_of}
use Rattle.bus.specs.declared.registers.Registers.{Registers}
use Rattle.bus.specs.Stretch.{Stretch}
use Rattle.bus.proofs.StretchLaws.{the_chip_never_zero}
use Rattle.trace.specs.Records.{Record}
use Rattle.trace.specs.Play.{Result, refuses, gives, on_result, stopped, done, play_events, play_record}
use Rattle.trace.specs.Kinds.{Recorded, event, recorded_command, recorded_write, read_as, events_of, replay, chip_of, the_chip}
use Rattle.trace.specs.RecordsAreStretches.{ending_at}
use Rattle.trace.proofs.RecordsAreStretches.{are_stretches}
use Rattle.widebus.specs.Events.{are_both, reads_data}
use Rattle.widebus.specs.declared.selection.Selection.{Selection}
use Rattle.widebus.specs.declared.selection.Side.{Side}
use Rattle.widetrace.specs.Terminal.{happens, selected_by, wide_events_of}
use Rattle.widetrace.specs.EachChip.{hears}
use Rattle.widetrace.specs.Sides.{one_side, side_step, the_side}
use Rattle.widetrace.specs.Heeding.{for_selected, selected_before, heed_of, with_selection, heeded}
use Rattle.widetrace.specs.Heeding.{Heed}

-- events that are not refused for being reads of both
abbrev Let : Selection → List Recorded → Type 0
Let selection events = All (λ (r : Recorded). (are_both selection && reads_data r) ≡ false) events

let_through : (selection : Selection) (means : ℕ → Recorded) → ((b : ℕ) → reads_data (means b) ≡ false) → (bytes : List ℕ) → Let selection (map means bytes)
let_through selection means none [] = tt
let_through Selection.Left means none (b ∷ rest) = (refl, let_through Selection.Left means none rest)
let_through Selection.Right means none (b ∷ rest) = (refl, let_through Selection.Right means none rest)
let_through Selection.Both means none (b ∷ rest) = (none b, let_through Selection.Both means none rest)

let_one : (selection : Selection) (events : List Recorded) → are_both selection ≡ false → Let selection events
let_one selection [] e = tt
let_one selection (r ∷ rest) e = (rw e, let_one selection rest e)

-- a pulse on the reset pin is no read
let_pulse : (selection : Selection) → Let selection (event reset_pulse ∷ [])
let_pulse Selection.Left = (refl, tt)
let_pulse Selection.Right = (refl, tt)
let_pulse Selection.Both = (refl, tt)

module _ (side : Side) (selection : Selection) where
  -- events that the chip hears are played as by a chip alone
  heard_events : hears side selection ≡ true → (events : List Recorded) (offset : ℕ) (chip : Chip) → Let selection events → play_events (the_side side) (map happens events) offset (one_side chip selection) ≡ with_selection selection (play_events the_chip events offset chip)
  unfolding play_events side_step
  heard_events h [] offset chip l = refl
  heard_events h (first ∷ rest) offset chip l = rw (l.0, h) (by (replay first chip) (λ t. heard_events h rest (offset + 1) t l.1))
    where
      by : (x : Result Chip) → ((t : Chip) → play_events (the_side side) (map happens rest) (offset + 1) (one_side t selection) ≡ with_selection selection (play_events the_chip rest (offset + 1) t))
          → on_result (on_result x refuses (λ c. gives (one_side c selection))) (λ number. stopped number offset (one_side chip selection)) (λ t. play_events (the_side side) (map happens rest) (offset + 1) t)
          ≡ with_selection selection (on_result x (λ number. stopped number offset chip) (λ t. play_events the_chip rest (offset + 1) t))
      by (refuses number) later = refl
      by (gives t) later = later t

  -- those that it does not hear change nothing
  unheard_events : hears side selection ≡ false → (events : List Recorded) (offset : ℕ) (chip : Chip) → Let selection events → play_events (the_side side) (map happens events) offset (one_side chip selection) ≡ done (one_side chip selection)
  unfolding play_events side_step
  unheard_events h [] offset chip l = refl
  unheard_events h (first ∷ rest) offset chip l = rw (l.0, h) (unheard_events h rest (offset + 1) chip l.1)

  module _ (kind at : ℕ) (bytes : List ℕ) (chip : Chip) where
    abbrev its : Record
    its = record { kind = kind; payload = bytes; place = at }

    -- the record comes to what it does as it is heeded
    abbrev As : Heed → Type 0
    As heed = play_record (the_side side) its (one_side chip selection) ≡ heeded heed its chip selection

    refused : (number : ℕ) → wide_events_of kind bytes ≡ refuses number → As (Heed.Refused number at)
    unfolding play_record heeded
    refused number e = rw e

    not_refused : {events : List Recorded} → events_of kind bytes ≡ gives events → (kind ≡ 5 → ⊥) → play_record (the_side side) its (one_side chip selection) ≡ play_events (the_side side) (map happens events) (at + header_size) (one_side chip selection)
    unfolding play_record wide_events_of
    not_refused e n = rw (ne_eqb kind 5 n, e)

    own : {events : List Recorded} → events_of kind bytes ≡ gives events → (kind ≡ 5 → ⊥) → Let selection events → As (for_selected (hears side selection) selection)
    unfolding play_record heeded
    own {events} e n l =
        chosen As (hears side selection) Heed.Obeys (Heed.Passes selection)
        (λ h. not_refused e n ∙ heard_events h events (at + header_size) chip l ∙ rw e)
        (λ h. not_refused e n ∙ unheard_events h events (at + header_size) chip l)

    first_kind : kind ≡ 1 → events_of kind bytes ≡ gives (map recorded_command bytes)
    unfolding events_of
    first_kind e = rw e

    second_kind : kind ≡ 2 → events_of kind bytes ≡ gives (map recorded_write bytes)
    unfolding events_of
    second_kind e = rw e

    third_kind : kind ≡ 3 → events_of kind bytes ≡ gives (map read_as bytes)
    unfolding events_of
    third_kind e = rw e

    fourth_kind : kind ≡ 4 → length bytes ≡ 0 → events_of kind bytes ≡ gives (event reset_pulse ∷ [])
    unfolding events_of
    fourth_kind e z = rw (e, z)

  -- a record of reads: none, of both, of one
  read_heeded : (at : ℕ) (bytes : List ℕ) (chip : Chip) → As 3 at bytes chip (cond (eqb (length bytes) 0) (Heed.Passes selection) (cond (are_both selection) (Heed.Refused both_selected (at + header_size)) (for_selected (hears side selection) selection)))
  unfolding play_record heeded wide_events_of events_of play_events side_step
  read_heeded at [] chip = refl
  read_heeded at (first ∷ rest) chip =
      rw (ne_eqb (length (first ∷ rest)) 0 (λ e. omega arith))
      (chosen (As 3 at (first ∷ rest) chip) (are_both selection) _ _ (λ b. rw b) (λ b. own 3 at (first ∷ rest) chip (third_kind 3 at (first ∷ rest) chip refl) (λ e. omega arith) (let_one selection (map read_as (first ∷ rest)) b)))

  -- a select record
  select_heeded : (at : ℕ) (bytes : List ℕ) (chip : Chip) → As 5 at bytes chip (selected_before at (selected_by bytes))
  unfolding play_record heeded wide_events_of play_events side_step
  select_heeded at bytes chip = by (selected_by bytes) refl
    where
      by : (x : Result Selection) → selected_by bytes ≡ x → As 5 at bytes chip (selected_before at x)
      by (refuses number) e = rw e
      by (gives next) e = rw e

  unknown_kind : (kind : ℕ) (bytes : List ℕ) → (kind ≡ 1 → ⊥) → (kind ≡ 2 → ⊥) → (kind ≡ 3 → ⊥) → (kind ≡ 4 → length bytes ≡ 0 → ⊥) → (kind ≡ 5 → ⊥) → wide_events_of kind bytes ≡ refuses kind_unknown
  unfolding wide_events_of events_of
  unknown_kind kind bytes a b c d e = rw (ne_eqb kind 5 e, ne_eqb kind 1 a, ne_eqb kind 2 b, ne_eqb kind 3 c) (by (eqb kind 4) refl (eqb (length bytes) 0) refl)
    where
      by : (k : Bool) → eqb kind 4 ≡ k → (z : Bool) → eqb (length bytes) 0 ≡ z → on_result (cond (eqb kind 4 && eqb (length bytes) 0) (gives (event reset_pulse ∷ [])) (refuses kind_unknown)) refuses (λ events. gives (map happens events)) ≡ refuses kind_unknown
      by true k true z = absurd (d (eqb-true kind 4 k) (eqb-true (length bytes) 0 z))
      by true k false z = rw (k, z)
      by false k z' z = rw k

  pub plays_as_heeded : (kind at : ℕ) (bytes : List ℕ) (chip : Chip) → As kind at bytes chip (heed_of side selection kind at bytes)
  unfolding heed_of
  plays_as_heeded kind at bytes chip =
      let P = As kind at bytes chip in
      chosen P (eqb kind 1) _ _ (λ e. let k = eqb-true kind 1 e in own kind at bytes chip (first_kind kind at bytes chip k) (λ f. omega arith) (let_through selection recorded_command (λ b. refl) bytes))
      (λ a. chosen P (eqb kind 2) _ _ (λ e. let k = eqb-true kind 2 e in own kind at bytes chip (second_kind kind at bytes chip k) (λ f. omega arith) (let_through selection recorded_write (λ b. refl) bytes))
      (λ b. chosen P (eqb kind 3) _ _ (λ e. rw (eqb-true kind 3 e) (read_heeded at bytes chip))
      (λ c. chosen P (eqb kind 4) _ _
      (λ e. let k = eqb-true kind 4 e in chosen P (eqb (length bytes) 0) _ _ (λ z. own kind at bytes chip (fourth_kind kind at bytes chip k (eqb-true (length bytes) 0 z)) (λ f. omega arith) (let_pulse selection)) (λ z. refused kind at bytes chip kind_unknown (unknown_kind kind bytes (λ f. omega arith) (λ f. omega arith) (λ f. omega arith) (λ f. eqb-false (length bytes) 0 z) (λ f. omega arith))))
      (λ d. chosen P (eqb kind 5) _ _ (λ e. rw (eqb-true kind 5 e) (select_heeded at bytes chip)) (λ e. refused kind at bytes chip kind_unknown (unknown_kind kind bytes (eqb-false kind 1 a) (eqb-false kind 2 b) (eqb-false kind 3 c) (λ f g. eqb-false kind 4 d f) (eqb-false kind 5 e)))))))

  -- the code's stretch of a record that the chip obeys ends as the record does
  module _ (kind at : ℕ) (bytes : List ℕ) where
    pub ends_as_obeyed : heed_of side selection kind at bytes ≡ Heed.Obeys → {events : List Recorded} → events_of kind bytes ≡ gives events → (r : Registers) (m : List ℕ) (s : Stretch) (later : List ℕ) → stretch_of s later ≡ stretch replay events (chip_of r m)
        → play_record (the_side side) (record { kind = kind; payload = bytes; place = at }) (one_side (chip_of r m) selection) ≡ with_selection selection (ending_at (at + header_size) (stretch_of s later))
    unfolding heeded play_record
    ends_as_obeyed o {events} b r m s later h =
        plays_as_heeded kind at bytes (chip_of r m) ∙ rw (o, b)
        (ap (with_selection selection) (are_stretches the_chip the_chip_never_zero events (at + header_size) (chip_of r m) ∙ ap (λ (x : Stretched Chip). ending_at (at + header_size) x) (sym h)))
