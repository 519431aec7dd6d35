-- An event on the selected ones of two machines, by what each of them gives.
-- Assumes nothing.
use mathlib.Core.Path.{◌≡◌, refl, sym, ◌∙◌, ap}
use mathlib.Core.Bool.{Bool, true, false, true≢false, false≢true}
use mathlib.Core.Logic.{◌↔◌, ◌⊎◌, inl, inr, ◌≢◌}
use Prim.Native.Nat.{ℕ}
use Rattle.bus.specs.Chip.{Chip, command_byte, data_written, data_read, reset_pulse}
use Rattle.bus.specs.Result.{Result, refuses, gives, on_result}
use Rattle.bus.specs.Recorded.{Recorded, event, read_as, replay}
use Rattle.widebus.specs.Pair.{Pair, ◌beside◌}
use Rattle.widebus.specs.Events.{to_selected, reads_data, replay_on}
use Rattle.widebus.specs.Chips.{OnTheSelected, OnTheChips}
use Rattle.widebus.specs.declared.selection.Selection.{Selection}
use Rattle.widebus.proofs.Selected.{no_read}

-- results that are equal give the same, or refuse with one number
module _ {A : Type 0} where
  same : {a b : A} → gives a ≡ gives b → a ≡ b
  same {a} {b} e = ap (λ (r : Result A). on_result r (λ n. b) (λ x. x)) e

  abbrev is_given : Result A → Bool
  is_given r = on_result r (λ n. false) (λ x. true)

  gives_not : {a : A} {n : ℕ} → gives a ≡ refuses n → ⊥
  gives_not e = true≢false (ap is_given e)

  refuses_not : {a : A} {n : ℕ} → refuses n ≡ gives a → ⊥
  refuses_not e = false≢true (ap is_given e)

-- with one selected, by what it gives
module _ {S : Type 0} (with : S → Pair S) (mine other : Pair S → S) (its : (s : S) → mine (with s) ≡ s) where
  takes : (x : Result S) (later : Pair S) → ((p : Pair S) → mine p ≡ mine later → other p ≡ other later → p ≡ later) → ((s t : S) → other (with s) ≡ other (with t))
      → on_result x refuses (λ s. gives (with s)) ≡ gives later ↔ (x ≡ gives (mine later)) × (other later ≡ other (with (mine later)))
  takes (gives s) later join any = (
    (λ e. let p = same e in (ap (λ t. gives t) (sym (its s) ∙ ap mine p), sym (ap other p) ∙ any s (mine later))),
    λ h. ap (λ p. gives p) (join (with s) (its s ∙ same h.0) (any s (mine later) ∙ sym h.1)),
  )
  takes (refuses n) later join any = (λ e. absurd (refuses_not e), λ h. absurd (refuses_not h.0))

  refuse : (x : Result S) (n : ℕ) → on_result x refuses (λ s. gives (with s)) ≡ refuses n ↔ x ≡ refuses n
  refuse (gives s) n = (λ e. absurd (gives_not e), λ e. absurd (gives_not e))
  refuse (refuses m) n = (λ e. ap (λ (r : Result (Pair S)). on_result r refuses (λ p. gives (mine p))) e, λ e. ap (λ (r : Result S). on_result r refuses (λ s. gives (with s))) e)

module _ {S E : Type 0} (step : E → S → Result S) (event : E) (pair later : Pair S) (number : ℕ) where
  both_take_lem : (x y : Result S) → on_result x refuses (λ l. on_result y refuses (λ r. gives (l beside r))) ≡ gives later ↔ (x ≡ gives later.left) × (y ≡ gives later.right)
  both_take_lem (gives l) (gives r) = ((λ e. let p = same e in (ap (λ (p : Pair S). gives p.left) p, ap (λ (p : Pair S). gives p.right) p)), λ h. rw (same h.0, same h.1))
  both_take_lem (gives l) (refuses m) = (λ e. absurd (refuses_not e), λ h. absurd (refuses_not h.1))
  both_take_lem (refuses n) (gives r) = (λ e. absurd (refuses_not e), λ h. absurd (refuses_not h.0))
  both_take_lem (refuses n) (refuses m) = (λ e. absurd (refuses_not e), λ h. absurd (refuses_not h.0))

  abbrev left_of : Result (Pair S) → Result S
  left_of r = on_result r refuses (λ p. gives p.left)

  one_refuses : (x y : Result S) → on_result x refuses (λ l. on_result y refuses (λ r. gives (l beside r))) ≡ refuses number → (x ≡ refuses number) ⊎ (y ≡ refuses number)
  one_refuses (gives l) (gives r) e = absurd (gives_not e)
  one_refuses (gives l) (refuses m) e = inr (ap left_of e)
  one_refuses (refuses n) (gives r) e = inl (ap left_of e)
  one_refuses (refuses n) (refuses m) e = inl (ap left_of e)

  pub on_the_selected : OnTheSelected step event pair later number
  unfolding to_selected
  on_the_selected =
      record {
        left_takes = takes (λ s. s beside pair.right) (λ p. p.left) (λ p. p.right) (λ s. refl) (step event pair.left) later (λ p e f. rw (e, f)) (λ s t. refl);
        left_refuses = refuse (λ s. s beside pair.right) (λ p. p.left) (λ p. p.right) (λ s. refl) (step event pair.left) number;
        right_takes = takes (λ s. pair.left beside s) (λ p. p.right) (λ p. p.left) (λ s. refl) (step event pair.right) later (λ p e f. rw (e, f)) (λ s t. refl);
        right_refuses = refuse (λ s. pair.left beside s) (λ p. p.right) (λ p. p.left) (λ s. refl) (step event pair.right) number;
        both_take = both_take_lem (step event pair.left) (step event pair.right);
        one_refuses = one_refuses (step event pair.left) (step event pair.right);
        left_first = λ l. rw l;
        then_right = λ left l r. rw (l, r);
      }

one_chip : (recorded : Recorded) (chips : Pair Chip) (selection : Selection) → selection ≢ Selection.Both → replay_on selection recorded chips ≡ to_selected replay selection recorded chips
unfolding replay_on
one_chip recorded chips Selection.Left e = refl
one_chip recorded chips Selection.Right e = refl
one_chip recorded chips Selection.Both e = absurd (e refl)

-- what is neither of the two reads does not read
reads_nothing : (recorded : Recorded) → recorded ≢ event data_read → ((byte : ℕ) → recorded ≢ read_as byte) → reads_data recorded ≡ false
reads_nothing (event (command_byte b)) n m = refl
reads_nothing (event (data_written b)) n m = refl
reads_nothing (event data_read) n m = absurd (n refl)
reads_nothing (event reset_pulse) n m = refl
reads_nothing (read_as byte) n m = absurd (m byte refl)

pub on_the_chips : (recorded : Recorded) (chips : Pair Chip) → OnTheChips recorded chips
unfolding replay_on
on_the_chips recorded chips =
    record {
      reads_both = λ e. rw e;
      compares_both = λ byte e. rw e;
      anything_else = λ n m. no_read Selection.Both recorded chips (reads_nothing recorded n m);
      one_chip = one_chip recorded chips;
    }
