-- Pieces of text put one after the other.
-- Assumes nothing.
use Prim.Native.Nat.{ℕ, suc, ◌+◌, ◌<◌}
use mathlib.Core.Path.{◌≡◌, refl, sym, ◌∙◌, ap}
use mathlib.Core.List.{List, [], ◌∷◌, ◌++◌}
use native.Mathlib.Nat.{add-zero, add-suc, suc-add}
use native.Mathlib.Numerals.{add-one}
use native.Mathlib.Omega.{arith}
use lib.ListN.{length, length-append, get_or, drop, set}
use lib.Seq.{drop-cons, sets, length-sets}
use Rattle.framelisting.specs.Put.{Countable, Put}
use Rattle.framelisting.specs.Puts.{Puts}
use Rattle.framelisting.specs.Decimal.{decimal}
use Rattle.framelisting.specs.declared.text.Text.{Text}

-- a list from a place on is what stands there and the list after it
pub from : (l : List ℕ) (i : ℕ) → i < length l → drop i l ≡ get_or l i 0 ∷ drop (i + 1) l
from l i h = drop-cons l i 0 h ∙ rw add-one

-- two pieces stored one after the other are the two as one piece
sets_append : (text : List ℕ) (at : ℕ) (p q : List ℕ) → sets text at (p ++ q) ≡ sets (sets text at p) (at + length p) q
sets_append text at [] q = rw add-zero
sets_append text at (b ∷ p) q = sets_append (set text at b) (suc at) p q ∙ rw (suc-add, ← add-suc)

-- an empty buffer stays empty
pub sets_empty : (at : ℕ) (p : List ℕ) → sets [] at p ≡ []
sets_empty at [] = refl
sets_empty at (b ∷ p) = sets_empty (suc at) p

-- nothing is put
pub none : (text : List ℕ) (at : ℕ) → Put text at [] at text
none text at = record { counted = sym (add-zero at); stored = refl }

-- a piece and then another
pub after : {text : List ℕ} {at : ℕ} {p q : List ℕ} {n m : ℕ} {t u : List ℕ} → Put text at p n t → Put t n q m u → Put text at (p ++ q) m u
after {text} {at} {p} {q} f g = record {
  counted = omega (arith, f.counted, g.counted, length-append p q);
  stored = g.stored ∙ rw (f.counted, f.stored) (sym (sets_append text at p q));
}

-- the first piece is counted where both are, and so is the second where the first was put
pub room : (at : ℕ) (p q : List ℕ) → Countable at (p ++ q) → Countable at p
room at p q h = omega (arith, h, length-append p q)

pub room_after : {text : List ℕ} {at : ℕ} {p : List ℕ} {n : ℕ} {t : List ℕ} → Put text at p n t → (q : List ℕ) → Countable at (p ++ q) → Countable n q
room_after {text} {at} {p} f q h = omega (arith, h, length-append p q, f.counted)

-- The same of a buffer with its place.
pub as_put : {text later : Text} {p : List ℕ} → Puts text p later → Put text.buffer.now text.at p later.at later.buffer.now
as_put f = record { counted = f.counted; stored = f.stored }

pub nothing : (text : Text) → Puts text [] text
nothing text = record { counted = sym (add-zero text.at); stored = refl; same = refl }

pub joined : {text middle later : Text} {p q : List ℕ} → Puts text p middle → Puts middle q later → Puts text (p ++ q) later
joined f g =
    let both = after (as_put f) (as_put g) in
    record { counted = both.counted; stored = both.stored; same = g.same ∙ f.same }

-- a number put is one that it is equal to
pub as_number : {text later : Text} (n m : ℕ) → Puts text (decimal n) later → n ≡ m → Puts text (decimal m) later
as_number {text} {later} n m f e = rw (← e) f

-- no buffer changes its length
pub puts_length : {text later : Text} {p : List ℕ} → Puts text p later → length later.buffer.now ≡ length text.buffer.now
puts_length {text} {later} {p} f = ap length f.stored ∙ length-sets text.buffer.now text.at p

-- What a loop keeps: putting the rest from here is putting the whole from where it began.
pub record Rest (text : Text) (whole : List ℕ) (later : Text) (rest : List ℕ) : Type 0 where
  pub counted : text.at + length whole ≡ later.at + length rest
  pub stored : sets text.buffer.now text.at whole ≡ sets later.buffer.now later.at rest
  pub same : later.buffer.ghost_name ≡ text.buffer.ghost_name

pub begin : (text : Text) (whole : List ℕ) → Rest text whole text whole
begin text whole = record { counted = refl; stored = refl; same = refl }

pub turn : {text now later : Text} {whole p q : List ℕ} → Rest text whole now (p ++ q) → Puts now p later → Rest text whole later q
turn {now = now} {p = p} {q = q} r f = record {
  counted = omega (arith, r.counted, f.counted, length-append p q);
  stored = r.stored ∙ sets_append now.buffer.now now.at p q ∙ rw (f.counted, f.stored);
  same = f.same ∙ r.same;
}

pub done : {text later : Text} {whole : List ℕ} → Rest text whole later [] → Puts text whole later
done {later = later} r = record { counted = sym (r.counted ∙ add-zero later.at); stored = sym r.stored; same = r.same }

-- the rest is counted where the whole is
pub room_left : {text now : Text} {whole q : List ℕ} → Rest text whole now q → Countable text.at whole → Countable now.at q
room_left r h = omega (arith, r.counted, h)
