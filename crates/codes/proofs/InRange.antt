-- What a command carries is in its range: each row of the table sees to it.
-- Assumes nothing.
use mathlib.Core.Path.{◌≡◌, refl}
use mathlib.Core.Bool.{true, ◌&&◌}
use mathlib.Core.List.{List, [], ◌∷◌}
use Prim.Native.Nat.{ℕ, ◌≤◌, ◌<◌}
use native.Mathlib.Omega.{arith}
use lib.Dec.{leb, eqb}
use borrow.Author.Tests.{leb-true, eqb-true}
use Rattle.codes.proofs.Tests.{both, chosen, one_of_at_most}
use Rattle.codes.specs.Table.{Row, one, two, table, command_by, command_of, operand_by, operand_of, meaning_of, offset_of, frame_phases_of}
use Rattle.codes.specs.OneOf.{one_of}
use Rattle.codes.specs.Values.{codes_of, CommandInRange, InRange}

-- each row of one byte carries what it should, and each code of two is among the codes
abbrev Sound : List Row → Type 0
Sound [] = Unit {0}
Sound (one first last means ∷ rows) = ((b : ℕ) → first ≤ b → b ≤ last → CommandInRange (means b)) × Sound rows
Sound (two code gives ∷ rows) = (one_of (codes_of table) code ≡ true) × Sound rows

carried_by : (rows : List Row) (b : ℕ) → Sound rows → CommandInRange (command_by rows b)
unfolding command_by
carried_by [] b s = tt
carried_by (one first last means ∷ rows) b s =
    let halves = both (leb first b) (leb b last) in
    chosen CommandInRange (leb first b && leb b last) (means b) (command_by rows b) (λ e. s.0 b (leb-true first b (halves e).0) (leb-true b last (halves e).1)) (λ e. carried_by rows b s.1)
carried_by (two code gives ∷ rows) b s =
    chosen CommandInRange (eqb b code) _ (command_by rows b) (λ e. rw (eqb-true b code e) s.0) (λ e. carried_by rows b s.1)

sound : Sound table
unfolding table codes_of
sound =
    (λ b low high. omega arith, (λ b low high. omega arith, (λ b low high. omega arith, (λ b low high. omega arith, (λ b low high. omega arith, (refl, (λ b low high. omega arith, (λ b low high. omega arith, (λ b low high. omega arith, (λ b low high. omega arith, (refl, (refl, (λ b low high. omega arith, (λ b low high. tt, (refl, (λ b low high. omega arith, (λ b low high. omega arith, (λ b low high. tt, (λ b low high. omega arith, (λ b low high. omega arith, (refl, (refl, (λ b low high. tt, (λ b low high. tt, (λ b low high. tt, (λ b low high. tt, (λ b low high. tt, tt)))))))))))))))))))))))))))

pub command_in_range : (b : ℕ) → CommandInRange (command_of b)
unfolding command_of
command_in_range b = carried_by table b sound

-- each row of two bytes gives what it should
abbrev SoundOperands : List Row → Type 0
SoundOperands [] = Unit {0}
SoundOperands (one first last means ∷ rows) = SoundOperands rows
SoundOperands (two code gives ∷ rows) = ((n : ℕ) → n < 256 → CommandInRange (gives n)) × SoundOperands rows

given_by : (rows : List Row) (code n : ℕ) → n < 256 → SoundOperands rows → CommandInRange (operand_by rows code n)
unfolding operand_by
given_by [] code n h s = tt
given_by (one first last means ∷ rows) code n h s = given_by rows code n h s
given_by (two awaited gives ∷ rows) code n h s = chosen CommandInRange (eqb code awaited) (gives n) (operand_by rows code n) (λ e. s.0 n h) (λ e. given_by rows code n h s.1)

offset_given : (n : ℕ) → CommandInRange (offset_of n)
unfolding offset_of
offset_given n = chosen CommandInRange (leb n 0x3F) _ _ (λ e. omega (arith, leb-true n 0x3F e)) (λ e. tt)

phases_given : (n : ℕ) → CommandInRange (frame_phases_of n)
unfolding frame_phases_of
phases_given n =
    let phases : List ℕ = 0x00 ∷ 0x10 ∷ 0x20 ∷ 0x30 ∷ [] in
    chosen CommandInRange (one_of phases n) _ _ (λ e. omega (arith, one_of_at_most 0x30 phases n refl e)) (λ e. tt)

sound_operands : SoundOperands table
unfolding table
sound_operands =
    (λ n h. omega arith, (λ n h. omega arith, (λ n h. h, (λ n h. omega arith, (λ n h. offset_given n, (λ n h. phases_given n, tt))))))

operand_in_range : (code n : ℕ) → n < 256 → CommandInRange (operand_of code n)
unfolding operand_of
operand_in_range code n h = given_by table code n h sound_operands

pub meaning_in_range : InRange
unfolding meaning_of
meaning_in_range awaited b h = chosen CommandInRange (eqb awaited 0) _ _ (λ e. command_in_range b) (λ e. operand_in_range awaited b h)
