-- What each public call states has one result.
-- Assumes nothing.
use mathlib.Core.Path.{◌≡◌, refl, ap}
use mathlib.Core.Bool.{cond}
use mathlib.Core.List.{List, []}
use Prim.Native.Nat.{ℕ}
use lib.Dec.{eqb}
use Rattle.std.specs.Prelude as std
use Rattle.std.specs.Prelude.{Ok, Err}
use Rattle.constants.specs.Settles.{Settles}
use Rattle.constants.specs.Numbers.{taken}
use Rattle.constants.specs.Refusals.{Met}
use Rattle.constants.specs.declared.refusal.Refusal.{Refusal}
use Rattle.constants.proofs.Refusals.{refusal_of, undone, refusal_not_taken, met_of, met_undone}
use Rattle.constants.proofs.Settles.{told_from}
use Rattle.bus.specs.Chip.{Chip}
use Rattle.bus.specs.Result.{Result, on_result}
use Rattle.bus.specs.Stretch.{Stretched}
use Rattle.bus.specs.Answer.{Reply, reply_to, reply_to_read}
use Rattle.bus.proofs.Results.{told_reply, reply_told}
use Rattle.widebus.specs.Selection.{result_of}
use Rattle.widebus.specs.Pair.{Pair, both_lent}
use Rattle.widebus.specs.Asked.{BothAsked, both_asked_of}
use Rattle.widebus.specs.Page.{Handed, handed_of}
use Rattle.widebus.specs.WideCalls.{WideCalled, wide_called}
use Rattle.widebus.specs.WideStretch.{WideStretch, wide_stretch_of}
use Rattle.widebus.specs.Settled.{Settled}
use Rattle.widebus.specs.declared.both.Both.{Both}

-- what each result of code stands for tells it
told_asked : BothAsked → std.Result Both Refusal
told_asked (BothAsked.Found registers) = Ok registers
told_asked (BothAsked.Refused number) = Err (refusal_of number)

asked_told : (r : std.Result Both Refusal) → told_asked (both_asked_of r) ≡ r
unfolding told_asked
asked_told (Ok registers) = refl
asked_told (Err refusal) = ap (λ r. Err r) (undone refusal)

told_part : Handed → std.Result (List ℕ) Refusal
told_part h = cond (eqb h.number taken) (Ok h.part) (Err (refusal_of h.number))

part_told : (r : std.Result (List ℕ) Refusal) → told_part (handed_of r) ≡ r
unfolding told_part
part_told (Ok part) = refl
part_told (Err refusal) = rw (refusal_not_taken refusal, undone refusal)

told_result : {S : Type 0} → Result S → std.Result S Refusal
told_result r = on_result r (λ n. Err (refusal_of n)) (λ s. Ok s)

result_told : {S : Type 0} (r : std.Result S Refusal) → told_result (result_of r) ≡ r
unfolding told_result
result_told (Ok some) = refl
result_told (Err refusal) = ap (λ r. Err r) (undone refusal)

-- an outcome of reply, states and memories, and one that leaves the memories
module _ {R : Type 0} (stands_for : R → Reply) (told : Reply → R) (back : (r : R) → told (stands_for r) ≡ r) where
  whole : (stated : WideCalled) → Settles (λ (o : R × List ℕ × List ℕ × List ℕ × List ℕ). wide_called (stands_for o.0) (both_lent o.1 o.2 o.3 o.4) ≡ stated)
  whole = told_from (λ o. wide_called (stands_for o.0) (both_lent o.1 o.2 o.3 o.4)) (λ c. (told c.reply, c.lent.left.state, c.lent.left.memory, c.lent.right.state, c.lent.right.memory)) (λ o. ap (λ r. (r, o.1, o.2, o.3, o.4)) (back o.0))

  with_states : (left right : List ℕ) (stated : WideCalled) → Settles (λ (o : R × List ℕ × List ℕ). wide_called (stands_for o.0) (both_lent o.1 left o.2 right) ≡ stated)
  with_states left right = told_from (λ o. wide_called (stands_for o.0) (both_lent o.1 left o.2 right)) (λ c. (told c.reply, c.lent.left.state, c.lent.right.state)) (λ o. ap (λ r. (r, o.1, o.2)) (back o.0))

-- what is met, of the reply to it
abbrev told_met : Reply → Met
told_met reply = met_of reply.number

-- a stretch with the memories that it leaves, and one that touches none
abbrev told_stretch : Stretched (Pair Chip) → WideStretch × List ℕ × List ℕ
told_stretch s = (record { registers = record { left = s.state.left.registers; right = s.state.right.registers }; count = s.count; outcome = met_of s.number }, s.state.left.memory, s.state.right.memory)

with_memories : (stated : Stretched (Pair Chip)) → Settles (λ (o : WideStretch × List ℕ × List ℕ). wide_stretch_of o.0 o.1 o.2 ≡ stated)
with_memories = told_from (λ o. wide_stretch_of o.0 o.1 o.2) told_stretch (λ o. ap (λ met. (record { registers = o.0.registers; count = o.0.count; outcome = met }, o.1, o.2)) (met_undone o.0.outcome))

by_itself : (left right : List ℕ) (stated : Stretched (Pair Chip)) → Settles (λ (r : WideStretch). wide_stretch_of r left right ≡ stated)
by_itself left right = told_from (λ r. wide_stretch_of r left right) (λ s. (told_stretch s).0) (λ r. ap (λ met. record { registers = r.registers; count = r.count; outcome = met }) (met_undone r.outcome))

pub settled : Settled
settled = record {
  «both::ask» = λ left_state left_memory right_state right_memory. told_from both_asked_of told_asked asked_told _;
  «calls::command» = λ left_state left_memory right_state right_memory selection byte. with_states reply_to told_met (λ met. met_undone met) left_memory right_memory _;
  «calls::write» = λ left_state left_memory right_state right_memory selection byte. whole reply_to told_met (λ met. met_undone met) _;
  «calls::read» = λ left_state left_memory right_state right_memory selection. with_states reply_to_read told_reply reply_told left_memory right_memory _;
  calls::reset_pin = λ left_state left_memory right_state right_memory selection. with_states reply_to told_met (λ met. met_undone met) left_memory right_memory _;
  «page::page» = λ side left right page. told_from handed_of told_part part_told _;
  selection::selection_of = λ number. told_from result_of told_result result_told _;
  selection::side_of = λ number. told_from result_of told_result result_told _;
  «stretch::commands» = λ selection registers bytes first second p q. by_itself [] [] _ first second (p [] []) (q [] []);
  «stretch::writes» = λ selection registers left_memory right_memory bytes. with_memories _;
}
