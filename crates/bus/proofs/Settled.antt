-- What each public call states has one result.
-- Assumes nothing.
use mathlib.Core.Path.{◌≡◌, refl, sym, ◌∙◌, ap}
use mathlib.Core.List.{List, []}
use Prim.Native.Nat.{ℕ}
use Rattle.std.specs.Prelude.{Option, Result}
use Rattle.constants.specs.Settles.{Settles}
use Rattle.constants.specs.Refusals.{Met, number_met}
use Rattle.constants.specs.declared.refusal.Refusal.{Refusal}
use Rattle.constants.proofs.Refusals.{met_of, met_undone}
use Rattle.constants.proofs.Settles.{equation, told_from}
use Rattle.bus.specs.Calls.{Called, called, reply_of}
use Rattle.bus.specs.Start.{started}
use Rattle.bus.specs.Registers.{power_on}
use Rattle.bus.specs.Chip.{Chip}
use Rattle.bus.specs.Events.{silently}
use Rattle.bus.specs.Stretch.{Stretched, stretch_of}
use Rattle.bus.specs.Settled.{Settled, SettledOnState}
use Rattle.bus.specs.Answer.{Answer, answer_of, answer_of_read, asked_of, reply_to, reply_to_read}
use Rattle.bus.specs.declared.registers.Registers.{Registers}
use Rattle.bus.specs.Stretch.{Stretch}
use Rattle.bus.proofs.Results.{told_answer, answer_told, told_read, read_told, told_asked, asked_told, told_reply, reply_told}

-- an outcome of a result, state and memory
whole : (stated : Called) → Settles (λ (o : Met × List ℕ × List ℕ). called (reply_to o.0) o.1 o.2 ≡ stated)
whole = told_from (λ o. called (reply_to o.0) o.1 o.2) (λ c. (met_of c.reply.number, c.state, c.memory)) (λ o. ap (λ met. (met, o.1, o.2)) (met_undone o.0))

-- one that leaves the memory
with_state : (memory : List ℕ) (stated : Called) → Settles (λ (o : Met × List ℕ). called (reply_to o.0) o.1 memory ≡ stated)
with_state memory = told_from (λ o. called (reply_to o.0) o.1 memory) (λ c. (met_of c.reply.number, c.state)) (λ o. ap (λ met. (met, o.1)) (met_undone o.0))

-- a read's
with_byte : (memory : List ℕ) (stated : Called) → Settles (λ (o : Result (Option ℕ) Refusal × List ℕ). called (reply_to_read o.0) o.1 memory ≡ stated)
with_byte memory = told_from (λ o. called (reply_to_read o.0) o.1 memory) (λ c. (told_reply c.reply, c.state)) (λ o. ap (λ r. (r, o.1)) (reply_told o.0))

-- what is met
met_alone : (stated : ℕ) → Settles (λ (met : Met). number_met met ≡ stated)
met_alone = told_from number_met met_of met_undone

-- two equations at once
two_equations : {A B : Type 0} (a : A) (b : B) → Settles (λ (o : A × B). (o.0 ≡ a) × (o.1 ≡ b))
two_equations a b first second p q = rw (p.0 ∙ sym q.0, p.1 ∙ sym q.1)

-- what is met, by its reply, with a state
by_reply : (answer : Answer) (later : List ℕ) → Settles (λ (o : Met × List ℕ). (reply_to o.0 ≡ reply_of answer) × (o.1 ≡ later))
by_reply answer later first second p q = rw (told_from reply_to (λ reply. met_of reply.number) met_undone (reply_of answer) first.0 second.0 p.0 q.0, p.1 ∙ sym q.1)

-- the registers that a silent answer leaves
left_by : Answer → Registers
left_by (Answer.Taken after) = after.registers
left_by (Answer.Refused number) = power_on

silent : (stated : Answer) → Settles (λ (r : Registers). silently r ≡ stated)
unfolding left_by
silent = told_from silently left_by (λ r. refl)

-- a write's answer and memory
answer_and_memory : (a : Answer) (b : List ℕ) → Settles (λ (o : Result Registers Refusal × List ℕ). (answer_of o.0 ≡ a) × (o.1 ≡ b))
answer_and_memory a b first second p q = rw (told_from answer_of told_answer answer_told a first.0 second.0 p.0 q.0, p.1 ∙ sym q.1)

-- a stretch with the memory that it leaves, and one that touches no memory
told_stretch : Stretched Chip → Stretch × List ℕ
told_stretch s = (record { registers = s.state.registers; count = s.count; outcome = met_of s.number }, s.state.memory)

pub with_memory : (stated : Stretched Chip) → Settles (λ (o : Stretch × List ℕ). stretch_of o.0 o.1 ≡ stated)
unfolding told_stretch
with_memory = told_from (λ o. stretch_of o.0 o.1) told_stretch (λ o. ap (λ met. (record { registers = o.0.registers; count = o.0.count; outcome = met }, o.1)) (met_undone o.0.outcome))

by_itself : (memory : List ℕ) (stated : Stretched Chip) → Settles (λ (r : Stretch). stretch_of r memory ≡ stated)
by_itself memory stated first second p q = ap (λ (o : Stretch × List ℕ). o.0) (with_memory stated (first, memory) (second, memory) p q)

pub settled : Settled
settled = record {
  «calls::command» = λ byte state memory. with_state memory _;
  «calls::write» = λ byte state memory. whole _;
  «calls::read» = λ state memory. with_byte memory _;
  calls::reset_pin = λ state memory. with_state memory _;
  «calls::conclude» = λ answer state. two_equations _ _;
  «calls::refuse» = λ number. equation _;
  conclude_answers = λ answer state. by_reply _ _;
  refuse_answers = λ refusal first second p q. p.0 ∙ sym q.0;
  «Registers::command» = λ byte self. told_from answer_of told_answer answer_told _;
  Registers::reset_pin = λ self. silent _;
  «Registers::write» = λ self memory byte. answer_and_memory _ _;
  «Registers::read» = λ self memory. told_from answer_of_read told_read read_told _;
  «Registers::access» = λ self memory. met_alone _;
  «Registers::store» = λ self state. equation _;
  «Registers::image» = λ self. equation _;
  Registers::power_on = equation _;
  Registers::power_state = λ self. equation _;
  Registers::with_column = λ self value. equation _;
  Registers::with_fresh = λ self value. equation _;
  «data::kept» = λ page byte. equation _;
  «image::ask» = λ state memory. told_from asked_of told_asked asked_told _;
  image::ask_state = λ state. told_from asked_of told_asked asked_told _;
  «image::short» = λ state memory. equation _;
  «image::legal» = λ image. equation _;
  «start::start» = λ hung state memory. told_from (λ o. started (number_met o.0) o.1 o.2) (λ s. (met_of s.number, s.state, s.memory)) (λ o. ap (λ met. (met, o.1, o.2)) (met_undone o.0)) _;
  «stretch::commands» = λ registers bytes first second p q. by_itself [] _ first second (p []) (q []);
  «stretch::writes» = λ registers memory bytes. with_memory _;
  «stretch::reads» = λ registers memory bytes. by_itself memory _;
  stretch::reset_pin = λ registers first second p q. by_itself [] _ first second (p []) (q []);
}

pub settled_on_state : SettledOnState
settled_on_state = record {
  «accepted::command» = λ state byte first second p q. with_state [] _ first second (p []) (q []);
  «accepted::write» = λ state memory byte. whole _;
  «accepted::read» = λ state memory. with_byte memory _;
  «accepted::access» = λ state memory. met_alone _;
  «accepted::awaited» = λ state. equation _;
}
