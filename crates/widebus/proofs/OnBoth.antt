-- Events on states that were asked before, of one chip and of both: what they meet, and how the code's calls for both chips end.
-- Assumes nothing.
use mathlib.Core.Path.{◌≡◌, refl, sym, ◌∙◌, ap}
use mathlib.Core.Bool.{Bool, true, false, cond}
use mathlib.Core.List.{List, []}
use Prim.Native.Nat.{ℕ, ◌≤◌, ◌<◌}
use native.Mathlib.Omega.{arith}
use borrow.Author.Tests.{ltb-false, lt-ltb, ne_eqb}
use lib.Dec.{ltb}
use lib.ListN.{length, get_or, take}
use lib.Seq.{length-take-le}
use Rattle.constants.specs.Sizes.{image_size}
use Rattle.constants.specs.Numbers.{taken, too_short}
use Rattle.bus.specs.Places.{awaited}
use Rattle.bus.specs.Registers.{registers_of}
use Rattle.bus.specs.Events.{number_of, byte_of, dummy_of}
use Rattle.bus.specs.Chip.{Event, command_byte, data_written, step}
use Rattle.bus.specs.Calls.{Called, called, reply_of, state_after, refused, concluded}
use Rattle.bus.specs.OnState.{on_state, numbered, access_on}
use Rattle.bus.specs.declared.registers.Registers.{Registers}
use Rattle.bus.specs.Answer.{Answer}
use Rattle.bus.proofs.Answers.{StandsFor, met_by, step_answers}
use Rattle.bus.proofs.OnState.{long_state}
use Rattle.bus.proofs.First.{first_registers}
use Rattle.widebus.specs.Pair.{Pair, ◌beside◌, Lent, both_lent}
use Rattle.widebus.specs.WideCalls.{wide_called, refused_wide, leaves, call_both}
use Rattle.widebus.specs.OnBoth.{on_both, command_meets}

-- the number that an answer stands for
number_of_lem : (number : ℕ) (answer : Answer) → StandsFor number answer → number_of answer ≡ number
unfolding number_of
number_of_lem number (Answer.Taken after) s = sym s
number_of_lem number (Answer.Refused refusal) s = sym s.0

-- what an event meets on a state that is long enough
met_by_lem : (e : Event) (state memory : List ℕ) → image_size ≤ length state → (on_state e state memory).reply.number ≡ met_by e (registers_of state) (length memory)
unfolding concluded reply_of
met_by_lem e state memory h = rw (long_state e state memory h) (number_of_lem (met_by e (registers_of state) (length memory)) (step e (registers_of state) memory).answer (step_answers e (registers_of state) memory))

-- a refusal leaves the state
left_as_it_was : (state memory left : List ℕ) (t : Bool) (answer : Answer) → let o = cond t (refused too_short state memory) (called (reply_of answer) (state_after answer state) left) in (o.reply.number ≡ taken → ⊥) → o.state ≡ state
unfolding refused reply_of state_after number_of byte_of dummy_of
left_as_it_was state memory left true answer h = refl
left_as_it_was state memory left false (Answer.Taken after) h = absurd (h refl)
left_as_it_was state memory left false (Answer.Refused number) h = refl

refusal_leaves : (e : Event) (state memory : List ℕ) → ((on_state e state memory).reply.number ≡ taken → ⊥) → (on_state e state memory).state ≡ state
unfolding on_state concluded
refusal_leaves e state memory h = left_as_it_was state memory _ (ltb (length state) image_size) (step e (registers_of state) memory).answer h

-- what a data byte meets
write_meets : (byte : ℕ) (state memory : List ℕ) → (on_state (data_written byte) state memory).reply.number ≡ access_on state memory
unfolding access_on on_state refused reply_of number_of byte_of dummy_of
write_meets byte state memory = by (ltb (length state) image_size) refl
  where
    by : (t : Bool) → ltb (length state) image_size ≡ t → (on_state (data_written byte) state memory).reply.number ≡ access_on state memory
    by true e = rw e
    by false e = rw e (rw e at (met_by_lem (data_written byte) state memory (ltb-false _ _ e)))

-- two chips that await the same code meet a command byte alike
pub alike : (byte : ℕ) (left right : List ℕ) → image_size ≤ length left → image_size ≤ length right → get_or left awaited 0 ≡ get_or right awaited 0 → command_meets byte left ≡ command_meets byte right
alike byte left right l r e = met_by_lem (command_byte byte) left [] l ∙ rw e (sym (met_by_lem (command_byte byte) right [] r))

-- the calls of both chips, by what each of them gives
module _ (l r : Called) (all : Pair Lent) where
  left_refuses_lem : (l.reply.number ≡ taken → ⊥) → call_both l r all ≡ refused_wide l.reply.number all
  unfolding call_both
  left_refuses_lem h = rw (ne_eqb _ _ h)

  module _ (took : l.reply.number ≡ taken) where
    right_refuses_lem : (r.reply.number ≡ taken → ⊥) → call_both l r all ≡ refused_wide r.reply.number all
    unfolding call_both
    right_refuses_lem h = rw (took, ne_eqb _ _ h)

    both_take_lem : r.reply.number ≡ taken → call_both l r all ≡ wide_called l.reply (leaves l beside leaves r)
    unfolding call_both
    both_take_lem h = rw (took, h)

-- a number replied, and all left as it was
as_refused : {number met : ℕ} (all : Pair Lent) → number ≡ met → wide_called (numbered number) all ≡ refused_wide met all
unfolding refused_wide reply_of number_of byte_of dummy_of
as_refused all e = rw e

-- both taken, as each chip's own
taken_both : {l r : Called} (all : Pair Lent) {met other : ℕ} {ls lm rs rm : List ℕ} → called (numbered met) ls lm ≡ l → called (numbered other) rs rm ≡ r → met ≡ taken → other ≡ taken
    → wide_called (numbered other) (both_lent ls lm rs rm) ≡ call_both l r all
taken_both all {met} {other} {ls} {lm} {rs} {rm} first next p q =
    rw (← first, ← next)
    (ap (λ n. wide_called (numbered n) (both_lent ls lm rs rm)) (q ∙ sym p) ∙ sym (both_take_lem (called (numbered met) ls lm) (called (numbered other) rs rm) all p q))

-- a command byte for both chips
module _ (byte : ℕ) (left right : List ℕ) where
  -- it goes to the left, which takes it, and then to the right
  pub right_next : (command_meets byte left ≡ taken → command_meets byte right ≡ taken) → {met other : ℕ} {ls rs : List ℕ} → ((m : List ℕ) → called (numbered met) ls m ≡ on_state (command_byte byte) left m) → met ≡ taken
      → ((m : List ℕ) → called (numbered other) rs m ≡ on_state (command_byte byte) right m) → (lm rm : List ℕ) → wide_called (numbered other) (both_lent ls lm rs rm) ≡ on_both (command_byte byte) (both_lent left lm right rm)
  right_next follows first p next lm rm =
      let q = ap (λ (c : Called). c.reply.number) (next []) ∙ follows (sym (ap (λ (c : Called). c.reply.number) (first [])) ∙ p) in
      taken_both (both_lent left lm right rm) (first lm) (next rm) p q

  -- the left refuses
  pub left_only : {met : ℕ} {ls : List ℕ} → ((m : List ℕ) → called (numbered met) ls m ≡ on_state (command_byte byte) left m) → (met ≡ taken → ⊥)
      → (lm rm : List ℕ) → wide_called (numbered met) (both_lent ls lm right rm) ≡ on_both (command_byte byte) (both_lent left lm right rm)
  left_only {met} {ls} first h lm rm =
      let n : met ≡ (on_state (command_byte byte) left lm).reply.number = ap (λ (c : Called). c.reply.number) (first lm) in
      let stays : ls ≡ left = ap (λ (c : Called). c.state) (first lm) ∙ refusal_leaves (command_byte byte) left lm (λ z. h (n ∙ z)) in
      rw stays (as_refused (both_lent left lm right rm) n ∙ sym (left_refuses_lem _ _ (both_lent left lm right rm) (λ z. h (n ∙ z))))

  -- what was tried on both
  module _ (enough : image_size ≤ length left) {met : ℕ} (tried : met ≡ command_meets byte left) where
    -- the number is that of any memory
    whichever : (lm : List ℕ) → met ≡ (on_state (command_byte byte) left lm).reply.number
    whichever lm = tried ∙ met_by_lem (command_byte byte) left [] enough ∙ sym (met_by_lem (command_byte byte) left lm enough)

    pub tried_left : (met ≡ taken → ⊥) → (lm rm : List ℕ) → wide_called (numbered met) (both_lent left lm right rm) ≡ on_both (command_byte byte) (both_lent left lm right rm)
    tried_left h lm rm = as_refused (both_lent left lm right rm) (whichever lm) ∙ sym (left_refuses_lem _ _ (both_lent left lm right rm) (λ z. h (whichever lm ∙ z)))

-- the right alone refuses what was tried
pub tried_right : (byte : ℕ) (left right : List ℕ) → image_size ≤ length left → {met : ℕ} → met ≡ command_meets byte left → met ≡ taken → image_size ≤ length right → {other : ℕ} → other ≡ command_meets byte right → (other ≡ taken → ⊥)
    → (lm rm : List ℕ) → wide_called (numbered other) (both_lent left lm right rm) ≡ on_both (command_byte byte) (both_lent left lm right rm)
tried_right byte left right l tried p r also h lm rm =
    let n = whichever byte right left r also rm in
    as_refused (both_lent left lm right rm) n ∙ sym (right_refuses_lem _ _ (both_lent left lm right rm) (sym (whichever byte left right l tried lm) ∙ p) (λ z. h (n ∙ z)))

-- what a command byte that is tried meets: a state that is too short is refused, and a copy of the image has the state's registers
module _ (byte : ℕ) (state : List ℕ) where
  pub tried_short : length state < image_size → too_short ≡ command_meets byte state
  unfolding on_state refused reply_of number_of byte_of dummy_of
  tried_short h = rw (command_meets, lt-ltb _ _ h) refl

  pub on_a_copy : image_size ≤ length state → {copy : List ℕ} → copy ≡ take image_size state → {met : ℕ} {later : List ℕ} → ((m : List ℕ) → called (numbered met) later m ≡ on_state (command_byte byte) copy m) → met ≡ command_meets byte state
  on_a_copy h {copy} i {met} done =
      let n : met ≡ (on_state (command_byte byte) copy []).reply.number = ap (λ (c : Called). c.reply.number) (done []) in
      let long : image_size ≤ length copy = rw (i, length-take-le image_size state h) (omega arith) in
      let own = first_registers state copy h i in
      n ∙ met_by_lem (command_byte byte) copy [] long ∙ ap (λ (r : Registers). met_by (command_byte byte) r 0) own ∙ sym (met_by_lem (command_byte byte) state [] h)

-- a data byte written to both chips
module _ (byte : ℕ) (all : Pair Lent) {met : ℕ} (m : met ≡ access_on all.left.state all.left.memory) where
  write_met : met ≡ (on_state (data_written byte) all.left.state all.left.memory).reply.number
  write_met = m ∙ sym (write_meets byte all.left.state all.left.memory)

  pub write_left_refuses : (met ≡ taken → ⊥) → wide_called (numbered met) all ≡ on_both (data_written byte) all
  write_left_refuses h = as_refused all write_met ∙ sym (left_refuses_lem _ _ all (λ z. h (write_met ∙ z)))

  -- the left takes what it was asked for
  pub left_writes : met ≡ taken → {first : ℕ} {ls lm : List ℕ} → called (numbered first) ls lm ≡ on_state (data_written byte) all.left.state all.left.memory → first ≡ taken
  left_writes p f = ap (λ (c : Called). c.reply.number) f ∙ sym write_met ∙ p

  module _ (p : met ≡ taken) {other : ℕ} (o : other ≡ access_on all.right.state all.right.memory) where
    write_other : other ≡ (on_state (data_written byte) all.right.state all.right.memory).reply.number
    write_other = o ∙ sym (write_meets byte all.right.state all.right.memory)

    pub write_right_refuses : (other ≡ taken → ⊥) → wide_called (numbered other) all ≡ on_both (data_written byte) all
    write_right_refuses h = as_refused all write_other ∙ sym (right_refuses_lem _ _ all (sym write_met ∙ p) (λ z. h (write_other ∙ z)))

    pub both_written : other ≡ taken → {first next : ℕ} {ls lm rs rm : List ℕ} → called (numbered first) ls lm ≡ on_state (data_written byte) all.left.state all.left.memory
        → called (numbered next) rs rm ≡ on_state (data_written byte) all.right.state all.right.memory → wide_called (numbered next) (both_lent ls lm rs rm) ≡ on_both (data_written byte) all
    both_written q f n =
        taken_both all f n (left_writes p f) (ap (λ (c : Called). c.reply.number) n ∙ sym write_other ∙ q)
