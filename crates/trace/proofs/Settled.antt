-- Two results that satisfy one statement are equal, for each public call of the crate.
-- Assumes nothing.
use mathlib.Core.Path.{◌≡◌, refl, sym, ◌∙◌, ap}
use mathlib.Core.List.{List, [], ◌∷◌}
use Prim.Native.Nat.{ℕ}
use lib.ListN.{length, get_or, replicate, length-replicate}
use denote.Ref.{Bor}
use Rattle.std.specs.Prelude.{Ok, Err}
use Rattle.std.specs.Prelude as std
use Rattle.constants.specs.declared.refusal.Refusal.{Refusal}
use Rattle.constants.proofs.Settles.{equation, told_from}
use Rattle.constants.proofs.Refusals.{number_of_refusal_injective, number_met_injective}
use Rattle.bus.specs.Chip.{Chip}
use Rattle.bus.proofs.Settled.{with_memory}
use Rattle.trace.specs.Play.{Result, refuses, Played}
use Rattle.trace.specs.Kinds.{Recorded}
use Rattle.trace.specs.Code.{number_of_kind, Named, stop_met, played_of}
use Rattle.trace.specs.Run.{Ran, stop_of}
use Rattle.trace.specs.Settled.{Settled}
use Rattle.trace.specs.declared.kind.Kind.{Kind}
use Rattle.trace.specs.declared.reader.Reader.{Reader}
use Rattle.trace.specs.declared.records.Header.{Header}
use Rattle.trace.specs.declared.run.Played as code
use Rattle.trace.specs.declared.run.Stop.{Stop}
use Rattle.trace.proofs.ChipRefusals.{never}

pub same_stop : (s s' : Stop) → stop_met s ≡ stop_met s' → s ≡ s'
same_stop s s' e = rw (number_met_injective s.outcome s'.outcome (ap (λ r. r.number) e), ap (λ r. r.offset) e, ap (λ r. r.count) e)

same_play : {stated : Played Chip} (f f' : code.Played) (left left' : List ℕ) → played_of f left ≡ stated → played_of f' left' ≡ stated → (f ≡ f') × (left ≡ left')
unfolding played_of
same_play f f' left left' p q =
    let e = p ∙ sym q in
    (rw (same_stop f.stop f'.stop (ap (λ r. stop_of r.number r.offset r.count) e), ap (λ r. r.state.registers) e), ap (λ r. r.state.memory) e)

same_reader : (lent : Bor (List ℕ)) (at : ℕ) (q q' : Reader) → (q.trace ≡ lent) × (q.at ≡ at) → (q'.trace ≡ lent) × (q'.at ≡ at) → q ≡ q'
same_reader lent at q q' m m' =
    let one : q.trace ≡ q'.trace = m.0 ∙ sym m'.0 in
    let two : q.at ≡ q'.at = m.1 ∙ sym m'.1 in
    rw (one, two)

-- each kind has a number of its own
kind_of_number : ℕ → Kind
kind_of_number n = get_or (Kind.Commands ∷ Kind.Commands ∷ Kind.Writes ∷ Kind.Reads ∷ Kind.Reset ∷ []) n Kind.Commands

kind_told : (kind : Kind) → kind_of_number (number_of_kind kind) ≡ kind
unfolding kind_of_number
kind_told Kind.Commands = refl
kind_told Kind.Writes = refl
kind_told Kind.Reads = refl
kind_told Kind.Reset = refl

same_number : (one other : ℕ) → ◌≡◌ {A = Result (List Recorded)} (refuses one) (refuses other) → one ≡ other
same_number one other e = cc

-- a header names one kind, or is refused with one number: it has a payload of its length, whose events are not given and refused at once
same_named : (header : Header) (one other : std.Result Kind Refusal) → Named header one → Named header other → one ≡ other
same_named header one other p q = by (replicate header.length 0) (length-replicate header.length 0) one other p q
  where
    by : (payload : List ℕ) → length payload ≡ header.length → (one other : std.Result Kind Refusal) → Named header one → Named header other → one ≡ other
    by payload size (Ok one) (Ok other) p q = ap (λ k. Ok k) (told_from number_of_kind kind_of_number kind_told header.kind one other (sym p.0) (sym q.0))
    by payload size (Ok one) (Err other) p q = absurd (never (sym (p.1 payload size) ∙ q payload size))
    by payload size (Err one) (Ok other) p q = absurd (never (sym (q.1 payload size) ∙ p payload size))
    by payload size (Err one) (Err other) p q = ap (λ r. Err r) (number_of_refusal_injective one other (same_number _ _ (sym (p payload size) ∙ q payload size)))

pub settled : Settled
settled = record {
  «run::run» = λ state memory trace a b p q. let e = p ∙ sym q in rw (same_stop a.0 b.0 (ap (λ (o : Ran). o.stop) e), ap (λ (o : Ran). o.state) e, ap (λ (o : Ran). o.memory) e);
  «run::play» = λ registers memory trace a b p q. let e = same_play a.0 b.0 a.1 b.1 p q in rw (e.0, e.1);
  records::front_at = λ trace at. equation _;
  reader::read_at = λ trace at. equation _;
  «reader::new» = λ lent. same_reader lent 0;
  «reader::moved» = λ r at. same_reader r.trace at;
  «reader::next» = λ r. equation _;
  Kind::try_from = same_named;
  «Kind::obey» = λ self registers memory payload. with_memory _;
}
